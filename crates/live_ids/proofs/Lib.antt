pub mod FirstFree
