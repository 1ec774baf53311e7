pub mod Deciding
pub mod Rooms
