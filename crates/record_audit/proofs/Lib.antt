pub mod LiveIds
pub mod Laws
