pub mod Rows
pub mod Told
pub mod RoundTrips
pub mod Laws
