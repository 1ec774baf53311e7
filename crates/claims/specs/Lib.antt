pub mod Trace
pub mod ClockRule
pub mod Resting
pub mod Hearing
pub mod Clauses
pub mod PlainTerms
pub mod Throughout
