-- Each demand, proved by what stands below: a reader of the minutes finds every sentence here.
pub mod Given
pub mod Demand1
pub mod Demand1InC
pub mod Demand2
pub mod Demand3
pub mod Fixed
pub mod FixedOthers
pub mod FixedInC
pub mod Shown
