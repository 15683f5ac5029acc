-- The demands of the minutes, stated of the public entries.
pub mod Calls
pub mod OtherCalls
pub mod CallsInC
pub mod Demand1
pub mod Demand2
pub mod Demand3
