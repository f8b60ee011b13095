pub mod Results
pub mod Taking
pub mod Ending
pub mod Machines
pub mod Going
pub mod Measure
pub mod Telling
