-- Every accepted step is made of such changes, a file for each family of steps.
pub mod Shared
pub mod Stations
pub mod Life
pub mod Open
pub mod Mail
pub mod Close
pub mod Invoke
pub mod Deliver
