pub mod Calendar
pub mod Instants
pub mod Dates
