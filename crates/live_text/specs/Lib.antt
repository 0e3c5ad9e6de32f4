pub mod Live
pub mod Totals
pub mod Written
