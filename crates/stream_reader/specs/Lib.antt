pub mod Cut
pub mod Notes
pub mod Room
pub mod Stream
pub mod Run
pub mod First
