pub mod EarLemmas
pub mod HalfLemmas
pub mod HeardLemmas
pub mod NoneLostLemmas
pub mod RunLemmas
pub mod StartLemmas
