pub mod OrderNumbers
pub use Rattle.agglo_model.specs.PairOrder
