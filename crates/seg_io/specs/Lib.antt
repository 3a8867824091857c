pub mod Bytes
pub mod Desk
pub mod Piecing
pub mod InMemory
pub mod Reading
pub mod CallKinds
pub use Rattle.agglo_model.specs.Count
