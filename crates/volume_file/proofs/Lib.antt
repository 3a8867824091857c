pub mod Header
pub mod BodyPieces
pub mod Whole
pub mod Lanes
pub mod GeneratedPuts
pub mod Rounds
