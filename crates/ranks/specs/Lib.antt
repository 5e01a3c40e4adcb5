pub mod Packs
pub mod Judges
