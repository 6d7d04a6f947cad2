-- What the functions below `choose` are held to; its own contract rests on crate options
pub mod Parts
