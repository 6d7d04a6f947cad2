-- What the functions below `group` and `ungroup` are held to; their own contracts rest on crate options
pub mod Parts
