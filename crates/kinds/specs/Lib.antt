-- What the code of the kinds is held to, beside the definitions of crate options.
pub mod Numbers
pub mod Parts
pub mod Named
