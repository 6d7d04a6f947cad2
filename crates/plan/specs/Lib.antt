-- What the choice of a plan is held to, over `writer` of crate options.
pub mod Answer
pub mod Pieces
-- Inside
pub mod Steps
