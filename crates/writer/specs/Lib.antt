-- What the writer's code is held to, over `writer` of crate options.
pub mod Writer
-- Inside
pub mod Fill
