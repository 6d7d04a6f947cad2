-- What the code of routes in data is held to, beside the definitions of crate options.
pub mod Route
