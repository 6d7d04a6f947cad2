-- Names, items, and the file as a whole
pub mod Names
pub mod Laws
pub mod Files
