-- The items of a group, and of a file
pub mod Laws
pub mod Files
-- For C
pub mod Numbers
