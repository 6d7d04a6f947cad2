-- The bytes of records and of sub-options
pub mod Bytes
-- Reading: the sub-options that fill the bytes, the ids, and the row of 82
pub mod Subs
pub mod Ids
pub mod Reading
pub mod Row
pub mod Rowless
pub mod Alike
-- Writing: the rows, what is given, that it comes back and keeps the row
pub mod Rows
pub mod Writing
-- Room enough, and the numbers given
pub mod Numbers
-- Cases, computed
pub mod RelayCases
