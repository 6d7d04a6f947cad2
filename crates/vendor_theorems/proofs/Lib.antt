-- Reading: the items that stand in the bytes
pub mod Items
-- Writing: the rows, what is given, and that it comes back
pub mod Rows
pub mod Writing
-- Room enough, and which numbers
pub mod Numbers
-- Cases, computed
pub mod VendorCases
