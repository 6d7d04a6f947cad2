-- What the row of a code is, as a number.
pub mod Rows
pub mod Words
