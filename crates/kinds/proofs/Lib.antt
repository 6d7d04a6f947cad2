-- Laws that the proofs of the functions share.
pub mod ByKind
mod Entries
mod Names
pub mod Numbering
pub mod High
mod Rules
pub mod Walks
