-- The set of rules broken, as bits
pub mod Sets
-- The order of first pieces
pub mod Orders
-- The answer, and no other
pub mod Profiles
-- What the answer hangs on
pub mod Invariance
-- Cases, computed
pub mod ProfileCases
