-- A written field and a written message, read
pub mod Encode
pub mod Written
-- The sheet: its walk, its records, their pieces, and the rows of the table that concern a record
pub mod SheetView
pub mod Ruled
pub mod Splitting
pub mod Joining
pub mod SheetLaws
pub mod SheetSteps
pub mod PieceSteps
pub mod SheetRows
pub mod SheetOrder
-- The return of the sheet, and demand 3
pub mod Demand
pub mod IndexedDemand
-- The plans, and what a field takes
pub mod Plans
-- What is permitted and what is tried
pub mod Tries
-- What the writer leaves, when it refuses, and that no other writer is right
pub mod Writer
pub mod Declined
pub mod WriterOnly
pub mod Options
-- Where no cutting of the pieces holds them, there is no room
pub mod Cuttings
pub mod Room
-- The writer over any list of plans
pub mod Trying
-- Cases of long records, computed
pub mod LongRecords
