-- The walk: the steps give the routes that stand
pub mod Steps
-- The writer: the first faulty route, what is given, and that it walks back
pub mod Faulty
pub mod Written
-- The call on 3 and 33
pub mod Ignored
-- Room enough, and which numbers the calls give
pub mod Numbers
-- The table of cases
pub mod Cases
