-- A place or another number, where 0 stands for none. Assumes nothing.
use Rattle.std.specs.Prelude.{cond, ℕ, eqb, Option, Some, None}

abbrev pub unless_0 : ℕ → Option ℕ
unless_0 n = cond (eqb n 0) None (Some n)
