-- What the writer's functions judge: no public contract rests on this. Assumes nothing.
use Rattle.std.specs.Prelude.{Bool, true, List, [], ◌∷◌, ℕ, Result, Ok, Err}
use Rattle.std.proofs.Math.Option.{Option, none, some}
use Rattle.options.specs.Routes.{is_faulty_value}
use Rattle.refusal.specs.declared.Refusal.{Refusal}
use Rattle.refusal.specs.declared.Rule.TheVariants.{BadRoute}

-- the route that a list begins with
abbrev pub faulty_at : List ℕ → Bool
faulty_at [] = true
faulty_at (w ∷ xs) = is_faulty_value w xs

-- 26 at the first faulty route's number, or the size
abbrev pub measured : Option ℕ → ℕ → Result ℕ Refusal
measured (some k) n = Err (record { rule = BadRoute; place = k })
measured none n = Ok n
