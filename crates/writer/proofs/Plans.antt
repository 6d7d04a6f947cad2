-- The fields of a plan, filled one after the other, are the buffer that the plan leaves. Assumes nothing.
use mathlib.Core.Path.{◌≡◌, refl, sym, ap, ap₂, ◌∙◌}
use mathlib.Core.List.{List, ◌++◌}
use mathlib.Core.Bool.{Bool, true, false, cond}
use Prim.Native.Nat.{ℕ, ◌-◌, ◌<◌}
use native.Mathlib.Omega.{arith}
use lib.ListN.{length, take, drop, length-drop}
use lib.Seq.{length-take-le}
use Rattle.options.specs.Message.{Rec, cookie}
use Rattle.options.specs.Reading.{file_in, sname_in}
use Rattle.options.specs.Writing.{fits, field_bytes_value, with52, fits_if, field_if, in_options, past_options, in_file, past_file, in_sname, written}
use Rattle.writer.specs.Fill.{filled}
use Rattle.writer.proofs.Filling.{not_none}

when_options_field : (p n : ℕ) (rs : List Rec) → 0 < n → filled n (with52 p rs) ≡ field_bytes_value n (in_options p n rs)
unfolding in_options
when_options_field p n rs h = not_none n (with52 p rs) h

further_field : (used : Bool) (k : ℕ) (old : List ℕ) (rs : List Rec) → length old ≡ k → 0 < k → cond used (filled k rs) old ≡ field_if used old (take (fits_if used k rs) rs)
further_field true k old rs e h = not_none k rs h ∙ ap (λ (n : ℕ). field_bytes_value n (take (fits k rs) rs)) (sym e)
further_field false k old rs e h = refl

-- the buffer, once each field that the plan uses was filled with what the one before left over: `os` after options, `fs` after file
module _ (p : ℕ) (m : List ℕ) (rs : List Rec) (h : 240 < length m) (os fs : List Rec) (o : os ≡ past_options p (length m - 240) rs) (f : fs ≡ drop (fits_if (file_in p) 128 os) os) where
  after_file : fs ≡ past_file p (length m - 240) rs
  unfolding past_file
  after_file = f ∙ ap (λ (ts : List Rec). drop (fits_if (file_in p) 128 ts) ts) o

  pub plan_written :
      take 44 m
      ++ (cond (sname_in p) (filled 64 fs) (take 64 (drop 44 m))
      ++ (cond (file_in p) (filled 128 os) (take 128 (drop 108 m))
      ++ (cookie ++ filled (length m - 240) (with52 p rs))))
      ≡ written p m rs
  unfolding written in_file in_sname
  plan_written =
      let when_in_options : filled (length m - 240) (with52 p rs) ≡ field_bytes_value (length m - 240) (in_options p (length m - 240) rs) = when_options_field p (length m - 240) rs (omega arith) in
      let when_in_file : cond (file_in p) (filled 128 os) (take 128 (drop 108 m)) ≡ field_if (file_in p) (take 128 (drop 108 m)) (in_file p (length m - 240) rs) =
      further_field (file_in p) 128 (take 128 (drop 108 m)) os (length-take-le 128 (drop 108 m) (omega (arith, length-drop 108 m))) (omega arith)
      ∙ ap (λ (ts : List Rec). field_if (file_in p) (take 128 (drop 108 m)) (take (fits_if (file_in p) 128 ts) ts)) o in
      let when_in_sname : cond (sname_in p) (filled 64 fs) (take 64 (drop 44 m)) ≡ field_if (sname_in p) (take 64 (drop 44 m)) (in_sname p (length m - 240) rs) =
      further_field (sname_in p) 64 (take 64 (drop 44 m)) fs (length-take-le 64 (drop 44 m) (omega (arith, length-drop 44 m))) (omega arith)
      ∙ ap (λ (ts : List Rec). field_if (sname_in p) (take 64 (drop 44 m)) (take (fits_if (sname_in p) 64 ts) ts)) after_file in
      ap (λ (l : List ℕ). take 44 m ++ l) (ap₂ (λ (x y : List ℕ). x ++ y) when_in_sname (ap₂ (λ (x y : List ℕ). x ++ (cookie ++ y)) when_in_file when_in_options))
