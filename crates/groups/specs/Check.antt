-- A VERDICT ON A GROUPED FILE, as the code's cases, and as plain numbers for C. Assumes nothing.
use Rattle.std.specs.Prelude.{◌≡◌, List, ℕ, Result, Ok, Err}
use Rattle.options.specs.KindClaims.{AllBytes}
use Rattle.options.specs.Answers.{Verdict, passed, refused_with}
use Rattle.options.specs.Grouped.{check}
use Rattle.refusal.specs.declared.Refusal.{Refusal}
use Rattle.refusal.specs.Refused.{number_of}
use Rattle.groups.specs.declared.PlainChecked.{PlainChecked}

-- a verdict, as the code's cases
pub data Checked : Type 0 where
  Passed : Checked
  Refused : (number place : ℕ) → Checked

-- passed, or "number and place"
abbrev pub checked_of : Verdict → Checked
checked_of passed = Passed
checked_of (refused_with n p) = Refused n p

-- and back
abbrev pub verdict_of : Checked → Verdict
verdict_of Passed = passed
verdict_of (Refused n p) = refused_with n p

-- the same as the code gives it
abbrev pub checked_by : {A : Type 0} → Result A Refusal → Checked
checked_by (Ok x) = Passed
checked_by (Err r) = Refused (number_of r.rule) r.place

-- and its verdict
abbrev pub verdict_by : {A : Type 0} → Result A Refusal → Verdict
verdict_by c = verdict_of (checked_by c)

-- nothing is lost either way (proved in proofs/Laws)
abbrev pub VerdictsComeBack : Type 0
VerdictsComeBack = ((v : Verdict) → verdict_of (checked_of v) ≡ v) × ((c : Checked) → checked_of (verdict_of c) ≡ c)

-- nor of what the code gives: the verdict tells its answer, and each verdict on a file of bytes is one that it can give (proved in proofs/Laws and Numbers)
abbrev pub AnswersComeBack : Type 0
AnswersComeBack =
    ((c d : Result (Unit {0}) Refusal) → verdict_by c ≡ verdict_by d → c ≡ d)
    × ((f : List ℕ) → AllBytes f → (c : Result (Unit {0}) Refusal) × (verdict_by c ≡ check f))

-- for C: no fault, or number and place of a refusal
abbrev pub plain_checked : Verdict → PlainChecked
plain_checked passed = record { refusal = 0; place = 0 }
plain_checked (refused_with n p) = record { refusal = n; place = p }

-- no refusal has number 0, so that 0 can stand for none; of a file of bytes
abbrev pub CheckKept : Type 0
CheckKept = (f : List ℕ) (n p : ℕ) → AllBytes f → check f ≡ refused_with n p → n ≡ 0 → ⊥

-- each case with its own numbers, in the code and for C
abbrev pub CheckedByCase : Type 0
CheckedByCase =
    (checked_of passed ≡ Passed) × (plain_checked passed ≡ record { refusal = 0; place = 0 })
    × ((n p : ℕ) → (checked_of (refused_with n p) ≡ Refused n p) × (plain_checked (refused_with n p) ≡ record { refusal = n; place = p }))

-- each case of what the code gives
abbrev pub AnswersByCase : Type 0
AnswersByCase =
    ((x : Unit {0}) → (checked_by (Ok x) ≡ Passed) × (verdict_by (Ok x) ≡ passed))
    × ((r : Refusal) → (checked_by {A = Unit {0}} (Err r) ≡ Refused (number_of r.rule) r.place) × (verdict_by {A = Unit {0}} (Err r) ≡ refused_with (number_of r.rule) r.place))
