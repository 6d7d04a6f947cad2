-- A lookup through an index, case by case as the code has them. Assumes nothing.
use mathlib.Core.Path.{◌≡◌, refl, sym, ap, ◌∙◌}
use mathlib.Core.Bool.{Bool, true, false, cond}
use mathlib.Core.List.{List}
use Prim.Native.Nat.{ℕ}
use lib.Dec.{eqb, ltb}
use lib.ListN.{length, get_or, take, drop}
use borrow.Author.Tests.{eq-eqb, ne_eqb}
use Rattle.options.specs.Message.{cookie, shortest, longest}
use Rattle.options.specs.Reading.{refused, same, all_fields, read_message}
use Rattle.options.specs.Kinds.{kinds}
use Rattle.options.specs.Answers as asked
use Rattle.options.specs.Index.{head_or, used_entry, entry_answer, by_entry, lookup_by}
use Rattle.std.specs.Prelude.{Result, Ok, Err}
use Rattle.std.specs.Result.{is_err}
use Rattle.refusal.specs.declared.Refusal.{Refusal}
use Rattle.refusal.specs.Refused.{number_in}
use Rattle.index.proofs.Built.{rule_not}
use Rattle.message.specs.Judging.{unfit_of}
use Rattle.index.proofs.Heads.{head_count, head_fit, no_code_lem, code}

-- whether a message fits, by what the code asks
pub is_unfit : (r : Result (Unit {0}) Refusal) → true ≡ is_err r → number_in r ≡ 0 → ⊥
is_unfit (Ok x) h z = absurd (cc)
is_unfit (Err r) h z = rule_not r.rule z

pub is_fit : (r : Result (Unit {0}) Refusal) → false ≡ is_err r → number_in r ≡ 0
is_fit (Ok x) h = refl
is_fit (Err r) h = absurd (cc)

-- by the entry
module _ (set : ℕ → Bool) (m : List ℕ) (c e : ℕ) where
  of_nothing : e ≡ 0 → by_entry kinds set m c e ≡ asked.Absent
  unfolding by_entry
  of_nothing z = rw (eq-eqb e 0 z) refl

  of_pieces : (e ≡ 0 → ⊥) → e ≡ 65535 → by_entry kinds set m c e ≡ asked.lookup kinds set m c
  unfolding by_entry
  of_pieces z p = rw (ne_eqb e 0 z, eq-eqb e 65535 p) refl

  of_place : (e ≡ 0 → ⊥) → (e ≡ 65535 → ⊥) → by_entry kinds set m c e ≡ entry_answer kinds set c e (used_entry m c e)
  unfolding by_entry
  of_place z p = rw (ne_eqb e 0 z, ne_eqb e 65535 p) refl

module _ (set : ℕ → Bool) (m idx : List ℕ) (c : ℕ) where
  abbrev by : asked.Answer
  by = by_entry kinds set m c (get_or idx c 0)

  by_code : (b : Bool) → asked.no_code c ≡ b → lookup_by kinds set m idx c ≡ cond b (asked.Refused 10 0) (head_or asked.Refused m idx by)
  unfolding lookup_by
  by_code b e = ap (λ (x : Bool). cond x (asked.Refused 10 0) (head_or asked.Refused m idx by)) e

  pub of_zero : c ≡ 0 → lookup_by kinds set m idx c ≡ asked.Refused 10 0
  of_zero e = by_code true (rw (eq-eqb c 0 e) refl)

  pub of_end : (c ≡ 0 → ⊥) → c ≡ 255 → lookup_by kinds set m idx c ≡ asked.Refused 10 0
  of_end z e = by_code true (no_code_lem c z e)

  module _ (z : c ≡ 0 → ⊥) (e : c ≡ 255 → ⊥) where
    -- length and cookie are refused as the plain lookup refuses them
    unfit_read : (unfit_of m ≡ 0 → ⊥) → head_or asked.Refused m idx by ≡ asked.answered kinds set c (read_message m)
    unfolding read_message
    unfit_read h = go (ltb (length m) shortest) (ltb longest (length m)) (same (take 4 (drop 236 m)) cookie) h
      where
        go : (t u v : Bool) → (◌≡◌ {A = ℕ} (cond t 1 (cond u 2 (cond v 0 3))) 0 → ⊥)
            → cond t (asked.Refused 1 (length m)) (cond u (asked.Refused 2 (length m)) (cond v (cond (eqb (length idx) 256) by (asked.Refused 18 (length idx))) (asked.Refused 3 236)))
            ≡ asked.answered kinds set c (cond t (refused 1 (length m)) (cond u (refused 2 (length m)) (cond v (all_fields m) (refused 3 236))))
        go true u v f = refl
        go false true v f = refl
        go false false true f = absurd (f refl)
        go false false false f = refl

    plain_is : asked.lookup kinds set m c ≡ asked.answered kinds set c (read_message m)
    unfolding asked.lookup
    plain_is = ap (λ (x : Bool). cond x (asked.Refused 10 0) (asked.answered kinds set c (read_message m))) (code c z e)

    pub of_unfit : (unfit_of m ≡ 0 → ⊥) → lookup_by kinds set m idx c ≡ asked.lookup kinds set m c
    of_unfit h = by_code false (code c z e) ∙ unfit_read h ∙ sym plain_is

    pub of_count : unfit_of m ≡ 0 → (length idx ≡ 256 → ⊥) → lookup_by kinds set m idx c ≡ asked.Refused 18 (length idx)
    of_count h n = by_code false (code c z e) ∙ head_count asked.Refused m idx by h n

    of_entry : unfit_of m ≡ 0 → length idx ≡ 256 → lookup_by kinds set m idx c ≡ by
    of_entry h n = by_code false (code c z e) ∙ head_fit asked.Refused m idx by h n

    -- by the entry at k, which is the code
    module _ (f : unfit_of m ≡ 0) (n : length idx ≡ 256) (k : ℕ) (q : k ≡ c) where
      entered : lookup_by kinds set m idx c ≡ by_entry kinds set m c (get_or idx k 0)
      entered = of_entry f n ∙ ap (λ (j : ℕ). by_entry kinds set m c (get_or idx j 0)) (sym q)

      pub by_nothing : get_or idx k 0 ≡ 0 → lookup_by kinds set m idx c ≡ asked.Absent
      by_nothing a = entered ∙ of_nothing set m c (get_or idx k 0) a

      module _ (a : get_or idx k 0 ≡ 0 → ⊥) where
        pub by_pieces : get_or idx k 0 ≡ 65535 → lookup_by kinds set m idx c ≡ asked.lookup kinds set m c
        by_pieces p = entered ∙ of_pieces set m c (get_or idx k 0) a p

        pub by_place : (get_or idx k 0 ≡ 65535 → ⊥) → lookup_by kinds set m idx c ≡ entry_answer kinds set c (get_or idx k 0) (used_entry m c (get_or idx k 0))
        by_place p = entered ∙ of_place set m c (get_or idx k 0) a p
