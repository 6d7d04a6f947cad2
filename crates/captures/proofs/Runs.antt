-- One run of bytes after another. Assumes nothing.
use Rattle.std.proofs.Common.{◌≡◌, ℕ, zero, suc, ◌+◌, ◌-◌, ◌*◌, ◌<◌, ◌≤◌, min, Bool, true, false, cond, eqb, ltb, ◌⊎◌, List, [], ◌∷◌, ◌++◌, length, get_or, take, drop, sym, refl, ap, ◌∙◌, subst, inl, inr, arith, length-drop, length-take, length-take-le, take_all, append_assoc, append-nil, ltb-true, eqb-true}
use Rattle.std.proofs.lemmas.List.{take-append-drop}
use Rattle.options.specs.Captures.{most_messages}
use Rattle.captures.specs.declared.Progress.{Progress}
use Rattle.captures.specs.Standing.{taken_value, tidied, Takes, Feeds, Whole, Fitting}
use Rattle.captures.proofs.Stages.{takes_then, takes_none}

one_byte : (xs : List ℕ) → length xs ≡ 1 → xs ≡ get_or xs 0 0 ∷ []
one_byte [] e = absurd (omega arith)
one_byte (x ∷ []) e = refl
one_byte (x ∷ y ∷ xs) e = absurd (omega arith)

pub takes_byte : (xs : List ℕ) → length xs ≡ 1 → {p q : Progress} {m m' v v' h h' b b' : List ℕ} → Takes (get_or xs 0 0 ∷ []) p m v h b q m' v' h' b' → Takes xs p m v h b q m' v' h' b'
takes_byte xs e {p} {q} {m} {m'} {v} {v'} {h} {h'} {b} {b'} t = subst (λ (ys : List ℕ). Takes ys p m v h b q m' v' h' b') (sym (one_byte xs e)) t

-- the record that bytes begin with
pub whole_record : (rest : List ℕ) (n k : ℕ) → 3 ≤ length rest → get_or rest 0 0 ≡ 1 → n ≡ get_or rest 1 0 * 256 + get_or rest 2 0 + 3 → n ≤ length rest → k < 1000000 → Whole k (take n rest)
whole_record [] n k l t e h few = absurd (omega arith)
whole_record (x ∷ []) n k l t e h few = absurd (omega arith)
whole_record (x ∷ y ∷ []) n k l t e h few = absurd (omega arith)
whole_record (x ∷ y ∷ z ∷ rest) zero k l t e h few = absurd (omega arith)
whole_record (x ∷ y ∷ z ∷ rest) (suc zero) k l t e h few = absurd (omega arith)
whole_record (x ∷ y ∷ z ∷ rest) (suc (suc zero)) k l t e h few = absurd (omega arith)
whole_record (x ∷ y ∷ z ∷ rest) (suc (suc (suc n))) k l t e h few =
    record { high = y; low = z; body = take n rest; is = ap (λ (c : ℕ). c ∷ y ∷ z ∷ take n rest) t; size = length-take-le n rest (omega arith) ∙ (omega arith); few = few }

-- a tag that is taken
pub taken_tag : (t m : ℕ) → taken_value t m ≡ true → (t ≡ 1) × (m < 1000000)
taken_tag t m q = by (eqb t 1) refl (ltb m most_messages) refl q
  where
    by : (x : Bool) → eqb t 1 ≡ x → (y : Bool) → ltb m most_messages ≡ y → cond x y false ≡ true → (t ≡ 1) × (m < 1000000)
    by true u true v z = (eqb-true t 1 u, ltb-true m most_messages v)
    by true u false v z = absurd (let y : ◌≡◌ {A = ℕ} 0 1 = cc in omega arith)
    by false u y v z = absurd (let w : ◌≡◌ {A = ℕ} 0 1 = cc in omega arith)

-- how many bytes are taken at once
pub fits_message : (p : Progress) (rest : List ℕ) (n : ℕ) → p.read < p.size → n ≡ min (p.size - p.read) (length rest) → 0 < length rest → (n ≤ length rest) × Fitting p (take n rest)
fits_message p rest n l e h =
    let z : n ≤ length rest = omega (arith, e) in
    let k : length (take n rest) ≡ n = length-take-le n rest z in
    (z, record { some = omega arith; of_message = λ _. omega (arith, e, k); of_head = λ q. absurd (omega arith) })

pub fits_head : (p : Progress) (rest : List ℕ) (n : ℕ) → p.size ≤ p.read → 0 < n → n ≤ length rest → (n ≡ 1) ⊎ ((p.stage ≡ 0) × Whole p.messages (take n rest))
    → (n ≤ length rest) × Fitting p (take n rest)
fits_head p rest n l h z w =
    let k : length (take n rest) ≡ n = length-take-le n rest z in
    (z, record { some = omega arith; of_message = λ q. absurd (omega arith); of_head = λ _. by k w })
  where
    by : length (take n rest) ≡ n → (n ≡ 1) ⊎ ((p.stage ≡ 0) × Whole p.messages (take n rest)) → (length (take n rest) ≡ 1) ⊎ ((p.stage ≡ 0) × Whole p.messages (take n rest))
    by k (inl e) = inl (k ∙ e)
    by k (inr e) = inr e

-- one byte, or a record
pub is_record : {p : Progress} {run : List ℕ} → Fitting p run → p.size ≤ p.read → 1 < length run → (p.stage ≡ 0) × Whole p.messages run
is_record {p} {run} f l h = by (f.of_head l)
  where
    by : (length run ≡ 1) ⊎ ((p.stage ≡ 0) × Whole p.messages run) → (p.stage ≡ 0) × Whole p.messages run
    by (inl e) = absurd (omega arith)
    by (inr w) = w

pub is_byte : {p : Progress} {run : List ℕ} → Fitting p run → p.size ≤ p.read → length run ≤ 1 → length run ≡ 1
is_byte f l h = omega (arith, f.some, h)

-- of the part the bytes before `rest` are taken
pub record Feeding (part : List ℕ) (p : Progress) (m₀ v₀ h₀ b₀ : List ℕ) (q : Progress) (m v h b rest : List ℕ) : Type 0 where
  pub done : List ℕ
  pub is : part ≡ done ++ rest
  pub taken : Takes done p m₀ v₀ h₀ b₀ q m v h b

pub feeding_first : (part : List ℕ) (p : Progress) (m v h b : List ℕ) → Feeding part p m v h b p m v h b part
feeding_first part p m v h b = record { done = []; is = refl; taken = takes_none {p = p} {m = m} {v = v} {h = h} {b = b} }

pub feeding_more : {part : List ℕ} {p : Progress} {m₀ v₀ h₀ b₀ : List ℕ} {q : Progress} {m v h b rest : List ℕ} → Feeding part p m₀ v₀ h₀ b₀ q m v h b rest
    → (n : ℕ) (r : Progress) (m' v' h' b' : List ℕ) → Takes (take n rest) q m v h b r m' v' h' b' → Feeding part p m₀ v₀ h₀ b₀ r m' v' h' b' (drop n rest)
feeding_more {rest = rest} s n r m' v' h' b' t =
    record {
      done = s.done ++ take n rest;
      is = s.is ∙ ap (λ (xs : List ℕ). s.done ++ xs) (sym (take-append-drop n rest)) ∙ sym (append_assoc s.done (take n rest) (drop n rest));
      taken = takes_then s.done (take n rest) s.taken t;
    }

pub feeding_done : {part : List ℕ} {q₀ : Progress} {m₀ v₀ h₀ b₀ : List ℕ} {q : Progress} {m v h b rest : List ℕ} → Feeding part q₀ m₀ v₀ h₀ b₀ q m v h b rest → length rest ≡ 0 → (p : Progress)
    → q₀ ≡ tidied p → Feeds part p m₀ v₀ h₀ b₀ q m v h b
feeding_done {part} {q₀} {m₀} {v₀} {h₀} {b₀} {q} {m} {v} {h} {b} {rest} s l p e =
    subst (λ (y : Progress). Takes part y m₀ v₀ h₀ b₀ q m v h b) e
    (subst (λ (xs : List ℕ). Takes xs q₀ m₀ v₀ h₀ b₀ q m v h b) (sym (s.is ∙ ap (λ (xs : List ℕ). s.done ++ xs) (none rest l) ∙ append-nil s.done)) s.taken)
  where
    none : (xs : List ℕ) → length xs ≡ 0 → xs ≡ []
    none [] e = refl
    none (x ∷ xs) e = absurd (omega arith)
