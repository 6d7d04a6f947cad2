-- An entry is used exactly where it is usable. Assumes nothing.
use mathlib.Core.Path.{◌≡◌, refl, sym, ap, ap₂, ◌∙◌, subst}
use mathlib.Core.List.{List, [], ◌∷◌, ◌++◌}
use mathlib.Core.Bool.{Bool, true, false, cond}
use mathlib.Core.Option.{Option, none, some}
use Prim.Native.Nat.{ℕ, zero, suc, ◌+◌, ◌-◌, ◌≤◌, ◌<◌}
use native.Mathlib.Omega.{arith}
use lib.ListN.{length, get_or, take, drop, length-append, length-take, length-drop, take-append-drop}
use lib.Seq.{take-append_seam, length-take-le}
use lib.Dec.{ltb, eqb}
use borrow.Author.Tests.{ltb-false, lt-ltb, le-ltb, eqb-true, eq-eqb}
use Rattle.options.specs.Message.{Field, options, file, sname, start, bytes, Opt, opt}
use Rattle.options.specs.Reading.{cut, record_of}
use Rattle.theorems.proofs.View.{clash}
use Rattle.options.specs.Index.{field_at, option_in, option_at, used_entry}
use Rattle.options.specs.IndexClaims.{Usable}

-- an offset at which a field has a byte
offset_in : (f : List ℕ) (i x : ℕ) (xs : List ℕ) → drop i f ≡ x ∷ xs → i < length f
offset_in f i x xs e = let z : length (drop i f) ≡ suc (length xs) = ap length e in omega (arith, length-drop i f)

-- the field of a place in it
pub field_of : (m : List ℕ) (fd : Field) (i : ℕ) → i < length (bytes fd m) → field_at (length m) (start fd + i) ≡ some fd
field_of m options i h =
    let l : 240 + i < length m = omega (arith, length-drop 240 m) in
    rw (le-ltb (240 + i) 44 (omega arith), le-ltb (240 + i) 108 (omega arith), le-ltb (240 + i) 236 (omega arith), le-ltb (240 + i) 240 (omega arith), lt-ltb (240 + i) (length m) l)
field_of m file i h =
    let l : i < 128 = omega (arith, length-take 128 (drop 108 m)) in
    rw (le-ltb (108 + i) 44 (omega arith), le-ltb (108 + i) 108 (omega arith), lt-ltb (108 + i) 236 (omega arith))
field_of m sname i h =
    let l : i < 64 = omega (arith, length-take 64 (drop 44 m)) in
    rw (le-ltb (44 + i) 44 (omega arith), lt-ltb (44 + i) 108 (omega arith))

same_field : {a b : Field} → some a ≡ some b → a ≡ b
same_field e = cc

of_field : (n e : ℕ) (fd : Field) → field_at n e ≡ some fd → start fd ≤ e
of_field n e fd = go (ltb e 44) (ltb e 108) (ltb e 236) (ltb e 240) (ltb e n) refl refl refl refl
  where
    go : (a b c d f : Bool) → ltb e 44 ≡ a → ltb e 108 ≡ b → ltb e 236 ≡ c → ltb e 240 ≡ d
        → cond a none (cond b (some sname) (cond c (some file) (cond d none (cond f (some options) none)))) ≡ some fd → start fd ≤ e
    go true b c d f p q s t z = clash (cc)
    go false true c d f p q s t z = rw (sym (same_field z)) (ltb-false e 44 p)
    go false false true d f p q s t z = rw (sym (same_field z)) (ltb-false e 108 q)
    go false false false true f p q s t z = clash (cc)
    go false false false false true p q s t z = rw (sym (same_field z)) (ltb-false e 240 t)
    go false false false false false p q s t z = clash (cc)

module _ (m : List ℕ) (c e : ℕ) where
  pub usable_used : (u : Usable m c e) → used_entry m c e ≡ some (opt u.field u.offset c u.body)
  unfolding used_entry
  usable_used u =
      let f : field_at (length m) e ≡ some u.field = ap (field_at (length m)) u.lies ∙ field_of m u.field u.offset (offset_in (bytes u.field m) u.offset c (length u.body ∷ (u.body ++ u.after)) u.reads) in
      let i : e - start u.field ≡ u.offset = omega (arith, u.lies) in
      let l : ltb (length (u.body ++ u.after)) (length u.body) ≡ false = le-ltb (length (u.body ++ u.after)) (length u.body) (omega (arith, length-append u.body u.after)) in
      rw (f, i, u.reads, eq-eqb c c refl, l, take-append_seam u.body u.after)

  pub used_usable : (o : Opt) → used_entry m c e ≡ some o → (u : Usable m c e) × (opt u.field u.offset c u.body ≡ o)
  unfolding used_entry
  used_usable o z = at (field_at (length m) e) refl z
    where
      same_some : {a b : Opt} → some a ≡ some b → a ≡ b
      same_some e = cc

      from : (fd : Field) → start fd ≤ e → (xs : List ℕ) → drop (e - start fd) (bytes fd m) ≡ xs → option_in c fd (e - start fd) xs ≡ some o
          → (u : Usable m c e) × (opt u.field u.offset c u.body ≡ o)
      from fd s [] q z = clash (cc)
      from fd s (b ∷ []) q z = code (eqb b c) z
        where
          code : (t : Bool) → cond t (cond true none (some (record { field = fd; offset = e - start fd; item = record_of b [] }))) none ≡ some o → (u : Usable m c e) × (opt u.field u.offset c u.body ≡ o)
          code true z = clash (cc)
          code false z = clash (cc)
      from fd s (b ∷ n ∷ ds) q z = code (eqb b c) (ltb (length ds) n) refl refl z
        where
          code : (t w : Bool) → eqb b c ≡ t → ltb (length ds) n ≡ w → cond t (cond w none (some (record { field = fd; offset = e - start fd; item = record_of b (n ∷ ds) }))) none ≡ some o
              → (u : Usable m c e) × (opt u.field u.offset c u.body ≡ o)
          code true true x y z = clash (cc)
          code true false x y z =
              let k : length (take n ds) ≡ n = length-take-le n ds (ltb-false (length ds) n y) in (
                record {
                  field = fd;
                  offset = e - start fd;
                  body = take n ds;
                  after = drop n ds;
                  lies = omega arith;
                  reads = q ∙ ap (λ (a : ℕ). a ∷ n ∷ ds) (eqb-true b c x) ∙ ap₂ (λ (a : ℕ) (l : List ℕ). c ∷ a ∷ l) (sym k) (sym (take-append-drop n ds));
                },
                ap (λ (a : ℕ). opt fd (e - start fd) a (take n ds)) (sym (eqb-true b c x)) ∙ same_some z,
              )
          code false w x y z = clash (cc)

      at : (w : Option Field) → field_at (length m) e ≡ w → option_at m c e w ≡ some o → (u : Usable m c e) × (opt u.field u.offset c u.body ≡ o)
      at none q z = clash (cc)
      at (some fd) q z = from fd (of_field (length m) e fd q) (drop (e - start fd) (bytes fd m)) refl z
