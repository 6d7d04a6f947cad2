-- The index of a message holds, for each code, what its pieces say; and no other numbers do. Assumes nothing.
use mathlib.Core.Path.{◌≡◌, refl, sym, ap, ◌∙◌, subst}
use mathlib.Core.List.{List, [], ◌∷◌}
use mathlib.Core.Logic.{inl, inr}
use Prim.Native.Nat.{ℕ, zero, suc, ◌+◌, ◌≤◌, ◌<◌}
use native.Mathlib.Omega.{arith}
use lib.ListN.{length, get_or}
use lib.Seq.{ext_get_or}
use Rattle.options.specs.Message.{Opt, place, Holds, held_option, Earlier, In, PiecesOf, Standing}
use Rattle.options.specs.Reading.{accepted, read_message, pieces}
use Rattle.options.specs.ReadingClaims.{IsAccepted}
use Rattle.options.specs.Index.{entry_count, entry_of, entries_from, index_of}
use Rattle.options.specs.IndexClaims.{Entry, BuiltFrom, OneIndex, NoCodeNoEntry}
use Rattle.theorems.proofs.Reading.{not_both_earlier, held}
use Rattle.theorems.proofs.Pieces.{pieces_right, from_pieces, stands_once}
use Rattle.theorems.proofs.Lookup.{the_pieces}

-- ---- the entries of the definition

entries_length : (c n : ℕ) (os : List Opt) → length (entries_from c n os) ≡ n
unfolding entries_from
entries_length c zero os = refl
entries_length c (suc n) os = ap suc (entries_length (suc c) n os)

entries_at : (c n i : ℕ) (os : List Opt) → i < n → get_or (entries_from c n os) i 0 ≡ entry_of (pieces (c + i) os)
unfolding entries_from
entries_at c zero i os h = absurd (omega arith)
entries_at c (suc n) zero os h = let z : c ≡ c + 0 = omega arith in ap (λ (x : ℕ). entry_of (pieces x os)) z
entries_at c (suc n) (suc i) os h =
    let z : suc c + i ≡ c + suc i = omega arith in
    entries_at (suc c) n i os (omega arith) ∙ ap (λ (x : ℕ). entry_of (pieces x os)) z

pub index_length : (os : List Opt) → length (index_of os) ≡ 256
unfolding index_of
index_length os = entries_length 0 entry_count os

pub index_at : (os : List Opt) (c : ℕ) → c < 256 → get_or (index_of os) c 0 ≡ entry_of (pieces c os)
unfolding index_of
index_at os c h = entries_at 0 entry_count c os h ∙ ap (λ (x : ℕ). entry_of (pieces x os)) (let z : 0 + c ≡ c = omega arith in z)

-- ---- the entry that a code's pieces say

module _ {m : List ℕ} {c : ℕ} where
  held_in : (ps : List Opt) → PiecesOf m c ps → (h : Holds m c) → In (held_option h) ps
  held_in ps p h = (p.lists (held_option h)).1 (record { active = h.active; stands = h.stands }, refl)

  module _ (a : IsAccepted m) where
    piece_held : (ps : List Opt) → PiecesOf m c ps → (o : Opt) → In o ps → (h : Holds m c) × (held_option h ≡ o)
    piece_held ps p o i =
        let t = from_pieces c a.options o (subst (In o) (sym (the_pieces a p)) i) in
        held a c o t.0 t.1

  only : (o : Opt) → PiecesOf m c (o ∷ []) → (h : Holds m c) → held_option h ≡ o
  only o p h = go (held_in (o ∷ []) p h)
    where
      go : In (held_option h) (o ∷ []) → held_option h ≡ o
      go (inl e) = e
      go (inr x) = absurd x

  two_differ : (o q : Opt) (os : List Opt) → PiecesOf m c (o ∷ q ∷ os) → o ≡ q → ⊥
  two_differ o q os p e =
      let b : Earlier o q = p.in_order o q (inl (refl, inl refl)) in
      let b' : Earlier q q = subst (λ (x : Opt). Earlier x q) e b in
      not_both_earlier q q b' b'

  module _ (a : IsAccepted m) where
    pub entry_right : (ps : List Opt) → PiecesOf m c ps → Entry m c (entry_of ps)
    entry_right [] p = record { if_absent = λ n. refl; if_in_one = λ h u. absurd (held_in [] p h); if_in_pieces = λ h k n. absurd (held_in [] p h) }
    entry_right (o ∷ []) p =
        record {
          if_absent = λ n. absurd (n (piece_held a (o ∷ []) p o (inl refl)).0);
          if_in_one = λ h u. ap place (sym (only o p h));
          if_in_pieces = λ h k n. absurd (n (only o p h ∙ sym (only o p k)));
        }
    entry_right (o ∷ q ∷ os) p =
        record {
          if_absent = λ n. absurd (n (piece_held a (o ∷ q ∷ os) p o (inl refl)).0);
          if_in_one = λ h u.
              let x = piece_held a (o ∷ q ∷ os) p o (inl refl) in
              let y = piece_held a (o ∷ q ∷ os) p q (inr (inl refl)) in
              absurd (two_differ o q os p (sym x.1 ∙ u x.0 ∙ sym (u y.0) ∙ y.1));
          if_in_pieces = λ h k n. refl;
        }

    pub entry_only : (e : ℕ) (ps : List Opt) → PiecesOf m c ps → Entry m c e → e ≡ entry_of ps
    entry_only e [] p x = x.if_absent (held_in [] p)
    entry_only e (o ∷ []) p x =
        let y = piece_held a (o ∷ []) p o (inl refl) in
        x.if_in_one y.0 (λ k. only o p k ∙ sym y.1) ∙ ap place y.1
    entry_only e (o ∷ q ∷ os) p x =
        let y = piece_held a (o ∷ q ∷ os) p o (inl refl) in
        let z = piece_held a (o ∷ q ∷ os) p q (inr (inl refl)) in
        x.if_in_pieces y.0 z.0 (λ e. two_differ o q os p (sym y.1 ∙ e ∙ z.1))

-- "7 stays for a second 52": that code has one piece at most
pub only_52 : {m : List ℕ} (a : IsAccepted m) (o q : Opt) (ps : List Opt) → pieces 52 a.options ≡ o ∷ q ∷ ps → ⊥
only_52 {m} a o q ps e =
    let p = subst (PiecesOf m 52) e (pieces_right m a 52) in
    let x = piece_held a (o ∷ q ∷ ps) p o (inl refl) in
    let y = piece_held a (o ∷ q ∷ ps) p q (inr (inl refl)) in
    two_differ o q ps p (sym x.1 ∙ stands_once m a x.0 y.0 ∙ y.1)

-- ---- built from the same bytes

pub index_built : {m : List ℕ} (a : IsAccepted m) → BuiltFrom m (index_of a.options)
index_built {m} a =
    record {
      is_accepted = a;
      numbers = index_length a.options;
      entries = λ c h. subst (Entry m c) (sym (index_at a.options c h)) (entry_right a (pieces c a.options) (pieces_right m a c));
    }

pub built_entry : {m idx : List ℕ} (b : BuiltFrom m idx) (c : ℕ) → c < 256 → get_or idx c 0 ≡ entry_of (pieces c b.is_accepted.options)
built_entry {m} {idx} b c h =
    let a = b.is_accepted in
    entry_only a (get_or idx c 0) (pieces c a.options) (pieces_right m a c) (b.entries c h)

pub built_is : {m idx : List ℕ} (b : BuiltFrom m idx) → idx ≡ index_of b.is_accepted.options
built_is {m} {idx} b =
    let os = b.is_accepted.options in
    ext_get_or 0 idx (index_of os) (b.numbers ∙ sym (index_length os))
    (λ i h. let l : i < 256 = omega (arith, b.numbers) in built_entry b i l ∙ sym (index_at os i l))

same_options : {os ps : List Opt} → accepted os ≡ accepted ps → os ≡ ps
same_options e = cc

pub one_index : OneIndex
one_index m idx idx' a b =
    built_is a ∙ ap index_of (same_options (sym a.is_accepted.reads ∙ b.is_accepted.reads)) ∙ sym (built_is b)

pub no_code_no_entry : NoCodeNoEntry
no_code_no_entry m idx b = (
  (b.entries 0 (omega arith)).if_absent (λ h. h.stands.option.no_pad refl),
  (b.entries 255 (omega arith)).if_absent (λ h. h.stands.option.no_end refl),
)
