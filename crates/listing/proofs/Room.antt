-- No listing is longer than the buffer: a message has at most 712 options, and a line at most 22 bytes. Assumes nothing.
use mathlib.Core.Path.{refl}
use mathlib.Core.List.{List, [], ◌∷◌, ◌++◌}
use mathlib.Core.Logic.{inl, inr}
use Prim.Native.Nat.{ℕ, ◌*◌, ◌≤◌, ◌<◌}
use native.Mathlib.Omega.{arith}
use lib.ListN.{length, length-append}
use Rattle.options.specs.Message.{Opt, data_start, Standing, In}
use Rattle.options.specs.Answers.{line_of, lines_of, accepted_line, refused_line}
use Rattle.options.specs.KindClaims.{AllBytes}
use Rattle.options.specs.ReadingClaims.{IsAccepted}
use Rattle.theorems.proofs.Fields.{option_in_lem}
use Rattle.theorems.proofs.Reading.{listed_stands}
use Rattle.theorems.proofs.CodesPresent.{listed_small}
use Rattle.theorems.proofs.Lengths.{start_le, field_le, message_short, few_options}
use Rattle.text.proofs.Digits.{digits_within, digits_below}
use Rattle.listing.proofs.Lines.{line_size, accepted_size, refused_size}

line_short : (m : List ℕ) (o : Opt) → length m ≤ 1472 → Standing m o → o.item.tag < 256 → length (line_of o) ≤ 22
unfolding line_of
line_short m o l s t =
    let f = field_le o.field m in
    let z = start_le o.field in
    let i = option_in_lem s.stands.option in
    let n : ℕ = length o.item.body in
    omega (arith, line_size o.item.tag (data_start o) n o.field, digits_below 2 20 o.item.tag (omega arith), digits_below 3 20 (data_start o) (omega arith), digits_below 3 20 n (omega arith))

lines_short : (m : List ℕ) (os : List Opt) → length m ≤ 1472 → ((o : Opt) → In o os → Standing m o × (o.item.tag < 256)) → length (lines_of os) ≤ 22 * length os
unfolding lines_of
lines_short m [] l f = omega arith
lines_short m (o ∷ os) l f =
    rw length-append (omega (arith, line_short m o l (f o (inl refl)).0 (f o (inl refl)).1, lines_short m os l (λ q h. f q (inr h))))

pub accepted_short : (m : List ℕ) (a : IsAccepted m) (n : ℕ) → AllBytes m → length (accepted_line n ++ lines_of a.options) ≤ 16384
accepted_short m a n b =
    rw length-append
    (omega (
      arith,
      accepted_size n,
      digits_within 20 n,
      few_options m a,
      lines_short m a.options (message_short m a) (λ o h. (listed_stands a.reads o h, listed_small m a.reads b o h)),
    ))

pub refused_short : (n p : ℕ) → length (refused_line n p) ≤ 16384
refused_short n p = omega (arith, refused_size n p, digits_within 20 n, digits_within 20 p)
