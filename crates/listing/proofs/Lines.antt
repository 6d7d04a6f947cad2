-- Lines put together from their parts, and how long they are. Assumes nothing.
use mathlib.Core.Path.{◌≡◌, refl, ap, ◌∙◌}
use mathlib.Core.List.{List, [], ◌∷◌, ◌++◌, append_assoc}
use Prim.Native.Nat.{ℕ, ◌+◌, ◌≤◌}
use native.Mathlib.Omega.{arith}
use lib.ListN.{length, length-append}
use Rattle.options.specs.Message.{Field, options, file, sname, start, Opt, opt}
use Rattle.options.specs.Answers.{decimal, blank, newline, field_name, accepted_word, refused_word, accepted_line, refused_line, line_of, lines_of}
use Rattle.std.specs.Prelude.{Some, None}
use Rattle.message.specs.Fields.{field_of}
use Rattle.cursor.specs.declared.Position.{Position}
use Rattle.cursor.specs.declared.Item.{Item}
use Rattle.cursor.specs.declared.Options.{Options}
use Rattle.cursor.specs.Cursor.{left, Step}
use Rattle.cursor.proofs.Steps.{Over, over_done, over_next, over_moved}
use Rattle.text.specs.Text.{Puts}
use Rattle.text.proofs.Putting.{Left, left_more, left_none}
use Rattle.listing.specs.Line.{line_text}

name_short : (fd : Field) → length (field_name fd) ≤ 7
name_short options = omega arith
name_short file = omega arith
name_short sname = omega arith

module _ (c s n : ℕ) (fd : Field) where
  pub line_made : ((((((decimal c ++ (blank ∷ [])) ++ decimal s) ++ (blank ∷ [])) ++ decimal n) ++ (blank ∷ [])) ++ field_name fd) ++ (newline ∷ []) ≡ line_text c s n fd
  line_made = simp append_assoc

  line_long : length (line_text c s n fd) ≡ length (decimal c) + length (decimal s) + length (decimal n) + length (field_name fd) + 4
  line_long = simp length-append (omega arith)

  pub line_size : length (line_text c s n fd) ≤ length (decimal c) + length (decimal s) + length (decimal n) + 11
  line_size = omega (arith, line_long, name_short fd)

module _ (n p : ℕ) where
  pub refused_made : (((refused_word ++ decimal n) ++ (blank ∷ [])) ++ decimal p) ++ (newline ∷ []) ≡ refused_line n p
  unfolding refused_line
  refused_made = simp append_assoc

  pub refused_size : length (refused_line n p) ≡ length (decimal n) + length (decimal p) + 10
  unfolding refused_line
  refused_size = simp length-append (omega arith)

pub accepted_made : (n : ℕ) → (accepted_word ++ decimal n) ++ (newline ∷ []) ≡ accepted_line n
unfolding accepted_line
accepted_made n = simp append_assoc

pub accepted_size : (n : ℕ) → length (accepted_line n) ≡ length (decimal n) + 10
unfolding accepted_line
accepted_size n = simp length-append (omega arith)

-- the lines of an option and those after it
lines_next : (fd : Field) (j c n : ℕ) (d : List ℕ) (os : List Opt) → length d ≡ n → lines_of (opt fd j c d ∷ os) ≡ line_text c (start fd + j + 2) n fd ++ lines_of os
unfolding lines_of line_of
lines_next fd j c n d os e = rw e refl

no_lines : (os : List Opt) → os ≡ [] → lines_of os ≡ []
unfolding lines_of
no_lines os e = rw e refl

-- what is left to put, at a turn
module _ (v : ℕ) (m : List ℕ) {b : List ℕ} {at : ℕ} {xs a : List ℕ} {o : ℕ} {s t : Options} (l : Left b at xs a o (lines_of (left v m s.at))) (g : Over v m s) where
  pub lines_done : Step s None t → Puts b at xs o a
  lines_done h = left_none l (no_lines (left v m s.at) (over_done g h))

  pub line_put : {x : Item} (h : Step s (Some x) t) {n k : ℕ} {d : List ℕ} → n ≡ start (field_of x.field) → Puts a o (line_text x.code (n + x.offset + 2) x.len (field_of x.field)) k d
      → Left b at xs d k (lines_of (left v m t.at))
  line_put {x} h z p =
      let y = over_next g h in
      left_more l _ _
      (ap lines_of y.is ∙ lines_next (field_of x.field) x.offset x.code x.len y.body _ y.size ∙ ap (λ (q : Position). line_text x.code (start (field_of x.field) + x.offset + 2) x.len (field_of x.field) ++ lines_of (left v m q)) (over_moved h))
      (rw z at p)
