-- THE GROUPED FILE (document 02, request 08), by relations: nothing here walks or parses. Assumes nothing.
-- A file is the list of its bytes, and a place in it counts from its first byte.
use Rattle.std.specs.Prelude.{◌≡◌, List, [], ◌∷◌, ◌++◌, ◌⊎◌, ◌↔◌, ℕ, suc, ◌+◌, ◌≤◌, ◌<◌, length}
use Rattle.options.specs.Message.{Rec}
use Rattle.options.specs.Refusals.{When, Before}
use Rattle.options.specs.Sheet.{RecordAt}
use Rattle.options.specs.SheetRefusals.{RecordBeyond}

-- ---- Records and groups

-- [G2] a record or a group, which has the form of a record: the bytes bs begin with the tag c, a two-byte length and the bytes d of that length; `after` follows
pub record Item (bs : List ℕ) (c : ℕ) (d after : List ℕ) : Type 0 where
  pub whole : RecordAt bs 0 c d
  pub behind : whole.after ≡ after

-- [G2] "one byte n, n bytes of class name, then records and groups mixed": what a group's length counts
abbrev pub group_data : List ℕ → List ℕ → List ℕ
group_data name members = length name ∷ (name ++ members)

-- [G2] "a group is tag 0, two-byte length, then one byte n, n bytes of class name, then records and groups mixed"
abbrev pub Group : List ℕ → List ℕ → List ℕ → List ℕ → Type 0
Group bs name members after = Item bs 0 (group_data name members) after

-- [G2, G3] `Place f names p bs`: place p of the file f is one where an item may begin. `names` are the names of the groups around it, the innermost first,
-- and bs is what is left, from p on, of the innermost of them (of the file, where there is none): the item's surroundings.
-- Such places are the file's first one, the first behind a group's name, and the one behind a whole record or group within a group: items stand end to end.
pub data Place (f : List ℕ) : List (List ℕ) → ℕ → List ℕ → Type 0 where
  file_start : Place f [] 0 f
  in_group : {names : List (List ℕ)} {p : ℕ} {bs name members after : List ℕ} → Place f names p bs → Group bs name members after
      → Place f (name ∷ names) (p + 4 + length name) members
  after_item : {names : List (List ℕ)} {p c : ℕ} {bs name d after : List ℕ} → Place f (name ∷ names) p bs → Item bs c d after
      → Place f (name ∷ names) (p + 3 + length d) after

-- ---- What is refused, over the whole file

-- [R20] "a group or record that doesn't fit its surroundings": as a record beyond a sheet, its length or its data run past them
abbrev pub Unfit : List ℕ → Type 0
Unfit bs = RecordBeyond bs 0

-- [R20] "a group too short for n and name"
abbrev pub TooShort : List ℕ → Type 0
TooShort d = (d ≡ []) ⊎ ((n : ℕ) × (r : List ℕ) × (d ≡ n ∷ r) × (length r < n))

-- [G8] `Faulty names bs n rank`: row n applies to the item at a place with these surroundings; "each at its tag, in this order" (20, 10, 21) is the rank
pub data Faulty (names : List (List ℕ)) (bs : List ℕ) : ℕ → ℕ → Type 0 where
  unfit : Unfit bs → Faulty names bs 20 0
  too_short : {d after : List ℕ} → Item bs 0 d after → TooShort d → Faulty names bs 20 0
  -- [R10] "10 for tag 52 or 255"
  wrong_tag : {c : ℕ} {r : List ℕ} → bs ≡ c ∷ r → (c ≡ 52) ⊎ (c ≡ 255) → Faulty names bs 10 1
  -- [G3, R21] "four deep counting the outermost"; "21 for a fifth depth": a group with four around it
  fifth_depth : {d after : List ℕ} → Item bs 0 d after → suc (length names) ≡ 5 → Faulty names bs 21 2

-- the place of a refusal in the order of refusals: the step, the place that it names, the rank there
abbrev pub at : ℕ → ℕ → ℕ → When
at step place rank = record { part = step; offset = place; number = rank }

-- [G8] `FileRow f n p w`: row n applies to the file, with the place p; it comes at w
pub data FileRow (f : List ℕ) : ℕ → ℕ → When → Type 0 where
  -- [R16] "after 16 (over 4,100 bytes)"
  row_16 : 4100 < length f → FileRow f 16 (length f) (at 1 (length f) 0)
  -- [G1, R20] "20 also at 0 for an empty file or a first tag other than 0"
  when_no_group : (f ≡ []) ⊎ ((c : ℕ) × (r : List ℕ) × (f ≡ c ∷ r) × (c ≡ 0 → ⊥)) → FileRow f 20 0 (at 2 0 0)
  -- "over the whole file in written order": by the place, in groups that are not entered too
  faulty : {names : List (List ℕ)} {p n rank : ℕ} {bs : List ℕ} → Place f names p bs → Faulty names bs n rank → FileRow f n p (at 2 p rank)
  -- [G1, R20] "and at the first byte after the outermost group"
  behind : {x : ℕ} {d after : List ℕ} → Item f 0 d (x ∷ after) → FileRow f 20 (3 + length d) (at 3 (3 + length d) 0)

-- [R0] Row n applies at p, and no row that applies comes before it: whatever the rows
pub record FirstOf (R : ℕ → ℕ → When → Type 0) (n p : ℕ) : Type 0 where
  pub when : When
  pub applies : R n p when
  pub none_before : (k q : ℕ) (w : When) → R k q w → Before w when → ⊥

abbrev pub NoneOf : (ℕ → ℕ → When → Type 0) → Type 0
NoneOf R = (n p : ℕ) (w : When) → R n p w → ⊥

-- ---- What is chosen for a class

-- a record with the place of its tag
pub record Placed : Type 0 where
  pub place : ℕ
  pub item : Rec

-- [G4] "whose name is empty or equals the class", of each group around
abbrev pub Reached : List ℕ → List (List ℕ) → Type 0
Reached class [] = Unit {0}
Reached class (name ∷ names) = ((name ≡ []) ⊎ (name ≡ class)) × Reached class names

-- [G4] "the records .. of each group reached .., not entering the others": in a group of this name, with groups of these names around it
pub record Chosen (f class : List ℕ) (r : Placed) : Type 0 where
  pub name : List ℕ
  pub names : List (List ℕ)
  pub bytes : List ℕ
  pub after : List ℕ
  pub stands : Place f (name ∷ names) r.place bytes
  pub whole : Item bytes r.item.tag r.item.body after
  pub is_record : r.item.tag ≡ 0 → ⊥
  pub reached : Reached class (name ∷ names)

abbrev pub Among : Placed → List Placed → Type 0
Among r [] = ⊥
Among r (x ∷ xs) = (r ≡ x) ⊎ Among r xs

-- [G4] "in written order": none is at a place below `from`, and each is behind the one before it
abbrev pub Rising : ℕ → List Placed → Type 0
Rising from [] = Unit {0}
Rising from (r ∷ rs) = (from ≤ r.place) × Rising (suc r.place) rs

-- all that is chosen, each once, in written order
pub record ChosenList (f class : List ℕ) (rs : List Placed) : Type 0 where
  pub lists : (r : Placed) → Among r rs ↔ Chosen f class r
  pub in_order : Rising 0 rs

abbrev pub items_of : List Placed → List Rec
items_of [] = []
items_of (r ∷ rs) = r.item ∷ items_of rs

-- ---- The way back

-- [G6] "it is one nameless group with no group inside"; s are the bytes inside
pub record Plain (f s : List ℕ) : Type 0 where
  pub nameless : Group f [] s []
  pub no_group_inside : (name : List ℕ) (names : List (List ℕ)) (p : ℕ) (bs d after : List ℕ) → Place f (name ∷ names) p bs → Item bs 0 d after → ⊥
