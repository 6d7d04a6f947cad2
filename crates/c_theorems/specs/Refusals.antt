-- DEMAND 1 AT THE CALLS THAT C LINKS: "A call is refused exactly when a row that concerns it applies. Every refusal gives number and place and changes no byte lent to the
-- call" (document 01). Of each call: r is the struct that its contract gives, `after` what it leaves in the lent buffer `old`. Assumes nothing.
use Rattle.std.specs.Prelude.{◌≡◌, List, [], ◌∷◌, Bool, ◌↔◌, ℕ, ◌≤◌, ◌<◌, length}
use Rattle.options.specs.Kinds.{kinds}
use Rattle.options.specs.KindClaims.{AllBytes}
use Rattle.options.specs.CodeSet.{marked}
use Rattle.options.specs.Refusals.{First}
use Rattle.options.specs.Answers.{Refused, lookup, data_of, text_of, present, declined, Filled, records, copy}
use Rattle.options.specs.ReadingClaims.{IsAccepted, ReaderRow, LookupRow}
use Rattle.options.specs.AnswerClaims.{records_of, CopyRow}
use Rattle.options.specs.Vendor.{vendor_records_value, vendor_write_value}
use Rattle.options.specs.VendorClaims.{ReadsItems, WritesItems}
use Rattle.options.specs.Index.{build, lookup_by}
use Rattle.options.specs.IndexClaims.{Builds, BuiltFrom}
use Rattle.options.specs.IndexClaims as indexed
use Rattle.options.specs.Writing.{writer, buffer_after}
use Rattle.options.specs.WriterClaims.{FirstWriteRow, EarlierPassed, NoCutting, LowestCutting}
use Rattle.options.specs.GroupedFile.{FileRow, FirstOf}
use Rattle.options.specs.Grouped.{check, choice, move, go_back}
use Rattle.options.specs.GroupedClaims.{ChoiceRow, MoveRow, BackRow}
use Rattle.options.specs.Profile.{profile}
use Rattle.options.specs.ProfileClaims.{Reply}
use Rattle.filled.specs.Plain.{plain_filled}
use Rattle.filled.specs.declared.PlainFilled.{PlainFilled}
use Rattle.groups.specs.Check.{plain_checked}
use Rattle.groups.specs.declared.PlainChecked.{PlainChecked}
use Rattle.dhcpopt_reader.specs.Plain.{plain_answer, plain_extent, plain_codes}
use Rattle.dhcpopt_reader.specs.declared.PlainAnswer.{PlainAnswer}
use Rattle.dhcpopt_reader.specs.declared.PlainExtent.{PlainExtent}
use Rattle.dhcpopt_reader.specs.declared.PlainCodes.{PlainCodes}
use Rattle.dhcpopt_profile.specs.Plain.{plain_profile}
use Rattle.dhcpopt_profile.specs.declared.PlainProfile.{PlainProfile}
use Rattle.dhcpopt_writer.specs.Plain.{plain_wrote}
use Rattle.dhcpopt_writer.specs.declared.PlainWrote.{PlainWrote}

-- "the known set arrives as four u64"
abbrev pub known : (k0 k1 k2 k3 : ℕ) → ℕ → Bool
known k0 k1 k2 k3 = marked (k0 ∷ k1 ∷ k2 ∷ k3 ∷ [])

-- "number and place": the members refusal and place say row n at p; 0 is no row's number
abbrev pub Says : (refusal place n p : ℕ) → Type 0
Says refusal place n p = (n ≡ 0 → ⊥) × (refusal ≡ n) × (place ≡ p)

-- ---- The calls that fill a lent buffer. R n p: row n, at p, is the first that applies

pub record FillRefused (R : ℕ → ℕ → Type 0) (old : List ℕ) (r : PlainFilled) (after : List ℕ) : Type 0 where
  pub by_rows : (n p : ℕ) → Says r.refusal r.place n p ↔ R n p
  -- "changes no byte lent to the call"
  pub as_it_was : (r.refusal ≡ 0 → ⊥) → (r.size ≡ 0) × (after ≡ old)
  pub else_no_place : r.refusal ≡ 0 → r.place ≡ 0

-- the contract of such a call, and what follows from it
abbrev pub RefusedOnlyBy : (ℕ → ℕ → Type 0) → List ℕ → Filled → Type 0
RefusedOnlyBy R old w = (r : PlainFilled) (after : List ℕ) → (r ≡ plain_filled w.answer) × (after ≡ w.buffer) → FillRefused R old r after

-- "Reading: .. 1, 2, 3, then the first fault in reading order; ..; last, for the sheet call, 11"
pub data RecordsRow (m old : List ℕ) : ℕ → ℕ → Type 0 where
  of_message : {n p : ℕ} → First m n p → RecordsRow m old n p
  too_small : (a : IsAccepted m) → length old < length (records_of a) → RecordsRow m old 11 (length old)

abbrev pub RecordsRefusedForC : Type 0
RecordsRefusedForC = (m old : List ℕ) → RefusedOnlyBy (RecordsRow m old) old (records m old)

-- "the copy refuses as the reader does, then 11" (request 02)
abbrev pub CopyRefusedForC : Type 0
CopyRefusedForC = (m : List ℕ) (c : ℕ) (old : List ℕ) → c ≤ 255 → RefusedOnlyBy (CopyRow m c old) old (copy m c old)

-- "the reader 17, then 11" (request 05)
abbrev pub VendorReadRow : List ℕ → List ℕ → ℕ → ℕ → Type 0
VendorReadRow f old n p = ReadsItems f old (record { answer = declined n p; buffer = old })

abbrev pub VendorRecordsRefusedForC : Type 0
VendorRecordsRefusedForC = (f old : List ℕ) → RefusedOnlyBy (VendorReadRow f old) old (vendor_records_value f old)

-- "the writer gives 16, record by record 12, 10 (tag 0 or 255), 13 (over 255), then 11" (request 05)
abbrev pub VendorWriteRow : List ℕ → List ℕ → ℕ → ℕ → Type 0
VendorWriteRow s out n p = WritesItems s out (record { answer = declined n p; buffer = out })

abbrev pub VendorWriteRefusedForC : Type 0
VendorWriteRefusedForC = (s out : List ℕ) → AllBytes s → RefusedOnlyBy (VendorWriteRow s out) out (vendor_write_value s out)

-- "Building gives 1, 2, 3, 18, then the reader's" (request 07)
abbrev pub BuildRow : List ℕ → List ℕ → ℕ → ℕ → Type 0
BuildRow m old n p = Builds m old (record { answer = declined n p; buffer = old })

abbrev pub BuildRefusedForC : Type 0
BuildRefusedForC = (m old : List ℕ) → RefusedOnlyBy (BuildRow m old) old (build m old)

-- "Refusals, over the whole file in written order after 16 ..; 11 last" (request 08)
abbrev pub ChooseRefusedForC : Type 0
ChooseRefusedForC = (f class old : List ℕ) → AllBytes f → RefusedOnlyBy (FirstOf (ChoiceRow f class old)) old (choice f class old)

-- "Moving an old sheet gives 16, then 12 and 10 as the writer does, then 11" (request 08)
abbrev pub GroupRefusedForC : Type 0
GroupRefusedForC = (s old : List ℕ) → AllBytes s → RefusedOnlyBy (FirstOf (MoveRow s old)) old (move s old)

-- "22 at 0 for no way back; 11 last" (request 08)
abbrev pub UngroupRefusedForC : Type 0
UngroupRefusedForC = (f old : List ℕ) → AllBytes f → RefusedOnlyBy (FirstOf (BackRow f old)) old (go_back f old)

-- ---- The others

-- "Reading: 10, then 1, 2, 3, then the first fault in reading order": status 2; "8 and 9 come only from a lookup", of the option asked for: status 5
pub record LookupRefusedBy (set : ℕ → Bool) (m : List ℕ) (c : ℕ) (r : PlainAnswer) : Type 0 where
  pub refused : (n p : ℕ) → ((r.status ≡ 2) × (r.refusal ≡ n) × (r.place ≡ p)) ↔ ReaderRow m c n p
  pub numbered : (n p : ℕ) → Says r.refusal r.place n p ↔ LookupRow kinds set m c n p

abbrev pub LookupRefusedForC : Type 0
LookupRefusedForC =
    (k0 k1 k2 k3 : ℕ) (m : List ℕ) (c : ℕ) (r : PlainAnswer) → c ≤ 255 → r ≡ plain_answer (lookup kinds (known k0 k1 k2 k3) m c) → LookupRefusedBy (known k0 k1 k2 k3) m c r

-- through an index: "18 .., after 10, 1, 2, 3; then, in a lookup, 19 for an unusable entry ..; then the plain walk's where used" (request 07)
abbrev pub IndexRefusedBy : (ℕ → Bool) → List ℕ → List ℕ → ℕ → PlainAnswer → Type 0
IndexRefusedBy set m idx c r = (n p : ℕ) → ((r.status ≡ 2) × (r.refusal ≡ n) × (r.place ≡ p)) ↔ indexed.Answers kinds set m idx c (Refused n p)

abbrev pub IndexLookupRefusedForC : Type 0
IndexLookupRefusedForC =
    (k0 k1 k2 k3 : ℕ) (m idx : List ℕ) (c : ℕ) (r : PlainAnswer) → c ≤ 255 → r ≡ plain_answer (lookup_by kinds (known k0 k1 k2 k3) m idx c) → IndexRefusedBy (known k0 k1 k2 k3) m idx c r

-- "the data and text calls alone give just the empty part, and the lookup names the cause"
abbrev pub EmptyIfRefused : List ℕ → ℕ → PlainExtent → Type 0
EmptyIfRefused m c r = (n p : ℕ) → ReaderRow m c n p → (r.start ≡ 0) × (r.length ≡ 0)

abbrev pub DataRefusedForC : Type 0
DataRefusedForC = (m : List ℕ) (c : ℕ) (r : PlainExtent) → r ≡ plain_extent (data_of m c) → EmptyIfRefused m c r

abbrev pub TextRefusedForC : Type 0
TextRefusedForC = (k0 k1 k2 k3 : ℕ) (m : List ℕ) (c : ℕ) (r : PlainExtent) → c ≤ 255 → r ≡ plain_extent (text_of (known k0 k1 k2 k3) m c) → EmptyIfRefused m c r

-- "A refusal gives zeros with it"
pub record PresentRefusedBy (m : List ℕ) (r : PlainCodes) : Type 0 where
  pub by_rows : (n p : ℕ) → Says r.refusal r.place n p ↔ First m n p
  pub zeros : (r.refusal ≡ 0 → ⊥) → (r.words ≡ 0 ∷ 0 ∷ 0 ∷ 0 ∷ []) × (r.count ≡ 0) × (r.lowest ≡ 0)
  pub else_no_place : r.refusal ≡ 0 → r.place ≡ 0

abbrev pub PresentRefusedForC : Type 0
PresentRefusedForC = (m : List ℕ) (r : PlainCodes) → r ≡ plain_codes (present m) → PresentRefusedBy m r

-- "Writing: 1, 2, 15, 16; then the first faulty record, ..; then 14, then 11", and 23 "after 14" (request 09)
pub record WriteRefusedBy (s m : List ℕ) (permission : ℕ) (r : PlainWrote) (after : List ℕ) : Type 0 where
  pub by_rows : (n p : ℕ) → Says r.refusal r.place n p ↔ FirstWriteRow kinds s m permission n p
  pub as_it_was : (r.refusal ≡ 0 → ⊥) → (r.plan ≡ 0) × (after ≡ m)
  pub else_no_place : r.refusal ≡ 0 → r.place ≡ 0

abbrev pub WriteRefusedForC : Type 0
WriteRefusedForC =
    (s m : List ℕ) (permission : ℕ) (r : PlainWrote) (after : List ℕ) → AllBytes s
    → (r ≡ plain_wrote (writer kinds s m permission)) × (after ≡ buffer_after m (writer kinds s m permission)) → WriteRefusedBy s m permission r after

-- Request 12, of the writer's struct: "11 is given, all earlier checks passed, exactly when no permitted plan has any cutting of the pieces"; "The plan used is the lowest-numbered with such a
-- cutting"
pub record RoomTold (s m : List ℕ) (permission : ℕ) (r : PlainWrote) : Type 0 where
  pub no_room : (p : ℕ) → Says r.refusal r.place 11 p ↔ ((p ≡ length m) × EarlierPassed kinds s m permission × NoCutting s m permission)
  pub lowest : (plan : ℕ) → ((r.refusal ≡ 0) × (r.plan ≡ plan)) ↔ (EarlierPassed kinds s m permission × LowestCutting s m permission plan)

abbrev pub NoRoomForC : Type 0
NoRoomForC = (s m : List ℕ) (permission : ℕ) (r : PlainWrote) → AllBytes s → r ≡ plain_wrote (writer kinds s m permission) → RoomTold s m permission r

-- "over the whole file in written order" (request 08)
pub record CheckRefusedBy (f : List ℕ) (r : PlainChecked) : Type 0 where
  pub by_rows : (n p : ℕ) → Says r.refusal r.place n p ↔ FirstOf (FileRow f) n p
  pub else_no_place : r.refusal ≡ 0 → r.place ≡ 0

abbrev pub CheckRefusedForC : Type 0
CheckRefusedForC = (f : List ℕ) (r : PlainChecked) → AllBytes f → r ≡ plain_checked (check f) → CheckRefusedBy f r

-- ---- The reply profile (request 13)

-- "Refusals: those of reading, then 25 for 53 absent, broken or of another type, at 0"
pub data ProfileRow (m : List ℕ) : ℕ → ℕ → Type 0 where
  of_reading : {n p : ℕ} → First m n p → ProfileRow m n p
  row_25 : IsAccepted m → (Reply m → ⊥) → ProfileRow m 25 0

pub record ProfileRefusedBy (m : List ℕ) (r : PlainProfile) : Type 0 where
  pub by_rows : (n p : ℕ) → Says r.refusal r.place n p ↔ ProfileRow m n p
  pub no_rules : (r.refusal ≡ 0 → ⊥) → r.broken ≡ 0
  pub else_no_place : r.refusal ≡ 0 → r.place ≡ 0

abbrev pub ProfileRefusedForC : Type 0
ProfileRefusedForC = (m : List ℕ) (r : PlainProfile) → r ≡ plain_profile (profile m) → ProfileRefusedBy m r
