-- The next option of one field, and of the fields after it, as the code finds them. Assumes nothing.
use mathlib.Core.Path.{◌≡◌, refl}
use mathlib.Core.Bool.{true, false}
use mathlib.Core.List.{List}
use Prim.Native.Nat.{ℕ}
use Rattle.std.specs.Prelude.{Option, Some, None}
use Rattle.options.specs.Message.{bytes}
use Rattle.options.specs.Reading.{Parse, ended, ran_out_value, beyond, found}
use Rattle.wire.specs.Ahead.{next_of}
use Rattle.wire.specs.declared.Item as wire
use Rattle.wire.proofs.Laws.{rest}
use Rattle.message.specs.declared.Field as coded
use Rattle.message.specs.Fields.{field_of}
use Rattle.message.specs.Active.{active_in, options_in, field_from}
use Rattle.message.proofs.Names.{field_back}
use Rattle.cursor.specs.declared.Item.{Item}
use Rattle.cursor.specs.Cursor.{step_of}

-- what is next in a field, with the field's name
abbrev pub within : coded.Field → Option wire.Item → Option Item
within fd (Some x) = Some (record { field = fd; offset = x.offset; code = x.code; len = x.len })
within fd None = None

parse_step : (fd : coded.Field) (p : Parse) → within fd (next_of p) ≡ step_of (options_in (field_of fd) p)
unfolding options_in
parse_step fd ended = refl
parse_step fd (ran_out_value i) = refl
parse_step fd (beyond i) = refl
parse_step fd (found i x p) = rw (field_back fd)

module _ (v : ℕ) (m : List ℕ) (fd : coded.Field) (i : ℕ) where
  pub step_inactive : active_in v (field_of fd) ≡ false → None ≡ step_of (field_from v m (field_of fd) i)
  unfolding field_from
  step_inactive e = rw e

  pub step_active : (s : Option wire.Item) (f : List ℕ) → active_in v (field_of fd) ≡ true → f ≡ bytes (field_of fd) m → s ≡ next_of (rest f i) → within fd s ≡ step_of (field_from v m (field_of fd) i)
  unfolding field_from
  step_active s f e b h = rw (e, h, b) (parse_step fd (rest (bytes (field_of fd) m) i))
