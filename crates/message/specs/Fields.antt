-- The fields of a message as the code names them. Assumes nothing.
use Rattle.std.specs.Prelude.{◌≡◌}
use Rattle.options.specs.Message.{Field, options, file, sname}
use Rattle.message.specs.declared.Field as coded
use Rattle.message.specs.declared.Field.TheVariants.{Options, File, Sname}

-- the fields, case by case
abbrev pub field_of : coded.Field → Field
field_of Options = options
field_of File = file
field_of Sname = sname

-- and back
abbrev pub coded_field : Field → coded.Field
coded_field options = Options
coded_field file = File
coded_field sname = Sname

-- nothing is lost either way (proved in proofs/Names)
abbrev pub FieldsComeBack : Type 0
FieldsComeBack = ((f : coded.Field) → coded_field (field_of f) ≡ f) × ((f : Field) → field_of (coded_field f) ≡ f)
