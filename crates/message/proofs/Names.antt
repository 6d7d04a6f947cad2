-- No field is lost between the code's names and the paper's. Assumes nothing.
use mathlib.Core.Path.{◌≡◌, refl}
use Rattle.options.specs.Message.{Field, options, file, sname}
use Rattle.message.specs.declared.Field as coded
use Rattle.message.specs.declared.Field.TheVariants.{Options, File, Sname}
use Rattle.message.specs.Fields.{field_of, coded_field, FieldsComeBack}

pub field_back : (f : coded.Field) → coded_field (field_of f) ≡ f
field_back Options = refl
field_back File = refl
field_back Sname = refl

pub field_there : (f : Field) → field_of (coded_field f) ≡ f
field_there options = refl
field_there file = refl
field_there sname = refl

pub fields_come_back : FieldsComeBack
fields_come_back = (field_back, field_there)
