-- `listing::put_name` meets its contract. Assumes nothing.
use mathlib.Core.Path.{◌≡◌, sym, ap}
use Rattle.options.specs.Answers.{field_name}
use Rattle.message.specs.declared.Field.{Field}
use Rattle.message.specs.Fields.{field_of}
use Rattle.text.proofs.Putting.{puts_as}
use Rattle.listing.proofs.put_name.Goals as goal

-- the field that was met is the one that was given
name_of : {x y : Field} → x ≡ y → field_name (field_of y) ≡ field_name (field_of x)
name_of e = sym (ap (λ (f : Field). field_name (field_of f)) e)

pub returns-in-Options : goal.returns-in-Options
returns-in-Options c = puts_as (name_of c.in-Options.is) c.put_word.ensures

pub returns-in-File : goal.returns-in-File
returns-in-File c = puts_as (name_of c.in-File.is) c.put_word-in-File.ensures

pub returns-in-Sname : goal.returns-in-Sname
returns-in-Sname c = puts_as (name_of c.in-Sname.is) c.put_word-in-Sname.ensures
