-- Circuit id and remote id, by case. Assumes nothing.
use mathlib.Core.Path.{subst}
use Rattle.std.specs.Prelude.{Option, Some, None}
use Rattle.options.specs.Relay as asked
use Rattle.item_reader.specs.declared.Id.{Id}
use Rattle.item_reader.specs.Walked.{id_of}
use Rattle.item_reader.specs.Reads.{circuit_in, remote_in, Tells, tells_none, tells_named, IdByCase}

told : (o : Option Id) → Tells (id_of o) o
told None = tells_none
told (Some i) = tells_named i.start i.length

pub id_by_case : IdByCase
id_by_case x r after a = (
  subst (λ (z : asked.Id). Tells z (circuit_in r)) a.circuit_is (told (circuit_in r)),
  subst (λ (z : asked.Id). Tells z (remote_in r)) a.remote_is (told (remote_in r)),
)
