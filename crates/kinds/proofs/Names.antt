-- The kinds as the code names them: each case, and that nothing is lost either way. Assumes nothing.
use mathlib.Core.Path.{◌≡◌, refl, sym, ap, ◌∙◌}
use Rattle.std.specs.Prelude.{Option, Some, None}
use Rattle.std.proofs.Math.Option as paper
use Rattle.options.specs.Kinds as options
use Rattle.kinds.specs.declared.OptionKind.{OptionKind}
use Rattle.kinds.specs.declared.OptionKind.TheVariants.{Address, Addresses, Pairs, Flag, Octet, Number16, Numbers16, Unsigned32, Signed32, Text, Opaque, Relay, Routes}
use Rattle.kinds.specs.Named.{kind_given, KindsByCase}

abbrev coded : options.Kind → OptionKind
coded options.address = Address
coded options.addresses = Addresses
coded options.pairs = Pairs
coded options.flag = Flag
coded options.octet = Octet
coded options.number16 = Number16
coded options.numbers16 = Numbers16
coded options.unsigned32 = Unsigned32
coded options.signed32 = Signed32
coded options.text = Text
coded options.opaque = Opaque
coded options.relay = Relay
coded options.routes = Routes

abbrev coded_kind : paper.Option options.Kind → Option OptionKind
coded_kind paper.none = None
coded_kind (paper.some k) = Some (coded k)

back : (a : Option OptionKind) → coded_kind (kind_given a) ≡ a
back None = refl
back (Some Address) = refl
back (Some Addresses) = refl
back (Some Pairs) = refl
back (Some Flag) = refl
back (Some Octet) = refl
back (Some Number16) = refl
back (Some Numbers16) = refl
back (Some Unsigned32) = refl
back (Some Signed32) = refl
back (Some Text) = refl
back (Some Opaque) = refl
back (Some Relay) = refl
back (Some Routes) = refl

there : (o : paper.Option options.Kind) → kind_given (coded_kind o) ≡ o
there paper.none = refl
there (paper.some options.address) = refl
there (paper.some options.addresses) = refl
there (paper.some options.pairs) = refl
there (paper.some options.flag) = refl
there (paper.some options.octet) = refl
there (paper.some options.number16) = refl
there (paper.some options.numbers16) = refl
there (paper.some options.unsigned32) = refl
there (paper.some options.signed32) = refl
there (paper.some options.text) = refl
there (paper.some options.opaque) = refl
there (paper.some options.relay) = refl
there (paper.some options.routes) = refl

same : (a b : Option OptionKind) → kind_given a ≡ kind_given b → a ≡ b
same a b e = sym (back a) ∙ ap coded_kind e ∙ back b

pub kinds_by_case : KindsByCase
kinds_by_case =
    (refl, refl, (refl, refl), (refl, refl), (refl, refl), (refl, refl), (refl, refl), (refl, refl), (refl, refl), (refl, refl), (refl, refl), (refl, refl), (refl, refl), (refl, refl), (refl, refl), same, λ o. (coded_kind o, there o))
