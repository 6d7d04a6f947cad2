-- THE KINDS AS THE CODE NAMES THEM: each stands for the kind that the rules have under its name. Assumes nothing.
use Rattle.std.specs.Prelude.{◌≡◌, ℕ, Option, Some, None}
use Rattle.std.proofs.Math.Option as paper
use Rattle.options.specs.Kinds as options
use Rattle.kinds.specs.Numbers.{kind_number}
use Rattle.kinds.specs.declared.OptionKind.{OptionKind}
use Rattle.kinds.specs.declared.OptionKind.TheVariants.{Address, Addresses, Pairs, Flag, Octet, Number16, Numbers16, Unsigned32, Signed32, Text, Opaque, Relay, Routes}

abbrev pub kind_meant : OptionKind → options.Kind
kind_meant Address = options.address
kind_meant Addresses = options.addresses
kind_meant Pairs = options.pairs
kind_meant Flag = options.flag
kind_meant Octet = options.octet
kind_meant Number16 = options.number16
kind_meant Numbers16 = options.numbers16
kind_meant Unsigned32 = options.unsigned32
kind_meant Signed32 = options.signed32
kind_meant Text = options.text
kind_meant Opaque = options.opaque
kind_meant Relay = options.relay
kind_meant Routes = options.routes

abbrev pub kind_given : Option OptionKind → paper.Option options.Kind
kind_given None = paper.none
kind_given (Some k) = paper.some (kind_meant k)

-- a kind of the code is a kind of the rules, and has its number
abbrev pub NamedAs : OptionKind → options.Kind → ℕ → Type 0
NamedAs k kind n = (kind_given (Some k) ≡ paper.some kind) × (kind_number (kind_given (Some k)) ≡ n)

-- each case with its own number, 0 for a code without a row; nothing is lost, and each kind of the rules is given
abbrev pub KindsByCase : Type 0
KindsByCase =
    (kind_given None ≡ paper.none) × (kind_number (kind_given None) ≡ 0)
    × NamedAs Address options.address 1
    × NamedAs Addresses options.addresses 2
    × NamedAs Pairs options.pairs 3
    × NamedAs Flag options.flag 4
    × NamedAs Octet options.octet 5
    × NamedAs Number16 options.number16 6
    × NamedAs Numbers16 options.numbers16 7
    × NamedAs Unsigned32 options.unsigned32 8
    × NamedAs Signed32 options.signed32 9
    × NamedAs Text options.text 10
    × NamedAs Opaque options.opaque 11
    × NamedAs Relay options.relay 12
    × NamedAs Routes options.routes 13
    × ((a b : Option OptionKind) → kind_given a ≡ kind_given b → a ≡ b)
    × ((o : paper.Option options.Kind) → (a : Option OptionKind) × (kind_given a ≡ o))
