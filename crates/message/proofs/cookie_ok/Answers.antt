-- `message::cookie_ok` meets its contract. Assumes nothing.
use mathlib.Core.Path.{sym, ap, ◌∙◌}
use mathlib.Core.List.{List}
use Prim.Native.Nat.{ℕ, ◌<◌}
use lib.Dec.{eqb}
use lib.ListN.{get_or}
use Rattle.options.specs.Message.{cookie}
use Rattle.options.specs.Reading.{same}
use Rattle.message.proofs.Laws.{four, low_first, cookie_word}
use Rattle.message.proofs.cookie_ok.Goals as goal

pub returns : goal.returns
returns c = let m = c.args.m.now in
    let b : (i : ℕ) → get_or m i 0 < 256 = λ i. (c.type_inv.m i).fits in
    ap (λ (n : ℕ). eqb n 1666417251) (c.from_le_bytes.ensures ∙ low_first (get_or m 236 0) (get_or m 237 0) (get_or m 238 0) (get_or m 239 0))
    ∙ cookie_word (get_or m 236 0) (get_or m 237 0) (get_or m 238 0) (get_or m 239 0) (b 236) (b 237) (b 238) (b 239)
    ∙ ap (λ (l : List ℕ). same l cookie) (sym (four m c.requires))
