-- `address::step_at` meets its contract: each answer is the definition's step. Assumes nothing.
use Rattle.std.proofs.Common.{◌+◌, ◌≤◌, ◌∙◌, length, take, ap, sym, arith}
use Rattle.address.proofs.Laws.{word_at, step_given, step_done}
use Rattle.address.proofs.step_at.Goals as goal

-- the place is past the list
pub returns-in_err-get : goal.returns-in_err-get
returns-in_err-get c = rw c.from_residual.ensures (sym (step_done c.args.list.now c.args.at (omega (arith, c.in_err-get.ensures.lookup.0))))

-- fewer than four bytes are left
pub returns-in_err-bytes : goal.returns-in_err-bytes
returns-in_err-bytes c =
    rw c.from_residual-in_err-bytes.ensures (sym (step_done c.args.list.now c.args.at (omega (arith, c.in_err-bytes.ensures.cases, c.in_ok-get.ensures.lookup.0))))

-- four bytes are left
pub returns : goal.returns
returns c =
    let d = c.args.list.now in
    let at = c.args.at in
    let enough : at + 4 ≤ length d = omega (arith, c.in_ok-bytes.ensures.cases.enough, c.in_ok-get.ensures.lookup.0) in
    let value = c.from_be_bytes.ensures ∙ word_at d at c.in_ok-bytes.bytes.now enough (c.in_ok-bytes.ensures.cases.same ∙ ap (take 4) c.in_ok-get.ensures.lookup.0.2) in
    rw (value, step_given d at enough)
