-- `listing::list` meets its contract. Assumes nothing.
use mathlib.Core.Path.{refl, sym}
use native.Mathlib.Omega.{arith}
use Rattle.refusal.specs.Refused.{number_of}
use Rattle.message.specs.Scan.{told_of}
use Rattle.message.proofs.Callers.{all_bytes}
use Rattle.text.proofs.Putting.{puts_more, puts_front}
use Rattle.listing.proofs.Room.{refused_short}
use Rattle.listing.proofs.Whole.{listing_refused, listing_accepted, has_room}
use Rattle.listing.proofs.list.Goals as goal

pub returns-in-Ok : goal.returns-in-Ok
returns-in-Ok c = let m = c.args.m.now in
    let b = all_bytes m (λ i. (c.type_inv.m i).fits) in
    let p = puts_front (omega (arith, has_room m (told_of c.in-Ok.w) c.codes.new.set b c.in-Ok.ensures refl)) (puts_more c.put_count-a.ensures c.put_lines.ensures) in
    rw (sym (listing_accepted m (told_of c.in-Ok.w) c.codes.new.set b c.in-Ok.ensures refl)) (record { size = p.0; text = p.1 })

pub returns-in-Err : goal.returns-in-Err
returns-in-Err c = let r = c.in-Err.refusal in
    let p = puts_front (omega (arith, refused_short (number_of r.rule) r.place)) c.put_refusal.ensures in
    rw (sym (listing_refused c.args.m.now r c.codes.new.set c.in-Err.ensures)) (record { size = p.0; text = p.1 })
