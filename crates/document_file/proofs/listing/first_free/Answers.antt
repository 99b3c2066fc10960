use Rattle.std.proofs.Common.{◌≡◌, length, ap, sym, ◌∙◌, arith, is_some, not}
use Rattle.geos_model.proofs.Tables.{first_gap_is, slot_at_past}
use Rattle.document_file.proofs.listing.first_free.Goals as goal

pub returns-then-is_none : goal.returns-then-is_none
returns-then-is_none c = sym (first_gap_is c.args.places.now c.loop-i.i c.loop-i.invariant (c.is_none.ensures ∙ ap not c.if-is_none.true))

pub returns : goal.returns
returns c =
    let places = c.args.places.now in
    let end : c.loop-i.i ≡ length places = let near = c.loop-i.auto.i-end c.requires.within in let far = c.loop-i-test.false in omega (arith, near, far) in
    sym (first_gap_is places (length places) (λ k low. c.loop-i.invariant k (omega (arith, low, end))) (ap is_some (slot_at_past places (length places) (omega arith))))
