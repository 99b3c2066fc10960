use Rattle.std.proofs.Common.{◌≡◌, ◌<◌, ◌++◌, ℕ, List, map, length, take, refl, sym, ap, ◌∙◌, vec_capacity, arith}
use Rattle.document_file.proofs.ListingLemmas.{handles_from, listed_full, listed_free, listed_front, listed_part, listed_short}
use Rattle.document_file.proofs.listing.list_live.Goals as goal
use Rattle.document_file.proofs.listing.list_live.Goals.{then-is_some+in_ok-push, else-is_some}

pub loop-i-preserved : goal.loop-i-preserved
loop-i-preserved c =
    elim c.if-is_some.branch [
      | then-is_some+in_ok-push w ↦
          let room = c.loop-i.invariant.1 in let kept = w.push.ensures.capacity in
          rw w.handles-is (listed_full c.args.places.now c.loop-i.i c.loop-i-test.true _ refl (sym w.if-is_some.ensures) c.loop-i.handles.items w.push.new.self.items w.in_ok-push.ensures.items c.loop-i.invariant.0, omega (arith, room, kept))
      | else-is_some w ↦
          rw w.handles-is (listed_free c.args.places.now c.loop-i.i c.loop-i-test.true _ refl (sym w.if-is_some.ensures) c.loop-i.handles.items c.loop-i.invariant.0, c.loop-i.invariant.1)
    ]

-- the first of them, where memory lacked
pub returns-in_err-push : goal.returns-in_err-push
returns-in_err-push c =
    let places = c.args.places.now in
    let before = c.loop-i.invariant.0 in
    let more = listed_front c.loop-i.i 1 places in
    let first : map (λ h. h.0) c.push.new.self.items ++ more.0 ≡ handles_from 1 places =
    ap (λ hs. map (λ h. h.0) hs ++ more.0) c.in_err-push.ensures.items ∙ ap (λ hs. hs ++ more.0) before ∙ more.1 in
    let short = listed_short places c.loop-i.i c.loop-i-test.true _ refl (sym c.if-is_some.ensures) c.loop-i.handles.items before in
    let counted = c.loop-i.handles.ok.0 in let room = c.loop-i.invariant.1 in let full = c.in_err-push.ensures.full in
    let lacked : vec_capacity c.args.handles.now < length (handles_from 1 places) = omega (arith, short, counted, room, full) in
    listed_part (handles_from 1 places) c.args.handles.now c.push.new.self c.from_residual.result c.from_residual.ensures.0 (more.0, first) lacked
