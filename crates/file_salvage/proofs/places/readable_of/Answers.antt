use Rattle.std.proofs.Common.{◌≡◌, ℕ, List, not, subst, sym, ◌∙◌}
use Rattle.std.proofs.lemmas.Result.{IfOk-weaker}
use Rattle.file_format.proofs.LooksLemmas.{still, same_bytes_then}
use Rattle.file_salvage.specs.Places.{readable_in}
use Rattle.file_salvage.proofs.PlaceLemmas.{in_turn, or_else}
use Rattle.file_salvage.proofs.places.readable_of.Goals as goal

pub returns-clause-readable : goal.returns-clause-readable
returns-clause-readable g c =
    let a = g.S.Store.facts c.args.store.now in
    let b = g.S.Store.facts c.readable_in.new.store in
    let looks = c.readable_in.ensures.looks in
    let turned = c.is_second_first-turned.result in
    let one = c.in_order-one.result.0 in
    let other = c.in_order-one.result.1 in
    IfOk-weaker c.readable_in-2.result _ _
    (λ found then so.
    let now : found ≡ readable_in a.content (not turned) other = subst (λ (file : List ℕ). found ≡ readable_in file (not turned) other) (same_bytes_then a b looks so) (then (still a b looks so)) in
    or_else c.in_ok-place.place (readable_in a.content turned one) (readable_in a.content (not turned) other) found
    (c.in_ok-place.ensures.readable so) (sym c.is_some.ensures ∙ c.if-is_some.false) now
    ∙ sym (in_turn a.content c.args.first c.args.second one other turned c.is_second_first-turned.ensures c.in_order-one.ensures.0 c.in_order-one.ensures.1))
    c.readable_in-2.ensures.readable
