use Rattle.std.proofs.Common.{◌∙◌, ◌==◌, ℕ, sym, ap, arith}
use Rattle.std.proofs.lemmas.List.{length-map}
use Rattle.std.proofs.lemmas.List.Folds.{list_any_at}
use Rattle.large_arrays.specs.Spots.{link_handles}
use Rattle.large_arrays.proofs.Marking.{is_met, met_no_more, no_link, handle_at, handles-next, handles-done}
use Rattle.large_arrays.proofs.distinct.has_handle.Goals as goal

pub returns-then-eq : goal.returns-then-eq
returns-then-eq c =
    let links = c.args.links.now in let i : ℕ = c.loop-link.link-index in
    let long = length-map links (λ l. l.handle.0) in let low = c.loop-link-test.true in
    sym (list_any_at (λ x. c.args.handle.0 == x) (link_handles links) i 0 (omega (arith, long, low))
    (ap (λ (x : ℕ). c.args.handle.0 == x) (handle_at links i no_link low) ∙ sym c.eq.ensures ∙ c.if-eq.true))

pub loop-link-preserved : goal.loop-link-preserved
loop-link-preserved c =
    let links = c.args.links.now in let i : ℕ = c.loop-link.link-index in
    ap (is_met c.args.handle.0) (handles-next links i no_link c.loop-link-test.true)
    ∙ met_no_more c.args.handle.0 _ _ c.loop-link.invariant (sym c.eq.ensures ∙ c.if-eq.false)

pub returns : goal.returns
returns c = sym c.loop-link.invariant ∙ ap (is_met c.args.handle.0) (handles-done c.args.links.now c.loop-link.link-index c.loop-link-test.false)
