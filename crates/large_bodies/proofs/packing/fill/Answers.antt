use Rattle.std.proofs.Common.{◌-◌, ℕ, ap, ◌∙◌, arith}
use Rattle.geos_model.specs.Pieces.{branch_room}
use Rattle.large_bodies.specs.SizedElements.{SizedElements, with_behind}
use Rattle.large_bodies.proofs.PackingLemmas.{filled}
use Rattle.large_bodies.proofs.packing.fill.Goals as goal

pub returns : goal.returns
returns c =
    let n : ℕ = c.fitting-fitting.result in
    let weighs = c.weight.ensures.value in
    let most = c.weight.ensures.fits in
    filled c.args.piece.now c.push_new.new.self c.args.new.now c.split_at-some.result.1 n (branch_room - c.weight.result) c.requires
    (c.in_ok-push_new.ensures ∙ ap (λ (u : SizedElements). with_behind c.args.piece.now u.elements) c.split_at-some.ensures.first)
    c.split_at-some.ensures.rest c.weight.ensures.holds (omega arith) c.fitting-fitting.ensures.within c.fitting-fitting.ensures.fits c.fitting-fitting.ensures.most
