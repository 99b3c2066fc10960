use Rattle.std.proofs.Common.{◌≡◌, ◌⊎◌, ◌<◌, None}
use Rattle.geos_model.specs.Chain.{chain}
use Rattle.vm_blocks.proofs.KeepingLaws.{keeps-refl, keeps-steady, keeps-trans}
use Rattle.vm_chains.specs.Comparing.{AreCompared, AreInStep}
use Rattle.vm_chains.proofs.Loading.{carried, carried_so}
use Rattle.vm_chains.proofs.PairedWalks.{stops_later}
use Rattle.vm_chains.proofs.StepLemmas.{at_none, at_some, refused_then}
use Rattle.vm_chains.proofs.comparing.are_alike.Goals as goal

pub loop-other-init : goal.loop-other-init
loop-other-init g c = record { in_step = λ f s steady old. old; keeps = keeps-refl g.S.Store.facts c.args.blocks.now }

pub returns-in_err-same-clause-keeps : goal.returns-in_err-same-clause-keeps
returns-in_err-same-clause-keeps g c = keeps-trans g.S.Store.facts c.args.blocks.now c.loop-other.blocks c.compare_next.new.blocks c.loop-other.invariant.keeps c.compare_next.ensures.keeps

pub returns-in_err-same-clause-value : goal.returns-in_err-same-clause-value
returns-in_err-same-clause-value g c = λ f s steady old.
    let a = c.args.blocks.now in let b = c.loop-other.blocks in let e = c.compare_next.new.blocks in let fault = c.in_err-same.field-0.0 in let keeps = c.loop-other.invariant.keeps in
    let why : Type 0 = (chain e.document f ≡ None) ⊎ (chain e.document s ≡ None) in
    carried c.from_residual.result fault _ _ c.from_residual.ensures.1
    (stops_later g.S.Store.facts a b keeps e why why fault (λ none. none) (c.in_err-same.ensures.value f s (keeps-steady g.S.Store.facts a b keeps steady) (c.loop-other.invariant.in_step f s steady old)))

pub returns-in_err-same-clause-refusals : goal.returns-in_err-same-clause-refusals
returns-in_err-same-clause-refusals g c =
    carried_so c.from_residual.result c.in_err-same.field-0.0 _ c.from_residual.ensures.1
    (refused_then g.S.Store.facts c.args.blocks.now c.loop-other.blocks c.compare_next.new.blocks c.in_err-same.field-0.0 c.loop-other.invariant.keeps c.in_err-same.ensures.refusals)

pub loop-other-preserved : goal.loop-other-preserved
loop-other-preserved g c =
    let a = c.args.blocks.now in let b = c.loop-other.blocks in let e = c.compare_next.new.blocks in let keeps = c.loop-other.invariant.keeps in
    record {
      in_step = λ f s steady old.
          at_none c.in_ok-same.field-0 (AreInStep e.document f s c.compare_next.new.first c.compare_next.new.second) _ c.in_default.not-Some
          (c.in_ok-same.ensures.value f s (keeps-steady g.S.Store.facts a b keeps steady) (c.loop-other.invariant.in_step f s steady old));
      keeps = keeps-trans g.S.Store.facts a b e keeps c.compare_next.ensures.keeps;
    }

pub loop-other-smaller : goal.loop-other-smaller
loop-other-smaller g c = at_none c.in_ok-same.field-0 (c.compare_next.new.first.left < c.loop-other.first.left) _ c.in_default.not-Some c.in_ok-same.ensures.fewer

pub returns-in-Some-clause-keeps : goal.returns-in-Some-clause-keeps
returns-in-Some-clause-keeps g c = keeps-trans g.S.Store.facts c.args.blocks.now c.loop-other.blocks c.compare_next.new.blocks c.loop-other.invariant.keeps c.compare_next.ensures.keeps

pub returns-in-Some-clause-value : goal.returns-in-Some-clause-value
returns-in-Some-clause-value g c = λ f s steady old.
    let a = c.args.blocks.now in let b = c.loop-other.blocks in let e = c.compare_next.new.blocks in
    at_some c.in_ok-same.field-0 c.in-Some.same _ (λ same. AreCompared e.document f s same c.compare_next.new.first c.compare_next.new.second) c.in-Some.is
    (c.in_ok-same.ensures.value f s (keeps-steady g.S.Store.facts a b c.loop-other.invariant.keeps steady) (c.loop-other.invariant.in_step f s steady old))
