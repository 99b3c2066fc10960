use Rattle.std.proofs.Common.{◌≡◌, ◌⊎◌, true, inl, inr}
use Rattle.std.proofs.lemmas.Result.{IfErr-weaker}
use Rattle.geos_model.specs.Document.{is_raw}
use Rattle.geos_model.specs.declared.fault.Fault.TheVariants.{BadChain}
use Rattle.vm_blocks.specs.Keeping.{IsEnvironmentFault}
use Rattle.vm_blocks.proofs.KeepingLaws.{keeps-refl}
use Rattle.vm_chains.specs.Answers.{IsWrongRoot, IsWalkRefusal}
use Rattle.vm_chains.proofs.Loading.{carried, carried_so}
use Rattle.vm_chains.proofs.PairedWalks.{still_in, two_answered}
use Rattle.vm_chains.proofs.comparing.equal.Goals as goal

pub returns-in_err-test_roots-clause-keeps : goal.returns-in_err-test_roots-clause-keeps
returns-in_err-test_roots-clause-keeps g c = keeps-refl g.S.Store.facts c.args.blocks.now

pub returns-in_err-test_roots-clause-value : goal.returns-in_err-test_roots-clause-value
returns-in_err-test_roots-clause-value g c = λ steady. carried c.from_residual.result c.in_err-test_roots.field-0.0 _ _ c.from_residual.ensures.1 (inr c.in_err-test_roots.ensures.value)

pub returns-in_err-test_roots-clause-refusals : goal.returns-in_err-test_roots-clause-refusals
returns-in_err-test_roots-clause-refusals g c = carried_so c.from_residual.result c.in_err-test_roots.field-0.0 _ c.from_residual.ensures.1 (inr (inl c.in_err-test_roots.ensures.refusals))

pub returns-clause-value : goal.returns-clause-value
returns-clause-value g c = λ steady.
    let a = c.args.blocks.now in let e = c.have_same_shape.new.blocks in let f = c.args.first.0 in let s = c.args.second.0 in
    let raw = still_in g.S.Store.facts a e c.have_same_shape.ensures.keeps (λ d. (is_raw d f ≡ true) × (is_raw d s ≡ true)) steady c.in_ok-test_roots.ensures.value in
    two_answered e.document f s (IsEnvironmentFault g.S.Store.facts a.disk.store e.disk.store) c.have_same_shape.result raw (c.have_same_shape.ensures.value steady)

pub returns-clause-refusals : goal.returns-clause-refusals
returns-clause-refusals g c =
    let lacks = IsEnvironmentFault g.S.Store.facts c.args.blocks.now.disk.store c.have_same_shape.new.blocks.disk.store in
    let root = IsWrongRoot c.args.blocks.now.document c.args.first.0 c.args.second.0 in
    IfErr-weaker c.have_same_shape.result (λ fault. lacks fault ⊎ (fault ≡ BadChain)) (IsWalkRefusal lacks root)
    (λ fault stops. elim stops as (λ _. IsWalkRefusal lacks root fault) [ inl given ↦ inl given | inr bad ↦ inr (inr bad) ]) c.have_same_shape.ensures.refusals
