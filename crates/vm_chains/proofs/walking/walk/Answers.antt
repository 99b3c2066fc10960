use Rattle.std.proofs.Common.{◌≡◌, ◌⊎◌, ℕ, List, Option, true, is_none, ap, subst, sym, inl, inr}
use Rattle.std.proofs.lemmas.Result.{IfErr-weaker}
use Rattle.geos_model.specs.Document.{Document, is_raw}
use Rattle.geos_model.specs.declared.fault.Fault.TheVariants.{BadChain}
use Rattle.vm_blocks.specs.Keeping.{IsEnvironmentFault}
use Rattle.vm_blocks.specs.Kinds.{IsWrongBlock}
use Rattle.vm_blocks.proofs.KeepingLaws.{keeps-refl, keeps-same}
use Rattle.vm_chains.specs.Answers.{IsWalkRefusal}
use Rattle.vm_chains.proofs.Loading.{carried, carried_so}
use Rattle.vm_chains.proofs.Refusals.{root_refused, walked}
use Rattle.vm_chains.proofs.walking.walk.Goals as goal

pub returns-in_err-test_root-clause-keeps : goal.returns-in_err-test_root-clause-keeps
returns-in_err-test_root-clause-keeps g c = keeps-refl g.S.Store.facts c.args.blocks.now

pub returns-in_err-test_root-clause-value : goal.returns-in_err-test_root-clause-value
returns-in_err-test_root-clause-value g c = λ steady.
    let a = c.args.blocks.now in
    carried c.from_residual.result c.in_err-test_root.field-0.0 _ _ c.from_residual.ensures.1
    (root_refused a.document c.args.root.0 (IsEnvironmentFault g.S.Store.facts a.disk.store a.disk.store) c.in_err-test_root.field-0.0 (inr c.in_err-test_root.ensures))

pub returns-in_err-test_root-clause-refusals : goal.returns-in_err-test_root-clause-refusals
returns-in_err-test_root-clause-refusals g c = carried_so c.from_residual.result c.in_err-test_root.field-0.0 _ c.from_residual.ensures.1 (inr (inl c.in_err-test_root.ensures))

pub returns-clause-value : goal.returns-clause-value
returns-clause-value g c = λ steady.
    let a = c.args.blocks.now in let e = c.walk_from.new.blocks in let root = c.args.root.0 in
    let raw = subst (λ (d : Document). is_raw d root ≡ true) (sym (keeps-same g.S.Store.facts a e c.walk_from.ensures.keeps steady)) c.in_ok-test_root.ensures in
    walked e.document root (IsEnvironmentFault g.S.Store.facts a.disk.store e.disk.store) _ c.walk_from.result raw (λ handles is. ap (λ (o : Option (List ℕ)). is_none o) is) (c.walk_from.ensures.value steady)

pub returns-clause-refusals : goal.returns-clause-refusals
returns-clause-refusals g c =
    let lacks = IsEnvironmentFault g.S.Store.facts c.args.blocks.now.disk.store c.walk_from.new.blocks.disk.store in
    let root = IsWrongBlock is_raw c.args.blocks.now.document c.args.root.0 in
    IfErr-weaker c.walk_from.result (λ fault. lacks fault ⊎ (fault ≡ BadChain)) (IsWalkRefusal lacks root)
    (λ fault stops. elim stops as (λ _. IsWalkRefusal lacks root fault) [ inl given ↦ inl given | inr bad ↦ inr (inr bad) ]) c.walk_from.ensures.refusals
