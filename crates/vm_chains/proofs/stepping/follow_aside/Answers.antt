use Rattle.std.proofs.Common.{◌≡◌, ◌⊎◌, ℕ, true, false, sym, subst, ◌∙◌, inl, inr}
use Rattle.std.specs.FinMap.{get}
use Rattle.geos_model.specs.Chain.{is_member, relinked}
use Rattle.geos_model.specs.Document.{Document, is_raw, raw_bytes_of}
use Rattle.geos_model.specs.declared.fault.Fault.TheVariants.{BadChain}
use Rattle.vm_blocks.specs.Keeping.{IsEnvironmentFault}
use Rattle.vm_blocks.proofs.KeepingLaws.{keeps-refl, keeps-same, lacks-memory, raw_by}
use Rattle.vm_chains.specs.Alike.{mark_of}
use Rattle.vm_chains.specs.Walking.{GoesOn, Stops}
use Rattle.vm_chains.proofs.Following.{goes_nowhere, goes_on_marked}
use Rattle.vm_chains.proofs.Loading.{carried, carried_so, still_live}
use Rattle.vm_chains.proofs.stepping.follow_aside.Goals as goal

pub returns-then-not-is_live-clause-keeps : goal.returns-then-not-is_live-clause-keeps
returns-then-not-is_live-clause-keeps g c = keeps-refl g.S.Store.facts c.args.blocks.now

-- it is none of a chain, or there is no memory

pub returns-in_err-mark_links-clause-value : goal.returns-in_err-mark_links-clause-value
returns-in_err-mark_links-clause-value g c = λ steady.
    let facts = g.S.Store.facts in let a = c.args.blocks.now in let b = c.read_aside.new.self in let h = c.args.handle.0 in
    let lacks = IsEnvironmentFault facts a.disk.store b.disk.store in let fault = c.in_err-mark_links.field-0.0 in
    carried c.from_residual-in_err-mark_links.result fault _ _ c.from_residual-in_err-mark_links.ensures.1
    (elim c.in_err-mark_links.ensures as (λ _. Stops lacks (is_member b.document h ≡ false) fault) [
      | inl memory ↦ inl (subst lacks (sym memory) (lacks-memory facts a.disk.store b.disk.store))
      | inr bad ↦ inr (bad.0, subst (λ (d : Document). is_member d h ≡ false) (sym (keeps-same facts a b c.read_aside.ensures.keeps steady)) (goes_nowhere a.document h c.in_ok-body.body (c.in_ok-body.ensures.value steady) bad.1))
    ])

pub returns-in_err-mark_links-clause-refusals : goal.returns-in_err-mark_links-clause-refusals
returns-in_err-mark_links-clause-refusals g c =
    let facts = g.S.Store.facts in let a = c.args.blocks.now in let b = c.read_aside.new.self in
    let lacks = IsEnvironmentFault facts a.disk.store b.disk.store in let fault = c.in_err-mark_links.field-0.0 in
    carried_so c.from_residual-in_err-mark_links.result fault _ c.from_residual-in_err-mark_links.ensures.1
    (elim c.in_err-mark_links.ensures as (λ _. lacks fault ⊎ (fault ≡ BadChain)) [
      | inl memory ↦ inl (subst lacks (sym memory) (lacks-memory facts a.disk.store b.disk.store))
      | inr bad ↦ inr bad.0
    ])

-- it is one

pub returns-clause-value : goal.returns-clause-value
returns-clause-value g c = λ steady.
    let facts = g.S.Store.facts in let a = c.args.blocks.now in let b = c.read_aside.new.self in let h = c.args.handle.0 in
    let raw : is_raw a.document h ≡ true = raw_by (get a.document.blocks h) (sym c.is_live.ensures ∙ c.if-not-is_live.false) (sym c.is_heap.ensures ∙ c.if-is_heap.false) in
    let marks = c.in_ok-mark_links.ensures in
    subst (λ (d : Document). GoesOn d h c.args.pending.now c.mark_links.new.pending × (c.mark_links.new.bytes.items ≡ relinked mark_of (raw_bytes_of d h))) (sym (keeps-same facts a b c.read_aside.ensures.keeps steady))
    (goes_on_marked a.document h c.in_ok-body.body (c.in_ok-body.ensures.value steady) c.args.pending.now c.mark_links.new.pending c.mark_links.new.bytes.items raw marks.0 marks.1.0 marks.1.1)

pub returns-clause-live : goal.returns-clause-live
returns-clause-live g c = still_live g.S.Store.facts c.args.blocks.now c.read_aside.new.self c.read_aside.ensures.keeps c.args.handle.0 (sym c.is_live.ensures ∙ c.if-not-is_live.false)
