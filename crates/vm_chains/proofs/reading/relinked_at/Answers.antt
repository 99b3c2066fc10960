use Rattle.std.proofs.Common.{◌≡◌, ◌∙◌, true, false, sym, ap, subst}
use Rattle.std.proofs.lemmas.Bool.{true≢false}
use Rattle.std.specs.FinMap.{get}
use Rattle.geos_model.specs.Chain.{is_member, relinked}
use Rattle.geos_model.specs.Document.{Document, is_raw, raw_bytes_of}
use Rattle.geos_model.specs.declared.fault.Fault.TheVariants.{Damaged, Memory}
use Rattle.vm_blocks.proofs.KeepingLaws.{keeps-refl, keeps-same, keeps-unless_corrupt, lacks-damaged, lacks-memory, raw_by}
use Rattle.vm_chains.specs.Naming.{name_in}
use Rattle.vm_chains.proofs.Following.{goes_nowhere, heap_nowhere}
use Rattle.vm_chains.proofs.Loading.{carried_so}
use Rattle.vm_chains.proofs.StepLemmas.{at_none}
use Rattle.vm_chains.proofs.reading.relinked_at.Goals as goal

-- it is a heap

pub returns-then-is_heap-clause-keeps : goal.returns-then-is_heap-clause-keeps
returns-then-is_heap-clause-keeps g c = keeps-refl g.S.Store.facts c.args.blocks.now

pub returns-then-is_heap-clause-refusals : goal.returns-then-is_heap-clause-refusals
returns-then-is_heap-clause-refusals g c =
    let a = c.args.blocks.now in let h = c.args.handle.0 in
    lacks-damaged g.S.Store.facts a.disk.store a.disk.store (λ steady. true≢false (sym (c.requires.member steady) ∙ heap_nowhere a.document h (sym c.is_heap.ensures ∙ c.if-is_heap.true)))

-- it is none of a chain

pub returns-in_default-clause-refusals : goal.returns-in_default-clause-refusals
returns-in_default-clause-refusals g c =
    let a = c.args.blocks.now in let b = c.read_aside.new.self in let h = c.args.handle.0 in
    lacks-damaged g.S.Store.facts a.disk.store b.disk.store (λ steady. true≢false (sym (c.requires.member steady) ∙ goes_nowhere a.document h c.in_ok-body.body (c.in_ok-body.ensures.value steady) (at_none c.links_of.result _ _ c.in_default.not-Some c.links_of.ensures)))

-- there is no memory

pub returns-in_err-relink-clause-refusals : goal.returns-in_err-relink-clause-refusals
returns-in_err-relink-clause-refusals g c =
    carried_so c.from_residual-in_err-relink.result Memory _ c.from_residual-in_err-relink.ensures.1 (lacks-memory g.S.Store.facts c.args.blocks.now.disk.store c.read_aside.new.self.disk.store)

-- it is one

pub returns-clause-value : goal.returns-clause-value
returns-clause-value g c = λ steady.
    let a = c.args.blocks.now in let b = c.read_aside.new.self in let h = c.args.handle.0 in
    c.in_ok-relink.ensures.value ∙ ap (relinked (name_in c.args.names.now)) (c.in_ok-body.ensures.value steady ∙ ap (λ (d : Document). raw_bytes_of d h) (sym (keeps-same g.S.Store.facts a b c.read_aside.ensures.keeps steady)))

pub returns-clause-raw : goal.returns-clause-raw
returns-clause-raw g c = (keeps-unless_corrupt g.S.Store.facts c.args.blocks.now c.read_aside.new.self c.read_aside.ensures.keeps).kinds c.args.handle.0 ∙ sym c.is_heap.ensures ∙ c.if-is_heap.false
