use Rattle.std.proofs.Common.{◌≡◌, ◌++◌, ◌∷◌, [], ℕ, List, Some, length, true, sym, ap, subst, ◌∙◌, inl, arith}
use Rattle.std.proofs.lemmas.List.{length-map}
use Rattle.geos_model.specs.Chain.{chain_blocks_of}
use Rattle.geos_model.specs.Document.{Document, block_at, handles_of}
use Rattle.geos_model.specs.declared.fault.Fault.TheVariants.{Memory}
use Rattle.vm_blocks.specs.Bodies.{body_value}
use Rattle.document_file.specs.Members.{imaged_block, imaged_blocks}
use Rattle.document_file.specs.declared.member.Member.{Member}
use Rattle.vm_blocks.specs.Keeping.{is_loaded}
use Rattle.vm_blocks.proofs.KeepingLaws.{keeps-refl, keeps-same, keeps-trans, lacks-memory, loaded-live}
use Rattle.vm_blocks.proofs.KindLemmas.{typed_there}
use Rattle.vm_chains.specs.Planning.{AreChainBlocks}
use Rattle.vm_chains.proofs.Loading.{block_read, carried, carried_so, still_room}
use Rattle.vm_chains.proofs.Planned.{met_more, saved_more}
use Rattle.vm_chains.proofs.StepLemmas.{at_root, at_some, ended, goes-ended, goes-met, goes-refl, goes-refused, goes-step, none_has_met, stepped, stops_so}
use Rattle.vm_chains.proofs.planning.images.Goals as goal

pub returns-in_err-walk-clause-keeps : goal.returns-in_err-walk-clause-keeps
returns-in_err-walk-clause-keeps g c = keeps-refl g.S.Store.facts c.args.blocks.now

pub returns-in_err-walk-clause-value : goal.returns-in_err-walk-clause-value
returns-in_err-walk-clause-value g c = λ steady. carried c.from_residual.result Memory _ _ c.from_residual.ensures.1 (inl (lacks-memory g.S.Store.facts c.args.blocks.now.disk.store c.args.blocks.now.disk.store))

pub returns-in_err-walk-clause-refusals : goal.returns-in_err-walk-clause-refusals
returns-in_err-walk-clause-refusals g c = carried_so c.from_residual.result Memory _ c.from_residual.ensures.1 (inl (lacks-memory g.S.Store.facts c.args.blocks.now.disk.store c.args.blocks.now.disk.store))

pub loop-plan-init : goal.loop-plan-init
loop-plan-init g c =
    let nothing = c.new-plan.ensures.items in let at = c.in_ok-walk.ensures in let d = c.args.blocks.now.document in
    record {
      goes = goes-refl g.S.Store.facts c.args.blocks.now c.in_ok-walk.walk;
      handles = ap (λ (ms : List Member). handles_of (imaged_blocks ms)) nothing ∙ sym at.met;
      plan = λ steady. ap (λ (ms : List Member). imaged_blocks ms) nothing ∙ sym (ap (λ (hs : List ℕ). chain_blocks_of d hs) at.met);
    }

pub step-requires : goal.step-requires
step-requires g c = record { room = still_room g.S.Store.facts c.args.blocks.now c.loop-plan.blocks c.loop-plan.invariant.goes.keeps c.requires.room }

pub returns-in_err-handle-clause-keeps : goal.returns-in_err-handle-clause-keeps
returns-in_err-handle-clause-keeps g c = keeps-trans g.S.Store.facts c.args.blocks.now c.loop-plan.blocks c.step.new.blocks c.loop-plan.invariant.goes.keeps c.step.ensures.keeps

pub returns-in_err-handle-clause-value : goal.returns-in_err-handle-clause-value
returns-in_err-handle-clause-value g c = λ steady.
    carried c.from_residual-in_err-handle.result c.in_err-handle.field-0.0 _ _ c.from_residual-in_err-handle.ensures.1
    (goes-refused g.S.Store.facts c.args.blocks.now c.loop-plan.blocks c.step.new.blocks c.in_ok-walk.walk c.loop-plan.walk c.loop-plan.invariant.goes c.step.ensures.keeps c.in_err-handle.field-0.0 c.in_err-handle.ensures.value c.args.root.0 steady
    (at_root c.args.blocks.now.document c.args.root.0 c.in_ok-walk.walk c.in_ok-walk.ensures))

pub returns-in_err-handle-clause-refusals : goal.returns-in_err-handle-clause-refusals
returns-in_err-handle-clause-refusals g c =
    carried_so c.from_residual-in_err-handle.result c.in_err-handle.field-0.0 _ c.from_residual-in_err-handle.ensures.1
    (stops_so g.S.Store.facts c.args.blocks.now c.loop-plan.blocks c.step.new.blocks c.in_err-handle.field-0.0 _ c.loop-plan.invariant.goes.keeps c.in_err-handle.ensures.value)

pub attributes-attributes-requires : goal.attributes-attributes-requires
attributes-attributes-requires g c = loaded-live c.step.new.blocks c.in-Some.handle.0 (at_some c.in_ok-handle.field-0 c.in-Some.handle _ (λ h. is_loaded c.step.new.blocks h.0 ≡ true) c.in-Some.is c.in_ok-handle.ensures.loaded)

pub body-requires : goal.body-requires
body-requires g c = at_some c.in_ok-handle.field-0 c.in-Some.handle _ (λ h. is_loaded c.step.new.blocks h.0 ≡ true) c.in-Some.is c.in_ok-handle.ensures.loaded

pub imaged_block-requires : goal.imaged_block-requires
imaged_block-requires g c = typed_there c.step.new.blocks.document c.in-Some.handle.0 (body_value c.body.result.now) c.attributes-attributes.result c.body.ensures c.attributes-attributes.ensures.typed

pub returns-in_err-block-clause-keeps : goal.returns-in_err-block-clause-keeps
returns-in_err-block-clause-keeps g c = keeps-trans g.S.Store.facts c.args.blocks.now c.loop-plan.blocks c.step.new.blocks c.loop-plan.invariant.goes.keeps c.step.ensures.keeps

pub returns-in_err-block-clause-value : goal.returns-in_err-block-clause-value
returns-in_err-block-clause-value g c = λ steady. carried c.from_residual-in_err-block.result Memory _ _ c.from_residual-in_err-block.ensures.1 (inl (lacks-memory g.S.Store.facts c.args.blocks.now.disk.store c.step.new.blocks.disk.store))

pub returns-in_err-block-clause-refusals : goal.returns-in_err-block-clause-refusals
returns-in_err-block-clause-refusals g c = carried_so c.from_residual-in_err-block.result Memory _ c.from_residual-in_err-block.ensures.1 (inl (lacks-memory g.S.Store.facts c.args.blocks.now.disk.store c.step.new.blocks.disk.store))

pub returns-in_err-push-clause-keeps : goal.returns-in_err-push-clause-keeps
returns-in_err-push-clause-keeps g c = keeps-trans g.S.Store.facts c.args.blocks.now c.loop-plan.blocks c.step.new.blocks c.loop-plan.invariant.goes.keeps c.step.ensures.keeps

pub returns-in_err-push-clause-value : goal.returns-in_err-push-clause-value
returns-in_err-push-clause-value g c = λ steady. carried c.from_residual-in_err-push.result Memory _ _ c.from_residual-in_err-push.ensures.1 (inl (lacks-memory g.S.Store.facts c.args.blocks.now.disk.store c.step.new.blocks.disk.store))

pub returns-in_err-push-clause-refusals : goal.returns-in_err-push-clause-refusals
returns-in_err-push-clause-refusals g c = carried_so c.from_residual-in_err-push.result Memory _ c.from_residual-in_err-push.ensures.1 (inl (lacks-memory g.S.Store.facts c.args.blocks.now.disk.store c.step.new.blocks.disk.store))

pub loop-plan-preserved : goal.loop-plan-preserved
loop-plan-preserved g c =
    let a = c.args.blocks.now in let e = c.step.new.blocks in let old = c.loop-plan.walk in let new = c.step.new.self in let h = c.in-Some.handle in
    let m : Member = record { handle = h; block = c.in_ok-block.block } in
    let step = stepped e.document old new c.in_ok-handle.field-0 h c.in-Some.is c.in_ok-handle.ensures.value in
    let keeps = keeps-trans g.S.Store.facts a c.loop-plan.blocks e c.loop-plan.invariant.goes.keeps c.step.ensures.keeps in
    let pushed : c.push.new.self.items ≡ c.loop-plan.plan.items ++ m ∷ [] = c.in_ok-push.ensures.items in
    let saved : imaged_block c.in_ok-block.block ≡ block_at e.document h.0 = c.in_ok-block.ensures ∙ block_read e.document h.0 c.attributes-attributes.result (body_value c.body.result.now) c.attributes-attributes.ensures.value c.body.ensures in
    record {
      goes = goes-step g.S.Store.facts a c.loop-plan.blocks e c.in_ok-walk.walk old c.loop-plan.invariant.goes c.step.ensures.keeps h.0 new step;
      handles = ap (λ (ms : List Member). handles_of (imaged_blocks ms)) pushed ∙ met_more c.loop-plan.plan.items m old.met new.met step.met c.loop-plan.invariant.handles;
      plan = λ steady. ap (λ (ms : List Member). imaged_blocks ms) pushed
          ∙ saved_more c.loop-plan.plan.items m a.document old.met new.met step.met (saved ∙ ap (λ (d : Document). block_at d h.0) (keeps-same g.S.Store.facts a e keeps steady)) (c.loop-plan.invariant.plan steady);
    }

pub new-requires-2 : goal.new-requires-2
new-requires-2 g c =
    let has = c.loop-plan.invariant.goes.met c.args.root.0 (none_has_met c.args.blocks.now.document c.args.root.0 c.in_ok-walk.walk c.in_ok-walk.ensures) in
    let ms = c.loop-plan.plan.items in
    let many = ap (λ (hs : List ℕ). length hs) c.loop-plan.invariant.handles in
    let each : length (handles_of (imaged_blocks ms)) ≡ length (imaged_blocks ms) = length-map (imaged_blocks ms) (λ p. p.0) in
    let all : length (imaged_blocks ms) ≡ length ms = length-map ms (λ m. (m.handle.0, imaged_block m.block)) in
    omega (arith, has.blocks.few, many, each, all)

pub returns-clause-keeps : goal.returns-clause-keeps
returns-clause-keeps g c = keeps-trans g.S.Store.facts c.args.blocks.now c.loop-plan.blocks c.step.new.blocks c.loop-plan.invariant.goes.keeps c.step.ensures.keeps

pub returns-clause-value : goal.returns-clause-value
returns-clause-value g c = λ steady.
    let a = c.args.blocks.now in let e = c.step.new.blocks in let old = c.loop-plan.walk in let new = c.step.new.self in
    let over = ended e.document old new c.in_ok-handle.field-0 c.in_default.not-Some c.in_ok-handle.ensures.value in
    let keeps = keeps-trans g.S.Store.facts a c.loop-plan.blocks e c.loop-plan.invariant.goes.keeps c.step.ensures.keeps in
    let walked = goes-ended g.S.Store.facts a c.loop-plan.blocks e c.in_ok-walk.walk old c.loop-plan.invariant.goes c.step.ensures.keeps new over c.args.root.0 steady (at_root a.document c.args.root.0 c.in_ok-walk.walk c.in_ok-walk.ensures) in
    let met : handles_of (imaged_blocks c.loop-plan.plan.items) ≡ new.met = c.loop-plan.invariant.handles ∙ sym (ap (λ w. w.met) over.same) in
    let saved : imaged_blocks c.loop-plan.plan.items ≡ chain_blocks_of e.document (handles_of (imaged_blocks c.loop-plan.plan.items)) =
    c.loop-plan.invariant.plan steady ∙ (λ j. chain_blocks_of (sym (keeps-same g.S.Store.facts a e keeps steady) j) (sym c.loop-plan.invariant.handles j)) in
    subst (λ (ms : List Member). AreChainBlocks e.document c.args.root.0 (imaged_blocks ms)) (sym (ap (λ v. v.items) c.new-2.ensures)) (record { walked = walked ∙ ap (λ (hs : List ℕ). Some hs) (sym met); saved = saved })

pub returns-clause-met : goal.returns-clause-met
returns-clause-met g c =
    let a = c.args.blocks.now in let e = c.step.new.blocks in let old = c.loop-plan.walk in let new = c.step.new.self in
    let over = ended e.document old new c.in_ok-handle.field-0 c.in_default.not-Some c.in_ok-handle.ensures.value in
    let met : handles_of (imaged_blocks c.loop-plan.plan.items) ≡ new.met = c.loop-plan.invariant.handles ∙ sym (ap (λ w. w.met) over.same) in
    let are = goes-met g.S.Store.facts a c.loop-plan.blocks e c.in_ok-walk.walk old c.loop-plan.invariant.goes c.step.ensures.keeps new over c.args.root.0 (none_has_met a.document c.args.root.0 c.in_ok-walk.walk c.in_ok-walk.ensures) in
    let at : handles_of (imaged_blocks c.new-2.result.list.items) ≡ new.met = ap (λ v. handles_of (imaged_blocks v.items)) c.new-2.ensures ∙ met in
    rw at are
