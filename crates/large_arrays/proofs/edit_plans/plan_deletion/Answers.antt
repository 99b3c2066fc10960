use Rattle.std.proofs.Common.{◌∙◌, ◌+◌, ◌<◌, ℕ, Some, sym, ap, subst, inl, inr}
use Rattle.geos_model.specs.Document.{Document}
use Rattle.geos_model.specs.declared.fault.Fault.{Fault}
use Rattle.vm_blocks.specs.Keeping.{IsEnvironmentFault}
use Rattle.vm_blocks.proofs.KeepingLaws.{keeps-trans, keeps-steady, lacks-later}
use Rattle.vm_chains.proofs.Loading.{carried, carried_so, still_room}
use Rattle.geos_model.specs.LargeLayout.{Root, total_count}
use Rattle.geos_model.specs.LargeBlocks.{root_at}
use Rattle.large_arrays.specs.Replacements.{IsDeletion}
use Rattle.large_arrays.proofs.ElementAnswers.{at-end}
use Rattle.large_arrays.proofs.EditRefusals.{deletion-before, deletion-refused}
use Rattle.large_arrays.specs.EditPlans.{IsPastFault}
use Rattle.large_arrays.proofs.EditAnswers.{IsFoundEdit, deletes-so, deletion-can, window-refusal}
use Rattle.large_arrays.proofs.edit_plans.plan_deletion.Goals as goal

pub returns-in_err-load_root-clause-value : goal.returns-in_err-load_root-clause-value
returns-in_err-load_root-clause-value g c = λ steady.
    let e = c.load_root.new.blocks in
    carried c.from_residual.result c.in_err-load_root.field-0.0 _ _ c.from_residual.ensures.1
    (elim c.in_err-load_root.ensures.value [
      | inl lack ↦ inl lack
      | inr first ↦ inr (deletion-before e.document c.args.root.0 c.args.i c.args.n c.in_err-load_root.field-0.0 first)
    ])

pub returns-in_err-load_root-clause-refusals : goal.returns-in_err-load_root-clause-refusals
returns-in_err-load_root-clause-refusals g c = carried_so c.from_residual.result c.in_err-load_root.field-0.0 _ c.from_residual.ensures.1 (inl (inl c.in_err-load_root.ensures.refusals))

pub returns-in_err-edit-clause-value : goal.returns-in_err-edit-clause-value
returns-in_err-edit-clause-value g c = λ steady.
    let m = c.load_root.new.blocks in let there = c.in_ok-load_root.ensures.value.1 in let fault = c.in_err-edit.field-0.0 in
    carried c.from_residual-in_err-edit.result fault _ _ c.from_residual-in_err-edit.ensures.1
    (inr (deletion-refused m.document c.args.root.0 c.args.i c.args.n there.raw there.root (subst (λ (r : Root). total_count r < c.args.i + c.args.n) c.loaded_root.ensures c.in_err-edit.ensures.1)
    ∙ ap (λ (f : Fault). Some f) (sym c.in_err-edit.ensures.0)))

pub returns-in_err-edit-clause-refusals : goal.returns-in_err-edit-clause-refusals
returns-in_err-edit-clause-refusals g c =
    let a = c.args.blocks.now in let m = c.load_root.new.blocks in let fault = c.in_err-edit.field-0.0 in
    carried_so c.from_residual-in_err-edit.result fault _ c.from_residual-in_err-edit.ensures.1
    (inl (inr c.in_err-edit.ensures.0))

pub plan_replacement-requires : goal.plan_replacement-requires
plan_replacement-requires g c =
    let a = c.args.blocks.now in let m = c.load_root.new.blocks in let there = c.in_ok-load_root.ensures.value.1 in let edit = c.in_ok-edit.edit in
    let is : IsDeletion (root_at m.document c.args.root.0) c.args.i c.args.n edit = subst (λ (r : Root). IsDeletion r c.args.i c.args.n edit) c.loaded_root.ensures c.in_ok-edit.ensures in record {
      room = still_room g.S.Store.facts a m c.load_root.ensures.keeps c.requires.room;
      loaded = there;
      edit = deletion-can (root_at m.document c.args.root.0) c.args.i c.args.n edit is;
    }

pub returns-clause-keeps : goal.returns-clause-keeps
returns-clause-keeps g c = keeps-trans g.S.Store.facts c.args.blocks.now c.load_root.new.blocks c.plan_replacement.new.blocks c.load_root.ensures.keeps c.plan_replacement.ensures.keeps

pub returns-clause-value : goal.returns-clause-value
returns-clause-value g c = λ steady.
    let f = g.S.Store.facts in let a = c.args.blocks.now in let m = c.load_root.new.blocks in let e = c.plan_replacement.new.blocks in let b : ℕ = c.args.root.0 in
    let there = c.in_ok-load_root.ensures.value.1 in let edit = c.in_ok-edit.edit in
    let found : IsFoundEdit (λ root. IsDeletion root c.args.i c.args.n edit) m.document b = record {
      raw = there.raw;
      is = there.root;
      edit = subst (λ (r : Root). IsDeletion r c.args.i c.args.n edit) c.loaded_root.ensures c.in_ok-edit.ensures;
    } in
    deletes-so (λ changes. changes.items) (IsEnvironmentFault f m.disk.store e.disk.store) (IsEnvironmentFault f a.disk.store e.disk.store)
    (λ fault lack. lacks-later f a m e.disk.store fault c.load_root.ensures.keeps lack) e.document b edit c.plan_replacement.result c.args.i c.args.n
    (at-end f a m e c.load_root.ensures.keeps c.plan_replacement.ensures.keeps (λ (d : Document). IsFoundEdit (λ root. IsDeletion root c.args.i c.args.n edit) d b) steady found)
    (c.plan_replacement.ensures.value (keeps-steady f a m c.load_root.ensures.keeps steady))

pub returns-clause-refusals : goal.returns-clause-refusals
returns-clause-refusals g c =
    let f = g.S.Store.facts in let a = c.args.blocks.now in let m = c.load_root.new.blocks in let e = c.plan_replacement.new.blocks in
    window-refusal IsPastFault (IsEnvironmentFault f m.disk.store e.disk.store) (IsEnvironmentFault f a.disk.store e.disk.store) a.document c.args.root.0 c.plan_replacement.result
    (λ fault lack. lacks-later f a m e.disk.store fault c.load_root.ensures.keeps lack) c.plan_replacement.ensures.refusals
