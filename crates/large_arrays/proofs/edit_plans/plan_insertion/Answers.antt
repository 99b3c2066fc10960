use Rattle.std.proofs.Common.{◌≡◌, ◌≤◌, ℕ, Some, sym, subst, inl, inr}
use Rattle.geos_model.specs.Document.{Document}
use Rattle.geos_model.specs.Refusal.{first_refusal}
use Rattle.vm_blocks.specs.Keeping.{IsEnvironmentFault}
use Rattle.vm_blocks.proofs.KeepingLaws.{keeps-trans, keeps-steady, lacks-later}
use Rattle.vm_chains.proofs.Loading.{carried, carried_so, still_room}
use Rattle.geos_model.specs.LargeLayout.{Root, greatest_element_size}
use Rattle.geos_model.specs.LargeBlocks.{root_at}
use Rattle.large_arrays.specs.Replacements.{IsInsertion, insertion_conditions}
use Rattle.large_arrays.proofs.ElementAnswers.{at-end}
use Rattle.large_arrays.proofs.EditRefusals.{insertion-before, insertion-refused}
use Rattle.large_arrays.specs.EditPlans.{IsGivenFault}
use Rattle.large_arrays.proofs.EditAnswers.{IsFoundEdit, insertion-can, insertion-fault, inserts-so, root-least, window-refusal}
use Rattle.large_arrays.proofs.edit_plans.plan_insertion.Goals as goal

pub returns-in_err-load_root-clause-value : goal.returns-in_err-load_root-clause-value
returns-in_err-load_root-clause-value g c = λ steady.
    let e = c.load_root.new.blocks in
    carried c.from_residual.result c.in_err-load_root.field-0.0 _ _ c.from_residual.ensures.1
    (elim c.in_err-load_root.ensures.value [
      | inl lack ↦ inl lack
      | inr first ↦ inr (insertion-before e.document c.args.root.0 c.args.i c.args.bytes.now c.in_err-load_root.field-0.0 first)
    ])

pub returns-in_err-load_root-clause-refusals : goal.returns-in_err-load_root-clause-refusals
returns-in_err-load_root-clause-refusals g c = carried_so c.from_residual.result c.in_err-load_root.field-0.0 _ c.from_residual.ensures.1 (inl (inl c.in_err-load_root.ensures.refusals))

pub insertion-requires : goal.insertion-requires
insertion-requires g c =
    let m = c.load_root.new.blocks in let there = c.in_ok-load_root.ensures.value.1 in
    subst (λ (r : Root). r.size ≤ greatest_element_size) (sym c.loaded_root.ensures) (root-least m.document c.args.root.0 there.root)

pub returns-in_err-edit-clause-value : goal.returns-in_err-edit-clause-value
returns-in_err-edit-clause-value g c = λ steady.
    let m = c.load_root.new.blocks in let there = c.in_ok-load_root.ensures.value.1 in let fault = c.in_err-edit.field-0.0 in
    carried c.from_residual-in_err-edit.result fault _ _ c.from_residual-in_err-edit.ensures.1
    (inr (insertion-refused m.document c.args.root.0 c.args.i c.args.bytes.now there.raw there.root fault
    (subst (λ (r : Root). first_refusal (insertion_conditions r c.args.i c.args.bytes.now) ≡ Some fault) c.loaded_root.ensures c.in_err-edit.ensures)))

pub returns-in_err-edit-clause-refusals : goal.returns-in_err-edit-clause-refusals
returns-in_err-edit-clause-refusals g c =
    let a = c.args.blocks.now in let m = c.load_root.new.blocks in let fault = c.in_err-edit.field-0.0 in
    carried_so c.from_residual-in_err-edit.result fault _ c.from_residual-in_err-edit.ensures.1
    (insertion-fault (IsEnvironmentFault g.S.Store.facts a.disk.store m.disk.store) a.document c.args.root.0 c.loaded_root.result c.args.i c.args.bytes.now fault c.in_err-edit.ensures)

pub plan_replacement-requires : goal.plan_replacement-requires
plan_replacement-requires g c =
    let a = c.args.blocks.now in let m = c.load_root.new.blocks in let there = c.in_ok-load_root.ensures.value.1 in let edit = c.in_ok-edit.edit in
    let is : IsInsertion (root_at m.document c.args.root.0) c.args.i c.args.bytes.now edit = subst (λ (r : Root). IsInsertion r c.args.i c.args.bytes.now edit) c.loaded_root.ensures c.in_ok-edit.ensures in record {
      room = still_room g.S.Store.facts a m c.load_root.ensures.keeps c.requires.room;
      loaded = there;
      edit = insertion-can (root_at m.document c.args.root.0) c.args.i c.args.bytes.now edit is;
    }

pub returns-clause-keeps : goal.returns-clause-keeps
returns-clause-keeps g c = keeps-trans g.S.Store.facts c.args.blocks.now c.load_root.new.blocks c.plan_replacement.new.blocks c.load_root.ensures.keeps c.plan_replacement.ensures.keeps

pub returns-clause-value : goal.returns-clause-value
returns-clause-value g c = λ steady.
    let f = g.S.Store.facts in let a = c.args.blocks.now in let m = c.load_root.new.blocks in let e = c.plan_replacement.new.blocks in let b : ℕ = c.args.root.0 in
    let there = c.in_ok-load_root.ensures.value.1 in let edit = c.in_ok-edit.edit in
    let found : IsFoundEdit (λ root. IsInsertion root c.args.i c.args.bytes.now edit) m.document b = record {
      raw = there.raw;
      is = there.root;
      edit = subst (λ (r : Root). IsInsertion r c.args.i c.args.bytes.now edit) c.loaded_root.ensures c.in_ok-edit.ensures;
    } in
    inserts-so (λ changes. changes.items) (IsEnvironmentFault f m.disk.store e.disk.store) (IsEnvironmentFault f a.disk.store e.disk.store)
    (λ fault lack. lacks-later f a m e.disk.store fault c.load_root.ensures.keeps lack) e.document b edit c.plan_replacement.result c.args.i c.args.bytes.now
    (at-end f a m e c.load_root.ensures.keeps c.plan_replacement.ensures.keeps (λ (d : Document). IsFoundEdit (λ root. IsInsertion root c.args.i c.args.bytes.now edit) d b) steady found)
    (c.plan_replacement.ensures.value (keeps-steady f a m c.load_root.ensures.keeps steady))

pub returns-clause-refusals : goal.returns-clause-refusals
returns-clause-refusals g c =
    let f = g.S.Store.facts in let a = c.args.blocks.now in let m = c.load_root.new.blocks in let e = c.plan_replacement.new.blocks in
    window-refusal IsGivenFault (IsEnvironmentFault f m.disk.store e.disk.store) (IsEnvironmentFault f a.disk.store e.disk.store) a.document c.args.root.0 c.plan_replacement.result
    (λ fault lack. lacks-later f a m e.disk.store fault c.load_root.ensures.keeps lack) c.plan_replacement.ensures.refusals
