use Rattle.std.proofs.Common.{◌∷◌, [], refl}
use Rattle.std.proofs.lemmas.Result.{IfErr-weaker}
use Rattle.geos_model.specs.ChangedBlocks.{inserted_blocks, set_blocks, deleted_blocks}
use Rattle.geos_model.specs.Meaning.{conditions}
use Rattle.geos_model.specs.Targets.{large_edit}
use Rattle.geos_model.specs.declared.command.Edit.TheVariants as edits
use Rattle.geos_model.specs.declared.fault.Fault.TheVariants.{NoElement, Range, TooBig}
use Rattle.geos_model.specs.declared.target.LargeEdit.{LargeEdit}
use Rattle.geos_model.specs.declared.target.LargeEdit.TheVariants as large_edits
use Rattle.vm_blocks.specs.Keeping.{IsEnvironmentFault}
use Rattle.large_arrays.specs.EditPlans.{IsGivenFault, IsPastFault, IsSettingFault}
use Rattle.doc_edits.proofs.LargePlans.{given_among, large_begins, large_planned, large_refused, large_why, past_among, setting_among}
use Rattle.doc_edits.proofs.RoomLemmas.{never_unseen}
use Rattle.doc_edits.proofs.large_plans.plan_large.Goals as goal

pub returns-in_err-test_chain : goal.returns-in_err-test_chain
returns-in_err-test_chain g c =
    large_refused c.from_residual.ensures.1 c.args.root (large_begins c.args.root c.args.edit) c.in_err-test_chain.ensures.value

pub returns-in-Insert : goal.returns-in-Insert
returns-in-Insert g c =
    let edit : LargeEdit = large_edits.Insert c.in-Insert.i c.in-Insert.bytes in
    let seen = never_unseen c.args.root.0 (conditions (large_edit c.args.root edit)) (large_begins c.args.root edit) c.args.blocks.now.document c.in_ok-test_chain.ensures.raw in
    let a = c.args.blocks.now in let b = c.plan_insertion.new.blocks in let r = c.plan_insertion.result in let did = c.plan_insertion.ensures in
    rw c.in-Insert.is (large_planned g.S.Store.facts (edits.InsertLarge c.args.root c.in-Insert.i c.in-Insert.bytes.now) a b (inserted_blocks b.document c.args.root.0 c.in-Insert.i.0 c.in-Insert.bytes.now) c.in_ok-test_chain.ensures.value seen did.keeps r did.value did.listed did.some
    (IfErr-weaker r _ _ (large_why (IsEnvironmentFault g.S.Store.facts a.disk.store b.disk.store) IsGivenFault a.document c.args.root.0 (Range ∷ TooBig ∷ []) given_among refl refl refl refl) did.refusals) refl refl)

pub returns-in-Set : goal.returns-in-Set
returns-in-Set g c =
    let edit : LargeEdit = large_edits.Set c.in-Set.i c.in-Set.bytes in
    let seen = never_unseen c.args.root.0 (conditions (large_edit c.args.root edit)) (large_begins c.args.root edit) c.args.blocks.now.document c.in_ok-test_chain.ensures.raw in
    let a = c.args.blocks.now in let b = c.plan_setting.new.blocks in let r = c.plan_setting.result in let did = c.plan_setting.ensures in
    rw c.in-Set.is (large_planned g.S.Store.facts (edits.SetLarge c.args.root c.in-Set.i c.in-Set.bytes.now) a b (set_blocks b.document c.args.root.0 c.in-Set.i.0 c.in-Set.bytes.now) c.in_ok-test_chain.ensures.value seen did.keeps r did.value did.listed did.some
    (IfErr-weaker r _ _ (large_why (IsEnvironmentFault g.S.Store.facts a.disk.store b.disk.store) IsSettingFault a.document c.args.root.0 (NoElement ∷ Range ∷ TooBig ∷ []) setting_among refl refl refl refl) did.refusals) refl refl)

pub returns-in-Delete : goal.returns-in-Delete
returns-in-Delete g c =
    let edit : LargeEdit = large_edits.Delete c.in-Delete.i c.in-Delete.n in
    let seen = never_unseen c.args.root.0 (conditions (large_edit c.args.root edit)) (large_begins c.args.root edit) c.args.blocks.now.document c.in_ok-test_chain.ensures.raw in
    let a = c.args.blocks.now in let b = c.plan_deletion.new.blocks in let r = c.plan_deletion.result in let did = c.plan_deletion.ensures in
    rw c.in-Delete.is (large_planned g.S.Store.facts (edits.DeleteLarge c.args.root c.in-Delete.i c.in-Delete.n) a b (deleted_blocks b.document c.args.root.0 c.in-Delete.i.0 c.in-Delete.n.0) c.in_ok-test_chain.ensures.value seen did.keeps r did.value did.listed did.some
    (IfErr-weaker r _ _ (large_why (IsEnvironmentFault g.S.Store.facts a.disk.store b.disk.store) IsPastFault a.document c.args.root.0 (NoElement ∷ []) past_among refl refl refl refl) did.refusals) refl refl)
