use Rattle.std.proofs.Common.{sym, subst}
use Rattle.geos_model.specs.Targets.{chunk_array_edit}
use Rattle.geos_model.specs.declared.command.Done.TheVariants as done
use Rattle.geos_model.specs.declared.target.ChunkArrayEdit.{ChunkArrayEdit}
use Rattle.doc_edits.proofs.ArrayEdits.{inserted, given, sized, deleted, zeroed}
use Rattle.doc_edits.proofs.ChunkParts.{PatchesOf, array_built}
use Rattle.doc_edits.proofs.building.build_in_array.Goals as goal

pub returns-in-Insert : goal.returns-in-Insert
returns-in-Insert c =
    subst (λ (edit : ChunkArrayEdit). PatchesOf c.args.bytes.now done.Nothing c.insert.result (λ b k. chunk_array_edit b k edit)) (sym c.in-Insert.is)
    (array_built c.args.bytes.now _ _ _ _ done.Nothing (λ d b k. inserted d b k c.in-Insert.i c.in-Insert.new.now) c.insert.result c.insert.ensures)

pub returns-in-Set : goal.returns-in-Set
returns-in-Set c =
    subst (λ (edit : ChunkArrayEdit). PatchesOf c.args.bytes.now done.Nothing c.set.result (λ b k. chunk_array_edit b k edit)) (sym c.in-Set.is)
    (array_built c.args.bytes.now _ _ _ _ done.Nothing (λ d b k. given d b k c.in-Set.i c.in-Set.new.now) c.set.result c.set.ensures)

pub returns-in-Resize : goal.returns-in-Resize
returns-in-Resize c =
    subst (λ (edit : ChunkArrayEdit). PatchesOf c.args.bytes.now done.Nothing c.resize.result (λ b k. chunk_array_edit b k edit)) (sym c.in-Resize.is)
    (array_built c.args.bytes.now _ _ _ _ done.Nothing (λ d b k. sized d b k c.in-Resize.i c.in-Resize.n) c.resize.result c.resize.ensures)

pub returns-in-Delete : goal.returns-in-Delete
returns-in-Delete c =
    subst (λ (edit : ChunkArrayEdit). PatchesOf c.args.bytes.now done.Nothing c.delete.result (λ b k. chunk_array_edit b k edit)) (sym c.in-Delete.is)
    (array_built c.args.bytes.now _ _ _ _ done.Nothing (λ d b k. deleted d b k c.in-Delete.i c.in-Delete.k) c.delete.result c.delete.ensures)

pub returns-in-Zero : goal.returns-in-Zero
returns-in-Zero c =
    subst (λ (edit : ChunkArrayEdit). PatchesOf c.args.bytes.now done.Nothing c.zero.result (λ b k. chunk_array_edit b k edit)) (sym c.in-Zero.is)
    (array_built c.args.bytes.now _ _ _ _ done.Nothing (λ d b k. zeroed d b k) c.zero.result c.zero.ensures)
