use Rattle.std.proofs.Common.{List, refl, sym, subst}
use Rattle.std.proofs.lemmas.Result.{IfOk-weaker}
use Rattle.chunk_edits.specs.Patching.{PatchPiece, PatchLeads}
use Rattle.geos_model.specs.LargeLayout.{root_bytes}
use Rattle.large_arrays.specs.Within.{root_within}
use Rattle.large_arrays.proofs.WithinRoots.{root-within}
use Rattle.large_arrays.proofs.within.root_patch.Goals as goal

pub returns-clause-leads : goal.returns-clause-leads
returns-clause-leads c =
    IfOk-weaker c.counts_patch.result _ _
    (λ patch is r i j new spot same edit.
    subst (λ (ps : List PatchPiece). PatchLeads ps (root_bytes r) (root_bytes (root_within r i j new))) (sym is)
    (root-within c.args.spot.now c.args.edit.now _ _ c.requires.place refl refl r i j new spot same edit)) c.counts_patch.ensures.pieces
