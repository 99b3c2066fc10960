use Rattle.std.proofs.Common.{◌≡◌, ◌∙◌, ◌++◌, ◌∷◌, [], ℕ, List, refl, ap}
use Rattle.chunk_edits.specs.Patching.{PatchPiece, Put}
use Rattle.chunk_arrays.proofs.DraftingLemmas.{adds-piece}
use Rattle.chunk_arrays.proofs.draft.Draft.replace.Goals as goal

pub returns : goal.returns
returns c =
    let old : List ℕ = c.args.old.now in
    let piece : PatchPiece = Put old c.args.new.now in
    let same : old ≡ old = refl in
    adds-piece c.args.self.now _ piece old
    (c.in_ok-put.ensures.ok ∙ ap (λ (ps : List PatchPiece). ps ++ piece ∷ []) c.in_ok-settle.ensures.0)
    c.in_ok-settle.ensures.1 same
