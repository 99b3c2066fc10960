use Rattle.std.proofs.Common.{◌∙◌, ◌/◌, ◌++◌, ◌∷◌, [], ℕ, List, length, ap, refl}
use Rattle.chunk_edits.specs.Patching.{PatchPiece, Rebase}
use Rattle.chunk_arrays.proofs.DraftingLemmas.{adds-piece, words_piece}
use Rattle.chunk_arrays.proofs.draft.Draft.rebase.Goals as goal

pub returns : goal.returns
returns c =
    let words : List ℕ = c.args.words.now in
    let piece : PatchPiece = Rebase (length words / 2) c.args.from c.args.to in
    adds-piece c.args.self.now _ piece words
    (c.in_ok-rebase.ensures.ok ∙ ap (λ (ps : List PatchPiece). ps ++ piece ∷ []) c.in_ok-settle.ensures.0)
    c.in_ok-settle.ensures.1
    (words_piece words (length words / 2) c.args.from c.args.to refl c.requires.whole (λ i. (c.type_inv.words i).fits))
