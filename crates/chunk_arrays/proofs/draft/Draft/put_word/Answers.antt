use Rattle.std.proofs.Common.{◌∙◌, ℕ, List, sym, ap, refl}
use Rattle.geos_model.specs.Words.{word}
use Rattle.chunk_arrays.proofs.DraftingLemmas.{adds-as, word_again}
use Rattle.chunk_arrays.proofs.draft.Draft.put_word.Goals as goal

pub returns-then-from-new : goal.returns-then-from-new
returns-then-from-new c =
    let old : List ℕ = c.args.old.now in
    let again = word_again old c.requires.two (λ i. (c.type_inv.old i).fits) in
    adds-as c.args.self.now c.keep.new.self old old old (word c.args.new) refl
    (sym again ∙ ap word (sym c.read_u16-from.ensures ∙ c.if-from-new.true)) c.keep.ensures
