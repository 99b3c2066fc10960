use Rattle.std.proofs.Common.{◌≡◌, ◌∙◌, ℕ, List, [], length, sym, ap, refl}
use Rattle.std.proofs.lemmas.Bool.{eqb-true}
use Rattle.geos_model.specs.Words.{word}
use Rattle.chunk_arrays.proofs.DraftingLemmas.{adds-as, adds-none, no_bytes, word_again}
use Rattle.chunk_arrays.proofs.rewriting.draft_first.Goals as goal

-- none of either
pub returns-then-is_empty : goal.returns-then-is_empty
returns-then-is_empty c =
    let none : length c.args.new.now ≡ 0 = eqb-true (length c.args.new.now) 0 (sym c.if-is_empty.ensures) in
    adds-as c.args.draft.now c.args.draft.now [] [] _ _ (sym (no_bytes c.args.old.now (c.requires.alike ∙ none))) (sym (no_bytes c.args.new.now none)) (adds-none c.args.draft.now)

pub put_word-requires-clause-two : goal.put_word-requires-clause-two
put_word-requires-clause-two c = c.requires.alike ∙ c.if-new-ne2.false

pub returns : goal.returns
returns c =
    let old : List ℕ = c.args.old.now in
    let new : List ℕ = c.args.new.now in
    let again = word_again new (c.if-new-ne2.false) (λ i. (c.type_inv.new i).fits) in
    adds-as c.args.draft.now c.put_word.new.self old (word c.read_u16.result) old new refl
    (ap word c.read_u16.ensures ∙ again) c.in_ok-put_word.ensures
