use Rattle.std.proofs.Common.{ℕ, List}
use Rattle.chunk_edits.proofs.SplicingLemmas.{parts_in_row, row_of_both}
use Rattle.chunk_edits.proofs.parts.Splice.of_few.Goals as goal

pub returns : goal.returns
returns c =
    let old : List ℕ = c.args.old.now in let new : List ℕ = c.args.new.now in
    parts_in_row c.args.at old new _
    (row_of_both old new c.copy_from_slice.new.self c.copy_from_slice-2.new.self _ _ c.copy_from_slice.ensures.after c.copy_from_slice-2.ensures.after)
