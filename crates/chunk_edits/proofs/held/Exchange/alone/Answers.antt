use Rattle.std.proofs.Common.{ℕ, List}
use Rattle.chunk_edits.proofs.SplicingLemmas.{row_of_both}
use Rattle.chunk_edits.proofs.held.Exchange.alone.Goals as goal

pub returns-clause-row : goal.returns-clause-row
returns-clause-row c =
    let old : List ℕ = c.args.self.now.old.now in let new : List ℕ = c.args.self.now.new.now in
    row_of_both old new c.copy_from_slice.new.self c.copy_from_slice-2.new.self _ _ c.copy_from_slice.ensures.after c.copy_from_slice-2.ensures.after
