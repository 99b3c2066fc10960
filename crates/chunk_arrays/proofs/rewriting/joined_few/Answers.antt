use Rattle.chunk_arrays.proofs.AlikeLemmas.{row_of_three}
use Rattle.chunk_arrays.proofs.rewriting.joined_few.Goals as goal

pub returns : goal.returns
returns c =
    row_of_three c.args.element c.copy_from_slice.new.self c.copy_from_slice-2.new.self c.copy_from_slice-3.new.self _ _ _ c.requires.none
    c.copy_from_slice.ensures.after c.copy_from_slice-2.ensures.after c.copy_from_slice-3.ensures.after
