use Rattle.std.proofs.Common.{refl}
use Rattle.std.specs.List.{flat_map}
use Rattle.chunk_arrays.specs.Rewriting.{elements_of}
use Rattle.chunk_arrays.proofs.RewrittenLemmas.{elements-added}
use Rattle.chunk_arrays.proofs.rewriting.draft_elements.Goals as goal

pub returns : goal.returns
returns c =
    elements-added c.args.view.now.array c.args.from c.args.to c.count.result (elements_of c.args.new) c.requires.order c.count.ensures
    c.args.draft.now c.keep.new.self c.draft_new.new.draft c.keep-2.new.self
    c.run.result.now c.run-2.result.now (flat_map (λ x. x) (elements_of c.args.new)) c.run-3.result.now
    c.run.ensures c.run-2.ensures refl c.run-3.ensures
    c.keep.ensures c.in_ok-draft_new.ensures c.keep-2.ensures
