use Rattle.std.proofs.Common.{◌∙◌, sym, ap, length, arith}
use Rattle.chunk_arrays.proofs.CutLemmas.{word_at-lt}
use Rattle.geos_model.specs.LargeLayout.{Root}
use Rattle.large_bodies.proofs.RootLemmas.{length-counts_read, length-branches_read}
use Rattle.large_bodies.proofs.root.RootView.branches.Goals as goal

pub returns-clause-counts : goal.returns-clause-counts
returns-clause-counts c =
    c.self.invariant.branches ∙ sym (length-counts_read c.self.inside.bytes.now) ∙ ap (λ (r : Root). length r.counts) c.self.view_is

pub returns-clause-branches : goal.returns-clause-branches
returns-clause-branches c =
    c.self.invariant.branches ∙ sym (length-branches_read c.self.inside.bytes.now) ∙ ap (λ (r : Root). length r.branches) c.self.view_is

pub returns-clause-few : goal.returns-clause-few
returns-clause-few c = let low = word_at-lt c.self.inside.bytes.now c.self.invariant.are_bytes 4 in let is = c.self.invariant.branches in omega (arith, low, is)
