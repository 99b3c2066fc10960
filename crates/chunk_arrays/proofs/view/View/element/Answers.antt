use Rattle.std.proofs.Common.{◌∙◌, arith}
use Rattle.chunk_arrays.proofs.PlaceLemmas.{one-is}
use Rattle.chunk_arrays.proofs.view.View.element.Goals as goal

pub overflow_add-i : goal.overflow_add-i
overflow_add-i c = let few = c.args.self.now.few in omega (arith, few)

pub returns : goal.returns
returns c = c.run.ensures ∙ one-is c.args.self.now.array.elements c.args.i c.requires
