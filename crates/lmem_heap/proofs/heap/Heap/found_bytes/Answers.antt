use Rattle.std.proofs.Common.{List, ℕ, [], Option, unwrap_or, sym, ap, ◌∙◌}
use Rattle.lmem_heap.proofs.FoundLemmas.{chunk_there, found_at}
use Rattle.lmem_heap.proofs.heap.Heap.found_bytes.Goals as goal

pub bytes-requires : goal.bytes-requires
bytes-requires c = found_at c.self.inside.table c.args.self.now c.args.found c.self.view_is c.requires

pub returns : goal.returns
returns c = c.bytes.ensures ∙ ap (λ (o : Option (List ℕ)). unwrap_or o []) (sym (chunk_there c.self.inside.table c.args.self.now c.args.found c.self.view_is))
