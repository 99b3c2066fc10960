use Rattle.std.proofs.Common.{ℕ, List, [], Some, None, get_or, set, unwrap_or, ap, sym, ◌∙◌, arith}
use Rattle.lmem_heap.proofs.ChunkBytesLemmas.{replaced_same}
use Rattle.lmem_heap.proofs.table.ChunkTable.replace.Goals as goal

pub returns-then-new-k : goal.returns-then-new-k
returns-then-new-k c =
    let m = c.args.self.now in let i = c.args.found.slot in
    c.write_found.ensures.chunks ∙ ap (λ (x : List ℕ). set m.chunks i (Some x)) (replaced_same (unwrap_or (get_or m.chunks i None) []) c.args.new.now c.args.at c.args.k (sym c.if-new-k.true) (omega (arith, c.if-new-k.true, c.requires.range)))
