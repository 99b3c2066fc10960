use Rattle.std.proofs.Common.{ℕ, ◌+◌, ◌<◌, Option, Some, None, MatchOption, arith}
use Rattle.lmem_heap.specs.Pieces.{size_head}
use Rattle.lmem_heap.specs.Tiled.{table_end}
use Rattle.lmem_heap.proofs.PieceLemmas.{lies_end}
use Rattle.lmem_heap.proofs.space.Space.find_room.Goals as goal

pub table_end-requires : goal.table_end-requires
table_end-requires c = let h = c.requires.well_formed.held in omega (arith, h.tiled.table, lies_end size_head c.args.self.now.region c.args.self.now.low c.requires.well_formed.pieces 65520 h.tiled.lies)

pub overflow_sub-self : goal.overflow_sub-self
overflow_sub-self c = omega (arith, c.table_end.ensures, c.requires.well_formed.held.tiled.table)

pub extend-requires-clause-fits : goal.extend-requires-clause-fits
extend-requires-clause-fits c = omega (arith, c.if-self-table_end.true, c.table_end.ensures, c.requires.well_formed.held.tiled.table)

-- what each outcome of a search says
each_case : (A B : Type 0) (P Q : ℕ → Type 0) → (A → B) → ((p : ℕ) → P p → Q p) → (r : Option ℕ) → MatchOption r A P → MatchOption r B Q
each_case A B P Q none some None h = none h
each_case A B P Q none some (Some p) h = some p h

pub returns-else-self-table_end : goal.returns-else-self-table_end
returns-else-self-table_end c =
    let full : c.args.self.now.low < table_end c.args.self.now.slots + c.args.room = omega (arith, c.if-self-table_end.false, c.table_end.ensures) in
    record { found = each_case _ _ _ _ (λ h. (h.0, h.1, full)) (λ p h. (h.0, h.1)) c.take.result c.take.ensures.taken }
