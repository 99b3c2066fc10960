use Rattle.std.proofs.Common.{◌≡◌, ◌-◌, ◌∙◌, ℕ, ap, refl, subst, sym, arith}
use Rattle.lmem_heap.specs.Pieces.{piece_space, word_in, entry}
use Rattle.lmem_heap.specs.Space.{HasNext}
use Rattle.lmem_heap.proofs.EntryLemmas.{low_ends, total_small, detached_well_formed, next_well_formed}
use Rattle.lmem_heap.proofs.MovingLemmas.{IsSameSize, same_size, resized_from}
use Rattle.lmem_heap.proofs.space.Space.enlarge_below.Goals.{After-find_run-size, After-extend-q, After-open_gap}
use Rattle.lmem_heap.proofs.space.Space.enlarge_below.Goals as goal

-- the room is there without a change of the chunks
found : (c : After-extend-q) → IsSameSize c.args.self.now c.extend-q.new.self c.args.i
found c =
    let e = c.extend-q.ensures in
    same_size c.args.self.now c.extend-q.new.self c.args.i c.requires.well_formed (detached_well_formed e.detached) e.unmoved.slots e.unmoved.chunks c.requires.slot c.requires.live

size : (c : After-find_run-size) → c.find_run-size.result.size ≡ word_in c.args.self.now.region (entry c.args.self.now.region c.args.i)
size c = (c.find_run-size.ensures.some c.requires.live).1

opened : (c : After-open_gap) → IsSameSize c.args.self.now c.open_gap.new.self c.args.i
opened c =
    let g = c.open_gap.ensures in
    same_size c.args.self.now c.open_gap.new.self c.args.i c.requires.well_formed (next_well_formed g.next) g.slots g.chunks c.requires.slot c.requires.live

pub table_end-requires : goal.table_end-requires
table_end-requires c = omega (arith, c.requires.well_formed.held.tiled.table, low_ends c.requires.well_formed)

pub overflow_sub-self : goal.overflow_sub-self
overflow_sub-self c = omega (arith, c.table_end.ensures, c.requires.well_formed.held.tiled.table)

pub extend-q-requires-clause-fits : goal.extend-q-requires-clause-fits
extend-q-requires-clause-fits c = omega (arith, c.if-self-table_end.true, c.table_end.ensures, c.requires.well_formed.held.tiled.table)

pub move_to-requires-clause-more : goal.move_to-requires-clause-more
move_to-requires-clause-more c = omega (arith, (found (goal.at.move_to-requires-clause-more c).After-extend-q).size, c.requires.more)

pub returns-then-self-table_end-clause-resized : goal.returns-then-self-table_end-clause-resized
returns-then-self-table_end-clause-resized c =
    let e = c.extend-q.ensures.unmoved in
    resized_from c.args.self.now c.extend-q.new.self c.move_to.new.self c.move_to.new.self c.args.i c.args.n e.slots e.total e.chunks (found (goal.at.returns-then-self-table_end-clause-resized c).After-extend-q).size c.move_to.ensures.resized refl refl refl

pub overflow_sub-room : goal.overflow_sub-room
overflow_sub-room c = omega (arith, size (goal.at.overflow_sub-room c).After-find_run-size, c.requires.more, c.requires.room)

pub open_gap-requires-clause-some : goal.open_gap-requires-clause-some
open_gap-requires-clause-some c = omega (arith, size (goal.at.open_gap-requires-clause-some c).After-find_run-size, c.requires.more, c.requires.room)

pub open_gap-requires-clause-fits : goal.open_gap-requires-clause-fits
open_gap-requires-clause-fits c =
    let k = c.requires.well_formed in
    omega (arith, size (goal.at.open_gap-requires-clause-fits c).After-find_run-size, c.requires.room, c.requires.fits, c.requires.low, total_small c.args.self.now k.pieces k.free k.held)

pub absorb-requires-clause-more : goal.absorb-requires-clause-more
absorb-requires-clause-more c = omega (arith, (opened (goal.at.absorb-requires-clause-more c).After-open_gap).size, c.requires.more)

pub absorb-requires-clause-next : goal.absorb-requires-clause-next
absorb-requires-clause-next c =
    let v = c.open_gap.new.self in let i = c.args.i in let count = c.find_run-size.result.size in let n = c.args.n in
    let is : count ≡ word_in v.region (entry v.region i) = size (goal.at.absorb-requires-clause-next c).After-find_run-size ∙ sym (opened (goal.at.absorb-requires-clause-next c).After-open_gap).size in
    let same : c.args.room - piece_space count ≡ piece_space n - piece_space (word_in v.region (entry v.region i)) = ap (λ (m : ℕ). m - piece_space count) c.requires.room ∙ ap (λ (m : ℕ). piece_space n - piece_space m) is in
    subst (λ (m : ℕ). HasNext v i m) same (rw c.piece_space.ensures at c.open_gap.ensures.next)

pub returns-else-self-table_end-clause-resized : goal.returns-else-self-table_end-clause-resized
returns-else-self-table_end-clause-resized c =
    let g = c.open_gap.ensures in let u = c.absorb.new.self in
    resized_from c.args.self.now c.open_gap.new.self u u c.args.i c.args.n g.slots g.total g.chunks (opened (goal.at.returns-else-self-table_end-clause-resized c).After-open_gap).size c.absorb.ensures.resized refl refl refl
