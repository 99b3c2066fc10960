use Rattle.std.proofs.Common.{◌-◌, ◌+◌, refl, ap, arith}
use Rattle.lmem_heap.specs.Pieces.{piece_space}
use Rattle.lmem_heap.proofs.EntryLemmas.{detached_well_formed, total_small}
use Rattle.lmem_heap.proofs.SinkingLemmas.{behind_facts}
use Rattle.lmem_heap.proofs.MovingLemmas.{IsSameSize, same_size, resized_from}
use Rattle.lmem_heap.proofs.space.Space.enlarge_there.Goals.{After-gather_apart-h, After-compact}
use Rattle.lmem_heap.proofs.space.Space.enlarge_there.Goals as goal

pub overflow_sub-self : goal.overflow_sub-self
overflow_sub-self c = let k = c.requires.well_formed in omega (arith, total_small c.args.self.now k.pieces k.free k.held)

pub overflow_sub-self-2 : goal.overflow_sub-self-2
overflow_sub-self-2 c = let k = c.requires.well_formed in omega (arith, total_small c.args.self.now k.pieces k.free k.held)

-- the chunk is the same where the free pieces became one
gathered : (c : After-gather_apart-h) → IsSameSize c.args.self.now c.gather_apart-h.new.self c.args.i
gathered c =
    let k = c.gather_apart-h.ensures in
    same_size c.args.self.now c.gather_apart-h.new.self c.args.i c.requires.well_formed (detached_well_formed k.detached) k.same.slots k.same.chunks c.requires.slot c.requires.live

-- and where all is free below the chunks
packed : (c : After-compact) → IsSameSize c.args.self.now c.compact.new.self c.args.i
packed c =
    let k = c.compact.ensures in
    same_size c.args.self.now c.compact.new.self c.args.i c.requires.well_formed k.well_formed k.same.slots k.same.chunks c.requires.slot c.requires.live

pub grow_into-requires-clause-live : goal.grow_into-requires-clause-live
grow_into-requires-clause-live c = (gathered (goal.at.grow_into-requires-clause-live c).After-gather_apart-h).live

pub grow_into-requires-clause-behind : goal.grow_into-requires-clause-behind
grow_into-requires-clause-behind c =
    let s = c.args.self.now in let e = gathered (goal.at.grow_into-requires-clause-behind c).After-gather_apart-h in
    (65520 - (s.low + s.total), c.gather_apart-h.ensures.behind c.args.i c.requires.slot e.live)

pub grow_into-requires-clause-more : goal.grow_into-requires-clause-more
grow_into-requires-clause-more c = omega (arith, ap piece_space (gathered (goal.at.grow_into-requires-clause-more c).After-gather_apart-h).size, c.requires.more)

pub grow_into-requires-clause-less : goal.grow_into-requires-clause-less
grow_into-requires-clause-less c =
    let s = c.args.self.now in let u = c.gather_apart-h.new.self in let e = gathered (goal.at.grow_into-requires-clause-less c).After-gather_apart-h in
    let f = behind_facts u c.args.i c.gather_apart-h.result (65520 - (s.low + s.total)) (c.gather_apart-h.ensures.behind c.args.i c.requires.slot e.live) in
    let own = (c.find_run.ensures.some c.requires.live).1 in
    omega (arith, ap piece_space e.size, f.head, c.requires.room, c.piece_space.ensures, ap piece_space own, c.if-self-lack.true)

pub enlarge_below-requires-clause-live : goal.enlarge_below-requires-clause-live
enlarge_below-requires-clause-live c = (packed (goal.at.enlarge_below-requires-clause-live c).After-compact).live

pub enlarge_below-requires-clause-more : goal.enlarge_below-requires-clause-more
enlarge_below-requires-clause-more c = omega (arith, ap piece_space (packed (goal.at.enlarge_below-requires-clause-more c).After-compact).size, c.requires.more)

pub enlarge_below-requires-clause-fits : goal.enlarge_below-requires-clause-fits
enlarge_below-requires-clause-fits c =
    let k = c.compact.ensures.same in omega (arith, ap piece_space (packed (goal.at.enlarge_below-requires-clause-fits c).After-compact).size, c.requires.fits, k.slots, k.total)

pub returns-then-self-lack-clause-resized : goal.returns-then-self-lack-clause-resized
returns-then-self-lack-clause-resized c =
    let k = c.gather_apart-h.ensures.same in let u = c.grow_into.new.self in
    resized_from c.args.self.now c.gather_apart-h.new.self u u c.args.i c.args.n k.slots k.total k.chunks (gathered (goal.at.returns-then-self-lack-clause-resized c).After-gather_apart-h).size c.grow_into.ensures.resized refl refl refl

pub returns-else-self-lack-clause-resized : goal.returns-else-self-lack-clause-resized
returns-else-self-lack-clause-resized c =
    let k = c.compact.ensures.same in let u = c.enlarge_below.new.self in
    resized_from c.args.self.now c.compact.new.self u u c.args.i c.args.n k.slots k.total k.chunks (packed (goal.at.returns-else-self-lack-clause-resized c).After-compact).size c.enlarge_below.ensures.resized refl refl refl
