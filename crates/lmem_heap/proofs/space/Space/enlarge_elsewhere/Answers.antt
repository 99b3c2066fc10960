use Rattle.std.proofs.Common.{refl, arith}
use Rattle.lmem_heap.proofs.EntryLemmas.{size_ends, detached_well_formed}
use Rattle.lmem_heap.proofs.MovingLemmas.{IsSameSize, same_size, resized_from}
use Rattle.lmem_heap.proofs.space.Space.enlarge_elsewhere.Goals.{In-Some}
use Rattle.lmem_heap.proofs.space.Space.enlarge_elsewhere.Goals as goal

-- the room was found without a change of the chunks
found : (c : In-Some) → IsSameSize c.args.self.now c.find_room.new.self c.args.i
found c = let e = c.in-Some.ensures.found in same_size c.args.self.now c.find_room.new.self c.args.i c.requires.well_formed (detached_well_formed e.0) e.1.slots e.1.chunks c.requires.slot c.requires.live

pub piece_space-room-requires : goal.piece_space-room-requires
piece_space-room-requires c = omega (arith, c.requires.fits, size_ends c.requires.well_formed c.args.i c.requires.slot c.requires.live)

pub move_to-requires-clause-more : goal.move_to-requires-clause-more
move_to-requires-clause-more c = omega (arith, (found (goal.at.move_to-requires-clause-more c).In-Some).size, c.requires.more)

pub returns-in-Some-clause-resized : goal.returns-in-Some-clause-resized
returns-in-Some-clause-resized c =
    let e = c.in-Some.ensures.found in
    resized_from c.args.self.now c.find_room.new.self c.move_to.new.self c.move_to.new.self c.args.i c.args.n e.1.slots e.1.total e.1.chunks (found (goal.at.returns-in-Some-clause-resized c).In-Some).size c.move_to.ensures.resized refl refl refl
