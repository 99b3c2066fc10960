use Rattle.std.proofs.Common.{refl, ap, arith}
use Rattle.lmem_heap.specs.Pieces.{piece_space}
use Rattle.lmem_heap.proofs.EntryLemmas.{detached_well_formed}
use Rattle.lmem_heap.proofs.MovingLemmas.{IsSameSize, same_size, resized_from}
use Rattle.lmem_heap.proofs.space.Space.enlarge_packed.Goals.{In-Some, In-None}
use Rattle.lmem_heap.proofs.space.Space.enlarge_packed.Goals as goal

-- the chunk is the same where the room was found
found : (c : In-Some) → IsSameSize c.args.self.now c.gather_for.new.self c.args.i
found c =
    let e = c.gather_for.ensures.same in
    same_size c.args.self.now c.gather_for.new.self c.args.i c.requires.well_formed (detached_well_formed c.in-Some.ensures.found) e.slots e.chunks c.requires.slot c.requires.live

pub move_to-requires-clause-live : goal.move_to-requires-clause-live
move_to-requires-clause-live c = (found (goal.at.move_to-requires-clause-live c).In-Some).live

pub move_to-requires-clause-more : goal.move_to-requires-clause-more
move_to-requires-clause-more c = omega (arith, (found (goal.at.move_to-requires-clause-more c).In-Some).size, c.requires.more)

pub returns-in-Some-clause-resized : goal.returns-in-Some-clause-resized
returns-in-Some-clause-resized c =
    let e = c.gather_for.ensures.same in let u = c.move_to.new.self in
    resized_from c.args.self.now c.gather_for.new.self u u c.args.i c.args.n e.slots e.total e.chunks (found (goal.at.returns-in-Some-clause-resized c).In-Some).size c.move_to.ensures.resized refl refl refl

-- and where it wasn't
missed : (c : In-None) → IsSameSize c.args.self.now c.gather_for.new.self c.args.i
missed c =
    let e = c.gather_for.ensures.same in
    same_size c.args.self.now c.gather_for.new.self c.args.i c.requires.well_formed c.in-None.ensures.found e.slots e.chunks c.requires.slot c.requires.live

pub enlarge_there-requires-clause-live : goal.enlarge_there-requires-clause-live
enlarge_there-requires-clause-live c = (missed (goal.at.enlarge_there-requires-clause-live c).In-None).live

pub enlarge_there-requires-clause-more : goal.enlarge_there-requires-clause-more
enlarge_there-requires-clause-more c = omega (arith, ap piece_space (missed (goal.at.enlarge_there-requires-clause-more c).In-None).size, c.requires.more)

pub enlarge_there-requires-clause-fits : goal.enlarge_there-requires-clause-fits
enlarge_there-requires-clause-fits c =
    let e = c.gather_for.ensures.same in omega (arith, ap piece_space (missed (goal.at.enlarge_there-requires-clause-fits c).In-None).size, c.requires.fits, e.slots, e.total)

pub returns-in-None-clause-resized : goal.returns-in-None-clause-resized
returns-in-None-clause-resized c =
    let e = c.gather_for.ensures.same in let u = c.enlarge_there.new.self in
    resized_from c.args.self.now c.gather_for.new.self u u c.args.i c.args.n e.slots e.total e.chunks (missed (goal.at.returns-in-None-clause-resized c).In-None).size c.enlarge_there.ensures.resized refl refl refl
