use Rattle.lmem_heap.proofs.FreeListLemmas.{IsAlong}
use Rattle.lmem_heap.proofs.space.Space.find_link.Given as goal

-- every piece is passed that isn't the one: none has so much room
abbrev pub invariant-loop-seen : goal.invariant-loop-seen
invariant-loop-seen l = IsAlong l.fn.self l.prev l.place 65536 l._seen
