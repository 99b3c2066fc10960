use Rattle.std.proofs.Common.{◌≡◌, ◌-◌, ◌+◌, ◌<◌, ◌≤◌, ◌∙◌, ℕ, ap, refl, subst, arith}
use Rattle.lmem_heap.specs.declared.space.Space.{Space}
use Rattle.lmem_heap.specs.Pieces.{piece_space, word_in, entry}
use Rattle.lmem_heap.specs.Space.{HasNext, room_of}
use Rattle.lmem_heap.proofs.EntryLemmas.{next_well_formed}
use Rattle.lmem_heap.proofs.SinkingLemmas.{behind_facts, behind_well_formed}
use Rattle.lmem_heap.proofs.MovingLemmas.{IsSameSize, same_size, IsGrown, grown_to, resized_twice, resized_from}
use Rattle.lmem_heap.proofs.space.Space.grow_into.Goals.{After-sink, After-absorb}
use Rattle.lmem_heap.proofs.space.Space.grow_into.Goals as goal

pub live_piece-size-requires-clause-held : goal.live_piece-size-requires-clause-held
live_piece-size-requires-clause-held c = (1, behind_well_formed c.requires.behind.1)

pub word_in-requires : goal.word_in-requires
word_in-requires c = let f = behind_facts c.args.self.now c.args.i c.args.h c.requires.behind.0 c.requires.behind.1 in omega (arith, f.ends, f.some)

size : (c : After-sink) → c.live_piece-size.result.size ≡ word_in c.args.self.now.region (entry c.args.self.now.region c.args.i)
size c = c.live_piece-size.ensures.size ∙ ap (λ (k : ℕ). word_in c.args.self.now.region k) c.live_piece-size.ensures.place

same : (c : After-sink) → IsSameSize c.args.self.now c.sink.new.self c.args.i
same c =
    let e = c.sink.ensures in
    same_size c.args.self.now c.sink.new.self c.args.i (behind_well_formed c.requires.behind.1) (next_well_formed e.next) e.same.slots e.same.chunks c.requires.slot c.requires.live

-- the room of the two
record IsJoined (s u : Space) (i h n whole : ℕ) : Type 0 where
  pub own : room_of u i ≡ room_of s i
  pub more : room_of s i < piece_space (whole - 2)
  pub room : word_in s.region h - 1 ≡ piece_space (whole - 2) - room_of u i
  pub less : piece_space n ≤ piece_space (whole - 2)
  pub covers : n ≤ whole - 2

joined : (c : After-sink) → IsJoined c.args.self.now c.sink.new.self c.args.i c.args.h c.args.n (c.piece_space.result + c.word_in.result - 1)
joined c =
    let s = c.args.self.now in let f = behind_facts s c.args.i c.args.h c.requires.behind.0 c.requires.behind.1 in
    let e = same c in let own : room_of c.sink.new.self c.args.i ≡ room_of s c.args.i = ap piece_space e.size in
    let first : c.piece_space.result ≡ room_of s c.args.i = c.piece_space.ensures ∙ ap piece_space (size c) in
    record {
      own = own;
      more = omega (arith, f.some, f.whole, f.head, first, c.word_in.ensures.value);
      room = omega (arith, f.some, f.whole, f.head, first, own, c.word_in.ensures.value);
      less = omega (arith, f.some, f.whole, f.head, first, c.word_in.ensures.value, c.requires.less);
      covers = omega (arith, f.some, f.whole, f.head, first, c.word_in.ensures.value, c.requires.less);
    }

pub absorb-requires-clause-more : goal.absorb-requires-clause-more
absorb-requires-clause-more c = let j = joined (goal.at.absorb-requires-clause-more c).After-sink in omega (arith, j.own, j.more)

pub absorb-requires-clause-next : goal.absorb-requires-clause-next
absorb-requires-clause-next c = let j = joined (goal.at.absorb-requires-clause-next c).After-sink in subst (λ (m : ℕ). HasNext c.sink.new.self c.args.i m) j.room c.sink.ensures.next

after : (c : After-absorb) → IsJoined c.args.self.now c.sink.new.self c.args.i c.args.h c.args.n (c.piece_space.result + c.word_in.result - 1) → IsGrown c.absorb.new.self c.args.i (c.piece_space.result + c.word_in.result - 1 - 2)
after c j =
    grown_to c.sink.new.self c.absorb.new.self c.args.i (c.piece_space.result + c.word_in.result - 1 - 2) c.absorb.ensures.well_formed (omega (arith, c.requires.slot, c.sink.ensures.same.slots)) (omega (arith, j.covers, c.requires.more)) c.absorb.ensures.resized

pub cut_down-requires-clause-live : goal.cut_down-requires-clause-live
cut_down-requires-clause-live c = let d = goal.at.cut_down-requires-clause-live c in (after d.After-absorb (joined d.After-sink)).live

pub cut_down-requires-clause-less : goal.cut_down-requires-clause-less
cut_down-requires-clause-less c =
    let d = goal.at.cut_down-requires-clause-less c in let j = joined d.After-sink in let g = after d.After-absorb j in omega (arith, ap piece_space g.size, j.less)

pub returns-clause-resized : goal.returns-clause-resized
returns-clause-resized c =
    let d = goal.at.returns-clause-resized c in let j = joined d.After-sink in let e = same d.After-sink in
    let s = c.args.self.now in let u = c.sink.new.self in let v = c.absorb.new.self in let w = c.cut_down.new.self in let m = c.piece_space.result + c.word_in.result - 1 - 2 in
    let more : word_in u.region (entry u.region c.args.i) ≤ c.args.n = omega (arith, e.size, c.requires.more) in
    let f = c.sink.ensures.same in
    let twice = resized_twice u v w c.args.i c.args.n m (next_well_formed c.sink.ensures.next) c.absorb.ensures.well_formed (omega (arith, c.requires.slot, f.slots)) e.live (omega (arith, j.covers, c.requires.more)) more j.covers c.absorb.ensures.resized c.cut_down.ensures.resized in
    resized_from s u w w c.args.i c.args.n f.slots f.total f.chunks e.size twice refl refl refl
