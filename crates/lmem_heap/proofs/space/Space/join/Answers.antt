use Rattle.std.proofs.Common.{◌≡◌, ◌-◌, ◌+◌, ◌*◌, ◌/◌, ◌<◌, ◌≤◌, ◌∙◌, ℕ, ap, refl, subst, arith}
use Rattle.lmem_heap.specs.declared.space.Space.{Space}
use Rattle.lmem_heap.specs.Pieces.{piece_space, word_in, entry}
use Rattle.lmem_heap.specs.Space.{HasNext, HasFree, room_of}
use Rattle.lmem_heap.proofs.FreePieceLemmas.{free_facts}
use Rattle.lmem_heap.proofs.FreeListLemmas.{linked_bounds, linked_free}
use Rattle.lmem_heap.proofs.EntryLemmas.{detached_well_formed}
use Rattle.lmem_heap.proofs.MovingLemmas.{IsSameSize, same_size, IsGrown, grown_to, next_of, resized_twice, resized_from}
use Rattle.lmem_heap.proofs.space.Space.join.Goals.{After-word_in, After-unlink, After-absorb}
use Rattle.lmem_heap.proofs.space.Space.join.Goals as goal

-- the room of a free piece is of whole double words
whole : (s : Space) (p n : ℕ) → HasFree s p n → (4 ≤ n) × (n ≡ 4 * (n / 4))
whole s p n h = let f = free_facts s.region s.slots s.low p n h.before h.after h.held.tiled h.place in (f.2, f.4)

size : (c : After-unlink) → c.find_run-size.result.size ≡ word_in c.args.self.now.region (entry c.args.self.now.region c.args.i)
size c = (c.find_run-size.ensures.some c.requires.live).1

same : (c : After-unlink) → IsSameSize c.args.self.now c.unlink.new.self c.args.i
same c =
    let e = c.unlink.ensures in
    same_size c.args.self.now c.unlink.new.self c.args.i c.requires.well_formed (detached_well_formed e.detached) e.unmoved.slots e.unmoved.chunks c.requires.slot c.requires.live

-- the room of the two
record IsJoined (s u : Space) (i place n whole : ℕ) : Type 0 where
  pub own : room_of u i ≡ room_of s i
  pub more : room_of s i < piece_space (whole - 2)
  pub room : word_in s.region place - 1 ≡ piece_space (whole - 2) - room_of u i
  pub less : piece_space n ≤ piece_space (whole - 2)
  pub covers : n ≤ whole - 2

pub word_in-requires : goal.word_in-requires
word_in-requires c = let b = linked_bounds c.args.self.now c.args.prev c.args.place c.requires.linked in omega (arith, b.1)

joined : (c : After-unlink) → IsJoined c.args.self.now c.unlink.new.self c.args.i c.args.place c.args.n (c.piece_space.result + c.word_in.result - 1)
joined c =
    let s = c.args.self.now in let w = whole s c.args.place (word_in s.region c.args.place - 1) (linked_free s c.args.prev c.args.place c.requires.linked) in
    let e = same c in let own : room_of c.unlink.new.self c.args.i ≡ room_of s c.args.i = omega (arith, ap piece_space e.size) in
    let first : c.piece_space.result ≡ room_of s c.args.i = c.piece_space.ensures ∙ ap piece_space (size c) in
    record {
      own = own;
      more = omega (arith, w.0, w.1, first, c.word_in.ensures.value);
      room = omega (arith, w.0, w.1, first, own, c.word_in.ensures.value);
      less = omega (arith, w.0, w.1, first, c.word_in.ensures.value, c.requires.less);
      covers = omega (arith, w.0, w.1, first, c.word_in.ensures.value, c.requires.less);
    }

pub absorb-requires-clause-more : goal.absorb-requires-clause-more
absorb-requires-clause-more c = let j = joined (goal.at.absorb-requires-clause-more c).After-unlink in omega (arith, j.own, j.more)

pub absorb-requires-clause-next : goal.absorb-requires-clause-next
absorb-requires-clause-next c =
    let d = (goal.at.absorb-requires-clause-next c).After-unlink in let j = joined d in let u = c.unlink.new.self in
    let at : c.args.place ≡ entry u.region c.args.i + room_of u c.args.i = omega (arith, c.requires.behind, c.unlink.ensures.unmoved.entries c.args.i c.requires.slot, j.own) in
    subst (λ (m : ℕ). HasNext u c.args.i m) j.room (next_of u c.args.i c.args.place (word_in c.args.self.now.region c.args.place - 1) c.unlink.ensures.detached (omega (arith, c.requires.slot, c.unlink.ensures.unmoved.slots)) (same d).live at)

after : (c : After-absorb) → IsJoined c.args.self.now c.unlink.new.self c.args.i c.args.place c.args.n (c.piece_space.result + c.word_in.result - 1) → IsGrown c.absorb.new.self c.args.i (c.piece_space.result + c.word_in.result - 1 - 2)
after c j =
    grown_to c.unlink.new.self c.absorb.new.self c.args.i (c.piece_space.result + c.word_in.result - 1 - 2) c.absorb.ensures.well_formed (omega (arith, c.requires.slot, c.unlink.ensures.unmoved.slots)) (omega (arith, j.covers, c.requires.more)) c.absorb.ensures.resized

pub cut_down-requires-clause-live : goal.cut_down-requires-clause-live
cut_down-requires-clause-live c = let d = goal.at.cut_down-requires-clause-live c in (after d.After-absorb (joined d.After-unlink)).live

pub cut_down-requires-clause-less : goal.cut_down-requires-clause-less
cut_down-requires-clause-less c =
    let d = goal.at.cut_down-requires-clause-less c in let j = joined d.After-unlink in let g = after d.After-absorb j in omega (arith, ap piece_space g.size, j.less)

pub returns-clause-resized : goal.returns-clause-resized
returns-clause-resized c =
    let d = goal.at.returns-clause-resized c in let j = joined d.After-unlink in let e = same d.After-unlink in
    let s = c.args.self.now in let u = c.unlink.new.self in let v = c.absorb.new.self in let w = c.cut_down.new.self in let m = c.piece_space.result + c.word_in.result - 1 - 2 in
    let more : word_in u.region (entry u.region c.args.i) ≤ c.args.n = omega (arith, e.size, c.requires.more) in
    let twice = resized_twice u v w c.args.i c.args.n m (detached_well_formed c.unlink.ensures.detached) c.absorb.ensures.well_formed (omega (arith, c.requires.slot, c.unlink.ensures.unmoved.slots)) e.live (omega (arith, j.covers, c.requires.more)) more j.covers c.absorb.ensures.resized c.cut_down.ensures.resized in
    let f = c.unlink.ensures.unmoved in resized_from s u w w c.args.i c.args.n f.slots f.total f.chunks e.size twice refl refl refl
