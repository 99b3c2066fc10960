use Rattle.std.proofs.Common.{◌≡◌, ◌+◌, ◌-◌, ◌*◌, ◌≤◌, ℕ, length, ap, subst, ◌∙◌, arith}
use Rattle.lmem_heap.specs.declared.space.Space.{Space}
use Rattle.lmem_heap.specs.Pieces.{piece_space, word_in, spaces}
use Rattle.lmem_heap.specs.Space.{HasNext, HasBehind}
use Rattle.lmem_heap.proofs.SinkingLemmas.{behind_facts, behind_well_formed, sunk_next, sunk_same}
use Rattle.lmem_heap.proofs.space.Space.sink.Goals.{After-piece_space, After-word_in-room}
use Rattle.lmem_heap.proofs.space.Space.sink.Goals as goal

pub live_piece-place-requires-clause-held : goal.live_piece-place-requires-clause-held
live_piece-place-requires-clause-held c = (1, behind_well_formed c.requires.behind.1)

-- where the piece ends
record IsFrom (s : Space) (i h room from : ℕ) (b : HasBehind s i h room) : Type 0 where
  pub is : from ≡ s.low + spaces b.before + piece_space (length b.bytes)
  pub ends : h + room ≤ 65520
  pub some : 4 ≤ room
  pub low : 16 + 2 * s.slots ≤ from
  pub after : from ≤ h
  pub head : word_in s.region h ≡ room + 1

from_is : (c : After-piece_space) (room : ℕ) (b : HasBehind c.args.self.now c.args.i c.args.h room) → IsFrom c.args.self.now c.args.i c.args.h room (c.live_piece-place.result.place + c.piece_space.result) b
from_is c room b =
    let s = c.args.self.now in let f = behind_facts s c.args.i c.args.h room b in
    let e = c.live_piece-place.ensures in
    let size : c.live_piece-place.result.size ≡ length b.bytes = e.size ∙ (ap (λ (k : ℕ). word_in s.region k) e.place ∙ f.size) in
    let space : c.piece_space.result ≡ piece_space (length b.bytes) = c.piece_space.ensures ∙ ap piece_space size in
    record {
      is = omega (arith, e.place, f.place, space);
      ends = f.ends;
      some = f.some;
      low = omega (arith, e.place, f.low);
      after = omega (arith, e.place, space, f.after);
      head = f.head;
    }

pub word_in-room-requires : goal.word_in-room-requires
word_in-room-requires c = let f = from_is (goal.at.word_in-room-requires c).After-piece_space c.requires.behind.0 c.requires.behind.1 in omega (arith, f.ends, f.some)

pub overflow_sub-room : goal.overflow_sub-room
overflow_sub-room c = let f = from_is (goal.at.overflow_sub-room c).After-piece_space c.requires.behind.0 c.requires.behind.1 in omega (arith, f.head, c.word_in-room.ensures.value)

pub overflow_sub-h : goal.overflow_sub-h
overflow_sub-h c = let f = from_is (goal.at.overflow_sub-h c).After-piece_space c.requires.behind.0 c.requires.behind.1 in omega (arith, f.after)

pub slide-requires-clause-source : goal.slide-requires-clause-source
slide-requires-clause-source c = let f = from_is (goal.at.slide-requires-clause-source c).After-piece_space c.requires.behind.0 c.requires.behind.1 in omega (arith, f.after, f.ends)

pub slide-requires-clause-target : goal.slide-requires-clause-target
slide-requires-clause-target c = let f = from_is (goal.at.slide-requires-clause-target c).After-piece_space c.requires.behind.0 c.requires.behind.1 in omega (arith, f.after, f.ends, f.head, c.word_in-room.ensures.value)

pub set_word-requires-clause-within : goal.set_word-requires-clause-within
set_word-requires-clause-within c = let f = from_is (goal.at.set_word-requires-clause-within c).After-piece_space c.requires.behind.0 c.requires.behind.1 in omega (arith, f.after, f.ends, f.some)

pub raise_entries-requires-clause-within : goal.raise_entries-requires-clause-within
raise_entries-requires-clause-within c = let f = from_is (goal.at.raise_entries-requires-clause-within c).After-piece_space c.requires.behind.0 c.requires.behind.1 in omega (arith, f.after, f.ends, f.low)

pub raise_entries-requires-clause-order : goal.raise_entries-requires-clause-order
raise_entries-requires-clause-order c = let f = from_is (goal.at.raise_entries-requires-clause-order c).After-piece_space c.requires.behind.0 c.requires.behind.1 in omega (arith, f.after)

pub raise_entries-requires-clause-fits : goal.raise_entries-requires-clause-fits
raise_entries-requires-clause-fits c = let f = from_is (goal.at.raise_entries-requires-clause-fits c).After-piece_space c.requires.behind.0 c.requires.behind.1 in omega (arith, f.ends, f.head, c.word_in-room.ensures.value)

-- the free piece, with the room that was read
read : (c : After-word_in-room) → HasBehind c.args.self.now c.args.i c.args.h (c.word_in-room.result - 1)
read c =
    let f = behind_facts c.args.self.now c.args.i c.args.h c.requires.behind.0 c.requires.behind.1 in
    let is : c.requires.behind.0 ≡ c.word_in-room.result - 1 = omega (arith, f.head, c.word_in-room.ensures.value) in
    subst (λ (k : ℕ). HasBehind c.args.self.now c.args.i c.args.h k) is c.requires.behind.1

pub returns-clause-next : goal.returns-clause-next
returns-clause-next c =
    let d = goal.at.returns-clause-next c in let s = c.args.self.now in let room = c.word_in-room.result - 1 in let b = read d.After-word_in-room in
    let value : room ≡ word_in s.region c.args.h - 1 = ap (λ (k : ℕ). k - 1) c.word_in-room.ensures.value in
    let from = c.live_piece-place.result.place + c.piece_space.result in
    subst (λ (k : ℕ). HasNext (record { region = c.raise_entries.new.region; slots = s.slots; low = s.low; head = s.head; total = s.total }) c.args.i k) value (sunk_next s c.slide.new.region c.set_word.new.region c.raise_entries.new.region c.args.i c.args.h room from b (from_is d.After-piece_space room b).is c.slide.ensures c.set_word.ensures c.raise_entries.ensures)

pub returns-clause-same : goal.returns-clause-same
returns-clause-same c =
    let d = goal.at.returns-clause-same c in let room = c.word_in-room.result - 1 in let b = read d.After-word_in-room in
    let from = c.live_piece-place.result.place + c.piece_space.result in
    sunk_same c.args.self.now c.slide.new.region c.set_word.new.region c.raise_entries.new.region c.args.i c.args.h room from b (from_is d.After-piece_space room b).is c.slide.ensures c.set_word.ensures c.raise_entries.ensures
