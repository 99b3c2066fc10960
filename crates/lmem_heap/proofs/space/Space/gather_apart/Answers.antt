use Rattle.std.proofs.Common.{◌≡◌, ◌+◌, ◌-◌, ◌++◌, ◌∷◌, [], ◌∙◌, List, refl, sym, ap, subst, inl, inr, append_assoc, arith}
use Rattle.lmem_heap.specs.declared.space.Space.{Space}
use Rattle.lmem_heap.specs.Pieces.{Piece, Used, Free, used, free_count, spaces}
use Rattle.lmem_heap.specs.Space.{HasPieces}
use Rattle.lmem_heap.proofs.PackingLemmas.{frees_behind, frees_used, used_behind}
use Rattle.lmem_heap.proofs.PieceLemmas.{spaces_append, fresh_append}
use Rattle.lmem_heap.proofs.TiledLemmas.{frees_append}
use Rattle.lmem_heap.proofs.ThreadingLemmas.{slot_in}
use Rattle.lmem_heap.proofs.EntryLemmas.{dead_fresh}
use Rattle.lmem_heap.proofs.space.Space.gather_apart.Goals.{After-gather-end}
use Rattle.lmem_heap.proofs.space.Space.gather_apart.Goals as goal

pub gather-end-requires-clause-pieces : goal.gather-end-requires-clause-pieces
gather-end-requires-clause-pieces c = let h = c.requires.well_formed.held in (c.requires.well_formed.pieces, h.tiled, h.count)

abbrev left : After-gather-end → Space
left c = record { region = c.gather-end.new.region; slots = c.args.self.now.slots; low = c.args.self.now.low; head = 0; total = c.args.self.now.total }

-- the pieces that it leaves
held : (c : After-gather-end) → HasPieces (left c) (used c.requires.well_formed.pieces ++ (Free (65520 - (c.args.self.now.low + c.args.self.now.total)) ∷ [])) [] 1
held c =
    let s = c.args.self.now in let k = c.requires.well_formed in let h = k.held in let room = 65520 - (s.low + s.total) in
    record {
      tiled = (c.gather-end.ensures.gathered k.pieces h.tiled h.count).tiled;
      chain = refl;
      spare = tt;
      apart = tt;
      all = frees_behind room k.pieces;
      count = h.count ∙ sym (used_behind room k.pieces);
    }

pub returns-clause-detached : goal.returns-clause-detached
returns-clause-detached c =
    let s = c.args.self.now in let k = c.requires.well_formed in
    record {
      before = used k.pieces;
      after = [];
      free = [];
      held = held (goal.at.returns-clause-detached c).After-gather-end;
      place = omega (arith, c.gather-end.ensures.place, k.held.count);
      other = tt;
    }

pub returns-clause-behind : goal.returns-clause-behind
returns-clause-behind c = λ i l live.
    let s = c.args.self.now in let k = c.requires.well_formed in let room = 65520 - (s.low + s.total) in let free = Free room ∷ [] in
    let h = held (goal.at.returns-clause-behind c).After-gather-end in
    elim (slot_in i (used k.pieces)) [
      | inl one ↦
          let is : used k.pieces ++ free ≡ one.before ++ (Used i one.bytes ∷ (one.after ++ free)) =
          ap (λ (cs : List Piece). cs ++ free) (sym one.is) ∙ append_assoc one.before (Used i one.bytes ∷ one.after) free in
          let sum = spaces_append one.before (Used i one.bytes ∷ one.after) in let whole = ap spaces one.is in
          let none = frees_append one.before (Used i one.bytes ∷ one.after) in let frees = ap free_count one.is in
          record {
            before = one.before;
            bytes = one.bytes;
            run = one.after;
            after = [];
            free = [];
            held = subst (λ (cs : List Piece). HasPieces (left (goal.at.returns-clause-behind c).After-gather-end) cs [] 1) is h;
            chunks = omega (arith, none, frees, frees_used k.pieces);
            place = omega (arith, c.gather-end.ensures.place, k.held.count, sum, whole);
            other = tt;
          }
      | inr fresh ↦ absurd (omega (arith, live, h.tiled.covered i l (fresh_append i (used k.pieces) free fresh tt)))
    ]

pub returns-clause-same : goal.returns-clause-same
returns-clause-same c =
    let s = c.args.self.now in let k = c.requires.well_formed in let h = k.held in
    let done = c.gather-end.ensures.gathered k.pieces h.tiled h.count in
    record {
      slots = refl;
      total = refl;
      chunks = done.chunks;
      dead = λ j l dead. done.entries j l (dead_fresh s.region s.slots s.low k.pieces j h.tiled dead);
    }
