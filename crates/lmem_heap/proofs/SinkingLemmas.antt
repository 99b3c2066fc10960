-- A free piece goes down to the end of a chunk's piece, and the chunks between them go up.
use Rattle.std.proofs.Common.{◌≡◌, ℕ, ◌+◌, ◌-◌, ◌*◌, ◌/◌, ◌<◌, ◌≤◌, List, [], ◌∷◌, ◌++◌, length, refl, sym, ap, subst, ◌∙◌, inl, inr, append_assoc, arith}
use Rattle.lmem_heap.specs.declared.space.Space.{Space}
use Rattle.lmem_heap.specs.Pieces.{word_in, entry, piece_space, Piece, Used, Free, size_head, Lies, Points, AllShaped, IsFresh, ArePiecesDistinct, used, free_count, spaces, place_of}
use Rattle.lmem_heap.specs.Edits.{Same, IsSet, IsSlid, AreRaised}
use Rattle.lmem_heap.specs.Tiled.{IsTiled, chunks_in, chunk_from}
use Rattle.lmem_heap.specs.Space.{IsSpareAt, AreSpare, IsChain, IsOther, HasPieces, HasBehind, HasNext, HasSameChunks, IsWellFormedBut}
use Rattle.lmem_heap.proofs.EditLemmas.{word_kept, entry_kept}
use Rattle.lmem_heap.proofs.PieceLemmas.{lies_end, lies_split, lies_append, lies_kept, lies_slid, points_append, points_split, points_same, shaped_append, shaped_split, fresh_used, used_fresh, used_joined, spaces_append}
use Rattle.lmem_heap.proofs.PackingLemmas.{distinct_used}
use Rattle.lmem_heap.proofs.ThreadingLemmas.{slot_in}
use Rattle.lmem_heap.proofs.TiledLemmas.{at_used, at_slot, piece_place, piece_size, piece_others, same_chunks, spare_bounds, spare_parts, spare_left, spare_right, frees_append}
use Rattle.lmem_heap.proofs.ClosingLemmas.{points_below, points_raised, points_above, used_distinct, none_spare}

module _ (xs us vs ys : List ℕ) (t low g h r : ℕ) (a run d : List Piece) (tiled : IsTiled xs t low (a ++ (run ++ (Free r ∷ d)))) (at : g ≡ low + spaces a) (next : h ≡ g + spaces run)
    (slid : IsSlid xs us g (g + r) (h - g)) (head : IsSet us vs g (r + 1)) (raised : AreRaised vs ys t g h r) where
  abbrev pub old : List Piece
  old = a ++ (run ++ (Free r ∷ d))

  abbrev pub new : List Piece
  new = a ++ (Free r ∷ (run ++ d))

  table_low : 16 + 2 * t ≤ low
  table_low = let table = tiled.table in omega arith

  shape_a : AllShaped (16 + 2 * t) a
  shape_a = (shaped_split (16 + 2 * t) a (run ++ (Free r ∷ d)) tiled.shaped).0

  shape_rest : AllShaped (16 + 2 * t) run × AllShaped (16 + 2 * t) (Free r ∷ d)
  shape_rest = shaped_split (16 + 2 * t) run (Free r ∷ d) (shaped_split (16 + 2 * t) a (run ++ (Free r ∷ d)) tiled.shaped).1

  lies_parts : Lies size_head xs low a g × Lies size_head xs g run h × Lies size_head xs (h + r) d 65520
  lies_parts =
      let L = lies_split size_head xs low a (run ++ (Free r ∷ d)) 65520 tiled.lies in
      let rest : Lies size_head xs g (run ++ (Free r ∷ d)) 65520 = subst (λ (k : ℕ). Lies size_head xs k (run ++ (Free r ∷ d)) 65520) (sym at) L.1 in
      let M = lies_split size_head xs g run (Free r ∷ d) 65520 rest in
      let at_d : g + spaces run + r ≡ h + r = omega arith in (
        subst (λ (k : ℕ). Lies size_head xs low a k) (sym at) L.0,
        subst (λ (k : ℕ). Lies size_head xs g run k) (sym next) M.0,
        subst (λ (k : ℕ). Lies size_head xs k d 65520) at_d M.1.1,
      )

  pub ends : (h + r + spaces d ≡ 65520) × (4 ≤ r) × (16 + 2 * t ≤ g)
  ends = let R = shape_rest.1.0 in let table = table_low in let e = lies_end size_head xs (h + r) d 65520 lies_parts.2 in (omega arith, omega arith, omega arith)

  same_entries : (j : ℕ) → j < t → entry vs j ≡ entry xs j
  same_entries j l =
      let E = ends in
      entry_kept us vs 0 g j (record { at = λ k u v. head.before k v }) (omega arith) (omega (arith, E.2))
      ∙ entry_kept xs us 0 g j (record { at = λ k u v. slid.before k (omega arith) }) (omega arith) (omega (arith, E.2))

  same_a : Same xs ys low g
  same_a = let table = table_low in record { at = λ k u v. raised.beyond k (omega arith) ∙ (head.before k v ∙ slid.before k (omega arith)) }

  same_run : Same us ys (g + r) (h + r)
  same_run = let E = ends in record { at = λ k u v. raised.beyond k (omega (arith, E.2)) ∙ head.behind k (omega (arith, E.1)) }

  same_d : Same xs ys (h + r) 65520
  same_d = let E = ends in record { at = λ k u v. raised.beyond k (omega (arith, E.2)) ∙ (head.behind k (omega (arith, E.1)) ∙ slid.behind k (omega arith)) }

  new_head : word_in ys g ≡ r + 1
  new_head = let E = ends in word_kept vs ys g (g + 2) g (record { at = λ k u v. raised.beyond k (omega (arith, E.2)) }) (omega arith) (omega arith) ∙ head.word

  lies_new : Lies size_head ys low new 65520
  lies_new =
      let E = ends in let L = lies_parts in let S = shape_rest in
      let front : Lies size_head ys low a g = lies_kept size_head xs ys (16 + 2 * t) low g same_a low a g shape_a L.0 (omega arith) (omega arith) in
      let moved : Lies size_head us (g + r) run (h + r) = lies_slid xs us g (g + r) (h - g) slid size_head (16 + 2 * t) g (g + r) run h (h + r) (omega arith) (omega arith) S.0 (omega arith) (omega arith) L.1 in
      let middle : Lies size_head ys (g + r) run (h + r) = lies_kept size_head us ys (16 + 2 * t) (g + r) (h + r) same_run (g + r) run (h + r) S.0 moved (omega arith) (omega arith) in
      let back : Lies size_head ys (h + r) d 65520 = lies_kept size_head xs ys (16 + 2 * t) (h + r) 65520 same_d (h + r) d 65520 S.1.1 L.2 (omega arith) (omega arith) in
      lies_append size_head ys low a g (Free r ∷ (run ++ d)) 65520 front (
        record { head = new_head; bytes = λ k l. absurd (omega arith) },
        lies_append size_head ys (g + r) run (h + r) d 65520 middle back,
      )

  points_new : Points place_of ys low new
  points_new =
      let E = ends in let S = shape_rest in
      let all : Points place_of vs low old = points_same place_of xs vs (16 + 2 * t) (λ j l. same_entries j (omega arith)) low old tiled.shaped tiled.points in
      let P = points_split place_of vs low a (run ++ (Free r ∷ d)) g at all in
      let Q = points_split place_of vs g run (Free r ∷ d) h next P.1 in
      let front = points_below vs ys t g h r raised low a (omega arith) shape_a P.0 in
      let middle = points_raised vs ys t g h r raised g (g + r) run (omega arith) (omega arith) (omega arith) S.0 Q.0 in
      let back = points_above vs ys t g h r raised (h + r) d (omega arith) S.1.1 Q.1 in
      points_append place_of ys low a (Free r ∷ (run ++ d)) g at front (points_append place_of ys (g + r) run d (h + r) (omega arith) middle back)

  same_used : used new ≡ used old
  same_used =
      used_joined a (Free r ∷ (run ++ d))
      ∙ (ap (λ (l : List Piece). used a ++ l) (used_joined run d ∙ sym (used_joined run (Free r ∷ d)))
      ∙ sym (used_joined a (run ++ (Free r ∷ d))))

  fresh_old : (j : ℕ) → IsFresh j new → IsFresh j old
  fresh_old j f = fresh_used j old (subst (IsFresh j) same_used (used_fresh j new f))

  dead_same : (j : ℕ) → j < t → entry xs j ≤ 1 → entry ys j ≡ entry xs j
  dead_same j l dead = let E = ends in let e = same_entries j l in (raised.each j l).below (omega (arith, e, E.2)) ∙ e

  pub sunk : IsTiled ys t low new
  sunk =
      let S = shape_rest in let R = S.1.0 in
      record {
        long = raised.long ∙ (head.long ∙ (slid.long ∙ tiled.long));
        table = tiled.table;
        lies = lies_new;
        points = points_new;
        shaped = shaped_append (16 + 2 * t) a (Free r ∷ (run ++ d)) shape_a (R, shaped_append (16 + 2 * t) run d S.0 S.1.1);
        distinct = used_distinct new (subst ArePiecesDistinct (sym same_used) (distinct_used old tiled.distinct));
        covered = λ j l fresh. let dead = tiled.covered j l (fresh_old j fresh) in omega (arith, dead_same j l dead, dead);
      }

  same_chunk : (j : ℕ) → j < t → chunk_from j (entry ys j) old ≡ chunk_from j (entry xs j) old
  same_chunk j l = elim (slot_in j old) [
    | inl k ↦
        let other = (piece_others xs t low old tiled j k.before k.bytes k.after k.is).0 in
        ap (chunk_from j (entry ys j)) (sym k.is) ∙ (at_slot j (entry ys j) k.bytes k.before k.after other ∙ (sym (at_slot j (entry xs j) k.bytes k.before k.after other) ∙ ap (chunk_from j (entry xs j)) k.is))
    | inr fresh ↦ ap (λ (e : ℕ). chunk_from j e old) (dead_same j l (tiled.covered j l fresh))
  ]

  pub sunk_chunks : chunks_in ys t ≡ chunks_in xs t
  sunk_chunks = same_chunks xs ys t low low old new tiled sunk
      (λ j l. sym (at_used j (entry ys j) new) ∙ (ap (chunk_from j (entry ys j)) same_used ∙ (at_used j (entry ys j) old ∙ same_chunk j l)))

  -- ---- the list

  spare_sunk : (f : ℕ) → free_count run ≡ 0 → (h ≡ f → ⊥) → IsSpareAt low old f → IsSpareAt low new f × (word_in ys (f + 2) ≡ word_in xs (f + 2)) × (g ≡ f → ⊥)
  spare_sunk f none ne sp =
      let E = ends in let S = shape_rest in
      elim (spare_parts low a (run ++ (Free r ∷ d)) f sp) [
        | inl l ↦
            let b = spare_bounds (16 + 2 * t) low a f shape_a l in
            (spare_left low a (Free r ∷ (run ++ d)) f l, word_kept xs ys low g (f + 2) same_a (omega (arith, b.0)) (omega (arith, b.1)), (λ e. omega (arith, e, b.1)))
        | inr there ↦ elim (spare_parts (low + spaces a) run (Free r ∷ d) f there) [
          | inl l ↦ absurd (none_spare (low + spaces a) run f none l)
          | inr q ↦ elim q [
            | inl here ↦ absurd (ne (omega (arith, here)))
            | inr behind ↦
                let e : low + spaces a + spaces run + r ≡ h + r = omega arith in
                let sp_d : IsSpareAt (h + r) d f = subst (λ (k : ℕ). IsSpareAt k d f) e behind in
                let b = spare_bounds (16 + 2 * t) (h + r) d f S.1.1 sp_d in (
                  spare_right low a (Free r ∷ (run ++ d)) f g at (inr (spare_right (g + r) run d f (h + r) (omega arith) sp_d)),
                  word_kept xs ys (h + r) 65520 (f + 2) same_d (omega (arith, b.0)) (omega (arith, b.1, E.0)),
                  (λ same. omega (arith, same, b.0, E.1)),
                )
          ]
        ]
      ]

  spares_sunk : (fs : List ℕ) → free_count run ≡ 0 → IsOther h fs → AreSpare low old fs → AreSpare low new fs × IsOther g fs
  spares_sunk [] none other s = (tt, tt)
  spares_sunk (f ∷ fs) none other s = let one = spare_sunk f none other.0 s.0 in let rest = spares_sunk fs none other.1 s.1 in ((one.0, rest.0), (one.2, rest.1))

  chain_sunk : (k : ℕ) (fs : List ℕ) → free_count run ≡ 0 → IsOther h fs → AreSpare low old fs → IsChain xs k fs → IsChain ys k fs
  chain_sunk k [] none other s c = c
  chain_sunk k (f ∷ fs) none other s c =
      (c.0, chain_sunk (word_in ys (f + 2)) fs none other.1 s.1 (subst (λ (j : ℕ). IsChain xs j fs) (sym (spare_sunk f none other.0 s.0).1) c.1))

  pub sunk_frees : free_count new ≡ free_count old
  sunk_frees = omega (arith, frees_append a (Free r ∷ (run ++ d)), frees_append run d, frees_append a (run ++ (Free r ∷ d)), frees_append run (Free r ∷ d))

-- ---- a space

-- what is known of both pieces
pub record BehindFacts (s : Space) (i h room : ℕ) (b : HasBehind s i h room) : Type 0 where
  pub place : entry s.region i ≡ s.low + spaces b.before
  pub size : word_in s.region (entry s.region i) ≡ length b.bytes
  pub head : word_in s.region h ≡ room + 1
  pub ends : h + room ≤ 65520
  pub some : 4 ≤ room
  pub whole : room ≡ 4 * (room / 4)
  pub low : 16 + 2 * s.slots ≤ entry s.region i
  pub after : entry s.region i + piece_space (length b.bytes) ≤ h

pub behind_facts : (s : Space) (i h room : ℕ) (b : HasBehind s i h room) → BehindFacts s i h room b
behind_facts s i h room b =
    let tiled = b.held.tiled in let table = tiled.table in let t = s.slots in let rest = b.run ++ (Free room ∷ b.after) in
    let cs = b.before ++ (Used i b.bytes ∷ rest) in
    let place = piece_place s.region t s.low cs tiled i b.before b.bytes rest refl in
    let size = piece_size s.region t s.low cs tiled i b.before b.bytes rest refl in
    let L = lies_split size_head s.region s.low b.before (Used i b.bytes ∷ rest) 65520 tiled.lies in
    let M = lies_split size_head s.region (s.low + spaces b.before + piece_space (length b.bytes)) b.run (Free room ∷ b.after) 65520 L.1.1 in
    let e = lies_end size_head s.region (s.low + spaces b.before + piece_space (length b.bytes) + spaces b.run + room) b.after 65520 M.1.1 in
    let S = shaped_split (16 + 2 * t) b.before (Used i b.bytes ∷ rest) tiled.shaped in
    let R = shaped_split (16 + 2 * t) b.run (Free room ∷ b.after) S.1.1 in
    record {
      place = place;
      size = size;
      head = ap (λ (k : ℕ). word_in s.region k) b.place ∙ M.1.0.head;
      ends = omega (arith, e, b.place);
      some = omega (arith, R.1.0);
      whole = R.1.0.1;
      low = omega (arith, place);
      after = omega (arith, place, b.place);
    }

module _ (s : Space) (us vs ys : List ℕ) (i h room from : ℕ) (b : HasBehind s i h room) (is : from ≡ s.low + spaces b.before + piece_space (length b.bytes))
    (slid : IsSlid s.region us from (from + room) (h - from)) (head : IsSet us vs from (room + 1)) (raised : AreRaised vs ys s.slots from h room) where
  abbrev pub u : Space
  u = record { region = ys; slots = s.slots; low = s.low; head = s.head; total = s.total }

  abbrev front : List Piece
  front = b.before ++ (Used i b.bytes ∷ [])

  held_at : HasPieces s (front ++ (b.run ++ (Free room ∷ b.after))) b.free 1
  held_at = subst (λ (cs : List Piece). HasPieces s cs b.free 1) (sym (append_assoc b.before (Used i b.bytes ∷ []) (b.run ++ (Free room ∷ b.after)))) b.held

  from_at : from ≡ s.low + spaces front
  from_at = omega (arith, is, spaces_append b.before (Used i b.bytes ∷ []))

  next_at : h ≡ from + spaces b.run
  next_at = omega (arith, is, b.place)

  held_new : HasPieces u (front ++ (Free room ∷ (b.run ++ b.after))) b.free 1
  held_new =
      let H = held_at in let x = s.region in let t = s.slots in
      record {
        tiled = sunk x us vs ys t s.low from h room front b.run b.after H.tiled from_at next_at slid head raised;
        chain = chain_sunk x us vs ys t s.low from h room front b.run b.after H.tiled from_at next_at slid head raised s.head b.free b.chunks b.other H.spare H.chain;
        spare = (spares_sunk x us vs ys t s.low from h room front b.run b.after H.tiled from_at next_at slid head raised b.free b.chunks b.other H.spare).0;
        apart = H.apart;
        all = omega (arith, H.all, sunk_frees x us vs ys t s.low from h room front b.run b.after H.tiled from_at next_at slid head raised);
        count = H.count ∙ ap spaces (sym (same_used x us vs ys t s.low from h room front b.run b.after H.tiled from_at next_at slid head raised));
      }

  pub sunk_next : HasNext u i room
  sunk_next =
      let H = held_at in record {
        before = b.before;
        bytes = b.bytes;
        after = b.run ++ b.after;
        free = b.free;
        held = subst (λ (cs : List Piece). HasPieces u cs b.free 1) (append_assoc b.before (Used i b.bytes ∷ []) (Free room ∷ (b.run ++ b.after))) held_new;
        other = subst (λ (k : ℕ). IsOther k b.free) is (spares_sunk s.region us vs ys s.slots s.low from h room front b.run b.after H.tiled from_at next_at slid head raised b.free b.chunks b.other H.spare).1;
      }

  pub sunk_same : HasSameChunks s u
  sunk_same =
      let H = held_at in
      record {
        slots = refl;
        total = refl;
        chunks = sunk_chunks s.region us vs ys s.slots s.low from h room front b.run b.after H.tiled from_at next_at slid head raised;
        dead = dead_same s.region us vs ys s.slots s.low from h room front b.run b.after H.tiled from_at next_at slid head raised;
      }

-- a space whose slot has a free piece behind it
abbrev pub behind_well_formed : {s : Space} {i h room : ℕ} → HasBehind s i h room → IsWellFormedBut s 1
behind_well_formed {i = i} {room = room} b = record { pieces = b.before ++ (Used i b.bytes ∷ (b.run ++ (Free room ∷ b.after))); free = b.free; held = b.held }
