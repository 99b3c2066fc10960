-- A free piece goes down to the one below it, and the chunks between them go up.
use Rattle.std.proofs.Common.{◌≡◌, ℕ, ◌+◌, ◌-◌, ◌*◌, ◌/◌, ◌<◌, ◌≤◌, List, [], ◌∷◌, ◌++◌, length, refl, sym, ap, subst, ◌∙◌, inl, inr, arith}
use Rattle.lmem_heap.specs.declared.space.Space.{Space}
use Rattle.lmem_heap.specs.Pieces.{word_in, entry, piece_space, Piece, Used, Free, size_head, Lies, Points, AllShaped, IsFresh, ArePiecesDistinct, used, free_count, spaces, place_of}
use Rattle.lmem_heap.specs.Edits.{Same, IsSet, IsSlid, AreRaised}
use Rattle.lmem_heap.specs.Tiled.{IsTiled, chunks_in, chunk_from}
use Rattle.lmem_heap.specs.Space.{IsSpareAt, AreSpare, IsChain, IsOther, HasPieces, IsWellFormed, HasBelow, HasSameChunks}
use Rattle.lmem_heap.proofs.EditLemmas.{word_kept, entry_kept}
use Rattle.lmem_heap.proofs.PieceLemmas.{lies_end, lies_split, lies_append, lies_kept, lies_slid, points_append, points_split, points_same, shaped_append, shaped_split, fresh_used, used_fresh, used_joined}
use Rattle.lmem_heap.proofs.PackingLemmas.{distinct_used}
use Rattle.lmem_heap.proofs.ThreadingLemmas.{slot_in}
use Rattle.lmem_heap.proofs.TiledLemmas.{at_used, at_slot, piece_others, same_chunks, spare_bounds, spare_parts, spare_left, spare_right, frees_append}

-- ---- entries that go up, and those that stay

module _ (vs ys : List ℕ) (t from to by : ℕ) (raised : AreRaised vs ys t from to by) where
  pub points_below : (p : ℕ) (cs : List Piece) → p + spaces cs ≤ from → AllShaped (16 + 2 * t) cs → Points place_of vs p cs → Points place_of ys p cs
  points_below p [] fits shaped l = tt
  points_below p (Used i b ∷ cs) fits shaped l =
      let own = (raised.each i (omega (arith, shaped.0.1))).below (omega (arith, l.0)) in
      (own ∙ l.0, points_below (p + piece_space (length b)) cs (omega arith) shaped.1 l.1)
  points_below p (Free s ∷ cs) fits shaped l = points_below (p + s) cs (omega arith) shaped.1 l

  pub points_raised : (p q : ℕ) (cs : List Piece) → q ≡ p + by → from ≤ p → p + spaces cs ≤ to → AllShaped (16 + 2 * t) cs → Points place_of vs p cs → Points place_of ys q cs
  points_raised p q [] is low fits shaped l = tt
  points_raised p q (Used i b ∷ cs) is low fits shaped l =
      let own = (raised.each i (omega (arith, shaped.0.1))).moved (omega (arith, l.0)) (omega (arith, l.0)) in
      (omega (arith, own, l.0), points_raised (p + piece_space (length b)) (q + piece_space (length b)) cs (omega arith) (omega arith) (omega arith) shaped.1 l.1)
  points_raised p q (Free s ∷ cs) is low fits shaped l = points_raised (p + s) (q + s) cs (omega arith) (omega arith) (omega arith) shaped.1 l

  pub points_above : (p : ℕ) (cs : List Piece) → to ≤ p → AllShaped (16 + 2 * t) cs → Points place_of vs p cs → Points place_of ys p cs
  points_above p [] above shaped l = tt
  points_above p (Used i b ∷ cs) above shaped l =
      let own = (raised.each i (omega (arith, shaped.0.1))).above (omega (arith, l.0)) in
      (own ∙ l.0, points_above (p + piece_space (length b)) cs (omega arith) shaped.1 l.1)
  points_above p (Free s ∷ cs) above shaped l = points_above (p + s) cs (omega arith) shaped.1 l

pub used_distinct : (cs : List Piece) → ArePiecesDistinct (used cs) → ArePiecesDistinct cs
used_distinct [] h = tt
used_distinct (Used i b ∷ cs) h = (fresh_used i cs h.0, used_distinct cs h.1)
used_distinct (Free s ∷ cs) h = used_distinct cs h

pub none_spare : (p : ℕ) (cs : List Piece) (f : ℕ) → free_count cs ≡ 0 → IsSpareAt p cs f → ⊥
none_spare p [] f none h = h
none_spare p (Used i b ∷ cs) f none h = none_spare (p + piece_space (length b)) cs f none h
none_spare p (Free s ∷ cs) f none h = omega (arith, none)

-- ---- the pieces

module _ (xs us vs ys : List ℕ) (t low g h n r : ℕ) (a run d : List Piece) (tiled : IsTiled xs t low (a ++ (Free n ∷ (run ++ (Free r ∷ d))))) (at : g ≡ low + spaces a) (next : h ≡ g + n + spaces run)
    (slid : IsSlid xs us (g + n) (g + n + r) (h - (g + n))) (head : IsSet us vs g (n + r + 1)) (raised : AreRaised vs ys t (g + n) h r) where
  abbrev pub old : List Piece
  old = a ++ (Free n ∷ (run ++ (Free r ∷ d)))

  abbrev pub new : List Piece
  new = a ++ (Free (n + r) ∷ (run ++ d))

  table_low : 16 + 2 * t ≤ low
  table_low = let table = tiled.table in omega arith

  shape_a : AllShaped (16 + 2 * t) a
  shape_a = (shaped_split (16 + 2 * t) a (Free n ∷ (run ++ (Free r ∷ d))) tiled.shaped).0

  shape_n : (0 < n) × (n ≡ 4 * (n / 4))
  shape_n = (shaped_split (16 + 2 * t) a (Free n ∷ (run ++ (Free r ∷ d))) tiled.shaped).1.0

  shape_rest : AllShaped (16 + 2 * t) run × AllShaped (16 + 2 * t) (Free r ∷ d)
  shape_rest = shaped_split (16 + 2 * t) run (Free r ∷ d) (shaped_split (16 + 2 * t) a (Free n ∷ (run ++ (Free r ∷ d))) tiled.shaped).1.1

  lies_parts : Lies size_head xs low a g × Lies size_head xs (g + n) run h × Lies size_head xs (h + r) d 65520
  lies_parts =
      let L = lies_split size_head xs low a (Free n ∷ (run ++ (Free r ∷ d))) 65520 tiled.lies in
      let at_run : low + spaces a + n ≡ g + n = omega arith in
      let rest : Lies size_head xs (g + n) (run ++ (Free r ∷ d)) 65520 = subst (λ (k : ℕ). Lies size_head xs k (run ++ (Free r ∷ d)) 65520) at_run L.1.1 in
      let M = lies_split size_head xs (g + n) run (Free r ∷ d) 65520 rest in
      let at_d : g + n + spaces run + r ≡ h + r = omega arith in (
        subst (λ (k : ℕ). Lies size_head xs low a k) (sym at) L.0,
        subst (λ (k : ℕ). Lies size_head xs (g + n) run k) (sym next) M.0,
        subst (λ (k : ℕ). Lies size_head xs k d 65520) at_d M.1.1,
      )

  pub ends : (h + r + spaces d ≡ 65520) × (4 ≤ n) × (4 ≤ r) × (16 + 2 * t ≤ g)
  ends = let S = shape_n in let R = shape_rest.1.0 in let table = table_low in let e = lies_end size_head xs (h + r) d 65520 lies_parts.2 in (omega arith, omega arith, omega arith, omega arith)

  same_entries : (j : ℕ) → j < t → entry vs j ≡ entry xs j
  same_entries j l =
      let E = ends in
      entry_kept us vs 0 g j (record { at = λ k u v. head.before k v }) (omega arith) (omega (arith, E.3))
      ∙ entry_kept xs us 0 g j (record { at = λ k u v. slid.before k (omega arith) }) (omega arith) (omega (arith, E.3))

  same_a : Same xs ys low g
  same_a = let table = table_low in record { at = λ k u v. raised.beyond k (omega arith) ∙ (head.before k v ∙ slid.before k (omega arith)) }

  same_link : Same xs ys (g + 2) (g + 4)
  same_link = let E = ends in record { at = λ k u v. raised.beyond k (omega (arith, E.3)) ∙ (head.behind k u ∙ slid.before k (omega (arith, E.1))) }

  same_run : Same us ys (g + n + r) (h + r)
  same_run = let E = ends in record { at = λ k u v. raised.beyond k (omega (arith, E.3)) ∙ head.behind k (omega (arith, E.1)) }

  same_d : Same xs ys (h + r) 65520
  same_d = let E = ends in record { at = λ k u v. raised.beyond k (omega (arith, E.3)) ∙ (head.behind k (omega (arith, E.1)) ∙ slid.behind k (omega arith)) }

  new_head : word_in ys g ≡ n + r + 1
  new_head = let E = ends in word_kept vs ys g (g + 2) g (record { at = λ k u v. raised.beyond k (omega (arith, E.3)) }) (omega arith) (omega arith) ∙ head.word

  lies_new : Lies size_head ys low new 65520
  lies_new =
      let E = ends in let L = lies_parts in let S = shape_rest in
      let front : Lies size_head ys low a g = lies_kept size_head xs ys (16 + 2 * t) low g same_a low a g shape_a L.0 (omega arith) (omega arith) in
      let moved : Lies size_head us (g + n + r) run (h + r) = lies_slid xs us (g + n) (g + n + r) (h - (g + n)) slid size_head (16 + 2 * t) (g + n) (g + n + r) run h (h + r) (omega arith) (omega arith) S.0 (omega arith) (omega arith) L.1 in
      let middle : Lies size_head ys (g + n + r) run (h + r) = lies_kept size_head us ys (16 + 2 * t) (g + n + r) (h + r) same_run (g + n + r) run (h + r) S.0 moved (omega arith) (omega arith) in
      let back : Lies size_head ys (h + r) d 65520 = lies_kept size_head xs ys (16 + 2 * t) (h + r) 65520 same_d (h + r) d 65520 S.1.1 L.2 (omega arith) (omega arith) in
      let up : g + n + r ≡ g + (n + r) = omega arith in
      lies_append size_head ys low a g (Free (n + r) ∷ (run ++ d)) 65520 front (
        record { head = new_head; bytes = λ k l. absurd (omega arith) },
        subst (λ (k : ℕ). Lies size_head ys k (run ++ d) 65520) up (lies_append size_head ys (g + n + r) run (h + r) d 65520 middle back),
      )

  points_new : Points place_of ys low new
  points_new =
      let E = ends in let S = shape_rest in
      let all : Points place_of vs low old = points_same place_of xs vs (16 + 2 * t) (λ j l. same_entries j (omega arith)) low old tiled.shaped tiled.points in
      let P = points_split place_of vs low a (Free n ∷ (run ++ (Free r ∷ d))) g at all in
      let Q = points_split place_of vs (g + n) run (Free r ∷ d) h next P.1 in
      let front = points_below vs ys t (g + n) h r raised low a (omega arith) shape_a P.0 in
      let middle = points_raised vs ys t (g + n) h r raised (g + n) (g + (n + r)) run (omega arith) (omega arith) (omega arith) S.0 Q.0 in
      let back = points_above vs ys t (g + n) h r raised (h + r) d (omega arith) S.1.1 Q.1 in
      points_append place_of ys low a (Free (n + r) ∷ (run ++ d)) g at front (points_append place_of ys (g + (n + r)) run d (h + r) (omega arith) middle back)

  same_used : used new ≡ used old
  same_used =
      used_joined a (Free (n + r) ∷ (run ++ d))
      ∙ (ap (λ (l : List Piece). used a ++ l) (used_joined run d ∙ sym (used_joined run (Free r ∷ d)))
      ∙ sym (used_joined a (Free n ∷ (run ++ (Free r ∷ d)))))

  fresh_old : (j : ℕ) → IsFresh j new → IsFresh j old
  fresh_old j f = fresh_used j old (subst (IsFresh j) same_used (used_fresh j new f))

  dead_same : (j : ℕ) → j < t → entry xs j ≤ 1 → entry ys j ≡ entry xs j
  dead_same j l dead = let E = ends in let e = same_entries j l in (raised.each j l).below (omega (arith, e, E.3)) ∙ e

  pub closed : IsTiled ys t low new
  closed =
      let S = shape_rest in let N = shape_n in let R = S.1.0 in
      record {
        long = raised.long ∙ (head.long ∙ (slid.long ∙ tiled.long));
        table = tiled.table;
        lies = lies_new;
        points = points_new;
        shaped = shaped_append (16 + 2 * t) a (Free (n + r) ∷ (run ++ d)) shape_a ((omega arith, omega (arith, N.1, R.1)), shaped_append (16 + 2 * t) run d S.0 S.1.1);
        distinct = used_distinct new (subst ArePiecesDistinct (sym same_used) (distinct_used old tiled.distinct));
        covered = λ j l fresh. let dead = tiled.covered j l (fresh_old j fresh) in omega (arith, dead_same j l dead, dead);
      }

  same_chunk : (j : ℕ) → j < t → chunk_from j (entry ys j) old ≡ chunk_from j (entry xs j) old
  same_chunk j l = elim (slot_in j old) [
    | inl k ↦
        let other = (piece_others xs t low old tiled j k.before k.bytes k.after k.is).0 in
        ap (chunk_from j (entry ys j)) (sym k.is) ∙ (at_slot j (entry ys j) k.bytes k.before k.after other ∙ (sym (at_slot j (entry xs j) k.bytes k.before k.after other) ∙ ap (chunk_from j (entry xs j)) k.is))
    | inr fresh ↦ ap (λ (e : ℕ). chunk_from j e old) (dead_same j l (tiled.covered j l fresh))
  ]

  pub closed_chunks : chunks_in ys t ≡ chunks_in xs t
  closed_chunks = same_chunks xs ys t low low old new tiled closed
      (λ j l. sym (at_used j (entry ys j) new) ∙ (ap (chunk_from j (entry ys j)) same_used ∙ (at_used j (entry ys j) old ∙ same_chunk j l)))

  -- ---- the list

  spare_closed : (f : ℕ) → free_count run ≡ 0 → (h ≡ f → ⊥) → IsSpareAt low old f → IsSpareAt low new f × (word_in ys (f + 2) ≡ word_in xs (f + 2))
  spare_closed f none ne sp =
      let E = ends in let S = shape_rest in
      elim (spare_parts low a (Free n ∷ (run ++ (Free r ∷ d))) f sp) [
        | inl l ↦
            let b = spare_bounds (16 + 2 * t) low a f shape_a l in
            (spare_left low a (Free (n + r) ∷ (run ++ d)) f l, word_kept xs ys low g (f + 2) same_a (omega (arith, b.0)) (omega (arith, b.1)))
        | inr m ↦ elim m [
          | inl here ↦ (
            spare_right low a (Free (n + r) ∷ (run ++ d)) f g at (inl (omega (arith, here))),
            word_kept xs ys (g + 2) (g + 4) (f + 2) same_link (omega (arith, here)) (omega (arith, here)),
          )
          | inr there ↦ elim (spare_parts (low + spaces a + n) run (Free r ∷ d) f there) [
            | inl l ↦ absurd (none_spare (low + spaces a + n) run f none l)
            | inr q ↦ elim q [
              | inl here ↦ absurd (ne (omega (arith, here)))
              | inr behind ↦
                  let e : low + spaces a + n + spaces run + r ≡ h + r = omega arith in
                  let sp_d : IsSpareAt (h + r) d f = subst (λ (k : ℕ). IsSpareAt k d f) e behind in
                  let b = spare_bounds (16 + 2 * t) (h + r) d f S.1.1 sp_d in (
                    spare_right low a (Free (n + r) ∷ (run ++ d)) f g at (inr (spare_right (g + (n + r)) run d f (h + r) (omega arith) sp_d)),
                    word_kept xs ys (h + r) 65520 (f + 2) same_d (omega (arith, b.0)) (omega (arith, b.1, E.0)),
                  )
            ]
          ]
        ]
      ]

  spares_closed : (fs : List ℕ) → free_count run ≡ 0 → IsOther h fs → AreSpare low old fs → AreSpare low new fs
  spares_closed [] none other s = tt
  spares_closed (f ∷ fs) none other s = ((spare_closed f none other.0 s.0).0, spares_closed fs none other.1 s.1)

  chain_closed : (k : ℕ) (fs : List ℕ) → free_count run ≡ 0 → IsOther h fs → AreSpare low old fs → IsChain xs k fs → IsChain ys k fs
  chain_closed k [] none other s c = c
  chain_closed k (f ∷ fs) none other s c =
      (c.0, chain_closed (word_in ys (f + 2)) fs none other.1 s.1 (subst (λ (j : ℕ). IsChain xs j fs) (sym (spare_closed f none other.0 s.0).1) c.1))

  pub closed_frees : free_count new + 1 ≡ free_count old
  closed_frees = omega (arith, frees_append a (Free (n + r) ∷ (run ++ d)), frees_append run d, frees_append a (Free n ∷ (run ++ (Free r ∷ d))), frees_append run (Free r ∷ d))

-- ---- a space

module _ (s : Space) (us vs ys : List ℕ) (g h room last : ℕ) (b : HasBelow s g h) (is_room : room ≡ b.room) (is_last : last ≡ b.last)
    (slid : IsSlid s.region us (g + room) (g + room + last) (h - (g + room))) (head : IsSet us vs g (room + last + 1)) (raised : AreRaised vs ys s.slots (g + room) h last) where
  abbrev pub u : Space
  u = record { region = ys; slots = s.slots; low = s.low; head = s.head; total = s.total }

  held_at : HasPieces s (b.before ++ (Free room ∷ (b.run ++ (Free last ∷ b.after)))) b.free 1
  held_at = subst (λ (k : ℕ). HasPieces s (b.before ++ (Free room ∷ (b.run ++ (Free k ∷ b.after)))) b.free 1) (sym is_last) (subst (λ (k : ℕ). HasPieces s (b.before ++ (Free k ∷ (b.run ++ (Free b.last ∷ b.after)))) b.free 1) (sym is_room) b.held)

  next_at : h ≡ g + room + spaces b.run
  next_at = omega (arith, b.next)

  pub closed_formed : IsWellFormed u
  closed_formed =
      let H = held_at in let x = s.region in let t = s.slots in
      record {
        pieces = b.before ++ (Free (room + last) ∷ (b.run ++ b.after));
        free = b.free;
        held = record {
          tiled = closed x us vs ys t s.low g h room last b.before b.run b.after H.tiled b.place next_at slid head raised;
          chain = chain_closed x us vs ys t s.low g h room last b.before b.run b.after H.tiled b.place next_at slid head raised s.head b.free b.chunks b.other H.spare H.chain;
          spare = spares_closed x us vs ys t s.low g h room last b.before b.run b.after H.tiled b.place next_at slid head raised b.free b.chunks b.other H.spare;
          apart = H.apart;
          all = omega (arith, H.all, closed_frees x us vs ys t s.low g h room last b.before b.run b.after H.tiled b.place next_at slid head raised);
          count = H.count ∙ ap spaces (sym (same_used x us vs ys t s.low g h room last b.before b.run b.after H.tiled b.place next_at slid head raised));
        };
      }

  pub closed_same : HasSameChunks s u
  closed_same =
      let H = held_at in
      record {
        slots = refl;
        total = refl;
        chunks = closed_chunks s.region us vs ys s.slots s.low g h room last b.before b.run b.after H.tiled b.place next_at slid head raised;
        dead = dead_same s.region us vs ys s.slots s.low g h room last b.before b.run b.after H.tiled b.place next_at slid head raised;
      }

-- what is known of both pieces
pub record BelowFacts (s : Space) (g h : ℕ) (b : HasBelow s g h) : Type 0 where
  pub head : word_in s.region g ≡ b.room + 1
  pub behind : word_in s.region h ≡ b.last + 1
  pub ends : h + b.last ≤ 65520
  pub room : 4 ≤ b.room
  pub last : 4 ≤ b.last
  pub low : 16 + 2 * s.slots ≤ g
  pub after : g + b.room ≤ h

pub below_facts : (s : Space) (g h : ℕ) (b : HasBelow s g h) → BelowFacts s g h b
below_facts s g h b =
    let tiled = b.held.tiled in let table = tiled.table in
    let L = lies_split size_head s.region s.low b.before (Free b.room ∷ (b.run ++ (Free b.last ∷ b.after))) 65520 tiled.lies in
    let M = lies_split size_head s.region (s.low + spaces b.before + b.room) b.run (Free b.last ∷ b.after) 65520 L.1.1 in
    let e = lies_end size_head s.region (s.low + spaces b.before + b.room + spaces b.run + b.last) b.after 65520 M.1.1 in
    let S = shaped_split (16 + 2 * s.slots) b.before (Free b.room ∷ (b.run ++ (Free b.last ∷ b.after))) tiled.shaped in
    let R = shaped_split (16 + 2 * s.slots) b.run (Free b.last ∷ b.after) S.1.1 in
    let at_h : h ≡ s.low + spaces b.before + b.room + spaces b.run = omega (arith, b.next, b.place) in
    record {
      head = ap (λ (k : ℕ). word_in s.region k) b.place ∙ L.1.0.head;
      behind = ap (λ (k : ℕ). word_in s.region k) at_h ∙ M.1.0.head;
      ends = omega (arith, e, at_h);
      room = omega (arith, S.1.0);
      last = omega (arith, R.1.0);
      low = omega (arith, b.place);
      after = omega (arith, b.next);
    }
