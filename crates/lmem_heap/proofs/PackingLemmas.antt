-- The walk that packs the chunks, run by run, and how all move up together then.
use Rattle.std.proofs.Common.{◌≡◌, ◌≢◌, ℕ, ◌+◌, ◌-◌, ◌*◌, ◌/◌, ◌%◌, ◌<◌, ◌≤◌, List, [], ◌∷◌, ◌++◌, length, refl, sym, ap, subst, ◌∙◌, append_assoc, arith, inl, inr}
use Rattle.lmem_heap.specs.Pieces.{word_in, entry, piece_space, Piece, Used, Free, size_head, handle_head, space, IsPieceAt, Lies, Points, AllShaped, ArePiecesDistinct, used, spaces, place_to, size_of, IsFresh, free_count, place_of}
use Rattle.lmem_heap.specs.Edits.{IsReadyToPack, IsRunPacked, IsSlid, IsSet, IsPacked}
use Rattle.lmem_heap.specs.Tiled.{IsThreaded, IsTiled, AreThreaded, IsCompacted, IsGathered, chunk_from}
use Rattle.lmem_heap.proofs.EditLemmas.{entry_word, entry_kept}
use Rattle.lmem_heap.proofs.PieceLemmas.{fits_in, spaces_append, lies_end, lies_append, points_append, shaped_split, fresh_split, fresh_append, fresh_used, used_joined, distinct_at, head_within, lies_kept, points_kept, shaped_append, used_le, shaped_more, distinct_behind, distinct_before, points_apart, points_same, used_fresh, lies_slid, points_slid}
use Rattle.std.proofs.lemmas.List.{append-nil}
use Rattle.lmem_heap.proofs.ThreadingLemmas.{slot_in}
use Rattle.lmem_heap.proofs.TiledLemmas.{at_slot, at_used, at_after, piece_others, same_chunks}

-- ---- the chunks up to the next free piece, one after another

module _ (old : List ℕ) (start target : ℕ) (cs : List Piece) (swapped : IsReadyToPack old start target cs) where
  pub run_starts : IsRunPacked old old start target cs start
  run_starts = record {
    run = [];
    rest = cs;
    whole = refl;
    chunks = refl;
    long = refl;
    lies = refl;
    points = tt;
    waiting = swapped.lies;
    sizes = swapped.points;
    others = λ j fresh in_table. refl;
    before = λ m shaped. record { at = λ k from to. refl };
  }

  module _ (xs : List ℕ) (p : ℕ) (r : IsRunPacked old xs start target cs p) where
    module _ (i : ℕ) (b : List ℕ) (after : List Piece) (whole : r.run ++ (Used i b ∷ after) ≡ cs) where
      shapes : AllShaped start r.run × AllShaped start (Used i b ∷ after)
      shapes = shaped_split start r.run (Used i b ∷ after) (subst (AllShaped start) (sym whole) swapped.shaped)

      parts : used cs ≡ r.run ++ (Used i b ∷ used after)
      parts = sym (ap used whole) ∙ (used_joined r.run (Used i b ∷ after) ∙ ap (λ (l : List Piece). l ++ (Used i b ∷ used after)) r.chunks)

      run_room : p + piece_space (length b) + target ≤ 65520 + start
      run_room = omega (arith, swapped.room, ap spaces parts, spaces_append r.run (Used i b ∷ used after), lies_end size_head xs start r.run p r.lies)

      -- the chunk that comes is one more of them
      run_next : (ys : List ℕ) → IsPieceAt handle_head xs p (Used i b) → Lies handle_head xs (p + piece_space (length b)) after 65520 → Points size_of xs (p + piece_space (length b)) after
          → IsThreaded xs ys i p (length b) (p + target - start) → IsRunPacked old ys start target cs (p + piece_space (length b))
      run_next ys at waiting sizes h =
          let c = Used i b in let end = p + piece_space (length b) in let place = lies_end size_head xs start r.run p r.lies in let last = lies_end handle_head xs end after 65520 waiting in
          let shape = shapes in let below = shape.1.0.1 in
          let fresh = distinct_at r.run i b (used after) (subst ArePiecesDistinct parts swapped.distinct) in
          let others : (j : ℕ) → j ≢ i → 18 + 2 * j ≤ start → entry ys j ≡ entry xs j = λ j ne in_table. h.others j ne (omega arith) in
          let front : Lies size_head ys start r.run p = lies_kept size_head xs ys start start p (record { at = λ k u v. h.before.at k (omega arith) v }) start r.run p shape.0 r.lies (omega arith) (omega arith) in
          let here : Lies size_head ys p (c ∷ []) end = (record { head = h.head; bytes = λ k l. h.behind.at (p + 2 + k) (omega arith) (omega arith) ∙ at.bytes k l }, refl) in
          record {
            run = r.run ++ (c ∷ []);
            rest = after;
            whole = append_assoc r.run (c ∷ []) after ∙ whole;
            chunks = used_joined r.run (c ∷ []) ∙ ap (λ (l : List Piece). l ++ (c ∷ [])) r.chunks;
            long = h.long ∙ r.long;
            lies = lies_append size_head ys start r.run p (c ∷ []) end front here;
            points = points_append (place_to start target) ys start r.run (c ∷ []) p place (points_kept (place_to start target) xs ys start i others start r.run shape.0 fresh.0 r.points) (h.entry_is, tt);
            waiting = lies_kept handle_head xs ys start (p + 2) 65520 h.behind end after 65520 shape.1.1 waiting (omega arith) (omega arith);
            sizes = points_kept size_of xs ys start i others end after shape.1.1 (fresh_used i after fresh.1) sizes;
            others = λ j none in_table. let f = fresh_split j r.run (c ∷ []) none in others j f.1.0 in_table ∙ r.others j f.0 in_table;
            before = λ m shaped. let s = shaped_split m r.run (c ∷ []) shaped in record { at = λ k u v. h.before.at k (omega (arith, s.1.0.1)) (omega arith) ∙ (r.before m s.0).at k u v };
          }

    shaped_rest : AllShaped start r.rest
    shaped_rest = (shaped_split start r.run r.rest (subst (AllShaped start) (sym r.whole) swapped.shaped)).1

    pub run_within : p < 65520 → p + 2 ≤ 65520
    run_within = head_within handle_head xs start p r.rest 65520 r.waiting shaped_rest

    -- what the code knows of a chunk that comes, whose handle is h
    pub record IsTurn (h : ℕ) : Type 0 where
      pub high : 16 ≤ h
      pub below : 18 + 2 * ((h - 16) / 2) ≤ p
      pub read : h + 2 ≤ 65520
      pub ahead : start ≤ p
      pub room : p + target ≤ 65520 + start
      pub next : (n : ℕ) (ys : List ℕ) → n ≡ word_in xs h → IsThreaded xs ys ((h - 16) / 2) p n (p + target - start) → IsRunPacked old ys start target cs (p + piece_space n)

    turn_at : (rest : List Piece) → r.run ++ rest ≡ cs → Lies handle_head xs p rest 65520 → Points size_of xs p rest → (h : ℕ) → h ≡ word_in xs p → p < 65520 → h % 2 ≢ 1 → IsTurn h
    turn_at [] whole lies points h is more even = absurd (omega arith)
    turn_at (Free s ∷ after) whole lies points h is more even =
        let shape = (shaped_split start r.run (Free s ∷ after) (subst (AllShaped start) (sym whole) swapped.shaped)).1.0 in
        absurd (even (omega (arith, lies.0.head, shape.1)))
    turn_at (Used i b ∷ after) whole lies points h is more even =
        let handle : h ≡ 16 + 2 * i = is ∙ lies.0.head in let slot : (h - 16) / 2 ≡ i = omega arith in
        let shape = (shapes i b after whole).1.0 in let place = lies_end size_head xs start r.run p r.lies in
        let far = run_room i b after whole in let last = lies_end handle_head xs (p + piece_space (length b)) after 65520 lies.1 in
        let size : (n : ℕ) → n ≡ word_in xs h → n ≡ length b = λ n value. value ∙ (entry_word xs i h handle ∙ points.0) in
        record {
          high = omega arith;
          below = omega (arith, shape.1);
          read = omega (arith, shape.1);
          ahead = omega arith;
          room = omega arith;
          next = λ n ys value threaded.
              let e = size n value in let to : p + piece_space (length b) ≡ p + piece_space n = ap (λ (k : ℕ). p + piece_space k) (sym e) in
              let t : IsThreaded xs ys i p (length b) (p + target - start) = subst (λ (j : ℕ). IsThreaded xs ys j p (length b) (p + target - start)) slot (subst (λ (k : ℕ). IsThreaded xs ys ((h - 16) / 2) p k (p + target - start)) e threaded) in
              subst (λ (k : ℕ). IsRunPacked old ys start target cs k) to (run_next i b after whole ys lies.0 lies.1 points.1 t);
        }

    pub run_turn : (h : ℕ) → h ≡ word_in xs p → p < 65520 → h % 2 ≢ 1 → IsTurn h
    run_turn = turn_at r.rest r.whole r.waiting r.sizes

    -- the first of them is one at least
    first_moves : (rest : List Piece) → rest ≡ cs → Lies handle_head xs p rest 65520 → start ≡ p → start < 65520 → word_in xs p ≡ word_in old start
    first_moves [] whole lies none more = absurd (omega arith)
    first_moves (c ∷ after) whole lies none more = lies.0.head ∙ sym (subst (λ (ds : List Piece). Lies handle_head old start ds 65520) (sym whole) swapped.lies).0.head

    run_moves_at : (run : List Piece) → run ++ r.rest ≡ cs → Lies size_head xs start run p → start < 65520 → word_in old start % 2 ≢ 1 → (p < 65520 → word_in xs p % 2 ≡ 1) → start < p
    run_moves_at [] whole lies more even stops = absurd (even (omega (arith, first_moves r.rest whole r.waiting lies more, stops (omega arith))))
    run_moves_at (c ∷ run) whole lies more even stops =
        let shape = shaped_split start (c ∷ run) r.rest (subst (AllShaped start) (sym whole) swapped.shaped) in
        let e = lies_end size_head xs (start + space c) run p lies.1 in let s = fits_in start c shape.0.0 in omega arith

    pub run_moves : start < 65520 → word_in old start % 2 ≢ 1 → (p < 65520 → word_in xs p % 2 ≡ 1) → start < p
    run_moves = run_moves_at r.run r.whole r.lies

-- ---- the walk that packs the chunks

-- the pieces up to p are packed up to q, and those from p on are to come
pub record IsWalked (old xs : List ℕ) (low target : ℕ) (pieces : List Piece) (p q : ℕ) : Type 0 where
  pub done : List Piece
  pub rest : List Piece
  pub whole : done ++ used rest ≡ used pieces
  pub long : length xs ≡ 65520
  pub packed : Lies size_head xs low done q
  pub coming : Lies handle_head xs p rest 65520
  pub behind : q ≤ p
  pub moved : Points (place_to low target) xs low done
  pub sizes : Points size_of xs p rest
  pub shaped_done : AllShaped low done
  pub shaped : AllShaped low rest
  pub others : (j : ℕ) → IsFresh j (used pieces) → 18 + 2 * j ≤ low → entry xs j ≡ entry old j

module _ (old : List ℕ) (low target : ℕ) (pieces : List Piece) where
  pub walk_starts : length old ≡ 65520 → Lies handle_head old low pieces 65520 → Points size_of old low pieces → AllShaped low pieces → IsWalked old old low target pieces low low
  walk_starts long lies points shaped = record {
    done = [];
    rest = pieces;
    whole = refl;
    long = long;
    packed = refl;
    coming = lies;
    behind = omega arith;
    moved = tt;
    sizes = points;
    shaped_done = tt;
    shaped = shaped;
    others = λ j fresh in_table. refl;
  }

  module _ (xs : List ℕ) (p q : ℕ) where
    -- a free piece comes
    pub record IsFreeTurn : Type 0 where
      pub room : ℕ
      pub head : word_in xs p ≡ room + 1
      pub some : 0 < room
      pub ends : p + room ≤ 65520
      pub walked : IsWalked old xs low target pieces (p + room) q

    module _ (w : IsWalked old xs low target pieces p q) where
      free_at : (rest : List Piece) → w.done ++ used rest ≡ used pieces → Lies handle_head xs p rest 65520 → Points size_of xs p rest → AllShaped low rest → p < 65520 → word_in xs p % 2 ≡ 1 → IsFreeTurn
      free_at [] whole lies points shaped more odd = absurd (omega arith)
      free_at (Used i b ∷ cs) whole lies points shaped more odd = absurd (omega (arith, lies.0.head))
      free_at (Free s ∷ cs) whole lies points shaped more odd =
          let e = lies_end handle_head xs (p + s) cs 65520 lies.1 in
          record {
            room = s;
            head = lies.0.head;
            some = shaped.0.0;
            ends = omega arith;
            walked = record {
              done = w.done;
              rest = cs;
              whole = whole;
              long = w.long;
              packed = w.packed;
              coming = lies.1;
              behind = omega (arith, w.behind);
              moved = w.moved;
              sizes = points;
              shaped_done = w.shaped_done;
              shaped = shaped.1;
              others = w.others;
            };
          }

      pub free_turn : p < 65520 → word_in xs p % 2 ≡ 1 → IsFreeTurn
      free_turn = free_at w.rest w.whole w.coming w.sizes w.shaped

      -- what the code knows of a free piece that comes, whose first word is r
      pub free_step : (r : ℕ) → r ≡ word_in xs p → p < 65520 → r % 2 ≡ 1 → (0 < r - 1) × (p + (r - 1) ≤ 65520) × IsWalked old xs low target pieces (p + (r - 1)) q
      free_step r is more odd =
          let t = free_turn more (omega arith) in let room : t.room ≡ r - 1 = omega (arith, t.head) in
          (omega (arith, t.some), omega (arith, t.ends), subst (λ (n : ℕ). IsWalked old xs low target pieces (p + n) q) room t.walked)

      pub turn_within : p < 65520 → p + 2 ≤ 65520
      turn_within = head_within handle_head xs low p w.rest 65520 w.coming w.shaped

      pub turn_low : low ≤ q
      turn_low = let end = lies_end size_head xs low w.done q w.packed in omega arith

      -- the chunks that come, as far as the next free piece, are ready to be packed
      module _ (swapped : IsReadyToPack old low target pieces) where
        turn_sum : q + spaces (used w.rest) + target ≤ 65520 + low
        turn_sum = omega (arith, swapped.room, ap spaces w.whole, spaces_append w.done (used w.rest), lies_end size_head xs low w.done q w.packed)

        pub turn_ready : IsReadyToPack xs p (q + target - low) w.rest
        turn_ready = record {
          long = w.long;
          lies = w.coming;
          points = w.sizes;
          shaped = shaped_more low p w.rest (omega (arith, turn_low, w.behind)) w.shaped;
          distinct = distinct_behind w.done (used w.rest) (subst ArePiecesDistinct (sym w.whole) swapped.distinct);
          room = omega (arith, turn_sum, turn_low);
        }

        -- and then they are moved
        turn_done : (ys zs : List ℕ) (end : ℕ) → IsRunPacked xs ys p (q + target - low) w.rest end → IsSlid ys zs p q (end - p) → IsWalked old zs low target pieces end (q + (end - p))
        turn_done ys zs end r slid =
            let le = turn_low in let back = w.behind in let past = lies_end size_head ys p r.run end r.lies in let place = lies_end size_head xs low w.done q w.packed in
            let parts : used w.rest ≡ r.run ++ used r.rest = sym (ap used r.whole) ∙ (used_joined r.run r.rest ∙ ap (λ (l : List Piece). l ++ used r.rest) r.chunks) in
            let join : (w.done ++ r.run) ++ used r.rest ≡ used pieces = append_assoc w.done r.run (used r.rest) ∙ (ap (λ (l : List Piece). w.done ++ l) (sym parts) ∙ w.whole) in
            let apart : ArePiecesDistinct ((w.done ++ r.run) ++ used r.rest) = subst ArePiecesDistinct (sym join) swapped.distinct in
            let shape = shaped_split low r.run r.rest (subst (AllShaped low) (sym r.whole) w.shaped) in
            let entries : (j : ℕ) → 18 + 2 * j ≤ low → entry zs j ≡ entry ys j = λ j in_table. entry_kept ys zs 0 q j (record { at = λ k u v. slid.before k v }) (omega arith) (omega arith) in
            let others : (j : ℕ) → IsFresh j r.run → 18 + 2 * j ≤ low → entry zs j ≡ entry xs j = λ j fresh in_table. entries j in_table ∙ r.others j fresh (omega arith) in
            let front : Lies size_head zs low w.done q = lies_kept size_head xs zs low low q
            (record { at = λ k u v. slid.before k v ∙ (r.before low shape.0).at k u (omega arith) }) low w.done q w.shaped_done w.packed (omega arith) (omega arith) in
            let here : Lies size_head zs q r.run (q + (end - p)) = lies_slid ys zs p q (end - p) slid size_head low p q r.run end (q + (end - p)) (omega arith) (omega arith) shape.0 (omega arith) (omega arith) r.lies in
            record {
              done = w.done ++ r.run;
              rest = r.rest;
              whole = join;
              long = slid.long ∙ (r.long ∙ w.long);
              packed = lies_append size_head zs low w.done q r.run (q + (end - p)) front here;
              coming = lies_kept handle_head ys zs low end 65520 (record { at = λ k u v. slid.behind k (omega arith) }) end r.rest 65520 shape.1 r.waiting (omega arith) (omega arith);
              behind = omega arith;
              moved = points_append (place_to low target) zs low w.done r.run q place
                  (points_apart (place_to low target) xs zs low r.run others low w.done w.shaped_done (distinct_before (w.done ++ r.run) (used r.rest) apart) w.moved)
                  (points_slid ys zs p q (end - p) slid (place_to p (q + target - low)) (place_to low target) low p q r.run (λ k j i b is. omega arith) (omega arith) (omega arith) shape.0 r.points);
              sizes = points_same size_of ys zs low entries end r.rest shape.1 r.sizes;
              shaped_done = shaped_append low w.done r.run w.shaped_done shape.0;
              shaped = shape.1;
              others = λ j none in_table.
                  let fresh = (fresh_split j w.done r.run (fresh_split j (w.done ++ r.run) (used r.rest) (subst (IsFresh j) (sym join) none)).0).1 in
                  others j fresh in_table ∙ w.others j none in_table;
            }

        -- what the code knows of them, whose sizes the region has back
        pub record IsMoving (ys : List ℕ) (end : ℕ) : Type 0 where
          pub long : length ys ≡ 65520
          pub more : p < end
          pub within : end ≤ 65520
          pub behind : q ≤ p
          pub next : (zs : List ℕ) → IsSlid ys zs p q (end - p) → IsWalked old zs low target pieces end (q + (end - p))

        pub turn_moving : (h : ℕ) → h ≡ word_in xs p → p < 65520 → h % 2 ≢ 1 → (ys : List ℕ) (end : ℕ) → ((cs : List Piece) → IsReadyToPack xs p (q + target - low) cs → IsRunPacked xs ys p (q + target - low) cs end)
            → (end < 65520 → word_in ys end % 2 ≡ 1) → IsMoving ys end
        turn_moving h is more even ys end run stops =
            let r = run w.rest turn_ready in
            record {
              long = r.long ∙ w.long;
              more = run_moves xs p (q + target - low) w.rest turn_ready ys end r more (λ odd. even (omega arith)) stops;
              within = omega (arith, lies_end handle_head ys end r.rest 65520 r.waiting);
              behind = w.behind;
              next = λ zs slid. turn_done ys zs end r slid;
            }

  -- no piece is left
  pub walk_ends : (xs : List ℕ) (p q : ℕ) → IsWalked old xs low target pieces p q → 65520 ≤ p → IsPacked old xs low target pieces
  walk_ends xs p q w past = packed_at w.rest w.whole w.coming w.shaped where
    packed_at : (rest : List Piece) → w.done ++ used rest ≡ used pieces → Lies handle_head xs p rest 65520 → AllShaped low rest → IsPacked old xs low target pieces
    packed_at [] whole lies shaped =
        let is : w.done ≡ used pieces = sym (append-nil w.done) ∙ whole in let end = lies_end size_head xs low w.done q w.packed in
        record {
          long = w.long;
          lies = subst (λ (cs : List Piece). Lies size_head xs low cs (low + spaces cs)) is (subst (λ (n : ℕ). Lies size_head xs low w.done n) end w.packed);
          points = subst (λ (cs : List Piece). Points (place_to low target) xs low cs) is w.moved;
          others = w.others;
        }
    packed_at (c ∷ cs) whole lies shaped = let e = lies_end handle_head xs (p + space c) cs 65520 lies.1 in let s = fits_in low c shaped.0 in absurd (omega arith)

-- ---- the packed pieces move up together

-- ---- the pieces with a chunk

pub shaped_used : (limit : ℕ) (cs : List Piece) → AllShaped limit cs → AllShaped limit (used cs)
shaped_used limit [] h = tt
shaped_used limit (Used i b ∷ cs) h = (h.0, shaped_used limit cs h.1)
shaped_used limit (Free s ∷ cs) h = shaped_used limit cs h.1

pub distinct_used : (cs : List Piece) → ArePiecesDistinct cs → ArePiecesDistinct (used cs)
distinct_used [] h = tt
distinct_used (Used i b ∷ cs) h = (used_fresh i cs h.0, distinct_used cs h.1)
distinct_used (Free s ∷ cs) h = distinct_used cs h

-- a free piece behind the others is of no slot
distinct_free : (room : ℕ) (cs : List Piece) → ArePiecesDistinct cs → ArePiecesDistinct (cs ++ (Free room ∷ []))
distinct_free room [] h = tt
distinct_free room (Used i b ∷ cs) h = (fresh_append i cs (Free room ∷ []) h.0 tt, distinct_free room cs h.1)
distinct_free room (Free s ∷ cs) h = distinct_free room cs h

-- free pieces are of whole double words, and so is what they take together
free_whole : (limit : ℕ) (cs : List Piece) → AllShaped limit cs → spaces cs - spaces (used cs) ≡ 4 * ((spaces cs - spaces (used cs)) / 4)
free_whole limit [] h = refl
free_whole limit (Used i b ∷ cs) h = omega (arith, free_whole limit cs h.1, used_le cs)
free_whole limit (Free s ∷ cs) h = omega (arith, free_whole limit cs h.1, used_le cs, h.0.1)

-- entries that are called by another name
points_named : (e g : ℕ → ℕ → List ℕ → ℕ) (xs : List ℕ) → ((p i : ℕ) (b : List ℕ) → e p i b ≡ g p i b) → (p : ℕ) (cs : List Piece) → Points e xs p cs → Points g xs p cs
points_named e g xs same p [] l = tt
points_named e g xs same p (Used i b ∷ cs) l = (l.0 ∙ same p i b, points_named e g xs same (p + piece_space (length b)) cs l.1)
points_named e g xs same p (Free s ∷ cs) l = points_named e g xs same (p + s) cs l

-- ---- compaction

module _ (xs : List ℕ) (t low total : ℕ) (cs : List Piece) (tiled : IsTiled xs t low cs) (count : total ≡ spaces (used cs)) where
  pub total_fits : low + total ≤ 65520
  total_fits = omega (arith, lies_end size_head xs low cs 65520 tiled.lies, used_le cs)

  pub swapped : (ys : List ℕ) → AreThreaded xs ys t low cs → IsReadyToPack ys low (65520 - total) cs
  swapped ys given = record {
    long = given.long;
    lies = given.lies;
    points = given.points;
    shaped = shaped_more (16 + 2 * t) low cs (omega (arith, tiled.table)) tiled.shaped;
    distinct = distinct_used cs tiled.distinct;
    room = omega (arith, total_fits);
  }

  -- they can lie where the pieces begin, too
  pub swapped_low : (ys : List ℕ) → AreThreaded xs ys t low cs → IsReadyToPack ys low low cs
  swapped_low ys given = let h = swapped ys given in record {
    long = h.long;
    lies = h.lies;
    points = h.points;
    shaped = h.shaped;
    distinct = h.distinct;
    room = omega (arith, total_fits);
  }

  pub compacted : (ys zs ws : List ℕ) → AreThreaded xs ys t low cs → IsPacked ys zs low (65520 - total) cs → IsSlid zs ws low (65520 - total) total → IsCompacted xs ws t total cs
  compacted ys zs ws given packed slid =
      let high = 65520 - total in let fits = total_fits in let table = tiled.table in
      let shaped = shaped_used (16 + 2 * t) cs tiled.shaped in
      let same : (j : ℕ) → j < t → IsFresh j (used cs) → entry ws j ≡ entry xs j = λ j l fresh.
      entry_kept zs ws 0 high j (record { at = λ k u v. slid.before k v }) (omega arith) (omega arith) ∙ (packed.others j fresh (omega arith) ∙ given.others j l (fresh_used j cs fresh)) in
      let after : IsTiled ws t high (used cs) = record {
        long = slid.long ∙ packed.long;
        table = omega arith;
        lies = lies_slid zs ws low high total slid size_head (16 + 2 * t) low high (used cs) (low + spaces (used cs)) 65520 (omega arith) (omega arith) shaped (omega arith) (omega arith) packed.lies;
        points = points_slid zs ws low high total slid (place_to low high) place_of (16 + 2 * t) low high (used cs) (λ k j i b is. omega arith) (omega arith) (omega arith) shaped packed.points;
        shaped = shaped;
        distinct = distinct_used cs tiled.distinct;
        covered = λ j l fresh. omega (arith, same j l fresh, tiled.covered j l (fresh_used j cs fresh));
      } in
      record {
        tiled = after;
        chunks = same_chunks xs ws t low high cs (used cs) tiled after (λ j l. elim (slot_in j cs) [
          | inl h ↦
              let other = (piece_others xs t low cs tiled j h.before h.bytes h.after h.is).0 in
              at_used j (entry ws j) cs ∙ (ap (chunk_from j (entry ws j)) (sym h.is) ∙ (at_slot j (entry ws j) h.bytes h.before h.after other ∙ (sym (at_slot j (entry xs j) h.bytes h.before h.after other) ∙ ap (chunk_from j (entry xs j)) h.is)))
          | inr fresh ↦ ap (λ (e : ℕ). chunk_from j e (used cs)) (same j l (used_fresh j cs fresh)) ∙ at_used j (entry xs j) cs
        ]);
        entries = λ j l fresh. same j l (used_fresh j cs fresh);
      }

  -- what is free is of whole double words
  pub gap_whole : 65520 - (low + total) ≡ 4 * ((65520 - (low + total)) / 4)
  gap_whole = let w = free_whole (16 + 2 * t) cs tiled.shaped in omega (arith, w, used_le cs, lies_end size_head xs low cs 65520 tiled.lies)

  pub gathered : (ys zs ws : List ℕ) → low + total < 65520 → AreThreaded xs ys t low cs → IsPacked ys zs low low cs → IsSet zs ws (low + total) (65520 - (low + total) + 1) → IsGathered xs ws t low total cs
  gathered ys zs ws some given packed head =
      let end = low + total in let table = tiled.table in let limit = 16 + 2 * t in let gap = 65520 - (low + total) in let free = Free gap ∷ [] in
      let shaped = shaped_used limit cs tiled.shaped in let all = spaces_append (used cs) free in
      let kept : (j : ℕ) → j < t → entry ws j ≡ entry zs j = λ j l. entry_kept zs ws 0 end j (record { at = λ k u v. head.before k v }) (omega arith) (omega arith) in
      let same : (j : ℕ) → j < t → IsFresh j (used cs) → entry ws j ≡ entry xs j = λ j l fresh. kept j l ∙ (packed.others j fresh (omega arith) ∙ given.others j l (fresh_used j cs fresh)) in
      let packed_lies : Lies size_head zs low (used cs) end = subst (λ (n : ℕ). Lies size_head zs low (used cs) (low + n)) (sym count) packed.lies in
      let front : Lies size_head ws low (used cs) end = lies_kept size_head zs ws limit low end (record { at = λ k u v. head.before k v }) low (used cs) end shaped packed_lies (omega arith) (omega arith) in
      let back : Lies size_head ws end free 65520 = (record { head = head.word; bytes = λ k l. absurd (omega arith) }, omega arith) in
      let placed : Points place_of zs low (used cs) = points_named (place_to low low) place_of zs (λ k i b. omega arith) low (used cs) packed.points in
      let after : IsTiled ws t low (used cs ++ free) = record {
        long = head.long ∙ packed.long;
        table = table;
        lies = lies_append size_head ws low (used cs) end free 65520 front back;
        points = points_append place_of ws low (used cs) free end (omega arith) (points_same place_of zs ws limit (λ j l. kept j (omega arith)) low (used cs) shaped placed) tt;
        shaped = shaped_append limit (used cs) free shaped ((omega arith, gap_whole), tt);
        distinct = distinct_free gap (used cs) (distinct_used cs tiled.distinct);
        covered = λ j l fresh. let f = (fresh_split j (used cs) free fresh).0 in omega (arith, same j l f, tiled.covered j l (fresh_used j cs f));
      } in
      let without : (j e : ℕ) → chunk_from j e (used cs ++ free) ≡ chunk_from j e (used cs) = λ j e.
      at_after j e (used cs) free [] refl ∙ ap (chunk_from j e) (append-nil (used cs)) in
      record {
        tiled = after;
        chunks = same_chunks xs ws t low low cs (used cs ++ free) tiled after (λ j l. without j (entry ws j) ∙ elim (slot_in j cs) [
          | inl h ↦
              let other = (piece_others xs t low cs tiled j h.before h.bytes h.after h.is).0 in
              at_used j (entry ws j) cs ∙ (ap (chunk_from j (entry ws j)) (sym h.is) ∙ (at_slot j (entry ws j) h.bytes h.before h.after other ∙ (sym (at_slot j (entry xs j) h.bytes h.before h.after other) ∙ ap (chunk_from j (entry xs j)) h.is)))
          | inr fresh ↦ ap (λ (e : ℕ). chunk_from j e (used cs)) (same j l (used_fresh j cs fresh)) ∙ at_used j (entry xs j) cs
        ]);
        entries = λ j l fresh. same j l (used_fresh j cs fresh);
      }

pub frees_used : (cs : List Piece) → free_count (used cs) ≡ 0
frees_used [] = refl
frees_used (Used i b ∷ cs) = frees_used cs
frees_used (Free s ∷ cs) = frees_used cs

pub frees_behind : (room : ℕ) (cs : List Piece) → free_count (used cs ++ (Free room ∷ [])) ≡ 1
frees_behind room [] = refl
frees_behind room (Used i b ∷ cs) = frees_behind room cs
frees_behind room (Free s ∷ cs) = frees_behind room cs

pub used_behind : (room : ℕ) (cs : List Piece) → spaces (used (used cs ++ (Free room ∷ []))) ≡ spaces (used cs)
used_behind room [] = refl
used_behind room (Used i b ∷ cs) = ap (λ (n : ℕ). piece_space (length b) + n) (used_behind room cs)
used_behind room (Free s ∷ cs) = used_behind room cs

pub used_used : (cs : List Piece) → spaces (used (used cs)) ≡ spaces (used cs)
used_used [] = refl
used_used (Used i b ∷ cs) = ap (λ (n : ℕ). piece_space (length b) + n) (used_used cs)
used_used (Free s ∷ cs) = used_used cs
