-- The chunk of a slot is moved into a free piece, and its own becomes free.
use Rattle.std.proofs.Common.{◌≡◌, ℕ, ◌+◌, ◌-◌, ◌*◌, ◌/◌, ◌<◌, ◌≤◌, ◌⊎◌, List, [], ◌∷◌, ◌++◌, length, get_or, set, Option, Some, None, unwrap_or, refl, sym, ap, subst, ◌∙◌, append_assoc, inl, inr, arith}
use Rattle.std.proofs.lemmas.Bool.{cases_lt}
use Rattle.std.proofs.lemmas.List.{set-set, ext_get_or, get_or-set_same}
use Rattle.geos_model.specs.Bytes.{resized}
use Rattle.lmem_heap.specs.declared.space.Space.{Space}
use Rattle.lmem_heap.specs.Pieces.{word_in, entry, piece_space, Piece, Used, Free, size_head, Lies, AllShaped, IsFresh, spaces}
use Rattle.lmem_heap.specs.Edits.{Same, IsSet, IsRangeCopied}
use Rattle.lmem_heap.specs.Tiled.{IsTiled, chunk_under, chunks_in}
use Rattle.lmem_heap.specs.Space.{IsSpareAt, IsOther, HasPieces, IsWellFormedBut, IsDetached, IsUnmoved, IsReadyToTake, IsResized, HasNext, room_of}
use Rattle.lmem_heap.proofs.EditLemmas.{word_kept, entry_kept, entry_set, entry_other, set_before, set_behind}
use Rattle.lmem_heap.proofs.PieceLemmas.{lies_split, spaces_append, shaped_split, fresh_append, fresh_split}
use Rattle.lmem_heap.proofs.TiledLemmas.{length-chunks_in, piece_chunk, piece_others, chunk_in, shaped_fresh, IsEdit, edited_set, edited_unmoved, spare_bounds, spare_parts, spare_right, spare_edited, Each, each_all, each_other, IsLinkKept}
use Rattle.lmem_heap.proofs.FreePieceLemmas.{free_facts}
use Rattle.lmem_heap.proofs.FreeListLemmas.{IsSpareSplit, spare_split}
use Rattle.lmem_heap.proofs.EntryLemmas.{used_other, IsLivePiece, live_piece, free_edit, detached_well_formed}
use Rattle.lmem_heap.proofs.StoredLemmas.{live_of, size_is}
use Rattle.lmem_heap.proofs.ResizingLemmas.{count_resized, resized_front, resized_zeros, held_edited}

-- a free piece that the list lacks, by its place
pub detached_at : (u : Space) (p room : ℕ) (cs : List Piece) (fs : List ℕ) → HasPieces u cs fs 1 → IsSpareAt u.low cs p → IsOther p fs → word_in u.region p ≡ room + 1 → IsDetached u p room
detached_at u p room cs fs held spare other word =
    let r = spare_split u.low cs p spare in
    let h : HasPieces u (r.before ++ (Free r.room ∷ r.after)) fs 1 = subst (λ (ds : List Piece). HasPieces u ds fs 1) (sym r.is) held in
    let F = free_facts u.region u.slots u.low p r.room r.before r.after h.tiled r.place in
    let same : r.room ≡ room = omega (arith, F.0) in
    record { before = r.before; after = r.after; free = fs; held = subst (λ (n : ℕ). HasPieces u (r.before ++ (Free n ∷ r.after)) fs 1) same h; place = r.place; other = other }

-- a free piece ends where the pieces do, or before
spare_ends : (xs : List ℕ) (p : ℕ) (cs : List Piece) (r f : ℕ) → Lies size_head xs p cs r → IsSpareAt p cs f → f + word_in xs f ≤ p + spaces cs + 1
spare_ends xs p [] r f l h = absurd h
spare_ends xs p (Used i b ∷ cs) r f l h = omega (arith, spare_ends xs (p + piece_space (length b)) cs r f l.1 h)
spare_ends xs p (Free s ∷ cs) r f l (inl here) = let head = l.0.head in let same : word_in xs f ≡ word_in xs p = ap (λ (q : ℕ). word_in xs q) here in omega arith
spare_ends xs p (Free s ∷ cs) r f l (inr there) = omega (arith, spare_ends xs (p + s) cs r f l.1 there)

-- ---- bytes are written into a free piece

module _ (s : Space) (q room : ℕ) (f : IsDetached s q room) (ys : List ℕ) (long : length ys ≡ 65520) (before : Same s.region ys 0 (q + 2)) (behind : Same s.region ys (q + room) 65520) where
  free_q : (word_in s.region q ≡ room + 1) × (q + room ≤ 65520) × (4 ≤ room) × (16 + 2 * s.slots ≤ q) × (room ≡ 4 * (room / 4))
  free_q = free_facts s.region s.slots s.low q room f.before f.after f.held.tiled f.place

  over_edit : IsEdit s.region ys s.slots s.slots s.low q (Free room ∷ []) (Free room ∷ [])
  over_edit =
      let F = free_q in
      record {
        long = long;
        others = λ j l ne. entry_kept s.region ys 0 (q + 2) j before (omega arith) (omega (arith, F.3));
        before = record { at = λ k from to. before.at k (omega arith) (omega arith) };
        behind = record { at = λ k from to. behind.at k (omega arith) to };
        lies = (record { head = word_kept s.region ys 0 (q + 2) q before (omega arith) (omega arith) ∙ F.0; bytes = λ k l. absurd (omega arith) }, omega arith);
        points = tt;
        shaped = ((omega (arith, F.2), F.4), tt);
        distinct = tt;
        only_new = λ j ne. tt;
        only_old = λ j ne. tt;
        covered = λ l. absurd (omega arith);
      }

  front_fresh : IsFresh s.slots f.before
  front_fresh = shaped_fresh s.slots f.before s.slots (omega arith) (shaped_split (16 + 2 * s.slots) f.before (Free room ∷ f.after) f.held.tiled.shaped).0

  back_fresh : IsFresh s.slots f.after
  back_fresh = shaped_fresh s.slots f.after s.slots (omega arith) (shaped_split (16 + 2 * s.slots) f.before (Free room ∷ f.after) f.held.tiled.shaped).1.1

  over_links : Each (IsLinkKept s.region ys q (Free room ∷ []) (Free room ∷ [])) f.free
  over_links = each_other (IsLinkKept s.region ys q (Free room ∷ []) (Free room ∷ [])) q (λ g ne h. elim h [ inl here ↦ absurd (ne (sym here)) | inr none ↦ absurd none ]) f.free f.other

  over_detached : IsDetached (record { region = ys; slots = s.slots; low = s.low; head = s.head; total = s.total }) q room
  over_detached = record {
    before = f.before;
    after = f.after;
    free = f.free;
    held = held_edited s ys s.slots q f.before (Free room ∷ []) (Free room ∷ []) f.after f.free f.held f.place over_edit front_fresh back_fresh over_links s.total refl 1 refl;
    place = f.place;
    other = f.other;
  }

  over_unmoved : IsUnmoved s (record { region = ys; slots = s.slots; low = s.low; head = s.head; total = s.total })
  over_unmoved = record {
    slots = refl;
    total = refl;
    entries = λ j l. over_edit.others j l (λ e. omega arith);
    chunks = edited_unmoved s.region ys s.slots s.slots s.low q f.before (Free room ∷ []) (Free room ∷ []) f.after f.held.tiled f.place over_edit front_fresh back_fresh (omega arith);
  }

pub copied_detached : {ys : List ℕ} {p size : ℕ} (s : Space) (q n : ℕ) → IsDetached s q (piece_space n) → IsRangeCopied s.region ys p q size n → IsDetached (record { region = ys; slots = s.slots; low = s.low; head = s.head; total = s.total }) q (piece_space n)
copied_detached {ys = ys} s q n f c = over_detached s q (piece_space n) f ys (c.long ∙ f.held.tiled.long) (record { at = λ j from to. c.before j to }) (record { at = λ j from to. c.behind j (omega arith) })

pub copied_unmoved : {ys : List ℕ} {p size : ℕ} (s : Space) (q n : ℕ) → IsDetached s q (piece_space n) → IsRangeCopied s.region ys p q size n → IsUnmoved s (record { region = ys; slots = s.slots; low = s.low; head = s.head; total = s.total })
copied_unmoved {ys = ys} s q n f c = over_unmoved s q (piece_space n) f ys (c.long ∙ f.held.tiled.long) (record { at = λ j from to. c.before j to }) (record { at = λ j from to. c.behind j (omega arith) })

-- the bytes of a chunk
module _ {detached : ℕ} (s : Space) (k : IsWellFormedBut s detached) (ys : List ℕ) (i p q size n : ℕ) (g : IsLivePiece s k i p size) (within : i < s.slots) (copied : IsRangeCopied s.region ys p q size n) where
  bytes_at : (j : ℕ) → j < size → get_or s.region (p + 2 + j) 0 ≡ get_or g.bytes j 0
  bytes_at j l =
      let parts = (lies_split size_head s.region s.low g.before (Used i g.bytes ∷ g.after) 65520 g.held.tiled.lies).1 in
      ap (λ (m : ℕ). get_or s.region (m + 2 + j) 0) g.place ∙ parts.0.bytes j (omega (arith, g.size))

  pub ready_bytes : chunks_in ys s.slots ≡ chunks_in s.region s.slots → IsReadyToTake (record { region = ys; slots = s.slots; low = s.low; head = s.head; total = s.total }) i q n
  ready_bytes same = λ j l.
      let old : get_or (chunks_in ys s.slots) i None ≡ Some g.bytes
      = ap (λ (cs : List (Option (List ℕ))). get_or cs i None) same ∙ (chunk_in s.region s.slots i within ∙ piece_chunk s.region s.slots s.low (g.before ++ (Used i g.bytes ∷ g.after)) g.held.tiled i g.before g.bytes g.after refl) in
      elim (cases_lt j size) [
        | inl in_b ↦ copied.moved j in_b ∙ (bytes_at j in_b ∙ sym (resized_front g.bytes n j (omega (arith, g.size)) l))
        | inr past ↦ copied.zeros j past l ∙ sym (resized_zeros g.bytes n j (omega (arith, g.size)) l)
      ] ∙ ap (λ (o : Option (List ℕ)). get_or (resized (unwrap_or o []) n) j 0) (sym old)

-- ---- the pieces are exchanged

module _ (s : Space) (i p q size n room h : ℕ) (f : IsDetached s q room) (g : IsLivePiece s (detached_well_formed f) i p size) (within : i < s.slots) (some : 0 < n) (takes : room ≡ piece_space n)
    (ready : IsReadyToTake s i q n) (v1 y1 v2 y2 : List ℕ) (head1 : IsSet s.region v1 p (piece_space size + 1)) (none : IsSet v1 y1 h 0) (head2 : IsSet y1 v2 q n) (own : IsSet v2 y2 h q) (here : h ≡ 16 + 2 * i) where
  abbrev s1 : Space
  s1 = record { region = y1; slots = s.slots; low = s.low; head = s.head; total = s.total - piece_space size }

  abbrev s2 : Space
  s2 = record { region = y2; slots = s.slots; low = s.low; head = s.head; total = s.total - piece_space size + piece_space n }

  F : (word_in s.region q ≡ room + 1) × (q + room ≤ 65520) × (4 ≤ room) × (16 + 2 * s.slots ≤ q) × (room ≡ 4 * (room / 4))
  F = free_facts s.region s.slots s.low q room f.before f.after f.held.tiled f.place

  others : IsFresh i g.before × IsFresh i g.after
  others = piece_others s.region s.slots s.low (g.before ++ (Used i g.bytes ∷ g.after)) g.held.tiled i g.before g.bytes g.after refl

  old : get_or (chunks_in s.region s.slots) i None ≡ Some g.bytes
  old = chunk_in s.region s.slots i within ∙ piece_chunk s.region s.slots s.low (g.before ++ (Used i g.bytes ∷ g.after)) g.held.tiled i g.before g.bytes g.after refl

  ready_in : (k : ℕ) → k < n → get_or s.region (q + 2 + k) 0 ≡ get_or (resized g.bytes n) k 0
  ready_in k l = ready k l ∙ ap (λ (o : Option (List ℕ)). get_or (resized (unwrap_or o []) n) k 0) old

  -- q is free, and apart from p
  spare0 : IsSpareAt s.low (g.before ++ (Used i g.bytes ∷ g.after)) q
  spare0 = subst (λ (cs : List Piece). IsSpareAt s.low cs q) (sym g.split) (spare_right s.low f.before (Free room ∷ f.after) q q f.place (inl refl))

  apart : (q + room ≤ p) ⊎ (p + piece_space size ≤ q)
  apart =
      let L = lies_split size_head s.region s.low g.before (Used i g.bytes ∷ g.after) 65520 g.held.tiled.lies in let S = shaped_split (16 + 2 * s.slots) g.before (Used i g.bytes ∷ g.after) g.held.tiled.shaped in
      elim (spare_parts s.low g.before (Used i g.bytes ∷ g.after) q spare0) [
        | inl l ↦ inl (omega (arith, spare_ends s.region s.low g.before (s.low + spaces g.before) q L.0 l, F.0, g.place))
        | inr r ↦ let b = spare_bounds (16 + 2 * s.slots) (s.low + spaces g.before + piece_space (length g.bytes)) g.after q S.1.1 r in inr (omega (arith, b.0, g.place, g.size))
      ]

  -- p becomes free
  edit1 : IsEdit s.region y1 s.slots i s.low p (Used i g.bytes ∷ []) (Free (piece_space size) ∷ [])
  edit1 = free_edit s (detached_well_formed f) v1 y1 p i size 0 h g within (omega arith) head1 none here

  links1 : Each (IsLinkKept s.region y1 p (Used i g.bytes ∷ []) (Free (piece_space size) ∷ [])) f.free
  links1 = each_all (IsLinkKept s.region y1 p (Used i g.bytes ∷ []) (Free (piece_space size) ∷ [])) (λ m l. absurd l) f.free

  held1 : HasPieces s1 (g.before ++ (Free (piece_space size) ∷ g.after)) f.free 2
  held1 = held_edited s y1 i p g.before (Used i g.bytes ∷ []) (Free (piece_space size) ∷ []) g.after f.free g.held g.place edit1 others.0 others.1 links1 (s.total - piece_space size) (omega (arith, g.less, g.size)) 2 refl

  G : (word_in y1 p ≡ piece_space size + 1) × (p + piece_space size ≤ 65520) × (4 ≤ piece_space size) × (16 + 2 * s.slots ≤ p) × (piece_space size ≡ 4 * (piece_space size / 4))
  G = free_facts y1 s.slots s.low p (piece_space size) g.before g.after held1.tiled g.place

  spare1 : IsSpareAt s.low (g.before ++ (Free (piece_space size) ∷ g.after)) q
  spare1 = (spare_edited s.region y1 s.slots i s.low p g.before (Used i g.bytes ∷ []) (Free (piece_space size) ∷ []) g.after g.held.tiled g.place edit1 others.0 others.1 q (λ l. absurd l) spare0).0

  -- bytes that the first two writes leave
  kept1 : (k : ℕ) → q ≤ k → k < q + room → get_or y1 k 0 ≡ get_or s.region k 0
  kept1 k from to =
      none.behind k (omega (arith, F.3)) ∙ elim apart [ inl low ↦ head1.before k (omega (arith, low)) | inr high ↦ head1.behind k (omega (arith, high, G.2)) ]

  word1 : word_in y1 q ≡ room + 1
  word1 = word_kept s.region y1 q (q + room) q (record { at = kept1 }) (omega arith) (omega (arith, F.2)) ∙ F.0

  split1 : IsSpareSplit s.low (g.before ++ (Free (piece_space size) ∷ g.after)) q
  split1 = spare_split s.low (g.before ++ (Free (piece_space size) ∷ g.after)) q spare1

  room1 : split1.room ≡ room
  room1 =
      let tiled : IsTiled y1 s.slots s.low (split1.before ++ (Free split1.room ∷ split1.after)) = subst (IsTiled y1 s.slots s.low) (sym split1.is) held1.tiled in
      let H = free_facts y1 s.slots s.low q split1.room split1.before split1.after tiled split1.place in omega (arith, H.0, word1)

  there : split1.before ++ (Free room ∷ split1.after) ≡ g.before ++ (Free (piece_space size) ∷ g.after)
  there = ap (λ (m : ℕ). split1.before ++ (Free m ∷ split1.after)) (sym room1) ∙ split1.is

  held_q : HasPieces s1 (split1.before ++ (Free room ∷ split1.after)) f.free 2
  held_q = subst (λ (cs : List Piece). HasPieces s1 cs f.free 2) (sym there) held1

  fresh_q : IsFresh i split1.before × IsFresh i split1.after
  fresh_q = fresh_split i split1.before (Free room ∷ split1.after) (subst (IsFresh i) (sym there) (fresh_append i g.before (Free (piece_space size) ∷ g.after) others.0 others.1))

  -- q becomes the chunk's
  count : length (resized g.bytes n) ≡ n
  count = count_resized g.bytes n

  kept2 : (k : ℕ) → k < q → 18 + 2 * i ≤ k → get_or y2 k 0 ≡ get_or y1 k 0
  kept2 k to from = own.behind k (omega arith) ∙ head2.before k to

  edit2 : IsEdit y1 y2 s.slots i s.low q (Free room ∷ []) (Used i (resized g.bytes n) ∷ [])
  edit2 =
      let table = held1.tiled.table in let H = F in let m = count in
      record {
        long = own.long ∙ (head2.long ∙ held1.tiled.long);
        others = λ j l ne. entry_other i j own here ne ∙ entry_kept y1 v2 0 q j (set_before 0 q head2 (omega arith)) (omega arith) (omega (arith, H.3));
        before = record { at = λ k from to. kept2 k to (omega arith) };
        behind = record { at = λ k from to. own.behind k (omega (arith, H.3)) ∙ head2.behind k (omega (arith, H.2)) };
        lies = (
          record {
            head = word_kept v2 y2 (h + 2) (q + 2) q (set_behind (h + 2) (q + 2) own (omega arith)) (omega (arith, H.3)) (omega arith) ∙ (head2.word ∙ sym m);
            bytes = λ k l. own.behind (q + 2 + k) (omega (arith, H.3)) ∙ (head2.behind (q + 2 + k) (omega arith) ∙ (kept1 (q + 2 + k) (omega arith) (omega (arith, takes)) ∙ ready_in k (omega arith)));
          },
          omega (arith, takes),
        );
        points = (entry_set i own here, tt);
        shaped = ((omega arith, omega arith), tt);
        distinct = (tt, tt);
        only_new = λ j ne. (ne, tt);
        only_old = λ j ne. tt;
        covered = λ l fresh. absurd (fresh.0 refl);
      }

  links2 : Each (IsLinkKept y1 y2 q (Free room ∷ []) (Used i (resized g.bytes n) ∷ [])) f.free
  links2 = each_other (IsLinkKept y1 y2 q (Free room ∷ []) (Used i (resized g.bytes n) ∷ [])) q (λ m ne l. elim l [ inl same ↦ absurd (ne (sym same)) | inr not ↦ absurd not ]) f.free f.other

  held2 : HasPieces s2 (split1.before ++ (Used i (resized g.bytes n) ∷ split1.after)) f.free 1
  held2 = held_edited s1 y2 i q split1.before (Free room ∷ []) (Used i (resized g.bytes n) ∷ []) split1.after f.free held_q split1.place edit2 fresh_q.0 fresh_q.1 links2 (s.total - piece_space size + piece_space n) (omega (arith, ap piece_space count)) 1 refl

  -- p is still free
  spare_p : IsSpareAt s.low (split1.before ++ (Used i (resized g.bytes n) ∷ split1.after)) p
  spare_p = (spare_edited y1 y2 s.slots i s.low q split1.before (Free room ∷ []) (Used i (resized g.bytes n) ∷ []) split1.after held_q.tiled split1.place edit2 fresh_q.0 fresh_q.1 p
      (λ l. elim l [ inl same ↦ elim apart [ inl low ↦ absurd (omega (arith, low, F.2)) | inr high ↦ absurd (omega (arith, high, G.2)) ] | inr not ↦ absurd not ])
      (subst (λ (cs : List Piece). IsSpareAt s.low cs p) (sym there) (spare_right s.low g.before (Free (piece_space size) ∷ g.after) p p g.place (inl refl)))).0

  word2 : word_in y2 p ≡ piece_space size + 1
  word2 = elim apart [
    | inl low ↦ word_kept y1 y2 (q + room) 65520 p (record { at = λ k from to. own.behind k (omega (arith, F.3)) ∙ head2.behind k (omega (arith, F.2)) }) (omega (arith, low)) (omega (arith, G.1, G.2)) ∙ G.0
    | inr high ↦ word_kept y1 y2 p q p (record { at = λ k from to. kept2 k to (omega (arith, G.3)) }) (omega arith) (omega (arith, high, G.2)) ∙ G.0
  ]

  pub exchanged : IsDetached (record { region = y2; slots = s.slots; low = s.low; head = s.head; total = s.total - piece_space size + piece_space n }) p (piece_space (word_in s.region (entry s.region i)))
  exchanged = subst (λ (m : ℕ). IsDetached s2 p (piece_space m)) g.value (detached_at s2 p (piece_space size) (split1.before ++ (Used i (resized g.bytes n) ∷ split1.after)) f.free held2 spare_p
      (used_other (16 + 2 * s.slots) s.low p i g.bytes g.before g.after g.held.tiled.shaped g.place f.free g.held.spare) word2)

  pub exchange_chunks : chunks_in y2 s.slots ≡ set (chunks_in s.region s.slots) i (Some (resized g.bytes n))
  exchange_chunks =
      let cs = chunks_in s.region s.slots in let gone = chunk_under y1 (entry y1 i) in
      edited_set y1 y2 s.slots i s.low q split1.before (Free room ∷ []) (Used i (resized g.bytes n) ∷ []) split1.after held_q.tiled split1.place edit2 fresh_q.0 fresh_q.1 within
      ∙ (ap (λ (c : Option (List ℕ)). set (chunks_in y1 s.slots) i c) (piece_chunk y2 s.slots s.low (split1.before ++ (Used i (resized g.bytes n) ∷ split1.after)) held2.tiled i split1.before (resized g.bytes n) split1.after refl)
      ∙ (ap (λ (x : List (Option (List ℕ))). set x i (Some (resized g.bytes n))) (edited_set s.region y1 s.slots i s.low p g.before (Used i g.bytes ∷ []) (Free (piece_space size) ∷ []) g.after g.held.tiled g.place edit1 others.0 others.1 within)
      ∙ set-set cs i gone (Some (resized g.bytes n))))

  pub exchange_resized : IsResized s (record { region = y2; slots = s.slots; low = s.low; head = s.head; total = s.total - piece_space size + piece_space n }) i n
  exchange_resized = record {
    slots = refl;
    chunks = exchange_chunks ∙ ap (λ (o : Option (List ℕ)). set (chunks_in s.region s.slots) i (Some (resized (unwrap_or o []) n))) (sym old);
    total = omega (arith, g.value, g.less);
  }

-- ---- one after the other

-- a chunk with bytes keeps its size where the chunks are the same
pub record IsSameSize (s u : Space) (i : ℕ) : Type 0 where
  pub live : 1 < entry u.region i
  pub size : word_in u.region (entry u.region i) ≡ word_in s.region (entry s.region i)

pub same_size : {a b : ℕ} (s u : Space) (i : ℕ) → IsWellFormedBut s a → IsWellFormedBut u b → u.slots ≡ s.slots → chunks_in u.region u.slots ≡ chunks_in s.region s.slots → i < s.slots → 1 < entry s.region i → IsSameSize s u i
same_size s u i well_formed_s well_formed_u slots chunks l live =
    let b = chunk_under s.region (entry s.region i) in
    let same : chunk_under u.region (entry u.region i) ≡ b = sym (chunk_in u.region u.slots i (omega arith)) ∙ (ap (λ (cs : List (Option (List ℕ))). get_or cs i None) chunks ∙ chunk_in s.region s.slots i l) in
    let bytes = ap (λ (o : Option (List ℕ)). length (unwrap_or o [])) same in let size_s = size_is s i well_formed_s l live in
    let n = word_in s.region (entry s.region i) in let f = live_piece s well_formed_s i (entry s.region i) n l live refl refl in
    let live_u : 1 < entry u.region i = live_of u i well_formed_u (omega arith) (omega (arith, f.some)) in
    record { live = live_u; size = sym (size_is u i well_formed_u (omega arith) live_u) ∙ (bytes ∙ size_s) }

-- what comes before and after leaves the chunks as they are
pub resized_from : (s u v w : Space) (i n : ℕ) → u.slots ≡ s.slots → u.total ≡ s.total → chunks_in u.region u.slots ≡ chunks_in s.region s.slots → word_in u.region (entry u.region i) ≡ word_in s.region (entry s.region i)
    → IsResized u v i n → w.slots ≡ v.slots → w.total ≡ v.total → chunks_in w.region w.slots ≡ chunks_in v.region v.slots → IsResized s w i n
resized_from s u v w i n slots total chunks size r slots_w total_w chunks_w = record {
  slots = slots_w ∙ (r.slots ∙ slots);
  chunks = chunks_w ∙ (r.chunks ∙ ap (λ (cs : List (Option (List ℕ))). set cs i (Some (resized (unwrap_or (get_or cs i None) []) n))) chunks);
  total = omega (arith, r.total, ap piece_space size);
}

-- ---- a chunk grows into the free piece behind its own

-- the first of the pieces is free
record IsFirstFree (cs : List Piece) : Type 0 where
  pub room : ℕ
  pub rest : List Piece
  pub is : Free room ∷ rest ≡ cs

first_free : (limit p : ℕ) (cs : List Piece) → AllShaped limit cs → IsSpareAt p cs p → IsFirstFree cs
first_free limit p [] shaped h = absurd h
first_free limit p (Used i b ∷ cs) shaped h = let r = spare_bounds limit (p + piece_space (length b)) cs p shaped.1 h in absurd (omega (arith, r.0))
first_free limit p (Free s ∷ cs) shaped h = record { room = s; rest = cs; is = refl }

-- a free piece that the list lacks lies behind that of slot i
next_at : (s : Space) (i p room q n : ℕ) (d : IsDetached s p room) → IsLivePiece s (detached_well_formed d) i q n → p ≡ q + piece_space n → HasNext s i room
next_at s i p room q n d f at =
    let limit = 16 + 2 * s.slots in let one = Used i f.bytes ∷ [] in let sum = spaces_append f.before one in
    let join = append_assoc f.before one f.after in let S = shaped_split limit (f.before ++ one) f.after (subst (AllShaped limit) (sym join) f.held.tiled.shaped) in
    let end : p ≡ s.low + spaces (f.before ++ one) = omega (arith, f.place, f.size, at) in
    let there : IsSpareAt s.low ((f.before ++ one) ++ f.after) p = subst (λ (cs : List Piece). IsSpareAt s.low cs p) (sym (join ∙ f.split)) (spare_right s.low d.before (Free room ∷ d.after) p p d.place (inl refl)) in
    let behind : IsSpareAt (s.low + spaces (f.before ++ one)) f.after p = elim (spare_parts s.low (f.before ++ one) f.after p there) [
      | inl inside ↦ let b = spare_bounds limit s.low (f.before ++ one) p S.0 inside in absurd (omega (arith, b.1))
      | inr past ↦ past
    ] in
    let g = first_free limit p f.after S.1 (subst (λ (q : ℕ). IsSpareAt q f.after p) (sym end) behind) in let rest = Free g.room ∷ g.rest in
    let held : HasPieces s (f.before ++ (Used i f.bytes ∷ rest)) d.free 1 = subst (λ (ds : List Piece). HasPieces s (f.before ++ (Used i f.bytes ∷ ds)) d.free 1) (sym g.is) f.held in
    let G = free_facts s.region s.slots s.low p g.room (f.before ++ one) g.rest (subst (λ (cs : List Piece). IsTiled s.region s.slots s.low cs) (sym (append_assoc f.before one rest)) held.tiled) end in
    let D = free_facts s.region s.slots s.low p room d.before d.after d.held.tiled d.place in
    let same : g.room ≡ room = omega (arith, G.0, D.0) in
    let place : p ≡ s.low + spaces f.before + piece_space (length f.bytes) = omega (arith, f.place, f.size, at) in
    record {
      before = f.before;
      bytes = f.bytes;
      after = g.rest;
      free = d.free;
      held = subst (λ (m : ℕ). HasPieces s (f.before ++ (Used i f.bytes ∷ (Free m ∷ g.rest))) d.free 1) same held;
      other = subst (λ (q : ℕ). IsOther q d.free) place d.other;
    }

pub next_of : (s : Space) (i p room : ℕ) → IsDetached s p room → i < s.slots → 1 < entry s.region i → p ≡ entry s.region i + room_of s i → HasNext s i room
next_of s i p room d l live at =
    let q = entry s.region i in let n = word_in s.region q in
    next_at s i p room q n d (live_piece s (detached_well_formed d) i q n l live refl refl) at

-- bytes that get more zeros than stay
resize_less : (b : List ℕ) (n m : ℕ) → length b ≤ n → n ≤ m → resized (resized b m) n ≡ resized b n
resize_less b n m more less =
    let x = resized b m in let count = count_resized b m in
    ext_get_or 0 (resized x n) (resized b n) (count_resized x n ∙ sym (count_resized b n)) (λ k l.
    let within : k < n = omega (arith, count_resized x n) in
    resized_front x n k (omega (arith, count)) within ∙ elim (cases_lt k (length b)) [
      | inl in_b ↦ resized_front b m k in_b (omega arith) ∙ sym (resized_front b n k in_b within)
      | inr past ↦ resized_zeros b m k past (omega arith) ∙ sym (resized_zeros b n k past within)
    ])

-- a chunk that was resized has the size
pub record IsGrown (v : Space) (i n : ℕ) : Type 0 where
  pub live : 1 < entry v.region i
  pub size : word_in v.region (entry v.region i) ≡ n

pub grown_to : (s v : Space) (i n : ℕ) → IsWellFormedBut v 0 → i < s.slots → 0 < n → IsResized s v i n → IsGrown v i n
grown_to s v i n k l some r =
    let cs = chunks_in s.region s.slots in let b = unwrap_or (get_or cs i None) [] in let l_v : i < v.slots = omega (arith, r.slots) in
    let own : chunk_under v.region (entry v.region i) ≡ Some (resized b n) =
    sym (chunk_in v.region v.slots i l_v) ∙ (ap (λ (ds : List (Option (List ℕ))). get_or ds i None) r.chunks ∙ get_or-set_same cs i (Some (resized b n)) None (omega (arith, length-chunks_in s.region s.slots))) in
    let bytes : length (unwrap_or (chunk_under v.region (entry v.region i)) []) ≡ n = ap (λ (o : Option (List ℕ)). length (unwrap_or o [])) own ∙ count_resized b n in
    let live = live_of v i k l_v (omega (arith, bytes)) in
    record { live = live; size = sym (size_is v i k l_v live) ∙ bytes }

-- a chunk is resized to more, and then cut
pub resized_twice : (s v w : Space) (i n m : ℕ) → {a : ℕ} → IsWellFormedBut s a → IsWellFormedBut v 0 → i < s.slots → 1 < entry s.region i → 0 < m → word_in s.region (entry s.region i) ≤ n → n ≤ m → IsResized s v i m → IsResized v w i n → IsResized s w i n
resized_twice s v w i n m k k_v l live some more less r q =
    let cs = chunks_in s.region s.slots in let b = unwrap_or (get_or cs i None) [] in let x = resized b m in let g = grown_to s v i m k_v l some r in
    let count : length b ≡ word_in s.region (entry s.region i) = ap (λ (o : Option (List ℕ)). length (unwrap_or o [])) (chunk_in s.region s.slots i l) ∙ size_is s i k l live in
    let own : get_or (chunks_in v.region v.slots) i None ≡ Some x = ap (λ (ds : List (Option (List ℕ))). get_or ds i None) r.chunks ∙ get_or-set_same cs i (Some x) None (omega (arith, length-chunks_in s.region s.slots)) in
    record {
      slots = q.slots ∙ r.slots;
      chunks = q.chunks
          ∙ (ap (λ (o : Option (List ℕ)). set (chunks_in v.region v.slots) i (Some (resized (unwrap_or o []) n))) own
          ∙ (ap (λ (ds : List (Option (List ℕ))). set ds i (Some (resized x n))) r.chunks
          ∙ (set-set cs i (Some x) (Some (resized x n))
          ∙ ap (λ (y : List ℕ). set cs i (Some y)) (resize_less b n m (omega (arith, count)) less))));
      total = omega (arith, q.total, r.total, ap piece_space g.size);
    }
