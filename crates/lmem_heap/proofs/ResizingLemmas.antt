-- The chunk of a slot gets another size where it lies, in its piece or with the room behind it.
use Rattle.std.proofs.Common.{◌≡◌, ℕ, ◌+◌, ◌-◌, ◌*◌, ◌<◌, ◌≤◌, List, [], ◌∷◌, ◌++◌, length, length-append, length-take, get_or, set, take, replicate, Option, Some, None, unwrap_or, refl, sym, ap, subst, ◌∙◌, inl, inr, append_assoc, arith, ◌/◌}
use Rattle.std.proofs.lemmas.Bool.{cases_lt}
use Rattle.std.proofs.lemmas.List.{length-replicate, get_or-replicate, get_or_append_left, get_or-append_right, get_or-take}
use Rattle.geos_model.specs.Bytes.{resized}
use Rattle.lmem_heap.specs.declared.space.Space.{Space}
use Rattle.lmem_heap.specs.Pieces.{word_in, entry, piece_space, Piece, Used, Free, size_head, Lies, Points, AllShaped, IsFresh, ArePiecesDistinct, free_count, used, spaces, place_of}
use Rattle.lmem_heap.specs.Edits.{Same, IsSet, IsSized, IsSlid, AreLowered}
use Rattle.lmem_heap.specs.Tiled.{chunks_in, IsTiled, chunk_from, table_end}
use Rattle.lmem_heap.specs.Space.{AreSpare, IsOther, HasPieces, IsWellFormed, IsDetached, HasNext, IsResized, IsChain}
use Rattle.lmem_heap.proofs.EditLemmas.{word_kept, entry_kept, set_before}
use Rattle.lmem_heap.proofs.PieceLemmas.{spaces_append, lies_end, lies_split, shaped_split, used_le, lies_append, points_append, points_split, shaped_append, fresh_append, fresh_split, lies_kept, points_same, lies_slid}
use Rattle.lmem_heap.proofs.TiledLemmas.{piece_place, piece_size, piece_chunk, piece_others, chunk_in, at_slot, same_chunks, IsEdit, edited, edited_set, spare_bounds, spare_parts, spares_edited, chain_edited, Each, each_all, each_other, IsLinkKept, count_edited, used_append, frees_edited, distinct_edit, at_after}
use Rattle.lmem_heap.proofs.EntryLemmas.{IsLivePiece, live_piece}
use Rattle.lmem_heap.proofs.ThreadingLemmas.{slot_in}

-- ---- the chunk of a slot gets another size where it lies

-- ---- the bytes

pub count_resized : (b : List ℕ) (n : ℕ) → length (resized b n) ≡ n
count_resized b n = let k = n - length b in omega (arith, length-append (take n b) (replicate k 0), length-take n b, length-replicate {A = ℕ} k 0)

pub resized_front : (b : List ℕ) (n k : ℕ) → k < length b → k < n → get_or (resized b n) k 0 ≡ get_or b k 0
resized_front b n k in_b in_n =
    get_or_append_left (take n b) (replicate (n - length b) 0) 0 k (omega (arith, length-take n b)) ∙ get_or-take n b k 0 in_n

pub resized_zeros : (b : List ℕ) (n k : ℕ) → length b ≤ k → k < n → get_or (resized b n) k 0 ≡ 0
resized_zeros b n k past in_n =
    let m = length b in let front : length (take n b) ≡ m = omega (arith, length-take n b) in
    get_or-append_right (take n b) (replicate (n - m) 0) m k 0 front past ∙ get_or-replicate (n - m) (k - m) 0 0 (omega arith)

-- ---- any edit

-- what is kept of pieces in a row that become others
module _ {detached : ℕ} (s : Space) (ys : List ℕ) (i p : ℕ) (a old new d : List Piece) (fs : List ℕ) (held : HasPieces s (a ++ (old ++ d)) fs detached) (at : p ≡ s.low + spaces a)
    (e : IsEdit s.region ys s.slots i s.low p old new) (front : IsFresh i a) (back : IsFresh i d) (links : Each (IsLinkKept s.region ys p old new) fs) (total : ℕ) (takes : total + spaces (used old) ≡ s.total + spaces (used new)) (more : ℕ) (leaves : more + free_count old ≡ detached + free_count new) where
  pub held_edited : HasPieces (record { region = ys; slots = s.slots; low = s.low; head = s.head; total = total }) (a ++ (new ++ d)) fs more
  held_edited = record {
    tiled = edited s.region ys s.slots i s.low p a old new d held.tiled at e front back;
    chain = chain_edited s.region ys s.slots i s.low p a old new d held.tiled at e front back s.head fs links held.spare held.chain;
    spare = spares_edited s.region ys s.slots i s.low p a old new d held.tiled at e front back fs links held.spare;
    apart = held.apart;
    all = omega (arith, held.all, frees_edited a old new d);
    count = omega (arith, held.count, count_edited a old new d);
  }

-- ---- a chunk and what lies behind it

module _ {detached : ℕ} (s : Space) (ys : List ℕ) (i p n : ℕ) (a : List Piece) (b : List ℕ) (x y d : List Piece) (fs : List ℕ) (held : HasPieces s (a ++ (Used i b ∷ (x ++ d))) fs detached) (at : p ≡ s.low + spaces a)
    (within : i < s.slots) (some : 0 < n) (long : length ys ≡ 65520) (head : word_in ys p ≡ n)
    (front : (k : ℕ) → k < length b → k < n → get_or ys (p + 2 + k) 0 ≡ get_or s.region (p + 2 + k) 0) (zeros : (k : ℕ) → length b ≤ k → k < n → get_or ys (p + 2 + k) 0 ≡ 0)
    (before : Same s.region ys 0 p) (behind : Same s.region ys (p + (piece_space (length b) + spaces x)) 65520)
    (rest : Lies size_head ys (p + piece_space n) y (p + (piece_space (length b) + spaces x))) (points : Points place_of ys (p + piece_space n) y) (shape : AllShaped (16 + 2 * s.slots) y) (distinct : ArePiecesDistinct y)
    (fresh_x : (j : ℕ) → IsFresh j x) (fresh_y : (j : ℕ) → IsFresh j y) where
  -- what is known of the piece
  parts : Lies size_head s.region (s.low + spaces a) (Used i b ∷ (x ++ d)) 65520
  parts = (lies_split size_head s.region s.low a (Used i b ∷ (x ++ d)) 65520 held.tiled.lies).1

  own : p ≡ entry s.region i
  own = at ∙ sym (piece_place s.region s.slots s.low (a ++ (Used i b ∷ (x ++ d))) held.tiled i a b (x ++ d) refl)

  old_byte : (k : ℕ) → k < length b → get_or s.region (p + 2 + k) 0 ≡ get_or b k 0
  old_byte k l = ap (λ (q : ℕ). get_or s.region (q + 2 + k) 0) at ∙ parts.0.bytes k l

  new_byte : (k : ℕ) → k < n → get_or ys (p + 2 + k) 0 ≡ get_or (resized b n) k 0
  new_byte k l = elim (cases_lt k (length b)) [
    | inl in_b ↦ front k in_b l ∙ (old_byte k in_b ∙ sym (resized_front b n k in_b l))
    | inr past ↦ zeros k past l ∙ sym (resized_zeros b n k past l)
  ]

  entries_same : (j : ℕ) → j < s.slots → entry ys j ≡ entry s.region j
  entries_same j l = let table = held.tiled.table in entry_kept s.region ys 0 p j before (omega arith) (omega arith)

  pub sized_edit : IsEdit s.region ys s.slots i s.low p (Used i b ∷ x) (Used i (resized b n) ∷ y)
  sized_edit =
      let count = count_resized b n in let shape_b = (shaped_split (16 + 2 * s.slots) a (Used i b ∷ (x ++ d)) held.tiled.shaped).1.0 in
      record {
        long = long;
        others = λ j l ne. entries_same j l;
        before = record { at = λ k from to. before.at k (omega arith) to };
        behind = behind;
        lies = (record { head = head ∙ sym count; bytes = λ k l. new_byte k (omega arith) }, subst (λ (m : ℕ). Lies size_head ys (p + piece_space m) y (p + (piece_space (length b) + spaces x))) (sym count) rest);
        points = (entries_same i within ∙ sym own, subst (λ (m : ℕ). Points place_of ys (p + piece_space m) y) (sym count) points);
        shaped = ((omega arith, shape_b.1), shape);
        distinct = (fresh_y i, distinct);
        only_new = λ j ne. (ne, fresh_y j);
        only_old = λ j ne. (ne, fresh_x j);
        covered = λ l fresh. absurd (fresh.0 refl);
      }

  module _ (others : IsFresh i a × IsFresh i d) (links : Each (IsLinkKept s.region ys p (Used i b ∷ x) (Used i (resized b n) ∷ y)) fs) (total : ℕ) (takes : total + (piece_space (length b) + spaces (used x)) ≡ s.total + (piece_space n + spaces (used y))) (more : ℕ) (leaves : more + free_count x ≡ detached + free_count y) where
    pub sized_held : HasPieces (record { region = ys; slots = s.slots; low = s.low; head = s.head; total = total }) (a ++ (Used i (resized b n) ∷ (y ++ d))) fs more
    sized_held = held_edited s ys i p a (Used i b ∷ x) (Used i (resized b n) ∷ y) d fs held at sized_edit others.0 others.1 links total (omega (arith, ap piece_space (count_resized b n))) more leaves

    pub sized_chunks : chunks_in ys s.slots ≡ set (chunks_in s.region s.slots) i (Some (resized (unwrap_or (get_or (chunks_in s.region s.slots) i None) []) n))
    sized_chunks =
        let cs = chunks_in s.region s.slots in
        let old : get_or cs i None ≡ Some b = chunk_in s.region s.slots i within ∙ piece_chunk s.region s.slots s.low (a ++ (Used i b ∷ (x ++ d))) held.tiled i a b (x ++ d) refl in
        edited_set s.region ys s.slots i s.low p a (Used i b ∷ x) (Used i (resized b n) ∷ y) d held.tiled at sized_edit others.0 others.1 within
        ∙ (ap (λ (c : Option (List ℕ)). set cs i c) (piece_chunk ys s.slots s.low (a ++ (Used i (resized b n) ∷ (y ++ d))) sized_held.tiled i a (resized b n) (y ++ d) refl)
        ∙ ap (λ (o : Option (List ℕ)). set cs i (Some (resized (unwrap_or o []) n))) (sym old))

-- ---- in as large a piece

module _ (s : Space) (k : IsWellFormed s) (ys : List ℕ) (i p size n : ℕ) (f : IsLivePiece s k i p size) (within : i < s.slots) (some : 0 < n) (same : piece_space n ≡ piece_space size) (sized : IsSized s.region ys p size n) where
  refit_behind : Same s.region ys (p + (piece_space (length f.bytes) + 0)) 65520
  refit_behind = let size = f.size in record { at = λ j from to. sized.behind j (omega arith) (omega arith) }

  refit_others : IsFresh i f.before × IsFresh i f.after
  refit_others = piece_others s.region s.slots s.low (f.before ++ (Used i f.bytes ∷ f.after)) f.held.tiled i f.before f.bytes f.after refl

  refit_front : (j : ℕ) → j < length f.bytes → j < n → get_or ys (p + 2 + j) 0 ≡ get_or s.region (p + 2 + j) 0
  refit_front j l m = sized.front j (omega (arith, f.size))

  refit_zeros : (j : ℕ) → length f.bytes ≤ j → j < n → get_or ys (p + 2 + j) 0 ≡ 0
  refit_zeros j l m = sized.zeros j (omega (arith, f.size)) m

  refit_before : Same s.region ys 0 p
  refit_before = record { at = λ j from to. sized.before j to }

  refit_rest : p + piece_space n ≡ p + (piece_space (length f.bytes) + 0)
  refit_rest = omega (arith, f.size)

  refit_links : Each (IsLinkKept s.region ys p (Used i f.bytes ∷ []) (Used i (resized f.bytes n) ∷ [])) k.free
  refit_links = each_all (IsLinkKept s.region ys p (Used i f.bytes ∷ []) (Used i (resized f.bytes n) ∷ [])) (λ g l. absurd l) k.free

  pub refitted : IsWellFormed (record { region = ys; slots = s.slots; low = s.low; head = s.head; total = s.total })
  refitted = record {
    pieces = f.before ++ (Used i (resized f.bytes n) ∷ f.after);
    free = k.free;
    held = sized_held s ys i p n f.before f.bytes [] [] f.after k.free f.held f.place within some (sized.long ∙ f.held.tiled.long) sized.head refit_front refit_zeros refit_before refit_behind refit_rest tt tt tt (λ j. tt) (λ j. tt)
        refit_others refit_links s.total (omega (arith, f.size)) 0 refl;
  }

  pub refit_resized : IsResized s (record { region = ys; slots = s.slots; low = s.low; head = s.head; total = s.total }) i n
  refit_resized = record {
    slots = refl;
    chunks = sized_chunks s ys i p n f.before f.bytes [] [] f.after k.free f.held f.place within some (sized.long ∙ f.held.tiled.long) sized.head refit_front refit_zeros refit_before refit_behind refit_rest tt tt tt (λ j. tt) (λ j. tt)
        refit_others refit_links s.total (omega (arith, f.size)) 0 refl;
    total = omega (arith, f.value);
  }

-- ---- in a smaller piece

-- no free piece of the list begins within the piece of a chunk
inside_used : (limit low p q i : ℕ) (b : List ℕ) (a d : List Piece) → AllShaped limit (a ++ (Used i b ∷ d)) → p ≡ low + spaces a → p ≤ q → q < p + piece_space (length b) → (fs : List ℕ) → AreSpare low (a ++ (Used i b ∷ d)) fs → IsOther q fs
inside_used limit low p q i b a d shaped at from to [] h = tt
inside_used limit low p q i b a d shaped at from to (f ∷ fs) h =
    let S = shaped_split limit a (Used i b ∷ d) shaped in (
      (λ e. elim (spare_parts low a (Used i b ∷ d) f h.0) [
        | inl l ↦ let c = spare_bounds limit low a f S.0 l in omega (arith, c.1)
        | inr r ↦ let c = spare_bounds limit (low + spaces a + piece_space (length b)) d f S.1.1 r in omega (arith, c.0)
      ]),
      inside_used limit low p q i b a d shaped at from to fs h.1,
    )

module _ (s : Space) (k : IsWellFormed s) (vs ys : List ℕ) (i p size n : ℕ) (f : IsLivePiece s k i p size) (within : i < s.slots) (some : 0 < n) (less : piece_space n < piece_space size) (sized : IsSized s.region vs p size n)
    (written : IsSet vs ys (p + piece_space n) (piece_space size - piece_space n + 1)) where
  short_behind : Same s.region ys (p + (piece_space (length f.bytes) + 0)) 65520
  short_behind = let is = f.size in record { at = λ j from to. written.behind j (omega arith) ∙ sized.behind j (omega arith) (omega arith) }

  short_others : IsFresh i f.before × IsFresh i f.after
  short_others = piece_others s.region s.slots s.low (f.before ++ (Used i f.bytes ∷ f.after)) f.held.tiled i f.before f.bytes f.after refl

  short_front : (j : ℕ) → j < length f.bytes → j < n → get_or ys (p + 2 + j) 0 ≡ get_or s.region (p + 2 + j) 0
  short_front j l m = written.before (p + 2 + j) (omega arith) ∙ sized.front j (omega (arith, f.size))

  short_zeros : (j : ℕ) → length f.bytes ≤ j → j < n → get_or ys (p + 2 + j) 0 ≡ 0
  short_zeros j l m = written.before (p + 2 + j) (omega arith) ∙ sized.zeros j (omega (arith, f.size)) m

  short_before : Same s.region ys 0 p
  short_before = record { at = λ j from to. written.before j (omega arith) ∙ sized.before j to }

  short_head : word_in ys p ≡ n
  short_head = word_kept vs ys p (p + 2) p (set_before p (p + 2) written (omega arith)) (omega arith) (omega arith) ∙ sized.head

  short_rest : Lies size_head ys (p + piece_space n) (Free (piece_space size - piece_space n) ∷ []) (p + (piece_space (length f.bytes) + 0))
  short_rest = let is = f.size in (record { head = written.word; bytes = λ j l. absurd (omega arith) }, omega arith)

  short_shape : AllShaped (16 + 2 * s.slots) (Free (piece_space size - piece_space n) ∷ [])
  short_shape = ((omega arith, omega arith), tt)

  short_links : Each (IsLinkKept s.region ys p (Used i f.bytes ∷ []) (Used i (resized f.bytes n) ∷ (Free (piece_space size - piece_space n) ∷ []))) k.free
  short_links = each_all (IsLinkKept s.region ys p (Used i f.bytes ∷ []) (Used i (resized f.bytes n) ∷ (Free (piece_space size - piece_space n) ∷ []))) (λ g l. absurd l) k.free

  short_takes : s.total - (piece_space size - piece_space n) + (piece_space (length f.bytes) + 0) ≡ s.total + (piece_space n + 0)
  short_takes = omega (arith, f.less, f.size)

  pub short_held : HasPieces (record { region = ys; slots = s.slots; low = s.low; head = s.head; total = s.total - (piece_space size - piece_space n) }) (f.before ++ (Used i (resized f.bytes n) ∷ (Free (piece_space size - piece_space n) ∷ f.after))) k.free 1
  short_held = sized_held s ys i p n f.before f.bytes [] (Free (piece_space size - piece_space n) ∷ []) f.after k.free f.held f.place within some (written.long ∙ (sized.long ∙ f.held.tiled.long)) short_head short_front short_zeros short_before short_behind short_rest tt short_shape tt (λ j. tt) (λ j. tt)
      short_others short_links (s.total - (piece_space size - piece_space n)) short_takes 1 refl

  pub shortened : IsDetached (record { region = ys; slots = s.slots; low = s.low; head = s.head; total = s.total - (piece_space size - piece_space n) }) (p + piece_space n) (piece_space (word_in s.region (entry s.region i)) - piece_space n)
  shortened =
      let one = Used i (resized f.bytes n) ∷ [] in let room = piece_space size - piece_space n in let u : Space = record { region = ys; slots = s.slots; low = s.low; head = s.head; total = s.total - room } in
      subst (λ (m : ℕ). IsDetached u (p + piece_space n) (piece_space m - piece_space n)) f.value (record {
        before = f.before ++ one;
        after = f.after;
        free = k.free;
        held = subst (λ (cs : List Piece). HasPieces u cs k.free 1) (sym (append_assoc f.before one (Free room ∷ f.after))) short_held;
        place = omega (arith, f.place, spaces_append f.before one, ap piece_space (count_resized f.bytes n));
        other = inside_used (16 + 2 * s.slots) s.low p (p + piece_space n) i f.bytes f.before f.after f.held.tiled.shaped f.place (omega arith) (omega (arith, f.size)) k.free f.held.spare;
      })

  pub short_resized : IsResized s (record { region = ys; slots = s.slots; low = s.low; head = s.head; total = s.total - (piece_space size - piece_space n) }) i n
  short_resized = record {
    slots = refl;
    chunks = sized_chunks s ys i p n f.before f.bytes [] (Free (piece_space size - piece_space n) ∷ []) f.after k.free f.held f.place within some (written.long ∙ (sized.long ∙ f.held.tiled.long)) short_head short_front short_zeros short_before short_behind short_rest tt short_shape tt (λ j. tt) (λ j. tt)
        short_others short_links (s.total - (piece_space size - piece_space n)) short_takes 1 refl;
    total = omega (arith, f.value, f.less);
  }

-- ---- with the free piece behind it

-- what is known of the two
pub record IsNextTo (s : Space) (i room p size : ℕ) (h : HasNext s i room) : Type 0 where
  pub place : p ≡ s.low + spaces h.before
  pub value : size ≡ word_in s.region (entry s.region i)
  pub size_is : size ≡ length h.bytes
  pub ends : p + piece_space size + room ≤ 65520
  pub table : 18 + 2 * i ≤ p
  pub small : s.total + room ≤ 65520

pub next_to : (s : Space) (i room p size : ℕ) (h : HasNext s i room) → i < s.slots → p ≡ entry s.region i → size ≡ word_in s.region p → IsNextTo s i room p size h
next_to s i room p size h within is value =
    let cs = h.before ++ (Used i h.bytes ∷ (Free room ∷ h.after)) in let rest = Free room ∷ h.after in
    let at = is ∙ piece_place s.region s.slots s.low cs h.held.tiled i h.before h.bytes rest refl in
    let at_entry : size ≡ word_in s.region (entry s.region i) = value ∙ ap (λ (q : ℕ). word_in s.region q) is in
    let size_is = at_entry ∙ piece_size s.region s.slots s.low cs h.held.tiled i h.before h.bytes rest refl in
    let all = lies_end size_head s.region s.low cs 65520 h.held.tiled.lies in let sum = spaces_append h.before (Used i h.bytes ∷ rest) in let table = h.held.tiled.table in
    let less = used_le h.before in let less_d = used_le h.after in let takes = used_append h.before (Used i h.bytes ∷ rest) in
    record { place = at; value = at_entry; size_is = size_is; ends = omega arith; table = omega arith; small = omega (arith, h.held.count) }

module _ (s : Space) (ys : List ℕ) (i p size n : ℕ) (h : HasNext s i (piece_space n - piece_space size)) (f : IsNextTo s i (piece_space n - piece_space size) p size h) (within : i < s.slots) (more : piece_space size < piece_space n) (sized : IsSized s.region ys p size n) where
  next_behind : Same s.region ys (p + (piece_space (length h.bytes) + (piece_space n - piece_space size + 0))) 65520
  next_behind = let is = f.size_is in record { at = λ j from to. sized.behind j (omega arith) (omega arith) }

  next_others : IsFresh i h.before × IsFresh i h.after
  next_others = piece_others s.region s.slots s.low (h.before ++ (Used i h.bytes ∷ (Free (piece_space n - piece_space size) ∷ h.after))) h.held.tiled i h.before h.bytes (Free (piece_space n - piece_space size) ∷ h.after) refl

  next_front : (j : ℕ) → j < length h.bytes → j < n → get_or ys (p + 2 + j) 0 ≡ get_or s.region (p + 2 + j) 0
  next_front j l m = sized.front j (omega (arith, f.size_is))

  next_zeros : (j : ℕ) → length h.bytes ≤ j → j < n → get_or ys (p + 2 + j) 0 ≡ 0
  next_zeros j l m = sized.zeros j (omega (arith, f.size_is)) m

  next_before : Same s.region ys 0 p
  next_before = record { at = λ j from to. sized.before j to }

  next_rest : p + piece_space n ≡ p + (piece_space (length h.bytes) + (piece_space n - piece_space size + 0))
  next_rest = omega (arith, f.size_is)

  next_links : Each (IsLinkKept s.region ys p (Used i h.bytes ∷ (Free (piece_space n - piece_space size) ∷ [])) (Used i (resized h.bytes n) ∷ [])) h.free
  next_links = each_other (IsLinkKept s.region ys p (Used i h.bytes ∷ (Free (piece_space n - piece_space size) ∷ [])) (Used i (resized h.bytes n) ∷ [])) (s.low + spaces h.before + piece_space (length h.bytes))
      (λ g ne l. elim l [ inl same ↦ absurd (ne (omega (arith, same, f.place))) | inr none ↦ absurd none ]) h.free h.other

  next_takes : s.total + (piece_space n - piece_space size) + (piece_space (length h.bytes) + 0) ≡ s.total + (piece_space n + 0)
  next_takes = omega (arith, f.size_is)

  next_some : 0 < n
  next_some = omega arith

  pub absorbed : IsWellFormed (record { region = ys; slots = s.slots; low = s.low; head = s.head; total = s.total + (piece_space n - piece_space size) })
  absorbed = record {
    pieces = h.before ++ (Used i (resized h.bytes n) ∷ h.after);
    free = h.free;
    held = sized_held s ys i p n h.before h.bytes (Free (piece_space n - piece_space size) ∷ []) [] h.after h.free h.held f.place within next_some (sized.long ∙ h.held.tiled.long) sized.head next_front next_zeros next_before next_behind next_rest tt tt tt (λ j. tt) (λ j. tt)
        next_others next_links (s.total + (piece_space n - piece_space size)) next_takes 0 refl;
  }

  pub absorb_resized : IsResized s (record { region = ys; slots = s.slots; low = s.low; head = s.head; total = s.total + (piece_space n - piece_space size) }) i n
  absorb_resized = record {
    slots = refl;
    chunks = sized_chunks s ys i p n h.before h.bytes (Free (piece_space n - piece_space size) ∷ []) [] h.after h.free h.held f.place within next_some (sized.long ∙ h.held.tiled.long) sized.head next_front next_zeros next_before next_behind next_rest tt tt tt (λ j. tt) (λ j. tt)
        next_others next_links (s.total + (piece_space n - piece_space size)) next_takes 0 refl;
    total = omega (arith, f.value);
  }

-- the two, for a chunk that is to have n bytes
pub record IsNextFor (s : Space) (i p size n : ℕ) : Type 0 where
  pub more : piece_space size < piece_space n
  pub next : HasNext s i (piece_space n - piece_space size)
  pub beside : IsNextTo s i (piece_space n - piece_space size) p size next

pub next_for : (s : Space) (i p size n : ℕ) → i < s.slots → p ≡ entry s.region i → size ≡ word_in s.region p → piece_space (word_in s.region (entry s.region i)) < piece_space n → HasNext s i (piece_space n - piece_space (word_in s.region (entry s.region i))) → IsNextFor s i p size n
next_for s i p size n within is value more next =
    let same : size ≡ word_in s.region (entry s.region i) = value ∙ ap (λ (q : ℕ). word_in s.region q) is in
    let h : HasNext s i (piece_space n - piece_space size) = subst (λ (m : ℕ). HasNext s i (piece_space n - piece_space m)) (sym same) next in
    record { more = omega (arith, same, more); next = h; beside = next_to s i (piece_space n - piece_space size) p size h within is value }

pub next_head : {room : ℕ} (s : Space) (i p : ℕ) → i < s.slots → p ≡ entry s.region i → HasNext s i room → p + 2 ≤ 65520
next_head {room = room} s i p within is h = omega (arith, (next_to s i room p (word_in s.region p) h within is refl).ends)

-- ---- the pieces up to a slot's go down, and room opens behind it

-- entries that go down, and those that stay
module _ (vs ys : List ℕ) (t m by : ℕ) (lowered : AreLowered vs ys t m by) where
  points_lowered : (p q : ℕ) (cs : List Piece) → p ≡ q + by → 1 < p → p + spaces cs ≤ m → AllShaped (16 + 2 * t) cs → Points place_of vs p cs → Points place_of ys q cs
  points_lowered p q [] is some fits shaped l = tt
  points_lowered p q (Used i b ∷ cs) is some fits shaped l =
      let own = (lowered.each i (omega (arith, shaped.0.1))).low (omega (arith, l.0)) (omega (arith, l.0)) in
      (omega (arith, l.0), points_lowered (p + piece_space (length b)) (q + piece_space (length b)) cs (omega arith) (omega arith) (omega arith) shaped.1 l.1)
  points_lowered p q (Free s ∷ cs) is some fits shaped l = points_lowered (p + s) (q + s) cs (omega arith) (omega arith) (omega arith) shaped.1 l

  points_high : (p : ℕ) (cs : List Piece) → m ≤ p → AllShaped (16 + 2 * t) cs → Points place_of vs p cs → Points place_of ys p cs
  points_high p [] above shaped l = tt
  points_high p (Used i b ∷ cs) above shaped l =
      let own = (lowered.each i (omega (arith, shaped.0.1))).high (omega (arith, l.0)) in
      (own ∙ l.0, points_high (p + piece_space (length b)) cs (omega arith) shaped.1 l.1)
  points_high p (Free s ∷ cs) above shaped l = points_high (p + s) cs (omega arith) shaped.1 l

module _ (xs us vs ys : List ℕ) (t low room i end : ℕ) (a : List Piece) (b : List ℕ) (d : List Piece) (tiled : IsTiled xs t low (a ++ (Used i b ∷ d))) (ends : end ≡ low + spaces a + piece_space (length b))
    (some : 0 < room) (whole : room ≡ 4 * (room / 4)) (fits : table_end t + room ≤ low)
    (slid : IsSlid xs us low (low - room) (end - low)) (head : IsSet us vs (end - room) (room + 1)) (lowered : AreLowered vs ys t end room) where
  q : ℕ
  q = low - room

  same_entries : (j : ℕ) → j < t → entry vs j ≡ entry xs j
  same_entries j l =
      entry_kept us vs 0 (low - room) j (record { at = λ k u v. head.before k (omega arith) }) (omega arith) (omega arith)
      ∙ entry_kept xs us 0 (low - room) j (record { at = λ k u v. slid.before k v }) (omega arith) (omega arith)

  below_same : Same us ys (low - room) (end - room)
  below_same = record { at = λ k u v. lowered.beyond k (omega arith) ∙ head.before k v }

  above_same : Same xs ys end 65520
  above_same = record { at = λ k u v. lowered.beyond k (omega arith) ∙ (head.behind k (omega arith) ∙ slid.behind k (omega arith)) }

  shapes : AllShaped (16 + 2 * t) a × AllShaped (16 + 2 * t) (Used i b ∷ d)
  shapes = shaped_split (16 + 2 * t) a (Used i b ∷ d) tiled.shaped

  pub gapped : IsTiled ys t (low - room) (a ++ (Used i b ∷ (Free room ∷ d)))
  gapped =
      let one = Used i b ∷ [] in let sum = spaces_append a one in let S = shapes in let F = piece_others xs t low (a ++ (Used i b ∷ d)) tiled i a b d refl in
      let shaped_one : AllShaped (16 + 2 * t) (a ++ one) = shaped_append (16 + 2 * t) a one S.0 (S.1.0, tt) in
      let all : Lies size_head xs low ((a ++ one) ++ d) 65520 = subst (λ (cs : List Piece). Lies size_head xs low cs 65520) (sym (append_assoc a one d)) tiled.lies in
      let L = lies_split size_head xs low (a ++ one) d 65520 all in
      let at : end ≡ low + spaces (a ++ one) = omega arith in
      let lies_d : Lies size_head xs end d 65520 = subst (λ (k : ℕ). Lies size_head xs k d 65520) (sym at) L.1 in
      let last = lies_end size_head xs end d 65520 lies_d in
      let front_us : Lies size_head us (low - room) (a ++ one) (end - room) = lies_slid xs us low (low - room) (end - low) slid size_head (16 + 2 * t) low (low - room) (a ++ one) end (end - room) (omega arith) (omega arith) shaped_one (omega arith) (omega arith)
      (subst (λ (k : ℕ). Lies size_head xs low (a ++ one) k) (sym at) L.0) in
      let front : Lies size_head ys (low - room) (a ++ one) (end - room) = lies_kept size_head us ys (16 + 2 * t) (low - room) (end - room) below_same (low - room) (a ++ one) (end - room) shaped_one front_us (omega arith) (omega arith) in
      let back : Lies size_head ys end d 65520 = lies_kept size_head xs ys (16 + 2 * t) end 65520 above_same end d 65520 S.1.1 lies_d (omega arith) (omega arith) in
      let free_head : word_in ys (end - room) ≡ room + 1 = word_kept vs ys (end - room) (end - room + 2) (end - room) (record { at = λ k u v. lowered.beyond k (omega arith) }) (omega arith) (omega arith) ∙ head.word in
      let up : end ≡ end - room + room = omega arith in
      let free : Lies size_head ys (end - room) (Free room ∷ d) 65520 = (record { head = free_head; bytes = λ k l. absurd (omega arith) }, subst (λ (k : ℕ). Lies size_head ys k d 65520) up back) in
      let P = points_split place_of vs low (a ++ one) d end at (subst (Points place_of vs low) (sym (append_assoc a one d)) (points_same place_of xs vs (16 + 2 * t) (λ j l. same_entries j (omega arith)) low (a ++ (Used i b ∷ d)) tiled.shaped tiled.points)) in
      let points_front = points_lowered vs ys t end room lowered low (low - room) (a ++ one) (omega arith) (omega arith) (omega arith) shaped_one P.0 in
      let points_back : Points place_of ys (end - room) (Free room ∷ d) = subst (λ (k : ℕ). Points place_of ys k d) up (points_high vs ys t end room lowered end d (omega arith) S.1.1 P.1) in
      let join = append_assoc a one (Free room ∷ d) in
      record {
        long = lowered.long ∙ (head.long ∙ (slid.long ∙ tiled.long));
        table = omega arith;
        lies = subst (λ (cs : List Piece). Lies size_head ys (low - room) cs 65520) join (lies_append size_head ys (low - room) (a ++ one) (end - room) (Free room ∷ d) 65520 front free);
        points = subst (Points place_of ys (low - room)) join (points_append place_of ys (low - room) (a ++ one) (Free room ∷ d) (end - room) (omega arith) points_front points_back);
        shaped = shaped_append (16 + 2 * t) a (Used i b ∷ (Free room ∷ d)) S.0 (S.1.0, ((some, whole), S.1.1));
        distinct = distinct_edit i a one (Used i b ∷ (Free room ∷ [])) d (λ j ne. (ne, tt)) F.0 F.1 (tt, tt) tiled.distinct;
        covered = λ j l fresh.
            let f = fresh_split j a (Used i b ∷ (Free room ∷ d)) fresh in
            let dead = tiled.covered j l (fresh_append j a (Used i b ∷ d) f.0 f.1) in
            omega (arith, same_entries j l, (lowered.each j l).dead (omega (arith, same_entries j l)));
      }

  gap_chunk : (j : ℕ) → j < t → chunk_from j (entry ys j) (a ++ (Used i b ∷ d)) ≡ chunk_from j (entry xs j) (a ++ (Used i b ∷ d))
  gap_chunk j l = elim (slot_in j (a ++ (Used i b ∷ d))) [
    | inl h ↦
        let other = (piece_others xs t low (a ++ (Used i b ∷ d)) tiled j h.before h.bytes h.after h.is).0 in
        ap (chunk_from j (entry ys j)) (sym h.is) ∙ (at_slot j (entry ys j) h.bytes h.before h.after other ∙ (sym (at_slot j (entry xs j) h.bytes h.before h.after other) ∙ ap (chunk_from j (entry xs j)) h.is))
    | inr fresh ↦
        let dead = tiled.covered j l fresh in
        let same : entry ys j ≡ entry xs j = (lowered.each j l).dead (omega (arith, same_entries j l)) ∙ same_entries j l in
        ap (λ (e : ℕ). chunk_from j e (a ++ (Used i b ∷ d))) same
  ]

  pub gap_chunks : chunks_in ys t ≡ chunks_in xs t
  gap_chunks = same_chunks xs ys t low (low - room) (a ++ (Used i b ∷ d)) (a ++ (Used i b ∷ (Free room ∷ d))) tiled gapped
      (λ j l. at_after j (entry ys j) a (Used i b ∷ (Free room ∷ d)) (Used i b ∷ d) refl ∙ gap_chunk j l)

-- no list begins at 0
no_list : {detached : ℕ} (s : Space) (cs : List Piece) (fs : List ℕ) → HasPieces s cs fs detached → s.head ≡ 0 → length fs ≡ 0
no_list s cs fs h none = first fs h.chain h.spare where
  first : (gs : List ℕ) → IsChain s.region s.head gs → AreSpare s.low cs gs → length gs ≡ 0
  first [] c sp = refl
  first (g ∷ gs) c sp =
      let b = spare_bounds (16 + 2 * s.slots) s.low cs g h.tiled.shaped sp.0 in let table = h.tiled.table in absurd (omega (arith, b.0, c.0))

-- a space with no list
module _ (s : Space) (k : IsWellFormed s) (us vs ys : List ℕ) (i p n room : ℕ) (none : s.head ≡ 0) (f : IsLivePiece s k i p n) (within : i < s.slots)
    (some : 0 < room) (whole : room ≡ 4 * (room / 4)) (fits : table_end s.slots + room ≤ s.low)
    (slid : IsSlid s.region us s.low (s.low - room) (p + piece_space n - s.low)) (head : IsSet us vs (p + piece_space n - room) (room + 1)) (lowered : AreLowered vs ys s.slots (p + piece_space n) room) where
  ends : p + piece_space n ≡ s.low + spaces f.before + piece_space (length f.bytes)
  ends = omega (arith, f.place, f.size)

  pub gap_opened : HasNext (record { region = ys; slots = s.slots; low = s.low - room; head = s.head; total = s.total }) i room
  gap_opened =
      let one = Used i f.bytes ∷ [] in
      record {
        before = f.before;
        bytes = f.bytes;
        after = f.after;
        free = [];
        held = record {
          tiled = gapped s.region us vs ys s.slots s.low room i (p + piece_space n) f.before f.bytes f.after f.held.tiled ends some whole fits slid head lowered;
          chain = none;
          spare = tt;
          apart = tt;
          all = omega (arith, f.held.all, no_list s k.pieces k.free k.held none, frees_edited f.before one (Used i f.bytes ∷ (Free room ∷ [])) f.after);
          count = omega (arith, f.held.count, count_edited f.before one (Used i f.bytes ∷ (Free room ∷ [])) f.after);
        };
        other = tt;
      }

  pub gap_open_chunks : chunks_in ys s.slots ≡ chunks_in s.region s.slots
  gap_open_chunks = gap_chunks s.region us vs ys s.slots s.low room i (p + piece_space n) f.before f.bytes f.after f.held.tiled ends some whole fits slid head lowered

-- places are above the mark
pub places_above : (s : Space) (k : IsWellFormed s) (j : ℕ) → j < s.slots → 1 < entry s.region j → s.low ≤ entry s.region j
places_above s k j l live = let f = live_piece s k j (entry s.region j) (word_in s.region (entry s.region j)) l live refl refl in omega (arith, f.place)

pub gap_entries : (s : Space) (k : IsWellFormed s) (us vs : List ℕ) (room end n v : ℕ) → table_end s.slots + room ≤ s.low → s.low ≤ end → IsSlid s.region us s.low (s.low - room) n → IsSet us vs (end - room) v → (j : ℕ) → j < s.slots → 1 < entry vs j → room ≤ entry vs j
gap_entries s k us vs room end n v fits above slid head j l live =
    let same : entry vs j ≡ entry s.region j = entry_kept us vs 0 (s.low - room) j (record { at = λ m from to. head.before m (omega arith) }) (omega arith) (omega arith)
    ∙ entry_kept s.region us 0 (s.low - room) j (record { at = λ m from to. slid.before m to }) (omega arith) (omega arith) in
    omega (arith, places_above s k j l (omega arith))
