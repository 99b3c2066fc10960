-- A slot's entry and its piece: a slot gets a chunk and loses it, and the table grows and shrinks.
use Rattle.std.proofs.Common.{◌≡◌, ℕ, ◌+◌, ◌-◌, ◌*◌, ◌/◌, ◌<◌, ◌≤◌, List, [], ◌∷◌, ◌++◌, length, get_or, set, replicate, Option, Some, None, ◌==◌, if◌then◌else◌, true, false, refl, sym, ap, subst, ◌∙◌, inl, inr, arith, length-append, take}
use Rattle.std.proofs.lemmas.List.{length-replicate, get_or-replicate, get_or_append_left, get_or-append_right, get_or-take, length-take-le}
use Rattle.std.proofs.lemmas.Bool.{cond-false, ne_eqb, cases_lt}
use Rattle.std.specs.Option.{option_map}
use Rattle.geos_model.proofs.Table.{slot_space}
use Rattle.lmem_heap.specs.declared.space.Space.{Space}
use Rattle.lmem_heap.specs.Pieces.{word_in, entry, piece_space, Piece, Used, Free, size_head, AllShaped, IsFresh, spaces, used, free_count, Points, place_of}
use Rattle.lmem_heap.specs.Edits.{Same, IsSet, IsZeroed}
use Rattle.lmem_heap.specs.Tiled.{IsTiled, chunk_under, chunks_in, chunk_from, table_end}
use Rattle.lmem_heap.specs.Space.{AreSpare, IsOther, IsChain, HasPieces, IsWellFormedBut, IsWellFormed, IsDetached, IsChanged, HasFree, HasNext}
use Rattle.lmem_heap.proofs.EditLemmas.{word_kept, entry_kept, entry_set, entry_other, set_before, set_behind, same_same}
use Rattle.lmem_heap.proofs.PieceLemmas.{lies_end, shaped_split, fresh_split, used_le, lies_kept, points_kept, shaped_more}
use Rattle.lmem_heap.proofs.ThreadingLemmas.{HasSlot, slot_in}
use Rattle.lmem_heap.proofs.TiledLemmas.{piece_place, piece_size, piece_ends, piece_chunk, piece_others, under_dead, chunk_in, tiled_chunk, chunks_by, length-chunks_in, IsEdit, edited, edited_set, spare_bounds, spare_parts, spares_edited, chain_edited, Each, each_all, each_other, IsLinkKept, count_edited, frees_edited, shaped_fresh}
use Rattle.lmem_heap.proofs.FreePieceLemmas.{free_facts}

-- ---- a free piece becomes a chunk's, and a chunk's piece free

-- a slot with no bytes has no piece
pub dead_fresh : (xs : List ℕ) (t low : ℕ) (cs : List Piece) (i : ℕ) → IsTiled xs t low cs → entry xs i ≤ 1 → IsFresh i cs
dead_fresh xs t low cs i tiled dead = elim (slot_in i cs) [
  | inl h ↦ absurd (omega (arith, piece_place xs t low cs tiled i h.before h.bytes h.after h.is, tiled.table))
  | inr fresh ↦ fresh
]

-- what the chunks take
pub total_small : {detached : ℕ} (s : Space) (cs : List Piece) (fs : List ℕ) → HasPieces s cs fs detached → s.low + s.total ≤ 65520
total_small s cs fs h = omega (arith, h.count, used_le cs, lies_end size_head s.region s.low cs 65520 h.tiled.lies)

-- where nothing is free behind the first piece there is no free piece
no_frees : (limit : ℕ) (cs : List Piece) → AllShaped limit cs → spaces cs ≤ spaces (used cs) → free_count cs ≡ 0
no_frees limit [] shaped full = refl
no_frees limit (Used i b ∷ cs) shaped full = no_frees limit cs shaped.1 (omega arith)
no_frees limit (Free s ∷ cs) shaped full = absurd (omega (arith, shaped.0.0, used_le cs))

no_head : (xs : List ℕ) (h : ℕ) (fs : List ℕ) → length fs ≡ 0 → IsChain xs h fs → h ≡ 0
no_head xs h [] none chain = chain
no_head xs h (f ∷ fs) none chain = absurd (omega arith)

pub packed_head : (s : Space) → IsWellFormed s → 65520 ≤ s.low + s.total → s.head ≡ 0
packed_head s k full =
    let h = k.held in let none = no_frees (16 + 2 * s.slots) k.pieces h.tiled.shaped (omega (arith, h.count, lies_end size_head s.region s.low k.pieces 65520 h.tiled.lies)) in
    no_head s.region s.head k.free (omega (arith, h.all, none)) h.chain

-- one with bytes has
pub live_slot : (xs : List ℕ) (t low : ℕ) (cs : List Piece) (i : ℕ) → IsTiled xs t low cs → i < t → 1 < entry xs i → HasSlot i cs
live_slot xs t low cs i tiled l live = elim (slot_in i cs) [
  | inl h ↦ h
  | inr fresh ↦ absurd (omega (arith, tiled.covered i l fresh))
]

module _ (s : Space) (us vs ys : List ℕ) (p i n h : ℕ) (f : IsDetached s p (piece_space n)) (within : i < s.slots) (dead : entry s.region i ≤ 1) (some : 0 < n)
    (zeroed : IsZeroed s.region us (p + 2) n) (head : IsSet us vs p n) (written : IsSet vs ys h p) (here : h ≡ 16 + 2 * i) where
  count : length {A = ℕ} (replicate n 0) ≡ n
  count = length-replicate {A = ℕ} n 0

  facts : (word_in s.region p ≡ piece_space n + 1) × (p + piece_space n ≤ 65520) × (4 ≤ piece_space n) × (16 + 2 * s.slots ≤ p) × (piece_space n ≡ 4 * (piece_space n / 4))
  facts = free_facts s.region s.slots s.low p (piece_space n) f.before f.after f.held.tiled f.place

  zeroed_before : Same s.region us 0 p
  zeroed_before = record { at = λ k from to. zeroed.before k (omega arith) }

  above : 16 + 2 * s.slots ≤ s.low
  above = let table = f.held.tiled.table in omega arith

  pub fill_edit : IsEdit s.region ys s.slots i s.low p (Free (piece_space n) ∷ []) (Used i (replicate n 0) ∷ [])
  fill_edit =
      let F = facts in let up = above in let m = count in let q = p + (piece_space n + 0) in
      let size : word_in ys p ≡ length {A = ℕ} (replicate n 0) = word_kept vs ys (h + 2) (p + 2) p (set_behind (h + 2) (p + 2) written (omega arith)) (omega arith) (omega arith) ∙ (head.word ∙ sym m) in
      record {
        long = written.long ∙ (head.long ∙ (zeroed.long ∙ f.held.tiled.long));
        others = λ j l ne. entry_other i j written here ne ∙ (entry_kept us vs 0 p j (set_before 0 p head (omega arith)) (omega arith) (omega arith) ∙ entry_kept s.region us 0 p j zeroed_before (omega arith) (omega arith));
        before = record { at = λ k from to. written.behind k (omega arith) ∙ (head.before k to ∙ zeroed.before k (omega arith)) };
        behind = record { at = λ k from to. written.behind k (omega arith) ∙ (head.behind k (omega arith) ∙ zeroed.behind k (omega arith)) };
        lies = (
          record {
            head = size;
            bytes = λ k l. written.behind (p + 2 + k) (omega arith) ∙ (head.behind (p + 2 + k) (omega arith) ∙ (zeroed.zeros k (omega arith) ∙ sym (get_or-replicate n k 0 0 (omega arith))));
          },
          omega arith,
        );
        points = (entry_set i written here, tt);
        shaped = ((omega arith, omega arith), tt);
        distinct = (tt, tt);
        only_new = λ j ne. (ne, tt);
        only_old = λ j ne. tt;
        covered = λ l fresh. absurd (fresh.0 refl);
      }

  fresh_parts : IsFresh i f.before × IsFresh i (Free (piece_space n) ∷ f.after)
  fresh_parts = fresh_split i f.before (Free (piece_space n) ∷ f.after) (dead_fresh s.region s.slots s.low (f.before ++ (Free (piece_space n) ∷ f.after)) i f.held.tiled dead)

  fill_links : Each (IsLinkKept s.region ys p (Free (piece_space n) ∷ []) (Used i (replicate n 0) ∷ [])) f.free
  fill_links = each_other (IsLinkKept s.region ys p (Free (piece_space n) ∷ []) (Used i (replicate n 0) ∷ [])) p (λ g ne l. elim l [ inl same ↦ absurd (ne (sym same)) | inr none ↦ absurd none ]) f.free f.other

  fill_tiled : IsTiled ys s.slots s.low (f.before ++ (Used i (replicate n 0) ∷ f.after))
  fill_tiled = edited s.region ys s.slots i s.low p f.before (Free (piece_space n) ∷ []) (Used i (replicate n 0) ∷ []) f.after f.held.tiled f.place fill_edit fresh_parts.0 fresh_parts.1

  pub filled : IsWellFormed (record { region = ys; slots = s.slots; low = s.low; head = s.head; total = s.total + piece_space n })
  filled =
      let old = Free (piece_space n) ∷ [] in let new = Used i (replicate n 0) ∷ [] in
      record {
        pieces = f.before ++ (Used i (replicate n 0) ∷ f.after);
        free = f.free;
        held = record {
          tiled = fill_tiled;
          chain = chain_edited s.region ys s.slots i s.low p f.before old new f.after f.held.tiled f.place fill_edit fresh_parts.0 fresh_parts.1 s.head f.free fill_links f.held.spare f.held.chain;
          spare = spares_edited s.region ys s.slots i s.low p f.before old new f.after f.held.tiled f.place fill_edit fresh_parts.0 fresh_parts.1 f.free fill_links f.held.spare;
          apart = f.held.apart;
          all = omega (arith, f.held.all, frees_edited f.before old new f.after);
          count = omega (arith, f.held.count, count_edited f.before old new f.after, count);
        };
      }

  pub fill_changed : IsChanged s (record { region = ys; slots = s.slots; low = s.low; head = s.head; total = s.total + piece_space n }) i (Some (replicate n 0))
  fill_changed = record {
    slots = refl;
    entries = fill_edit.others;
    chunks = edited_set s.region ys s.slots i s.low p f.before (Free (piece_space n) ∷ []) (Used i (replicate n 0) ∷ []) f.after f.held.tiled f.place fill_edit fresh_parts.0 fresh_parts.1 within
        ∙ ap (λ (c : Option (List ℕ)). set (chunks_in s.region s.slots) i c) (piece_chunk ys s.slots s.low (f.before ++ (Used i (replicate n 0) ∷ f.after)) fill_tiled i f.before (replicate n 0) f.after refl);
  }

-- ---- the other way

-- no free piece lies where a chunk's does
pub used_other : (limit low p i : ℕ) (b : List ℕ) (a d : List Piece) → AllShaped limit (a ++ (Used i b ∷ d)) → p ≡ low + spaces a → (fs : List ℕ) → AreSpare low (a ++ (Used i b ∷ d)) fs → IsOther p fs
used_other limit low p i b a d shaped at [] h = tt
used_other limit low p i b a d shaped at (f ∷ fs) h =
    let S = shaped_split limit a (Used i b ∷ d) shaped in (
      (λ e. elim (spare_parts low a (Used i b ∷ d) f h.0) [
        | inl l ↦ let c = spare_bounds limit low a f S.0 l in omega (arith, c.1)
        | inr r ↦ let c = spare_bounds limit (low + spaces a + piece_space (length b)) d f S.1.1 r in omega (arith, c.0)
      ]),
      used_other limit low p i b a d shaped at fs h.1,
    )

-- what is known of the piece of a slot with bytes
pub record IsLivePiece {detached : ℕ} (s : Space) (k : IsWellFormedBut s detached) (i p n : ℕ) : Type 0 where
  pub before : List Piece
  pub bytes : List ℕ
  pub after : List Piece
  pub split : before ++ (Used i bytes ∷ after) ≡ k.pieces
  pub held : HasPieces s (before ++ (Used i bytes ∷ after)) k.free detached
  pub place : p ≡ s.low + spaces before
  pub is : p ≡ entry s.region i
  pub value : n ≡ word_in s.region (entry s.region i)
  pub size : n ≡ length bytes
  pub ends : p + piece_space n ≤ 65520
  pub some : 0 < n
  pub table : 16 + 2 * s.slots ≤ p
  pub less : piece_space n ≤ s.total

pub live_piece : {detached : ℕ} (s : Space) (k : IsWellFormedBut s detached) (i p n : ℕ) → i < s.slots → 1 < entry s.region i → p ≡ entry s.region i → n ≡ word_in s.region p → IsLivePiece s k i p n
live_piece {detached = detached} s k i p n l live is value =
    let h = live_slot s.region s.slots s.low k.pieces i k.held.tiled l live in let a = h.before in let b = h.bytes in let d = h.after in
    let at = is ∙ piece_place s.region s.slots s.low k.pieces k.held.tiled i a b d h.is in
    let at_entry : n ≡ word_in s.region (entry s.region i) = value ∙ ap (λ (m : ℕ). word_in s.region m) is in
    let size : n ≡ length b = at_entry ∙ piece_size s.region s.slots s.low k.pieces k.held.tiled i a b d h.is in
    let held : HasPieces s (a ++ (Used i b ∷ d)) k.free detached = subst (λ (cs : List Piece). HasPieces s cs k.free detached) (sym h.is) k.held in
    let shape = (shaped_split (16 + 2 * s.slots) a (Used i b ∷ d) held.tiled.shaped).1.0 in
    let ends = piece_ends s.region s.slots s.low k.pieces k.held.tiled i a b d h.is in let table = held.tiled.table in
    let sum = count_edited a (Used i b ∷ []) [] d in
    record {
      before = a;
      bytes = b;
      after = d;
      split = h.is;
      held = held;
      place = at;
      is = is;
      value = at_entry;
      size = size;
      ends = omega arith;
      some = omega (arith, shape.0);
      table = omega arith;
      less = omega (arith, held.count);
    }

module _ {detached : ℕ} (s : Space) (k : IsWellFormedBut s detached) (vs ys : List ℕ) (p i n e h : ℕ) (f : IsLivePiece s k i p n) (within : i < s.slots) (dead : e ≤ 1)
    (head : IsSet s.region vs p (piece_space n + 1)) (written : IsSet vs ys h e) (here : h ≡ 16 + 2 * i) where
  room : ℕ
  room = piece_space n

  pub free_edit : IsEdit s.region ys s.slots i s.low p (Used i f.bytes ∷ []) (Free (piece_space n) ∷ [])
  free_edit =
      let table = f.held.tiled.table in let place = f.place in let ends = f.ends in let size = f.size in let some = f.some in let at_table = f.table in
      let first : word_in ys p ≡ piece_space n + 1 = word_kept vs ys (h + 2) (p + 2) p (set_behind (h + 2) (p + 2) written (omega arith)) (omega arith) (omega arith) ∙ head.word in
      record {
        long = written.long ∙ (head.long ∙ f.held.tiled.long);
        others = λ j l ne. entry_other i j written here ne ∙ entry_kept s.region vs 0 p j (set_before 0 p head (omega arith)) (omega arith) (omega arith);
        before = same_same (set_before s.low p head (omega arith)) (set_behind s.low p written (omega arith));
        behind = same_same (set_behind (p + (piece_space (length f.bytes) + 0)) 65520 head (omega arith)) (set_behind (p + (piece_space (length f.bytes) + 0)) 65520 written (omega arith));
        lies = (record { head = first; bytes = λ m l. absurd (omega arith) }, omega arith);
        points = tt;
        shaped = ((omega arith, omega arith), tt);
        distinct = tt;
        only_new = λ j ne. tt;
        only_old = λ j ne. (ne, tt);
        covered = λ l fresh. omega (arith, entry_set i written here);
      }

  others : IsFresh i f.before × IsFresh i f.after
  others = piece_others s.region s.slots s.low (f.before ++ (Used i f.bytes ∷ f.after)) f.held.tiled i f.before f.bytes f.after refl

  free_links : Each (IsLinkKept s.region ys p (Used i f.bytes ∷ []) (Free (piece_space n) ∷ [])) k.free
  free_links = each_all (IsLinkKept s.region ys p (Used i f.bytes ∷ []) (Free (piece_space n) ∷ [])) (λ g l. absurd l) k.free

  pub released_held : HasPieces (record { region = ys; slots = s.slots; low = s.low; head = s.head; total = s.total - piece_space n }) (f.before ++ (Free (piece_space n) ∷ f.after)) k.free (detached + 1)
  released_held =
      let old = Used i f.bytes ∷ [] in let new = Free (piece_space n) ∷ [] in
      record {
        tiled = edited s.region ys s.slots i s.low p f.before old new f.after f.held.tiled f.place free_edit others.0 others.1;
        chain = chain_edited s.region ys s.slots i s.low p f.before old new f.after f.held.tiled f.place free_edit others.0 others.1 s.head k.free free_links f.held.spare f.held.chain;
        spare = spares_edited s.region ys s.slots i s.low p f.before old new f.after f.held.tiled f.place free_edit others.0 others.1 k.free free_links f.held.spare;
        apart = f.held.apart;
        all = omega (arith, f.held.all, frees_edited f.before old new f.after);
        count = omega (arith, f.held.count, f.size, count_edited f.before old new f.after);
      }

  pub release_changed : IsChanged s (record { region = ys; slots = s.slots; low = s.low; head = s.head; total = s.total - piece_space n }) i (if e == 0 then None else Some [])
  release_changed =
      let is = entry_set i written here in
      record {
        slots = refl;
        entries = free_edit.others;
        chunks = edited_set s.region ys s.slots i s.low p f.before (Used i f.bytes ∷ []) (Free (piece_space n) ∷ []) f.after f.held.tiled f.place free_edit others.0 others.1 within
            ∙ ap (λ (c : Option (List ℕ)). set (chunks_in s.region s.slots) i c) (ap (chunk_under ys) is ∙ under_dead ys e dead);
      }

pub released : (s : Space) (k : IsWellFormed s) (vs ys : List ℕ) (p i n e h : ℕ) (f : IsLivePiece s k i p n) → i < s.slots → e ≤ 1 → IsSet s.region vs p (piece_space n + 1) → IsSet vs ys h e → h ≡ 16 + 2 * i
    → IsDetached (record { region = ys; slots = s.slots; low = s.low; head = s.head; total = s.total - piece_space n }) p (piece_space n)
released s k vs ys p i n e h f within dead head written here = record {
  before = f.before;
  after = f.after;
  free = k.free;
  held = released_held s k vs ys p i n e h f within dead head written here;
  place = f.place;
  other = used_other (16 + 2 * s.slots) s.low p i f.bytes f.before f.after f.held.tiled.shaped f.place k.free f.held.spare;
}

-- ---- the entry of a slot with no bytes

module _ (s : Space) (k : IsWellFormed s) (ys : List ℕ) (i e h : ℕ) (within : i < s.slots) (none : entry s.region i ≤ 1) (dead : e ≤ 1) (written : IsSet s.region ys h e) (here : h ≡ 16 + 2 * i) where
  dead_edit : IsEdit s.region ys s.slots i s.low s.low [] []
  dead_edit =
      let table = k.held.tiled.table in
      record {
        long = written.long ∙ k.held.tiled.long;
        others = λ j l ne. entry_other i j written here ne;
        before = record { at = λ m from to. absurd (omega arith) };
        behind = set_behind (s.low + 0) 65520 written (omega arith);
        lies = omega arith;
        points = tt;
        shaped = tt;
        distinct = tt;
        only_new = λ j ne. tt;
        only_old = λ j ne. tt;
        covered = λ l fresh. omega (arith, entry_set i written here);
      }

  dead_other : IsFresh i k.pieces
  dead_other = dead_fresh s.region s.slots s.low k.pieces i k.held.tiled none

  start : s.low ≡ s.low + spaces []
  start = omega arith

  dead_links : Each (IsLinkKept s.region ys s.low [] []) k.free
  dead_links = each_all (IsLinkKept s.region ys s.low [] []) (λ g l. absurd l) k.free

  pub deadened : IsWellFormed (record { region = ys; slots = s.slots; low = s.low; head = s.head; total = s.total })
  deadened = record {
    pieces = k.pieces;
    free = k.free;
    held = record {
      tiled = edited s.region ys s.slots i s.low s.low [] [] [] k.pieces k.held.tiled start dead_edit tt dead_other;
      chain = chain_edited s.region ys s.slots i s.low s.low [] [] [] k.pieces k.held.tiled start dead_edit tt dead_other s.head k.free dead_links k.held.spare k.held.chain;
      spare = k.held.spare;
      apart = k.held.apart;
      all = k.held.all;
      count = k.held.count;
    };
  }

  pub dead_changed : IsChanged s (record { region = ys; slots = s.slots; low = s.low; head = s.head; total = s.total }) i (if e == 0 then None else Some [])
  dead_changed = record {
    slots = refl;
    entries = dead_edit.others;
    chunks = edited_set s.region ys s.slots i s.low s.low [] [] [] k.pieces k.held.tiled start dead_edit tt dead_other within
        ∙ ap (λ (c : Option (List ℕ)). set (chunks_in s.region s.slots) i c) (ap (chunk_under ys) (entry_set i written here) ∙ under_dead ys e dead);
  }

-- ---- sizes

-- a slot's chunk by its entry: none, an empty one, or that of a piece
pub size_live : {detached : ℕ} (s : Space) (k : IsWellFormedBut s detached) (i : ℕ) → i < s.slots → 1 < entry s.region i → option_map (length {A = ℕ}) (chunk_under s.region (entry s.region i)) ≡ Some (word_in s.region (entry s.region i))
size_live s k i l live =
    let h = live_slot s.region s.slots s.low k.pieces i k.held.tiled l live in let a = h.before in let b = h.bytes in let d = h.after in
    ap (option_map (length {A = ℕ})) (piece_chunk s.region s.slots s.low k.pieces k.held.tiled i a b d h.is) ∙ ap Some (sym (piece_size s.region s.slots s.low k.pieces k.held.tiled i a b d h.is))

pub size_dead : (xs : List ℕ) (e : ℕ) → e ≤ 1 → option_map (length {A = ℕ}) (chunk_under xs e) ≡ (if e == 0 then None else Some 0)
size_dead xs e dead = ap (option_map (length {A = ℕ})) (under_dead xs e dead) ∙ elim (e == 0) as (λ v. option_map (length {A = ℕ}) (if v then None else Some []) ≡ (if v then None else Some 0)) [ true ↦ refl | false ↦ refl ]

-- what a slot's chunk takes
pub space_live : {detached : ℕ} (s : Space) (k : IsWellFormedBut s detached) (i : ℕ) → i < s.slots → 1 < entry s.region i → slot_space (chunk_under s.region (entry s.region i)) ≡ piece_space (word_in s.region (entry s.region i))
space_live {detached = detached} s k i l live =
    let h = live_slot s.region s.slots s.low k.pieces i k.held.tiled l live in let a = h.before in let b = h.bytes in let d = h.after in
    let held : HasPieces s (a ++ (Used i b ∷ d)) k.free detached = subst (λ (cs : List Piece). HasPieces s cs k.free detached) (sym h.is) k.held in
    let shape = (shaped_split (16 + 2 * s.slots) a (Used i b ∷ d) held.tiled.shaped).1.0 in
    ap slot_space (piece_chunk s.region s.slots s.low k.pieces k.held.tiled i a b d h.is)
    ∙ (cond-false (length b == 0) 0 (piece_space (length b)) (ne_eqb (length b) 0 (omega (arith, shape.0))) ∙ ap piece_space (sym (piece_size s.region s.slots s.low k.pieces k.held.tiled i a b d h.is)))

pub space_dead : (xs : List ℕ) (e : ℕ) → e ≤ 1 → slot_space (chunk_under xs e) ≡ 0
space_dead xs e dead = ap slot_space (under_dead xs e dead) ∙ elim (e == 0) as (λ v. slot_space (if v then None else Some []) ≡ 0) [ true ↦ refl | false ↦ refl ]

-- the size of a slot's chunk by its entry p
pub size_none : (xs : List ℕ) (t i p : ℕ) → i < t → p ≡ entry xs i → p ≡ 0 → None ≡ option_map (length {A = ℕ}) (get_or (chunks_in xs t) i None)
size_none xs t i p l is none =
    let e : entry xs i ≡ 0 = sym is ∙ none in
    sym (ap (option_map (length {A = ℕ})) (chunk_in xs t i l) ∙ (size_dead xs (entry xs i) (omega arith) ∙ ap (λ (k : ℕ). if k == 0 then None else Some 0) e))

pub size_empty : (xs : List ℕ) (t i p : ℕ) → i < t → p ≡ entry xs i → p ≡ 1 → Some 0 ≡ option_map (length {A = ℕ}) (get_or (chunks_in xs t) i None)
size_empty xs t i p l is one =
    let e : entry xs i ≡ 1 = sym is ∙ one in
    sym (ap (option_map (length {A = ℕ})) (chunk_in xs t i l) ∙ (size_dead xs (entry xs i) (omega arith) ∙ ap (λ (k : ℕ). if k == 0 then None else Some 0) e))

pub size_some : (s : Space) (k : IsWellFormed s) (i p n : ℕ) → i < s.slots → p ≡ entry s.region i → 1 < p → n ≡ word_in s.region p → Some n ≡ option_map (length {A = ℕ}) (get_or (chunks_in s.region s.slots) i None)
size_some s k i p n l is live value =
    sym (ap (option_map (length {A = ℕ})) (chunk_in s.region s.slots i l) ∙ (size_live s k i l (omega arith) ∙ ap Some (ap (λ (m : ℕ). word_in s.region m) (sym is) ∙ sym value)))

-- ---- what is known of a slot's entry, of the piece that it names, and of a free piece

-- ---- a slot's entry

pub low_ends : {detached : ℕ} {s : Space} → IsWellFormedBut s detached → s.low ≤ 65520
low_ends {s = s} k = omega (arith, lies_end size_head s.region s.low k.pieces 65520 k.held.tiled.lies)

pub entry_ends : {detached : ℕ} {s : Space} → IsWellFormedBut s detached → (i : ℕ) → i < s.slots → 18 + 2 * i ≤ 65520
entry_ends k i within = omega (arith, k.held.tiled.table, low_ends k)

-- the piece at p, of the size n that was read there
pub piece_read : {detached : ℕ} {s : Space} (k : IsWellFormedBut s detached) (i p n : ℕ) → i < s.slots → 1 < entry s.region i → p ≡ entry s.region i → n ≡ word_in s.region p → IsLivePiece s k i p n
piece_read {s = s} k i p n within live is value = live_piece s k i p n within live is value

pub head_ends : {detached : ℕ} {s : Space} → IsWellFormedBut s detached → (i p : ℕ) → i < s.slots → 1 < entry s.region i → p ≡ entry s.region i → p + 2 ≤ 65520
head_ends {s = s} k i p within live is = omega (arith, (piece_read k i p (word_in s.region p) within live is refl).ends)

pub size_ends : {detached : ℕ} {s : Space} → IsWellFormedBut s detached → (i : ℕ) → i < s.slots → 1 < entry s.region i → piece_space (word_in s.region (entry s.region i)) ≤ 65520
size_ends {s = s} k i within live = omega (arith, (live_piece s k i (entry s.region i) (word_in s.region (entry s.region i)) within live refl refl).ends)

-- ---- a free piece

pub record IsRoomAt (s : Space) (p room : ℕ) : Type 0 where
  pub ends : p + room ≤ 65520
  pub some : 4 ≤ room
  pub table : 16 + 2 * s.slots ≤ p

pub detached_room : {s : Space} {p room : ℕ} → IsDetached s p room → IsRoomAt s p room
detached_room {s = s} {p = p} {room = room} f = let F = free_facts s.region s.slots s.low p room f.before f.after f.held.tiled f.place in record { ends = F.1; some = F.2; table = F.3 }

pub free_room : {s : Space} {p room : ℕ} → HasFree s p room → IsRoomAt s p room
free_room {s = s} {p = p} {room = room} f = let F = free_facts s.region s.slots s.low p room f.before f.after f.held.tiled f.place in record { ends = F.1; some = F.2; table = F.3 }

-- a space with one that the list lacks
abbrev pub detached_well_formed : {s : Space} {p room : ℕ} → IsDetached s p room → IsWellFormedBut s 1
detached_well_formed {room = room} f = record { pieces = f.before ++ (Free room ∷ f.after); free = f.free; held = f.held }

abbrev pub next_well_formed : {s : Space} {i room : ℕ} → HasNext s i room → IsWellFormedBut s 1
next_well_formed {i = i} {room = room} h = record { pieces = h.before ++ (Used i h.bytes ∷ (Free room ∷ h.after)); free = h.free; held = h.held }

-- ---- the table grows and shrinks

-- ---- growth

module _ (xs ys : List ℕ) (t u low : ℕ) (cs : List Piece) (tiled : IsTiled xs t low cs) (more : t ≤ u) (room : table_end u ≤ low) (zeroed : IsZeroed xs ys (16 + 2 * t) (2 * (u - t))) where
  pub grown_same : Same xs ys low 65520
  grown_same = record { at = λ k from to. zeroed.behind k (omega arith) }

  pub grown_entry : (j : ℕ) → j < t → entry ys j ≡ entry xs j
  grown_entry j l = entry_kept xs ys 0 (16 + 2 * t) j (record { at = λ k from to. zeroed.before k to }) (omega arith) (omega arith)

  pub grown_new : (j : ℕ) → t ≤ j → j < u → entry ys j ≡ 0
  unfolding entry
  grown_new j above below =
      let low_byte : get_or ys (16 + 2 * j) 0 ≡ 0 = byte (16 + 2 * j) (omega arith) (omega arith) in
      let high_byte : get_or ys (16 + 2 * j + 1) 0 ≡ 0 = byte (16 + 2 * j + 1) (omega arith) (omega arith) in
      omega (arith, low_byte, high_byte)
    where
      byte : (k : ℕ) → 16 + 2 * t ≤ k → k < 16 + 2 * u → get_or ys k 0 ≡ 0
      byte k from to =
          let is : 16 + 2 * t + (k - (16 + 2 * t)) ≡ k = omega arith in
          ap (λ (m : ℕ). get_or ys m 0) (sym is) ∙ zeroed.zeros (k - (16 + 2 * t)) (omega arith)

  pub grown : IsTiled ys u low cs
  grown = record {
    long = zeroed.long ∙ tiled.long;
    table = room;
    lies = let end = lies_end size_head xs low cs 65520 tiled.lies in lies_kept size_head xs ys (16 + 2 * t) low 65520 grown_same low cs 65520 tiled.shaped tiled.lies (omega arith) (omega arith);
    points = points_kept place_of xs ys (16 + 2 * t) t (λ j ne in_table. grown_entry j (omega arith)) low cs tiled.shaped (shaped_fresh t cs t (omega arith) tiled.shaped) tiled.points;
    shaped = shaped_more (16 + 2 * t) (16 + 2 * u) cs (omega arith) tiled.shaped;
    distinct = tiled.distinct;
    covered = λ j l fresh. elim (cases_lt j t) [
      | inl below ↦ omega (arith, grown_entry j below, tiled.covered j below fresh)
      | inr above ↦ omega (arith, grown_new j above l)
    ];
  }

  pub grown_chunks : chunks_in ys u ≡ chunks_in xs t ++ replicate (u - t) None
  grown_chunks =
      let old = chunks_in xs t in let none : List (Option (List ℕ)) = replicate (u - t) None in let count = length-chunks_in xs t in let extra : length none ≡ u - t = length-replicate (u - t) None in
      chunks_by ys u (old ++ none) (omega (arith, length-append old none)) (λ k l. elim (cases_lt k t) [
        | inl below ↦
            get_or_append_left old none None k (omega arith) ∙ (chunk_in xs t k below ∙ (tiled_chunk xs t low cs tiled k below
            ∙ (ap (λ (e : ℕ). chunk_from k e cs) (sym (grown_entry k below)) ∙ sym (tiled_chunk ys u low cs grown k l))))
        | inr above ↦
            get_or-append_right old none t k None count above
            ∙ (get_or-replicate (u - t) (k - t) None None (omega arith) ∙ sym (ap (chunk_under ys) (grown_new k above l) ∙ under_dead ys 0 (omega arith)))
      ])

  pub grown_chain : (h : ℕ) (fs : List ℕ) → AreSpare low cs fs → IsChain xs h fs → IsChain ys h fs
  grown_chain h [] s c = c
  grown_chain h (f ∷ fs) s c =
      let b = spare_bounds (16 + 2 * t) low cs f tiled.shaped s.0 in let end = lies_end size_head xs low cs 65520 tiled.lies in
      let same : word_in ys (f + 2) ≡ word_in xs (f + 2) = word_kept xs ys low 65520 (f + 2) grown_same (omega (arith, b.0)) (omega (arith, b.1)) in
      (c.0, grown_chain (word_in ys (f + 2)) fs s.1 (subst (λ (k : ℕ). IsChain xs k fs) (sym same) c.1))

-- ---- trimming

shaped_less : (xs : List ℕ) (t u p : ℕ) (cs : List Piece) → ((j : ℕ) → u ≤ j → j < t → entry xs j ≡ 0) → 0 < p → Points place_of xs p cs → AllShaped (16 + 2 * t) cs → AllShaped (16 + 2 * u) cs
shaped_less xs t u p [] none some points h = tt
shaped_less xs t u p (Used i b ∷ cs) none some points h =
    let below : i < u = elim (cases_lt i u) [ inl l ↦ l | inr past ↦ absurd (omega (arith, none i past (omega (arith, h.0.1)), points.0)) ] in
    ((h.0.0, omega arith), shaped_less xs t u (p + piece_space (length b)) cs none (omega arith) points.1 h.1)
shaped_less xs t u p (Free s ∷ cs) none some points h = (h.0, shaped_less xs t u (p + s) cs none (omega arith) points h.1)

module _ (xs : List ℕ) (t u low : ℕ) (cs : List Piece) (tiled : IsTiled xs t low cs) (less : u ≤ t) (none : (j : ℕ) → u ≤ j → j < t → entry xs j ≡ 0) where
  pub trimmed : IsTiled xs u low cs
  trimmed = record {
    long = tiled.long;
    table = let table = tiled.table in omega arith;
    lies = tiled.lies;
    points = tiled.points;
    shaped = shaped_less xs t u low cs none (let table = tiled.table in omega arith) tiled.points tiled.shaped;
    distinct = tiled.distinct;
    covered = λ j l fresh. tiled.covered j (omega arith) fresh;
  }

  pub trimmed_chunks : chunks_in xs u ≡ take u (chunks_in xs t)
  trimmed_chunks =
      let old = chunks_in xs t in let count = length-chunks_in xs t in
      chunks_by xs u (take u old) (length-take-le u old (omega arith)) (λ k l. get_or-take u old k None l ∙ chunk_in xs t k (omega arith))

pub trimmed_well_formed : (s : Space) (u : ℕ) → (k : IsWellFormed s) → u ≤ s.slots → ((j : ℕ) → u ≤ j → j < s.slots → entry s.region j ≡ 0) → IsWellFormed (record { region = s.region; slots = u; low = s.low; head = s.head; total = s.total })
trimmed_well_formed s u k less none = record {
  pieces = k.pieces;
  free = k.free;
  held = record { tiled = trimmed s.region s.slots u s.low k.pieces k.held.tiled less none; chain = k.held.chain; spare = k.held.spare; apart = k.held.apart; all = k.held.all; count = k.held.count };
}

pub grown_well_formed : (s : Space) (ys : List ℕ) (u : ℕ) → (k : IsWellFormed s) → s.slots ≤ u → table_end u ≤ s.low → IsZeroed s.region ys (16 + 2 * s.slots) (2 * (u - s.slots)) → IsWellFormed (record { region = ys; slots = u; low = s.low; head = s.head; total = s.total })
grown_well_formed s ys u k more room zeroed = record {
  pieces = k.pieces;
  free = k.free;
  held = record {
    tiled = grown s.region ys s.slots u s.low k.pieces k.held.tiled more room zeroed;
    chain = grown_chain s.region ys s.slots u s.low k.pieces k.held.tiled more room zeroed s.head k.free k.held.spare k.held.chain;
    spare = k.held.spare;
    apart = k.held.apart;
    all = k.held.all;
    count = k.held.count;
  };
}
