-- The bytes of a chunk are read, written over where they lie, and put in the place of others.
use Rattle.std.proofs.Common.{◌≡◌, ℕ, ◌+◌, ◌-◌, ◌*◌, ◌<◌, ◌≤◌, List, [], ◌∷◌, ◌++◌, length, get_or, set, slice_range, Option, Some, None, unwrap_or, nat_lt, refl, sym, ap, subst, ◌∙◌, inl, inr, arith, take, replicate}
use Rattle.std.proofs.lemmas.Bool.{cases_lt, cond-true, cond-false, lt-ltb, le-ltb}
use Rattle.raw_region.specs.Bytes.{put}
use Rattle.raw_region.proofs.Puts.{length-put, spliced, put_is}
use Rattle.lmem_heap.proofs.EditLemmas.{get_or-put, get_or-put_before, get_or-put_past, word_kept, entry_kept}
use Rattle.lmem_heap.specs.declared.space.Space.{Space}
use Rattle.lmem_heap.specs.Pieces.{word_in, entry, Used, size_head, Lies, IsFresh}
use Rattle.lmem_heap.specs.Tiled.{IsTiled, chunks_in, offset_under}
use Rattle.lmem_heap.specs.Space.{IsWellFormed}
use Rattle.lmem_heap.proofs.PieceLemmas.{lies_split, shaped_split}
use Rattle.lmem_heap.proofs.TiledLemmas.{piece_size, piece_bytes, piece_chunk, piece_others, chunk_in, length-chunks_in, IsEdit, edited, edited_set, spares_edited, chain_edited, Each, each_all, IsLinkKept, count_edited, frees_edited}
use Rattle.lmem_heap.proofs.EntryLemmas.{live_slot, IsLivePiece, entry_ends}
use Rattle.std.proofs.lemmas.List.{get_or-set_same, set-set, take_all, append-nil, take_at, length-take}
use Rattle.geos_model.specs.Bytes.{resized}
use Rattle.lmem_heap.proofs.ResizingLemmas.{count_resized}
use Rattle.std.specs.List as list

-- ---- the bytes of a chunk are read, and written over where they lie

-- ---- reading

pub offset_some : (e : ℕ) → 1 < e → Some (e + 2) ≡ offset_under e
unfolding offset_under
offset_some e l = sym (cond-true (nat_lt 1 e) (Some (e + 2)) None (lt-ltb 1 e l))

pub offset_none : (e : ℕ) → e ≤ 1 → None ≡ offset_under e
unfolding offset_under
offset_none e l = sym (cond-false (nat_lt 1 e) (Some (e + 2)) None (le-ltb 1 e l))

pub chunk_some : (s : Space) (k : IsWellFormed s) (i p n : ℕ) → i < s.slots → p ≡ entry s.region i → 1 < p → n ≡ word_in s.region p → Some (slice_range s.region (p + 2) (p + 2 + n)) ≡ get_or (chunks_in s.region s.slots) i None
chunk_some s k i p n l is live value =
    let h = live_slot s.region s.slots s.low k.pieces i k.held.tiled l (omega arith) in let a = h.before in let b = h.bytes in let d = h.after in
    let e = entry s.region i in
    let size : n ≡ length b = value ∙ (ap (λ (m : ℕ). word_in s.region m) is ∙ piece_size s.region s.slots s.low k.pieces k.held.tiled i a b d h.is) in
    ap (λ (m : ℕ). Some (slice_range s.region (m + 2) (m + 2 + n))) is
    ∙ (ap (λ (m : ℕ). Some (slice_range s.region (e + 2) (e + 2 + m))) size
    ∙ (ap Some (piece_bytes s.region s.slots s.low k.pieces k.held.tiled i a b d h.is)
    ∙ sym (chunk_in s.region s.slots i l ∙ piece_chunk s.region s.slots s.low k.pieces k.held.tiled i a b d h.is)))

-- ---- writing

module _ (s : Space) (k : IsWellFormed s) (ys : List ℕ) (p i n at : ℕ) (ws : List ℕ) (f : IsLivePiece s k i p n) (within : i < s.slots) (range : at + length ws ≤ n) (is : ys ≡ put s.region (p + 2 + at) ws) where
  fits : p + 2 + at + length ws ≤ length s.region
  fits = let long = f.held.tiled.long in let ends = f.ends in omega arith

  before_same : (m : ℕ) → m < p + 2 + at → get_or ys m 0 ≡ get_or s.region m 0
  before_same m l = ap (λ (l : List ℕ). get_or l m 0) is ∙ get_or-put_before s.region ws (p + 2 + at) fits m 0 l

  past_same : (m : ℕ) → p + 2 + at + length ws ≤ m → get_or ys m 0 ≡ get_or s.region m 0
  past_same m l = ap (λ (l : List ℕ). get_or l m 0) is ∙ get_or-put_past s.region ws (p + 2 + at) fits m 0 l

  count : length (put f.bytes at ws) ≡ length f.bytes
  count = length-put f.bytes ws at

  parts : Lies size_head s.region p (Used i f.bytes ∷ f.after) 65520
  parts = subst (λ (q : ℕ). Lies size_head s.region q (Used i f.bytes ∷ f.after) 65520) (sym f.place) (lies_split size_head s.region s.low f.before (Used i f.bytes ∷ f.after) 65520 f.held.tiled.lies).1

  byte_at : (m : ℕ) → m < length f.bytes → get_or ys (p + 2 + m) 0 ≡ get_or (put f.bytes at ws) m 0
  byte_at m l =
      let size = f.size in let inside : at + length ws ≤ length f.bytes = omega arith in
      elim (cases_lt m at) [
        | inl below ↦ before_same (p + 2 + m) (omega arith) ∙ (parts.0.bytes m l ∙ sym (get_or-put_before f.bytes ws at inside m 0 below))
        | inr above ↦ elim (cases_lt m (at + length ws)) [
          | inl in_run ↦
              let j = m - at in let there : p + 2 + m ≡ p + 2 + at + j = omega arith in let here : at + j ≡ m = omega arith in
              ap (λ (q : ℕ). get_or ys q 0) there ∙ (ap (λ (l : List ℕ). get_or l (p + 2 + at + j) 0) is
              ∙ (get_or-put s.region ws (p + 2 + at) fits j 0 (omega arith) ∙ (sym (get_or-put f.bytes ws at inside j 0 (omega arith)) ∙ ap (λ (q : ℕ). get_or (put f.bytes at ws) q 0) here)))
          | inr past ↦ past_same (p + 2 + m) (omega arith) ∙ (parts.0.bytes m l ∙ sym (get_or-put_past f.bytes ws at inside m 0 past))
        ]
      ]

  entries_same : (j : ℕ) → j < s.slots → entry ys j ≡ entry s.region j
  entries_same j l = let table = f.table in entry_kept s.region ys 0 p j (record { at = λ m from to. before_same m (omega arith) }) (omega arith) (omega arith)

  write_edit : IsEdit s.region ys s.slots i s.low p (Used i f.bytes ∷ []) (Used i (put f.bytes at ws) ∷ [])
  write_edit =
      let size = f.size in let long = count in let some = f.some in
      let own : entry ys i ≡ p = entries_same i within ∙ sym f.is in
      let shape = (shaped_split (16 + 2 * s.slots) f.before (Used i f.bytes ∷ f.after) f.held.tiled.shaped).1.0 in
      record {
        long = ap length is ∙ (length-put s.region ws (p + 2 + at) ∙ f.held.tiled.long);
        others = λ j l ne. entries_same j l;
        before = record { at = λ m from to. before_same m (omega arith) };
        behind = record { at = λ m from to. past_same m (omega arith) };
        lies = (
          record {
            head = word_kept s.region ys p (p + 2) p (record { at = λ m from to. before_same m (omega arith) }) (omega arith) (omega arith) ∙ (parts.0.head ∙ sym long);
            bytes = λ m l. byte_at m (omega arith);
          },
          omega arith,
        );
        points = (own, tt);
        shaped = ((omega arith, shape.1), tt);
        distinct = (tt, tt);
        only_new = λ j ne. (ne, tt);
        only_old = λ j ne. (ne, tt);
        covered = λ l fresh. absurd (fresh.0 refl);
      }

  others : IsFresh i f.before × IsFresh i f.after
  others = piece_others s.region s.slots s.low (f.before ++ (Used i f.bytes ∷ f.after)) f.held.tiled i f.before f.bytes f.after refl

  write_links : Each (IsLinkKept s.region ys p (Used i f.bytes ∷ []) (Used i (put f.bytes at ws) ∷ [])) k.free
  write_links = each_all (IsLinkKept s.region ys p (Used i f.bytes ∷ []) (Used i (put f.bytes at ws) ∷ [])) (λ g l. absurd l) k.free

  write_tiled : IsTiled ys s.slots s.low (f.before ++ (Used i (put f.bytes at ws) ∷ f.after))
  write_tiled = edited s.region ys s.slots i s.low p f.before (Used i f.bytes ∷ []) (Used i (put f.bytes at ws) ∷ []) f.after f.held.tiled f.place write_edit others.0 others.1

  pub written_well_formed : IsWellFormed (record { region = ys; slots = s.slots; low = s.low; head = s.head; total = s.total })
  written_well_formed =
      let old = Used i f.bytes ∷ [] in let new = Used i (put f.bytes at ws) ∷ [] in
      record {
        pieces = f.before ++ (Used i (put f.bytes at ws) ∷ f.after);
        free = k.free;
        held = record {
          tiled = write_tiled;
          chain = chain_edited s.region ys s.slots i s.low p f.before old new f.after f.held.tiled f.place write_edit others.0 others.1 s.head k.free write_links f.held.spare f.held.chain;
          spare = spares_edited s.region ys s.slots i s.low p f.before old new f.after f.held.tiled f.place write_edit others.0 others.1 k.free write_links f.held.spare;
          apart = f.held.apart;
          all = omega (arith, f.held.all, frees_edited f.before old new f.after);
          count = omega (arith, f.held.count, count, count_edited f.before old new f.after);
        };
      }

  pub written_entries : (j : ℕ) → j < s.slots → entry ys j ≡ entry s.region j
  written_entries = entries_same

  pub written_chunks : chunks_in ys s.slots ≡ set (chunks_in s.region s.slots) i (Some (put (unwrap_or (get_or (chunks_in s.region s.slots) i None) []) at ws))
  written_chunks =
      let old : get_or (chunks_in s.region s.slots) i None ≡ Some f.bytes = chunk_in s.region s.slots i within ∙ piece_chunk s.region s.slots s.low (f.before ++ (Used i f.bytes ∷ f.after)) f.held.tiled i f.before f.bytes f.after refl in
      edited_set s.region ys s.slots i s.low p f.before (Used i f.bytes ∷ []) (Used i (put f.bytes at ws) ∷ []) f.after f.held.tiled f.place write_edit others.0 others.1 within
      ∙ (ap (λ (c : Option (List ℕ)). set (chunks_in s.region s.slots) i c) (piece_chunk ys s.slots s.low (f.before ++ (Used i (put f.bytes at ws) ∷ f.after)) write_tiled i f.before (put f.bytes at ws) f.after refl)
      ∙ ap (λ (o : Option (List ℕ)). set (chunks_in s.region s.slots) i (Some (put (unwrap_or o []) at ws))) (sym old))

-- a slot's entry lies in the region
pub slot_within : (s : Space) (i : ℕ) → i < length (chunks_in s.region s.slots) → i < s.slots
slot_within s i l = omega (arith, length-chunks_in s.region s.slots)

pub slot_low : (s : Space) (i : ℕ) → IsWellFormed s → i < length (chunks_in s.region s.slots) → 18 + 2 * i ≤ 65520
slot_low s i k l = entry_ends k i (slot_within s i l)

-- ---- bytes that are put in the place of others in a chunk

-- a slot's chunk is changed twice
pub set_twice : (cs ls ws : List (Option (List ℕ))) (i : ℕ) (b : List ℕ) (f : List ℕ → List ℕ) → i < length cs → ls ≡ set cs i (Some b) → ws ≡ set ls i (Some (f (unwrap_or (get_or ls i None) []))) → ws ≡ set cs i (Some (f b))
set_twice cs ls ws i b f l first second =
    let there : unwrap_or (get_or ls i None) [] ≡ b = ap (λ (c : List (Option (List ℕ))). unwrap_or (get_or c i None) []) first ∙ ap (λ (o : Option (List ℕ)). unwrap_or o []) (get_or-set_same cs i (Some b) None l) in
    second ∙ (ap (λ (x : List ℕ). set ls i (Some (f x))) there ∙ (ap (λ (c : List (Option (List ℕ))). set c i (Some (f b))) first ∙ set-set cs i (Some b) (Some (f b))))

pub bytes_set : (cs ls : List (Option (List ℕ))) (i : ℕ) (b : List ℕ) → i < length cs → ls ≡ set cs i (Some b) → unwrap_or (get_or ls i None) [] ≡ b
bytes_set cs ls i b l is = ap (λ (c : List (Option (List ℕ))). unwrap_or (get_or c i None) []) is ∙ ap (λ (o : Option (List ℕ)). unwrap_or o []) (get_or-set_same cs i (Some b) None l)

-- the bytes that stand behind slide, and the new ones are written
overlaid : (xs b ws : List ℕ) (at k n : ℕ) → length b ≤ length xs → b ≡ take (length b) xs → at + k ≤ length b → length b + length ws ≤ length xs + k → n + k ≡ length b + length ws
    → take n (put (put xs (at + length ws) (slice_range xs (at + k) (length b))) at ws) ≡ list.splice b at (at + k) ws
overlaid xs b ws at k n short front range room count =
    let moved = slice_range xs (at + k) (length b) in
    spliced xs (put xs (at + length ws) moved) (put (put xs (at + length ws) moved) at ws) ws b (length b) at k n short front range room
    (ap (λ (j : ℕ). put xs (at + length ws) (slice_range xs (at + k) j)) (omega arith)) refl (omega arith)

-- the chunk was made longer first
pub replaced_longer : (b ws : List ℕ) (at k size n : ℕ) → size ≡ length b → at + k ≤ length b → n ≡ size - k + length ws → size < n
    → put (put (resized b n) (at + length ws) (slice_range (resized b n) (at + k) size)) at ws ≡ list.splice b at (at + k) ws
replaced_longer b ws at k size n is range count longer =
    let xs = resized b n in let long = count_resized b n in let z : List ℕ = replicate (n - length b) 0 in
    let front : b ≡ take (length b) xs = sym (ap (λ (l : List ℕ). take (length b) (l ++ z)) (take_all n b (omega arith)) ∙ take_at b z (length b) refl) in
    let ys = put xs (at + length ws) (slice_range xs (at + k) (length b)) in
    ap (λ (j : ℕ). put (put xs (at + length ws) (slice_range xs (at + k) j)) at ws) is
    ∙ (sym (take_all n (put ys at ws) (omega (arith, length-put ys ws at, length-put xs (slice_range xs (at + k) (length b)) (at + length ws)))) ∙ overlaid xs b ws at k n (omega arith) front range (omega arith) (omega arith))

-- it is made shorter afterwards
pub replaced_shorter : (b ws : List ℕ) (at k size n : ℕ) → size ≡ length b → at + k ≤ length b → n ≡ size - k + length ws → n ≤ size
    → resized (put (put b (at + length ws) (slice_range b (at + k) size)) at ws) n ≡ list.splice b at (at + k) ws
replaced_shorter b ws at k size n is range count shorter =
    let ys = put b (at + length ws) (slice_range b (at + k) (length b)) in let zs = put ys at ws in
    let long : length zs ≡ length b = length-put ys ws at ∙ length-put b (slice_range b (at + k) (length b)) (at + length ws) in
    let none : n - length zs ≡ 0 = omega arith in
    ap (λ (j : ℕ). resized (put (put b (at + length ws) (slice_range b (at + k) j)) at ws) n) is
    ∙ (ap (λ (j : ℕ). take n zs ++ replicate j 0) none ∙ (append-nil (take n zs) ∙ overlaid b b ws at k n (omega arith) (sym (take_all (length b) b (omega arith))) range (omega arith) (omega arith)))

-- it keeps its size
pub replaced_same : (b ws : List ℕ) (at k : ℕ) → k ≡ length ws → at + length ws ≤ length b → put b at ws ≡ list.splice b at (at + k) ws
replaced_same b ws at k same range = put_is b ws at range ∙ ap (λ (j : ℕ). list.splice b at (at + j) ws) (sym same)

-- ---- another size

pub resized_empty : (b : List ℕ) (n : ℕ) → length b ≡ 0 → resized b n ≡ replicate n 0
resized_empty b n none =
    let all : n - length b ≡ n = omega arith in
    ap (λ (k : ℕ). take n b ++ replicate k 0) all ∙ ap (λ (l : List ℕ). l ++ replicate n 0) (no_bytes (take n b) (omega (arith, length-take n b)))
  where
    no_bytes : (l : List ℕ) → length l ≡ 0 → l ≡ []
    no_bytes [] e = refl
    no_bytes (x ∷ l) e = absurd (omega arith)
