-- The chunks of a region, by its pieces, also where some of these are replaced by others of the same space.
use Rattle.std.proofs.Common.{◌≡◌, ℕ, ◌+◌, ◌<◌, ◌≤◌, List, [], ◌∷◌, ◌++◌, length, ◌==◌, if◌then◌else◌, Option, Some, None, is_some, true, false, not, get_or, slice_range, refl, sym, ap, subst, ◌∙◌, inl, inr, arith, ◌≢◌, ◌*◌, ◌⊎◌, set, get_or-set_other}
use Rattle.std.proofs.lemmas.Bool.{cases_eq, cond-true, cond-false, ne_eqb, eq-eqb}
use Rattle.std.proofs.lemmas.List.Edits.{length-between, get_or-between}
use Rattle.std.proofs.lemmas.List.FromFn.{fill_by_all, length-map-range_with_len, get_or-map-range_with_len}
use Rattle.std.proofs.lemmas.Grind.{same_number_lists, get_or-set_at}
use Rattle.lmem_heap.specs.Pieces.{word_in, entry, piece_space, Piece, Used, Free, size_head, Lies, Points, IsFresh, ArePiecesDistinct, used, spaces, place_of, AllShaped, free_count}
use Rattle.lmem_heap.specs.Tiled.{IsTiled, chunk_under, chunks_in, chunk_from}
use Rattle.lmem_heap.proofs.PieceLemmas.{lies_end, lies_split, points_split, distinct_at, spaces_append, lies_append, points_append, shaped_append, shaped_split, fresh_append, fresh_split, distinct_behind, lies_kept, points_kept}
use Rattle.lmem_heap.proofs.ThreadingLemmas.{slot_in}
use Rattle.lmem_heap.specs.Edits.{Same}
use Rattle.lmem_heap.specs.Space.{IsSpareAt, AreSpare, IsChain, IsOther}
use Rattle.lmem_heap.proofs.EditLemmas.{word_kept}
use Rattle.std.proofs.lemmas.List.{length-set}

-- ---- the chunks of a region, by its pieces

-- ---- the list of chunks

pub length-chunks_in : (xs : List ℕ) (t : ℕ) → length (chunks_in xs t) ≡ t
unfolding chunks_in
length-chunks_in xs t = length-map-range_with_len (λ i. chunk_under xs (entry xs i)) 0 t

pub chunk_in : (xs : List ℕ) (t i : ℕ) → i < t → get_or (chunks_in xs t) i None ≡ chunk_under xs (entry xs i)
unfolding chunks_in
chunk_in xs t i l = get_or-map-range_with_len (λ k. chunk_under xs (entry xs k)) 0 t i i None l (omega arith)

pub chunks_by : (xs : List ℕ) (t : ℕ) (cs : List (Option (List ℕ))) → length cs ≡ t → ((k : ℕ) → k < t → get_or cs k None ≡ chunk_under xs (entry xs k)) → chunks_in xs t ≡ cs
unfolding chunks_in
chunks_by xs t cs count each = sym (fill_by_all (λ i. chunk_under xs (entry xs i)) cs t None count each)

-- ---- by entry

pub under_piece : (xs : List ℕ) (e : ℕ) → 1 < e → chunk_under xs e ≡ Some (slice_range xs (e + 2) (e + 2 + word_in xs e))
unfolding chunk_under
under_piece xs e live = cond-false (e == 0) _ _ (ne_eqb e 0 (omega arith)) ∙ cond-false (e == 1) _ _ (ne_eqb e 1 (omega arith))

pub under_dead : (xs : List ℕ) (e : ℕ) → e ≤ 1 → chunk_under xs e ≡ (if e == 0 then None else Some [])
unfolding chunk_under
under_dead xs e dead = elim (cases_eq e 0) [
  | inl none ↦ cond-true (e == 0) _ _ (eq-eqb e 0 none) ∙ sym (cond-true (e == 0) _ _ (eq-eqb e 0 none))
  | inr some ↦ ap (λ (o : Option (List ℕ)). if e == 0 then None else o) (cond-true (e == 1) (Some []) (Some (slice_range xs (e + 2) (e + 2 + word_in xs e))) (eq-eqb e 1 (omega arith)))
]

-- there is a chunk where the entry isn't 0
pub under_some : (xs : List ℕ) (e : ℕ) → is_some (chunk_under xs e) ≡ not (e == 0)
unfolding chunk_under
under_some xs e = elim (e == 0) as (λ v. is_some (if v then None else (if e == 1 then Some [] else Some (slice_range xs (e + 2) (e + 2 + word_in xs e)))) ≡ not v) [
  | true ↦ refl
  | false ↦ elim (e == 1) as (λ v. is_some (if v then Some [] else Some (slice_range xs (e + 2) (e + 2 + word_in xs e))) ≡ true) [ true ↦ refl | false ↦ refl ]
]

-- ---- by pieces

pub at_fresh : (i e : ℕ) (cs : List Piece) → IsFresh i cs → chunk_from i e cs ≡ (if e == 0 then None else Some [])
at_fresh i e [] fresh = refl
at_fresh i e (Used j b ∷ cs) fresh = cond-false (i == j) (Some b) (chunk_from i e cs) (ne_eqb i j fresh.0) ∙ at_fresh i e cs fresh.1
at_fresh i e (Free s ∷ cs) fresh = at_fresh i e cs fresh

pub at_slot : (i e : ℕ) (b : List ℕ) (cs ds : List Piece) → IsFresh i cs → chunk_from i e (cs ++ (Used i b ∷ ds)) ≡ Some b
at_slot i e b [] ds fresh = cond-true (i == i) (Some b) (chunk_from i e ds) (eq-eqb i i refl)
at_slot i e b (Used j d ∷ cs) ds fresh = cond-false (i == j) (Some d) (chunk_from i e (cs ++ (Used i b ∷ ds))) (ne_eqb i j fresh.0) ∙ at_slot i e b cs ds fresh.1
at_slot i e b (Free s ∷ cs) ds fresh = at_slot i e b cs ds fresh

pub at_used : (i e : ℕ) (cs : List Piece) → chunk_from i e (used cs) ≡ chunk_from i e cs
at_used i e [] = refl
at_used i e (Used j b ∷ cs) = ap (λ (o : Option (List ℕ)). if i == j then Some b else o) (at_used i e cs)
at_used i e (Free s ∷ cs) = at_used i e cs

module _ (xs : List ℕ) (t low : ℕ) (cs : List Piece) (tiled : IsTiled xs t low cs) (i : ℕ) where
  -- what is known of the piece of a slot
  module _ (a : List Piece) (b : List ℕ) (d : List Piece) (is : a ++ (Used i b ∷ d) ≡ cs) where
    parts : Lies size_head xs low a (low + spaces a) × Lies size_head xs (low + spaces a) (Used i b ∷ d) 65520
    parts = lies_split size_head xs low a (Used i b ∷ d) 65520 (subst (λ (ds : List Piece). Lies size_head xs low ds 65520) (sym is) tiled.lies)

    pub piece_place : entry xs i ≡ low + spaces a
    piece_place = (points_split place_of xs low a (Used i b ∷ d) (low + spaces a) refl (subst (λ (ds : List Piece). Points place_of xs low ds) (sym is) tiled.points)).1.0

    pub piece_size : word_in xs (entry xs i) ≡ length b
    piece_size = ap (λ (k : ℕ). word_in xs k) piece_place ∙ parts.1.0.head

    pub piece_ends : entry xs i + piece_space (length b) ≤ 65520
    piece_ends = let e = lies_end size_head xs (low + spaces a + piece_space (length b)) d 65520 parts.1.1 in omega (arith, piece_place)

    pub piece_bytes : slice_range xs (entry xs i + 2) (entry xs i + 2 + length b) ≡ b
    piece_bytes =
        let p = entry xs i in let q = p + 2 + length b in let at = piece_place in let ends = piece_ends in let long = tiled.long in let count = length-between xs (p + 2) q (omega arith) in
        same_number_lists (slice_range xs (p + 2) q) b (omega arith)
        (λ k h. get_or-between xs (p + 2) q k 0 (omega arith) ∙ (ap (λ (m : ℕ). get_or xs (m + 2 + k) 0) at ∙ parts.1.0.bytes k (omega arith)))

    pub piece_chunk : chunk_under xs (entry xs i) ≡ Some b
    piece_chunk =
        let p = entry xs i in
        under_piece xs p (omega (arith, piece_place, tiled.table)) ∙ (ap (λ (n : ℕ). Some (slice_range xs (p + 2) (p + 2 + n))) piece_size ∙ ap Some piece_bytes)

    pub piece_others : IsFresh i a × IsFresh i d
    piece_others = distinct_at a i b d (subst ArePiecesDistinct (sym is) tiled.distinct)

  pub tiled_chunk : i < t → chunk_under xs (entry xs i) ≡ chunk_from i (entry xs i) cs
  tiled_chunk l = elim (slot_in i cs) [
    | inl h ↦
        piece_chunk h.before h.bytes h.after h.is ∙ (sym (at_slot i (entry xs i) h.bytes h.before h.after (piece_others h.before h.bytes h.after h.is).0) ∙ ap (chunk_from i (entry xs i)) h.is)
    | inr fresh ↦ under_dead xs (entry xs i) (tiled.covered i l fresh) ∙ sym (at_fresh i (entry xs i) cs fresh)
  ]

-- two tilings of the same chunks
pub same_chunks : (xs ys : List ℕ) (t low high : ℕ) (cs ds : List Piece) → IsTiled xs t low cs → IsTiled ys t high ds → ((i : ℕ) → i < t → chunk_from i (entry ys i) ds ≡ chunk_from i (entry xs i) cs) → chunks_in ys t ≡ chunks_in xs t
same_chunks xs ys t low high cs ds tiled tiled_y same = chunks_by ys t (chunks_in xs t) (length-chunks_in xs t)
    (λ k l. chunk_in xs t k l ∙ (tiled_chunk xs t low cs tiled k l ∙ (sym (same k l) ∙ sym (tiled_chunk ys t high ds tiled_y k l))))

-- ---- some pieces in a row are replaced by others of the same space

-- ---- slots

pub shaped_fresh : (t : ℕ) (cs : List Piece) (i : ℕ) → t ≤ i → AllShaped (16 + 2 * t) cs → IsFresh i cs
shaped_fresh t [] i past h = tt
shaped_fresh t (Used j b ∷ cs) i past h = ((λ e. omega (arith, h.0.1)), shaped_fresh t cs i past h.1)
shaped_fresh t (Free s ∷ cs) i past h = shaped_fresh t cs i past h.1

-- pieces of slot i alone, before others
distinct_new : (i : ℕ) (cs ds : List Piece) → ((j : ℕ) → j ≢ i → IsFresh j cs) → IsFresh i ds → ArePiecesDistinct cs → ArePiecesDistinct ds → ArePiecesDistinct (cs ++ ds)
distinct_new i [] ds only fresh h r = r
distinct_new i (Used j b ∷ cs) ds only fresh h r =
    let one : j ≡ i = elim (cases_eq j i) [ inl same ↦ same | inr ne ↦ absurd ((only j ne).0 refl) ] in
    (fresh_append j cs ds h.0 (subst (λ (k : ℕ). IsFresh k ds) (sym one) fresh), distinct_new i cs ds (λ k ne. (only k ne).1) fresh h.1 r)
distinct_new i (Free s ∷ cs) ds only fresh h r = distinct_new i cs ds only fresh h r

pub distinct_edit : (i : ℕ) (a old new d : List Piece) → ((j : ℕ) → j ≢ i → IsFresh j new) → IsFresh i a → IsFresh i d → ArePiecesDistinct new → ArePiecesDistinct (a ++ (old ++ d)) → ArePiecesDistinct (a ++ (new ++ d))
distinct_edit i [] old new d only front back h l = distinct_new i new d only back h (distinct_behind old d l)
distinct_edit i (Used j b ∷ a) old new d only front back h l =
    let f = fresh_split j a (old ++ d) l.0 in let g = fresh_split j old d f.1 in
    (fresh_append j a (new ++ d) f.0 (fresh_append j new d (only j (λ e. front.0 (sym e))) g.1), distinct_edit i a old new d only front.1 back h l.1)
distinct_edit i (Free s ∷ a) old new d only front back h l = distinct_edit i a old new d only front back h l

-- ---- chunks

at_skip : (j e : ℕ) (cs ds : List Piece) → IsFresh j cs → chunk_from j e (cs ++ ds) ≡ chunk_from j e ds
at_skip j e [] ds fresh = refl
at_skip j e (Used k b ∷ cs) ds fresh = cond-false (j == k) (Some b) (chunk_from j e (cs ++ ds)) (ne_eqb j k fresh.0) ∙ at_skip j e cs ds fresh.1
at_skip j e (Free s ∷ cs) ds fresh = at_skip j e cs ds fresh

pub at_after : (j e : ℕ) (a ds es : List Piece) → chunk_from j e ds ≡ chunk_from j e es → chunk_from j e (a ++ ds) ≡ chunk_from j e (a ++ es)
at_after j e [] ds es same = same
at_after j e (Used k b ∷ a) ds es same = ap (λ (o : Option (List ℕ)). if j == k then Some b else o) (at_after j e a ds es same)
at_after j e (Free s ∷ a) ds es same = at_after j e a ds es same

-- ---- the edit

-- from p on, `old` becomes `new`; of the entries only slot i's changes
pub record IsEdit (xs ys : List ℕ) (t i low p : ℕ) (old new : List Piece) : Type 0 where
  pub long : length ys ≡ 65520
  pub others : (j : ℕ) → j < t → j ≢ i → entry ys j ≡ entry xs j
  pub before : Same xs ys low p
  pub behind : Same xs ys (p + spaces old) 65520
  pub lies : Lies size_head ys p new (p + spaces old)
  pub points : Points place_of ys p new
  pub shaped : AllShaped (16 + 2 * t) new
  pub distinct : ArePiecesDistinct new
  pub only_new : (j : ℕ) → j ≢ i → IsFresh j new
  pub only_old : (j : ℕ) → j ≢ i → IsFresh j old
  pub covered : i < t → IsFresh i new → entry ys i ≤ 1

module _ (xs ys : List ℕ) (t i low p : ℕ) (a old new d : List Piece) (tiled : IsTiled xs t low (a ++ (old ++ d))) (at : p ≡ low + spaces a) (e : IsEdit xs ys t i low p old new) (front : IsFresh i a) (back : IsFresh i d) where
  lies_parts : Lies size_head xs low a p × Lies size_head xs p old (p + spaces old) × Lies size_head xs (p + spaces old) d 65520
  lies_parts =
      let h = lies_split size_head xs low a (old ++ d) 65520 tiled.lies in
      let g = lies_split size_head xs p old d 65520 (subst (λ (k : ℕ). Lies size_head xs k (old ++ d) 65520) (sym at) h.1) in
      (subst (λ (k : ℕ). Lies size_head xs low a k) (sym at) h.0, g.0, g.1)

  points_parts : Points place_of xs low a × Points place_of xs (p + spaces old) d
  points_parts =
      let h = points_split place_of xs low a (old ++ d) p at tiled.points in let g = points_split place_of xs p old d (p + spaces old) refl h.1 in (h.0, g.1)

  shaped_parts : AllShaped (16 + 2 * t) a × AllShaped (16 + 2 * t) old × AllShaped (16 + 2 * t) d
  shaped_parts = let h = shaped_split (16 + 2 * t) a (old ++ d) tiled.shaped in let g = shaped_split (16 + 2 * t) old d h.1 in (h.0, g.0, g.1)

  other_entries : (j : ℕ) → j ≢ i → 18 + 2 * j ≤ 16 + 2 * t → entry ys j ≡ entry xs j
  other_entries j ne in_table = e.others j (omega arith) ne

  pub edit_room : spaces new ≡ spaces old
  edit_room = omega (arith, lies_end size_head ys p new (p + spaces old) e.lies)

  pub edited : IsTiled ys t low (a ++ (new ++ d))
  edited =
      let q = p + spaces old in let L = lies_parts in let P = points_parts in let S = shaped_parts in let room = edit_room in
      let lies_a : Lies size_head ys low a p = lies_kept size_head xs ys (16 + 2 * t) low p e.before low a p S.0 L.0 (omega arith) (omega arith) in
      let lies_d : Lies size_head ys q d 65520 = lies_kept size_head xs ys (16 + 2 * t) q 65520 e.behind q d 65520 S.2 L.2 (omega arith) (omega arith) in
      let points_a = points_kept place_of xs ys (16 + 2 * t) i other_entries low a S.0 front P.0 in
      let points_d = points_kept place_of xs ys (16 + 2 * t) i other_entries q d S.2 back P.1 in
      record {
        long = e.long;
        table = tiled.table;
        lies = lies_append size_head ys low a p (new ++ d) 65520 lies_a (lies_append size_head ys p new q d 65520 e.lies lies_d);
        points = points_append place_of ys low a (new ++ d) p at points_a (points_append place_of ys p new d q (omega arith) e.points points_d);
        shaped = shaped_append (16 + 2 * t) a (new ++ d) S.0 (shaped_append (16 + 2 * t) new d e.shaped S.2);
        distinct = distinct_edit i a old new d e.only_new front back e.distinct tiled.distinct;
        covered = λ j l fresh.
            let f = fresh_split j a (new ++ d) fresh in let g = fresh_split j new d f.1 in
            elim (cases_eq j i) [
              | inl same ↦ subst (λ (k : ℕ). entry ys k ≤ 1) (sym same) (e.covered (omega arith) (subst (λ (k : ℕ). IsFresh k new) same g.0))
              | inr ne ↦ omega (arith, e.others j l ne, tiled.covered j l (fresh_append j a (old ++ d) f.0 (fresh_append j old d (e.only_old j ne) g.1)))
            ];
      }

  -- the chunks of other slots
  pub edited_other : (j : ℕ) → j < t → j ≢ i → chunk_under ys (entry ys j) ≡ chunk_under xs (entry xs j)
  edited_other j l ne =
      let k = entry xs j in
      tiled_chunk ys t low (a ++ (new ++ d)) edited j l
      ∙ (ap (λ (m : ℕ). chunk_from j m (a ++ (new ++ d))) (e.others j l ne)
      ∙ (at_after j k a (new ++ d) (old ++ d) (at_skip j k new d (e.only_new j ne) ∙ sym (at_skip j k old d (e.only_old j ne)))
      ∙ sym (tiled_chunk xs t low (a ++ (old ++ d)) tiled j l)))

  -- no chunk changes, and no entry
  pub edited_unmoved : t ≤ i → chunks_in ys t ≡ chunks_in xs t
  edited_unmoved none = chunks_by ys t (chunks_in xs t) (length-chunks_in xs t) (λ k l. chunk_in xs t k l ∙ sym (edited_other k l (λ same. omega arith)))

  -- the chunk of slot i changes
  pub edited_set : i < t → chunks_in ys t ≡ set (chunks_in xs t) i (chunk_under ys (entry ys i))
  edited_set within =
      let cs = chunks_in xs t in let c = chunk_under ys (entry ys i) in let count = length-chunks_in xs t in
      chunks_by ys t (set cs i c) (omega (arith, length-set cs i c)) (λ k l. elim (cases_eq k i) [
        | inl here ↦ get_or-set_at cs i k c None here (omega arith) ∙ ap (λ (j : ℕ). chunk_under ys (entry ys j)) (sym here)
        | inr other ↦ rw get_or-set_other (chunk_in xs t k l ∙ sym (edited_other k l other))
      ])

-- ---- free pieces

pub spare_bounds : (limit p : ℕ) (cs : List Piece) (f : ℕ) → AllShaped limit cs → IsSpareAt p cs f → (p ≤ f) × (f + 4 ≤ p + spaces cs)
spare_bounds limit p [] f shaped h = absurd h
spare_bounds limit p (Used i b ∷ cs) f shaped h = let r = spare_bounds limit (p + piece_space (length b)) cs f shaped.1 h in (omega (arith, r.0), omega (arith, r.1))
spare_bounds limit p (Free s ∷ cs) f shaped (inl here) = (omega arith, omega (arith, shaped.0))
spare_bounds limit p (Free s ∷ cs) f shaped (inr there) = let r = spare_bounds limit (p + s) cs f shaped.1 there in (omega (arith, r.0), omega (arith, r.1))

pub spare_parts : (p : ℕ) (cs ds : List Piece) (f : ℕ) → IsSpareAt p (cs ++ ds) f → IsSpareAt p cs f ⊎ IsSpareAt (p + spaces cs) ds f
spare_parts p [] ds f h = let e : p ≡ p + 0 = omega arith in inr (subst (λ (k : ℕ). IsSpareAt k ds f) e h)
spare_parts p (Used i b ∷ cs) ds f h = elim (spare_parts (p + piece_space (length b)) cs ds f h) [
  | inl l ↦ inl l
  | inr r ↦ let e : p + piece_space (length b) + spaces cs ≡ p + (piece_space (length b) + spaces cs) = omega arith in inr (subst (λ (k : ℕ). IsSpareAt k ds f) e r)
]
spare_parts p (Free s ∷ cs) ds f (inl here) = inl (inl here)
spare_parts p (Free s ∷ cs) ds f (inr there) = elim (spare_parts (p + s) cs ds f there) [
  | inl l ↦ inl (inr l)
  | inr r ↦ let e : p + s + spaces cs ≡ p + (s + spaces cs) = omega arith in inr (subst (λ (k : ℕ). IsSpareAt k ds f) e r)
]

pub spare_left : (p : ℕ) (cs ds : List Piece) (f : ℕ) → IsSpareAt p cs f → IsSpareAt p (cs ++ ds) f
spare_left p [] ds f h = absurd h
spare_left p (Used i b ∷ cs) ds f h = spare_left (p + piece_space (length b)) cs ds f h
spare_left p (Free s ∷ cs) ds f (inl here) = inl here
spare_left p (Free s ∷ cs) ds f (inr there) = inr (spare_left (p + s) cs ds f there)

pub spare_right : (p : ℕ) (cs ds : List Piece) (f m : ℕ) → m ≡ p + spaces cs → IsSpareAt m ds f → IsSpareAt p (cs ++ ds) f
spare_right p [] ds f m is h = let e : m ≡ p = omega arith in subst (λ (k : ℕ). IsSpareAt k ds f) e h
spare_right p (Used i b ∷ cs) ds f m is h = spare_right (p + piece_space (length b)) cs ds f m (omega arith) h
spare_right p (Free s ∷ cs) ds f m is h = inr (spare_right (p + s) cs ds f m (omega arith) h)

-- each of the list
abbrev pub Each : (ℕ → Type 0) → List ℕ → Type 0
Each P [] = Unit {0}
Each P (f ∷ fs) = P f × Each P fs

pub each_all : (P : ℕ → Type 0) → ((f : ℕ) → P f) → (fs : List ℕ) → Each P fs
each_all P h [] = tt
each_all P h (f ∷ fs) = (h f, each_all P h fs)

pub each_other : (P : ℕ → Type 0) (p : ℕ) → ((f : ℕ) → p ≢ f → P f) → (fs : List ℕ) → IsOther p fs → Each P fs
each_other P p h [] other = tt
each_other P p h (f ∷ fs) other = (h f other.0, each_other P p h fs other.1)

-- a free piece among those that are replaced stays one, with its link
abbrev pub IsLinkKept : List ℕ → List ℕ → ℕ → List Piece → List Piece → ℕ → Type 0
IsLinkKept xs ys p old new f = IsSpareAt p old f → IsSpareAt p new f × (word_in ys (f + 2) ≡ word_in xs (f + 2))

module _ (xs ys : List ℕ) (t i low p : ℕ) (a old new d : List Piece) (tiled : IsTiled xs t low (a ++ (old ++ d))) (at : p ≡ low + spaces a) (e : IsEdit xs ys t i low p old new) (front : IsFresh i a) (back : IsFresh i d) where
  pub spare_edited : (f : ℕ) → IsLinkKept xs ys p old new f → IsSpareAt low (a ++ (old ++ d)) f → IsSpareAt low (a ++ (new ++ d)) f × (word_in ys (f + 2) ≡ word_in xs (f + 2))
  spare_edited f link h =
      let S = shaped_split (16 + 2 * t) a (old ++ d) tiled.shaped in let R = shaped_split (16 + 2 * t) old d S.1 in
      let room = edit_room xs ys t i low p a old new d tiled at e front back in
      let all = lies_end size_head xs low (a ++ (old ++ d)) 65520 tiled.lies in let sum = spaces_append a (old ++ d) in let sum_d = spaces_append old d in
      elim (spare_parts low a (old ++ d) f h) [
        | inl l ↦ let b = spare_bounds (16 + 2 * t) low a f S.0 l in (spare_left low a (new ++ d) f l, word_kept xs ys low p (f + 2) e.before (omega arith) (omega arith))
        | inr r ↦ elim (spare_parts p old d f (subst (λ (k : ℕ). IsSpareAt k (old ++ d) f) (sym at) r)) [
          | inl l ↦ let g = link l in (spare_right low a (new ++ d) f p at (spare_left p new d f g.0), g.1)
          | inr m ↦
              let b = spare_bounds (16 + 2 * t) (p + spaces old) d f R.1 m in
              (spare_right low a (new ++ d) f p at (spare_right p new d f (p + spaces old) (omega arith) m), word_kept xs ys (p + spaces old) 65520 (f + 2) e.behind (omega arith) (omega arith))
        ]
      ]

  pub spares_edited : (fs : List ℕ) → Each (IsLinkKept xs ys p old new) fs → AreSpare low (a ++ (old ++ d)) fs → AreSpare low (a ++ (new ++ d)) fs
  spares_edited [] links h = tt
  spares_edited (f ∷ fs) links h = ((spare_edited f links.0 h.0).0, spares_edited fs links.1 h.1)

  pub chain_edited : (h : ℕ) (fs : List ℕ) → Each (IsLinkKept xs ys p old new) fs → AreSpare low (a ++ (old ++ d)) fs → IsChain xs h fs → IsChain ys h fs
  chain_edited h [] links s c = c
  chain_edited h (f ∷ fs) links s c =
      let same = (spare_edited f links.0 s.0).1 in
      (c.0, chain_edited (word_in ys (f + 2)) fs links.1 s.1 (subst (λ (k : ℕ). IsChain xs k fs) (sym same) c.1))

-- ---- what the chunks take

pub used_append : (cs ds : List Piece) → spaces (used (cs ++ ds)) ≡ spaces (used cs) + spaces (used ds)
used_append [] ds = omega arith
used_append (Used i b ∷ cs) ds = omega (arith, used_append cs ds)
used_append (Free s ∷ cs) ds = used_append cs ds

pub frees_append : (cs ds : List Piece) → free_count (cs ++ ds) ≡ free_count cs + free_count ds
frees_append [] ds = omega arith
frees_append (Used i b ∷ cs) ds = frees_append cs ds
frees_append (Free s ∷ cs) ds = omega (arith, frees_append cs ds)

-- how many pieces are free
pub frees_edited : (a old new d : List Piece) → free_count (a ++ (new ++ d)) + free_count old ≡ free_count (a ++ (old ++ d)) + free_count new
frees_edited a old new d = omega (arith, frees_append a (new ++ d), frees_append new d, frees_append a (old ++ d), frees_append old d)

pub count_edited : (a old new d : List Piece) → spaces (used (a ++ (new ++ d))) + spaces (used old) ≡ spaces (used (a ++ (old ++ d))) + spaces (used new)
count_edited a old new d = omega (arith, used_append a (new ++ d), used_append new d, used_append a (old ++ d), used_append old d)
