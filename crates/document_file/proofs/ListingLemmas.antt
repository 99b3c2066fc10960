-- Tables of places as listings.
use Rattle.std.proofs.Common.{◌≡◌, ℕ, zero, suc, ◌+◌, ◌-◌, ◌<◌, ◌≤◌, ◌≢◌, ◌==◌, ◌&&◌, Bool, true, false, cond, nat_lt, List, [], ◌∷◌, ◌++◌, All, map, find, take, drop, set, length, get_or, Option, None, Some, Result, Ok, Err, IsErr, Vec, Global, vec_capacity, is_some, refl, sym, ap, ◌∙◌, arith, add_assoc, drop-cons, length-set, inl, inr}
use Rattle.std.specs.Option.{option_map}
use Rattle.std.specs.FinMap.{get, keys}
use Rattle.std.proofs.Math.Bool.{and-false}
use Rattle.std.proofs.lemmas.Bool.{lt-ltb, le-ltb, eq-eqb, ne_eqb, cases_lt}
use Rattle.std.proofs.lemmas.List.{take_more, drop_more, length-take-le, length-append, length-map, append-nil, map-append, drop_all, get_or-set_other}
use Rattle.geos_model.specs.Document.{Block, next_handle, most_blocks}
use Rattle.geos_model.specs.Reply.{found}
use Rattle.file_format.specs.declared.file.Extent.{Extent}
use Rattle.geos_model.specs.declared.handle.VmHandle.{VmHandle}
use Rattle.geos_model.proofs.Table.{table_entries, first_gap}
use Rattle.geos_model.proofs.Tables.{slot_at, slot_at_past, keys-table_map, next_handle-table, first_gap_none, entries-table_map}
use Rattle.document_file.specs.Calls.{IsPut}
use Rattle.document_file.specs.Documents.{block_in, blocks_in}
use Rattle.document_file.specs.Listing.{AreBounds, IsListed, IsWidened, found_in}
use Rattle.document_file.specs.Writing.{placed_at, with_places, without_place, without_places}
use Rattle.document_file.specs.declared.listing.Bounds.{Bounds}
use Rattle.document_file.specs.declared.member.Member.{Member}
use Rattle.document_file.specs.declared.table.Place.{Place}
use Rattle.document_file.proofs.TableChangeLemmas.{full_with, full_without, length-with_places, length-without_places}
use Rattle.document_file.proofs.TableLemmas.{shown, full_set, get_at, handle_within}

-- The places that have blocks, and the document's.

entries_here : (file : List ℕ) (h : ℕ) (places : List (Option Place)) → map (λ e. e.0) (table_entries 1 h (blocks_in file places)) ≡ map (λ e. e.0) (table_entries 1 h places)
entries_here file h [] = refl
entries_here file h (None ∷ places) = entries_here file (h + 1) places
entries_here file h (Some place ∷ places) = ap (λ (t : List ℕ). h ∷ t) (entries_here file (h + 1) places)

-- nothing from the end on is listed
pub entries_past : (n h : ℕ) (places : List (Option Place)) → ((k : ℕ) → n ≤ k → is_some (slot_at places k) ≡ false) → table_entries 1 h (take n places) ≡ table_entries 1 h places
entries_past zero h [] past = refl
entries_past zero h (None ∷ places) past = entries_past zero (h + 1) places (λ k low. past (suc k) (omega arith))
entries_past zero h (Some place ∷ places) past = absurd (cc (past 0 (omega arith)))
entries_past (suc n) h [] past = refl
entries_past (suc n) h (None ∷ places) past = entries_past n (h + 1) places (λ k low. past (suc k) (omega arith))
entries_past (suc n) h (Some place ∷ places) past = ap (λ (t : List (ℕ × Place)). (h, place) ∷ t) (entries_past n (h + 1) places (λ k low. past (suc k) (omega arith)))

pub keys_shown : (file : List ℕ) (places : List (Option Place)) (map_block : ℕ) → keys (shown file places map_block).blocks ≡ map (λ e. e.0) (table_entries 1 1 places)
keys_shown file places map_block = keys-table_map (let up : 0 < 1 = omega arith in up) 1 (blocks_in file places) ∙ entries_here file 1 places

pub found_here : (file : List ℕ) (uid start h : ℕ) (places : List (Option Place)) → option_map (λ e. e.0) (find (λ e. nat_lt start e.0 && (e.1.attributes.user_id == uid)) (table_entries 1 h (blocks_in file places)))
    ≡ option_map (λ e. e.0) (find (λ e. nat_lt start e.0 && (e.1.attributes.user_id == uid)) (table_entries 1 h places))
found_here file uid start h [] = refl
found_here file uid start h (None ∷ places) = found_here file uid start (h + 1) places
found_here file uid start h (Some place ∷ places) =
    let more : List (ℕ × Block) = table_entries 1 (h + 1) (blocks_in file places) in
    let rest : List (ℕ × Place) = table_entries 1 (h + 1) places in
    elim (nat_lt start h && (place.attributes.user_id == uid)) as (λ b. option_map (λ (e : ℕ × Block). e.0) (cond b (Some (h, block_in file place)) (find (λ e. nat_lt start e.0 && (e.1.attributes.user_id == uid)) more)) ≡ option_map (λ (e : ℕ × Place). e.0) (cond b (Some (h, place)) (find (λ e. nat_lt start e.0 && (e.1.attributes.user_id == uid)) rest))) [
      | true ↦ refl
      | false ↦ found_here file uid start (h + 1) places
    ]

pub found_shown : (file : List ℕ) (places : List (Option Place)) (map_block uid start : ℕ) → found (shown file places map_block) uid start ≡ found_in places uid start
found_shown file places map_block uid start =
    ap (λ (es : List (ℕ × Block)). option_map (λ e. e.0) (find (λ e. nat_lt start e.0 && (e.1.attributes.user_id == uid)) es)) (entries-table_map (let up : 0 < 1 = omega arith in up) 1 (blocks_in file places))
    ∙ found_here file uid start 1 places

pub first_gap-blocks : (file : List ℕ) (places : List (Option Place)) → first_gap (blocks_in file places) ≡ first_gap places
first_gap-blocks file [] = refl
first_gap-blocks file (None ∷ places) = refl
first_gap-blocks file (Some place ∷ places) = ap suc (first_gap-blocks file places)

pub first_gap-bound : {X : Type 0} (t : List (Option X)) → first_gap t ≤ length t
first_gap-bound [] = omega arith
first_gap-bound (None ∷ t) = omega arith
first_gap-bound (Some x ∷ t) = omega (arith, first_gap-bound t)

-- the least free handle, by the first gap
pub next_some : (file : List ℕ) (places : List (Option Place)) (map_block gap : ℕ) → gap ≡ first_gap places → gap < most_blocks → next_handle (shown file places map_block) ≡ Some (gap + 1)
next_some file places map_block gap e l =
    next_handle-table (blocks_in file places) map_block
    ∙ ap (λ (n : ℕ). cond (nat_lt n most_blocks) (Some (1 + n)) None) (first_gap-blocks file places ∙ sym e)
    ∙ ap (λ (b : Bool). cond b (Some (1 + gap)) None) (lt-ltb gap most_blocks l)
    ∙ ap (λ (n : ℕ). Some n) (let c : 1 + gap ≡ gap + 1 = omega arith in c)

pub next_none : (file : List ℕ) (places : List (Option Place)) (map_block gap : ℕ) → gap ≡ first_gap places → most_blocks ≤ gap → next_handle (shown file places map_block) ≡ None
next_none file places map_block gap e l =
    next_handle-table (blocks_in file places) map_block
    ∙ ap (λ (n : ℕ). cond (nat_lt n most_blocks) (Some (1 + n)) None) (first_gap-blocks file places ∙ sym e)
    ∙ ap (λ (b : Bool). cond b (Some (1 + gap)) None) (le-ltb gap most_blocks l)

pub next_free : (file : List ℕ) (places : List (Option Place)) (map_block gap : ℕ) → gap ≡ first_gap places → get (shown file places map_block).blocks (gap + 1) ≡ None
next_free file places map_block gap e =
    get_at file places map_block (gap + 1) (omega arith)
    ∙ ap (λ (k : ℕ). option_map (block_in file) (slot_at places k)) (let c : gap + 1 - 1 ≡ gap = omega arith in c ∙ e)
    ∙ ap (option_map (block_in file)) (first_gap_none places)

-- Bounds, as the table changes.

empty_set : (places : List (Option Place)) (i k : ℕ) (o : Option Place) → i < k → is_some (slot_at places k) ≡ false → is_some (slot_at (set places i o) k) ≡ false
empty_set places i k o low none = ap is_some (get_or-set_other places i k o None (omega arith)) ∙ none

pub empty_with : (version : ℕ) (puts : List Member) (extents : List Extent) (places : List (Option Place)) (k : ℕ) → All (λ p. p.handle.0 - 1 < k) puts → is_some (slot_at places k) ≡ false → is_some (slot_at (with_places version puts extents places) k) ≡ false
empty_with version [] extents places k low none = none
empty_with version (p ∷ puts) [] places k low none = none
empty_with version (p ∷ puts) (e ∷ extents) places k low none =
    empty_with version puts extents (set places (p.handle.0 - 1) (Some (placed_at version p e))) k (λ i q inside. low (suc i) q (omega arith)) (empty_set places (p.handle.0 - 1) k (Some (placed_at version p e)) (low 0 p (omega arith)) none)

empty_clear : (places : List (Option Place)) (i k : ℕ) → is_some (slot_at places k) ≡ false → is_some (slot_at (set places i None) k) ≡ false
empty_clear [] i k none = none
empty_clear (o ∷ places) zero zero none = refl
empty_clear (o ∷ places) zero (suc k) none = none
empty_clear (o ∷ places) (suc i) zero none = none
empty_clear (o ∷ places) (suc i) (suc k) none = empty_clear places i k none

empty_without_one : (h : ℕ) (places : List (Option Place)) (k : ℕ) → is_some (slot_at places k) ≡ false → is_some (slot_at (without_place h places) k) ≡ false
empty_without_one zero places k none = none
empty_without_one (suc n) places k none = empty_clear places n k none

pub empty_without : (handles : List VmHandle) (places : List (Option Place)) (k : ℕ) → is_some (slot_at places k) ≡ false → is_some (slot_at (without_places handles places) k) ≡ false
empty_without [] places k none = none
empty_without (h ∷ handles) places k none = empty_without handles (without_place h.0 places) k (empty_without_one h.0 places k none)

-- a table in which blocks were put, and from which others were taken
pub bounds_changed : (version : ℕ) (puts : List Member) (extents : List Extent) (removals : List VmHandle) (places : List (Option Place)) (old new : Bounds) → new.end ≤ length places → All IsPut puts → AreBounds places old → IsWidened puts removals old new
    → AreBounds (without_places removals (with_places version puts extents places)) new
bounds_changed version puts extents removals places old new room are bounds wide =
    let filled = with_places version puts extents places in
    record {
      full = λ k low. full_without removals filled k (λ i d inside same. let past = wide.freed i d inside in absurd (omega (arith, same, past, low)))
          (full_with version puts extents places k (bounds.full k (let g = wide.lower in omega (arith, low, g))));
      past = λ k low. empty_without removals filled k
          (empty_with version puts extents places k (λ i p inside. let h = handle_within (get_or puts i p).handle.0 (are i p inside) in let past = wide.reached i p inside in omega (arith, h.0, past, low))
          (bounds.past k (let e = wide.higher in omega (arith, low, e))));
      within = let long = length-without_places removals filled in let longer = length-with_places version puts extents places in omega (arith, long, longer, room);
    }

-- a block that is there becomes another
pub bounds_set : (places : List (Option Place)) (i : ℕ) (place : Place) (bounds : Bounds) → is_some (slot_at places i) ≡ true → AreBounds places bounds → AreBounds (set places i (Some place)) bounds
bounds_set places i place bounds there are = record {
  full = λ k low. full_set places i k place (are.full k low);
  past = λ k low. elim (cases_lt i k) [
    | inl less ↦ empty_set places i k (Some place) less (are.past k low)
    | inr more ↦ absurd (cc (are.past i (omega (arith, low, more))))
  ];
  within = let long = length-set places i (Some place) in let w = are.within in omega (arith, long, w);
}

pub gap_within : (places : List (Option Place)) (bounds : Bounds) → AreBounds places bounds → bounds.gap ≤ length places
gap_within places bounds are = elim (cases_lt (length places) bounds.gap) [
  | inl less ↦ absurd (cc (sym (ap is_some (slot_at_past places (length places) (omega arith))) ∙ are.full (length places) less))
  | inr more ↦ more
]

-- One place more of a listing.

one_on : (h n : ℕ) → h + 1 + n ≡ h + suc n
one_on h n = omega arith

-- the handles of the places that have blocks, from a handle on
abbrev pub handles_from : ℕ → List (Option Place) → List ℕ
handles_from h places = map (λ e. e.0) (table_entries 1 h places)

handles_from-push : (h : ℕ) (places : List (Option Place)) (o : Option Place) → handles_from h (places ++ o ∷ []) ≡ handles_from h places ++ cond (is_some o) ((h + length places) ∷ []) []
handles_from-push h [] None = refl
handles_from-push h [] (Some b) = let e : h + 0 ≡ h = omega arith in ap (λ (k : ℕ). k ∷ []) (sym e)
handles_from-push h (None ∷ xs) o = handles_from-push (h + 1) xs o ∙ ap (λ (k : ℕ). handles_from (h + 1) xs ++ cond (is_some o) (k ∷ []) []) (one_on h (length xs))
handles_from-push h (Some b ∷ xs) o = ap (λ (t : List ℕ). h ∷ t) (handles_from-push (h + 1) xs o ∙ ap (λ (k : ℕ). handles_from (h + 1) xs ++ cond (is_some o) (k ∷ []) []) (one_on h (length xs)))

handles_from-more : (places : List (Option Place)) (i : ℕ) → i < length places → (o : Option Place) → o ≡ get_or places i None → handles_from 1 (take (i + 1) places) ≡ handles_from 1 (take i places) ++ cond (is_some o) ((1 + i) ∷ []) []
handles_from-more places i l o e =
    ap (handles_from 1) (take_more places i None l) ∙ handles_from-push 1 (take i places) (get_or places i None)
    ∙ ap (λ (n : ℕ). handles_from 1 (take i places) ++ cond (is_some (get_or places i None)) ((1 + n) ∷ []) []) (length-take-le i places (omega arith))
    ∙ ap (λ (s : Option Place). handles_from 1 (take i places) ++ cond (is_some s) ((1 + i) ∷ []) []) (sym e)

pub listed_full : (places : List (Option Place)) (i : ℕ) → i < length places → (o : Option Place) → o ≡ get_or places i None → is_some o ≡ true → (old new : List VmHandle) → new ≡ old ++ record { 0 = i + 1 } ∷ []
    → map (λ h. h.0) old ≡ handles_from 1 (take i places) → map (λ h. h.0) new ≡ handles_from 1 (take (i + 1) places)
listed_full places i l o e full old new pushed before =
    ap (map (λ (h : VmHandle). h.0)) pushed ∙ map-append (λ (h : VmHandle). h.0) old (record { 0 = i + 1 } ∷ [])
    ∙ ap (λ (hs : List ℕ). hs ++ ((i + 1) ∷ [])) before
    ∙ ap (λ (n : ℕ). handles_from 1 (take i places) ++ (n ∷ [])) (let c : i + 1 ≡ 1 + i = omega arith in c)
    ∙ ap (λ (b : Bool). handles_from 1 (take i places) ++ cond b ((1 + i) ∷ []) []) (sym full)
    ∙ sym (handles_from-more places i l o e)

pub listed_free : (places : List (Option Place)) (i : ℕ) → i < length places → (o : Option Place) → o ≡ get_or places i None → is_some o ≡ false → (old : List VmHandle)
    → map (λ h. h.0) old ≡ handles_from 1 (take i places) → map (λ h. h.0) old ≡ handles_from 1 (take (i + 1) places)
listed_free places i l o e free old before =
    before ∙ sym (append-nil (handles_from 1 (take i places)))
    ∙ ap (λ (b : Bool). handles_from 1 (take i places) ++ cond b ((1 + i) ∷ []) []) (sym free)
    ∙ sym (handles_from-more places i l o e)

-- what a front of the places lists begins the listing of all
pub listed_front : (n h : ℕ) (places : List (Option Place)) → (rest : List ℕ) × (handles_from h (take n places) ++ rest ≡ handles_from h places)
listed_front zero h places = (handles_from h places, refl)
listed_front (suc n) h [] = ([], refl)
listed_front (suc n) h (None ∷ places) = listed_front n (h + 1) places
listed_front (suc n) h (Some place ∷ places) = let more = listed_front n (h + 1) places in (more.0, ap (λ (t : List ℕ). h ∷ t) more.1)

-- and before a place that has a block it isn't yet all
pub listed_short : (places : List (Option Place)) (i : ℕ) → i < length places → (o : Option Place) → o ≡ get_or places i None → is_some o ≡ true → (handles : List VmHandle)
    → map (λ h. h.0) handles ≡ handles_from 1 (take i places) → length handles < length (handles_from 1 places)
listed_short places i l o e full handles before =
    let more = listed_front (i + 1) 1 places in
    let one : handles_from 1 (take (i + 1) places) ≡ handles_from 1 (take i places) ++ ((1 + i) ∷ []) = handles_from-more places i l o e ∙ ap (λ (b : Bool). handles_from 1 (take i places) ++ cond b ((1 + i) ∷ []) []) full in
    let longer : length (handles_from 1 (take (i + 1) places)) ≡ length (handles_from 1 (take i places)) + 1 = ap length one ∙ length-append (handles_from 1 (take i places)) ((1 + i) ∷ []) in
    let whole : length (handles_from 1 places) ≡ length (handles_from 1 (take (i + 1) places)) + length more.0 = ap length (sym more.1) ∙ length-append (handles_from 1 (take (i + 1) places)) more.0 in
    let same : length handles ≡ length (handles_from 1 (take i places)) = sym (length-map handles (λ h. h.0)) ∙ ap length before in
    omega (arith, longer, whole, same)

-- where memory lacked
pub listed_part : {T E : Type 0} (live : List ℕ) (old new : Vec VmHandle Global) (result : Result T E) → IsErr result → (rest : List ℕ) × (map (λ h. h.0) new.items ++ rest ≡ live) → vec_capacity old < length live → IsListed live old new result
listed_part live old new (Ok done) is first full = absurd (cc is)
listed_part live old new (Err fault) is first full = record { all = tt; first = first; room = λ all. absurd (omega (arith, full, all)) }

-- One place more of a search.

-- the least handle past the start, of the places from the place i on, whose block has the user ID
abbrev pub found_from : ℕ → ℕ → ℕ → List (Option Place) → Option ℕ
found_from uid start i rest = option_map (λ e. e.0) (find (λ e. nat_lt start e.0 && (e.1.attributes.user_id == uid)) (table_entries 1 (1 + i) rest))

-- a place that is free, or whose block isn't meant, is passed over
pub found_past : (uid start i : ℕ) (o : Option Place) (rest : List (Option Place)) → ((b : Place) → o ≡ Some b → (nat_lt start (1 + i) && (b.attributes.user_id == uid)) ≡ false) → found_from uid start i (o ∷ rest) ≡ found_from uid start (i + 1) rest
found_past uid start i None rest other = ap (λ (h : ℕ). option_map (λ e. e.0) (find (λ e. nat_lt start e.0 && (e.1.attributes.user_id == uid)) (table_entries 1 h rest))) (add_assoc 1 i 1)
found_past uid start i (Some b) rest other =
    ap (λ (t : Bool). option_map (λ e. e.0) (cond t (Some (1 + i, b)) (find (λ e. nat_lt start e.0 && (e.1.attributes.user_id == uid)) (table_entries 1 (1 + i + 1) rest)))) (other b refl)
    ∙ ap (λ (h : ℕ). option_map (λ e. e.0) (find (λ e. nat_lt start e.0 && (e.1.attributes.user_id == uid)) (table_entries 1 h rest))) (add_assoc 1 i 1)

-- handles up to the start are passed over
pub found_front : (uid start : ℕ) (places : List (Option Place)) (i k : ℕ) → i + k ≤ start → found_from uid start i places ≡ found_from uid start (i + k) (drop k places)
found_front uid start places i zero le = ap (λ (j : ℕ). found_from uid start j places) (let e : i ≡ i + 0 = omega arith in e)
found_front uid start [] i (suc k) le = refl
found_front uid start (o ∷ rest) i (suc k) le =
    found_past uid start i o rest (λ b is. ap (λ (t : Bool). t && (b.attributes.user_id == uid)) (le-ltb start (1 + i) (omega arith)))
    ∙ found_front uid start rest (i + 1) k (omega arith)
    ∙ ap (λ (j : ℕ). found_from uid start j (drop k rest)) (let e : i + 1 + k ≡ i + suc k = omega arith in e)

found_one : (uid start i : ℕ) (b : Place) (rest : List (Option Place)) → start ≤ i → b.attributes.user_id ≡ uid → found_from uid start i (Some b ∷ rest) ≡ Some (i + 1)
found_one uid start i b rest le same =
    ap (λ (t : Bool). option_map (λ e. e.0) (cond t (Some (1 + i, b)) (find (λ e. nat_lt start e.0 && (e.1.attributes.user_id == uid)) (table_entries 1 (1 + i + 1) rest))))
    (ap (λ (t : Bool). t && (b.attributes.user_id == uid)) (lt-ltb start (1 + i) (omega arith)) ∙ eq-eqb b.attributes.user_id uid same)
    ∙ ap (λ (n : ℕ). Some n) (let e : 1 + i ≡ i + 1 = omega arith in e)

pub found_at : (uid start i : ℕ) (b : Place) (places : List (Option Place)) → i < length places → Some b ≡ get_or places i None → start ≤ i → b.attributes.user_id ≡ uid → found_from uid start i (drop i places) ≡ Some (i + 1)
found_at uid start i b places within here le same =
    ap (found_from uid start i) (drop-cons places i None within ∙ ap (λ (o : Option Place). o ∷ drop (suc i) places) (sym here)) ∙ found_one uid start i b (drop (suc i) places) le same

-- the place at i is passed over where its block hasn't the user ID
pub found_next : (uid start i : ℕ) (places : List (Option Place)) → i < length places → ((b : Place) → get_or places i None ≡ Some b → b.attributes.user_id ≢ uid) → found_from uid start i (drop i places) ≡ found_from uid start (i + 1) (drop (i + 1) places)
found_next uid start i places within other =
    ap (found_from uid start i) (drop_more places i None within)
    ∙ found_past uid start i (get_or places i None) (drop (i + 1) places) (λ b is. ap (λ (t : Bool). nat_lt start (1 + i) && t) (ne_eqb b.attributes.user_id uid (other b is)) ∙ and-false (nat_lt start (1 + i)))

pub found_end : (uid start i : ℕ) (places : List (Option Place)) → length places ≤ i → found_from uid start i (drop i places) ≡ None
found_end uid start i places past = ap (found_from uid start i) (drop_all i places past)
