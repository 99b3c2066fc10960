-- The branches of a spot that have the elements.
use Rattle.std.proofs.Common.{◌≡◌, ℕ, suc, true, ◌&&◌, ◌||◌, ◌+◌, ◌-◌, ◌<◌, ◌≤◌, ◌==◌, nat_le, nat_lt, min, List, [], ◌∷◌, length, take, drop, map, get_or, sum_by, is_some, sym, ap, subst, ◌∙◌, inl, inr, arith, ltb-true, leb-true, length-drop}
use Rattle.std.proofs.lemmas.Bool.{cases_Bool, and_parts, cond-true, cond-false}
use Rattle.std.proofs.lemmas.List.{get_or-drop, get_or-map, get_or-take, length-map, length-take}
use Rattle.std.proofs.lemmas.List.Sums.{sum_by-cons}
use Rattle.std.specs.List.{list_all}
use Rattle.geos_model.specs.Document.{Document, raw_bytes_of}
use Rattle.geos_model.specs.LargeBlocks.{root_at}
use Rattle.geos_model.specs.LargeLayout.{Root, greatest_element_size, is_root, root_of, total_count}
use Rattle.large_arrays.specs.Middle.{IsRunSpot, run_length, run_links}
use Rattle.large_arrays.specs.RunReading.{run_count}
use Rattle.large_arrays.specs.Spots.{IsSpot, counts_of, link_handles}
use Rattle.geos_model.specs.Spread.{start_place, end_place, first_place}
use Rattle.large_arrays.specs.declared.spot.BranchLink.{BranchLink}
use Rattle.large_arrays.specs.declared.spot.Spot.{Spot}
use Rattle.geos_model.proofs.Layouts.{root-facts, root-small}
use Rattle.large_arrays.proofs.Marking.{no_link}
use Rattle.geos_model.proofs.SpreadPlaces.{end-low, first-end}

-- A place is within its piece, and that is one that there is.

abbrev in_piece : List ℕ → ℕ × ℕ → Type 0
in_piece counts at = at.1 ≤ get_or counts at.0 0

start-within : (c : ℕ) (counts : List ℕ) (i : ℕ) → i ≤ sum_by (λ x. x) (c ∷ counts) → in_piece (c ∷ counts) (start_place (c ∷ counts) i)
start-within c [] i few = omega arith
start-within c (next ∷ counts) i few =
    let b = nat_lt i c in
    let all = sum_by-cons (λ (x : ℕ). x) c (next ∷ counts) in
    let rest = start-within next counts (i - c) (omega arith) in
    elim (cases_Bool b) [
      | inl here ↦ (let less = ltb-true i c here in subst (in_piece (c ∷ next ∷ counts)) (sym (cond-true b _ _ here)) (let low : i ≤ c = omega arith in low))
      | inr past ↦ subst (in_piece (c ∷ next ∷ counts)) (sym (cond-false b _ _ past)) rest
    ]

end-within : (c : ℕ) (counts : List ℕ) (i : ℕ) → i ≤ sum_by (λ x. x) (c ∷ counts) → in_piece (c ∷ counts) (end_place (c ∷ counts) i)
end-within c [] i few = omega arith
end-within c (next ∷ counts) i few =
    let b = nat_le i c in
    let all = sum_by-cons (λ (x : ℕ). x) c (next ∷ counts) in
    let rest = end-within next counts (i - c) (omega arith) in
    elim (cases_Bool b) [
      | inl here ↦ (let most = leb-true i c here in subst (in_piece (c ∷ next ∷ counts)) (sym (cond-true b _ _ here)) (let low : i ≤ c = omega arith in low))
      | inr past ↦ subst (in_piece (c ∷ next ∷ counts)) (sym (cond-false b _ _ past)) rest
    ]

first-within : (c : ℕ) (counts : List ℕ) (i j : ℕ) → i ≤ sum_by (λ x. x) (c ∷ counts) → in_piece (c ∷ counts) (first_place (c ∷ counts) i j)
first-within c counts i j few = elim (cases_Bool (i == j)) [
  | inl same ↦ subst (in_piece (c ∷ counts)) (sym (cond-true (i == j) _ _ same)) (end-within c counts i few)
  | inr other ↦ subst (in_piece (c ∷ counts)) (sym (cond-false (i == j) _ _ other)) (start-within c counts i few)
]

record PlacesIn (counts : List ℕ) (i j : ℕ) : Type 0 where
  pub order : (first_place counts i j).0 ≤ (end_place counts j).0
  pub low : (end_place counts j).0 < length counts
  pub head : in_piece counts (first_place counts i j)
  pub tail : in_piece counts (end_place counts j)

places-in : (counts : List ℕ) (i j : ℕ) → 0 < length counts → i ≤ j → j ≤ sum_by (λ x. x) counts → PlacesIn counts i j
places-in [] i j some order within = absurd (omega arith)
places-in (c ∷ counts) i j some order within =
    let low = end-low c counts j in
    record { order = first-end (c ∷ counts) i j order; low = omega arith; head = first-within c counts i j (omega arith); tail = end-within c counts j within }

-- What stands in a run of links is what the root has there.

module _ (f : BranchLink → ℕ) (links : List BranchLink) (xs : List ℕ) (a b : ℕ) (are : map f links ≡ take b (drop a xs)) where
  pub links-many : length links ≡ min b (length xs - a)
  links-many = sym (length-map links f) ∙ ap length are ∙ length-take b (drop a xs) ∙ ap (min b) (length-drop a xs)

  link_at : (m l n : ℕ) → n < length (take l (drop m links)) → get_or (map f (take l (drop m links))) n 0 ≡ get_or xs (a + (m + n)) 0
  link_at m l n low =
      let long = length-take l (drop m links) in
      let rest = length-drop m links in
      let all = links-many in
      let within : n < l = omega arith in
      get_or-map f (take l (drop m links)) n no_link 0 low
      ∙ ap f (get_or-take l (drop m links) n no_link within ∙ get_or-drop m links n no_link)
      ∙ sym (get_or-map f links (m + n) no_link 0 (omega arith))
      ∙ ap (λ (ys : List ℕ). get_or ys (m + n) 0) are
      ∙ get_or-take b (drop a xs) (m + n) 0 (omega arith)
      ∙ get_or-drop a xs (m + n) 0

-- What a spot's numbers come to.
pub record HasRun (s : Spot) : Type 0 where
  pub order : s.start.0 ≤ s.end.0
  pub first : s.first ≤ s.start.0
  pub long : suc s.end.0 ≤ s.first + length s.links.items
  pub many : length (run_links s) ≡ run_length s
  pub head : s.start.1 ≤ get_or (counts_of (run_links s)) 0 0
  pub tail : s.end.1 ≤ get_or (counts_of (run_links s)) (s.end.0 - s.start.0) 0
  pub small : s.size < 65536

module _ (r : Root) (i j : ℕ) (s : Spot) (is : IsSpot r i j s) where
  pub run-count : (n : ℕ) → s.first ≤ s.start.0 → n < length (run_links s) → get_or (counts_of (run_links s)) n 0 ≡ get_or r.counts (s.start.0 + n) 0
  run-count n from low =
      link_at (λ l. l.count) s.links.items r.counts s.first (s.end.0 + 2 - s.first) is.links.counts (s.start.0 - s.first) (run_length s) n low
      ∙ ap (λ (k : ℕ). get_or r.counts k 0) (let same : s.first + (s.start.0 - s.first + n) ≡ s.start.0 + n = omega arith in same)

  pub run-handle : (n : ℕ) → s.first ≤ s.start.0 → n < length (run_links s) → get_or (link_handles (run_links s)) n 0 ≡ get_or r.branches (s.start.0 + n) 0
  run-handle n from low =
      link_at (λ l. l.handle.0) s.links.items r.branches s.first (s.end.0 + 2 - s.first) is.links.handles (s.start.0 - s.first) (run_length s) n low
      ∙ ap (λ (k : ℕ). get_or r.branches k 0) (let same : s.first + (s.start.0 - s.first + n) ≡ s.start.0 + n = omega arith in same)

  module _ (root : is_root r ≡ true) (order : i ≤ j) (within : j ≤ total_count r) where
    some : 0 < length r.counts
    some =
        let parts = and_parts (nat_lt 0 (length r.counts) && nat_le r.size greatest_element_size) (length r.counts == 1 || list_all (λ c. nat_lt 0 c) r.counts) root in
        ltb-true 0 (length r.counts) (and_parts (nat_lt 0 (length r.counts)) (nat_le r.size greatest_element_size) parts.0).0

    places : PlacesIn r.counts i j
    places = places-in r.counts i j some order within

    start_0 : s.start.0 ≡ (first_place r.counts i j).0
    start_0 = ap (λ (at : ℕ × ℕ). at.0) is.start

    start_1 : s.start.1 ≡ (first_place r.counts i j).1
    start_1 = ap (λ (at : ℕ × ℕ). at.1) is.start

    end_0 : s.end.0 ≡ (end_place r.counts j).0
    end_0 = ap (λ (at : ℕ × ℕ). at.0) is.end

    end_1 : s.end.1 ≡ (end_place r.counts j).1
    end_1 = ap (λ (at : ℕ × ℕ). at.1) is.end

    ordered : s.start.0 ≤ s.end.0
    ordered = let o = places.order in let a = start_0 in let e = end_0 in omega arith

    from_first : s.first ≤ s.start.0
    from_first = let f = is.first in omega arith

    long_enough : suc s.end.0 ≤ s.first + length s.links.items
    long_enough =
        let many = links-many (λ l. l.count) s.links.items r.counts s.first (s.end.0 + 2 - s.first) is.links.counts in
        let low = places.low in let e = end_0 in let o = ordered in let f = from_first in
        omega arith

    as_many : length (run_links s) ≡ run_length s
    as_many =
        let long = length-take (run_length s) (drop (s.start.0 - s.first) s.links.items) in
        let rest = length-drop (s.start.0 - s.first) s.links.items in
        let all = long_enough in let o = ordered in let f = from_first in
        omega arith

    spot-run : HasRun s
    spot-run = record {
      order = ordered;
      first = from_first;
      long = long_enough;
      many = as_many;
      head =
          let o = ordered in let m = as_many in
          let at = run-count 0 from_first (omega arith) in
          let within_piece : (first_place r.counts i j).1 ≤ get_or r.counts (first_place r.counts i j).0 0 = places.head in
          let here : get_or r.counts (s.start.0 + 0) 0 ≡ get_or r.counts (first_place r.counts i j).0 0 = ap (λ (k : ℕ). get_or r.counts k 0) (let a = start_0 in let same : s.start.0 + 0 ≡ (first_place r.counts i j).0 = omega arith in same) in
          let e = start_1 in
          omega arith;
      tail =
          let o = ordered in let m = as_many in
          let at = run-count (s.end.0 - s.start.0) from_first (omega arith) in
          let within_piece : (end_place r.counts j).1 ≤ get_or r.counts (end_place r.counts j).0 0 = places.tail in
          let here : get_or r.counts (s.start.0 + (s.end.0 - s.start.0)) 0 ≡ get_or r.counts (end_place r.counts j).0 0 = ap (λ (k : ℕ). get_or r.counts k 0) (let a = end_0 in let same : s.start.0 + (s.end.0 - s.start.0) ≡ (end_place r.counts j).0 = omega arith in same) in
          let e = end_1 in
          omega arith;
      small = subst (λ (n : ℕ). n < 65536) (sym is.size) (root-small r root);
    }

pub run-is : (s : Spot) → IsRunSpot s → HasRun s
run-is s run = spot-run run.r run.i run.j s run.spot run.root run.order run.within

-- one of its links among those of the spot
pub run-link : (s : Spot) (n : ℕ) (d : BranchLink) → n < length (run_links s) → run_count s n ≡ (get_or s.links.items (s.start.0 - s.first + n) d).count
run-link s n d low =
    let links = s.links.items in
    let m : ℕ = s.start.0 - s.first in
    let long = length-take (run_length s) (drop m links) in
    let within : n < run_length s = omega arith in
    get_or-map (λ (l : BranchLink). l.count) (run_links s) n d 0 low
    ∙ ap (λ (l : BranchLink). l.count) (get_or-take (run_length s) (drop m links) n d within ∙ get_or-drop m links n d)

-- of a root that was read
pub read-run : (d : Document) (b i j : ℕ) (s : Spot) → is_some (root_of (raw_bytes_of d b)) ≡ true → IsSpot (root_at d b) i j s → i ≤ j → j ≤ total_count (root_at d b) → IsRunSpot s
read-run d b i j s found is order within = record { r = root_at d b; i = i; j = j; root = (root-facts d b found).0; spot = is; order = order; within = within }
