-- Whether an edit stays within one branch, by what a spot has of the root.
use Rattle.std.proofs.Common.{◌≡◌, ◌≢◌, ◌⊎◌, ℕ, suc, ◌+◌, ◌-◌, ◌*◌, ◌<◌, ◌≤◌, nat_lt, min, List, length, take, drop, map, get_or, refl, sym, ap, ap₂, subst, ◌∙◌, inl, inr, arith, length-drop, ltb-true, ltb-false, mul-le-mul_left}
use Rattle.std.proofs.lemmas.Bool.{cases_Bool}
use Rattle.std.proofs.lemmas.List.{length-map, length-take, get_or-map, get_or-take, get_or-drop}
use Rattle.geos_model.specs.Pieces.{branch_room, join_room}
use Rattle.geos_model.specs.LargeLayout.{Root}
use Rattle.geos_model.specs.Spread.{first_place, end_place}
use Rattle.geos_model.proofs.SpreadPlaces.{first-end_same}
use Rattle.large_bodies.proofs.CountedRoots.{total-within}
use Rattle.large_arrays.specs.Middle.{IsRunSpot}
use Rattle.large_arrays.specs.Spots.{IsSpot, counts_of}
use Rattle.large_arrays.specs.Within.{place_within, count_within}
use Rattle.large_arrays.specs.WithinPlans.{FitsEdit, IsEditAt, StandsAlone}
use Rattle.large_arrays.specs.declared.spot.BranchLink.{BranchLink}
use Rattle.large_arrays.specs.declared.spot.Spot.{Spot}
use Rattle.large_arrays.specs.declared.within.BranchEdit.{BranchEdit}
use Rattle.large_arrays.proofs.Marking.{no_link}
use Rattle.large_arrays.proofs.PlaceSums.{end-within}
use Rattle.large_arrays.proofs.RunSpots.{has-links}

-- What a root has at the place of a link, and how many links there are.
module _ (f : BranchLink → ℕ) (links : List BranchLink) (xs : List ℕ) (first n : ℕ) (are : map f links ≡ take n (drop first xs)) where
  as_long : length links ≡ min n (length xs - first)
  as_long = sym (length-map links f) ∙ ap length are ∙ length-take n (drop first xs) ∙ ap (min n) (length-drop first xs)

  at_link : (m : ℕ) → m < length links → get_or xs (first + m) 0 ≡ get_or (map f links) m 0
  at_link m low =
      let long = as_long in
      let within : m < n = omega arith in
      sym (ap (λ (ys : List ℕ). get_or ys m 0) are ∙ get_or-take n (drop first xs) m 0 within ∙ get_or-drop first xs m 0)

module _ (s : Spot) (r : Root) (i j new at count : ℕ) (is : IsSpot r i j s) (at_is : at ≡ s.start.0 - s.first) (low : at < length s.links.items) where
  abbrev k : ℕ
  k = place_within r i j

  abbrev first : ℕ
  first = s.first

  abbrev links : List BranchLink
  links = s.links.items

  place : s.start.0 ≡ k
  place = ap (λ (p : ℕ × ℕ). p.0) is.start

  here : first + at ≡ k
  here = (let start = is.first in let same = place in omega arith)

  count-at : (m : ℕ) → m < length links → get_or r.counts (first + m) 0 ≡ get_or (counts_of links) m 0
  count-at m there = at_link (λ l. l.count) links r.counts first (s.end.0 + 2 - first) is.links.counts m there

  pub count-here : get_or r.counts k 0 ≡ (get_or links at no_link).count
  count-here = ap (λ (n : ℕ). get_or r.counts n 0) (sym here) ∙ count-at at low ∙ get_or-map (λ (l : BranchLink). l.count) links at no_link 0 low

  pub handle-here : get_or r.branches k 0 ≡ (get_or links at no_link).handle.0
  handle-here =
      ap (λ (n : ℕ). get_or r.branches n 0) (sym here)
      ∙ at_link (λ l. l.handle.0) links r.branches first (s.end.0 + 2 - first) is.links.handles at low
      ∙ get_or-map (λ (l : BranchLink). l.handle.0) links at no_link 0 low

  many : length links ≡ min (s.end.0 + 2 - first) (length r.counts - first)
  many = as_long (λ l. l.count) links r.counts first (s.end.0 + 2 - first) is.links.counts

  pub within-counts : k < length r.counts
  within-counts = (let all = many in let same = here in omega arith)

  -- so are its neighbours
  module _ (alone : StandsAlone s at count) where
    left-apart : (k ≡ 0) ⊎ (join_room < (get_or r.counts (k - 1) 0 + count) * r.size)
    left-apart =
        let start = is.first in
        let same = place in
        elim alone.left as (λ _. (k ≡ 0) ⊎ (join_room < (get_or r.counts (k - 1) 0 + count) * r.size)) [
          | inl none ↦ inl (omega arith)
          | inr apart ↦ elim (cases_Bool (nat_lt 0 at)) as (λ _. (k ≡ 0) ⊎ (join_room < (get_or r.counts (k - 1) 0 + count) * r.size)) [
            | inl some ↦
                (let more = ltb-true 0 at some in
                let before : first + (at - 1) ≡ k - 1 = (let h = here in omega arith) in
                let counted : get_or (counts_of links) (at - 1) 0 ≡ get_or r.counts (k - 1) 0 = sym (ap (λ (n : ℕ). get_or r.counts n 0) (sym before) ∙ count-at (at - 1) (omega arith)) in
                inr (subst (λ (n : ℕ). join_room < n) (ap₂ (λ (n m : ℕ). (n + count) * m) counted is.size) apart))
            | inr none ↦ (let zero_is = ltb-false 0 at none in inl (omega arith))
          ]
        ]

    right-apart : s.start.0 ≡ s.end.0 → (length r.counts ≤ suc k) ⊎ (join_room < (count + get_or r.counts (suc k) 0) * r.size)
    right-apart one =
        let start = is.first in
        let same = place in
        let all = many in
        let h = here in
        elim (cases_Bool (nat_lt (at + 1) (length links))) as (λ _. (length r.counts ≤ suc k) ⊎ (join_room < (count + get_or r.counts (suc k) 0) * r.size)) [
          | inl there ↦
              (let more = ltb-true (at + 1) (length links) there in
              let behind : first + (at + 1) ≡ suc k = omega arith in
              let counted : get_or (counts_of links) (at + 1) 0 ≡ get_or r.counts (suc k) 0 = sym (ap (λ (n : ℕ). get_or r.counts n 0) (sym behind) ∙ count-at (at + 1) more) in
              elim alone.right as (λ _. (length r.counts ≤ suc k) ⊎ (join_room < (count + get_or r.counts (suc k) 0) * r.size)) [
                | inl none ↦ absurd (omega arith)
                | inr apart ↦ inr (subst (λ (n : ℕ). join_room < n) (ap₂ (λ (n m : ℕ). (count + n) * m) counted is.size) apart)
              ])
          | inr none ↦ (let past = ltb-false (at + 1) (length links) none in inl (omega arith))
        ]

-- the edit, by its numbers
pub edit-at : (s : Spot) (new at : ℕ) (e : BranchEdit) → s.size ≢ 0 → s.start.0 ≡ s.end.0 → s.branches ≤ 8191 → at ≡ s.start.0 - s.first → at < length s.links.items
    → e.link ≡ get_or s.links.items at no_link → e.from ≡ s.start.1 → e.to ≡ s.end.1 → e.count ≡ s.start.1 + new + (e.link.count - s.end.1) → e.total ≡ s.total - e.link.count + e.count
    → StandsAlone s at e.count → IsEditAt s new e
edit-at s new at e sized one few at_is low link from to count total alone r i j is =
    let start0 : s.start.0 ≡ (first_place r.counts i j).0 = ap (λ (p : ℕ × ℕ). p.0) is.start in
    let start1 : s.start.1 ≡ (first_place r.counts i j).1 = ap (λ (p : ℕ × ℕ). p.1) is.start in
    let end0 : s.end.0 ≡ (end_place r.counts j).0 = ap (λ (p : ℕ × ℕ). p.0) is.end in
    let end1 : s.end.1 ≡ (end_place r.counts j).1 = ap (λ (p : ℕ × ℕ). p.1) is.end in
    let old : e.link.count ≡ get_or r.counts (place_within r i j) 0 = ap (λ (l : BranchLink). l.count) link ∙ sym (count-here s r i j new at e.count is at_is low) in
    let counted : e.count ≡ count_within r i j new = count ∙ (λ t. start1 t + new + (old t - end1 t)) in
    let size = is.size in
    let branches = is.branches in
    let all = is.total in
    let inside = within-counts s r i j new at e.count is at_is low in
    let sums = total-within r.counts (place_within r i j) (count_within r i j new) inside in
    record {
      stays = record {
        sized = subst (λ (n : ℕ). n ≢ 0) is.size sized;
        one = sym end0 ∙ sym one ∙ start0;
        some = subst (λ (n : ℕ). 0 < n) counted alone.some;
        fits = subst (λ (n : ℕ). n ≤ branch_room) (ap₂ (λ (n m : ℕ). n * m) counted is.size) alone.fits;
        left = subst (λ (n : ℕ). (place_within r i j ≡ 0) ⊎ (join_room < (get_or r.counts (place_within r i j - 1) 0 + n) * r.size)) counted (left-apart s r i j new at e.count is at_is low alone);
        right = subst (λ (n : ℕ). (length r.counts ≤ suc (place_within r i j)) ⊎ (join_room < (n + get_or r.counts (suc (place_within r i j)) 0) * r.size)) counted
            (right-apart s r i j new at e.count is at_is low alone one);
        few = omega arith;
      };
      handle = ap (λ (l : BranchLink). l.handle.0) link ∙ sym (handle-here s r i j new at e.count is at_is low);
      old = old;
      from = from ∙ start1;
      to = to ∙ end1;
      count = counted;
      total = total ∙ (λ t. is.total t - old t + counted t) ∙ sym sums.1;
    }

-- What is known of a spot before its root is.
pub record HasPlace (s : Spot) : Type 0 where
  pub low : s.start.0 - s.first < length s.links.items
  pub first : s.first ≤ s.start.0
  pub small : s.size < 65536
  pub order : s.start.0 ≡ s.end.0 → s.start.1 ≤ s.end.1
  pub tail : s.start.0 ≡ s.end.0 → s.end.1 ≤ (get_or s.links.items (s.start.0 - s.first) no_link).count
  pub total : (get_or s.links.items (s.start.0 - s.first) no_link).count ≤ s.total

pub has-place : (s : Spot) → IsRunSpot s → HasPlace s
has-place s run =
    let r : Root = run.r in
    let is = run.spot in
    let has = has-links s run in
    let first = has.first in
    let order = has.order in
    let last = has.last in
    let links = has.links in
    let at : ℕ = s.start.0 - s.first in
    let low : at < length s.links.items = omega arith in
    let here = count-here s r run.i run.j 0 at 0 is refl low in
    let inside = within-counts s r run.i run.j 0 at 0 is refl low in
    let sums = total-within r.counts (place_within r run.i run.j) 0 inside in
    let total = is.total in
    record {
      low = low;
      first = omega arith;
      small = has.small;
      order = λ one.
          let start0 : s.start.0 ≡ place_within r run.i run.j = ap (λ (p : ℕ × ℕ). p.0) is.start in
          let start1 : s.start.1 ≡ (first_place r.counts run.i run.j).1 = ap (λ (p : ℕ × ℕ). p.1) is.start in
          let end0 : s.end.0 ≡ (end_place r.counts run.j).0 = ap (λ (p : ℕ × ℕ). p.0) is.end in
          let end1 : s.end.1 ≡ (end_place r.counts run.j).1 = ap (λ (p : ℕ × ℕ). p.1) is.end in
          let upto = first-end_same r.counts run.i run.j run.order (sym start0 ∙ one ∙ end0) in
          omega arith;
      tail = λ one.
          let start0 : s.start.0 ≡ place_within r run.i run.j = ap (λ (p : ℕ × ℕ). p.0) is.start in
          let end0 : s.end.0 ≡ (end_place r.counts run.j).0 = ap (λ (p : ℕ × ℕ). p.0) is.end in
          let end1 : s.end.1 ≡ (end_place r.counts run.j).1 = ap (λ (p : ℕ × ℕ). p.1) is.end in
          let within : (end_place r.counts run.j).1 ≤ get_or r.counts (end_place r.counts run.j).0 0 = end-within r.counts run.j run.within in
          let same : get_or r.counts (end_place r.counts run.j).0 0 ≡ get_or r.counts (place_within r run.i run.j) 0 = ap (λ (n : ℕ). get_or r.counts n 0) (sym end0 ∙ sym one ∙ start0) in
          omega arith;
      total = omega arith;
    }

-- the edit's numbers fit
pub fits-edit : (s : Spot) (new size : ℕ) (e : BranchEdit) → IsRunSpot s → size ≡ s.size → IsEditAt s new e → FitsEdit e new size
fits-edit s new size e run size_is edits =
    let r : Root = run.r in
    let edit = edits r run.i run.j run.spot in
    let has = has-links s run in
    let small = has.small in
    let sized : size ≢ 0 = subst (λ (n : ℕ). n ≢ 0) (sym (size_is ∙ run.spot.size)) edit.stays.sized in
    let from = edit.from in
    let to = edit.to in
    let old = edit.old in
    let order = first-end_same r.counts run.i run.j run.order (sym edit.stays.one) in
    let within : (end_place r.counts run.j).1 ≤ get_or r.counts (end_place r.counts run.j).0 0 = end-within r.counts run.j run.within in
    let same : get_or r.counts (end_place r.counts run.j).0 0 ≡ get_or r.counts (place_within r run.i run.j) 0 = ap (λ (n : ℕ). get_or r.counts n 0) edit.stays.one in
    record {
      small = omega arith;
      sized = sized;
      order = omega arith;
      within = omega arith;
      count = edit.count ∙ (λ t. sym from t + new + (sym old t - sym to t));
      fits = subst (λ (n : ℕ). n ≤ branch_room) (ap₂ (λ (n m : ℕ). n * m) (sym edit.count) (sym (size_is ∙ run.spot.size))) edit.stays.fits;
    }

-- a branch that has room for its elements has few
pub count-few : (count size : ℕ) → size ≢ 0 → count * size ≤ branch_room → count ≤ branch_room
count-few count size some room =
    let one : 1 ≤ size = omega arith in
    let most = mul-le-mul_left count one in
    omega arith

-- the place of the branch is one that the root has
pub place-low : (s : Spot) → IsRunSpot s → (r : Root) (i j : ℕ) → IsSpot r i j s → place_within r i j < length r.counts
place-low s run r i j is = (let has = has-place s run in within-counts s r i j 0 (s.start.0 - s.first) 0 is refl has.low)
