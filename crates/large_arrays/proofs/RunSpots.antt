-- Where the elements of a spot lie among its links.
use Rattle.std.proofs.Common.{◌≡◌, ℕ, suc, ◌+◌, ◌-◌, ◌*◌, ◌<◌, ◌≤◌, ◌&&◌, ◌||◌, ◌==◌, nat_le, nat_lt, min, List, [], ◌∷◌, length, take, drop, map, sym, ap, subst, ◌∙◌, inl, inr, arith, ltb-true, length-drop}
use Rattle.std.proofs.lemmas.Bool.{cases_Bool, and_parts}
use Rattle.std.proofs.lemmas.List.{length-map, length-take}
use Rattle.std.specs.List.{list_all}
use Rattle.geos_model.specs.Pieces.{BranchPiece}
use Rattle.geos_model.specs.LargeLayout.{Root, greatest_element_size}
use Rattle.geos_model.specs.Spread.{first_place, end_place}
use Rattle.geos_model.specs.LargeWindow.{looks_left, looks_right}
use Rattle.large_arrays.specs.LookedBranches.{HasLinks, IsPieceSpot, AreThere, count_at, links_between}
use Rattle.large_arrays.specs.Middle.{IsRunSpot, run_links}
use Rattle.large_bodies.specs.declared.neighbours.Sides.{Sides}
use Rattle.large_arrays.specs.declared.spot.BranchLink.{BranchLink}
use Rattle.large_arrays.specs.declared.spot.Spot.{Spot}
use Rattle.geos_model.proofs.Layouts.{root-small}
use Rattle.geos_model.proofs.SpreadPlaces.{end-low, first-end}
use Rattle.large_arrays.proofs.LookedSides.{looks-there, joined-there, left-varies, right-varies, left-even, right-even, ends}

end_in : (counts : List ℕ) (j : ℕ) → 0 < length counts → (end_place counts j).0 < length counts
end_in [] j some = absurd (omega arith)
end_in (c ∷ counts) j some = (let low = end-low c counts j in omega arith)

links_many : (f : BranchLink → ℕ) (links : List BranchLink) (xs : List ℕ) (n first : ℕ) → map f links ≡ take n (drop first xs) → length links ≡ min n (length xs - first)
links_many f links xs n first are =
    sym (length-map links f) ∙ ap (λ (ys : List ℕ). length ys) are ∙ length-take n (drop first xs) ∙ ap (min n) (length-drop first xs)

pub has-links : (s : Spot) → IsRunSpot s → HasLinks s
has-links s run =
    let r : Root = run.r in
    let is = run.spot in
    let parts = and_parts (nat_lt 0 (length r.counts) && nat_le r.size greatest_element_size) (length r.counts == 1 || list_all (λ c. nat_lt 0 c) r.counts) run.root in
    let some = ltb-true 0 (length r.counts) (and_parts (nat_lt 0 (length r.counts)) (nat_le r.size greatest_element_size) parts.0).0 in
    let start : s.start.0 ≡ (first_place r.counts run.i run.j).0 = ap (λ (p : ℕ × ℕ). p.0) is.start in
    let end : s.end.0 ≡ (end_place r.counts run.j).0 = ap (λ (p : ℕ × ℕ). p.0) is.end in
    let order : s.start.0 ≤ s.end.0 = (let upto = first-end r.counts run.i run.j run.order in omega arith) in
    let low : s.end.0 < length r.counts = (let within = end_in r.counts run.j some in omega arith) in
    let first = is.first in
    let branches = is.branches in
    let counted : length s.links.items ≡ min (s.end.0 + 2 - s.first) (length r.counts - s.first) =
    links_many (λ l. l.count) s.links.items r.counts (s.end.0 + 2 - s.first) s.first is.links.counts in
    let linked : length s.links.items ≡ min (s.end.0 + 2 - s.first) (length r.branches - s.first) =
    links_many (λ l. l.handle.0) s.links.items r.branches (s.end.0 + 2 - s.first) s.first is.links.handles in
    record {
      small = subst (λ (n : ℕ). n < 65536) (sym is.size) (root-small r run.root);
      first = first;
      order = order;
      last = omega arith;
      links = omega arith;
    }

-- the links of the branches that have them
pub run-same : (s : Spot) → links_between s s.start.0 (s.end.0 + 1) ≡ run_links s
run-same s = (let next : s.end.0 + 1 ≡ suc s.end.0 = omega arith in ap (λ (n : ℕ). take (n - s.start.0) (drop (s.start.0 - s.first) s.links.items)) next)

-- neighbours that an edit looks at are there
pub looked-there : (s : Spot) (ps : List BranchPiece) (i j : ℕ) (new : BranchPiece) → IsPieceSpot s ps i j → HasLinks s
    → AreThere s (record { left = looks_left s.size ps i j new; right = looks_right s.size ps i j new })
looked-there s ps i j new is run =
    let sides : Sides = record { left = looks_left s.size ps i j new; right = looks_right s.size ps i j new } in
    elim (cases_Bool (s.size == 0)) [
      | inl vary ↦ looks-there s (ends s ps i j new is) sides (sym (left-varies s ps i j new is vary)) (sym (right-varies s ps i j new is vary))
      | inr one ↦ joined-there s (count_at s (s.start.0 - 1) * s.size) (count_at s (s.end.0 + 1) * s.size) (ends s ps i j new is) sides (sym (left-even s ps i j new is run one)) (sym (right-even s ps i j new is run one))
    ]
