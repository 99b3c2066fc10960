use Rattle.std.proofs.Common.{◌≡◌, ◌≤◌, ◌-◌, ℕ, List, length, take, drop, sym, ap, ap₂, subst, arith}
use Rattle.geos_model.proofs.Arrays.{joined}
use Rattle.geos_model.specs.Pieces.{BranchPiece}
use Rattle.large_bodies.specs.SizedElements.{SizedElements}
use Rattle.large_bodies.specs.NewElementsViewing.{cut_new, seen_elements, HasNewElements}
use Rattle.large_bodies.specs.declared.new_elements.NewElements.TheInside.{Inside}
use Rattle.large_bodies.proofs.NewElementsLemmas.{IsSplit, seen-are, new-split, first-within}
use Rattle.large_bodies.proofs.new_elements.NewElements.split_at.Goals as goal

split : (v : Inside) (w : SizedElements) (k n : ℕ) (first rest : List ℕ) → seen_elements v ≡ w → HasNewElements v → k ≤ length w.elements → n ≡ length (joined (take k w.elements))
    → first ≡ take n v.bytes.now → rest ≡ drop n v.bytes.now → IsSplit v.size k v.count first rest w.elements
split v w k n first rest is has few long front back =
    let size : v.size ≡ w.size = ap (λ (u : SizedElements). u.size) is in
    let P : ℕ → Type 0 = λ s. IsSplit s k v.count (take n v.bytes.now) (drop n v.bytes.now) w.elements in
    let Q : List ℕ → Type 0 = λ r. IsSplit v.size k v.count r (drop n v.bytes.now) w.elements in
    let R : List ℕ → Type 0 = λ r. IsSplit v.size k v.count first r w.elements in
    subst R (sym back) (subst Q (sym front) (subst P (sym size) (new-split w.size k v.count n v.bytes.now w.elements (seen-are v w is has) few long)))

-- as callers see them
abbrev sized_elements : ℕ → BranchPiece → SizedElements
sized_elements size xs = record { size = size; elements = xs }

seen : (size : ℕ) (xs ys : BranchPiece) (w : SizedElements) → size ≡ w.size → xs ≡ ys → sized_elements size xs ≡ sized_elements w.size ys
seen size xs ys w sizes same = ap₂ sized_elements sizes same

pub split_at-requires : goal.split_at-requires
split_at-requires c =
    let are = seen-are c.self.inside c.args.self.now c.self.view_is c.self.invariant in
    let bytes = ap length are.joined in
    let within = first-within c.args.k c.args.self.now.elements in
    let end = c.end.ensures in
    omega arith

pub invariant_of-result : goal.invariant_of-result
invariant_of-result c =
    (split c.self.inside c.args.self.now c.args.k c.end.result c.split_at.result.0.now c.split_at.result.1.now c.self.view_is c.self.invariant c.requires c.end.ensures
    c.split_at.ensures.front c.split_at.ensures.back).front

pub invariant_of-result-2 : goal.invariant_of-result-2
invariant_of-result-2 c =
    (split c.self.inside c.args.self.now c.args.k c.end.result c.split_at.result.0.now c.split_at.result.1.now c.self.view_is c.self.invariant c.requires c.end.ensures
    c.split_at.ensures.front c.split_at.ensures.back).back

pub returns-clause-first : goal.returns-clause-first
returns-clause-first c =
    seen c.self.inside.size (cut_new c.self.inside.size c.args.k c.split_at.result.0.now) (take c.args.k c.args.self.now.elements) c.args.self.now
    (ap (λ (u : SizedElements). u.size) c.self.view_is)
    (split c.self.inside c.args.self.now c.args.k c.end.result c.split_at.result.0.now c.split_at.result.1.now c.self.view_is c.self.invariant c.requires c.end.ensures
    c.split_at.ensures.front c.split_at.ensures.back).front_is

pub returns-clause-rest : goal.returns-clause-rest
returns-clause-rest c =
    seen c.self.inside.size (cut_new c.self.inside.size (c.self.inside.count - c.args.k) c.split_at.result.1.now) (drop c.args.k c.args.self.now.elements) c.args.self.now
    (ap (λ (u : SizedElements). u.size) c.self.view_is)
    (split c.self.inside c.args.self.now c.args.k c.end.result c.split_at.result.0.now c.split_at.result.1.now c.self.view_is c.self.invariant c.requires c.end.ensures
    c.split_at.ensures.front c.split_at.ensures.back).back_is
