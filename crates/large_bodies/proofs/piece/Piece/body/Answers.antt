use Rattle.std.proofs.Common.{◌≡◌, ◌+◌, ◌*◌, ◌++◌, ℕ, List, [], length, sum, flat_map, ap, ◌∙◌, arith}
use Rattle.geos_model.specs.Words.{word}
use Rattle.geos_model.specs.LargeLayout.{branch_bytes}
use Rattle.large_bodies.specs.SizedElements.{SizedElements}
use Rattle.large_bodies.specs.ElementLengths.{places_by}
use Rattle.large_bodies.specs.PieceKeeping.{held_elements, KeepsElements}
use Rattle.large_bodies.specs.declared.piece.Piece.TheInside.{Inside}
use Rattle.large_bodies.proofs.PieceLemmas.{held-are}
use Rattle.large_bodies.proofs.BodyLemmas.{HasRoom, body-is, room-kept}
use Rattle.large_bodies.proofs.piece.Piece.body.Goals as goal

enough : (p : Inside) (w : SizedElements) → held_elements p ≡ w → KeepsElements p → HasRoom w.size p.count p.lengths.items p.bytes.items w.elements
enough p w is keeps = room-kept w.size p.count p.lengths.items p.bytes.items w.elements (held-are p w is keeps)

pub push_head-requires-clause-count : goal.push_head-requires-clause-count
push_head-requires-clause-count c = (let few = (enough c.self.inside c.args.self.now c.self.view_is c.self.invariant).few in omega arith)

pub push_places-requires : goal.push_places-requires
push_places-requires c =
    let near = (enough c.self.inside c.args.self.now c.self.view_is c.self.invariant).near in
    let long = ap length c.as_slice.ensures.value in
    let all = ap sum c.as_slice.ensures.value in
    omega arith

-- what is written
written : (p : Inside) (w : SizedElements) (first places all : List ℕ) → held_elements p ≡ w → KeepsElements p
    → first ≡ [] ++ (word 0 ++ word p.count ++ word p.size ++ word 0 ++ word 8) → places ≡ first ++ flat_map word (places_by (8 + 2 * length p.lengths.items) p.lengths.items)
    → all ≡ places ++ p.bytes.items → all ≡ branch_bytes w.size w.elements
written p w first places all is keeps begun table row =
    let size : p.size ≡ w.size = ap (λ (u : SizedElements). u.size) is in
    row
    ∙ ap (λ (xs : List ℕ). xs ++ p.bytes.items) (table ∙ ap (λ (xs : List ℕ). xs ++ flat_map word (places_by (8 + 2 * length p.lengths.items) p.lengths.items)) begun)
    ∙ ap (λ (n : ℕ). (word 0 ++ word p.count ++ word n ++ word 0 ++ word 8) ++ flat_map word (places_by (8 + 2 * length p.lengths.items) p.lengths.items) ++ p.bytes.items) size
    ∙ body-is w.size p.count p.lengths.items p.bytes.items w.elements (held-are p w is keeps)

pub returns-clause-value : goal.returns-clause-value
returns-clause-value c =
    written c.self.inside c.args.self.now c.push_head.new.out.items c.push_places.new.out.items c.extend_from_slice.new.self.items c.self.view_is c.self.invariant
    (c.in_ok-push_head.ensures ∙ ap (λ (xs : List ℕ). xs ++ (word 0 ++ word c.self.inside.count ++ word c.self.inside.size ++ word 0 ++ word 8)) c.in_ok-out.ensures.items)
    (c.in_ok-push_places.ensures ∙ ap (λ (ns : List ℕ). c.push_head.new.out.items ++ flat_map word (places_by (8 + 2 * length ns) ns)) c.as_slice.ensures.value)
    (c.in_ok-extend_from_slice.ensures.items ∙ ap (λ (xs : List ℕ). c.push_places.new.out.items ++ xs) c.as_slice-2.ensures.value)

pub returns-clause-short : goal.returns-clause-short
returns-clause-short c =
    let short = (enough c.self.inside c.args.self.now c.self.view_is c.self.invariant).short in
    let is = written c.self.inside c.args.self.now c.push_head.new.out.items c.push_places.new.out.items c.extend_from_slice.new.self.items c.self.view_is c.self.invariant
    (c.in_ok-push_head.ensures ∙ ap (λ (xs : List ℕ). xs ++ (word 0 ++ word c.self.inside.count ++ word c.self.inside.size ++ word 0 ++ word 8)) c.in_ok-out.ensures.items)
    (c.in_ok-push_places.ensures ∙ ap (λ (ns : List ℕ). c.push_head.new.out.items ++ flat_map word (places_by (8 + 2 * length ns) ns)) c.as_slice.ensures.value)
    (c.in_ok-extend_from_slice.ensures.items ∙ ap (λ (xs : List ℕ). c.push_places.new.out.items ++ xs) c.as_slice-2.ensures.value) in
    let long = ap length is in
    let ok = c.extend_from_slice.new.self.ok in
    omega arith
