use Rattle.std.proofs.Common.{◌≡◌, ◌≤◌, ◌+◌, ◌*◌, length, ap, arith, leb-true}
use Rattle.geos_model.specs.Pieces.{piece_weight, branch_room}
use Rattle.large_bodies.specs.PieceKeeping.{AreHeldElements}
use Rattle.large_bodies.specs.SizedElements.{SizedElements}
use Rattle.large_bodies.specs.declared.piece.Piece.TheInside.{Inside}
use Rattle.large_bodies.proofs.PieceLemmas.{weight-kept, held-are}
use Rattle.large_bodies.proofs.piece.Piece.weight.Goals as goal

-- what is kept weighs so much
weighed : (p : Inside) (w : SizedElements) → AreHeldElements w.size p.count p.lengths.items p.bytes.items w.elements
    → (length p.bytes.items + 2 * length p.lengths.items ≡ piece_weight w.size w.elements) × (length p.bytes.items + 2 * length p.lengths.items ≤ branch_room)
weighed p w kept =
    let is = weight-kept w.size w.elements in
    let bytes = ap length kept.joined in
    let lengths = ap length kept.kept in
    let most = leb-true (piece_weight w.size w.elements) branch_room kept.holds.room in
    (omega arith, omega arith)

pub overflow_add-result : goal.overflow_add-result
overflow_add-result c =
    let all = weighed c.self.inside c.args.self.now (held-are c.self.inside c.args.self.now c.self.view_is c.self.invariant) in
    let most = all.1 in
    omega arith

pub returns-clause-value : goal.returns-clause-value
returns-clause-value c =
    let all = weighed c.self.inside c.args.self.now (held-are c.self.inside c.args.self.now c.self.view_is c.self.invariant) in
    let is = all.0 in
    omega arith

pub returns-clause-fits : goal.returns-clause-fits
returns-clause-fits c =
    let all = weighed c.self.inside c.args.self.now (held-are c.self.inside c.args.self.now c.self.view_is c.self.invariant) in
    let most = all.1 in
    omega arith
