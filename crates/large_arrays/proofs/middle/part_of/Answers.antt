use Rattle.std.proofs.Common.{◌≡◌, ◌∙◌, ◌-◌, ◌+◌, ◌≤◌, [], ℕ, take, drop, sym, ap, arith}
use Rattle.std.proofs.Math.Path.{subst₂}
use Rattle.geos_model.specs.Pieces.{BranchPiece, branch_room, piece_weight}
use Rattle.large_bodies.specs.SizedElements.{SizedElements}
use Rattle.large_arrays.proofs.RunReads.{part-fits}
use Rattle.large_arrays.proofs.middle.part_of.Goals as goal

pub push_run-requires-clause-room : goal.push_run-requires-clause-room
push_run-requires-clause-room c =
    let xs : BranchPiece = c.args.view.now.array.elements in let size : ℕ = c.args.view.now.array.size in
    let from : ℕ = c.args.from in let to : ℕ = c.args.to in
    let fits = part-fits size from to xs in let room = c.requires.room in
    let sized : c.new-part.result.size ≡ size = ap (λ (p : SizedElements). p.size) c.new-part.ensures ∙ c.element_size.ensures in
    let none : c.new-part.result.elements ≡ [] = ap (λ (p : SizedElements). p.elements) c.new-part.ensures in
    subst₂ (λ (n : ℕ) (ys : BranchPiece). piece_weight n ys + piece_weight n (take (to - from) (drop from xs)) ≤ branch_room) (sym sized) (sym none) (omega arith)
