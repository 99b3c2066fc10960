use Rattle.std.proofs.Common.{◌≡◌, ◌∙◌, ◌+◌, ◌-◌, ◌<◌, ◌≤◌, ℕ, List, [], length, take, Some, sym, ap, arith}
use Rattle.std.proofs.lemmas.List.{take_all}
use Rattle.geos_model.specs.Heap.{capacity}
use Rattle.geos_model.specs.Pieces.{BranchPiece, piece_weight, branch_room}
use Rattle.geos_model.specs.LargeLayout.{branch_of}
use Rattle.large_bodies.specs.SizedElements.{SizedElements}
use Rattle.geos_model.proofs.BranchBytes.{branch_of-is, length-branch_bytes}
use Rattle.large_arrays.proofs.joining.read_piece.Goals as goal

-- a body has no more than there is room for
room : (size count : ℕ) (bytes : List ℕ) (xs : BranchPiece) (piece : SizedElements) → size < 65536 → length bytes ≤ capacity → branch_of size count bytes ≡ Some xs
    → piece ≡ record { size = size; elements = [] } → piece_weight piece.size piece.elements + piece_weight piece.size (take (count - 0) xs) ≤ branch_room
room size count bytes xs piece small short read is =
    let found = branch_of-is size count bytes xs small read in
    let many : length xs ≤ count - 0 = (let same = found.0 in omega arith) in
    let long : 10 + piece_weight size xs ≡ length bytes = sym (length-branch_bytes size xs) ∙ ap (λ (bs : List ℕ). length bs) found.1 in
    let none : piece_weight piece.size piece.elements ≡ 0 = ap (λ (p : SizedElements). piece_weight p.size p.elements) is in
    let all : piece_weight piece.size (take (count - 0) xs) ≡ piece_weight size xs =
    ap (λ (p : SizedElements). piece_weight p.size (take (count - 0) xs)) is ∙ ap (piece_weight size) (take_all (count - 0) xs many) in
    omega arith

pub push_run-requires-clause-room : goal.push_run-requires-clause-room
push_run-requires-clause-room c =
    room c.args.size c.args.count c.args.body.now c.in_ok-view.view.array.elements c.new-piece.result c.requires.small c.requires.short c.in_ok-view.ensures.value c.new-piece.ensures
