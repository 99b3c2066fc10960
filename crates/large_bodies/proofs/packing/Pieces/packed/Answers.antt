use Rattle.std.proofs.Common.{◌≡◌, ◌<◌, ◌++◌, ℕ, true, [], length, sym, subst, ◌∙◌}
use Rattle.geos_model.specs.Pieces.{BranchPiece, each_fits}
use Rattle.large_bodies.specs.SizedElements.{SizedElements, SizedPieces}
use Rattle.large_bodies.specs.Filling.{FillsPiece}
use Rattle.large_bodies.specs.PiecesKeeping.{with_piece_behind}
use Rattle.large_bodies.proofs.PackingLemmas.{IsPacking, packing-begun, packing-next}
use Rattle.large_bodies.proofs.packing.Pieces.packed.Goals as goal

begun : (head new piece left : SizedElements) (size : ℕ) (done : SizedPieces) → new.size ≡ head.size → FillsPiece head piece new left → size ≡ head.size → done ≡ record { size = size; pieces = [] }
    → IsPacking size done piece left (head.elements ++ new.elements)
begun head new piece left size done same fills size_is done_is =
    let P : SizedPieces → Type 0 = λ u. IsPacking size u piece left (head.elements ++ new.elements) in
    let Q : ℕ → Type 0 = λ n. IsPacking n (record { size = n; pieces = [] }) piece left (head.elements ++ new.elements) in
    subst P (sym done_is) (subst Q (sym size_is) (packing-begun head new piece left same fills))

pub loop-left-init : goal.loop-left-init
loop-left-init c = begun c.args.head c.args.new.now c.fill.new.piece c.in_ok-left.left c.element_size-size.result c.none-pieces.result c.requires c.in_ok-left.ensures c.element_size-size.ensures c.none-pieces.ensures

-- with a piece that is done, and one that is begun
next : (size count : ℕ) (done next_done : SizedPieces) (piece left empty next_piece next_left : SizedElements) (elements : BranchPiece) → IsPacking size done piece left elements
    → count ≡ length left.elements → (count ≡ 0 → ⊥) → each_fits left.size left.elements ≡ true → next_done ≡ with_piece_behind done piece.elements → empty ≡ record { size = size; elements = [] }
    → FillsPiece empty next_piece left next_left → IsPacking size next_done next_piece next_left elements × (length next_left.elements < length left.elements)
next size count done next_done piece left empty next_piece next_left elements is counted some fit done_is empty_is fills =
    let P : SizedElements → Type 0 = λ u. FillsPiece u next_piece left next_left in
    packing-next size done next_done piece left next_piece next_left elements is (λ none. some (counted ∙ none)) fit done_is (subst P empty_is fills)

pub loop-left-preserved : goal.loop-left-preserved
loop-left-preserved c =
    (next c.element_size-size.result c.count.result c.loop-left.pieces c.push.new.self c.loop-left.piece c.loop-left.left c.new-piece.result c.fill-in-loop-left.new.piece c.in_ok-left-2.left
    (c.args.head.elements ++ c.args.new.now.elements) c.loop-left.invariant c.count.ensures.value c.loop-left-test.true c.count.ensures.fits c.in_ok-push.ensures c.new-piece.ensures
    c.in_ok-left-2.ensures).0
