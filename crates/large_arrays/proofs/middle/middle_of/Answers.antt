use Rattle.std.proofs.Common.{◌≡◌, ◌∙◌, ◌++◌, ℕ, List, [], false, inl, inr}
use Rattle.vm_chains.proofs.Loading.{carried}
use Rattle.vm_chains.specs.Walking.{Stops}
use Rattle.geos_model.specs.declared.fault.Fault.{Fault}
use Rattle.geos_model.specs.declared.fault.Fault.TheVariants.{Memory}
use Rattle.geos_model.specs.LargeBlocks.{root_at}
use Rattle.large_arrays.specs.Bodies.{bytes_of_bodies}
use Rattle.large_arrays.specs.Middle.{are_there, run_branches}
use Rattle.geos_model.specs.Pieces.{BranchPiece}
use Rattle.large_arrays.specs.RunReading.{tail_room}
use Rattle.large_bodies.specs.SizedElements.{SizedElements}
use Rattle.geos_model.specs.Spread.{packed_from, with_last}
use Rattle.large_arrays.proofs.SpotRuns.{run-is}
use Rattle.large_arrays.proofs.MiddleRuns.{all-there, is-middle, one-missing}
use Rattle.large_arrays.proofs.middle.middle_of.Goals as goal

pub returns-in_err-ends-clause-value : goal.returns-in_err-ends-clause-value
returns-in_err-ends-clause-value c = λ d b i j is are.
    let s = c.args.spot.now in let has = run-is s c.requires.run in let bodies : List (List ℕ) = bytes_of_bodies c.args.bodies.now in
    let gone = are_there d (root_at d b) (run_branches s) ≡ false in
    carried c.from_residual.result c.in_err-ends.field-0.0 _ _ c.from_residual.ensures.1
    (elim c.in_err-ends.ensures as (λ _. Stops (λ (fault : Fault). fault ≡ Memory) gone c.in_err-ends.field-0.0) [
      | inl memory ↦ inl memory
      | inr bad ↦ inr (bad.0, one-missing s has bodies d b i j is are bad.1)
    ])

pub returns-clause-value : goal.returns-clause-value
returns-clause-value c = λ d b i j is are.
    let s = c.args.spot.now in let has = run-is s c.requires.run in let bodies : List (List ℕ) = bytes_of_bodies c.args.bodies.now in
    let ends = c.in_ok-ends.ensures in
    let head : SizedElements = c.in_ok-ends.ends.head in let tail : SizedElements = c.in_ok-ends.ends.tail in
    let new : BranchPiece = c.args.new.now.elements in
    let packed : c.in_ok-packed.field-0 ≡ record { size = head.size; pieces = packed_from head.size [] (head.elements ++ new) } = c.in_ok-packed.ensures in
    let joined : c.in_ok-pieces.pieces ≡ record { size = c.in_ok-packed.field-0.size; pieces = with_last c.in_ok-packed.field-0.size c.tail_room.result c.in_ok-packed.field-0.pieces tail.elements } = c.in_ok-pieces.ensures in
    let are_joined : c.in_ok-pieces.pieces ≡ record { size = head.size; pieces = with_last head.size (tail_room s) (packed_from head.size [] (head.elements ++ new)) tail.elements } =
    joined ∙ (λ t. record { size = (packed t).size; pieces = with_last (packed t).size (c.tail_room.ensures.value t) (packed t).pieces tail.elements }) in (
      all-there s has bodies d b i j is are ends.read,
      is-middle s has bodies d b i j is are head tail ends.head ends.tail new
          (record { pieces = c.in_ok-pieces.pieces; head = c.weight-head.result; tail = c.weight-tail.result }) are_joined c.weight-head.ensures.value c.weight-tail.ensures.value,
    )
