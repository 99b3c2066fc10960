use Rattle.std.proofs.Common.{◌≤◌, List, length, arith}
use Rattle.geos_model.specs.Chain.{free_handles}
use Rattle.geos_model.specs.Document.{Document}
use Rattle.geos_model.specs.declared.handle.VmHandle.{VmHandle}
use Rattle.large_arrays.proofs.Created.{creation_planned, handle_at, many_found}
use Rattle.large_arrays.proofs.create.plan_create.Goals as goal

pub returns : goal.returns
returns g c =
    let d : Document = c.args.blocks.now.document in
    let hs : List VmHandle = c.in_ok-handles.handles.items in
    let many : 2 ≤ length hs = omega (arith, c.in_ok-handles.handles.ok.0) in
    let enough : 2 ≤ length (free_handles d) = omega (arith, many, many_found d hs c.in_ok-handles.ensures) in
    creation_planned d c.args.user_id c.args.size c.in_ok-members.members c.index-root.result.now c.index-branch.result.now (omega arith) enough
    (handle_at d hs 0 c.index-root.result.now c.in_ok-handles.ensures (omega (arith, many)) c.index-root.ensures)
    (handle_at d hs 1 c.index-branch.result.now c.in_ok-handles.ensures (omega (arith, many)) c.index-branch.ensures)
    c.in_ok-members.ensures
