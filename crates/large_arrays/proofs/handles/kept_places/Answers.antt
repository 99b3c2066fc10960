use Rattle.std.proofs.Common.{arith}
use Rattle.large_arrays.proofs.HandlePlaces.{several_kept}
use Rattle.large_arrays.proofs.handles.kept_places.Goals as goal

pub returns : goal.returns
returns c =
    let some = c.if-pieces-eq0.false in
    let several = c.if-pieces-eq1.false in
    let any = c.if-count-eq0.false in
    let more = c.if-count-eq1.false in
    several_kept c.args.olds.now c.args.head c.args.pieces c.min.result (omega arith) (omega arith) c.min.ensures
