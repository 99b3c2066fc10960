use Rattle.std.proofs.Common.{◌≡◌, ◌+◌, true, subst, sym}
use Rattle.file_map.specs.Walks.{IsPartWalk, begins_by}
use Rattle.file_map.specs.declared.walk.Ends.{Ends}
use Rattle.file_map.proofs.WalkLemmas.{walk_more}
use Rattle.file_map.proofs.walk.advance.Goals as goal

pub loop-walk-preserved : goal.loop-walk-preserved
loop-walk-preserved c =
    let begins : begins_by c.args.parts.now c.loop-walk.walk.next c.args.page ≡ true = cc in
    subst (λ (e : Ends). IsPartWalk c.args.parts.now c.args.page (record { next = c.loop-walk.walk.next + 1; ends = e })) (sym c.ends_behind.ensures)
    (walk_more c.args.parts.now c.args.page c.loop-walk.walk _ c.loop-walk.invariant begins)
