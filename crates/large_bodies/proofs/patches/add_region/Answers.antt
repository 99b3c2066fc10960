use Rattle.std.proofs.Common.{◌-◌, List, ℕ, length, take, drop}
use Rattle.std.proofs.lemmas.List.{take_rest}
use Rattle.std.proofs.lemmas.Result.{on_ok_weaker}
use Rattle.large_bodies.proofs.PatchedRegions.{region_added}
use Rattle.large_bodies.proofs.patches.add_region.Goals as goal

pub returns : goal.returns
returns c =
    let old : List ℕ = c.args.old.now in let new : List ℕ = c.args.new.now in
    let f : ℕ = c.common_front-front.result in
    let u : List ℕ = c.split_at.result.1.now in let v : List ℕ = take (length new - f) (drop f new) in
    on_ok_weaker c.add_kept-2.result
    (λ last. region_added old new u v f c.common_back-back.result c.common_front-front.ensures.common c.common_front-front.ensures.most
    c.split_at.ensures.back (take_rest new f) c.common_back-back.ensures.common c.common_back-back.ensures.most
    c.args.patch.now c.add_kept.new.patch c.add_put.new.patch c.add_kept-2.new.patch c.split_at.result.0.now c.split_at-2.result.0.now c.split_at-2.result.1.now
    c.split_at.ensures.front c.split_at-2.ensures.front c.split_at-2.ensures.back c.in_ok-add_kept.ensures c.in_ok-add_put.ensures last)
    c.add_kept-2.ensures
