use Rattle.std.proofs.Common.{◌≡◌, ◌++◌, codes, map, take}
use Rattle.geos_model.specs.Script.{listed}
use Rattle.geos_script.proofs.replies.push_blocks.Given as goal

abbrev pub invariant-loop-block : goal.invariant-loop-block
invariant-loop-block l = l.out.items ≡ l.fn.out.items ++ (codes "blocks" ++ listed (map (λ h. h.0) (take l.block-index l.blocks)))
