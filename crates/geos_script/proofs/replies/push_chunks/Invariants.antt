use Rattle.std.proofs.Common.{◌≡◌, ◌++◌, codes, map, take}
use Rattle.geos_model.specs.Script.{listed}
use Rattle.geos_script.proofs.replies.push_chunks.Given as goal

abbrev pub invariant-loop-chunk : goal.invariant-loop-chunk
invariant-loop-chunk l = l.out.items ≡ l.fn.out.items ++ (codes "chunks" ++ listed (map (λ h. h.0) (take l.chunk-index l.chunks)))
