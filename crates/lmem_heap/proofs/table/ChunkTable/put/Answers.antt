use Rattle.std.proofs.Common.{◌≡◌, ◌+◌, ◌++◌, ◌∙◌, ℕ, List, Some, length, replicate, set, ap, arith}
use Rattle.std.proofs.lemmas.List.{length-replicate, drop_all, append-nil}
use Rattle.raw_region.specs.Bytes.{put}
use Rattle.raw_region.proofs.Puts.{put_is}
use Rattle.lmem_heap.proofs.ChunkBytesLemmas.{set_twice}
use Rattle.lmem_heap.proofs.table.ChunkTable.put.Goals as goal

-- bytes over as many bytes
put_whole : (xs ws : List ℕ) → length xs ≡ length ws → put xs 0 ws ≡ ws
put_whole xs ws same = put_is xs ws 0 (omega arith) ∙ (ap (λ (l : List ℕ). ws ++ l) (drop_all (0 + length ws) xs (omega arith)) ∙ append-nil ws)

pub returns : goal.returns
returns c =
    let m = c.args.self.now in let i = c.args.i in let ws = c.args.bytes.now in let z : List ℕ = replicate (length ws) 0 in
    set_twice m.chunks c.place.new.self.chunks c.write.new.self.chunks i z (λ x. put x 0 ws) c.requires.slot c.place.ensures c.write.ensures.chunks
    ∙ ap (λ (x : List ℕ). set m.chunks i (Some x)) (put_whole z ws (length-replicate {A = ℕ} (length ws) 0))
