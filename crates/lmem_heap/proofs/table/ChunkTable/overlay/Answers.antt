use Rattle.std.proofs.Common.{◌≡◌, ◌+◌, ◌-◌, ℕ, [], Some, None, length, get_or, set, unwrap_or, slice_range, ap, ◌∙◌, arith}
use Rattle.raw_region.specs.Bytes.{put}
use Rattle.raw_region.proofs.Puts.{length-put}
use Rattle.lmem_heap.proofs.ChunkBytesLemmas.{set_twice, bytes_set}
use Rattle.lmem_heap.proofs.FoundLemmas.{found_slot, found_still}
use Rattle.lmem_heap.proofs.table.ChunkTable.overlay.Goals.{After-slide}
use Rattle.lmem_heap.proofs.table.ChunkTable.overlay.Goals as goal

pub overflow_add-at : goal.overflow_add-at
overflow_add-at c = let is = c.requires.found in omega (arith, c.requires.room, is.size, is.ends)

-- what the slide leaves
slid : (c : After-slide) → c.slide.new.self.chunks ≡ set c.args.self.now.chunks c.args.found.slot (Some (put (unwrap_or (get_or c.args.self.now.chunks c.args.found.slot None) []) (c.args.at + length c.args.new.now)
    (slice_range (unwrap_or (get_or c.args.self.now.chunks c.args.found.slot None) []) c.args.from c.args.to)))
slid c =
    let m = c.args.self.now in let i = c.args.found.slot in let b = unwrap_or (get_or m.chunks i None) [] in let end : c.args.from + (c.args.to - c.args.from) ≡ c.args.to = omega arith in
    c.slide.ensures.chunks ∙ ap (λ (j : ℕ). set m.chunks i (Some (put b (c.args.at + length c.args.new.now) (slice_range b c.args.from j)))) end

pub write_found-requires-clause-found : goal.write_found-requires-clause-found
write_found-requires-clause-found c =
    let m = c.args.self.now in let b = unwrap_or (get_or m.chunks c.args.found.slot None) [] in let s = slid (goal.at.write_found-requires-clause-found c).After-slide in
    found_still m c.slide.new.self c.args.found _ c.requires.found s (length-put b (slice_range b c.args.from c.args.to) (c.args.at + length c.args.new.now)) c.slide.ensures.offsets

pub write_found-requires-clause-range : goal.write_found-requires-clause-range
write_found-requires-clause-range c =
    let m = c.args.self.now in let i = c.args.found.slot in let b = unwrap_or (get_or m.chunks i None) [] in let s = slid (goal.at.write_found-requires-clause-range c).After-slide in
    omega (arith, ap length (bytes_set m.chunks c.slide.new.self.chunks i _ (found_slot m c.args.found c.requires.found) s), length-put b (slice_range b c.args.from c.args.to) (c.args.at + length c.args.new.now), c.requires.room)

pub returns : goal.returns
returns c =
    let m = c.args.self.now in let i = c.args.found.slot in
    set_twice m.chunks c.slide.new.self.chunks c.write_found.new.self.chunks i _ (λ b. put b c.args.at c.args.new.now) (found_slot m c.args.found c.requires.found) (slid (goal.at.returns c).After-slide) c.write_found.ensures.chunks
