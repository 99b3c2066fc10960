use Rattle.std.proofs.Common.{◌≡◌, ◌+◌, ◌-◌, ℕ, List, [], Some, None, length, get_or, set, unwrap_or, slice_range, refl, sym, ap, ◌∙◌, arith}
use Rattle.std.proofs.lemmas.List.{set-get_or}
use Rattle.std.specs.List as list
use Rattle.geos_model.specs.Bytes.{resized}
use Rattle.raw_region.specs.Bytes.{put}
use Rattle.lmem_heap.proofs.ChunkBytesLemmas.{set_twice, replaced_longer, replaced_shorter}
use Rattle.lmem_heap.proofs.FoundLemmas.{found_slot, room_as}
use Rattle.lmem_heap.proofs.PlacedLemmas.{length-splice}
use Rattle.lmem_heap.proofs.ResizingLemmas.{count_resized}
use Rattle.lmem_heap.proofs.table.ChunkTable.replace_resized.Goals as goal

pub resize-requires-clause-room : goal.resize-requires-clause-room
resize-requires-clause-room c =
    let m = c.args.self.now in let f = c.args.found in let is = c.requires.found in let b = unwrap_or (get_or m.chunks f.slot None) [] in let ws = c.args.new.now in let end = f.run.size - c.args.k + length ws in
    let same : length (resized b end) ≡ length (list.splice b c.args.at (c.args.at + c.args.k) ws) = omega (arith, count_resized b end, length-splice b ws c.args.at c.args.k c.requires.range, is.size) in
    room_as m.chunks m.chunks f.slot (get_or m.chunks f.slot None) _ _ (found_slot m f is) (sym (set-get_or m.chunks f.slot None)) same c.requires.room

pub resize-requires-else-end-run-clause-room : goal.resize-requires-else-end-run-clause-room
resize-requires-else-end-run-clause-room c =
    let m = c.args.self.now in let n = c.overlay-else-end-run.new.self in let f = c.args.found in let is = c.requires.found in let b = unwrap_or (get_or m.chunks f.slot None) [] in let x = unwrap_or (get_or n.chunks f.slot None) [] in
    let ws = c.args.new.now in let end = f.run.size - c.args.k + length ws in
    let same : length (resized x end) ≡ length (list.splice b c.args.at (c.args.at + c.args.k) ws) = omega (arith, count_resized x end, length-splice b ws c.args.at c.args.k c.requires.range, is.size) in
    room_as m.chunks n.chunks f.slot _ _ _ (found_slot m f is) c.overlay-else-end-run.ensures same c.requires.room

pub returns-then-end-run : goal.returns-then-end-run
returns-then-end-run c =
    let m = c.args.self.now in let f = c.args.found in let is = c.requires.found in let i = f.slot in let at = c.args.at in let k = c.args.k in let ws = c.args.new.now in let size = f.run.size in
    let b = unwrap_or (get_or m.chunks i None) [] in let over = λ (x : List ℕ). put (put x (at + length ws) (slice_range x (at + k) size)) at ws in
    let overlaid : c.overlay.new.self.chunks ≡ set c.resize.new.self.chunks i (Some (over (unwrap_or (get_or c.resize.new.self.chunks i None) [])))
    = c.overlay.ensures ∙ ap (λ (j : ℕ). set c.resize.new.self.chunks j (Some (over (unwrap_or (get_or c.resize.new.self.chunks j None) [])))) c.find_live-longer.ensures.slot in
    set_twice m.chunks c.resize.new.self.chunks c.overlay.new.self.chunks i _ over (found_slot m f is) c.resize.ensures overlaid
    ∙ ap (λ (x : List ℕ). set m.chunks i (Some x)) (replaced_longer b ws at k size _ is.size c.requires.range refl c.if-end-run.true)

pub returns-else-end-run : goal.returns-else-end-run
returns-else-end-run c =
    let m = c.args.self.now in let f = c.args.found in let is = c.requires.found in let i = f.slot in let at = c.args.at in let k = c.args.k in let ws = c.args.new.now in let size = f.run.size in let b = unwrap_or (get_or m.chunks i None) [] in
    set_twice m.chunks c.overlay-else-end-run.new.self.chunks c.resize-else-end-run.new.self.chunks i _ (λ x. resized x (size - k + length ws)) (found_slot m f is) c.overlay-else-end-run.ensures c.resize-else-end-run.ensures
    ∙ ap (λ (x : List ℕ). set m.chunks i (Some x)) (replaced_shorter b ws at k size _ is.size c.requires.range refl c.if-end-run.false)
