use Rattle.std.proofs.Common.{◌≡◌, ◌+◌, ◌∙◌, ℕ, List, [], Some, None, length, get_or, set, unwrap_or, slice_range, ap, arith}
use Rattle.std.proofs.lemmas.List.Edits.{length-between}
use Rattle.raw_region.specs.Bytes.{put}
use Rattle.lmem_heap.proofs.FoundLemmas.{found_slot, found_run}
use Rattle.lmem_heap.proofs.LendsChunkLemmas.{run_part, over_stored, over_chunks, over_offsets}
use Rattle.lmem_heap.proofs.table.ChunkTable.slide.Goals as goal

pub overflow_add-run : goal.overflow_add-run
overflow_add-run c = let is = c.requires.found in record { fits = omega (arith, is.size, is.ends, c.requires.source) }

pub overflow_add-run-2 : goal.overflow_add-run-2
overflow_add-run-2 c = let is = c.requires.found in record { fits = omega (arith, is.size, is.ends, c.requires.target) }

pub slide-requires-clause-source : goal.slide-requires-clause-source
slide-requires-clause-source c = let is = c.requires.found in omega (arith, is.size, is.ends, c.requires.source)

pub slide-requires-clause-target : goal.slide-requires-clause-target
slide-requires-clause-target c = let is = c.requires.found in omega (arith, is.size, is.ends, c.requires.target)

pub invariant_of-self : goal.invariant_of-self
invariant_of-self c =
    let s = c.self.inside.space in let m = c.args.self.now in let f = c.args.found in let is = c.requires.found in let l = found_slot m f is in let run = found_run s m f c.self.invariant c.self.view_is is in
    let from = f.run.from + c.args.from in let moved = slice_range s.region from (from + c.args.n) in let long = c.self.invariant.well_formed.held.tiled.long in
    let size : length moved ≡ c.args.n = omega (arith, length-between s.region from (from + c.args.n) (omega (arith, is.size, is.ends, c.requires.source))) in
    over_stored s m f.slot f.run.from f.run.size c.self.invariant c.self.view_is l run is.live c.slide.new.self c.args.to moved (omega (arith, is.size, c.requires.target)) c.slide.ensures

pub returns-clause-chunks : goal.returns-clause-chunks
returns-clause-chunks c =
    let s = c.self.inside.space in let m = c.args.self.now in let f = c.args.found in let is = c.requires.found in let l = found_slot m f is in let run = found_run s m f c.self.invariant c.self.view_is is in
    let from = f.run.from + c.args.from in let moved = slice_range s.region from (from + c.args.n) in let long = c.self.invariant.well_formed.held.tiled.long in
    let size : length moved ≡ c.args.n = omega (arith, length-between s.region from (from + c.args.n) (omega (arith, is.size, is.ends, c.requires.source))) in
    over_chunks s m f.slot f.run.from f.run.size c.self.invariant c.self.view_is l run is.live c.slide.new.self c.args.to moved (omega (arith, is.size, c.requires.target)) c.slide.ensures
    ∙ ap (λ (x : List ℕ). set m.chunks f.slot (Some (put (unwrap_or (get_or m.chunks f.slot None) []) c.args.to x)))
    (run_part s m f.slot f.run.from f.run.size c.args.from c.args.n c.self.invariant c.self.view_is l run (omega (arith, is.size, c.requires.source)))

pub returns-clause-offsets : goal.returns-clause-offsets
returns-clause-offsets c =
    let s = c.self.inside.space in let m = c.args.self.now in let f = c.args.found in let is = c.requires.found in let l = found_slot m f is in let run = found_run s m f c.self.invariant c.self.view_is is in
    let from = f.run.from + c.args.from in let moved = slice_range s.region from (from + c.args.n) in let long = c.self.invariant.well_formed.held.tiled.long in
    let size : length moved ≡ c.args.n = omega (arith, length-between s.region from (from + c.args.n) (omega (arith, is.size, is.ends, c.requires.source))) in
    over_offsets s m f.slot f.run.from f.run.size c.self.invariant c.self.view_is l run is.live c.slide.new.self c.args.to moved (omega (arith, is.size, c.requires.target)) c.slide.ensures
