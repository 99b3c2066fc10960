use Rattle.std.proofs.Common.{◌∙◌}
use Rattle.lmem_heap.proofs.PlacedLemmas.{shown_chunks, valid_is, image_made}
use Rattle.lmem_heap.proofs.heap.Heap.image.Goals as goal

pub returns-in_err-image-clause-valid : goal.returns-in_err-image-clause-valid
returns-in_err-image-clause-valid c = let s = c.self.inside in valid_is s.table.chunks s.gap c.args.self.now.chunks (shown_chunks c.self.inside.table c.args.self.now c.self.view_is) c.self.invariant.0

pub returns-in_err-push-clause-valid : goal.returns-in_err-push-clause-valid
returns-in_err-push-clause-valid c = let s = c.self.inside in valid_is s.table.chunks s.gap c.args.self.now.chunks (shown_chunks c.self.inside.table c.args.self.now c.self.view_is) c.self.invariant.0

pub returns-in_err-extend_from_slice-clause-valid : goal.returns-in_err-extend_from_slice-clause-valid
returns-in_err-extend_from_slice-clause-valid c = let s = c.self.inside in valid_is s.table.chunks s.gap c.args.self.now.chunks (shown_chunks c.self.inside.table c.args.self.now c.self.view_is) c.self.invariant.0

pub returns-in_err-push_sizes-clause-valid : goal.returns-in_err-push_sizes-clause-valid
returns-in_err-push_sizes-clause-valid c = let s = c.self.inside in valid_is s.table.chunks s.gap c.args.self.now.chunks (shown_chunks c.self.inside.table c.args.self.now c.self.view_is) c.self.invariant.0

pub returns-in_err-push_chunks-clause-valid : goal.returns-in_err-push_chunks-clause-valid
returns-in_err-push_chunks-clause-valid c = let s = c.self.inside in valid_is s.table.chunks s.gap c.args.self.now.chunks (shown_chunks c.self.inside.table c.args.self.now c.self.view_is) c.self.invariant.0

pub returns-clause-valid : goal.returns-clause-valid
returns-clause-valid c = let s = c.self.inside in valid_is s.table.chunks s.gap c.args.self.now.chunks (shown_chunks c.self.inside.table c.args.self.now c.self.view_is) c.self.invariant.0

pub returns-clause-bytes : goal.returns-clause-bytes
returns-clause-bytes c =
    let s = c.self.inside in
    image_made s.table.chunks c.len-slots.result c.in_ok-image.image.items c.push.new.self.items c.extend_from_slice.new.self.items c.push_sizes.new.image.items c.push_chunks.new.image.items c.as_slice.result.now c.args.self.now.chunks (shown_chunks c.self.inside.table c.args.self.now c.self.view_is)
    c.in_ok-image.ensures.items c.in_ok-push.ensures.items c.in_ok-extend_from_slice.ensures.items (c.as_slice.ensures ∙ c.to_le_bytes.ensures) c.in_ok-push_sizes.ensures c.in_ok-push_chunks.ensures c.len-slots.ensures.chunks c.self.invariant.0.0
