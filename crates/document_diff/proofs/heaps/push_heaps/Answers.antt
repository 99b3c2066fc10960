use Rattle.std.proofs.Common.{◌∙◌, ap, sym}
use Rattle.document_diff.specs.Merging.{handle_numbers}
use Rattle.document_diff.proofs.Merged.{fewer_left, merging_all, merging_more, merging_none}
use Rattle.document_diff.proofs.heaps.push_heaps.Goals as goal

pub loop-chunk-init : goal.loop-chunk-init
loop-chunk-init c =
    merging_none c.args.block c.args.old.now.chunks c.args.new.now.chunks c.args.out.now.items _ _ (ap handle_numbers c.as_slice-before.ensures.value ∙ c.in_ok-old_handles.ensures)
    (ap handle_numbers c.as_slice-after.ensures.value ∙ c.in_ok-new_handles.ensures)

pub loop-chunk-preserved : goal.loop-chunk-preserved
loop-chunk-preserved c =
    merging_more c.args.block c.args.old.now.chunks c.args.new.now.chunks c.args.out.now.items c.loop-chunk.out.items c.push_entry.new.out.items c.loop-chunk.before.now c.loop-chunk.after.now
    c.behind-before.result.now c.behind-after.result.now c.in-Some.chunk c.loop-chunk.invariant (sym c.in-Some.ensures) c.in_ok-push_entry.ensures c.behind-before.ensures c.behind-after.ensures

pub loop-chunk-smaller : goal.loop-chunk-smaller
loop-chunk-smaller c =
    fewer_left c.loop-chunk.before.now c.loop-chunk.after.now c.behind-before.result.now c.behind-after.result.now c.in-Some.chunk.0 (sym c.in-Some.ensures) c.behind-before.ensures c.behind-after.ensures

pub returns : goal.returns
returns c =
    merging_all c.args.block c.args.old.now.chunks c.args.new.now.chunks c.args.out.now.items c.loop-chunk.out.items c.loop-chunk.before.now c.loop-chunk.after.now c.loop-chunk.invariant (sym c.in_default.ensures)
