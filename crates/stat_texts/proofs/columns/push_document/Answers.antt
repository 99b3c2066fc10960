use Rattle.stat_texts.specs.Columns.{array_lines, document_start, heap_stat_lines, sized_lines}
use Rattle.stat_texts.proofs.Joined.{four}
use Rattle.stat_texts.proofs.columns.push_document.Goals as goal

pub returns : goal.returns
returns c =
    let d = c.args.document.now in
    four c.args.out.now.items c.push_start.new.out.items c.push_sized.new.out.items c.push_heaps.new.out.items c.push_arrays.new.out.items
    (document_start c.args.name.now d) (sized_lines d.blocks) (heap_stat_lines d.blocks)
    (array_lines d.blocks.chunks.arrays)
    c.in_ok-push_start.ensures c.in_ok-push_sized.ensures c.in_ok-push_heaps.ensures c.in_ok-push_arrays.ensures
