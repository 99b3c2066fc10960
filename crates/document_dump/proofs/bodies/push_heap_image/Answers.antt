use Rattle.std.proofs.Common.{◌++◌, ap, sym, ◌∙◌}
use Rattle.geos_model.specs.declared.command.Body.{Body}
use Rattle.document_dump.specs.Lines.{text}
use Rattle.document_dump.specs.Changes.{block_made}
use Rattle.file_report.proofs.HeapLemmas.{heap_image}
use Rattle.document_dump.proofs.bodies.push_heap_image.Goals as goal

pub returns-clause-ok : goal.returns-clause-ok
returns-clause-ok c = λ body valid same.
    let made = c.in_ok-heap.ensures.heap in
    c.in_ok-push_heap.ensures ∙ ap (λ (b : Body). c.args.out.now.items ++ text (block_made c.args.block c.args.attributes b)) (sym (heap_image body _ c.args.bytes.now valid made.1 same made.0))
