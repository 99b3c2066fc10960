use Rattle.std.proofs.lemmas.Result.{on_ok_weaker}
use Rattle.document_dump.proofs.ArraysMade.{array_pushed}
use Rattle.document_dump.proofs.arrays.push_array.Goals as goal

pub returns : goal.returns
returns c =
    on_ok_weaker c.push_elements.result (λ pushed.
    array_pushed c.args.block c.args.chunk c.args.view.now.array c.element_size.result c.extra.result.now c.extra-2.result.now
    c.args.out.now.items c.push_create_array.new.out.items c.push_extra.new.out.items c.push_elements.new.out.items
    c.element_size.ensures c.extra.ensures c.extra-2.ensures c.in_ok-push_create_array.ensures c.in_ok-push_extra.ensures pushed) c.push_elements.ensures
