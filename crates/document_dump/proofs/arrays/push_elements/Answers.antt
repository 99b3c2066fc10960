use Rattle.document_dump.proofs.ArraysMade.{inserted_more, inserted_none}
use Rattle.document_dump.proofs.arrays.push_elements.Goals as goal

pub loop-i-init : goal.loop-i-init
loop-i-init c = inserted_none c.args.block c.args.chunk c.args.view.now.array.elements c.args.out.now.items

pub loop-i-preserved : goal.loop-i-preserved
loop-i-preserved c =
    inserted_more c.args.block c.args.chunk c.args.view.now.array.elements c.count-count.result c.loop-i.i c.element.result.now c.args.out.now.items c.loop-i.out.items c.push_insert.new.out.items
    c.loop-i-test.true c.count-count.ensures c.element.ensures c.loop-i.invariant c.in_ok-push_insert.ensures
