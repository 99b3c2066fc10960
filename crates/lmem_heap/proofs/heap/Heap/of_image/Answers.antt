use Rattle.std.proofs.Common.{refl}
use Rattle.heap_images.proofs.HeapImageLemmas.{no_such_heap}
use Rattle.lmem_heap.proofs.heap.Heap.of_image.Goals as goal

pub returns-in-None-clause-err : goal.returns-in-None-clause-err
returns-in-None-clause-err c = (refl, no_such_heap c.args.bytes.now c.in-None.ensures.image)
