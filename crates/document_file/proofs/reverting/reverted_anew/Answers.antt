use Rattle.std.proofs.Common.{◌++◌, ap, length, subst, arith}
use Rattle.file_space.specs.Space.{AreTaken}
use Rattle.document_file.specs.Slots.{block_extents, referenced_extents}
use Rattle.document_file.proofs.PendingDirectoryLemmas.{spared_if}
use Rattle.document_file.proofs.PutBlocksLemmas.{few_extents, few_long}
use Rattle.document_file.proofs.reverting.reverted_anew.Goals as goal

pub known_space-requires-clause-few : goal.known_space-requires-clause-few
known_space-requires-clause-few c =
    let few = few_extents c.args.live.now c.args.slots.now c.requires.formed in
    let same = ap (λ ps. length (block_extents ps ++ referenced_extents c.args.slots.now)) c.deref.ensures.value in
    omega (arith, few, same)

pub saved_anew-requires-clause-few : goal.saved_anew-requires-clause-few
saved_anew-requires-clause-few c =
    let few = few_extents c.args.live.now c.args.slots.now c.requires.formed in
    let same = ap (λ ps. length (block_extents ps ++ referenced_extents c.args.slots.now)) c.deref.ensures.value in
    let count = c.in_ok-space.ensures.count in
    omega (arith, few, same, count)

pub returns-clause-spared : goal.returns-clause-spared
returns-clause-spared c =
    let live = c.args.live.now in
    let slots = c.args.slots.now in
    let are = subst (λ ps. AreTaken (block_extents ps ++ referenced_extents slots) c.in_ok-space.space) c.deref.ensures.value c.in_ok-space.ensures in
    spared_if live slots c.requires.formed c.in_ok-space.space c.in_ok-saved.saved (few_long live slots c.requires.formed) are c.in_ok-saved.ensures.made c.in_ok-saved.ensures.placed
