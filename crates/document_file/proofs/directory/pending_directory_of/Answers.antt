use Rattle.std.proofs.Common.{◌++◌, [], List, arith}
use Rattle.file_format.specs.declared.file.Extent.{Extent}
use Rattle.document_file.specs.Slots.{block_extents, referenced_extents}
use Rattle.document_file.proofs.PendingDirectoryLemmas.{first_spared, made_fits, made_pending}
use Rattle.document_file.proofs.PutBlocksLemmas.{few_extents, few_long}
use Rattle.document_file.proofs.directory.pending_directory_of.Goals as goal

pub place_directory-requires-clause-few : goal.place_directory-requires-clause-few
place_directory-requires-clause-few c =
    let few = few_extents c.args.live.now c.args.slots.now c.requires.formed in
    let count = c.requires.known.count in
    omega (arith, few, count)

pub returns-clause-pending : goal.returns-clause-pending
returns-clause-pending c =
    let live = c.args.live.now in
    let slots = c.args.slots.now in
    let pending = c.in_ok-pending.pending in
    let taken : List Extent = block_extents live.places.items ++ referenced_extents slots in
    let made = c.in_ok-pending.ensures.made in
    let first = (c.in_ok-pending.ensures.placed taken c.requires.known).0 in
    made_pending live slots pending c.requires.formed made (first_spared live slots pending c.requires.formed [] (made_fits live slots pending c.requires.formed.table made) (few_long live slots c.requires.formed) first).0
