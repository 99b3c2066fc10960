use Rattle.std.proofs.Common.{arith}
use Rattle.document_file.proofs.FollowLemmas.{commit_among, commit_few, saved_among, saved_few, directory_taken, committed_taken}
use Rattle.document_file.proofs.placing.follow_documents.Goals as goal

pub follow_document-requires-clause-few : goal.follow_document-requires-clause-few
follow_document-requires-clause-few c =
    let few = commit_few c.args.directory c.args.live.now c.args.slots.now c.args.saves c.requires.formed c.requires.settled c.args.space.now c.args.space.now c.args.space.now c.args.space.now c.requires.taken in
    omega (arith, few)

pub follow_document-requires-clause-taken : goal.follow_document-requires-clause-taken
follow_document-requires-clause-taken c =
    commit_among c.args.directory c.args.live.now c.args.slots.now c.args.saves c.requires.formed c.requires.settled c.args.space.now c.args.space.now c.args.space.now c.args.space.now c.requires.taken

pub follow_saved-requires-clause-few : goal.follow_saved-requires-clause-few
follow_saved-requires-clause-few c =
    let few = saved_few c.args.directory c.args.live.now c.args.slots.now c.args.saves c.requires.formed c.requires.settled c.args.space.now c.follow_document.new.space c.args.space.now c.args.space.now c.requires.taken c.follow_document.ensures in
    omega (arith, few)

pub follow_saved-requires-clause-taken : goal.follow_saved-requires-clause-taken
follow_saved-requires-clause-taken c =
    saved_among c.args.directory c.args.live.now c.args.slots.now c.args.saves c.requires.formed c.requires.settled c.args.space.now c.follow_document.new.space c.args.space.now c.args.space.now c.requires.taken c.follow_document.ensures

pub release-requires : goal.release-requires
release-requires c =
    directory_taken c.args.directory c.args.live.now c.args.slots.now c.args.saves c.requires.formed c.requires.settled c.args.space.now c.follow_document.new.space c.follow_saved.new.space c.args.space.now c.requires.taken c.follow_document.ensures c.follow_saved.ensures

pub returns : goal.returns
returns c =
    committed_taken c.args.directory c.args.live.now c.args.slots.now c.args.saves c.requires.formed c.requires.settled c.args.space.now c.follow_document.new.space c.follow_saved.new.space c.release.new.self c.requires.taken c.follow_document.ensures c.follow_saved.ensures c.release.ensures.left
