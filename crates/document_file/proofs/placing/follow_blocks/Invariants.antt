use Rattle.document_file.proofs.FollowLemmas.{IsWalked}
use Rattle.document_file.proofs.placing.follow_blocks.Given as goal

abbrev pub invariant-loop-at : goal.invariant-loop-at
invariant-loop-at l = IsWalked l.old l.new l.at l.fn.space l.space
