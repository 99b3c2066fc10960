use Rattle.std.proofs.Common.{sym, ◌∙◌, arith}
use Rattle.file_space.proofs.SpaceLemmas.{taken_counted}
use Rattle.document_file.proofs.ResultLemmas.{no_error}
use Rattle.document_file.proofs.placing.hold_again.Goals as goal

pub hold-requires-clause-behind_slots : goal.hold-requires-clause-behind_slots
hold-requires-clause-behind_slots c = (c.requires.taken.1.extents 0 c.args.extent (omega arith)).0

pub hold-requires-clause-in_range : goal.hold-requires-clause-in_range
hold-requires-clause-in_range c = (c.requires.taken.1.extents 0 c.args.extent (omega arith)).1

pub unreachable-requires : goal.unreachable-requires
unreachable-requires c = no_error c.hold.result (c.hold.ensures.room (taken_counted c.args.extent c.args.space.now c.requires.taken)) (sym c.is_err.ensures.value ∙ c.if-is_err.true)
