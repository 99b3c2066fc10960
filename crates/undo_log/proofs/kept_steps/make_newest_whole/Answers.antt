use Rattle.std.proofs.Common.{sym, ap, ◌∙◌}
use Rattle.std.specs.Option.{option_map}
use Rattle.packed_log.specs.Lent.{record_of}
use Rattle.undo_log.proofs.Entries.{some_there}
use Rattle.undo_log.proofs.kept_steps.make_newest_whole.Goals as goal

pub returns-in-None-clause-ok : goal.returns-in-None-clause-ok
returns-in-None-clause-ok c = absurd (some_there c.args.log.now.before c.requires (sym c.newest.ensures.first ∙ ap (option_map record_of) c.in-None.is))
