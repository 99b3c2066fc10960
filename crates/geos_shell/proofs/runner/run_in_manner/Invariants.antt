-- What was read is answered, in as many reads as turns, and the replies are sent.
use Rattle.std.proofs.Common.{◌≡◌, ◌*◌, ◌≤◌, []}
use Rattle.geos_replies.specs.Holdings.{holding}
use Rattle.geos_shell.specs.Progress.{moment}
use Rattle.geos_shell.specs.Streams.{ReadsOften}
use Rattle.geos_shell.proofs.Runs.{Ran}
use Rattle.geos_shell.proofs.runner.run_in_manner.Given as goal

abbrev pub invariant-loop : goal.invariant-loop
invariant-loop g l =
    Ran g.S.Store.facts l.initial.manner (holding l.initial.session l.initial.target l.initial.former) (g.R.Source.remaining l.initial.reader) (g.R.Source.remaining l.reader) (g.W.Sink.contents l.initial.writer) (g.W.Sink.contents l.writer)
    (moment (holding l.session l.target l.former) l.answering)
    × ReadsOften g.R.Source.reads l.counter l.initial.reader l.reader
    × (l.answering.replies.items ≡ [])
    × (l.answering.ended ≤ l.counter * 16384)
