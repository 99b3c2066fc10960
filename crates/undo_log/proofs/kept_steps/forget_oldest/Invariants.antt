use Rattle.std.proofs.Common.{◌≡◌, ◌-◌, true, length, take}
use Rattle.undo_log.proofs.kept_steps.forget_oldest.Given as goal

abbrev pub invariant-loop : goal.invariant-loop
invariant-loop l = record {
  before : l.log.before ≡ take (length l.initial.log.before - l.counter) l.initial.log.before;
  behind : l.log.behind ≡ l.initial.log.behind;
  place : l.initial.log.place ≡ true → l.log.place ≡ true;
}
