use Rattle.std.proofs.Common.{◌≡◌, inl, inr, arith, sym, ap, ◌∙◌}
use Rattle.std.proofs.lemmas.Bool.{cases_lt}
use Rattle.file_report.specs.Findings.{handle_at}
use Rattle.file_report.proofs.entry.lists.Goals as goal

pub loop-i-preserved : goal.loop-i-preserved
loop-i-preserved c j below = elim (cases_lt j c.loop-i.i) [
  | inl less ↦ c.loop-i.invariant j less
  | inr more ↦ λ same. let last : j ≡ c.loop-i.i = omega (arith, below, more) in c.if-handle_at-handle.false (c.handle_at.ensures ∙ ap (handle_at c.args.bytes.now) (sym last) ∙ same)
]

pub returns : goal.returns
returns c none i has = c.loop-i.invariant i (let less = c.whole_entries-i-end.ensures.all i has in omega (arith, less))
