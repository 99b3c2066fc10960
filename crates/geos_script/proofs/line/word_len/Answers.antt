use Rattle.std.proofs.Common.{◌-◌, inl, inr, arith}
use Rattle.std.proofs.lemmas.Bool.{cases_lt}
use Rattle.geos_script.proofs.Words.{blank_tail, solid_head, solid_tail}
use Rattle.geos_script.proofs.line.word_len.Goals as goal

pub returns-clause-before : goal.returns-clause-before
returns-clause-before c = λ k lt.
    let text = c.args.text.now in
    elim (cases_lt k 4) [
      | inl short ↦ solid_head text 4 k short (c.run_of-end.ensures.before k (omega arith))
      | inr long ↦ solid_tail text 4 k long (c.rest_len.ensures.before (k - 4) (omega arith))
    ]

pub returns-clause-ends : goal.returns-clause-ends
returns-clause-ends c = λ lt. blank_tail c.args.text.now 4 c.rest_len.result (c.rest_len.ensures.ends (omega arith))
