use Rattle.std.proofs.Common.{◌≡◌, ℕ, length, subst, arith, rules}
use Rattle.file_salvage.specs.Rows.{AreRowEnds}
use Rattle.file_salvage.proofs.RowLemmas.{ends_none}
use Rattle.file_salvage.proofs.rows.lengths.Goals as goal

pub loop-i-init : goal.loop-i-init
loop-i-init c = record {
  ends = ends_none c.args.numbers.now c.args.ends.now.items c.requires;
  count = search rules;
  lengths = λ i below. absurd (omega (arith, below));
}

pub returns-clause-ends : goal.returns-clause-ends
returns-clause-ends c =
    let end : c.loop-i.i ≡ length c.args.numbers.now = omega arith in
    subst (λ (n : ℕ). AreRowEnds c.args.numbers.now n c.loop-i.ends.items) end c.loop-i.invariant.ends
