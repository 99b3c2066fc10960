use Rattle.std.proofs.Common.{subst}
use Rattle.document_stat.specs.Tallies.{IsLargest}
use Rattle.document_stat.proofs.Tallies.{larger_kept, larger_new}
use Rattle.document_stat.proofs.tally.Tally.larger.Goals as goal

pub returns-in-Some : goal.returns-in-Some
returns-in-Some c items is = larger_kept items c.in-Some.largest c.args.item (subst (λ o. IsLargest items o) c.in-Some.is is) c.if-item-largest.true

pub returns-in_default : goal.returns-in_default
returns-in_default c items is = larger_new items c.in-Some.largest c.args.item (subst (λ o. IsLargest items o) c.in-Some.is is) c.if-item-largest.false
