use Rattle.std.proofs.lemmas.Bool.{ne_eqb}
use Rattle.large_bodies.proofs.NewElementsLemmas.{even-new}
use Rattle.large_bodies.proofs.new_elements.NewElements.new.Goals as goal

pub invariant_of-result-2 : goal.invariant_of-result-2
invariant_of-result-2 c = even-new c.args.size c.args.bytes.now (ne_eqb c.args.size 0 c.if-size-eq0.false) c.requires c.if-bytes-size-ne0.false
