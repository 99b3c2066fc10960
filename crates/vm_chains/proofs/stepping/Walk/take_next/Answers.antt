use Rattle.std.proofs.Common.{refl, sym, ◌∙◌, arith}
use Rattle.vm_chains.proofs.StepLemmas.{met_again, too_many}
use Rattle.vm_chains.proofs.stepping.Walk.take_next.Goals as goal

pub returns-then-len-self : goal.returns-then-len-self
returns-then-len-self c = (refl, λ d. too_many d c.args.self.now (omega (arith, c.len.ensures, c.if-len-self.true)))

pub returns-then-contains : goal.returns-then-contains
returns-then-contains c =
    (refl, λ d. met_again d c.args.self.now c.in-Some.handle.0 c.pop.new.self c.in-Some.ensures (omega (arith, c.len.ensures, c.if-len-self.false)) (sym c.contains.ensures ∙ c.if-contains.true))
