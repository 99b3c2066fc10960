use Rattle.std.proofs.Common.{◌≡◌, ◌++◌}
use Rattle.vm_chains.proofs.LinkLemmas.{links_from}
use Rattle.vm_chains.proofs.links.push_links.Given as goal

-- the links from this one on are pending
abbrev pub invariant-loop-i : goal.invariant-loop-i
invariant-loop-i l = l.pending ≡ links_from l.body l.i l.found.count ++ l.initial.pending
