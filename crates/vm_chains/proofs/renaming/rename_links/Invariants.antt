use Rattle.std.proofs.Common.{◌≡◌, length}
use Rattle.vm_chains.specs.Naming.{name_in}
use Rattle.vm_chains.proofs.LinkLemmas.{relinked_from}
use Rattle.geos_model.specs.Chain.{relinked}
use Rattle.vm_chains.proofs.renaming.rename_links.Given as goal

-- the links from this one on are still to be renamed
abbrev pub invariant-loop-i : goal.invariant-loop-i
invariant-loop-i l = record {
  size : length l.bytes ≡ length l.body;
  rest : relinked_from (name_in l.names) l.body l.i l.links.count l.bytes ≡ relinked (name_in l.names) l.body;
}
