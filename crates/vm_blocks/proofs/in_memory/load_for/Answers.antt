use Rattle.std.proofs.Common.{ap, nat_lt, refl}
use Rattle.vm_blocks.specs.Keeping.{IsEnvironmentFault}
use Rattle.vm_blocks.proofs.KeepingLaws.{err-open, keeps-refl, none-open, open-shut}
use Rattle.vm_blocks.proofs.in_memory.load_for.Goals as goal

pub returns-in-Part-clause-err : goal.returns-in-Part-clause-err
returns-in-Part-clause-err g c =
    let old = c.args.blocks.now in
    err-open old c.in-Part.handle.0 (IsEnvironmentFault g.S.Store.facts old.disk.store c.load_live.new.self.disk.store) c.load_live.result
    (open-shut old c.in-Part.handle.0 (none-open old c.reveal_invariant.ensures.some (ap (nat_lt 0) c.requires.unlocked))) c.load_live.ensures.err

pub returns-in_default-clause-keeps : goal.returns-in_default-clause-keeps
returns-in_default-clause-keeps g c = keeps-refl g.S.Store.facts c.args.blocks.now

pub returns-in_default-2 : goal.returns-in_default-2
returns-in_default-2 g c = record {
  keeps = keeps-refl g.S.Store.facts c.args.blocks.now;
  err = tt;
  sure = λ here. (refl, record { disk = refl; document = refl; loaded = λ h loaded. loaded });
}
