use Rattle.std.proofs.Common.{ap}
use Rattle.vm_blocks.specs.State.{CacheState}
use Rattle.vm_blocks.specs.declared.change.Change.TheVariants as changes
use Rattle.vm_blocks.proofs.ChangeOutcomes.{same_locks, turns_exact}
use Rattle.vm_blocks.proofs.file_blocks.FileBlocks.set_map.Goals as goal

pub returns : goal.returns
returns g c =
    let old = c.args.self.now in
    let new = c.put_map.new.self in
    let is = c.put_map.ensures in
    turns_exact g.S.Store.facts (changes.Map c.args.old c.args.new) old new (ap (λ (s : CacheState g.row.S.Denot). s.disk) is) (ap (λ (s : CacheState g.row.S.Denot). s.document) is) (ap (λ (s : CacheState g.row.S.Denot). s.frames) is) (same_locks old.resident new.resident (ap (λ (s : CacheState g.row.S.Denot). s.resident) is)) tt (λ far. far)
