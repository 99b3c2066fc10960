use Rattle.std.proofs.Common.{inl, inr, refl}
use Rattle.file_format.proofs.LooksLemmas.{OnlyReadsStore-refl}
use Rattle.file_map.specs.declared.fault.MapFault.TheVariants as map_faults
use Rattle.file_map.proofs.MapLemmas.{uncounted}
use Rattle.document_tools.specs.OtherSlots.{FailsLook}
use Rattle.document_tools.specs.declared.obstacle.Obstacle.TheVariants.{Unopened}
use Rattle.document_tools.proofs.Looked.{refused_or_memory}
use Rattle.document_tools.proofs.other_slot.dump_by_report.Goals as goal

-- A slot counts, or none does, and then the file doesn't open.

pub returns-in-Ok : goal.returns-in-Ok
returns-in-Ok g c =
    let left = c.dump_slot.ensures in
    (left.0, left.1, inr (c.args.report.now, c.in-Ok.slot, c.requires, c.in-Ok.ensures, left.2))

pub returns-in-Err : goal.returns-in-Err
returns-in-Err g c =
    let facts = g.S.Store.facts c.args.store in let fault = c.in-Err.fault in (
      c.args.store,
      OnlyReadsStore-refl facts,
      inl (
        refused_or_memory (FailsLook c.args.name.now facts facts) c.args.name.now (Unopened fault)
            (λ line is. inr (fault, is, uncounted facts c.args.report.now (map_faults.Unopened fault) c.requires c.in-Err.ensures)) tt c.refused.result c.refused.ensures,
        refl,
      ),
    )
