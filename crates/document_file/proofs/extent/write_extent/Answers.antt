use Rattle.vm_store.specs.Laws.{Tears-Writes}
use Rattle.document_file.proofs.SlotsLemmas.{extent_leaves, extent_outlives}
use Rattle.document_file.proofs.extent.write_extent.Goals as goal

pub returns-clause-crash : goal.returns-clause-crash
returns-clause-crash g c file holds leaves =
    extent_outlives c.args.slots.now file _ _ _ c.requires.kept leaves c.args.extent _ c.start_of.ensures c.requires.size c.requires.behind c.requires.clear (Tears-Writes _ _ _ _ (c.write_at.ensures.writes holds))

pub returns-clause-leaves : goal.returns-clause-leaves
returns-clause-leaves g c file holds leaves =
    extent_leaves c.args.slots.now file _ _ _ c.requires.kept leaves c.args.extent _ c.start_of.ensures c.requires.size c.requires.behind c.requires.clear (Tears-Writes _ _ _ _ (c.write_at.ensures.writes holds))
