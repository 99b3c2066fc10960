use Rattle.std.proofs.Common.{◌≢◌}
use Rattle.document_file.specs.declared.slot.SpareSlot.TheVariants.{Shut}
use Rattle.document_file.proofs.SlotsLemmas.{gate_leaves, gate_outlives, shut_tried}
use Rattle.document_file.proofs.commit.shut_stale.Goals as goal

pub returns-clause-shut : goal.returns-clause-shut
returns-clause-shut g c so = shut_tried c.write_through.result (g.S.Store.facts c.args.store.now) (g.S.Store.facts c.write_through.new.store) c.args.slots.now c.spare_gate.result c.spare_gate.ensures c.write_through.ensures.failures c.write_through.ensures.written c.write_through.ensures.durable so

pub returns-clause-crash : goal.returns-clause-crash
returns-clause-crash g c file holds leaves =
    let isnt : c.args.slots.now.spare ≢ Shut = λ is. let stale = c.requires.stale in cc in
    gate_outlives c.args.slots.now file _ _ _ c.requires.kept leaves c.spare_gate.ensures isnt (c.write_through.ensures.tears holds)

pub returns-clause-leaves : goal.returns-clause-leaves
returns-clause-leaves g c file holds leaves =
    let isnt : c.args.slots.now.spare ≢ Shut = λ is. let stale = c.requires.stale in cc in
    gate_leaves c.args.slots.now file _ _ _ c.requires.kept leaves c.spare_gate.ensures isnt (c.write_through.ensures.tears holds)
