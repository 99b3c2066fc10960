use Rattle.std.proofs.Common.{◌∷◌, [], subst}
use Rattle.vm_store.specs.Facts.{Holds}
use Rattle.document_file.specs.declared.slot.Slots.{Slots}
use Rattle.document_file.specs.declared.slot.SpareSlot.TheVariants.{Prepared}
use Rattle.document_file.proofs.SlotsLemmas.{with_pair_kept, gate_leaves, gate_outlives, turned_leaves}
use Rattle.document_file.proofs.commit.open_gate.Goals as goal

pub returns-in-Ok-clause-crash : goal.returns-in-Ok-clause-crash
returns-in-Ok-clause-crash g c file holds leaves =
    let slots : Slots = record c.args.slots.now { spare = Prepared c.args.pair } in
    gate_outlives slots file _ _ _ (with_pair_kept c.args.slots.now c.args.pair c.requires.kept c.requires.placed) leaves c.spare_gate.ensures (λ is. cc) (c.write_through.ensures.tears holds)

pub returns-in-Ok-clause-leaves : goal.returns-in-Ok-clause-leaves
returns-in-Ok-clause-leaves g c file holds leaves =
    let slots : Slots = record c.args.slots.now { spare = Prepared c.args.pair } in
    let B = g.S.Store.facts c.write_through.new.store in
    let kept = gate_leaves slots file _ B _ (with_pair_kept c.args.slots.now c.args.pair c.requires.kept c.requires.placed) leaves c.spare_gate.ensures (λ is. cc) (c.write_through.ensures.tears holds) in
    turned_leaves c.args.slots.now c.args.pair file B (c.in-Ok.ensures.durable holds) (subst (λ n. Holds B.content n (1 ∷ [])) c.spare_gate.ensures (c.in-Ok.ensures.written holds)) kept

pub returns-in-Err-clause-crash : goal.returns-in-Err-clause-crash
returns-in-Err-clause-crash g c file holds leaves =
    let slots : Slots = record c.args.slots.now { spare = Prepared c.args.pair } in
    gate_outlives slots file _ _ _ (with_pair_kept c.args.slots.now c.args.pair c.requires.kept c.requires.placed) leaves c.spare_gate.ensures (λ is. cc) (c.write_through.ensures.tears holds)

pub returns-in-Err-clause-leaves : goal.returns-in-Err-clause-leaves
returns-in-Err-clause-leaves g c file holds leaves =
    let slots : Slots = record c.args.slots.now { spare = Prepared c.args.pair } in
    gate_leaves slots file _ _ _ (with_pair_kept c.args.slots.now c.args.pair c.requires.kept c.requires.placed) leaves c.spare_gate.ensures (λ is. cc) (c.write_through.ensures.tears holds)

pub returns-in-Ok-clause-still : goal.returns-in-Ok-clause-still
returns-in-Ok-clause-still g c file holds leaves =
    let slots : Slots = record c.args.slots.now { spare = Prepared c.args.pair } in
    gate_leaves slots file _ _ _ (with_pair_kept c.args.slots.now c.args.pair c.requires.kept c.requires.placed) leaves c.spare_gate.ensures (λ is. cc) (c.write_through.ensures.tears holds)

pub returns-in-Err-clause-still : goal.returns-in-Err-clause-still
returns-in-Err-clause-still g c file holds leaves =
    let slots : Slots = record c.args.slots.now { spare = Prepared c.args.pair } in
    gate_leaves slots file _ _ _ (with_pair_kept c.args.slots.now c.args.pair c.requires.kept c.requires.placed) leaves c.spare_gate.ensures (λ is. cc) (c.write_through.ensures.tears holds)
