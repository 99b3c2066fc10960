use Rattle.std.proofs.Common.{◌≢◌, ◌∷◌, [], subst}
use Rattle.vm_store.specs.Facts.{Holds}
use Rattle.document_file.specs.declared.slot.SpareSlot.TheVariants.{Shut}
use Rattle.document_file.proofs.SlotsLemmas.{gate_leaves, gate_outlives, shut_leaves}
use Rattle.document_file.proofs.commit.shut_gate.Goals as goal

pub returns-in_err-write_through-clause-crash : goal.returns-in_err-write_through-clause-crash
returns-in_err-write_through-clause-crash g c file holds leaves =
    let slots = c.args.slots.now in
    let isnt : slots.spare ≢ Shut = λ is. let so = c.is_shut.ensures.1 is in (cc) in
    gate_outlives slots file _ _ _ c.requires.kept leaves c.spare_gate.ensures isnt (c.write_through.ensures.tears holds)

pub returns-in_err-write_through-clause-leaves : goal.returns-in_err-write_through-clause-leaves
returns-in_err-write_through-clause-leaves g c file holds leaves =
    let slots = c.args.slots.now in
    let isnt : slots.spare ≢ Shut = λ is. let so = c.is_shut.ensures.1 is in (cc) in
    gate_leaves slots file _ _ _ c.requires.kept leaves c.spare_gate.ensures isnt (c.write_through.ensures.tears holds)

pub returns-clause-crash : goal.returns-clause-crash
returns-clause-crash g c file holds leaves =
    let slots = c.args.slots.now in
    let isnt : slots.spare ≢ Shut = λ is. let so = c.is_shut.ensures.1 is in (cc) in
    gate_outlives slots file _ _ _ c.requires.kept leaves c.spare_gate.ensures isnt (c.write_through.ensures.tears holds)

pub returns-clause-leaves : goal.returns-clause-leaves
returns-clause-leaves g c file holds leaves =
    let slots = c.args.slots.now in
    let B = g.S.Store.facts c.write_through.new.store in
    let isnt : slots.spare ≢ Shut = λ is. let so = c.is_shut.ensures.1 is in (cc) in
    let kept = gate_leaves slots file _ B _ c.requires.kept leaves c.spare_gate.ensures isnt (c.write_through.ensures.tears holds) in
    shut_leaves slots file B (c.in_ok-write_through.ensures.durable holds) (subst (λ n. Holds B.content n (0 ∷ [])) c.spare_gate.ensures (c.in_ok-write_through.ensures.written holds)) kept
