use Rattle.std.proofs.Common.{◌≡◌, ℕ, List, ◌+◌, ◌*◌, ◌≤◌, IsTrue, drop, length, sym, ap, subst, ◌∙◌, arith}
use Rattle.vm_store.specs.Facts.{Holds}
use Rattle.document_file.proofs.SumsLemmas.{behind_few, behind_text}
use Rattle.document_file.proofs.ResultLemmas.{on_ok_more}
use Rattle.vm_store.specs.Laws.{Tears-Writes}
use Rattle.document_file.specs.Slots.{behind_gate, spare_of}
use Rattle.document_file.proofs.SlotsLemmas.{Outlives-trans, mark_leaves, mark_outlives, behind_leaves, behind_outlives}
use Rattle.document_file.proofs.commit.fill_slot.Given.{Over}
use Rattle.document_file.proofs.commit.fill_slot.Goals.{After-write_through}
use Rattle.document_file.proofs.commit.fill_slot.Goals as goal

-- what is written is what stands behind the gate
rest_is : (g : Over) (c : After-write_through g) → c.behind_gate.result.now ≡ behind_gate (c.args.slots.now.next_version) (c.args.slots.now.sequence + 1) c.args.pair.now
rest_is g c =
    let q = c.args.slots.now.sequence + 1 in
    let pair = c.args.pair.now in
    c.behind_gate.ensures ∙ ap (drop 5) (c.deref.ensures.0 ∙ c.slot_bytes-text.ensures) ∙ behind_text (c.args.slots.now.next_version) q pair

rest_few : (g : Over) (c : After-write_through g) → length c.behind_gate.result.now ≤ 39
rest_few g c = (let is = ap length (rest_is g c) in let few = behind_few (c.args.slots.now.next_version) (c.args.slots.now.sequence + 1) c.args.pair.now in omega (arith, is, few))

pub returns-in_err-write_at-clause-crash : goal.returns-in_err-write_at-clause-crash
returns-in_err-write_at-clause-crash g c file holds leaves =
    mark_outlives c.args.slots.now file _ _ _ c.requires.kept leaves c.spare_slot.ensures c.requires.shut (Tears-Writes _ _ _ _ (c.write_at.ensures.writes holds))

pub returns-in_err-write_at-clause-leaves : goal.returns-in_err-write_at-clause-leaves
returns-in_err-write_at-clause-leaves g c file holds leaves =
    mark_leaves c.args.slots.now file _ _ _ c.requires.kept leaves c.spare_slot.ensures c.requires.shut (Tears-Writes _ _ _ _ (c.write_at.ensures.writes holds))

pub returns-clause-crash : goal.returns-clause-crash
returns-clause-crash g c file holds leaves =
    let slots = c.args.slots.now in
    let still = subst IsTrue (sym c.write_at.ensures.honest) holds in
    let first = Tears-Writes _ _ _ _ (c.write_at.ensures.writes holds) in
    let kept = mark_leaves slots file _ _ _ c.requires.kept leaves c.spare_slot.ensures c.requires.shut first in
    let place : c.spare_gate.result + 1 ≡ 512 * spare_of slots + 5 = omega (arith, c.spare_gate.ensures) in
    let few = rest_few g (goal.at.returns-clause-crash g c).After-write_through in
    Outlives-trans _ _ _ file (λ s. s ≡ slots) (mark_outlives slots file _ _ _ c.requires.kept leaves c.spare_slot.ensures c.requires.shut first)
    (behind_outlives slots file _ _ _ c.requires.kept kept _ place few c.requires.shut (c.write_through.ensures.tears still))

pub returns-clause-leaves : goal.returns-clause-leaves
returns-clause-leaves g c file holds leaves =
    let slots = c.args.slots.now in
    let still = subst IsTrue (sym c.write_at.ensures.honest) holds in
    let kept = mark_leaves slots file _ _ _ c.requires.kept leaves c.spare_slot.ensures c.requires.shut (Tears-Writes _ _ _ _ (c.write_at.ensures.writes holds)) in
    let place : c.spare_gate.result + 1 ≡ 512 * spare_of slots + 5 = omega (arith, c.spare_gate.ensures) in
    let few = rest_few g (goal.at.returns-clause-leaves g c).After-write_through in
    behind_leaves slots file _ _ _ c.requires.kept kept _ place few c.requires.shut (c.write_through.ensures.tears still)

pub returns-clause-rest : goal.returns-clause-rest
returns-clause-rest g c =
    let file = (g.S.Store.facts c.write_through.new.store).content in
    let place : c.spare_gate.result + 1 ≡ 512 * spare_of c.args.slots.now + 5 = omega (arith, c.spare_gate.ensures) in
    on_ok_more c.write_through.result (λ written holds.
    subst (λ (bytes : List ℕ). Holds file (512 * spare_of c.args.slots.now + 5) bytes) (rest_is g c) (subst (λ (n : ℕ). Holds file n c.behind_gate.result.now) place (written (subst IsTrue (sym c.write_at.ensures.honest) holds))))
    c.write_through.ensures.written
