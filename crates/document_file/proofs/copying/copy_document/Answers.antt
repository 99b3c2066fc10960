use Rattle.std.proofs.Common.{IsTrue, sym, ap, subst, ◌∙◌}
use Rattle.document_file.specs.Making.{laid_out, IsLaid}
use Rattle.document_file.specs.Documents.{blocks_in}
use Rattle.document_file.proofs.MakingLemmas.{AreLying, first_sound, keeps}
use Rattle.document_file.proofs.TableLemmas.{blocks_same}
use Rattle.document_file.proofs.LaidOutLemmas.{copied_lying}
use Rattle.document_file.proofs.copying.copy_document.Goals as goal

pub returns-clause-sound : goal.returns-clause-sound
returns-clause-sound g c =
    let plan = c.in_ok-plan.plan in
    let facts = g.S.Store.facts in
    let store = facts c.initialize.new.store in
    let mid = facts c.copy_images.new.target in
    let start = facts c.empty.new.store in
    let source = facts c.args.source.now in
    first_sound c.args.checksums plan.made.slots.committed.updated.directory plan.text.items plan.made.live plan.made.slots c.in_ok-plan.ensures.first c.in_ok-plan.ensures.founding store mid.content
    (λ so.
    let then = subst IsTrue c.initialize.ensures.honest so in
    let before = subst IsTrue c.copy_images.ensures.honest then in
    let first = subst IsTrue c.empty.ensures.honest before in
    let copied = c.in_ok-copy_images.ensures.copied before in
    let lying = copied_lying c.args.checksums (IsTrue source.honest) source.content start.content mid.content c.deref.result.now plan.made.live (c.in_ok-empty.ensures.empty first) (c.in_ok-plan.ensures.places ∙ ap (laid_out c.args.checksums 2) (sym c.deref.ensures.value)) copied in
    (lying, subst (λ t. IsLaid 1 plan.made.slots.version plan.made.slots.committed t mid.content store.content) c.deref-2.ensures.value (c.in_ok-initialize.ensures.laid then), c.in_ok-initialize.ensures.durable then))

pub returns-clause-blocks : goal.returns-clause-blocks
returns-clause-blocks g c source_so target_so =
    let plan = c.in_ok-plan.plan in
    let facts = g.S.Store.facts in
    let store = facts c.initialize.new.store in
    let mid = facts c.copy_images.new.target in
    let start = facts c.empty.new.store in
    let source = facts c.args.source.now in
    let before = subst IsTrue (sym c.empty.ensures.honest) target_so in
    let then = subst IsTrue (sym c.copy_images.ensures.honest) before in
    let copied = c.in_ok-copy_images.ensures.copied before in
    let places = c.in_ok-plan.ensures.places ∙ ap (laid_out c.args.checksums 2) (sym c.deref.ensures.value) in
    let lying : AreLying c.args.checksums plan.made.live mid.content = copied_lying c.args.checksums (IsTrue source.honest) source.content start.content mid.content c.deref.result.now plan.made.live (c.in_ok-empty.ensures.empty target_so) places copied in
    blocks_same mid.content store.content plan.made.live.places.items lying.within
    (keeps c.args.checksums plan.made.slots.committed.updated.directory plan.text.items plan.made.live plan.made.slots c.in_ok-plan.ensures.first c.in_ok-plan.ensures.founding store mid.content lying (subst (λ t. IsLaid 1 plan.made.slots.version plan.made.slots.committed t mid.content store.content) c.deref-2.ensures.value (c.in_ok-initialize.ensures.laid then)) (c.in_ok-initialize.ensures.durable then))
    ∙ ap (blocks_in mid.content) places ∙ copied.blocks source_so ∙ ap (blocks_in source.content) c.deref.ensures.value
