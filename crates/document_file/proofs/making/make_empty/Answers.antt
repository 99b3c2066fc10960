use Rattle.std.proofs.Common.{◌≡◌, ◌∙◌, [], IsTrue, refl, sym, ap, subst}
use Rattle.file_format.specs.File.{directory_text}
use Rattle.document_file.specs.Making.{first_directory, no_blocks, IsLaid, IsNewSlots}
use Rattle.document_file.specs.Sound.{IsSound}
use Rattle.document_file.specs.declared.table.BlockTable.{BlockTable}
use Rattle.document_file.proofs.FirstFileLemmas.{first_bytes}
use Rattle.document_file.proofs.MakingLemmas.{IsEmpty, first_sound, empty_founding, empty_lying}
use Rattle.document_file.proofs.making.make_empty.Goals as goal

pub returns-clause-sound : goal.returns-clause-sound
returns-clause-sound g c =
    let live = c.empty_table-live.result in
    let slots = c.in_ok-made.made.slots in
    let store = g.S.Store.facts c.initialize.new.store in
    let text : c.deref.result.now ≡ directory_text (no_blocks c.args.checksums) = c.deref.ensures.value ∙ c.in_ok-text.ensures ∙ ap (λ v. directory_text (record { version = v; map_block = 0; entries = [] })) c.version_for.ensures in
    let again : c.deref-2.result.now ≡ directory_text (no_blocks c.args.checksums) = c.deref-2.ensures.value ∙ c.in_ok-text.ensures ∙ ap (λ v. directory_text (record { version = v; map_block = 0; entries = [] })) c.version_for.ensures in
    let none : IsEmpty live = record { map_block = c.empty_table-live.ensures.map_block; places = c.empty_table-live.ensures.places } in
    subst (λ t. IsSound store t slots) (sym c.in_ok-made.ensures.live)
    (first_sound c.args.checksums first_directory _ live slots (subst (λ t. IsNewSlots c.args.checksums first_directory t live slots) text c.in_ok-made.ensures.first) (empty_founding c.args.checksums (directory_text (no_blocks c.args.checksums)) live none refl) store []
    (λ so.
    let was = subst IsTrue c.initialize.ensures.honest so in
    let first = subst IsTrue c.empty.ensures.honest was in
    (empty_lying c.args.checksums live none, subst (λ t. IsLaid 1 slots.version slots.committed t [] store.content) again (subst (λ f. IsLaid 1 slots.version slots.committed c.deref-2.result.now f store.content) (c.in_ok-empty.ensures.empty first) (c.in_ok-initialize.ensures.laid was)), c.in_ok-initialize.ensures.durable was)))

pub returns-clause-bytes : goal.returns-clause-bytes
returns-clause-bytes g c so =
    let content = (g.S.Store.facts c.initialize.new.store).content in
    let text : c.deref.result.now ≡ directory_text (no_blocks c.args.checksums) = c.deref.ensures.value ∙ c.in_ok-text.ensures ∙ ap (λ v. directory_text (record { version = v; map_block = 0; entries = [] })) c.version_for.ensures in
    let again : c.deref-2.result.now ≡ directory_text (no_blocks c.args.checksums) = c.deref-2.ensures.value ∙ c.in_ok-text.ensures ∙ ap (λ v. directory_text (record { version = v; map_block = 0; entries = [] })) c.version_for.ensures in
    let was = subst IsTrue (sym c.empty.ensures.honest) so in
    let slots = c.in_ok-made.made.slots in
    let live = c.empty_table-live.result in
    first_bytes c.args.checksums live slots content (subst (λ t. IsNewSlots c.args.checksums first_directory t live slots) text c.in_ok-made.ensures.first) (subst (λ t. IsLaid 1 slots.version slots.committed t [] content) again (subst (λ f. IsLaid 1 slots.version slots.committed c.deref-2.result.now f content) (c.in_ok-empty.ensures.empty so) (c.in_ok-initialize.ensures.laid was)))

pub returns-clause-first : goal.returns-clause-first
returns-clause-first g c =
    let slots = c.in_ok-made.made.slots in
    let text : c.deref.result.now ≡ directory_text (no_blocks c.args.checksums) = c.deref.ensures.value ∙ c.in_ok-text.ensures ∙ ap (λ v. directory_text (record { version = v; map_block = 0; entries = [] })) c.version_for.ensures in
    subst (λ (t : BlockTable). IsNewSlots c.args.checksums first_directory (directory_text (no_blocks c.args.checksums)) t slots) (sym c.in_ok-made.ensures.live)
    (subst (λ t. IsNewSlots c.args.checksums first_directory t c.empty_table-live.result slots) text c.in_ok-made.ensures.first)
