use Rattle.std.proofs.Common.{◌≡◌, ℕ, Bool, List, length, ap, ap₂, sym, subst, ◌∙◌, All, arith}
use Rattle.file_format.specs.File.{directory_text}
use Rattle.geos_model.specs.Document.{FitAttributes}
use Rattle.document_file.specs.Making.{laid_out, page_behind, IsFounding, IsNewSlots}
use Rattle.document_file.specs.declared.table.BlockTable.{BlockTable}
use Rattle.document_file.specs.declared.slot.Slots.{Slots}
use Rattle.file_format.specs.declared.file.Extent.{Extent}
use Rattle.document_file.specs.Documents.{entries_of, directory_of_table}
use Rattle.document_file.proofs.TableDirectoryLemmas.{text_fits}
use Rattle.document_file.proofs.LaidOutLemmas.{length-laid_out, plan_founding}
use Rattle.document_file.proofs.copying.plan_copy.Goals as goal

pub directory_text_of-requires : goal.directory_text_of-requires
directory_text_of-requires c =
    let ps = c.args.live.now.places.items in
    let laid = ap length c.in_ok-placed.ensures.places in
    let from = ap length (ap (laid_out c.args.checksums 2) c.deref.ensures.value) in
    omega (arith, laid, from, length-laid_out c.args.checksums 2 ps, c.requires.table.size)

-- of the same directory, text and table
first_at : (checksums : Bool) (d e : Extent) (t u : List ℕ) (a b : BlockTable) (slots : Slots) → d ≡ e → t ≡ u → a ≡ b → IsNewSlots checksums d t a slots → IsNewSlots checksums e u b slots
first_at checksums d e t u a b slots directory text live is = subst (λ x. IsNewSlots checksums e u x slots) live (subst (λ x. IsNewSlots checksums e x a slots) text (subst (λ x. IsNewSlots checksums x t a slots) directory is))

pub overflow_cast-directory : goal.overflow_cast-directory
overflow_cast-directory c =
    let ps = c.args.live.now.places.items in
    let laid = ap length c.in_ok-placed.ensures.places in
    let from = ap length (ap (laid_out c.args.checksums 2) c.deref.ensures.value) in
    let all = length-laid_out c.args.checksums 2 ps in
    let size = c.requires.table.size in
    let fits = text_fits c.version_for.result (record { map_block = c.args.live.now.map_block; places = c.in_ok-placed.placed.places }) c.in_ok-text.text.items (omega (arith, laid, from, all, size)) c.in_ok-text.ensures.text in
    omega (arith, c.len.ensures, c.in_ok-text.text.ok.0, fits)

pub returns-clause-founding : goal.returns-clause-founding
returns-clause-founding c =
    let live = c.args.live.now in
    let new = c.in_ok-made.made.live in
    let text = c.in_ok-text.text.items in
    let is = c.in_ok-made.ensures.live in
    let laid = c.in_ok-placed.ensures.places ∙ ap (laid_out c.args.checksums 2) c.deref.ensures.value in
    let places = ap (λ t. t.places.items) is ∙ laid in
    let map_block = ap (λ t. t.map_block) is in
    let written = c.in_ok-text.ensures.text ∙ ap₂ (λ v (t : BlockTable). directory_text (directory_of_table v t)) c.version_for.ensures (sym is) in
    subst (λ d. IsFounding c.args.checksums d text new) (sym c.in_ok-made.ensures.first.updated.directory_is)
    (plan_founding c.args.checksums live new (record { page = c.in_ok-placed.placed.end; length = c.len.result }) text c.requires.table c.requires.placed map_block places
    (c.in_ok-placed.ensures.end ∙ ap (page_behind 2) c.deref.ensures.value) (omega (arith, c.len.ensures, c.in_ok-text.text.ok.0)) written
    (subst (λ t. All (λ e. FitAttributes e.attributes) (entries_of 1 t.places.items)) (sym is) c.in_ok-text.ensures.attributes))

pub returns-clause-first : goal.returns-clause-first
returns-clause-first c =
    let made = c.in_ok-made.made in
    let first = c.in_ok-made.ensures.first in
    first_at c.args.checksums _ made.slots.committed.updated.directory _ c.in_ok-text.text.items _ made.live made.slots (sym first.updated.directory_is) c.deref-2.ensures.value (sym c.in_ok-made.ensures.live) first
