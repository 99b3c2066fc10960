use Rattle.std.proofs.Common.{◌+◌, ap, sym, ◌∙◌}
use Rattle.std.specs.FinMap.{get}
use Rattle.geos_model.specs.Document.{next_handle}
use Rattle.geos_model.proofs.Table.{first_gap}
use Rattle.document_file.proofs.ListingLemmas.{next_some, next_none, next_free}
use Rattle.document_file.proofs.file.VmFile.next_handle.Goals as goal

pub returns-then-gap-lt-MOST_ENTRIES-clause-value : goal.returns-then-gap-lt-MOST_ENTRIES-clause-value
returns-then-gap-lt-MOST_ENTRIES-clause-value g c =
    let i = c.self.inside in
    let gap = c.first_free-gap.result in
    sym (next_some (g.S.Store.facts i.store).content i.live.places.items i.live.map_block gap (c.first_free-gap.ensures ∙ ap (λ ps. first_gap ps) c.deref.ensures.value) c.if-gap-lt-MOST_ENTRIES.true) ∙ ap (λ s. next_handle s.document) c.self.view_is

pub returns-then-gap-lt-MOST_ENTRIES-clause-free : goal.returns-then-gap-lt-MOST_ENTRIES-clause-free
returns-then-gap-lt-MOST_ENTRIES-clause-free g c =
    let i = c.self.inside in
    let gap = c.first_free-gap.result in
    ap (λ s. get s.document.blocks (gap + 1)) (sym c.self.view_is) ∙ next_free (g.S.Store.facts i.store).content i.live.places.items i.live.map_block gap (c.first_free-gap.ensures ∙ ap (λ ps. first_gap ps) c.deref.ensures.value)

pub returns-else-gap-lt-MOST_ENTRIES-clause-value : goal.returns-else-gap-lt-MOST_ENTRIES-clause-value
returns-else-gap-lt-MOST_ENTRIES-clause-value g c =
    let i = c.self.inside in
    let gap = c.first_free-gap.result in
    sym (next_none (g.S.Store.facts i.store).content i.live.places.items i.live.map_block gap (c.first_free-gap.ensures ∙ ap (λ ps. first_gap ps) c.deref.ensures.value) c.if-gap-lt-MOST_ENTRIES.false) ∙ ap (λ s. next_handle s.document) c.self.view_is
