use Rattle.document_tools.proofs.PageLemmas.{pages_told}
use Rattle.document_tools.proofs.pages_text.slot_pages.Goals as goal

-- What is told is what the calls found.
pub returns : goal.returns
returns c =
    pages_told c.args.length c.args.slot.now c.in_ok-found.found.items c.as_slice-extents.result.now c.in_ok-pairs.pairs.items c.as_slice-told.result.now c.free_pages-free.result c.page_count-pages.result c.in_ok-text.text.items
    c.in_ok-found.ensures.all c.in_ok-found.ensures.order c.as_slice-extents.ensures.value c.in_ok-pairs.ensures.overlap c.in_ok-pairs.ensures.all c.as_slice-told.ensures.value c.page_count-pages.ensures c.free_pages-free.ensures c.in_ok-text.ensures
