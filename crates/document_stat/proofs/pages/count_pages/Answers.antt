use Rattle.std.proofs.Common.{List, ℕ, subst, sym}
use Rattle.std.specs.List.Sorted.{IsNonDecreasingBy}
use Rattle.file_format.specs.File.{pages_of}
use Rattle.file_report.specs.Pages.{AreFreePages}
use Rattle.file_report.specs.declared.pages.Usage.{Usage}
use Rattle.file_report.proofs.FreeLemmas.{free_moved}
use Rattle.document_stat.specs.Files.{counting_usages}
use Rattle.document_stat.proofs.pages.count_pages.Goals as goal

pub free_pages-requires : goal.free_pages-requires
free_pages-requires c =
    subst (λ (us : List Usage). IsNonDecreasingBy (λ u. u.extent.page) us) (sym c.deref.ensures.value) c.in_ok-usages.ensures.order

pub returns : goal.returns
returns c =
    let n = pages_of c.args.file_length in
    let told = c.free_pages.result in
    let free = subst (λ (k : ℕ). AreFreePages c.deref.result.now k told) c.page_count.ensures c.free_pages.ensures in
    let sorted = subst (λ (us : List Usage). AreFreePages us n told) c.deref.ensures.value free in
    free_moved (counting_usages c.args.slot.now) _ n told c.in_ok-usages.ensures.all sorted
