use Rattle.std.proofs.Common.{◌≡◌, ◌<◌, All, ℕ, List, length, ap, subst, sym, ◌∙◌, arith}
use Rattle.file_salvage.proofs.EntryLemmas.{frees_beside_count, frees_count}
use Rattle.file_salvage.proofs.RowLemmas.{row_below}
use Rattle.file_salvage.proofs.entries.taken_row.Goals as goal

pub returns-then-not-all-clause-within : goal.returns-then-not-all-clause-within
returns-then-not-all-clause-within c = λ k d below.
    let numbers = c.as_slice.result.now in
    let less = row_below numbers (length numbers) 65535 c.in_ok-row.row.items c.in_ok-row.ensures.longest.is k d below in
    let count : length numbers ≡ length c.args.damages.now = ap length (c.as_slice.ensures.value ∙ c.in_ok-frees.ensures) ∙ frees_count c.args.bytes.now c.args.damages.now in
    omega (arith, less, count)

pub frees_beside-requires-clause-row : goal.frees_beside-requires-clause-row
frees_beside-requires-clause-row c =
    let first = c.as_slice.result.now in
    let numbers = c.as_slice-2.result.now in
    let row : List ℕ = c.in_ok-row.row.items in
    let same : length first ≡ length numbers = ap length (c.as_slice.ensures.value ∙ sym c.as_slice-2.ensures.value) in
    let within = row_below first (length first) 65535 row c.in_ok-row.ensures.longest.is in
    subst (λ (l : List ℕ). All (λ (j : ℕ). j < length numbers) l) (sym c.as_slice-3.ensures.value) (subst (λ (n : ℕ). All (λ (j : ℕ). j < n) row) same within)

pub returns-clause-within : goal.returns-clause-within
returns-clause-within c = λ k d below.
    let bytes = c.args.bytes.now in
    let damages = c.args.damages.now in
    let numbers = c.as_slice-4.result.now in
    let less = row_below numbers (length numbers) 65535 c.in_ok-more.more.items c.in_ok-more.ensures.longest.is k d below in
    let count : length numbers ≡ length damages =
    ap length (c.as_slice-4.ensures.value ∙ c.in_ok-beside.ensures) ∙ frees_beside_count bytes damages c.as_slice-2.result.now c.as_slice-3.result.now in
    omega (arith, less, count)
