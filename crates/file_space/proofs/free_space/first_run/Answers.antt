use Rattle.std.proofs.Common.{◌≢◌, ℕ, ◌+◌, List, arith, inl, inr, slice_index}
use Rattle.std.proofs.lemmas.Bool.{cases_lt}
use Rattle.file_space.proofs.StretchLemmas.{passes-full, passes-on, passes-within}
use Rattle.file_space.proofs.free_space.first_run.Goals as goal

pub loop-page-init : goal.loop-page-init
loop-page-init c =
    let counts : List ℕ = c.args.counts.now in
    let from : ℕ = c.args.from in
    let start : ℕ = c.behind-start.result in
    let passes = c.behind-start.ensures in (
      passes-on c.args.full c.args.pages from start passes,
      (
        elim (passes-within counts c.args.full c.args.pages from start c.requires.full passes) [
          | inl same ↦ omega (arith, same)
          | inr within ↦ omega (arith, within)
        ],
        passes-full counts c.args.full c.args.pages from start c.requires.full passes,
      ),
    )

pub loop-page-preserved : goal.loop-page-preserved
loop-page-preserved c =
    let counts : List ℕ = c.args.counts.now in
    let page : ℕ = c.in-Some.page in
    let next : ℕ = c.behind-start-in-Some.result in
    let passes = c.behind-start-in-Some.ensures in
    let from_on = c.loop-page.invariant.0 in
    let on = c.in-Some.ensures.0 in
    let before = c.in-Some.ensures.1 in
    let taken : slice_index counts page ≢ 0 = c.in-Some.ensures.2 in
    let size = c.min.ensures in
    let past = passes-on c.args.full c.args.pages (page + 1) next passes in (
      omega (arith, from_on, on, past),
      (
        elim (passes-within counts c.args.full c.args.pages (page + 1) next c.requires.full passes) [
          | inl same ↦ omega (arith, same, before, size)
          | inr within ↦ omega (arith, within)
        ],
        λ q low high run. elim (cases_lt q c.loop-page.start) [
          | inl early ↦ c.loop-page.invariant.1.1 q low early run
          | inr late ↦ elim (cases_lt page q) [
            | inl behind ↦ passes-full counts c.args.full c.args.pages (page + 1) next c.requires.full passes q (omega (arith, behind)) high run
            | inr over ↦ taken (run page over (omega (arith, before, size, late)))
          ]
        ],
      ),
    )
