use Rattle.std.proofs.Common.{◌≡◌, ℕ, ◌<◌, List, get_or, take, ◌+◌, sym, subst, arith}
use Rattle.std.proofs.lemmas.List.{get_or-take, length-take-le}
use Rattle.file_space.proofs.SpaceLemmas.{Compared, compared-next}
use Rattle.file_space.proofs.free_space.largest_hint.Goals as goal

pub loop-hint-preserved : goal.loop-hint-preserved
loop-hint-preserved c =
    let hints : List ℕ = c.args.hints.now in
    let n : ℕ = c.args.pages in
    let next : ℕ = c.loop-hint.hint-index in
    let size = length-take-le n hints (omega (arith, c.requires.known)) in
    let below : next < n = omega (arith, c.loop-hint-test.true, size) in
    let hint : ℕ = get_or (take n hints) next 0 in
    let at : hint ≡ get_or hints next 0 = get_or-take n hints next 0 below in
    subst (λ m. Compared hints n (next + 1) m) (sym c.max-largest.ensures)
    (compared-next hints n next c.loop-hint.largest hint c.loop-hint.invariant below at)
