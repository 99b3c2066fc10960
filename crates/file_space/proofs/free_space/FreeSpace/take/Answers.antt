use Rattle.std.proofs.Common.{◌≡◌, ℕ, ◌+◌, ◌*◌, ◌<◌, ◌≤◌, max, List, ◌∷◌, set, sym, ap, ◌∙◌, subst, arith}
use Rattle.file_format.specs.File.{pages_of, end_page}
use Rattle.file_format.specs.declared.file.Extent.{Extent}
use Rattle.file_space.specs.declared.limit.TheConstants.{MOST_EXTENTS}
use Rattle.std.proofs.lemmas.List.Sums.{count_by-le-length}
use Rattle.file_space.specs.Placing.{is_long}
use Rattle.file_space.specs.Space.{Space, AreCountsRaised, AreTaken, IsFirstRun, IsHint, IsLargestHint, IsSpaceSound, AreHintsUpTo}
use Rattle.file_space.specs.Stretches.{IsFull, Passes}
use Rattle.file_space.proofs.PlacingLemmas.{pages_few, pages_some}
use Rattle.file_space.proofs.SpaceLemmas.{found_from, hint-found, hint_from, hint_near, run_near, run_fits, taken-raised, sound-hinted, up_to-hinted}
use Rattle.file_space.proofs.StretchLemmas.{hint-passed}
use Rattle.file_space.proofs.free_space.FreeSpace.take.Goals.{After-behind, After-first_run-page}
use Rattle.file_space.proofs.free_space.FreeSpace.take.Goals as goal

pages : (c : After-first_run-page) → c.page_count-pages.result ≡ pages_of c.args.len
pages c = c.page_count-pages.ensures ∙ ap pages_of c.from.ensures

-- where the search begins, what it finds, and that it lies near
hint : (c : After-first_run-page) → IsHint c.self.inside.counts.items (pages_of c.args.len) c.largest_hint-from.result
hint c =
    hint_from c.self.inside.counts.items c.self.inside.hints.items c.self.inside.count c.args.len c.page_count-pages.result c.largest_hint-from.result c.self.invariant.0 c.requires.in_range (pages c)
    (subst (λ (hints : List ℕ). IsLargestHint hints c.page_count-pages.result c.largest_hint-from.result) c.deref.ensures.value c.largest_hint-from.ensures)

found : (c : After-first_run-page) → IsFirstRun c.self.inside.counts.items c.largest_hint-from.result (pages_of c.args.len) c.first_run-page.result
found c = found_from c.self.inside.counts.items c.deref-2.result.now c.args.len c.largest_hint-from.result c.page_count-pages.result c.first_run-page.result c.deref-2.ensures.value (pages c) c.first_run-page.ensures

few : (c : After-first_run-page) → c.self.inside.count < MOST_EXTENTS
few c = subst (λ (s : Space). s.count < MOST_EXTENTS) (sym c.self.view_is) c.requires.few

near : (c : After-first_run-page) → c.first_run-page.result ≤ 2 + 898 * c.self.inside.count
near c =
    let taken : List Extent = c.self.invariant.0.taken in
    let longs = count_by-le-length is_long taken in
    let count = c.self.invariant.0.are.count in
    let page = run_near c.self.invariant.0.taken c.self.inside.counts.items c.self.inside.count c.largest_hint-from.result c.args.len c.first_run-page.result (few c) c.requires.in_range c.self.invariant.0.are (hint c) (found c) in
    omega (arith, page, longs, count)

pub overflow_cast-page : goal.overflow_cast-page
overflow_cast-page c = (let at = near (goal.at.overflow_cast-page c).After-first_run-page in let most = few (goal.at.overflow_cast-page c).After-first_run-page in omega (arith, at, most))

pub overflow_add-page : goal.overflow_add-page
overflow_add-page c =
    let at = near (goal.at.overflow_add-page c).After-first_run-page in
    let most = few (goal.at.overflow_add-page c).After-first_run-page in
    let wanted = pages_few c.args.len c.requires.in_range in
    omega (arith, at, most, wanted, c.page_count-pages.ensures)

-- what is taken then, and where the next search for so many begins
behind : (c : After-behind) → AreTaken (record { page = c.first_run-page.result; length = c.args.len } ∷ c.self.invariant.0.taken) (record { counts = c.self-2.inside.counts.items; count = c.self-2.inside.count })
behind c =
    let e : Extent = record { page = c.first_run-page.result; length = c.args.len } in
    let taken : List Extent = c.self.invariant.0.taken in
    let before : AreTaken taken c.args.self.now = subst (λ (s : Space). AreTaken taken s) c.self.view_is c.self.invariant.0.are in
    subst (λ (s : Space). AreTaken (e ∷ taken) s) (sym c.self-2.view_is) (c.in_ok-hold.ensures.held taken before)

next : (c : After-behind) → IsHint c.self-2.inside.counts.items (pages_of c.args.len) c.behind.result
next c =
    let at : After-first_run-page = (goal.at.After-behind c).After-first_run-page in
    let n : ℕ = pages_of c.args.len in
    let page : ℕ = c.first_run-page.result in
    let e : Extent = record { page = page; length = c.args.len } in
    let counts : List ℕ = c.self.inside.counts.items in
    let new : List ℕ = c.self-2.inside.counts.items in
    let raised : AreCountsRaised page (end_page e) counts new = taken-raised c.self.invariant.0.taken e counts new c.self.inside.count c.self-2.inside.count c.self.invariant.0.are (behind c) in
    let some = pages_some c.args.len c.requires.in_range in
    let is : IsHint new n (page + n) = hint-found counts new c.largest_hint-from.result n page raised (hint at) (found at) some in
    let passes : Passes c.self-2.inside.full n (page + n) c.behind.result = subst (λ (m : ℕ). Passes c.self-2.inside.full m (page + m) c.behind.result) (pages at) c.behind.ensures in
    hint-passed new c.self-2.inside.full n (page + n) c.behind.result c.self-2.invariant.1.1 is passes

pub overflow_cast-behind : goal.overflow_cast-behind
overflow_cast-behind c =
    let at : After-behind = (goal.at.overflow_cast-behind c).After-behind in
    let e : Extent = record { page = c.first_run-page.result; length = c.args.len } in
    let taken : List Extent = e ∷ c.self.invariant.0.taken in
    let most = few (goal.at.overflow_cast-behind c).After-first_run-page in
    let longs = count_by-le-length is_long taken in
    let count = (behind at).count in
    let more = c.in_ok-hold.ensures.count in
    let near = hint_near taken c.self-2.inside.counts.items c.self-2.inside.count c.args.len c.behind.result c.requires.in_range (behind at) (next at) in
    let old = c.self.invariant.0.are.count in
    omega (arith, near, longs, count, most, old)

pub invariant_of-self : goal.invariant_of-self
invariant_of-self c =
    let at : After-behind = (goal.at.invariant_of-self c).After-behind in
    let n : ℕ = pages_of c.args.len in
    let new : List ℕ = c.self-2.inside.counts.items in
    let hints : List ℕ = c.self-2.inside.hints.items in
    let wanted = pages_few c.args.len c.requires.in_range in
    let many = pages (goal.at.invariant_of-self c).After-first_run-page in
    let more : c.max-self-inside.result ≡ max c.self-2.inside.longest n = omega (arith, c.max-self-inside.ensures, many) in
    subst (λ (m : ℕ). IsSpaceSound new (set hints m c.behind.result) c.self-2.inside.count × (AreHintsUpTo c.max-self-inside.result (set hints m c.behind.result) × IsFull new c.self-2.inside.full)) (sym many) (
      sound-hinted new hints n c.behind.result c.self-2.inside.count c.self-2.invariant.0 (next at) (omega (arith, wanted)),
      (up_to-hinted hints c.self-2.inside.longest c.max-self-inside.result n c.behind.result c.self-2.invariant.1.0 more (omega (arith, wanted)), c.self-2.invariant.1.1),
    )

pub returns-clause-placed : goal.returns-clause-placed
returns-clause-placed c = λ taken are.
    let counts : List ℕ = c.self.inside.counts.items in
    let count : ℕ = c.self.inside.count in
    let page : ℕ = c.first_run-page.result in
    let e : Extent = record { page = page; length = c.args.len } in
    let before : AreTaken taken (record { counts = counts; count = count }) = subst (λ (s : Space). AreTaken taken s) (sym c.self.view_is) are in (
      run_fits taken counts count c.largest_hint-from.result c.args.len page (few (goal.at.returns-clause-placed c).After-first_run-page) c.requires.in_range before (hint (goal.at.returns-clause-placed c).After-first_run-page) (found (goal.at.returns-clause-placed c).After-first_run-page),
      subst (λ (s : Space). AreTaken (e ∷ taken) s) (sym c.self-2.view_is) (c.in_ok-hold.ensures.held taken are),
    )
