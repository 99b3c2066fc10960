-- Pages that are known to be full, when pages are taken and when they are given back.
use Rattle.std.proofs.Common.{◌≡◌, ℕ, ◌+◌, ◌-◌, ◌<◌, ◌≤◌, List, length, get_or, max, arith, inl, inr, ◌⊎◌}
use Rattle.std.proofs.lemmas.Bool.{cases_lt}
use Rattle.std.proofs.lemmas.List.{get_or_past}
use Rattle.file_space.specs.Space.{AreCountsRaised, IsHint, IsRun}
use Rattle.file_space.specs.Stretches.{IsFull, Passes}
use Rattle.file_space.specs.declared.full_stretch.FullStretch.{FullStretch}
use Rattle.file_space.proofs.SpaceLemmas.{once_no, run_less}

pub full-none : (counts : List ℕ) (s : FullStretch) → s.to ≡ 0 → IsFull counts s
full-none counts s none q from before run = absurd (omega (arith, none, before))

pub full-raised : (start end : ℕ) (old new : List ℕ) (s : FullStretch) → AreCountsRaised start end old new → IsFull old s → IsFull new s
full-raised start end old new s raised full q from before run = full q from before (run_less start end s.pages q old new raised run)

-- Behind the last count all is free, so that it ends there.
pub full_within : (counts : List ℕ) (s : FullStretch) → IsFull counts s → s.from < s.to → s.to ≤ length counts
full_within counts s full some = elim (cases_lt (length counts) s.to) [
  | inr within ↦ within
  | inl past ↦ absurd (full (s.to - 1) (omega (arith, some)) (omega (arith, some)) (λ k low high. get_or_past counts k 0 (omega (arith, past, low))))
]

-- what is passed over is full
pub passes-on : (s : FullStretch) (pages page next : ℕ) → Passes s pages page next → page ≤ next
passes-on s pages page next passes = elim passes [
  | inl same ↦ omega (arith, same)
  | inr told ↦ (let before = told.0.before in omega (arith, before, told.1))
]

pub passes-full : (counts : List ℕ) (s : FullStretch) (pages page next : ℕ) → IsFull counts s → Passes s pages page next → (q : ℕ) → page ≤ q → q < next → IsRun counts pages q → ⊥
passes-full counts s pages page next full passes q on before run = elim passes [
  | inl same ↦ absurd (omega (arith, same, on, before))
  | inr told ↦
      let from = told.0.from_on in
      let fewer = told.0.fewer in
      full q (omega (arith, from, on)) (omega (arith, before, told.1)) (λ k low high. run k low (omega (arith, high, fewer)))
]

pub passes-within : (counts : List ℕ) (s : FullStretch) (pages page next : ℕ) → IsFull counts s → Passes s pages page next → (next ≡ page) ⊎ (next ≤ length counts)
passes-within counts s pages page next full passes = elim passes [
  | inl same ↦ inl same
  | inr told ↦
      let from = told.0.from_on in
      let before = told.0.before in
      let within = full_within counts s full (omega (arith, from, before)) in
      inr (omega (arith, within, told.1))
]

-- pages are given back: where so many don't reach them none were free before
same_run : (start end n page : ℕ) (old new : List ℕ) → AreCountsRaised start end new old → ((k : ℕ) → page ≤ k → k < page + n → start ≤ k → k < end → ⊥) → IsRun new n page → IsRun old n page
same_run start end n page old new raised out run k low high =
    let same = raised k in
    let none = run k low high in
    let not = once_no start end k (out k low high) in
    omega (arith, same, none, not)

pub full-back : (start end : ℕ) (old new : List ℕ) (s : FullStretch) → AreCountsRaised start end new old → IsFull old s → IsFull new (record s { from = max s.from end })
full-back start end old new s raised full q from before run =
    full q (omega (arith, from)) before (same_run start end s.pages q old new raised (λ k low high on inside. absurd (omega (arith, from, low, inside))) run)

-- Up to a hint for so many pages, behind those that are given back.
pub full-before : (start end pages hint : ℕ) (old new : List ℕ) → 2 ≤ end → AreCountsRaised start end new old → IsHint old pages hint → IsFull new (record { pages = pages; from = end; to = hint })
full-before start end pages hint old new slots raised is q from before run =
    is.none q (omega (arith, slots, from)) before (same_run start end pages q old new raised (λ k low high on inside. absurd (omega (arith, from, low, inside))) run)

-- A hint is passed on to where a search would go on.
pub hint-passed : (counts : List ℕ) (s : FullStretch) (pages hint next : ℕ) → IsFull counts s → IsHint counts pages hint → Passes s pages hint next → IsHint counts pages next
hint-passed counts s pages hint next full is passes = record {
  behind_slots = (let slots = is.behind_slots in let on = passes-on s pages hint next passes in omega (arith, slots, on));
  none = λ q slots before run. elim (cases_lt q hint) [
    | inl below ↦ is.none q slots below run
    | inr past ↦ passes-full counts s pages hint next full passes q past before run
  ];
}

-- pages are given back that aren't free for all that
pub full-kept : (start end : ℕ) (old new : List ℕ) (s : FullStretch) → AreCountsRaised start end new old → ((page : ℕ) → start ≤ page → page < end → 1 ≤ get_or new page 0) → IsFull old s → IsFull new s
full-kept start end old new s raised held full q from before run =
    full q from before (same_run start end s.pages q old new raised (λ k low high on inside. (let one = held k on inside in let none = run k low high in absurd (omega (arith, one, none)))) run)
