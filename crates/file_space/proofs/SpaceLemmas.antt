-- Counts of pages, and what they say of the extents that are taken.
use Rattle.std.proofs.Common.{◌≡◌, ℕ, ◌+◌, ◌<◌, ◌≤◌, true, false, cond, List, length, get_or, set, sym, ap, ◌∙◌, arith, leb, ltb, inl, inr, ◌⊎◌, zero, suc, ◌*◌, ◌-◌, max, min, [], ◌∷◌, replicate, count_by, refl, subst}
use Rattle.std.proofs.lemmas.Bool.{cases_lt, cases_eq, cases_Bool, le-leb, lt-ltb, leb-true, ltb-true, and_parts, and_from, false≢true}
use Rattle.std.proofs.lemmas.List.{get_or-set_same, get_or-set_other, length-set, get_or-replicate, length-replicate, get_or_past}
use Rattle.file_space.specs.Space.{is_within, AreCountsRaised, IsRun, Space, is_on, AreTaken, IsTaken, IsFirstRun, IsHint, IsLargestHint, IsSpaceSound, AreHintsUpTo, lowest}
use Rattle.std.specs.List.Sorted.{IsPermutation}
use Rattle.std.proofs.lemmas.List.Sorted.{sum_by-IsPermutation, length_permutation, All-permutation}
use Rattle.std.proofs.lemmas.List.Sums.{count_by-le-length}
use Rattle.file_format.specs.File.{pages_of, end_page}
use Rattle.file_format.specs.declared.file.Extent.{Extent}
use Rattle.file_space.specs.declared.limit.TheConstants.{MOST_EXTENTS}
use Rattle.file_space.specs.Placing.{IsFree, IsFirstFit, IsLength, AreExtents, is_long}
use Rattle.file_space.proofs.PlacingLemmas.{pages_some, pages_few, count_cons, none_pass, count_none, free_window}

-- ---- counts of pages: one step of a loop over them, and tests of a list that none passes

-- a page in a range, and outside of it
pub within_yes : (start end page : ℕ) → start ≤ page → page < end → is_within start end page ≡ true
within_yes start end page low high = and_from (leb start page) (ltb page end) (le-leb start page low) (lt-ltb page end high)

pub within_low : (start end page : ℕ) → is_within start end page ≡ true → start ≤ page
within_low start end page is = leb-true start page (and_parts (leb start page) (ltb page end) is).0

pub within_high : (start end page : ℕ) → is_within start end page ≡ true → page < end
within_high start end page is = ltb-true page end (and_parts (leb start page) (ltb page end) is).1

pub within_no : (start end page : ℕ) → (start ≤ page → page < end → ⊥) → is_within start end page ≡ false
within_no start end page out = elim (cases_Bool (is_within start end page)) [
  | inl is ↦ absurd (out (within_low start end page is) (within_high start end page is))
  | inr out_of ↦ out_of
]

-- as a number
abbrev pub once : ℕ → ℕ → ℕ → ℕ
once start end page = cond (is_within start end page) 1 0

pub once_yes : (start end page : ℕ) → start ≤ page → page < end → once start end page ≡ 1
once_yes start end page low high = ap (λ b. cond b 1 0) (within_yes start end page low high)

pub once_no : (start end page : ℕ) → (start ≤ page → page < end → ⊥) → once start end page ≡ 0
once_no start end page out = ap (λ b. cond b 1 0) (within_no start end page out)

pub once_most : (start end page : ℕ) → once start end page ≤ 1
once_most start end page = elim (cases_Bool (is_within start end page)) [
  | inl is ↦ (let e : once start end page ≡ 1 = ap (λ b. cond b 1 0) is in omega (arith, e))
  | inr out_of ↦ (let e : once start end page ≡ 0 = ap (λ b. cond b 1 0) out_of in omega (arith, e))
]

-- a page further on: only that one differs
pub once_same : (start end page : ℕ) → (page ≡ end → ⊥) → once start (end + 1) page ≡ once start end page
once_same start end page other = elim (cases_lt page start) [
  | inl low ↦ once_no start (end + 1) page (λ l h. absurd (omega (arith, low, l))) ∙ sym (once_no start end page (λ l h. absurd (omega (arith, low, l))))
  | inr from ↦ elim (cases_lt page end) [
    | inl within ↦ once_yes start (end + 1) page from (omega (arith, within)) ∙ sym (once_yes start end page from within)
    | inr past ↦ once_no start (end + 1) page (λ l h. other (omega (arith, past, h))) ∙ sym (once_no start end page (λ l h. absurd (omega (arith, past, h))))
  ]
]

pub raised-none : (start : ℕ) (counts : List ℕ) → AreCountsRaised start start counts counts
raised-none start counts page = (let no = once_no start start page (λ l h. absurd (omega (arith, l, h))) in omega (arith, no))

pub raised_more : (start end : ℕ) (old new : List ℕ) → start ≤ end → end < length new → AreCountsRaised start end old new → AreCountsRaised start (end + 1) old (set new end (get_or new end 0 + 1))
raised_more start end old new order l raised page = elim (cases_eq page end) [
  | inl here ↦
      let before : get_or new end 0 ≡ once start end end + get_or old end 0 = raised end in
      let no = once_no start end end (λ a h. absurd (omega (arith, h))) in
      let yes = once_yes start (end + 1) end order (omega arith) in
      let now = get_or-set_same new end (get_or new end 0 + 1) 0 l in
      ap (λ p. get_or (set new end (get_or new end 0 + 1)) p 0) here ∙ (let at : get_or (set new end (get_or new end 0 + 1)) end 0 ≡ once start (end + 1) end + get_or old end 0 = omega (arith, before, no, yes, now) in at) ∙ ap (λ p. once start (end + 1) p + get_or old p 0) (sym here)
  | inr other ↦
      let before : get_or new page 0 ≡ once start end page + get_or old page 0 = raised page in
      let same = once_same start end page other in
      let now = get_or-set_other new end page (get_or new end 0 + 1) 0 other in
      omega (arith, before, same, now)
]

pub lowered_more : (start end x : ℕ) (old new : List ℕ) → start ≤ end → end < length new → x + 1 ≡ get_or new end 0 → AreCountsRaised start end new old → AreCountsRaised start (end + 1) (set new end x) old
lowered_more start end x old new order l some raised page = elim (cases_eq page end) [
  | inl here ↦
      let before : get_or old end 0 ≡ once start end end + get_or new end 0 = raised end in
      let no = once_no start end end (λ a h. absurd (omega (arith, h))) in
      let yes = once_yes start (end + 1) end order (omega arith) in
      let now = get_or-set_same new end x 0 l in
      ap (λ p. get_or old p 0) here ∙ (let at : get_or old end 0 ≡ once start (end + 1) end + get_or (set new end x) end 0 = omega (arith, before, no, yes, now, some) in at) ∙ ap (λ p. once start (end + 1) p + get_or (set new end x) p 0) (sym here)
  | inr other ↦
      let before : get_or old page 0 ≡ once start end page + get_or new page 0 = raised page in
      let same = once_same start end page other in
      let now = get_or-set_other new end page x 0 other in
      omega (arith, before, same, now)
]

-- The search for the largest hint: that of so many pages, and of those for fewer the ones before `next`, were compared.
pub record Compared (hints : List ℕ) (n next largest : ℕ) : Type 0 where
  pub one : (k : ℕ) × (k ≤ n) × (largest ≡ get_or hints k 0)
  pub last : get_or hints n 0 ≤ largest
  pub before : (k : ℕ) → k < next → get_or hints k 0 ≤ largest

pub compared-start : (hints : List ℕ) (n : ℕ) → Compared hints n 0 (get_or hints n 0)
compared-start hints n = record {
  one = (n, omega arith, refl);
  last = omega arith;
  before = λ k below. absurd (omega (arith, below));
}

pub compared-next : (hints : List ℕ) (n next largest hint : ℕ) → Compared hints n next largest → next < n → hint ≡ get_or hints next 0 → Compared hints n (next + 1) (max largest hint)
compared-next hints n next largest hint is below at = record {
  one = elim (cases_lt largest hint) [
    | inl above ↦ (next, omega (arith, below), (let more : max largest hint ≡ hint = omega (arith, above) in more ∙ at))
    | inr not ↦ (is.one.0, is.one.1, (let same : max largest hint ≡ largest = omega (arith, not) in same ∙ is.one.2))
  ];
  last = (let was = is.last in omega (arith, was));
  before = λ k low. elim (cases_lt k next) [
    | inl past ↦ (let was = is.before k past in omega (arith, was))
    | inr here ↦
        let same : k ≡ next = omega (arith, here, low) in
        let is_hint : get_or hints k 0 ≡ hint = ap (λ i. get_or hints i 0) same ∙ sym at in
        omega (arith, is_hint)
  ];
}

pub compared-all : (hints : List ℕ) (n next largest : ℕ) → Compared hints n next largest → n ≤ next → IsLargestHint hints n largest
compared-all hints n next largest is all = record {
  one = is.one;
  largest = λ k up_to. elim (cases_lt k n) [
    | inl fewer ↦ is.before k (omega (arith, fewer, all))
    | inr many ↦
        let same : k ≡ n = omega (arith, many, up_to) in
        subst (λ i. get_or hints i 0 ≤ largest) (sym same) is.last
  ];
}

-- ---- what the counts say of the extents that are taken

-- The order doesn't matter.
pub taken-permuted : (xs ys : List Extent) (space : Space) → IsPermutation xs ys → AreTaken xs space → AreTaken ys space
taken-permuted xs ys space same taken = record {
  extents = All-permutation (λ (e : Extent). (2 ≤ e.page) × IsLength e.length) xs ys same taken.extents;
  count = taken.count ∙ sym (length_permutation xs ys same);
  pages = λ page. taken.pages page ∙ sym (sum_by-IsPermutation (λ e. cond (is_on page e) 1 0) xs ys same);
}

-- free pages are those on which no extent lies
pub free_run : (taken : List Extent) (counts : List ℕ) (page n : ℕ) → ((k : ℕ) → get_or counts k 0 ≡ count_by (is_on k) taken) → IsFree taken page n → IsRun counts (pages_of n) page
free_run taken counts page n are free k low high = are k ∙ count_none (is_on k) taken (λ i d l. within_no (get_or taken i d).page (end_page (get_or taken i d)) k (λ from before. elim (free i d l) [
  | inl ends ↦ absurd (omega (arith, ends, from, high))
  | inr begins ↦ absurd (omega (arith, begins, before, low))
]))

pub run_free : (taken : List Extent) (counts : List ℕ) (page n : ℕ) → AreExtents taken → IsLength n → ((k : ℕ) → get_or counts k 0 ≡ count_by (is_on k) taken) → IsRun counts (pages_of n) page → IsFree taken page n
run_free taken counts page n extents is_length are run i d l =
    let e : Extent = get_or taken i d in
    let some = pages_some e.length (extents i d l).1 in
    let wanted = pages_some n is_length in
    elim (cases_lt page (end_page e)) [
      | inr ends ↦ inr ends
      | inl before ↦ elim (cases_lt e.page (page + pages_of n)) [
        | inr behind ↦ inl behind
        | inl from ↦
            let k : ℕ = max page e.page in
            let none : count_by (is_on k) taken ≡ 0 = sym (are k) ∙ run k (omega arith) (omega (arith, from, wanted)) in
            let yes : is_on k e ≡ true = within_yes e.page (end_page e) k (omega arith) (omega (arith, before, some)) in
            absurd (false≢true (sym (none_pass (is_on k) taken none i d l) ∙ yes))
      ]
    ]

-- One more is taken, and one is given back.
pub taken-more : (taken : List Extent) (e : Extent) (old new : List ℕ) (count : ℕ) → 2 ≤ e.page → IsLength e.length → AreTaken taken (record { counts = old; count = count }) → AreCountsRaised e.page (end_page e) old new → AreTaken (e ∷ taken) (record { counts = new; count = count + 1 })
taken-more taken e old new count behind is_length are raised = record {
  extents = each_cons taken e (behind, is_length) are.extents;
  count = (let old_count = are.count in omega (arith, old_count));
  pages = λ page. raised page ∙ ap (λ n. once e.page (end_page e) page + n) (are.pages page) ∙ sym (count_cons (is_on page) e taken);
}
  where
    each_cons : (xs : List Extent) (e : Extent) → (2 ≤ e.page) × IsLength e.length → AreExtents xs → AreExtents (e ∷ xs)
    each_cons xs e one all zero d l = one
    each_cons xs e one all (suc k) d l = all k d (omega (arith, l))

pub taken-less : (rest : List Extent) (e : Extent) (old new : List ℕ) (count less : ℕ) → AreTaken (e ∷ rest) (record { counts = old; count = count }) → AreCountsRaised e.page (end_page e) new old → less + 1 ≡ count → AreTaken rest (record { counts = new; count = less })
taken-less rest e old new count less are raised one = record {
  extents = λ k d l. are.extents (suc k) d (omega (arith, l));
  count = (let old_count = are.count in omega (arith, old_count, one));
  pages = λ page. (let was = are.pages page in let is = raised page in let whole = count_cons (is_on page) e rest in omega (arith, was, is, whole));
}

-- the counts of a taken extent's pages
pub taken_there : (rest : List Extent) (e : Extent) (space : Space) → AreTaken (e ∷ rest) space → (page : ℕ) → e.page ≤ page → page < end_page e → 1 ≤ get_or space.counts page 0
taken_there rest e space are page low high =
    let is = are.pages page in
    let yes = once_yes e.page (end_page e) page low high in
    let whole = count_cons (is_on page) e rest in
    omega (arith, is, yes, whole)

-- so these are counted
pub taken_counted : (e : Extent) (space : Space) → IsTaken e space → end_page e ≤ length space.counts
taken_counted e space is = elim (cases_lt (length space.counts) (end_page e)) [
  | inr within ↦ within
  | inl past ↦
      let some = pages_some e.length (is.1.extents 0 e (omega arith)).1 in
      let last : ℕ = end_page e - 1 in
      let one : 1 ≤ get_or space.counts last 0 = taken_there is.0 e space is.1 last (omega (arith, some)) (omega (arith, some)) in
      let none = get_or_past space.counts last 0 (omega (arith, past)) in
      absurd (omega (arith, one, none))
]

pub taken_few : (taken : List Extent) (space : Space) → AreTaken taken space → (page : ℕ) → get_or space.counts page 0 ≤ space.count
taken_few taken space are page =
    let is = are.pages page in
    let most = count_by-le-length (is_on page) taken in
    let count = are.count in
    omega (arith, is, most, count)

-- The first run is near, and gives the first fit.
pub run_near : (taken : List Extent) (counts : List ℕ) (count from n page : ℕ) → count < MOST_EXTENTS → IsLength n → AreTaken taken (record { counts = counts; count = count }) → IsHint counts (pages_of n) from → IsFirstRun counts from (pages_of n) page → page ≤ 2 + 449 * (count + count_by is_long taken)
run_near taken counts count from n page few is_length are hint is =
    let found = free_window taken n are.extents is_length in
    let size = are.count in
    let within = found.1 in
    elim (cases_lt (2 + 449 * found.0) page) [
      | inr near ↦ omega (arith, near, within, size)
      | inl past ↦
          let run = free_run taken counts (2 + 449 * found.0) n are.pages found.2 in
          elim (cases_lt (2 + 449 * found.0) from) [
            | inl before ↦ absurd (hint.none (2 + 449 * found.0) (omega arith) before run)
            | inr on ↦ absurd (is.first (2 + 449 * found.0) on past run)
          ]
    ]

pub run_fits : (taken : List Extent) (counts : List ℕ) (count from n page : ℕ) → count < MOST_EXTENTS → IsLength n → AreTaken taken (record { counts = counts; count = count }) → IsHint counts (pages_of n) from → IsFirstRun counts from (pages_of n) page → IsFirstFit taken n (record { page = page; length = n })
run_fits taken counts count from n page few is_length are hint is =
    let near = run_near taken counts count from n page few is_length are hint is in
    let wanted = pages_few n is_length in
    let low = hint.behind_slots in
    let on = is.from_on in
    record {
      length_is = refl;
      behind_slots = omega (arith, low, on);
      free = run_free taken counts page n are.extents is_length are.pages is.run;
      first = λ q from_slots before free. (let run = free_run taken counts q n are.pages free in elim (cases_lt q from) [
        | inl below ↦ hint.none q from_slots below run
        | inr past ↦ is.first q past before run
      ]);
      in_reach = λ longs. omega (arith, near, wanted, few, longs);
    }

-- So many are free before a page that doesn't lie far, so that no hint does.
pub hint_near : (taken : List Extent) (counts : List ℕ) (count n hint : ℕ) → IsLength n → AreTaken taken (record { counts = counts; count = count }) → IsHint counts (pages_of n) hint → hint ≤ 2 + 449 * (count + count_by is_long taken)
hint_near taken counts count n hint is_length are is =
    let found = free_window taken n are.extents is_length in
    let size = are.count in
    let within = found.1 in
    elim (cases_lt (2 + 449 * found.0) hint) [
      | inr near ↦ omega (arith, near, within, size)
      | inl past ↦ absurd (is.none (2 + 449 * found.0) (omega arith) past (free_run taken counts (2 + 449 * found.0) n are.pages found.2))
    ]

-- Hints, when pages are taken and when they are given back.
pub run_less : (start end n page : ℕ) (old new : List ℕ) → AreCountsRaised start end old new → IsRun new n page → IsRun old n page
run_less start end n page old new raised run k low high = (let is = raised k in let none = run k low high in omega (arith, is, none))

pub hint-raised : (start end n hint : ℕ) (old new : List ℕ) → AreCountsRaised start end old new → IsHint old n hint → IsHint new n hint
hint-raised start end n hint old new raised is = record {
  behind_slots = is.behind_slots;
  none = λ q low high run. is.none q low high (run_less start end n q old new raised run);
}

-- from which so many pages reach those that are given back
pub hint-lowered : (start end n hint lower : ℕ) (old new : List ℕ) → AreCountsRaised start end new old → 2 ≤ lower → ((lower ≡ 2) ⊎ (lower + (n - 1) ≤ start)) → IsHint old n hint → IsHint new n (min hint lower)
hint-lowered start end n hint lower old new raised low near is = record {
  behind_slots = (let behind = is.behind_slots in omega (arith, behind, low));
  none = λ q from before run. elim near [
    | inl first ↦ absurd (omega (arith, first, from, before))
    | inr away ↦ is.none q from (omega (arith, before)) (λ k low_k high_k.
        let same = raised k in
        let none = run k low_k high_k in
        let out = once_no start end k (λ l h. absurd (omega (arith, l, low_k, high_k, before, away))) in
        omega (arith, same, none, out))
  ];
}

pub raised_from : (start end behind : ℕ) (old roomy view new : List ℕ) → ((page : ℕ) → get_or roomy page 0 ≡ get_or old page 0) → view ≡ roomy → behind ≡ end → AreCountsRaised start behind view new → AreCountsRaised start end old new
raised_from start end behind old roomy view new same is at raised page = (let to = raised page in let was = same page in subst (λ b. get_or new page 0 ≡ once start b page + get_or old page 0) at (to ∙ ap (λ n. once start behind page + n) (ap (λ xs. get_or xs page 0) is ∙ was)))

pub lowered_from : (start end behind : ℕ) (old view new : List ℕ) → view ≡ old → behind ≡ end → AreCountsRaised start behind new view → AreCountsRaised start end new old
lowered_from start end behind old view new is at raised page = subst (λ b. get_or old page 0 ≡ once start b page + get_or new page 0) at (sym (ap (λ xs. get_or xs page 0) is) ∙ raised page)

pub sound-more : (old new hints : List ℕ) (count : ℕ) (e : Extent) → IsSpaceSound old hints count → 2 ≤ e.page → IsLength e.length → AreCountsRaised e.page (end_page e) old new → IsSpaceSound new hints (count + 1)
sound-more old new hints count e sound behind is_length raised = record {
  taken = e ∷ sound.taken;
  are = taken-more sound.taken e old new count behind is_length sound.are raised;
  hint_count = sound.hint_count;
  hint = λ n l. hint-raised e.page (end_page e) n (get_or hints n 0) old new raised (sound.hint n l);
}

pub first_near : (page n : ℕ) → (lowest page n ≡ 2) ⊎ (lowest page n + (n - 1) ≤ page)
first_near page n = elim (cases_lt 2 (lowest page n)) [
  | inl past ↦ inr (omega (arith, past))
  | inr low ↦ inl (omega (arith, low))
]

-- before the first page behind the slots nothing is free
pub first-hint : (counts : List ℕ) (n : ℕ) → IsHint counts n 2
first-hint counts n = record { behind_slots = omega arith; none = λ q low before run. absurd (omega (arith, low, before)) }

pub sound-less : (old new hints lowered : List ℕ) (longest count : ℕ) (e : Extent) (rest : List Extent) → IsSpaceSound old hints count → AreHintsUpTo longest hints → AreTaken (e ∷ rest) (record { counts = old; count = count }) → AreCountsRaised e.page (end_page e) new old → length lowered ≡ 322
    → ((n : ℕ) → n ≤ longest → get_or lowered n 0 ≡ min (get_or hints n 0) (lowest e.page n)) → ((n : ℕ) → longest < n → get_or lowered n 0 ≡ get_or hints n 0) → IsSpaceSound new lowered (count - 1)
sound-less old new hints lowered longest count e rest sound up_to are raised long lower same = record {
  taken = rest;
  are = taken-less rest e old new count (count - 1) are raised (let some = are.count in omega (arith, some));
  hint_count = long;
  hint = λ n l. elim (cases_lt longest n) [
    | inl past ↦ subst (λ h. IsHint new n h) (sym (same n past ∙ up_to.others n past l)) (first-hint new n)
    | inr within ↦ subst (λ h. IsHint new n h) (sym (lower n within)) (hint-lowered e.page (end_page e) n (get_or hints n 0) (lowest e.page n) old new raised (omega arith) (first_near e.page n) (sound.hint n l))
  ];
}

-- which hints were raised
pub up_to-lowered : (hints lowered : List ℕ) (longest : ℕ) → AreHintsUpTo longest hints → ((n : ℕ) → longest < n → get_or lowered n 0 ≡ get_or hints n 0) → AreHintsUpTo longest lowered
up_to-lowered hints lowered longest up_to same = record { few = up_to.few; others = λ n past l. same n past ∙ up_to.others n past l }

pub up_to-hinted : (hints : List ℕ) (longest more n hint : ℕ) → AreHintsUpTo longest hints → more ≡ max longest n → n < 322 → AreHintsUpTo more (set hints n hint)
up_to-hinted hints longest more n hint up_to is l = record {
  few = (let few = up_to.few in omega (arith, few, is, l));
  others = λ m past below. get_or-set_other hints n m hint 0 (λ same. absurd (omega (arith, same, past, is))) ∙ up_to.others m (omega (arith, past, is)) below;
}

pub up_to-none : AreHintsUpTo 0 (replicate 322 2)
up_to-none = record { few = omega arith; others = λ n past l. get_or-replicate {A = ℕ} 322 n 2 0 l }

-- A hint that was found: those pages are taken now, and before them no others were free.
pub sound-hinted : (new hints : List ℕ) (n next count : ℕ) → IsSpaceSound new hints count → IsHint new n next → n < 322 → IsSpaceSound new (set hints n next) count
sound-hinted new hints n next count sound found l = record {
  taken = sound.taken;
  are = sound.are;
  hint_count = length-set hints n next ∙ sound.hint_count;
  hint = λ m below. elim (cases_eq m n) [
    | inl at ↦ subst (λ h. IsHint new m h) (sym (ap (λ i. get_or (set hints n next) i 0) at ∙ get_or-set_same hints n next 0 (omega (arith, l, sound.hint_count)))) (subst (λ i. IsHint new i next) (sym at) found)
    | inr other ↦ subst (λ h. IsHint new m h) (sym (get_or-set_other hints n m next 0 other)) (sound.hint m below)
  ];
}

pub hint-found : (old new : List ℕ) (from n page : ℕ) → AreCountsRaised page (page + n) old new → IsHint old n from → IsFirstRun old from n page → 1 ≤ n → IsHint new n (page + n)
hint-found old new from n page raised hint is some = found
  where
    before_page : (q : ℕ) → 2 ≤ q → q < page → IsRun new n q → ⊥
    before_page q low before run = (let old_run = run_less page (page + n) n q old new raised run in elim (cases_lt q from) [
      | inl below ↦ hint.none q low below old_run
      | inr past ↦ is.first q past before old_run
    ])

    found : IsHint new n (page + n)
    found = record {
      behind_slots = (let low = hint.behind_slots in let on = is.from_on in omega (arith, low, on));
      none = λ q low before run. elim (cases_lt q page) [
        | inl early ↦ before_page q low early run
        | inr on ↦
            let none = run q (omega arith) (omega (arith, some)) in
            let more = raised q in
            let here = once_yes page (page + n) q on before in
            absurd (omega (arith, none, more, here))
      ];
    }

-- At first nothing is taken.
pub sound-none : IsSpaceSound [] (replicate 322 2) 0
sound-none = record {
  taken = [];
  are = record { extents = λ k d l. absurd (omega (arith, l)); count = refl; pages = λ page. refl };
  hint_count = length-replicate {A = ℕ} 322 2;
  hint = λ n l. (let is = get_or-replicate {A = ℕ} 322 n 2 0 l in record { behind_slots = omega (arith, is); none = λ q low before run. absurd (omega (arith, is, low, before)) });
}

-- what is taken before and behind one more says how the counts were raised
pub taken-raised : (taken : List Extent) (e : Extent) (old new : List ℕ) (count more : ℕ) → AreTaken taken (record { counts = old; count = count }) → AreTaken (e ∷ taken) (record { counts = new; count = more }) → AreCountsRaised e.page (end_page e) old new
taken-raised taken e old new count more before behind page = behind.pages page ∙ count_cons (is_on page) e taken ∙ ap (λ n. once e.page (end_page e) page + n) (sym (before.pages page))

-- What a search for so many bytes found.
pub found_from : (counts view : List ℕ) (len from pages page : ℕ) → view ≡ counts → pages ≡ pages_of len → IsFirstRun view from pages page → IsFirstRun counts from (pages_of len) page
found_from counts view len from pages page is many found = subst (λ xs. IsFirstRun xs from (pages_of len) page) is (subst (λ n. IsFirstRun view from n page) many found)

-- A hint for fewer pages is one for more, since a run of more begins with one of fewer.
pub hint-more : (counts : List ℕ) (fewer n hint : ℕ) → fewer ≤ n → IsHint counts fewer hint → IsHint counts n hint
hint-more counts fewer n hint most is = record {
  behind_slots = is.behind_slots;
  none = λ q low before run. is.none q low before (λ k from high. run k from (omega (arith, high, most)));
}

-- So the search begins at the largest hint for so many pages or fewer.
pub hint_from : (counts hints : List ℕ) (count len pages from : ℕ) → IsSpaceSound counts hints count → IsLength len → pages ≡ pages_of len → IsLargestHint hints pages from → IsHint counts (pages_of len) from
hint_from counts hints count len pages from sound is_length many largest =
    let wanted = pages_few len is_length in
    let fewer : ℕ = largest.one.0 in
    let most = largest.one.1 in
    let is : IsHint counts fewer (get_or hints fewer 0) = sound.hint fewer (omega (arith, wanted, most, many)) in
    subst (λ h. IsHint counts (pages_of len) h) (sym largest.one.2) (hint-more counts fewer (pages_of len) (get_or hints fewer 0) (omega (arith, most, many)) is)

-- Where no page is free that wasn't, the hints stay.
pub hint-kept : (start end n hint : ℕ) (old new : List ℕ) → AreCountsRaised start end new old → ((page : ℕ) → start ≤ page → page < end → 1 ≤ get_or new page 0) → IsHint old n hint → IsHint new n hint
hint-kept start end n hint old new raised held is = record {
  behind_slots = is.behind_slots;
  none = λ q low before run. is.none q low before (λ k from high. elim (cases_lt k start) [
    | inl below ↦ still k (run k from high) (λ l h. absurd (omega (arith, below, l)))
    | inr on ↦ elim (cases_lt k end) [
      | inl within ↦ (let one = held k on within in let none = run k from high in absurd (omega (arith, one, none)))
      | inr past ↦ still k (run k from high) (λ l h. absurd (omega (arith, past, h)))
    ]
  ]);
}
  where
    still : (k : ℕ) → get_or new k 0 ≡ 0 → (start ≤ k → k < end → ⊥) → get_or old k 0 ≡ 0
    still k none out = (let same = raised k in let no_more = once_no start end k out in omega (arith, none, same, no_more))

pub sound-fewer : (old new hints : List ℕ) (count : ℕ) (e : Extent) (rest : List Extent) → IsSpaceSound old hints count → AreTaken (e ∷ rest) (record { counts = old; count = count }) → AreCountsRaised e.page (end_page e) new old → ((page : ℕ) → e.page ≤ page → page < end_page e → 1 ≤ get_or new page 0) → IsSpaceSound new hints (count - 1)
sound-fewer old new hints count e rest sound are raised held = record {
  taken = rest;
  are = taken-less rest e old new count (count - 1) are raised (let some = are.count in omega (arith, some));
  hint_count = sound.hint_count;
  hint = λ n l. hint-kept e.page (end_page e) n (get_or hints n 0) old new raised held (sound.hint n l);
}
