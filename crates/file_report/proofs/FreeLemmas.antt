-- Pages that are counted along extents by their first pages.
use Rattle.std.proofs.Common.{◌≡◌, ℕ, zero, suc, ◌+◌, ◌-◌, ◌<◌, ◌≤◌, ◌||◌, ◌&&◌, not, Bool, true, false, cond, min, max, List, length, take, get_or, arith, refl, sym, subst, ap, ap₂, ◌∙◌, inl, inr}
use Rattle.std.proofs.lemmas.Bool.{cases_lt}
use Rattle.std.proofs.lemmas.List.{take_all}
use Rattle.std.proofs.lemmas.List.Folds.{list_any_more}
use Rattle.std.specs.Prelude.{IsPermutation}
use Rattle.std.proofs.lemmas.List.Sorted.{list_any-IsPermutation}
use Rattle.std.specs.List.Sorted.{IsNonDecreasingBy}
use Rattle.file_format.proofs.Files.{get_or_same}
use Rattle.file_format.specs.File.{end_page}
use Rattle.file_format.specs.declared.file.Extent.{Extent}
use Rattle.file_space.specs.Space.{is_on}
use Rattle.file_space.proofs.SpaceLemmas.{within_yes, within_no}
use Rattle.file_report.specs.Pages.{AreFreePages, AreFreeRuns, IsLongest, IsFreePageRun, IsPageWalk, PassesFree, begins_run, is_free_page, is_used, pages_with}
use Rattle.file_report.specs.declared.free.FreePages.{FreePages}
use Rattle.file_report.specs.declared.free.Walk.{Walk}
use Rattle.file_report.specs.declared.pages.Usage.{Usage}

abbrev once : Bool → ℕ
once b = cond b 1 0

at_most_one : (b : Bool) → once b ≤ 1
at_most_one true = omega arith
at_most_one false = omega arith

pages_with_most : (f : ℕ → Bool) (n : ℕ) → pages_with f n ≤ n
pages_with_most f zero = omega arith
pages_with_most f (suc n) = let rest = pages_with_most f n in let one = at_most_one (f n) in omega (arith, rest, one)

same_count : (f g : ℕ → Bool) (n : ℕ) → ((p : ℕ) → p < n → f p ≡ g p) → pages_with f n ≡ pages_with g n
same_count f g zero same = refl
same_count f g (suc n) same = ap₂ (λ b k. cond b 1 0 + k) (same n (omega arith)) (same_count f g n (λ p below. same p (omega (arith, below))))

same_begins : (f g : ℕ → Bool) (n : ℕ) → ((p : ℕ) → p < n → f p ≡ g p) → (p : ℕ) → p < n → begins_run f p ≡ begins_run g p
same_begins f g n same zero below = same 0 below
same_begins f g n same (suc p) below = ap₂ (λ a b. a && not b) (same (suc p) below) (same p (omega (arith, below)))

same_run : (f g : ℕ → Bool) (n start count : ℕ) → ((p : ℕ) → p < n → f p ≡ g p) → start + count ≤ n → IsFreePageRun f start count → IsFreePageRun g start count
same_run f g n start count same inside run = λ p from below. sym (same p (omega (arith, inside, below))) ∙ run p from below

-- the pages behind don't matter
same_runs : (f g : ℕ → Bool) (n : ℕ) (r : FreePages) → ((p : ℕ) → p < n → f p ≡ g p) → AreFreeRuns f n r → AreFreeRuns g n r
same_runs f g n r same is =
    let back : (p : ℕ) → p < n → g p ≡ f p = λ p below. sym (same p below) in
    record {
      pages = is.pages ∙ same_count f g n same;
      runs = is.runs ∙ same_count (begins_run f) (begins_run g) n (same_begins f g n same);
      longest = record {
        start = is.longest.start;
        within = is.longest.within;
        run = same_run f g n is.longest.start r.longest same is.longest.within is.longest.run;
        most = λ start count inside run. is.longest.most start count inside (same_run g f n start count back inside run);
      };
    }

-- A page more that isn't free.

not_begun : (f : ℕ → Bool) (n : ℕ) → f n ≡ false → begins_run f n ≡ false
not_begun f zero taken = taken
not_begun f (suc n) taken = ap (λ b. b && not (f n)) taken

-- a run that would have the last page has it not
cut_run : (f : ℕ → Bool) (n start count most : ℕ) → f n ≡ false → start + count ≤ suc n → IsFreePageRun f start count → ((start count : ℕ) → start + count ≤ n → IsFreePageRun f start count → count ≤ most) → count ≤ most
cut_run f n start count most taken inside run below = elim (cases_lt n (start + count)) [
  | inl reaches ↦ elim (cases_lt start (start + count)) [
    | inl some ↦ let free : true ≡ false = sym (run n (omega (arith, some, inside, reaches)) reaches) ∙ taken in absurd (cc free)
    | inr none ↦ omega (arith, none)
  ]
  | inr short ↦ below start count short run
]

taken_one : (f : ℕ → Bool) (n : ℕ) (r : FreePages) → f n ≡ false → AreFreeRuns f n r → AreFreeRuns f (suc n) r
taken_one f n r taken is =
    let page : once (f n) ≡ 0 = ap once taken in
    let begin : once (begins_run f n) ≡ 0 = ap once (not_begun f n taken) in
    let pages = is.pages in
    let runs = is.runs in
    let within = is.longest.within in
    record {
      pages = omega (arith, page, pages);
      runs = omega (arith, begin, runs);
      longest = record {
        start = is.longest.start;
        within = omega (arith, within);
        run = is.longest.run;
        most = λ start count inside run. cut_run f n start count r.longest taken inside run is.longest.most;
      };
    }

taken_more : (f : ℕ → Bool) (n k : ℕ) (r : FreePages) → ((p : ℕ) → n ≤ p → p < n + k → f p ≡ false) → AreFreeRuns f n r → AreFreeRuns f (n + k) r
taken_more f n zero r taken is = subst (λ (m : ℕ). AreFreeRuns f m r) (let same : n ≡ n + 0 = omega arith in same) is
taken_more f n (suc k) r taken is =
    let rest = taken_more f n k r (λ p from below. taken p from (omega (arith, below))) is in
    subst (λ (m : ℕ). AreFreeRuns f m r) (let same : suc (n + k) ≡ n + suc k = omega arith in same) (taken_one f (n + k) r (taken (n + k) (omega arith) (omega arith)) rest)

taken_to : (f : ℕ → Bool) (n e : ℕ) (r : FreePages) → n ≤ e → ((p : ℕ) → n ≤ p → p < e → f p ≡ false) → AreFreeRuns f n r → AreFreeRuns f e r
taken_to f n e r up taken is =
    let end : n + (e - n) ≡ e = omega (arith, up) in
    subst (λ (m : ℕ). AreFreeRuns f m r) end (taken_more f n (e - n) r (λ p from below. taken p from (omega (arith, below, end))) is)

-- A run of free pages more, behind one that isn't free.

all_count : (f : ℕ → Bool) (n k : ℕ) → ((p : ℕ) → n ≤ p → p < n + k → f p ≡ true) → pages_with f (n + k) ≡ pages_with f n + k
all_count f n zero free = let same : n + 0 ≡ n = omega arith in let count = ap (pages_with f) same in omega (arith, count)
all_count f n (suc k) free =
    let rest = all_count f n k (λ p from below. free p from (omega (arith, below))) in
    let one : once (f (n + k)) ≡ 1 = ap once (free (n + k) (omega arith) (omega arith)) in
    let count : pages_with f (n + suc k) ≡ pages_with f (suc (n + k)) = ap (pages_with f) (let same : n + suc k ≡ suc (n + k) = omega arith in same) in
    omega (arith, rest, one, count)

begun : (f : ℕ → Bool) (n : ℕ) → f n ≡ true → ((p : ℕ) → p + 1 ≡ n → f p ≡ false) → begins_run f n ≡ true
begun f zero free edge = free
begun f (suc n) free edge = ap₂ (λ a b. a && not b) free (edge n (omega arith))

and_no : (b : Bool) → (b && false) ≡ false
and_no true = refl
and_no false = refl

goes_on : (f : ℕ → Bool) (n : ℕ) → f n ≡ true → begins_run f (suc n) ≡ false
goes_on f n free = ap (λ b. f (suc n) && not b) free ∙ and_no (f (suc n))

one_begun : (f : ℕ → Bool) (n k : ℕ) → ((p : ℕ) → p + 1 ≡ n → f p ≡ false) → ((p : ℕ) → n ≤ p → p < n + suc k → f p ≡ true) → pages_with (begins_run f) (n + suc k) ≡ pages_with (begins_run f) n + 1
one_begun f n zero edge free =
    let one : once (begins_run f n) ≡ 1 = ap once (begun f n (free n (omega arith) (omega arith)) edge) in
    let count : pages_with (begins_run f) (n + suc zero) ≡ pages_with (begins_run f) (suc n) = ap (pages_with (begins_run f)) (let same : n + suc zero ≡ suc n = omega arith in same) in
    omega (arith, one, count)
one_begun f n (suc k) edge free =
    let rest = one_begun f n k edge (λ p from below. free p from (omega (arith, below))) in
    let at : n + suc k ≡ suc (n + k) = omega arith in
    let none : once (begins_run f (n + suc k)) ≡ 0 = ap (λ (p : ℕ). once (begins_run f p)) at ∙ ap once (goes_on f (n + k) (free (n + k) (omega arith) (omega arith))) in
    let count : pages_with (begins_run f) (n + suc (suc k)) ≡ pages_with (begins_run f) (suc (n + suc k)) = ap (pages_with (begins_run f)) (let same : n + suc (suc k) ≡ suc (n + suc k) = omega arith in same) in
    omega (arith, rest, none, count)

-- the longest is the one that was or the new one
longer : (f : ℕ → Bool) (n k most : ℕ) → ((p : ℕ) → p + 1 ≡ n → f p ≡ false) → ((p : ℕ) → n ≤ p → p < n + k → f p ≡ true) → IsLongest f n most → IsLongest f (n + k) (max most k)
longer f n k most edge free is =
    let within = is.within in
    let none : (start count : ℕ) → start + count ≤ n + k → IsFreePageRun f start count → count ≤ max most k = λ start count inside run. elim (cases_lt n (start + count)) [
      | inr short ↦ let old = is.most start count short run in omega (arith, old)
      | inl reaches ↦ elim (cases_lt start n) [
        | inr later ↦ omega (arith, later, inside)
        | inl before ↦
            let wrong : true ≡ false = sym (run (n - 1) (omega (arith, before)) (omega (arith, before, reaches))) ∙ edge (n - 1) (omega (arith, before)) in
            absurd (cc wrong)
      ]
    ] in
    elim (cases_lt most k) [
      | inl new ↦
          let size : k ≡ max most k = omega (arith, new) in
          record {
            start = n;
            within = omega (arith, new);
            run = subst
                (λ (c : ℕ). IsFreePageRun f n c) size free;
            most = none;
          }
      | inr old ↦
          let size : most ≡ max most k = omega (arith, old) in
          record { start = is.start; within = omega (arith, within, old); run = subst (λ (c : ℕ). IsFreePageRun f is.start c) size is.run; most = none }
    ]

free_more : (f : ℕ → Bool) (n k : ℕ) (r new : FreePages) → 0 < k → n + k ≤ 18446744073709551615 → ((p : ℕ) → p + 1 ≡ n → f p ≡ false) → ((p : ℕ) → n ≤ p → p < n + k → f p ≡ true) → AreFreeRuns f n r
    → new.pages ≡ min (r.pages + k) 18446744073709551615 → new.runs ≡ min (r.runs + 1) 18446744073709551615 → new.longest ≡ max r.longest k → AreFreeRuns f (n + k) new
free_more f n zero r new some fits edge free is pages runs longest = absurd (omega (arith, some))
free_more f n (suc k) r new some fits edge free is pages runs longest =
    let was = is.pages in
    let begins = is.runs in
    let few = pages_with_most f n in
    let fewer = pages_with_most (begins_run f) n in
    let all = all_count f n (suc k) free in
    let one = one_begun f n k edge free in
    record {
      pages = omega (arith, pages, was, few, fits, all);
      runs = omega (arith, runs, begins, fewer, fits, one);
      longest = subst (λ (c : ℕ). IsLongest f (n + suc k) c) (sym longest) (longer f n (suc k) r.longest edge free is.longest);
    }

-- The walk.

-- past free pages up to one
pub record Passed (f : ℕ → Bool) (start : ℕ) (old new : Walk) : Type 0 where
  pub end : new.end ≡ max old.end start
  pub runs : AreFreeRuns f (max old.end start) new.free

pub passed_free : (f : ℕ → Bool) (start : ℕ) (old new : Walk) → start ≤ 18446744073709551615 → AreFreeRuns f old.end old.free → (old.end < start → (p : ℕ) → p + 1 ≡ old.end → f p ≡ false) → ((p : ℕ) → old.end ≤ p → p < start → f p ≡ true)
    → PassesFree old start new → Passed f start old new
passed_free f start old new fits is edge free passes = elim (cases_lt old.end start) [
  | inr none ↦
      let same : new ≡ old = passes.none none in
      let end : old.end ≡ max old.end start = omega (arith, none) in
      record {
        end = ap (λ (w : Walk). w.end) same ∙ end;
        runs = subst (λ (w : Walk). AreFreeRuns f (max old.end start) w.free) (sym same) (subst (λ (n : ℕ). AreFreeRuns f n old.free) end is);
      }
  | inl some ↦
      let end : old.end + (start - old.end) ≡ max old.end start = omega (arith, some) in
      let new_end = passes.end some in
      record {
        end = omega (arith, new_end, some);
        runs = subst (λ (n : ℕ). AreFreeRuns f n new.free) end
            (free_more f old.end (start - old.end) old.free new.free (omega (arith, some)) (omega (arith, some, fits)) (edge some) (λ p from below. free p from (omega (arith, below, some))) is (passes.pages some) (passes.runs some)
            (passes.longest some));
      }
]

or_no : (b : Bool) → (b || false) ≡ b
or_no true = refl
or_no false = refl

or_yes : (b : Bool) → (b || true) ≡ true
or_yes true = refl
or_yes false = refl

module _ (taken : ℕ → Bool) (n start : ℕ) (w : Walk) (is : IsPageWalk taken n start w) (e : Extent) (from : start ≤ e.page) where
  abbrev with_extent : ℕ → Bool
  with_extent page = taken page || is_on page e

  -- an extent that doesn't have the page changes nothing, and one that has it takes it
  off : (p : ℕ) → is_on p e ≡ false → with_extent p ≡ taken p
  off p out = ap (λ b. taken p || b) out ∙ or_no (taken p)

  on : (p : ℕ) → e.page ≤ p → p < end_page e → with_extent p ≡ true
  on p low high = ap (λ b. taken p || b) (within_yes e.page (end_page e) p low high) ∙ or_yes (taken p)

  still : (p : ℕ) → taken p ≡ true → with_extent p ≡ true
  still p was = ap (λ b. b || is_on p e) was

  before : (p : ℕ) → p < e.page → with_extent p ≡ taken p
  before p less = off p (within_no e.page (end_page e) p (λ low high. omega (arith, less, low)))

  same_below : (p : ℕ) → p < w.end → not (taken p) ≡ not (with_extent p)
  same_below p below = elim (cases_lt p start) [
    | inl less ↦ ap not (sym (before p (omega (arith, less, from))))
    | inr more ↦ ap not (is.used p more below ∙ sym (still p (is.used p more below)))
  ]

  -- one more extent, of a byte at least, past which the walk goes
  pub walk_more : (passed new : Walk) → n ≤ 18446744073709551615 → e.page < end_page e → PassesFree w (min n e.page) passed → new.free ≡ passed.free → new.end ≡ min n (max passed.end (end_page e)) → IsPageWalk with_extent n e.page new
  walk_more passed new fits some passes free_is end_is =
      let s = min n e.page in
      let b = end_page e in
      let m = max w.end s in
      let inside = is.inside in
      let past = passed_free (λ p. not (with_extent p)) s w passed (omega (arith, fits)) (same_runs (λ p. not (taken p)) (λ p. not (with_extent p)) w.end w.free same_below is.counted)
      (λ less p at. ap not (still p (is.edge (omega (arith, less)) p at)))
      (λ p low high. ap not (before p (omega (arith, high)) ∙ is.behind p low (omega (arith, high)))) passes in
      let end : new.end ≡ min n (max m b) = end_is ∙ ap (λ (k : ℕ). min n (max k b)) past.end in
      let counted : AreFreeRuns (λ p. not (with_extent p)) (min n (max m b)) passed.free =
      taken_to (λ p. not (with_extent p)) m (min n (max m b)) passed.free (omega (arith, inside))
      (λ p low high. ap not (on p (omega (arith, low, high)) (omega (arith, low, high)))) past.runs in
      record {
        counted = subst (λ (f : FreePages). AreFreeRuns (λ p. not (with_extent p)) new.end f) (sym free_is) (subst (λ (k : ℕ). AreFreeRuns (λ p. not (with_extent p)) k passed.free) (sym end) counted);
        inside = omega (arith, end);
        edge = λ less p at. elim (cases_lt p b) [
          | inl below ↦ elim (cases_lt p e.page) [
            | inl low ↦ still p (is.edge (omega (arith, end, less, at, some, low)) p (omega (arith, end, less, at, some, low)))
            | inr high ↦ on p high below
          ]
          | inr past_it ↦ still p (is.edge (omega (arith, end, less, at, some, past_it)) p (omega (arith, end, less, at, some, past_it)))
        ];
        used = λ p low high. elim (cases_lt p b) [
          | inl below ↦ on p low below
          | inr past_it ↦ still p (is.used p (omega (arith, from, low)) (omega (arith, end, low, high, past_it)))
        ];
        behind = λ p low high.
            off p (within_no e.page b p (λ start less. omega (arith, end, low, high, less))) ∙ is.behind p (omega (arith, end, low, high)) high;
      }

  -- one of no bytes
  pub walk_none : end_page e ≤ e.page → IsPageWalk with_extent n e.page w
  walk_none none =
      let same : (p : ℕ) → with_extent p ≡ taken p = λ p. off p (within_no e.page (end_page e) p (λ low high. omega (arith, none, low, high))) in
      record {
        counted = same_runs (λ p. not (taken p)) (λ p. not (with_extent p)) w.end w.free same_below is.counted;
        inside = is.inside;
        edge = λ less p at. same p ∙ is.edge less p at;
        used = λ p low high. same p ∙ is.used p (omega (arith, from, low)) high;
        behind = λ p low high. same p ∙ is.behind p low high;
      }

-- tests that are the same
walk_same : (f g : ℕ → Bool) (n start : ℕ) (w : Walk) → ((p : ℕ) → f p ≡ g p) → IsPageWalk f n start w
    → IsPageWalk g n start w
walk_same f g n start w same is = record {
  counted = same_runs (λ p. not (f p)) (λ p. not (g p)) w.end w.free (λ p below. ap not (same p)) is.counted;
  inside = is.inside;
  edge = λ less p at. sym (same p) ∙ is.edge less p at;
  used = λ p low high. sym (same p) ∙ is.used p low high;
  behind = λ p low high. sym (same p) ∙ is.behind p low high;
}

-- Extents by their first pages.

-- the first i are passed
pub record IsPassed (us : List Usage) (n i : ℕ) (w : Walk) : Type 0 where
  pub start : ℕ
  pub walk : IsPageWalk (is_used (take i us)) n start w
  pub later : (j : ℕ) (d : Usage) → i ≤ j → j < length us → start ≤ (get_or us j d).extent.page

pub passed_none : (us : List Usage) (n : ℕ) (w : Walk) → w.end ≡ 0 → w.free.pages ≡ 0 → w.free.runs ≡ 0 → w.free.longest ≡ 0 → IsPassed us n 0 w
passed_none us n w end pages runs longest =
    let none : AreFreeRuns (is_free_page (take 0 us)) 0 w.free = record {
      pages = pages;
      runs = runs;
      longest = record {
        start = 0;
        within = omega (arith, longest);
        run = λ p low high. absurd (omega (arith, high, longest));
        most = λ start count inside run. omega (arith, inside);
      };
    } in
    record {
      start = 0;
      walk = record {
        counted = subst (λ (k : ℕ). AreFreeRuns (is_free_page (take 0 us)) k w.free) (sym end) none;
        inside = omega (arith, end);
        edge = λ less p at. absurd (omega (arith, at, end));
        used = λ p low high. absurd (omega (arith, high, end));
        behind = λ p low high. refl;
      };
      later = λ j d from within. omega arith;
    }

pub passed_more : (us : List Usage) (n i : ℕ) (d : Usage) (w new : Walk) → IsNonDecreasingBy (λ u. u.extent.page) us → i < length us → IsPassed us n i w
    → ((taken : ℕ → Bool) (start : ℕ) → IsPageWalk taken n start w → start ≤ (get_or us i d).extent.page → IsPageWalk (λ page. taken page || is_on page (get_or us i d).extent) n (get_or us i d).extent.page new) → IsPassed us n (i + 1) new
passed_more us n i d w new order within p step =
    let e = (get_or us i d).extent in
    let next = step (is_used (take i us)) p.start p.walk (p.later i d (omega arith) within) in
    record {
      start = e.page;
      walk = walk_same (λ page. is_used (take i us) page || is_on page e) (is_used (take (i + 1) us)) n e.page new (λ page. sym (list_any_more (λ u. is_on page u.extent) us i d within)) next;
      later = λ j x past inside.
          let rises = order i j x (omega (arith, past)) inside in
          let same : (get_or us i x).extent.page ≡ e.page = ap (λ (v : Usage). v.extent.page) (get_or_same us i x d within) in
          omega (arith, rises, same);
    }

pub passed_all : (us : List Usage) (n i : ℕ) (w new : Walk) → n ≤ 18446744073709551615 → length us ≤ i → IsPassed us n i w → PassesFree w n new → AreFreePages us n new.free
passed_all us n i w new fits past p passes =
    let taken = is_used (take i us) in
    let inside = p.walk.inside in
    let end : max w.end n ≡ n = omega (arith, inside) in
    let runs = passed_free (λ page. not (taken page)) n w new fits p.walk.counted (λ less page at. ap not (p.walk.edge less page at)) (λ page low high. ap not (p.walk.behind page low high)) passes in
    subst (λ (l : List Usage). AreFreePages l n new.free) (take_all i us past) (subst (λ (k : ℕ). AreFreeRuns (λ page. not (taken page)) k new.free) end runs.runs)

-- in whatever order
pub free_moved : (us vs : List Usage) (n : ℕ) (f : FreePages) → IsPermutation us vs → AreFreePages vs n f → AreFreePages us n f
free_moved us vs n f moved is = same_runs (is_free_page vs) (is_free_page us) n f (λ p below. ap not (sym (list_any-IsPermutation (λ u. is_on p u.extent) us vs moved))) is
