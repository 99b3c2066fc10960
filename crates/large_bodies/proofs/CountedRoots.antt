-- A root of which one branch has so many elements instead: its numbers, its bytes, and the patch that leads to them.
use Rattle.std.proofs.Common.{◌≡◌, ℕ, suc, ◌+◌, ◌-◌, ◌*◌, ◌<◌, ◌≤◌, Bool, true, ◌&&◌, ◌||◌, ◌==◌, nat_le, nat_lt, List, [], ◌∷◌, ◌++◌, length, take, drop, get_or, sum_by, refl, sym, ap, subst, ◌∙◌, inl, inr, arith, append_assoc, length-append, length-drop}
use Rattle.std.proofs.lemmas.Bool.{cases_Bool, and_parts, and_from}
use Rattle.std.proofs.lemmas.Grind.{flat_map-append}
use Rattle.std.proofs.lemmas.List.{length-take-le, take-append-drop, drop_more}
use Rattle.std.proofs.lemmas.List.Folds.{list_all-append}
use Rattle.std.proofs.lemmas.List.Sums.{sum_by-append, sum_by-cons}
use Rattle.std.specs.List.{list_all, splice}
use Rattle.geos_model.specs.Chain.{tree_mark}
use Rattle.geos_model.specs.Words.{word, double_word}
use Rattle.geos_model.specs.LargeLayout.{Root, greatest_element_size, large_mark, root_bytes, total_count}
use Rattle.geos_model.proofs.Arrays.{length-words}
use Rattle.geos_model.proofs.RootBytes.{FitsRoot, length-links, root_bytes-spelled}
use Rattle.chunk_edits.specs.Patching.{PatchPiece, Keep, Put, PatchLeads}
use Rattle.large_bodies.specs.RootCounts.{counts_pieces}
use Rattle.large_bodies.specs.RootEdits.{count_bytes, link_bytes}
use Rattle.large_bodies.specs.declared.counts.Counts.{Counts}
use Rattle.large_bodies.proofs.LedPieces.{keep-before, put-before, middle-leads}
use Rattle.large_bodies.proofs.RootRuns.{length_spliced, total_spliced}

-- one count among others
pub counts-parts : (cs : List ℕ) (k : ℕ) → k < length cs → cs ≡ take k cs ++ (get_or cs k 0 ∷ drop (suc k) cs)
counts-parts cs k low =
    let next : k + 1 ≡ suc k = omega arith in
    sym (take-append-drop k cs) ∙ ap (λ (l : List ℕ). take k cs ++ l) (drop_more cs k 0 low ∙ ap (λ (n : ℕ). get_or cs k 0 ∷ drop n cs) next)

-- how many elements there are then
pub total-within : (cs : List ℕ) (k c : ℕ) → k < length cs → (get_or cs k 0 ≤ sum_by (λ x. x) cs)
    × (sum_by (λ x. x) (splice cs k (suc k) (c ∷ [])) ≡ sum_by (λ x. x) cs - get_or cs k 0 + c)
total-within cs k c low =
    let old = ap (sum_by (λ (x : ℕ). x)) (counts-parts cs k low) ∙ sum_by-append (λ (x : ℕ). x) (take k cs) (get_or cs k 0 ∷ drop (suc k) cs) in
    let here = sum_by-cons (λ (x : ℕ). x) (get_or cs k 0) (drop (suc k) cs) in
    let new = total_spliced cs (c ∷ []) k (suc k) in
    let one = sum_by-cons (λ (x : ℕ). x) c [] in
    let none : sum_by (λ (x : ℕ). x) [] ≡ 0 = refl in
    (omega arith, omega arith)

-- Of counts that all pass a test, and of a count that passes it.
module _ (test : ℕ → Bool) (cs : List ℕ) (k : ℕ) (low : k < length cs) (all : list_all test cs ≡ true) where
  abbrev passed_behind : Bool
  passed_behind = list_all test (drop (suc k) cs)

  passed : (list_all test (take k cs) ≡ true) × ((test (get_or cs k 0) && passed_behind) ≡ true)
  passed =
      and_parts (list_all test (take k cs)) (test (get_or cs k 0) && passed_behind)
      (sym (ap (list_all test) (counts-parts cs k low) ∙ list_all-append test (take k cs) (get_or cs k 0 ∷ drop (suc k) cs)) ∙ all)

  pub count-passes : test (get_or cs k 0) ≡ true
  count-passes = (and_parts (test (get_or cs k 0)) passed_behind passed.1).0

  counts-pass : (c : ℕ) → test c ≡ true → list_all test (splice cs k (suc k) (c ∷ [])) ≡ true
  counts-pass c good =
      list_all-append test (take k cs) (c ∷ drop (suc k) cs)
      ∙ and_from (list_all test (take k cs)) (test c && passed_behind) passed.0
      (and_from (test c) passed_behind good (and_parts (test (get_or cs k 0)) passed_behind passed.1).1)

-- with so many elements in a branch
abbrev pub with_count : Root → ℕ → ℕ → Root
with_count r k c = record { size = r.size; counts = splice r.counts k (suc k) (c ∷ []); branches = r.branches }

as_many_counts : (r : Root) (k c : ℕ) → k < length r.counts → length (with_count r k c).counts ≡ length r.counts
as_many_counts r k c low = (let long = length_spliced r.counts (c ∷ []) k (suc k) (omega arith) (omega arith) in omega arith)

-- Its numbers have room where those of the root have.
pub fits-with_count : (r : Root) (k c : ℕ) → FitsRoot r → k < length r.counts → nat_lt 0 c ≡ true → nat_lt c 65536 ≡ true → FitsRoot (with_count r k c)
fits-with_count r k c fits low some small =
    let cs : List ℕ = r.counts in
    let after : Root = with_count r k c in
    let same = as_many_counts r k c low in
    let few = fits.few in
    let positive : ℕ → Bool = λ x. nat_lt 0 x in
    let parts = and_parts (nat_lt 0 (length cs) && nat_le r.size greatest_element_size) (length cs == 1 || list_all positive cs) fits.is in
    let counts : (length after.counts == 1 || list_all positive after.counts) ≡ true =
    elim (cases_Bool (length cs == 1)) [
      | inl one ↦ ap (λ (b : Bool). b || list_all positive after.counts) (ap (λ (n : ℕ). n == 1) same ∙ one)
      | inr more ↦
          (let all : list_all positive cs ≡ true = ap (λ (b : Bool). b || list_all positive cs) (sym more) ∙ parts.1 in
          ap (λ (b : Bool). b || list_all positive after.counts) (ap (λ (n : ℕ). n == 1) same ∙ more) ∙ counts-pass positive cs k low all c some)
    ] in
    record {
      is =
          and_from (nat_lt 0 (length after.counts) && nat_le r.size greatest_element_size) (length after.counts == 1 || list_all positive after.counts)
          (ap (λ (n : ℕ). nat_lt 0 n && nat_le r.size greatest_element_size) same ∙ parts.0) counts;
      as_many = fits.as_many ∙ sym same;
      few = omega arith;
      counts = counts-pass (λ x. nat_lt x 65536) cs k low fits.counts c small;
      branches = fits.branches;
    }

-- what stands before the number of elements
abbrev pub before_total : Root → List ℕ
before_total r = word tree_mark ++ word (16 + 2 * length r.counts) ++ word (length r.counts) ++ large_mark ++ word r.size

module _ (r : Root) (k : ℕ) (low : k < length r.counts) where
  -- what stands between that number and the count, and what stands behind the count
  abbrev pub before_count : List ℕ
  before_count = count_bytes (take k r.counts)

  abbrev pub behind_count : List ℕ
  behind_count = count_bytes (drop (suc k) r.counts) ++ link_bytes r.branches

  pub length-before_count : length before_count ≡ 2 * k
  length-before_count = length-words (take k r.counts) ∙ ap (λ (n : ℕ). 2 * n) (length-take-le k r.counts (omega arith))

  length-behind_count : length behind_count ≡ 2 * (length r.counts - 1 - k) + 4 * length r.branches
  length-behind_count =
      let all = length-append (count_bytes (drop (suc k) r.counts)) (link_bytes r.branches) in
      let counts = length-words (drop (suc k) r.counts) in
      let links = length-links r.branches in
      let rest = length-drop (suc k) r.counts in
      omega arith

  pub spelled-old : root_bytes r ≡ before_total r ++ (double_word (total_count r) ++ (before_count ++ (word (get_or r.counts k 0) ++ behind_count)))
  spelled-old =
      root_bytes-spelled r
      ∙ ap (λ (l : List ℕ). (before_total r ++ double_word (total_count r)) ++ (l ++ link_bytes r.branches))
      (ap count_bytes (counts-parts r.counts k low) ∙ flat_map-append word (take k r.counts) (get_or r.counts k 0 ∷ drop (suc k) r.counts))
      ∙ ap (λ (l : List ℕ). (before_total r ++ double_word (total_count r)) ++ l)
      (append_assoc before_count (word (get_or r.counts k 0) ++ count_bytes (drop (suc k) r.counts)) (link_bytes r.branches))
      ∙ append_assoc (before_total r) (double_word (total_count r)) (before_count ++ (word (get_or r.counts k 0) ++ behind_count))

  module _ (c : ℕ) where
    abbrev after : Root
    after = with_count r k c

    pub spelled-new : root_bytes after ≡ before_total r ++ (double_word (total_count after) ++ (before_count ++ (word c ++ behind_count)))
    spelled-new =
        root_bytes-spelled after
        ∙ ap (λ (l : List ℕ). (before_total after ++ double_word (total_count after)) ++ (l ++ link_bytes r.branches)) (flat_map-append word (take k r.counts) (c ∷ drop (suc k) r.counts))
        ∙ ap (λ (l : List ℕ). (before_total after ++ double_word (total_count after)) ++ l) (append_assoc before_count (word c ++ count_bytes (drop (suc k) r.counts)) (link_bytes r.branches))
        ∙ append_assoc (before_total after) (double_word (total_count after)) (before_count ++ (word c ++ behind_count))
        ∙ ap (λ (n : ℕ). (word tree_mark ++ word (16 + 2 * n) ++ word n ++ large_mark ++ word r.size) ++ (double_word (total_count after) ++ (before_count ++ (word c ++ behind_count))))
        (as_many_counts r k c low)

    root-leads : PatchLeads (Keep 12 ∷ Put (double_word (total_count r)) (double_word (total_count after)) ∷ Keep (length before_count) ∷ Put (word (get_or r.counts k 0)) (word c) ∷ Keep (length behind_count) ∷ [])
        (root_bytes r) (root_bytes after)
    root-leads =
        let old : List ℕ = before_count ++ (word (get_or r.counts k 0) ++ behind_count) in
        let new : List ℕ = before_count ++ (word c ++ behind_count) in
        let three : List PatchPiece = Keep (length before_count) ∷ Put (word (get_or r.counts k 0)) (word c) ∷ Keep (length behind_count) ∷ [] in
        let four : List PatchPiece = Put (double_word (total_count r)) (double_word (total_count after)) ∷ three in
        subst (λ (bytes : List ℕ). PatchLeads (Keep 12 ∷ four) bytes (root_bytes after)) (sym spelled-old)
        (subst (λ (bytes : List ℕ). PatchLeads (Keep 12 ∷ four) (before_total r ++ (double_word (total_count r) ++ old)) bytes) (sym spelled-new)
        (keep-before (before_total r) four (double_word (total_count r) ++ old) (double_word (total_count after) ++ new)
        (put-before (double_word (total_count r)) (double_word (total_count after)) three old new refl
        (middle-leads before_count (word (get_or r.counts k 0)) behind_count (word c)))))

    -- The patch with these numbers leads from the root to the other.
    pub counts-lead : (branches place : ℕ) (old new : Counts) → branches ≡ length r.counts → branches ≡ length r.branches → place ≡ k
        → old.total ≡ total_count r → old.count ≡ get_or r.counts k 0 → new.total ≡ total_count after → new.count ≡ c
        → PatchLeads (counts_pieces branches place old new) (root_bytes r) (root_bytes after)
    counts-lead branches place old new many as_many at total_was count_was total_is count_is =
        let long = length-behind_count in
        let first : 2 * place ≡ length before_count = ap (λ (n : ℕ). 2 * n) at ∙ sym length-before_count in
        let last : 2 * (branches - 1 - place) + 4 * branches ≡ length behind_count = omega arith in
        subst (λ (ps : List PatchPiece). PatchLeads ps (root_bytes r) (root_bytes after))
        (sym (λ j. Keep 12 ∷ Put (double_word (total_was j)) (double_word (total_is j)) ∷ Keep (first j) ∷ Put (word (count_was j)) (word (count_is j)) ∷ Keep (last j) ∷ [])) root-leads
