-- Which refusal of an edit comes first, by what is given, by its root, and by the branches that it looks at.
use Rattle.std.proofs.Common.{◌≡◌, ◌⊎◌, ℕ, ◌+◌, ◌%◌, ◌++◌, ◌<◌, ◌≤◌, nat_lt, Bool, true, false, not, cond, ◌==◌, ◌&&◌, ◌||◌, List, [], ◌∷◌, length, Option, Some, None, is_none, refl, sym, ap, ◌∙◌, inl, inr, arith, ltb-true, ltb-false}
use Rattle.std.proofs.lemmas.Bool.{cases_Bool, lt-ltb}
use Rattle.geos_model.specs.Refusal.{first_refusal}
use Rattle.geos_model.specs.Document.{Document, is_live, is_raw, raw_bytes_of}
use Rattle.geos_model.specs.declared.fault.Fault.{Fault}
use Rattle.geos_model.specs.declared.fault.Fault.TheVariants.{NoBlock, WrongKind, NotArray, NoElement, BadChain, IsMap, Range, TooBig, NoHandles}
use Rattle.vm_chains.proofs.WalkLemmas.{raw_live}
use Rattle.geos_model.specs.Pieces.{BranchPiece, branch_room}
use Rattle.geos_model.specs.LargeLayout.{Root, root_of, total_count}
use Rattle.geos_model.specs.LargeBlocks.{root_at, pieces_at}
use Rattle.geos_model.specs.LargeWindow.{window, looked_at, are_branches}
use Rattle.large_arrays.specs.WindowPlans.{frees_map, lacks_handles, has_too_many}
use Rattle.geos_model.specs.LargeEdits.{cut_elements, ends_within_element, element_count, is_too_long, run_places, on_root, on_window, on_run, insert_large_conditions, set_large_conditions, delete_large_conditions}
use Rattle.large_arrays.specs.Replacements.{insertion_conditions, setting_conditions}
use Rattle.large_arrays.proofs.FirstRefusal.{after_root, from_root, of_insertion, of_deletion, of_setting, of_overwriting}

not_less : (a b : ℕ) → b ≤ a → nat_lt a b ≡ false
not_less a b most = elim (cases_Bool (nat_lt a b)) [
  | inl less ↦ (let low = ltb-true a b less in absurd (omega arith))
  | inr other ↦ other
]

-- Of branches alone.

of_window : (chain map few many : Bool) → first_refusal ((BadChain, chain) ∷ (IsMap, map) ∷ (NoHandles, few) ∷ (NoHandles, many) ∷ []) ≡ after_root false chain map false false few many
of_window true map few many = refl
of_window false true few many = refl
of_window false false true many = refl
of_window false false false true = refl
of_window false false false false = refl

of_run : (chain : Bool) → first_refusal ((BadChain, chain) ∷ []) ≡ after_root false chain false false false false false
of_run true = refl
of_run false = refl

-- Of what is given.

given_none : (range long : Bool) → first_refusal ((Range, range) ∷ (TooBig, long) ∷ []) ≡ None → (range ≡ false) × (long ≡ false)
given_none true long none = absurd (cc none)
given_none false true none = absurd (cc none)
given_none false false none = (refl, refl)

pub given_fault : (range long : Bool) (fault : Fault) → first_refusal ((Range, range) ∷ (TooBig, long) ∷ []) ≡ Some fault → (fault ≡ Range) ⊎ (fault ≡ TooBig)
given_fault true long fault is = (let same : Some Range ≡ Some fault = is in inl (cc same))
given_fault false true fault is = (let same : Some TooBig ≡ Some fault = is in inr (cc same))
given_fault false false fault is = absurd (cc is)

given_past : (past range long : Bool) → first_refusal ((NoElement, past) ∷ (Range, range) ∷ (TooBig, long) ∷ []) ≡ None → (past ≡ false) × (range ≡ false) × (long ≡ false)
given_past true range long none = absurd (cc none)
given_past false true long none = absurd (cc none)
given_past false false true none = absurd (cc none)
given_past false false false none = (refl, refl, refl)

pub given_past-fault : (past range long : Bool) (fault : Fault) → first_refusal ((NoElement, past) ∷ (Range, range) ∷ (TooBig, long) ∷ []) ≡ Some fault
    → (fault ≡ NoElement) ⊎ ((fault ≡ Range) ⊎ (fault ≡ TooBig))
given_past-fault true range long fault is = (let same : Some NoElement ≡ Some fault = is in inl (cc same))
given_past-fault false true long fault is = (let same : Some Range ≡ Some fault = is in inr (inl (cc same)))
given_past-fault false false true fault is = (let same : Some TooBig ≡ Some fault = is in inr (inr (cc same)))
given_past-fault false false false fault is = absurd (cc is)

-- what is given refuses an edit before its branches do

given_first : (range long some chain map few many : Bool) (fault : Fault) → first_refusal ((Range, range) ∷ (TooBig, long) ∷ []) ≡ Some fault
    → after_root false ((not (range || long) && some) && chain) ((not (range || long) && some) && map) range long ((not (range || long) && some) && few) ((not (range || long) && some) && many) ≡ Some fault
given_first true long some chain map few many fault is = is
given_first false true some chain map few many fault is = is
given_first false false some chain map few many fault is = absurd (cc is)

given_first-any : (past long some chain map few many : Bool) (fault : Fault) → first_refusal ((NoElement, past) ∷ (Range, false) ∷ (TooBig, long) ∷ []) ≡ Some fault
    → after_root past ((not (past || long) && some) && chain) ((not (past || long) && some) && map) false long ((not (past || long) && some) && few) ((not (past || long) && some) && many) ≡ Some fault
given_first-any true long some chain map few many fault is = is
given_first-any false true some chain map few many fault is = is
given_first-any false false some chain map few many fault is = absurd (cc is)

given_first-one : (past range chain : Bool) (fault : Fault) → first_refusal ((NoElement, past) ∷ (Range, range) ∷ (TooBig, false) ∷ []) ≡ Some fault
    → after_root past (not (past || range) && chain) false range false false false ≡ Some fault
given_first-one true range chain fault is = is
given_first-one false true chain fault is = is
given_first-one false false chain fault is = absurd (cc is)

-- and its root before all else
root_refused : (live raw none : Bool) (rest : Option Fault) (fault : Fault) → first_refusal ((NoBlock, not live) ∷ (WrongKind, not raw) ∷ (NotArray, none) ∷ []) ≡ Some fault
    → from_root live raw none rest ≡ Some fault
root_refused false raw none rest fault is = is
root_refused true false none rest fault is = is
root_refused true true true rest fault is = is
root_refused true true false rest fault is = absurd (cc is)

-- The tests of an edit: whether its branches are looked at, whether they aren't what the root says, and what refuses
-- it.

abbrev there : Bool → ℕ → ℕ → BranchPiece → Bool
there accepted i j new = accepted && not ((i == j) && (length new == 0))

abbrev pub are_looked_at : Document → ℕ → ℕ → ℕ → BranchPiece → Bool
are_looked_at d b i j new = are_branches d b (root_at d b) (looked_at (root_at d b).size (pieces_at d (root_at d b)) i j new)

abbrev by_window : Bool → Bool → Bool → Bool → Document → ℕ → ℕ → ℕ → BranchPiece → Option Fault
by_window accepted past range long d b i j new =
    after_root past (there accepted i j new && not (are_looked_at d b i j new)) (there accepted i j new && frees_map d (window d b i j new)) range long
    (there accepted i j new && lacks_handles d (window d b i j new)) (there accepted i j new && has_too_many d b (window d b i j new))

abbrev are_run : Document → ℕ → ℕ → ℕ → Bool
are_run d b i n = are_branches d b (root_at d b) (run_places (root_at d b) i n)

abbrev by_run : Bool → Bool → Bool → Bool → Document → ℕ → ℕ → ℕ → Option Fault
by_run accepted past range long d b i n = after_root past (accepted && not (are_run d b i n)) false range long false false

window-by : (d : Document) (b i j : ℕ) (new : BranchPiece) → first_refusal (on_window true d b i j new) ≡ by_window true false false false d b i j new
window-by d b i j new =
    of_window (there true i j new && not (are_looked_at d b i j new)) (there true i j new && frees_map d (window d b i j new))
    (there true i j new && lacks_handles d (window d b i j new)) (there true i j new && has_too_many d b (window d b i j new))

run-by : (d : Document) (b i n : ℕ) → first_refusal (on_run true d b i n) ≡ by_run true false false false d b i n
run-by d b i n = of_run (true && not (are_run d b i n))

module _ (d : Document) (b : ℕ) where
  abbrev r : Root
  r = root_at d b

  abbrev by_root : Option Fault → Option Fault
  by_root rest = from_root (is_live d b) (is_raw d b) (is_none (root_of (raw_bytes_of d b))) rest

  before : (rest : Option Fault) (fault : Fault) → first_refusal (on_root d b) ≡ Some fault → by_root rest ≡ Some fault
  before rest fault is = root_refused (is_live d b) (is_raw d b) (is_none (root_of (raw_bytes_of d b))) rest fault is

  past_root : is_raw d b ≡ true → root_of (raw_bytes_of d b) ≡ Some r → (rest : Option Fault) → by_root rest ≡ rest
  past_root raw is rest = λ k. from_root (raw_live d b raw k) (raw k) (is_none (is k)) rest

  -- An insertion.
  module _ (i : ℕ) (bytes : List ℕ) where
    abbrev new : BranchPiece
    new = cut_elements r.size bytes

    abbrev range : Bool
    range = nat_lt (total_count r) i || ends_within_element r.size bytes

    abbrev long : Bool
    long = is_too_long r.size bytes

    abbrev inserted : Bool → Bool → Option Fault
    inserted range long = by_window (not (range || long)) false range long d b i i new

    insertion-by : first_refusal (insert_large_conditions d b i bytes) ≡ by_root (inserted range long)
    insertion-by =
        let accepted = not (range || long) in
        of_insertion (is_live d b) (is_raw d b) (is_none (root_of (raw_bytes_of d b))) range long (there accepted i i new && not (are_looked_at d b i i new))
        (there accepted i i new && frees_map d (window d b i i new)) (there accepted i i new && lacks_handles d (window d b i i new)) (there accepted i i new && has_too_many d b (window d b i i new))

    pub insertion-before : (fault : Fault) → first_refusal (on_root d b) ≡ Some fault → first_refusal (insert_large_conditions d b i bytes) ≡ Some fault
    insertion-before fault is = insertion-by ∙ before (inserted range long) fault is

    module _ (raw : is_raw d b ≡ true) (is : root_of (raw_bytes_of d b) ≡ Some r) where
      pub insertion-refused : (fault : Fault) → first_refusal (insertion_conditions r i bytes) ≡ Some fault → first_refusal (insert_large_conditions d b i bytes) ≡ Some fault
      insertion-refused fault refused =
          insertion-by ∙ past_root raw is (inserted range long)
          ∙ given_first range long (not ((i == i) && (length new == 0))) (not (are_looked_at d b i i new)) (frees_map d (window d b i i new)) (lacks_handles d (window d b i i new))
          (has_too_many d b (window d b i i new)) fault refused

      pub insertion-window : first_refusal (insertion_conditions r i bytes) ≡ None → first_refusal (insert_large_conditions d b i bytes) ≡ first_refusal (on_window true d b i i new)
      insertion-window none =
          let given = given_none range long none in
          insertion-by ∙ past_root raw is (inserted range long) ∙ (λ k. inserted (given.0 k) (given.1 k)) ∙ sym (window-by d b i i new)

  -- A deletion.
  module _ (i n : ℕ) where
    abbrev past : Bool
    past = nat_lt (total_count r) (i + n)

    abbrev deleted : Bool → Option Fault
    deleted past = by_window (not past) past false false d b i (i + n) []

    deletion-by : first_refusal (delete_large_conditions d b i n) ≡ by_root (deleted past)
    deletion-by =
        let accepted = not past in
        of_deletion (is_live d b) (is_raw d b) (is_none (root_of (raw_bytes_of d b))) past (there accepted i (i + n) [] && not (are_looked_at d b i (i + n) []))
        (there accepted i (i + n) [] && frees_map d (window d b i (i + n) [])) (there accepted i (i + n) [] && lacks_handles d (window d b i (i + n) []))
        (there accepted i (i + n) [] && has_too_many d b (window d b i (i + n) []))

    pub deletion-before : (fault : Fault) → first_refusal (on_root d b) ≡ Some fault → first_refusal (delete_large_conditions d b i n) ≡ Some fault
    deletion-before fault is = deletion-by ∙ before (deleted past) fault is

    module _ (raw : is_raw d b ≡ true) (is : root_of (raw_bytes_of d b) ≡ Some r) where
      pub deletion-refused : total_count r < i + n → first_refusal (delete_large_conditions d b i n) ≡ Some NoElement
      deletion-refused more = deletion-by ∙ past_root raw is (deleted past) ∙ ap deleted (lt-ltb (total_count r) (i + n) more)

      pub deletion-window : i + n ≤ total_count r → first_refusal (delete_large_conditions d b i n) ≡ first_refusal (on_window true d b i (i + n) [])
      deletion-window within =
          deletion-by ∙ past_root raw is (deleted past) ∙ ap deleted (not_less (total_count r) (i + n) within) ∙ sym (window-by d b i (i + n) [])

  -- A setting.
  module _ (i : ℕ) (bytes : List ℕ) where
    abbrev count : ℕ
    count = element_count r.size bytes

    abbrev over : Bool
    over = nat_lt (total_count r) (i + count)

    abbrev uneven : Bool
    uneven = ends_within_element r.size bytes

    abbrev too_long : Bool
    too_long = is_too_long r.size bytes

    abbrev set_any : Bool → Bool → Bool → Option Fault
    set_any over uneven too_long = by_window (not (over || too_long)) over uneven too_long d b i (i + 1) (bytes ∷ [])

    abbrev set_one : Bool → Bool → Bool → Option Fault
    set_one over uneven too_long = by_run (not (over || uneven)) over uneven too_long d b i count

    -- where sizes vary
    setting-any : (r.size == 0) ≡ true → first_refusal (set_large_conditions d b i bytes) ≡ by_root (set_any over uneven too_long)
    setting-any vary =
        let accepted = not (over || too_long) in
        (λ k. first_refusal (on_root d b ++ (NoElement, over) ∷ (Range, uneven) ∷ (TooBig, too_long)
        ∷ cond (vary k) (on_window accepted d b i (i + 1) (bytes ∷ [])) (on_run (not (over || uneven)) d b i count)))
        ∙ of_setting (is_live d b) (is_raw d b) (is_none (root_of (raw_bytes_of d b))) over uneven too_long
        (there accepted i (i + 1) (bytes ∷ []) && not (are_looked_at d b i (i + 1) (bytes ∷ []))) (there accepted i (i + 1) (bytes ∷ []) && frees_map d (window d b i (i + 1) (bytes ∷ [])))
        (there accepted i (i + 1) (bytes ∷ []) && lacks_handles d (window d b i (i + 1) (bytes ∷ []))) (there accepted i (i + 1) (bytes ∷ []) && has_too_many d b (window d b i (i + 1) (bytes ∷ [])))

    -- where they don't
    setting-one : (r.size == 0) ≡ false → first_refusal (set_large_conditions d b i bytes) ≡ by_root (set_one over uneven too_long)
    setting-one one =
        (λ k. first_refusal (on_root d b ++ (NoElement, over) ∷ (Range, uneven) ∷ (TooBig, too_long)
        ∷ cond (one k) (on_window (not (over || too_long)) d b i (i + 1) (bytes ∷ [])) (on_run (not (over || uneven)) d b i count)))
        ∙ of_overwriting (is_live d b) (is_raw d b) (is_none (root_of (raw_bytes_of d b))) over uneven too_long (not (over || uneven) && not (are_run d b i count))

    pub setting-before : (fault : Fault) → first_refusal (on_root d b) ≡ Some fault → first_refusal (set_large_conditions d b i bytes) ≡ Some fault
    setting-before fault is = elim (cases_Bool (r.size == 0)) [
      | inl vary ↦ setting-any vary ∙ before (set_any over uneven too_long) fault is
      | inr one ↦ setting-one one ∙ before (set_one over uneven too_long) fault is
    ]

    module _ (raw : is_raw d b ≡ true) (is : root_of (raw_bytes_of d b) ≡ Some r) where
      pub setting-refused : (fault : Fault) → first_refusal (setting_conditions r i bytes) ≡ Some fault → first_refusal (set_large_conditions d b i bytes) ≡ Some fault
      setting-refused fault refused = elim (cases_Bool (r.size == 0)) [
        | inl vary ↦
            (let even : uneven ≡ false = ap (λ (t : Bool). not t && not (length bytes % r.size == 0)) vary in
            setting-any vary ∙ past_root raw is (set_any over uneven too_long) ∙ ap (λ (t : Bool). set_any over t too_long) even
            ∙ given_first-any over too_long (not ((i == i + 1) && (length (bytes ∷ []) == 0))) (not (are_looked_at d b i (i + 1) (bytes ∷ []))) (frees_map d (window d b i (i + 1) (bytes ∷ [])))
            (lacks_handles d (window d b i (i + 1) (bytes ∷ []))) (has_too_many d b (window d b i (i + 1) (bytes ∷ []))) fault
            (ap (λ (t : Bool). first_refusal ((NoElement, over) ∷ (Range, t) ∷ (TooBig, too_long) ∷ [])) (sym even) ∙ refused))
        | inr one ↦
            (let short : too_long ≡ false = ap (λ (t : Bool). t && nat_lt branch_room (length bytes + 2)) one in
            setting-one one ∙ past_root raw is (set_one over uneven too_long) ∙ ap (λ (t : Bool). set_one over uneven t) short
            ∙ given_first-one over uneven (not (are_run d b i count)) fault
            (ap (λ (t : Bool). first_refusal ((NoElement, over) ∷ (Range, uneven) ∷ (TooBig, t) ∷ [])) (sym short) ∙ refused))
      ]

      pub setting-window : first_refusal (setting_conditions r i bytes) ≡ None → (r.size == 0) ≡ true
          → first_refusal (set_large_conditions d b i bytes) ≡ first_refusal (on_window true d b i (i + 1) (bytes ∷ []))
      setting-window none vary =
          let given = given_past over uneven too_long none in
          setting-any vary ∙ past_root raw is (set_any over uneven too_long) ∙ (λ k. set_any (given.0 k) (given.1 k) (given.2 k)) ∙ sym (window-by d b i (i + 1) (bytes ∷ []))

      pub setting-run : first_refusal (setting_conditions r i bytes) ≡ None → (r.size == 0) ≡ false
          → first_refusal (set_large_conditions d b i bytes) ≡ first_refusal (on_run true d b i count)
      setting-run none one =
          let given = given_past over uneven too_long none in
          setting-one one ∙ past_root raw is (set_one over uneven too_long) ∙ (λ k. set_one (given.0 k) (given.1 k) (given.2 k)) ∙ sym (run-by d b i count)

-- What is known of a root where nothing refuses what is given.

pub insertion-within : (r : Root) (i : ℕ) (bytes : List ℕ) → first_refusal (insertion_conditions r i bytes) ≡ None → i ≤ total_count r
insertion-within r i bytes none =
    let most = left_false (nat_lt (total_count r) i) (ends_within_element r.size bytes) (given_none (nat_lt (total_count r) i || ends_within_element r.size bytes) (is_too_long r.size bytes) none).0 in
    ltb-false (total_count r) i most
  where
    left_false : (a b : Bool) → (a || b) ≡ false → a ≡ false
    left_false true b is = is
    left_false false b is = refl

pub setting-within : (r : Root) (i : ℕ) (bytes : List ℕ) → first_refusal (setting_conditions r i bytes) ≡ None
    → (i + element_count r.size bytes ≤ total_count r) × (ends_within_element r.size bytes ≡ false)
setting-within r i bytes none =
    let given = given_past (nat_lt (total_count r) (i + element_count r.size bytes)) (ends_within_element r.size bytes) (is_too_long r.size bytes) none in
    (ltb-false (total_count r) (i + element_count r.size bytes) given.0, given.1)

-- What branches refuse.

module _ (d : Document) (b i j : ℕ) (new : BranchPiece) where
  -- an edit of no element looks at none
  pub window-nothing : ((i == j) && (length new == 0)) ≡ true → first_refusal (on_window true d b i j new) ≡ None
  window-nothing nothing =
      window-by d b i j new
      ∙ (λ k. after_root false (not (nothing k) && not (are_looked_at d b i j new)) (not (nothing k) && frees_map d (window d b i j new)) false false
      (not (nothing k) && lacks_handles d (window d b i j new)) (not (nothing k) && has_too_many d b (window d b i j new)))

  window-tests : ((i == j) && (length new == 0)) ≡ false → (are map few many : Bool) → are_looked_at d b i j new ≡ are → frees_map d (window d b i j new) ≡ map
      → lacks_handles d (window d b i j new) ≡ few → has_too_many d b (window d b i j new) ≡ many
      → first_refusal (on_window true d b i j new) ≡ after_root false (not are) map false false few many
  window-tests some are map few many looked frees lacks has =
      window-by d b i j new
      ∙ (λ k. after_root false (not (some k) && not (looked k)) (not (some k) && frees k) false false (not (some k) && lacks k) (not (some k) && has k))

  pub window-chain : ((i == j) && (length new == 0)) ≡ false → are_looked_at d b i j new ≡ false → first_refusal (on_window true d b i j new) ≡ Some BadChain
  window-chain some none =
      window-tests some false (frees_map d (window d b i j new)) (lacks_handles d (window d b i j new)) (has_too_many d b (window d b i j new)) none refl refl refl

  pub window-map : ((i == j) && (length new == 0)) ≡ false → are_looked_at d b i j new ≡ true → frees_map d (window d b i j new) ≡ true → first_refusal (on_window true d b i j new) ≡ Some IsMap
  window-map some are map = window-tests some true true (lacks_handles d (window d b i j new)) (has_too_many d b (window d b i j new)) are map refl refl

  pub window-handles : ((i == j) && (length new == 0)) ≡ false → are_looked_at d b i j new ≡ true → frees_map d (window d b i j new) ≡ false
      → (lacks_handles d (window d b i j new) || has_too_many d b (window d b i j new)) ≡ true → first_refusal (on_window true d b i j new) ≡ Some NoHandles
  window-handles some are map handles =
      window-tests some true false (lacks_handles d (window d b i j new)) (has_too_many d b (window d b i j new)) are map refl refl ∙ ap (λ (t : Bool). cond t (Some NoHandles) None) handles

  pub window-none : ((i == j) && (length new == 0)) ≡ false → are_looked_at d b i j new ≡ true → frees_map d (window d b i j new) ≡ false → lacks_handles d (window d b i j new) ≡ false
      → has_too_many d b (window d b i j new) ≡ false → first_refusal (on_window true d b i j new) ≡ None
  window-none some are map few many = window-tests some true false false false are map few many

pub run-tested : (d : Document) (b i n : ℕ) (t : Bool) → are_branches d b (root_at d b) (run_places (root_at d b) i n) ≡ t → first_refusal (on_run true d b i n) ≡ cond (not t) (Some BadChain) None
run-tested d b i n t tested = run-by d b i n ∙ ap (λ (t : Bool). cond (not t) (Some BadChain) None) tested
