-- What is known of an edit that nothing refuses.
use Rattle.std.proofs.Common.{◌≡◌, ℕ, ◌+◌, ◌-◌, ◌++◌, ◌≤◌, Bool, true, false, not, ◌&&◌, ◌||◌, ◌==◌, nat_lt, List, [], ◌∷◌, length, None, is_none, is_some, Option, Some, refl, sym, ap, ap₂, ◌∙◌, arith, leb-true, ltb-false}
use Rattle.std.proofs.lemmas.Bool.{cond-true, cond-false}
use Rattle.std.specs.List.{list_any}
use Rattle.geos_model.specs.Refusal.{Conditions, first_refusal}
use Rattle.geos_model.specs.Document.{Document, is_raw, raw_bytes_of}
use Rattle.geos_model.specs.Chain.{free_handles}
use Rattle.geos_model.specs.declared.fault.Fault.TheVariants.{WrongKind, NotArray, BadChain, IsMap, Range, TooBig, NoHandles, NoElement}
use Rattle.geos_model.proofs.Refusals.{none_applies, or_none}
use Rattle.geos_model.proofs.Validity.{not_false}
use Rattle.geos_model.specs.Pieces.{BranchPiece, each_fits}
use Rattle.geos_model.specs.LargeLayout.{Root, greatest_element_size, most_branches, total_count, root_of}
use Rattle.geos_model.specs.LargeBlocks.{root_at}
use Rattle.geos_model.specs.LargeWindow.{window, freed_handles, are_branches, replaced_root}
use Rattle.geos_model.specs.LargeEdits.{on_root, on_window, on_run, run_places, cut_elements, ends_within_element, element_count, is_too_long, insert_large_conditions, set_large_conditions, delete_large_conditions}
use Rattle.geos_model.specs.LargeDocumentLaws.{replacing_looks}
use Rattle.geos_model.proofs.BranchBytes.{is_sized}
use Rattle.geos_model.proofs.Layouts.{root-facts}
use Rattle.geos_model.proofs.PieceLists.{root_small, sized-none}
use Rattle.geos_model.proofs.GivenElements.{given-fits, given-sized, given-one, given-count}
use Rattle.geos_model.proofs.WindowPuts.{HasRoot, MayReplace}
use Rattle.geos_model.proofs.RunPuts.{IsRunAccepted}

-- what an accepted edit of something was tested for
tested : (accepted nothing test : Bool) → accepted ≡ true → nothing ≡ false → ((accepted && not nothing) && test) ≡ false → test ≡ false
tested accepted nothing test is some none =
    ap₂ (λ (a n : Bool). (a && not n) && test) (sym is) (sym some) ∙ none

some_there : (o : Option Root) → is_none o ≡ false → is_some o ≡ true
some_there None none = absurd (cc none)
some_there (Some r) none = refl

-- a root is there
root_there : (d : Document) (b : ℕ) (own : Conditions) → first_refusal (on_root d b ++ own) ≡ None → HasRoot d b
root_there d b own none =
    let cs : Conditions = on_root d b ++ own in record {
      raw = not_false (is_raw d b) (or_none (none_applies cs none WrongKind refl)).0;
      found = some_there (root_of (raw_bytes_of d b)) (or_none (none_applies cs none NotArray refl)).0;
    }

-- and its elements have a size that can be
size_small : (d : Document) (b : ℕ) → HasRoot d b → (root_at d b).size ≤ greatest_element_size
size_small d b root = leb-true (root_at d b).size greatest_element_size (root_small (root_at d b) (root-facts d b root.found).0)

-- Elements that can come in the place of others, where nothing refuses that.
pub record IsAccepted (d : Document) (b i j : ℕ) (new : BranchPiece) : Type 0 where
  pub root : HasRoot d b
  pub fit : each_fits (root_at d b).size new ≡ true
  pub sized : is_sized (root_at d b).size new ≡ true
  pub may : ((i == j) && (length new == 0)) ≡ false → MayReplace d b i j new

-- what the conditions of a window come to
window_may : (d : Document) (b i j : ℕ) (new : BranchPiece) (accepted : Bool) → accepted ≡ true
    → ((i == j) && (length new == 0)) ≡ false
    → let there = accepted && not ((i == j) && (length new == 0)) in
    let r = root_at d b in
    let w = window d b i j new in
    (there && not (are_branches d b r (replacing_looks d b i j new))) ≡ false
    → (there && list_any (λ h. h == d.map_block) (freed_handles w)) ≡ false
    → ((there && nat_lt (length (free_handles d)) (length w.pieces - length w.olds)) || ((there && nat_lt most_branches (length (replaced_root r w).branches)) || false)) ≡ false
    → MayReplace d b i j new
window_may d b i j new accepted is some chain map handles =
    let w = window d b i j new in
    let nothing = (i == j) && (length new == 0) in
    let both = or_none handles in
    record {
      seen = not_false (are_branches d b (root_at d b) (replacing_looks d b i j new)) (tested accepted nothing _ is some chain);
      no_map = tested accepted nothing (list_any (λ h. h == d.map_block) (freed_handles w)) is some map;
      room = tested accepted nothing (nat_lt (length (free_handles d)) _) is some both.0;
      few = tested accepted nothing (nat_lt most_branches _) is some (or_none both.1).0;
    }

pub insert-accepted : (d : Document) (b i : ℕ) (bytes : List ℕ) → first_refusal (insert_large_conditions d b i bytes) ≡ None
    → IsAccepted d b i i (cut_elements (root_at d b).size bytes)
insert-accepted d b i bytes none =
    let cs : Conditions = insert_large_conditions d b i bytes in
    let r : Root = root_at d b in
    let new : BranchPiece = cut_elements r.size bytes in
    let range = nat_lt (total_count r) i || ends_within_element r.size bytes in
    let long = is_too_long r.size bytes in
    let root : HasRoot d b = root_there d b ((Range, range) ∷ (TooBig, long) ∷ on_window (not (range || long)) d b i i new) none in
    let in_range : range ≡ false = (or_none (none_applies cs none Range refl)).0 in
    let short : long ≡ false = (or_none (none_applies cs none TooBig refl)).0 in
    let accepted : not (range || long) ≡ true = ap₂ (λ (a c : Bool). not (a || c)) in_range short in
    record {
      root = root;
      fit = given-fits r.size bytes (size_small d b root) short;
      sized = given-sized r.size bytes;
      may = λ some.
          window_may d b i i new (not (range || long)) accepted some
          (or_none (none_applies cs none BadChain refl)).0 (or_none (none_applies cs none IsMap refl)).0 (none_applies cs none NoHandles refl);
    }

pub delete-accepted : (d : Document) (b i n : ℕ) → first_refusal (delete_large_conditions d b i n) ≡ None → IsAccepted d b i (i + n) []
delete-accepted d b i n none =
    let cs : Conditions = delete_large_conditions d b i n in
    let r : Root = root_at d b in
    let past = nat_lt (total_count r) (i + n) in
    let within : past ≡ false = (or_none (none_applies cs none NoElement refl)).0 in
    record {
      root = root_there d b ((NoElement, past) ∷ on_window (not past) d b i (i + n) []) none;
      fit = refl;
      sized = sized-none r.size;
      may = λ some.
          window_may d b i (i + n) [] (not past) (ap not within) some
          (or_none (none_applies cs none BadChain refl)).0 (or_none (none_applies cs none IsMap refl)).0 (none_applies cs none NoHandles refl);
    }

-- The conditions of a set, with those of the branches.
abbrev with_branches : Document → ℕ → ℕ → List ℕ → Conditions → Conditions
with_branches d b i bytes own =
    let r = root_at d b in
    on_root d b ++ (NoElement, nat_lt (total_count r) (i + element_count r.size bytes))
    ∷ (Range, ends_within_element r.size bytes) ∷ (TooBig, is_too_long r.size bytes) ∷ own

abbrev vary_own : Document → ℕ → ℕ → List ℕ → Conditions
vary_own d b i bytes =
    let r = root_at d b in
    on_window (not (nat_lt (total_count r) (i + element_count r.size bytes) || is_too_long r.size bytes)) d b i (i + 1) (bytes ∷ [])

abbrev even_own : Document → ℕ → ℕ → List ℕ → Conditions
even_own d b i bytes =
    let r = root_at d b in
    on_run (not (nat_lt (total_count r) (i + element_count r.size bytes) || ends_within_element r.size bytes)) d b i (element_count r.size bytes)

vary_none : (d : Document) (b i : ℕ) (bytes : List ℕ) → ((root_at d b).size == 0) ≡ true → first_refusal (set_large_conditions d b i bytes) ≡ None
    → first_refusal (with_branches d b i bytes (vary_own d b i bytes)) ≡ None
vary_none d b i bytes any none =
    sym (ap (λ (own : Conditions). first_refusal (with_branches d b i bytes own)) (cond-true ((root_at d b).size == 0) (vary_own d b i bytes) (even_own d b i bytes) any)) ∙ none

even_none : (d : Document) (b i : ℕ) (bytes : List ℕ) → ((root_at d b).size == 0) ≡ false → first_refusal (set_large_conditions d b i bytes) ≡ None
    → first_refusal (with_branches d b i bytes (even_own d b i bytes)) ≡ None
even_none d b i bytes one none =
    sym (ap (λ (own : Conditions). first_refusal (with_branches d b i bytes own)) (cond-false ((root_at d b).size == 0) (vary_own d b i bytes) (even_own d b i bytes) one)) ∙ none

-- an element that is set where sizes vary
pub set-accepted : (d : Document) (b i : ℕ) (bytes : List ℕ) → ((root_at d b).size == 0) ≡ true → first_refusal (set_large_conditions d b i bytes) ≡ None
    → IsAccepted d b i (i + 1) (bytes ∷ [])
set-accepted d b i bytes any none =
    let r : Root = root_at d b in
    let new : BranchPiece = bytes ∷ [] in
    let past = nat_lt (total_count r) (i + element_count r.size bytes) in
    let long = is_too_long r.size bytes in
    let own : Conditions = vary_own d b i bytes in
    let cs : Conditions = with_branches d b i bytes own in
    let own_none = vary_none d b i bytes any none in
    let root : HasRoot d b = root_there d b ((NoElement, past) ∷ (Range, ends_within_element r.size bytes) ∷ (TooBig, long) ∷ own) own_none in
    let within : past ≡ false = (or_none (none_applies cs own_none NoElement refl)).0 in
    let short : long ≡ false = (or_none (none_applies cs own_none TooBig refl)).0 in
    let accepted : not (past || long) ≡ true = ap₂ (λ (a c : Bool). not (a || c)) within short in
    let new_is : cut_elements r.size bytes ≡ new = given-one r.size bytes any in
    record {
      root = root;
      fit = ap (each_fits r.size) (sym new_is) ∙ given-fits r.size bytes (size_small d b root) short;
      sized = ap (is_sized r.size) (sym new_is) ∙ given-sized r.size bytes;
      may = λ some.
          window_may d b i (i + 1) new (not (past || long)) accepted some
          (or_none (none_applies cs own_none BadChain refl)).0 (or_none (none_applies cs own_none IsMap refl)).0 (none_applies cs own_none NoHandles refl);
    }

-- elements that are set where they have one size
pub set-count : (d : Document) (b i : ℕ) (bytes : List ℕ) → ((root_at d b).size == 0) ≡ false → first_refusal (set_large_conditions d b i bytes) ≡ None
    → element_count (root_at d b).size bytes ≡ length (cut_elements (root_at d b).size bytes)
set-count d b i bytes one none =
    given-count (root_at d b).size bytes one (or_none (none_applies (with_branches d b i bytes (even_own d b i bytes)) (even_none d b i bytes one none) Range refl)).0

pub run-accepted : (d : Document) (b i : ℕ) (bytes : List ℕ) → ((root_at d b).size == 0) ≡ false → first_refusal (set_large_conditions d b i bytes) ≡ None
    → IsRunAccepted d b i (cut_elements (root_at d b).size bytes)
run-accepted d b i bytes one none =
    let r : Root = root_at d b in
    let n : ℕ = element_count r.size bytes in
    let past = nat_lt (total_count r) (i + n) in
    let uneven = ends_within_element r.size bytes in
    let own : Conditions = even_own d b i bytes in
    let cs : Conditions = with_branches d b i bytes own in
    let own_none = even_none d b i bytes one none in
    let within : past ≡ false = (or_none (none_applies cs own_none NoElement refl)).0 in
    let whole : uneven ≡ false = (or_none (none_applies cs own_none Range refl)).0 in
    let accepted : not (past || uneven) ≡ true = ap₂ (λ (a c : Bool). not (a || c)) within whole in
    let count = set-count d b i bytes one none in
    let most = ltb-false (total_count r) (i + n) within in
    record {
      root = root_there d b ((NoElement, past) ∷ (Range, uneven) ∷ (TooBig, is_too_long r.size bytes) ∷ own) own_none;
      one = one;
      within = omega arith;
      sized = given-sized r.size bytes;
      seen =
          ap (λ (k : ℕ). are_branches d b r (run_places r i k)) (sym count)
          ∙ not_false (are_branches d b r (run_places r i n))
          (ap (λ (a : Bool). a && not (are_branches d b r (run_places r i n))) (sym accepted) ∙ (or_none (none_applies cs own_none BadChain refl)).0);
    }
