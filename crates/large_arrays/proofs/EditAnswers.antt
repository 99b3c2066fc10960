-- What is answered of an edit, by what is found of its root and of its branches.
use Rattle.std.proofs.Common.{◌≡◌, ◌≢◌, ◌⊎◌, ℕ, ◌+◌, ◌<◌, ◌≤◌, true, false, ◌==◌, ◌&&◌, ◌||◌, List, [], ◌∷◌, ◌++◌, length, map, Some, None, Result, Ok, Err, MatchResult, IfErr, refl, sym, ap, subst, ◌∙◌, inl, inr, arith, eqb-true, leb-true, length-append, nat_le, nat_lt, is_some}
use Rattle.std.proofs.lemmas.Bool.{cases_Bool, and_parts, cond-true, cond-false}
use Rattle.std.proofs.lemmas.Slice.Zip.{firsts-zip}
use Rattle.std.specs.List.{list_all, zip}
use Rattle.geos_model.specs.ElementArray.{all_distinct}
use Rattle.geos_model.specs.Document.{Document, is_raw, raw_bytes_of, with_blocks, without_blocks}
use Rattle.geos_model.specs.Refusal.{Conditions, first_refusal}
use Rattle.geos_model.specs.declared.fault.Fault.{Fault}
use Rattle.geos_model.specs.declared.fault.Fault.TheVariants.{BadChain, IsMap, NoHandles}
use Rattle.vm_blocks.specs.declared.change.Change.{Change}
use Rattle.vm_chains.specs.Answers.{AnswersChain}
use Rattle.vm_chains.specs.Walking.{Stops}
use Rattle.geos_model.specs.Pieces.{BranchPiece}
use Rattle.geos_model.specs.LargeLayout.{Root, greatest_element_size, root_of, root_bytes, branch_bytes, total_count}
use Rattle.geos_model.specs.LargeBlocks.{root_at}
use Rattle.geos_model.specs.LargeWindow.{Window, window, freed_handles, raw_block, replaced_root, with_window, are_branches, elements_replaced, elements_overwritten}
use Rattle.large_arrays.specs.ChangePlans.{with_bodies, window_bodies, ArePlanned}
use Rattle.geos_model.specs.ChangedBlocks.{replaced_blocks, overwritten_blocks, inserted_blocks, set_blocks, deleted_blocks}
use Rattle.large_arrays.specs.WindowPlans.{IsWindowPlanned, RefusesWindow}
use Rattle.geos_model.specs.LargeEdits.{cut_elements, element_count, run_places, large_inserted, large_set, large_deleted, on_window, on_run, insert_large_conditions, set_large_conditions, delete_large_conditions}
use Rattle.large_arrays.specs.EditPlans.{PlansLargeEdit, IsOverwritingPlanned, IsGivenFault, IsSettingFault, IsLargeEditRefusal}
use Rattle.large_arrays.specs.Replacements.{CanReplace, IsInsertion, IsSetting, IsDeletion, insertion_conditions, setting_conditions, replacement}
use Rattle.large_arrays.specs.declared.edit_plans.Replacement.{Replacement}
use Rattle.large_arrays.proofs.EditRefusals.{are_looked_at, given_fault, given_past-fault, insertion-window, insertion-within, deletion-window, setting-window, setting-run, setting-within, window-nothing, window-chain, window-map, window-handles, window-none, run-tested}
use Rattle.geos_model.proofs.GivenElements.{given-one, given-count}
use Rattle.geos_model.proofs.Layouts.{root-facts}
use Rattle.large_arrays.proofs.PlannedEdits.{planned-edit}
use Rattle.geos_model.proofs.WindowPuts.{HasRoot, MayReplace, window-named, window-once}

-- The document with a window is that with its bodies.

map_twice : {A B C : Type 0} (f : A → B) (g : B → C) (xs : List A) → map g (map f xs) ≡ map (λ x. g (f x)) xs
map_twice f g [] = refl
map_twice f g (x ∷ xs) = ap (λ ys. g (f x) ∷ ys) (map_twice f g xs)

window-with_bodies : (d : Document) (b : ℕ) (w : Window) → with_bodies d (freed_handles w) (window_bodies d b w) ≡ with_window d b w
window-with_bodies d b w =
    let r : Root = root_at d b in
    ap (λ blocks. with_blocks (without_blocks d (freed_handles w)) (raw_block d b (root_bytes (replaced_root r w)) ∷ blocks))
    (map_twice (λ (p : ℕ × BranchPiece). (p.0, branch_bytes r.size p.1)) (λ (p : ℕ × List ℕ). raw_block d p.0 p.1) (zip w.news w.pieces))

-- of elements that come, or go
replaced-is : (d : Document) (b i j : ℕ) (new : BranchPiece) → ((i == j) && (length new == 0)) ≡ false → with_window d b (window d b i j new) ≡ elements_replaced d b i j new
unfolding elements_replaced
replaced-is d b i j new some = sym (cond-false ((i == j) && (length new == 0)) d (with_window d b (window d b i j new)) some)

replaced-none : (d : Document) (b i j : ℕ) (new : BranchPiece) → ((i == j) && (length new == 0)) ≡ true → d ≡ elements_replaced d b i j new
unfolding elements_replaced
replaced-none d b i j new none = sym (cond-true ((i == j) && (length new == 0)) d (with_window d b (window d b i j new)) none)

overwritten-none : (d : Document) (b i : ℕ) (new : BranchPiece) → (length new == 0) ≡ true → d ≡ elements_overwritten d b i new
unfolding elements_overwritten
overwritten-none d b i new none = sym (cond-true (length new == 0) d _ none)

-- What is planned for a window is the plan of the edit.

-- of the same document and blocks
plans-same : (d : Document) (changes : List Change) {x y : Document} {hs ks : List ℕ} → x ≡ y → hs ≡ ks → PlansLargeEdit d x hs changes → PlansLargeEdit d y ks changes
plans-same d changes {x} {y} {hs} {ks} same blocks plans =
    subst (λ (e : Document). PlansLargeEdit d e ks changes) same (subst (λ (changed : List ℕ). PlansLargeEdit d x changed changes) blocks plans)

blocks-are : (d : Document) (b : ℕ) (w : Window) → length w.news ≡ length w.pieces → map (λ (p : ℕ × List ℕ). p.0) (window_bodies d b w) ≡ b ∷ w.news
blocks-are d b w many =
    ap (λ (hs : List ℕ). b ∷ hs)
    (map_twice (λ (p : ℕ × BranchPiece). (p.0, branch_bytes (root_at d b).size p.1)) (λ (p : ℕ × List ℕ). p.0) (zip w.news w.pieces) ∙ firsts-zip w.news w.pieces (sym many))

module _ (d : Document) (b i j : ℕ) (new : BranchPiece) (root : HasRoot d b) (order : i ≤ j) (may : MayReplace d b i j new) where
  abbrev w : Window
  w = window d b i j new

  pieces_many : length w.news ≡ length w.pieces
  unfolding window
  pieces_many = (window-named d b i j new root order may).as_many

  window-planned : ((i == j) && (length new == 0)) ≡ false → (changes : List Change) → ArePlanned changes d (freed_handles w) (window_bodies d b w)
      → PlansLargeEdit d (elements_replaced d b i j new) (replaced_blocks d b i j new) changes
  window-planned some changes planned =
      let blocks : map (λ (p : ℕ × List ℕ). p.0) (window_bodies d b w) ≡ b ∷ w.news = blocks-are d b w pieces_many in
      let once = ap (λ (hs : List ℕ). all_distinct (freed_handles w ++ hs)) blocks ∙ window-once d b i j new root order may in
      let more : 0 < length (freed_handles w ++ map (λ (p : ℕ × List ℕ). p.0) (window_bodies d b w)) =
      (let all = length-append (freed_handles w) (map (λ (p : ℕ × List ℕ). p.0) (window_bodies d b w)) in let named = ap (λ (hs : List ℕ). length hs) blocks in omega arith) in
      subst (λ (hs : List ℕ). PlansLargeEdit d (elements_replaced d b i j new) hs changes)
      (ap (λ (hs : List ℕ). freed_handles w ++ hs) blocks ∙ sym (cond-false ((i == j) && (length new == 0)) (b ∷ []) (freed_handles w ++ b ∷ w.news) some))
      (planned-edit d (freed_handles w) (window_bodies d b w) once more changes (elements_replaced d b i j new) (window-with_bodies d b w ∙ replaced-is d b i j new some) planned)

-- Answers by others.

-- of the same document and blocks
answers-same : {A : Type 0} (lacks : Fault → Type 0) (conditions : Conditions) (d : Document) (items : A → List Change) (r : Result A Fault) {x y : Document} {hs ks : List ℕ}
    → x ≡ y → hs ≡ ks → AnswersChain lacks conditions (λ changes. PlansLargeEdit d x hs (items changes)) r
    → AnswersChain lacks conditions (λ changes. PlansLargeEdit d y ks (items changes)) r
answers-same lacks conditions d items r {x} {y} {hs} {ks} same blocks is =
    subst (λ (e : Document). AnswersChain lacks conditions (λ changes. PlansLargeEdit d e ks (items changes)) r) same
    (subst (λ (changed : List ℕ). AnswersChain lacks conditions (λ changes. PlansLargeEdit d x changed (items changes)) r) blocks is)

pub answers-by : {A : Type 0} (lacks : Fault → Type 0) (first next : Conditions) (P : A → Type 0) (r : Result A Fault) → first_refusal next ≡ first_refusal first
    → AnswersChain lacks first P r → AnswersChain lacks next P r
answers-by lacks first next P (Ok x) same is = (same ∙ is.0, is.1)
answers-by lacks first next P (Err fault) same (inl lack) = inl lack
answers-by lacks first next P (Err fault) same (inr refused) = inr (same ∙ refused)

pub answers-later : {A : Type 0} (first lacks : Fault → Type 0) (conditions : Conditions) (P : A → Type 0) (r : Result A Fault) → ((fault : Fault) → first fault → lacks fault)
    → AnswersChain first conditions P r → AnswersChain lacks conditions P r
answers-later first lacks conditions P (Ok x) turn is = is
answers-later first lacks conditions P (Err fault) turn (inl lack) = inl (turn fault lack)
answers-later first lacks conditions P (Err fault) turn (inr refused) = inr refused

pub err-later : {A : Type 0} (first lacks X : Fault → Type 0) (r : Result A Fault) → ((fault : Fault) → first fault → lacks fault) → IfErr r (λ fault. first fault ⊎ X fault)
    → IfErr r (λ fault. lacks fault ⊎ X fault)
err-later first lacks X (Ok x) turn is = tt
err-later first lacks X (Err fault) turn (inl lack) = inl (turn fault lack)
err-later first lacks X (Err fault) turn (inr other) = inr other

-- what stops a look at branches is one of the causes of an edit's refusal
pub chain-later : (first lacks : Fault → Type 0) (fault : Fault) → ((fault : Fault) → first fault → lacks fault) → first fault ⊎ (fault ≡ BadChain)
    → lacks fault ⊎ ((fault ≡ BadChain) ⊎ ((fault ≡ IsMap) ⊎ (fault ≡ NoHandles)))
chain-later first lacks fault turn (inl lack) = inl (turn fault lack)
chain-later first lacks fault turn (inr bad) = inr (inl bad)

pub handles-later : {A : Type 0} (first lacks : Fault → Type 0) (r : Result A Fault) → ((fault : Fault) → first fault → lacks fault)
    → IfErr r (λ fault. first fault ⊎ ((fault ≡ IsMap) ⊎ (fault ≡ NoHandles))) → IfErr r (λ fault. lacks fault ⊎ ((fault ≡ BadChain) ⊎ ((fault ≡ IsMap) ⊎ (fault ≡ NoHandles))))
handles-later first lacks (Ok x) turn is = tt
handles-later first lacks (Err fault) turn (inl lack) = inl (turn fault lack)
handles-later first lacks (Err fault) turn (inr other) = inr (inr other)

-- Refusals of edits.

pub insertion-fault : (lacks : Fault → Type 0) (d : Document) (b : ℕ) (r : Root) (i : ℕ) (bytes : List ℕ) (fault : Fault) → first_refusal (insertion_conditions r i bytes) ≡ Some fault
    → IsLargeEditRefusal IsGivenFault lacks d b fault
insertion-fault lacks d b r i bytes fault refused = inl (inr (given_fault _ _ fault refused))

pub setting-fault : (lacks : Fault → Type 0) (d : Document) (b : ℕ) (r : Root) (i : ℕ) (bytes : List ℕ) (fault : Fault) → first_refusal (setting_conditions r i bytes) ≡ Some fault
    → IsLargeEditRefusal IsSettingFault lacks d b fault
setting-fault lacks d b r i bytes fault refused = inl (inr (given_past-fault _ _ _ fault refused))

pub window-refusal : {A : Type 0} (own first lacks : Fault → Type 0) (d : Document) (b : ℕ) (r : Result A Fault) → ((fault : Fault) → first fault → lacks fault)
    → IfErr r (λ fault. first fault ⊎ ((fault ≡ BadChain) ⊎ ((fault ≡ IsMap) ⊎ (fault ≡ NoHandles)))) → IfErr r (IsLargeEditRefusal own lacks d b)
window-refusal own first lacks d b (Ok x) turn is = tt
window-refusal own first lacks d b (Err fault) turn (inl lack) = inl (inl (inl (turn fault lack)))
window-refusal own first lacks d b (Err fault) turn (inr branches) = inr branches

pub run-refusal : {A : Type 0} (own first lacks : Fault → Type 0) (d : Document) (b : ℕ) (r : Result A Fault) → ((fault : Fault) → first fault → lacks fault)
    → IfErr r (λ fault. first fault ⊎ (fault ≡ BadChain)) → IfErr r (IsLargeEditRefusal own lacks d b)
run-refusal own first lacks d b (Ok x) turn is = tt
run-refusal own first lacks d b (Err fault) turn (inl lack) = inl (inl (inl (turn fault lack)))
run-refusal own first lacks d b (Err fault) turn (inr bad) = inr (inl bad)

-- Elements in the place of others.

module _ (d : Document) (b i j : ℕ) (new : BranchPiece) where
  pub planned-nothing : (changes : List Change) → PlansLargeEdit d d (b ∷ []) changes → ((i == j) && (length new == 0)) ≡ true
      → (first_refusal (on_window true d b i j new) ≡ None) × PlansLargeEdit d (elements_replaced d b i j new) (replaced_blocks d b i j new) changes
  planned-nothing changes plans nothing = (
    window-nothing d b i j new nothing,
    plans-same d changes (replaced-none d b i j new nothing)
        (sym (cond-true ((i == j) && (length new == 0)) (b ∷ []) (freed_handles (window d b i j new) ++ b ∷ (window d b i j new).news) nothing)) plans,
  )

  module _ (some : ((i == j) && (length new == 0)) ≡ false) where
    pub stopped-window : (lacks : Fault → Type 0) (fault : Fault) → Stops lacks (are_looked_at d b i j new ≡ false) fault → lacks fault ⊎ (first_refusal (on_window true d b i j new) ≡ Some fault)
    stopped-window lacks fault (inl lack) = inl lack
    stopped-window lacks fault (inr bad) = inr (window-chain d b i j new some bad.1 ∙ ap (λ (f : Fault). Some f) (sym bad.0))

    pub planned-window : {A : Type 0} (items : A → List Change) (first lacks : Fault → Type 0) (r : Result A Fault) → HasRoot d b → i ≤ j → ((fault : Fault) → first fault → lacks fault) → are_looked_at d b i j new ≡ true
        → MatchResult r (λ changes. IsWindowPlanned d b (window d b i j new) (items changes)) (λ fault. first fault ⊎ RefusesWindow d b (window d b i j new) fault)
        → AnswersChain lacks (on_window true d b i j new) (λ changes. PlansLargeEdit d (elements_replaced d b i j new) (replaced_blocks d b i j new) (items changes)) r
    planned-window items first lacks (Ok changes) root order turn are is = (
      window-none d b i j new some are is.no_map is.handles is.room,
      window-planned d b i j new root order (record { seen = are; no_map = is.no_map; room = is.handles; few = is.room }) some (items changes) is.planned,
    )
    planned-window items first lacks (Err fault) root order turn are (inl lack) = inl (turn fault lack)
    planned-window items first lacks (Err fault) root order turn are (inr (inl map)) = inr (window-map d b i j new some are map.1 ∙ ap (λ (f : Fault). Some f) (sym map.0))
    planned-window items first lacks (Err fault) root order turn are (inr (inr handles)) = inr (window-handles d b i j new some are handles.1 handles.2 ∙ ap (λ (f : Fault). Some f) (sym handles.0))

-- Elements written over.

module _ (d : Document) (b i : ℕ) (new : BranchPiece) where
  pub planned-none : (changes : List Change) → PlansLargeEdit d d (b ∷ []) changes → length new ≡ 0
      → (first_refusal (on_run true d b i (length new)) ≡ None) × PlansLargeEdit d (elements_overwritten d b i new) (overwritten_blocks d b i (length new)) changes
  planned-none changes plans nothing = (
    run-tested d b i (length new) true (ap (λ (n : ℕ). are_branches d b (root_at d b) (run_places (root_at d b) i n)) nothing),
    plans-same d changes (overwritten-none d b i new (ap (λ (n : ℕ). n == 0) nothing)) (sym (ap (overwritten_blocks d b i) nothing)) plans,
  )

  pub planned-run : {A : Type 0} (items : A → List Change) (first lacks : Fault → Type 0) (r : Result A Fault) → ((fault : Fault) → first fault → lacks fault)
      → MatchResult r (λ changes. IsOverwritingPlanned d b i new (items changes)) (Stops first (are_branches d b (root_at d b) (run_places (root_at d b) i (length new)) ≡ false))
      → AnswersChain lacks (on_run true d b i (length new)) (λ changes. PlansLargeEdit d (elements_overwritten d b i new) (overwritten_blocks d b i (length new)) (items changes)) r
  planned-run items first lacks (Ok changes) turn is = (run-tested d b i (length new) true is.there, is.plans)
  planned-run items first lacks (Err fault) turn (inl lack) = inl (turn fault lack)
  planned-run items first lacks (Err fault) turn (inr bad) = inr (run-tested d b i (length new) false bad.1 ∙ ap (λ (f : Fault). Some f) (sym bad.0))

-- What is known once the root was looked at.

pub record IsFoundEdit (P : Root → Type 0) (d : Document) (b : ℕ) : Type 0 where
  pub raw : is_raw d b ≡ true
  pub is : root_of (raw_bytes_of d b) ≡ Some (root_at d b)
  pub edit : P (root_at d b)

-- no elements are longer than its size can be
pub root-least : (d : Document) (b : ℕ) → root_of (raw_bytes_of d b) ≡ Some (root_at d b) → (root_at d b).size ≤ greatest_element_size
root-least d b is =
    let r : Root = root_at d b in
    let parts = and_parts (nat_lt 0 (length r.counts) && nat_le r.size greatest_element_size) (length r.counts == 1 || list_all (λ c. nat_lt 0 c) r.counts) (root-facts d b (ap is_some is)).0 in
    leb-true r.size greatest_element_size (and_parts (nat_lt 0 (length r.counts)) (nat_le r.size greatest_element_size) parts.0).1

-- the edit can be made
replacement-can : (r : Root) (i j : ℕ) (new : BranchPiece) (e : Replacement) → e ≡ replacement r i j new → i ≤ j → j ≤ total_count r → CanReplace r e
replacement-can r i j new e is order within =
    subst (λ (x : Replacement). CanReplace r x) (sym is) (let can : CanReplace r (replacement r i j new) = record { order = order; within = within; size = refl } in can)

pub insertion-can : (r : Root) (i : ℕ) (bytes : List ℕ) (e : Replacement) → IsInsertion r i bytes e → CanReplace r e
insertion-can r i bytes e is = replacement-can r i i (cut_elements r.size bytes) e is.is (omega arith) (insertion-within r i bytes is.accepted)

pub deletion-can : (r : Root) (i n : ℕ) (e : Replacement) → IsDeletion r i n e → CanReplace r e
deletion-can r i n e is = replacement-can r i (i + n) [] e is.is (omega arith) is.within

pub setting-can : (r : Root) (i : ℕ) (bytes : List ℕ) (e : Replacement) → IsSetting r i bytes e → CanReplace r e
setting-can r i bytes e is =
    replacement-can r i (i + element_count r.size bytes) (cut_elements r.size bytes) e is.is (omega arith) (setting-within r i bytes is.accepted).0

-- of one size: as many come as go
pub setting-many : (r : Root) (i : ℕ) (bytes : List ℕ) (e : Replacement) → IsSetting r i bytes e → e.new_elements.size ≢ 0 → e.end ≡ e.start + length e.new_elements.elements
setting-many r i bytes e is sized =
    let size : e.new_elements.size ≡ r.size = ap (λ (x : Replacement). x.new_elements.size) is.is in
    let one : (r.size == 0) ≡ false = elim (cases_Bool (r.size == 0)) [
      | inl vary ↦ absurd (sized (size ∙ eqb-true r.size 0 vary))
      | inr one ↦ one
    ] in
    let count = given-count r.size bytes one (setting-within r i bytes is.accepted).1 in
    ap (λ (x : Replacement). x.end) is.is ∙ ap (λ (n : ℕ). i + n) count ∙ sym (ap (λ (x : Replacement). x.start + length x.new_elements.elements) is.is)

-- Answers of edits by those of their branches.

module _ {A : Type 0} (items : A → List Change) (first lacks : Fault → Type 0) (turn : (fault : Fault) → first fault → lacks fault) (d : Document) (b : ℕ) (e : Replacement) (r : Result A Fault) where
  abbrev pub ReplacesSo : Type 0
  ReplacesSo =
      AnswersChain first (on_window true d b e.start e.end e.new_elements.elements) (λ changes. PlansLargeEdit d (elements_replaced d b e.start e.end e.new_elements.elements) (replaced_blocks d b e.start e.end e.new_elements.elements) (items changes)) r

  abbrev pub WritesSo : Type 0
  WritesSo =
      AnswersChain first (on_run true d b e.start (length e.new_elements.elements)) (λ changes. PlansLargeEdit d (elements_overwritten d b e.start e.new_elements.elements) (overwritten_blocks d b e.start (length e.new_elements.elements)) (items changes)) r

  replaces : (i j : ℕ) (new : BranchPiece) → e ≡ replacement (root_at d b) i j new → ReplacesSo
      → AnswersChain lacks (on_window true d b i j new) (λ changes. PlansLargeEdit d (elements_replaced d b i j new) (replaced_blocks d b i j new) (items changes)) r
  replaces i j new is so =
      answers-later first lacks (on_window true d b i j new) (λ changes. PlansLargeEdit d (elements_replaced d b i j new) (replaced_blocks d b i j new) (items changes)) r turn
      (subst (λ (x : Replacement). AnswersChain first (on_window true d b x.start x.end x.new_elements.elements)
      (λ changes. PlansLargeEdit d (elements_replaced d b x.start x.end x.new_elements.elements) (replaced_blocks d b x.start x.end x.new_elements.elements) (items changes)) r) is so)

  writes : (i j : ℕ) (new : BranchPiece) → e ≡ replacement (root_at d b) i j new → WritesSo
      → AnswersChain lacks (on_run true d b i (length new)) (λ changes. PlansLargeEdit d (elements_overwritten d b i new) (overwritten_blocks d b i (length new)) (items changes)) r
  writes i j new is so =
      answers-later first lacks (on_run true d b i (length new)) (λ changes. PlansLargeEdit d (elements_overwritten d b i new) (overwritten_blocks d b i (length new)) (items changes)) r turn
      (subst (λ (x : Replacement). AnswersChain first (on_run true d b x.start (length x.new_elements.elements))
      (λ changes. PlansLargeEdit d (elements_overwritten d b x.start x.new_elements.elements) (overwritten_blocks d b x.start (length x.new_elements.elements)) (items changes)) r) is so)

  pub inserts-so : (i : ℕ) (bytes : List ℕ) → IsFoundEdit (λ root. IsInsertion root i bytes e) d b → ReplacesSo
      → AnswersChain lacks (insert_large_conditions d b i bytes) (λ changes. PlansLargeEdit d (large_inserted d b i bytes) (inserted_blocks d b i bytes) (items changes)) r
  inserts-so i bytes has so =
      let new = cut_elements (root_at d b).size bytes in
      answers-by lacks (on_window true d b i i new) (insert_large_conditions d b i bytes) (λ changes. PlansLargeEdit d (elements_replaced d b i i new) (replaced_blocks d b i i new) (items changes)) r
      (insertion-window d b i bytes has.raw has.is has.edit.accepted) (replaces i i new has.edit.is so)

  pub deletes-so : (i n : ℕ) → IsFoundEdit (λ root. IsDeletion root i n e) d b → ReplacesSo
      → AnswersChain lacks (delete_large_conditions d b i n) (λ changes. PlansLargeEdit d (large_deleted d b i n) (deleted_blocks d b i n) (items changes)) r
  deletes-so i n has so =
      answers-by lacks (on_window true d b i (i + n) []) (delete_large_conditions d b i n) (λ changes. PlansLargeEdit d (elements_replaced d b i (i + n) []) (replaced_blocks d b i (i + n) []) (items changes)) r
      (deletion-window d b i n has.raw has.is has.edit.within) (replaces i (i + n) [] has.edit.is so)

  module _ (i : ℕ) (bytes : List ℕ) (has : IsFoundEdit (λ root. IsSetting root i bytes e) d b) where
    abbrev size : ℕ
    size = (root_at d b).size

    same_size : e.new_elements.size ≡ size
    same_size = ap (λ (x : Replacement). x.new_elements.size) has.edit.is

    pub sets-so : e.new_elements.size ≡ 0 → ReplacesSo
        → AnswersChain lacks (set_large_conditions d b i bytes) (λ changes. PlansLargeEdit d (large_set d b i bytes) (set_blocks d b i bytes) (items changes)) r
    sets-so vary so =
        let any : (size == 0) ≡ true = ap (λ (n : ℕ). n == 0) (sym same_size ∙ vary) in
        let one : element_count size bytes ≡ 1 = ap (λ (n : ℕ). element_count n bytes) (sym same_size ∙ vary) in
        let is : e ≡ replacement (root_at d b) i (i + 1) (bytes ∷ []) = has.edit.is ∙ (λ k. replacement (root_at d b) i (i + one k) (given-one size bytes any k)) in
        answers-by lacks (on_window true d b i (i + 1) (bytes ∷ [])) (set_large_conditions d b i bytes) (λ changes. PlansLargeEdit d (large_set d b i bytes) (set_blocks d b i bytes) (items changes)) r
        (setting-window d b i bytes has.raw has.is has.edit.accepted any)
        (answers-same lacks (on_window true d b i (i + 1) (bytes ∷ [])) d items r
        (sym (cond-true (size == 0) (elements_replaced d b i (i + 1) (bytes ∷ [])) (elements_overwritten d b i (cut_elements size bytes)) any))
        (sym (cond-true (size == 0) (replaced_blocks d b i (i + 1) (bytes ∷ [])) (overwritten_blocks d b i (element_count size bytes)) any))
        (replaces i (i + 1) (bytes ∷ []) is so))

    pub writes-so : e.new_elements.size ≢ 0 → WritesSo
        → AnswersChain lacks (set_large_conditions d b i bytes) (λ changes. PlansLargeEdit d (large_set d b i bytes) (set_blocks d b i bytes) (items changes)) r
    writes-so sized so =
        let new = cut_elements size bytes in
        let one : (size == 0) ≡ false = elim (cases_Bool (size == 0)) [
          | inl vary ↦ absurd (sized (same_size ∙ eqb-true size 0 vary))
          | inr one ↦ one
        ] in
        let count = given-count size bytes one (setting-within (root_at d b) i bytes has.edit.accepted).1 in
        answers-by lacks (on_run true d b i (length new)) (set_large_conditions d b i bytes) (λ changes. PlansLargeEdit d (large_set d b i bytes) (set_blocks d b i bytes) (items changes)) r
        (setting-run d b i bytes has.raw has.is has.edit.accepted one ∙ ap (λ (n : ℕ). first_refusal (on_run true d b i n)) count)
        (answers-same lacks (on_run true d b i (length new)) d items r
        (sym (cond-false (size == 0) (elements_replaced d b i (i + 1) (bytes ∷ [])) (elements_overwritten d b i new) one))
        (sym (cond-false (size == 0) (replaced_blocks d b i (i + 1) (bytes ∷ [])) (overwritten_blocks d b i (element_count size bytes)) one
        ∙ ap (overwritten_blocks d b i) count))
        (writes i (i + element_count size bytes) new has.edit.is so))
