-- What is answered of an edit that stays within one branch.
use Rattle.std.proofs.Common.{◌≡◌, ◌≢◌, ℕ, ◌<◌, ◌≤◌, ◌==◌, true, false, List, [], ◌∷◌, ◌++◌, length, take, drop, get_or, None, Some, is_some, refl, sym, ap, subst, ◌∙◌, inl, inr, arith, append_assoc, eqb-true}
use Rattle.std.proofs.lemmas.Bool.{cases_Bool, and_parts, and_from, true≢false}
use Rattle.std.specs.List.{Contains, list_all, splice}
use Rattle.geos_model.specs.Document.{Document, is_live, is_raw, raw_bytes_of}
use Rattle.geos_model.specs.ElementArray.{all_distinct}
use Rattle.geos_model.specs.Heap.{capacity}
use Rattle.geos_model.specs.Pieces.{BranchPiece}
use Rattle.geos_model.specs.LargeBlocks.{root_at, branch_at, pieces_at}
use Rattle.geos_model.specs.LargeLayout.{Root, root_of, root_bytes, branch_bytes}
use Rattle.geos_model.specs.LargeWindow.{are_branches}
use Rattle.geos_model.proofs.BlockLists.{distinct-first}
use Rattle.geos_model.proofs.BranchBytes.{branch_of-is}
use Rattle.geos_model.proofs.Chains.{contains_cases, contains_first}
use Rattle.geos_model.proofs.DistinctHandles.{distinct-cons}
use Rattle.geos_model.proofs.Layouts.{pieces-many, root-facts, root-small}
use Rattle.chunk_edits.specs.Patching.{PatchPiece, ArePiecesOf, PatchLeads, patched, peak}
use Rattle.geos_model.specs.declared.fault.Fault.{Fault}
use Rattle.vm_chains.specs.Walking.{Stops}
use Rattle.vm_blocks.specs.declared.change.Change.{Change}
use Rattle.large_arrays.specs.ChangePlans.{ArePlanned, ArePlannedByHandle, IsUntouched}
use Rattle.large_arrays.specs.Loading.{branch_under}
use Rattle.large_bodies.specs.SizedElements.{SizedElements}
use Rattle.large_arrays.specs.Within.{place_within, root_within, piece_within}
use Rattle.large_arrays.specs.WithinPlans.{IsBranchEdit, IsPlannedWithin, PatchesBranch}
use Rattle.large_arrays.specs.declared.within.BranchEdit.{BranchEdit}
use Rattle.large_arrays.proofs.LoadedBranches.{under-raw}
use Rattle.large_arrays.proofs.PlannedChanges.{none_planned}
use Rattle.large_arrays.proofs.RootPieces.{found-piece}

-- Whether the branch is there.
module _ (d : Document) (b : ℕ) (r : Root) (k : ℕ) where
  abbrev there : Type 0
  there = are_branches d b r (k ∷ []) ≡ true

  parts : there → (is_some (branch_at d r k) ≡ true) × (all_distinct (b ∷ get_or r.branches k 0 ∷ []) ≡ true)
  parts is =
      let both = and_parts (list_all (λ n. is_some (branch_at d r n)) (k ∷ [])) (all_distinct (b ∷ get_or r.branches k 0 ∷ [])) is in
      ((and_parts (is_some (branch_at d r k)) true both.0).0, both.1)

  not-there : (there → ⊥) → are_branches d b r (k ∷ []) ≡ false
  not-there never = elim (cases_Bool (are_branches d b r (k ∷ []))) [
    | inl is ↦ absurd (never is)
    | inr other ↦ other
  ]

  pub missed-within : branch_at d r k ≡ None → are_branches d b r (k ∷ []) ≡ false
  missed-within none = not-there (λ is. absurd (true≢false (sym (parts is).0 ∙ ap is_some none)))

  pub root-within_itself : get_or r.branches k 0 ≡ b → are_branches d b r (k ∷ []) ≡ false
  root-within_itself same = not-there (λ is. distinct-first b (get_or r.branches k 0 ∷ []) (parts is).1 (subst (λ (h : ℕ). Contains (h ∷ []) b) (sym same) (contains_first b [])))

  pub there-within : (xs : BranchPiece) → branch_at d r k ≡ Some xs → get_or r.branches k 0 ≢ b → are_branches d b r (k ∷ []) ≡ true
  there-within xs found other =
      and_from (list_all (λ n. is_some (branch_at d r n)) (k ∷ [])) (all_distinct (b ∷ get_or r.branches k 0 ∷ []))
      (and_from (is_some (branch_at d r k)) true (ap is_some found) refl)
      (distinct-cons b (get_or r.branches k 0 ∷ []) (λ has. other (only has)) refl)
    where
      only : Contains (get_or r.branches k 0 ∷ []) b → get_or r.branches k 0 ≡ b
      only has = elim (contains_cases (get_or r.branches k 0) [] b has) [
        | inl is ↦ is
        | inr later ↦ (let none = later.1 in absurd (omega arith))
      ]

-- a branch as its root has it, by the edit
pub under-within : (d : Document) (r : Root) (i j new size : ℕ) (e : BranchEdit) → size ≡ r.size → IsBranchEdit r i j new e
    → branch_at d r (place_within r i j) ≡ branch_under d e.link.handle.0 size e.link.count
under-within d r i j new size e size_is edit = (λ t. branch_under d (sym edit.handle t) (sym size_is t) (sym edit.old t))

-- A body more, by a patch.

abbrev pub PlansPatch : List Change → List Change → ℕ → List PatchPiece → Type 0
PlansPatch old new h patch =
    (d : Document) (freed : List ℕ) (bodies : List (ℕ × List ℕ)) → ArePlanned old d freed bodies → IsUntouched freed bodies h → is_raw d h ≡ true
    → ArePiecesOf patch (raw_bytes_of d h) → peak patch ≤ capacity → ArePlanned new d freed (bodies ++ (h, patched patch (raw_bytes_of d h)) ∷ [])

abbrev pub ListsPatch : List Change → List Change → ℕ → Type 0
ListsPatch old new h =
    (d : Document) (freed : List ℕ) (bodies : List (ℕ × List ℕ)) (body : List ℕ) → ArePlannedByHandle old d freed bodies → IsUntouched freed bodies h → is_live d h ≡ true
    → ArePlannedByHandle new d freed (bodies ++ (h, body) ∷ [])

body-added : (d : Document) (h : ℕ) (old new : List Change) (patch : List PatchPiece) (before after : List ℕ) (bodies : List (ℕ × List ℕ)) → PlansPatch old new h patch
    → is_raw d h ≡ true → before ≡ raw_bytes_of d h → PatchLeads patch before after → peak patch ≤ capacity → ArePlanned old d [] bodies → IsUntouched [] bodies h
    → ArePlanned new d [] (bodies ++ (h, after) ∷ [])
body-added d h old new patch before after bodies plans raw bytes leads low planned untouched =
    subst (λ (body : List ℕ). ArePlanned new d [] (bodies ++ (h, body) ∷ [])) (ap (patched patch) (sym bytes) ∙ leads.gives)
    (plans d [] bodies planned untouched raw (subst (ArePiecesOf patch) bytes leads.stands) low)

none-touched : (h : ℕ) → IsUntouched [] [] h
none-touched h = record { stays = λ has. absurd (let none = has.1 in omega arith); other = λ has. absurd (let none = has.1 in omega arith) }

one-touched : (b h : ℕ) (body : List ℕ) → h ≢ b → IsUntouched [] ((b, body) ∷ []) h
one-touched b h body other = record {
  stays = λ has. absurd (let none = has.1 in omega arith);
  other = λ has. elim (contains_cases b [] h has) [
    | inl is ↦ other (sym is)
    | inr later ↦ (let none = later.1 in absurd (omega arith))
  ];
}

-- What is planned.
module _ (d : Document) (b i j : ℕ) (new : SizedElements) (e : BranchEdit) (root branch : List PatchPiece) (none first all : List Change) where
  pub planned-within : is_raw d b ≡ true → is_some (root_of (raw_bytes_of d b)) ≡ true → none ≡ [] → e.link.handle.0 ≢ b → new.size ≡ (root_at d b).size
      → IsBranchEdit (root_at d b) i j (length new.elements) e → place_within (root_at d b) i j < length (root_at d b).counts
      → PatchLeads root (root_bytes (root_at d b)) (root_bytes (root_within (root_at d b) i j (length new.elements))) → peak root ≤ capacity → PatchesBranch d e new branch
      → PlansPatch none first b root → PlansPatch first all e.link.handle.0 branch → IsPlannedWithin d b i j new.elements all
  planned-within raw found empty other size edit low leads short patches plan-root plan-branch =
      let r : Root = root_at d b in
      let k : ℕ = place_within r i j in
      let h : ℕ = e.link.handle.0 in
      let xs : BranchPiece = patches.elements in
      let facts = root-facts d b found in
      let small : new.size < 65536 = (let most = root-small r facts.0 in omega arith) in
      let under = under-raw d h new.size e.link.count xs patches.branch in
      let bytes : branch_bytes new.size xs ≡ raw_bytes_of d h = (branch_of-is new.size e.link.count (raw_bytes_of d h) xs small under.1).1 in
      let at : branch_at d r k ≡ Some xs = under-within d r i j (length new.elements) new.size e size edit ∙ patches.branch in
      let many = pieces-many d b found in
      let same = facts.2 in
      let piece : get_or (pieces_at d r) k [] ≡ xs = found-piece d b found k xs (omega arith) at in
      let spliced : splice xs e.from e.to new.elements ≡ piece_within d b i j new.elements =
      sym (append_assoc (take e.from xs) new.elements (drop e.to xs)) ∙ (λ t. take (edit.from t) (sym piece t) ++ new.elements ++ drop (edit.to t) (sym piece t)) in
      let start : ArePlanned none d [] [] = subst (λ (cs : List Change). ArePlanned cs d [] []) (sym empty) (none_planned d) in
      let body : List ℕ = root_bytes (root_within r i j (length new.elements)) in
      let one : ArePlanned first d [] ((b, body) ∷ []) = body-added d b none first root (root_bytes r) body [] plan-root raw facts.1 leads short start (none-touched b) in
      let two : ArePlanned all d [] ((b, body) ∷ (h, branch_bytes new.size (splice xs e.from e.to new.elements)) ∷ []) =
      body-added d h first all branch (branch_bytes new.size xs) (branch_bytes new.size (splice xs e.from e.to new.elements)) ((b, body) ∷ []) plan-branch under.0 bytes patches.leads patches.short one
      (one-touched b h body other) in
      record {
        there = there-within d b r k xs at (λ is. other (edit.handle ∙ is));
        planned = subst (ArePlanned all d []) (λ t. (b, body) ∷ (edit.handle t, branch_bytes (size t) (spliced t)) ∷ []) two;
      }

-- so much of it by handles alone
pub listed-within : (d : Document) (b : ℕ) (e : BranchEdit) (none first all : List Change) → none ≡ [] → e.link.handle.0 ≢ b → is_live d b ≡ true → is_live d e.link.handle.0 ≡ true
    → ListsPatch none first b → ListsPatch first all e.link.handle.0 → ArePlannedByHandle all d [] ((b, []) ∷ (e.link.handle.0, []) ∷ [])
listed-within d b e none first all empty other root-live branch-live list-root list-branch =
    let start : ArePlannedByHandle none d [] [] = subst (λ (cs : List Change). ArePlannedByHandle cs d [] []) (sym empty) (record { applies = tt; live = λ h. refl; map_block = refl }) in
    list-branch d [] ((b, []) ∷ []) [] (list-root d [] [] [] start (none-touched b) root-live) (one-touched b e.link.handle.0 [] other) branch-live

-- What isn't.
module _ (d : Document) (b i j : ℕ) where
  pub root-itself : (new : ℕ) (e : BranchEdit) → IsBranchEdit (root_at d b) i j new e → (e.link.handle.0 == b) ≡ true
      → are_branches d b (root_at d b) (place_within (root_at d b) i j ∷ []) ≡ false
  root-itself new e edit same = root-within_itself d b (root_at d b) (place_within (root_at d b) i j) (sym edit.handle ∙ eqb-true e.link.handle.0 b same)

  pub stopped-within : (new : SizedElements) (e : BranchEdit) → new.size ≡ (root_at d b).size → IsBranchEdit (root_at d b) i j (length new.elements) e → (lacks : Fault → Type 0) (fault : Fault)
      → Stops lacks (branch_under d e.link.handle.0 new.size e.link.count ≡ None) fault → Stops lacks (are_branches d b (root_at d b) (place_within (root_at d b) i j ∷ []) ≡ false) fault
  stopped-within new e size edit lacks fault (inl lack) = inl lack
  stopped-within new e size edit lacks fault (inr bad) =
      inr (bad.0, missed-within d b (root_at d b) (place_within (root_at d b) i j) (under-within d (root_at d b) i j (length new.elements) new.size e size edit ∙ bad.1))
