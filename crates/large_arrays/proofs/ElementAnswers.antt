-- What is answered of one element, by what is found of its branch.
use Rattle.std.proofs.Common.{◌≡◌, ◌≢◌, ℕ, suc, ◌+◌, ◌-◌, ◌<◌, ◌≤◌, nat_le, Bool, true, false, not, cond, ◌==◌, ◌&&◌, ◌||◌, List, [], ◌∷◌, length, get_or, replicate, Option, Some, None, unwrap_or, is_some, is_none, Result, Ok, Err, MatchResult, IfErr, refl, sym, ap, ap₂, subst, ◌∙◌, inl, inr, arith, leb-true, eqb-true}
use Rattle.std.proofs.lemmas.Bool.{cases_Bool, le-leb, eq-eqb}
use Rattle.std.specs.List.{range_with_len}
use Rattle.geos_model.specs.Document.{Document, is_live, is_raw, raw_bytes_of}
use Rattle.geos_model.specs.Refusal.{first_refusal}
use Rattle.geos_model.specs.declared.fault.Fault.{Fault}
use Rattle.geos_model.specs.declared.fault.Fault.TheVariants.{NoBlock, WrongKind, NotArray, NoElement, BadChain}
use Rattle.vm_store.specs.Facts.{StoreFacts}
use Rattle.vm_blocks.specs.State.{CacheState}
use Rattle.vm_blocks.specs.Keeping.{KeepsBlocks, IsEnvironmentFault, IsHonest}
use Rattle.vm_blocks.proofs.KeepingLaws.{keeps-same, keeps-steady, lacks-later}
use Rattle.vm_chains.specs.Answers.{AnswersChain, RefusesChain}
use Rattle.vm_chains.specs.Walking.{Stops}
use Rattle.vm_chains.proofs.WalkLemmas.{raw_live}
use Rattle.geos_model.specs.Pieces.{BranchPiece, elements_in_pieces}
use Rattle.geos_model.specs.LargeLayout.{Root, root_of, total_count}
use Rattle.geos_model.specs.Spread.{start_place, end_place}
use Rattle.geos_model.specs.LargeBlocks.{root_at, branch_at, pieces_at}
use Rattle.geos_model.specs.LargeWindow.{are_branches}
use Rattle.geos_model.specs.LargeEdits.{get_large_conditions, large_element, on_root, run_places}
use Rattle.large_arrays.specs.Loading.{branch_under}
use Rattle.large_arrays.specs.LargeLookUps.{IsElementRefusal, IsElementSpot, IsElementPlaced, placed_bytes}
use Rattle.large_arrays.specs.declared.look_ups.ElementPlace.{ElementPlace}
use Rattle.large_arrays.specs.declared.look_ups.ElementSpot.{ElementSpot}
use Rattle.large_arrays.proofs.LoadedBranches.{under-none}
use Rattle.geos_model.proofs.OverwrittenPieces.{sum}
use Rattle.large_arrays.proofs.PlaceSums.{start-element, start-within}
use Rattle.large_arrays.proofs.RefusalOrder.{of_get, root_first}
use Rattle.large_arrays.proofs.RootFacts.{counts-at, piece-at, root-as_many, total-at}
use Rattle.geos_model.proofs.SpreadPlaces.{start-low, start-end_one}

-- the test of one branch
one_branch : (found same : Bool) → ((found && true) && (not (same || false) && (not false && true))) ≡ (found && not same)
one_branch true true = refl
one_branch true false = refl
one_branch false same = refl

some_counts : (cs : List ℕ) (i : ℕ) → i < sum cs → 0 < length cs
some_counts [] i low = absurd (let never : i < 0 = low in omega arith)
some_counts (c ∷ cs) i low = omega arith

start-there : (cs : List ℕ) (i : ℕ) → 0 < length cs → (start_place cs i).0 < length cs
start-there [] i some = absurd (omega arith)
start-there (c ∷ cs) i some = (let low = start-low c cs i in omega arith)

-- what refuses a root refuses each look-up
pub root-before : (d : Document) (b i : ℕ) (fault : Fault) → first_refusal (on_root d b) ≡ Some fault → first_refusal (get_large_conditions d b i) ≡ Some fault
root-before d b i fault is =
    root_first (is_live d b) (is_raw d b) (is_none (root_of (raw_bytes_of d b))) (nat_le (total_count (root_at d b)) i)
    (not (nat_le (total_count (root_at d b)) i) && not (are_branches d b (root_at d b) (run_places (root_at d b) i 1))) fault is

module _ (d : Document) (b i : ℕ) (raw : is_raw d b ≡ true) (is : root_of (raw_bytes_of d b) ≡ Some (root_at d b)) where
  abbrev r : Root
  r = root_at d b

  abbrev past : Bool
  past = nat_le (total_count r) i

  abbrev are : Bool
  are = are_branches d b r (run_places r i 1)

  by-root : first_refusal (get_large_conditions d b i) ≡ cond past (Some NoElement) (cond (not past && not are) (Some BadChain) None)
  by-root =
      of_get (is_live d b) (is_raw d b) (is_none (root_of (raw_bytes_of d b))) past (not past && not are)
      ∙ (λ j. cond (raw_live d b raw j) (cond (raw j) (cond (is_none (is j)) (Some NotArray) (cond past (Some NoElement) (cond (not past && not are) (Some BadChain) None))) (Some WrongKind)) (Some NoBlock))

  pub get-past : total_count r ≤ i → first_refusal (get_large_conditions d b i) ≡ Some NoElement
  get-past over = by-root ∙ ap (λ (p : Bool). cond p (Some NoElement) (cond (not p && not are) (Some BadChain) None)) (le-leb (total_count r) i over)

  within : i < total_count r → past ≡ false
  within low = elim (cases_Bool past) [
    | inl over ↦ (let most = leb-true (total_count r) i over in absurd (omega arith))
    | inr other ↦ other
  ]

  by-branch : i < total_count r → (t : Bool) → are ≡ t → first_refusal (get_large_conditions d b i) ≡ cond (not t) (Some BadChain) None
  by-branch low t tested = by-root ∙ (λ j. cond (within low j) (Some NoElement) (cond (not (within low j) && not (tested j)) (Some BadChain) None))

  module _ (s : ElementSpot) (spot : IsElementSpot r i s) where
    abbrev k : ℕ
    k = (start_place r.counts i).0

    abbrev h : ℕ
    h = get_or r.branches k 0

    under : branch_under d s.link.handle.0 s.size s.link.count ≡ branch_at d r k
    under = λ j. branch_under d (spot.handle j) (spot.size j) (spot.count j)

    tested : are ≡ (is_some (branch_at d r k) && not (b == h))
    tested =
        let end : suc (end_place r.counts (i + 1)).0 - k ≡ 1 = (let same = start-end_one r.counts i in omega arith) in
        ap (λ (n : ℕ). are_branches d b r (range_with_len k n)) end ∙ one_branch (is_some (branch_at d r k)) (b == h)

    -- its branch is the root, or none
    pub get-same : s.link.handle.0 ≡ b → first_refusal (get_large_conditions d b i) ≡ Some BadChain
    get-same same =
        by-branch spot.there false (tested ∙ ap (λ (t : Bool). is_some (branch_at d r k) && not t) (eq-eqb b h (sym same ∙ spot.handle)) ∙ none (is_some (branch_at d r k)))
      where
        none : (t : Bool) → (t && not true) ≡ false
        none true = refl
        none false = refl

    pub get-none : branch_under d s.link.handle.0 s.size s.link.count ≡ None → first_refusal (get_large_conditions d b i) ≡ Some BadChain
    get-none missing = by-branch spot.there false (tested ∙ ap (λ (o : Option BranchPiece). is_some o && not (b == h)) (sym under ∙ missing))

    pub get-dead : is_raw d s.link.handle.0 ≡ false → first_refusal (get_large_conditions d b i) ≡ Some BadChain
    get-dead dead = get-none (under-none d s.link.handle.0 s.size s.link.count dead)

    -- it is one
    module _ (other : s.link.handle.0 ≢ b) (elements : BranchPiece) (found : branch_under d s.link.handle.0 s.size s.link.count ≡ Some elements) where
      pub get-found : first_refusal (get_large_conditions d b i) ≡ None
      get-found = by-branch spot.there true (tested ∙ (λ j. is_some ((sym under ∙ found) j) && not (apart j)))
        where
          apart : (b == h) ≡ false
          apart = elim (cases_Bool (b == h)) [
            | inl same ↦ absurd (other (spot.handle ∙ sym (eqb-true b h same)))
            | inr not_same ↦ not_same
          ]

      pub get-element : get_or elements s.before [] ≡ large_element d b i
      get-element =
          let total = total-at d b is in
          let there = spot.there in
          let low : i < length (elements_in_pieces (pieces_at d r)) = omega arith in
          let many = root-as_many d b is in
          let some : 0 < length r.counts = some_counts r.counts i there in
          let lies : k < length r.branches = (let at = start-there r.counts i some in omega arith) in
          let piece : get_or (pieces_at d r) k [] ≡ elements = piece-at d b is k lies ∙ ap (λ (o : Option BranchPiece). unwrap_or o (replicate (get_or r.counts k 0) (replicate r.size 0))) (sym under ∙ found) in
          sym (start-element (pieces_at d r) i low
          ∙ ap (λ (cs : List ℕ). get_or (get_or (pieces_at d r) (start_place cs i).0 []) (start_place cs i).1 []) (counts-at d b is)
          ∙ ap₂ (λ (p : BranchPiece) (n : ℕ). get_or p n []) piece (sym spot.before))

-- What is known once the root was looked at.
pub record IsFoundSpot (d : Document) (b i : ℕ) (s : ElementSpot) : Type 0 where
  pub raw : is_raw d b ≡ true
  pub is : root_of (raw_bytes_of d b) ≡ Some (root_at d b)
  pub spot : IsElementSpot (root_at d b) i s

-- how many elements of the branch are before it
pub spot-before : (d : Document) (b i : ℕ) (s : ElementSpot) → IsFoundSpot d b i s → s.before < s.link.count
spot-before d b i s has =
    let at = start-within (root_at d b).counts i has.spot.there in let before = has.spot.before in let count = has.spot.count in omega (arith, at, before, count)

pub answered : (lacks : Fault → Type 0) (d : Document) (b i : ℕ) (s : ElementSpot) (r : Result ElementPlace Fault) → IsFoundSpot d b i s → s.link.handle.0 ≢ b
    → MatchResult r (IsElementPlaced d s) (λ fault. (fault ≡ BadChain) × (branch_under d s.link.handle.0 s.size s.link.count ≡ None))
    → AnswersChain lacks (get_large_conditions d b i) (λ place. placed_bytes d place ≡ large_element d b i) r
answered lacks d b i s (Ok place) has other placed = (
  get-found d b i has.raw has.is s has.spot other placed.elements placed.branch,
  placed.bytes ∙ get-element d b i has.raw has.is s has.spot other placed.elements placed.branch,
)
answered lacks d b i s (Err fault) has other bad = inr (get-none d b i has.raw has.is s has.spot bad.1 ∙ ap (λ (f : Fault). Some f) (sym bad.0))

pub placed-refusals : (lacks : Fault → Type 0) (d e : Document) (b : ℕ) (s : ElementSpot) (r : Result ElementPlace Fault)
    → MatchResult r (IsElementPlaced d s) (λ fault. (fault ≡ BadChain) × (branch_under d s.link.handle.0 s.size s.link.count ≡ None))
    → IfErr r (IsElementRefusal lacks e b)
placed-refusals lacks d e b s (Ok place) is = tt
placed-refusals lacks d e b s (Err fault) is = inr (inr is.0)

-- its branch isn't brought in
pub branch-missed : (lacks : Fault → Type 0) (d : Document) (b i : ℕ) (s : ElementSpot) (fault : Fault) → IsFoundSpot d b i s
    → Stops lacks (is_raw d s.link.handle.0 ≡ false) fault → RefusesChain lacks (get_large_conditions d b i) fault
branch-missed lacks d b i s fault has (inl lack) = inl lack
branch-missed lacks d b i s fault has (inr bad) = inr (get-dead d b i has.raw has.is s has.spot bad.1 ∙ ap (λ (f : Fault). Some f) (sym bad.0))

-- of a document that stays
module _ {S : Type 0} (facts : S → StoreFacts) (a m e : CacheState S) (first : KeepsBlocks facts a m) (next : KeepsBlocks facts m e) where
  pub at-end : (P : Document → Type 0) → IsHonest facts a.disk.store → P m.document → P e.document
  at-end P steady is = subst P (sym (keeps-same facts m e next (keeps-steady facts a m first steady))) is

  -- what stops a later call stops all of them
  pub stops-end : (cause : Type 0) (fault : Fault) → Stops (IsEnvironmentFault facts m.disk.store e.disk.store) cause fault → Stops (IsEnvironmentFault facts a.disk.store e.disk.store) cause fault
  stops-end cause fault (inl lack) = inl (lacks-later facts a m e.disk.store fault first lack)
  stops-end cause fault (inr bad) = inr bad

pub stops-refusal : (lacks : Fault → Type 0) (d : Document) (b : ℕ) (cause : Type 0) (fault : Fault) → Stops lacks cause fault → IsElementRefusal lacks d b fault
stops-refusal lacks d b cause fault (inl lack) = inl (inl lack)
stops-refusal lacks d b cause fault (inr bad) = inr (inr bad.0)
