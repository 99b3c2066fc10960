-- Two walks side by side.
use Rattle.std.proofs.Common.{◌≡◌, ◌⊎◌, ℕ, List, [], ◌∷◌, ◌++◌, Bool, true, false, ◌&&◌, Option, Some, None, is_some, not, MatchOption, Result, Ok, Err, MatchResult, refl, sym, ap, subst, ◌∙◌, inl, inr}
use Rattle.std.proofs.lemmas.Bool.{and_parts, true≢false}
use Rattle.std.proofs.lemmas.List.{append_assoc, append-nil}
use Rattle.std.specs.Option.{option_map}
use lib.Pointwise.{pointwise}
use Rattle.vm_store.specs.Facts.{StoreFacts}
use Rattle.vm_blocks.specs.State.{CacheState}
use Rattle.geos_model.specs.Bytes.{same_bytes}
use Rattle.geos_model.specs.Chain.{blocks_from, chain, chain_blocks, on_chains, relinked, same_shape}
use Rattle.geos_model.specs.Document.{Document, IsValid, is_raw, raw_bytes_of}
use Rattle.geos_model.specs.declared.fault.Fault.{Fault}
use Rattle.vm_blocks.specs.Keeping.{KeepsBlocks, IsHonest, IsEnvironmentFault}
use Rattle.vm_blocks.proofs.KeepingLaws.{keeps-same, lacks-later}
use Rattle.vm_chains.specs.Answers.{AnswersChain}
use Rattle.vm_chains.specs.Alike.{are_alike, mark_of}
use Rattle.vm_chains.specs.Comparing.{AreCompared, AreEqualIf, AreInStep, IsMarkedStep}
use Rattle.vm_chains.specs.Stepping.{IsAlong, IsAtRoot, IsOver, IsWalkStep}
use Rattle.vm_chains.specs.Walking.{Stops}
use Rattle.vm_chains.specs.declared.stepping.Walk.{Walk}
use Rattle.vm_chains.proofs.ChainLemmas.{blocks_are, distinct_of}
use Rattle.vm_chains.proofs.PairLemmas.{same_by_pairs}
use Rattle.vm_chains.proofs.Refusals.{two_stop, two_whole}
use Rattle.vm_chains.proofs.StepLemmas.{at_root, at_some, over_along, step_along}
use Rattle.vm_chains.proofs.WalkLemmas.{chain_is}

-- lists that begin alike are alike if the rest is
pointwise-prefix : (E : ℕ → ℕ → Bool) (xs ys us vs : List ℕ) → pointwise E xs ys ≡ true → pointwise E (xs ++ us) (ys ++ vs) ≡ pointwise E us vs
pointwise-prefix E [] [] us vs alike = refl
pointwise-prefix E [] (y ∷ ys) us vs alike = absurd (true≢false (sym alike))
pointwise-prefix E (x ∷ xs) [] us vs alike = absurd (true≢false (sym alike))
pointwise-prefix E (x ∷ xs) (y ∷ ys) us vs alike =
    let parts = and_parts (E x y) (pointwise E xs ys) alike in
    ap (λ (b : Bool). b && pointwise E (xs ++ us) (ys ++ vs)) parts.0 ∙ pointwise-prefix E xs ys us vs parts.1

-- What a chain has behind the blocks that were met.

abbrev Goes : List ℕ → List ℕ → Type 0
Goes met hs = (rest : List ℕ) × (hs ≡ met ++ rest)

behind : (met hs : List ℕ) (o : Option (List ℕ)) → option_map (λ xs. met ++ xs) o ≡ Some hs → Goes met hs
behind met hs None none = absurd (cc none)
behind met hs (Some xs) some = (xs, let so : met ++ xs ≡ hs = cc some in sym so)

to_come : (d : Document) (root : ℕ) (walk : Walk) (hs : List ℕ) → IsAlong d root walk → chain d root ≡ Some hs → Goes walk.met hs
to_come d root walk hs along is =
    let o = option_map (λ xs. walk.met ++ xs) (blocks_from walk.left d walk.pending) in
    behind walk.met hs (blocks_from walk.left d walk.pending) (distinct_of o hs (sym (chain_is d root o along.rest) ∙ is)).0

-- by a step of the walk, or by its end
to_come_at_step : (d : Document) (root h : ℕ) (old new : Walk) (hs : List ℕ) → IsAlong d root old → IsWalkStep d h old new → chain d root ≡ Some hs → (rest : List ℕ) × (hs ≡ old.met ++ h ∷ rest)
to_come_at_step d root h old new hs along step is =
    let goes = to_come d root new hs (step_along d root h old new along step) is in
    (goes.0, goes.1 ∙ ap (λ (xs : List ℕ). xs ++ goes.0) step.met ∙ append_assoc old.met (h ∷ []) goes.0)

none_to_come : (d : Document) (root : ℕ) (old new : Walk) (hs : List ℕ) → IsAlong d root old → IsOver old new → chain d root ≡ Some hs → hs ≡ old.met ++ []
none_to_come d root old new hs along over is =
    let all : Some hs ≡ Some old.met = sym is ∙ over_along d root old along over.none in
    let same : hs ≡ old.met = cc all in same ∙ sym (append-nil old.met)

over_still : (d : Document) (root : ℕ) (old new : Walk) → IsAlong d root old → IsOver old new → IsAlong d root new
over_still d root old new along over = subst (λ (w : Walk). IsAlong d root w) (sym over.same) along

module _ (d : Document) (f s : ℕ) (first second first_then second_then : Walk) (old : AreInStep d f s first second) where
  -- what is known by what is to come
  by_rest : (xs ys us vs : List ℕ) (same : Bool) → xs ≡ first.met ++ us → ys ≡ second.met ++ vs → pointwise (are_alike d) us vs ≡ same → same ≡ pointwise (are_alike d) xs ys
  by_rest xs ys us vs same x_is y_is is = sym ((λ j. pointwise (are_alike d) (x_is j) (y_is j)) ∙ pointwise-prefix (are_alike d) first.met second.met us vs old.alike ∙ is)

  -- Each has a next block.
  module _ (x y : ℕ) (x_step : IsWalkStep d x first first_then) (y_step : IsWalkStep d y second second_then) where
    pub pair_alike : are_alike d x y ≡ true → AreInStep d f s first_then second_then
    pair_alike alike = record {
      first_along = step_along d f x first first_then old.first_along x_step;
      second_along = step_along d s y second second_then old.second_along y_step;
      alike = (λ j. pointwise (are_alike d) (x_step.met j) (y_step.met j)) ∙ pointwise-prefix (are_alike d) first.met second.met (x ∷ []) (y ∷ []) old.alike ∙ ap (λ (b : Bool). b && true) alike;
    }

    pub pair_differs : are_alike d x y ≡ false → AreCompared d f s false first_then second_then
    pair_differs differ = record {
      first_along = step_along d f x first first_then old.first_along x_step;
      second_along = step_along d s y second second_then old.second_along y_step;
      known = λ xs ys x_is y_is.
          let us = to_come_at_step d f x first first_then xs old.first_along x_step x_is in
          let vs = to_come_at_step d s y second second_then ys old.second_along y_step y_is in
          by_rest xs ys (x ∷ us.0) (y ∷ vs.0) false us.1 vs.1 (ap (λ (b : Bool). b && pointwise (are_alike d) us.0 vs.0) differ);
    }

  -- One of them has none.

  pub first_longer : (x : ℕ) → IsWalkStep d x first first_then → IsOver second second_then → AreCompared d f s false first_then second_then
  first_longer x x_step over = record {
    first_along = step_along d f x first first_then old.first_along x_step;
    second_along = over_still d s second second_then old.second_along over;
    known = λ xs ys x_is y_is.
        let us = to_come_at_step d f x first first_then xs old.first_along x_step x_is in
        by_rest xs ys (x ∷ us.0) [] false us.1 (none_to_come d s second second_then ys old.second_along over y_is) refl;
  }

  pub second_longer : (y : ℕ) → IsOver first first_then → IsWalkStep d y second second_then → AreCompared d f s false first_then second_then
  second_longer y over y_step = record {
    first_along = over_still d f first first_then old.first_along over;
    second_along = step_along d s y second second_then old.second_along y_step;
    known = λ xs ys x_is y_is.
        let vs = to_come_at_step d s y second second_then ys old.second_along y_step y_is in
        by_rest xs ys [] (y ∷ vs.0) false (none_to_come d f first first_then xs old.first_along over x_is) vs.1 refl;
  }

  -- Neither has one.
  pub both_over : IsOver first first_then → IsOver second second_then → AreCompared d f s true first_then second_then
  both_over first_over second_over = record {
    first_along = over_still d f first first_then old.first_along first_over;
    second_along = over_still d s second second_then old.second_along second_over;
    known = λ xs ys x_is y_is.
        by_rest xs ys [] [] true (none_to_come d f first first_then xs old.first_along first_over x_is) (none_to_come d s second second_then ys old.second_along second_over y_is) refl;
  }

  -- The first has none: then it's known by whether the second has one.
  pub first_over : {A : Type 0} (items : A → List ℕ) (next : Option A) (same : Bool) → IsOver first first_then → is_some next ≡ not same → MatchOption next (IsOver second second_then) (λ x. IsMarkedStep d (items x) second second_then) → AreCompared d f s same first_then second_then
  first_over items None true over is answered = both_over over answered
  first_over items None false over is answered = absurd (true≢false (sym is))
  first_over items (Some x) true over is answered = absurd (true≢false is)
  first_over items (Some x) false over is answered = second_longer answered.block over answered.step

-- what a step that marks links gave
pub marked_at : {A : Type 0} (items : A → List ℕ) (d : Document) (old new : Walk) (next : Option A) (x : A) → next ≡ Some x → MatchOption next (IsOver old new) (λ y. IsMarkedStep d (items y) old new) → IsMarkedStep d (items x) old new
marked_at items d old new next x is answered = at_some next x (IsOver old new) (λ y. IsMarkedStep d (items y) old new) is answered

-- whether two blocks are alike, by what was read of them
pub alike_is : (d : Document) (x y : ℕ) (mine other xs ys : List ℕ) (same : Bool) → mine ≡ xs → other ≡ ys → xs ≡ relinked mark_of (raw_bytes_of d x) → ys ≡ relinked mark_of (raw_bytes_of d y) → same ≡ same_bytes mine other → are_alike d x y ≡ same
alike_is d x y mine other xs ys same mine_lent other_lent x_is y_is is = sym (is ∙ (λ j. same_bytes ((mine_lent ∙ x_is) j) ((other_lent ∙ y_is) j)))

-- two walks that begin
pub both_at_root : (d : Document) (f s : ℕ) (first second : Walk) → IsAtRoot f first → IsAtRoot s second → AreInStep d f s first second
both_at_root d f s first second first_at second_at = record {
  first_along = at_root d f first first_at;
  second_along = at_root d s second second_at;
  alike = λ j. pointwise (are_alike d) (first_at.met j) (second_at.met j);
}

-- and that have ended
pub equal_if : (d : Document) (f s : ℕ) (same : Bool) (first second : Walk) (xs ys : List ℕ) → IsValid d → AreCompared d f s same first second → chain d f ≡ Some xs → chain d s ≡ Some ys → AreEqualIf d f s same
equal_if d f s same first second xs ys valid compared first_is second_is =
    let x_is = first_is ∙ ap (λ (hs : List ℕ). Some hs) (sym (blocks_are d f xs first_is)) in
    let y_is = second_is ∙ ap (λ (hs : List ℕ). Some hs) (sym (blocks_are d s ys second_is)) in
    record {
      first = x_is;
      second = y_is;
      is = compared.known (chain_blocks d f) (chain_blocks d s) x_is y_is ∙ sym (same_by_pairs d f s (chain_blocks d f) (chain_blocks d s) valid x_is y_is);
    }

-- what is answered of two raw blocks
pub two_answered : (d : Document) (f s : ℕ) (lacks : Fault → Type 0) (result : Result Bool Fault) → (is_raw d f ≡ true) × (is_raw d s ≡ true) → MatchResult result (AreEqualIf d f s) (Stops lacks ((chain d f ≡ None) ⊎ (chain d s ≡ None)))
    → AnswersChain lacks (on_chains d f s) (λ same. same ≡ same_shape d (chain_blocks d f) (chain_blocks d s)) result
two_answered d f s lacks (Ok same) raw are = (two_whole d f s (chain_blocks d f) (chain_blocks d s) raw.0 raw.1 are.first are.second, are.is)
two_answered d f s lacks (Err fault) raw stops = two_stop d f s lacks fault raw.0 raw.1 stops

module _ {S : Type 0} (facts : S → StoreFacts) (a b : CacheState S) (once : KeepsBlocks facts a b) where
  -- the same holds of what a call leaves
  pub still_in : (P : Document → Type 0) → IsHonest facts a.disk.store → P a.document → P b.document
  still_in P steady was = subst P (sym (keeps-same facts a b once steady)) was

  -- a refusal of what is called then
  pub stops_later : (e : CacheState S) (cause why : Type 0) (fault : Fault) → (cause → why) → Stops (IsEnvironmentFault facts b.disk.store e.disk.store) cause fault → Stops (IsEnvironmentFault facts a.disk.store e.disk.store) why fault
  stops_later e cause why fault turn (inl lacks) = inl (lacks-later facts a b e.disk.store fault once lacks)
  stops_later e cause why fault turn (inr bad) = inr (bad.0, turn bad.1)
