-- Which refusal of a call on a chain comes first.
use Rattle.std.proofs.Common.{◌≡◌, ◌⊎◌, ℕ, List, [], ◌∷◌, Bool, true, false, not, cond, nat_lt, length, ◌==◌, ◌&&◌, ◌||◌, Option, Some, None, is_none, Result, Ok, Err, IfOk, IfErr, MatchResult, refl, sym, ap, ◌∙◌, inl, inr}
use Rattle.std.proofs.lemmas.Bool.{and_parts, cond-true, cond-false, true≢false}
use Rattle.std.specs.List.{list_any}
use Rattle.geos_model.specs.Chain.{chain, chain_blocks, copy_conditions, free_conditions, free_handles, on_chain, on_chains}
use Rattle.geos_model.specs.Document.{Document, is_live, is_raw}
use Rattle.geos_model.specs.Refusal.{Conditions, first_refusal}
use Rattle.geos_model.specs.declared.fault.Fault.{Fault}
use Rattle.geos_model.specs.declared.fault.Fault.TheVariants.{NoBlock, WrongKind, BadChain, IsMap, NoHandles}
use Rattle.vm_chains.specs.Answers.{AnswersChain, RefusesChain}
use Rattle.vm_blocks.specs.Kinds.{IsWrongBlock}
use Rattle.vm_chains.specs.Walking.{Stops}
use Rattle.vm_chains.proofs.WalkLemmas.{and_false, raw_live}

-- by the three tests of a chain: is its root live, is it raw, is there a chain
of_one : (live raw none : Bool) → first_refusal ((NoBlock, not live) ∷ (WrongKind, not raw) ∷ (BadChain, none) ∷ []) ≡ cond live (cond raw (cond none (Some BadChain) None) (Some WrongKind)) (Some NoBlock)
of_one false raw none = refl
of_one true false none = refl
of_one true true false = refl
of_one true true true = refl

-- of two chains
of_two : (live raw none live2 raw2 none2 : Bool)
    → first_refusal ((NoBlock, not live) ∷ (WrongKind, not raw) ∷ (BadChain, none) ∷ (NoBlock, not live2) ∷ (WrongKind, not raw2) ∷ (BadChain, none2) ∷ [])
    ≡ cond (live && live2) (cond (raw && raw2) (cond (none || none2) (Some BadChain) None) (Some WrongKind)) (Some NoBlock)
of_two false raw none live2 raw2 none2 = refl
of_two true raw none false raw2 none2 = refl
of_two true false none true raw2 none2 = refl
of_two true true none true false none2 = refl
of_two true true true true true none2 = refl
of_two true true false true true false = refl
of_two true true false true true true = refl

-- the map block is looked for in a chain, or so many free handles for a copy of it
after_chain : (live raw none map : Bool) → first_refusal ((NoBlock, not live) ∷ (WrongKind, not raw) ∷ (BadChain, none) ∷ []) ≡ None → first_refusal ((NoBlock, not live) ∷ (WrongKind, not raw) ∷ (BadChain, none) ∷ (IsMap, map) ∷ []) ≡ cond map (Some IsMap) None
after_chain false raw none map e = absurd (cc (sym (of_one false raw none) ∙ e))
after_chain true false none map e = absurd (cc (sym (of_one true false none) ∙ e))
after_chain true true true map e = absurd (cc e)
after_chain true true false false e = refl
after_chain true true false true e = refl

for_copy : (live raw none few : Bool) → first_refusal ((NoBlock, not live) ∷ (WrongKind, not raw) ∷ (BadChain, none) ∷ []) ≡ None → first_refusal ((NoBlock, not live) ∷ (WrongKind, not raw) ∷ (BadChain, none) ∷ (NoHandles, few) ∷ []) ≡ cond few (Some NoHandles) None
for_copy false raw none few e = absurd (cc (sym (of_one false raw none) ∙ e))
for_copy true false none few e = absurd (cc (sym (of_one true false none) ∙ e))
for_copy true true true few e = absurd (cc e)
for_copy true true false false e = refl
for_copy true true false true e = refl

-- what refuses a chain refuses first
before_map : (live raw none map : Bool) (fault : Fault) → first_refusal ((NoBlock, not live) ∷ (WrongKind, not raw) ∷ (BadChain, none) ∷ []) ≡ Some fault → first_refusal ((NoBlock, not live) ∷ (WrongKind, not raw) ∷ (BadChain, none) ∷ (IsMap, map) ∷ []) ≡ Some fault
before_map false raw none map fault e = e
before_map true false none map fault e = e
before_map true true true map fault e = e
before_map true true false map fault e = absurd (cc e)

before_copy : (live raw none few : Bool) (fault : Fault) → first_refusal ((NoBlock, not live) ∷ (WrongKind, not raw) ∷ (BadChain, none) ∷ []) ≡ Some fault → first_refusal ((NoBlock, not live) ∷ (WrongKind, not raw) ∷ (BadChain, none) ∷ (NoHandles, few) ∷ []) ≡ Some fault
before_copy false raw none few fault e = e
before_copy true false none few fault e = e
before_copy true true true few fault e = e
before_copy true true false few fault e = absurd (cc e)

-- what is answered where nothing refuses but what is lacking
pub answers : {A : Type 0} (lacks : Fault → Type 0) (conditions : Conditions) (P Q : A → Type 0) (result : Result A Fault) → first_refusal conditions ≡ None → IfOk result P → IfErr result lacks → ((a : A) → P a → Q a) → AnswersChain lacks conditions Q result
answers lacks conditions P Q (Ok a) none is refused turn = (none, turn a is)
answers lacks conditions P Q (Err fault) none is refused turn = inl refused

module _ (d : Document) (h : ℕ) where
  pub by_map : (map : Bool) → list_any (λ x. x == d.map_block) (chain_blocks d h) ≡ map → first_refusal (on_chain d h) ≡ None → first_refusal (free_conditions d h) ≡ cond map (Some IsMap) None
  by_map map is none =
      (λ i. first_refusal ((NoBlock, not (is_live d h)) ∷ (WrongKind, not (is_raw d h)) ∷ (BadChain, is_none (chain d h)) ∷ (IsMap, is i) ∷ []))
      ∙ after_chain (is_live d h) (is_raw d h) (is_none (chain d h)) map none

  pub by_handles : (few : Bool) → nat_lt (length (free_handles d)) (length (chain_blocks d h)) ≡ few → first_refusal (on_chain d h) ≡ None → first_refusal (copy_conditions d h) ≡ cond few (Some NoHandles) None
  by_handles few is none =
      (λ i. first_refusal ((NoBlock, not (is_live d h)) ∷ (WrongKind, not (is_raw d h)) ∷ (BadChain, is_none (chain d h)) ∷ (NoHandles, is i) ∷ []))
      ∙ for_copy (is_live d h) (is_raw d h) (is_none (chain d h)) few none

  module _ (lacks : Fault → Type 0) where
    pub free_refused : (fault : Fault) → RefusesChain lacks (on_chain d h) fault → RefusesChain lacks (free_conditions d h) fault
    free_refused fault (inl lack) = inl lack
    free_refused fault (inr first) = inr (before_map (is_live d h) (is_raw d h) (is_none (chain d h)) _ fault first)

    pub copy_refused : (fault : Fault) → RefusesChain lacks (on_chain d h) fault → RefusesChain lacks (copy_conditions d h) fault
    copy_refused fault (inl lack) = inl lack
    copy_refused fault (inr first) = inr (before_copy (is_live d h) (is_raw d h) (is_none (chain d h)) _ fault first)

    -- the root is refused
    pub root_refused : (fault : Fault) → lacks fault ⊎ IsWrongBlock is_raw d h fault → RefusesChain lacks (on_chain d h) fault
    root_refused fault (inl lack) = inl lack
    root_refused fault (inr (inl dead)) = inr (of_one (is_live d h) (is_raw d h) (is_none (chain d h)) ∙ cond-false _ _ _ dead.1 ∙ ap (λ (f : Fault). Some f) (sym dead.0))
    root_refused fault (inr (inr heap)) = inr (of_one (is_live d h) (is_raw d h) (is_none (chain d h)) ∙ cond-true _ _ _ heap.1 ∙ cond-false _ _ _ heap.2 ∙ ap (λ (f : Fault). Some f) (sym heap.0))

    -- its chain is walked
    pub walked : {A : Type 0} (P : A → Type 0) (result : Result A Fault) → is_raw d h ≡ true → ((a : A) → P a → is_none (chain d h) ≡ false) → MatchResult result P (Stops lacks (chain d h ≡ None)) → AnswersChain lacks (on_chain d h) P result
    walked P (Ok a) raw some is = (of_one (is_live d h) (is_raw d h) (is_none (chain d h)) ∙ cond-true _ _ _ (raw_live d h raw) ∙ cond-true _ _ _ raw ∙ cond-false _ _ _ (some a is), is)
    walked P (Err fault) raw some (inl lack) = inl lack
    walked P (Err fault) raw some (inr bad) = inr (of_one (is_live d h) (is_raw d h) (is_none (chain d h)) ∙ cond-true _ _ _ (raw_live d h raw) ∙ cond-true _ _ _ raw ∙ cond-true _ _ _ (ap (λ (o : Option (List ℕ)). is_none o) bad.1) ∙ ap (λ (f : Fault). Some f) (sym bad.0))

-- Two chains.
module _ (d : Document) (f s : ℕ) where
  two : first_refusal (on_chains d f s) ≡ cond (is_live d f && is_live d s) (cond (is_raw d f && is_raw d s) (cond (is_none (chain d f) || is_none (chain d s)) (Some BadChain) None) (Some WrongKind)) (Some NoBlock)
  two = of_two (is_live d f) (is_raw d f) (is_none (chain d f)) (is_live d s) (is_raw d s) (is_none (chain d s))

  -- one is a heap
  pub two_heap : (is_live d f && is_live d s) ≡ true → (is_raw d f && is_raw d s) ≡ false → first_refusal (on_chains d f s) ≡ Some WrongKind
  two_heap live heap = two ∙ cond-true _ _ _ live ∙ cond-false _ _ _ heap

  -- one of the roots is refused
  pub two_refused : (fault : Fault) → (is_live d f && is_live d s) ≡ true → IsWrongBlock is_raw d f fault ⊎ IsWrongBlock is_raw d s fault → first_refusal (on_chains d f s) ≡ Some fault
  two_refused fault live (inl (inl dead)) = absurd (true≢false (sym (and_parts (is_live d f) (is_live d s) live).0 ∙ dead.1))
  two_refused fault live (inl (inr heap)) = two_heap live (ap (λ (b : Bool). b && is_raw d s) heap.2) ∙ ap (λ (x : Fault). Some x) (sym heap.0)
  two_refused fault live (inr (inl dead)) = absurd (true≢false (sym (and_parts (is_live d f) (is_live d s) live).1 ∙ dead.1))
  two_refused fault live (inr (inr heap)) = two_heap live (ap (λ (b : Bool). is_raw d f && b) heap.2 ∙ and_false (is_raw d f)) ∙ ap (λ (x : Fault). Some x) (sym heap.0)

  both : (a b : Bool) → a ≡ true → b ≡ true → (a && b) ≡ true
  both a b p q = λ i. p i && q i

  pub two_raw : is_raw d f ≡ true → is_raw d s ≡ true → first_refusal (on_chains d f s) ≡ cond (is_none (chain d f) || is_none (chain d s)) (Some BadChain) None
  two_raw first second = two ∙ cond-true _ _ _ (both _ _ (raw_live d f first) (raw_live d s second)) ∙ cond-true _ _ _ (both _ _ first second)

  or_right_true : (a b : Bool) → b ≡ true → (a || b) ≡ true
  or_right_true true b e = refl
  or_right_true false b e = e

  -- one is broken
  pub two_stop : (lacks : Fault → Type 0) (fault : Fault) → is_raw d f ≡ true → is_raw d s ≡ true → Stops lacks ((chain d f ≡ None) ⊎ (chain d s ≡ None)) fault → RefusesChain lacks (on_chains d f s) fault
  two_stop lacks fault first second (inl lack) = inl lack
  two_stop lacks fault first second (inr bad) = inr (two_raw first second ∙ cond-true _ _ _ (broken bad.1) ∙ ap (λ (x : Fault). Some x) (sym bad.0))
    where
      broken : (chain d f ≡ None) ⊎ (chain d s ≡ None) → (is_none (chain d f) || is_none (chain d s)) ≡ true
      broken (inl none) = ap (λ (o : Option (List ℕ)). is_none o || is_none (chain d s)) none
      broken (inr none) = or_right_true (is_none (chain d f)) (is_none (chain d s)) (ap (λ (o : Option (List ℕ)). is_none o) none)

  -- both are whole
  pub two_whole : (xs ys : List ℕ) → is_raw d f ≡ true → is_raw d s ≡ true → chain d f ≡ Some xs → chain d s ≡ Some ys → first_refusal (on_chains d f s) ≡ None
  two_whole xs ys first second p q = two_raw first second ∙ (λ i. cond (is_none (p i) || is_none (q i)) (Some BadChain) None)
