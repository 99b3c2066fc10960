-- What a call on a chain may answer.
use Rattle.std.specs.Prelude.{◌≡◌, ◌⊎◌, ℕ, None, Some, Result, MatchResult}
use Rattle.geos_model.specs.Document.{Document, is_raw}
use Rattle.geos_model.specs.Refusal.{Conditions, first_refusal}
use Rattle.geos_model.specs.declared.fault.Fault.{Fault}
use Rattle.geos_model.specs.declared.fault.Fault.TheVariants.{BadChain}
use Rattle.vm_blocks.specs.Kinds.{IsWrongBlock}

-- what no rule of the document decides, or the first refusal
abbrev pub RefusesChain : (Fault → Type 0) → Conditions → Fault → Type 0
RefusesChain lacks conditions fault = lacks fault ⊎ (first_refusal conditions ≡ Some fault)

-- It is refused so, or nothing refuses it and this holds of what it gives.
abbrev pub AnswersChain : {A : Type 0} → (Fault → Type 0) → Conditions → (A → Type 0) → Result A Fault → Type 0
AnswersChain lacks conditions P result =
    MatchResult result (λ a. (first_refusal conditions ≡ None) × P a) (RefusesChain lacks conditions)

-- why a root of one of two chains is refused
abbrev pub IsWrongRoot : Document → ℕ → ℕ → Fault → Type 0
IsWrongRoot d first second fault = IsWrongBlock is_raw d first fault ⊎ IsWrongBlock is_raw d second fault

-- A refusal of any call on a chain, whose root may be refused so, without a look into any block.
abbrev pub IsChainFault : (Fault → Type 0) → Fault → Type 0
IsChainFault root fault = root fault ⊎ (fault ≡ BadChain)

-- what a call that walks a chain is refused for, over any store
abbrev pub IsWalkRefusal : (Fault → Type 0) → (Fault → Type 0) → Fault → Type 0
IsWalkRefusal lacks root fault = lacks fault ⊎ IsChainFault root fault
