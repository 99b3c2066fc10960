-- Which refusal of an edit of a large array comes first, by the tests that its conditions are of.
use Rattle.std.proofs.Common.{◌≡◌, [], ◌∷◌, Bool, true, false, not, cond, ◌||◌, Option, Some, None, refl}
use Rattle.geos_model.specs.Refusal.{first_refusal}
use Rattle.geos_model.specs.declared.fault.Fault.{Fault}
use Rattle.geos_model.specs.declared.fault.Fault.TheVariants.{NoBlock, WrongKind, NotArray, NoElement, BadChain, IsMap, Range, TooBig, NoHandles}

-- what refuses an edit whose root is an array's: of the run, the branches that are looked at, the map block, what is
-- given, and handles
abbrev pub after_root : Bool → Bool → Bool → Bool → Bool → Bool → Bool → Option Fault
after_root past chain map range long few many =
    cond past (Some NoElement) (cond chain (Some BadChain) (cond map (Some IsMap) (cond range (Some Range) (cond long (Some TooBig)
    (cond (few || many) (Some NoHandles) None)))))

-- what refuses it before that, else this
abbrev pub from_root : Bool → Bool → Bool → Option Fault → Option Fault
from_root live raw none rest = cond live (cond raw (cond none (Some NotArray) rest) (Some WrongKind)) (Some NoBlock)

pub of_insertion : (live raw none range long chain map few many : Bool)
    → first_refusal ((NoBlock, not live) ∷ (WrongKind, not raw) ∷ (NotArray, none) ∷ (Range, range) ∷ (TooBig, long)
    ∷ (BadChain, chain) ∷ (IsMap, map) ∷ (NoHandles, few) ∷ (NoHandles, many) ∷ [])
    ≡ from_root live raw none (after_root false chain map range long few many)
of_insertion false raw none range long chain map few many = refl
of_insertion true false none range long chain map few many = refl
of_insertion true true true range long chain map few many = refl
of_insertion true true false range long true map few many = refl
of_insertion true true false range long false true few many = refl
of_insertion true true false true long false false few many = refl
of_insertion true true false false true false false few many = refl
of_insertion true true false false false false false true many = refl
of_insertion true true false false false false false false true = refl
of_insertion true true false false false false false false false = refl

pub of_deletion : (live raw none past chain map few many : Bool)
    → first_refusal ((NoBlock, not live) ∷ (WrongKind, not raw) ∷ (NotArray, none) ∷ (NoElement, past)
    ∷ (BadChain, chain) ∷ (IsMap, map) ∷ (NoHandles, few) ∷ (NoHandles, many) ∷ [])
    ≡ from_root live raw none (after_root past chain map false false few many)
of_deletion false raw none past chain map few many = refl
of_deletion true false none past chain map few many = refl
of_deletion true true true past chain map few many = refl
of_deletion true true false true chain map few many = refl
of_deletion true true false false true map few many = refl
of_deletion true true false false false true few many = refl
of_deletion true true false false false false true many = refl
of_deletion true true false false false false false true = refl
of_deletion true true false false false false false false = refl

-- an element that is set where sizes vary
pub of_setting : (live raw none past range long chain map few many : Bool)
    → first_refusal ((NoBlock, not live) ∷ (WrongKind, not raw) ∷ (NotArray, none) ∷ (NoElement, past) ∷ (Range, range) ∷ (TooBig, long)
    ∷ (BadChain, chain) ∷ (IsMap, map) ∷ (NoHandles, few) ∷ (NoHandles, many) ∷ [])
    ≡ from_root live raw none (after_root past chain map range long few many)
of_setting false raw none past range long chain map few many = refl
of_setting true false none past range long chain map few many = refl
of_setting true true true past range long chain map few many = refl
of_setting true true false true range long chain map few many = refl
of_setting true true false false range long true map few many = refl
of_setting true true false false range long false true few many = refl
of_setting true true false false true long false false few many = refl
of_setting true true false false false true false false few many = refl
of_setting true true false false false false false false true many = refl
of_setting true true false false false false false false false true = refl
of_setting true true false false false false false false false false = refl

-- elements that are written over, where they have one size
pub of_overwriting : (live raw none past range long chain : Bool)
    → first_refusal ((NoBlock, not live) ∷ (WrongKind, not raw) ∷ (NotArray, none) ∷ (NoElement, past) ∷ (Range, range) ∷ (TooBig, long)
    ∷ (BadChain, chain) ∷ [])
    ≡ from_root live raw none (after_root past chain false range long false false)
of_overwriting false raw none past range long chain = refl
of_overwriting true false none past range long chain = refl
of_overwriting true true true past range long chain = refl
of_overwriting true true false true range long chain = refl
of_overwriting true true false false range long true = refl
of_overwriting true true false false true long false = refl
of_overwriting true true false false false true false = refl
of_overwriting true true false false false false false = refl
