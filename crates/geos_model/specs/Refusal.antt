-- Refusals: their numbers and names, and the one order in which they are looked for.
use Rattle.std.specs.Prelude.{ℕ, List, [], ◌∷◌, Bool, ◌==◌, ◌&&◌, Option, find, codes}
use Rattle.std.specs.List.{list_any}
use Rattle.geos_model.specs.declared.fault.Fault.{Fault}
use Rattle.geos_model.specs.declared.fault.Fault.TheVariants.{Memory, File, Damaged, NotDocument, NoBlock, NoChunk, WrongKind, Full, TooBig, NoHandles, Range, NotArray, NoElement, CountFull, NoName, NameInUse, BadChain, IsMap, Locked, NotLocked, CacheFull, NothingToUndo, NothingToRedo, NoTarget, BadCommand, LockLimit, Worn, GroupOpen, NoGroup}

abbrev pub number_of_fault : Fault → ℕ
number_of_fault Memory = 1
number_of_fault File = 2
number_of_fault Damaged = 3
number_of_fault NotDocument = 4
number_of_fault NoBlock = 5
number_of_fault NoChunk = 6
number_of_fault WrongKind = 7
number_of_fault Full = 8
number_of_fault TooBig = 9
number_of_fault NoHandles = 10
number_of_fault Range = 11
number_of_fault NotArray = 12
number_of_fault NoElement = 13
number_of_fault CountFull = 14
number_of_fault NoName = 15
number_of_fault NameInUse = 16
number_of_fault BadChain = 17
number_of_fault IsMap = 18
number_of_fault Locked = 19
number_of_fault NotLocked = 20
number_of_fault CacheFull = 21
number_of_fault NothingToUndo = 22
number_of_fault NothingToRedo = 23
number_of_fault NoTarget = 24
number_of_fault BadCommand = 25
number_of_fault LockLimit = 26
number_of_fault Worn = 27
number_of_fault GroupOpen = 28
number_of_fault NoGroup = 29

abbrev pub name_of_fault : Fault → List ℕ
name_of_fault Memory = codes "Memory"
name_of_fault File = codes "File"
name_of_fault Damaged = codes "Damaged"
name_of_fault NotDocument = codes "NotDocument"
name_of_fault NoBlock = codes "NoBlock"
name_of_fault NoChunk = codes "NoChunk"
name_of_fault WrongKind = codes "WrongKind"
name_of_fault Full = codes "Full"
name_of_fault TooBig = codes "TooBig"
name_of_fault NoHandles = codes "NoHandles"
name_of_fault Range = codes "Range"
name_of_fault NotArray = codes "NotArray"
name_of_fault NoElement = codes "NoElement"
name_of_fault CountFull = codes "CountFull"
name_of_fault NoName = codes "NoName"
name_of_fault NameInUse = codes "NameInUse"
name_of_fault BadChain = codes "BadChain"
name_of_fault IsMap = codes "IsMap"
name_of_fault Locked = codes "Locked"
name_of_fault NotLocked = codes "NotLocked"
name_of_fault CacheFull = codes "CacheFull"
name_of_fault NothingToUndo = codes "NothingToUndo"
name_of_fault NothingToRedo = codes "NothingToRedo"
name_of_fault NoTarget = codes "NoTarget"
name_of_fault BadCommand = codes "BadCommand"
name_of_fault LockLimit = codes "LockLimit"
name_of_fault Worn = codes "Worn"
name_of_fault GroupOpen = codes "GroupOpen"
name_of_fault NoGroup = codes "NoGroup"

-- Of the refusals whose conditions hold, the first in this order is answered.
abbrev pub one_order : List Fault
one_order =
    BadCommand ∷ GroupOpen ∷ NoGroup ∷ Locked ∷ NothingToUndo ∷ NothingToRedo ∷ NoTarget ∷ NoBlock ∷ WrongKind
    ∷ NotLocked ∷ LockLimit
    ∷ CacheFull ∷ NoChunk ∷ NotArray ∷ NoElement ∷ NoName ∷ BadChain ∷ IsMap ∷ NameInUse ∷ CountFull ∷ Range
    ∷ TooBig ∷ NoHandles ∷ Full ∷ Worn ∷ []

-- refusals, each with whether its condition holds; a refusal may stand several times, in any order
abbrev pub Conditions : Type 0
Conditions = List (Fault × Bool)

-- some condition of this refusal holds
abbrev pub applies : Conditions → Fault → Bool
applies conditions fault = list_any (λ c. (number_of_fault c.0 == number_of_fault fault) && c.1) conditions

abbrev pub first_refusal : Conditions → Option Fault
first_refusal conditions = find (applies conditions) one_order
