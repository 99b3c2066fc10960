-- What the codes say by which calls from C are answered, and what they put into a buffer.
use Rattle.std.specs.Prelude.{◌≡◌, ◌⊎◌, ◌≤ℤ◌, ℕ, ℤ, pos, ◌++◌, nat_le, if◌then◌else◌, List, length, take, drop, Result, Ok, Err}
use Rattle.geos_model.specs.declared.fault.Fault.{Fault}
use Rattle.geos_model.specs.Reply.{Reply, BlocksAre, BytesAre, ChunksAre, Refused}
use Rattle.geos_model.specs.Refusal.{number_of_fault, name_of_fault}

-- Codes that are no fault of a document, whose numbers end at 29.

-- the handle has no session
abbrev pub not_open : ℤ
not_open = pos 100

-- the handle has a session already
abbrev pub open_already : ℤ
open_already = pos 101

-- how many frames there may be is out of its bounds, or a save-as is into the session's own file
abbrev pub bad_argument : ℤ
bad_argument = pos 102

-- the buffer took a part
abbrev pub cut_off : ℤ
cut_off = pos 103

-- there was no memory for the line or for the text of its reply
abbrev pub untold : ℤ
untold = pos 104

-- 0, or the number of the fault
abbrev pub code_of : {T : Type 0} → Result T Fault → ℤ
code_of (Ok x) = pos 0
code_of (Err fault) = pos (number_of_fault fault)

-- the code tells an answer of which this is so
abbrev pub ReportsAnswer : {T : Type 0} → (Result T Fault → Type 0) → ℤ → Type 0
ReportsAnswer {T} holds code = (answer : Result T Fault) × (code ≡ code_of answer) × holds answer

-- As many of the bytes, or of the handles, as fit stand at the start of the buffer, the rest of which stays; how many
-- there are is told, and the code whether all of them fit.
pub record HandsOut (bytes old new : List ℕ) (count : ℕ) (code : ℤ) : Type 0 where
  pub count_is : count ≡ length bytes
  pub buffer : new ≡ take (length old) bytes ++ drop (length bytes) old
  pub code_is : code ≡ (if nat_le (length bytes) (length old) then pos 0 else cut_off)

-- The name of the fault with this number is handed out; where none has it, nothing is.
abbrev pub IsNamed : ℤ → List ℕ → List ℕ → ℕ → ℤ → Type 0
IsNamed number old new count code =
    ((fault : Fault) × (number ≡ pos (number_of_fault fault)) × HandsOut (name_of_fault fault) old new count code)
    ⊎ (((number ≤ℤ pos 0) ⊎ (pos 30 ≤ℤ number)) × (new ≡ old) × (count ≡ 0) × (code ≡ bad_argument))

-- The bytes or the handles that a reply has are handed out; where it is a refusal none are, and the code is the fault's
-- number.
abbrev pub HandsOutReply : Reply → List ℕ → List ℕ → ℕ → ℤ → Type 0
HandsOutReply (BytesAre bytes) old new count code = HandsOut bytes old new count code
HandsOutReply (BlocksAre handles) old new count code = HandsOut handles old new count code
HandsOutReply (ChunksAre handles) old new count code = HandsOut handles old new count code
HandsOutReply (Refused fault) old new count code = (new ≡ old) × (count ≡ 0) × (code ≡ pos (number_of_fault fault))
HandsOutReply reply old new count code = ⊥
