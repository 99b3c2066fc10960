-- What is lent of a block that is locked, and how it is handed out.
use Rattle.std.specs.Prelude.{◌≡◌, ◌≢◌, ℕ, ℤ, Bool, not, List, ◌∷◌, length, Option, Some, Result, MatchResult}
use Rattle.std.specs.Borrow.{Bor}
use Rattle.std.specs.Option.{option_map_or}
use Rattle.std.specs.Ptr.{Ptr, as_ptr, null_ptr}
use Rattle.geos_model.specs.Machine.{Machine, is_locked}
use Rattle.geos_model.specs.Refusal.{Conditions, first_refusal}
use Rattle.geos_model.specs.Reply.{Reply, BytesAre, Refused, look_up, look_up_conditions, reply_by}
use Rattle.geos_model.specs.declared.command.Command.{Command}
use Rattle.geos_model.specs.declared.fault.Fault.{Fault}
use Rattle.geos_model.specs.declared.fault.Fault.TheVariants.{NotLocked}
use Rattle.vm_store.specs.Facts.{StoreFacts}
use Rattle.large_arrays.specs.LentRuns.{run_bytes}
use Rattle.large_arrays.specs.declared.lent_runs.RunPlace.{RunPlace}
use Rattle.undo_log.specs.LockedRuns.{LocksRun}
use Rattle.undo_log.specs.Sessions.{SessionState, machine_of}
use Rattle.c_sessions.specs.Codes.{code_of}

-- the refusals of a look-up into a block that has to be locked
abbrev pub locked_conditions : Command → ℕ → Machine → Conditions
locked_conditions command block m = (NotLocked, not (is_locked m block)) ∷ look_up_conditions command m.document

-- the first of them, or what the look-up answers
abbrev pub lent_by : Command → ℕ → Machine → Option Reply
lent_by command block m =
    option_map_or (λ fault. Some (Refused fault)) (first_refusal (locked_conditions command block m))
    (look_up command m.document)

-- this is what is lent, over any store
abbrev pub IsLent : {S : Type 0} → Command → ℕ → SessionState S → Reply → Type 0
IsLent command block session reply = (target : Bool) → lent_by command block (machine_of target session) ≡ Some reply

-- The address of the bytes is handed out, and how many there are; where they are refused, the null address and none.
pub record HandsOutPlace (answer : Result (Bor (List ℕ)) Fault) (at : Ptr) (count : ℕ) (code : ℤ) : Type 0 where
  pub place : MatchResult answer (λ bytes. (at ≡ as_ptr bytes) × (count ≡ length bytes.now))
      (λ _. (at ≡ null_ptr) × (count ≡ 0))
  pub code_is : code ≡ code_of answer

-- The bytes of a locked block are lent, or it is refused, and the session stays. Whose address is handed out no session
-- can say: that it isn't null, and that as many bytes are lent as are told, is what is left of it.
abbrev pub Lends : {S : Type 0} → Command → ℕ → Ptr → ℕ → SessionState S → SessionState S → Result (List ℕ) Fault
    → Type 0
Lends command block at count old new answer = IsLent command block old (reply_by BytesAre answer) × (new ≡ old)
    × MatchResult answer (λ bytes. (at ≢ null_ptr) × (count ≡ length bytes)) (λ _. (at ≡ null_ptr) × (count ≡ 0))

-- The block of a large array that has an element is locked, and its bytes from that element on are lent, or it is
-- refused. Which block it is is told, and of the bytes what is told of those of any locked block.
abbrev pub LendsRun : {S : Type 0} → (S → StoreFacts) → ℕ → ℕ → ℕ → Ptr → ℕ → SessionState S → SessionState S
    → Result RunPlace Fault → Type 0
LendsRun facts root i block at count old new answer = LocksRun facts root i old new answer
    × MatchResult answer
    (λ place. (block ≡ place.block.0) × (at ≢ null_ptr) × (count ≡ length (run_bytes new.document place)))
    (λ _. (block ≡ 0) × (at ≡ null_ptr) × (count ≡ 0))
