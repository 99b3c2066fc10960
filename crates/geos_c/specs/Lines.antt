-- A line that is answered as one of a script.
use Rattle.std.specs.Prelude.{◌≡◌, ◌⊎◌, ℕ, ℤ, List, [], Option, None}
use Rattle.geos_model.specs.Script.{command}
use Rattle.vm_store.specs.Facts.{StoreFacts}
use Rattle.undo_log.specs.Sessions.{SessionState}
use Rattle.geos_replies.specs.Holdings.{MayServe, holding}
use Rattle.geos_replies.specs.Replies.{Responds}
use Rattle.c_sessions.specs.Codes.{HandsOut, untold}

-- The line is answered, without a target for a save-as, over any store, and its reply line is handed out.
pub record IsLineAnswered {S : Type 0} (facts : S → StoreFacts) (line : List ℕ) (old new : SessionState S)
    (before after : List ℕ) (count : ℕ) (code : ℤ) : Type 0 where
  pub reply : List ℕ
  pub target : Option S
  pub former : Option S
  pub responds : Responds facts (holding old None None) (command line) (holding new target former) [] reply
  pub handed_out : HandsOut reply before after count code

-- There was no memory for the line or for its reply: at most it is answered, by a reply that isn't told.
pub record IsUntold {S : Type 0} (facts : S → StoreFacts) (line : List ℕ) (old new : SessionState S)
    (before after : List ℕ) (count : ℕ) (code : ℤ) : Type 0 where
  pub target : Option S
  pub former : Option S
  pub may : MayServe facts (holding old None None) (command line) (holding new target former)
  pub code_is : code ≡ untold
  pub none : (count ≡ 0) × (after ≡ before)

abbrev pub AnswersLine : {S : Type 0} → (S → StoreFacts) → List ℕ → SessionState S → SessionState S → List ℕ → List ℕ
    → ℕ → ℤ → Type 0
AnswersLine facts line old new before after count code =
    IsLineAnswered facts line old new before after count code ⊎ IsUntold facts line old new before after count code
