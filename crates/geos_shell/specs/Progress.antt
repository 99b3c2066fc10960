-- How far a run has come between two of its reads.
use Rattle.std.specs.Prelude.{◌≡◌, ◌⊎◌, ℕ, ◌<◌, List, [], ◌∷◌, ◌++◌, false, ◌==◌, IsTrue, length, take, Option}
use Rattle.std.specs.Io.KnownBytes.{Appends}
use Rattle.geos_model.specs.Script.{command, line_feed, lines, finished_lines}
use Rattle.vm_store.specs.Facts.{StoreFacts}
use Rattle.geos_replies.specs.Holdings.{Holding, MayServe}
use Rattle.geos_shell.specs.Manners.{longest_kept}
use Rattle.geos_shell.specs.Runs.{AnswersLines, RefusesRequest, StoppedWith, StopsBy}
use Rattle.geos_shell.specs.declared.answering.Answering.{Answering}
use Rattle.geos_shell.specs.declared.runner.RunFault.{RunFault}
use Rattle.geos_shell.specs.declared.runner.RunFault.TheVariants as faults
use Rattle.geos_shell.specs.declared.runner.ScriptOptions.{ScriptOptions}

-- ---- one line

-- The line is answered, and what is written of it was put behind what was there.
abbrev pub IsAnsweredInRun : {S : Type 0} → (S → StoreFacts) → ScriptOptions → Holding S → List ℕ → Holding S → List ℕ
    → List ℕ
    → Type 0
IsAnsweredInRun facts manner old line new before after =
    (written : List ℕ) × AnswersLines facts manner old (line ∷ []) written new × (after ≡ before ++ written)

-- The run stopped in the line of this number: there was no memory for it, or it is refused, which only a run doesn't
-- outlast that bails.
abbrev pub IsStopped : {S : Type 0} → RunFault → (S → StoreFacts) → ScriptOptions → ℕ → Holding S → List ℕ → Holding S
    → List ℕ
    → List ℕ → Type 0
IsStopped faults.Memory facts manner number old line new before after =
    MayServe facts old (command line) new × (after ≡ before)
IsStopped (faults.Refused refused) facts manner number old line new before after =
    (refused ≡ number) × IsTrue manner.bails
    × ((written : List ℕ) × RefusesRequest facts manner old line written new × (after ≡ before ++ written))
IsStopped fault facts manner number old line new before after = ⊥

-- ---- lines that come in parts

abbrev pub HasNoFeed : List ℕ → Type 0
HasNoFeed [] = Unit {0}
HasNoFeed (x ∷ xs) = (x == line_feed ≡ false) × HasNoFeed xs

-- They have the same front, and so are the same command, whatever follows.
abbrev pub StandsFor : List ℕ → List ℕ → Type 0
StandsFor begun kept = take longest_kept kept ≡ take longest_kept begun

-- Of what was read since start, the finished lines are answered, which are so many and by which this is written, and
-- what is kept stands for the line that has begun.
pub record Progress {S : Type 0} (facts : S → StoreFacts) (manner : ScriptOptions) (start : Holding S)
    (read written : List ℕ)
    (now : Holding S) (kept : List ℕ) (count : ℕ) : Type 0 where
  pub answered : List (List ℕ)
  pub begun : List ℕ
  pub in_lines : (more : List ℕ) → lines (read ++ more) ≡ answered ++ lines (begun ++ more)
  pub in_finished : (more : List ℕ) → finished_lines (read ++ more) ≡ answered ++ finished_lines (begun ++ more)
  pub unfinished : HasNoFeed begun
  pub stands : StandsFor begun kept
  pub run : AnswersLines facts manner start answered written now
  pub counted : count ≡ length answered

-- what the caller holds, and what is kept of the script
pub record Moment (S : Type 0) : Type 0 where
  pub holding : Holding S
  pub kept : Answering

abbrev pub moment : {S : Type 0} → Holding S → Answering → Moment S
moment holding kept = record { holding = holding; kept = kept }

-- the same, after replies that were sent before
abbrev pub ProgressOf : {S : Type 0} → (S → StoreFacts) → ScriptOptions → Holding S → List ℕ → List ℕ → Moment S
    → Type 0
ProgressOf facts manner start read sent now =
    Progress facts manner start read (sent ++ now.kept.replies.items) now.holding now.kept.begun.items now.kept.ended

-- From one moment the run comes to another by these bytes.
abbrev pub MovesTo : {S : Type 0} → (S → StoreFacts) → ScriptOptions → Moment S → List ℕ → Moment S → Type 0
MovesTo {S} facts manner old bytes new =
    (start : Holding S) (read sent : List ℕ) → ProgressOf facts manner start read sent old
    → ProgressOf facts manner start (read ++ bytes) sent new

-- In these bytes the run stopped, and what it wrote is right so far.
abbrev pub StopsIn : {S : Type 0} → RunFault → (S → StoreFacts) → ScriptOptions → Moment S → List ℕ → Moment S → Type 0
StopsIn {S} fault facts manner old bytes new =
    (start : Holding S) (read sent : List ℕ) → ProgressOf facts manner start read sent old
    → StopsBy fault facts manner start (read ++ bytes) (sent ++ new.kept.replies.items) new.holding

-- Behind all that was read the run answered the last line too.
abbrev pub Ends : {S : Type 0} → (S → StoreFacts) → ScriptOptions → Moment S → Moment S → Type 0
Ends {S} facts manner old new =
    (start : Holding S) (read sent : List ℕ) → ProgressOf facts manner start read sent old
    → AnswersLines facts manner start (lines read) (sent ++ new.kept.replies.items) new.holding

-- In the last line, which no line feed ends, the run stopped.
abbrev pub StopsAtEnd : {S : Type 0} → RunFault → (S → StoreFacts) → ScriptOptions → Moment S → Moment S → Type 0
StopsAtEnd {S} fault facts manner old new =
    (start : Holding S) (read sent : List ℕ) → ProgressOf facts manner start read sent old
    → (0 < length read) × StopsBy fault facts manner start read (sent ++ new.kept.replies.items) new.holding

-- The run goes over these bytes, and writes their replies.
pub record AnswersPiece {S : Type 0} (facts : S → StoreFacts) (manner : ScriptOptions) (old : Moment S) (bytes : List ℕ)
    (new : Moment S) (before after : Option (List ℕ)) : Type 0 where
  pub written : List ℕ
  pub appended : Appends before after written
  pub goes : (start : Holding S) (read sent : List ℕ) → ProgressOf facts manner start read sent old
      → ProgressOf facts manner start (read ++ bytes) (sent ++ written) new

-- The run stopped in these bytes, and wrote its replies.
pub record StopsPiece {S : Type 0} (fault : RunFault) (facts : S → StoreFacts) (manner : ScriptOptions) (old : Moment S)
    (bytes : List ℕ) (new : Holding S) (before after : Option (List ℕ)) : Type 0 where
  pub written : List ℕ
  pub appended : Appends before after written
  pub stops : (start : Holding S) (read sent : List ℕ) → ProgressOf facts manner start read sent old
      → StopsBy fault facts manner start (read ++ bytes) (sent ++ written) new

-- The run answered the last line too, and wrote its replies.
pub record AnswersRest {S : Type 0} (facts : S → StoreFacts) (manner : ScriptOptions) (old : Moment S) (new : Holding S)
    (before after : Option (List ℕ)) : Type 0 where
  pub written : List ℕ
  pub appended : Appends before after written
  pub answered : (start : Holding S) (read sent : List ℕ) → ProgressOf facts manner start read sent old
      → AnswersLines facts manner start (lines read) (sent ++ written) new

-- The run stopped at the last line, which no line feed ends, and wrote the replies to those before.
pub record StopsRest {S : Type 0} (fault : RunFault) (facts : S → StoreFacts) (manner : ScriptOptions) (old : Moment S)
    (new : Holding S) (before after : Option (List ℕ)) : Type 0 where
  pub written : List ℕ
  pub appended : Appends before after written
  pub stops : (start : Holding S) (read sent : List ℕ) → ProgressOf facts manner start read sent old
      → (0 < length read) × StopsBy fault facts manner start read (sent ++ written) new

-- The writer failed behind these bytes or in a line of them.
abbrev pub Unsent : {S : Type 0} → (S → StoreFacts) → ScriptOptions → Moment S → List ℕ → Holding S → Type 0
Unsent {S} facts manner old bytes new =
    (start : Holding S) (read sent : List ℕ) → ProgressOf facts manner start read sent old
    → (replies : List ℕ) × StoppedWith facts manner start (lines (read ++ bytes)) replies new

-- In these bytes the writer failed, or the run stopped and wrote its replies.
abbrev pub PieceFails : {S : Type 0} → RunFault → (S → StoreFacts) → ScriptOptions → Moment S → List ℕ → Holding S
    → Option (List ℕ) → Option (List ℕ) → Type 0
PieceFails fault facts manner old bytes new before after =
    ((fault ≡ faults.Write) × Unsent facts manner old bytes new)
    ⊎ StopsPiece fault facts manner old bytes new before after

-- At the last line the writer failed, or the run stopped and wrote its replies.
abbrev pub RestFails : {S : Type 0} → RunFault → (S → StoreFacts) → ScriptOptions → Moment S → Holding S
    → Option (List ℕ)
    → Option (List ℕ) → Type 0
RestFails fault facts manner old new before after =
    ((fault ≡ faults.Write) × Unsent facts manner old [] new) ⊎ StopsRest fault facts manner old new before after
