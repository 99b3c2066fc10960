-- What a run reads and writes, and what it makes of what its caller holds. Where a reader or a writer tells its bytes,
-- it is they.
use Rattle.std.specs.Prelude.{◌≡◌, ◌⊎◌, ℕ, ◌+◌, ◌<◌, ◌≤◌, ◌++◌, ◌&&◌, false, filter, min, map, IsTrue, List, [], ◌∷◌, length, Option, None, Result, MatchResult}
use Rattle.std.specs.List.{list_any}
use Rattle.std.specs.Io.KnownBytes.{Appends, Consumes, IsAtEnd}
use Rattle.geos_model.specs.Machine.{Call, Request, Run, failed_calls}
use Rattle.geos_model.specs.Reply.{Reply, Refused}
use Rattle.geos_model.specs.Script.{command, gets_reply, lines, finished_lines, reply_line, requests, Answered}
use Rattle.geos_model.specs.declared.fault.Fault.{Fault}
use Rattle.vm_store.specs.Facts.{StoreFacts, last_count}
use Rattle.geos_replies.specs.Holdings.{AnswersCalls, AnswersRequest, Holding, AreExact, MayServe, Serving, machine}
use Rattle.geos_shell.specs.Manners.{lead, written_of}
use Rattle.geos_replies.specs.Holdings.{is_refusal}
use Rattle.geos_shell.specs.declared.runner.ScriptOptions.{ScriptOptions}
use Rattle.geos_shell.specs.declared.runner.RunFault.{RunFault}
use Rattle.geos_shell.specs.declared.runner.RunFault.TheVariants as faults

-- Where there is no target to begin with there never is one, and the store failed in no more calls than its count of
-- failures rose by, up to the count's last value.
abbrev pub CountsFailures : {S : Type 0} → (S → StoreFacts) → Holding S → ℕ → Holding S → Type 0
CountsFailures facts old failed new =
    old.target ≡ None
    → (new.target ≡ None)
    × (min ((facts old.session.disk.store).failures + failed) last_count ≤ (facts new.session.disk.store).failures)

-- Where no call failed, the pairs of a failed commit that may be read are those from before, or there is none any more.
abbrev pub AddsNoPair : {S : Type 0} → Holding S → ℕ → Holding S → Type 0
AddsNoPair old failed new =
    failed ≡ 0 → (new.session.disk.in_doubt ≡ old.session.disk.in_doubt) ⊎ (new.session.disk.in_doubt ≡ [])

-- What is known of the stores after calls of which so many failed.
pub record AfterFailures {S : Type 0} (facts : S → StoreFacts) (old : Holding S) (failed : ℕ) (new : Holding S)
    : Type 0 where
  pub counted : CountsFailures facts old failed new
  pub adds : AddsNoPair old failed new

-- From one holding to another the requests are answered so: together a run of the machine, and call by call served.
-- What the calls show together of the stores is said beside.
pub record AnswersOf {S : Type 0} (facts : S → StoreFacts) (old : Holding S) (asked : List Request) (written : List ℕ)
    (new : Holding S) : Type 0 where
  pub exact : AreExact facts new
  pub failed : ℕ
  pub answered : Answered (machine old) asked written failed (machine new)
  pub serving : Serving facts old answered.calls new
  pub stores : AfterFailures facts old failed new

-- What calls come to that are served one after another: together a run of the machine.
pub record ServesCalls {S : Type 0} (facts : S → StoreFacts) (old : Holding S) (calls : List Call) (new : Holding S)
    : Type 0 where
  pub exact : AreExact facts new
  pub run : Run (machine old) calls (machine new)
  pub serving : Serving facts old calls new
  pub stores : AfterFailures facts old (failed_calls calls) new

-- the replies, in order
abbrev pub replies_of : List Call → List Reply
replies_of calls = map (λ c. c.reply) calls

-- These lines are answered so in this manner, over any store call by call: what is written is the replies, or the lines
-- with their replies, and a run that bails went on behind no refusal. Where all is exact the calls are served.
pub record AnswersLines {S : Type 0} (facts : S → StoreFacts) (manner : ScriptOptions) (old : Holding S)
    (asked : List (List ℕ)) (written : List ℕ) (new : Holding S) : Type 0 where
  pub calls : List Call
  pub asks : map (λ c. c.request) calls ≡ filter gets_reply (requests asked)
  pub answers : AnswersCalls facts old calls new
  pub text : written ≡ written_of manner.echoes asked (replies_of calls)
  pub goes_on : (manner.bails && list_any is_refusal (replies_of calls)) ≡ false
  pub serves : AreExact facts old → ServesCalls facts old calls new

-- A script was read to its end, each line of it is answered, and nothing else is written.
pub record AnswersAll {S : Type 0} (facts : S → StoreFacts) (manner : ScriptOptions) (old : Holding S)
    (from to before after : Option (List ℕ)) (new : Holding S) : Type 0 where
  pub script : List ℕ
  pub consumed : Consumes from to script
  pub ended : IsAtEnd to
  pub written : List ℕ
  pub answered : AnswersLines facts manner old (lines script) written new
  pub appended : Appends before after written

-- Each line of what was read that a line feed ends is answered, and nothing else is written.
pub record AnswersFinished {S : Type 0} (facts : S → StoreFacts) (manner : ScriptOptions) (old : Holding S)
    (from to before after : Option (List ℕ)) (new : Holding S) : Type 0 where
  pub read : List ℕ
  pub consumed : Consumes from to read
  pub written : List ℕ
  pub answered : AnswersLines facts manner old (finished_lines read) written new
  pub appended : Appends before after written

-- these are the first ones
abbrev pub AreFirst : List (List ℕ) → List (List ℕ) → Type 0
AreFirst first lines = (others : List (List ℕ)) × (lines ≡ first ++ others)

-- the next one of these lines may be answered, without its reply
abbrev pub MayServeNext : {S : Type 0} → (S → StoreFacts) → Holding S → List (List ℕ) → Holding S → Type 0
MayServeNext facts old [] new = new ≡ old
MayServeNext facts old (line ∷ lines) new = MayServe facts old (command line) new

-- The first ones of the lines are answered, and of the others at most the next is, of which nothing is written.
pub record StoppedWith {S : Type 0} (facts : S → StoreFacts) (manner : ScriptOptions) (old : Holding S)
    (lines : List (List ℕ)) (written : List ℕ) (new : Holding S) : Type 0 where
  pub answered : List (List ℕ)
  pub others : List (List ℕ)
  pub parts : lines ≡ answered ++ others
  pub mid : Holding S
  pub run : AnswersLines facts manner old answered written mid
  pub next : MayServeNext facts mid others new

-- The line is refused, and what is written of it is its reply, behind the line itself where lines are echoed.
pub record RefusesRequest {S : Type 0} (facts : S → StoreFacts) (manner : ScriptOptions) (old : Holding S)
    (line : List ℕ)
    (written : List ℕ) (new : Holding S) : Type 0 where
  pub fault : Fault
  pub answers : AnswersRequest facts old (command line) (Refused fault) new
  pub text : written ≡ lead manner.echoes line ++ reply_line (Refused fault)

-- The first ones of the lines are answered, none of them by a refusal, and the next is refused, whose reply is written
-- too. Its number counts all lines up to it, also those that get no reply. Those behind it are not looked at.
pub record StoppedByRefusal {S : Type 0} (facts : S → StoreFacts) (manner : ScriptOptions) (old : Holding S)
    (lines : List (List ℕ)) (number : ℕ) (written : List ℕ) (new : Holding S) : Type 0 where
  pub answered : List (List ℕ)
  pub line : List ℕ
  pub others : List (List ℕ)
  pub parts : lines ≡ answered ++ line ∷ others
  pub numbered : number ≡ length answered + 1
  pub mid : Holding S
  pub before : List ℕ
  pub run : AnswersLines facts manner old answered before mid
  pub last : List ℕ
  pub refuses : RefusesRequest facts manner mid line last new
  pub text : written ≡ before ++ last

-- What was done where the run stopped in a line of what was read: for lack of memory all before was answered, of lines
-- that a line feed ends; by a refusal, which only a run does that bails, this line too, whose number it tells.
abbrev pub StopsBy : {S : Type 0} → RunFault → (S → StoreFacts) → ScriptOptions → Holding S → List ℕ → List ℕ
    → Holding S
    → Type 0
StopsBy faults.Memory facts manner old read written new =
    (stopped : StoppedWith facts manner old (lines read) written new) × AreFirst stopped.answered (finished_lines read)
StopsBy (faults.Refused number) facts manner old read written new =
    IsTrue manner.bails × StoppedByRefusal facts manner old (lines read) number written new
StopsBy fault facts manner old read written new = ⊥

-- Something was read, and the run stopped in a line of it. What is said to be written then is written, and nothing
-- else.
pub record AnswersSome {S : Type 0} (fault : RunFault) (facts : S → StoreFacts) (manner : ScriptOptions)
    (old : Holding S)
    (from to before after : Option (List ℕ)) (new : Holding S) : Type 0 where
  pub read : List ℕ
  pub some : 0 < length read
  pub consumed : Consumes from to read
  pub written : List ℕ
  pub stopped : StopsBy fault facts manner old read written new
  pub appended : Appends before after written

-- The run stopped in a line of what was read or behind all, and how much is written isn't said.
pub record AnswersUnsent {S : Type 0} (facts : S → StoreFacts) (manner : ScriptOptions) (old : Holding S)
    (from to : Option (List ℕ)) (new : Holding S) : Type 0 where
  pub read : List ℕ
  pub consumed : Consumes from to read
  pub replies : List ℕ
  pub stopped : StoppedWith facts manner old (lines read) replies new

-- what a run has done that ends by this fault
abbrev pub EndsBy : {S : Type 0} → RunFault → (S → StoreFacts) → ScriptOptions → Holding S → Option (List ℕ)
    → Option (List ℕ)
    → Option (List ℕ) → Option (List ℕ) → Holding S → Type 0
EndsBy faults.Read facts manner old from to before after new = AnswersFinished facts manner old from to before after new
EndsBy faults.Write facts manner old from to before after new = AnswersUnsent facts manner old from to new
EndsBy fault facts manner old from to before after new = AnswersSome fault facts manner old from to before after new

-- what a run has done that ends with this result
abbrev pub RunsTo : {S : Type 0} → Result (Unit {0}) RunFault → (S → StoreFacts) → ScriptOptions → Holding S
    → Option (List ℕ)
    → Option (List ℕ) → Option (List ℕ) → Option (List ℕ) → Holding S → Type 0
RunsTo result facts manner old from to before after new =
    MatchResult result (λ _. AnswersAll facts manner old from to before after new)
    (λ fault. EndsBy fault facts manner old from to before after new)
