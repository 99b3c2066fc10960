-- What a run writes of lines and of their replies, in each manner.
use Rattle.std.specs.Prelude.{ℕ, Bool, true, false, List, [], ◌∷◌, ◌++◌, codes, drop, nat_eq, take, if◌then◌else◌}
use Rattle.std.specs.List.{starts_with}
use Rattle.geos_model.specs.Reply.{Reply, Refused}
use Rattle.geos_model.specs.Script.{command, gets_reply, line_feed, output}
use Rattle.geos_shell.specs.declared.runner.ScriptOptions.{ScriptOptions}

-- the manner of a run that goes to its script's end and writes nothing but replies
abbrev pub plain : ScriptOptions
plain = record { bails = false; echoes = false }

-- how many bytes of a line are kept and echoed: more than a command has
unfoldable pub longest_kept : ℕ
longest_kept = 140001

-- what is written of a line before its reply
abbrev pub lead : Bool → List ℕ → List ℕ
lead false line = []
lead true line = take longest_kept line ++ line_feed ∷ []

-- how many replies a line gets
abbrev pub reply_count : List ℕ → ℕ
reply_count line = if gets_reply (command line) then 1 else 0

-- the lines, each before its reply, if it gets one
abbrev pub echoed : List (List ℕ) → List Reply → List ℕ
echoed [] replies = []
echoed (line ∷ lines) replies =
    lead true line ++ output (take (reply_count line) replies) ++ echoed lines (drop (reply_count line) replies)

-- what is written of lines and of the replies to those that get one
abbrev pub written_of : Bool → List (List ℕ) → List Reply → List ℕ
written_of false lines replies = output replies
written_of true lines replies = echoed lines replies

-- by which the line of a refusal is told from those of other replies
abbrev pub begins_with_no : List ℕ → Bool
begins_with_no line = starts_with nat_eq line (codes "no ")
