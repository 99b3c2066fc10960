-- What stands against what is asked of a file, and the line that tells it.
use Rattle.std.specs.Prelude.{ℕ, List, ◌++◌, codes}
use Rattle.geos_model.specs.Refusal.{name_of_fault}
use Rattle.document_tools.specs.declared.obstacle.Cause.{Cause}
use Rattle.document_tools.specs.declared.obstacle.Cause.TheVariants as causes
use Rattle.document_tools.specs.declared.obstacle.MakeFault.{MakeFault}
use Rattle.document_tools.specs.declared.obstacle.MakeFault.TheVariants as make_faults
use Rattle.document_tools.specs.declared.obstacle.Obstacle.{Obstacle}
use Rattle.document_tools.specs.declared.obstacle.Obstacle.TheVariants as obstacles

abbrev pub cause_words : Cause → List ℕ
cause_words causes.Missing = codes "no such file"
cause_words causes.Forbidden = codes "permission denied"
cause_words causes.NoFile = codes "not a regular file"
cause_words causes.InUse = codes "in use by another program"
cause_words causes.Failed = codes "it can't be read"

abbrev pub make_fault_text : MakeFault → List ℕ
make_fault_text make_faults.Present = codes "it is there already"
make_fault_text make_faults.NoFolder = codes "no such folder"
make_fault_text make_faults.Forbidden = codes "permission denied"
make_fault_text make_faults.Failed = codes "it can't be made"

abbrev pub obstacle_text : Obstacle → List ℕ
obstacle_text (obstacles.Unviewed cause) = cause_words cause
obstacle_text obstacles.Unread = codes "it can't be read"
obstacle_text obstacles.Changed = codes "a block of it has other bytes than when it was opened"
obstacle_text (obstacles.Unopened fault) = codes "it doesn't open, " ++ name_of_fault fault
obstacle_text (obstacles.NoOther fault) = codes "the other slot doesn't open, " ++ name_of_fault fault
obstacle_text obstacles.Unsalvaged = codes "no directory of it can be read"
obstacle_text (obstacles.Unmade fault) = make_fault_text fault

-- of which file it is told, and why
abbrev pub refusal_line : List ℕ → Obstacle → List ℕ
refusal_line file obstacle = codes "geosdoc: " ++ file ++ codes ": " ++ obstacle_text obstacle ++ codes "\n"
