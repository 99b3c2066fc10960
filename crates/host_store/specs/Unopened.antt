-- A file that wasn't opened: what is kept, and what is told of it.
use Rattle.std.specs.Prelude.{◌≡◌, ℕ, List, ◌++◌, codes, Option, None, Some, string_bytes, ⊤}
use Rattle.vm_store.specs.Causes.{cause_text}
use Rattle.vm_store.specs.declared.cause.Cause.{Cause}
use Rattle.host_store.specs.declared.named_files.Unopened.{Unopened}

-- its name and the cause
abbrev pub unopened_text : Unopened → List ℕ
unopened_text unopened = string_bytes unopened.name ++ codes ": " ++ cause_text unopened.cause

-- the file of this name is kept, which wasn't opened for this cause, or there was no memory for the name
abbrev pub IsKept : List ℕ → Cause → Option Unopened → Type 0
IsKept name cause None = ⊤
IsKept name cause (Some unopened) = (string_bytes unopened.name ≡ name) × (unopened.cause ≡ cause)
