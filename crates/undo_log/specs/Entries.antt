-- What a log keeps of a step: its changes, and its name.
use Rattle.std.specs.Prelude.{◌≡◌, ℕ, List, [], map, Option, Some, None, refl}
use Rattle.std.specs.Coded.{Coded, code_by, coded×, coded_list, coded_option, coded_ℕ}
use Rattle.vm_blocks.specs.declared.change.Change.{Change}
use Rattle.vm_blocks.specs.contracts.change.Change as change_type

-- the change of one edit, or those of a group of edits or of an edit of a large array, the one that is made next first
pub data LogEntry : Type 0 where
  One : (change : Change) → LogEntry
  Group : (changes : List Change) → LogEntry

pub record NamedEntry : Type 0 where
  pub entry : LogEntry
  pub name : List ℕ  -- [] where the step has none

abbrev pub unnamed : LogEntry → NamedEntry
unnamed e = record { entry = e; name = [] }

abbrev pub log_entries : List NamedEntry → List LogEntry
log_entries es = map (λ e. e.entry) es

abbrev pub entry_names : List NamedEntry → List (List ℕ)
entry_names es = map (λ e. e.name) es

-- by whether it is of one edit, and by its changes
abbrev pub entry_code : Coded LogEntry
entry_code =
    code_by (Option Change × List Change)
    (coded× (coded_option change_type.the_row.coded) (coded_list change_type.the_row.coded)) key made is
  where
    key : LogEntry → Option Change × List Change
    key (One c) = (Some c, [])
    key (Group cs) = (None, cs)

    made : Option Change × List Change → LogEntry
    made (Some c, cs) = One c
    made (None, cs) = Group cs

    is : (e : LogEntry) → made (key e) ≡ e
    is (One c) = refl
    is (Group cs) = refl

abbrev pub named_entry_code : Coded NamedEntry
named_entry_code =
    code_by (LogEntry × List ℕ) (coded× entry_code (coded_list coded_ℕ)) (λ e. (e.entry, e.name))
    (λ p. record { entry = p.0; name = p.1 }) (λ _. refl)
