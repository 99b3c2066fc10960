-- Steps as they lie in the log: short ones, each of a change of a run of bytes, and whole ones.
use Rattle.std.specs.Prelude.{◌≡◌, ◌==◌, ◌<◌, ◌^◌, ◌∷◌, ℕ, Bool, true, false, List, [], if◌then◌else◌, drop, length, map, take, refl}
use Rattle.std.specs.Coded.{Coded, code_by, coded×, coded_bool, coded_list}
use Rattle.chunk_edits.specs.Splicing.{Splice}
use Rattle.packed_log.specs.Records.{PackedLog, Record, Short, Whole}
use Rattle.vm_blocks.specs.ByteChanges.{byte_change}
use Rattle.vm_blocks.specs.declared.change.Change.{Change}
use Rattle.vm_blocks.specs.declared.change.Change.TheVariants as changes
use Rattle.vm_blocks.specs.declared.change.PartChange.{PartChange}
use Rattle.vm_blocks.specs.declared.change.PartChange.TheVariants as parts
use Rattle.undo_log.specs.Entries.{NamedEntry, One, log_entries, named_entry_code, unnamed}
use Rattle.undo_log.specs.Joining.{joined}
use Rattle.undo_log.specs.Logging.{turned_over}
use Rattle.undo_log.specs.Telling.{next_changes, told}
use Rattle.undo_log.specs.declared.head.Head.{Head}
use Rattle.undo_log.specs.declared.step.Step.{Step}
use Rattle.undo_log.specs.declared.step.Step.TheVariants as step
use Rattle.undo_log.specs.declared.touched.Touched.{Touched}

-- The change that a head stands for, with the bytes behind it: those that go, and behind them those that come in.
abbrev pub short_splice : Head → List ℕ → Splice
short_splice head bytes = record { at = head.at; old = take head.cut bytes; new = drop head.cut bytes }

-- of a raw body where the chunk is 0
abbrev pub short_part : Head → List ℕ → PartChange
short_part head bytes =
    if head.chunk.0 == 0 then parts.Raw (short_splice head bytes) else parts.Chunk head.chunk (short_splice head bytes)

abbrev pub short_change : Head → List ℕ → Change
short_change head bytes = changes.Part head.block (short_part head bytes)

-- the entry that a step is
abbrev pub entry_of : Record Head NamedEntry → NamedEntry
entry_of (Short head bytes) = unnamed (One (short_change head bytes))
entry_of (Whole entry) = entry

abbrev pub entries_of : List (Record Head NamedEntry) → List NamedEntry
entries_of rs = map entry_of rs

-- so of one that is lent
abbrev pub step_entry : Step → NamedEntry
step_entry (step.Bytes change) = unnamed (One (byte_change change))
step_entry (step.Entry entry) = entry.now

-- Whether its bytes can be counted, as a place counts them.
abbrev pub IsCounted : Step → Type 0
IsCounted (step.Bytes change) = (length change.old.now < 2 ^ 32) × (length change.new.now < 2 ^ 32)
IsCounted (step.Entry entry) = Unit {0}

-- The steps that can be undone, the newest first, and those that can be made again, the next first; and whether there
-- is a place for one more, to which those that can be made again give way.
pub record Steps : Type 0 where
  pub undo : List NamedEntry
  pub redo : List NamedEntry
  pub place : Bool

abbrev pub steps_code : Coded Steps
steps_code =
    code_by (List NamedEntry × (List NamedEntry × Bool))
    (coded× (coded_list named_entry_code) (coded× (coded_list named_entry_code) coded_bool))
    (λ s. (s.undo, (s.redo, s.place))) (λ p. record { undo = p.0; redo = p.1.0; place = p.1.1 }) (λ _. refl)

abbrev pub steps_of : PackedLog Head NamedEntry → Steps
steps_of l = record { undo = entries_of l.before; redo = entries_of l.behind; place = l.place }

-- the first of some entries becomes another
abbrev pub with_first : (NamedEntry → NamedEntry) → List NamedEntry → List NamedEntry
with_first other [] = []
with_first other (e ∷ es) = other e ∷ es

-- a step that is lent is the first of these
pub record IsFirst (s : Step) (es : List NamedEntry) : Type 0 where
  pub others : List NamedEntry
  pub are : es ≡ step_entry s ∷ others
  pub counted : IsCounted s

-- The first entry of a list is turned over, and is the first of the other.
pub record TurnsOver (from to from' to' : List NamedEntry) : Type 0 where
  pub entry : NamedEntry
  pub was : from ≡ entry ∷ from'
  pub is : to' ≡ turned_over entry ∷ to

-- The newest step and the next one, which is whole, are one in the place of the first; some whole one is in the place
-- of the second.
pub record JoinsAcross (old new : PackedLog Head NamedEntry) : Type 0 where
  pub older : NamedEntry
  pub newer : NamedEntry
  pub empty : NamedEntry
  pub others : List NamedEntry
  pub rest : List (Record Head NamedEntry)
  pub was : entries_of old.before ≡ older ∷ others
  pub next : old.behind ≡ Whole newer ∷ rest
  pub is : entries_of new.before ≡ joined newer older ∷ others
  pub left : new.behind ≡ Whole empty ∷ rest

-- the same entries, as they are seen
pub record StaysSame (old new : PackedLog Head NamedEntry) : Type 0 where
  pub before : entries_of new.before ≡ entries_of old.before
  pub behind : new.behind ≡ old.behind

-- What is told keeps the newest step, which is about to be forgotten, where it may be told of: nothing else is told.
-- Otherwise nothing changes.
pub record KeepsNewest (is_told : Bool) (last last' : Touched) (old new : Steps) : Type 0 where
  pub redo : new.redo ≡ old.redo
  pub place : new.place ≡ old.place
  pub other : is_told ≡ false → (last' ≡ last) × (new ≡ old)
  pub tells : is_told ≡ true → (next : List Change)
      → told last' [] next ≡ told last (next_changes (log_entries old.undo)) next
