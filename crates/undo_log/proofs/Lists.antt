-- Lists of a log after a step, and how many steps they are.
use Rattle.std.proofs.Common.{◌≡◌, ℕ, zero, suc, List, [], ◌∷◌, ◌++◌, length, reverse, take, Option, Some, None, refl, sym, ap, ◌∙◌}
use Rattle.std.proofs.lemmas.List.{append_assoc, append-nil, reverse-append}
use Rattle.geos_model.specs.Document.{Document}
use Rattle.geos_model.specs.Machine.{UndoStep, limited}
use Rattle.vm_blocks.specs.declared.change.Change.{Change}
use Rattle.chunk_edits.specs.declared.direction.Direction.{Direction}
use Rattle.undo_log.specs.Logging.{after_entry, all_changes, changes_in, entry_step, entry_steps}
use Rattle.undo_log.specs.Entries.{LogEntry}
use Rattle.undo_log.specs.Entries as entries

-- the last one of a list is the newest
pub newest_first : {A : Type 0} (from from' : List A) (e : A) → from ≡ from' ++ e ∷ [] → reverse from ≡ e ∷ reverse from'
newest_first from from' e is = ap reverse is ∙ reverse-append from' (e ∷ [])

-- the first of a list goes before the others of another
pub reverse_onto : {A : Type 0} (e : A) (es to : List A) → reverse (e ∷ es) ++ to ≡ reverse es ++ (e ∷ to)
reverse_onto e es to = ap (λ (xs : List _). xs ++ to) (reverse-append (e ∷ []) es) ∙ append_assoc (reverse es) (e ∷ []) to

pub length-steps : (direction : Direction) (es : List LogEntry) (d : Document) → length (entry_steps direction es d) ≡ length es
length-steps direction [] d = refl
length-steps direction (e ∷ es) d = ap suc (length-steps direction es (after_entry direction e d))

-- What is kept of steps, are the steps of what is kept.

taken_steps : (direction : Direction) (n : ℕ) (es : List LogEntry) (d : Document) → entry_steps direction (take n es) d ≡ take n (entry_steps direction es d)
taken_steps direction zero es d = refl
taken_steps direction (suc n) [] d = refl
taken_steps direction (suc n) (e ∷ es) d = ap (λ (ss : List UndoStep). entry_step direction e d ∷ ss) (taken_steps direction n es (after_entry direction e d))

pub kept_steps : (direction : Direction) (limit : Option ℕ) (es : List LogEntry) (d : Document) → entry_steps direction (limited limit es) d ≡ limited limit (entry_steps direction es d)
kept_steps direction None es d = refl
kept_steps direction (Some most) es d = taken_steps direction most es d

-- The changes of entries one after another.

pub first_changes : (e : LogEntry) (es : List LogEntry) → all_changes (e ∷ es) ≡ changes_in e ++ all_changes es
first_changes (entries.One c) es = refl
first_changes (entries.Group cs) es = refl

-- those of entries that are kept are the first ones
pub record AreFirst (es kept : List LogEntry) : Type 0 where
  pub others : List Change
  pub are : all_changes es ≡ all_changes kept ++ others

taken_first : (n : ℕ) (es : List LogEntry) → AreFirst es (take n es)
taken_first zero es = record { others = all_changes es; are = refl }
taken_first (suc n) [] = record { others = []; are = refl }
taken_first (suc n) (e ∷ es) =
    let rest = taken_first n es in
    record {
      others = rest.others;
      are = first_changes e es ∙ ap (λ (cs : List Change). changes_in e ++ cs) rest.are ∙ sym (append_assoc (changes_in e) (all_changes (take n es)) rest.others)
          ∙ ap (λ (cs : List Change). cs ++ rest.others) (sym (first_changes e (take n es)));
    }

pub kept_first : (limit : Option ℕ) (es : List LogEntry) → AreFirst es (limited limit es)
kept_first None es = record { others = []; are = sym (append-nil (all_changes es)) }
kept_first (Some most) es = taken_first most es
