-- A change that was carried out can be carried out the other way round, and documents stay valid along the log.
use Rattle.std.proofs.Common.{◌≡◌, List, [], ◌∷◌, ◌++◌, reverse, refl, sym, ap, subst, ◌∙◌}
use Rattle.std.proofs.lemmas.List.{append-nil, reverse-append}
use Rattle.geos_model.specs.Document.{Document, IsValid}
use Rattle.geos_model.proofs.ValidSteps.{AreValid, valid-push, valid-none}
use Rattle.vm_blocks.specs.Changes.{after_change, reversed, directed, after_directed, CanApply}
use Rattle.vm_blocks.specs.declared.change.Change.{Change}
use Rattle.chunk_edits.specs.declared.direction.Direction.{Direction}
use Rattle.chunk_edits.specs.declared.direction.Direction.TheVariants.{Forwards, Backwards}
use Rattle.vm_blocks.proofs.ChangeLaws.{change_back, flip_twice}
use Rattle.undo_log.specs.Logging.{Log, after_all, after_entry, all_changes, before, open_changes, entry_step, entry_steps, to_redo, to_undo, reversed_entry}
use Rattle.undo_log.specs.Sessions.{opposite, CanApplyAllDirected, AreSteps}
use Rattle.undo_log.specs.Entries.{LogEntry}
use Rattle.undo_log.specs.Entries as entries
use Rattle.undo_log.proofs.Lists.{reverse_onto}

-- what holds of a change that was carried out
pub record IsBack (direction : Direction) (c : Change) (d : Document) : Type 0 where
  pub valid : IsValid (after_directed direction c d)
  pub applies : CanApply (directed (opposite direction) c) (after_directed direction c d)
  pub gives : after_directed (opposite direction) c (after_directed direction c d) ≡ d

pub goes_back : (direction : Direction) (c : Change) (d : Document) → IsValid d → CanApply (directed direction c) d → IsBack direction c d
goes_back Forwards c d valid applies = let law = change_back c d valid applies in record { valid = law.0; applies = law.1; gives = law.2 }
goes_back Backwards c d valid applies =
    let law = change_back (reversed c) d valid applies in
    record {
      valid = law.0;
      applies = subst (λ (x : Change). CanApply x (after_change (reversed c) d)) (flip_twice c) law.1;
      gives = ap (λ (x : Change). after_change x (after_change (reversed c) d)) (sym (flip_twice c)) ∙ law.2;
    }

-- Changes one after another.

pub after_all-append : (direction : Direction) (cs others : List Change) (d : Document) → after_all direction (cs ++ others) d ≡ after_all direction others (after_all direction cs d)
after_all-append direction [] others d = refl
after_all-append direction (c ∷ cs) others d = after_all-append direction cs others (after_directed direction c d)

-- what can be taken of the first ones, and of those behind them
pub can_split : (direction : Direction) (cs others : List Change) (d : Document) → CanApplyAllDirected direction (cs ++ others) d → CanApplyAllDirected direction cs d × CanApplyAllDirected direction others (after_all direction cs d)
can_split direction [] others d can = (tt, can)
can_split direction (c ∷ cs) others d can = let rest = can_split direction cs others (after_directed direction c d) can.1 in ((can.0, rest.0), rest.1)

-- changes that were carried out, the other way round, the last one first
pub record AreBack (direction : Direction) (cs : List Change) (d : Document) : Type 0 where
  pub valid : IsValid (after_all direction cs d)
  pub gives : after_all (opposite direction) (reverse cs) (after_all direction cs d) ≡ d

pub all_back : (direction : Direction) (cs : List Change) (d : Document) → IsValid d → CanApplyAllDirected direction cs d → AreBack direction cs d
all_back direction [] d valid can = record { valid = valid; gives = refl }
all_back direction (c ∷ cs) d valid can =
    let first = goes_back direction c d valid can.0 in
    let rest = all_back direction cs (after_directed direction c d) first.valid can.1 in
    let last = after_all direction cs (after_directed direction c d) in
    record {
      valid = rest.valid;
      gives = ap (λ (xs : List Change). after_all (opposite direction) xs last) (reverse-append (c ∷ []) cs)
          ∙ after_all-append (opposite direction) (reverse cs) (c ∷ []) last
          ∙ ap (λ (x : Document). after_directed (opposite direction) c x) rest.gives
          ∙ first.gives;
    }

-- each document along the entries is valid
steps-valid : (direction : Direction) (es : List LogEntry) (d : Document) → IsValid d → CanApplyAllDirected direction (all_changes es) d → AreValid (entry_steps direction es d)
steps-valid direction [] d valid can = valid-none
steps-valid direction (entries.One c ∷ es) d valid can =
    let back = goes_back direction c d valid can.0 in
    valid-push (entry_step direction (entries.One c) d) (entry_steps direction es (after_directed direction c d)) back.valid (steps-valid direction es (after_directed direction c d) back.valid can.1)
steps-valid direction (entries.Group cs ∷ es) d valid can =
    let parts = can_split direction cs (all_changes es) d can in
    let back = all_back direction cs d valid parts.0 in
    valid-push (entry_step direction (entries.Group cs) d) (entry_steps direction es (after_all direction cs d)) back.valid (steps-valid direction es (after_all direction cs d) back.valid parts.1)

-- The steps of a log: the group that is open, and then those of its lists.
module _ (d : Document) (log : Log) (are : AreSteps Backwards d (to_undo log) (to_redo log)) where
  open_parts : CanApplyAllDirected Backwards (open_changes log.group) d × CanApplyAllDirected Backwards (all_changes log.undo) (before log.group d)
  open_parts = can_split Backwards (open_changes log.group) (all_changes log.undo) d are.first

  pub before-valid : IsValid (before log.group d)
  before-valid = (all_back Backwards (open_changes log.group) d are.valid open_parts.0).valid

  pub past-valid : AreValid (entry_steps Backwards log.undo (before log.group d))
  past-valid = steps-valid Backwards log.undo (before log.group d) before-valid open_parts.1

  pub future-valid : AreValid (entry_steps Forwards log.redo d)
  future-valid = steps-valid Forwards log.redo d are.valid are.second

-- an edit puts its change before the others, and nothing is left to redo
pub edited_steps : (d : Document) (undo redo : List Change) (c : Change) → AreSteps Backwards d undo redo → CanApply c d → AreSteps Backwards (after_change c d) (c ∷ undo) []
edited_steps d undo redo c are applies =
    let back = goes_back Forwards c d are.valid applies in
    record {
      valid = back.valid;
      first = (back.applies, subst (CanApplyAllDirected Backwards undo) (sym back.gives) are.first);
      second = tt;
    }

-- the newest change of one list is carried out, and is the newest of the other
pub moved_steps : (direction : Direction) (d : Document) (from to : List Change) (c : Change) → AreSteps direction d (c ∷ from) to → AreSteps direction (after_directed direction c d) from (c ∷ to)
moved_steps direction d from to c are =
    let back = goes_back direction c d are.valid are.first.0 in
    record {
      valid = back.valid;
      first = are.first.1;
      second = (back.applies, subst (CanApplyAllDirected (opposite direction) to) (sym back.gives) are.second);
    }

-- the newest changes of one list are carried out, and are the newest of the other
pub moved_all : (direction : Direction) (d : Document) (cs from to : List Change) → AreSteps direction d (cs ++ from) to → AreSteps direction (after_all direction cs d) from (reverse cs ++ to)
moved_all direction d [] from to are = are
moved_all direction d (c ∷ cs) from to are =
    subst (λ (to' : List Change). AreSteps direction (after_all direction cs (after_directed direction c d)) from to') (sym (reverse_onto c cs to))
    (moved_all direction (after_directed direction c d) cs from (c ∷ to) (moved_steps direction d (cs ++ from) to c are))

-- changes go before the others, and nothing is left to redo
pub edited_all_steps : (d : Document) (undo redo cs : List Change) → AreSteps Backwards d undo redo → CanApplyAllDirected Forwards cs d → AreSteps Backwards (after_all Forwards cs d) (reverse cs ++ undo) []
edited_all_steps d undo redo cs are can =
    let first : CanApplyAllDirected Forwards (cs ++ []) d = subst (λ (xs : List Change). CanApplyAllDirected Forwards xs d) (sym (append-nil cs)) can in
    let moved : AreSteps Forwards (after_all Forwards cs d) [] (reverse cs ++ undo) = moved_all Forwards d cs [] undo (record { valid = are.valid; first = first; second = are.first }) in
    record { valid = moved.valid; first = moved.second; second = tt }

-- so it is of an entry
pub moved_entry : (direction : Direction) (d : Document) (e : LogEntry) (from to : List LogEntry) → AreSteps direction d (all_changes (e ∷ from)) (all_changes to)
    → AreSteps direction (after_entry direction e d) (all_changes from) (all_changes (reversed_entry e ∷ to))
moved_entry direction d (entries.One c) from to are = moved_steps direction d (all_changes from) (all_changes to) c are
moved_entry direction d (entries.Group cs) from to are = moved_all direction d cs (all_changes from) (all_changes to) are

-- and it can be taken back
pub entry_back : (direction : Direction) (d : Document) (e : LogEntry) (others : List LogEntry) → IsValid d → CanApplyAllDirected direction (all_changes (e ∷ others)) d
    → after_entry (opposite direction) (reversed_entry e) (after_entry direction e d) ≡ d
entry_back direction d (entries.One c) others valid can = (goes_back direction c d valid can.0).gives
entry_back direction d (entries.Group cs) others valid can = (all_back direction cs d valid (can_split direction cs (all_changes others) d can).0).gives
