-- What the machine answers to an edit, to undo and to redo, and to what begins and ends a group.
use Rattle.std.proofs.Common.{◌≡◌, ◌+◌, ◌==◌, suc, true, false, not, length, List, [], ◌∷◌, ◌++◌, reverse, Option, Some, None, refl, sym, ap, subst, ◌∙◌, arith}
use Rattle.std.proofs.lemmas.Bool.{ne_eqb}
use Rattle.std.proofs.lemmas.List.Sums.{sum_by-append, sum_by-cons}
use Rattle.std.proofs.lemmas.List.Sorted.{sum_by-IsPermutation, IsPermutation-reverse}
use Rattle.geos_model.specs.Document.{Document}
use Rattle.geos_model.specs.Position.{position_in_group}
use Rattle.geos_model.specs.Reply.{Accepted, reply_of_done}
use Rattle.geos_model.specs.Machine as machine
use Rattle.geos_model.specs.Machine.{Machine, UndoStep, Answers, edit_needs, is_barred, joined_steps}
use Rattle.geos_model.proofs.FirstRefusals.{edit-passed}
use Rattle.geos_model.specs.declared.command.Done.{Done}
use Rattle.geos_model.specs.declared.command.Edit.{Edit}
use Rattle.geos_model.specs.declared.command.Command.TheVariants as commands
use Rattle.geos_model.specs.declared.command.Kind.TheVariants.{Group}
use Rattle.vm_blocks.specs.Changes.{after_change, reversed}
use Rattle.vm_blocks.specs.declared.change.Change.{Change}
use Rattle.chunk_edits.specs.declared.direction.Direction.{Direction}
use Rattle.chunk_edits.specs.declared.direction.Direction.TheVariants.{Forwards, Backwards}
use Rattle.doc_edits.specs.Planning.{Plans}
use Rattle.undo_log.specs.Logging.{AreExclusive, Log, abandoned_log, places_of_step, after_all, after_entry, all_changes, changes_cost, changes_in, closed_with, entry_cost, joined_entries, kind_of_entry, entry_step, entry_steps, reversed_entry, with_change, without_redo}
use Rattle.undo_log.specs.Sessions.{opposite, AreSteps}
use Rattle.undo_log.specs.Entries.{LogEntry}
use Rattle.undo_log.specs.Entries as entries
use Rattle.undo_log.specs.Turning.{step_command}
use Rattle.geos_model.specs.declared.place.Place.{Place}
use Rattle.vm_blocks.specs.ChangeCosts.{change_cost}
use Rattle.vm_blocks.specs.ChangePlaces.{change_places}
use Rattle.undo_log.specs.Telling.{all_places, made_places}
use Rattle.undo_log.proofs.Telling.{back-all, joined-made, places-one_more, told_of_step, turn-tells, turned-made}
use Rattle.undo_log.proofs.Directions.{log_by, names_turned, position_turned, turned}
use Rattle.undo_log.proofs.Keeping.{answers_on, machine_with}
use Rattle.undo_log.proofs.Lists.{kept_steps}
use Rattle.undo_log.proofs.Steps.{after_all-append, entry_back, goes_back}

-- a list of at least one isn't empty
pub some_steps : {A : Type 0} (s : A) (rest : List A) → (length (s ∷ rest) == 0) ≡ false
some_steps s rest = ne_eqb (suc (length rest)) 0 (λ e. cc e)

-- a log of these, otherwise as another one
abbrev pub log_of : Log → List LogEntry → List LogEntry → Option (List Change) → Log
log_of log undo redo group = record log { undo = undo; redo = redo; group = group }

module _ (m : Machine) (edit : Edit) (d : Document) (log : Log) (c : Change) (done : Done) (plans : Plans edit d c done) (gives : after_change (reversed c) (after_change c d) ≡ d) where
  -- the machine after an edit in a group, which has edits then
  abbrev after_edit : List LogEntry → List Change → Machine
  after_edit undo cs = record m {
    document = after_change c d;
    past = entry_steps Backwards undo (after_all Backwards cs d);
    future = [];
    past_names = log.undo_names;
    future_names = [];
    group = Some (record {
      before = after_all Backwards cs d;
      edited = true;
      cost = changes_cost cs + change_cost c;
      places = all_places Forwards (reverse cs) ++ change_places c;
    });
    updated_at = position_in_group log.updated_at;
    saved_at = position_in_group log.saved_at;
    touched = change_places c;
    undo_limit = log.limit;
  }

  edit_counted : (undo redo : List LogEntry) (cs : List Change) → is_barred edit (machine_with m d (log_of log undo redo (Some cs))) ≡ false
      → machine.has_no_room (machine_with m d (log_of log undo redo (Some cs))) (edit_needs edit) ≡ false
      → Answers (machine_with m d (log_of log undo redo (Some cs))) (Some (commands.Edit edit)) (reply_of_done done) (after_edit undo cs)
  edit_counted undo redo cs free room =
      rw (edit-passed edit (machine_with m d (log_of log undo redo (Some cs))) free room, plans.accepted, plans.document, plans.answer, plans.cost, plans.places) refl

  counted : (undo : List LogEntry) (cs : List Change) → after_edit undo cs ≡ machine_with m (after_change c d) (record (log_of (without_redo log) undo [] (Some (c ∷ cs))) { touched = change_places c })
  counted undo cs =
      let back : d ≡ after_change (reversed c) (after_change c d) = sym gives in
      let more : true ≡ not (length (c ∷ cs) == 0) = sym (ap not (some_steps c cs)) in
      let charged : changes_cost cs + change_cost c ≡ changes_cost (c ∷ cs) = let sum = sum_by-cons change_cost c cs in omega (arith, sum) in
      let told : all_places Forwards (reverse cs) ++ change_places c ≡ all_places Forwards (reverse (c ∷ cs)) = sym (places-one_more c cs) in
      λ i. record m {
        document = after_change c d;
        past = entry_steps Backwards undo (after_all Backwards cs (back i));
        future = [];
        past_names = log.undo_names;
        future_names = [];
        group = Some (record { before = after_all Backwards cs (back i); edited = more i; cost = charged i; places = told i });
        updated_at = position_in_group log.updated_at;
        saved_at = position_in_group log.saved_at;
        touched = change_places c;
        undo_limit = log.limit;
      }

  -- an edit in no group, and in one
  edit_in : (undo redo : List LogEntry) (group : Option (List Change)) → is_barred edit (machine_with m d (log_of log undo redo group)) ≡ false
      → machine.has_no_room (machine_with m d (log_of log undo redo group)) (edit_needs edit) ≡ false
      → Answers (machine_with m d (log_of log undo redo group)) (Some (commands.Edit edit)) (reply_of_done done) (machine_with m (after_change c d) (with_change c (log_of log undo redo group)))
  edit_in undo redo None free room =
      rw (kept_steps Backwards log.limit (entries.One c ∷ undo) (after_change c d), edit-passed edit (machine_with m d (log_of log undo redo None)) free room, plans.accepted, gives, plans.document, plans.answer, plans.kind, plans.cost, plans.places) refl
  edit_in undo redo (Some cs) free room =
      subst (λ (new : Machine). Answers (machine_with m d (log_of log undo redo (Some cs))) (Some (commands.Edit edit)) (reply_of_done done) new) (counted undo cs) (edit_counted undo redo cs free room)

-- an edit that was planned and carried out
pub edit_answers : (m : Machine) (edit : Edit) (d : Document) (log : Log) (undone redone : List Change) (c : Change) (done : Done) → AreSteps Backwards d undone redone → Plans edit d c done
    → is_barred edit (machine_with m d log) ≡ false → machine.has_no_room (machine_with m d log) (edit_needs edit) ≡ false
    → Answers (machine_with m d log) (Some (commands.Edit edit)) (reply_of_done done) (machine_with m (after_change c d) (with_change c log))
edit_answers m edit d log undone redone c done are plans free room = edit_in m edit d log c done plans (goes_back Forwards c d are.valid plans.applies).gives log.undo log.redo log.group free room

-- An entry that was made, as the newest of the other list.

kind_turned : (e : LogEntry) → kind_of_entry (reversed_entry e) ≡ kind_of_entry e
kind_turned (entries.One c) = refl
kind_turned (entries.Group cs) = refl

pub cost_turned : (e : LogEntry) → entry_cost (reversed_entry e) ≡ entry_cost e
cost_turned (entries.One c) = refl
cost_turned (entries.Group cs) = sum_by-IsPermutation change_cost cs (reverse cs) (IsPermutation-reverse cs)

steps_back : (direction : Direction) (e : LogEntry) (es : List LogEntry) (d new : Document) → after_entry (opposite direction) (reversed_entry e) new ≡ d
    → entry_steps (opposite direction) (reversed_entry e ∷ es) new ≡ record { kind = kind_of_entry e; cost = entry_cost e; document = d; places = places_of_step direction e } ∷ entry_steps (opposite direction) es d
steps_back direction e es d new gives = λ i. record { kind = kind_turned e i; cost = cost_turned e i; document = gives i; places = turned-made direction e i } ∷ entry_steps (opposite direction) es (gives i)

-- the machine in which no group is open, with these steps to take in a direction, and these in the opposite one
abbrev machine_by : Direction → Machine → Document → Log → List UndoStep → List UndoStep → Machine
machine_by Backwards m d log from to =
    record m { document = d; past = from; future = to; past_names = log.undo_names; future_names = log.redo_names; group = None; updated_at = log.updated_at; saved_at = log.saved_at; touched = log.touched; undo_limit = log.limit }
machine_by Forwards m d log from to =
    record m { document = d; past = to; future = from; past_names = log.undo_names; future_names = log.redo_names; group = None; updated_at = log.updated_at; saved_at = log.saved_at; touched = log.touched; undo_limit = log.limit }

machine_by-is : (direction : Direction) (m : Machine) (d : Document) (log : Log) (from to : List LogEntry)
    → machine_with m d (log_by direction log from to) ≡ machine_by direction m d log (entry_steps direction from d) (entry_steps (opposite direction) to d)
machine_by-is Backwards m d log from to = refl
machine_by-is Forwards m d log from to = refl

-- the log once a step is taken
abbrev told_by : Direction → UndoStep → Log → Log
told_by direction s log =
    record (names_turned direction log) { updated_at = position_turned direction log.updated_at; saved_at = position_turned direction log.saved_at; touched = told_of_step direction s.places }

-- what undo and redo do where there is a step
step_taken : (direction : Direction) (m : Machine) (d : Document) (log : Log) (s : UndoStep) (from to : List UndoStep) → machine.has_locks m ≡ false
    → Answers (machine_by direction m d log (s ∷ from) to) (Some (step_command direction)) Accepted (machine_by direction m s.document (told_by direction s log) from (record s { document = d } ∷ to))
step_taken Backwards m d log s from to none = rw (none, some_steps s from) refl
step_taken Forwards m d log s from to none = rw (none, some_steps s from) refl

-- the next entry is made
pub turn_answers : (direction : Direction) (m : Machine) (d : Document) (log : Log) (e : LogEntry) (from to : List LogEntry) → machine.has_locks m ≡ false → AreSteps direction d (all_changes (e ∷ from)) (all_changes to)
    → Answers (machine_with m d (log_by direction log (e ∷ from) to)) (Some (step_command direction)) Accepted
    (machine_with m (after_entry direction e d) (log_by direction (turned direction e log) from (reversed_entry e ∷ to)))
turn_answers direction m d log e from to none are =
    let new = after_entry direction e d in let after = turned direction e log in
    let back = steps_back direction e to d new (entry_back direction d e from are.valid are.first) in
    answers_on _ _ _ _ (Some (step_command direction)) Accepted (machine_by-is direction m d log (e ∷ from) to)
    (machine_by-is direction m new after from (reversed_entry e ∷ to) ∙ ap (λ (xs : List UndoStep). machine_by direction m new after (entry_steps direction from new) xs) back)
    (subst (λ (ps : List Place). Answers (machine_by direction m d log (entry_step direction e d ∷ entry_steps direction from new) (entry_steps (opposite direction) to d)) (Some (step_command direction)) Accepted
    (machine_by direction m new (record after { touched = ps }) (entry_steps direction from new) (record { kind = kind_of_entry e; cost = entry_cost e; document = d; places = places_of_step direction e } ∷ entry_steps (opposite direction) to d)))
    (turn-tells direction e)
    (step_taken direction m d log (entry_step direction e d) (entry_steps direction from new) (entry_steps (opposite direction) to d) none))

-- A group begins, ends, and is abandoned.

pub begin_moved : (m : Machine) (d : Document) (log : Log) (undo redo : List LogEntry) → Answers (machine_with m d (log_of log undo redo None)) (Some commands.Begin) Accepted (machine_with m d (log_of log undo redo (Some [])))
begin_moved m d log undo redo = refl

pub end_moved : (m : Machine) (d : Document) (log : Log) (undo redo : List LogEntry) (cs : List Change)
    → Answers (machine_with m d (log_of log undo redo (Some cs))) (Some commands.End) Accepted (machine_with m d (closed_with (Some cs) (log_of log undo redo (Some cs))))
end_moved m d log undo redo [] = refl
end_moved m d log undo redo (c ∷ cs) = rw (some_steps c cs, kept_steps Backwards log.limit (entries.Group (c ∷ cs) ∷ undo) d) refl

abandon_one : (m : Machine) (d : Document) (log : Log) (undo redo : List LogEntry) (cs : List Change) → machine.has_locks m ≡ false
    → Answers (machine_with m d (log_of log undo redo (Some cs))) (Some commands.Abandon) Accepted
    (record m {
      document = after_all Backwards cs d;
      past = entry_steps Backwards undo (after_all Backwards cs d);
      future = entry_steps Forwards redo d;
      past_names = log.undo_names;
      future_names = log.redo_names;
      group = None;
      updated_at = log.updated_at;
      saved_at = log.saved_at;
      touched = all_places Backwards cs;
      undo_limit = log.limit;
    })
abandon_one m d log undo redo cs none = rw (none, back-all cs) refl

-- what can be made again stays, which is nothing where the group has changes
same_future : (d : Document) (redo : List LogEntry) (cs : List Change) → AreExclusive cs redo → entry_steps Forwards redo d ≡ entry_steps Forwards redo (after_all Backwards cs d)
same_future d redo [] apart = refl
same_future d redo (c ∷ cs) apart = ap (λ (es : List LogEntry). entry_steps Forwards es d) apart ∙ sym (ap (λ (es : List LogEntry). entry_steps Forwards es (after_all Backwards (c ∷ cs) d)) apart)

pub abandon_moved : (m : Machine) (d : Document) (log : Log) (undo redo : List LogEntry) (cs : List Change) → machine.has_locks m ≡ false → AreExclusive cs redo
    → Answers (machine_with m d (log_of log undo redo (Some cs))) (Some commands.Abandon) Accepted (machine_with m (after_all Backwards cs d) (abandoned_log (log_of log undo redo (Some cs))))
abandon_moved m d log undo redo cs none apart =
    let new = after_all Backwards cs d in
    subst (λ (future : List UndoStep). Answers (machine_with m d (log_of log undo redo (Some cs))) (Some commands.Abandon) Accepted (record m { document = new; past = entry_steps Backwards undo new; future = future; past_names = log.undo_names; future_names = log.redo_names; group = None; updated_at = log.updated_at; saved_at = log.saved_at; touched = all_places Backwards cs; undo_limit = log.limit }))
    (same_future d redo cs apart) (abandon_one m d log undo redo cs none)

-- Two steps are joined, and steps are forgotten.

-- an entry by its changes
cost_in : (e : LogEntry) → entry_cost e ≡ changes_cost (changes_in e)
cost_in (entries.One c) = let sum = sum_by-cons change_cost c [] in omega (arith, sum)
cost_in (entries.Group cs) = refl

document_in : (e : LogEntry) (d : Document) → after_entry Backwards e d ≡ after_all Backwards (changes_in e) d
document_in (entries.One c) d = refl
document_in (entries.Group cs) d = refl

joined_step : (e f : LogEntry) (d : Document)
    → entry_step Backwards (entries.Group (changes_in e ++ changes_in f)) d ≡ record { kind = Group; cost = entry_cost e + entry_cost f; document = after_entry Backwards f (after_entry Backwards e d); places = made_places f ++ made_places e }
joined_step e f d =
    let cost : changes_cost (changes_in e ++ changes_in f) ≡ entry_cost e + entry_cost f =
    let total = sum_by-append change_cost (changes_in e) (changes_in f) in let one = cost_in e in let two = cost_in f in omega (arith, total, one, two) in
    let document : after_all Backwards (changes_in e ++ changes_in f) d ≡ after_entry Backwards f (after_entry Backwards e d) =
    after_all-append Backwards (changes_in e) (changes_in f) d ∙ ap (after_all Backwards (changes_in f)) (sym (document_in e d)) ∙ sym (document_in f (after_entry Backwards e d)) in
    λ i. record { kind = Group; cost = cost i; document = document i; places = joined-made e f i }

pub steps_joined : (es : List LogEntry) (d : Document) → entry_steps Backwards (joined_entries es) d ≡ joined_steps (entry_steps Backwards es d)
steps_joined [] d = refl
steps_joined (e ∷ []) d = refl
steps_joined (e ∷ f ∷ es) d =
    ap (λ (s : UndoStep). s ∷ entry_steps Backwards es s.document) (joined_step e f d)
