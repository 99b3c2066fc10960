-- What the machine answers to an edit of a large array.
use Rattle.std.proofs.Common.{◌≡◌, ◌<◌, ◌+◌, ◌==◌, ◌∙◌, true, false, not, length, List, [], ◌∷◌, ◌++◌, reverse, Option, Some, None, refl, sym, ap, subst, arith}
use Rattle.std.proofs.lemmas.Bool.{ne_eqb}
use Rattle.std.proofs.lemmas.List.{length-append, length-reverse, reverse-append, reverse-reverse}
use Rattle.std.proofs.lemmas.List.Sums.{sum_by-append}
use Rattle.geos_model.specs.Document.{Document}
use Rattle.geos_model.specs.Position.{position_in_group, position_stepped}
use Rattle.geos_model.specs.Reply.{reply_of_done}
use Rattle.geos_model.specs.Machine as machine
use Rattle.geos_model.specs.Machine.{Machine, UndoStep, Answers, edit_needs, is_barred, kind_of, limited}
use Rattle.geos_model.specs.Meaning.{effect}
use Rattle.geos_model.proofs.FirstRefusals.{edit-passed}
use Rattle.geos_model.specs.declared.command.Command.TheVariants as commands
use Rattle.geos_model.specs.declared.command.Done.TheVariants.{Nothing}
use Rattle.geos_model.specs.declared.command.Edit.{Edit}
use Rattle.geos_model.specs.declared.command.Kind.TheVariants.{Group}
use Rattle.vm_blocks.specs.ChangeCosts.{change_cost}
use Rattle.vm_blocks.specs.Preparing.{after_changes}
use Rattle.vm_blocks.specs.declared.change.Change.{Change}
use Rattle.chunk_edits.specs.declared.direction.Direction.TheVariants.{Backwards, Forwards}
use Rattle.doc_edits.specs.Planning.{PlansAll}
use Rattle.undo_log.specs.Entries.{LogEntry}
use Rattle.undo_log.specs.Entries as entries
use Rattle.undo_log.specs.Logging.{Log, after_all, changes_cost, entry_steps, with_changes, without_redo}
use Rattle.undo_log.specs.Telling.{all_places}
use Rattle.undo_log.proofs.Answers.{cost_turned, log_of}
use Rattle.undo_log.proofs.Keeping.{machine_with}
use Rattle.undo_log.proofs.Lists.{kept_steps}
use Rattle.undo_log.proofs.Steps.{after_all-append}
use Rattle.undo_log.proofs.Telling.{places-append}

-- Of changes before those of a group.

more_cost : (cs ds : List Change) → changes_cost ds + changes_cost cs ≡ changes_cost (reverse cs ++ ds)
more_cost cs ds =
    let split = sum_by-append change_cost (reverse cs) ds in let turned : changes_cost (reverse cs) ≡ changes_cost cs = cost_turned (entries.Group cs) in omega (arith, split, turned)

more_places : (cs ds : List Change) → all_places Forwards (reverse ds) ++ all_places Forwards cs ≡ all_places Forwards (reverse (reverse cs ++ ds))
more_places cs ds =
    sym (ap (all_places Forwards) (reverse-append (reverse cs) ds ∙ ap (λ (xs : List Change). reverse ds ++ xs) (reverse-reverse cs)) ∙ places-append Forwards (reverse ds) cs)

some_more : (cs ds : List Change) → 0 < length cs → true ≡ not (length (reverse cs ++ ds) == 0)
some_more cs ds some =
    let long = length-append (reverse cs) ds in let turned = length-reverse cs in
    sym (ap not (ne_eqb (length (reverse cs ++ ds)) 0 (λ none. omega (arith, long, turned, some, none))))

module _ (m : Machine) (edit : Edit) (d : Document) (log : Log) (cs : List Change) (kind : kind_of edit ≡ Group) (answer : (effect edit d).1 ≡ Nothing) (plans : PlansAll edit d cs)
    (gives : after_all Backwards (reverse cs) (after_changes cs d) ≡ d) where
  -- the machine after the edit in no group
  abbrev after_alone : List LogEntry → Machine
  after_alone undo = record m {
    document = after_changes cs d;
    past = limited log.limit (record { kind = Group; cost = changes_cost cs; document = d; places = all_places Forwards cs } ∷ entry_steps Backwards undo d);
    future = [];
    past_names = limited log.limit ([] ∷ log.undo_names);
    future_names = [];
    group = None;
    updated_at = position_stepped log.limit log.updated_at;
    saved_at = position_stepped log.limit log.saved_at;
    touched = all_places Forwards cs;
    undo_limit = log.limit;
  }

  alone_counted : (undo redo : List LogEntry) → is_barred edit (machine_with m d (log_of log undo redo None)) ≡ false
      → machine.has_no_room (machine_with m d (log_of log undo redo None)) (edit_needs edit) ≡ false
      → Answers (machine_with m d (log_of log undo redo None)) (Some (commands.Edit edit)) (reply_of_done Nothing) (after_alone undo)
  alone_counted undo redo free room =
      rw (edit-passed edit (machine_with m d (log_of log undo redo None)) free room, plans.accepted, plans.document, answer, kind, plans.cost, plans.places) refl

  alone_is : (undo redo : List LogEntry) → after_alone undo ≡ machine_with m (after_changes cs d) (with_changes cs (log_of log undo redo None))
  alone_is undo redo =
      let back : d ≡ after_all Backwards (reverse cs) (after_changes cs d) = sym gives in
      let charged : changes_cost cs ≡ changes_cost (reverse cs) = sym (cost_turned (entries.Group cs)) in
      let told : all_places Forwards cs ≡ all_places Forwards (reverse (reverse cs)) = sym (ap (all_places Forwards) (reverse-reverse cs)) in
      let past : limited log.limit (record { kind = Group; cost = changes_cost cs; document = d; places = all_places Forwards cs } ∷ entry_steps Backwards undo d)
      ≡ entry_steps Backwards (limited log.limit (entries.Group (reverse cs) ∷ undo)) (after_changes cs d) =
      (λ i. limited log.limit (record { kind = Group; cost = charged i; document = back i; places = told i } ∷ entry_steps Backwards undo (back i)))
      ∙ sym (kept_steps Backwards log.limit (entries.Group (reverse cs) ∷ undo) (after_changes cs d)) in
      ap (λ (steps : List UndoStep). record (after_alone undo) { past = steps }) past

  -- and in one, which has edits then
  abbrev after_more : List LogEntry → List Change → Machine
  after_more undo ds = record m {
    document = after_changes cs d;
    past = entry_steps Backwards undo (after_all Backwards ds d);
    future = [];
    past_names = log.undo_names;
    future_names = [];
    group = Some (record {
      before = after_all Backwards ds d;
      edited = true;
      cost = changes_cost ds + changes_cost cs;
      places = all_places Forwards (reverse ds) ++ all_places Forwards cs;
    });
    updated_at = position_in_group log.updated_at;
    saved_at = position_in_group log.saved_at;
    touched = all_places Forwards cs;
    undo_limit = log.limit;
  }

  more_counted : (undo redo : List LogEntry) (ds : List Change) → is_barred edit (machine_with m d (log_of log undo redo (Some ds))) ≡ false
      → machine.has_no_room (machine_with m d (log_of log undo redo (Some ds))) (edit_needs edit) ≡ false
      → Answers (machine_with m d (log_of log undo redo (Some ds))) (Some (commands.Edit edit)) (reply_of_done Nothing) (after_more undo ds)
  more_counted undo redo ds free room =
      rw (edit-passed edit (machine_with m d (log_of log undo redo (Some ds))) free room, plans.accepted, plans.document, answer, plans.cost, plans.places) refl

  more_is : (undo : List LogEntry) (ds : List Change) → after_more undo ds ≡ machine_with m (after_changes cs d) (record (log_of (without_redo log) undo [] (Some (reverse cs ++ ds))) { touched = all_places Forwards cs })
  more_is undo ds =
      let back : after_all Backwards ds d ≡ after_all Backwards (reverse cs ++ ds) (after_changes cs d) =
      sym (after_all-append Backwards (reverse cs) ds (after_changes cs d) ∙ ap (λ (x : Document). after_all Backwards ds x) gives) in
      let more = some_more cs ds plans.some in
      let charged = more_cost cs ds in
      let told = more_places cs ds in
      λ i. record m {
        document = after_changes cs d;
        past = entry_steps Backwards undo (back i);
        future = [];
        past_names = log.undo_names;
        future_names = [];
        group = Some (record { before = back i; edited = more i; cost = charged i; places = told i });
        updated_at = position_in_group log.updated_at;
        saved_at = position_in_group log.saved_at;
        touched = all_places Forwards cs;
        undo_limit = log.limit;
      }

  large_in : (undo redo : List LogEntry) (group : Option (List Change)) → is_barred edit (machine_with m d (log_of log undo redo group)) ≡ false
      → machine.has_no_room (machine_with m d (log_of log undo redo group)) (edit_needs edit) ≡ false
      → Answers (machine_with m d (log_of log undo redo group)) (Some (commands.Edit edit)) (reply_of_done Nothing) (machine_with m (after_changes cs d) (with_changes cs (log_of log undo redo group)))
  large_in undo redo None free room =
      subst (λ (new : Machine). Answers (machine_with m d (log_of log undo redo None)) (Some (commands.Edit edit)) (reply_of_done Nothing) new) (alone_is undo redo) (alone_counted undo redo free room)
  large_in undo redo (Some ds) free room =
      subst (λ (new : Machine). Answers (machine_with m d (log_of log undo redo (Some ds))) (Some (commands.Edit edit)) (reply_of_done Nothing) new) (more_is undo ds) (more_counted undo redo ds free room)

  pub large_answers : is_barred edit (machine_with m d log) ≡ false → machine.has_no_room (machine_with m d log) (edit_needs edit) ≡ false
      → Answers (machine_with m d log) (Some (commands.Edit edit)) (reply_of_done Nothing) (machine_with m (after_changes cs d) (with_changes cs log))
  large_answers free room = large_in log.undo log.redo log.group free room
