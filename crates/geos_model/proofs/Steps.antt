-- What a join, forgetting and a limit do to the steps.
use Rattle.std.proofs.Common.{◌≡◌, ◌≤◌, ◌+◌, ℕ, zero, suc, List, [], ◌∷◌, length, take, Bool, false, nat_lt, Option, Some, None, refl, sym, ap, subst, ◌∙◌, inl, inr, arith, ltb-false}
use Rattle.std.proofs.lemmas.Bool.{cases_Bool}
use Rattle.std.specs.Option.{option_map}
use Rattle.geos_model.specs.Document.{Document}
use Rattle.geos_model.specs.Meaning.{effect}
use Rattle.geos_model.specs.Cost.{cost}
use Rattle.geos_model.specs.Reply.{Reply, Accepted}
use Rattle.geos_model.specs.Machine.{Machine, OpenGroup, Request, Step, UndoStep, abandoned, command_conditions, done_by, ended, after_forget, is_empty_group, after_join, joined_steps, kind_of, limited, recorded, redone, undone}
use Rattle.geos_model.specs.Steps.{SameButPast, StepsLaw}
use Rattle.geos_model.specs.Undoing.{is_refused}
use Rattle.geos_model.specs.declared.fault.Fault.TheVariants.{GroupOpen, NothingToUndo}
use Rattle.geos_model.specs.declared.command.Edit.{Edit}
use Rattle.geos_model.specs.declared.command.Kind.{Kind}
use Rattle.geos_model.specs.declared.command.Kind.TheVariants.{Group}
use Rattle.geos_model.specs.declared.command.Command.{Command}
use Rattle.geos_model.specs.declared.command.Command.TheVariants as commands
use Rattle.geos_model.specs.Places.{places_of}
use Rattle.geos_model.specs.declared.place.Place.{Place}
use Rattle.geos_model.proofs.Failing.{failing_law}
use Rattle.geos_model.proofs.Refusals.{none_applies, or_none}
use Rattle.geos_model.proofs.Undoing.{OnDone, IsAt, on_done, done_by-stays, same_machine, refused, bad_line-refused, answered, none_refuses, not_in_group}

forget-law : (failed : Bool) (old new : Machine) (most : ℕ) (reply : Reply) → Step failed old (Some (commands.Forget most)) reply new → (new.past ≡ take most old.past) × SameButPast old new
forget-law failed old new most reply step =
    let taken : is_refused reply ≡ false = ap is_refused (failing_law.forget failed old new most reply step) in
    let is : after_forget most old ≡ new = same_machine (answered (commands.Forget most) reply step taken) in (
      sym (ap (λ (m : Machine). m.past) is),
      record { document = sym (ap (λ (m : Machine). m.document) is); future = sym (ap (λ (m : Machine). m.future) is); group = sym (ap (λ (m : Machine). m.group) is) },
    )

-- where a join is accepted
two_there : (old new : Machine) (failed : Bool) (reply : Reply) → Step failed old (Some commands.Join) reply new → is_refused reply ≡ false → nat_lt (length old.past) 2 ≡ false
two_there old new failed reply step taken =
    (or_none (none_applies (command_conditions commands.Join old) (none_refuses commands.Join reply step taken) NothingToUndo refl)).0

one_fewer : (past : List UndoStep) → nat_lt (length past) 2 ≡ false → length (joined_steps past) + 1 ≡ length past
one_fewer [] two = absurd (cc two)
one_fewer (s ∷ []) two = absurd (cc two)
one_fewer (s ∷ r ∷ past) two = omega arith

join-law : (failed : Bool) (old new : Machine) (reply : Reply) → Step failed old (Some commands.Join) reply new → is_refused reply ≡ false
    → (length new.past + 1 ≡ length old.past) × SameButPast old new
join-law failed old new reply step taken =
    let is : after_join old ≡ new = same_machine (answered commands.Join reply step taken) in (
      sym (ap (λ (m : Machine). length m.past + 1) is) ∙ one_fewer old.past (two_there old new failed reply step taken),
      record { document = sym (ap (λ (m : Machine). m.document) is); future = sym (ap (λ (m : Machine). m.future) is); group = sym (ap (λ (m : Machine). m.group) is) },
    )

joins-law : (failed : Bool) (old new : Machine) (reply : Reply) → Step failed old (Some commands.Join) reply new → is_refused reply ≡ false → (2 ≤ length old.past) × (old.group ≡ None)
joins-law failed old new reply step taken =
    let none = none_applies (command_conditions commands.Join old) (none_refuses commands.Join reply step taken) in
    let many = ltb-false (length old.past) 2 (two_there old new failed reply step taken) in
    (omega (arith, many), not_in_group old (or_none (none GroupOpen refl)).0)

taken-few : (most : ℕ) (steps : List UndoStep) → length (take most steps) ≤ most
taken-few zero steps = omega arith
taken-few (suc most) [] = omega arith
taken-few (suc most) (s ∷ steps) = let rest = taken-few most steps in omega (arith, rest)

limited-few : (limit : Option ℕ) (most : ℕ) (steps : List UndoStep) → limit ≡ Some most → length (limited limit steps) ≤ most
limited-few None most steps is = absurd (cc is)
limited-few (Some n) most steps is = let same : n ≡ most = cc is in subst (λ (k : ℕ). length (take n steps) ≤ k) same (taken-few n steps)

recorded-few : (group : Option OpenGroup) (kind : Kind) (n most : ℕ) (ps : List Place) (d : Document) (m : Machine) → group ≡ None → m.undo_limit ≡ Some most → length (recorded group kind n ps d m).past ≤ most
recorded-few None kind n most ps d m none limit = limited-few m.undo_limit most (record { kind = kind; cost = n; document = m.document; places = ps } ∷ m.past) limit
recorded-few (Some g) kind n most ps d m none limit = absurd (cc none)

edit-law : (failed : Bool) (old new : Machine) (e : Edit) (most : ℕ) (reply : Reply) → Step failed old (Some (commands.Edit e)) reply new → is_refused reply ≡ false
    → old.group ≡ None → old.undo_limit ≡ Some most → length new.past ≤ most
edit-law failed old new e most reply step taken none limit =
    let d : Document = (effect e old.document).0 in
    let is : recorded old.group (kind_of e) (cost e old.document d) (places_of e old.document) d old ≡ new = same_machine (answered (commands.Edit e) reply step taken) in
    subst (λ (m : Machine). length m.past ≤ most) is (recorded-few old.group (kind_of e) (cost e old.document d) most (places_of e old.document) d old none limit)

ended-few : (group : Option OpenGroup) (g : OpenGroup) (m : Machine) (most : ℕ) → group ≡ Some g → is_empty_group g ≡ false → m.undo_limit ≡ Some most
    → OnDone (λ reply new. length new.past ≤ most) (option_map (λ x. (Accepted, ended x m)) group)
ended-few None g m most is some limit = absurd (cc is)
ended-few (Some x) g m most is some limit =
    let same : x ≡ g = cc is in
    let some_x : is_empty_group x ≡ false = ap is_empty_group same ∙ some in
    rw some_x (limited-few m.undo_limit most (record { kind = Group; cost = x.cost; document = x.before; places = x.places } ∷ m.past) limit)

ended-law : (failed : Bool) (old new : Machine) (g : OpenGroup) (most : ℕ) (reply : Reply) → Step failed old (Some commands.End) reply new → is_refused reply ≡ false
    → old.group ≡ Some g → is_empty_group g ≡ false → old.undo_limit ≡ Some most → length new.past ≤ most
ended-law failed old new g most reply step taken is some limit =
    on_done (λ reply new. length new.past ≤ most) (done_by commands.End old) reply new (ended-few old.group g old most is some limit) (answered commands.End reply step taken)

-- The limit stays.

abbrev LeavesLimit : Machine → Reply → Machine → Type 0
LeavesLimit m reply new = new.undo_limit ≡ m.undo_limit

recorded-leaves : (group : Option OpenGroup) (kind : Kind) (n : ℕ) (ps : List Place) (d : Document) (m : Machine) → (recorded group kind n ps d m).undo_limit ≡ m.undo_limit
recorded-leaves None kind n ps d m = refl
recorded-leaves (Some g) kind n ps d m = refl

undone-leaves : (m : Machine) (past : List UndoStep) → OnDone (LeavesLimit m) (option_map (λ new. (Accepted, new)) (undone m past))
undone-leaves m [] = tt
undone-leaves m (s ∷ past) = refl

redone-leaves : (m : Machine) (future : List UndoStep) → OnDone (LeavesLimit m) (option_map (λ new. (Accepted, new)) (redone m future))
redone-leaves m [] = tt
redone-leaves m (s ∷ future) = refl

ended-leaves : (m : Machine) (group : Option OpenGroup) → OnDone (LeavesLimit m) (option_map (λ g. (Accepted, ended g m)) group)
ended-leaves m None = tt
ended-leaves m (Some g) = refl

abandoned-leaves : (m : Machine) (group : Option OpenGroup) → OnDone (LeavesLimit m) (option_map (λ g. (Accepted, abandoned g m)) group)
abandoned-leaves m None = tt
abandoned-leaves m (Some g) = refl

stays-leaves : (m : Machine) (o : Option (Reply × Machine)) → OnDone (IsAt m) o → OnDone (LeavesLimit m) o
stays-leaves m None at = tt
stays-leaves m (Some (reply, new)) at = ap (λ (x : Machine). x.undo_limit) at

done_by-leaves : (c : Command) (m : Machine) → OnDone (LeavesLimit m) (done_by c m)
done_by-leaves (commands.Edit e) m = recorded-leaves m.group (kind_of e) (cost e m.document (effect e m.document).0) (places_of e m.document) (effect e m.document).0 m
done_by-leaves commands.Undo m = undone-leaves m m.past
done_by-leaves commands.Redo m = redone-leaves m m.future
done_by-leaves commands.Begin m = refl
done_by-leaves commands.End m = ended-leaves m m.group
done_by-leaves commands.Abandon m = abandoned-leaves m m.group
done_by-leaves commands.Join m = refl
done_by-leaves (commands.Forget most) m = refl
done_by-leaves commands.Update m = refl
done_by-leaves commands.Save m = refl
done_by-leaves commands.Revert m = refl
done_by-leaves commands.SaveAs m = refl
done_by-leaves (commands.Name name) m = refl
done_by-leaves (commands.Lock b) m = refl
done_by-leaves (commands.Unlock b) m = refl
done_by-leaves c m = stays-leaves m (done_by c m) (done_by-stays c m refl)

limit-law : (failed : Bool) (old new : Machine) (request : Request) (reply : Reply) → Step failed old request reply new → new.undo_limit ≡ old.undo_limit
limit-law failed old new request reply step = elim (cases_Bool (is_refused reply)) [
  | inl out ↦ ap (λ (x : Machine). x.undo_limit) (refused request reply step out)
  | inr taken ↦ by_request request step taken
]
  where
    by_request : (asked : Request) → Step failed old asked reply new → is_refused reply ≡ false → new.undo_limit ≡ old.undo_limit
    by_request None step taken = absurd (bad_line-refused reply step taken)
    by_request (Some c) step taken = on_done (LeavesLimit old) (done_by c old) reply new (done_by-leaves c old) (answered c reply step taken)

pub steps_law : StepsLaw
steps_law = record { forget = forget-law; join = join-law; joins = joins-law; edit = edit-law; ended = ended-law; limit = limit-law }
