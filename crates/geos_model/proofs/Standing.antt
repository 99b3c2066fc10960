-- Where the machine says that the document is a committed one, it is.
use Rattle.std.proofs.Common.{◌≡◌, ◌<◌, ◌≤◌, ℕ, zero, suc, List, [], ◌∷◌, All, take, Bool, true, false, not, nat_le, Option, Some, None, IfSome, unwrap_or, refl, sym, ap, subst, ◌∙◌, inl, inr, arith, leb-true}
use Rattle.std.proofs.lemmas.Bool.{cases_Bool, and_parts}
use Rattle.std.specs.Option.{option_map, option_map_or}
use Rattle.geos_model.specs.Refusal.{applies, first_refusal}
use Rattle.geos_model.specs.Document.{Document}
use Rattle.geos_model.specs.Meaning.{effect}
use Rattle.geos_model.specs.Cost.{cost}
use Rattle.geos_model.specs.Position.{Position, Back, Ahead, Nowhere, is_here, position_after_step, position_stepped, position_within, position_in_group, position_after_undo, position_after_redo, position_after_join}
use Rattle.geos_model.specs.Reply.{Reply, Accepted, NumberIs}
use Rattle.geos_model.specs.Machine.{Machine, Request, UndoStep, OpenGroup, Call, Step, Run, IsValidMachine, IsValidGroup, has_edits, is_committed, command_conditions, done_by, recorded, undone, redone, begun, ended, abandoned, kind_of, limited, after_join, joined_steps, after_forget, after_lock, after_name, after_unlock, after_update, after_save, after_save_as, after_revert, opened_machine, stands_as, may_give_up}
use Rattle.geos_model.specs.Undoing.{is_refused, is_revert}
use Rattle.geos_model.specs.Saving.{is_save}
use Rattle.geos_model.specs.Validity.{word_asked}
use Rattle.geos_model.specs.Standing.{AreRightPositions, StandingLaw, StandsAt, commits_update, is_as_saved, is_as_updated, outside_group, steps_on, SamePositions, may_change_positions}
use Rattle.geos_model.specs.declared.fault.Fault.{Fault}
use Rattle.geos_model.specs.declared.fault.Fault.TheVariants.{File, GroupOpen, Memory}
use Rattle.geos_model.specs.declared.command.Kind.{Kind}
use Rattle.geos_model.specs.declared.command.Kind.TheVariants.{Group}
use Rattle.geos_model.specs.declared.command.Command.{Command}
use Rattle.geos_model.specs.declared.command.Command.TheVariants as commands
use Rattle.geos_model.specs.Places.{places_of}
use Rattle.geos_model.specs.declared.place.Place.{Place}
use Rattle.geos_model.proofs.Refusals.{none_applies, or_none}
use Rattle.geos_model.proofs.Undoing.{OnDone, IsAt, on_done, done_by-stays, same_machine, refused, bad_line-refused, answered, none_refuses, not_in_group, both_true, same_reply}
use Rattle.geos_model.proofs.ValidSteps.{validity_law}

-- It says the truth.
says-committed : (p : Position) (m : Machine) (d : Document) → IsValidMachine m → StandsAt p m d → is_committed p m ≡ true → m.document ≡ d
says-committed p m d valid stands says =
    let parts = and_parts (is_here p) (not (has_edits m)) says in
    by_position p parts.0 stands
  where
    by_group : (group : Option OpenGroup) → IfSome group (λ g. IsValidGroup g m) → not (option_map_or (λ g. g.edited) group false) ≡ true → outside_group group m.document ≡ m.document
    by_group None valid none = refl
    by_group (Some g) valid none = elim (cases_Bool g.edited) [
      | inl some ↦ absurd (cc (rw some at none))
      | inr empty ↦ (valid.none empty).0
    ]

    by_position : (q : Position) → is_here q ≡ true → StandsAt q m d → m.document ≡ d
    by_position (Back zero) here stands =
        let is : Some (outside_group m.group m.document) ≡ Some d = stands in
        let same : outside_group m.group m.document ≡ d = cc is in
        sym (by_group m.group valid.group (and_parts (is_here p) (not (has_edits m)) says).1) ∙ same
    by_position (Back (suc n)) here stands = absurd (cc here)
    by_position (Ahead n) here stands = absurd (cc here)
    by_position Nowhere here stands = absurd (cc here)

-- What stands goes on to stand.

-- the same steps around the same document
same-stands : (p : Position) (m new : Machine) (d : Document) → outside_group new.group new.document ≡ outside_group m.group m.document → new.past ≡ m.past → new.future ≡ m.future
    → StandsAt p m d → StandsAt p new d
same-stands (Back n) m new d outside past future stands =
    subst (λ (x : Document). steps_on x new.past n ≡ Some d) (sym outside)
    (subst (λ (steps : List UndoStep). steps_on (outside_group m.group m.document) steps n ≡ Some d) (sym past) stands)
same-stands (Ahead n) m new d outside past future stands =
    subst (λ (steps : List UndoStep). steps_on new.document steps (suc n) ≡ Some d) (sym future) (from_any m.future stands)
  where
    from_any : (steps : List UndoStep) → steps_on m.document steps (suc n) ≡ Some d → steps_on new.document steps (suc n) ≡ Some d
    from_any [] is = absurd (cc is)
    from_any (s ∷ steps) is = is
same-stands Nowhere m new d outside past future stands = tt

kept_steps : (d : Document) (steps : List UndoStep) (n most : ℕ) → n ≤ most → steps_on d (take most steps) n ≡ steps_on d steps n
kept_steps d steps zero most low = refl
kept_steps d steps (suc n) zero low = absurd (omega (arith, low))
kept_steps d [] (suc n) (suc most) low = refl
kept_steps d (s ∷ steps) (suc n) (suc most) low = kept_steps s.document steps n most (omega (arith, low))

-- no more steps than a limit allows
within-stands : (limit : Option ℕ) (p : Position) (m new : Machine) (d : Document) → outside_group new.group new.document ≡ outside_group m.group m.document
    → new.past ≡ limited limit m.past → new.future ≡ m.future → StandsAt p m d → StandsAt (position_within limit p) new d
within-stands None p m new d outside past future stands = same-stands p m new d outside past future stands
within-stands (Some most) (Back n) m new d outside past future stands = elim (cases_Bool (nat_le n most)) [
  | inl few ↦ rw few (
      subst (λ (x : Document). steps_on x new.past n ≡ Some d) (sym outside)
      (subst (λ (steps : List UndoStep). steps_on (outside_group m.group m.document) steps n ≡ Some d) (sym past)
      (kept_steps (outside_group m.group m.document) m.past n most (leb-true n most few) ∙ stands))
      )
  | inr many ↦ rw many tt
]
within-stands (Some most) (Ahead n) m new d outside past future stands = same-stands (Ahead n) m (record new { past = m.past }) d outside refl future stands
within-stands (Some most) Nowhere m new d outside past future stands = tt

-- one step more
after_step-stands : (p : Position) (m new : Machine) (d : Document) (s : UndoStep) → s.document ≡ outside_group m.group m.document → StandsAt p m d
    → StandsAt (position_after_step p) (record new { past = s ∷ m.past }) d
after_step-stands (Back n) m new d s is stands = subst (λ (x : Document). steps_on x m.past n ≡ Some d) (sym is) stands
after_step-stands (Ahead n) m new d s is stands = tt
after_step-stands Nowhere m new d s is stands = tt

stepped-stands : (limit : Option ℕ) (p : Position) (m new : Machine) (d : Document) (s : UndoStep) → new.past ≡ limited limit (s ∷ m.past) → s.document ≡ outside_group m.group m.document
    → StandsAt p m d → StandsAt (position_stepped limit p) new d
stepped-stands limit p m new d s past is stands =
    within-stands limit (position_after_step p) (record new { past = s ∷ m.past }) new d refl past refl (after_step-stands p m new d s is stands)

-- an edit in a group
in_group-stands : (p : Position) (m new : Machine) (d : Document) → outside_group new.group new.document ≡ outside_group m.group m.document → new.past ≡ m.past
    → StandsAt p m d → StandsAt (position_in_group p) new d
in_group-stands (Back n) m new d outside past stands =
    subst (λ (x : Document). steps_on x new.past n ≡ Some d) (sym outside)
    (subst (λ (steps : List UndoStep). steps_on (outside_group m.group m.document) steps n ≡ Some d) (sym past) stands)
in_group-stands (Ahead n) m new d outside past stands = tt
in_group-stands Nowhere m new d outside past stands = tt

-- an undo and a redo
undo-stands : (p : Position) (m new : Machine) (d : Document) (s : UndoStep) (past : List UndoStep) → m.past ≡ s ∷ past → m.group ≡ None → new.group ≡ None → new.document ≡ s.document
    → new.past ≡ past → new.future ≡ record s { document = m.document } ∷ m.future → StandsAt p m d → StandsAt (position_after_undo p) new d
undo-stands (Back zero) m new d s past was none free document later future stands =
    subst (λ (steps : List UndoStep). steps_on new.document steps (suc zero) ≡ Some d) (sym future)
    (subst (λ (g : Option OpenGroup). Some (outside_group g m.document) ≡ Some d) none stands)
undo-stands (Back (suc n)) m new d s past was none free document later future stands =
    let there : steps_on s.document past n ≡ Some d = subst (λ (steps : List UndoStep). steps_on (outside_group m.group m.document) steps (suc n) ≡ Some d) was stands in
    subst (λ (steps : List UndoStep). steps_on (outside_group new.group new.document) steps n ≡ Some d) (sym later)
    (subst (λ (x : Document). steps_on x past n ≡ Some d) (sym (ap (λ (g : Option OpenGroup). outside_group g new.document) free ∙ document)) there)
undo-stands (Ahead n) m new d s past was none free document later future stands =
    subst (λ (steps : List UndoStep). steps_on new.document steps (suc (suc n)) ≡ Some d) (sym future) stands
undo-stands Nowhere m new d s past was none free document later future stands = tt

redo-stands : (p : Position) (m new : Machine) (d : Document) (s : UndoStep) (future : List UndoStep) → m.future ≡ s ∷ future → m.group ≡ None → new.group ≡ None → new.document ≡ s.document
    → new.past ≡ record s { document = m.document } ∷ m.past → new.future ≡ future → StandsAt p m d → StandsAt (position_after_redo p) new d
redo-stands (Ahead zero) m new d s future was none free document past later stands =
    let there : Some s.document ≡ Some d = subst (λ (steps : List UndoStep). steps_on m.document steps (suc zero) ≡ Some d) was stands in
    subst (λ (x : Document). Some x ≡ Some d) (sym (ap (λ (g : Option OpenGroup). outside_group g new.document) free ∙ document)) there
redo-stands (Ahead (suc n)) m new d s future was none free document past later stands =
    let there : steps_on s.document future (suc n) ≡ Some d = subst (λ (steps : List UndoStep). steps_on m.document steps (suc (suc n)) ≡ Some d) was stands in
    subst (λ (steps : List UndoStep). steps_on new.document steps (suc n) ≡ Some d) (sym later)
    (subst (λ (x : Document). steps_on x future (suc n) ≡ Some d) (sym document) there)
redo-stands (Back n) m new d s future was none free document past later stands =
    subst (λ (steps : List UndoStep). steps_on (outside_group new.group new.document) steps (suc n) ≡ Some d) (sym past)
    (subst (λ (g : Option OpenGroup). steps_on (outside_group g m.document) m.past n ≡ Some d) none stands)
redo-stands Nowhere m new d s future was none free document past later stands = tt

-- the newest two steps as one
join-stands : (p : Position) (m : Machine) (d : Document) → StandsAt p m d → StandsAt (position_after_join p) (after_join m) d
join-stands (Back zero) m d stands = stands
join-stands (Back (suc zero)) m d stands = tt
join-stands (Back (suc (suc n))) m d stands = by_past m.past stands
  where
    by_past : (past : List UndoStep) → steps_on (outside_group m.group m.document) past (suc (suc n)) ≡ Some d → steps_on (outside_group m.group m.document) (joined_steps past) (suc n) ≡ Some d
    by_past [] a = absurd (cc a)
    by_past (s ∷ []) a = absurd (cc a)
    by_past (s ∷ r ∷ past) a = a
join-stands (Ahead n) m d stands = stands
join-stands Nowhere m d stands = tt

-- the document stands where no step leads away from it and no group is open
here-stands : (m : Machine) → m.group ≡ None → StandsAt (Back zero) m m.document
here-stands m none = ap (λ (g : Option OpenGroup). Some (outside_group g m.document)) none

-- Each command leaves the positions right.

both-right : (m new : Machine) (f : Position → Position) → new.updated ≡ m.updated → new.saved ≡ m.saved → new.updated_at ≡ f m.updated_at → new.saved_at ≡ f m.saved_at
    → ((p : Position) (d : Document) → StandsAt p m d → StandsAt (f p) new d) → AreRightPositions m → AreRightPositions new
both-right m new f updated saved updated_at saved_at goes right = record {
  updated =
      subst (λ (d : Document). StandsAt new.updated_at new d) (sym updated)
      (subst (λ (p : Position). StandsAt p new m.updated) (sym updated_at) (goes m.updated_at m.updated right.updated));
  saved =
      subst (λ (d : Document). StandsAt new.saved_at new d) (sym saved)
      (subst (λ (p : Position). StandsAt p new m.saved) (sym saved_at) (goes m.saved_at m.saved right.saved));
}

same-right : (m new : Machine) → new.updated ≡ m.updated → new.saved ≡ m.saved → new.updated_at ≡ m.updated_at → new.saved_at ≡ m.saved_at
    → outside_group new.group new.document ≡ outside_group m.group m.document → new.past ≡ m.past → new.future ≡ m.future → AreRightPositions m → AreRightPositions new
same-right m new updated saved updated_at saved_at outside past future right =
    both-right m new (λ p. p) updated saved updated_at saved_at (λ p d stands. same-stands p m new d outside past future stands) right

abbrev IsRight : Reply → Machine → Type 0
IsRight reply new = AreRightPositions new

edit-right : (group : Option OpenGroup) (m : Machine) (kind : Kind) (n : ℕ) (ps : List Place) (to : Document) → group ≡ m.group → AreRightPositions m → AreRightPositions (recorded group kind n ps to m)
edit-right None m kind n ps to is right =
    let s : UndoStep = record { kind = kind; cost = n; document = m.document; places = ps } in
    both-right m (recorded None kind n ps to m) (position_stepped m.undo_limit) refl refl refl refl
    (λ p d stands. stepped-stands m.undo_limit p m (recorded None kind n ps to m) d s refl (ap (λ (g : Option OpenGroup). outside_group g m.document) is) stands) right
edit-right (Some g) m kind n ps to is right =
    both-right m (recorded (Some g) kind n ps to m) position_in_group refl refl refl refl
    (λ p d stands. in_group-stands p m (recorded (Some g) kind n ps to m) d (ap (λ (x : Option OpenGroup). outside_group x m.document) is) refl stands) right

undo-right : (past : List UndoStep) (m : Machine) → m.past ≡ past → m.group ≡ None → AreRightPositions m → OnDone IsRight (option_map (λ new. (Accepted, new)) (undone m past))
undo-right [] m is none right = tt
undo-right (s ∷ past) m is none right =
    let new : Machine = unwrap_or (undone m (s ∷ past)) m in
    both-right m new position_after_undo refl refl refl refl (λ p d stands. undo-stands p m new d s past is none none refl refl refl stands) right

redo-right : (future : List UndoStep) (m : Machine) → m.future ≡ future → m.group ≡ None → AreRightPositions m → OnDone IsRight (option_map (λ new. (Accepted, new)) (redone m future))
redo-right [] m is none right = tt
redo-right (s ∷ future) m is none right =
    let new : Machine = unwrap_or (redone m (s ∷ future)) m in
    both-right m new position_after_redo refl refl refl refl (λ p d stands. redo-stands p m new d s future is none none refl refl refl stands) right

end-right : (group : Option OpenGroup) (m : Machine) → group ≡ m.group → IfSome group (λ g. IsValidGroup g m) → AreRightPositions m
    → OnDone IsRight (option_map (λ g. (Accepted, ended g m)) group)
end-right None m is valid right = tt
end-right (Some g) m is valid right =
    let there : g.before ≡ outside_group m.group m.document = ap (λ (x : Option OpenGroup). outside_group x m.document) is in
    elim (cases_Bool g.edited) [
      | inl some ↦
          let s : UndoStep = record { kind = Group; cost = g.cost; document = g.before; places = g.places } in
          both-right m (ended g m) (position_stepped m.undo_limit) refl refl (rw some refl) (rw some refl)
          (λ p d stands. stepped-stands m.undo_limit p m (ended g m) d s (rw some refl) there stands) right
      | inr none ↦
          same-right m (ended g m) refl refl (rw none refl) (rw none refl) (sym (valid.none none).0 ∙ there) (rw none refl) refl right
    ]

abandon-right : (group : Option OpenGroup) (m : Machine) → group ≡ m.group → AreRightPositions m → OnDone IsRight (option_map (λ g. (Accepted, abandoned g m)) group)
abandon-right None m is right = tt
abandon-right (Some g) m is right = same-right m (abandoned g m) refl refl refl refl (ap (λ (x : Option OpenGroup). outside_group x m.document) is) refl refl right

-- what leaves the machine
stays-right : (m : Machine) (o : Option (Reply × Machine)) → AreRightPositions m → OnDone (IsAt m) o → OnDone IsRight o
stays-right m None right at = tt
stays-right m (Some (reply, new)) right at = subst AreRightPositions (sym at) right

free : (c : Command) (m : Machine) → first_refusal (command_conditions c m) ≡ None → applies (command_conditions c m) GroupOpen ≡ false
free c m none = none_applies (command_conditions c m) none GroupOpen refl

done_by-right : (c : Command) (m : Machine) → IsValidMachine m → first_refusal (command_conditions c m) ≡ None → AreRightPositions m → OnDone IsRight (done_by c m)
done_by-right (commands.Edit e) m valid none right =
    edit-right m.group m (kind_of e) (cost e m.document (effect e m.document).0) (places_of e m.document) (effect e m.document).0 refl right
done_by-right commands.Undo m valid none right = undo-right m.past m refl (not_in_group m (or_none (free commands.Undo m none)).0) right
done_by-right commands.Redo m valid none right = redo-right m.future m refl (not_in_group m (or_none (free commands.Redo m none)).0) right
done_by-right commands.Begin m valid none right =
    same-right m (begun m) refl refl refl refl
    (sym (ap (λ (x : Option OpenGroup). outside_group x m.document) (not_in_group m (or_none (free commands.Begin m none)).0))) refl refl right
done_by-right commands.End m valid none right = end-right m.group m refl valid.group right
done_by-right commands.Abandon m valid none right = abandon-right m.group m refl right
done_by-right commands.Join m valid none right =
    both-right m (after_join m) position_after_join refl refl refl refl (λ p d stands. join-stands p m d stands) right
done_by-right (commands.Forget most) m valid none right =
    both-right m (after_forget most m) (position_within (Some most)) refl refl refl refl
    (λ p d stands. within-stands (Some most) p m (after_forget most m) d refl refl refl stands) right
done_by-right commands.Update m valid none right = record {
  updated = here-stands (after_update m) (not_in_group m (or_none (free commands.Update m none)).0);
  saved = same-stands m.saved_at m (after_update m) m.saved refl refl refl right.saved;
}
done_by-right commands.Save m valid none right =
    let here = here-stands (after_save m) (not_in_group m (or_none (free commands.Save m none)).0) in record { updated = here; saved = here }
done_by-right commands.SaveAs m valid none right =
    let here = here-stands (after_save_as m) (not_in_group m (or_none (free commands.SaveAs m none)).0) in record { updated = here; saved = here }
done_by-right commands.Revert m valid none right =
    let here = here-stands (after_revert m) (not_in_group m (or_none (free commands.Revert m none)).0) in record { updated = here; saved = here }
done_by-right (commands.Name name) m valid none right = same-right m (after_name name m) refl refl refl refl refl refl refl right
done_by-right (commands.Lock b) m valid none right = same-right m (after_lock m b.0) refl refl refl refl refl refl refl right
done_by-right (commands.Unlock b) m valid none right = same-right m (after_unlock m b.0) refl refl refl refl refl refl refl right
done_by-right c m valid none right = stays-right m (done_by c m) right (done_by-stays c m refl)

step-right : (failed : Bool) (old new : Machine) (request : Request) (reply : Reply) → Step failed old request reply new → IsValidMachine old → AreRightPositions old → AreRightPositions new
step-right failed old new request reply step valid right = elim (cases_Bool (is_refused reply)) [
  | inl out ↦ subst AreRightPositions (sym (refused request reply step out)) right
  | inr taken ↦ by_request request step taken
]
  where
    by_request : (asked : Request) → Step failed old asked reply new → is_refused reply ≡ false → AreRightPositions new
    by_request None step taken = absurd (bad_line-refused reply step taken)
    by_request (Some c) step taken =
        on_done IsRight (done_by c old) reply new (done_by-right c old valid (none_refuses c reply step taken) right) (answered c reply step taken)

run-right : (old new : Machine) (calls : List Call) → All (λ c. word_asked c.request < 65536) calls → IsValidMachine old → AreRightPositions old → Run old calls new → AreRightPositions new
run-right old new [] low valid right run = subst AreRightPositions (sym run) right
run-right old new (c ∷ cs) low valid right run =
    run-right run.0 new cs (λ k d l. low (suc k) d (omega arith)) (validity_law.step old run.0 c.request c.reply c.failed (low 0 c (omega arith)) valid run.1)
    (step-right c.failed old run.0 c.request c.reply run.1 valid right) run.2

-- It says so.

here-says : (m : Machine) → m.group ≡ None → is_committed (Back zero) m ≡ true
here-says m none = ap (λ (g : Option OpenGroup). not (option_map_or (λ x. x.edited) g false)) none

update-says : (failed : Bool) (old new : Machine) (request : Request) (reply : Reply) → Step failed old request reply new → is_refused reply ≡ false → commits_update request ≡ true
    → is_as_updated new ≡ true
update-says failed old new (Some commands.Update) reply step taken k =
    let none = none_refuses commands.Update reply step taken in
    subst (λ (m : Machine). is_as_updated m ≡ true) (same_machine (answered commands.Update reply step taken))
    (here-says (after_update old) (not_in_group old (or_none (free commands.Update old none)).0))
update-says failed old new _ reply step taken k = absurd (cc k)

save-says : (failed : Bool) (old new : Machine) (request : Request) (reply : Reply) → Step failed old request reply new → is_refused reply ≡ false → is_save request ≡ true
    → (is_as_updated new ≡ true) × (is_as_saved new ≡ true)
save-says failed old new (Some commands.Save) reply step taken k =
    let none = none_refuses commands.Save reply step taken in
    let says = here-says (after_save old) (not_in_group old (or_none (free commands.Save old none)).0) in
    subst (λ (m : Machine). (is_as_updated m ≡ true) × (is_as_saved m ≡ true)) (same_machine (answered commands.Save reply step taken)) (says, says)
save-says failed old new (Some commands.SaveAs) reply step taken k =
    let none = none_refuses commands.SaveAs reply step taken in
    let says = here-says (after_save_as old) (not_in_group old (or_none (free commands.SaveAs old none)).0) in
    subst (λ (m : Machine). (is_as_updated m ≡ true) × (is_as_saved m ≡ true)) (same_machine (answered commands.SaveAs reply step taken)) (says, says)
save-says failed old new _ reply step taken k = absurd (cc k)

revert-says : (failed : Bool) (old new : Machine) (request : Request) (reply : Reply) → Step failed old request reply new → is_refused reply ≡ false → is_revert request ≡ true
    → (is_as_updated new ≡ true) × (is_as_saved new ≡ true)
revert-says failed old new (Some commands.Revert) reply step taken k =
    let none = none_refuses commands.Revert reply step taken in
    let says = here-says (after_revert old) (not_in_group old (or_none (free commands.Revert old none)).0) in
    subst (λ (m : Machine). (is_as_updated m ≡ true) × (is_as_saved m ≡ true)) (same_machine (answered commands.Revert reply step taken)) (says, says)
revert-says failed old new _ reply step taken k = absurd (cc k)

opened-right : (updated saved : Document) (one : Bool) (sequence frames : ℕ) (target : Bool) → (one ≡ true → saved ≡ updated)
    → AreRightPositions (opened_machine updated saved one sequence frames target)
opened-right updated saved true sequence frames target same = record { updated = refl; saved = ap Some (sym (same refl)) }
opened-right updated saved false sequence frames target same = record { updated = refl; saved = tt }

opening-says : (updated saved : Document) (one : Bool) (sequence frames : ℕ) (target : Bool)
    → (is_as_updated (opened_machine updated saved one sequence frames target) ≡ true) × (is_as_saved (opened_machine updated saved one sequence frames target) ≡ one)
opening-says updated saved true sequence frames target = (refl, refl)
opening-says updated saved false sequence frames target = (refl, refl)

undone-here : (p : Position) → position_after_redo (position_after_undo p) ≡ p
undone-here (Back zero) = refl
undone-here (Back (suc n)) = refl
undone-here (Ahead n) = refl
undone-here Nowhere = refl

redone-here : (p : Position) → position_after_undo (position_after_redo p) ≡ p
redone-here (Back n) = refl
redone-here (Ahead zero) = refl
redone-here (Ahead (suc n)) = refl
redone-here Nowhere = refl

-- An undo and a redo move the positions by one step.

undo-moves : (past : List UndoStep) (m : Machine)
    → OnDone (λ reply new. (new.updated_at ≡ position_after_undo m.updated_at) × (new.saved_at ≡ position_after_undo m.saved_at)) (option_map (λ new. (Accepted, new)) (undone m past))
undo-moves [] m = tt
undo-moves (s ∷ past) m = (refl, refl)

redo-moves : (future : List UndoStep) (m : Machine)
    → OnDone (λ reply new. (new.updated_at ≡ position_after_redo m.updated_at) × (new.saved_at ≡ position_after_redo m.saved_at)) (option_map (λ new. (Accepted, new)) (redone m future))
redo-moves [] m = tt
redo-moves (s ∷ future) m = (refl, refl)

step-undone : (failed : Bool) (old new : Machine) → Step failed old (Some commands.Undo) Accepted new
    → (new.updated_at ≡ position_after_undo old.updated_at) × (new.saved_at ≡ position_after_undo old.saved_at)
step-undone failed old new step =
    on_done (λ reply new. (new.updated_at ≡ position_after_undo old.updated_at) × (new.saved_at ≡ position_after_undo old.saved_at)) (done_by commands.Undo old) Accepted new
    (undo-moves old.past old) (answered commands.Undo Accepted step refl)

step-redone : (failed : Bool) (old new : Machine) → Step failed old (Some commands.Redo) Accepted new
    → (new.updated_at ≡ position_after_redo old.updated_at) × (new.saved_at ≡ position_after_redo old.saved_at)
step-redone failed old new step =
    on_done (λ reply new. (new.updated_at ≡ position_after_redo old.updated_at) × (new.saved_at ≡ position_after_redo old.saved_at)) (done_by commands.Redo old) Accepted new
    (redo-moves old.future old) (answered commands.Redo Accepted step refl)

undone-back : (failed failed_back : Bool) (old mid new : Machine) → Step failed old (Some commands.Undo) Accepted mid → Step failed_back mid (Some commands.Redo) Accepted new → SamePositions old new
undone-back failed failed_back old mid new undo redo =
    let there = step-undone failed old mid undo in
    let here = step-redone failed_back mid new redo in
    record {
      updated = here.0 ∙ ap position_after_redo there.0 ∙ undone-here old.updated_at;
      saved = here.1 ∙ ap position_after_redo there.1 ∙ undone-here old.saved_at;
    }

redone-back : (failed failed_back : Bool) (old mid new : Machine) → Step failed old (Some commands.Redo) Accepted mid → Step failed_back mid (Some commands.Undo) Accepted new → SamePositions old new
redone-back failed failed_back old mid new redo undo =
    let there = step-redone failed old mid redo in
    let here = step-undone failed_back mid new undo in
    record {
      updated = here.0 ∙ ap position_after_undo there.0 ∙ redone-here old.updated_at;
      saved = here.1 ∙ ap position_after_undo there.1 ∙ redone-here old.saved_at;
    }

-- What moves nothing leaves them.

abbrev LeavesPositions : Machine → Reply → Machine → Type 0
LeavesPositions m reply new = SamePositions m new

abandon-leaves : (m : Machine) (group : Option OpenGroup) → OnDone (LeavesPositions m) (option_map (λ g. (Accepted, abandoned g m)) group)
abandon-leaves m None = tt
abandon-leaves m (Some g) = record { updated = refl; saved = refl }

stays-leaves : (m : Machine) (o : Option (Reply × Machine)) → OnDone (IsAt m) o → OnDone (LeavesPositions m) o
stays-leaves m None at = tt
stays-leaves m (Some (reply, new)) at = record { updated = ap (λ (x : Machine). x.updated_at) at; saved = ap (λ (x : Machine). x.saved_at) at }

done_by-leaves : (c : Command) (m : Machine) → may_change_positions (Some c) ≡ false → OnDone (LeavesPositions m) (done_by c m)
done_by-leaves (commands.Edit e) m h = absurd (cc h)
done_by-leaves commands.Undo m h = absurd (cc h)
done_by-leaves commands.Redo m h = absurd (cc h)
done_by-leaves commands.End m h = absurd (cc h)
done_by-leaves commands.Join m h = absurd (cc h)
done_by-leaves (commands.Forget most) m h = absurd (cc h)
done_by-leaves commands.Update m h = absurd (cc h)
done_by-leaves commands.Save m h = absurd (cc h)
done_by-leaves commands.SaveAs m h = absurd (cc h)
done_by-leaves commands.Revert m h = absurd (cc h)
done_by-leaves commands.Begin m h = record { updated = refl; saved = refl }
done_by-leaves commands.Abandon m h = abandon-leaves m m.group
done_by-leaves (commands.Name name) m h = record { updated = refl; saved = refl }
done_by-leaves (commands.Lock b) m h = record { updated = refl; saved = refl }
done_by-leaves (commands.Unlock b) m h = record { updated = refl; saved = refl }
done_by-leaves c m h = stays-leaves m (done_by c m) (done_by-stays c m refl)

step-leaves : (failed : Bool) (old new : Machine) (request : Request) (reply : Reply) → Step failed old request reply new → may_change_positions request ≡ false → SamePositions old new
step-leaves failed old new request reply step h = elim (cases_Bool (is_refused reply)) [
  | inl out ↦ let is = refused request reply step out in record { updated = ap (λ (x : Machine). x.updated_at) is; saved = ap (λ (x : Machine). x.saved_at) is }
  | inr taken ↦ by_request request step h taken
]
  where
    by_request : (asked : Request) → Step failed old asked reply new → may_change_positions asked ≡ false → is_refused reply ≡ false → SamePositions old new
    by_request None step h taken = absurd (bad_line-refused reply step taken)
    by_request (Some c) step h taken = on_done (LeavesPositions old) (done_by c old) reply new (done_by-leaves c old h) (answered c reply step taken)

-- Nothing refuses the question.
told : (failed : Bool) (old new : Machine) (reply : Reply) → Step failed old (Some commands.Modified) reply new → reply ≡ NumberIs (stands_as old)
told failed old new reply (inl is) = sym (same_reply is)
told failed old new reply (inr out) = absurd (cc (gives_up out.fault out.may))
  where
    gives_up : (fault : Fault) → may_give_up failed commands.Modified old fault ≡ true → false ≡ true
    gives_up Memory may = may
    gives_up File may = (both_true failed false may).1
    gives_up _ may = absurd (cc may)

pub standing_law : StandingLaw
standing_law = record {
  start = λ frames target. record { updated = refl; saved = refl };
  opened = opened-right;
  run = run-right;
  updated = λ m valid right says. says-committed m.updated_at m m.updated valid right.updated says;
  saved = λ m valid right says. says-committed m.saved_at m m.saved valid right.saved says;
  after_update = update-says;
  after_save = save-says;
  after_revert = revert-says;
  after_opening = opening-says;
  undone = undone-back;
  redone = redone-back;
  leaves = step-leaves;
  tells = told;
}
