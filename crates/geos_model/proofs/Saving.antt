-- What a save keeps, only another save takes away.
use Rattle.std.proofs.Common.{◌≡◌, ℕ, List, [], ◌∷◌, Bool, true, false, not, ◌&&◌, Option, Some, None, refl, sym, ap, ◌∙◌, inl, inr}
use Rattle.std.proofs.lemmas.Bool.{cases_Bool}
use Rattle.std.specs.Option.{option_map}
use Rattle.geos_model.specs.Document.{Document}
use Rattle.geos_model.specs.Meaning.{effect}
use Rattle.geos_model.specs.Cost.{cost}
use Rattle.geos_model.specs.Reply.{Reply, Accepted}
use Rattle.geos_model.specs.Machine.{Machine, Request, UndoStep, OpenGroup, Call, Step, Run, done_by, recorded, undone, redone, ended, abandoned, kind_of}
use Rattle.geos_model.specs.Undoing.{is_refused, is_revert, is_accepted, accepted}
use Rattle.geos_model.specs.Saving.{is_save, SaveLaw}
use Rattle.geos_model.specs.declared.command.Kind.{Kind}
use Rattle.geos_model.specs.declared.command.Command.{Command}
use Rattle.geos_model.specs.declared.command.Command.TheVariants as commands
use Rattle.geos_model.specs.Places.{places_of}
use Rattle.geos_model.specs.declared.place.Place.{Place}
use Rattle.geos_model.proofs.Undoing.{OnDone, IsAt, on_done, done_by-stays, same_machine, refused, bad_line-refused, answered}

-- The saved document is that of this one.
abbrev HasSaved : Machine → Reply → Machine → Type 0
HasSaved m reply new = new.saved ≡ m.saved

at-has_saved : (m : Machine) (o : Option (Reply × Machine)) → OnDone (IsAt m) o → OnDone (HasSaved m) o
at-has_saved m None at = tt
at-has_saved m (Some (reply, new)) at = ap (λ (n : Machine). n.saved) at

recorded-has_saved : (group : Option OpenGroup) (kind : Kind) (n : ℕ) (ps : List Place) (d : Document) (m : Machine) → (recorded group kind n ps d m).saved ≡ m.saved
recorded-has_saved None kind n ps d m = refl
recorded-has_saved (Some g) kind n ps d m = refl

closed-has_saved : (m : Machine) (new : OpenGroup → Machine) (group : Option OpenGroup) → ((g : OpenGroup) → (new g).saved ≡ m.saved)
    → OnDone (HasSaved m) (option_map (λ g. (Accepted, new g)) group)
closed-has_saved m new None same = tt
closed-has_saved m new (Some g) same = same g

undone-has_saved : (m : Machine) (past : List UndoStep) → OnDone (HasSaved m) (option_map (λ new. (Accepted, new)) (undone m past))
undone-has_saved m [] = tt
undone-has_saved m (s ∷ past) = refl

redone-has_saved : (m : Machine) (future : List UndoStep) → OnDone (HasSaved m) (option_map (λ new. (Accepted, new)) (redone m future))
redone-has_saved m [] = tt
redone-has_saved m (s ∷ future) = refl

-- a command that is no save leaves what was saved
done_by-has_saved : (c : Command) (m : Machine) → is_save (Some c) ≡ false → OnDone (HasSaved m) (done_by c m)
done_by-has_saved (commands.Edit e) m h = recorded-has_saved m.group (kind_of e) (cost e m.document (effect e m.document).0) (places_of e m.document) (effect e m.document).0 m
done_by-has_saved commands.Undo m h = undone-has_saved m m.past
done_by-has_saved commands.Redo m h = redone-has_saved m m.future
done_by-has_saved commands.Begin m h = refl
done_by-has_saved commands.End m h = closed-has_saved m (λ g. ended g m) m.group (λ g. refl)
done_by-has_saved commands.Abandon m h = closed-has_saved m (λ g. abandoned g m) m.group (λ g. refl)
done_by-has_saved commands.Join m h = refl
done_by-has_saved (commands.Forget most) m h = refl
done_by-has_saved commands.Update m h = refl
done_by-has_saved commands.Save m h = absurd (cc h)
done_by-has_saved commands.Revert m h = refl
done_by-has_saved commands.SaveAs m h = absurd (cc h)
done_by-has_saved (commands.Name name) m h = refl
done_by-has_saved (commands.Lock b) m h = refl
done_by-has_saved (commands.Unlock b) m h = refl
done_by-has_saved c m h = at-has_saved m (done_by c m) (done_by-stays c m refl)

request-has_saved : {failed : Bool} {old new : Machine} (request : Request) (reply : Reply) → Step failed old request reply new → is_refused reply ≡ false → is_save request ≡ false
    → new.saved ≡ old.saved
request-has_saved None reply step is h = absurd (bad_line-refused reply step is)
request-has_saved {old = old} {new = new} (Some c) reply step is h = on_done (HasSaved old) (done_by c old) reply new (done_by-has_saved c old h) (answered c reply step is)

-- a call that is no accepted save leaves what was saved, by whether it was refused
call-has_saved : (b : Bool) {old new : Machine} (c : Call) → Step c.failed old c.request c.reply new → is_refused c.reply ≡ b → (not b && is_save c.request) ≡ false → new.saved ≡ old.saved
call-has_saved true c step is h = ap (λ (m : Machine). m.saved) (refused c.request c.reply step is)
call-has_saved false c step is h = request-has_saved c.request c.reply step is h

run-has_saved : (calls : List Call) (old new : Machine) → accepted is_save calls ≡ 0 → Run old calls new → new.saved ≡ old.saved
run-has_saved [] old new none run = ap (λ (m : Machine). m.saved) run
run-has_saved (c ∷ cs) old new none run = elim (cases_Bool (is_accepted is_save c)) [
  | inl saves ↦ absurd (cc (rw saves at none))
  | inr other ↦ run-has_saved cs run.0 new (rw other at none) run.2 ∙ call-has_saved (is_refused c.reply) c run.1 refl other
]

save-keeps : (failed : Bool) (old new : Machine) (request : Request) (reply : Reply) → Step failed old request reply new
    → is_refused reply ≡ false → is_save request ≡ true → (new.saved ≡ old.document) × (new.document ≡ old.document)
save-keeps failed old new (Some commands.Save) reply step h k =
    let is = same_machine (answered commands.Save reply step h) in
    (sym (ap (λ (m : Machine). m.saved) is), sym (ap (λ (m : Machine). m.document) is))
save-keeps failed old new (Some commands.SaveAs) reply step h k =
    let is = same_machine (answered commands.SaveAs reply step h) in
    (sym (ap (λ (m : Machine). m.saved) is), sym (ap (λ (m : Machine). m.document) is))
save-keeps failed old new _ reply step h k = absurd (cc k)

revert-gives : (failed : Bool) (old late new : Machine) (calls : List Call) (request : Request) (reply : Reply) → Run old calls late → Step failed late request reply new
    → accepted is_save calls ≡ 0 → is_refused reply ≡ false → is_revert request ≡ true
    → (new.document ≡ old.saved) × (new.past ≡ []) × (new.future ≡ [])
revert-gives failed old late new calls (Some commands.Revert) reply run step none h k =
    let is = same_machine (answered commands.Revert reply step h) in
    (sym (ap (λ (m : Machine). m.document) is) ∙ run-has_saved calls old late none run, sym (ap (λ (m : Machine). m.past) is), sym (ap (λ (m : Machine). m.future) is))
revert-gives failed old late new calls _ reply run step none h k = absurd (cc k)

pub save_law : SaveLaw
save_law = record { keeps = save-keeps; gives = revert-gives }
