-- A name goes where its step goes.
use Rattle.std.proofs.Common.{◌≡◌, ◌==◌, ◌++◌, ℕ, zero, suc, List, [], ◌∷◌, length, take, drop, Bool, false, if◌then◌else◌, Option, Some, None, refl, sym, ap, subst, ◌∙◌, inl, inr, arith}
use Rattle.std.proofs.lemmas.Bool.{cases_Bool}
use Rattle.std.specs.Option.{option_map}
use Rattle.geos_model.specs.Refusal.{first_refusal}
use Rattle.geos_model.specs.Document.{Document}
use Rattle.geos_model.specs.Meaning.{effect}
use Rattle.geos_model.specs.Cost.{cost}
use Rattle.geos_model.specs.Reply.{Reply, Accepted, BytesAre}
use Rattle.geos_model.specs.Machine.{Machine, OpenGroup, Call, Step, UndoStep, abandoned, after_forget, command_conditions, done_by, ended, first_name, joined_names, joined_steps, kind_of, limited, opened_machine, recorded, redone, undone, with_undo_limit}
use Rattle.geos_model.specs.Naming.{AreNamed, FirstOf, GoesOver, NamesLaw}
use Rattle.geos_model.specs.Places.{places_of}
use Rattle.geos_model.specs.Touching.{Calls}
use Rattle.geos_model.specs.Undoing.{is_refused}
use Rattle.geos_model.specs.declared.fault.Fault.TheVariants.{NothingToUndo}
use Rattle.geos_model.specs.declared.command.Edit.{Edit}
use Rattle.geos_model.specs.declared.command.Kind.{Kind}
use Rattle.geos_model.specs.declared.command.Kind.TheVariants.{Group}
use Rattle.geos_model.specs.declared.command.Command.{Command}
use Rattle.geos_model.specs.declared.command.Command.TheVariants as commands
use Rattle.geos_model.specs.declared.place.Place.{Place}
use Rattle.geos_model.proofs.Failing.{failing_law}
use Rattle.geos_model.proofs.Refusals.{none_applies, or_none}
use Rattle.geos_model.proofs.Undoing.{OnDone, IsAt, answered, bad_line-refused, done_by-stays, none_refuses, on_done, refused, same_machine, same_reply}

-- As many as there are.

taken-many : {A B : Type 0} (n : ℕ) (xs : List A) (ys : List B) → length xs ≡ length ys → length (take n xs) ≡ length (take n ys)
taken-many zero xs ys same = refl
taken-many (suc n) [] [] same = refl
taken-many (suc n) [] (y ∷ ys) same = absurd (cc same)
taken-many (suc n) (x ∷ xs) [] same = absurd (cc same)
taken-many (suc n) (x ∷ xs) (y ∷ ys) same = let rest = taken-many n xs ys (omega (arith, same)) in omega (arith, rest)

limited-many : {A B : Type 0} (limit : Option ℕ) (xs : List A) (ys : List B) → length xs ≡ length ys → length (limited limit xs) ≡ length (limited limit ys)
limited-many None xs ys same = same
limited-many (Some most) xs ys same = taken-many most xs ys same

joined-many : (names : List (List ℕ)) (steps : List UndoStep) → length names ≡ length steps → length (joined_names names) ≡ length (joined_steps steps)
joined-many [] [] same = refl
joined-many [] (s ∷ steps) same = absurd (cc same)
joined-many (n ∷ names) [] same = absurd (cc same)
joined-many (n ∷ []) (s ∷ []) same = refl
joined-many (n ∷ []) (s ∷ r ∷ steps) same = absurd (omega (arith, same))
joined-many (n ∷ o ∷ names) (s ∷ []) same = absurd (omega (arith, same))
joined-many (n ∷ o ∷ names) (s ∷ r ∷ steps) same = omega (arith, same)

abbrev HasNames : Reply → Machine → Type 0
HasNames reply new = AreNamed new

one_more : {A B : Type 0} (x : A) (xs : List A) (y : B) (ys : List B) → length xs ≡ length ys → length (x ∷ xs) ≡ length (y ∷ ys)
one_more x xs y ys same = omega (arith, same)

recorded-named : (group : Option OpenGroup) (kind : Kind) (n : ℕ) (ps : List Place) (d : Document) (m : Machine) → AreNamed m → AreNamed (recorded group kind n ps d m)
recorded-named None kind n ps d m named =
    let step : UndoStep = record { kind = kind; cost = n; document = m.document; places = ps } in
    record { past = limited-many m.undo_limit ([] ∷ m.past_names) (step ∷ m.past) (one_more [] m.past_names step m.past named.past); future = refl }
recorded-named (Some g) kind n ps d m named = record { past = named.past; future = refl }

ended-named : (m : Machine) (group : Option OpenGroup) → AreNamed m → OnDone HasNames (option_map (λ g. (Accepted, ended g m)) group)
ended-named m None named = tt
ended-named m (Some g) named =
    let step : UndoStep = record { kind = Group; cost = g.cost; document = g.before; places = g.places } in
    elim (cases_Bool g.edited) [
      | inl some ↦
          let more = limited-many m.undo_limit ([] ∷ m.past_names) (step ∷ m.past) (one_more [] m.past_names step m.past named.past) in
          record { past = rw some more; future = named.future }
      | inr none ↦ record { past = rw none named.past; future = named.future }
    ]

abandoned-named : (m : Machine) (group : Option OpenGroup) → AreNamed m → OnDone HasNames (option_map (λ g. (Accepted, abandoned g m)) group)
abandoned-named m None named = tt
abandoned-named m (Some g) named = record { past = named.past; future = named.future }

-- the first name goes over where there is one
over-left : (s : UndoStep) (steps : List UndoStep) (names : List (List ℕ)) → length names ≡ length (s ∷ steps) → length (drop 1 names) ≡ length steps
over-left s steps [] same = absurd (cc same)
over-left s steps (n ∷ names) same = omega (arith, same)

over-got : (s : UndoStep) (steps others : List UndoStep) (names to : List (List ℕ)) → length names ≡ length (s ∷ steps) → length to ≡ length others
    → length (take 1 names ++ to) ≡ length (s ∷ others)
over-got s steps others [] to same same_to = absurd (cc same)
over-got s steps others (n ∷ names) to same same_to = omega (arith, same_to)

undone-named : (m : Machine) (past : List UndoStep) → m.past ≡ past → AreNamed m → OnDone HasNames (option_map (λ new. (Accepted, new)) (undone m past))
undone-named m [] is named = tt
undone-named m (s ∷ past) is named =
    let many : length m.past_names ≡ length (s ∷ past) = named.past ∙ ap (λ (l : List UndoStep). length l) is in
    record { past = over-left s past m.past_names many; future = over-got s past m.future m.past_names m.future_names many named.future }

redone-named : (m : Machine) (future : List UndoStep) → m.future ≡ future → AreNamed m → OnDone HasNames (option_map (λ new. (Accepted, new)) (redone m future))
redone-named m [] is named = tt
redone-named m (s ∷ future) is named =
    let many : length m.future_names ≡ length (s ∷ future) = named.future ∙ ap (λ (l : List UndoStep). length l) is in
    record { past = over-got s future m.past m.future_names m.past_names many named.past; future = over-left s future m.future_names many }

-- a step is named where there is one
renamed-many : (name : List ℕ) (names : List (List ℕ)) (steps : List UndoStep) → (length steps == 0) ≡ false → length names ≡ length steps
    → length (name ∷ drop 1 names) ≡ length steps
renamed-many name names [] some same = absurd (cc some)
renamed-many name [] (s ∷ steps) some same = absurd (cc same)
renamed-many name (n ∷ names) (s ∷ steps) some same = omega (arith, same)

stays-named : (m : Machine) (o : Option (Reply × Machine)) → AreNamed m → OnDone (IsAt m) o → OnDone HasNames o
stays-named m None named at = tt
stays-named m (Some (reply, new)) named at = subst AreNamed (sym at) named

done_by-named : (c : Command) (m : Machine) → first_refusal (command_conditions c m) ≡ None → AreNamed m → OnDone HasNames (done_by c m)
done_by-named (commands.Edit e) m none named = recorded-named m.group (kind_of e) (cost e m.document (effect e m.document).0) (places_of e m.document) (effect e m.document).0 m named
done_by-named commands.Undo m none named = undone-named m m.past refl named
done_by-named commands.Redo m none named = redone-named m m.future refl named
done_by-named commands.Begin m none named = record { past = named.past; future = named.future }
done_by-named commands.End m none named = ended-named m m.group named
done_by-named commands.Abandon m none named = abandoned-named m m.group named
done_by-named commands.Join m none named = record { past = joined-many m.past_names m.past named.past; future = named.future }
done_by-named (commands.Forget most) m none named = record { past = taken-many most m.past_names m.past named.past; future = named.future }
done_by-named (commands.Name name) m none named =
    let some = (or_none (none_applies (command_conditions (commands.Name name) m) none NothingToUndo refl)).0 in
    record { past = renamed-many name m.past_names m.past some named.past; future = named.future }
done_by-named commands.Update m none named = record { past = named.past; future = named.future }
done_by-named commands.Save m none named = record { past = named.past; future = named.future }
done_by-named commands.Revert m none named = record { past = refl; future = refl }
done_by-named commands.SaveAs m none named = record { past = named.past; future = named.future }
done_by-named (commands.Lock b) m none named = record { past = named.past; future = named.future }
done_by-named (commands.Unlock b) m none named = record { past = named.past; future = named.future }
done_by-named c m none named = stays-named m (done_by c m) named (done_by-stays c m refl)

taken-named : (failed : Bool) (old new : Machine) (request : Option Command) (reply : Reply) → Step failed old request reply new → is_refused reply ≡ false
    → AreNamed old → AreNamed new
taken-named failed old new None reply step taken named = absurd (bad_line-refused reply step taken)
taken-named failed old new (Some c) reply step taken named =
    on_done HasNames (done_by c old) reply new (done_by-named c old (none_refuses c reply step taken) named) (answered c reply step taken)

call-named : (c : Call) (old new : Machine) → Step c.failed old c.request c.reply new → AreNamed old → AreNamed new
call-named c old new step named = elim (cases_Bool (is_refused c.reply)) [
  | inl out ↦ subst AreNamed (sym (refused c.request c.reply step out)) named
  | inr taken ↦ taken-named c.failed old new c.request c.reply step taken named
]

calls-named : (cs : List (Option Call)) (old new : Machine) → Calls old cs new → AreNamed old → AreNamed new
calls-named [] old new run named = subst AreNamed (sym run) named
calls-named (Some c ∷ cs) old new run named = calls-named cs run.0 new run.2 (call-named c old run.0 run.1 named)
calls-named (None ∷ cs) old new run named = calls-named cs (with_undo_limit run.0 old) new run.1 (record { past = named.past; future = named.future })

-- What each call does with names.

name-law : (failed : Bool) (old new : Machine) (name : List ℕ) (reply : Reply) → Step failed old (Some (commands.Name name)) reply new → is_refused reply ≡ false
    → new ≡ record old { past_names = name ∷ drop 1 old.past_names }
name-law failed old new name reply step taken = sym (same_machine (answered (commands.Name name) reply step taken))

answers-law : (failed : Bool) (old new : Machine) (name : List ℕ) (others : List (List ℕ)) (reply : Reply) → FirstOf name others old.past_names
    → Step failed old (Some commands.UndoName) reply new → is_refused reply ≡ false → reply ≡ BytesAre name
answers-law failed old new name others reply first step taken =
    sym (same_reply (answered commands.UndoName reply step taken)) ∙ ap (λ (l : List (List ℕ)). BytesAre (first_name l)) first

answers_ahead-law : (failed : Bool) (old new : Machine) (name : List ℕ) (others : List (List ℕ)) (reply : Reply) → FirstOf name others old.future_names
    → Step failed old (Some commands.RedoName) reply new → is_refused reply ≡ false → reply ≡ BytesAre name
answers_ahead-law failed old new name others reply first step taken =
    sym (same_reply (answered commands.RedoName reply step taken)) ∙ ap (λ (l : List (List ℕ)). BytesAre (first_name l)) first

over : (s : UndoStep) (steps : List UndoStep) (from to : List (List ℕ)) → length from ≡ length (s ∷ steps) → GoesOver from (drop 1 from) to (take 1 from ++ to)
over s steps [] to same = absurd (cc same)
over s steps (n ∷ names) to same = (n, refl, refl)

abbrev TakesAlong : Machine → Reply → Machine → Type 0
TakesAlong old reply new = GoesOver old.past_names new.past_names old.future_names new.future_names

abbrev BringsBack : Machine → Reply → Machine → Type 0
BringsBack old reply new = GoesOver old.future_names new.future_names old.past_names new.past_names

undone-over : (m : Machine) (past : List UndoStep) → m.past ≡ past → AreNamed m → OnDone (TakesAlong m) (option_map (λ new. (Accepted, new)) (undone m past))
undone-over m [] is named = tt
undone-over m (s ∷ past) is named = over s past m.past_names m.future_names (named.past ∙ ap (λ (l : List UndoStep). length l) is)

redone-over : (m : Machine) (future : List UndoStep) → m.future ≡ future → AreNamed m → OnDone (BringsBack m) (option_map (λ new. (Accepted, new)) (redone m future))
redone-over m [] is named = tt
redone-over m (s ∷ future) is named = over s future m.future_names m.past_names (named.future ∙ ap (λ (l : List UndoStep). length l) is)

undo-law : (failed : Bool) (old new : Machine) (reply : Reply) → AreNamed old → Step failed old (Some commands.Undo) reply new → is_refused reply ≡ false
    → GoesOver old.past_names new.past_names old.future_names new.future_names
undo-law failed old new reply named step taken =
    on_done (TakesAlong old) (done_by commands.Undo old) reply new (undone-over old old.past refl named) (answered commands.Undo reply step taken)

redo-law : (failed : Bool) (old new : Machine) (reply : Reply) → AreNamed old → Step failed old (Some commands.Redo) reply new → is_refused reply ≡ false
    → GoesOver old.future_names new.future_names old.past_names new.past_names
redo-law failed old new reply named step taken =
    on_done (BringsBack old) (done_by commands.Redo old) reply new (redone-over old old.future refl named) (answered commands.Redo reply step taken)

join-law : (failed : Bool) (old new : Machine) (newer older : List ℕ) (others : List (List ℕ)) (reply : Reply) → old.past_names ≡ newer ∷ older ∷ others
    → Step failed old (Some commands.Join) reply new → is_refused reply ≡ false → new.past_names ≡ (if length newer == 0 then older else newer) ∷ others
join-law failed old new newer older others reply is step taken =
    sym (ap (λ (m : Machine). m.past_names) (same_machine (answered commands.Join reply step taken))) ∙ ap joined_names is

forget-law : (failed : Bool) (old new : Machine) (most : ℕ) (reply : Reply) → Step failed old (Some (commands.Forget most)) reply new → new.past_names ≡ take most old.past_names
forget-law failed old new most reply step =
    let taken : is_refused reply ≡ false = ap is_refused (failing_law.forget failed old new most reply step) in
    let is : after_forget most old ≡ new = same_machine (answered (commands.Forget most) reply step taken) in
    sym (ap (λ (m : Machine). m.past_names) is)

recorded-names : (group : Option OpenGroup) (kind : Kind) (n : ℕ) (ps : List Place) (d : Document) (m : Machine) → group ≡ None → m.undo_limit ≡ None
    → (recorded group kind n ps d m).past_names ≡ [] ∷ m.past_names
recorded-names None kind n ps d m none unlimited = ap (λ (limit : Option ℕ). limited limit ([] ∷ m.past_names)) unlimited
recorded-names (Some g) kind n ps d m none unlimited = absurd (cc none)

edit-law : (failed : Bool) (old new : Machine) (e : Edit) (reply : Reply) → old.group ≡ None → old.undo_limit ≡ None → Step failed old (Some (commands.Edit e)) reply new
    → is_refused reply ≡ false → new.past_names ≡ [] ∷ old.past_names
edit-law failed old new e reply free unlimited step taken =
    let d : Document = (effect e old.document).0 in
    let is : recorded old.group (kind_of e) (cost e old.document d) (places_of e old.document) d old ≡ new = same_machine (answered (commands.Edit e) reply step taken) in
    sym (ap (λ (m : Machine). m.past_names) is) ∙ recorded-names old.group (kind_of e) (cost e old.document d) (places_of e old.document) d old free unlimited

pub names_law : NamesLaw
names_law = record {
  as_many = λ updated saved one sequence frames target calls m run.
      calls-named calls (opened_machine updated saved one sequence frames target) m run (record { past = refl; future = refl });
  name = name-law;
  answers = answers-law;
  answers_ahead = answers_ahead-law;
  undo = undo-law;
  redo = redo-law;
  join = join-law;
  forget = forget-law;
  edit = edit-law;
}
