-- What is told of each call is what it changes.
use Rattle.std.proofs.Common.{◌≡◌, ◌⊎◌, ℕ, zero, suc, ◌==◌, ◌&&◌, List, [], ◌∷◌, take, length, nat_lt, Bool, true, false, not, Option, Some, None, refl, sym, ap, subst, ◌∙◌, inl, inr, arith}
use Rattle.std.proofs.lemmas.Bool.{cases_Bool, true≢false}
use Rattle.std.proofs.lemmas.Bool.Decides.{nat_tests}
use Rattle.std.specs.Option.{option_map, option_map_or}
use Rattle.geos_model.specs.Refusal.{first_refusal}
use Rattle.geos_model.specs.Document.{Document}
use Rattle.geos_model.specs.Meaning.{conditions, effect}
use Rattle.geos_model.specs.Cost.{cost}
use Rattle.geos_model.specs.Reply.{Reply, Accepted, Refused, PlacesAre}
use Rattle.geos_model.specs.Machine.{Machine, Request, Call, UndoStep, OpenGroup, Step, GivesUp, may_give_up, calls_store, in_group, is_barred, has_no_room, edit_needs, command_conditions, done_by, recorded, undone, redone, ended, abandoned, kind_of, limited, joined_steps, opened_machine, with_undo_limit, undo_places, redo_places, abandon_places}
use Rattle.geos_model.specs.Standing.{outside_group}
use Rattle.geos_model.specs.Undoing.{is_refused}
use Rattle.geos_model.specs.Places.{ChangesAt, places_of, taken_back}
use Rattle.geos_model.specs.Touching.{tells, foretold, is_ahead, IsTold, Calls, TouchedLaw}
use Rattle.geos_model.specs.declared.fault.Fault.{Fault}
use Rattle.geos_model.specs.declared.fault.Fault.TheVariants.{Memory, File, Locked, CacheFull, GroupOpen, NoGroup, NothingToUndo, NothingToRedo}
use Rattle.geos_model.specs.declared.place.Place.{Place}
use Rattle.geos_model.specs.declared.command.Kind.{Kind}
use Rattle.geos_model.specs.declared.command.Kind.TheVariants.{Group}
use Rattle.geos_model.specs.declared.command.Edit.{Edit}
use Rattle.geos_model.specs.declared.command.Command.{Command}
use Rattle.geos_model.specs.declared.command.Command.TheVariants as commands
use Rattle.geos_model.proofs.Refusals.{none_applies, or_none, rest_none}
use Rattle.geos_model.proofs.Undoing.{OnDone, IsAt, on_done, done_by-stays, answered, none_refuses, not_in_group, refused, bad_line-refused, same_reply, same_machine, both_true, answer}
use Rattle.geos_model.proofs.Reaching.{Reaches, reached, reaches-append, reaches-back}
use Rattle.geos_model.proofs.EditsReach.{edit-reaches}
use Rattle.geos_model.proofs.Copies.{stands-filled}

-- Places lead from each document of the past to the one after it, and from each of the future to the next.

abbrev Behind : Document → List UndoStep → Type 0
Behind d [] = Unit {0}
Behind d (s ∷ ss) = Reaches s.places s.document d × Behind s.document ss

abbrev Ahead : Document → List UndoStep → Type 0
Ahead d [] = Unit {0}
Ahead d (s ∷ ss) = Reaches s.places d s.document × Ahead s.document ss

abbrev InGroup : Option OpenGroup → Document → Type 0
InGroup None d = Unit {0}
InGroup (Some g) d = Reaches g.places g.before d × (g.edited ≡ false → d ≡ g.before)

-- with an edit in the open group nothing is left to make again
abbrev Left : Option OpenGroup → List UndoStep → Type 0
Left None ss = Unit {0}
Left (Some g) ss = g.edited ≡ true → ss ≡ []

record AreTold (m : Machine) : Type 0 where
  past : Behind (outside_group m.group m.document) m.past
  future : Ahead m.document m.future
  group : InGroup m.group m.document
  left : Left m.group m.future

-- fewer of the newest steps lead as far
behind-taken : (n : ℕ) (d : Document) (ss : List UndoStep) → Behind d ss → Behind d (take n ss)
behind-taken zero d ss line = tt
behind-taken (suc n) d [] line = tt
behind-taken (suc n) d (s ∷ ss) line = (line.0, behind-taken n s.document ss line.1)

behind-limited : (limit : Option ℕ) (d : Document) (ss : List UndoStep) → Behind d ss → Behind d (limited limit ss)
behind-limited None d ss line = line
behind-limited (Some most) d ss line = behind-taken most d ss line

behind-joined : (d : Document) (ss : List UndoStep) → Behind d ss → Behind d (joined_steps ss)
behind-joined d [] line = tt
behind-joined d (s ∷ []) line = line
behind-joined d (s ∷ r ∷ ss) line = (reaches-append r.places s.places r.document s.document d line.1.0 line.0, line.1.1)

-- What a command comes to: the steps lead on, and what is told is what it changes.
record Goes (c : Command) (m new : Machine) : Type 0 where
  keeps : AreTold new
  told : IsTold (tells (Some c)) m new

-- An edit.

edit-goes : (m : Machine) (e : Edit) (group : Option OpenGroup) (kind : Kind) (n : ℕ) → group ≡ m.group
    → first_refusal (conditions e m.document) ≡ None → AreTold m
    → let new = recorded group kind n (places_of e m.document) (effect e m.document).0 m in
    AreTold new × ChangesAt new.touched m.document new.document
edit-goes m e None kind n is none told =
    let ps : List Place = places_of e m.document in
    let after : Document = (effect e m.document).0 in
    let step : UndoStep = record { kind = kind; cost = n; document = m.document; places = ps } in
    let line : Behind m.document m.past = subst (λ (g : Option OpenGroup). Behind (outside_group g m.document) m.past) (sym is) told.past in (
      record {
        past = subst (λ (g : Option OpenGroup). Behind (outside_group g after) (limited m.undo_limit (step ∷ m.past))) is
            (behind-limited m.undo_limit after (step ∷ m.past) (edit-reaches e m.document none, line));
        future = tt;
        group = subst (λ (g : Option OpenGroup). InGroup g after) is tt;
        left = subst (λ (g : Option OpenGroup). Left g []) is tt;
      },
      reached ps m.document after (edit-reaches e m.document none),
    )
edit-goes m e (Some g) kind n is none told =
    let ps : List Place = places_of e m.document in
    let after : Document = (effect e m.document).0 in
    let held : InGroup (Some g) m.document = subst (λ (x : Option OpenGroup). InGroup x m.document) (sym is) told.group in (
      record {
        past = subst (λ (x : Option OpenGroup). Behind (outside_group x m.document) m.past) (sym is) told.past;
        future = tt;
        group = (reaches-append g.places ps g.before m.document after held.0 (edit-reaches e m.document none), λ none. absurd (cc none));
        left = λ some. refl;
      },
      reached ps m.document after (edit-reaches e m.document none),
    )

-- An undo and a redo, where no group is open.

undo-goes : (m : Machine) (past : List UndoStep) → past ≡ m.past → m.group ≡ None → AreTold m
    → OnDone (λ reply new. Goes commands.Undo m new) (option_map (λ new. (Accepted, new)) (undone m past))
undo-goes m [] is none told = tt
undo-goes m (s ∷ past) is none told =
    let line : Behind m.document (s ∷ past) =
    subst (λ (ss : List UndoStep). Behind m.document ss) (sym is)
    (subst (λ (g : Option OpenGroup). Behind (outside_group g m.document) m.past) none told.past) in
    record {
      keeps = record {
        past = subst (λ (g : Option OpenGroup). Behind (outside_group g s.document) past) (sym none) line.1;
        future = (line.0, told.future);
        group = subst (λ (g : Option OpenGroup). InGroup g s.document) (sym none) tt;
        left = subst (λ (g : Option OpenGroup). Left g (record s { document = m.document } ∷ m.future)) (sym none) tt;
      };
      told = reached (taken_back s.places) m.document s.document (reaches-back s.places s.document m.document line.0);
    }

redo-goes : (m : Machine) (future : List UndoStep) → future ≡ m.future → m.group ≡ None → AreTold m
    → OnDone (λ reply new. Goes commands.Redo m new) (option_map (λ new. (Accepted, new)) (redone m future))
redo-goes m [] is none told = tt
redo-goes m (s ∷ future) is none told =
    let line : Ahead m.document (s ∷ future) = subst (λ (ss : List UndoStep). Ahead m.document ss) (sym is) told.future in
    record {
      keeps = record {
        past = subst (λ (g : Option OpenGroup). Behind (outside_group g s.document) (record s { document = m.document } ∷ m.past)) (sym none)
            (line.0, subst (λ (g : Option OpenGroup). Behind (outside_group g m.document) m.past) none told.past);
        future = line.1;
        group = subst (λ (g : Option OpenGroup). InGroup g s.document) (sym none) tt;
        left = subst (λ (g : Option OpenGroup). Left g future) (sym none) tt;
      };
      told = reached s.places m.document s.document line.0;
    }

-- A group that ends, and one that is abandoned.

end-goes : (m : Machine) (group : Option OpenGroup) → group ≡ m.group → AreTold m
    → OnDone (λ reply new. Goes commands.End m new) (option_map (λ g. (Accepted, ended g m)) group)
end-goes m None is told = tt
end-goes m (Some g) is told =
    let held : InGroup (Some g) m.document = subst (λ (x : Option OpenGroup). InGroup x m.document) (sym is) told.group in
    let line : Behind g.before m.past = subst (λ (x : Option OpenGroup). Behind (outside_group x m.document) m.past) (sym is) told.past in
    let step : UndoStep = record { kind = Group; cost = g.cost; document = g.before; places = g.places } in
    record {
      keeps = record {
        past = elim (cases_Bool g.edited) [
          | inl some ↦ rw some (behind-limited m.undo_limit m.document (step ∷ m.past) (held.0, line))
          | inr none ↦ rw none (subst (λ (d : Document). Behind d m.past) (sym (held.1 none)) line)
        ];
        future = told.future;
        group = tt;
        left = tt;
      };
      told = (refl, refl);
    }

abandon-goes : (m : Machine) (group : Option OpenGroup) → group ≡ m.group → AreTold m
    → OnDone (λ reply new. Goes commands.Abandon m new) (option_map (λ g. (Accepted, abandoned g m)) group)
abandon-goes m None is told = tt
abandon-goes m (Some g) is told =
    let held : InGroup (Some g) m.document = subst (λ (x : Option OpenGroup). InGroup x m.document) (sym is) told.group in
    record {
      keeps = record {
        past = subst (λ (x : Option OpenGroup). Behind (outside_group x m.document) m.past) (sym is) told.past;
        future = elim (cases_Bool g.edited) [
          | inl some ↦
              let nothing : m.future ≡ [] = (subst (λ (x : Option OpenGroup). Left x m.future) (sym is) told.left) some in
              subst (λ (ss : List UndoStep). Ahead g.before ss) (sym nothing) tt
          | inr none ↦ subst (λ (d : Document). Ahead d m.future) (held.1 none) told.future
        ];
        group = tt;
        left = tt;
      };
      told = reached (taken_back g.places) m.document g.before (reaches-back g.places g.before m.document held.0);
    }

-- Each command.

same-goes : (c : Command) (m : Machine) (o : Option (Reply × Machine)) → tells (Some c) ≡ false → AreTold m → OnDone (IsAt m) o
    → OnDone (λ reply new. Goes c m new) o
same-goes c m None off told at = tt
same-goes c m (Some (reply, new)) off told at = record {
  keeps = subst AreTold (sym at) told;
  told = subst (λ b. IsTold b m new) (sym off) (ap (λ (x : Machine). x.document) at, ap (λ (x : Machine). x.touched) at);
}

rest_two : (m : Machine) (e : Edit) → first_refusal (command_conditions (commands.Edit e) m) ≡ None → first_refusal (conditions e m.document) ≡ None
rest_two m e none = rest_none (CacheFull, has_no_room m (edit_needs e)) (conditions e m.document) (rest_none (Locked, is_barred e m) ((CacheFull, has_no_room m (edit_needs e)) ∷ conditions e m.document) none)

done-goes : (c : Command) (m : Machine) → first_refusal (command_conditions c m) ≡ None → AreTold m → OnDone (λ reply new. Goes c m new) (done_by c m)
done-goes (commands.Edit e) m none told =
    let gone = edit-goes m e m.group (kind_of e) (cost e m.document (effect e m.document).0) refl (rest_two m e none) told in
    record { keeps = gone.0; told = gone.1 }
done-goes commands.Undo m none told =
    undo-goes m m.past refl (not_in_group m (or_none (none_applies (command_conditions commands.Undo m) none GroupOpen refl)).0) told
done-goes commands.Redo m none told =
    redo-goes m m.future refl (not_in_group m (or_none (none_applies (command_conditions commands.Redo m) none GroupOpen refl)).0) told
done-goes commands.Begin m none told =
    let shut : m.group ≡ None = not_in_group m (or_none (none_applies (command_conditions commands.Begin m) none GroupOpen refl)).0 in
    record {
      keeps = record {
        past = subst (λ (g : Option OpenGroup). Behind (outside_group g m.document) m.past) shut told.past;
        future = told.future;
        group = (refl, λ e. refl);
        left = λ some. absurd (cc some);
      };
      told = (refl, refl);
    }
done-goes commands.End m none told = end-goes m m.group refl told
done-goes commands.Abandon m none told = abandon-goes m m.group refl told
done-goes commands.Join m none told = record {
  keeps = record { past = behind-joined (outside_group m.group m.document) m.past told.past; future = told.future; group = told.group; left = told.left };
  told = (refl, refl);
}
done-goes (commands.Forget most) m none told = record {
  keeps = record { past = behind-taken most (outside_group m.group m.document) m.past told.past; future = told.future; group = told.group; left = told.left };
  told = (refl, refl);
}
done-goes commands.Revert m none told =
    let shut : m.group ≡ None = not_in_group m (or_none (none_applies (command_conditions commands.Revert m) none GroupOpen refl)).0 in
    record {
      keeps = record {
        past = tt;
        future = tt;
        group = subst (λ (g : Option OpenGroup). InGroup g m.saved) (sym shut) tt;
        left = subst (λ (g : Option OpenGroup). Left g []) (sym shut) tt;
      };
      told = record { map_block = tt; attributes = λ b. tt; text = λ b c. tt };
    }
done-goes commands.Update m none told = record { keeps = record { past = told.past; future = told.future; group = told.group; left = told.left }; told = (refl, refl) }
done-goes commands.Save m none told = record { keeps = record { past = told.past; future = told.future; group = told.group; left = told.left }; told = (refl, refl) }
done-goes commands.SaveAs m none told = record { keeps = record { past = told.past; future = told.future; group = told.group; left = told.left }; told = (refl, refl) }
done-goes (commands.Name name) m none told = record { keeps = record { past = told.past; future = told.future; group = told.group; left = told.left }; told = (refl, refl) }
done-goes (commands.Lock b) m none told = record { keeps = record { past = told.past; future = told.future; group = told.group; left = told.left }; told = (refl, refl) }
done-goes (commands.Unlock b) m none told = record { keeps = record { past = told.past; future = told.future; group = told.group; left = told.left }; told = (refl, refl) }
done-goes c m none told = same-goes c m (done_by c m) refl told (done_by-stays c m refl)

-- Each call.

record Went (c : Call) (old new : Machine) : Type 0 where
  keeps : AreTold new
  told : IsTold (not (is_refused c.reply) && tells c.request) old new

stayed : (c : Call) (old new : Machine) → new ≡ old → (not (is_refused c.reply) && tells c.request) ≡ false → AreTold old → Went c old new
stayed c old new is off told = record {
  keeps = subst AreTold (sym is) told;
  told = subst (λ b. IsTold b old new) (sym off) (ap (λ (x : Machine). x.document) is, ap (λ (x : Machine). x.touched) is);
}

call-goes : (c : Call) (old new : Machine) → Step c.failed old c.request c.reply new → AreTold old → Went c old new
call-goes c old new step told = elim (cases_Bool (is_refused c.reply)) [
  | inl out ↦ stayed c old new (refused c.request c.reply step out) (ap (λ b. not b && tells c.request) out) told
  | inr taken ↦ let went = by_request c.request step taken in record { keeps = went.0; told = went.1 }
]
  where
    by_request : (asked : Request) → Step c.failed old asked c.reply new → is_refused c.reply ≡ false
        → AreTold new × IsTold (not (is_refused c.reply) && tells asked) old new
    by_request None step taken = absurd (bad_line-refused c.reply step taken)
    by_request (Some k) step taken =
        let goes = on_done (λ reply new. Goes k old new) (done_by k old) c.reply new (done-goes k old (none_refuses k c.reply step taken) told) (answered k c.reply step taken) in
        (goes.keeps, subst (λ b. IsTold b old new) (sym (ap (λ b. not b && tells (Some k)) taken)) goes.told)

calls-go : (cs : List (Option Call)) (old new : Machine) → Calls old cs new → AreTold old → AreTold new
calls-go [] old new run told = subst AreTold (sym run) told
calls-go (Some c ∷ cs) old new run told = calls-go cs run.0 new run.2 (call-goes c old run.0 run.1 told).keeps
calls-go (None ∷ cs) old new run told =
    calls-go cs (with_undo_limit run.0 old) new run.1 (record { past = told.past; future = told.future; group = told.group; left = told.left })

-- What is asked ahead.

undone-tells : (m : Machine) (past : List UndoStep) → OnDone (λ reply new. new.touched ≡ undo_places past) (option_map (λ new. (Accepted, new)) (undone m past))
undone-tells m [] = tt
undone-tells m (s ∷ past) = refl

redone-tells : (m : Machine) (future : List UndoStep) → OnDone (λ reply new. new.touched ≡ redo_places future) (option_map (λ new. (Accepted, new)) (redone m future))
redone-tells m [] = tt
redone-tells m (s ∷ future) = refl

abandoned-tells : (m : Machine) (group : Option OpenGroup) → OnDone (λ reply new. new.touched ≡ abandon_places group) (option_map (λ g. (Accepted, abandoned g m)) group)
abandoned-tells m None = tt
abandoned-tells m (Some g) = refl

-- the answer of a look-up, and that the machine stays
module _ (old mid : Machine) (asked : Command) (ps qs : List Place) (failed : Bool) (step : Step failed old (Some asked) (PlacesAre ps) mid) (says : done_by asked old ≡ answer (PlacesAre qs) old) where
  one_answer : answer (PlacesAre qs) old ≡ answer (PlacesAre ps) mid
  one_answer = sym says ∙ answered asked (PlacesAre ps) step refl

  asked-stays : old ≡ mid
  asked-stays = same_machine one_answer

  asked-says : qs ≡ ps
  asked-says = let same : PlacesAre qs ≡ PlacesAre ps = same_reply one_answer in cc same

ahead-law : (old mid new : Machine) (asked does : Command) (ps : List Place) (failed later : Bool) → foretold asked ≡ Some does
    → Step failed old (Some asked) (PlacesAre ps) mid → Step later mid (Some does) Accepted new → new.touched ≡ ps
ahead-law old mid new commands.UndoPlaces does ps failed later is look step =
    let same : does ≡ commands.Undo = cc is in
    on_done (λ reply new. new.touched ≡ undo_places mid.past) (done_by commands.Undo mid) Accepted new (undone-tells mid mid.past)
    (answered commands.Undo Accepted (subst (λ (c : Command). Step later mid (Some c) Accepted new) same step) refl)
    ∙ ap (λ (m : Machine). undo_places m.past) (sym (asked-stays old mid commands.UndoPlaces ps (undo_places old.past) failed look refl))
    ∙ asked-says old mid commands.UndoPlaces ps (undo_places old.past) failed look refl
ahead-law old mid new commands.RedoPlaces does ps failed later is look step =
    let same : does ≡ commands.Redo = cc is in
    on_done (λ reply new. new.touched ≡ redo_places mid.future) (done_by commands.Redo mid) Accepted new (redone-tells mid mid.future)
    (answered commands.Redo Accepted (subst (λ (c : Command). Step later mid (Some c) Accepted new) same step) refl)
    ∙ ap (λ (m : Machine). redo_places m.future) (sym (asked-stays old mid commands.RedoPlaces ps (redo_places old.future) failed look refl))
    ∙ asked-says old mid commands.RedoPlaces ps (redo_places old.future) failed look refl
ahead-law old mid new commands.AbandonPlaces does ps failed later is look step =
    let same : does ≡ commands.Abandon = cc is in
    on_done (λ reply new. new.touched ≡ abandon_places mid.group) (done_by commands.Abandon mid) Accepted new (abandoned-tells mid mid.group)
    (answered commands.Abandon Accepted (subst (λ (c : Command). Step later mid (Some c) Accepted new) same step) refl)
    ∙ ap (λ (m : Machine). abandon_places m.group) (sym (asked-stays old mid commands.AbandonPlaces ps (abandon_places old.group) failed look refl))
    ∙ asked-says old mid commands.AbandonPlaces ps (abandon_places old.group) failed look refl
ahead-law old mid new c does ps failed later is look step = absurd (cc is)

-- Where it can be asked, it is answered.

-- it gives up for lack of memory alone
only-memory : (failed : Bool) (old : Machine) (c : Command) (fault : Fault) → calls_store c old ≡ false → may_give_up failed c old fault ≡ true → fault ≡ Memory
only-memory failed old c Memory none may = refl
only-memory failed old c File none may = let calls = (both_true failed (calls_store c old) may).1 in absurd (true≢false (sym calls ∙ none))
only-memory failed old c _ none may = absurd (cc may)

gave-up : (failed : Bool) (old new : Machine) (c : Command) (reply : Reply) → calls_store c old ≡ false → GivesUp failed old (Some c) reply new → reply ≡ Refused Memory
gave-up failed old new c reply none out = out.says ∙ ap Refused (only-memory failed old c out.fault none out.may)

asked-law : (failed : Bool) (old new : Machine) (reply : Reply) → Step failed old (Some commands.Touched) reply new → (reply ≡ PlacesAre old.touched) ⊎ (reply ≡ Refused Memory)
asked-law failed old new reply (inl is) = inl (sym (same_reply is))
asked-law failed old new reply (inr out) = inr (gave-up failed old new commands.Touched reply refl out)

some-there : {A : Type 0} (x : A) (xs : List A) → (length (x ∷ xs) == 0) ≡ false
some-there x xs = grind (arith, nat_tests)

undo-answered : (m new : Machine) (inside : Bool) (past : List UndoStep) (ps : List Place) (reply : Reply) → (not inside && nat_lt 0 (length past)) ≡ true
    → option_map_or {U = Option (Reply × Machine)} (λ fault. Some (Refused fault, m))
    (first_refusal ((NothingToUndo, length past == 0) ∷ (GroupOpen, inside) ∷ [])) (Some (PlacesAre ps, m)) ≡ Some (reply, new)
    → reply ≡ PlacesAre ps
undo-answered m new true past ps reply free is = absurd (cc free)
undo-answered m new false [] ps reply free is = absurd (cc free)
undo-answered m new false (s ∷ past) ps reply free is = sym (same_reply (rw (some-there s past) at is))

redo-answered : (m new : Machine) (inside : Bool) (future : List UndoStep) (ps : List Place) (reply : Reply) → (not inside && nat_lt 0 (length future)) ≡ true
    → option_map_or {U = Option (Reply × Machine)} (λ fault. Some (Refused fault, m))
    (first_refusal ((NothingToRedo, length future == 0) ∷ (GroupOpen, inside) ∷ [])) (Some (PlacesAre ps, m)) ≡ Some (reply, new)
    → reply ≡ PlacesAre ps
redo-answered m new true future ps reply free is = absurd (cc free)
redo-answered m new false [] ps reply free is = absurd (cc free)
redo-answered m new false (s ∷ future) ps reply free is = sym (same_reply (rw (some-there s future) at is))

abandon-answered : (m new : Machine) (inside : Bool) (ps : List Place) (reply : Reply) → inside ≡ true
    → option_map_or {U = Option (Reply × Machine)} (λ fault. Some (Refused fault, m))
    (first_refusal ((NoGroup, not inside) ∷ [])) (Some (PlacesAre ps, m)) ≡ Some (reply, new)
    → reply ≡ PlacesAre ps
abandon-answered m new false ps reply free is = absurd (cc free)
abandon-answered m new true ps reply free is = sym (same_reply is)

foretells-law : (failed : Bool) (old new : Machine) (asked does : Command) (reply : Reply) → foretold asked ≡ Some does → is_ahead does old ≡ true
    → Step failed old (Some asked) reply new → ((ps : List Place) × (reply ≡ PlacesAre ps)) ⊎ (reply ≡ Refused Memory)
foretells-law failed old new commands.UndoPlaces does reply is free (inl step) =
    let same : does ≡ commands.Undo = cc is in
    inl (undo_places old.past, undo-answered old new (in_group old) old.past (undo_places old.past) reply (subst (λ (c : Command). is_ahead c old ≡ true) same free) step)
foretells-law failed old new commands.RedoPlaces does reply is free (inl step) =
    let same : does ≡ commands.Redo = cc is in
    inl (redo_places old.future, redo-answered old new (in_group old) old.future (redo_places old.future) reply (subst (λ (c : Command). is_ahead c old ≡ true) same free) step)
foretells-law failed old new commands.AbandonPlaces does reply is free (inl step) =
    let same : does ≡ commands.Abandon = cc is in
    inl (abandon_places old.group, abandon-answered old new (in_group old) (abandon_places old.group) reply (subst (λ (c : Command). is_ahead c old ≡ true) same free) step)
foretells-law failed old new commands.UndoPlaces does reply is free (inr out) = inr (gave-up failed old new commands.UndoPlaces reply refl out)
foretells-law failed old new commands.RedoPlaces does reply is free (inr out) = inr (gave-up failed old new commands.RedoPlaces reply refl out)
foretells-law failed old new commands.AbandonPlaces does reply is free (inr out) = inr (gave-up failed old new commands.AbandonPlaces reply refl out)
foretells-law failed old new c does reply is free step = absurd (cc is)

pub touched_law : TouchedLaw
touched_law = record {
  told = λ updated saved one sequence frames target calls old new c run step.
      (call-goes c old new step (calls-go calls (opened_machine updated saved one sequence frames target) old run (record { past = tt; future = tt; group = tt; left = tt }))).told;
  seen = λ ps old new changes. stands-filled _ new changes;
  asked = asked-law;
  foretells = foretells-law;
  ahead = ahead-law;
}
