-- Undoing as many steps as calls made, with groups among the calls.
use Rattle.std.proofs.Common.{◌||◌, ◌≡◌, ◌≤◌, ℕ, List, [], ◌∷◌, Bool, true, false, Option, Some, None, IfSome, refl, sym, ap, subst, ◌∙◌, inl, inr, arith, add-one, ◌+◌, if◌then◌else◌}
use Rattle.std.proofs.lemmas.Bool.{cases_Bool}
use Rattle.std.specs.Option.{option_map}
use Rattle.std.specs.Fn.{iterate}
use Rattle.geos_model.specs.Refusal.{first_refusal}
use Rattle.geos_model.specs.Document.{Document}
use Rattle.geos_model.specs.Meaning.{effect}
use Rattle.geos_model.specs.Cost.{cost}
use Rattle.geos_model.specs.Reply.{Reply, Accepted}
use Rattle.geos_model.specs.Machine.{Machine, Request, UndoStep, OpenGroup, Call, Step, Run, command_conditions, done_by, recorded, undone, begun, ended, abandoned, kind_of}
use Rattle.geos_model.specs.Standing.{outside_group}
use Rattle.geos_model.specs.Undoing.{Tally, UndoLaw, is_refused, is_undo, turns, replaces_steps, accepted, with_edit, with_end, after_request, after_calls, tally}
use Rattle.geos_model.specs.declared.fault.Fault.TheVariants.{GroupOpen}
use Rattle.geos_model.specs.declared.command.Kind.{Kind}
use Rattle.geos_model.specs.declared.command.Command.{Command}
use Rattle.geos_model.specs.declared.command.Command.TheVariants as commands
use Rattle.geos_model.specs.Places.{places_of}
use Rattle.geos_model.specs.declared.place.Place.{Place}
use Rattle.geos_model.proofs.Refusals.{none_applies, or_none}
use Rattle.geos_model.proofs.Undoing.{OnDone, IsAt, on_done, done_by-stays, refused, bad_line-refused, answered, none_refuses, not_in_group}

-- What undos go by: a document and the past below it.
abbrev pub Past : Type 0
Past = Document × List UndoStep

-- what the machine stands on outside of its group
abbrev pub outside : Machine → Past
outside m = (outside_group m.group m.document, m.past)

-- an undo goes to the newest document of the past
abbrev pub back : Past → Past
back (d, []) = (d, [])
back (d, s ∷ past) = (s.document, past)

-- whether the group that is open has edits
abbrev pub edited_in : Option OpenGroup → Option Bool
edited_in group = option_map (λ g. g.edited) group

-- Calls with this tally came to the machine with this limit from this past: undoing the steps that they made goes back
-- there. A group without an edit has left the document.
pub record Counted (limit : Option ℕ) (start : Past) (t : Tally) (m : Machine) : Type 0 where
  pub group : t.group ≡ edited_in m.group
  pub whole : IfSome m.group (λ g. g.edited ≡ false → m.document ≡ g.before)
  pub bound : m.undo_limit ≡ limit
  pub goes : iterate back t.steps (outside m) ≡ start

-- at first, where no group is open
pub counted-first : (m : Machine) → m.group ≡ None → Counted m.undo_limit (outside m) (record { steps = 0; group = None }) m
counted-first m none = record {
  group = sym (ap edited_in none);
  whole = subst (λ group. IfSome group (λ g. g.edited ≡ false → m.document ≡ g.before)) (sym none) tt;
  bound = refl;
  goes = refl;
}

-- Each request that replaces no steps carries that on.

-- with the same group, document and past
pub counted-same : (limit : Option ℕ) (start : Past) (t : Tally) (m new : Machine) → Counted limit start t m → new ≡ m → Counted limit start t new
counted-same limit start t m new counted is = subst (Counted limit start t) (sym is) counted

counted-at : (limit : Option ℕ) (start : Past) (t : Tally) (m : Machine) (o : Option (Reply × Machine)) → Counted limit start t m → OnDone (IsAt m) o
    → OnDone (λ reply new. Counted limit start t new) o
counted-at limit start t m None counted at = tt
counted-at limit start t m (Some (reply, new)) counted at = counted-same limit start t m new counted at

-- with an edit in it a group has edits
pub counted-in : (start : Past) (t : Tally) (m : Machine) (g : OpenGroup) (kind : Kind) (n : ℕ) (ps : List Place) (d : Document) → Some g ≡ m.group
    → (limit : Option ℕ) → Counted limit start t m → Counted limit start (record t { group = Some true }) (recorded (Some g) kind n ps d m)
counted-in start t m g kind n ps d is limit counted = record {
  group = refl;
  whole = λ none. absurd (cc none);
  bound = counted.bound;
  goes = rw (← is) at counted.goes;
}

-- what an edit does in no group is one step more, and a group has edits after it
counted-edit : (start : Past) (t : Tally) (m : Machine) (group : Option OpenGroup) (kind : Kind) (n : ℕ) (ps : List Place) (d : Document)
    → group ≡ m.group → t.group ≡ edited_in group → Counted None start t m → Counted None start (with_edit t.group t) (recorded group kind n ps d m)
counted-edit start t m None kind n ps d is same counted = rw same (record {
  group = ap edited_in is;
  whole = subst (λ group. IfSome group (λ g. g.edited ≡ false → d ≡ g.before)) is tt;
  bound = counted.bound;
  goes = rw (counted.bound, add-one, ← is) (rw (← is) at counted.goes);
})
counted-edit start t m (Some g) kind n ps d is same counted = rw same (counted-in start t m g kind n ps d is None counted)

-- a group that begins has no edit
counted-begin : (limit : Option ℕ) (start : Past) (t : Tally) (m : Machine) → m.group ≡ None → Counted limit start t m
    → Counted limit start (record t { group = Some false }) (begun m)
counted-begin limit start t m none counted = record {
  group = refl;
  whole = λ empty. refl;
  bound = counted.bound;
  goes = rw none at counted.goes;
}

-- one that ends without an edit leaves all
pub counted-empty : (limit : Option ℕ) (start : Past) (t : Tally) (m : Machine) (g : OpenGroup) → Some g ≡ m.group → g.edited ≡ false
    → Counted limit start t m → Counted limit start (record t { group = None }) (ended g m)
counted-empty limit start t m g is none counted =
    let whole : g.edited ≡ false → m.document ≡ g.before = subst (λ group. IfSome group (λ g. g.edited ≡ false → m.document ≡ g.before)) (sym is) counted.whole in
    let goes : iterate back t.steps (g.before, m.past) ≡ start = rw (← is) at counted.goes in
    record { group = refl; whole = tt; bound = counted.bound; goes = rw (none, whole none) goes }

-- one that ends is a step where it has edits
counted-end : (start : Past) (t : Tally) (m : Machine) (group : Option OpenGroup) → group ≡ m.group → t.group ≡ edited_in group → Counted None start t m
    → OnDone (λ reply new. Counted None start (with_end t.group t) new) (option_map (λ g. (Accepted, ended g m)) group)
counted-end start t m None is same counted = tt
counted-end start t m (Some g) is same counted =
    let goes : iterate back t.steps (g.before, m.past) ≡ start = rw (← is) at counted.goes in
    rw same (elim (cases_Bool g.edited) [
      | inl some ↦ record { group = refl; whole = tt; bound = counted.bound; goes = rw (some, counted.bound, add-one) goes }
      | inr none ↦ subst (λ b. Counted None start (record { steps = if b then t.steps + 1 else t.steps; group = None }) (ended g m)) (sym none) (counted-empty None start t m g is none counted)
    ])

-- one that is abandoned leaves the document that was before it
counted-abandon : (limit : Option ℕ) (start : Past) (t : Tally) (m : Machine) (group : Option OpenGroup) → group ≡ m.group → Counted limit start t m
    → OnDone (λ reply new. Counted limit start (record t { group = None }) new) (option_map (λ g. (Accepted, abandoned g m)) group)
counted-abandon limit start t m None is counted = tt
counted-abandon limit start t m (Some g) is counted = record { group = refl; whole = tt; bound = counted.bound; goes = rw (← is) at counted.goes }

-- an edit, and the end of a group, by which a step is made
abbrev pub makes_step : Command → Bool
makes_step (commands.Edit e) = true
makes_step commands.End = true
makes_step c = false

-- so a command by which no step is made, and that nothing refuses, whatever the limit
done_by-even : (limit : Option ℕ) (start : Past) (t : Tally) (c : Command) (m : Machine) → (turns (Some c) || makes_step c) ≡ false → first_refusal (command_conditions c m) ≡ None
    → Counted limit start t m → OnDone (λ reply new. Counted limit start (after_request (Some c) t) new) (done_by c m)
done_by-even limit start t (commands.Edit e) m h none counted = absurd (cc h)
done_by-even limit start t commands.End m h none counted = absurd (cc h)
done_by-even limit start t commands.Undo m h none counted = absurd (cc h)
done_by-even limit start t commands.Redo m h none counted = absurd (cc h)
done_by-even limit start t commands.Revert m h none counted = absurd (cc h)
done_by-even limit start t commands.Join m h none counted = absurd (cc h)
done_by-even limit start t (commands.Forget most) m h none counted = absurd (cc h)
done_by-even limit start t commands.Begin m h none counted =
    counted-begin limit start t m (not_in_group m (or_none (none_applies (command_conditions commands.Begin m) none GroupOpen refl)).0) counted
done_by-even limit start t commands.Abandon m h none counted = counted-abandon limit start t m m.group refl counted
done_by-even limit start t commands.Update m h none counted = record { group = counted.group; whole = counted.whole; bound = counted.bound; goes = counted.goes }
done_by-even limit start t commands.Save m h none counted = record { group = counted.group; whole = counted.whole; bound = counted.bound; goes = counted.goes }
done_by-even limit start t commands.SaveAs m h none counted = record { group = counted.group; whole = counted.whole; bound = counted.bound; goes = counted.goes }
done_by-even limit start t (commands.Name name) m h none counted = record { group = counted.group; whole = counted.whole; bound = counted.bound; goes = counted.goes }
done_by-even limit start t (commands.Lock b) m h none counted = record { group = counted.group; whole = counted.whole; bound = counted.bound; goes = counted.goes }
done_by-even limit start t (commands.Unlock b) m h none counted = record { group = counted.group; whole = counted.whole; bound = counted.bound; goes = counted.goes }
done_by-even limit start t c m h none counted = counted-at limit start t m (done_by c m) counted (done_by-stays c m refl)

-- and an accepted request
pub even-on : (limit : Option ℕ) (start : Past) (t : Tally) (failed : Bool) (old new : Machine) (c : Command) (reply : Reply) → Step failed old (Some c) reply new → is_refused reply ≡ false
    → (turns (Some c) || makes_step c) ≡ false → Counted limit start t old → Counted limit start (after_request (Some c) t) new
even-on limit start t failed old new c reply step h k counted =
    on_done (λ reply new. Counted limit start (after_request (Some c) t) new) (done_by c old) reply new
    (done_by-even limit start t c old k (none_refuses c reply step h) counted) (answered c reply step h)

-- so where there is no limit each command that nothing refuses
done_by-counted : (start : Past) (t : Tally) (c : Command) (m : Machine) → turns (Some c) ≡ false → first_refusal (command_conditions c m) ≡ None → Counted None start t m
    → OnDone (λ reply new. Counted None start (after_request (Some c) t) new) (done_by c m)
done_by-counted start t (commands.Edit e) m h none counted =
    let after : Document = (effect e m.document).0 in
    counted-edit start t m m.group (kind_of e) (cost e m.document after) (places_of e m.document) after refl counted.group counted
done_by-counted start t commands.End m h none counted = counted-end start t m m.group refl counted.group counted
done_by-counted start t commands.Undo m h none counted = absurd (cc h)
done_by-counted start t commands.Redo m h none counted = absurd (cc h)
done_by-counted start t commands.Revert m h none counted = absurd (cc h)
done_by-counted start t commands.Join m h none counted = absurd (cc h)
done_by-counted start t (commands.Forget most) m h none counted = absurd (cc h)
done_by-counted start t c m h none counted = done_by-even None start t c m refl none counted

-- so an accepted request
counted-on : (start : Past) (t : Tally) (failed : Bool) (old new : Machine) (request : Request) (reply : Reply) → Step failed old request reply new → is_refused reply ≡ false
    → turns request ≡ false → Counted None start t old → Counted None start (after_request request t) new
counted-on start t failed old new None reply step h k counted = absurd (bad_line-refused reply step h)
counted-on start t failed old new (Some c) reply step h k counted =
    on_done (λ reply new. Counted None start (after_request (Some c) t) new) (done_by c old) reply new
    (done_by-counted start t c old k (none_refuses c reply step h) counted) (answered c reply step h)

-- Calls.

-- those among which no undo and nothing that replaces steps is accepted
calls-counted : (start : Past) (calls : List Call) (t : Tally) (old new : Machine) → accepted turns calls ≡ 0 → Run old calls new
    → Counted None start t old → Counted None start (after_calls calls t) new
calls-counted start [] t old new none run counted = counted-same None start t old new counted run
calls-counted start (c ∷ cs) t old new none run counted = elim (cases_Bool (is_refused c.reply)) [
  | inl out ↦ rw out (calls-counted start cs t run.0 new (rw out at none) run.2 (counted-same None start t old run.0 counted (refused c.request c.reply run.1 out)))
  | inr taken ↦ elim (cases_Bool (turns c.request)) [
    | inl turn ↦ absurd (cc (rw (taken, turn) at none))
    | inr on ↦
        let next = counted-on start t c.failed old run.0 c.request c.reply run.1 taken on counted in
        rw taken (calls-counted start cs (after_request c.request t) run.0 new (rw (taken, on) at none) run.2 next)
  ]
]

-- No call makes fewer steps.

more-edit : (o : Option Bool) (t : Tally) → t.steps ≤ (with_edit o t).steps
more-edit None t = omega arith
more-edit (Some edited) t = omega arith

more-end : (o : Option Bool) (t : Tally) → t.steps ≤ (with_end o t).steps
more-end None t = omega arith
more-end (Some true) t = omega arith
more-end (Some false) t = omega arith

more-request : (request : Request) (t : Tally) → t.steps ≤ (after_request request t).steps
more-request None t = omega arith
more-request (Some (commands.Edit e)) t = more-edit t.group t
more-request (Some commands.End) t = more-end t.group t
more-request (Some c) t = omega arith

more-calls : (calls : List Call) (t : Tally) → t.steps ≤ (after_calls calls t).steps
more-calls [] t = omega arith
more-calls (c ∷ cs) t = elim (cases_Bool (is_refused c.reply)) [
  | inl out ↦ rw (out, after_calls) (more-calls cs t)
  | inr taken ↦
      let one = more-request c.request t in
      let rest = more-calls cs (after_request c.request t) in
      rw (taken, after_calls) (omega (arith, one, rest))
]

-- Undos.

-- an undo goes from no group to none, and to the newest document of the past
pub record IsBack (old new : Machine) : Type 0 where
  pub was : old.group ≡ None
  pub stays : new.group ≡ None
  pub limit : new.undo_limit ≡ old.undo_limit
  pub goes : outside new ≡ back (outside old)

undone-back : (m : Machine) (past : List UndoStep) → m.past ≡ past → m.group ≡ None → OnDone (λ reply new. IsBack m new) (option_map (λ new. (Accepted, new)) (undone m past))
undone-back m [] is none = tt
undone-back m (s ∷ past) is none = record { was = none; stays = none; limit = refl; goes = rw (none, is) refl }

pub undo-back : (failed : Bool) (old new : Machine) (request : Request) (reply : Reply)
    → Step failed old request reply new → is_refused reply ≡ false → is_undo request ≡ true → IsBack old new
undo-back failed old new (Some commands.Undo) reply step h k =
    let free = not_in_group old (or_none (none_applies (command_conditions commands.Undo old) (none_refuses commands.Undo reply step h) GroupOpen refl)).0 in
    on_done (λ reply new. IsBack old new) (done_by commands.Undo old) reply new (undone-back old old.past refl free) (answered commands.Undo reply step h)
undo-back failed old new _ reply step h k = absurd (cc k)

-- and makes no step
undo-tally : (request : Request) (t : Tally) → is_undo request ≡ true → after_request request t ≡ t
undo-tally (Some commands.Undo) t k = refl
undo-tally _ t k = absurd (cc k)

-- calls that made no step may be counted from where the machine stands now
counted-here : (t : Tally) (m : Machine) → m.undo_limit ≡ None → t.steps ≡ 0 → t.group ≡ edited_in m.group → IfSome m.group (λ g. g.edited ≡ false → m.document ≡ g.before) → Counted None (outside m) t m
counted-here t m unlimited none group whole = record { group = group; whole = whole; bound = unlimited; goes = rw none refl }

counted-back : (t : Tally) (old new : Machine) → t.steps ≡ 0 → IsBack old new → Counted None (outside old) t old → Counted None (outside new) t new
counted-back t old new none undo counted =
    counted-here t new (undo.limit ∙ counted.bound) none (counted.group ∙ ap edited_in (undo.was ∙ sym undo.stays))
    (subst (λ group. IfSome group (λ g. g.edited ≡ false → new.document ≡ g.before)) (sym undo.stays) tt)

-- Among calls that make no step each undo goes back once, and what else is accepted but what replaces steps stands
-- where it stood.
calls-undone : (calls : List Call) (t : Tally) (old new : Machine) → accepted replaces_steps calls ≡ 0 → (after_calls calls t).steps ≡ 0
    → Run old calls new → Counted None (outside old) t old → outside new ≡ iterate back (accepted is_undo calls) (outside old)
calls-undone [] t old new none no_steps run counted = ap outside run
calls-undone (c ∷ cs) t old new none no_steps run counted = elim (cases_Bool (is_refused c.reply)) [
  | inl out ↦
      let same = refused c.request c.reply run.1 out in
      let rest = calls-undone cs t run.0 new (rw out at none) (rw (out, after_calls) at no_steps) run.2 (subst (λ m. Counted None (outside m) t m) (sym same) counted) in
      rw out (rest ∙ ap (λ m. iterate back (accepted is_undo cs) (outside m)) same)
  | inr taken ↦ elim (cases_Bool (replaces_steps c.request)) [
    | inl turn ↦ absurd (cc (rw (taken, turn) at none))
    | inr on ↦
        let after : Tally = after_request c.request t in
        let fewer : (after_calls cs after).steps ≡ 0 = rw (taken, after_calls) at no_steps in
        let more = more-calls cs after in
        let bare : after.steps ≡ 0 = omega (arith, more, fewer) in
        elim (cases_Bool (is_undo c.request)) [
          | inl undo ↦
              let goes = undo-back c.failed old run.0 c.request c.reply run.1 taken undo in
              let is = undo-tally c.request t undo in
              let next = counted-back after old run.0 bare goes (subst (λ s. Counted None (outside old) s old) (sym is) counted) in
              let rest = calls-undone cs after run.0 new (rw (taken, on) at none) fewer run.2 next in
              rw (taken, undo) (rest ∙ ap (iterate back (accepted is_undo cs)) goes.goes)
          | inr other ↦
              let next = counted-on (outside old) t c.failed old run.0 c.request c.reply run.1 taken (rw other on) counted in
              let same : outside run.0 ≡ outside old = rw bare at next.goes in
              let rest = calls-undone cs after run.0 new (rw (taken, on) at none) fewer run.2 (counted-here after run.0 next.bound bare next.group next.whole) in
              rw (taken, other) (rest ∙ ap (iterate back (accepted is_undo cs)) same)
        ]
  ]
]

-- where no group is open, the document and the past are those of the standing
pub undo_law : UndoLaw
undo_law old mid new edits undos free unlimited no_turns no_others no_steps as_many edited_to undone_to between after =
    let first : Counted None (outside old) (tally []) old = subst (λ limit. Counted limit (outside old) (tally []) old) unlimited (counted-first old free) in
    let there = calls-counted (outside old) edits (tally []) old mid no_turns edited_to first in
    let later : Counted None (outside mid) (tally []) mid = subst (λ limit. Counted limit (outside mid) (tally []) mid) there.bound (counted-first mid between) in
    let gone = calls-undone undos (tally []) mid new no_others no_steps undone_to later in
    let start : outside new ≡ outside old = gone ∙ ap (λ n. iterate back n (outside mid)) (sym as_many) ∙ there.goes in
    let same : (new.document, new.past) ≡ (old.document, old.past) = rw (free, after) at start in
    record { document = ap (λ s. s.0) same; past = ap (λ s. s.1) same }
