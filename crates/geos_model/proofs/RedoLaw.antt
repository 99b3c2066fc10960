-- Redoing as many undos as were accepted. No edit stands between, so that groups are empty.
use Rattle.std.proofs.Common.{◌≡◌, ℕ, zero, suc, List, [], ◌∷◌, Bool, true, false, not, ◌&&◌, ◌||◌, ◌⊎◌, Option, Some, None, IfSome, unwrap_or, refl, sym, ap, subst, ◌∙◌, inl, inr}
use Rattle.std.specs.Option.{option_map}
use Rattle.std.specs.Fn.{iterate}
use Rattle.geos_model.specs.Document.{Document}
use Rattle.geos_model.specs.Reply.{Reply, Accepted}
use Rattle.geos_model.specs.Machine.{Machine, Request, UndoStep, OpenGroup, Call, Step, Run, command_conditions, done_by, undone, redone, ended, abandoned}
use Rattle.geos_model.specs.Undoing.{RedoLaw, is_refused, is_undo, is_redo, moves, is_accepted, stays, only, accepted}
use Rattle.geos_model.specs.declared.fault.Fault.TheVariants.{GroupOpen}
use Rattle.geos_model.specs.declared.command.Command.{Command}
use Rattle.geos_model.specs.declared.command.Command.TheVariants as commands
use Rattle.geos_model.proofs.Refusals.{none_applies, or_none}
use Rattle.geos_model.proofs.Undoing.{OnDone, IsAt, on_done, done_by-stays, refused, bad_line-refused, answered, none_refuses, not_in_group, both_true}

-- a document and the two lists around it
record Lists : Type 0 where
  document : Document
  past : List UndoStep
  future : List UndoStep

abbrev lists_of : Machine → Lists
lists_of m = record { document = m.document; past = m.past; future = m.future }

-- a group that is empty, with this document
record IsEmpty (d : Document) (g : OpenGroup) : Type 0 where
  edited : g.edited ≡ false
  before : g.before ≡ d

-- the group that is open is empty, if one is
abbrev IsBare : Machine → Type 0
IsBare m = IfSome m.group (IsEmpty m.document)

none-bare : (m : Machine) → m.group ≡ None → IsBare m
none-bare m none = subst (λ group. IfSome group (IsEmpty m.document)) (sym none) tt

-- The document and the lists are those of this one, and no group has edits.
record Leaves (old new : Machine) : Type 0 where
  same : lists_of new ≡ lists_of old
  bare : IsBare new

at-leaves : (m : Machine) (o : Option (Reply × Machine)) → IsBare m → OnDone (IsAt m) o → OnDone (λ reply new. Leaves m new) o
at-leaves m None bare at = tt
at-leaves m (Some (reply, new)) bare at = record { same = ap lists_of at; bare = subst IsBare (sym at) bare }

ended-leaves : (m : Machine) (group : Option OpenGroup) → IfSome group (IsEmpty m.document)
    → OnDone (λ reply new. Leaves m new) (option_map (λ g. (Accepted, ended g m)) group)
ended-leaves m None empty = tt
ended-leaves m (Some g) empty = record { same = rw empty.edited refl; bare = tt }

abandoned-leaves : (m : Machine) (group : Option OpenGroup) → IfSome group (IsEmpty m.document)
    → OnDone (λ reply new. Leaves m new) (option_map (λ g. (Accepted, abandoned g m)) group)
abandoned-leaves m None empty = tt
abandoned-leaves m (Some g) empty = record { same = rw empty.before refl; bare = tt }

-- a command that moves nothing leaves them
done_by-leaves : (c : Command) (m : Machine) → moves (Some c) ≡ false → IsBare m → OnDone (λ reply new. Leaves m new) (done_by c m)
done_by-leaves (commands.Edit e) m h bare = absurd (cc h)
done_by-leaves commands.Undo m h bare = absurd (cc h)
done_by-leaves commands.Redo m h bare = absurd (cc h)
done_by-leaves commands.Revert m h bare = absurd (cc h)
done_by-leaves commands.Join m h bare = absurd (cc h)
done_by-leaves (commands.Forget most) m h bare = absurd (cc h)
done_by-leaves commands.Begin m h bare = record { same = refl; bare = record { edited = refl; before = refl } }
done_by-leaves commands.End m h bare = ended-leaves m m.group bare
done_by-leaves commands.Abandon m h bare = abandoned-leaves m m.group bare
done_by-leaves commands.Update m h bare = record { same = refl; bare = bare }
done_by-leaves commands.Save m h bare = record { same = refl; bare = bare }
done_by-leaves commands.SaveAs m h bare = record { same = refl; bare = bare }
done_by-leaves (commands.Name name) m h bare = record { same = refl; bare = bare }
done_by-leaves (commands.Lock b) m h bare = record { same = refl; bare = bare }
done_by-leaves (commands.Unlock b) m h bare = record { same = refl; bare = bare }
done_by-leaves c m h bare = at-leaves m (done_by c m) bare (done_by-stays c m refl)

-- so does an accepted request that moves nothing
still-leaves : {failed : Bool} {old new : Machine} (request : Request) (reply : Reply) → Step failed old request reply new → is_refused reply ≡ false
    → moves request ≡ false → IsBare old → Leaves old new
still-leaves None reply step is h bare = absurd (bad_line-refused reply step is)
still-leaves {old = old} {new = new} (Some c) reply step is h bare =
    on_done (λ reply new. Leaves old new) (done_by c old) reply new (done_by-leaves c old h bare) (answered c reply step is)

-- what is not true is false
not_true : (b : Bool) → not b ≡ true → b ≡ false
not_true true h = absurd (cc h)
not_true false h = refl

-- and a call that stays, by whether it was refused
stays_by : (b : Bool) {old new : Machine} (c : Call) → Step c.failed old c.request c.reply new → is_refused c.reply ≡ b → (b || not (moves c.request)) ≡ true
    → IsBare old → Leaves old new
stays_by true c step is h bare = let same = refused c.request c.reply step is in record { same = ap lists_of same; bare = subst IsBare (sym same) bare }
stays_by false c step is h bare = still-leaves c.request c.reply step is (not_true (moves c.request) h) bare

call-leaves : {old new : Machine} (c : Call) → Step c.failed old c.request c.reply new → stays c ≡ true → IsBare old → Leaves old new
call-leaves c step h bare = stays_by (is_refused c.reply) c step refl h bare

-- both parts of a conjunction with a denial
left_false : (a b : Bool) → (not a && b) ≡ true → (a ≡ false) × (b ≡ true)
left_false true b h = absurd (cc h)
left_false false b h = (refl, h)

-- an accepted call of a kind
record Taken (kind : Request → Bool) (c : Call) : Type 0 where
  kept : is_refused c.reply ≡ false
  is_kind : kind c.request ≡ true
  counts : is_accepted kind c ≡ true

-- one that stays
record Left (kind : Request → Bool) (c : Call) : Type 0 where
  stays : stays c ≡ true
  counts : is_accepted kind c ≡ false

-- a call is accepted or stays, by whether it is accepted
first_by : (b : Bool) (kind : Request → Bool) (c : Call) → is_accepted kind c ≡ b → (b || stays c) ≡ true → Taken kind c ⊎ Left kind c
first_by true kind c is h = let parts = left_false (is_refused c.reply) (kind c.request) is in inl (record { kept = parts.0; is_kind = parts.1; counts = is })
first_by false kind c is h = inr (record { stays = h; counts = is })

-- a call of a list of one kind is accepted or stays
first : (kind : Request → Bool) (c : Call) → (is_accepted kind c || stays c) ≡ true → Taken kind c ⊎ Left kind c
first kind c h = first_by (is_accepted kind c) kind c refl h

-- what a redo does to them
abbrev redone_in : List UndoStep → Lists → Lists
redone_in [] l = l
redone_in (s ∷ future) l = record { document = s.document; past = record s { document = l.document } ∷ l.past; future = future }

abbrev one_redone : Lists → Lists
one_redone l = redone_in l.future l

-- A redo of the new one comes to the old one, or the new one is the old one redone; both leave no group open.
record IsUndone (old new : Machine) : Type 0 where
  back : one_redone (lists_of new) ≡ lists_of old
  bare : IsBare new

record IsRedone (old new : Machine) : Type 0 where
  on : lists_of new ≡ one_redone (lists_of old)
  bare : IsBare new

undone-back : (m : Machine) (past : List UndoStep) → m.past ≡ past → m.group ≡ None
    → OnDone (λ reply new. IsUndone m new) (option_map (λ new. (Accepted, new)) (undone m past))
undone-back m [] is none = tt
undone-back m (s ∷ past) is none = record { back = rw is refl; bare = none-bare (unwrap_or (undone m (s ∷ past)) m) none }

redone-on : (m : Machine) (future : List UndoStep) → m.future ≡ future → m.group ≡ None
    → OnDone (λ reply new. IsRedone m new) (option_map (λ new. (Accepted, new)) (redone m future))
redone-on m [] is none = tt
redone-on m (s ∷ future) is none = record { on = rw is refl; bare = none-bare (unwrap_or (redone m (s ∷ future)) m) none }

-- so an accepted undo, which is outside of a group, and an accepted redo
undo-back : (old new : Machine) (failed : Bool) (request : Request) (reply : Reply)
    → Step failed old request reply new → is_refused reply ≡ false → is_undo request ≡ true → IsUndone old new
undo-back old new failed (Some commands.Undo) reply step h k =
    let free = not_in_group old (or_none (none_applies (command_conditions commands.Undo old) (none_refuses commands.Undo reply step h) GroupOpen refl)).0 in
    on_done (λ reply new. IsUndone old new) (done_by commands.Undo old) reply new (undone-back old old.past refl free) (answered commands.Undo reply step h)
undo-back old new failed _ reply step h k = absurd (cc k)

redo-on : (old new : Machine) (failed : Bool) (request : Request) (reply : Reply)
    → Step failed old request reply new → is_refused reply ≡ false → is_redo request ≡ true → IsRedone old new
redo-on old new failed (Some commands.Redo) reply step h k =
    let free = not_in_group old (or_none (none_applies (command_conditions commands.Redo old) (none_refuses commands.Redo reply step h) GroupOpen refl)).0 in
    on_done (λ reply new. IsRedone old new) (done_by commands.Redo old) reply new (redone-on old old.future refl free) (answered commands.Redo reply step h)
redo-on old new failed _ reply step h k = absurd (cc k)

-- going on once more can come last
iterate-last : (on : Lists → Lists) (n : ℕ) (m : Lists) → iterate on (suc n) m ≡ on (iterate on n m)
iterate-last on zero m = refl
iterate-last on (suc n) m = iterate-last on n (on m)

-- one redo for each accepted undo comes to the document and the lists of the start
undos-back : (calls : List Call) (old new : Machine) → only is_undo calls ≡ true → IsBare old → Run old calls new
    → (iterate one_redone (accepted is_undo calls) (lists_of new) ≡ lists_of old) × IsBare new
undos-back [] old new h bare run = (ap lists_of run, subst IsBare (sym run) bare)
undos-back (c ∷ cs) old new h bare run =
    let parts = both_true (is_accepted is_undo c || stays c) (only is_undo cs) h in
    elim (first is_undo c parts.0) [
      | inl taken ↦
          let goes = undo-back old run.0 c.failed c.request c.reply run.1 taken.kept taken.is_kind in
          let rest = undos-back cs run.0 new parts.1 goes.bare run.2 in
          (rw taken.counts (iterate-last one_redone (accepted is_undo cs) (lists_of new) ∙ ap one_redone rest.0 ∙ goes.back), rest.1)
      | inr left ↦
          let goes = call-leaves c run.1 left.stays bare in
          let rest = undos-back cs run.0 new parts.1 goes.bare run.2 in
          (rw left.counts (rest.0 ∙ goes.same), rest.1)
    ]

-- and the accepted redos do one each
redos-on : (calls : List Call) (old new : Machine) → only is_redo calls ≡ true → IsBare old → Run old calls new
    → lists_of new ≡ iterate one_redone (accepted is_redo calls) (lists_of old)
redos-on [] old new h bare run = ap lists_of run
redos-on (c ∷ cs) old new h bare run =
    let parts = both_true (is_accepted is_redo c || stays c) (only is_redo cs) h in
    elim (first is_redo c parts.0) [
      | inl taken ↦
          let goes = redo-on old run.0 c.failed c.request c.reply run.1 taken.kept taken.is_kind in
          rw taken.counts (redos-on cs run.0 new parts.1 goes.bare run.2 ∙ ap (iterate one_redone (accepted is_redo cs)) goes.on)
      | inr left ↦
          let goes = call-leaves c run.1 left.stays bare in
          rw left.counts (redos-on cs run.0 new parts.1 goes.bare run.2 ∙ ap (iterate one_redone (accepted is_redo cs)) goes.same)
    ]

pub redo_law : RedoLaw
redo_law old mid new undos redos free only_undos only_redos as_many undone_to redone_to =
    let there = undos-back undos old mid only_undos (none-bare old free) undone_to in
    let gone = redos-on redos mid new only_redos there.1 redone_to in
    let start : lists_of new ≡ lists_of old = gone ∙ ap (λ n. iterate one_redone n (lists_of mid)) (sym as_many) ∙ there.0 in
    record { document = ap (λ m. m.document) start; past = ap (λ m. m.past) start }
