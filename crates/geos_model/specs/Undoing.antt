-- What undoing edits and redoing them comes to, over runs of the machine alone.
use Rattle.std.specs.Prelude.{◌≡◌, ℕ, List, [], ◌∷◌, Bool, true, false, not, ◌&&◌, ◌||◌, ◌+◌, zero, suc, if◌then◌else◌, Option, Some, None}
use Rattle.geos_model.specs.Reply.{Reply, Refused}
use Rattle.geos_model.specs.Machine.{Machine, Request, Call, Run}
use Rattle.geos_model.specs.declared.command.Command.TheVariants as commands

abbrev pub is_refused : Reply → Bool
is_refused (Refused fault) = true
is_refused reply = false

abbrev pub is_edit : Request → Bool
is_edit (Some (commands.Edit e)) = true
is_edit request = false

abbrev pub is_undo : Request → Bool
is_undo (Some commands.Undo) = true
is_undo request = false

abbrev pub is_redo : Request → Bool
is_redo (Some commands.Redo) = true
is_redo request = false

abbrev pub is_revert : Request → Bool
is_revert (Some commands.Revert) = true
is_revert request = false

-- a join, or forgetting, by which other steps are left to be undone
abbrev pub joins_or_forgets : Request → Bool
joins_or_forgets (Some commands.Join) = true
joins_or_forgets (Some (commands.Forget most)) = true
joins_or_forgets request = false

-- what puts other steps in the place of those to be undone: a redo, a revert, a join or forgetting
abbrev pub replaces_steps : Request → Bool
replaces_steps request = is_redo request || (is_revert request || joins_or_forgets request)

-- an undo, or what replaces steps
abbrev pub turns : Request → Bool
turns request = is_undo request || replaces_steps request

-- an edit, an undo or what replaces steps: what may change the document or the steps
abbrev pub moves : Request → Bool
moves request = is_edit request || turns request

abbrev pub is_accepted : (Request → Bool) → Call → Bool
is_accepted kind c = not (is_refused c.reply) && kind c.request

-- refused, or none of those that move the document
abbrev pub stays : Call → Bool
stays c = is_refused c.reply || not (moves c.request)

-- accepted ones of this kind, and others that stay
abbrev pub only : (Request → Bool) → List Call → Bool
only kind [] = true
only kind (c ∷ cs) = (is_accepted kind c || stays c) && only kind cs

-- how many of this kind were accepted
abbrev pub accepted : (Request → Bool) → List Call → ℕ
accepted kind [] = zero
accepted kind (c ∷ cs) = if is_accepted kind c then suc (accepted kind cs) else accepted kind cs

-- the same document and the same past
pub record SamePast (old new : Machine) : Type 0 where
  pub document : new.document ≡ old.document
  pub past : new.past ≡ old.past

-- Groups among calls before which none is open: how many undo steps the calls have made, and whether the group that is
-- open then has edits, None where none is.
pub record Tally : Type 0 where
  pub steps : ℕ
  pub group : Option Bool

-- one edit more: in no group it is a step, and a group then has edits
abbrev pub with_edit : Option Bool → Tally → Tally
with_edit None t = record t { steps = t.steps + 1 }
with_edit (Some edited) t = record t { group = Some true }

-- the group ends: it is a step if it has edits
abbrev pub with_end : Option Bool → Tally → Tally
with_end None t = t
with_end (Some edited) t = record { steps = if edited then t.steps + 1 else t.steps; group = None }

-- after a request that was accepted
abbrev pub after_request : Request → Tally → Tally
after_request (Some (commands.Edit e)) t = with_edit t.group t
after_request (Some commands.Begin) t = record t { group = Some false }
after_request (Some commands.End) t = with_end t.group t
after_request (Some commands.Abandon) t = record t { group = None }
after_request request t = t

-- after calls; a refused one counts for nothing
abbrev pub after_calls : List Call → Tally → Tally
after_calls [] t = t
after_calls (c ∷ cs) t = after_calls cs (if is_refused c.reply then t else after_request c.request t)

-- after calls before which nothing is counted; undos don't lower `steps`
abbrev pub tally : List Call → Tally
tally cs = after_calls cs (record { steps = 0; group = None })

-- how many undo steps calls make: accepted edits outside a group, and groups that end with edits
abbrev pub steps_made : List Call → ℕ
steps_made cs = (tally cs).steps

-- Where no group is open at the start, after the edits and after the undos, and no limit forgets steps: undoing as many
-- steps as the edits made gives back the document and the past of the start. Groups may be abandoned among the edits;
-- with no step and no undo it says what an abandoned group leaves. No step is made among the undos, so that groups
-- there are empty or abandoned.
abbrev pub UndoLaw : Type 0
UndoLaw =
    (old mid new : Machine) (edits undos : List Call) → old.group ≡ None → old.undo_limit ≡ None
    → accepted turns edits ≡ 0 → accepted replaces_steps undos ≡ 0 → steps_made undos ≡ 0
    → steps_made edits ≡ accepted is_undo undos → Run old edits mid → Run mid undos new
    → mid.group ≡ None → new.group ≡ None → SamePast old new

-- Where no group is open: redoing as many undos as were accepted gives back the document and the past from before them.
-- No edit is accepted between, so that groups between are empty.
abbrev pub RedoLaw : Type 0
RedoLaw =
    (old mid new : Machine) (undos redos : List Call) → old.group ≡ None → only is_undo undos ≡ true
    → only is_redo redos ≡ true
    → accepted is_undo undos ≡ accepted is_redo redos → Run old undos mid → Run mid redos new → SamePast old new
