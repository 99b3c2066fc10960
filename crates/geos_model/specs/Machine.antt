-- The machine: a document with its past and its future, the group of edits that is open, and what the file has of it.
use Rattle.std.specs.Prelude.{◌≡◌, ◌⊎◌, ◌≤◌, ℕ, ◌+◌, ◌-◌, List, [], ◌∷◌, ◌++◌, Bool, true, false, not, ◌==◌, ◌&&◌, nat_le, nat_lt, if◌then◌else◌, length, take, drop, get_or, count_by, All, Option, Some, None, IfSome, is_some, unwrap_or}
use Rattle.std.specs.Ordering.{nat_cmp}
use Rattle.std.specs.FinMap.{FinMap, empty, get, insert, remove, contains_key, len}
use Rattle.std.specs.Option.{option_map, option_map_or}
use Rattle.geos_model.specs.Refusal.{Conditions, first_refusal}
use Rattle.geos_model.specs.Document.{Document, empty_document, IsValid, is_live, is_raw, chunks_of, raw_bytes_of}
use Rattle.geos_model.specs.Meaning.{conditions, effect, on_block}
use Rattle.geos_model.specs.Cost.{cost}
use Rattle.geos_model.specs.Scope.{Scope, scope_of}
use Rattle.geos_model.specs.Scope as scopes
use Rattle.geos_model.specs.Places.{places_of, taken_back}
use Rattle.geos_model.specs.declared.place.Place.{Place}
use Rattle.geos_model.specs.declared.place.Place.TheVariants as place
use Rattle.geos_model.specs.Position.{Position, Back, Nowhere, is_here, position_stepped, position_within, position_in_group, position_after_undo, position_after_redo, position_after_join}
use Rattle.geos_model.specs.Reply.{Reply, Accepted, Refused, BytesAre, NumberIs, PlacesAre, reply_of_done, look_up_conditions, look_up}
use Rattle.geos_model.specs.declared.fault.Fault.{Fault}
use Rattle.geos_model.specs.declared.fault.Fault.TheVariants.{Memory, File, BadCommand, Locked, NotLocked, LockLimit, CacheFull, NothingToUndo, NothingToRedo, NoTarget, TooBig, Worn, GroupOpen, NoGroup}
use Rattle.geos_model.specs.declared.command.Kind.{Kind}
use Rattle.geos_model.specs.declared.command.Kind.TheVariants.{Plain, In, Made, Freed, Group}
use Rattle.geos_model.specs.declared.command.Edit.{Edit}
use Rattle.geos_model.specs.declared.command.Edit.TheVariants as edits
use Rattle.geos_model.specs.declared.command.Command.{Command}
use Rattle.geos_model.specs.declared.command.Command.TheVariants as commands

-- a document that undo or redo gives back, with what kind of step lies between, and what that is charged
pub record UndoStep : Type 0 where
  pub kind : Kind
  pub cost : ℕ
  pub document : Document
  pub places : List Place  -- at which it was made, in the order in which its edits were

-- A group that is open: the document when it began, whether an edit was made in it so far, what its edits cost
-- together, and where they changed the document.
pub record OpenGroup : Type 0 where
  pub before : Document
  pub edited : Bool
  pub cost : ℕ
  pub places : List Place  -- of its edits, in the order in which they were made

pub record Machine : Type 0 where
  pub document : Document
  pub past : List UndoStep  -- the newest first
  pub future : List UndoStep  -- the next one first
  pub past_names : List (List ℕ)  -- of the steps of the past, as they stand there; [] where one has none
  pub future_names : List (List ℕ)  -- so of the future
  pub group : Option OpenGroup  -- None where none is open
  pub updated : Document  -- what opening the file gives
  pub saved : Document  -- what a revert gives
  pub updated_at : Position  -- where the updated document stands, from the one before the open group
  pub saved_at : Position  -- and the saved one
  pub touched : List Place  -- what is told of the newest edit, undo, redo, abandon or revert
  pub undo_limit : Option ℕ  -- how many steps an edit or a group leaves to be undone; None where all are left
  pub locks : FinMap nat_cmp ℕ  -- how often each locked block is locked
  pub frames : ℕ  -- how many blocks may be held in memory
  pub target : Bool  -- whether a target for a save-as is left
  pub sequence : ℕ  -- of the last acknowledged commit

-- That of a session on a file that was opened: its updated document and its saved one, whether the file has one
-- directory for both, the sequence number of that commit, the number of frames, and whether a target is left.
abbrev pub opened_machine : Document → Document → Bool → ℕ → ℕ → Bool → Machine
opened_machine updated saved one sequence frames target = record {
  document = updated;
  past = [];
  future = [];
  past_names = [];
  future_names = [];
  group = None;
  updated = updated;
  saved = saved;
  updated_at = Back 0;
  saved_at = if one then Back 0 else Nowhere;
  touched = [];
  undo_limit = None;
  locks = empty;
  frames = frames;
  target = target;
  sequence = sequence;
}

-- that of a session on a new file
abbrev pub empty_machine : ℕ → Bool → Machine
empty_machine frames target = opened_machine empty_document empty_document true 1 frames target

-- the machine with another limit of steps to be undone, which counts from the next edit or group on
abbrev pub with_undo_limit : Option ℕ → Machine → Machine
with_undo_limit limit m = record m { undo_limit = limit }

-- how often a block can be locked
abbrev pub most_locks : ℕ
most_locks = 255

-- Locked blocks are live, each is locked 1 to 255 times, and there are no more of them than may be held in memory.
pub record AreValidLocks (m : Machine) : Type 0 where
  pub live : (b n : ℕ) → get m.locks b ≡ Some n → is_live m.document b ≡ true
  pub count : (b n : ℕ) → get m.locks b ≡ Some n → (1 ≤ n) × (n ≤ most_locks)
  pub few : len m.locks ≤ m.frames

-- a group that may be open in a machine
pub record IsValidGroup (g : OpenGroup) (m : Machine) : Type 0 where
  pub before : IsValid g.before
  -- without an edit the document is that before it, and nothing is charged
  pub none : g.edited ≡ false → (g.before ≡ m.document) × (g.cost ≡ 0)
  -- with one nothing is left to make again
  pub some : g.edited ≡ true → m.future ≡ []

-- each of its documents is valid, and so are its group and its locks
pub record IsValidMachine (m : Machine) : Type 0 where
  pub document : IsValid m.document
  pub past : All (λ s. IsValid s.document) m.past
  pub future : All (λ s. IsValid s.document) m.future
  pub group : IfSome m.group (λ g. IsValidGroup g m)
  pub updated : IsValid m.updated
  pub saved : IsValid m.saved
  pub locks : AreValidLocks m

-- what is asked of the machine: a command, or None for a line that is none
abbrev pub Request : Type 0
Request = Option Command

-- what kind of step an edit makes, by its part of the document: a copy makes blocks, and of a large array several
-- blocks change
abbrev pub kind_of_scope : Scope → Kind
kind_of_scope scopes.Plain = Plain
kind_of_scope scopes.New = Made
kind_of_scope (scopes.Block b) = Made
kind_of_scope (scopes.Raw b) = In b
kind_of_scope (scopes.Heap b) = In b
kind_of_scope (scopes.Chunk b c) = In b
kind_of_scope (scopes.Chain b) = Made
kind_of_scope (scopes.Large b) = Group

-- but for those that free blocks
abbrev pub kind_of : Edit → Kind
kind_of (edits.FreeBlock b) = Freed
kind_of (edits.FreeChain b) = Freed
kind_of e = kind_of_scope (scope_of e)

-- Which bodies a command looks into, so that their blocks have to be in memory: none, that of one block, or those of a
-- chain or a large array.
pub data Needs : Type 0 where
  NoBody : Needs
  OneBody : (block : ℕ) → Needs
  ManyBodies : Needs

-- that of an edit, by its part of the document: a user ID, a type and the map block are set without a body
abbrev pub needs_of_scope : Scope → Needs
needs_of_scope scopes.Plain = NoBody
needs_of_scope scopes.New = NoBody
needs_of_scope (scopes.Block b) = OneBody b.0
needs_of_scope (scopes.Raw b) = OneBody b.0
needs_of_scope (scopes.Heap b) = OneBody b.0
needs_of_scope (scopes.Chunk b c) = OneBody b.0
needs_of_scope (scopes.Chain b) = ManyBodies
needs_of_scope (scopes.Large b) = ManyBodies

abbrev pub edit_needs : Edit → Needs
edit_needs e = needs_of_scope (scope_of e)

-- so of a look-up
abbrev pub look_up_needs : Command → Needs
look_up_needs (commands.Info b) = OneBody b.0
look_up_needs (commands.ReadRaw b) = OneBody b.0
look_up_needs (commands.Chunks b) = OneBody b.0
look_up_needs (commands.Read b c) = OneBody b.0
look_up_needs (commands.ArrayCount b c) = OneBody b.0
look_up_needs (commands.ArrayElement b c i) = OneBody b.0
look_up_needs (commands.ElementReferences b c t) = OneBody b.0
look_up_needs (commands.ElementBytes b c t) = OneBody b.0
look_up_needs (commands.ElementsUsed b c) = OneBody b.0
look_up_needs (commands.TokenOfUsed b c k) = OneBody b.0
look_up_needs (commands.UsedOfToken b c t) = OneBody b.0
look_up_needs (commands.NameFind b c text) = OneBody b.0
look_up_needs (commands.NameReferences b c t) = OneBody b.0
look_up_needs (commands.NameText b c t) = OneBody b.0
look_up_needs (commands.NamePart b c t) = OneBody b.0
look_up_needs (commands.Walk b) = ManyBodies
look_up_needs (commands.ChainSize b) = ManyBodies
look_up_needs (commands.ChainEqual b other) = ManyBodies
look_up_needs (commands.LargeCount b) = ManyBodies
look_up_needs (commands.LargeElement b i) = ManyBodies
look_up_needs (commands.LargeRun b i n) = ManyBodies
look_up_needs command = NoBody

-- Whether there is no room in memory for what is needed, where there is none for these blocks, and for those of a chain
-- where this says so.
abbrev pub lacks_room : (ℕ → Bool) → Bool → Needs → Bool
lacks_room shut full NoBody = false
lacks_room shut full (OneBody b) = shut b
lacks_room shut full ManyBodies = full

-- Locks.

-- how often a block is locked, 0 where it isn't
abbrev pub lock_count : Machine → ℕ → ℕ
lock_count m b = unwrap_or (get m.locks b) 0

abbrev pub is_locked : Machine → ℕ → Bool
is_locked m b = contains_key m.locks b

-- some block is locked
abbrev pub has_locks : Machine → Bool
has_locks m = nat_lt 0 (len m.locks)

-- as many blocks are locked as may be held in memory
abbrev pub all_locked : Machine → Bool
all_locked m = nat_le m.frames (len m.locks)

-- so that any other one can't be brought there
abbrev pub is_shut_out : Machine → ℕ → Bool
is_shut_out m b = all_locked m && not (is_locked m b)

abbrev pub has_no_room : Machine → Needs → Bool
has_no_room m needs = lacks_room (is_shut_out m) (all_locked m) needs

-- the block is locked once more
abbrev pub after_lock : Machine → ℕ → Machine
after_lock m b = record m { locks = insert m.locks b (lock_count m b + 1) }

-- and once less; with the last time it isn't locked any more
abbrev pub after_unlock : Machine → ℕ → Machine
after_unlock m b =
    record m { locks = if nat_le (lock_count m b) 1 then remove m.locks b else insert m.locks b (lock_count m b - 1) }

-- What is lent of a block that is locked; nothing of another, nor where it is of the other kind or has no such chunk.

abbrev pub locked_raw : Machine → ℕ → Option (List ℕ)
locked_raw m b = if is_locked m b && is_raw m.document b then Some (raw_bytes_of m.document b) else None

abbrev pub locked_chunk : Machine → ℕ → ℕ → Option (List ℕ)
locked_chunk m b c = if is_locked m b then get (chunks_of m.document b) c else None

-- whether an edit frees a locked block, or copies or frees a chain or edits a large array while any is locked
abbrev pub is_barred : Edit → Machine → Bool
is_barred (edits.FreeBlock b) m = is_locked m b.0
is_barred (edits.CopyChain b) m = has_locks m
is_barred (edits.FreeChain b) m = has_locks m
is_barred (edits.InsertLarge b i bytes) m = has_locks m
is_barred (edits.SetLarge b i bytes) m = has_locks m
is_barred (edits.DeleteLarge b i n) m = has_locks m
is_barred e m = false

-- Groups.

abbrev pub in_group : Machine → Bool
in_group m = is_some m.group

-- one without edits
abbrev pub is_empty_group : OpenGroup → Bool
is_empty_group g = not g.edited

-- whether a group is open that has edits, so that they are to be taken back where it is abandoned
abbrev pub has_edits : Machine → Bool
has_edits m = option_map_or (λ g. g.edited) m.group false

-- a group is open that has no edit yet
abbrev pub begun : Machine → Machine
begun m = record m { group = Some (record { before = m.document; edited = false; cost = 0; places = [] }) }

-- no more steps than the limit allows, the newest, or so many names
abbrev pub limited : {A : Type 0} → Option ℕ → List A → List A
limited None steps = steps
limited (Some most) steps = take most steps

-- No more than so many steps are left to be undone, the newest.
abbrev pub after_forget : ℕ → Machine → Machine
after_forget most m = record m {
  past = limited (Some most) m.past;
  past_names = limited (Some most) m.past_names;
  updated_at = position_within (Some most) m.updated_at;
  saved_at = position_within (Some most) m.saved_at;
}

-- The group is one step of the past, if it has edits; the limit may take the oldest. One without leaves both lists.
abbrev pub ended : OpenGroup → Machine → Machine
ended g m =
    let undo : UndoStep = record { kind = Group; cost = g.cost; document = g.before; places = g.places } in
    record m {
      past = if is_empty_group g then m.past else limited m.undo_limit (undo ∷ m.past);
      past_names = if is_empty_group g then m.past_names else limited m.undo_limit ([] ∷ m.past_names);
      group = None;
      updated_at = if is_empty_group g then m.updated_at else position_stepped m.undo_limit m.updated_at;
      saved_at = if is_empty_group g then m.saved_at else position_stepped m.undo_limit m.saved_at;
    }

-- The document is again the one when the group began. The future stays: edits of the group, if there were any, have
-- emptied it.
abbrev pub abandoned : OpenGroup → Machine → Machine
abandoned g m = record m { document = g.before; group = None; touched = taken_back g.places }

-- The newest two steps are one, a group that is charged for both.
abbrev pub joined_steps : List UndoStep → List UndoStep
joined_steps (s ∷ r ∷ past) =
    record { kind = Group; cost = s.cost + r.cost; document = r.document; places = r.places ++ s.places } ∷ past
joined_steps past = past

-- and have the newer one's name, else the older one's
abbrev pub joined_name : List ℕ → List ℕ → List ℕ
joined_name newer older = if length newer == 0 then older else newer

abbrev pub joined_names : List (List ℕ) → List (List ℕ)
joined_names (newer ∷ older ∷ names) = joined_name newer older ∷ names
joined_names names = names

abbrev pub after_join : Machine → Machine
after_join m = record m {
  past = joined_steps m.past;
  past_names = joined_names m.past_names;
  updated_at = position_after_join m.updated_at;
  saved_at = position_after_join m.saved_at;
}

-- how many bytes a name of a step has at most
abbrev pub longest_name : ℕ
longest_name = 64

-- The newest step to be undone has this name, in place of the one that it had; with no bytes it has none.
abbrev pub after_name : List ℕ → Machine → Machine
after_name name m = record m { past_names = name ∷ drop 1 m.past_names }

-- that of the newest step, [] where it has none
abbrev pub first_name : List (List ℕ) → List ℕ
first_name names = get_or names 0 []

-- there are no two steps to be joined
abbrev pub has_no_two : Machine → Bool
has_no_two m = nat_lt (length m.past) 2

-- the last sequence number, 2^64 - 1
abbrev pub last_sequence : ℕ
last_sequence = 18446744073709551615

-- what is refused while a group is open or a block is locked
abbrev pub at_rest : Machine → Conditions
at_rest m = (GroupOpen, in_group m) ∷ (Locked, has_locks m) ∷ []

-- what is refused of a commit
abbrev pub on_commit : Machine → Conditions
on_commit m = (Worn, m.sequence == last_sequence) ∷ at_rest m

-- the refusals of a command
abbrev pub command_conditions : Command → Machine → Conditions
command_conditions (commands.Edit e) m =
    (Locked, is_barred e m) ∷ (CacheFull, has_no_room m (edit_needs e)) ∷ conditions e m.document
command_conditions commands.Undo m = (NothingToUndo, length m.past == 0) ∷ at_rest m
command_conditions commands.Redo m = (NothingToRedo, length m.future == 0) ∷ at_rest m
command_conditions commands.Begin m = (GroupOpen, in_group m) ∷ []
command_conditions commands.End m = (NoGroup, not (in_group m)) ∷ []
command_conditions commands.Abandon m = (NoGroup, not (in_group m)) ∷ (Locked, has_locks m) ∷ []
command_conditions commands.Join m = (NothingToUndo, has_no_two m) ∷ (GroupOpen, in_group m) ∷ []
command_conditions (commands.Forget most) m = []
command_conditions (commands.Name name) m =
    (TooBig, nat_lt longest_name (length name)) ∷ (NothingToUndo, length m.past == 0) ∷ (GroupOpen, in_group m) ∷ []
command_conditions commands.UndoName m = (NothingToUndo, length m.past == 0) ∷ (GroupOpen, in_group m) ∷ []
command_conditions commands.RedoName m = (NothingToRedo, length m.future == 0) ∷ (GroupOpen, in_group m) ∷ []
command_conditions commands.UndoPlaces m = (NothingToUndo, length m.past == 0) ∷ (GroupOpen, in_group m) ∷ []
command_conditions commands.RedoPlaces m = (NothingToRedo, length m.future == 0) ∷ (GroupOpen, in_group m) ∷ []
command_conditions commands.AbandonPlaces m = (NoGroup, not (in_group m)) ∷ []
command_conditions commands.Update m = on_commit m
command_conditions commands.Save m = on_commit m
command_conditions commands.Revert m = on_commit m
command_conditions commands.SaveAs m = (NoTarget, not m.target) ∷ on_commit m
command_conditions (commands.Lock b) m =
    (LockLimit, lock_count m b.0 == most_locks) ∷ (CacheFull, is_shut_out m b.0) ∷ on_block m.document b.0
command_conditions (commands.Unlock b) m = (NotLocked, not (is_locked m b.0)) ∷ on_block m.document b.0
command_conditions (commands.Dirty b) m = (NotLocked, not (is_locked m b.0)) ∷ on_block m.document b.0
command_conditions c m = (CacheFull, has_no_room m (look_up_needs c)) ∷ look_up_conditions c m.document

-- The document becomes this one by an edit of this kind and cost at these places, which empties the future. Where no
-- group is open the old document goes on the past, of which the limit may take the oldest; in a group the edit is
-- counted there.
abbrev pub recorded : Option OpenGroup → Kind → ℕ → List Place → Document → Machine → Machine
recorded None kind cost ps d m =
    let undo : UndoStep = record { kind = kind; cost = cost; document = m.document; places = ps } in
    record m {
      document = d;
      past = limited m.undo_limit (undo ∷ m.past);
      future = [];
      past_names = limited m.undo_limit ([] ∷ m.past_names);
      future_names = [];
      updated_at = position_stepped m.undo_limit m.updated_at;
      saved_at = position_stepped m.undo_limit m.saved_at;
      touched = ps;
    }
recorded (Some g) kind cost ps d m = record m {
  document = d;
  future = [];
  future_names = [];
  group = Some (record g { edited = true; cost = g.cost + cost; places = g.places ++ ps });
  updated_at = position_in_group m.updated_at;
  saved_at = position_in_group m.saved_at;
  touched = ps;
}

abbrev pub edited : Edit → Machine → Reply × Machine
edited e m =
    let after = effect e m.document in
    let recorded_in = recorded m.group (kind_of e) (cost e m.document after.0) (places_of e m.document) in
    (reply_of_done after.1, recorded_in after.0 m)

-- the newest past document is the document again, and the old one is the next of the future, with the step's name
abbrev pub undone : Machine → List UndoStep → Option Machine
undone m [] = None
undone m (s ∷ past) =
    Some (record m {
      document = s.document;
      past = past;
      future = record s { document = m.document } ∷ m.future;
      past_names = drop 1 m.past_names;
      future_names = take 1 m.past_names ++ m.future_names;
      updated_at = position_after_undo m.updated_at;
      saved_at = position_after_undo m.saved_at;
      touched = taken_back s.places;
    })

-- the next document of the future is the document again, and the old one is the newest of the past, with the step's
-- name
abbrev pub redone : Machine → List UndoStep → Option Machine
redone m [] = None
redone m (s ∷ future) =
    Some (record m {
      document = s.document;
      past = record s { document = m.document } ∷ m.past;
      future = future;
      past_names = take 1 m.future_names ++ m.past_names;
      future_names = drop 1 m.future_names;
      updated_at = position_after_redo m.updated_at;
      saved_at = position_after_redo m.saved_at;
      touched = s.places;
    })

-- the document becomes the updated one
abbrev pub after_update : Machine → Machine
after_update m = record m { updated = m.document; updated_at = Back 0; sequence = m.sequence + 1 }

-- the document becomes the updated and the saved one
abbrev pub after_save : Machine → Machine
after_save m = record m {
  updated = m.document;
  saved = m.document;
  updated_at = Back 0;
  saved_at = Back 0;
  sequence = m.sequence + 1;
}

-- the saved document becomes the document and the updated one, and there is nothing left to undo or to redo
abbrev pub after_revert : Machine → Machine
after_revert m = record m {
  document = m.saved;
  past = [];
  future = [];
  past_names = [];
  future_names = [];
  updated = m.saved;
  updated_at = Back 0;
  saved_at = Back 0;
  touched = place.All ∷ [];
  sequence = m.sequence + 1;
}

-- the document becomes the updated and the saved one of the target, which is a new file and is used up as a target
abbrev pub after_save_as : Machine → Machine
after_save_as m = record m {
  updated = m.document;
  saved = m.document;
  updated_at = Back 0;
  saved_at = Back 0;
  target = false;
  sequence = 1;
}

-- Whether the document is the committed one that stands there: no step lies between, nor an edit of the open group.
abbrev pub is_committed : Position → Machine → Bool
is_committed p m = is_here p && not (has_edits m)

-- 1 where the document is as it was saved, and 2 more where it is as it was updated
abbrev pub stands_as : Machine → ℕ
stands_as m = (if is_committed m.saved_at m then 1 else 0) + (if is_committed m.updated_at m then 2 else 0)

-- What an undo tells that nothing refuses, a redo, and an abandon.

abbrev pub undo_places : List UndoStep → List Place
undo_places [] = []
undo_places (s ∷ past) = taken_back s.places

abbrev pub redo_places : List UndoStep → List Place
redo_places [] = []
redo_places (s ∷ future) = s.places

abbrev pub abandon_places : Option OpenGroup → List Place
abandon_places None = []
abandon_places (Some g) = taken_back g.places

-- What a command that nothing refuses answers, and the machine after it. A look-up leaves the machine; a blank line
-- gets no answer.
abbrev pub done_by : Command → Machine → Option (Reply × Machine)
done_by (commands.Edit e) m = Some (edited e m)
done_by commands.Undo m = option_map (λ new. (Accepted, new)) (undone m m.past)
done_by commands.Redo m = option_map (λ new. (Accepted, new)) (redone m m.future)
done_by commands.Begin m = Some (Accepted, begun m)
done_by commands.End m = option_map (λ g. (Accepted, ended g m)) m.group
done_by commands.Abandon m = option_map (λ g. (Accepted, abandoned g m)) m.group
done_by commands.Join m = Some (Accepted, after_join m)
done_by (commands.Forget most) m = Some (Accepted, after_forget most m)
done_by (commands.Name name) m = Some (Accepted, after_name name m)
done_by commands.Update m = Some (Accepted, after_update m)
done_by commands.Save m = Some (Accepted, after_save m)
done_by commands.Revert m = Some (Accepted, after_revert m)
done_by commands.SaveAs m = Some (Accepted, after_save_as m)
done_by (commands.Lock b) m = Some (Accepted, after_lock m b.0)
done_by (commands.Unlock b) m = Some (Accepted, after_unlock m b.0)
done_by (commands.Dirty b) m = Some (Accepted, m)
done_by (commands.Locks b) m = Some (NumberIs (lock_count m b.0), m)
done_by commands.Undos m = Some (NumberIs (length m.past), m)
done_by commands.Redos m = Some (NumberIs (length m.future), m)
done_by commands.Modified m = Some (NumberIs (stands_as m), m)
done_by commands.UndoName m = Some (BytesAre (first_name m.past_names), m)
done_by commands.RedoName m = Some (BytesAre (first_name m.future_names), m)
done_by commands.Touched m = Some (PlacesAre m.touched, m)
done_by commands.UndoPlaces m = Some (PlacesAre (undo_places m.past), m)
done_by commands.RedoPlaces m = Some (PlacesAre (redo_places m.future), m)
done_by commands.AbandonPlaces m = Some (PlacesAre (abandon_places m.group), m)
done_by c m = option_map (λ reply. (reply, m)) (look_up c m.document)

-- the first refusal, which leaves the machine as it was, or what the request does
abbrev pub next : Request → Machine → Option (Reply × Machine)
next None m = Some (Refused BadCommand, m)
next (Some c) m =
    option_map_or (λ fault. Some (Refused fault, m)) (first_refusal (command_conditions c m)) (done_by c m)

-- Whether taking a step of this kind back may take memory and call the store, and bringing it back: a block that comes
-- in is written, and one in whose body the step was made may have to be brought into memory. Where it is there, a
-- session says more.

abbrev pub undo_takes : Kind → Bool
undo_takes Plain = false
undo_takes (In b) = true
undo_takes Made = false
undo_takes Freed = true
undo_takes Group = true

abbrev pub redo_takes : Kind → Bool
redo_takes Plain = false
redo_takes (In b) = true
redo_takes Made = true
redo_takes Freed = false
redo_takes Group = true

-- so of the newest step of a list; where there is none, nothing is taken
abbrev pub newest_takes : (Kind → Bool) → List UndoStep → Bool
newest_takes takes [] = false
newest_takes takes (s ∷ steps) = takes s.kind

-- What may take memory, so that want of it may stand in place of the answer. Of all else the rules alone decide.
abbrev pub takes_memory : Command → Machine → Bool
takes_memory commands.Blank m = false
takes_memory (commands.Edit e) m = true
takes_memory commands.Undo m = newest_takes undo_takes m.past
takes_memory commands.Redo m = newest_takes redo_takes m.future
takes_memory commands.Begin m = false
takes_memory commands.End m = false
takes_memory commands.Abandon m = has_edits m
takes_memory commands.Join m = not (in_group m) && not (has_no_two m)
takes_memory (commands.Forget most) m = false
takes_memory (commands.Name name) m =
    not (in_group m) && not (length m.past == 0) && nat_lt 0 (length name) && nat_le (length name) longest_name
takes_memory commands.Update m = true
takes_memory commands.Save m = true
takes_memory commands.Revert m = true
takes_memory commands.SaveAs m = m.target
takes_memory (commands.Lock b) m = true
takes_memory (commands.Unlock b) m = false
takes_memory (commands.Dirty b) m = false
takes_memory (commands.Locks b) m = false
takes_memory (commands.Info b) m = true
takes_memory (commands.HeapType b) m = false
takes_memory commands.List m = true
takes_memory (commands.Find uid start) m = false
takes_memory commands.MapBlock m = false
takes_memory (commands.ReadRaw b) m = true
takes_memory (commands.Chunks b) m = true
takes_memory (commands.Read b c) m = true
takes_memory (commands.ArrayCount b c) m = true
takes_memory (commands.ArrayElement b c i) m = true
takes_memory (commands.ElementReferences b c t) m = true
takes_memory (commands.ElementBytes b c t) m = true
takes_memory (commands.ElementsUsed b c) m = true
takes_memory (commands.TokenOfUsed b c k) m = true
takes_memory (commands.UsedOfToken b c t) m = true
takes_memory (commands.NameFind b c text) m = true
takes_memory (commands.NameReferences b c t) m = true
takes_memory (commands.NameText b c t) m = true
takes_memory (commands.NamePart b c t) m = true
takes_memory (commands.Walk b) m = true
takes_memory (commands.ChainSize b) m = true
takes_memory (commands.ChainEqual b other) m = true
takes_memory (commands.LargeCount b) m = true
takes_memory (commands.LargeElement b i) m = true
takes_memory (commands.LargeRun b i n) m = true
takes_memory commands.Undos m = false
takes_memory commands.Redos m = false
takes_memory commands.Modified m = false
takes_memory commands.UndoName m = false
takes_memory commands.RedoName m = false
takes_memory commands.Touched m = not (length m.touched == 0)
takes_memory commands.UndoPlaces m = not (in_group m) && not (length m.past == 0)
takes_memory commands.RedoPlaces m = not (in_group m) && not (length m.future == 0)
takes_memory commands.AbandonPlaces m = has_edits m

-- whether a step is of a user ID, a type or the map block, so that no body is looked into
abbrev pub is_of_no_body : Kind → Bool
is_of_no_body Plain = true
is_of_no_body kind = false

-- What calls the store, or the target of a save-as: the commits, and all that may have to bring a block into memory, or
-- another one out of it. The list of blocks is known without, and so is what an edit of a user ID, a type or the map
-- block changes; a join makes one step of two where they are kept, and a name is kept with its step.
abbrev pub calls_store : Command → Machine → Bool
calls_store commands.List m = false
calls_store commands.Join m = false
calls_store (commands.Name name) m = false
calls_store commands.Touched m = false
calls_store commands.UndoPlaces m = false
calls_store commands.RedoPlaces m = false
calls_store commands.AbandonPlaces m = false
calls_store (commands.Edit e) m = not (is_of_no_body (kind_of e))
calls_store c m = takes_memory c m

-- The faults that no rule decides, of a call in which the store, or the target of a save-as, failed or didn't: lack of
-- memory where some may be taken, and a file fault where the store is called and failed.
abbrev pub may_give_up : Bool → Command → Machine → Fault → Bool
may_give_up failed c m Memory = takes_memory c m
may_give_up failed c m File = failed && calls_store c m
may_give_up failed c m fault = false

-- the machine's own answer
abbrev pub Answers : Machine → Request → Reply → Machine → Type 0
Answers old request reply new = next request old ≡ Some (reply, new)

-- a fault that no rule decides, in place of it, and nothing changes
pub record GivesUp (failed : Bool) (old : Machine) (request : Request) (reply : Reply) (new : Machine) : Type 0 where
  pub fault : Fault
  pub may : option_map_or (λ c. may_give_up failed c old fault) request false ≡ true
  pub says : reply ≡ Refused fault
  pub stays : new ≡ old

-- The machine may answer a request so, and go on to new, in a call in which the store failed or didn't.
abbrev pub Step : Bool → Machine → Request → Reply → Machine → Type 0
Step failed old request reply new = Answers old request reply new ⊎ GivesUp failed old request reply new

-- a request, its reply, and whether the store failed meanwhile
pub record Call : Type 0 where
  pub request : Request
  pub reply : Reply
  pub failed : Bool

-- in how many of these calls the store failed
abbrev pub failed_calls : List Call → ℕ
failed_calls calls = count_by (λ c. c.failed) calls

-- From old, the machine may answer these calls, one after another, and go on to new.
abbrev pub Run : Machine → List Call → Machine → Type 0
Run old [] new = new ≡ old
Run old (c ∷ cs) new = (mid : Machine) × Step c.failed old c.request c.reply mid × Run mid cs new
