-- Every step of the machine keeps validity: edits, then the machine.
use Rattle.std.proofs.Common.{◌≡◌, ℕ, zero, suc, ◌+◌, ◌<◌, ◌≤◌, Bool, true, false, List, [], ◌∷◌, ◌++◌, length, replicate, Option, Some, None, IfSome, unwrap_or, refl, sym, ap, subst, ◌∙◌, inl, inr, arith, le-leb, ltb-false, take}
use Rattle.std.proofs.lemmas.Bool.{cases_Bool, eqb-false, true≢false}
use Rattle.std.proofs.lemmas.List.{length-replicate}
use Rattle.std.specs.List.{All}
use Rattle.std.specs.Option.{option_map, option_map_or}
use Rattle.std.specs.FinMap.{get, empty}
use Rattle.geos_model.specs.Refusal.{Conditions, first_refusal}
use Rattle.geos_model.specs.Bytes.{written, spliced, resized, inserted, deleted}
use Rattle.geos_model.specs.Array.{array_bytes}
use Rattle.geos_model.specs.ArrayEdits.{new_array, element_inserted, element_set, element_resized, elements_deleted, array_zeroed, on_array, create_conditions, insert_conditions, set_conditions, resize_conditions, delete_conditions}
use Rattle.geos_model.specs.ElementArray.{element_bytes}
use Rattle.geos_model.specs.ElementEdits.{no_slots, element_added, reference_added, reference_removed, element_deleted, element_changed, on_token, create_elements_conditions, add_conditions, add_reference_conditions, change_conditions}
use Rattle.geos_model.specs.NameArray.{name_bytes}
use Rattle.geos_model.specs.NameEdits.{no_names, name_added, name_changed, name_part_set, name_reference_removed, on_name_token, create_names_conditions, add_name_conditions, change_name_conditions, set_part_conditions}
use Rattle.geos_model.specs.Cost.{cost}
use Rattle.geos_model.specs.Document.{Block, Document, empty_document, is_valid_body, is_live, is_heap, is_heap_body, is_raw, raw_bytes_of, block_at, IsValid, attributes_of, no_block, FitAttributes, IsTyped}
use Rattle.geos_model.specs.Meaning.{chunk_at, past_end, conditions, effect}
use Rattle.geos_model.specs.Reply.{Reply, Accepted, Refused}
use Rattle.geos_model.specs.Machine.{UndoStep, OpenGroup, Machine, Request, Call, IsValidGroup, IsValidMachine, AreValidLocks, Step, Run, opened_machine, has_locks, is_barred, command_conditions, done_by, recorded, edited, undone, redone, begun, ended, abandoned, after_lock, after_name, after_unlock, after_update, after_save, after_revert, after_save_as, kind_of, limited, joined_steps, after_join, after_forget}
use Rattle.geos_model.specs.Validity.{word_given, word_asked, ValidityLaw}
use Rattle.geos_model.specs.declared.fault.Fault.{Fault}
use Rattle.geos_model.specs.declared.fault.Fault.TheVariants.{Locked, GroupOpen, NoBlock, TooBig, NoHandles, Range, IsMap, WrongKind}
use Rattle.geos_model.specs.declared.command.Body.TheVariants.{Raw, Heap}
use Rattle.geos_model.specs.declared.command.Kind.{Kind}
use Rattle.geos_model.specs.declared.command.Kind.TheVariants.{Group}
use Rattle.geos_model.specs.declared.command.Edit.{Edit}
use Rattle.geos_model.specs.declared.command.Edit.TheVariants as edits
use Rattle.geos_model.specs.declared.command.Command.{Command}
use Rattle.geos_model.specs.declared.command.Command.TheVariants as commands
use Rattle.geos_model.specs.Places.{places_of}
use Rattle.geos_model.specs.declared.place.Place.{Place}
use Rattle.geos_model.proofs.Refusals.{none_applies, or_none}
use Rattle.geos_model.proofs.FirstRefusals.{edit-accepted}
use Rattle.geos_model.proofs.Locks.{no_locks-valid, kept_locks-valid, empty_locks-valid, locked-live, lock-valid, unlock-valid}
use Rattle.geos_model.proofs.ChainEdits.{chain-copy, chain-free}
use Rattle.geos_model.proofs.ValidEdits.{created-valid, inserted-valid, set-valid, deleted-valid}
use Rattle.geos_model.proofs.Undoing.{OnDone, IsAt, on_done, done_by-stays, same_machine, not_in_group}
use Rattle.geos_model.proofs.Validity.{not_false, attributes-fit, attributes-typed, raw-typed, without_block-valid, with_body-valid, with_attributes-valid, with_map-valid, block_there, makes_block-valid, raw_bytes-few, length-written, length-deleted, new_chunk-valid, new_bytes-valid, fewer_bytes-valid, without_chunk-valid, empty-heap, empty_document-valid}

-- An edit that nothing refuses keeps validity.
pub effect-valid : (e : Edit) (d : Document) → word_given e < 65536 → IsValid d → first_refusal (conditions e d) ≡ None → IsValid (effect e d).0
effect-valid (edits.NewRaw uid size) d low valid none =
    let cs : Conditions = conditions (edits.NewRaw uid size) d in
    let few : size ≤ 65520 = ltb-false 65520 size (or_none (none_applies cs none TooBig refl)).0 in
    let long = length-replicate {A = ℕ} size 0 in
    makes_block-valid d (record { attributes = record { user_id = uid; heap_type = 0 }; body = Raw (replicate size 0) }) valid (or_none (none_applies cs none NoHandles refl)).0
    (record { user_id = low; heap_type = omega arith }) (λ _. refl) (le-leb (length (replicate size 0)) 65520 (omega (arith, few, long)))
effect-valid (edits.NewHeap uid) d low valid none =
    let cs : Conditions = conditions (edits.NewHeap uid) d in
    makes_block-valid d (record { attributes = record { user_id = uid; heap_type = 0 }; body = Heap empty }) valid (or_none (none_applies cs none NoHandles refl)).0
    (record { user_id = low; heap_type = omega arith }) (λ _. refl) empty-heap
effect-valid (edits.FreeBlock b) d low valid none =
    let cs : Conditions = conditions (edits.FreeBlock b) d in
    without_block-valid d b.0 valid (eqb-false d.map_block b.0 (or_none (none_applies cs none IsMap refl)).0)
effect-valid (edits.CopyBlock b) d low valid none =
    let cs : Conditions = conditions (edits.CopyBlock b) d in
    let there = block_there (get d.blocks b.0) (not_false (is_live d b.0) (or_none (none_applies cs none NoBlock refl)).0) in
    let old = valid.blocks b.0 there.0 there.1 in
    let same : block_at d b.0 ≡ there.0 = ap (λ (o : Option Block). unwrap_or o no_block) there.1 in
    makes_block-valid d (block_at d b.0) valid (or_none (none_applies cs none NoHandles refl)).0
    (subst (λ (x : Block). FitAttributes x.attributes) (sym same) old.attributes) (subst (λ (x : Block). IsTyped (is_heap_body x.body) x.attributes) (sym same) old.typed)
    (subst (λ (x : Block). is_valid_body x.body ≡ true) (sym same) old.body)
effect-valid (edits.WriteRaw b at bytes) d low valid none =
    let cs : Conditions = conditions (edits.WriteRaw b at bytes) d in
    let live = not_false (is_live d b.0) (or_none (none_applies cs none NoBlock refl)).0 in
    let raw = not_false (is_raw d b.0) (or_none (none_applies cs none WrongKind refl)).0 in
    let within = ltb-false (length (raw_bytes_of d b.0)) (at + length bytes) (or_none (none_applies cs none Range refl)).0 in
    let same = length-written (raw_bytes_of d b.0) at bytes within in
    let few = raw_bytes-few d b.0 valid in
    with_body-valid d b.0 (Raw (written (raw_bytes_of d b.0) at bytes)) valid live (λ _. raw-typed d b.0 valid raw)
    (le-leb (length (written (raw_bytes_of d b.0) at bytes)) 65520 (omega (arith, same, few)))
effect-valid (edits.SpliceRaw b at n bytes) d low valid none =
    let cs : Conditions = conditions (edits.SpliceRaw b at n bytes) d in
    let new : List ℕ = spliced (raw_bytes_of d b.0) at n bytes in
    let live = not_false (is_live d b.0) (or_none (none_applies cs none NoBlock refl)).0 in
    let raw = not_false (is_raw d b.0) (or_none (none_applies cs none WrongKind refl)).0 in
    with_body-valid d b.0 (Raw new) valid live (λ _. raw-typed d b.0 valid raw) (le-leb (length new) 65520 (ltb-false 65520 (length new) (or_none (none_applies cs none TooBig refl)).0))
effect-valid (edits.Attach b bytes) d low valid none =
    let cs : Conditions = conditions (edits.Attach b bytes) d in
    let live = not_false (is_live d b.0) (or_none (none_applies cs none NoBlock refl)).0 in
    let raw = not_false (is_raw d b.0) (or_none (none_applies cs none WrongKind refl)).0 in
    with_body-valid d b.0 (Raw bytes) valid live (λ _. raw-typed d b.0 valid raw) (le-leb (length bytes) 65520 (ltb-false 65520 (length bytes) (or_none (none_applies cs none TooBig refl)).0))
effect-valid (edits.SetUserId b uid) d low valid none =
    with_attributes-valid d b.0 (record (attributes_of d b.0) { user_id = uid }) valid (record { user_id = low; heap_type = (attributes-fit d b.0 valid).heap_type })
    (λ raw. attributes-typed d b.0 valid raw)
effect-valid (edits.SetType b heap_type) d low valid none =
    let cs : Conditions = conditions (edits.SetType b heap_type) d in
    let heap = not_false (is_heap d b.0) (or_none (none_applies cs none WrongKind refl)).0 in
    with_attributes-valid d b.0 (record (attributes_of d b.0) { heap_type = heap_type }) valid (record { user_id = (attributes-fit d b.0 valid).user_id; heap_type = low })
    (λ raw. absurd (true≢false (sym heap ∙ raw)))
effect-valid (edits.SetMap b) d low valid none =
    let cs : Conditions = conditions (edits.SetMap b) d in
    with_map-valid d b.0 valid (or_none (none_applies cs none NoBlock refl)).0
effect-valid (edits.Alloc b n) d low valid none = new_chunk-valid d valid b.0 [] (replicate n 0) none
effect-valid (edits.Free b c) d low valid none = without_chunk-valid d valid b.0 c.0 none
effect-valid (edits.Resize b c n) d low valid none = new_bytes-valid d valid b.0 c.0 [] (resized (chunk_at d b.0 c.0) n) none
effect-valid (edits.Insert b c at n) d low valid none =
    new_bytes-valid d valid b.0 c.0 (past_end (chunk_at d b.0 c.0) at) (inserted (chunk_at d b.0 c.0) at n) none
effect-valid (edits.Delete b c at n) d low valid none =
    let old : List ℕ = chunk_at d b.0 c.0 in
    fewer_bytes-valid d valid b.0 c.0 (at + n) (deleted old at n) (length-deleted old at n) none
effect-valid (edits.Write b c at bytes) d low valid none =
    let old : List ℕ = chunk_at d b.0 c.0 in
    fewer_bytes-valid d valid b.0 c.0 (at + length bytes) (written old at bytes) (λ within. let same = length-written old at bytes within in omega (arith, same)) none
effect-valid (edits.Splice b c at n bytes) d low valid none =
    let old : List ℕ = chunk_at d b.0 c.0 in new_bytes-valid d valid b.0 c.0 (past_end old (at + n)) (spliced old at n bytes) none
effect-valid (edits.CreateArray b size extra) d low valid none = new_chunk-valid d valid b.0 (create_conditions size extra) (array_bytes (new_array size extra)) none
effect-valid (edits.InsertElement b c i element) d low valid none =
    let old : List ℕ = chunk_at d b.0 c.0 in new_bytes-valid d valid b.0 c.0 (insert_conditions old i element) (element_inserted old i element) none
effect-valid (edits.SetElement b c i element) d low valid none =
    let old : List ℕ = chunk_at d b.0 c.0 in new_bytes-valid d valid b.0 c.0 (set_conditions old i element) (element_set old i element) none
effect-valid (edits.ResizeElement b c i n) d low valid none =
    let old : List ℕ = chunk_at d b.0 c.0 in new_bytes-valid d valid b.0 c.0 (resize_conditions old i) (element_resized old i n) none
effect-valid (edits.DeleteElements b c i k) d low valid none =
    let old : List ℕ = chunk_at d b.0 c.0 in new_bytes-valid d valid b.0 c.0 (delete_conditions old i k) (elements_deleted old i k) none
effect-valid (edits.ZeroArray b c) d low valid none =
    let old : List ℕ = chunk_at d b.0 c.0 in new_bytes-valid d valid b.0 c.0 (on_array old) (array_zeroed old) none
effect-valid (edits.CreateElementArray b size) d low valid none = new_chunk-valid d valid b.0 (create_elements_conditions size) (element_bytes (no_slots size)) none
effect-valid (edits.AddElement b c element) d low valid none =
    let old : List ℕ = chunk_at d b.0 c.0 in new_bytes-valid d valid b.0 c.0 (add_conditions old element) (element_added old element) none
effect-valid (edits.AddReference b c t) d low valid none =
    let old : List ℕ = chunk_at d b.0 c.0 in new_bytes-valid d valid b.0 c.0 (add_reference_conditions old t.0) (reference_added old t.0) none
effect-valid (edits.RemoveReference b c t) d low valid none =
    let old : List ℕ = chunk_at d b.0 c.0 in new_bytes-valid d valid b.0 c.0 (on_token old t.0) (reference_removed old t.0) none
effect-valid (edits.DeleteElement b c t) d low valid none =
    let old : List ℕ = chunk_at d b.0 c.0 in new_bytes-valid d valid b.0 c.0 (on_token old t.0) (element_deleted old t.0) none
effect-valid (edits.ChangeElement b c t element) d low valid none =
    let old : List ℕ = chunk_at d b.0 c.0 in new_bytes-valid d valid b.0 c.0 (change_conditions old t.0 element) (element_changed old t.0 element) none
effect-valid (edits.CreateNameArray b part) d low valid none = new_chunk-valid d valid b.0 (create_names_conditions part) (name_bytes (no_names part)) none
effect-valid (edits.AddName b c text part replace) d low valid none =
    let old : List ℕ = chunk_at d b.0 c.0 in new_bytes-valid d valid b.0 c.0 (add_name_conditions old text part) (name_added old text part replace) none
effect-valid (edits.ChangeName b c t text) d low valid none =
    let old : List ℕ = chunk_at d b.0 c.0 in new_bytes-valid d valid b.0 c.0 (change_name_conditions old t.0 text) (name_changed old t.0 text) none
effect-valid (edits.SetNamePart b c t part) d low valid none =
    let old : List ℕ = chunk_at d b.0 c.0 in new_bytes-valid d valid b.0 c.0 (set_part_conditions old t.0 part) (name_part_set old t.0 part) none
effect-valid (edits.RemoveName b c t) d low valid none =
    let old : List ℕ = chunk_at d b.0 c.0 in new_bytes-valid d valid b.0 c.0 (on_name_token old t.0) (name_reference_removed old t.0) none
effect-valid (edits.CopyChain b) d low valid none = (chain-copy d b.0 valid none).copied.valid
effect-valid (edits.FreeChain b) d low valid none = (chain-free d b.0 valid none).freed.valid
effect-valid (edits.CreateLarge uid size) d low valid none = created-valid d uid size valid low none
effect-valid (edits.InsertLarge b i bytes) d low valid none = inserted-valid d b.0 i.0 bytes valid none
effect-valid (edits.SetLarge b i bytes) d low valid none = set-valid d b.0 i.0 bytes valid none
effect-valid (edits.DeleteLarge b i n) d low valid none = deleted-valid d b.0 i.0 n.0 valid none

-- The machine.

-- valid documents of steps, and of one more or one fewer
abbrev pub AreValid : List UndoStep → Type 0
AreValid steps = All (λ s. IsValid s.document) steps

pub valid-push : (s : UndoStep) (steps : List UndoStep) → IsValid s.document → AreValid steps → AreValid (s ∷ steps)
valid-push s steps valid all zero d l = valid
valid-push s steps valid all (suc k) d l = all k d (omega arith)

pub valid-first : (s : UndoStep) (steps : List UndoStep) → AreValid (s ∷ steps) → IsValid s.document
valid-first s steps all = all 0 s (omega arith)

pub valid-rest : (s : UndoStep) (steps : List UndoStep) → AreValid (s ∷ steps) → AreValid steps
valid-rest s steps all k d l = all (suc k) d (omega arith)

-- the newest ones of them
pub valid-taken : (most : ℕ) (steps : List UndoStep) → AreValid steps → AreValid (take most steps)
valid-taken zero steps all = λ k d l. absurd (omega (arith, l))
valid-taken (suc most) [] all = all
valid-taken (suc most) (s ∷ steps) all = valid-push s (take most steps) (valid-first s steps all) (valid-taken most steps (valid-rest s steps all))

pub valid-limited : (limit : Option ℕ) (steps : List UndoStep) → AreValid steps → AreValid (limited limit steps)
valid-limited None steps all = all
valid-limited (Some most) steps all = valid-taken most steps all

-- the newest two of them as one
valid-joined : (steps : List UndoStep) → AreValid steps → AreValid (joined_steps steps)
valid-joined [] all = all
valid-joined (s ∷ []) all = all
valid-joined (s ∷ r ∷ steps) all =
    let older = valid-rest s (r ∷ steps) all in
    valid-push (record { kind = Group; cost = s.cost + r.cost; document = r.document; places = r.places ++ s.places }) steps (valid-first r steps older) (valid-rest r steps older)

pub valid-none : AreValid []
valid-none k d l = absurd (omega arith)

-- the machine after an answer is valid
abbrev IsLeftValid : Reply → Machine → Type 0
IsLeftValid reply new = IsValidMachine new

-- a group stays valid where the document and the future stay
kept_group-valid : (m new : Machine) (group : Option OpenGroup) → new.document ≡ m.document → new.future ≡ m.future
    → IfSome group (λ g. IsValidGroup g m) → IfSome group (λ g. IsValidGroup g new)
kept_group-valid m new None document future valid = tt
kept_group-valid m new (Some g) document future valid = record {
  before = valid.before;
  none = λ none. ((valid.none none).0 ∙ sym document, (valid.none none).1);
  some = λ some. future ∙ valid.some some;
}

-- where none is open, nothing is asked
no_group-valid : (m : Machine) → m.group ≡ None → IfSome m.group (λ g. IsValidGroup g m)
no_group-valid m none = subst (λ group. IfSome group (λ g. IsValidGroup g m)) (sym none) tt

-- the one that is open is valid
open_group-valid : (m : Machine) (g : OpenGroup) → Some g ≡ m.group → IsValidMachine m → IsValidGroup g m
open_group-valid m g is valid = subst (λ group. IfSome group (λ g. IsValidGroup g m)) (sym is) valid.group

undone-valid : (m : Machine) (past : List UndoStep) → m.group ≡ None → has_locks m ≡ false → IsValidMachine m → AreValid past
    → OnDone IsLeftValid (option_map (λ new. (Accepted, new)) (undone m past))
undone-valid m [] alone free valid past = tt
undone-valid m (s ∷ past) alone free valid all = record {
  document = valid-first s past all;
  past = valid-rest s past all;
  future = valid-push (record s { document = m.document }) m.future valid.document valid.future;
  group = no_group-valid (unwrap_or (undone m (s ∷ past)) m) alone;
  updated = valid.updated;
  saved = valid.saved;
  locks = no_locks-valid m (unwrap_or (undone m (s ∷ past)) m) valid.locks free refl refl;
}

redone-valid : (m : Machine) (future : List UndoStep) → m.group ≡ None → has_locks m ≡ false → IsValidMachine m → AreValid future
    → OnDone IsLeftValid (option_map (λ new. (Accepted, new)) (redone m future))
redone-valid m [] alone free valid future = tt
redone-valid m (s ∷ future) alone free valid all = record {
  document = valid-first s future all;
  past = valid-push (record s { document = m.document }) m.past valid.document valid.past;
  future = valid-rest s future all;
  group = no_group-valid (unwrap_or (redone m (s ∷ future)) m) alone;
  updated = valid.updated;
  saved = valid.saved;
  locks = no_locks-valid m (unwrap_or (redone m (s ∷ future)) m) valid.locks free refl refl;
}

-- so is the machine with a valid document that an edit comes to, in a group and in none
recorded-valid : (group : Option OpenGroup) (kind : Kind) (n : ℕ) (ps : List Place) (d : Document) (m : Machine) → IsValidMachine m → group ≡ m.group → IsValid d
    → ((new : Machine) → new.locks ≡ m.locks → new.frames ≡ m.frames → new.document ≡ d → AreValidLocks new) → IsValidMachine (recorded group kind n ps d m)
recorded-valid None kind n ps d m valid is good locks = record {
  document = good;
  past = valid-limited m.undo_limit (record { kind = kind; cost = n; document = m.document; places = ps } ∷ m.past) (valid-push (record { kind = kind; cost = n; document = m.document; places = ps }) m.past valid.document valid.past);
  future = valid-none;
  group = no_group-valid (recorded None kind n ps d m) (sym is);
  updated = valid.updated;
  saved = valid.saved;
  locks = locks (recorded None kind n ps d m) refl refl refl;
}
recorded-valid (Some g) kind n ps d m valid is good locks = record {
  document = good;
  past = valid.past;
  future = valid-none;
  group = record {
    before = (open_group-valid m g is valid).before;
    none = λ none. absurd (cc none);
    some = λ some. refl;
  };
  updated = valid.updated;
  saved = valid.saved;
  locks = locks (recorded (Some g) kind n ps d m) refl refl refl;
}

edited-valid : (e : Edit) (m : Machine) → word_given e < 65536 → IsValidMachine m → is_barred e m ≡ false → first_refusal (conditions e m.document) ≡ None → IsValidMachine (edited e m).1
edited-valid e m low valid free none =
    let after : Document = (effect e m.document).0 in
    recorded-valid m.group (kind_of e) (cost e m.document after) (places_of e m.document) after m valid refl (effect-valid e m.document low valid.document none)
    (λ new same as_many is. kept_locks-valid m new valid.locks same as_many (λ b locked live. ap (λ d. is_live d b) is ∙ locked-live e m free b locked live))

-- A group that ends, or is abandoned where no block is locked.
ended-valid : (group : Option OpenGroup) (m : Machine) → IsValidMachine m → IfSome group (λ g. IsValidGroup g m)
    → OnDone IsLeftValid (option_map (λ g. (Accepted, ended g m)) group)
ended-valid None m valid held = tt
ended-valid (Some g) m valid held = record {
  document = valid.document;
  past = elim (cases_Bool g.edited) [
    | inl some ↦ rw some (valid-limited m.undo_limit (record { kind = Group; cost = g.cost; document = g.before; places = g.places } ∷ m.past) (valid-push (record { kind = Group; cost = g.cost; document = g.before; places = g.places }) m.past held.before valid.past))
    | inr none ↦ rw none valid.past
  ];
  future = valid.future;
  group = tt;
  updated = valid.updated;
  saved = valid.saved;
  locks = kept_locks-valid m (ended g m) valid.locks refl refl (λ b locked live. live);
}

abandoned-valid : (group : Option OpenGroup) (m : Machine) → has_locks m ≡ false → IsValidMachine m → IfSome group (λ g. IsValidGroup g m)
    → OnDone IsLeftValid (option_map (λ g. (Accepted, abandoned g m)) group)
abandoned-valid None m free valid held = tt
abandoned-valid (Some g) m free valid held = record {
  document = held.before;
  past = valid.past;
  future = valid.future;
  group = tt;
  updated = valid.updated;
  saved = valid.saved;
  locks = no_locks-valid m (abandoned g m) valid.locks free refl refl;
}

-- what leaves the machine leaves it valid
stays-valid : (m : Machine) (o : Option (Reply × Machine)) → IsValidMachine m → OnDone (IsAt m) o → OnDone IsLeftValid o
stays-valid m None valid stays = tt
stays-valid m (Some (reply, new)) valid stays = subst IsValidMachine (sym stays) valid

done_by-valid : (c : Command) (m : Machine) → word_asked (Some c) < 65536 → IsValidMachine m → first_refusal (command_conditions c m) ≡ None → OnDone IsLeftValid (done_by c m)
done_by-valid (commands.Edit e) m low valid none =
    let free = (or_none (none_applies (command_conditions (commands.Edit e) m) none Locked refl)).0 in
    edited-valid e m low valid free (edit-accepted e m none)
done_by-valid commands.Undo m low valid none =
    let alone = not_in_group m (or_none (none_applies (command_conditions commands.Undo m) none GroupOpen refl)).0 in
    undone-valid m m.past alone (or_none (none_applies (command_conditions commands.Undo m) none Locked refl)).0 valid valid.past
done_by-valid commands.Redo m low valid none =
    let alone = not_in_group m (or_none (none_applies (command_conditions commands.Redo m) none GroupOpen refl)).0 in
    redone-valid m m.future alone (or_none (none_applies (command_conditions commands.Redo m) none Locked refl)).0 valid valid.future
done_by-valid commands.Begin m low valid none = record {
  document = valid.document;
  past = valid.past;
  future = valid.future;
  group = record { before = valid.document; none = λ none. (refl, refl); some = λ some. absurd (cc some) };
  updated = valid.updated;
  saved = valid.saved;
  locks = kept_locks-valid m (begun m) valid.locks refl refl (λ b locked live. live);
}
done_by-valid commands.End m low valid none = ended-valid m.group m valid valid.group
done_by-valid commands.Abandon m low valid none = abandoned-valid m.group m (or_none (none_applies (command_conditions commands.Abandon m) none Locked refl)).0 valid valid.group
done_by-valid commands.Join m low valid none = record {
  document = valid.document;
  past = valid-joined m.past valid.past;
  future = valid.future;
  group = kept_group-valid m (after_join m) m.group refl refl valid.group;
  updated = valid.updated;
  saved = valid.saved;
  locks = kept_locks-valid m (after_join m) valid.locks refl refl (λ b locked live. live);
}
done_by-valid (commands.Forget most) m low valid none = record {
  document = valid.document;
  past = valid-taken most m.past valid.past;
  future = valid.future;
  group = kept_group-valid m (after_forget most m) m.group refl refl valid.group;
  updated = valid.updated;
  saved = valid.saved;
  locks = kept_locks-valid m (after_forget most m) valid.locks refl refl (λ b locked live. live);
}
done_by-valid commands.Update m low valid none = record {
  document = valid.document;
  past = valid.past;
  future = valid.future;
  group = kept_group-valid m (after_update m) m.group refl refl valid.group;
  updated = valid.document;
  saved = valid.saved;
  locks = kept_locks-valid m (after_update m) valid.locks refl refl (λ b locked live. live);
}
done_by-valid commands.Save m low valid none = record {
  document = valid.document;
  past = valid.past;
  future = valid.future;
  group = kept_group-valid m (after_save m) m.group refl refl valid.group;
  updated = valid.document;
  saved = valid.document;
  locks = kept_locks-valid m (after_save m) valid.locks refl refl (λ b locked live. live);
}
done_by-valid commands.Revert m low valid none = record {
  document = valid.saved;
  past = valid-none;
  future = valid-none;
  group = no_group-valid (after_revert m) (not_in_group m (or_none (none_applies (command_conditions commands.Revert m) none GroupOpen refl)).0);
  updated = valid.saved;
  saved = valid.saved;
  locks = no_locks-valid m (after_revert m) valid.locks (or_none (none_applies (command_conditions commands.Revert m) none Locked refl)).0 refl refl;
}
done_by-valid commands.SaveAs m low valid none = record {
  document = valid.document;
  past = valid.past;
  future = valid.future;
  group = kept_group-valid m (after_save_as m) m.group refl refl valid.group;
  updated = valid.document;
  saved = valid.document;
  locks = kept_locks-valid m (after_save_as m) valid.locks refl refl (λ b locked live. live);
}
done_by-valid (commands.Name name) m low valid none = record {
  document = valid.document;
  past = valid.past;
  future = valid.future;
  group = kept_group-valid m (after_name name m) m.group refl refl valid.group;
  updated = valid.updated;
  saved = valid.saved;
  locks = kept_locks-valid m (after_name name m) valid.locks refl refl (λ b locked live. live);
}
done_by-valid (commands.Lock b) m low valid none = record {
  document = valid.document;
  past = valid.past;
  future = valid.future;
  group = kept_group-valid m (after_lock m b.0) m.group refl refl valid.group;
  updated = valid.updated;
  saved = valid.saved;
  locks = lock-valid m b valid.locks none;
}
done_by-valid (commands.Unlock b) m low valid none = record {
  document = valid.document;
  past = valid.past;
  future = valid.future;
  group = kept_group-valid m (after_unlock m b.0) m.group refl refl valid.group;
  updated = valid.updated;
  saved = valid.saved;
  locks = unlock-valid m b valid.locks none;
}
done_by-valid c m low valid none = stays-valid m (done_by c m) valid (done_by-stays c m refl)

answered-valid : (refusal : Option Fault) (m new : Machine) (o : Option (Reply × Machine)) (reply : Reply) → IsValidMachine m → (refusal ≡ None → OnDone IsLeftValid o)
    → option_map_or (λ fault. Some (Refused fault, m)) refusal o ≡ Some (reply, new) → IsValidMachine new
answered-valid (Some fault) m new o reply valid left is = subst IsValidMachine (same_machine is) valid
answered-valid None m new o reply valid left is = on_done IsLeftValid o reply new (left refl) is

step-valid : (old new : Machine) (request : Request) (reply : Reply) (failed : Bool) → word_asked request < 65536 → IsValidMachine old → Step failed old request reply new → IsValidMachine new
step-valid old new None reply failed low valid (inl is) = subst IsValidMachine (same_machine is) valid
step-valid old new (Some c) reply failed low valid (inl is) =
    answered-valid (first_refusal (command_conditions c old)) old new (done_by c old) reply valid (done_by-valid c old low valid) is
step-valid old new request reply failed low valid (inr out) = subst IsValidMachine (sym out.stays) valid

run-valid : (old new : Machine) (calls : List Call) → All (λ c. word_asked c.request < 65536) calls → IsValidMachine old → Run old calls new → IsValidMachine new
run-valid old new [] low valid run = subst IsValidMachine (sym run) valid
run-valid old new (c ∷ cs) low valid run =
    run-valid run.0 new cs (λ k d l. low (suc k) d (omega arith)) (step-valid old run.0 c.request c.reply c.failed (low 0 c (omega arith)) valid run.1) run.2

opened-valid : (updated saved : Document) (one : Bool) (sequence frames : ℕ) (target : Bool) → IsValid updated → IsValid saved → IsValidMachine (opened_machine updated saved one sequence frames target)
opened-valid updated saved one sequence frames target good was = record {
  document = good;
  past = valid-none;
  future = valid-none;
  group = tt;
  updated = good;
  saved = was;
  locks = empty_locks-valid (opened_machine updated saved one sequence frames target) refl;
}

pub validity_law : ValidityLaw
validity_law = record {
  start = λ frames target. opened-valid empty_document empty_document true 1 frames target empty_document-valid empty_document-valid;
  opened = opened-valid;
  edit = effect-valid;
  step = step-valid;
  run = run-valid;
}
