-- What a log is seen as, as its steps are made, undone, named, joined and forgotten.
use Rattle.std.proofs.Common.{◌≡◌, ◌≢◌, ◌<◌, ◌≤◌, ◌+◌, ◌-◌, ◌==◌, ◌&&◌, ℕ, zero, suc, Bool, true, false, inl, inr, Vec, Global, List, [], ◌∷◌, length, reverse, take, Option, Some, None, refl, sym, ap, subst, ◌∙◌, arith}
use Rattle.std.proofs.lemmas.Bool.{and_parts, cases_Bool, eqb-true}
use Rattle.std.specs.Option.{option_map}
use Rattle.std.proofs.lemmas.List.{length-take-le, take-map}
use Rattle.vm_blocks.specs.ChangePlaces.{change_places}
use Rattle.vm_blocks.specs.declared.change.Change.{Change}
use Rattle.chunk_edits.specs.declared.direction.Direction.TheVariants.{Forwards, Backwards}
use Rattle.geos_model.specs.Position.{Position, position_after_forget, position_after_join, position_after_redo, position_after_step, position_after_undo}
use Rattle.undo_log.specs.Joining.{joined, with_joined}
use Rattle.undo_log.specs.Logging.{Log, changes_in, forgotten_log, joined_log, limited_log, named, named_log, next_moved, open_changes, added_to, retold, reversed_entry, turned_over, with_change, with_named, without_redo}
use Rattle.undo_log.specs.Marks.{AreMarksWithin, IsMarkWithin, both_marks, mark_from, mark_joined, mark_lowered, mark_up_to, position_of}
use Rattle.undo_log.specs.Entries.{LogEntry, NamedEntry, One, entry_names, log_entries, unnamed}
use Rattle.undo_log.specs.Steps.{KeepsNewest, Steps, TurnsOver, with_first}
use Rattle.undo_log.specs.declared.marks.Marks.{Marks}
use Rattle.geos_model.specs.declared.place.Place.{Place}
use Rattle.undo_log.specs.Telling.{all_places, clipped, newest_changes, next_changes, told}
use Rattle.undo_log.specs.declared.touched.Touched.{Touched}
use Rattle.undo_log.specs.declared.touched.Touched.TheVariants as touched
use Rattle.undo_log.proofs.MarkLemmas.{cut_position, forget_position, join_position, lower_position, redo_position, step_position, undo_position, within_from}
use Rattle.undo_log.proofs.Telling.{made-all, newest-closed, newest-kept, newest-none, newest-nothing, newest-some, redone-tells, told-joined, undone-tells}

-- the log of these entries
abbrev pub log_at : List NamedEntry → List NamedEntry → Option (List Change) → Marks → Touched → Option ℕ → Log
log_at undo redo group marks last limit = record {
  undo = log_entries undo;
  redo = log_entries redo;
  undo_names = entry_names undo;
  redo_names = entry_names redo;
  group = group;
  updated_at = position_of (length undo) marks.updated;
  saved_at = position_of (length undo) marks.saved;
  touched = told last (newest_changes (log_entries undo) group) (next_changes (log_entries redo));
  limit = limit;
}

-- the changes of a group, the newest first
abbrev pub open_group : Option (Vec Change Global) → Option (List Change)
open_group group = option_map (λ changes. reverse changes.items) group

-- a log of these parts
log_is : (undo undo' redo redo' : List NamedEntry) (group : Option (List Change)) (updated updated' saved saved' : Position) (touched touched' : List Place) (limit : Option ℕ)
    → undo ≡ undo' → redo ≡ redo' → updated ≡ updated' → saved ≡ saved' → touched ≡ touched'
    → ◌≡◌ {A = Log}
    (record { undo = log_entries undo; redo = log_entries redo; undo_names = entry_names undo; redo_names = entry_names redo; group = group; updated_at = updated; saved_at = saved; touched = touched; limit = limit })
    (record { undo = log_entries undo'; redo = log_entries redo'; undo_names = entry_names undo'; redo_names = entry_names redo'; group = group; updated_at = updated'; saved_at = saved'; touched = touched'; limit = limit })
log_is undo undo' redo redo' group updated updated' saved saved' touched touched' limit u r p q t =
    λ i. record { undo = log_entries (u i); redo = log_entries (r i); undo_names = entry_names (u i); redo_names = entry_names (r i); group = group; updated_at = p i; saved_at = q i; touched = t i; limit = limit }

-- what is kept of entries
kept_of : (most : ℕ) (es : List NamedEntry) (log : Log)
    → record log { undo = log_entries (take most es); undo_names = entry_names (take most es) } ≡ record log { undo = take most (log_entries es); undo_names = take most (entry_names es) }
kept_of most es log = λ i. record log { undo = sym (take-map (λ (e : NamedEntry). e.entry) most es) i; undo_names = sym (take-map (λ (e : NamedEntry). e.name) most es) i }

next : (n : ℕ) → n + 1 ≡ suc n
next n = omega arith

module _ (group : Option (List Change)) (marks : Marks) (limit : Option ℕ) where
  -- A step goes from one list to the other, and is turned over.

  pub undone_at : (undo redo undo' redo' : List NamedEntry) (last : Touched) → TurnsOver undo redo undo' redo'
      → log_at undo' redo' group marks touched.Undone limit ≡ next_moved Backwards (log_at undo redo group marks last limit)
  undone_at undo redo undo' redo' last t =
      let after : (mark : Option ℕ) → position_of (length undo') mark ≡ position_after_undo (position_of (suc (length undo')) mark) =
      λ mark. undo_position (length undo') mark ∙ ap (λ (k : ℕ). position_after_undo (position_of k mark)) (next (length undo')) in
      subst (λ (es : List NamedEntry). log_at undo' redo' group marks touched.Undone limit ≡ next_moved Backwards (log_at es redo group marks last limit)) (sym t.was)
      (log_is undo' undo' redo' (turned_over t.entry ∷ redo) group _ _ _ _ _ _ limit refl t.is (after marks.updated) (after marks.saved)
      (ap (λ (es : List NamedEntry). all_places Backwards (reverse (next_changes (log_entries es)))) t.is ∙ undone-tells t.entry.entry))

  pub redone_at : (undo redo undo' redo' : List NamedEntry) (last : Touched) (count : ℕ) → group ≡ None → TurnsOver redo undo redo' undo' → count ≡ length (next_changes (log_entries undo'))
      → log_at undo' redo' group marks (touched.Newest count) limit ≡ next_moved Forwards (log_at undo redo group marks last limit)
  redone_at undo redo undo' redo' last count none t many =
      let after : (mark : Option ℕ) → position_of (length undo') mark ≡ position_after_redo (position_of (length undo) mark) =
      λ mark. ap (λ (es : List NamedEntry). position_of (length es) mark) t.is ∙ ap (λ (k : ℕ). position_of k mark) (sym (next (length undo))) ∙ redo_position (length undo) mark in
      let count_is : count ≡ length (changes_in (reversed_entry t.entry.entry)) = many ∙ ap (λ (es : List NamedEntry). length (next_changes (log_entries es))) t.is in
      subst (λ (es : List NamedEntry). log_at undo' redo' group marks (touched.Newest count) limit ≡ next_moved Forwards (log_at undo es group marks last limit)) (sym t.was)
      (log_is undo' (turned_over t.entry ∷ undo) redo' redo' group _ _ _ _ _ _ limit t.is refl (after marks.updated) (after marks.saved)
      (ap (λ (es : List NamedEntry). all_places Forwards (reverse (take count (newest_changes (log_entries es) group)))) t.is
      ∙ ap (λ (cs : List Change). all_places Forwards (reverse (take count cs))) (newest-closed (reversed_entry t.entry.entry) (log_entries undo) group none)
      ∙ redone-tells t.entry.entry count count_is))

  -- The newest step gets a name.
  pub named_at : (undo undo' redo : List NamedEntry) (last : Touched) (name : List ℕ) → log_entries undo ≢ [] → undo' ≡ with_first (named name) undo
      → log_at undo' redo group marks last limit ≡ named_log name (log_at undo redo group marks last limit)
  named_at undo undo' redo last name some is = ap (λ (es : List NamedEntry). log_at es redo group marks last limit) is ∙ by_first undo some
    where
      by_first : (es : List NamedEntry) → log_entries es ≢ [] → log_at (with_first (named name) es) redo group marks last limit ≡ named_log name (log_at es redo group marks last limit)
      by_first [] some = absurd (some refl)
      by_first (e ∷ es) some = refl

  -- What could be made again is gone.
  pub cut_at : (undo redo : List NamedEntry) (last : Touched)
      → log_at undo [] group (both_marks (mark_up_to (length undo)) marks) last limit ≡ retold last (without_redo (log_at undo redo group marks last limit))
  cut_at undo redo last = log_is undo undo [] [] group _ _ _ _ _ _ limit refl refl (cut_position (length undo) marks.updated) (cut_position (length undo) marks.saved) refl

  -- The oldest steps are forgotten.

  -- what is told of the newest step is kept where no step is
  kept_told : (most : ℕ) (old mid : Steps) (last last' : Touched) (is_told : Bool) → is_told ≡ (most == 0 && length (open_changes group) == 0)
      → most < length old.undo → KeepsNewest is_told last last' old mid
      → told last' (newest_changes (log_entries (take most old.undo)) group) (next_changes (log_entries old.redo)) ≡ (log_at old.undo old.redo group marks last limit).touched
  kept_told most old mid last last' is_told when more keeps = elim (cases_Bool (most == 0 && length (open_changes group) == 0)) [
    | inl telling ↦
        let parts = and_parts (most == 0) (length (open_changes group) == 0) telling in
        let none : most ≡ 0 = eqb-true most 0 parts.0 in
        ap (λ (k : ℕ). told last' (newest_changes (log_entries (take k old.undo)) group) (next_changes (log_entries old.redo))) none
        ∙ ap (λ (cs : List Change). told last' cs (next_changes (log_entries old.redo))) (newest-nothing group parts.1)
        ∙ keeps.tells (when ∙ telling) (next_changes (log_entries old.redo))
        ∙ ap (λ (cs : List Change). told last cs (next_changes (log_entries old.redo))) (newest_of old.undo parts.1)
    | inr other ↦
        ap (λ (l : Touched). told l (newest_changes (log_entries (take most old.undo)) group) (next_changes (log_entries old.redo))) (keeps.other (when ∙ other)).0
        ∙ ap (λ (cs : List Change). told last cs (next_changes (log_entries old.redo))) (newest_same most old.undo other)
  ]
    where
      newest_of : (es : List NamedEntry) → (length (open_changes group) == 0) ≡ true → next_changes (log_entries es) ≡ newest_changes (log_entries es) group
      newest_of [] none = sym (newest-nothing group none)
      newest_of (e ∷ es) none = sym (newest-none e.entry (log_entries es) group none)

      newest_same : (most : ℕ) (undo : List NamedEntry) → (most == 0 && length (open_changes group) == 0) ≡ false → newest_changes (log_entries (take most undo)) group ≡ newest_changes (log_entries undo) group
      newest_same zero undo other = newest-some [] (log_entries undo) group other
      newest_same (suc k) undo other = sym (ap (λ (es : List LogEntry). newest_changes es group) (take-map (λ (e : NamedEntry). e.entry) (suc k) undo)) ∙ newest-kept k (log_entries undo) group

  -- and the others are the newest
  pub kept_undo : (most : ℕ) (old mid : Steps) (last last' : Touched) (is_told : Bool) → is_told ≡ (most == 0 && length (open_changes group) == 0) → KeepsNewest is_told last last' old mid
      → take most mid.undo ≡ take most old.undo
  kept_undo most old mid last last' is_told when keeps = elim (cases_Bool (most == 0 && length (open_changes group) == 0)) [
    | inl telling ↦ let none : most ≡ 0 = eqb-true most 0 (and_parts (most == 0) (length (open_changes group) == 0) telling).0 in ap (λ (k : ℕ). take k mid.undo) none ∙ ap (λ (k : ℕ). take k old.undo) (sym none)
    | inr other ↦ ap (λ (s : Steps). take most s.undo) (keeps.other (when ∙ other)).1
  ]

  forgotten_mark : (first most count last : ℕ) (mark : Option ℕ) → first + most ≡ count → IsMarkWithin 0 last mark → position_of most (mark_lowered first (mark_from first mark)) ≡ position_after_forget most (position_of count mark)
  forgotten_mark first most count last mark total within =
      let left : most ≡ count - first = omega arith in
      ap (λ (k : ℕ). position_of k (mark_lowered first (mark_from first mark))) left
      ∙ lower_position first count last (mark_from first mark) (omega arith) (within_from 0 first last mark within)
      ∙ forget_position first most count mark total

  pub forgotten_at : (first most : ℕ) (old mid : Steps) (undo' redo' : List NamedEntry) (last last' : Touched) (is_told : Bool) → is_told ≡ (most == 0 && length (open_changes group) == 0)
      → first ≡ length old.undo - most → most < length old.undo → AreMarksWithin 0 (length old.undo + length old.redo) marks → KeepsNewest is_told last last' old mid → undo' ≡ take most mid.undo → redo' ≡ mid.redo
      → log_at undo' redo' group (both_marks (mark_lowered first) (both_marks (mark_from first) marks)) last' limit ≡ forgotten_log most (log_at old.undo old.redo group marks last limit)
  forgotten_at first most old mid undo' redo' last last' is_told when is more marked keeps undo_is redo_is =
      let total : first + most ≡ length old.undo = omega (arith, is, more) in
      let undo_now : undo' ≡ take most old.undo = undo_is ∙ kept_undo most old mid last last' is_told when keeps in
      let redo_now : redo' ≡ old.redo = redo_is ∙ keeps.redo in
      let many : length undo' ≡ most = ap length undo_now ∙ length-take-le most old.undo (omega (arith, more)) in
      let at : (mark : Option ℕ) → IsMarkWithin 0 (length old.undo + length old.redo) mark → position_of (length undo') (mark_lowered first (mark_from first mark)) ≡ position_after_forget most (position_of (length old.undo) mark) =
      λ mark within. ap (λ (k : ℕ). position_of k (mark_lowered first (mark_from first mark))) many ∙ forgotten_mark first most (length old.undo) (length old.undo + length old.redo) mark total within in
      log_is undo' (take most old.undo) redo' old.redo group _ _ _ _ _ _ limit undo_now redo_now (at marks.updated marked.updated) (at marks.saved marked.saved)
      ((λ i. told last' (newest_changes (log_entries (undo_now i)) group) (next_changes (log_entries (redo_now i)))) ∙ kept_told most old mid last last' is_told when more keeps)
      ∙ kept_of most old.undo (forgotten_log most (log_at old.undo old.redo group marks last limit))

  -- The newest two are one.
  pub joined_at : (undo undo' redo redo' : List NamedEntry) (last : Touched) (count : ℕ) → group ≡ None → 2 ≤ length (log_entries undo) → undo' ≡ with_joined undo → redo' ≡ redo → count ≡ length (next_changes (log_entries undo))
      → log_at undo' redo' group (both_marks (mark_joined (length undo')) marks) (clipped count last) limit ≡ joined_log (log_at undo redo group marks last limit)
  joined_at undo undo' redo redo' last count none two is redo_is many =
      (λ i. log_at (is i) (redo_is i) group (both_marks (mark_joined (length (is i))) marks) (clipped (many i) last) limit) ∙ by_first undo two
    where
      by_first : (es : List NamedEntry) → 2 ≤ length (log_entries es)
          → log_at (with_joined es) redo group (both_marks (mark_joined (length (with_joined es))) marks) (clipped (length (next_changes (log_entries es))) last) limit ≡ joined_log (log_at es redo group marks last limit)
      by_first [] two = absurd (omega (arith, two))
      by_first (e ∷ []) two = absurd (omega (arith, two))
      by_first (e ∷ f ∷ es) two =
          let at : (mark : Option ℕ) → position_of (suc (length es)) (mark_joined (suc (length es)) mark) ≡ position_after_join (position_of (suc (suc (length es))) mark) =
          λ mark. join_position (suc (length es)) mark ∙ ap (λ (k : ℕ). position_after_join (position_of k mark)) (next (suc (length es))) in
          log_is (joined e f ∷ es) (joined e f ∷ es) redo redo group _ _ _ _ _ _ limit refl refl (at marks.updated) (at marks.saved)
          (ap (λ (cs : List Change). told (clipped (length (changes_in e.entry)) last) cs (next_changes (log_entries redo))) (newest-closed (joined e f).entry (log_entries es) group none)
          ∙ told-joined last (changes_in e.entry) (changes_in f.entry) (next_changes (log_entries redo))
          ∙ ap (λ (cs : List Change). told last cs (next_changes (log_entries redo))) (sym (newest-closed e.entry (f.entry ∷ log_entries es) group none)))

  -- An entry is made where nothing is left to make again: it is the newest,
  stepped_at : (undo : List NamedEntry) (e : NamedEntry) (last : Touched) → group ≡ None → AreMarksWithin 0 (length undo) marks
      → log_at (e ∷ undo) [] group marks last limit ≡ record (log_at undo [] group marks last limit) {
        undo = e.entry ∷ log_entries undo;
        undo_names = e.name ∷ entry_names undo;
        updated_at = position_after_step (position_of (length undo) marks.updated);
        saved_at = position_after_step (position_of (length undo) marks.saved);
        touched = told last (changes_in e.entry) [];
      }
  stepped_at undo e last closed marked =
      let at : (mark : Option ℕ) → IsMarkWithin 0 (length undo) mark → position_of (suc (length undo)) mark ≡ position_after_step (position_of (length undo) mark) =
      λ mark within. ap (λ (k : ℕ). position_of k mark) (sym (next (length undo))) ∙ step_position 0 (length undo) mark within in
      log_is (e ∷ undo) (e ∷ undo) [] [] group _ _ _ _ _ _ limit refl refl (at marks.updated marked.updated) (at marks.saved marked.saved)
      (ap (λ (cs : List Change). told last cs []) (newest-closed e.entry (log_entries undo) group closed))

pub no_entries : (es : List NamedEntry) → log_entries es ≡ [] → es ≡ []
no_entries [] none = refl
no_entries (e ∷ es) none = absurd (cc none)

-- and a limit takes the oldest.
limited_is : (log : Log) (e : NamedEntry) (limit : Option ℕ)
    → limited_log limit (record log { undo = e.entry ∷ log.undo; undo_names = e.name ∷ log.undo_names; updated_at = position_after_step log.updated_at; saved_at = position_after_step log.saved_at; limit = limit })
    ≡ with_named e (record log { limit = limit })
limited_is log e None = refl
limited_is log e (Some most) = refl

pub pushed_at : (group : Option (List Change)) (marks : Marks) (limit : Option ℕ) (undo redo undo' redo' : List NamedEntry) (e : NamedEntry) (last : Touched) → group ≡ None → log_entries redo ≡ []
    → AreMarksWithin 0 (length undo + length redo) marks → undo' ≡ e ∷ undo → redo' ≡ []
    → limited_log limit (log_at undo' redo' group marks last limit) ≡ record (with_named e (log_at undo redo group marks last limit)) { touched = told last (changes_in e.entry) [] }
pushed_at group marks limit undo redo undo' redo' e last closed none marked undo_is redo_is =
    let empty : redo ≡ [] = no_entries redo none in
    let count : length undo + length redo ≡ length undo = let no = ap length empty in omega (arith, no) in
    let within : AreMarksWithin 0 (length undo) marks = subst (λ (n : ℕ). AreMarksWithin 0 n marks) count marked in
    (λ i. limited_log limit (log_at (undo_is i) (redo_is i) group marks last limit))
    ∙ ap (limited_log limit) (stepped_at group marks limit undo e last closed within)
    ∙ limited_is (record (log_at undo [] group marks last limit) { touched = told last (changes_in e.entry) [] }) e limit
    ∙ ap (λ (es : List NamedEntry). record (with_named e (log_at undo es group marks last limit)) { touched = told last (changes_in e.entry) [] }) (sym empty)

-- So is the change of an edit.
pub added_at : (group : Option (List Change)) (marks : Marks) (limit : Option ℕ) (undo redo undo' redo' : List NamedEntry) (c : Change) (last last' : Touched) → group ≡ None → log_entries redo ≡ []
    → AreMarksWithin 0 (length undo + length redo) marks → undo' ≡ unnamed (One c) ∷ undo → redo' ≡ [] → last' ≡ touched.Newest 1
    → limited_log limit (log_at undo' redo' group marks last' limit) ≡ with_change c (log_at undo redo group marks last limit)
added_at group marks limit undo redo undo' redo' c last last' closed none marked undo_is redo_is newest =
    let empty : redo ≡ [] = no_entries redo none in
    pushed_at group marks limit undo redo undo' redo' (unnamed (One c)) last' closed none marked undo_is redo_is
    ∙ (λ i. record (with_named (unnamed (One c)) (log_at undo (empty i) (closed i) marks last limit)) { touched = told (newest i) (c ∷ []) [] })
    ∙ ap (λ (ps : List Place). record (with_named (unnamed (One c)) (log_at undo [] None marks last limit)) { touched = ps }) (made-all (One c))
    ∙ sym (λ i. added_to (closed i) c (log_at undo (empty i) (closed i) marks last limit))
