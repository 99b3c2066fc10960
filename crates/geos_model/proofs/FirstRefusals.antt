-- The first refusal where a condition stands in front of others: that a block is locked, or that there is no room in
-- memory.
use Rattle.std.proofs.Common.{◌≡◌, ℕ, ◌+◌, nat_lt, if◌then◌else◌, Bool, true, false, not, ◌==◌, ◌&&◌, ◌||◌, List, [], ◌∷◌, ◌++◌, Some, None, find, refl, sym, ap, ◌∙◌, inl, inr, eqb-true}
use Rattle.std.proofs.lemmas.Bool.{cases_Bool, true≢false, and_parts, and_from, or_left, or_right, eq-eqb, not-true}
use Rattle.std.specs.List.{list_any, list_all}
use Rattle.geos_model.specs.Refusal.{Conditions, number_of_fault, one_order, applies, first_refusal}
use Rattle.geos_model.specs.Document.{Document, is_live, is_raw, is_heap}
use Rattle.geos_model.specs.Meaning.{conditions, on_block, on_raw, on_heap}
use Rattle.geos_model.specs.Chain.{on_chain, on_chains}
use Rattle.geos_model.specs.LargeLayout.{total_count}
use Rattle.geos_model.specs.LargeBlocks.{root_at}
use Rattle.geos_model.specs.LargeEdits.{element_count, ends_within_element, is_too_long, on_root, on_window, on_run}
use Rattle.geos_model.specs.Reply.{look_up_conditions}
use Rattle.geos_model.specs.Machine.{Machine, edit_needs, has_no_room, is_barred, command_conditions}
use Rattle.geos_model.specs.declared.fault.Fault.{Fault}
use Rattle.geos_model.specs.declared.fault.Fault.TheVariants.{BadCommand, Locked, NothingToUndo, NothingToRedo, NoTarget, NoBlock, WrongKind, NoElement, Range, TooBig, NotLocked, LockLimit, CacheFull, GroupOpen, NoGroup}
use Rattle.geos_model.specs.declared.command.Edit.{Edit}
use Rattle.geos_model.specs.declared.command.Edit.TheVariants as edits
use Rattle.geos_model.specs.declared.command.Command.{Command}
use Rattle.geos_model.specs.declared.command.Command.TheVariants as commands
use Rattle.geos_model.proofs.Refusals.{stands_in, or_none, rest_none}

-- A condition that doesn't hold.

found_alike : (p q : Fault → Bool) (fs : List Fault) → ((f : Fault) → p f ≡ q f) → find p fs ≡ find q fs
found_alike p q [] alike = refl
found_alike p q (f ∷ fs) alike = rw (alike f, found_alike p q fs alike) refl

-- it refuses nothing
pub passed : (f : Fault) (holds : Bool) (cs : Conditions) → holds ≡ false → first_refusal ((f, holds) ∷ cs) ≡ first_refusal cs
passed f holds cs none =
    found_alike (applies ((f, holds) ∷ cs)) (applies cs) one_order (λ g. rw none (by_test (number_of_fault f == number_of_fault g) (applies cs g)))
  where
    by_test : (same rest : Bool) → ((same && false) || rest) ≡ rest
    by_test true rest = refl
    by_test false rest = refl

-- A condition that may hold.

-- of two refusals this is the one that is answered, which is `refl` where they are known
abbrev pub ComesBefore : Fault → Fault → Type 0
ComesBefore f g = first_refusal ((f, true) ∷ (g, true) ∷ []) ≡ Some f

-- what is found passes
pub found_passes : (p : Fault → Bool) (fs : List Fault) (f : Fault) → find p fs ≡ Some f → p f ≡ true
found_passes p [] f is = absurd (cc is)
found_passes p (g ∷ fs) f is = elim (cases_Bool (p g)) [
  | inl e ↦ let same : g ≡ f = cc (rw e at is) in ap p (sym same) ∙ e
  | inr e ↦ found_passes p fs f (rw e at is)
]

untrue : (x : Bool) → (x && true) ≡ false → x ≡ false
untrue true e = absurd (cc e)
untrue false e = refl

module _ (g : Fault) (holds : Bool) (cs : Conditions) where
  abbrev all : Conditions
  all = (g, holds) ∷ cs

  -- another refusal than the one in front applies as before
  applies-other : (h : Fault) → (number_of_fault g == number_of_fault h) ≡ false → applies all h ≡ applies cs h
  applies-other h other = rw other refl

  applies-still : (h : Fault) → applies cs h ≡ true → applies all h ≡ true
  applies-still h some = or_right ((number_of_fault g == number_of_fault h) && holds) (applies cs h) some

  applies-front : (h : Fault) → g ≡ h → holds ≡ true → applies all h ≡ true
  applies-front h same is =
      let one = eq-eqb (number_of_fault g) (number_of_fault h) (ap (λ (f : Fault). number_of_fault f) same) in
      or_left ((number_of_fault g == number_of_fault h) && holds) (applies cs h) (and_from (number_of_fault g == number_of_fault h) holds one is)

  found_still : (f : Fault) (fs : List Fault) → find (applies cs) fs ≡ Some f → find (applies ((f, true) ∷ (g, true) ∷ [])) fs ≡ Some f → find (applies all) fs ≡ Some f
  found_still f [] first before = absurd (cc first)
  found_still f (h ∷ fs) first before = elim (cases_Bool (applies cs h)) [
    | inl e ↦ rw (applies-still h e) (rw e at first)
    | inr e ↦ elim (cases_Bool (applies ((f, true) ∷ (g, true) ∷ []) h)) [
      | inl one ↦
          let is : Some h ≡ Some f = rw one at before in
          let same : h ≡ f = cc is in
          absurd (true≢false (sym (found_passes (applies cs) (h ∷ fs) f first) ∙ ap (applies cs) (sym same) ∙ e))
      | inr other ↦
          let apart = untrue (number_of_fault g == number_of_fault h) (or_none (or_none other).1).0 in
          rw (applies-other h apart, e) (found_still f fs (rw e at first) (rw other at before))
    ]
  ]

  found_front : (f : Fault) (fs : List Fault) → holds ≡ true → find (applies cs) fs ≡ Some f → find (applies ((g, true) ∷ (f, true) ∷ [])) fs ≡ Some g → find (applies all) fs ≡ Some g
  found_front f [] is first before = absurd (cc first)
  found_front f (h ∷ fs) is first before = elim (cases_Bool (applies ((g, true) ∷ (f, true) ∷ []) h)) [
    | inl one ↦
        let found : Some h ≡ Some g = rw one at before in
        let same : h ≡ g = cc found in
        rw (applies-front h (sym same) is) found
    | inr other ↦
        let apart = untrue (number_of_fault g == number_of_fault h) (or_none other).0 in
        elim (cases_Bool (applies cs h)) [
          | inl e ↦
              let found : Some h ≡ Some f = rw e at first in
              let same : h ≡ f = cc found in
              let one = eq-eqb (number_of_fault f) (number_of_fault h) (ap (λ (x : Fault). number_of_fault x) (sym same)) in
              absurd (true≢false (sym one ∙ untrue (number_of_fault f == number_of_fault h) (or_none (or_none other).1).0))
          | inr e ↦ rw (applies-other h apart, e) (found_front f fs is (rw e at first) (rw other at before))
        ]
  ]

  found_alone : (fs : List Fault) → holds ≡ true → find (applies cs) fs ≡ None → find (applies ((g, true) ∷ [])) fs ≡ Some g → find (applies all) fs ≡ Some g
  found_alone [] is none one = absurd (cc one)
  found_alone (h ∷ fs) is none one = elim (cases_Bool (applies ((g, true) ∷ []) h)) [
    | inl here ↦
        let found : Some h ≡ Some g = rw here at one in
        let same : h ≡ g = cc found in
        rw (applies-front h (sym same) is) found
    | inr other ↦
        let apart = untrue (number_of_fault g == number_of_fault h) (or_none other).0 in
        elim (cases_Bool (applies cs h)) [
          | inl e ↦ absurd (cc (rw e at none))
          | inr e ↦ rw (applies-other h apart, e) (found_alone fs is (rw e at none) (rw other at one))
        ]
  ]

  -- A refusal that is looked for earlier is answered whatever stands in front.
  pub still_first : (f : Fault) → ComesBefore f g → first_refusal cs ≡ Some f → first_refusal all ≡ Some f
  still_first f before first = found_still f one_order first before

  -- Where the one in front holds it is answered, if the first of the others is looked for later or there is none. That
  -- it stands in the one order is `refl` where it is known.

  pub front_first : (f : Fault) → ComesBefore g f → holds ≡ true → first_refusal cs ≡ Some f → first_refusal all ≡ Some g
  front_first f before is first = found_front f one_order is first before

  pub front_alone : first_refusal ((g, true) ∷ []) ≡ Some g → holds ≡ true → first_refusal cs ≡ None → first_refusal all ≡ Some g
  front_alone one is none = found_alone one_order is none one

-- Refusals that don't apply.

-- all refusals are among these
abbrev pub AreAmong : List Fault → Conditions → Type 0
AreAmong fs cs = list_all (λ c. stands_in c.0 fs) cs ≡ true

stands_alike : (fs : List Fault) (f g : Fault) → number_of_fault f ≡ number_of_fault g → stands_in f fs ≡ stands_in g fs
stands_alike fs f g same = ap (λ (n : ℕ). list_any (λ h. number_of_fault h == n) fs) same

-- so that no other one applies
pub none_among : (fs : List Fault) (cs : Conditions) (f : Fault) → AreAmong fs cs → stands_in f fs ≡ false → applies cs f ≡ false
none_among fs [] f are other = refl
none_among fs ((g, holds) ∷ cs) f are other = elim (cases_Bool (stands_in g fs)) [
  | inl e ↦ elim (cases_Bool (number_of_fault g == number_of_fault f)) [
    | inl same ↦ absurd (true≢false (sym e ∙ stands_alike fs g f (eqb-true (number_of_fault g) (number_of_fault f) same) ∙ other))
    | inr apart ↦ rw apart (none_among fs cs f (rw e at are) other)
  ]
  | inr e ↦ absurd (cc (rw e at are))
]

-- none of these refusals applies
abbrev pub none_apply : List Fault → Conditions → Bool
none_apply fs cs = list_all (λ f. not (applies cs f)) fs

none_at : (fs : List Fault) (cs : Conditions) (f : Fault) → none_apply fs cs ≡ true → stands_in f fs ≡ true → applies cs f ≡ false
none_at [] cs f none there = absurd (cc there)
none_at (g ∷ fs) cs f none there =
    let parts = and_parts (not (applies cs g)) (none_apply fs cs) none in
    elim (cases_Bool (number_of_fault g == number_of_fault f)) [
      | inl same ↦
          let one : number_of_fault f ≡ number_of_fault g = sym (eqb-true (number_of_fault g) (number_of_fault f) same) in
          ap (λ (n : ℕ). list_any (λ c. (number_of_fault c.0 == n) && c.1) cs) one ∙ not-true (applies cs g) parts.0
      | inr other ↦ none_at fs cs f parts.1 (rw other at there)
    ]

none_of_others : (fs : List Fault) (cs : Conditions) (others : List Fault) → AreAmong fs cs → list_all (λ f. not (stands_in f fs)) others ≡ true → none_apply others cs ≡ true
none_of_others fs cs [] are apart = refl
none_of_others fs cs (f ∷ others) are apart =
    let parts = and_parts (not (stands_in f fs)) (list_all (λ g. not (stands_in g fs)) others) apart in
    and_from (not (applies cs f)) (none_apply others cs) (ap not (none_among fs cs f are (not-true (stands_in f fs) parts.0))) (none_of_others fs cs others are parts.1)

-- That a block is locked, and that there is no room in memory.

-- the refusals that are looked for before the first: that a line is no command, and those of groups
abbrev pub before_locked : List Fault
before_locked = BadCommand ∷ GroupOpen ∷ NoGroup ∷ []

-- without them the first is told before all else
pub locked_first : (holds : Bool) (cs : Conditions) → holds ≡ true → none_apply before_locked cs ≡ true → first_refusal ((Locked, holds) ∷ cs) ≡ Some Locked
locked_first holds cs is none =
    rw (is, none_at before_locked cs BadCommand none refl, none_at before_locked cs GroupOpen none refl, none_at before_locked cs NoGroup none refl) refl

-- the refusals that are looked for before lack of room in memory, but for those of a block and of its kind
abbrev pub before_room : List Fault
before_room = BadCommand ∷ GroupOpen ∷ NoGroup ∷ Locked ∷ NothingToUndo ∷ NothingToRedo ∷ NoTarget ∷ NotLocked ∷ LockLimit ∷ []

-- the second where the block is there and of its kind
pub room_first : (holds : Bool) (cs : Conditions) → holds ≡ true → none_apply before_room cs ≡ true → applies cs NoBlock ≡ false → applies cs WrongKind ≡ false
    → first_refusal ((CacheFull, holds) ∷ cs) ≡ Some CacheFull
room_first holds cs is none block kind =
    rw (
      is,
      none_at before_room cs BadCommand none refl,
      none_at before_room cs GroupOpen none refl,
      none_at before_room cs NoGroup none refl,
      none_at before_room cs Locked none refl,
      none_at before_room cs NothingToUndo none refl,
      none_at before_room cs NothingToRedo none refl,
      none_at before_room cs NoTarget none refl,
      block,
      kind,
      none_at before_room cs NotLocked none refl,
      none_at before_room cs LockLimit none refl,
    ) refl

-- refusals among these are looked for later than lack of room in memory
abbrev pub are_later : List Fault → Bool
are_later fs = list_all (λ f. not (stands_in f fs)) (NoBlock ∷ WrongKind ∷ before_room)

-- Want of room in memory before later refusals, which may stand behind the conditions of a block that is there, of one
-- that is raw, of a heap, or of one or two chains that begin at a raw block.
module _ (fs : List Fault) (rest : Conditions) (are : AreAmong fs rest) (later : are_later fs ≡ true) (holds : Bool) (is : holds ≡ true) where
  none : none_apply (NoBlock ∷ WrongKind ∷ before_room) rest ≡ true
  none = none_of_others fs rest (NoBlock ∷ WrongKind ∷ before_room) are later

  no_block : applies rest NoBlock ≡ false
  no_block = none_at (NoBlock ∷ WrongKind ∷ before_room) rest NoBlock none refl

  no_kind : applies rest WrongKind ≡ false
  no_kind = none_at (NoBlock ∷ WrongKind ∷ before_room) rest WrongKind none refl

  no_other : none_apply before_room rest ≡ true
  no_other = (and_parts (not (applies rest WrongKind)) (none_apply before_room rest) (and_parts (not (applies rest NoBlock)) (none_apply (WrongKind ∷ before_room) rest) none).1).1

  pub full-later : first_refusal ((CacheFull, holds) ∷ rest) ≡ Some CacheFull
  full-later = room_first holds rest is no_other no_block no_kind

  pub full-block : (d : Document) (b : ℕ) → is_live d b ≡ true → first_refusal ((CacheFull, holds) ∷ on_block d b ++ rest) ≡ Some CacheFull
  full-block d b live = room_first holds (on_block d b ++ rest) is no_other (rw (live, no_block) refl) no_kind

  pub full-raw : (d : Document) (b : ℕ) → is_live d b ≡ true → is_raw d b ≡ true → first_refusal ((CacheFull, holds) ∷ on_raw d b ++ rest) ≡ Some CacheFull
  full-raw d b live raw = room_first holds (on_raw d b ++ rest) is no_other (rw (live, no_block) refl) (rw (raw, no_kind) refl)

  -- of a chunk too, whose conditions are those of its heap and a later one
  pub full-heap : (d : Document) (b : ℕ) → is_live d b ≡ true → is_heap d b ≡ true → first_refusal ((CacheFull, holds) ∷ on_heap d b ++ rest) ≡ Some CacheFull
  full-heap d b live heap = room_first holds (on_heap d b ++ rest) is no_other (rw (live, no_block) refl) (rw (heap, no_kind) refl)

  pub full-chain : (d : Document) (b : ℕ) → is_live d b ≡ true → is_raw d b ≡ true → first_refusal ((CacheFull, holds) ∷ on_chain d b ++ rest) ≡ Some CacheFull
  full-chain d b live raw = room_first holds (on_chain d b ++ rest) is no_other (rw (live, no_block) refl) (rw (raw, no_kind) refl)

  pub full-chains : (d : Document) (b c : ℕ) → is_live d b ≡ true → is_raw d b ≡ true → is_live d c ≡ true → is_raw d c ≡ true
      → first_refusal ((CacheFull, holds) ∷ on_chains d b c ++ rest) ≡ Some CacheFull
  full-chains d b c live raw there kind = room_first holds (on_chains d b c ++ rest) is no_other (rw (live, there, no_block) refl) (rw (raw, kind, no_kind) refl)

-- What the document refuses of an edit or of a look-up is of a block or of its kind, or later than lack of room in
-- memory.

-- so are those of an edit that sets elements of a large array, whether they vary in size or not
set-early : (d : Document) (b i : ℕ) (bytes : List ℕ) (vary : Bool)
    → let size = (root_at d b).size in
    let past = nat_lt (total_count (root_at d b)) (i + element_count size bytes) in
    none_apply before_room (on_root d b ++ (NoElement, past) ∷ (Range, ends_within_element size bytes) ∷ (TooBig, is_too_long size bytes)
    ∷ (if vary then on_window (not (past || is_too_long size bytes)) d b i (i + 1) (bytes ∷ [])
    else on_run (not (past || ends_within_element size bytes)) d b i (element_count size bytes))) ≡ true
set-early d b i bytes true = refl
set-early d b i bytes false = refl

pub edit-early : (e : Edit) (d : Document) → none_apply before_room (conditions e d) ≡ true
edit-early (edits.NewRaw uid size) d = refl
edit-early (edits.SetLarge b i bytes) d = set-early d b.0 i.0 bytes ((root_at d b.0).size == 0)
edit-early _ d = refl

pub look_up-early : (c : Command) (d : Document) → none_apply before_room (look_up_conditions c d) ≡ true
look_up-early (commands.Info b) d = refl
look_up-early _ d = refl

-- so that lack of room is told where the block is there and of its kind

pub edit-full : (e : Edit) (d : Document) (holds : Bool) → holds ≡ true → applies (conditions e d) NoBlock ≡ false → applies (conditions e d) WrongKind ≡ false
    → first_refusal ((CacheFull, holds) ∷ conditions e d) ≡ Some CacheFull
edit-full e d holds is block kind = room_first holds (conditions e d) is (edit-early e d) block kind

pub look_up-full : (c : Command) (d : Document) (holds : Bool) → holds ≡ true → applies (look_up_conditions c d) NoBlock ≡ false → applies (look_up_conditions c d) WrongKind ≡ false
    → first_refusal ((CacheFull, holds) ∷ look_up_conditions c d) ≡ Some CacheFull
look_up-full c d holds is block kind = room_first holds (look_up_conditions c d) is (look_up-early c d) block kind

-- The refusals of an edit.
module _ (e : Edit) (m : Machine) where
  abbrev own : Conditions
  own = conditions e m.document

  abbrev with_room : Conditions
  with_room = (CacheFull, has_no_room m (edit_needs e)) ∷ own

  -- where it is barred
  pub edit-locked : is_barred e m ≡ true → first_refusal (command_conditions (commands.Edit e) m) ≡ Some Locked
  edit-locked barred =
      let early = edit-early e m.document in
      locked_first (is_barred e m) with_room barred
      (rw (none_at before_room own BadCommand early refl, none_at before_room own GroupOpen early refl, none_at before_room own NoGroup early refl) refl)

  -- Where it isn't, lack of room in memory and the document decide;
  module _ (free : is_barred e m ≡ false) where
    pub edit-judged : first_refusal (command_conditions (commands.Edit e) m) ≡ first_refusal with_room
    edit-judged = passed Locked (is_barred e m) with_room free

    -- with room the document alone,
    pub edit-passed : has_no_room m (edit_needs e) ≡ false → first_refusal (command_conditions (commands.Edit e) m) ≡ first_refusal own
    edit-passed room = edit-judged ∙ passed CacheFull (has_no_room m (edit_needs e)) own room

    -- and so it does of what is looked for before that.
    pub edit-still : (f : Fault) → ComesBefore f CacheFull → first_refusal own ≡ Some f → first_refusal (command_conditions (commands.Edit e) m) ≡ Some f
    edit-still f before first = edit-judged ∙ still_first CacheFull (has_no_room m (edit_needs e)) own f before first

  -- what nothing refuses is refused by nothing of the document
  pub edit-accepted : first_refusal (command_conditions (commands.Edit e) m) ≡ None → first_refusal own ≡ None
  edit-accepted none = rest_none (CacheFull, has_no_room m (edit_needs e)) own (rest_none (Locked, is_barred e m) with_room none)
