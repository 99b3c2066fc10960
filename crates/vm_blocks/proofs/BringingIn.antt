-- Blocks that are being put in, those of the last change first, and taken out again.
use Rattle.std.proofs.Common.{◌≡◌, ◌≢◌, ◌-◌, ◌+◌, ◌<◌, ◌≤◌, ◌∷◌, [], ℕ, Bool, List, length, take, drop, get_or, drop_of_length-le, is_some, arith, inl, inr, true, false, refl, sym, ap, subst, ◌∙◌}
use Rattle.std.specs.List.{All, list_any}
use Rattle.std.proofs.lemmas.Bool.{or_parts, true≢false}
use Rattle.std.proofs.lemmas.List.{take_all}
use Rattle.std.proofs.lemmas.List.Elements.{All-cons, All-map, All-nil}
use Rattle.geos_model.specs.ElementArray.{all_distinct}
use Rattle.geos_model.specs.Document.{Block, Document, handles_of, is_live, is_vm_handle, with_blocks, without_blocks}
use Rattle.geos_model.specs.declared.fault.Fault.{Fault}
use Rattle.geos_model.proofs.BlockLists.{put_map_block, put_stands}
use Rattle.vm_store.specs.Facts.{StoreFacts}
use Rattle.chunk_edits.specs.declared.direction.Direction.{Direction}
use Rattle.chunk_edits.specs.declared.direction.Direction.TheVariants.{Forwards, Backwards}
use Rattle.document_file.specs.Disk.{Disk, IsFileDocument, KeepsCommitted, SameUnlessCorrupt}
use Rattle.document_file.specs.Members.{imaged_blocks}
use Rattle.document_file.proofs.PassingLemmas.{KeepsCommitted-refl, KeepsCommitted-trans, SameUnlessCorrupt-refl, SameUnlessCorrupt-trans}
use Rattle.vm_blocks.specs.State.{CacheState, KeepsLocks, ResidentBlock, is_resident, locked_count}
use Rattle.vm_blocks.proofs.Locks.{keeps_refl}
use Rattle.vm_blocks.specs.Changes.{AreFree, IsFreeHandle, after_change, directed, directed_all, incoming_blocks}
use Rattle.vm_blocks.specs.Incoming.{AreBroughtIn, CanAllComeIn, CanGoAgain, IsBroughtIn, IsObstacle, LeadsBack, brought, others, with_incoming, without_again}
use Rattle.vm_blocks.specs.InMemory.{StaysInMemory}
use Rattle.vm_blocks.specs.Keeping.{IsEnvironmentFault, KeepsBlocks}
use Rattle.vm_blocks.specs.Preparing.{AreApplied, CanApplyAllByHandle, CanApplyByHandle, CanRemoveByHandle, CantPrepare, IsApplied, NoneComesIn, after_changes}
use Rattle.vm_blocks.specs.declared.change.Change.{Change}
use Rattle.vm_blocks.specs.declared.change.Change.TheVariants as changes
use Rattle.vm_blocks.specs.declared.in_memory.Obstacle.{Obstacle}
use Rattle.vm_blocks.specs.declared.in_memory.Obstacle.TheVariants as obstacles
use Rattle.vm_blocks.specs.declared.member.Members.{Members}
use Rattle.vm_blocks.proofs.ChangingAll.{made_all_on}
use Rattle.vm_blocks.proofs.Incoming.{all_come_in_alike, can_come_in, moved, with_incoming_on}
use Rattle.vm_blocks.proofs.KeepingLaws.{keeps-by, keeps-frames, keeps-locks, keeps-passes, keeps-unless_corrupt, lacks-damaged, lacks-since, loaded-by, loaded-live, loaded-resident}
use Rattle.vm_blocks.proofs.ManyBlocks.{All-from_map, in_and_out}
use Rattle.vm_blocks.proofs.Preparing.{all_listed_on, none_there, removable_on, taken_on}
use Rattle.vm_blocks.proofs.Reversing.{next_done, next_left, stays_refl, stays_trans}

-- ---- handles that blocks come in under

pub record AreNames (hs : List ℕ) : Type 0 where
  pub handles : All (λ h. is_vm_handle h ≡ true) hs
  pub distinct : all_distinct hs ≡ true

abbrev pub AllNamed : List Change → Type 0
AllNamed [] = Unit {0}
AllNamed (c ∷ cs) = AreNames (handles_of (incoming_blocks c)) × AllNamed cs

none_named : AreNames []
none_named = record { handles = All-nil (λ h. is_vm_handle h ≡ true); distinct = refl }

one_named : (c : Change) (d : Document) → CanApplyByHandle c d → AreNames (handles_of (incoming_blocks c))
one_named (changes.BlocksIn ms) d listed = record { handles = λ i h within. (listed.free i h within).handle; distinct = listed.distinct }
one_named (changes.BlocksOut ms) d listed = none_named
one_named (changes.Part b part) d listed = none_named
one_named (changes.Attributes b old new) d listed = none_named
one_named (changes.Map old new) d listed = none_named

all_named : (cs : List Change) (d : Document) → CanApplyAllByHandle cs d → AllNamed cs
all_named [] d listed = tt
all_named (c ∷ cs) d listed = (one_named c d listed.0, all_named cs (after_change c d) listed.1)

-- none of them is live
pub none_live : (d : Document) (hs : List ℕ) → list_any (is_live d) hs ≡ false → All (λ h. is_live d h ≡ false) hs
none_live d [] none = All-nil (λ h. is_live d h ≡ false)
none_live d (h ∷ hs) none =
    let parts = or_parts (is_live d h) (list_any (is_live d) hs) none in
    All-cons (λ k. is_live d k ≡ false) h hs parts.0 (none_live d hs parts.1)

-- free ones aren't the map block's
module _ (honest : Bool) (d : Document) (is : IsFileDocument honest d) (hs : List ℕ) (names : AreNames hs) (dead : All (λ h. is_live d h ≡ false) hs) where
  pub free_names : AreFree d hs
  free_names = record { free = λ i h within. record { handle = names.handles i h within; free = none_there _ (dead i h within) }; distinct = names.distinct }

  pub not_the_map : All (λ h. d.map_block ≢ h) hs
  not_the_map = λ i h within same. elim is.map_block as (λ _. ⊥) [
    | inl none ↦ (let no : is_vm_handle 0 ≡ true = ap is_vm_handle (sym none ∙ same) ∙ names.handles i h within in cc no)
    | inr live ↦ true≢false (sym live ∙ (ap (is_live d) same ∙ dead i h within))
  ]

-- ---- blocks that were put in, and go again

-- what a change brings in, the same the other way round takes out
goes_again : (direction : Direction) (c : Change) → brought direction c ≡ handles_of (incoming_blocks (directed direction c))
goes_again Forwards (changes.BlocksIn ms) = refl
goes_again Forwards (changes.BlocksOut ms) = refl
goes_again Forwards (changes.Part b part) = refl
goes_again Forwards (changes.Attributes b old new) = refl
goes_again Forwards (changes.Map old new) = refl
goes_again Backwards (changes.BlocksIn ms) = refl
goes_again Backwards (changes.BlocksOut ms) = refl
goes_again Backwards (changes.Part b part) = refl
goes_again Backwards (changes.Attributes b old new) = refl
goes_again Backwards (changes.Map old new) = refl

go_again_on : (direction : Direction) (cs : List Change) (honest : Bool) (a b : Document) → SameUnlessCorrupt honest a b → CanGoAgain direction cs a → CanGoAgain direction cs b
go_again_on direction [] honest a b unless_corrupt can = tt
go_again_on direction (c ∷ cs) honest a b unless_corrupt can = let hs : List ℕ = brought direction c in
    (removable_on honest a b unless_corrupt hs can.0, go_again_on direction cs honest (without_blocks a hs) (without_blocks b hs) (taken_on honest a b unless_corrupt hs) can.1)

without_again_on : (direction : Direction) (cs : List Change) (honest : Bool) (a b : Document) → SameUnlessCorrupt honest a b → SameUnlessCorrupt honest (without_again direction cs a) (without_again direction cs b)
without_again_on direction [] honest a b unless_corrupt = unless_corrupt
without_again_on direction (c ∷ cs) honest a b unless_corrupt = let hs : List ℕ = brought direction c in
    without_again_on direction cs honest (without_blocks a hs) (without_blocks b hs) (taken_on honest a b unless_corrupt hs)

module _ {S : Type 0} (facts : S → StoreFacts) (ps : List (ℕ × Block)) (old new : CacheState S) (in_now : IsBroughtIn facts ps old new) where
  abbrev honest : Bool
  honest = (facts old.disk.store).honest

  pub brought_leave : CanRemoveByHandle new.document (handles_of ps)
  brought_leave = removable_on honest (with_blocks old.document ps) new.document in_now.document (handles_of ps) (record {
    live = All-map (λ h. is_live (with_blocks old.document ps) h ≡ true) (λ p. p.0) ps (λ i p within. ap is_some (put_stands old.document ps in_now.free.distinct i p within));
    others = λ i h within same. in_now.map_block i h within (sym (put_map_block old.document ps) ∙ same);
    distinct = in_now.free.distinct;
  })

  pub brought_gone : SameUnlessCorrupt honest old.document (without_blocks new.document (handles_of ps))
  brought_gone =
      let free = All-from_map (λ h. is_live old.document h ≡ false) (λ (p : ℕ × Block). p.0) ps (λ i h within. ap is_some (in_now.free.free i h within).free) in
      let back = in_and_out old.document ps (λ i p within. none_there _ (free i p within)) in_now.free.distinct in
      subst (λ (d : Document). SameUnlessCorrupt honest d (without_blocks new.document (handles_of ps))) back
      (taken_on honest (with_blocks old.document ps) new.document in_now.document (handles_of ps))

-- ---- while they are put in

-- Of the first ones of the changes, so many, the blocks are still to come in; those of the others can be taken out
-- again.
pub record BringsIn {S : Type 0} (facts : S → StoreFacts) (direction : Direction) (cs : List Change) (rest : ℕ) (old now : CacheState S) : Type 0 where
  pub within : rest ≤ length cs
  pub named : AllNamed (directed_all direction (take rest cs))
  pub free : CanAllComeIn (directed_all direction (take rest cs)) now.document → CanAllComeIn (directed_all direction cs) old.document
  pub document : SameUnlessCorrupt (facts old.disk.store).honest (with_incoming (directed_all direction cs) old.document) (with_incoming (directed_all direction (take rest cs)) now.document)
  pub back : LeadsBack facts direction (drop rest cs) old now
  pub sure : NoneComesIn (directed_all direction cs) → NoneComesIn (directed_all direction (take rest cs)) × StaysInMemory old now

module _ {S : Type 0} (facts : S → StoreFacts) (direction : Direction) (cs : List Change) (old : CacheState S) where
  abbrev store : Bool
  store = (facts old.disk.store).honest

  abbrev all : List Change
  all = directed_all direction cs

  nowhere : LeadsBack facts direction [] old old
  nowhere = record {
    passes = KeepsCommitted-refl facts old.disk;
    leave = tt;
    document = SameUnlessCorrupt-refl store old.document;
    frames = refl;
    locks = keeps_refl old.resident;
  }

  pub brings_none : CanApplyAllByHandle all old.document → BringsIn facts direction cs (length cs) old old
  brings_none listed =
      let each : take (length cs) cs ≡ cs = take_all (length cs) cs (omega arith) in
      let none : drop (length cs) cs ≡ [] = drop_of_length-le cs (omega arith) in
      record {
        within = omega arith;
        named = subst (λ (xs : List Change). AllNamed (directed_all direction xs)) (sym each) (all_named all old.document listed);
        free = λ free. subst (λ (xs : List Change). CanAllComeIn (directed_all direction xs) old.document) each free;
        document = subst (λ (xs : List Change). SameUnlessCorrupt store (with_incoming all old.document) (with_incoming (directed_all direction xs) old.document)) (sym each)
            (SameUnlessCorrupt-refl store (with_incoming all old.document));
        back = subst (λ (xs : List Change). LeadsBack facts direction xs old old) (sym none) nowhere;
        sure = λ quiet. (subst (λ (xs : List Change). NoneComesIn (directed_all direction xs)) (sym each) quiet, stays_refl old);
      }

  module _ (rest : ℕ) (now : CacheState S) (w : BringsIn facts direction cs rest old now) where
    pub brings_all : rest ≡ 0 → AreBroughtIn facts direction cs old now
    brings_all none =
        let left : take rest cs ≡ [] = ap (λ (n : ℕ). take n cs) none in
        let done : drop rest cs ≡ cs = ap (λ (n : ℕ). drop n cs) none in
        record {
          free = w.free (subst (λ (xs : List Change). CanAllComeIn (directed_all direction xs) now.document) (sym left) tt);
          document = subst (λ (xs : List Change). SameUnlessCorrupt store (with_incoming all old.document) (with_incoming (directed_all direction xs) now.document)) left w.document;
          back = subst (λ (xs : List Change). LeadsBack facts direction xs old now) done w.back;
        }

    module _ (some : 0 < rest) (change : Change) (is : change ≡ get_or cs (rest - 1) change) where
      abbrev k : ℕ
      k = rest - 1

      abbrev one : Change
      one = directed direction change

      abbrev ps : List (ℕ × Block)
      ps = incoming_blocks one

      abbrev later : List Change
      later = directed_all direction (take k cs)

      abbrev before : List Change
      before = drop rest cs

      less : k < length cs
      less = let within = w.within in omega (arith, some, within)

      up : k + 1 ≡ rest
      up = omega (arith, some)

      left : directed_all direction (take rest cs) ≡ one ∷ later
      left = ap (λ (n : ℕ). directed_all direction (take n cs)) (sym up) ∙ next_left direction cs k less change ∙ ap (λ (x : Change). directed direction x ∷ later) (sym is)

      done : drop k cs ≡ change ∷ drop rest cs
      done = next_done direction cs k less change ∙ ap (λ (x : Change). x ∷ drop (k + 1) cs) (sym is) ∙ ap (λ (n : ℕ). change ∷ drop n cs) up

      pub next_named : AreNames (handles_of ps)
      next_named = (subst AllNamed left w.named).0

      pub next_quiet : NoneComesIn all → (ps ≡ []) × NoneComesIn later
      next_quiet quiet = subst NoneComesIn left (w.sure quiet).0

      module _ (new : CacheState S) (put : IsBroughtIn facts ps now new) where
        same : SameUnlessCorrupt store (with_blocks now.document ps) new.document
        same = subst (λ (t : Bool). SameUnlessCorrupt t (with_blocks now.document ps) new.document) w.back.passes.honest put.document

        goes : brought direction change ≡ handles_of ps
        goes = goes_again direction change

        abbrev less_one : Document
        less_one = without_blocks new.document (brought direction change)

        gone : SameUnlessCorrupt store now.document less_one
        gone = subst (λ (hs : List ℕ). SameUnlessCorrupt store now.document (without_blocks new.document hs)) (sym goes)
            (subst (λ (t : Bool). SameUnlessCorrupt t now.document (without_blocks new.document (handles_of ps))) w.back.passes.honest (brought_gone facts ps now new put))

        leads : LeadsBack facts direction (change ∷ before) old new
        leads = record {
          passes = KeepsCommitted-trans facts old.disk now.disk new.disk w.back.passes put.passes;
          leave = (
            subst (CanRemoveByHandle new.document) (sym goes) (brought_leave facts ps now new put),
            go_again_on direction before store now.document less_one gone w.back.leave,
          );
          document = SameUnlessCorrupt-trans store old.document (without_again direction before now.document) (without_again direction before less_one)
              w.back.document (without_again_on direction before store now.document less_one gone);
          frames = put.frames ∙ w.back.frames;
          locks = record { each = λ h. put.locks.each h ∙ w.back.locks.each h; count = put.locks.count ∙ w.back.locks.count };
        }

        pub brings_more : (ps ≡ [] → StaysInMemory now new) → BringsIn facts direction cs k old new
        brings_more stays = record {
          within = (let within = w.within in omega (arith, within));
          named = (subst AllNamed left w.named).1;
          free = λ free. w.free (subst (λ (xs : List Change). CanAllComeIn xs now.document) (sym left) (
            can_come_in ps now.document put.free,
            all_come_in_alike later new.document (with_blocks now.document ps) (λ h. put.document.live h) free,
          ));
          document = SameUnlessCorrupt-trans store (with_incoming all old.document) (with_incoming later (with_blocks now.document ps)) (with_incoming later new.document)
              (subst (λ (xs : List Change). SameUnlessCorrupt store (with_incoming all old.document) (with_incoming xs now.document)) left w.document)
              (with_incoming_on later store (with_blocks now.document ps) new.document same);
          back = subst (λ (xs : List Change). LeadsBack facts direction xs old new) (sym done) leads;
          sure = λ quiet. let n = next_quiet quiet in (n.1, stays_trans old now new (w.sure quiet).1 (stays n.0));
        }

-- ---- taken out again

module _ {S : Type 0} (facts : S → StoreFacts) (direction : Direction) (cs : List Change) (old now mid : CacheState S) (leads : LeadsBack facts direction cs old now) (keeps : KeepsBlocks facts now mid) where
  unless : SameUnlessCorrupt (facts old.disk.store).honest now.document mid.document
  unless = subst (λ (t : Bool). SameUnlessCorrupt t now.document mid.document) leads.passes.honest (keeps-unless_corrupt facts now mid keeps)

  pub leave_since : CanGoAgain direction cs mid.document
  leave_since = go_again_on direction cs (facts old.disk.store).honest now.document mid.document unless leads.leave

  pub unlocked_since : locked_count old.resident ≡ 0 → locked_count mid.resident ≡ 0
  unlocked_since none = (keeps-locks facts now mid keeps).count ∙ leads.locks.count ∙ none

  module _ (new : CacheState S) (disk : new.disk ≡ mid.disk) where
    pub keeps_out : new.document ≡ without_again direction cs mid.document → new.frames ≡ mid.frames → KeepsLocks mid.resident new.resident → KeepsBlocks facts old new
    keeps_out document frames locks =
        let were = keeps-locks facts now mid keeps in
        keeps-by facts old new
        (record {
          file = record {
            passes = subst (KeepsCommitted facts old.disk) (sym disk) (KeepsCommitted-trans facts old.disk now.disk mid.disk leads.passes (keeps-passes facts now mid keeps));
            document = subst (SameUnlessCorrupt (facts old.disk.store).honest old.document) (sym document)
                (SameUnlessCorrupt-trans (facts old.disk.store).honest old.document (without_again direction cs now.document) (without_again direction cs mid.document)
                leads.document (without_again_on direction cs (facts old.disk.store).honest now.document mid.document unless));
          };
          frames = frames ∙ keeps-frames facts now mid keeps ∙ leads.frames;
        })
        (record { each = λ h. locks.each h ∙ were.each h ∙ leads.locks.each h; count = locks.count ∙ were.count ∙ leads.locks.count })

    pub obstacle_since : (obstacle : Obstacle) → IsObstacle facts now.disk.store mid.disk.store obstacle → IsObstacle facts old.disk.store new.disk.store obstacle
    obstacle_since (obstacles.Fault fault) lacks =
        subst (λ (d : Disk S). IsEnvironmentFault facts old.disk.store d.store fault) (sym disk)
        (lacks-since facts old.disk.store now.disk.store mid.disk.store fault leads.passes.honest leads.passes.failures lacks)
    obstacle_since obstacles.NotInMemory lacks = tt

-- ---- the blocks of one change

module _ {S : Type 0} (facts : S → StoreFacts) (old : CacheState S) where
  -- no block comes in
  pub brought_none : IsBroughtIn facts [] old old
  brought_none = record {
    passes = KeepsCommitted-refl facts old.disk;
    free = record { free = All-nil (IsFreeHandle old.document); distinct = refl };
    map_block = All-nil (λ h. old.document.map_block ≢ h);
    document = SameUnlessCorrupt-refl (facts old.disk.store).honest old.document;
    frames = refl;
    locks = keeps_refl old.resident;
  }

  module _ (ms : Members) (new : CacheState S) where
    pub brought_by : IsFileDocument (facts old.disk.store).honest old.document → AreNames (handles_of (imaged_blocks ms.list.items)) → All (λ h. is_live old.document h ≡ false) (handles_of (imaged_blocks ms.list.items))
        → IsApplied facts (changes.BlocksIn ms) old new → IsBroughtIn facts (imaged_blocks ms.list.items) old new
    brought_by is names dead applied = let hs = handles_of (imaged_blocks ms.list.items) in record {
      passes = applied.passes;
      free = free_names (facts old.disk.store).honest old.document is hs names dead;
      map_block = not_the_map (facts old.disk.store).honest old.document is hs names dead;
      document = applied.document;
      frames = applied.frames;
      locks = applied.locks;
    }

    pub lacks_put : (fault : Fault) → CantPrepare facts (changes.BlocksIn ms) old new fault → IsEnvironmentFault facts old.disk.store new.disk.store fault
    lacks_put fault cant = elim cant as (λ _. IsEnvironmentFault facts old.disk.store new.disk.store fault) [
      | inl lacks ↦ lacks
      | inr more ↦ elim more as (λ _. IsEnvironmentFault facts old.disk.store new.disk.store fault) [
        | inl damaged ↦ subst (IsEnvironmentFault facts old.disk.store new.disk.store) (sym damaged.0) (lacks-damaged facts old.disk.store new.disk.store (λ steady. damaged.1 steady tt))
        | inr far ↦ absurd far.1
      ]
    ]

  pub stays_by : (new : CacheState S) → new.disk ≡ old.disk → new.document ≡ old.document → new.resident ≡ old.resident → StaysInMemory old new
  stays_by new disk document resident = record {
    disk = disk;
    document = document;
    loaded = λ h loaded. loaded-by new h (ap (λ (ss : List ResidentBlock). is_resident ss h) resident ∙ loaded-resident old h loaded) (ap (λ (d : Document). is_live d h) document ∙ loaded-live old h loaded);
  }

-- ---- the others after them

module _ {S : Type 0} (facts : S → StoreFacts) (direction : Direction) (cs : List Change) (old mid : CacheState S) (put : AreBroughtIn facts direction cs old mid)
    (listed : CanApplyAllByHandle (directed_all direction cs) old.document) where
  abbrev each : List Change
  each = directed_all direction cs

  pub others_known : CanApplyAllByHandle (others each) mid.document
  others_known = all_listed_on (facts old.disk.store).honest (others each) (with_incoming each old.document) mid.document put.document (moved each old.document put.free listed).0

  pub applied_by_others : (new : CacheState S) → AreApplied facts (others each) mid new → AreApplied facts each old new
  applied_by_others new made =
      let honest : Bool = (facts old.disk.store).honest in
      let on : SameUnlessCorrupt honest (after_changes (others each) (with_incoming each old.document)) (after_changes (others each) mid.document) =
      made_all_on (others each) honest (with_incoming each old.document) mid.document put.document in
      record {
        passes = KeepsCommitted-trans facts old.disk mid.disk new.disk put.back.passes made.passes;
        document = SameUnlessCorrupt-trans honest (after_changes each old.document) (after_changes (others each) mid.document) new.document
            (subst (λ (d : Document). SameUnlessCorrupt honest d (after_changes (others each) mid.document)) (moved each old.document put.free listed).1 on)
            (subst (λ (t : Bool). SameUnlessCorrupt t (after_changes (others each) mid.document) new.document) put.back.passes.honest made.document);
        frames = made.frames ∙ put.back.frames;
        locks = record { each = λ h. made.locks.each h ∙ put.back.locks.each h; count = made.locks.count ∙ put.back.locks.count };
      }
