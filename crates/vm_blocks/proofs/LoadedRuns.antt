-- A run of bytes that is replaced once its block is in memory: what callers see of it.
use Rattle.std.proofs.Common.{◌≡◌, ◌⊎◌, ℕ, List, Bool, None, Some, true, false, nat_eq, not, Option, Result, Ok, Err, IsOk, IfErr, OnOk, is_some, inl, inr, unwrap_or, length, refl, sym, ap, ◌∙◌}
use Rattle.std.proofs.lemmas.Bool.{true≢false}
use Rattle.std.specs.Prelude.{◌≤◌}
use Rattle.std.specs.Bool.{beq}
use Rattle.std.specs.FinMap.{get}
use Rattle.std.specs.List.{IsDistinct}
use Rattle.std.specs.Map.{keys_of, set_value}
use Rattle.std.specs.Option.{option_map_or}
use Rattle.geos_model.specs.Document.{Block, Document, block_at, is_heap, is_heap_body, is_live, is_valid_body, no_block}
use Rattle.geos_model.specs.declared.fault.Fault.{Fault}
use Rattle.geos_model.specs.declared.fault.Fault.TheVariants.{CacheFull, NoBlock, WrongKind}
use Rattle.geos_model.specs.declared.handle.ChunkHandle.{ChunkHandle}
use Rattle.lru.specs.LruCache.{promoted}
use Rattle.vm_store.specs.Facts.{StoreFacts}
use Rattle.document_file.specs.Disk.{FileState}
use Rattle.vm_blocks.specs.Bodies.{body_value}
use Rattle.vm_blocks.specs.Frames.{frame_of, residents, shown}
use Rattle.vm_blocks.specs.InPlace.{used_last}
use Rattle.vm_blocks.specs.Keeping.{IsCacheFull, IsEnvironmentFault, KeepsBlocks, has_no_frame_for, is_loaded}
use Rattle.vm_blocks.specs.Kinds.{IsWrongBlock}
use Rattle.vm_blocks.specs.LoadedRuns.{LoadsAndReplaces, LoadsKind, is_kind_of_run}
use Rattle.vm_blocks.specs.Runs.{IsKindOfRun, IsRunRefused, PutsPart, PutsRun, TriesRun, run_part}
use Rattle.vm_blocks.specs.Sound.{AreBlocksOf}
use Rattle.vm_blocks.specs.State.{CacheState, locked_count}
use Rattle.vm_blocks.specs.declared.change.Change.{Change}
use Rattle.vm_blocks.specs.declared.change.Change.TheVariants as changes
use Rattle.vm_blocks.specs.declared.change.PartChange.{PartChange}
use Rattle.vm_blocks.specs.declared.frame.Frame.{Frame}
use Rattle.vm_blocks.specs.declared.run.Run.{Run}
use Rattle.vm_blocks.proofs.KeepingLaws.{keeps-refl, keeps-unless_corrupt, loaded-live, loaded-resident, raw_by, resident-open}
use Rattle.vm_blocks.proofs.ReplacedRuns.{kind_here, put_or_left, tried}
use Rattle.vm_blocks.proofs.UsedAgain.{last_keeps, last_loaded}
use Rattle.vm_blocks.proofs.UsedInPlace.{blocks_changed, count_changed, here_first, loaded_first, seen_first}

-- what a test tells of two that other values stand for

pub differ : (a b o : Bool) {x : Bool} → x ≡ a → b ≡ o → not (beq a b) ≡ true → x ≡ o → ⊥
differ a b o is so tested same = unequal a b tested (sym is ∙ same ∙ sym so)
  where
    unequal : (a b : Bool) → not (beq a b) ≡ true → a ≡ b → ⊥
    unequal true true tested same = absurd (cc tested)
    unequal true false tested same = absurd (cc same)
    unequal false true tested same = absurd (cc same)
    unequal false false tested same = absurd (cc tested)

pub agree : (a b o : Bool) {x : Bool} → x ≡ a → b ≡ o → not (beq a b) ≡ false → x ≡ o
agree a b o is so tested = is ∙ equal a b tested ∙ so
  where
    equal : (a b : Bool) → not (beq a b) ≡ false → a ≡ b
    equal true true tested = refl
    equal true false tested = absurd (cc tested)
    equal false true tested = absurd (cc tested)
    equal false false tested = refl

-- the kind of the body of a block that is live
pub kind_of_live : (o : Option Block) → is_some o ≡ true → is_heap_body (unwrap_or o no_block).body ≡ option_map_or (λ (b : Block). is_heap_body b.body) o false
kind_of_live None live = absurd (cc live)
kind_of_live (Some b) live = refl

-- whether a block is of the kind in which a run lies

of_kind : (o : Option ChunkHandle) (d : Document) (h : ℕ) → is_live d h ≡ true → is_heap d h ≡ is_some o → is_kind_of_run o d h ≡ true
of_kind None d h live kind = raw_by (get d.blocks h) live kind
of_kind (Some c) d h live kind = kind

of_other_kind : (o : Option ChunkHandle) (d : Document) (h : ℕ) → is_live d h ≡ true → (is_heap d h ≡ is_some o → ⊥) → is_kind_of_run o d h ≡ false
of_other_kind None d h live other = heap_by (get d.blocks h) live other
  where
    heap_by : (b : Option Block) → is_some b ≡ true → (option_map_or (λ (b : Block). is_heap_body b.body) b false ≡ false → ⊥) → option_map_or (λ (b : Block). not (is_heap_body b.body)) b false ≡ false
    heap_by None live other = absurd (cc live)
    heap_by (Some b) live other = by (is_heap_body b.body) other
      where
        by : (k : Bool) → (k ≡ false → ⊥) → not k ≡ false
        by true other = refl
        by false other = absurd (other refl)
of_other_kind (Some c) d h live other = by (is_heap d h) other
  where
    by : (k : Bool) → (k ≡ true → ⊥) → k ≡ false
    by true other = absurd (other refl)
    by false other = refl

kind_is_live : (o : Option ChunkHandle) (d : Document) (h : ℕ) → is_kind_of_run o d h ≡ true → is_live d h ≡ true
kind_is_live None d h kind = of (get d.blocks h) kind
  where
    of : (b : Option Block) → option_map_or (λ (b : Block). not (is_heap_body b.body)) b false ≡ true → is_some b ≡ true
    of None kind = absurd (cc kind)
    of (Some b) kind = refl
kind_is_live (Some c) d h kind = of (get d.blocks h) kind
  where
    of : (b : Option Block) → option_map_or (λ (b : Block). is_heap_body b.body) b false ≡ true → is_some b ≡ true
    of None kind = absurd (cc kind)
    of (Some b) kind = refl

-- A live block of this kind is brought into memory, or isn't.
module _ {S : Type 0} (facts : S → StoreFacts) (o : Option ChunkHandle) (h : ℕ) (old : CacheState S) (live : is_live old.document h ≡ true) (kind : is_heap old.document h ≡ is_some o) where
  right : (fault : Fault) → IsWrongBlock (is_kind_of_run o) old.document h fault → ⊥
  right fault (inl dead) = true≢false (sym live ∙ dead.1)
  right fault (inr other) = true≢false (sym (of_kind o old.document h live kind) ∙ other.2)

  module _ (mid : CacheState S) (keeps : KeepsBlocks facts old mid) where
    kind_kept : is_kind_of_run o mid.document h ≡ true
    kind_kept =
        let same = keeps-unless_corrupt facts old mid keeps in
        of_kind o mid.document h (same.live h ∙ live) (same.kinds h ∙ kind)

    pub loads : (r : Result (Unit {0}) Fault) → OnOk r (is_loaded mid h ≡ true) → IfErr r (λ fault. IsEnvironmentFault facts old.disk.store mid.disk.store fault ⊎ IsCacheFull old h fault)
        → (is_loaded old h ≡ true → IsOk r × (mid.disk ≡ old.disk) × (mid.document ≡ old.document)) → (has_no_frame_for old h ≡ true → (r ≡ Err CacheFull) × (mid ≡ old))
        → LoadsKind facts (is_kind_of_run o) h old mid r
    loads r ok err already shut = record {
      keeps = keeps;
      ok = ok_so r ok;
      err = err_so r err;
      already = λ here is. already here;
      early = λ fault wrong. absurd (right fault wrong);
      shut = λ is far. shut far;
    }
      where
        ok_so : (r : Result (Unit {0}) Fault) → OnOk r (is_loaded mid h ≡ true) → OnOk r ((is_loaded mid h ≡ true) × (is_kind_of_run o mid.document h ≡ true))
        ok_so (Ok x) loaded = (loaded, kind_kept)
        ok_so (Err fault) loaded = tt

        err_so : (r : Result (Unit {0}) Fault) → IfErr r (λ fault. IsEnvironmentFault facts old.disk.store mid.disk.store fault ⊎ IsCacheFull old h fault)
            → IfErr r (λ fault. IsEnvironmentFault facts old.disk.store mid.disk.store fault ⊎ (IsWrongBlock (is_kind_of_run o) mid.document h fault ⊎ IsCacheFull old h fault))
        err_so (Ok x) err = tt
        err_so (Err fault) (inl lacks) = inl lacks
        err_so (Err fault) (inr full) = inr (inr full)

  -- one that is in memory becomes the one that was used last
  module _ (few : length old.resident ≤ old.frames) (loaded : is_loaded old h ≡ true) where
    pub loads_again : LoadsKind facts (is_kind_of_run o) h old (used_last old h) (Ok tt)
    loads_again =
        loads (used_last old h) (last_keeps old h facts) (Ok tt) (last_loaded old h loaded) tt (λ here. (refl, refl, refl))
        (λ far. absurd (true≢false (sym far ∙ resident-open old h few (loaded-resident old h loaded))))

-- A block of another kind isn't looked for in memory.
module _ {S : Type 0} (facts : S → StoreFacts) (o : Option ChunkHandle) (h : ℕ) (old : CacheState S) where
  pub loads_dead : is_live old.document h ≡ false → LoadsKind facts (is_kind_of_run o) h old old (Err NoBlock)
  loads_dead dead = record {
    keeps = keeps-refl facts old;
    ok = tt;
    err = inr (inl (inl (refl, dead)));
    already = λ here kind. absurd (no (kind_is_live o old.document h kind));
    early = λ fault wrong. (ap Err (only fault wrong), refl);
    shut = λ kind far. absurd (no (kind_is_live o old.document h kind));
  }
    where
      no : is_live old.document h ≡ true → ⊥
      no live = true≢false (sym live ∙ dead)

      only : (fault : Fault) → IsWrongBlock (is_kind_of_run o) old.document h fault → NoBlock ≡ fault
      only fault (inl is) = sym is.0
      only fault (inr is) = absurd (no is.1)

  pub loads_other : is_live old.document h ≡ true → (is_heap old.document h ≡ is_some o → ⊥) → LoadsKind facts (is_kind_of_run o) h old old (Err WrongKind)
  loads_other live other = record {
    keeps = keeps-refl facts old;
    ok = tt;
    err = inr (inl (inr (refl, live, differs)));
    already = λ here kind. absurd (true≢false (sym kind ∙ differs));
    early = λ fault wrong. (ap Err (only fault wrong), refl);
    shut = λ kind far. absurd (true≢false (sym kind ∙ differs));
  }
    where
      differs : is_kind_of_run o old.document h ≡ false
      differs = of_other_kind o old.document h live other

      only : (fault : Fault) → IsWrongBlock (is_kind_of_run o) old.document h fault → WrongKind ≡ fault
      only fault (inl is) = absurd (true≢false (sym live ∙ is.1))
      only fault (inr is) = sym is.0

-- What replacing the run comes to then.
module _ {S R : Type 0} (facts : S → StoreFacts) (records : R → Change → R → Type 0) (keeps : R → R → Type 0) (run : Run) (old : CacheState S) (log : R) where
  pub not_loaded : (mid : CacheState S) (fault : Fault) → LoadsKind facts (is_kind_of_run run.chunk) run.block.0 old mid (Err fault) → (r : Result (Unit {0}) Fault) → r ≡ Err fault
      → LoadsAndReplaces facts records keeps run old mid log log r
  not_loaded mid fault loads r is = record { loaded = mid; load = Err fault; loads = loads; replaces = (is, refl, refl) }

  pub replaced : (mid new : CacheState S) (log' : R) → LoadsKind facts (is_kind_of_run run.chunk) run.block.0 old mid (Ok tt) → (r : Result (Unit {0}) Fault) → TriesRun facts records keeps run mid new log log' r
      → is_valid_body (block_at mid.document run.block.0).body ≡ true → LoadsAndReplaces facts records keeps run old new log log' r
  replaced mid new log' loads r tries valid = record { loaded = mid; load = Ok tt; loads = loads; replaces = (tries, valid) }

-- So of one whose block is in memory, where its frame is the first then.
module _ {S R : Type 0} (facts : S → StoreFacts) (records : R → Change → R → Type 0) (keeps : R → R → Type 0) (file : FileState S) (es : List (ℕ × Frame)) (cap : ℕ) (state : CacheState S)
    (view : shown file es cap ≡ state) (run : Run) (sound : AreBlocksOf facts file es cap) (f : Frame) (here : frame_of es run.block.0 ≡ Some f) (distinct : IsDistinct nat_eq (keys_of es))
    (kind : IsKindOfRun run (block_at state.document run.block.0).body) where
  abbrev h : ℕ
  h = run.block.0

  abbrev first : List (ℕ × Frame)
  first = promoted (nat_eq h) es

  abbrev part : PartChange
  part = run_part run (body_value f.body)

  lent : frame_of first h ≡ Some f
  lent = here_first facts file es cap state view h sound f here distinct

  seen : shown file first cap ≡ used_last state h
  seen = seen_first facts file es cap state view h sound f here distinct

  pub kind_lent : IsKindOfRun run (body_value f.body)
  kind_lent = kind_here facts file first cap (used_last state h) seen run f lent kind

  module _ (new : Frame) (log log' : R) (r : Result (Unit {0}) Fault) (ok : OnOk r (PutsRun run f new)) (recorded : OnOk r (records log (changes.Part run.block part) log'))
      (err : IfErr r (λ fault. (new ≡ f) × IsRunRefused keeps run (body_value f.body) log log' fault)) where
    left : PutsPart part f new ⊎ (new ≡ f)
    left = put_or_left facts file first cap (used_last state h) seen run f lent kind new _ r ok err

    pub run_blocks : AreBlocksOf facts file (set_value (nat_eq h) first new) cap
    run_blocks = blocks_changed facts file es cap state view h sound f here distinct part new left

    pub run_count : locked_count (residents (set_value (nat_eq h) first new)) ≡ locked_count (residents es)
    run_count = count_changed facts file es cap state view h sound f here distinct part new left

    pub run_tried : TriesRun facts records keeps run (used_last state h) (shown file (set_value (nat_eq h) first new) cap) log log' r
    run_tried =
        tried facts file first cap (used_last state h) seen run f lent kind new records keeps log log' r ok recorded err
        (loaded_first facts file es cap state view h sound f here distinct)
