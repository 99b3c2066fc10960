-- A run of a block in memory that is replaced, or refused: what callers see then.
use Rattle.std.proofs.Common.{◌≡◌, ◌⊎◌, ℕ, List, [], Bool, Option, Some, None, true, false, nat_eq, Result, Ok, Err, MatchBool, OnOk, IfErr, inl, inr, unwrap_or, refl, sym, ap, subst, ◌∙◌}
use Rattle.std.proofs.lemmas.Map.Steps.{set_value_same}
use Rattle.std.specs.FinMap.{empty, get}
use Rattle.std.specs.Map.{set_value}
use Rattle.std.specs.Option.{option_map_or}
use Rattle.geos_model.specs.Document.{Block, Document, block_at, bytes_of_body, chunks_of_body, no_block}
use Rattle.geos_model.specs.Heap.{ChunkMap, chunk_bytes}
use Rattle.geos_model.specs.declared.command.Body.{Body}
use Rattle.geos_model.specs.declared.fault.Fault.{Fault}
use Rattle.geos_model.specs.declared.handle.ChunkHandle.{ChunkHandle}
use Rattle.geos_model.specs.declared.handle.VmHandle.{VmHandle}
use Rattle.vm_store.specs.Facts.{StoreFacts}
use Rattle.document_file.specs.Disk.{FileState}
use Rattle.vm_blocks.specs.Bodies.{body_value}
use Rattle.vm_blocks.specs.Changes.{after_change, after_part}
use Rattle.vm_blocks.specs.Frames.{frame_of, residents, shown}
use Rattle.vm_blocks.specs.Keeping.{is_loaded}
use Rattle.vm_blocks.specs.Parts.{AllowsPart}
use Rattle.vm_blocks.specs.Runs.{AllowsRun, IsKindOfRun, IsRunRefused, PutsPart, PutsRun, TriesRun, bytes_in_body, bytes_with_run, part_of_run, run_change, run_part}
use Rattle.vm_blocks.specs.Sound.{AreBlocksOf}
use Rattle.vm_blocks.specs.State.{CacheState}
use Rattle.vm_blocks.specs.declared.change.Change.{Change}
use Rattle.vm_blocks.specs.declared.change.Change.TheVariants as changes
use Rattle.vm_blocks.specs.declared.change.PartChange.{PartChange}
use Rattle.vm_blocks.specs.declared.frame.Frame.{Frame}
use Rattle.vm_blocks.specs.declared.run.Run.{Run}
use Rattle.vm_blocks.proofs.ChangedInPlace.{blocks_stay, body_seen, part_shown, seats_stay}
use Rattle.vm_blocks.proofs.KeepingLaws.{keeps-refl}
use Rattle.vm_blocks.proofs.Preparing.{makes}

-- the bytes in which a run lies are those of the body of its block

raw_there : (o : Option Block) → option_map_or (λ b. bytes_of_body b.body) o [] ≡ bytes_of_body (unwrap_or o no_block).body
raw_there None = refl
raw_there (Some block) = refl

chunks_there : (o : Option Block) → option_map_or (λ b. chunks_of_body b.body) o empty ≡ chunks_of_body (unwrap_or o no_block).body
chunks_there None = refl
chunks_there (Some block) = refl

bytes_there : (o : Option ChunkHandle) (d : Document) (h : VmHandle) → bytes_with_run d h o ≡ bytes_in_body o (block_at d h.0).body
bytes_there None d h = raw_there (get d.blocks h.0)
bytes_there (Some c) d h = ap (λ (m : ChunkMap). chunk_bytes m c.0) (chunks_there (get d.blocks h.0))

pub change_there : (run : Run) (d : Document) (body : Body) → (block_at d run.block.0).body ≡ body → run_change run d ≡ changes.Part run.block (run_part run body)
change_there run d body is =
    ap (λ (bytes : List ℕ). changes.Part run.block (part_of_run run bytes)) (bytes_there run.chunk d run.block ∙ ap (bytes_in_body run.chunk) is)

-- A part of a body in memory is changed, or nothing is.
module _ {S : Type 0} (facts : S → StoreFacts) (file : FileState S) (es : List (ℕ × Frame)) (cap : ℕ) (state : CacheState S) (view : shown file es cap ≡ state) (h : ℕ)
    (f : Frame) (here : frame_of es h ≡ Some f) (part : PartChange) (new : Frame) where
  abbrev es' : List (ℕ × Frame)
  es' = set_value (nat_eq h) es new

  seen : (block_at state.document h).body ≡ body_value f.body
  seen = body_seen file es cap state view h f here

  same_frames : new ≡ f → es' ≡ es
  same_frames is = ap (set_value (nat_eq h) es) is ∙ set_value_same (nat_eq h) es f here

  pub takes : PutsPart part f new → AllowsPart part (block_at state.document h).body
  takes puts = subst (AllowsPart part) (sym seen) puts.allows

  pub put_shown : PutsPart part f new → shown file es' cap ≡ record state { document = after_part h part state.document }
  put_shown puts = part_shown file es cap state view h f here part (takes puts) new puts.body puts.marks

  pub kept_shown : new ≡ f → shown file es' cap ≡ state
  kept_shown is = ap (λ (fs : List (ℕ × Frame)). shown file fs cap) (same_frames is) ∙ view

  pub blocks_left : PutsPart part f new ⊎ (new ≡ f) → is_loaded state h ≡ true → AreBlocksOf facts file es cap → AreBlocksOf facts file es' cap
  blocks_left (inl puts) loaded sound = blocks_stay file es cap state view h f here part (takes puts) new puts.body puts.marks facts loaded sound
  blocks_left (inr is) loaded sound = subst (λ (fs : List (ℕ × Frame)). AreBlocksOf facts file fs cap) (sym (same_frames is)) sound

  pub seats_left : PutsPart part f new ⊎ (new ≡ f) → residents es' ≡ residents es
  seats_left (inl puts) = seats_stay file es cap state view h f here part (takes puts) new puts.body puts.marks
  seats_left (inr is) = ap residents (same_frames is)

  -- as a test tells
  module _ (refused : Type 0) where
    pub either : (b : Bool) → MatchBool b (PutsPart part f new) (refused × (new ≡ f)) → PutsPart part f new ⊎ (new ≡ f)
    either true puts = inl puts
    either false kept = inr kept.1

  pub changed : (b : Bool) → MatchBool b (PutsPart part f new) ((AllowsPart part (body_value f.body) → ⊥) × (new ≡ f))
      → MatchBool b (AllowsPart part (block_at state.document h).body × (shown file es' cap ≡ record state { document = after_part h part state.document }))
      ((AllowsPart part (block_at state.document h).body → ⊥) × (shown file es' cap ≡ state))
  changed true puts = (takes puts, put_shown puts)
  changed false kept = ((λ allows. kept.0 (subst (AllowsPart part) seen allows)), kept_shown kept.1)

-- So is a run, or it is refused.
module _ {S : Type 0} (facts : S → StoreFacts) (file : FileState S) (es : List (ℕ × Frame)) (cap : ℕ) (state : CacheState S) (view : shown file es cap ≡ state) (run : Run)
    (f : Frame) (here : frame_of es run.block.0 ≡ Some f) (kind : IsKindOfRun run (block_at state.document run.block.0).body) where
  abbrev h : ℕ
  h = run.block.0

  abbrev part : PartChange
  part = run_part run (body_value f.body)

  seen_run : (block_at state.document h).body ≡ body_value f.body
  seen_run = body_seen file es cap state view h f here

  pub kind_here : IsKindOfRun run (body_value f.body)
  kind_here = subst (IsKindOfRun run) seen_run kind

  change_is : changes.Part run.block part ≡ run_change run state.document
  change_is = sym (change_there run state.document (body_value f.body) seen_run)

  module _ (new : Frame) where
    pub put_or_left : (P : Fault → Type 0) (r : Result (Unit {0}) Fault) → OnOk r (PutsRun run f new) → IfErr r (λ fault. (new ≡ f) × P fault) → PutsPart part f new ⊎ (new ≡ f)
    put_or_left P (Ok x) puts refused = inl puts.1
    put_or_left P (Err fault) puts refused = inr refused.0

    module _ {R : Type 0} (records : R → Change → R → Type 0) (keeps : R → R → Type 0) (log log' : R) where
      pub tried : (r : Result (Unit {0}) Fault) → OnOk r (PutsRun run f new) → OnOk r (records log (changes.Part run.block part) log')
          → IfErr r (λ fault. (new ≡ f) × IsRunRefused keeps run (body_value f.body) log log' fault) → is_loaded state h ≡ true
          → TriesRun facts records keeps run state (shown file (set_value (nat_eq h) es new) cap) log log' r
      tried (Ok x) puts recorded refused loaded =
          let shows = put_shown facts file es cap state view h f here part new puts.1 ∙ ap (λ (change : Change). record state { document = after_change change state.document }) change_is in
          record {
            allows = subst (AllowsRun run) (sym seen_run) puts.0;
            recorded = subst (λ (change : Change). records log change log') change_is recorded;
            document = shows;
            makes = makes facts state state (keeps-refl facts state) (run_change run state.document) (shown file (set_value (nat_eq h) es new) cap) loaded shows;
          }
      tried (Err fault) puts recorded refused loaded =
          (kept_shown facts file es cap state view h f here part new refused.0, subst (λ (body : Body). IsRunRefused keeps run body log log' fault) (sym seen_run) refused.1)
