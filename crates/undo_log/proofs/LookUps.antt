-- What is looked up of a session's document is a step of its machine.
use Rattle.std.proofs.Common.{◌≡◌, ◌∙◌, ℕ, Bool, true, false, length, IsTrue, List, Vec, Global, Option, Some, None, Result, Ok, Err, ◌∷◌, map, refl, sym, ap, subst, inl, inr}
use Rattle.std.specs.FinMap.{keys}
use Rattle.std.specs.Option.{option_map, option_map_or}
use Rattle.std.specs.Prelude.{unwrap_or}
use Rattle.std.specs.Result.{IsErrAnd}
use Rattle.geos_model.specs.Refusal.{first_refusal}
use Rattle.geos_model.specs.ElementArray.{all_distinct}
use Rattle.geos_model.specs.Forms as forms
use Rattle.geos_model.specs.Forms.{Form, form_asked, has_form}
use Rattle.geos_model.specs.LookUps.{block_look_up, chain_look_up, places_look_up}
use Rattle.geos_model.specs.Machine as machine
use Rattle.geos_model.specs.Machine.{Machine, ManyBodies, Needs, Step, takes_memory, calls_store, command_conditions, done_by, look_up_needs}
use Rattle.geos_model.specs.Reply.{Reply, BlockIs, NumberIs, PlacesAre, Refused, blocks_are, found, look_up_conditions, look_up, reply_by, reply_of}
use Rattle.geos_model.specs.declared.fault.Fault.{Fault}
use Rattle.geos_model.specs.declared.fault.Fault.TheVariants.{CacheFull, Memory}
use Rattle.geos_model.specs.declared.command.Command.{Command}
use Rattle.geos_model.specs.declared.command.Command.TheVariants as commands
use Rattle.geos_model.specs.declared.handle.VmHandle.{VmHandle}
use Rattle.geos_model.specs.declared.place.Place.{Place}
use Rattle.geos_model.specs.declared.look_up.PlacesLookUp.{PlacesLookUp}
use Rattle.geos_model.specs.declared.look_up.PlacesLookUp.TheVariants as places_asks
use Rattle.geos_model.specs.declared.look_up.ArrayLookUp.TheVariants as array_look_ups
use Rattle.geos_model.specs.declared.look_up.BlockLookUp.{BlockLookUp}
use Rattle.geos_model.specs.declared.look_up.BlockLookUp.TheVariants as block_look_ups
use Rattle.geos_model.specs.declared.look_up.ChainLookUp.{ChainLookUp}
use Rattle.geos_model.specs.declared.look_up.ChainLookUp.TheVariants as chain_look_ups
use Rattle.geos_model.specs.declared.look_up.ChunkArrayLookUp.TheVariants as chunk_array_look_ups
use Rattle.geos_model.specs.declared.look_up.ChunkLookUp.TheVariants as chunk_look_ups
use Rattle.geos_model.specs.declared.look_up.ElementArrayLookUp.TheVariants as element_array_look_ups
use Rattle.geos_model.specs.declared.look_up.NameArrayLookUp.TheVariants as name_array_look_ups
use Rattle.geos_model.specs.declared.reply.Reply.{Reply as GivenReply}
use Rattle.geos_model.specs.Document.{Document}
use Rattle.vm_store.specs.Facts.{StoreFacts}
use Rattle.vm_blocks.specs.State.{CacheState}
use Rattle.vm_blocks.specs.Keeping.{KeepsBlocks, IsEnvironmentFault}
use Rattle.vm_blocks.proofs.KeepingLaws.{honest-steady}
use Rattle.doc_edits.specs.LookUps.{LooksUp, AnswersFromBlocks, AnswersChainFromBlocks, Shows, ShowsOrRefuses}
use Rattle.doc_edits.specs.Room.{lacks_frames}
use Rattle.doc_edits.specs.declared.look_ups.Lists.{Lists}
use Rattle.doc_edits.specs.declared.look_ups.Prepared.{Prepared}
use Rattle.doc_edits.proofs.Forms.{by_form, looks_form}
use Rattle.undo_log.specs.Logging.{Log}
use Rattle.undo_log.specs.Sessions.{SessionState, cache_of, machine_of, failed_since, IsStep, KeepsSession, AnswersAlongChain, AnswersWithoutBody, AnswersLookUp}
use Rattle.undo_log.proofs.Keeping.{gives_up, kept_exact, kept_machine, kept_document}
use Rattle.undo_log.proofs.Locks.{has_no_room-is}

-- the first refusal of a look-up or its answer, with which the machine stays
abbrev reply_if : Machine → Option Reply → Option (Reply × Machine)
reply_if m reply = option_map (λ r. (r, m)) reply

stays_with : (m : Machine) (first : Option Fault) (answer : Option Reply) (reply : Reply) → option_map_or (λ fault. Some (Refused fault)) first answer ≡ Some reply
    → option_map_or (λ fault. Some (Refused fault, m)) first (reply_if m answer) ≡ Some (reply, m)
stays_with m None answer reply is = ap (reply_if m) is
stays_with m (Some fault) answer reply is = ap (reply_if m) is

-- A command that asks of the document alone, and may take memory and call the store.
pub record IsLookUp (c : Command) : Type 0 where
  pub takes : (m : Machine) → takes_memory c m ≡ true
  pub calls : (m : Machine) → calls_store c m ≡ true
  pub refuses : (m : Machine) → command_conditions c m ≡ (CacheFull, machine.has_no_room m (look_up_needs c)) ∷ look_up_conditions c m.document
  pub answers : (m : Machine) → done_by c m ≡ reply_if m (look_up c m.document)

-- a session of these blocks
abbrev pub session_with : {S : Type 0} → CacheState S → Log → SessionState S
session_with blocks log = record { disk = blocks.disk; document = blocks.document; resident = blocks.resident; frames = blocks.frames; log = log }

module _ {S : Type 0} (facts : S → StoreFacts) (old new : SessionState S) (keeps : KeepsSession facts old new) (distinct : all_distinct (map (λ s. s.0) old.resident) ≡ true) where
  -- What is answered of the document, the machine answers.
  pub look_up_step : (c : Command) (reply : Reply) → IsLookUp c → (IsTrue (facts old.disk.store).honest → LooksUp (IsEnvironmentFault facts old.disk.store new.disk.store) (lacks_frames (cache_of old) (look_up_needs c)) c new.document reply) → IsStep facts old new c reply
  look_up_step c reply is looks = λ exact.
      let so = exact.honest in
      let now : LooksUp (IsEnvironmentFault facts old.disk.store new.disk.store) (lacks_frames (cache_of old) (look_up_needs c)) c old.document reply = subst (λ (d : Document). LooksUp (IsEnvironmentFault facts old.disk.store new.disk.store) (lacks_frames (cache_of old) (look_up_needs c)) c d reply) (kept_document facts old new keeps so) (looks so) in (
        kept_exact facts old new keeps exact,
        λ target.
            let m = machine_of target old in
            let same : machine_of target new ≡ m = kept_machine facts old new keeps target exact in
            elim now as (λ _. Step (failed_since (facts old.disk.store) (facts new.disk.store)) m (Some c) reply (machine_of target new)) [
              | inl lack ↦ rw lack.2 (gives_up facts old.disk.store new.disk.store m (machine_of target new) c lack.0 so lack.1 same (is.takes m) (is.calls m))
              | inr first ↦ inl (rw (same, is.refuses m, is.answers m, has_no_room-is old distinct target (look_up_needs c)) (stays_with m (first_refusal ((CacheFull, lacks_frames (cache_of old) (look_up_needs c)) ∷ look_up_conditions c m.document)) (look_up c m.document) reply first))
            ],
      )

  pub looked : (c : Command) (reply : Reply) → IsLookUp c → AnswersFromBlocks facts (cache_of old) (cache_of new) c reply → AnswersLookUp facts old new c reply
  looked c reply is sees = record { keeps = keeps; step = look_up_step c reply is (λ _. sees.value); sees = sees }

  pub along : (c : Command) (reply : Reply) → IsLookUp c → look_up_needs c ≡ ManyBodies → AnswersChainFromBlocks facts (cache_of old) (cache_of new) c reply → AnswersAlongChain facts old new c reply
  along c reply is many sees = record {
    keeps = keeps;
    step = look_up_step c reply is (λ so. subst (λ (needs : Needs). LooksUp (IsEnvironmentFault facts old.disk.store new.disk.store) (lacks_frames (cache_of old) needs) c new.document reply) (sym many) (sees.value (honest-steady facts old.disk.store so)));
    sees = sees;
  }

-- So it is of a session that is seen to be one of these blocks.
module _ {S : Type 0} (facts : S → StoreFacts) (old new : CacheState S) (log : Log) (keeps : KeepsBlocks facts old new) (s : SessionState S) (is : session_with old log ≡ s) where
  module _ (distinct : all_distinct (map (λ s. s.0) old.resident) ≡ true) (c : Command) (reply : Reply) (asks : IsLookUp c) where
    pub looked_at : AnswersFromBlocks facts old new c reply → AnswersLookUp facts s (session_with new log) c reply
    looked_at sees =
        subst (λ (x : SessionState S). AnswersLookUp facts x (session_with new log) c reply) is (looked facts (session_with old log) (session_with new log) (record { blocks = keeps; log = refl }) distinct c reply asks sees)

    pub looked_along : look_up_needs c ≡ ManyBodies → AnswersChainFromBlocks facts old new c reply → AnswersAlongChain facts s (session_with new log) c reply
    looked_along many sees =
        subst (λ (x : SessionState S). AnswersAlongChain facts x (session_with new log) c reply) is (along facts (session_with old log) (session_with new log) (record { blocks = keeps; log = refl }) distinct c reply asks many sees)

-- A step of the machine in which nothing changes, in the form that is asked for.
abbrev pub StepsSo : {S : Type 0} → SessionState S → Command → Reply → Type 0
StepsSo s command reply =
    ((target : Bool) → Step false (machine_of target s) (Some command) reply (machine_of target s)) × (has_form reply (form_asked command) ≡ true)

pub at_rest : {S : Type 0} (new old : SessionState S) (c : Command) (reply : Reply) → new ≡ old → ((target : Bool) → Step false (machine_of target new) (Some c) reply (machine_of target new)) → AnswersWithoutBody old new c reply
at_rest {S} new old c reply same step = ((λ target. subst (λ (s : SessionState S). Step false (machine_of target s) (Some c) reply (machine_of target new)) same (step target)), same)

-- the fault that `?` hands on is what was answered
pub answered_err : {T : Type 0} (P : Reply → Type 0) (f : T → Reply) (s : Result T Fault) → P (reply_by f s) → (fault : Fault) → s ≡ Err fault → (m : Result GivenReply Fault) → IsErrAnd m (λ x. x ≡ fault) → P (reply_by reply_of m)
answered_err P f s looks fault was (Ok y) is = absurd is
answered_err {T} P f s looks fault was (Err x) is = subst P (ap (λ (r : Result T Fault). reply_by f r) was ∙ ap Refused (sym is)) looks

-- The live blocks are listed, or there is no memory for the list.

pub blocks_listed : {S : Type 0} (s : SessionState S) (handles : List VmHandle) → map (λ h. h.0) handles ≡ keys s.document.blocks → StepsSo s commands.List (blocks_are handles)
blocks_listed s handles is = ((λ target. inl (rw is refl)), refl)

pub blocks_unlisted : {S : Type 0} (s : SessionState S) (m : Result GivenReply Fault) → m ≡ Err Memory → StepsSo s commands.List (reply_by reply_of m)
blocks_unlisted s m is = rw is ((λ target. inr (record { fault = Memory; may = refl; says = refl; stays = refl })), refl)

-- What is answered by a value, without a look into any block.

-- the block that was found, or 0
pub find_step : (m : Machine) (user_id : ℕ) (start : VmHandle) (block : Option VmHandle) (found_or_0 : VmHandle)
    → option_map (λ (h : VmHandle). h.0) block ≡ found m.document user_id start.0 → found_or_0 ≡ unwrap_or block (record { 0 = 0 })
    → Step false m (Some (commands.Find user_id start)) (BlockIs found_or_0.0) m
find_step m user_id start None found_or_0 e is = inl (rw (is, ← e) refl)
find_step m user_id start (Some h) found_or_0 e is = inl (rw (is, ← e) refl)

-- the map block
pub map_block_step : (m : Machine) (block : VmHandle) → block.0 ≡ m.document.map_block
    → Step false m (Some commands.MapBlock) (BlockIs block.0) m
map_block_step m block e = inl (rw e refl)

-- how many edits can be undone
pub undos_step : (m : Machine) (count : ℕ) → count ≡ length m.past → Step false m (Some commands.Undos) (NumberIs count) m
undos_step m count e = inl (rw e refl)

-- how many edits can be redone
pub redos_step : (m : Machine) (count : ℕ) → count ≡ length m.future → Step false m (Some commands.Redos) (NumberIs count) m
redos_step m count e = inl (rw e refl)

-- how the document stands to the committed ones
pub modified_step : (m : Machine) (stands : ℕ) → stands ≡ machine.stands_as m → Step false m (Some commands.Modified) (NumberIs stands) m
modified_step m stands e = inl (rw e refl)

-- Each look-up into a body asks of the document alone.

block_is : (b : VmHandle) (asked : BlockLookUp) → IsLookUp (block_look_up b asked)
block_is b block_look_ups.Info = record { takes = λ _. refl; calls = λ _. refl; refuses = λ _. refl; answers = λ _. refl }
block_is b block_look_ups.ReadRaw = record { takes = λ _. refl; calls = λ _. refl; refuses = λ _. refl; answers = λ _. refl }
block_is b block_look_ups.Chunks = record { takes = λ _. refl; calls = λ _. refl; refuses = λ _. refl; answers = λ _. refl }
block_is b (block_look_ups.InChunk c chunk_look_ups.Read) = record { takes = λ _. refl; calls = λ _. refl; refuses = λ _. refl; answers = λ _. refl }
block_is b (block_look_ups.InChunk c (chunk_look_ups.Array (array_look_ups.Chunk chunk_array_look_ups.Count))) = record { takes = λ _. refl; calls = λ _. refl; refuses = λ _. refl; answers = λ _. refl }
block_is b (block_look_ups.InChunk c (chunk_look_ups.Array (array_look_ups.Chunk (chunk_array_look_ups.Element i)))) = record { takes = λ _. refl; calls = λ _. refl; refuses = λ _. refl; answers = λ _. refl }
block_is b (block_look_ups.InChunk c (chunk_look_ups.Array (array_look_ups.Element (element_array_look_ups.References t)))) = record { takes = λ _. refl; calls = λ _. refl; refuses = λ _. refl; answers = λ _. refl }
block_is b (block_look_ups.InChunk c (chunk_look_ups.Array (array_look_ups.Element (element_array_look_ups.Bytes t)))) = record { takes = λ _. refl; calls = λ _. refl; refuses = λ _. refl; answers = λ _. refl }
block_is b (block_look_ups.InChunk c (chunk_look_ups.Array (array_look_ups.Element element_array_look_ups.Used))) = record { takes = λ _. refl; calls = λ _. refl; refuses = λ _. refl; answers = λ _. refl }
block_is b (block_look_ups.InChunk c (chunk_look_ups.Array (array_look_ups.Element (element_array_look_ups.TokenOfUsed k)))) = record { takes = λ _. refl; calls = λ _. refl; refuses = λ _. refl; answers = λ _. refl }
block_is b (block_look_ups.InChunk c (chunk_look_ups.Array (array_look_ups.Element (element_array_look_ups.UsedOfToken t)))) = record { takes = λ _. refl; calls = λ _. refl; refuses = λ _. refl; answers = λ _. refl }
block_is b (block_look_ups.InChunk c (chunk_look_ups.Array (array_look_ups.Name (name_array_look_ups.Find name)))) = record { takes = λ _. refl; calls = λ _. refl; refuses = λ _. refl; answers = λ _. refl }
block_is b (block_look_ups.InChunk c (chunk_look_ups.Array (array_look_ups.Name (name_array_look_ups.References t)))) = record { takes = λ _. refl; calls = λ _. refl; refuses = λ _. refl; answers = λ _. refl }
block_is b (block_look_ups.InChunk c (chunk_look_ups.Array (array_look_ups.Name (name_array_look_ups.Text t)))) = record { takes = λ _. refl; calls = λ _. refl; refuses = λ _. refl; answers = λ _. refl }
block_is b (block_look_ups.InChunk c (chunk_look_ups.Array (array_look_ups.Name (name_array_look_ups.Part t)))) = record { takes = λ _. refl; calls = λ _. refl; refuses = λ _. refl; answers = λ _. refl }

chain_is : (asked : ChainLookUp) → IsLookUp (chain_look_up asked) × (look_up_needs (chain_look_up asked) ≡ ManyBodies)
chain_is (chain_look_ups.Walk b) = (record { takes = λ _. refl; calls = λ _. refl; refuses = λ _. refl; answers = λ _. refl }, refl)
chain_is (chain_look_ups.Size b) = (record { takes = λ _. refl; calls = λ _. refl; refuses = λ _. refl; answers = λ _. refl }, refl)
chain_is (chain_look_ups.Equal b other) = (record { takes = λ _. refl; calls = λ _. refl; refuses = λ _. refl; answers = λ _. refl }, refl)
chain_is (chain_look_ups.LargeCount b) = (record { takes = λ _. refl; calls = λ _. refl; refuses = λ _. refl; answers = λ _. refl }, refl)
chain_is (chain_look_ups.LargeElement b i) = (record { takes = λ _. refl; calls = λ _. refl; refuses = λ _. refl; answers = λ _. refl }, refl)
chain_is (chain_look_ups.LargeRun b i n) = (record { takes = λ _. refl; calls = λ _. refl; refuses = λ _. refl; answers = λ _. refl }, refl)

-- So it answers what was prepared.
module _ {S : Type 0} (facts : S → StoreFacts) (old new : CacheState S) (log : Log) (s : SessionState S) (is : session_with old log ≡ s) (distinct : all_distinct (map (λ s. s.0) old.resident) ≡ true)
    (lists : Lists) (r : Result Prepared Fault) (reply : Reply) (shows : ShowsOrRefuses r new lists reply) where
  module _ (b : VmHandle) (asked : BlockLookUp) (sees : (reply : Reply) → ShowsOrRefuses r new lists reply → AnswersFromBlocks facts old new (block_look_up b asked) reply) where
    pub in_block_keeps : KeepsBlocks facts old new
    in_block_keeps = (sees reply shows).keeps

    pub in_block_form : has_form reply (form_asked (block_look_up b asked)) ≡ true
    in_block_form = looks_form (IsEnvironmentFault facts old.disk.store new.disk.store) (lacks_frames old (look_up_needs (block_look_up b asked))) (block_look_up b asked) new.document reply (sees reply shows).value

    pub in_block_looked : AnswersLookUp facts s (session_with new log) (block_look_up b asked) reply
    in_block_looked = looked_at facts old new log in_block_keeps s is distinct (block_look_up b asked) reply (block_is b asked) (sees reply shows)

  module _ (asked : ChainLookUp) (sees : (reply : Reply) → ShowsOrRefuses r new lists reply → AnswersChainFromBlocks facts old new (chain_look_up asked) reply × (has_form reply (form_asked (chain_look_up asked)) ≡ true)) where
    pub along_chain_keeps : KeepsBlocks facts old new
    along_chain_keeps = (sees reply shows).0.keeps

    pub along_chain_form : has_form reply (form_asked (chain_look_up asked)) ≡ true
    along_chain_form = (sees reply shows).1

    pub along_chain_looked : AnswersAlongChain facts s (session_with new log) (chain_look_up asked) reply
    along_chain_looked = looked_along facts old new log along_chain_keeps s is distinct (chain_look_up asked) reply (chain_is asked).0 (chain_is asked).1 (sees reply shows).0

-- what was prepared, or why nothing was
module _ {S : Type 0} (e : CacheState S) (lists : Lists) (r : Result Prepared Fault) where
  pub shows_ok : (p : Prepared) (reply : Reply) → r ≡ Ok p → Shows p e lists reply → ShowsOrRefuses r e lists reply
  shows_ok p reply was shows = subst (λ (x : Result Prepared Fault). ShowsOrRefuses x e lists reply) (sym was) shows

  pub shows_err : (fault : Fault) (m : Result GivenReply Fault) → r ≡ Err fault → IsErrAnd m (λ x. x ≡ fault) → ShowsOrRefuses r e lists (reply_by reply_of m)
  shows_err fault (Ok y) was is = absurd is
  shows_err fault (Err x) was is = subst (λ (y : Result Prepared Fault). ShowsOrRefuses y e lists (Refused x)) (sym was) (ap Refused is)

-- sessions of the same parts are the same
pub same_session : {S : Type 0} (old new : CacheState S) (log log' : Log) → new ≡ old → log' ≡ log → session_with new log' ≡ session_with old log
same_session old new log log' p q = λ i. session_with (p i) (q i)

-- Where the document was changed last, or would be next.

places_form : (asked : PlacesLookUp) → form_asked (places_look_up asked) ≡ forms.Places
places_form places_asks.Touched = refl
places_form places_asks.Undo = refl
places_form places_asks.Redo = refl
places_form places_asks.Abandon = refl

pub places_steps : {S : Type 0} (s : SessionState S) (asked : PlacesLookUp) (r : Result (Vec Place Global) Fault)
    → ((target : Bool) → Step false (machine_of target s) (Some (places_look_up asked)) (reply_by (λ ps. PlacesAre ps.items) r) (machine_of target s))
    → StepsSo s (places_look_up asked) (reply_by (λ ps. PlacesAre ps.items) r)
places_steps s asked r step =
    (step, subst (λ (form : Form). has_form (reply_by (λ ps. PlacesAre ps.items) r) form ≡ true) (sym (places_form asked)) (by_form forms.Places (λ ps. PlacesAre ps.items) (λ x. refl) r))
