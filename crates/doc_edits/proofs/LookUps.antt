-- What is looked up of a document, and what refuses it.
use Rattle.std.proofs.Common.{◌≡◌, ◌⊎◌, ℕ, List, [], ◌++◌, ◌∷◌, not, false, true, Bool, Option, Some, None, is_none, unwrap_or, MatchOption, Result, Ok, Err, MatchResult, refl, sym, ap, subst, ◌∙◌, inl, inr}
use Rattle.std.proofs.lemmas.Bool.{true≢false}
use Rattle.std.proofs.lemmas.Result.{MatchResult-weaker}
use Rattle.std.specs.Option.{option_map, option_map_or}
use Rattle.std.specs.Prelude.{IfErr, IsOk, IsOkAnd}
use Rattle.std.specs.Result.{IsErrAnd}
use Rattle.std.specs.FinMap.{contains_key}
use Rattle.geos_model.specs.Refusal.{Conditions, first_refusal}
use Rattle.geos_model.specs.Document.{Document, chunks_of, is_heap}
use Rattle.geos_model.specs.Machine.{Needs, OneBody, look_up_needs}
use Rattle.geos_model.specs.Meaning.{on_chunk, chunk_at}
use Rattle.geos_model.specs.LookUps.{array_look_up}
use Rattle.geos_model.specs.NameEdits.{names_in, token_of_text, find_conditions}
use Rattle.geos_model.specs.Reply.{Reply, Refused, BytesAre, TokenIs, reply_by, reply_of, look_up_conditions, look_up}
use Rattle.geos_model.proofs.Refusals.{none_applies, or_none}
use Rattle.geos_model.proofs.FirstRefusals.{passed}
use Rattle.geos_model.specs.declared.fault.Fault.{Fault}
use Rattle.geos_model.specs.declared.fault.Fault.TheVariants.{CacheFull, Memory, NoChunk, NoName}
use Rattle.geos_model.specs.declared.command.Command.{Command}
use Rattle.geos_model.specs.declared.command.Command.TheVariants as commands
use Rattle.geos_model.specs.declared.handle.ChunkHandle.{ChunkHandle}
use Rattle.geos_model.specs.declared.handle.Token.{Token}
use Rattle.geos_model.specs.declared.handle.VmHandle.{VmHandle}
use Rattle.geos_model.specs.declared.look_up.ArrayLookUp.{ArrayLookUp}
use Rattle.geos_model.specs.declared.look_up.ArrayLookUp.TheVariants as array_look_ups
use Rattle.geos_model.specs.declared.look_up.ChunkArrayLookUp.TheVariants as chunk_array_look_ups
use Rattle.geos_model.specs.declared.look_up.ElementArrayLookUp.TheVariants as element_array_look_ups
use Rattle.geos_model.specs.declared.look_up.NameArrayLookUp.TheVariants as name_array_look_ups
use Rattle.geos_model.specs.declared.reply.Reply.{Reply as GivenReply}
use Rattle.element_arrays.specs.Answering.{IsAnswered, IsRefused}
use Rattle.vm_blocks.specs.State.{CacheState}
use Rattle.vm_chains.specs.Answers.{AnswersChain, IsWalkRefusal}
use Rattle.vm_store.specs.Facts.{StoreFacts}
use Rattle.vm_blocks.specs.Keeping.{KeepsBlocks, IsEnvironmentFault, IsHonest, IsCacheFull, is_full, is_loaded, has_no_frame_for}
use Rattle.vm_blocks.proofs.KeepingLaws.{keeps-refl}
use Rattle.vm_blocks.specs.Kinds.{IsWrongBlock}
use Rattle.doc_edits.specs.Found.{AreLate, IsChunkAt}
use Rattle.doc_edits.specs.LookUps.{answer_of, chunk_asked, makes_list, AnswersInChunk, FindsInMemory, IsRootFaultOf, LooksUp, LooksUpInMemory, RefusesChunk, AnswersFromBlocks, AnswersChainFromBlocks, ShowsOrRefuses}
use Rattle.doc_edits.specs.Room.{lacks_frames, IsChainRefusal, IsRefusedEarly, ReadsNothing}
use Rattle.doc_edits.specs.declared.look_ups.Lists.{Lists}
use Rattle.doc_edits.specs.declared.look_ups.Prepared.{Prepared}
use Rattle.doc_edits.proofs.Refusals.{carried_so, past_chunk}
use Rattle.doc_edits.proofs.RoomLemmas.{LooksFor, early_of_chain, looks_for_heap, refused_for, unchanged, room_at}

module _ (lacks : Fault → Type 0) (no_room : Bool) where
  -- a look-up that is refused
  pub look_up_refused : (command : Command) (d : Document) (fault : Fault) → first_refusal ((CacheFull, no_room) ∷ look_up_conditions command d) ≡ Some fault → LooksUp lacks no_room command d (Refused fault)
  look_up_refused command d fault first = inr (ap (λ (o : Option Fault). option_map_or (λ x. Some (Refused x)) o (look_up command d)) first)

  pub refused_or_lacked : (command : Command) (d : Document) (fault : Fault) → (lacks fault × (no_room ≡ false)) ⊎ (first_refusal ((CacheFull, no_room) ∷ look_up_conditions command d) ≡ Some fault) → LooksUp lacks no_room command d (Refused fault)
  refused_or_lacked command d fault (inl lack) = inl (fault, lack.0, refl, lack.1)
  refused_or_lacked command d fault (inr first) = look_up_refused command d fault first

  -- the fault that `?` hands on
  pub refused_as : {T : Type 0} (command : Command) (d : Document) (f : T → Reply) (r : Result T Fault) (fault : Fault) → IsErrAnd r (λ e. e ≡ fault) → LooksUp lacks no_room command d (Refused fault) → LooksUp lacks no_room command d (reply_by f r)
  refused_as command d f (Ok x) fault is looks = absurd is
  refused_as command d f (Err e) fault is looks = subst (λ (x : Fault). LooksUp lacks no_room command d (Refused x)) (sym is) looks

  -- Where there is room the document decides, or what the call lacked.
  module _ (room : no_room ≡ false) (command : Command) (d : Document) where
    pub lacked : (fault : Fault) → lacks fault → LooksUp lacks no_room command d (Refused fault)
    lacked fault lack = inl (fault, lack, refl, room)

    by_document : (o : Option Fault) → first_refusal (look_up_conditions command d) ≡ o → first_refusal ((CacheFull, no_room) ∷ look_up_conditions command d) ≡ o
    by_document o is = passed CacheFull no_room (look_up_conditions command d) room ∙ is

    pub refused_with_room : (fault : Fault) → first_refusal (look_up_conditions command d) ≡ Some fault → LooksUp lacks no_room command d (Refused fault)
    refused_with_room fault first = look_up_refused command d fault (by_document (Some fault) first)

    pub answered_with_room : (reply : Reply) → first_refusal (look_up_conditions command d) ≡ None → look_up command d ≡ Some reply → LooksUp lacks no_room command d reply
    answered_with_room reply first does = inr (ap (λ (o : Option Fault). option_map_or (λ x. Some (Refused x)) o (look_up command d)) (by_document None first) ∙ does)

    -- what vm_chains answers of a chain
    pub chain_answered : {T : Type 0} (f : T → Reply) (P : T → Type 0) (r : Result T Fault) → ((x : T) → P x → look_up command d ≡ Some (f x))
        → AnswersChain lacks (look_up_conditions command d) P r → LooksUp lacks no_room command d (reply_by f r)
    chain_answered f P (Ok x) does answers = answered_with_room (f x) answers.0 (does x answers.1)
    chain_answered f P (Err fault) does (inl lack) = lacked fault lack
    chain_answered f P (Err fault) does (inr first) = refused_with_room fault first

-- what a reply is refused for, as its result is
refused_reply : {T : Type 0} (f : T → Reply) (P : Fault → Type 0) → ((x : T) (fault : Fault) → f x ≡ Refused fault → ⊥)
    → (r : Result T Fault) → IfErr r P → (fault : Fault) → reply_by f r ≡ Refused fault → P fault
refused_reply f P never (Ok x) why fault is = absurd (never x fault is)
refused_reply f P never (Err e) why fault is = let same : e ≡ fault = cc is in subst P same why

-- A look-up along chains or of a large array,
module _ {S T : Type 0} (facts : S → StoreFacts) (command : Command) (f : T → Reply) (never : (x : T) (fault : Fault) → f x ≡ Refused fault → ⊥) (r : Result T Fault) (a : CacheState S) where
  -- that is refused before any block is looked into,
  pub refused_along : (fault : Fault) → IsErrAnd r (λ e. e ≡ fault) → first_refusal ((CacheFull, is_full a) ∷ look_up_conditions command a.document) ≡ Some fault
      → IsRefusedEarly (IsRootFaultOf command a.document) (is_full a) fault → AnswersChainFromBlocks facts a a command (reply_by f r)
  refused_along fault is first early =
      let lacks = IsEnvironmentFault facts a.disk.store a.disk.store in
      let root = IsRootFaultOf command a.document in
      record {
        keeps = keeps-refl facts a;
        value = λ steady. refused_as lacks (is_full a) command a.document f r fault is (look_up_refused lacks (is_full a) command a.document fault first);
        shut = λ full. (refl, answered_so r is (ap (λ (b : Bool). first_refusal ((CacheFull, b) ∷ look_up_conditions command a.document)) (sym full) ∙ first));
        refusals = refused_reply f (IsChainRefusal lacks root (is_full a)) never r (carried_so r (IsChainRefusal lacks root (is_full a)) fault is (early_of_chain lacks root (is_full a) fault early));
      }
    where
      answered_so : (r : Result T Fault) → IsErrAnd r (λ e. e ≡ fault) → first_refusal ((CacheFull, true) ∷ look_up_conditions command a.document) ≡ Some fault → answer_of true command a.document ≡ Some (reply_by f r)
      answered_so (Ok x) is first = absurd is
      answered_so (Err e) is first = ap (λ (o : Option Fault). option_map_or (λ x. Some (Refused x)) o (look_up command a.document)) first ∙ ap (λ (x : Fault). Some (Refused x)) (sym is)

  -- or goes along them.
  pub seen_along : (b : CacheState S) (P : T → Type 0) → is_full a ≡ false → KeepsBlocks facts a b → ((x : T) → P x → look_up command b.document ≡ Some (f x))
      → (IsHonest facts a.disk.store → AnswersChain (IsEnvironmentFault facts a.disk.store b.disk.store) (look_up_conditions command b.document) P r)
      → IfErr r (IsWalkRefusal (IsEnvironmentFault facts a.disk.store b.disk.store) (IsRootFaultOf command a.document)) → AnswersChainFromBlocks facts a b command (reply_by f r)
  seen_along b P room keeps does answers refusals =
      let lacks = IsEnvironmentFault facts a.disk.store b.disk.store in
      record {
        keeps = keeps;
        value = λ steady. chain_answered lacks (is_full a) room command b.document f P r does (answers steady);
        shut = λ full. absurd (true≢false (sym full ∙ room));
        refusals = λ fault is. inl (refused_reply f (IsWalkRefusal lacks (IsRootFaultOf command a.document)) never r refusals fault is);
      }

-- the refusals of a look-up into a chunk are those for the chunk, and later ones
abbrev FirstOfLookUp : Command → Document → VmHandle × ChunkHandle → Type 0
FirstOfLookUp command d p = (rest : Conditions) × AreLate rest × (look_up_conditions command d ≡ on_chunk d p.0.0 p.1.0 ++ rest)

look_up_cases : (command : Command) (d : Document) → MatchOption (chunk_asked command) (Unit {0}) (FirstOfLookUp command d)
look_up_cases commands.Blank d = tt
look_up_cases (commands.Edit e) d = tt
look_up_cases commands.Undo d = tt
look_up_cases commands.Redo d = tt
look_up_cases commands.Begin d = tt
look_up_cases commands.End d = tt
look_up_cases commands.Abandon d = tt
look_up_cases commands.Join d = tt
look_up_cases (commands.Forget most) d = tt
look_up_cases (commands.Name name) d = tt
look_up_cases commands.Update d = tt
look_up_cases commands.Save d = tt
look_up_cases commands.Revert d = tt
look_up_cases commands.SaveAs d = tt
look_up_cases (commands.Info b) d = tt
look_up_cases (commands.HeapType b) d = tt
look_up_cases commands.List d = tt
look_up_cases (commands.Find uid start) d = tt
look_up_cases commands.MapBlock d = tt
look_up_cases (commands.ReadRaw b) d = tt
look_up_cases (commands.Chunks b) d = tt
look_up_cases (commands.Walk b) d = tt
look_up_cases (commands.ChainSize b) d = tt
look_up_cases (commands.ChainEqual b other) d = tt
look_up_cases (commands.LargeCount b) d = tt
look_up_cases (commands.LargeElement b i) d = tt
look_up_cases (commands.LargeRun b i n) d = tt
look_up_cases (commands.Lock b) d = tt
look_up_cases (commands.Unlock b) d = tt
look_up_cases (commands.Dirty b) d = tt
look_up_cases (commands.Locks b) d = tt
look_up_cases commands.Undos d = tt
look_up_cases commands.Redos d = tt
look_up_cases commands.Modified d = tt
look_up_cases commands.UndoName d = tt
look_up_cases commands.RedoName d = tt
look_up_cases commands.Touched d = tt
look_up_cases commands.UndoPlaces d = tt
look_up_cases commands.RedoPlaces d = tt
look_up_cases commands.AbandonPlaces d = tt
look_up_cases (commands.Read b c) d = (_, refl, refl)
look_up_cases (commands.ArrayCount b c) d = (_, refl, refl)
look_up_cases (commands.ArrayElement b c i) d = (_, refl, refl)
look_up_cases (commands.ElementReferences b c t) d = (_, refl, refl)
look_up_cases (commands.ElementBytes b c t) d = (_, refl, refl)
look_up_cases (commands.ElementsUsed b c) d = (_, refl, refl)
look_up_cases (commands.TokenOfUsed b c k) d = (_, refl, refl)
look_up_cases (commands.UsedOfToken b c t) d = (_, refl, refl)
look_up_cases (commands.NameFind b c text) d = (_, refl, refl)
look_up_cases (commands.NameReferences b c t) d = (_, refl, refl)
look_up_cases (commands.NameText b c t) d = (_, refl, refl)
look_up_cases (commands.NamePart b c t) d = (_, refl, refl)

-- where a chunk is there, its bytes alone refuse
past : (d : Document) (b : VmHandle) (c : ChunkHandle) (bytes : List ℕ) (own : List ℕ → Conditions) → IsChunkAt d b.0 c.0 bytes
    → first_refusal (on_chunk d b.0 c.0 ++ own (chunk_at d b.0 c.0)) ≡ first_refusal (own bytes)
past d b c bytes own found =
    past_chunk d b.0 c.0 (chunks_of d b.0) (own (chunk_at d b.0 c.0)) found.heap found.live
    ∙ ap (λ (x : List ℕ). first_refusal (own x)) (sym found.value)

-- where a name is found, its token is answered
token_answered : (token : Option ℕ) → is_none token ≡ false → option_map TokenIs token ≡ Some (TokenIs (unwrap_or token 0))
token_answered None found = absurd (cc found)
token_answered (Some token) found = refl

-- each looks first for its heap, and then for room for it
pub chunk_looks : (command : Command) (b : VmHandle) (c : ChunkHandle) → chunk_asked command ≡ Some (b, c) → LooksFor is_heap b.0 (look_up_conditions command)
chunk_looks command b c asked = looks_for_heap b.0 (look_up_conditions command) (λ d.
    let first = subst (λ (o : Option (VmHandle × ChunkHandle)). MatchOption o (Unit {0}) (FirstOfLookUp command d)) asked (look_up_cases command d) in
    ((NoChunk, not (contains_key (chunks_of d b.0) c.0)) ∷ first.0, first.1, first.2))

-- A block that isn't loaded refuses what is looked up of its body.
module _ {S : Type 0} (is_kind : Document → ℕ → Bool) (a e : CacheState S) (h : ℕ) (lacks : Fault → Type 0) (result : Result (Unit {0}) Fault)
    (early : (fault : Fault) → IsWrongBlock is_kind a.document h fault → (result ≡ Err fault) × (e ≡ a)) (shut : is_kind a.document h ≡ true → has_no_frame_for a h ≡ true → (result ≡ Err CacheFull) × (e ≡ a))
    (fault : Fault) (was : result ≡ Err fault) (why : lacks fault ⊎ (IsWrongBlock is_kind e.document h fault ⊎ IsCacheFull a h fault)) where
  pub load_refuses : (command : Command) → LooksFor is_kind h (look_up_conditions command) → LooksUp lacks (has_no_frame_for a h) command e.document (Refused fault)
  load_refuses command looks = refused_or_lacked lacks (has_no_frame_for a h) command e.document fault (refused_for is_kind a e h result early shut (look_up_conditions command) looks lacks fault was why)

module _ (lacks : Fault → Type 0) (no_room : Bool) (d : Document) (b : VmHandle) (c : ChunkHandle) where
  -- where the heap is there and the chunk isn't
  chunk_refuses : no_room ≡ false → (fault : Fault) → ((rest : Conditions) → AreLate rest → first_refusal (on_chunk d b.0 c.0 ++ rest) ≡ Some fault) → RefusesChunk lacks no_room d b c fault
  chunk_refuses room fault refuses = λ command asked.
      let first = subst (λ (o : Option (VmHandle × ChunkHandle)). MatchOption o (Unit {0}) (FirstOfLookUp command d)) asked (look_up_cases command d) in
      refused_with_room lacks no_room room command d fault (ap first_refusal first.2 ∙ refuses first.0 first.1)

  module _ {X : Type 0} (now : X → List ℕ) (r : Result X Fault) where
    abbrev IsFound : X → Type 0
    IsFound x = (no_room ≡ false) × IsChunkAt d b.0 c.0 (now x)

    -- a chunk, or why there is none
    pub chunk_or_refusal : no_room ≡ false → MatchResult r (λ x. IsChunkAt d b.0 c.0 (now x)) (λ fault. (rest : Conditions) → AreLate rest → first_refusal (on_chunk d b.0 c.0 ++ rest) ≡ Some fault)
        → MatchResult r IsFound (RefusesChunk lacks no_room d b c)
    chunk_or_refusal room found = MatchResult-weaker r found (λ x there. (room, there)) (λ fault refuses. chunk_refuses room fault refuses)

    module _ (found : MatchResult r IsFound (RefusesChunk lacks no_room d b c)) where
      found_at : (x : X) → r ≡ Ok x → IsFound x
      found_at x was = subst (λ (r : Result X Fault). MatchResult r IsFound (RefusesChunk lacks no_room d b c)) was found

      -- the bytes of a chunk are answered as they are
      pub bytes_answered : LooksUp lacks no_room (commands.Read b c) d (reply_by (λ x. BytesAre (now x)) r)
      bytes_answered = answered r found
        where
          answered : (r : Result X Fault) → MatchResult r IsFound (RefusesChunk lacks no_room d b c) → LooksUp lacks no_room (commands.Read b c) d (reply_by (λ x. BytesAre (now x)) r)
          answered (Ok x) there = answered_with_room lacks no_room there.0 (commands.Read b c) d (BytesAre (now x)) (past d b c (now x) (λ bytes. []) there.1) (ap (λ (y : List ℕ). Some (BytesAre y)) (sym there.1.value))
          answered (Err fault) refuses = refuses (commands.Read b c) refl

      module _ (x : X) (was : r ≡ Ok x) where
        -- the token of a name
        pub name_answered : (text slice : List ℕ) (s : Result Token Fault) → slice ≡ text
            → MatchResult s (λ token. IsAnswered (find_conditions (now x) slice) (unwrap_or (token_of_text (names_in (now x)) slice) 0) token.0) (IsRefused (find_conditions (now x) slice))
            → LooksUp lacks no_room (commands.NameFind b c text) d (reply_by (λ token. TokenIs token.0) s)
        name_answered text slice (Ok token) same answered =
            let there = found_at x was in
            subst (λ (name : List ℕ). LooksUp lacks no_room (commands.NameFind b c name) d (TokenIs token.0)) same
            (answered_with_room lacks no_room there.0 (commands.NameFind b c slice) d (TokenIs token.0) (past d b c (now x) (λ y. find_conditions y slice) there.1 ∙ answered.accepted)
            (ap (λ (y : List ℕ). option_map TokenIs (token_of_text (names_in y) slice)) (sym there.1.value)
            ∙ token_answered (token_of_text (names_in (now x)) slice) (or_none (none_applies (find_conditions (now x) slice) answered.accepted NoName refl)).0
            ∙ ap (λ (n : ℕ). Some (TokenIs n)) (sym answered.same)))
        name_answered text slice (Err fault) same refused =
            let there = found_at x was in
            subst (λ (name : List ℕ). LooksUp lacks no_room (commands.NameFind b c name) d (Refused fault)) same
            (refused_with_room lacks no_room there.0 (commands.NameFind b c slice) d fault (past d b c (now x) (λ y. find_conditions y slice) there.1 ∙ refused))

-- a chunk that isn't found refuses each look-up into it first of all
pub first_of_chunk : {X : Type 0} (P : X → Type 0) (d : Document) (b : VmHandle) (c : ChunkHandle) (r : Result X Fault)
    → MatchResult r P (λ fault. (rest : Conditions) → AreLate rest → first_refusal (on_chunk d b.0 c.0 ++ rest) ≡ Some fault)
    → (command : Command) → chunk_asked command ≡ Some (b, c) → IfErr r (λ fault. first_refusal (look_up_conditions command d) ≡ Some fault)
first_of_chunk P d b c (Ok x) found command asked = tt
first_of_chunk P d b c (Err fault) refuses command asked =
    let first = subst (λ (o : Option (VmHandle × ChunkHandle)). MatchOption o (Unit {0}) (FirstOfLookUp command d)) asked (look_up_cases command d) in
    ap first_refusal first.2 ∙ refuses first.0 first.1

-- What the bytes of a chunk answer by themselves.
module _ (lacks : Fault → Type 0) (no_room : Bool) (room : no_room ≡ false) (d : Document) (b : VmHandle) (c : ChunkHandle) (bytes : List ℕ) (there : IsChunkAt d b.0 c.0 bytes) (command : Command) where
  pub own_answered : {V T : Type 0} (own : List ℕ → Conditions) (value : List ℕ → V) (g : V → Reply) (s : Result T Fault) (v : T → V)
      → look_up_conditions command d ≡ on_chunk d b.0 c.0 ++ own (chunk_at d b.0 c.0) → look_up command d ≡ Some (g (value (chunk_at d b.0 c.0)))
      → MatchResult s (λ x. IsAnswered (own bytes) (value bytes) (v x)) (IsRefused (own bytes)) → LooksUp lacks no_room command d (reply_by (λ x. g (v x)) s)
  own_answered own value g (Ok x) v conditions does answered =
      answered_with_room lacks no_room room command d (g (v x)) (ap first_refusal conditions ∙ past d b c bytes own there ∙ answered.accepted)
      (does ∙ ap (λ y. Some (g (value y))) (sym there.value) ∙ ap (λ y. Some (g y)) (sym answered.same))
  own_answered own value g (Err fault) v conditions does refused = refused_with_room lacks no_room room command d fault (ap first_refusal conditions ∙ past d b c bytes own there ∙ refused)

-- Where nothing has to be read.
module _ {S : Type 0} (facts : S → StoreFacts) (a e : CacheState S) (keeps : KeepsBlocks facts a e) (command : Command) where
  abbrev IsUnchanged : Type 0
  IsUnchanged = (e.disk ≡ a.disk) × (e.document ≡ a.document)

  -- what is refused first is answered
  pub refusal_seen : {T : Type 0} (f : T → Reply) (r : Result T Fault) (fault : Fault) → IsErrAnd r (λ x. x ≡ fault)
      → LooksUp (IsEnvironmentFault facts a.disk.store e.disk.store) (lacks_frames a (look_up_needs command)) command e.document (Refused fault)
      → (ReadsNothing a (look_up_needs command) (look_up_conditions command a.document) → (e.disk ≡ a.disk) × (e.document ≡ a.document) × (first_refusal (look_up_conditions command a.document) ≡ Some fault))
      → AnswersFromBlocks facts a e command (reply_by f r)
  refusal_seen f r fault is value unchanged = record {
    keeps = keeps;
    value = refused_as (IsEnvironmentFault facts a.disk.store e.disk.store) (lacks_frames a (look_up_needs command)) command e.document f r fault is value;
    already = λ nothing.
        let rest = unchanged nothing in
        (rest.0, rest.1, refused_as (λ x. (x ≡ Memory) × (makes_list command ≡ true)) false command a.document f r fault is (refused_with_room (λ x. (x ≡ Memory) × (makes_list command ≡ true)) false refl command a.document fault rest.2));
  }

  -- and so is what is there, whatever may be lacking
  pub answer_seen : (reply : Reply) → lacks_frames a (look_up_needs command) ≡ false
      → ((lacks : Fault → Type 0) (no_room : Bool) → no_room ≡ false → LooksUp lacks no_room command e.document reply)
      → (ReadsNothing a (look_up_needs command) (look_up_conditions command a.document) → IsUnchanged)
      → AnswersFromBlocks facts a e command reply
  answer_seen reply room answers unchanged = record {
    keeps = keeps;
    value = answers (IsEnvironmentFault facts a.disk.store e.disk.store) (lacks_frames a (look_up_needs command)) room;
    already = λ nothing.
        let rest = unchanged nothing in
        (rest.0, rest.1, subst (λ (d : Document). LooksUpInMemory command d reply) rest.1 (answers (λ x. (x ≡ Memory) × (makes_list command ≡ true)) false refl));
  }

-- Of a look-up into a block, with what came of bringing that into memory.
module _ {S : Type 0} (facts : S → StoreFacts) (is_kind : Document → ℕ → Bool) (a e : CacheState S) (h : ℕ) (result : Result (Unit {0}) Fault) (keeps : KeepsBlocks facts a e)
    (early : (fault : Fault) → IsWrongBlock is_kind a.document h fault → (result ≡ Err fault) × (e ≡ a)) (shut : is_kind a.document h ≡ true → has_no_frame_for a h ≡ true → (result ≡ Err CacheFull) × (e ≡ a))
    (here : is_loaded a h ≡ true → is_kind a.document h ≡ true → IsOk result × (e.disk ≡ a.disk) × (e.document ≡ a.document))
    (command : Command) (looks : LooksFor is_kind h (look_up_conditions command)) (needs : look_up_needs command ≡ OneBody h) where
  pub load_rests : ReadsNothing a (look_up_needs command) (look_up_conditions command a.document) → (e.disk ≡ a.disk) × (e.document ≡ a.document) × IfErr result (λ fault. first_refusal (look_up_conditions command a.document) ≡ Some fault)
  load_rests nothing = unchanged is_kind a e h result early shut (look_up_conditions command) looks here (subst (λ (n : Needs). ReadsNothing a n (look_up_conditions command a.document)) needs nothing)

  pub load_missed : {T : Type 0} (f : T → Reply) (r : Result T Fault) (fault : Fault) → result ≡ Err fault → IsErrAnd r (λ x. x ≡ fault)
      → IsEnvironmentFault facts a.disk.store e.disk.store fault ⊎ (IsWrongBlock is_kind e.document h fault ⊎ IsCacheFull a h fault) → AnswersFromBlocks facts a e command (reply_by f r)
  load_missed f r fault was is why =
      refusal_seen facts a e keeps command f r fault is
      (subst (λ (n : Needs). LooksUp (IsEnvironmentFault facts a.disk.store e.disk.store) (lacks_frames a n) command e.document (Refused fault)) (sym needs) (load_refuses is_kind a e h (IsEnvironmentFault facts a.disk.store e.disk.store) result early shut fault was why command looks))
      (λ nothing. let rest = load_rests nothing in (rest.0, rest.1, subst (λ (x : Result (Unit {0}) Fault). IfErr x (λ y. first_refusal (look_up_conditions command a.document) ≡ Some y)) was rest.2))

  pub load_room : (u : Unit {0}) → result ≡ Ok u → lacks_frames a (look_up_needs command) ≡ false
  load_room u was = ap (lacks_frames a) needs ∙ room_at is_kind a e h result early shut (look_up_conditions command) looks u was

  pub load_seen : (u : Unit {0}) → result ≡ Ok u → (reply : Reply) → ((lacks : Fault → Type 0) (no_room : Bool) → no_room ≡ false → LooksUp lacks no_room command e.document reply) → AnswersFromBlocks facts a e command reply
  load_seen u was reply answers = answer_seen facts a e keeps command reply (load_room u was) answers (λ nothing. let rest = load_rests nothing in (rest.0, rest.1))

-- Of a look-up into a chunk, with what was found of that.
module _ {S X : Type 0} (facts : S → StoreFacts) (a e : CacheState S) (b : VmHandle) (c : ChunkHandle) (now : X → List ℕ) (r : Result X Fault) (keeps : KeepsBlocks facts a e)
    (found : MatchResult r (λ x. (has_no_frame_for a b.0 ≡ false) × IsChunkAt e.document b.0 c.0 (now x)) (RefusesChunk (IsEnvironmentFault facts a.disk.store e.disk.store) (has_no_frame_for a b.0) e.document b c))
    (in_memory : FindsInMemory a e b c r) (command : Command) (needs : look_up_needs command ≡ OneBody b.0) (asked : chunk_asked command ≡ Some (b, c)) where
  near : ReadsNothing a (look_up_needs command) (look_up_conditions command a.document) → (e.disk ≡ a.disk) × (e.document ≡ a.document) × IfErr r (λ fault. first_refusal (look_up_conditions command a.document) ≡ Some fault)
  near nothing = in_memory command asked (subst (λ (n : Needs). ReadsNothing a n (look_up_conditions command a.document)) needs nothing)

  pub chunk_missed : {T : Type 0} (f : T → Reply) (s : Result T Fault) (fault : Fault) → r ≡ Err fault → IsErrAnd s (λ x. x ≡ fault) → AnswersFromBlocks facts a e command (reply_by f s)
  chunk_missed f s fault was is =
      let refuses : RefusesChunk (IsEnvironmentFault facts a.disk.store e.disk.store) (has_no_frame_for a b.0) e.document b c fault =
      subst (λ (x : Result X Fault). MatchResult x (λ y. (has_no_frame_for a b.0 ≡ false) × IsChunkAt e.document b.0 c.0 (now y)) (RefusesChunk (IsEnvironmentFault facts a.disk.store e.disk.store) (has_no_frame_for a b.0) e.document b c)) was found in
      refusal_seen facts a e keeps command f s fault is
      (subst (λ (n : Needs). LooksUp (IsEnvironmentFault facts a.disk.store e.disk.store) (lacks_frames a n) command e.document (Refused fault)) (sym needs) (refuses command asked))
      (λ nothing. let rest = near nothing in (rest.0, rest.1, subst (λ (x : Result X Fault). IfErr x (λ y. first_refusal (look_up_conditions command a.document) ≡ Some y)) was rest.2))

  module _ (x : X) (was : r ≡ Ok x) where
    is_there : (has_no_frame_for a b.0 ≡ false) × IsChunkAt e.document b.0 c.0 (now x)
    is_there = subst (λ (y : Result X Fault). MatchResult y (λ z. (has_no_frame_for a b.0 ≡ false) × IsChunkAt e.document b.0 c.0 (now z)) (RefusesChunk (IsEnvironmentFault facts a.disk.store e.disk.store) (has_no_frame_for a b.0) e.document b c)) was found

    -- what its bytes answer is answered
    pub chunk_seen : (reply : Reply) → ((lacks : Fault → Type 0) (no_room : Bool) → no_room ≡ false → IsChunkAt e.document b.0 c.0 (now x) → LooksUp lacks no_room command e.document reply) → AnswersFromBlocks facts a e command reply
    chunk_seen reply answers =
        answer_seen facts a e keeps command reply (ap (lacks_frames a) needs ∙ is_there.0) (λ lacks no_room room. answers lacks no_room room is_there.1) (λ nothing. let rest = near nothing in (rest.0, rest.1))

-- what is answered where there is room
pub with_room : (lacks : Fault → Type 0) (no_room : Bool) → no_room ≡ false → (command : Command) (d : Document) (reply : Reply) → answer_of false command d ≡ Some reply → LooksUp lacks no_room command d reply
with_room lacks no_room room command d reply is = inr (subst (λ (b : Bool). answer_of b command d ≡ Some reply) (sym room) is)

-- and where nothing is lacking
pub sure : (command : Command) (d : Document) (reply : Reply) → LooksUp (λ (fault : Fault). ⊥) false command d reply → answer_of false command d ≡ Some reply
sure command d reply (inl lack) = absurd lack.1
sure command d reply (inr is) = is

-- What is shown is what was answered,
module _ {T : Type 0} (P : Reply → Type 0) (f : T → Reply) (s : Result T Fault) (looks : P (reply_by f s)) where
  pub shown_ok : (x : T) → s ≡ Ok x → (reply : Reply) → reply ≡ f x → P reply
  shown_ok x was reply is = subst P (ap (λ (r : Result T Fault). reply_by f r) was ∙ sym is) looks

  -- and why it was refused.
  pub shown_err : {S : Type 0} (e : CacheState S) (lists : Lists) (fault : Fault) → s ≡ Err fault → (r : Result Prepared Fault) → IsErrAnd r (λ x. x ≡ fault) → (reply : Reply) → ShowsOrRefuses r e lists reply → P reply
  shown_err e lists fault was (Ok p) is reply shows = absurd is
  shown_err e lists fault was (Err x) is reply shows = subst P (ap (λ (r : Result T Fault). reply_by f r) was ∙ ap Refused (sym is) ∙ sym shows) looks

-- an answer that is made a reply
pub mapped : {T : Type 0} (f : T → Reply) (made : T → GivenReply → Type 0) (r : Result T Fault) (m : Result GivenReply Fault)
    → MatchResult r (λ x. IsOkAnd m (made x)) (λ e. m ≡ Err e) → ((x : T) (y : GivenReply) → made x y → reply_of y ≡ f x) → reply_by reply_of m ≡ reply_by f r
mapped f made (Ok x) (Ok y) so same = same x y so
mapped f made (Ok x) (Err e) so same = absurd so
mapped f made (Err e) m so same = rw so refl

-- What the bytes of a chunk answer by themselves is the answer wherever they stand.
module _ (bytes : List ℕ) where
  pub own_reply : (asks : VmHandle → ChunkHandle → Command) {V T : Type 0} (own : List ℕ → Conditions) (value : List ℕ → V) (g : V → Reply) (v : T → V) (s : Result T Fault) (reply : Reply)
      → ((d : Document) (b : VmHandle) (c : ChunkHandle) → look_up_conditions (asks b c) d ≡ on_chunk d b.0 c.0 ++ own (chunk_at d b.0 c.0))
      → ((d : Document) (b : VmHandle) (c : ChunkHandle) → look_up (asks b c) d ≡ Some (g (value (chunk_at d b.0 c.0))))
      → MatchResult s (λ x. IsAnswered (own bytes) (value bytes) (v x)) (IsRefused (own bytes)) → reply ≡ reply_by (λ x. g (v x)) s → AnswersInChunk bytes asks reply
  own_reply asks own value g v s reply conditions does answered is = λ d b c there.
      sure (asks b c) d reply (subst (λ (r : Reply). LooksUp (λ (fault : Fault). ⊥) false (asks b c) d r) (sym is) (own_answered (λ (fault : Fault). ⊥) false refl d b c bytes there (asks b c) own value g s v (conditions d b c) (does d b c) answered))

  -- so is the token of a name
  pub find_reply : (name : List ℕ) (s : Result Token Fault) (reply : Reply)
      → MatchResult s (λ token. IsAnswered (find_conditions bytes name) (unwrap_or (token_of_text (names_in bytes) name) 0) token.0) (IsRefused (find_conditions bytes name))
      → reply ≡ reply_by (λ token. TokenIs token.0) s → AnswersInChunk bytes (λ b c. commands.NameFind b c name) reply
  find_reply name s reply answered is = λ d b c there.
      sure (commands.NameFind b c name) d reply (subst (λ (r : Reply). LooksUp (λ (fault : Fault). ⊥) false (commands.NameFind b c name) d r) (sym is) (name_answered (λ (fault : Fault). ⊥) false d b c (λ (_ : Unit {0}). bytes) (Ok tt) (refl, there) tt refl name name s refl answered))

-- and so are the bytes themselves
pub read_reply : (d : Document) (b : VmHandle) (c : ChunkHandle) {X : Type 0} (now : X → List ℕ) (r : Result X Fault) (reply : Reply)
    → MatchResult r (λ x. IsChunkAt d b.0 c.0 (now x)) (λ fault. (rest : Conditions) → AreLate rest → first_refusal (on_chunk d b.0 c.0 ++ rest) ≡ Some fault)
    → reply ≡ reply_by (λ x. BytesAre (now x)) r → answer_of false (commands.Read b c) d ≡ Some reply
read_reply d b c now r reply found is =
    sure (commands.Read b c) d reply (subst (λ (x : Reply). LooksUp (λ (fault : Fault). ⊥) false (commands.Read b c) d x) (sym is) (bytes_answered (λ (fault : Fault). ⊥) false d b c now r (chunk_or_refusal (λ (fault : Fault). ⊥) false d b c now r refl found)))

-- a look-up into an array looks into this chunk of the block
pub array_asks : (b : VmHandle) (c : ChunkHandle) (asked : ArrayLookUp) → (look_up_needs (array_look_up b c asked) ≡ OneBody b.0) × (chunk_asked (array_look_up b c asked) ≡ Some (b, c))
array_asks b c (array_look_ups.Chunk chunk_array_look_ups.Count) = (refl, refl)
array_asks b c (array_look_ups.Chunk (chunk_array_look_ups.Element i)) = (refl, refl)
array_asks b c (array_look_ups.Element (element_array_look_ups.References t)) = (refl, refl)
array_asks b c (array_look_ups.Element (element_array_look_ups.Bytes t)) = (refl, refl)
array_asks b c (array_look_ups.Element element_array_look_ups.Used) = (refl, refl)
array_asks b c (array_look_ups.Element (element_array_look_ups.TokenOfUsed k)) = (refl, refl)
array_asks b c (array_look_ups.Element (element_array_look_ups.UsedOfToken t)) = (refl, refl)
array_asks b c (array_look_ups.Name (name_array_look_ups.Find name)) = (refl, refl)
array_asks b c (array_look_ups.Name (name_array_look_ups.References t)) = (refl, refl)
array_asks b c (array_look_ups.Name (name_array_look_ups.Text t)) = (refl, refl)
array_asks b c (array_look_ups.Name (name_array_look_ups.Part t)) = (refl, refl)
