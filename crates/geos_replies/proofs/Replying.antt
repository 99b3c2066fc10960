-- A reply's line is what is written for its request.
use Rattle.std.proofs.Common.{◌≡◌, List, ℕ, ◌++◌, Bool, true, false, length, refl, sym, ap, subst, Option, Result, Ok, OnOk, OnErr, IfErr, IsTrue, Err, Some, inr, ◌∷◌, [], ◌∙◌, is_err, is_ok, rules, None}
use Rattle.std.specs.Prelude.{IsOkAnd, MatchOption, MatchResult}
use Rattle.std.proofs.lemmas.List.{append_assoc, take_at}
use Rattle.geos_model.specs.LookUps.{block_look_up, chain_look_up, command_of, is_look_up, places_look_up, plain_look_up, step_name_look_up}
use Rattle.geos_model.specs.Reply.{Accepted, Refused, Reply, reply_by, reply_of, reply_of_done}
use Rattle.geos_model.specs.declared.fault.Fault.{Fault}
use Rattle.geos_model.specs.declared.fault.Fault.TheVariants as faults
use Rattle.geos_model.specs.declared.reply.Reply.{Reply as GivenReply}
use Rattle.geos_model.specs.Machine.{Request, Step}
use Rattle.geos_model.specs.Script.{reply_line, reply_text}
use Rattle.geos_model.specs.declared.command.Command.{Command}
use Rattle.geos_model.specs.declared.command.Command.TheVariants as commands
use Rattle.geos_model.specs.declared.command.Done.{Done}
use Rattle.geos_model.specs.declared.command.Done.TheVariants as done
use Rattle.geos_model.specs.declared.handle.VmHandle.{VmHandle}
use Rattle.geos_model.specs.declared.look_up.ArrayLookUp.TheVariants as array_look_ups
use Rattle.geos_model.specs.declared.look_up.BlockLookUp.{BlockLookUp}
use Rattle.geos_model.specs.declared.look_up.BlockLookUp.TheVariants as block_look_ups
use Rattle.geos_model.specs.declared.look_up.ChainLookUp.TheVariants as chain_look_ups
use Rattle.geos_model.specs.declared.look_up.ChunkArrayLookUp.TheVariants as chunk_array_look_ups
use Rattle.geos_model.specs.declared.look_up.ChunkLookUp.TheVariants as chunk_look_ups
use Rattle.geos_model.specs.declared.look_up.ElementArrayLookUp.TheVariants as element_array_look_ups
use Rattle.geos_model.specs.declared.look_up.LookUp.{LookUp}
use Rattle.geos_model.specs.declared.look_up.LookUp.TheVariants as look_ups
use Rattle.geos_model.specs.declared.look_up.NameArrayLookUp.TheVariants as name_array_look_ups
use Rattle.vm_store.specs.Facts.{StoreFacts, FailedSince}
use Rattle.undo_log.specs.Sessions.{SessionState, AnswersAsked, AnswersAlongChain, AnswersWithoutBody, AnswersLookUp, IsStep, KeepsSession, failed_since, machine_of}
use Rattle.undo_log.proofs.Keeping.{kept_frames, kept_passes, keeps_refl}
use Rattle.geos_replies.specs.Holdings.{AnswersRequest, AreExact, CommitsNothing, Holding, IsTakenIfSure, KeepsHolding, LeavesFiles, LeavesInMemory, MayServe, ServesRequest, SameFiles, failed_since_in, holding, machine}
use Rattle.geos_replies.specs.Holdings.{is_refusal}
use Rattle.geos_replies.specs.Replies.{Extends, Replied, Responds, RepliesToLookUp, asks_no_body}
use Rattle.geos_replies.proofs.FileFaults.{IsFailure, failed_in, file_along, file_at_rest, file_seen}
use Rattle.geos_replies.proofs.Refusals.{keeps_all, keeps_with}
use Rattle.geos_replies.proofs.Serving.{serves_passing, step_any}

extends_by : (old more new : List ℕ) → new ≡ old ++ more → Extends old new
extends_by old more new e = rw e (take_at old more (length old) refl)

-- what an edit did is no refusal
pub done_is_other : (x : Done) → is_refusal (reply_of_done x) ≡ false
done_is_other done.Nothing = refl
done_is_other (done.Block b) = refl
done_is_other (done.Chunk c) = refl
done_is_other (done.Token t) = refl

module _ {S : Type 0} (facts : S → StoreFacts) where
  -- what a call of a session answers a command, where it is refused and where it isn't, and a call that puts its text
  pub replied : {A T E : Type 0} (put : Result T E) (f : A → Reply) (r : Result A Fault) (old new : Holding S) (c : Command) (before after : List ℕ)
      → ((x : A) → is_refusal (f x) ≡ false) → OnErr r (KeepsHolding facts old new) → IfErr r (λ fault. fault ≡ faults.File → IsTrue (failed_since_in facts old new))
      → new.session.frames ≡ old.session.frames → (AreExact facts old → ServesRequest facts old (Some c) (reply_by f r) new) → (is_ok r ≡ true → LeavesInMemory (Some c) new.session)
      → OnOk put (after ≡ before ++ reply_text (reply_by f r)) → Replied put facts old c new before after
  replied put f (Ok x) old new c before after other keeps file frames serves in_memory said =
      record {
        reply = f x;
        answers = record {
          keeps = λ refusal. absurd (cc (refusal, other x));
          file = λ is. let no : false ≡ true = sym (other x) ∙ ap is_refusal is in absurd (cc no);
          frames = frames;
          in_memory = λ accepted. in_memory refl;
          serves = serves;
        };
        text = said;
      }
  replied put f (Err fault) old new c before after other keeps file frames serves in_memory said =
      record {
        reply = Refused fault;
        answers = record {
          keeps = λ refusal. keeps;
          file = λ is. let same : fault ≡ faults.File = cc is in file same;
          frames = frames;
          in_memory = λ accepted. cc accepted;
          serves = serves;
        };
        text = said;
      }

  -- in which the target is left
  module _ (old new : SessionState S) (target former : Option S) where
    failures_in : {A : Type 0} (r : Result A Fault) → IfErr r (IsFailure facts old.disk.store new.disk.store)
        → IfErr r (λ fault. fault ≡ faults.File → IsTrue (failed_since_in facts (holding old target former) (holding new target former)))
    failures_in (Ok x) file = tt
    failures_in (Err fault) file = λ is. failed_in facts old new target former (file is)

    pub replied_left : {A T E : Type 0} (put : Result T E) (f : A → Reply) (r : Result A Fault) (c : Command) (before after : List ℕ)
        → ((x : A) → is_refusal (f x) ≡ false) → OnErr r (KeepsHolding facts (holding old target former) (holding new target former)) → IfErr r (IsFailure facts old.disk.store new.disk.store)
        → new.frames ≡ old.frames → (AreExact facts (holding old target former) → ServesRequest facts (holding old target former) (Some c) (reply_by f r) (holding new target former))
        → (is_ok r ≡ true → LeavesInMemory (Some c) new)
        → OnOk put (after ≡ before ++ reply_text (reply_by f r)) → Replied put facts (holding old target former) c (holding new target former) before after
    replied_left put f r c before after other keeps file frames serves in_memory said =
        replied put f r (holding old target former) (holding new target former) c before after other keeps (failures_in r file) frames serves in_memory said

    -- accepted, or refused
    pub replied_accepted : {T E : Type 0} (put : Result T E) (r : Result (Unit {0}) Fault) (c : Command) (before after : List ℕ)
        → OnErr r (KeepsHolding facts (holding old target former) (holding new target former)) → IfErr r (IsFailure facts old.disk.store new.disk.store) → new.frames ≡ old.frames
        → (AreExact facts (holding old target former) → ServesRequest facts (holding old target former) (Some c) (reply_by (λ _. Accepted) r) (holding new target former))
        → (is_ok r ≡ true → LeavesInMemory (Some c) new)
        → OnOk put (after ≡ before ++ reply_text (reply_by (λ _. Accepted) r)) → Replied put facts (holding old target former) c (holding new target former) before after
    replied_accepted put r c before after keeps file frames serves in_memory said =
        replied_left put (λ _. Accepted) r c before after (λ x. refl) keeps file frames serves in_memory said

  -- a look-up commits nothing
  leaves : (c : Command) (old new : Holding S) (reply : Reply) → is_look_up c ≡ true → (asks_no_body c ≡ true → SameFiles old new) → CommitsNothing facts old new → LeavesFiles facts old (Some c) reply new
  leaves commands.Update old new reply asks stays nothing = cc asks
  leaves commands.Save old new reply asks stays nothing = cc asks
  leaves commands.Revert old new reply asks stays nothing = cc asks
  leaves commands.SaveAs old new reply asks stays nothing = cc asks
  leaves commands.Begin old new reply asks stays nothing = cc asks
  leaves commands.End old new reply asks stays nothing = cc asks
  leaves commands.Join old new reply asks stays nothing = cc asks
  leaves (commands.Forget most) old new reply asks stays nothing = cc asks
  leaves (commands.Name name) old new reply asks stays nothing = cc asks
  leaves (commands.Unlock b) old new reply asks stays nothing = cc asks
  leaves (commands.Dirty b) old new reply asks stays nothing = cc asks
  leaves (commands.HeapType b) old new reply asks stays nothing = stays refl
  leaves commands.List old new reply asks stays nothing = stays refl
  leaves (commands.Find uid start) old new reply asks stays nothing = stays refl
  leaves commands.MapBlock old new reply asks stays nothing = stays refl
  leaves (commands.Locks b) old new reply asks stays nothing = stays refl
  leaves commands.Undos old new reply asks stays nothing = stays refl
  leaves commands.Redos old new reply asks stays nothing = stays refl
  leaves commands.Modified old new reply asks stays nothing = stays refl
  leaves commands.UndoName old new reply asks stays nothing = stays refl
  leaves commands.RedoName old new reply asks stays nothing = stays refl
  leaves commands.Touched old new reply asks stays nothing = stays refl
  leaves commands.UndoPlaces old new reply asks stays nothing = stays refl
  leaves commands.RedoPlaces old new reply asks stays nothing = stays refl
  leaves commands.AbandonPlaces old new reply asks stays nothing = stays refl
  leaves c old new reply asks stays nothing = nothing

  -- and is no undo, redo, abandon or forgetting, which alone are sure
  unsure : (c : Command) (old new : SessionState S) (reply : Reply) → is_look_up c ≡ true → IsTakenIfSure facts old (Some c) reply new
  unsure commands.Undo old new reply asks = cc asks
  unsure commands.Redo old new reply asks = cc asks
  unsure commands.Abandon old new reply asks = cc asks
  unsure (commands.Forget most) old new reply asks = cc asks
  unsure c old new reply asks = tt

  -- nor any other command of which it is said what is in memory afterwards
  untold : (c : Command) (s : SessionState S) → is_look_up c ≡ true → LeavesInMemory (Some c) s
  untold (commands.Edit e) s asks = cc asks
  untold commands.Undo s asks = cc asks
  untold commands.Redo s asks = cc asks
  untold (commands.Lock b) s asks = cc asks
  untold c s asks = tt

  -- what was told of a look-up
  pub replied_told : {T E : Type 0} (put : Result T E) (old new : SessionState S) (target former : Option S) (c : Command) (before after : List ℕ)
      → is_look_up c ≡ true → (asks_no_body c ≡ true → new ≡ old) → RepliesToLookUp put facts old c new before after
      → Replied put facts (holding old target former) c (holding new target former) before after
  replied_told put old new target former c before after asks same t =
      let first = holding old target former in
      let last = holding new target former in
      let stays : asks_no_body c ≡ true → SameFiles first last = λ none. record { disk = ap (λ (s : SessionState S). s.disk) (same none); target = refl; former = refl } in
      record {
        reply = t.reply;
        answers = record {
          keeps = λ refusal. keeps_with facts target former old new t.keeps;
          file = λ is. failed_in facts old new target former (t.file is);
          frames = kept_frames facts old new t.keeps;
          in_memory = λ accepted. untold c new asks;
          serves = serves_passing facts old new target former c t.reply (kept_passes facts old new t.keeps) t.step (leaves c first last t.reply asks stays) (unsure c old new t.reply asks);
        };
        text = t.text;
      }

module _ {S T E : Type 0} (facts : S → StoreFacts) (put : Result T E) (c : Command) (reply : Reply) (before after : List ℕ) where
  -- a look-up whose reply's text a call that may fail has put
  pub told : (old new : SessionState S) → IsStep facts old new c reply → KeepsSession facts old new → (reply ≡ Refused faults.File → FailedSince (facts old.disk.store) (facts new.disk.store))
      → OnOk put (after ≡ before ++ reply_text reply) → RepliesToLookUp put facts old c new before after
  told old new step keeps file said = record { reply = reply; step = step; keeps = keeps; file = file; text = said }

  -- one that calls no store
  pub told_at_rest : (s : SessionState S) → ((target : Bool) → Step false (machine_of target s) (Some c) reply (machine_of target s)) → OnOk put (after ≡ before ++ reply_text reply)
      → RepliesToLookUp put facts s c s before after
  told_at_rest s step said =
      record {
        reply = reply;
        step = λ exact. (exact, λ target. step_any (failed_since (facts s.disk.store) (facts s.disk.store)) _ _ (Some c) reply (step target));
        keeps = keeps_refl facts s;
        file = file_at_rest (machine_of false s) (machine_of false s) (Some c) reply (step false);
        text = said;
      }

  -- so of a look-up of no body
  told_resting : (old new : SessionState S) → AnswersWithoutBody old new c reply → OnOk put (after ≡ before ++ reply_text reply) → RepliesToLookUp put facts old c new before after
  told_resting old new answers said = subst (λ (s : SessionState S). RepliesToLookUp put facts old c s before after) (sym answers.1)
      (told_at_rest old (λ target. subst (λ (s : SessionState S). Step false (machine_of target old) (Some c) reply (machine_of target s)) answers.1 (answers.0 target)) said)

  -- what a look-up comes to is told
  told_seen : (old new : SessionState S) → AnswersLookUp facts old new c reply → OnOk put (after ≡ before ++ reply_text reply) → RepliesToLookUp put facts old c new before after
  told_seen old new looks said = told old new looks.step looks.keeps (file_seen facts old new c reply looks.sees) said

  told_along : (old new : SessionState S) → AnswersAlongChain facts old new c reply → OnOk put (after ≡ before ++ reply_text reply) → RepliesToLookUp put facts old c new before after
  told_along old new looks said = told old new looks.step looks.keeps (file_along facts old new c reply looks.sees) said

module _ {S T E : Type 0} (facts : S → StoreFacts) (put : Result T E) (old new : SessionState S) (reply : Reply) (before after : List ℕ) where
  pub told_answer : (look_up : LookUp) → AnswersAsked facts old new look_up reply → OnOk put (after ≡ before ++ reply_text reply) → RepliesToLookUp put facts old (command_of look_up) new before after
  told_answer look_ups.List answers said = told_resting facts put commands.List reply before after old new answers said
  told_answer (look_ups.Plain asked) answers said = told_resting facts put (plain_look_up asked) reply before after old new answers said
  told_answer (look_ups.StepName asked) answers said = told_resting facts put (step_name_look_up asked) reply before after old new answers said
  told_answer (look_ups.Places asked) answers said = told_resting facts put (places_look_up asked) reply before after old new answers said
  told_answer (look_ups.InBlock b asked) answers said = told_seen facts put (block_look_up b asked) reply before after old new answers said
  told_answer (look_ups.AlongChain asked) answers said = told_along facts put (chain_look_up asked) reply before after old new answers said

-- a look-up of a body asks of one
block_asked : (b : VmHandle) (asked : BlockLookUp) → asks_no_body (block_look_up b asked) ≡ false
block_asked b block_look_ups.Info = refl
block_asked b block_look_ups.ReadRaw = refl
block_asked b block_look_ups.Chunks = refl
block_asked b (block_look_ups.InChunk c chunk_look_ups.Read) = refl
block_asked b (block_look_ups.InChunk c (chunk_look_ups.Array (array_look_ups.Chunk chunk_array_look_ups.Count))) = refl
block_asked b (block_look_ups.InChunk c (chunk_look_ups.Array (array_look_ups.Chunk (chunk_array_look_ups.Element i)))) = refl
block_asked b (block_look_ups.InChunk c (chunk_look_ups.Array (array_look_ups.Element (element_array_look_ups.References t)))) = refl
block_asked b (block_look_ups.InChunk c (chunk_look_ups.Array (array_look_ups.Element (element_array_look_ups.Bytes t)))) = refl
block_asked b (block_look_ups.InChunk c (chunk_look_ups.Array (array_look_ups.Element element_array_look_ups.Used))) = refl
block_asked b (block_look_ups.InChunk c (chunk_look_ups.Array (array_look_ups.Element (element_array_look_ups.TokenOfUsed k)))) = refl
block_asked b (block_look_ups.InChunk c (chunk_look_ups.Array (array_look_ups.Element (element_array_look_ups.UsedOfToken t)))) = refl
block_asked b (block_look_ups.InChunk c (chunk_look_ups.Array (array_look_ups.Name (name_array_look_ups.Find name)))) = refl
block_asked b (block_look_ups.InChunk c (chunk_look_ups.Array (array_look_ups.Name (name_array_look_ups.References t)))) = refl
block_asked b (block_look_ups.InChunk c (chunk_look_ups.Array (array_look_ups.Name (name_array_look_ups.Text t)))) = refl
block_asked b (block_look_ups.InChunk c (chunk_look_ups.Array (array_look_ups.Name (name_array_look_ups.Part t)))) = refl

-- one of none leaves the session
pub answered_stays : {S : Type 0} (facts : S → StoreFacts) (old new : SessionState S) (reply : Reply) (look_up : LookUp) → AnswersAsked facts old new look_up reply → asks_no_body (command_of look_up) ≡ true → new ≡ old
answered_stays facts old new reply look_ups.List answers none = answers.1
answered_stays facts old new reply (look_ups.Plain asked) answers none = answers.1
answered_stays facts old new reply (look_ups.StepName asked) answers none = answers.1
answered_stays facts old new reply (look_ups.Places asked) answers none = answers.1
answered_stays facts old new reply (look_ups.InBlock b asked) answers none = let no : false ≡ true = sym (block_asked b asked) ∙ none in absurd (cc no)
answered_stays facts old new reply (look_ups.AlongChain (chain_look_ups.Walk b)) answers none = cc none
answered_stays facts old new reply (look_ups.AlongChain (chain_look_ups.Size b)) answers none = cc none
answered_stays facts old new reply (look_ups.AlongChain (chain_look_ups.Equal b other)) answers none = cc none
answered_stays facts old new reply (look_ups.AlongChain (chain_look_ups.LargeCount b)) answers none = cc none
answered_stays facts old new reply (look_ups.AlongChain (chain_look_ups.LargeElement b i)) answers none = cc none
answered_stays facts old new reply (look_ups.AlongChain (chain_look_ups.LargeRun b i n)) answers none = cc none

-- a command that is seen as a look-up
pub seen_as : (c : Command) (o : Option LookUp) → MatchOption o (is_look_up c ≡ false) (λ look_up. command_of look_up ≡ c) → (look_up : LookUp) → o ≡ Some look_up → command_of look_up ≡ c
seen_as c o seen look_up was = subst (λ (o : Option LookUp). MatchOption o (is_look_up c ≡ false) (λ look_up. command_of look_up ≡ c)) was seen

pub told_of : {S T E : Type 0} (facts : S → StoreFacts) (put : Result T E) (old new : SessionState S) (before after : List ℕ) (a b : Command) → a ≡ b → RepliesToLookUp put facts old a new before after → RepliesToLookUp put facts old b new before after
told_of facts put old new before after a b same told = subst (λ (c : Command). RepliesToLookUp put facts old c new before after) same told

-- the text of a look-up's reply, put behind what was there, leaves that
pub extends_told : {S T E : Type 0} (put : Result T E) (facts : S → StoreFacts) (old new : SessionState S) (c : Command) (before after : List ℕ)
    → RepliesToLookUp put facts old c new before after → OnOk put (Extends before after)
extends_told (Ok x) facts old new c before after t = extends_by before (reply_text t.reply) after t.text
extends_told (Err e) facts old new c before after t = tt

-- what a call of a session answers, made a reply
pub mapped : {T : Type 0} (f : T → Reply) (made : T → GivenReply → Type 0) (r : Result T Fault) (m : Result GivenReply Fault)
    → MatchResult r (λ x. IsOkAnd m (made x)) (λ e. m ≡ Err e) → ((x : T) (y : GivenReply) → made x y → reply_of y ≡ f x) → reply_by reply_of m ≡ reply_by f r
mapped f made (Ok x) (Ok y) so same = same x y so
mapped f made (Ok x) (Err e) so same = absurd so
mapped f made (Err e) m so same = rw so refl

module _ {S T E A : Type 0} (facts : S → StoreFacts) (put : Result T E) (c : Command) (f : A → Reply) (made : A → GivenReply → Type 0) (r : Result A Fault) (m : Result GivenReply Fault)
    (before after : List ℕ) (is : MatchResult r (λ x. IsOkAnd m (made x)) (λ e. m ≡ Err e)) (same : (x : A) (y : GivenReply) → made x y → reply_of y ≡ f x)
    (said : OnOk put (after ≡ before ++ reply_text (reply_by reply_of m))) where
  put_so : OnOk put (after ≡ before ++ reply_text (reply_by f r))
  put_so = subst (λ (x : Reply). OnOk put (after ≡ before ++ reply_text x)) (mapped f made r m is same) said

  -- what a call answers that is made a reply, and that put
  pub replied_mapped : (old new : SessionState S) (target former : Option S) → ((x : A) → is_refusal (f x) ≡ false) → OnErr r (KeepsHolding facts (holding old target former) (holding new target former))
      → IfErr r (IsFailure facts old.disk.store new.disk.store) → new.frames ≡ old.frames
      → (AreExact facts (holding old target former) → ServesRequest facts (holding old target former) (Some c) (reply_by f r) (holding new target former))
      → (is_ok r ≡ true → LeavesInMemory (Some c) new)
      → Replied put facts (holding old target former) c (holding new target former) before after
  replied_mapped old new target former other keeps file frames serves in_memory =
      replied_left facts old new target former put f r c before after other keeps file frames serves in_memory put_so

module _ {S : Type 0} (facts : S → StoreFacts) (old new : Holding S) where
  -- a command that gets a reply, whose reply line is put
  responds_some : (c : Command) (reply : Reply) (before after : List ℕ) → (c ≡ commands.Blank → ⊥) → AnswersRequest facts old (Some c) reply new → after ≡ before ++ reply_line reply
      → Responds facts old (Some c) new before after
  responds_some commands.Blank reply before after some answers said = absurd (some refl)
  responds_some c reply before after some answers said = (reply, answers, said)

  -- the text of a reply, and a line feed, are its line
  pub responds_by : {T E : Type 0} (put : Result T E) (c : Command) (request : Request) (before mid after : List ℕ) → (c ≡ commands.Blank → ⊥) → request ≡ Some c
      → is_err put ≡ false → after ≡ mid ++ 10 ∷ [] → Replied put facts old c new before mid → Responds facts old request new before after
  responds_by (Ok x) c request before mid after some is well feed told =
      let said : after ≡ before ++ reply_line told.reply = feed ∙ ap (λ l. l ++ 10 ∷ []) told.text ∙ append_assoc before (reply_text told.reply) (10 ∷ []) in
      rw is (responds_some c told.reply before after some told.answers said)
  responds_by (Err e) c request before mid after some is well feed told = cc well

  -- whether its text is put or not, it may be served
  pub may_serve_by : {T E : Type 0} (put : Result T E) (c : Command) (request : Request) (before after : List ℕ) → request ≡ Some c
      → Replied put facts old c new before after → MayServe facts old request new
  may_serve_by put c request before after is told = rw is (inr (told.reply, told.answers))

-- a line that is no command
pub responds_bad : {S : Type 0} (facts : S → StoreFacts) (old : Holding S) (before mid after : List ℕ) → mid ≡ before ++ reply_text (Refused faults.BadCommand)
    → after ≡ mid ++ 10 ∷ [] → Responds facts old None old before after
responds_bad facts old before mid after text feed =
    let step : Step (failed_since_in facts old old) (machine old) None (Refused faults.BadCommand) (machine old) = search rules in
    let serves : AreExact facts old → ServesRequest facts old None (Refused faults.BadCommand) old = λ exact.
    record { exact = exact; step = step; files = record { disk = refl; target = refl; former = refl }; sure = tt } in
    let answers : AnswersRequest facts old None (Refused faults.BadCommand) old = record { keeps = λ refusal. keeps_all facts old; file = λ is. cc is; frames = refl; in_memory = λ accepted. tt; serves = serves } in
    (Refused faults.BadCommand, answers, feed ∙ ap (λ l. l ++ 10 ∷ []) text ∙ append_assoc before (reply_text (Refused faults.BadCommand)) (10 ∷ []))
