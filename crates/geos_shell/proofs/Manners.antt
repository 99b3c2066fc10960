-- Lines that are answered in a manner.
use Rattle.std.proofs.Common.{◌≡◌, ◌&&◌, ◌||◌, ℕ, min, List, [], ◌∷◌, ◌++◌, Bool, true, false, cond, length, drop, take, refl, sym, ap, ap₂, subst, ◌∙◌, arith, inl, inr, append-nil, append_assoc, Option, Some}
use Rattle.std.specs.Prelude.{filter, map}
use Rattle.std.specs.List.{list_any}
use Rattle.std.proofs.Math.Seq.{drop-append_seam, drop-length}
use Rattle.std.proofs.lemmas.Bool.{cases_lt}
use Rattle.std.proofs.lemmas.List.{length-map, map-append, take_all}
use Rattle.std.proofs.lemmas.List.Elements.{filter-append}
use Rattle.std.proofs.lemmas.List.Folds.{list_any-append}
use Rattle.std.proofs.lemmas.Grind.{flat_map-append}
use Rattle.geos_model.specs.Machine.{Call, Request, failed_calls}
use Rattle.geos_model.specs.Reply.{Reply, Accepted, Refused, BlockIs, ChunkIs, TokenIs, NumberIs, BytesAre, BlocksAre, ChunksAre, PlacesAre, RawIs, HeapIs, AreEqual}
use Rattle.geos_model.specs.Script.{command, gets_reply, output, reply_line, reply_text, requests}
use Rattle.geos_model.specs.declared.command.Command.TheVariants as commands
use Rattle.vm_store.specs.Facts.{StoreFacts}
use Rattle.geos_replies.specs.Holdings.{AnswersCalls, AnswersRequest, AreExact, Holding, failed_since_in}
use Rattle.geos_shell.specs.Manners.{begins_with_no, echoed, lead, longest_kept, plain, written_of}
use Rattle.geos_replies.specs.Holdings.{is_refusal}
use Rattle.geos_shell.specs.Progress.{IsAnsweredInRun, StandsFor}
use Rattle.geos_replies.specs.Replies.{Responds}
use Rattle.geos_shell.specs.Runs.{AnswersLines, AnswersOf, EndsBy, RefusesRequest, replies_of}
use Rattle.geos_shell.specs.declared.runner.RunFault.TheVariants as faults
use Rattle.geos_shell.specs.declared.runner.ScriptOptions.{ScriptOptions}
use Rattle.geos_shell.proofs.Composed.{AnswersCalls-append, AnswersCalls-one, serves_calls}
use Rattle.geos_shell.proofs.Lines.{StandsFor-command, longest_kept-is}

-- ---- what is written

-- lines that get as many replies as are there, and more lines
echoed-append : (xs ys : List (List ℕ)) (rs qs : List Reply) → length rs ≡ length (filter gets_reply (requests xs)) → echoed (xs ++ ys) (rs ++ qs) ≡ echoed xs rs ++ echoed ys qs
echoed-append [] ys [] qs e = refl
echoed-append [] ys (r ∷ rs) qs e = absurd (omega (arith, e))
echoed-append (x ∷ xs) ys rs qs e = go (gets_reply (command x)) rs e (λ rs e. echoed-append xs ys rs qs e)
  where
    first : List ℕ
    first = lead true x

    asked : List Request
    asked = filter gets_reply (requests xs)

    go : (asks : Bool) (rs : List Reply) → length rs ≡ length (cond asks (command x ∷ asked) asked)
        → ((rs : List Reply) → length rs ≡ length asked → echoed (xs ++ ys) (rs ++ qs) ≡ echoed xs rs ++ echoed ys qs)
        → first ++ output (take (cond asks 1 0) (rs ++ qs)) ++ echoed (xs ++ ys) (drop (cond asks 1 0) (rs ++ qs))
        ≡ (first ++ output (take (cond asks 1 0) rs) ++ echoed xs (drop (cond asks 1 0) rs)) ++ echoed ys qs
    go false rs e more = ap (λ l. (first ++ []) ++ l) (more rs e) ∙ sym (append_assoc (first ++ []) (echoed xs rs) (echoed ys qs))
    go true [] e more = absurd (omega (arith, e))
    go true (r ∷ rs) e more =
        let front = first ++ output (r ∷ []) in
        ap (λ l. front ++ l) (more rs (omega (arith, e))) ∙ sym (append_assoc front (echoed xs rs) (echoed ys qs))

written_of-append : (echoes : Bool) (xs ys : List (List ℕ)) (rs qs : List Reply) → length rs ≡ length (filter gets_reply (requests xs))
    → written_of echoes (xs ++ ys) (rs ++ qs) ≡ written_of echoes xs rs ++ written_of echoes ys qs
written_of-append false xs ys rs qs e = flat_map-append reply_line rs qs
written_of-append true xs ys rs qs e = echoed-append xs ys rs qs e

written_of-none : (echoes : Bool) → [] ≡ written_of echoes [] []
written_of-none false = refl
written_of-none true = refl

-- one line that gets no reply, and one that gets this
written_of-unasked : (echoes : Bool) (line : List ℕ) → gets_reply (command line) ≡ false → lead echoes line ≡ written_of echoes (line ∷ []) []
written_of-unasked false line none = refl
written_of-unasked true line none = rw none (sym (append-nil (lead true line ++ []) ∙ append-nil (lead true line)))

written_of-one : (echoes : Bool) (line : List ℕ) (reply : Reply) → gets_reply (command line) ≡ true → lead echoes line ++ reply_line reply ≡ written_of echoes (line ∷ []) (reply ∷ [])
written_of-one false line reply asks = sym (append-nil (reply_line reply))
written_of-one true line reply asks =
    rw asks (ap (λ l. lead true line ++ l) (sym (append-nil (reply_line reply))) ∙ sym (append-nil (lead true line ++ (reply_line reply ++ []))))

-- the front of a line was put behind what was there, and a line feed
pub lead_pushed : (echoes : Bool) (line old mid new : List ℕ) (count : ℕ) → echoes ≡ true → count ≡ min (length line) 140001 → mid ≡ old ++ take count line → new ≡ mid ++ 10 ∷ []
    → new ≡ old ++ lead echoes line
lead_pushed false line old mid new count so is front feed = cc so
lead_pushed true line old mid new count so is front feed =
    feed ∙ ap (λ l. l ++ 10 ∷ []) front ∙ append_assoc old (take count line) (10 ∷ []) ∙ ap (λ l. old ++ (l ++ 10 ∷ [])) same
  where
    same : take count line ≡ take longest_kept line
    same = elim (cases_lt longest_kept (length line)) [
      | inl long ↦ let all : count ≡ longest_kept = omega (arith, is, longest_kept-is, long) in ap (λ n. take n line) all
      | inr short ↦ take_all count line (omega (arith, is, longest_kept-is, short)) ∙ sym (take_all longest_kept line (omega (arith, short)))
    ]

-- ---- refusals

-- the line of a refusal is told from those of other replies
pub begins_with_no-refusal : (reply : Reply) → begins_with_no (reply_line reply) ≡ is_refusal reply
unfolding reply_text
begins_with_no-refusal Accepted = refl
begins_with_no-refusal (Refused fault) = refl
begins_with_no-refusal (BlockIs h) = refl
begins_with_no-refusal (ChunkIs h) = refl
begins_with_no-refusal (TokenIs t) = refl
begins_with_no-refusal (NumberIs n) = refl
begins_with_no-refusal (BytesAre bytes) = refl
begins_with_no-refusal (BlocksAre hs) = refl
begins_with_no-refusal (ChunksAre hs) = refl
begins_with_no-refusal (RawIs uid size) = refl
begins_with_no-refusal (HeapIs uid size) = refl
begins_with_no-refusal (PlacesAre ps) = refl
begins_with_no-refusal (AreEqual true) = refl
begins_with_no-refusal (AreEqual false) = refl

pub both_so : (a b : Bool) → (a && b) ≡ true → (a ≡ true) × (b ≡ true)
both_so true true is = (refl, refl)
both_so true false is = absurd (cc is)
both_so false b is = absurd (cc is)

pub none_so : (bails : Bool) → (bails && false) ≡ false
none_so true = refl
none_so false = refl

neither : (bails a b : Bool) → (bails && a) ≡ false → (bails && b) ≡ false → (bails && (a || b)) ≡ false
neither false a b p q = refl
neither true false b p q = q
neither true true b p q = p

or_false : (a : Bool) → (a || false) ≡ a
or_false true = refl
or_false false = refl

-- ---- lines

module _ {S : Type 0} (facts : S → StoreFacts) (manner : ScriptOptions) where
  -- lines whose calls are answered
  by_calls : (old new : Holding S) (asked : List (List ℕ)) (written : List ℕ) (calls : List Call) → map (λ c. c.request) calls ≡ filter gets_reply (requests asked) → AnswersCalls facts old calls new
      → written ≡ written_of manner.echoes asked (replies_of calls) → (manner.bails && list_any is_refusal (replies_of calls)) ≡ false → AnswersLines facts manner old asked written new
  by_calls old new asked written calls asks answers text goes_on =
      record { calls = calls; asks = asks; answers = answers; text = text; goes_on = goes_on; serves = serves_calls facts old new calls answers }

  -- none
  pub AnswersLines-none : (h : Holding S) → AnswersLines facts manner h [] [] h
  AnswersLines-none h = by_calls h h [] [] [] refl refl (written_of-none manner.echoes) (none_so manner.bails)

  -- one that gets no reply
  AnswersLines-unasked : (old new : Holding S) (line : List ℕ) → gets_reply (command line) ≡ false → new ≡ old → AnswersLines facts manner old (line ∷ []) (lead manner.echoes line) new
  AnswersLines-unasked old new line none same =
      let quiet : filter gets_reply (command line ∷ []) ≡ [] = rw none refl in
      by_calls old new (line ∷ []) (lead manner.echoes line) [] (sym quiet) same (written_of-unasked manner.echoes line none) (none_so manner.bails)

  -- one that is answered
  AnswersLines-one : (old new : Holding S) (line : List ℕ) (reply : Reply) → gets_reply (command line) ≡ true → AnswersRequest facts old (command line) reply new
      → (manner.bails && is_refusal reply) ≡ false → AnswersLines facts manner old (line ∷ []) (lead manner.echoes line ++ reply_line reply) new
  AnswersLines-one old new line reply asks answers goes_on =
      let one : filter gets_reply (command line ∷ []) ≡ command line ∷ [] = rw asks refl in
      by_calls old new (line ∷ []) (lead manner.echoes line ++ reply_line reply) (record { request = command line; reply = reply; failed = failed_since_in facts old new } ∷ []) (sym one) (AnswersCalls-one facts old new (command line) reply answers)
      (written_of-one manner.echoes line reply asks) (ap (λ b. manner.bails && b) (or_false (is_refusal reply)) ∙ goes_on)

  -- what was put behind the line is no refusal, where the run bails
  answered_by : (old new : Holding S) (line : List ℕ) (request : Request) → command line ≡ request → (before mid after : List ℕ) → mid ≡ before ++ lead manner.echoes line
      → Responds facts old request new mid after → (manner.bails && begins_with_no (drop (length mid) after)) ≡ false → IsAnsweredInRun facts manner old line new before after
  answered_by old new line (Some commands.Blank) is before mid after led r goes_on =
      (lead manner.echoes line, AnswersLines-unasked old new line (ap gets_reply is) r.0, r.1 ∙ led)
  answered_by old new line request is before mid after led r goes_on =
      let last = reply_line r.0 in
      let same : begins_with_no (drop (length mid) after) ≡ is_refusal r.0 =
      ap (λ l. begins_with_no (drop (length mid) l)) r.2 ∙ ap begins_with_no (drop-append_seam mid last) ∙ begins_with_no-refusal r.0 in
      let answers = subst (λ q. AnswersRequest facts old q r.0 new) (sym is) r.1 in (
        lead manner.echoes line ++ last,
        AnswersLines-one old new line r.0 (ap gets_reply is) answers (ap (λ b. manner.bails && b) (sym same) ∙ goes_on),
        r.2 ∙ ap (λ l. l ++ last) led ∙ append_assoc before (lead manner.echoes line) last,
      )

  refusal_is : (reply : Reply) → is_refusal reply ≡ true → (old new : Holding S) (line : List ℕ) → AnswersRequest facts old (command line) reply new
      → RefusesRequest facts manner old line (lead manner.echoes line ++ reply_line reply) new
  refusal_is (Refused fault) so old new line answers = record { fault = fault; answers = answers; text = refl }
  refusal_is reply so old new line answers = cc so

  -- it is one
  refused_by : (old new : Holding S) (line : List ℕ) (request : Request) → command line ≡ request → (before mid after : List ℕ) → mid ≡ before ++ lead manner.echoes line
      → Responds facts old request new mid after → begins_with_no (drop (length mid) after) ≡ true
      → (written : List ℕ) × RefusesRequest facts manner old line written new × (after ≡ before ++ written)
  refused_by old new line (Some commands.Blank) is before mid after led r so =
      let none : begins_with_no [] ≡ true = rw (r.1, drop-length mid) at so in
      cc none
  refused_by old new line request is before mid after led r so =
      let last = reply_line r.0 in
      let same : begins_with_no (drop (length mid) after) ≡ is_refusal r.0 =
      ap (λ l. begins_with_no (drop (length mid) l)) r.2 ∙ ap begins_with_no (drop-append_seam mid last) ∙ begins_with_no-refusal r.0 in
      let answers = subst (λ q. AnswersRequest facts old q r.0 new) (sym is) r.1 in (
        lead manner.echoes line ++ last,
        refusal_is r.0 (sym same ∙ so) old new line answers,
        r.2 ∙ ap (λ l. l ++ last) led ∙ append_assoc before (lead manner.echoes line) last,
      )

  -- a line was answered
  pub answered : (old new : Holding S) (line before after : List ℕ) → Responds facts old (command line) new (before ++ lead manner.echoes line) after
      → (manner.bails && begins_with_no (drop (length (before ++ lead manner.echoes line)) after)) ≡ false → IsAnsweredInRun facts manner old line new before after
  answered old new line before after r goes_on = answered_by old new line (command line) refl before _ after refl r goes_on

  -- by a refusal
  pub refused : (old new : Holding S) (line before after : List ℕ) → Responds facts old (command line) new (before ++ lead manner.echoes line) after
      → begins_with_no (drop (length (before ++ lead manner.echoes line)) after) ≡ true
      → (written : List ℕ) × RefusesRequest facts manner old line written new × (after ≡ before ++ written)
  refused old new line before after r so = refused_by old new line (command line) refl before _ after refl r so

-- lines get as many replies as they ask for
counted : (calls : List Call) (asked : List Request) → map (λ c. c.request) calls ≡ asked → length (map (λ c. c.reply) calls) ≡ length asked
counted calls asked e = length-map calls (λ (c : Call). c.reply) ∙ sym (length-map calls (λ (c : Call). c.request)) ∙ ap length e

-- more lines are answered
pub AnswersLines-append : {S : Type 0} {facts : S → StoreFacts} {manner : ScriptOptions} {old mid new : Holding S} {xs ys : List (List ℕ)} {ws vs : List ℕ}
    → AnswersLines facts manner old xs ws mid → AnswersLines facts manner mid ys vs new → AnswersLines facts manner old (xs ++ ys) (ws ++ vs) new
AnswersLines-append {S} {facts} {manner} {old} {mid} {new} {xs} {ys} {ws} {vs} p q =
    let first = replies_of p.calls in
    let second = replies_of q.calls in
    let all = map-append (λ (c : Call). c.reply) p.calls q.calls in
    let asks : map (λ (c : Call). c.request) (p.calls ++ q.calls) ≡ filter gets_reply (requests (xs ++ ys)) =
    map-append (λ (c : Call). c.request) p.calls q.calls ∙ ap₂ (λ (a b : List Request). a ++ b) p.asks q.asks ∙ sym (filter-append gets_reply (requests xs) (requests ys))
    ∙ ap (filter gets_reply) (sym (map-append command xs ys)) in
    by_calls facts manner old new (xs ++ ys) (ws ++ vs) (p.calls ++ q.calls) asks (AnswersCalls-append facts old mid new p.calls q.calls p.answers q.answers)
    (ap₂ (λ (a b : List ℕ). a ++ b) p.text q.text ∙ sym (written_of-append manner.echoes xs ys first second (counted _ _ p.asks)) ∙ ap (written_of manner.echoes (xs ++ ys)) (sym all))
    (ap (λ l. manner.bails && list_any is_refusal l) all ∙ ap (λ b. manner.bails && b) (list_any-append is_refusal first second) ∙ neither manner.bails _ _ p.goes_on q.goes_on)

-- ---- what stands for a line

pub lead-StandsFor : (echoes : Bool) (begun kept : List ℕ) → StandsFor begun kept → lead echoes kept ≡ lead echoes begun
lead-StandsFor false begun kept h = refl
lead-StandsFor true begun kept h = ap (λ l. l ++ 10 ∷ []) h

written_of-StandsFor : (echoes : Bool) (begun kept : List ℕ) (rs : List Reply) → StandsFor begun kept → written_of echoes (kept ∷ []) rs ≡ written_of echoes (begun ∷ []) rs
written_of-StandsFor false begun kept rs h = refl
written_of-StandsFor true begun kept rs h =
    ap₂ (λ (front : List ℕ) (c : Request). (front ++ 10 ∷ []) ++ output (take (cond (gets_reply c) 1 0) rs) ++ []) h (StandsFor-command begun kept h)

module _ {S : Type 0} {facts : S → StoreFacts} {manner : ScriptOptions} {old new : Holding S} {begun kept written : List ℕ} (h : StandsFor begun kept) where
  pub AnswersLines-StandsFor : AnswersLines facts manner old (kept ∷ []) written new → AnswersLines facts manner old (begun ∷ []) written new
  AnswersLines-StandsFor a =
      record {
        calls = a.calls;
        asks = a.asks ∙ ap (λ (c : Request). filter gets_reply (c ∷ [])) (StandsFor-command begun kept h);
        answers = a.answers;
        text = a.text ∙ written_of-StandsFor manner.echoes begun kept (replies_of a.calls) h;
        goes_on = a.goes_on;
        serves = a.serves;
      }

  pub RefusesRequest-StandsFor : RefusesRequest facts manner old kept written new → RefusesRequest facts manner old begun written new
  RefusesRequest-StandsFor r =
      record {
        fault = r.fault;
        answers = subst (λ c. AnswersRequest facts old c (Refused r.fault) new) (StandsFor-command begun kept h) r.answers;
        text = r.text ∙ ap (λ l. l ++ reply_line (Refused r.fault)) (lead-StandsFor manner.echoes begun kept h);
      }

-- ---- the plain manner

-- a manner that neither bails nor echoes is that
pub manner_is : (manner : ScriptOptions) → manner.bails ≡ false → manner.echoes ≡ false → manner ≡ plain
manner_is manner bails echoes = λ i. record { bails = bails i; echoes = echoes i }

-- what is written is the replies
pub AnswersOf-plain : {S : Type 0} {facts : S → StoreFacts} {old new : Holding S} {asked : List (List ℕ)} {written : List ℕ} → AnswersLines facts plain old asked written new → AreExact facts old
    → AnswersOf facts old (requests asked) written new
AnswersOf-plain {S} {facts} {old} {new} {asked} {written} a exact =
    let served = a.serves exact in
    record {
      exact = served.exact;
      failed = failed_calls a.calls;
      answered = record { calls = a.calls; asks = a.asks; run = served.run; text = a.text; fails = refl };
      serving = served.serving;
      stores = served.stores;
    }

-- and no refusal ends the run
pub Refused-plain : {S : Type 0} {facts : S → StoreFacts} {old new : Holding S} {from to before after : Option (List ℕ)} {line : ℕ} → EndsBy (faults.Refused line) facts plain old from to before after new → ⊥
Refused-plain ended = let bails : false ≡ true = ended.stopped.0 in cc bails
