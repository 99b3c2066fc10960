-- What a run has read and written.
use Rattle.std.proofs.Common.{◌⊎◌, inl, inr, ◌≡◌, ℕ, ◌<◌, List, [], ◌++◌, length, length-append, Option, Result, Ok, Err, IfErr, IfOk, OnOk, arith, drop, take, refl, sym, ap, subst, ◌∙◌}
use Rattle.std.proofs.lemmas.List.{append-nil, append_assoc, take-append-drop}
use Rattle.std.proofs.KnownBytes.{Appends-nil, Appends-trans, Consumes-nil, Consumes-trans, Consumes-kept}
use Rattle.std.specs.Io.KnownBytes.{Appends, Consumes, Keeps, IsAtEnd}
use Rattle.geos_model.specs.Reply.{Refused}
use Rattle.geos_model.specs.Script.{lines}
use Rattle.vm_store.specs.Facts.{StoreFacts}
use Rattle.undo_log.specs.Sessions.{IsExact}
use Rattle.geos_shell.specs.declared.answering.Answering.{Answering}
use Rattle.geos_replies.specs.Holdings.{AreExact, Holding}
use Rattle.geos_shell.specs.Progress.{AnswersPiece, AnswersRest, Ends, Moment, MovesTo, PieceFails, ProgressOf, StopsAtEnd, StopsIn, StopsPiece, StopsRest, Unsent, moment}
use Rattle.geos_shell.specs.RunFaults.{HasCause}
use Rattle.geos_shell.specs.Runs.{AnswersAll, AnswersFinished, AnswersSome, AnswersUnsent, EndsBy, RunsTo, StoppedWith, StopsBy}
use Rattle.geos_shell.specs.declared.runner.RunFault.{RunFault}
use Rattle.geos_shell.specs.declared.runner.RunFault.TheVariants as faults
use Rattle.geos_shell.specs.declared.runner.ScriptOptions.{ScriptOptions}
use Rattle.geos_shell.proofs.Steps.{Progress-none, Answered-finished, StopsBy-after}

-- the bytes that were read, what was written, and what they led to
pub record Ran {S : Type 0} (facts : S → StoreFacts) (manner : ScriptOptions) (start : Holding S) (from to before after : Option (List ℕ)) (now : Moment S) : Type 0 where
  pub read : List ℕ
  pub consumed : Consumes from to read
  pub written : List ℕ
  pub appended : Appends before after written
  pub progress : ProgressOf facts manner start read written now
  pub none_left : now.kept.replies.items ≡ []

-- nothing was read
pub Ran-none : {S : Type 0} (facts : S → StoreFacts) (manner : ScriptOptions) (reader writer : Option (List ℕ)) (h : Holding S) (kept : Answering)
    → kept.begun.items ≡ [] → kept.replies.items ≡ [] → kept.ended ≡ 0 → Ran facts manner h reader reader writer writer (moment h kept)
Ran-none facts manner reader writer h kept begun replies ended =
    record {
      read = [];
      consumed = Consumes-nil reader;
      written = [];
      appended = Appends-nil writer;
      progress = rw (begun, replies, ended) (Progress-none facts manner h);
      none_left = replies;
    }

module _ {S : Type 0} {facts : S → StoreFacts} {manner : ScriptOptions} {start : Holding S} {from mid before out : Option (List ℕ)} {now : Moment S} (ran : Ran facts manner start from mid before out now) where
  same_replies : ran.written ++ now.kept.replies.items ≡ ran.written
  same_replies = rw ran.none_left (append-nil ran.written)

  -- a read gave nothing
  pub Ran-kept : (to : Option (List ℕ)) → Keeps mid to → Ran facts manner start from to before out now
  Ran-kept to kept =
      record {
        read = ran.read;
        consumed = Consumes-kept from mid to ran.read ran.consumed kept;
        written = ran.written;
        appended = ran.appended;
        progress = ran.progress;
        none_left = ran.none_left;
      }

  -- a piece was read and answered
  pub Ran-piece : (to after : Option (List ℕ)) (bytes : List ℕ) (new : Moment S) → Consumes mid to bytes → AnswersPiece facts manner now bytes new out after
      → new.kept.replies.items ≡ [] → Ran facts manner start from to before after new
  Ran-piece to after bytes new consumed answers none =
      record {
        read = ran.read ++ bytes;
        consumed = Consumes-trans from mid to ran.read bytes ran.consumed consumed;
        written = ran.written ++ answers.written;
        appended = Appends-trans before out after ran.written answers.written ran.appended answers.appended;
        progress = answers.goes start ran.read ran.written ran.progress;
        none_left = none;
      }

  -- a read failed
  pub AnswersFinished-now : (to : Option (List ℕ)) → Keeps mid to → AnswersFinished facts manner start from to before out now.holding
  AnswersFinished-now to kept =
      record {
        read = ran.read;
        consumed = Consumes-kept from mid to ran.read ran.consumed kept;
        written = ran.written;
        answered = rw (same_replies) at (Answered-finished ran.progress);
        appended = ran.appended;
      }

  -- the run stops in a piece that was read
  pub AnswersSome-piece : (fault : RunFault) (to after : Option (List ℕ)) (bytes : List ℕ) (new : Holding S) → 0 < length bytes → Consumes mid to bytes → StopsPiece fault facts manner now bytes new out after
      → AnswersSome fault facts manner start from to before after new
  AnswersSome-piece fault to after bytes new some consumed stops =
      record {
        read = ran.read ++ bytes;
        some = omega (arith, length-append ran.read bytes);
        consumed = Consumes-trans from mid to ran.read bytes ran.consumed consumed;
        written = ran.written ++ stops.written;
        stopped = stops.stops start ran.read ran.written ran.progress;
        appended = Appends-trans before out after ran.written stops.written ran.appended stops.appended;
      }

  -- the run stops at the last line
  pub AnswersSome-rest : (fault : RunFault) (to after : Option (List ℕ)) (new : Holding S) → Consumes mid to [] → StopsRest fault facts manner now new out after → AnswersSome fault facts manner start from to before after new
  AnswersSome-rest fault to after new none stops =
      let (some, stopped) = stops.stops start ran.read ran.written ran.progress in
      record {
        read = ran.read;
        some = some;
        consumed = rw (append-nil) at (Consumes-trans from mid to ran.read [] ran.consumed none);
        written = ran.written ++ stops.written;
        stopped = stopped;
        appended = Appends-trans before out after ran.written stops.written ran.appended stops.appended;
      }

  -- the writer fails
  pub AnswersUnsent-behind : (to : Option (List ℕ)) (bytes : List ℕ) (new : Holding S) → Consumes mid to bytes → Unsent facts manner now bytes new → AnswersUnsent facts manner start from to new
  AnswersUnsent-behind to bytes new consumed unsent =
      let at = unsent start ran.read ran.written ran.progress in
      record { read = ran.read ++ bytes; consumed = Consumes-trans from mid to ran.read bytes ran.consumed consumed; replies = at.0; stopped = at.1 }

  -- the run ends with the script
  pub AnswersAll-end : (to after : Option (List ℕ)) (new : Holding S) → Consumes mid to [] → IsAtEnd to → AnswersRest facts manner now new out after → AnswersAll facts manner start from to before after new
  AnswersAll-end to after new none end rest =
      record {
        script = ran.read;
        consumed = rw (append-nil) at (Consumes-trans from mid to ran.read [] ran.consumed none);
        ended = end;
        written = ran.written ++ rest.written;
        answered = rest.answered start ran.read ran.written ran.progress;
        appended = Appends-trans before out after ran.written rest.written ran.appended rest.appended;
      }

-- how the run ends where the writer failed, or a piece or the last line stopped it
pub EndsBy-or : {S P Q : Type 0} (fault : RunFault) (facts : S → StoreFacts) (manner : ScriptOptions) (old : Holding S) (from to before after : Option (List ℕ)) (new : Holding S)
    → (P → AnswersUnsent facts manner old from to new) → (Q → AnswersSome fault facts manner old from to before after new)
    → ((fault ≡ faults.Write) × P) ⊎ Q → EndsBy fault facts manner old from to before after new
EndsBy-or fault facts manner old from to before after new unsent stopped (inl failed) = rw (failed.0) (unsent failed.1)
EndsBy-or faults.Memory facts manner old from to before after new unsent stopped (inr stops) = stopped stops
EndsBy-or (faults.Refused line) facts manner old from to before after new unsent stopped (inr stops) = stopped stops
EndsBy-or faults.Read facts manner old from to before after new unsent stopped (inr stops) = absurd (stopped stops).stopped
EndsBy-or faults.Write facts manner old from to before after new unsent stopped (inr stops) = absurd (stopped stops).stopped

module _ {S : Type 0} (facts : S → StoreFacts) (manner : ScriptOptions) where
  -- a run that stopped stopped in a line, or at the next one
  stopped_with : (fault : RunFault) (start : Holding S) (read written : List ℕ) (new : Holding S) → StopsBy fault facts manner start read written new
      → (replies : List ℕ) × StoppedWith facts manner start (lines read) replies new
  stopped_with faults.Memory start read written new stops = (written, stops.0)
  stopped_with (faults.Refused line) start read written new stops =
      let at = stops.1 in
      (at.before, record { answered = at.answered; others = _; parts = at.parts; mid = at.mid; run = at.run; next = inr (Refused at.refuses.fault, at.refuses.answers) })
  stopped_with faults.Read start read written new stops = absurd stops
  stopped_with faults.Write start read written new stops = absurd stops

  module _ (old new : Moment S) where
    -- what was done in bytes whose replies weren't sent, of which only the front may be answered
    pub Unsent-fed : (bytes : List ℕ) (fed : Result ℕ RunFault) → IfOk fed (λ used. MovesTo facts manner old (take used bytes) new) → IfErr fed (λ fault. StopsIn fault facts manner old bytes new)
        → Unsent facts manner old bytes new.holding
    Unsent-fed bytes (Ok used) goes stops start read sent p =
        let all : (read ++ take used bytes) ++ drop used bytes ≡ read ++ bytes = append_assoc read (take used bytes) (drop used bytes) ∙ ap (λ l. read ++ l) (take-append-drop used bytes) in (
          sent ++ new.kept.replies.items,
          subst (λ (r : List ℕ). StoppedWith facts manner start (lines r) (sent ++ new.kept.replies.items) new.holding) all (StopsBy-after (goes start read sent p) (drop used bytes)).0,
        )
    Unsent-fed bytes (Err fault) goes stops start read sent p = stopped_with fault start (read ++ bytes) _ new.holding (stops start read sent p)

    -- what was done at the end
    pub Unsent-end : {T : Type 0} (ended : Result T RunFault) → OnOk ended (Ends facts manner old new) → IfErr ended (λ fault. StopsAtEnd fault facts manner old new) → Unsent facts manner old [] new.holding
    Unsent-end (Ok x) ends stops start read sent p = (
      sent ++ new.kept.replies.items,
      record {
        answered = lines read;
        others = [];
        parts = ap lines (append-nil read) ∙ sym (append-nil (lines read));
        mid = new.holding;
        run = ends start read sent p;
        next = refl;
      },
    )
    Unsent-end (Err fault) ends stops start read sent p =
        subst (λ (r : List ℕ). (replies : List ℕ) × StoppedWith facts manner start (lines r) replies new.holding) (sym (append-nil read))
        (stopped_with fault start read _ new.holding (stops start read sent p).1)

    -- the front of bytes was answered, and the replies are sent
    pub piece_sent : (bytes : List ℕ) (left : Moment S) (before after : Option (List ℕ)) → left.holding ≡ new.holding → left.kept.begun ≡ new.kept.begun → left.kept.ended ≡ new.kept.ended → MovesTo facts manner old bytes new
        → left.kept.replies.items ≡ [] → Appends before after new.kept.replies.items → AnswersPiece facts manner old bytes left before after
    piece_sent bytes left before after held begun ended goes none appended =
        record {
          written = new.kept.replies.items;
          appended = appended;
          goes = λ start read sent p. rw (none, append-nil (sent ++ new.kept.replies.items), held, begun, ended) (goes start read sent p);
        }

  -- nothing was answered
  pub AnswersPiece-none : (old : Moment S) (out : Option (List ℕ)) → AnswersPiece facts manner old [] old out out
  AnswersPiece-none old out = record { written = []; appended = Appends-nil out; goes = λ start read sent p. rw (append-nil read, append-nil sent) p }

  module _ (old mid : Moment S) (xs ys : List ℕ) (before out after : Option (List ℕ)) (first : AnswersPiece facts manner old xs mid before out) where
    -- more was answered, and sent
    pub AnswersPiece-trans : (new : Moment S) → AnswersPiece facts manner mid ys new out after → AnswersPiece facts manner old (xs ++ ys) new before after
    AnswersPiece-trans new second =
        record {
          written = first.written ++ second.written;
          appended = Appends-trans before out after first.written second.written first.appended second.appended;
          goes = λ start read sent p. rw (← append_assoc read xs ys, ← append_assoc sent first.written second.written)
              (second.goes start (read ++ xs) (sent ++ first.written) (first.goes start read sent p));
        }

    -- the writer failed then, or the run stopped
    pub PieceFails-trans : (fault : RunFault) (new : Holding S) → PieceFails fault facts manner mid ys new out after → PieceFails fault facts manner old (xs ++ ys) new before after
    PieceFails-trans fault new (inl failed) =
        inl (failed.0, λ start read sent p. rw (← append_assoc read xs ys) (failed.1 start (read ++ xs) (sent ++ first.written) (first.goes start read sent p)))
    PieceFails-trans fault new (inr stops) =
        inr (record {
          written = first.written ++ stops.written;
          appended = Appends-trans before out after first.written stops.written first.appended stops.appended;
          stops = λ start read sent p. rw (← append_assoc read xs ys, ← append_assoc sent first.written stops.written)
              (stops.stops start (read ++ xs) (sent ++ first.written) (first.goes start read sent p));
        })

-- a fault has its cause still, where there are more
pub HasCause-more : {P Q P' Q' : Type 0} (fault : RunFault) → (P → P') → (Q → Q') → HasCause fault P Q → HasCause fault P' Q'
HasCause-more faults.Read f g h = f h
HasCause-more faults.Write f g h = g h
HasCause-more faults.Memory f g h = tt
HasCause-more (faults.Refused line) f g h = tt

-- the session of a run that ended well is exact
pub exact_after : {S : Type 0} (facts : S → StoreFacts) (manner : ScriptOptions) (old new : Holding S) (from to before after : Option (List ℕ)) (result : Result (Unit {0}) RunFault) → result ≡ Ok tt
    → RunsTo result facts manner old from to before after new → AreExact facts old → IsExact facts new.session
exact_after facts manner old new from to before after (Ok x) well runs exact = (runs.answered.serves exact).exact.0
exact_after facts manner old new from to before after (Err fault) well runs exact = cc well
