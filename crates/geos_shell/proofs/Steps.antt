-- Each step of a run keeps its progress.
use Rattle.std.proofs.Common.{◌≡◌, ℕ, ◌<◌, List, [], ◌∷◌, ◌++◌, ◌+◌, length, length-append, refl, sym, ap, subst, ◌∙◌, arith, inl}
use Rattle.std.proofs.lemmas.List.{append_assoc, append-nil}
use Rattle.geos_model.specs.Script.{lines, finished_lines, command}
use Rattle.vm_store.specs.Facts.{StoreFacts}
use Rattle.geos_replies.specs.Holdings.{Holding, MayServe}
use Rattle.geos_shell.specs.Runs.{AnswersLines, MayServeNext, RefusesRequest, StoppedByRefusal, StoppedWith, StopsBy}
use Rattle.geos_shell.specs.Progress.{HasNoFeed, StandsFor, Progress, MovesTo, Moment, StopsIn}
use Rattle.geos_shell.specs.declared.runner.RunFault.{RunFault}
use Rattle.geos_shell.specs.declared.runner.RunFault.TheVariants as faults
use Rattle.geos_shell.specs.declared.runner.ScriptOptions.{ScriptOptions}
use Rattle.geos_shell.proofs.Lines.{lines-at_feed, lines-one, lines-some, finished_lines-at_feed, finished_lines-none, HasNoFeed-append, StandsFor-command, StandsFor-none, StandsFor-some, StandsFor-trans}
use Rattle.geos_shell.proofs.Manners.{AnswersLines-StandsFor, AnswersLines-append, AnswersLines-none, RefusesRequest-StandsFor}

-- nothing was read
pub Progress-none : {S : Type 0} (facts : S → StoreFacts) (manner : ScriptOptions) (start : Holding S) → Progress facts manner start [] [] start [] 0
Progress-none facts manner start =
    record {
      answered = [];
      begun = [];
      in_lines = λ more. refl;
      in_finished = λ more. refl;
      unfinished = tt;
      stands = refl;
      run = AnswersLines-none facts manner start;
      counted = refl;
    }

-- a line that has begun is one of what was read
read_some : (read : List ℕ) (answered : List (List ℕ)) (begun : List ℕ) → 0 < length begun → lines (read ++ []) ≡ answered ++ lines (begun ++ []) → 0 < length read
read_some (x ∷ read) answered begun long e = omega arith
read_some [] answered begun long e =
    let counted : 0 ≡ length answered + length (lines (begun ++ [])) = ap length e ∙ length-append answered (lines (begun ++ [])) in
    let one = lines-some (begun ++ []) (omega (arith, length-append begun [])) in
    absurd (omega arith)

-- nothing more is served
none_next : {S : Type 0} (facts : S → StoreFacts) (h : Holding S) (others : List (List ℕ)) → MayServeNext facts h others h
none_next facts h [] = refl
none_next facts h (line ∷ others) = inl refl

module _ {S : Type 0} {facts : S → StoreFacts} {manner : ScriptOptions} {start now : Holding S} {read written kept : List ℕ} {count : ℕ} (p : Progress facts manner start read written now kept count) where
  -- bytes with no line feed
  pub Progress-part : (part new : List ℕ) → HasNoFeed part → StandsFor (kept ++ part) new → Progress facts manner start (read ++ part) written now new count
  Progress-part part new free h =
      record {
        answered = p.answered;
        begun = p.begun ++ part;
        in_lines = λ more. ap lines (append_assoc read part more) ∙ p.in_lines (part ++ more) ∙ ap (λ l. p.answered ++ lines l) (sym (append_assoc p.begun part more));
        in_finished = λ more. ap finished_lines (append_assoc read part more) ∙ p.in_finished (part ++ more) ∙ ap (λ l. p.answered ++ finished_lines l) (sym (append_assoc p.begun part more));
        unfinished = HasNoFeed-append p.begun part p.unfinished free;
        stands = StandsFor-trans p.begun kept part new p.stands h;
        run = p.run;
        counted = p.counted;
      }

  same_command : command kept ≡ command p.begun
  same_command = StandsFor-command p.begun kept p.stands

  -- the line that has begun ends
  lines_with_feed : (rest : List ℕ) → lines (read ++ 10 ∷ rest) ≡ p.answered ++ p.begun ∷ lines rest
  lines_with_feed rest = p.in_lines (10 ∷ rest) ∙ ap (λ l. p.answered ++ l) (lines-at_feed p.begun rest p.unfinished)

  finished_with_feed : (rest : List ℕ) → finished_lines (read ++ 10 ∷ rest) ≡ p.answered ++ p.begun ∷ finished_lines rest
  finished_with_feed rest = p.in_finished (10 ∷ rest) ∙ ap (λ l. p.answered ++ l) (finished_lines-at_feed p.begun rest p.unfinished)

  -- the line is answered
  with_line : {new : Holding S} {more : List ℕ} → AnswersLines facts manner now (kept ∷ []) more new → AnswersLines facts manner start (p.answered ++ p.begun ∷ []) (written ++ more) new
  with_line a = AnswersLines-append p.run (AnswersLines-StandsFor p.stands a)

  -- the end of a line
  pub Progress-feed : {new : Holding S} {more : List ℕ} → AnswersLines facts manner now (kept ∷ []) more new → Progress facts manner start (read ++ 10 ∷ []) (written ++ more) new [] (count + 1)
  Progress-feed a =
      let line = p.begun in
      record {
        answered = p.answered ++ line ∷ [];
        begun = [];
        in_lines = λ more. ap lines (append_assoc read (10 ∷ []) more) ∙ lines_with_feed more ∙ sym (append_assoc p.answered (line ∷ []) (lines more));
        in_finished = λ more. ap finished_lines (append_assoc read (10 ∷ []) more) ∙ finished_with_feed more ∙ sym (append_assoc p.answered (line ∷ []) (finished_lines more));
        unfinished = tt;
        stands = refl;
        run = with_line a;
        counted = omega (arith, p.counted, length-append p.answered (line ∷ []));
      }

  -- a run that stops, whatever else was read
  pub StopsBy-after : (more : List ℕ) → StopsBy faults.Memory facts manner start (read ++ more) written now
  StopsBy-after more = (
    record { answered = p.answered; others = lines (p.begun ++ more); parts = p.in_lines more; mid = now; run = p.run; next = none_next facts now (lines (p.begun ++ more)) },
    (finished_lines (p.begun ++ more), p.in_finished more),
  )

  -- behind all that was read
  pub StoppedWith-now : StoppedWith facts manner start (lines read) written now
  StoppedWith-now = subst (λ (r : List ℕ). StoppedWith facts manner start (lines r) written now) (append-nil read) (StopsBy-after []).0

  -- the line is refused
  with_refusal : {new : Holding S} {more : List ℕ} (all others : List (List ℕ)) → all ≡ p.answered ++ p.begun ∷ others → RefusesRequest facts manner now kept more new
      → StoppedByRefusal facts manner start all (count + 1) (written ++ more) new
  with_refusal {new} {more} all others parts r =
      record {
        answered = p.answered;
        line = p.begun;
        others = others;
        parts = parts;
        numbered = ap (λ n. n + 1) p.counted;
        mid = now;
        before = written;
        run = p.run;
        last = more;
        refuses = RefusesRequest-StandsFor p.stands r;
        text = refl;
      }

  -- a run that stops at a line that ends, for lack of memory or since it is refused
  pub StopsBy-feed : {new : Holding S} (rest : List ℕ) → MayServe facts now (command kept) new → StopsBy faults.Memory facts manner start (read ++ 10 ∷ rest) written new
  StopsBy-feed {new} rest may = (
    record { answered = p.answered; others = p.begun ∷ lines rest; parts = lines_with_feed rest; mid = now; run = p.run; next = rw (same_command) at may },
    (p.begun ∷ finished_lines rest, finished_with_feed rest),
  )

  pub Refused-feed : {new : Holding S} {more : List ℕ} (rest : List ℕ) → RefusesRequest facts manner now kept more new → StoppedByRefusal facts manner start (lines (read ++ 10 ∷ rest)) (count + 1) (written ++ more) new
  Refused-feed rest r = with_refusal (lines (read ++ 10 ∷ rest)) (lines rest) (lines_with_feed rest) r

  all_finished : finished_lines read ≡ p.answered
  all_finished =
      sym (ap finished_lines (append-nil read)) ∙ p.in_finished [] ∙ ap (λ l. p.answered ++ finished_lines l) (append-nil p.begun) ∙ ap (λ l. p.answered ++ l) (finished_lines-none p.begun p.unfinished) ∙ append-nil p.answered

  -- what has begun has no finished line
  pub Answered-finished : AnswersLines facts manner start (finished_lines read) written now
  Answered-finished = rw (all_finished) p.run

  begun_some : 0 < length kept → 0 < length p.begun
  begun_some some = StandsFor-some p.begun kept p.stands some

  -- where a line has begun something was read
  pub Progress-some : 0 < length kept → 0 < length read
  Progress-some some = read_some read p.answered p.begun (begun_some some) (p.in_lines [])

  -- what has begun is the last line
  with_last : 0 < length kept → lines read ≡ p.answered ++ p.begun ∷ []
  with_last some =
      sym (ap lines (append-nil read)) ∙ p.in_lines [] ∙ ap (λ l. p.answered ++ lines l) (append-nil p.begun) ∙ ap (λ l. p.answered ++ l) (lines-one p.begun (begun_some some) p.unfinished)

  -- the end of a script, behind a line feed
  pub Answered-all : length kept ≡ 0 → AnswersLines facts manner start (lines read) written now
  Answered-all e =
      let all : lines read ≡ p.answered = sym (ap lines (append-nil read)) ∙ p.in_lines [] ∙ ap (λ l. p.answered ++ lines (l ++ [])) (StandsFor-none p.begun kept p.stands e) ∙ append-nil p.answered in
      rw all p.run

  -- the end of a script within a line
  pub Answered-last : {new : Holding S} {more : List ℕ} → 0 < length kept → AnswersLines facts manner now (kept ∷ []) more new → AnswersLines facts manner start (lines read) (written ++ more) new
  Answered-last some a = rw (with_last some) (with_line a)

  -- a run that stops at that line
  pub StopsBy-last : {new : Holding S} → 0 < length kept → MayServe facts now (command kept) new → StopsBy faults.Memory facts manner start read written new
  StopsBy-last {new} some may = (
    record { answered = p.answered; others = p.begun ∷ []; parts = with_last some; mid = now; run = p.run; next = rw (same_command) at may },
    ([], all_finished ∙ sym (append-nil p.answered)),
  )

  pub Refused-last : {new : Holding S} {more : List ℕ} → 0 < length kept → RefusesRequest facts manner now kept more new → StoppedByRefusal facts manner start (lines read) (count + 1) (written ++ more) new
  Refused-last some r = with_refusal (lines read) [] (with_last some) r

module _ {S : Type 0} (facts : S → StoreFacts) (manner : ScriptOptions) where
  -- two steps make one
  pub MovesTo-trans : (old mid new : Moment S) (xs ys : List ℕ) → MovesTo facts manner old xs mid → MovesTo facts manner mid ys new → MovesTo facts manner old (xs ++ ys) new
  MovesTo-trans old mid new xs ys first second start read sent p =
      rw (← append_assoc read xs ys) (second start (read ++ xs) sent (first start read sent p))

  -- the run stops behind a step
  pub StopsIn-trans : (fault : RunFault) (old mid new : Moment S) (xs ys : List ℕ) → MovesTo facts manner old xs mid → StopsIn fault facts manner mid ys new → StopsIn fault facts manner old (xs ++ ys) new
  StopsIn-trans fault old mid new xs ys goes stops start read sent p =
      rw (← append_assoc read xs ys) (stops start (read ++ xs) sent (goes start read sent p))

  -- where nothing more was done
  pub StopsIn-same : (old new : Moment S) (bytes : List ℕ) → new.holding ≡ old.holding → new.kept.replies.items ≡ old.kept.replies.items → StopsIn faults.Memory facts manner old bytes new
  StopsIn-same old new bytes held same start read sent p = rw (held, same) (StopsBy-after p bytes)
