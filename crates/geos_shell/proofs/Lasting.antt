-- What a line that is answered, or stops a run, makes of it.
use Rattle.std.proofs.Common.{◌≡◌, ℕ, ◌+◌, ◌<◌, List, [], ◌∷◌, ◌++◌, length, append_assoc, subst}
use Rattle.std.proofs.lemmas.List.{nil_from_length}
use Rattle.geos_model.specs.Script.{lines}
use Rattle.vm_store.specs.Facts.{StoreFacts}
use Rattle.geos_replies.specs.Holdings.{Holding}
use Rattle.geos_shell.specs.Runs.{AnswersLines, StopsBy}
use Rattle.geos_shell.specs.Progress.{HasNoFeed, IsAnsweredInRun, IsStopped, Progress, StandsFor}
use Rattle.geos_shell.specs.declared.runner.RunFault.{RunFault}
use Rattle.geos_shell.specs.declared.runner.RunFault.TheVariants as faults
use Rattle.geos_shell.specs.declared.runner.ScriptOptions.{ScriptOptions}
use Rattle.geos_shell.proofs.Steps.{Answered-last, Progress-feed, Progress-part, Progress-some, Refused-feed, Refused-last, StopsBy-feed, StopsBy-last}

module _ {S : Type 0} (facts : S → StoreFacts) (manner : ScriptOptions) (start now new : Holding S) (read kept sent old replies : List ℕ) (count : ℕ) where
  -- a whole line, whose front may have been kept before, and which the bytes in full stand for
  pub line_answered : (tail full rest : List ℕ) → StandsFor (kept ++ tail) full → length rest ≡ 0 → HasNoFeed tail
      → IsAnsweredInRun facts manner now full new old replies
      → Progress facts manner start read (sent ++ old) now kept count → Progress facts manner start (read ++ (tail ++ 10 ∷ [])) (sent ++ replies) new rest (count + 1)
  line_answered tail full rest stands none free answers p =
      let (written, answered, grown) = answers in
      rw (nil_from_length rest none, grown, ← append_assoc sent old written, ← append_assoc read tail (10 ∷ [])) (Progress-feed (Progress-part p tail full free stands) answered)

  -- such a line, in which the run stops
  pub line_stopped : (fault : RunFault) (tail full rest : List ℕ) → StandsFor (kept ++ tail) full → HasNoFeed tail
      → IsStopped fault facts manner (count + 1) now full new old replies
      → Progress facts manner start read (sent ++ old) now kept count → StopsBy fault facts manner start (read ++ (tail ++ 10 ∷ rest)) (sent ++ replies) new
  line_stopped faults.Memory tail full rest stands free stops p =
      let (may, same) = stops in
      rw (same, ← append_assoc read tail (10 ∷ rest)) (StopsBy-feed (Progress-part p tail full free stands) rest may)
  line_stopped (faults.Refused number) tail full rest stands free stops p =
      let (same, bails, (written, refused, grown)) = stops in
      (bails, rw (same, grown, ← append_assoc sent old written, ← append_assoc read tail (10 ∷ rest)) (Refused-feed (Progress-part p tail full free stands) rest refused))
  line_stopped faults.Read tail full rest stands free stops p = absurd stops
  line_stopped faults.Write tail full rest stands free stops p = absurd stops

  -- the last line, of which all is kept
  pub last_answered : (line : List ℕ) → line ≡ kept → 0 < length kept
      → IsAnsweredInRun facts manner now line new old replies
      → Progress facts manner start read (sent ++ old) now kept count → AnswersLines facts manner start (lines read) (sent ++ replies) new
  last_answered line is some answers p =
      let (written, answered, grown) = subst (λ (l : List ℕ). IsAnsweredInRun facts manner now l new old replies) is answers in
      rw (grown, ← append_assoc sent old written) (Answered-last p some answered)

  -- that line, in which the run stops
  pub last_stopped : (fault : RunFault) (line : List ℕ) → line ≡ kept → 0 < length kept → IsStopped fault facts manner (count + 1) now line new old replies
      → Progress facts manner start read (sent ++ old) now kept count → (0 < length read) × StopsBy fault facts manner start read (sent ++ replies) new
  last_stopped fault line is some stops p =
      (Progress-some p some, by fault (subst (λ (l : List ℕ). IsStopped fault facts manner (count + 1) now l new old replies) is stops))
    where
      by : (fault : RunFault) → IsStopped fault facts manner (count + 1) now kept new old replies → StopsBy fault facts manner start read (sent ++ replies) new
      by faults.Memory at = rw at.1 (StopsBy-last p some at.0)
      by (faults.Refused number) at =
          let (same, bails, (written, refused, grown)) = at in
          (bails, rw (same, grown, ← append_assoc sent old written) (Refused-last p some refused))
      by faults.Read at = absurd at
      by faults.Write at = absurd at
