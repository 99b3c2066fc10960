-- Calls that are answered compose, and are served where all is exact.
use Rattle.std.proofs.Common.{◌≡◌, ◌⊎◌, ℕ, ◌+◌, List, [], ◌∷◌, ◌++◌, Bool, subst, refl, sym, ap, ◌∙◌, cond, arith, inl, inr}
use Rattle.std.proofs.lemmas.List.Sums.{sum_by-cons}
use Rattle.geos_model.specs.Machine.{Request, Call, Step, failed_calls}
use Rattle.geos_model.specs.Reply.{Reply}
use Rattle.vm_store.specs.Facts.{StoreFacts}
use Rattle.document_file.specs.Documents.{Documents}
use Rattle.geos_replies.specs.Holdings.{AnswersCalls, AnswersRequest, AreExact, Holding, ServesRequest, failed_since_in, machine}
use Rattle.geos_shell.specs.Runs.{AddsNoPair, AfterFailures, CountsFailures, ServesCalls}
use Rattle.geos_shell.proofs.Failures.{after_serves}

same_or_none : {old mid new : List Documents} → (mid ≡ old) ⊎ (mid ≡ []) → (new ≡ mid) ⊎ (new ≡ []) → (new ≡ old) ⊎ (new ≡ [])
same_or_none first (inr gone) = inr gone
same_or_none (inl before) (inl same) = inl (same ∙ before)
same_or_none (inr gone) (inl same) = inr (same ∙ gone)

module _ {S : Type 0} (facts : S → StoreFacts) where
  pub AnswersCalls-append : (old mid new : Holding S) (xs ys : List Call) → AnswersCalls facts old xs mid → AnswersCalls facts mid ys new → AnswersCalls facts old (xs ++ ys) new
  AnswersCalls-append old mid new [] ys p q = subst (λ h. AnswersCalls facts h ys new) p q
  AnswersCalls-append old mid new (x ∷ xs) ys p q = (p.0, p.1, p.2, AnswersCalls-append p.0 mid new xs ys p.3 q)

  Counts-append : (old mid new : Holding S) (m n : ℕ) → CountsFailures facts old m mid → CountsFailures facts mid n new → CountsFailures facts old (m + n) new
  Counts-append old mid new m n p q none =
      let first = p none in
      let second = q first.0 in
      (second.0, omega (arith, first.1, second.1))

  Adds-append : (old mid new : Holding S) (m n : ℕ) → AddsNoPair old m mid → AddsNoPair mid n new → AddsNoPair old (m + n) new
  Adds-append old mid new m n p q none = same_or_none (p (omega (arith, none))) (q (omega (arith, none)))

  -- where nothing is called
  pub AfterFailures-none : (h : Holding S) → AfterFailures facts h 0 h
  AfterFailures-none h = record { counted = λ none. (none, omega arith); adds = λ _. inl refl }

  pub AfterFailures-append : (old mid new : Holding S) (m n : ℕ) → AfterFailures facts old m mid → AfterFailures facts mid n new → AfterFailures facts old (m + n) new
  AfterFailures-append old mid new m n p q =
      record { counted = Counts-append old mid new m n p.counted q.counted; adds = Adds-append old mid new m n p.adds q.adds }

  -- one call that is served, and those behind it
  serves_more : (old mid new : Holding S) (c : Call) (calls : List Call) → c.failed ≡ failed_since_in facts old mid → AreExact facts old → ServesRequest facts old c.request c.reply mid → ServesCalls facts mid calls new
      → ServesCalls facts old (c ∷ calls) new
  serves_more old mid new c calls is exact serves more =
      let one : AfterFailures facts old (cond c.failed 1 0) mid = subst (λ (failed : Bool). AfterFailures facts old (cond failed 1 0) mid) (sym is) (after_serves facts old mid c.request c.reply exact serves) in
      record {
        exact = more.exact;
        run = (machine mid, subst (λ (failed : Bool). Step failed (machine old) c.request c.reply (machine mid)) (sym is) serves.step, more.run);
        serving = (mid, is, serves, more.serving);
        stores = subst (λ (n : ℕ). AfterFailures facts old n new) (sym (sum_by-cons (λ (c : Call). cond c.failed 1 0) c calls)) (AfterFailures-append old mid new (cond c.failed 1 0) (failed_calls calls) one more.stores);
      }

  -- calls that are answered are served where all is exact
  pub serves_calls : (old new : Holding S) (calls : List Call) → AnswersCalls facts old calls new → AreExact facts old → ServesCalls facts old calls new
  serves_calls old new [] same exact =
      record {
        exact = subst (AreExact facts) (sym same) exact;
        run = ap machine same;
        serving = same;
        stores = subst (AfterFailures facts old 0) (sym same) (AfterFailures-none old);
      }
  serves_calls old new (c ∷ calls) (mid, is, answers, more) exact =
      let serves = answers.serves exact in
      serves_more old mid new c calls is exact serves (serves_calls mid new calls more serves.exact)

  -- one request that is answered
  pub AnswersCalls-one : (old new : Holding S) (request : Request) (reply : Reply) → AnswersRequest facts old request reply new
      → AnswersCalls facts old (record { request = request; reply = reply; failed = failed_since_in facts old new } ∷ []) new
  AnswersCalls-one old new request reply answers = (new, refl, answers, refl)
