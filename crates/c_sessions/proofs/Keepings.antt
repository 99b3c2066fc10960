-- What opening a file and keeping a session come to together.
use Rattle.std.proofs.Common.{◌≡◌, None, Result, Ok, Err, MatchResult, sym, subst, inr}
use Rattle.geos_model.specs.declared.fault.Fault.{Fault}
use Rattle.c_sessions.specs.Files.{BeginsOn, Begun, FileCalls, IsNotBegun, fault_of, left_by}
use Rattle.c_sessions.specs.declared.files.FileNumber.{FileNumber}
use Rattle.c_sessions.specs.declared.kept.Kept.{Kept}

module _ {F S B : Type 0} (calls : FileCalls F S) (is : S → Begun S → Type 0) (number : FileNumber) (value : B → Kept S)
    (old opened new : F) (store : S) (begun : Begun S) (opens : calls.opens old number None (Ok store) opened) (began : is store begun) where
  pub begins : (result : Result B Fault)
      → MatchResult result (λ b. ((value b).number ≡ number) × (begun ≡ Ok (value b).session) × (new ≡ opened))
      (λ fault. (fault ≡ fault_of begun) × calls.closes opened (left_by begun) new)
      → MatchResult result (λ b. ((value b).number ≡ number) × BeginsOn calls is number old (value b).session new)
      (λ fault. IsNotBegun calls is number old fault new)
  begins (Ok b) kept = (
    kept.0,
    record {
      store = store;
      opens = subst (λ (f : F). calls.opens old number None (Ok store) f) (sym kept.2) opens;
      begun = subst (λ (b : Begun S). is store b) kept.1 began;
    },
  )
  begins (Err fault) kept = inr (record {
    store = store;
    opened = opened;
    opens = opens;
    begun = begun;
    begun_is = began;
    closes = kept.1;
    fault_is = kept.0;
  })
