-- What a call on a handle comes to, from what was taken from it, what was done with that, and what was put back.
use Rattle.std.proofs.Common.{◌≡◌, ◌≤◌, ℕ, ℤ, pos, List, Result, Ok, Err, MatchResult, true, false, sym, subst, ap, ◌∙◌, arith, inl, inr}
use Rattle.geos_model.specs.Refusal.{number_of_fault}
use Rattle.geos_model.specs.declared.command.Edit.{Edit}
use Rattle.geos_model.specs.declared.fault.Fault.{Fault}
use Rattle.undo_log.specs.Sessions.{SessionState}
use Rattle.c_sessions.specs.Codes.{ReportsAnswer}
use Rattle.c_sessions.specs.Files.{BeginsOn, Begun, IsNotBegun}
use Rattle.geos_c.specs.Handles.{Begins, EditsOnHandle, HandsOutOnHandle, IsPutInHandle, MakesOnHandle, OnFiles, OnHandle, SavesOnHandle, ReportsOnHandle}
use Rattle.c_sessions.specs.Keeping.{IsBegun, SavesInto}
use Rattle.geos_c.specs.Stores.{FileStore, channel_calls, facts, file_number}
use Rattle.geos_c.specs.declared.channel.Channel.{Channel}
use Rattle.c_sessions.specs.declared.files.FileNumber.{FileNumber}
use Rattle.geos_c.specs.declared.handle.Handle.{Handle}
use Rattle.c_sessions.specs.declared.kept.Kept.{Kept}

-- there was a session, it was worked on, and it is back
module _ (old new : Handle) (kept lent : Kept FileStore) (after : SessionState FileStore) (code told : ℤ)
    (was : (old.is_open ≡ true) × (kept ≡ old.kept)) (same : lent ≡ kept)
    (is : (new.is_open ≡ true) × (new.kept ≡ record { number = lent.number; session = after })) (code_is : told ≡ code) where
  before_is : lent.session ≡ old.kept.session
  before_is = ap (λ (k : Kept FileStore). k.session) (same ∙ was.1)

  after_is : new.kept.session ≡ after
  after_is = ap (λ (k : Kept FileStore). k.session) is.1

  number_is : new.kept.number ≡ old.kept.number
  number_is = ap (λ (k : Kept FileStore). k.number) is.1 ∙ ap (λ (k : Kept FileStore). k.number) (same ∙ was.1)

  still_open : new.is_open ≡ old.is_open
  still_open = is.0 ∙ sym was.0

  not_closed : {A : Type 0} → old.is_open ≡ false → A
  not_closed closed = let wrong : false ≡ true = sym closed ∙ was.0 in absurd (cc wrong)

  pub served : {T : Type 0} (does : SessionState FileStore → SessionState FileStore → Result T Fault → Type 0)
      → ReportsAnswer (does lent.session after) code → OnHandle does old new told
  served does did = record {
    same = still_open;
    number = λ is_open. number_is;
    told = λ is_open. subst (λ (n : ℤ). ReportsAnswer (does old.kept.session new.kept.session) n) (sym code_is)
        (subst (λ (s : SessionState FileStore). ReportsAnswer (does old.kept.session s) code) (sym after_is)
        (subst (λ (s : SessionState FileStore). ReportsAnswer (does s after) code) before_is did));
    closed = not_closed;
  }

  pub handed_out : {T : Type 0} (does : SessionState FileStore → SessionState FileStore → List T → List T → ℕ → ℤ → Type 0) (buffer filled : List T) (count : ℕ)
      → does lent.session after buffer filled count code → HandsOutOnHandle does old new buffer filled count told
  handed_out does buffer filled count did = record {
    same = still_open;
    number = λ is_open. number_is;
    told = λ is_open. subst (λ (n : ℤ). does old.kept.session new.kept.session buffer filled count n) (sym code_is)
        (subst (λ (s : SessionState FileStore). does old.kept.session s buffer filled count code) (sym after_is)
        (subst (λ (s : SessionState FileStore). does s after buffer filled count code) before_is did));
    closed = not_closed;
  }

  pub tells : (does : SessionState FileStore → SessionState FileStore → ℤ → Type 0) (nothing : Type 0)
      → does lent.session after code → ReportsOnHandle does nothing old new told
  tells does nothing did = record {
    same = still_open;
    number = λ is_open. number_is;
    told = λ is_open. subst (λ (n : ℤ). does old.kept.session new.kept.session n) (sym code_is)
        (subst (λ (s : SessionState FileStore). does old.kept.session s code) (sym after_is)
        (subst (λ (s : SessionState FileStore). does s after code) before_is did));
    closed = not_closed;
  }

-- likewise by a save-as
pub saved : (number : ℤ) (given : FileNumber) (from to : Channel) (old new : Handle) (kept lent after : Kept FileStore) (code told : ℤ)
    → (old.is_open ≡ true) × (kept ≡ old.kept) → lent ≡ kept → (new.is_open ≡ true) × (new.kept ≡ after) → told ≡ code
    → given ≡ file_number number → SavesInto channel_calls facts given lent after from to code → SavesOnHandle number old new told
saved number given from to old new kept lent after code told was same is code_is given_is did = record {
  same = is.0 ∙ sym was.0;
  told = λ is_open. (
    from,
    to,
    subst (λ (n : FileNumber). SavesInto channel_calls facts n old.kept new.kept from to told) given_is
        (subst (λ (n : ℤ). SavesInto channel_calls facts given old.kept new.kept from to n) (sym code_is)
        (subst (λ (k : Kept FileStore). SavesInto channel_calls facts given old.kept k from to code) (sym is.1)
        (subst (λ (k : Kept FileStore). SavesInto channel_calls facts given k after from to code) (same ∙ was.1) did))),
  );
  closed = λ is_closed. let wrong : false ≡ true = sym is_closed ∙ was.0 in absurd (cc wrong);
}

-- what an edit made need not be told
pub edits : (edit : Edit) (made : ℕ) (old new : Handle) (code : ℤ) → MakesOnHandle edit made old new code → EditsOnHandle edit old new code
edits edit made old new code did = record {
  same = did.same;
  number = did.number;
  told = λ is_open. let told = did.told is_open in (told.0, told.1, told.2.0);
  closed = λ is_closed. (did.closed is_closed).0;
}

-- what was to begin a session on the file with this number is put behind a handle that has none
module _ (is : FileStore → Begun FileStore → Type 0) (number : FileNumber) (old new : Handle) (code : ℤ) where
  abbrev Answers : Type 0
  Answers = (answer : Result (Kept FileStore) Fault) × OnFiles (λ from to. IsBegun channel_calls is number from answer to) × IsPutInHandle answer old new code

  answered : {B : Type 0} (value : B → Kept FileStore) (from to : Channel) (result : Result B Fault)
      → MatchResult result (λ b. ((value b).number ≡ number) × BeginsOn channel_calls is number from (value b).session to) (λ fault. IsNotBegun channel_calls is number from fault to)
      → MatchResult result (λ b. (code ≡ pos 0) × (new.is_open ≡ true) × (new.kept ≡ value b)) (λ fault. (new ≡ old) × (code ≡ pos (number_of_fault fault)))
      → Answers
  answered value from to (Ok b) begun put = (Ok (value b), (from, to, begun), put)
  answered value from to (Err fault) begun put = (Err fault, (from, to, begun), put)

pub begins : {B : Type 0} (value : B → Kept FileStore) (is : FileStore → Begun FileStore → Type 0) (number : ℤ) (frames : ℕ) (given : FileNumber)
    (from to : Channel) (old seen new : Handle) (code told : ℤ) (result : Result B Fault)
    → old.is_open ≡ false → seen ≡ old → given ≡ file_number number → 1 ≤ frames → frames ≤ 64 → told ≡ code
    → MatchResult result (λ b. ((value b).number ≡ given) × BeginsOn channel_calls is given from (value b).session to) (λ fault. IsNotBegun channel_calls is given from fault to)
    → MatchResult result (λ b. (code ≡ pos 0) × (new.is_open ≡ true) × (new.kept ≡ value b)) (λ fault. (new ≡ seen) × (code ≡ pos (number_of_fault fault)))
    → Begins is number frames old new told
begins value is number frames given from to old seen new code told result closed same given_is low high code_is begun put = record {
  in_use = λ is_open. let wrong : false ≡ true = sym closed ∙ is_open in absurd (cc wrong);
  out_of_bounds = λ _ bad. elim bad [
    | inl few ↦ (let wrong : ⊥ = omega arith in absurd wrong)
    | inr many ↦ (let wrong : ⊥ = omega arith in absurd wrong)
  ];
  begun = λ _ _ _. subst (λ (n : FileNumber). Answers is n old new told) given_is (subst (λ (h : Handle). Answers is given h new told) same
      (subst (λ (n : ℤ). Answers is given seen new n) (sym code_is) (answered is given seen new code value from to result begun put)));
}
