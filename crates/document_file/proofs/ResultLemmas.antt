-- What holds where a call is refused, or where it isn't.
use Rattle.std.proofs.Common.{◌≡◌, true, sym}
use Rattle.std.proofs.lemmas.Bool.{true≢false}
use Rattle.std.specs.Prelude.{is_ok, IsOk, Result, Ok, Err, OnOk, OnErr, IfOk, MatchResult}
use Rattle.std.specs.Result.{is_err}

pub on_err : {T E : Type 0} (r : Result T E) (P : Type 0) → P → OnErr r P
on_err (Ok x) P p = tt
on_err (Err x) P p = p

pub on_ok_more : {T E P Q : Type 0} (r : Result T E) → (P → Q) → OnOk r P → OnOk r Q
on_ok_more (Ok x) f p = f p
on_ok_more (Err x) f p = tt

pub on_ok_both : {T E P Q R : Type 0} (r : Result T E) → (P → Q → R) → OnOk r P → OnOk r Q → OnOk r R
on_ok_both (Ok x) f p q = f p q
on_ok_both (Err x) f p q = tt

pub on_err_both : {T E P Q R : Type 0} (r : Result T E) → (P → Q → R) → OnErr r P → OnErr r Q → OnErr r R
on_err_both (Ok x) f p q = tt
on_err_both (Err x) f p q = f p q

pub either_way : {T E : Type 0} (r : Result T E) (P : Type 0) → P → MatchResult r (λ _. P) (λ _. P)
either_way (Ok x) P p = p
either_way (Err x) P p = p

pub any_way : {T E : Type 0} (r : Result T E) (P : Type 0) → MatchResult r (λ _. P) (λ _. P) → P
any_way (Ok x) P p = p
any_way (Err x) P p = p

-- both of an accepted call
pub if_ok_both : {T E : Type 0} (P Q R : T → Type 0) (r : Result T E) → ((x : T) → P x → Q x → R x) → IfOk r P → IfOk r Q → IfOk r R
if_ok_both P Q R (Ok x) from p q = from x p q
if_ok_both P Q R (Err e) from p q = tt

pub of_ok : {T E P : Type 0} (r : Result T E) → OnOk r P → is_ok r ≡ true → P
of_ok (Ok x) p is = p
of_ok (Err x) p is = absurd (true≢false (sym is))

pub no_error : {T E : Type 0} (r : Result T E) → IsOk r → is_err r ≡ true → ⊥
no_error (Ok x) ok err = true≢false (sym err)
no_error (Err x) ok err = true≢false (sym ok)
