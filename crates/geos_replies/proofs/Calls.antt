-- Lemmas on the results of calls.
use Rattle.std.proofs.Common.{◌≡◌, Result, Ok, Err, OnOk, OnErr, true, false, is_ok, if◌then◌else◌}

-- what a call leaves where it went well
pub on_ok_if : {T E X : Type 0} (r : Result T E) (new good bad : X) → new ≡ (if is_ok r then good else bad) → OnOk r (new ≡ good)
on_ok_if (Ok x) new good bad e = e
on_ok_if (Err x) new good bad e = tt

-- what holds anyway holds where a call failed
pub on_err_always : {T E P : Type 0} (r : Result T E) → P → OnErr r P
on_err_always (Ok x) h = tt
on_err_always (Err x) h = h

-- what holds where a call failed follows from two facts of that
pub on_err_both : {T E P Q R : Type 0} (r : Result T E) → (P → Q → R) → OnErr r P → OnErr r Q → OnErr r R
on_err_both (Ok x) f p q = tt
on_err_both (Err x) f p q = f p q

-- what a call that went well did
pub was_ok : {T E P : Type 0} (r : Result T E) → is_ok r ≡ true → OnOk r P → P
was_ok (Ok x) well p = p
was_ok (Err x) well p = cc well

-- what one that failed did
pub was_err : {T E P : Type 0} (r : Result T E) → is_ok r ≡ false → OnErr r P → P
was_err (Ok x) failed p = cc failed
was_err (Err x) failed p = p
