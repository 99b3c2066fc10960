-- Calls that only read, one after another.
use Rattle.std.proofs.Common.{◌≡◌, ◌⊎◌, ℕ, IsTrue, List, refl, sym, subst, ◌∙◌, arith, inl, inr}
use Rattle.vm_store.specs.Facts.{StoreFacts, IsUnchanged, IsTimely, FailedSince}
use Rattle.file_format.specs.Reading.{OnlyReadsStore}

pub IsUnchanged-refl : (a : StoreFacts) → IsUnchanged a a
IsUnchanged-refl a = record { content = refl; crash = λ c left. left; time = record { later = omega arith; nothing_else = λ t c le left. inl left; keeps = λ t c le left. left } }

pub IsUnchanged-trans : (a b c : StoreFacts) → IsTimely a → IsUnchanged a b → IsUnchanged b c → IsUnchanged a c
IsUnchanged-trans a b c timely p q = record {
  content = q.content ∙ p.content;
  crash = λ f left. p.crash f (q.crash f left);
  time = record {
    later = omega (arith, p.time.later, q.time.later);
    nothing_else = λ t f le left. elim (q.time.nothing_else t f (omega (arith, le, p.time.later)) left) as (λ _. a.left_since t f ⊎ c.may_leave f) [
      | inr now ↦ inr now
      | inl before ↦ elim (p.time.nothing_else t f le before) as (λ _. a.left_since t f ⊎ c.may_leave f) [
        | inl first ↦ inl first
        | inr mid ↦ inl (timely.counts_now t f le (p.crash f mid))
      ]
    ];
    keeps = λ t f le left. q.time.keeps t f (omega (arith, le, p.time.later)) (p.time.keeps t f le left);
  };
}

pub OnlyReadsStore-refl : (a : StoreFacts) → OnlyReadsStore a a
OnlyReadsStore-refl a = record { honest = refl; failures = omega arith; unchanged = λ _. IsUnchanged-refl a }

pub OnlyReadsStore-trans : (a b c : StoreFacts) → (IsTrue a.honest → IsTimely a) → OnlyReadsStore a b → OnlyReadsStore b c → OnlyReadsStore a c
OnlyReadsStore-trans a b c timely p q = record {
  honest = q.honest ∙ p.honest;
  failures = omega (arith, p.failures, q.failures);
  unchanged = λ so. IsUnchanged-trans a b c (timely so) (p.unchanged so) (q.unchanged (subst IsTrue (sym p.honest) so));
}

-- an honest store is still honest, and has the same bytes
pub still : (a b : StoreFacts) → OnlyReadsStore a b → IsTrue a.honest → IsTrue b.honest
still a b p so = subst IsTrue (sym p.honest) so

pub same_bytes_then : (a b : StoreFacts) → OnlyReadsStore a b → IsTrue a.honest → b.content ≡ a.content
same_bytes_then a b p so = (p.unchanged so).content

-- what is asked of the bytes of an honest store still holds
pub still_holds : (P : List ℕ → Type 0) (a b : StoreFacts) → OnlyReadsStore a b → (IsTrue a.honest → P a.content) → IsTrue b.honest → P b.content
still_holds P a b p was so =
    let before : IsTrue a.honest = subst IsTrue p.honest so in
    subst P (sym (same_bytes_then a b p before)) (was before)

-- and what holds of them then held before
pub held_before : (P : List ℕ → Type 0) (a b : StoreFacts) → OnlyReadsStore a b → (IsTrue b.honest → P b.content) → IsTrue a.honest → P a.content
held_before P a b p then so = subst P (same_bytes_then a b p so) (then (still a b p so))

pub raised_later : (a b c : StoreFacts) → OnlyReadsStore a b → FailedSince b c → FailedSince a c
raised_later a b c p raised = omega (arith, p.failures, raised)
