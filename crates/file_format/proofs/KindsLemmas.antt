-- What the first byte of an image is, by the kind that it tells.
use Rattle.std.proofs.Common.{◌≡◌, ◌≢◌, ℕ, ◌==◌, Bool, true, false, not, refl, sym, ap, ◌∙◌, inl, inr, eqb-true}
use Rattle.std.specs.Prelude.{if◌then◌else◌}
use Rattle.std.proofs.lemmas.Bool.{cases_Bool, cond-true, cond-false, eqb-false}
use Rattle.file_format.specs.Kinds.{is_heap_kind, body_kind_of}
use Rattle.file_format.specs.declared.kind.BodyKind.{BodyKind}
use Rattle.file_format.specs.declared.kind.BodyKind.TheVariants.{Raw, Heap}

pub raw_byte : (b : ℕ) → Raw ≡ body_kind_of b → b ≡ 0
raw_byte b is = elim (cases_Bool (b == 0)) as (λ _. b ≡ 0) [
  | inl zero ↦ eqb-true b 0 zero
  | inr other ↦ (let wrong : Raw ≡ Heap = is ∙ cond-false _ _ _ other in absurd (cc wrong))
]

pub heap_byte : (b : ℕ) → Heap ≡ body_kind_of b → b ≢ 0
heap_byte b is = elim (cases_Bool (b == 0)) as (λ _. b ≢ 0) [
  | inl zero ↦ (let wrong : Heap ≡ Raw = is ∙ cond-true _ _ _ zero in absurd (cc wrong))
  | inr other ↦ eqb-false b 0 other
]

of_zero : (is_zero : Bool) → is_heap_kind (if is_zero then Raw else Heap) ≡ not is_zero
of_zero true = refl
of_zero false = refl

not_false : (b : Bool) → not b ≡ false → b ≡ true
not_false true is = refl
not_false false is = absurd (cc is)

not_true : (b : Bool) → not b ≡ true → b ≡ false
not_true true is = absurd (cc is)
not_true false is = refl

-- whether the kind is that of a heap
module _ (b : ℕ) (kind : BodyKind) (is_heap : Bool) (kind_is : kind ≡ body_kind_of b) (told : is_heap ≡ is_heap_kind kind) where
  pub heap_told : is_heap ≡ not (b == 0)
  heap_told = told ∙ ap is_heap_kind kind_is ∙ of_zero (b == 0)

  pub told_raw : is_heap ≡ false → b ≡ 0
  told_raw raw = eqb-true b 0 (not_false (b == 0) (sym heap_told ∙ raw))

  pub told_heap : is_heap ≡ true → b ≢ 0
  told_heap heap = eqb-false b 0 (not_true (b == 0) (sym heap_told ∙ heap))
