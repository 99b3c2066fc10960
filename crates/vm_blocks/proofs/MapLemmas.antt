-- Finite maps with something put in and something taken out.
use Rattle.std.proofs.Common.{◌≡◌, ◌≢◌, ℕ, Some, None, nat_cmp, sym, ap, ◌∙◌, inl, inr}
use Rattle.std.proofs.lemmas.Bool.{cases_eq}
use Rattle.std.specs.Cmp.{nat_cmp_total}
use Rattle.std.specs.FinMap.{FinMap, get, insert, remove, same_map, nat_cmp-IsAntisymmetric}
use Rattle.geos_model.proofs.HeapEdits.{get-put_same, get-put_other, get-taken_same, get-taken_other}

module _ {X : Type 0} (m : FinMap nat_cmp X) (h : ℕ) where
  pub put_back : (x y : X) → get m h ≡ Some x → insert (insert m h y) h x ≡ m
  put_back x y is = same_map nat_cmp_total nat_cmp-IsAntisymmetric _ _ (λ q. elim (cases_eq q h) [
    | inl e ↦ get-put_same (insert m h y) h x q e ∙ (sym is ∙ ap (get m) (sym e))
    | inr other ↦ get-put_other (insert m h y) h x q other ∙ get-put_other m h y q other
  ])

  pub put_taken : (x : X) → get m h ≡ Some x → insert (remove m h) h x ≡ m
  put_taken x is = same_map nat_cmp_total nat_cmp-IsAntisymmetric _ _ (λ q. elim (cases_eq q h) [
    | inl e ↦ get-put_same (remove m h) h x q e ∙ (sym is ∙ ap (get m) (sym e))
    | inr other ↦ get-put_other (remove m h) h x q other ∙ get-taken_other m h q other
  ])

  pub taken_put : (x : X) → get m h ≡ None → remove (insert m h x) h ≡ m
  taken_put x is = same_map nat_cmp_total nat_cmp-IsAntisymmetric _ _ (λ q. elim (cases_eq q h) [
    | inl e ↦ get-taken_same (insert m h x) h q e ∙ (sym is ∙ ap (get m) (sym e))
    | inr other ↦ get-taken_other (insert m h x) h q other ∙ get-put_other m h x q other
  ])

  -- under two keys, in either order
  pub put_past_taken : (k : ℕ) (x : X) → h ≢ k → insert (remove m k) h x ≡ remove (insert m h x) k
  put_past_taken k x other = same_map nat_cmp_total nat_cmp-IsAntisymmetric _ _ (λ q. elim (cases_eq q h) [
    | inl e ↦ get-put_same (remove m k) h x q e ∙ sym (get-taken_other (insert m h x) k q (λ is. other (sym e ∙ is)) ∙ get-put_same m h x q e)
    | inr far ↦ get-put_other (remove m k) h x q far ∙ elim (cases_eq q k) [
      | inl e ↦ get-taken_same m k q e ∙ sym (get-taken_same (insert m h x) k q e)
      | inr away ↦ get-taken_other m k q away ∙ sym (get-taken_other (insert m h x) k q away ∙ get-put_other m h x q far)
    ]
  ])

  pub put_past_put : (k : ℕ) (x y : X) → h ≢ k → insert (insert m k y) h x ≡ insert (insert m h x) k y
  put_past_put k x y other = same_map nat_cmp_total nat_cmp-IsAntisymmetric _ _ (λ q. elim (cases_eq q h) [
    | inl e ↦ get-put_same (insert m k y) h x q e ∙ sym (get-put_other (insert m h x) k y q (λ is. other (sym e ∙ is)) ∙ get-put_same m h x q e)
    | inr far ↦ get-put_other (insert m k y) h x q far ∙ elim (cases_eq q k) [
      | inl e ↦ get-put_same m k y q e ∙ sym (get-put_same (insert m h x) k y q e)
      | inr away ↦ get-put_other m k y q away ∙ sym (get-put_other (insert m h x) k y q away ∙ get-put_other m h x q far)
    ]
  ])
