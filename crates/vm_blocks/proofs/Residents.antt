-- Which blocks are in memory.
use Rattle.std.proofs.Common.{◌≡◌, ℕ, Bool, true, false, cond, nat_eq, List, [], ◌∷◌, Option, None, Some, is_some, unwrap_or, refl, sym, ap, subst, ◌∙◌, eq-eqb, eqb-true}
use Rattle.std.specs.Prelude.{nat_lt, length, ◌&&◌}
use Rattle.std.specs.Map.{lookup, lookup_entry, remove_entry}
use Rattle.std.specs.Option.{option_map_or}
use Rattle.vm_blocks.specs.State.{ResidentBlock, is_resident, evicted, after_load}

-- both of two tests
pub both : (a b : Bool) → a ≡ true → b ≡ true → a && b ≡ true
both a b p q = ap (λ x. x && b) p ∙ q

-- where the first implies the second, both say what the first says
pub first_of_both : (a b : Bool) → (a ≡ true → b ≡ true) → a ≡ (a && b)
first_of_both true b implies = sym (implies refl)
first_of_both false b implies = refl

-- A block that was loaded.

entry_passes : (test : ℕ → Bool) (ss : List ResidentBlock) (s : ResidentBlock) → lookup_entry test ss ≡ Some s → test s.0 ≡ true
entry_passes test [] s is = absurd (cc is)
entry_passes test (x ∷ ss) s is = (elim (test x.0) as (λ b. test x.0 ≡ b → cond b (Some x) (lookup_entry test ss) ≡ Some s → test s.0 ≡ true) [
  | true ↦ λ at here. subst (λ (y : ResidentBlock). test y.0 ≡ true) (ap (λ (o : Option ResidentBlock). unwrap_or o x) here) at
  | false ↦ λ at on. entry_passes test ss s on
]) refl is

-- the block goes first
abbrev promoted : ℕ → List ResidentBlock → List ResidentBlock
promoted h ss = option_map_or (λ s. s ∷ remove_entry (nat_eq h) ss) (lookup_entry (nat_eq h) ss) ss

removed_other : (h k : ℕ) (ss : List ResidentBlock) → nat_eq k h ≡ false → lookup (nat_eq k) (remove_entry (nat_eq h) ss) ≡ lookup (nat_eq k) ss
removed_other h k [] other = refl
removed_other h k (s ∷ ss) other = by (nat_eq h s.0) refl (removed_other h k ss other)
  where
    by : (b : Bool) → nat_eq h s.0 ≡ b → lookup (nat_eq k) (remove_entry (nat_eq h) ss) ≡ lookup (nat_eq k) ss → lookup (nat_eq k) (cond b ss (s ∷ remove_entry (nat_eq h) ss)) ≡ lookup (nat_eq k) (s ∷ ss)
    by true is later =
        let same : h ≡ s.0 = eqb-true h s.0 is in
        sym (ap (λ b. cond b (Some s.1) (lookup (nat_eq k) ss)) (ap (nat_eq k) (sym same) ∙ other))
    by false is later = ap (λ o. cond (nat_eq k s.0) (Some s.1) o) later

-- what is found of each block stays where one is used

value_found : (test : ℕ → Bool) (ss : List ResidentBlock) (s : ResidentBlock) → lookup_entry test ss ≡ Some s → lookup test ss ≡ Some s.1
value_found test [] s is = absurd (cc is)
value_found test (x ∷ ss) s is = (elim (test x.0) as (λ b. cond b (Some x) (lookup_entry test ss) ≡ Some s → cond b (Some x.1) (lookup test ss) ≡ Some s.1) [
  | true ↦ λ here. ap (λ (o : Option ResidentBlock). Some (unwrap_or o x).1) here
  | false ↦ λ on. value_found test ss s on
]) is

pub promoted_held : (h k : ℕ) (ss : List ResidentBlock) → lookup (nat_eq k) (promoted h ss) ≡ lookup (nat_eq k) ss
promoted_held h k ss = by (lookup_entry (nat_eq h) ss) refl
  where
    first : (s : ResidentBlock) (b : Bool) → nat_eq k s.0 ≡ b → lookup_entry (nat_eq h) ss ≡ Some s → lookup (nat_eq k) (s ∷ remove_entry (nat_eq h) ss) ≡ lookup (nat_eq k) ss
    first s true is found =
        let key : h ≡ s.0 = eqb-true h s.0 (entry_passes (nat_eq h) ss s found) in
        let same : h ≡ k = key ∙ sym (eqb-true k s.0 is) in
        ap (λ b. cond b (Some s.1) (lookup (nat_eq k) (remove_entry (nat_eq h) ss))) is ∙ sym (value_found (nat_eq h) ss s found) ∙ ap (λ q. lookup (nat_eq q) ss) same
    first s false is found =
        let key : h ≡ s.0 = eqb-true h s.0 (entry_passes (nat_eq h) ss s found) in
        ap (λ b. cond b (Some s.1) (lookup (nat_eq k) (remove_entry (nat_eq h) ss))) is ∙ removed_other h k ss (ap (nat_eq k) key ∙ is)

    by : (o : Option ResidentBlock) → lookup_entry (nat_eq h) ss ≡ o → lookup (nat_eq k) (option_map_or (λ s. s ∷ remove_entry (nat_eq h) ss) o ss) ≡ lookup (nat_eq k) ss
    by None is = refl
    by (Some s) is = first s (nat_eq k s.0) refl is

pub seated_there : (frames h : ℕ) (ss : List ResidentBlock) → is_resident (after_load frames h ss) h ≡ true
seated_there frames h ss = by (is_resident ss h) refl
  where
    by : (b : Bool) → is_resident ss h ≡ b → is_resident (cond b (promoted h ss) ((h, 0) ∷ cond (nat_lt (length ss) frames) ss (evicted ss))) h ≡ true
    by true is = ap is_some (promoted_held h h ss) ∙ is
    by false is = ap (λ b. is_some (cond b (Some 0) (lookup (nat_eq h) (cond (nat_lt (length ss) frames) ss (evicted ss))))) (eq-eqb h h refl)

-- Any other that was in memory stays there where the block was in memory too.

pub seated_stays : (frames h k : ℕ) (ss : List ResidentBlock) → is_resident ss h ≡ true → is_resident ss k ≡ true → is_resident (after_load frames h ss) k ≡ true
seated_stays frames h k ss here there =
    ap (λ b. is_resident (cond b (promoted h ss) ((h, 0) ∷ cond (nat_lt (length ss) frames) ss (evicted ss))) k) here ∙ ap is_some (promoted_held h k ss) ∙ there
