-- Locks of blocks, counted one by one.
use Rattle.std.proofs.Common.{◌≡◌, ◌≢◌, ◌⊎◌, ◌<◌, ◌+◌, ◌-◌, ℕ, ◌==◌, true, false, cond, nat_eq, List, Some, is_some, unwrap_or, inl, inr, refl, sym, ap, subst, ◌∙◌, arith, eq-eqb}
use Rattle.std.specs.Prelude.{Result, Ok, Err, IfErr}
use Rattle.std.specs.Cmp.{nat_eq_equiv}
use Rattle.std.specs.Map.{lookup, set_value}
use Rattle.std.proofs.lemmas.Bool.{cases_eq, ne_eqb}
use Rattle.std.proofs.lemmas.Map.{lookup-set_value}
use Rattle.vm_store.specs.Facts.{StoreFacts}
use Rattle.geos_model.specs.Document.{is_live}
use Rattle.geos_model.specs.declared.fault.Fault.{Fault}
use Rattle.geos_model.specs.declared.fault.Fault.TheVariants.{LockLimit}
use Rattle.vm_blocks.specs.State.{CacheState, ResidentBlock, is_resident, locks_of}
use Rattle.vm_blocks.proofs.OrderOfUse.{locked_there}
use Rattle.vm_blocks.specs.Keeping.{KeepsBlocks, is_loaded}
use Rattle.vm_blocks.specs.Locking.{GainsLock, LosesLock, CantLock}
use Rattle.vm_blocks.proofs.KeepingLaws.{keeps-locks, keeps-stays, loaded-by, loaded-live, loaded-resident, shut-unlocked}

pub some_locks : (n : ℕ) → (n == 0) ≡ false → 0 < n
some_locks n some = elim (cases_eq n 0) as (λ _. 0 < n) [
  | inl none ↦ let wrong : true ≡ false = sym (eq-eqb n 0 none) ∙ some in absurd (cc wrong)
  | inr other ↦ omega (arith, other)
]

-- it is refused for one of these, so for one of more
pub one_of : (P Q : Fault → Type 0) (r : Result (Unit {0}) Fault) → IfErr r P → IfErr r (λ fault. P fault ⊎ Q fault)
one_of P Q (Ok done) err = tt
one_of P Q (Err fault) err = inl err

-- Another number of locks of a block in memory.

module _ (h n : ℕ) (ss : List ResidentBlock) (there : is_resident ss h ≡ true) where
  set : (k : ℕ) → lookup (nat_eq k) (set_value (nat_eq h) ss n) ≡ cond (nat_eq h k) (Some n) (lookup (nat_eq k) ss)
  set k = lookup-set_value nat_eq_equiv (nat_eq h) (nat_eq_equiv.congr h) k n ss there

  locks_set : locks_of (set_value (nat_eq h) ss n) h ≡ n
  locks_set = ap (λ o. unwrap_or o 0) (set h) ∙ ap (λ b. unwrap_or (cond b (Some n) (lookup (nat_eq h) ss)) 0) (eq-eqb h h refl)

  locks_still : (k : ℕ) → k ≢ h → locks_of (set_value (nat_eq h) ss n) k ≡ locks_of ss k
  locks_still k other = ap (λ o. unwrap_or o 0) (set k) ∙ ap (λ b. unwrap_or (cond b (Some n) (lookup (nat_eq k) ss)) 0) (ne_eqb h k (λ is. other (sym is)))

  resident_set : is_resident (set_value (nat_eq h) ss n) h ≡ true
  resident_set = ap is_some (set h) ∙ ap (λ b. is_some (cond b (Some n) (lookup (nat_eq h) ss))) (eq-eqb h h refl)

abbrev pub with_locks : {S : Type 0} → CacheState S → ℕ → ℕ → CacheState S
with_locks state h n = record state { resident = set_value (nat_eq h) state.resident n }

pub loses : {S : Type 0} (h : ℕ) (old new : CacheState S) → 0 < locks_of old.resident h → new ≡ with_locks old h (locks_of old.resident h - 1) → LosesLock h old new
loses {S} h old new was is =
    let there : is_resident old.resident h ≡ true = locked_there h old.resident was in
    let n = locks_of old.resident h - 1 in
    let resident = ap (λ (s : CacheState S). s.resident) is in
    record {
      was = was;
      is = is;
      one = ap (λ ss. locks_of ss h) resident ∙ locks_set h n old.resident there;
      others = λ k other. ap (λ ss. locks_of ss k) resident ∙ locks_still h n old.resident there k other;
    }

module _ {S : Type 0} (facts : S → StoreFacts) (h : ℕ) (old mid : CacheState S) (keeps : KeepsBlocks facts old mid) (loaded : is_loaded mid h ≡ true) where
  abbrev n : ℕ
  n = locks_of mid.resident h + 1

  there : is_resident mid.resident h ≡ true
  there = loaded-resident mid h loaded

  pub gains : (new : CacheState S) → new ≡ with_locks mid h n → GainsLock facts h old new
  gains new is = subst (GainsLock facts h old) (sym is) (record {
    stays = let stays = keeps-stays facts old mid keeps in record { file = stays.file; frames = stays.frames };
    loaded = loaded-by (with_locks mid h n) h (resident_set h n mid.resident there) (loaded-live mid h loaded);
    one = locks_set h n mid.resident there ∙ ap (λ k. k + 1) ((keeps-locks facts old mid keeps).each h);
    others = λ k other. locks_still h n mid.resident there k other ∙ (keeps-locks facts old mid keeps).each k;
  })

-- a block that is locked as often as it can be isn't locked for no other reason
pub limit_alone : {S : Type 0} (state : CacheState S) (h : ℕ) (fault : Fault) → is_live state.document h ≡ true → locks_of state.resident h ≡ 255 → CantLock state h fault → fault ≡ LockLimit
limit_alone state h fault live most cant = elim cant as (λ _. fault ≡ LockLimit) [
  | inl dead ↦ absurd (cc (dead.1, live))
  | inr more ↦ elim more as (λ _. fault ≡ LockLimit) [
    | inl limit ↦ limit.0
    | inr shut ↦ let none = shut-unlocked state h shut.1.1 in absurd (omega (arith, most, none))
  ]
]
