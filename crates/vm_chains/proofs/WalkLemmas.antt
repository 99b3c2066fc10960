-- Steps of a walk along a chain.
use Rattle.std.proofs.Common.{◌≡◌, ◌<◌, ◌+◌, get_or, is_some, ℕ, zero, suc, List, [], ◌∷◌, ◌++◌, Bool, true, false, not, ◌==◌, ◌&&◌, ◌||◌, Option, Some, None, refl, sym, ap, subst, ◌∙◌, inl, inr, append_assoc, length, arith}
use Rattle.std.proofs.lemmas.Bool.{cases_Bool, cond-true, cond-false, true≢false, and_parts, or_parts, or_from, or_left, or_right, not-true}
use Rattle.std.proofs.lemmas.List.{append-nil, get_or-map, length-append, length-map, length_push}
use Rattle.std.proofs.lemmas.List.Elements.{All-nil, All-push}
use Rattle.std.proofs.lemmas.List.Folds.{list_any-append}
use Rattle.std.specs.List.{All, list_any}
use Rattle.std.specs.FinMap.{get}
use Rattle.std.specs.Option.{option_map, option_map_or, option_and_then}
use Rattle.geos_model.specs.Chain.{blocks_from, chain, if_distinct, is_linked, is_member, links}
use Rattle.geos_model.specs.Document.{Block, Document, is_heap_body, is_live, is_raw, is_vm_handle, most_blocks, raw_bytes_of}
use Rattle.geos_model.specs.ElementArray.{all_distinct}
use Rattle.geos_model.specs.declared.handle.VmHandle.{VmHandle}
use Rattle.vm_chains.specs.Numbers.{numbers}
use Rattle.vm_chains.specs.Stepping.{AreMet, RootFirst}
use Rattle.vm_chains.specs.Walking.{AreBlocks, BeginsWith, IsChainWalk}

-- What the definition says of the next block that is pending.

pub blocks_from-nil : (n : ℕ) (d : Document) → blocks_from n d [] ≡ Some []
unfolding blocks_from
blocks_from-nil zero d = refl
blocks_from-nil (suc n) d = refl

pub blocks_from-member : (n : ℕ) (d : Document) (h : ℕ) (hs : List ℕ) → is_member d h ≡ true → blocks_from (suc n) d (h ∷ hs) ≡ option_map (λ rest. h ∷ rest) (blocks_from n d (links (raw_bytes_of d h) ++ hs))
unfolding blocks_from
blocks_from-member n d h hs member = cond-true (is_member d h) _ _ member

pub blocks_from-other : (n : ℕ) (d : Document) (h : ℕ) (hs : List ℕ) → is_member d h ≡ false → blocks_from n d (h ∷ hs) ≡ None
unfolding blocks_from
blocks_from-other zero d h hs other = refl
blocks_from-other (suc n) d h hs other = cond-false (is_member d h) _ _ other

pub blocks_from-full : (d : Document) (h : ℕ) (hs : List ℕ) → blocks_from zero d (h ∷ hs) ≡ None
unfolding blocks_from
blocks_from-full d h hs = refl

-- Each that is pending would be a block, so that there is none where more are pending than may be met.
blocks_from-more : (n : ℕ) (d : Document) (hs : List ℕ) → n < length hs → blocks_from n d hs ≡ None
blocks_from-more n d [] more = absurd (omega (arith, more))
blocks_from-more zero d (h ∷ hs) more = blocks_from-full d h hs
blocks_from-more (suc n) d (h ∷ hs) more = elim (cases_Bool (is_member d h)) [
  | inl member ↦
      (let linked : List ℕ = links (raw_bytes_of d h) in
      let still : n < length (linked ++ hs) = omega (arith, more, length-append linked hs) in
      blocks_from-member n d h hs member ∙ ap (λ (o : Option (List ℕ)). option_map (λ rest. h ∷ rest) o) (blocks_from-more n d (linked ++ hs) still))
  | inr other ↦ blocks_from-other (suc n) d h hs other
]

pub chain_is : (d : Document) (root : ℕ) (o : Option (List ℕ)) → blocks_from most_blocks d (root ∷ []) ≡ o → chain d root ≡ option_and_then if_distinct o
unfolding chain
chain_is d root o e = ap (λ (x : Option (List ℕ)). option_and_then if_distinct x) e

-- Whether handles are distinct.

pub and_false : (b : Bool) → (b && false) ≡ false
and_false true = refl
and_false false = refl

-- a block that was met
pub not_distinct : (xs : List ℕ) (h : ℕ) (ys : List ℕ) → list_any (λ x. x == h) xs ≡ true → all_distinct (xs ++ h ∷ ys) ≡ false
not_distinct [] h ys met = absurd (true≢false (sym met))
not_distinct (x ∷ xs) h ys met = elim (cases_Bool (x == h)) [
  | inl here ↦
      (let last : ((x == h) || list_any (λ y. x == y) ys) ≡ true = or_left (x == h) _ here in
      let again : list_any (λ y. x == y) (xs ++ h ∷ ys) ≡ true = list_any-append (λ y. x == y) xs (h ∷ ys) ∙ or_right _ _ last in
      ap (λ (b : Bool). not b && all_distinct (xs ++ h ∷ ys)) again)
  | inr past ↦
      (let later : list_any (λ y. y == h) xs ≡ true = subst (λ (b : Bool). (b || list_any (λ y. y == h) xs) ≡ true) past met in
      ap (λ (b : Bool). not (list_any (λ y. x == y) (xs ++ h ∷ ys)) && b) (not_distinct xs h ys later) ∙ and_false _)
]

-- a block that wasn't
pub distinct_push : (xs : List ℕ) (h : ℕ) → all_distinct xs ≡ true → list_any (λ x. x == h) xs ≡ false → all_distinct (xs ++ h ∷ []) ≡ true
distinct_push [] h distinct new = refl
distinct_push (x ∷ xs) h distinct new =
    let apart = and_parts (not (list_any (λ y. x == y) xs)) (all_distinct xs) distinct in
    let other = or_parts (x == h) (list_any (λ y. y == h) xs) new in
    let last : ((x == h) || false) ≡ false = or_from (x == h) false other.0 refl in
    let once : list_any (λ y. x == y) xs ≡ false = not-true (list_any (λ y. x == y) xs) apart.0 in
    let none : list_any (λ y. x == y) (xs ++ h ∷ []) ≡ false = list_any-append (λ y. x == y) xs (h ∷ []) ∙ or_from _ _ once last in
    ap (λ (b : Bool). not b && all_distinct (xs ++ h ∷ [])) none ∙ distinct_push xs h apart.1 other.1

-- The walk.

before : (met : List ℕ) (o : Option (List ℕ)) (h : ℕ) → option_map (λ hs. met ++ hs) (option_map (λ hs. h ∷ hs) o) ≡ option_map (λ hs. (met ++ h ∷ []) ++ hs) o
before met None h = refl
before met (Some hs) h = ap (λ (x : List ℕ). Some x) (sym (append_assoc met (h ∷ []) hs))

-- so it is of what is the same
pub same_walk : (d : Document) (root n m : ℕ) (met ps qs : List ℕ) → IsChainWalk d root n met ps → n ≡ m → ps ≡ qs → IsChainWalk d root m met qs
same_walk d root n m met ps qs w e p = subst (λ (k : ℕ). IsChainWalk d root k met qs) e (subst (λ (x : List ℕ). IsChainWalk d root n met x) p w)

module _ (d : Document) (root n : ℕ) (met : List ℕ) where
  -- nothing is pending
  pub walk_ends : IsChainWalk d root n met [] → chain d root ≡ Some met
  walk_ends w =
      chain_is d root (Some (met ++ [])) (w.rest ∙ ap (λ (o : Option (List ℕ)). option_map (λ hs. met ++ hs) o) (blocks_from-nil n d))
      ∙ ap if_distinct (append-nil met) ∙ cond-true (all_distinct met) _ _ w.distinct

  module _ (h : ℕ) (hs : List ℕ) where
    -- the next block is one of a chain, and wasn't met
    pub walk_goes_on : IsChainWalk d root (suc n) met (h ∷ hs) → is_member d h ≡ true → list_any (λ x. x == h) met ≡ false → IsChainWalk d root n (met ++ h ∷ []) (links (raw_bytes_of d h) ++ hs)
    walk_goes_on w member new = record {
      rest = w.rest ∙ ap (λ (o : Option (List ℕ)). option_map (λ hs. met ++ hs) o) (blocks_from-member n d h hs member) ∙ before met (blocks_from n d (links (raw_bytes_of d h) ++ hs)) h;
      distinct = distinct_push met h w.distinct new;
    }

    none_there : IsChainWalk d root n met (h ∷ hs) → blocks_from n d (h ∷ hs) ≡ None → chain d root ≡ None
    none_there w none = chain_is d root None (w.rest ∙ ap (λ (o : Option (List ℕ)). option_map (λ hs. met ++ hs) o) none)

    -- it is none of a chain
    pub walk_breaks : IsChainWalk d root n met (h ∷ hs) → is_member d h ≡ false → chain d root ≡ None
    walk_breaks w other = none_there w (blocks_from-other n d h hs other)

-- it was met
again : (met : List ℕ) (h : ℕ) (o : Option (List ℕ)) → list_any (λ x. x == h) met ≡ true → option_and_then if_distinct (option_map (λ hs. met ++ hs) (option_map (λ hs. h ∷ hs) o)) ≡ None
again met h None twice = refl
again met h (Some hs) twice = cond-false (all_distinct (met ++ h ∷ hs)) _ _ (not_distinct met h hs twice)

pub walk_turns : (d : Document) (root n : ℕ) (met : List ℕ) (h : ℕ) (hs : List ℕ) → IsChainWalk d root (suc n) met (h ∷ hs) → list_any (λ x. x == h) met ≡ true → chain d root ≡ None
walk_turns d root n met h hs w twice = elim (cases_Bool (is_member d h)) [
  | inl member ↦ chain_is d root _ (w.rest ∙ ap (λ (o : Option (List ℕ)). option_map (λ hs. met ++ hs) o) (blocks_from-member n d h hs member)) ∙ again met h _ twice
  | inr other ↦ walk_breaks d root (suc n) met h hs w other
]

-- more are pending than may be met
pub walk_is_full : (d : Document) (root n : ℕ) (met hs : List ℕ) → IsChainWalk d root n met hs → n < length hs → chain d root ≡ None
walk_is_full d root n met hs w more = chain_is d root None (w.rest ∙ ap (λ (o : Option (List ℕ)). option_map (λ xs. met ++ xs) o) (blocks_from-more n d hs more))

-- A block of a chain is live.

raw_is_live : (o : Option Block) → option_map_or (λ b. not (is_heap_body b.body)) o false ≡ true → is_some o ≡ true
raw_is_live None e = absurd (cc e)
raw_is_live (Some b) e = refl

pub raw_live : (d : Document) (h : ℕ) → is_raw d h ≡ true → is_live d h ≡ true
raw_live d h raw = raw_is_live (get d.blocks h) raw

pub member_raw : (d : Document) (h : ℕ) → is_member d h ≡ true → is_raw d h ≡ true
member_raw d h member = (and_parts (is_raw d h) (is_linked (raw_bytes_of d h)) member).0

pub member_live : (d : Document) (h : ℕ) → is_member d h ≡ true → is_live d h ≡ true
member_live d h member = raw_live d h (member_raw d h member)

-- What is known of a walk over any store.

none_before : (o : Option (List ℕ)) → o ≡ option_map (λ hs. [] ++ hs) o
none_before None = refl
none_before (Some hs) = refl

pub walk_begins : (d : Document) (root : ℕ) (met pending : List ℕ) → met ≡ [] → pending ≡ root ∷ [] → IsChainWalk d root most_blocks met pending
walk_begins d root met pending none one = subst (λ (ps : List ℕ). IsChainWalk d root most_blocks met ps) (sym one) (subst (λ (hs : List ℕ). IsChainWalk d root most_blocks hs (root ∷ [])) (sym none) (record {
  rest = none_before (blocks_from most_blocks d (root ∷ []));
  distinct = refl;
}))

pub none_met : (d : Document) (met : List ℕ) → met ≡ [] → AreMet d most_blocks met
none_met d met none = subst (AreMet d most_blocks) (sym none) (record { live = All-nil (λ h. is_live d h ≡ true); distinct = refl; few = omega arith })

pub one_met : (d : Document) (n m h : ℕ) (met new : List ℕ) → AreMet d n met → n ≡ m + 1 → is_live d h ≡ true → list_any (λ x. x == h) met ≡ false → new ≡ met ++ h ∷ [] → AreMet d m new
one_met d n m h met new are left live other is = subst (AreMet d m) (sym is) (record {
  live = All-push (λ x. is_live d x ≡ true) met h are.live live;
  distinct = distinct_push met h are.distinct other;
  few = omega (arith, left, are.few, length_push met h);
})

-- all of them have handles that a block can have
pub met_blocks : (d : Document) (n : ℕ) (hs : List VmHandle) → ((h : ℕ) → is_live d h ≡ true → is_vm_handle h ≡ true) → AreMet d n (numbers hs) → AreBlocks d hs
met_blocks d n hs can are =
    let many : length (numbers hs) ≡ length hs = length-map hs (λ (h : VmHandle). h.0) in
    let live : All (λ (h : VmHandle). is_live d h.0 ≡ true) hs = λ i h within. subst (λ (k : ℕ). is_live d k ≡ true) (get_or-map (λ (h : VmHandle). h.0) hs i h h.0 within) (are.live i h.0 (omega (arith, many, within))) in
    record {
      live = live;
      handles = λ i h within. can (get_or hs i h).0 (live i h within);
      distinct = are.distinct;
      few = omega (arith, many, are.few);
    }

pub root_met : (root h : ℕ) (met pending hs new : List ℕ) → RootFirst root met pending → pending ≡ h ∷ hs → new ≡ met ++ h ∷ [] → BeginsWith root new
root_met root h met pending hs new (inl first) next is =
    let same : h ≡ root = let e : h ∷ hs ≡ root ∷ [] = sym next ∙ first.1 in cc e in
    ([], is ∙ ap (λ (xs : List ℕ). xs ++ h ∷ []) first.0 ∙ ap (λ (k : ℕ). k ∷ []) same)
root_met root h met pending hs new (inr begins) next is = (begins.0 ++ h ∷ [], is ∙ ap (λ (xs : List ℕ). xs ++ h ∷ []) begins.1)

pub root_there : (root : ℕ) (met pending all : List ℕ) → RootFirst root met pending → pending ≡ [] → all ≡ met → BeginsWith root all
root_there root met pending all (inl first) none same = let e : root ∷ [] ≡ [] = sym first.1 ∙ none in absurd (cc e)
root_there root met pending all (inr begins) none same = (begins.0, same ∙ begins.1)
