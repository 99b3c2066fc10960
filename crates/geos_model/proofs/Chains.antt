-- The blocks of a chain are those that following its links comes to, each once.
use Rattle.std.proofs.Common.{◌≡◌, ℕ, zero, suc, ◌+◌, ◌*◌, ◌-◌, ◌<◌, ◌≤◌, true, false, not, nat_le, nat_lt, cond, List, [], ◌∷◌, ◌++◌, length, get_or, replicate, Option, Some, None, is_none, is_some, count_by, refl, sym, ap, subst, ◌∙◌, ◌⊎◌, inl, inr, arith, length-append, append_assoc, zero-add, leb-true, lt-ltb}
use Rattle.std.proofs.lemmas.Bool.{cases_Bool, and_parts, and_from, cond-true, cond-false}
use Rattle.std.proofs.lemmas.List.{append-nil, length-replicate, get_or-replicate}
use Rattle.std.proofs.lemmas.List.Folds.{sum_by-replicate}
use Rattle.std.proofs.lemmas.List.Elements.{All-nil, All-cons, All-append, All-contains, All-head, All-tail, All-weaker, Contains-append_left, Contains-append_right, Contains-append_cases}
use Rattle.std.specs.List.{All, Contains, list_all}
use Rattle.std.specs.Option.{option_map, option_map_or, option_and_then}
use Rattle.std.specs.FinMap.{get}
use Rattle.geos_model.specs.ElementArray.{Element, all_distinct}
use Rattle.geos_model.specs.Document.{Block, Document, IsValid, most_blocks, is_live, is_raw, is_heap_body, raw_bytes_of}
use Rattle.geos_model.specs.Chain.{is_linked, links, is_member, blocks_from, if_distinct, chain}
use Rattle.geos_model.specs.ChainLaws.{IsForest, nothing, block, IsWalk, AreMembers}
use Rattle.geos_model.proofs.FreeLists.{free_in, length-free_le}

-- From the blocks that are found to a forest.

-- the blocks of some chains and of others
record Split (d : Document) (xs ys zs : List ℕ) : Type 0 where
  below : List ℕ
  rest : List ℕ
  is : zs ≡ below ++ rest
  left : IsForest d xs below
  right : IsForest d ys rest

split : (d : Document) (xs ys zs : List ℕ) → IsForest d (xs ++ ys) zs → Split d xs ys zs
split d [] ys zs forest = record { below = []; rest = zs; is = refl; left = nothing; right = forest }
split d (x ∷ xs) ys _ (block _ _ below rest member inner outer) =
    let parts = split d xs ys rest outer in record {
      below = x ∷ (below ++ parts.below);
      rest = parts.rest;
      is = ap (λ (zs : List ℕ). x ∷ (below ++ zs)) parts.is ∙ ap (λ (zs : List ℕ). x ∷ zs) (sym (append_assoc below parts.below parts.rest));
      left = block x xs below parts.below member inner parts.left;
      right = parts.right;
    }

-- a block before what is found behind it
forest_behind : (d : Document) (h : ℕ) (more hs : List ℕ) (o : Option (List ℕ)) → is_member d h ≡ true
    → ((rest : List ℕ) → o ≡ Some rest → IsForest d (links (raw_bytes_of d h) ++ more) rest)
    → option_map (λ rest. h ∷ rest) o ≡ Some hs → IsForest d (h ∷ more) hs
forest_behind d h more hs None member forest is = absurd (cc is)
forest_behind d h more hs (Some found) member forest is =
    let parts = split d (links (raw_bytes_of d h)) more found (forest found refl) in
    let same : h ∷ found ≡ hs = cc is in
    subst (IsForest d (h ∷ more)) (ap (λ (zs : List ℕ). h ∷ zs) (sym parts.is) ∙ same) (block h more parts.below parts.rest member parts.left parts.right)

no_blocks : (d : Document) (hs : List ℕ) → ◌≡◌ {A = Option (List ℕ)} (Some []) (Some hs) → IsForest d [] hs
no_blocks d hs is = let same : [] ≡ hs = cc is in subst (IsForest d []) same nothing

found-forest : (n : ℕ) (d : Document) (roots hs : List ℕ) → blocks_from n d roots ≡ Some hs → IsForest d roots hs
unfolding blocks_from
found-forest zero d [] hs is = no_blocks d hs is
found-forest zero d (h ∷ more) hs is = absurd (cc is)
found-forest (suc n) d [] hs is = no_blocks d hs is
found-forest (suc n) d (h ∷ more) hs is = elim (cases_Bool (is_member d h)) [
  | inl member ↦ forest_behind d h more hs (blocks_from n d (links (raw_bytes_of d h) ++ more)) member
      (λ rest found. found-forest n d (links (raw_bytes_of d h) ++ more) rest found) (sym (cond-true (is_member d h) _ _ member) ∙ is)
  | inr other ↦ (let none : ◌≡◌ {A = Option (List ℕ)} None (Some hs) = sym (cond-false (is_member d h) _ _ other) ∙ is in absurd (cc none))
]

-- And back: with so much fuel more, the blocks of more chains are found.

forest-found : (d : Document) (roots hs : List ℕ) → IsForest d roots hs → (n : ℕ) (pending tail : List ℕ)
    → blocks_from n d pending ≡ Some tail → blocks_from (length hs + n) d (roots ++ pending) ≡ Some (hs ++ tail)
unfolding blocks_from
forest-found d _ _ nothing n pending tail found = subst (λ (k : ℕ). blocks_from k d pending ≡ Some tail) (sym (zero-add n)) found
forest-found d _ _ (block h more below rest member inner outer) n pending tail found =
    let later = forest-found d more rest outer n pending tail found in
    let under = forest-found d (links (raw_bytes_of d h)) below inner (length rest + n) (more ++ pending) (rest ++ tail) later in
    let fuel : length (h ∷ (below ++ rest)) + n ≡ suc (length below + (length rest + n)) = omega (arith, length-append below rest) in
    subst (λ (k : ℕ). blocks_from k d (h ∷ (more ++ pending)) ≡ Some (h ∷ ((below ++ rest) ++ tail))) (sym fuel)
    (cond-true (is_member d h) _ _ member ∙ ap (option_map (λ (found : List ℕ). h ∷ found)) under
    ∙ ap (λ (zs : List ℕ). Some (h ∷ zs)) (sym (append_assoc below rest tail)))

none-found : (n : ℕ) (d : Document) → blocks_from n d [] ≡ Some []
unfolding blocks_from
none-found zero d = refl
none-found (suc n) d = refl

-- so those of one forest, if they are no more than this
found_within : (n : ℕ) (d : Document) (roots hs : List ℕ) → IsForest d roots hs → length hs ≤ n → blocks_from n d roots ≡ Some hs
found_within n d roots hs forest few =
    let fuel : length hs + (n - length hs) ≡ n = omega arith in
    let found = forest-found d roots hs forest (n - length hs) [] [] (none-found (n - length hs) d) in
    subst (λ (k : ℕ). blocks_from k d roots ≡ Some hs) fuel
    (ap (blocks_from (length hs + (n - length hs)) d) (sym (append-nil roots)) ∙ found ∙ ap (λ (zs : List ℕ). Some zs) (append-nil hs))

-- The blocks of a forest.

forest-members : (d : Document) (roots hs : List ℕ) → IsForest d roots hs → All (λ x. is_member d x ≡ true) hs
forest-members d _ _ nothing = All-nil (λ x. is_member d x ≡ true)
forest-members d _ _ (block h more below rest member inner outer) =
    All-cons (λ x. is_member d x ≡ true) h (below ++ rest) member
    (All-append (λ x. is_member d x ≡ true) below rest (forest-members d (links (raw_bytes_of d h)) below inner) (forest-members d more rest outer))

-- what stands in a list, by its first element
pub contains_cases : (h : ℕ) (xs : List ℕ) (x : ℕ) → Contains (h ∷ xs) x → (h ≡ x) ⊎ Contains xs x
contains_cases h xs x there = by_place there.0 there.1 there.2
  where
    by_place : (k : ℕ) → k < length (h ∷ xs) → get_or (h ∷ xs) k x ≡ x → (h ≡ x) ⊎ Contains xs x
    by_place zero low is = inl is
    by_place (suc k) low is = inr (k, omega arith, is)

pub contains_first : (h : ℕ) (xs : List ℕ) → Contains (h ∷ xs) h
contains_first h xs = (zero, omega arith, refl)

pub contains_later : (h : ℕ) (xs : List ℕ) (x : ℕ) → Contains xs x → Contains (h ∷ xs) x
contains_later h xs x there = (suc there.0, omega arith, there.2)

-- each handle where a chain begins is there
forest-roots : (d : Document) (roots hs : List ℕ) → IsForest d roots hs → (x : ℕ) → Contains roots x → Contains hs x
forest-roots d _ _ nothing x there = there
forest-roots d _ _ (block h more below rest member inner outer) x there = elim (contains_cases h more x there) [
  | inl is ↦ subst (Contains (h ∷ (below ++ rest))) is (contains_first h (below ++ rest))
  | inr later ↦ contains_later h (below ++ rest) x (Contains-append_right below rest x (forest-roots d more rest outer x later))
]

-- and so is each that one of them links to
forest-linked : (d : Document) (roots hs : List ℕ) → IsForest d roots hs → (x y : ℕ) → Contains hs x → Contains (links (raw_bytes_of d x)) y → Contains hs y
forest-linked d _ _ nothing x y there link = absurd (let low = there.1 in omega arith)
forest-linked d _ _ (block h more below rest member inner outer) x y there link =
    let under : Contains below x → Contains (below ++ rest) y = λ u. Contains-append_left below rest y (forest-linked d (links (raw_bytes_of d h)) below inner x y u link) in
    let later : Contains rest x → Contains (below ++ rest) y = λ l. Contains-append_right below rest y (forest-linked d more rest outer x y l link) in
    let first : (h ≡ x) → Contains (below ++ rest) y =
    λ is. Contains-append_left below rest y (forest-roots d (links (raw_bytes_of d h)) below inner y (subst (λ k. Contains (links (raw_bytes_of d k)) y) (sym is) link)) in
    contains_later h (below ++ rest) y (elim (contains_cases h (below ++ rest) x there) [
      | inl is ↦ first is
      | inr behind ↦ elim (Contains-append_cases below rest x behind) [
        | inl u ↦ under u
        | inr l ↦ later l
      ]
    ])

forest-first : (d : Document) (h : ℕ) (hs : List ℕ) → IsForest d (h ∷ []) hs → (rest : List ℕ) × (hs ≡ h ∷ rest)
forest-first d h _ (block _ _ below rest member inner outer) = (below ++ rest, refl)

-- What a document's chain is.

pub distinct_some : (o : Option (List ℕ)) (hs : List ℕ) → option_and_then if_distinct o ≡ Some hs → (o ≡ Some hs) × (all_distinct hs ≡ true)
distinct_some None hs is = absurd (cc is)
distinct_some (Some xs) hs is = elim (cases_Bool (all_distinct xs)) [
  | inl e ↦ (let some : Some xs ≡ Some hs = sym (cond-true (all_distinct xs) _ _ e) ∙ is in
      let same : xs ≡ hs = cc some in
      (some, subst (λ ys. all_distinct ys ≡ true) same e))
  | inr e ↦ (let none : ◌≡◌ {A = Option (List ℕ)} None (Some hs) = sym (cond-false (all_distinct xs) _ _ e) ∙ is in absurd (cc none))
]

pub chain-walk : (d : Document) (h : ℕ) (hs : List ℕ) → chain d h ≡ Some hs → IsWalk d h hs
unfolding chain
chain-walk d h hs is =
    let found = distinct_some (blocks_from most_blocks d (h ∷ [])) hs is in
    record { forest = found-forest most_blocks d (h ∷ []) hs found.0; once = found.1 }

pub raw_block : (o : Option Block) → option_map_or (λ b. not (is_heap_body b.body)) o false ≡ true → (b : Block) × (o ≡ Some b)
raw_block None h = absurd (cc h)
raw_block (Some b) h = (b, refl)

pub member-raw : (d : Document) (h : ℕ) → is_member d h ≡ true → is_raw d h ≡ true
member-raw d h member = (and_parts (is_raw d h) (is_linked (raw_bytes_of d h)) member).0

pub member-live : (d : Document) (h : ℕ) → is_member d h ≡ true → is_live d h ≡ true
member-live d h member = let there = raw_block (get d.blocks h) (member-raw d h member) in ap is_some there.1

pub chain-members : (d : Document) (h : ℕ) (hs : List ℕ) → chain d h ≡ Some hs → AreMembers d h hs
chain-members d h hs is =
    let walk = chain-walk d h hs is in
    let member : (x : ℕ) → Contains hs x → is_member d x ≡ true = λ x there. All-contains (λ x. is_member d x ≡ true) hs x (forest-members d (h ∷ []) hs walk.forest) there in record {
      first = forest-first d h hs walk.forest;
      live = λ x there. member-live d x (member x there);
      raw = λ x there. member-raw d x (member x there);
      member = member;
      once = walk.once;
      linked = forest-linked d (h ∷ []) hs walk.forest;
    }

-- A valid document's chain has no more blocks than the document.

-- slots that are free from 1 on
abbrev free_from_one : ℕ → List (Option Element)
free_from_one n = Some (record { count = 0; bytes = [] }) ∷ replicate n None

count-free : (n : ℕ) → count_by is_none (free_from_one n) ≡ n
count-free n =
    let each : count_by is_none (replicate {A = Option Element} n None) ≡ n * 1 = sum_by-replicate {X = Option Element} (λ o. cond (is_none o) 1 0) n None in
    let all : n * 1 ≡ n = omega arith in
    each ∙ all

free_at : (n h : ℕ) → (1 ≤ h) × (h ≤ n) → free_in (free_from_one n) h ≡ true
free_at n zero low = absurd (let one = low.0 in omega arith)
free_at n (suc h) low =
    let long : length (free_from_one n) ≡ suc n = ap suc (length-replicate {A = Option Element} n None) in
    let here = get_or-replicate {A = Option Element} n h None None (omega arith) in
    and_from (nat_lt (suc h) (length (free_from_one n))) (is_none (get_or (free_from_one n) (suc h) None)) (lt-ltb (suc h) (length (free_from_one n)) (omega arith)) (ap is_none here)

all_free : (n : ℕ) (hs : List ℕ) → All (λ h. (1 ≤ h) × (h ≤ n)) hs → list_all (free_in (free_from_one n)) hs ≡ true
all_free n [] low = refl
all_free n (h ∷ hs) low =
    and_from (free_in (free_from_one n) h) (list_all (free_in (free_from_one n)) hs) (free_at n h (All-head (λ h. (1 ≤ h) × (h ≤ n)) h hs low))
    (all_free n hs (All-tail (λ h. (1 ≤ h) × (h ≤ n)) h hs low))

-- distinct numbers from 1 on are no more than the greatest can be
few_distinct : (n : ℕ) (hs : List ℕ) → all_distinct hs ≡ true → All (λ h. (1 ≤ h) × (h ≤ n)) hs → length hs ≤ n
few_distinct n hs once low =
    let few = length-free_le (free_from_one n) hs once (all_free n hs low) in
    let many = count-free n in
    omega (arith, few, many)

pub member-handle : (d : Document) → IsValid d → (h : ℕ) → is_member d h ≡ true → (1 ≤ h) × (h ≤ most_blocks)
member-handle d valid h member =
    let there = raw_block (get d.blocks h) (member-raw d h member) in
    let parts = and_parts (nat_le 1 h) (nat_le h most_blocks) (valid.blocks h there.0 there.1).handle in
    (leb-true 1 h parts.0, leb-true h most_blocks parts.1)

-- no more than the document can have
pub walk-few : (d : Document) (h : ℕ) (hs : List ℕ) → IsValid d → IsWalk d h hs → length hs ≤ most_blocks
walk-few d h hs valid walk =
    few_distinct most_blocks hs walk.once (All-weaker (λ x. is_member d x ≡ true) (λ x. (1 ≤ x) × (x ≤ most_blocks)) (member-handle d valid) hs (forest-members d (h ∷ []) hs walk.forest))

pub walk-chain : (d : Document) (h : ℕ) (hs : List ℕ) → IsValid d → IsWalk d h hs → chain d h ≡ Some hs
unfolding chain
walk-chain d h hs valid walk =
    let found = found_within most_blocks d (h ∷ []) hs walk.forest (walk-few d h hs valid walk) in
    ap (option_and_then if_distinct) found ∙ cond-true (all_distinct hs) _ _ walk.once
