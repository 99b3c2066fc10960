-- A copy of a chain is one of the same shape.
use Rattle.std.proofs.Common.{◌≡◌, ◌≢◌, ℕ, zero, suc, ◌<◌, ◌≤◌, Bool, true, false, ◌&&◌, not, ◌==◌, nat_le, List, [], ◌∷◌, ◌++◌, length, get_or, map, filter, Option, Some, None, unwrap_or, refl, sym, ap, subst, ◌∙◌, inl, inr, arith, le-leb, leb-true, zero-add}
use Rattle.std.proofs.lemmas.Bool.{cases_Bool, cases_eq, and_parts, and_from, cond-true, cond-false, eqb-true, eq-eqb, ne_eqb, true≢false}
use Rattle.std.proofs.lemmas.List.{map-append, length-map, get_or-map, get_or_default, ext_get_or}
use Rattle.std.proofs.lemmas.List.FromFn.{length-range_with_len, length-map-range_with_len, get_or-map-range_with_len}
use Rattle.std.proofs.lemmas.List.Elements.{All-nil, All-cons, All-head, All-tail, All-contains_itself, All-weaker, Contains-get_or, Contains-append_left, Contains-append_right}
use Rattle.std.specs.List.{All, Contains, range_with_len, zip}
use Rattle.std.specs.Option.{option_map_or}
use Rattle.std.specs.FinMap.{get}
use lib.Pointwise.{bytes_decides, pointwise_decides}
use Rattle.geos_model.specs.Words.{word_at}
use Rattle.geos_model.specs.ElementArray.{all_distinct}
use Rattle.geos_model.specs.Heap.{capacity}
use Rattle.geos_model.specs.Document.{Block, Document, IsValid, IsValidBlock, most_blocks, is_vm_handle, is_live, is_raw, is_heap_body, bytes_of_body, raw_bytes_of, attributes_of, no_attributes, no_block, FitAttributes, block_at, handles_of, with_blocks}
use Rattle.geos_model.specs.Chain.{tree_mark, is_linked, link_count, link_place, links, relinked, is_member, chain, name_of, shape, relinked_block, renamed_blocks, free_handles, new_handles, copies_of}
use Rattle.geos_model.specs.ChainLaws.{IsForest, nothing, block, link_words, IsCopied}
use Rattle.geos_model.proofs.BlockLists.{distinct-first, distinct-rest, put_elsewhere, put_stands, put_map_block, put_valid}
use Rattle.geos_model.proofs.Validity.{raw_bytes-few, raw-typed}
use Rattle.geos_model.specs.declared.block.Attributes.{Attributes}
use Rattle.geos_model.proofs.Chains.{contains_first, contains_later, raw_block, member-raw, member-live, member-handle, chain-walk, walk-chain, chain-members}
use Rattle.geos_model.proofs.Relinking.{relinked-relinked, relinked_twice}
use Rattle.geos_model.proofs.ChainCopies.{kept-there, new-new}

-- Names.

pub name-unknown : (hs new : List ℕ) (x : ℕ) → (Contains hs x → ⊥) → name_of (zip hs new) x ≡ 0
name-unknown [] new x absent = refl
name-unknown (h ∷ hs) [] x absent = refl
name-unknown (h ∷ hs) (n ∷ new) x absent =
    elim (cases_Bool (h == x)) [
      | inl e ↦ absurd (absent (subst (Contains (h ∷ hs)) (eqb-true h x e) (contains_first h hs)))
      | inr e ↦ cond-false (h == x) n (name_of (zip hs new) x) e ∙ name-unknown hs new x (λ there. absent (contains_later h hs x there))
    ]

pub name-known : (hs new : List ℕ) (i : ℕ) → length hs ≡ length new → all_distinct hs ≡ true → i < length hs → name_of (zip hs new) (get_or hs i 0) ≡ get_or new i 0
name-known [] new i long once low = absurd (omega arith)
name-known (h ∷ hs) [] i long once low = absurd (let none : suc (length hs) ≡ 0 = long in omega arith)
name-known (h ∷ hs) (n ∷ new) zero long once low = cond-true (h == h) n (name_of (zip hs new) h) (eq-eqb h h refl)
name-known (h ∷ hs) (n ∷ new) (suc i) long once low =
    let same : suc (length hs) ≡ suc (length new) = long in
    elim (cases_Bool (h == get_or hs i 0)) [
      | inl e ↦ absurd (distinct-first h hs once (subst (Contains hs) (sym (eqb-true h (get_or hs i 0) e)) (Contains-get_or hs i 0 (omega arith))))
      | inr e ↦ cond-false (h == get_or hs i 0) n (name_of (zip hs new) (get_or hs i 0)) e ∙ name-known hs new i (omega arith) (distinct-rest h hs once) (omega arith)
    ]

pub name-low : (top : ℕ) (hs new : List ℕ) (x : ℕ) → 0 < top → All (λ n. n < top) new → name_of (zip hs new) x < top
name-low top [] new x some low = some
name-low top (h ∷ hs) [] x some low = some
name-low top (h ∷ hs) (n ∷ new) x some low = elim (cases_Bool (h == x)) [
  | inl e ↦ subst (λ (m : ℕ). m < top) (sym (cond-true (h == x) n (name_of (zip hs new) x) e)) (All-head (λ n. n < top) n new low)
  | inr e ↦ subst (λ (m : ℕ). m < top) (sym (cond-false (h == x) n (name_of (zip hs new) x) e)) (name-low top hs new x some (All-tail (λ n. n < top) n new low))
]

-- Blocks under new handles.

module _ (named : ℕ → Block) where
  abbrev blocks_named : List ℕ → List ℕ → List (ℕ × Block)
  blocks_named hs new = map (λ p. (p.1, named p.0)) (zip hs new)

  pub named-handles : (hs new : List ℕ) → length hs ≡ length new → handles_of (blocks_named hs new) ≡ new
  named-handles [] [] long = refl
  named-handles [] (n ∷ new) long = absurd (let none : 0 ≡ suc (length new) = long in omega arith)
  named-handles (h ∷ hs) [] long = absurd (let none : suc (length hs) ≡ 0 = long in omega arith)
  named-handles (h ∷ hs) (n ∷ new) long =
      let same : suc (length hs) ≡ suc (length new) = long in ap (λ (xs : List ℕ). n ∷ xs) (named-handles hs new (omega arith))

  module _ (P : ℕ × Block → Type 0) where
    -- what holds of each holds of those at one place
    named-at : (hs new : List ℕ) (i : ℕ) → length hs ≡ length new → All P (blocks_named hs new) → i < length hs → P (get_or new i 0, named (get_or hs i 0))
    named-at [] new i long all low = absurd (omega arith)
    named-at (h ∷ hs) [] i long all low = absurd (let none : suc (length hs) ≡ 0 = long in omega arith)
    named-at (h ∷ hs) (n ∷ new) zero long all low = All-head P (n, named h) (blocks_named hs new) all
    named-at (h ∷ hs) (n ∷ new) (suc i) long all low =
        let same : suc (length hs) ≡ suc (length new) = long in named-at hs new i (omega arith) (All-tail P (n, named h) (blocks_named hs new) all) (omega arith)

    all-named : (hs new : List ℕ) → ((h n : ℕ) → Contains hs h → Contains new n → P (n, named h)) → All P (blocks_named hs new)
    all-named [] new good = All-nil P
    all-named (h ∷ hs) [] good = All-nil P
    all-named (h ∷ hs) (n ∷ new) good =
        All-cons P (n, named h) (blocks_named hs new) (good h n (contains_first h hs) (contains_first n new))
        (all-named hs new (λ x y left right. good x y (contains_later h hs x left) (contains_later n new y right)))

-- what a block of a document has
block-bytes : (d : Document) (h : ℕ) → bytes_of_body (block_at d h).body ≡ raw_bytes_of d h
block-bytes d h = by_block (get d.blocks h)
  where
    by_block : (o : Option Block) → bytes_of_body (unwrap_or o no_block).body ≡ option_map_or (λ b. bytes_of_body b.body) o []
    by_block None = refl
    by_block (Some b) = refl

block-attributes : (d : Document) (h : ℕ) → (block_at d h).attributes ≡ attributes_of d h
block-attributes d h = by_block (get d.blocks h)
  where
    by_block : (o : Option Block) → (unwrap_or o no_block).attributes ≡ option_map_or (λ b. b.attributes) o no_attributes
    by_block None = refl
    by_block (Some b) = refl

-- renaming keeps what is no link apart
pub filter-renamed : (rename : ℕ → ℕ) (ws : List ℕ) → rename 0 ≡ 0 → ((w : ℕ) → Contains (filter (λ h. not (h == 0)) ws) w → rename w ≢ 0)
    → filter (λ h. not (h == 0)) (map rename ws) ≡ map rename (filter (λ h. not (h == 0)) ws)
filter-renamed rename [] none some = refl
filter-renamed rename (w ∷ ws) none some =
    let keep : ℕ → Bool = λ h. not (h == 0) in
    elim (cases_Bool (w == 0)) [
      | inl e ↦
          (let dropped : filter keep (w ∷ ws) ≡ filter keep ws = cond-false (keep w) (w ∷ filter keep ws) (filter keep ws) (ap not e) in
          let renamed : rename w ≡ 0 = ap rename (eqb-true w 0 e) ∙ none in
          cond-false (keep (rename w)) (rename w ∷ filter keep (map rename ws)) (filter keep (map rename ws)) (ap not (eq-eqb (rename w) 0 renamed))
          ∙ filter-renamed rename ws none (λ x there. some x (subst (λ zs. Contains zs x) (sym dropped) there)) ∙ ap (map rename) (sym dropped))
      | inr e ↦
          (let kept : filter keep (w ∷ ws) ≡ w ∷ filter keep ws = cond-true (keep w) (w ∷ filter keep ws) (filter keep ws) (ap not e) in
          let new : keep (rename w) ≡ true = ap not (ne_eqb (rename w) 0 (some w (subst (λ zs. Contains zs w) (sym kept) (contains_first w (filter keep ws))))) in
          cond-true (keep (rename w)) (rename w ∷ filter keep (map rename ws)) (filter keep (map rename ws)) new
          ∙ ap (λ (zs : List ℕ). rename w ∷ zs) (filter-renamed rename ws none (λ x there. some x (subst (λ zs. Contains zs x) (sym kept) (contains_later w (filter keep ws) x there))))
          ∙ ap (map rename) (sym kept))
    ]

-- a link that isn't 0 is one of a body's links
pub link-there : (bytes : List ℕ) (i : ℕ) → i < link_count bytes → word_at bytes (link_place bytes i) ≢ 0 → Contains (links bytes) (word_at bytes (link_place bytes i))
link-there bytes i low some =
    let link : ℕ → ℕ = λ k. word_at bytes (link_place bytes k) in
    let many = length-map-range_with_len link 0 (link_count bytes) in
    let is : get_or (link_words bytes) i 0 ≡ link i = get_or-map-range_with_len link 0 (link_count bytes) i i 0 low (zero-add i) in
    kept-there (λ h. not (h == 0)) (link_words bytes) (link i) (subst (Contains (link_words bytes)) is (Contains-get_or (link_words bytes) i 0 (omega arith))) (ap not (ne_eqb (link i) 0 some))

-- Copies of a chain's blocks.
module _ (d : Document) (hs new : List ℕ) (valid : IsValid d) (members : (x : ℕ) → Contains hs x → is_member d x ≡ true) (once : all_distinct hs ≡ true)
    (linked : (x y : ℕ) → Contains hs x → Contains (links (raw_bytes_of d x)) y → Contains hs y)
    (long : length hs ≡ length new) (new_once : all_distinct new ≡ true) (new_handle : (x : ℕ) → Contains new x → is_vm_handle x ≡ true)
    (new_free : (x : ℕ) → Contains new x → is_live d x ≡ false) where
  abbrev rename : ℕ → ℕ
  rename = name_of (zip hs new)

  abbrev named : ℕ → Block
  named h = relinked_block rename (block_at d h)

  abbrev copied : Document
  copied = with_blocks d (renamed_blocks d hs new)

  new_some : (x : ℕ) → Contains new x → (1 ≤ x) × (x ≤ most_blocks)
  new_some x there = let parts = and_parts (nat_le 1 x) (nat_le x most_blocks) (new_handle x there) in (leb-true 1 x parts.0, leb-true x most_blocks parts.1)

  few : (x : ℕ) → rename x < tree_mark
  few x = name-low tree_mark hs new x (omega arith) (All-weaker (Contains new) (λ n. n < tree_mark) (λ n there. let low = new_some n there in omega arith) new (All-contains_itself new))

  none : rename 0 ≡ 0
  none = name-unknown hs new 0 (λ there. let low = member-handle d valid 0 (members 0 there) in absurd (omega arith))

  -- the copy of each is one of the new handles
  renamed_at : (k : ℕ) → k < length hs → rename (get_or hs k 0) ≡ get_or new k 0
  renamed_at k low = name-known hs new k long once low

  renamed_new : (x : ℕ) → Contains hs x → Contains new (rename x)
  renamed_new x there =
      let at : get_or hs there.0 0 ≡ x = get_or_default hs there.0 0 x there.1 ∙ there.2 in
      subst (Contains new) (sym (renamed_at there.0 there.1) ∙ ap rename at) (Contains-get_or new there.0 0 (let low = there.1 in omega arith))

  all_renamed : map rename hs ≡ new
  all_renamed = ext_get_or 0 (map rename hs) new (length-map hs rename ∙ long) (λ k low. let same = length-map hs rename in
      let within : k < length hs = omega arith in get_or-map rename hs k 0 0 within ∙ renamed_at k within)

  -- what is under the new handles, and under others
  handles_copied : handles_of (renamed_blocks d hs new) ≡ new
  handles_copied = named-handles named hs new long

  put_there : (i : ℕ) → i < length hs → get copied.blocks (get_or new i 0) ≡ Some (named (get_or hs i 0))
  put_there i low =
      named-at named (λ p. get copied.blocks p.0 ≡ Some p.1) hs new i long (put_stands d (renamed_blocks d hs new) (ap all_distinct handles_copied ∙ new_once)) low

  put_others : (x : ℕ) → (Contains new x → ⊥) → get copied.blocks x ≡ get d.blocks x
  put_others x absent = put_elsewhere d (renamed_blocks d hs new) x (λ there. absent (subst (λ xs. Contains xs x) handles_copied there))

  -- its block
  block_of_copy : (x : ℕ) → Contains hs x → get copied.blocks (rename x) ≡ Some (named x)
  block_of_copy x there =
      let at : get_or hs there.0 0 ≡ x = get_or_default hs there.0 0 x there.1 ∙ there.2 in
      ap (get copied.blocks) (sym (sym (renamed_at there.0 there.1) ∙ ap rename at)) ∙ put_there there.0 there.1 ∙ ap (λ (h : ℕ). Some (named h)) at

  bytes_of_copy : (x : ℕ) → Contains hs x → raw_bytes_of copied (rename x) ≡ relinked rename (raw_bytes_of d x)
  bytes_of_copy x there = ap (λ (o : Option Block). option_map_or (λ b. bytes_of_body b.body) o []) (block_of_copy x there) ∙ ap (relinked rename) (block-bytes d x)

  is_body : (x : ℕ) → Contains hs x → is_linked (raw_bytes_of d x) ≡ true
  is_body x there = (and_parts (is_raw d x) (is_linked (raw_bytes_of d x)) (members x there)).1

  member_copied : (x : ℕ) → Contains hs x → is_member copied (rename x) ≡ true
  member_copied x there =
      and_from (is_raw copied (rename x)) (is_linked (raw_bytes_of copied (rename x)))
      (ap (λ (o : Option Block). option_map_or (λ b. not (is_heap_body b.body)) o false) (block_of_copy x there))
      (ap is_linked (bytes_of_copy x there) ∙ (relinked-relinked rename (raw_bytes_of d x) (is_body x there) few).linked)

  links_copied : (x : ℕ) → Contains hs x → links (raw_bytes_of copied (rename x)) ≡ map rename (links (raw_bytes_of d x))
  links_copied x there =
      ap links (bytes_of_copy x there)
      ∙ ap (filter (λ h. not (h == 0))) (relinked-relinked rename (raw_bytes_of d x) (is_body x there) few).words
      ∙ filter-renamed rename (link_words (raw_bytes_of d x)) none
      (λ w link is. let low = new_some (rename w) (renamed_new w (linked x w there link)) in absurd (omega arith))

  forest_copied : (roots xs : List ℕ) → IsForest d roots xs → ((x : ℕ) → Contains xs x → Contains hs x) → IsForest copied (map rename roots) (map rename xs)
  forest_copied _ _ nothing within = nothing
  forest_copied _ _ (block h more below rest member inner outer) within =
      let there = within h (contains_first h (below ++ rest)) in
      let under = forest_copied (links (raw_bytes_of d h)) below inner (λ x at. within x (contains_later h (below ++ rest) x (Contains-append_left below rest x at))) in
      let later = forest_copied more rest outer (λ x at. within x (contains_later h (below ++ rest) x (Contains-append_right below rest x at))) in
      subst (λ (zs : List ℕ). IsForest copied (rename h ∷ map rename more) (rename h ∷ zs)) (sym (map-append rename below rest))
      (block (rename h) (map rename more) (map rename below) (map rename rest) (member_copied h there)
      (subst (λ (roots : List ℕ). IsForest copied roots (map rename below)) (sym (links_copied h there)) under) later)

  valid_copied : IsValid copied
  valid_copied = put_valid d (renamed_blocks d hs new) valid (all-named named (λ p. IsValidBlock p.0 p.1) hs new (λ h n there fresh. record {
    handle = new_handle n fresh;
    attributes = (let found = raw_block (get d.blocks h) (member-raw d h (members h there)) in
        subst (λ (o : Option Block). FitAttributes (unwrap_or o no_block).attributes) (sym found.1) (valid.blocks h found.0 found.1).attributes);
    typed = λ _. ap (λ (a : Attributes). a.heap_type) (block-attributes d h) ∙ raw-typed d h valid (member-raw d h (members h there));
    body = (let same = (relinked-relinked rename (raw_bytes_of d h) (is_body h there) few).long in
        let few_bytes = raw_bytes-few d h valid in
        ap (λ (bytes : List ℕ). nat_le (length (relinked rename bytes)) capacity) (block-bytes d h)
        ∙ le-leb (length (relinked rename (raw_bytes_of d h))) capacity (omega arith));
  }))

  -- the copy begins a chain
  chained_copied : (h : ℕ) (rest : List ℕ) → hs ≡ h ∷ rest → IsForest d (h ∷ []) hs → chain copied (get_or new 0 0) ≡ Some new
  chained_copied h rest first forest =
      let some : 0 < length hs = (let is : length hs ≡ suc (length rest) = ap length first in omega arith) in
      let root : rename h ≡ get_or new 0 0 = ap (λ (xs : List ℕ). rename (get_or xs 0 0)) (sym first) ∙ renamed_at 0 some in
      let there = forest_copied (h ∷ []) hs forest (λ x at. at) in
      subst (λ (r : ℕ). chain copied r ≡ Some new) root
      (walk-chain copied (rename h) new valid_copied (record { forest = subst (IsForest copied (rename h ∷ [])) all_renamed there; once = new_once }))

  -- an old block is as it was
  old_block : (x : ℕ) → Contains hs x → get copied.blocks x ≡ get d.blocks x
  old_block x there = put_others x (λ fresh. true≢false (sym (member-live d x (members x there)) ∙ new_free x fresh))

  old_bytes : (x : ℕ) → Contains hs x → raw_bytes_of copied x ≡ raw_bytes_of d x
  old_bytes x there = ap (λ (o : Option Block). option_map_or (λ b. bytes_of_body b.body) o []) (old_block x there)

  old_member : (x : ℕ) → Contains hs x → is_member copied x ≡ true
  old_member x there =
      ap (λ (o : Option Block). option_map_or (λ b. not (is_heap_body b.body)) o false && is_linked (option_map_or (λ b. bytes_of_body b.body) o [])) (old_block x there)
      ∙ members x there

  forest_kept : (roots xs : List ℕ) → IsForest d roots xs → ((x : ℕ) → Contains xs x → Contains hs x) → IsForest copied roots xs
  forest_kept _ _ nothing within = nothing
  forest_kept _ _ (block h more below rest member inner outer) within =
      let there = within h (contains_first h (below ++ rest)) in
      let under = forest_kept (links (raw_bytes_of d h)) below inner (λ x at. within x (contains_later h (below ++ rest) x (Contains-append_left below rest x at))) in
      let later = forest_kept more rest outer (λ x at. within x (contains_later h (below ++ rest) x (Contains-append_right below rest x at))) in
      block h more below rest (old_member h there) (subst (λ bytes. IsForest copied (links bytes) below) (sym (old_bytes h there)) under) later

  -- and so the old chain is one
  chain_kept : (h : ℕ) (rest : List ℕ) → hs ≡ h ∷ rest → IsForest d (h ∷ []) hs → chain copied (get_or hs 0 0) ≡ Some hs
  chain_kept h rest first forest =
      ap (λ (xs : List ℕ). chain copied (get_or xs 0 0)) first
      ∙ walk-chain copied h hs valid_copied (record { forest = forest_kept (h ∷ []) hs forest (λ x at. at); once = once })

  attributes_copied : (i : ℕ) → i < length hs → attributes_of copied (get_or new i 0) ≡ attributes_of d (get_or hs i 0)
  attributes_copied i low =
      ap (λ (o : Option Block). option_map_or (λ b. b.attributes) o no_attributes) (put_there i low) ∙ block-attributes d (get_or hs i 0)

  -- places of the old blocks and of the new
  abbrev place_of : ℕ → ℕ
  place_of = name_of (zip hs (range_with_len 1 (length hs)))

  abbrev new_place_of : ℕ → ℕ
  new_place_of = name_of (zip new (range_with_len 1 (length new)))

  same_place : (w : ℕ) → Contains hs w → new_place_of (rename w) ≡ place_of w
  same_place w there =
      let at : get_or hs there.0 0 ≡ w = get_or_default hs there.0 0 w there.1 ∙ there.2 in
      let many = length-range_with_len 1 (length hs) in
      let new_many = length-range_with_len 1 (length new) in
      let low = there.1 in
      ap (λ (x : ℕ). new_place_of (rename x)) (sym at)
      ∙ ap new_place_of (renamed_at there.0 low)
      ∙ name-known new (range_with_len 1 (length new)) there.0 (sym new_many) new_once (omega arith)
      ∙ ap (λ (n : ℕ). get_or (range_with_len 1 n) there.0 0) (sym long)
      ∙ sym (name-known hs (range_with_len 1 (length hs)) there.0 (sym many) once low)
      ∙ ap place_of at

  same_link : (w : ℕ) → (w ≢ 0 → Contains hs w) → new_place_of (rename w) ≡ place_of w
  same_link w known = elim (cases_eq w 0) [
    | inl is ↦
        ap (λ (x : ℕ). new_place_of (rename x)) is ∙ ap new_place_of none
        ∙ name-unknown new (range_with_len 1 (length new)) 0 (λ there. let low = new_some 0 there in absurd (omega arith))
        ∙ sym (name-unknown hs (range_with_len 1 (length hs)) 0 (λ there. let low = member-handle d valid 0 (members 0 there) in absurd (omega arith)))
        ∙ ap place_of (sym is)
    | inr some ↦ same_place w (known some)
  ]

  same_body : (x : ℕ) → Contains hs x → relinked new_place_of (raw_bytes_of copied (rename x)) ≡ relinked place_of (raw_bytes_of copied x)
  same_body x there =
      ap (relinked new_place_of) (bytes_of_copy x there)
      ∙ relinked_twice rename new_place_of place_of (raw_bytes_of d x) (is_body x there) few
      (λ i low. same_link (word_at (raw_bytes_of d x) (link_place (raw_bytes_of d x) i)) (λ some. linked x (word_at (raw_bytes_of d x) (link_place (raw_bytes_of d x) i)) there (link-there (raw_bytes_of d x) i low some)))
      ∙ ap (relinked place_of) (sym (old_bytes x there))

  same_shapes : shape copied hs ≡ shape copied new
  same_shapes =
      let old_body : ℕ → List ℕ = λ h. relinked place_of (raw_bytes_of copied h) in
      let new_body : ℕ → List ℕ = λ h. relinked new_place_of (raw_bytes_of copied h) in
      let many = length-map hs old_body in
      let new_many = length-map new new_body in
      ext_get_or [] (map old_body hs) (map new_body new) (many ∙ long ∙ sym new_many) (λ k within.
      let low : k < length hs = omega arith in
      get_or-map old_body hs k 0 [] low
      ∙ sym (same_body (get_or hs k 0) (Contains-get_or hs k 0 low))
      ∙ ap new_body (renamed_at k low)
      ∙ sym (get_or-map new_body new k 0 [] (omega arith)))

  copied-copied : (h : ℕ) (rest : List ℕ) → hs ≡ h ∷ rest → IsForest d (h ∷ []) hs → IsCopied d hs new copied
  copied-copied h rest first forest = record {
    valid = valid_copied;
    map_block = put_map_block d (renamed_blocks d hs new);
    others = put_others;
    attributes = attributes_copied;
    kept = chain_kept h rest first forest;
    chained = chained_copied h rest first forest;
    same = (pointwise_decides bytes_decides (shape copied hs) (shape copied new)).1 same_shapes;
  }

pub chain-copied : (d : Document) (h : ℕ) (hs : List ℕ) → IsValid d → chain d h ≡ Some hs → length hs ≤ length (free_handles d)
    → IsCopied d hs (new_handles d (length hs)) (with_blocks d (copies_of d hs))
chain-copied d h hs valid is enough =
    let are = chain-members d h hs is in
    let fresh = new-new d (length hs) enough in
    copied-copied d hs (new_handles d (length hs)) valid are.member are.once are.linked (sym fresh.as_many) fresh.once fresh.handle fresh.not_live
    h are.first.0 are.first.1 (chain-walk d h hs is).forest
