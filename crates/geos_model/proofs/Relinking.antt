-- Words written at places four bytes apart, as the links of a body are.
use Rattle.std.proofs.Common.{◌≡◌, ℕ, zero, suc, ◌+◌, ◌*◌, ◌-◌, ◌<◌, ◌≤◌, Bool, true, false, ◌&&◌, ◌==◌, nat_le, cond, List, [], ◌∷◌, ◌++◌, length, get_or, take, drop, map, refl, sym, ap, ap₂, subst, ◌∙◌, ◌⊎◌, inl, inr, arith, add-zero, leb-true, leb-false, le-leb, length-append, length-drop, length-take-le}
use Rattle.std.proofs.lemmas.Bool.{cases_Bool, cases_eq, and_parts, and_from, cond-true, cond-false, eqb-true}
use Rattle.std.proofs.lemmas.List.{append-nil, drop_more, ext_get_or, get_or_append_left, get_or-append_right, get_or-take, get_or-drop}
use Rattle.std.specs.List.{fold, range_with_len, list_all}
use Rattle.byteorder.specs.Endian.{little_number}
use Rattle.byteorder.specs.Numbers.{little_number-reads_back}
use Rattle.geos_model.specs.Words.{word, word_at}
use Rattle.geos_model.specs.Bytes.{written}
use Rattle.geos_model.specs.Chain.{tree_mark, is_tree, branches_at, branch_count, has_branches, is_linked, link_count, first_link, link_place, relinked}
use Rattle.geos_model.specs.ChainLaws.{IsOfNoLink, IsRelinked}

-- bytes that are written over

length-written : (bytes : List ℕ) (at v : ℕ) → at + 2 ≤ length bytes → length (written bytes at (word v)) ≡ length bytes
length-written bytes at v within =
    let front = length-take-le at bytes (omega arith) in
    let back = length-drop (at + 2) bytes in
    length-append (take at bytes) (word v ++ drop (at + 2) bytes) ∙ (let all : length (take at bytes) + suc (suc (length (drop (at + 2) bytes))) ≡ length bytes = omega (arith, front, back) in all)

get_or-written_here : (bytes : List ℕ) (at v j : ℕ) → at + 2 ≤ length bytes → j < 2 → get_or (written bytes at (word v)) (at + j) 0 ≡ get_or (word v) j 0
get_or-written_here bytes at v j within low =
    let front = length-take-le at bytes (omega arith) in
    let shift : at + j - at ≡ j = omega arith in
    get_or-append_right (take at bytes) (word v ++ drop (at + 2) bytes) at (at + j) 0 front (omega arith)
    ∙ ap (λ (k : ℕ). get_or (word v ++ drop (at + 2) bytes) k 0) shift
    ∙ get_or_append_left (word v) (drop (at + 2) bytes) 0 j low

get_or-written_other : (bytes : List ℕ) (at v k : ℕ) → at + 2 ≤ length bytes → (k < at) ⊎ (at + 2 ≤ k) → get_or (written bytes at (word v)) k 0 ≡ get_or bytes k 0
get_or-written_other bytes at v k within (inl before) =
    let front = length-take-le at bytes (omega arith) in
    get_or_append_left (take at bytes) (word v ++ drop (at + 2) bytes) 0 k (omega arith) ∙ get_or-take at bytes k 0 before
get_or-written_other bytes at v k within (inr behind) =
    let front = length-take-le at bytes (omega arith) in
    let second : k - at - 2 ≡ k - (at + 2) = omega arith in
    let place : at + 2 + (k - (at + 2)) ≡ k = omega arith in
    get_or-append_right (take at bytes) (word v ++ drop (at + 2) bytes) at k 0 front (omega arith)
    ∙ get_or-append_right (word v) (drop (at + 2) bytes) 2 (k - at) 0 refl (omega arith)
    ∙ ap (λ (i : ℕ). get_or (drop (at + 2) bytes) i 0) second
    ∙ get_or-drop (at + 2) bytes (k - (at + 2)) 0
    ∙ ap (λ (i : ℕ). get_or bytes i 0) place

-- two words are the same by their bytes
same_word : (xs ys : List ℕ) (p q : ℕ) → p + 2 ≤ length xs → q + 2 ≤ length ys → get_or xs p 0 ≡ get_or ys q 0 → get_or xs (p + 1) 0 ≡ get_or ys (q + 1) 0 → word_at xs p ≡ word_at ys q
same_word xs ys p q here there low high =
    ap (little_number 2) (two xs p here) ∙ ap₂ (λ (a b : ℕ). little_number 2 (a ∷ b ∷ drop (p + 1 + 1) xs)) low high ∙ ap (little_number 2) (sym (two ys q there))
  where
    two : (zs : List ℕ) (k : ℕ) → k + 2 ≤ length zs → drop k zs ≡ get_or zs k 0 ∷ get_or zs (k + 1) 0 ∷ drop (k + 1 + 1) zs
    two zs k room = drop_more zs k 0 (omega arith) ∙ ap (λ (rest : List ℕ). get_or zs k 0 ∷ rest) (drop_more zs (k + 1) 0 (omega arith))

-- and a word is that of its number
word-back : (v : ℕ) → v < 65536 → word_at (word v) 0 ≡ v
word-back v few = ap (little_number 2) (sym (append-nil (word v))) ∙ little_number-reads_back 2 v [] few

same_all : (p q : ℕ → Bool) (n a : ℕ) → ((i : ℕ) → a ≤ i → i < a + n → p i ≡ q i) → list_all p (range_with_len a n) ≡ list_all q (range_with_len a n)
same_all p q zero a same = refl
same_all p q (suc n) a same = ap₂ (λ (x y : Bool). x && y) (same a (omega arith) (omega arith)) (same_all p q n (a + 1) (λ i from low. same i (omega arith) (omega arith)))

pub same_map : (f g : ℕ → ℕ) (n a : ℕ) → ((i : ℕ) → a ≤ i → i < a + n → f i ≡ g i) → map f (range_with_len a n) ≡ map g (range_with_len a n)
same_map f g zero a same = refl
same_map f g (suc n) a same = ap₂ (λ (x : ℕ) (xs : List ℕ). x ∷ xs) (same a (omega arith) (omega arith)) (same_map f g n (a + 1) (λ i from low. same i (omega arith) (omega arith)))

pub map-twice : (g f : ℕ → ℕ) (xs : List ℕ) → map (λ x. g (f x)) xs ≡ map g (map f xs)
map-twice g f [] = refl
map-twice g f (x ∷ xs) = ap (λ (ys : List ℕ). g (f x) ∷ ys) (map-twice g f xs)

unequal : (a b : ℕ) → a < b → (a == b) ≡ false
unequal a b less = elim (cases_Bool (a == b)) [
  | inl e ↦ (let same : a ≡ b = eqb-true a b e in absurd (omega arith))
  | inr e ↦ e
]

nat_le_cases : (j i : ℕ) → (j ≤ i) ⊎ (i < j)
nat_le_cases j i = elim (cases_Bool (nat_le j i)) [
  | inl e ↦ inl (leb-true j i e)
  | inr e ↦ inr (leb-false j i e)
]

module _ (first : ℕ) (value : ℕ → ℕ) where
  -- the words of so many places from one on
  abbrev pub put : ℕ → ℕ → List ℕ → List ℕ
  put a n bytes = fold (λ new i. written new (first + 4 * i) (word (value i))) bytes (range_with_len a n)

  abbrev pub fits : ℕ → ℕ → List ℕ → Type 0
  fits a n bytes = (i : ℕ) → i < a + n → first + 4 * i + 2 ≤ length bytes

  fits-written : (a n : ℕ) (bytes : List ℕ) → fits a (suc n) bytes → fits (a + 1) n (written bytes (first + 4 * a) (word (value a)))
  fits-written a n bytes within i low =
      let same = length-written bytes (first + 4 * a) (value a) (within a (omega arith)) in
      let here = within i (omega arith) in
      omega (arith, same, here)

  pub length-put : (n a : ℕ) (bytes : List ℕ) → fits a n bytes → length (put a n bytes) ≡ length bytes
  length-put zero a bytes within = refl
  length-put (suc n) a bytes within =
      length-put n (a + 1) (written bytes (first + 4 * a) (word (value a))) (fits-written a n bytes within)
      ∙ length-written bytes (first + 4 * a) (value a) (within a (omega arith))

  -- a byte of no such place
  pub put-other : (n a : ℕ) (bytes : List ℕ) (k : ℕ) → fits a n bytes → ((i : ℕ) → a ≤ i → i < a + n → (k < first + 4 * i) ⊎ (first + 4 * i + 2 ≤ k))
      → get_or (put a n bytes) k 0 ≡ get_or bytes k 0
  put-other zero a bytes k within apart = refl
  put-other (suc n) a bytes k within apart =
      put-other n (a + 1) (written bytes (first + 4 * a) (word (value a))) k (fits-written a n bytes within) (λ i from low. apart i (omega arith) (omega arith))
      ∙ get_or-written_other bytes (first + 4 * a) (value a) k (within a (omega arith)) (apart a (omega arith) (omega arith))

  -- a byte of one
  pub put-here : (n a : ℕ) (bytes : List ℕ) (i j : ℕ) → fits a n bytes → a ≤ i → i < a + n → j < 2 → get_or (put a n bytes) (first + 4 * i + j) 0 ≡ get_or (word (value i)) j 0
  put-here zero a bytes i j within from low little = absurd (omega arith)
  put-here (suc n) a bytes i j within from low little = elim (cases_eq i a) [
    | inl is ↦
        (let later : (q : ℕ) → a + 1 ≤ q → q < a + 1 + n → (first + 4 * i + j < first + 4 * q) ⊎ (first + 4 * q + 2 ≤ first + 4 * i + j) = λ q after before. inl (omega arith) in
        let there : ◌≡◌ {A = ℕ} (first + 4 * i + j) (first + 4 * a + j) = ap (λ (q : ℕ). first + 4 * q + j) is in
        put-other n (a + 1) (written bytes (first + 4 * a) (word (value a))) (first + 4 * i + j) (fits-written a n bytes within) later
        ∙ ap (λ (q : ℕ). get_or (written bytes (first + 4 * a) (word (value a))) q 0) there
        ∙ get_or-written_here bytes (first + 4 * a) (value a) j (within a (omega arith)) little
        ∙ ap (λ (q : ℕ). get_or (word (value q)) j 0) (sym is))
    | inr other ↦ put-here n (a + 1) (written bytes (first + 4 * a) (word (value a))) i j (fits-written a n bytes within) (omega arith) (omega arith) little
  ]

  -- the word at one
  pub word-put : (n : ℕ) (bytes : List ℕ) (i : ℕ) → fits 0 n bytes → i < n → value i < 65536 → word_at (put 0 n bytes) (first + 4 * i) ≡ value i
  word-put n bytes i within low few =
      let long = length-put n 0 bytes within in
      let room = within i (omega arith) in
      let here : get_or (put 0 n bytes) (first + 4 * i) 0 ≡ get_or (word (value i)) 0 0 =
      ap (λ (k : ℕ). get_or (put 0 n bytes) k 0) (sym (add-zero (first + 4 * i))) ∙ put-here n 0 bytes i 0 within (omega arith) (omega arith) (omega arith) in
      let next : get_or (put 0 n bytes) (first + 4 * i + 1) 0 ≡ get_or (word (value i)) 1 0 = put-here n 0 bytes i 1 within (omega arith) (omega arith) (omega arith) in
      same_word (put 0 n bytes) (word (value i)) (first + 4 * i) 0 (omega arith) (omega arith) here next ∙ word-back (value i) few

  -- a word of no such place
  pub word-apart : (n : ℕ) (bytes : List ℕ) (p : ℕ) → fits 0 n bytes → p + 2 ≤ length bytes → ((i : ℕ) → i < n → (p + 2 ≤ first + 4 * i) ⊎ (first + 4 * i + 2 ≤ p))
      → word_at (put 0 n bytes) p ≡ word_at bytes p
  word-apart n bytes p within room apart =
      let long = length-put n 0 bytes within in
      let byte : (k : ℕ) → p ≤ k → k < p + 2 → get_or (put 0 n bytes) k 0 ≡ get_or bytes k 0 = λ k from low. put-other n 0 bytes k within (λ i _ little. elim (apart i (omega arith)) [
        | inl before ↦ inl (omega arith)
        | inr behind ↦ inr (omega arith)
      ]) in
      same_word (put 0 n bytes) bytes p p (omega arith) room (byte p (omega arith) (omega arith)) (byte (p + 1) (omega arith) (omega arith))

-- The links of a body.

and_four : (a b c d : Bool) → (a && b && c && d) ≡ true → (a ≡ true) × (b ≡ true) × (c ≡ true) × (d ≡ true)
and_four true true true true h = (refl, refl, refl, refl)
and_four true true true false h = absurd (cc h)
and_four true true false d h = absurd (cc h)
and_four true false c d h = absurd (cc h)
and_four false b c d h = absurd (cc h)

from_four : (a b c d : Bool) → a ≡ true → b ≡ true → c ≡ true → d ≡ true → (a && b && c && d) ≡ true
from_four true true true true _ _ _ _ = refl
from_four true true true false _ _ _ h = absurd (cc h)
from_four true true false d _ _ h _ = absurd (cc h)
from_four true false c d _ h _ _ = absurd (cc h)
from_four false b c d h _ _ _ = absurd (cc h)

abbrev zero_word : List ℕ → ℕ → Bool
zero_word bytes i = word_at bytes (branches_at bytes + 4 * i) == 0

-- a body of a tree, and one of no tree
record IsBranched (bytes : List ℕ) : Type 0 where
  long : 6 ≤ length bytes
  behind : 6 ≤ branches_at bytes
  within : branches_at bytes + 4 * branch_count bytes ≤ length bytes
  zeros : list_all (zero_word bytes) (range_with_len 0 (branch_count bytes)) ≡ true
  count : link_count bytes ≡ branch_count bytes
  first : first_link bytes ≡ branches_at bytes + 2

record IsPlain (bytes : List ℕ) : Type 0 where
  long : 2 ≤ length bytes
  count : link_count bytes ≡ 1
  first : first_link bytes ≡ 0

branched : (bytes : List ℕ) → is_linked bytes ≡ true → is_tree bytes ≡ true → IsBranched bytes
branched bytes linked tree =
    let parts = and_parts (nat_le 2 (length bytes)) (cond (is_tree bytes) (has_branches bytes) true) linked in
    let four = and_four (nat_le 6 (length bytes)) (nat_le 6 (branches_at bytes)) (nat_le (branches_at bytes + 4 * branch_count bytes) (length bytes))
    (list_all (zero_word bytes) (range_with_len 0 (branch_count bytes))) (sym (cond-true (is_tree bytes) (has_branches bytes) true tree) ∙ parts.1) in record {
      long = leb-true 6 (length bytes) four.0;
      behind = leb-true 6 (branches_at bytes) four.1;
      within = leb-true (branches_at bytes + 4 * branch_count bytes) (length bytes) four.2;
      zeros = four.3;
      count = cond-true (is_tree bytes) (branch_count bytes) 1 tree;
      first = cond-true (is_tree bytes) (branches_at bytes + 2) 0 tree;
    }

plain : (bytes : List ℕ) → is_linked bytes ≡ true → is_tree bytes ≡ false → IsPlain bytes
plain bytes linked none =
    let parts = and_parts (nat_le 2 (length bytes)) (cond (is_tree bytes) (has_branches bytes) true) linked in record {
      long = leb-true 2 (length bytes) parts.0;
      count = cond-false (is_tree bytes) (branch_count bytes) 1 none;
      first = cond-false (is_tree bytes) (branches_at bytes + 2) 0 none;
    }

-- its links stand in it
pub links-fit : (bytes : List ℕ) → is_linked bytes ≡ true → (i : ℕ) → i < link_count bytes → first_link bytes + 4 * i + 2 ≤ length bytes
links-fit bytes linked i low = elim (cases_Bool (is_tree bytes)) [
  | inl tree ↦ (let b = branched bytes linked tree in let c = b.count in let f = b.first in let w = b.within in omega arith)
  | inr none ↦ (let b = plain bytes linked none in let c = b.count in let f = b.first in let l = b.long in omega arith)
]

-- A body's links renamed.
module _ (rename : ℕ → ℕ) (bytes : List ℕ) (sound : is_linked bytes ≡ true) (few : (x : ℕ) → rename x < tree_mark) where
  abbrev new : List ℕ
  new = relinked rename bytes

  abbrev value : ℕ → ℕ
  value i = rename (word_at bytes (link_place bytes i))

  within : fits (first_link bytes) value 0 (link_count bytes) bytes
  within i low = links-fit bytes sound i (omega arith)

  long : length new ≡ length bytes
  long = length-put (first_link bytes) value (link_count bytes) 0 bytes within

  pub word_here : (i : ℕ) → i < link_count bytes → word_at new (link_place bytes i) ≡ value i
  word_here i low = word-put (first_link bytes) value (link_count bytes) bytes i within low (let little = few (word_at bytes (link_place bytes i)) in omega arith)

  word_apart : (p : ℕ) → p + 2 ≤ length bytes → ((i : ℕ) → i < link_count bytes → (p + 2 ≤ first_link bytes + 4 * i) ⊎ (first_link bytes + 4 * i + 2 ≤ p)) → word_at new p ≡ word_at bytes p
  word_apart p room apart = word-apart (first_link bytes) value (link_count bytes) bytes p within room apart

  -- the links stand where they stood, in a body that a block of a chain can have
  pub record IsFramed : Type 0 where
    pub linked : is_linked new ≡ true
    pub count : link_count new ≡ link_count bytes
    pub first : first_link new ≡ first_link bytes

  framed-tree : is_tree bytes ≡ true → IsFramed
  framed-tree tree =
      let b = branched bytes sound tree in
      let c = b.count in let f = b.first in let w = b.within in let l = b.long in let behind = b.behind in let same_long = long in
      let mark : word_at new 0 ≡ word_at bytes 0 = word_apart 0 (omega arith) (λ i low. inl (omega arith)) in
      let at : branches_at new ≡ branches_at bytes = word_apart 2 (omega arith) (λ i low. inl (omega arith)) in
      let many : branch_count new ≡ branch_count bytes = word_apart 4 (omega arith) (λ i low. inl (omega arith)) in
      let still : is_tree new ≡ true = ap (λ (m : ℕ). m == tree_mark) mark ∙ tree in
      let zero_at : (j : ℕ) → j < branch_count bytes → zero_word new j ≡ zero_word bytes j = λ j low.
      ap (λ (p : ℕ). word_at new (p + 4 * j) == 0) at
      ∙ ap (λ (m : ℕ). m == 0) (word_apart (branches_at bytes + 4 * j) (omega arith) (λ i little. by_order i j f)) in
      let zeros : list_all (zero_word new) (range_with_len 0 (branch_count new)) ≡ true =
      ap (λ (n : ℕ). list_all (zero_word new) (range_with_len 0 n)) many ∙ same_all (zero_word new) (zero_word bytes) (branch_count bytes) 0 (λ j _ low. zero_at j (omega arith)) ∙ b.zeros in
      let branches : has_branches new ≡ true = from_four (nat_le 6 (length new)) (nat_le 6 (branches_at new)) (nat_le (branches_at new + 4 * branch_count new) (length new))
      (list_all (zero_word new) (range_with_len 0 (branch_count new)))
      (le-leb 6 (length new) (omega arith)) (le-leb 6 (branches_at new) (omega arith)) (le-leb (branches_at new + 4 * branch_count new) (length new) (omega arith)) zeros in record {
        linked = and_from (nat_le 2 (length new)) (cond (is_tree new) (has_branches new) true) (le-leb 2 (length new) (omega arith)) (cond-true (is_tree new) (has_branches new) true still ∙ branches);
        count = cond-true (is_tree new) (branch_count new) 1 still ∙ many ∙ sym c;
        first = cond-true (is_tree new) (branches_at new + 2) 0 still ∙ ap (λ (p : ℕ). p + 2) at ∙ sym f;
      }
    where
      by_order : (i j : ℕ) → first_link bytes ≡ branches_at bytes + 2 → (branches_at bytes + 4 * j + 2 ≤ first_link bytes + 4 * i) ⊎ (first_link bytes + 4 * i + 2 ≤ branches_at bytes + 4 * j)
      by_order i j f = elim (nat_le_cases j i) [
        | inl no_more ↦ inl (omega arith)
        | inr more ↦ inr (omega arith)
      ]

  framed-plain : is_tree bytes ≡ false → IsFramed
  framed-plain none =
      let b = plain bytes sound none in
      let c = b.count in let f = b.first in let l = b.long in let same_long = long in
      let place : link_place bytes 0 ≡ 0 = omega arith in
      let word : word_at new 0 ≡ value 0 = ap (word_at new) (sym place) ∙ word_here 0 (omega arith) in
      let little = few (word_at bytes (link_place bytes 0)) in
      let still : is_tree new ≡ false = unequal (word_at new 0) tree_mark (omega arith) in record {
        linked = and_from (nat_le 2 (length new)) (cond (is_tree new) (has_branches new) true) (le-leb 2 (length new) (omega arith)) (cond-false (is_tree new) (has_branches new) true still);
        count = cond-false (is_tree new) (branch_count new) 1 still ∙ sym c;
        first = cond-false (is_tree new) (branches_at new + 2) 0 still ∙ sym f;
      }

  pub framed : IsFramed
  framed = elim (cases_Bool (is_tree bytes)) [
    | inl tree ↦ framed-tree tree
    | inr none ↦ framed-plain none
  ]

  pub relinked-relinked : IsRelinked rename bytes new
  relinked-relinked = record {
    long = long;
    linked = framed.linked;
    count = framed.count;
    first = framed.first;
    words =
        ap₂ (λ (f n : ℕ). map (λ i. word_at new (f + 4 * i)) (range_with_len 0 n)) framed.first framed.count
        ∙ same_map (λ i. word_at new (link_place bytes i)) value (link_count bytes) 0 (λ i _ low. word_here i (omega arith))
        ∙ map-twice rename (λ i. word_at bytes (link_place bytes i)) (range_with_len 0 (link_count bytes));
    others = λ k apart. put-other (first_link bytes) value (link_count bytes) 0 bytes k within (λ i _ low. apart i (omega arith));
  }

-- Bodies relinked twice.

-- a place is in one of so many links or in none
placed : (first n k : ℕ) → ((i : ℕ) × (j : ℕ) × (i < n) × (j < 2) × (k ≡ first + 4 * i + j)) ⊎ ((i : ℕ) → i < n → (k < first + 4 * i) ⊎ (first + 4 * i + 2 ≤ k))
placed first zero k = inr (λ i low. absurd (omega arith))
placed first (suc n) k = elim (placed first n k) [
  | inl here ↦ inl (here.0, here.1, (let low = here.2 in omega arith), here.3, here.4)
  | inr apart ↦ elim (nat_le_cases (first + 4 * n) k) [
    | inr before ↦ inr (λ i low. elim (cases_eq i n) [
      | inl is ↦ inl (subst (λ (q : ℕ). k < first + 4 * q) (sym is) before)
      | inr other ↦ apart i (omega arith)
    ])
    | inl from ↦ elim (nat_le_cases (first + 4 * n + 2) k) [
      | inl behind ↦ inr (λ i low. elim (cases_eq i n) [
        | inl is ↦ inr (subst (λ (q : ℕ). first + 4 * q + 2 ≤ k) (sym is) behind)
        | inr other ↦ apart i (omega arith)
      ])
      | inr within ↦ inl (n, k - (first + 4 * n), omega arith, omega arith, omega arith)
    ]
  ]
]

-- The same words put at the same places of bytes that are the same elsewhere make the same bytes.
put_same : (first n : ℕ) (early late : ℕ → ℕ) (xs ys : List ℕ) → fits first early 0 n xs → length ys ≡ length xs → ((i : ℕ) → i < n → early i ≡ late i)
    → ((k : ℕ) → ((i : ℕ) → i < n → (k < first + 4 * i) ⊎ (first + 4 * i + 2 ≤ k)) → get_or ys k 0 ≡ get_or xs k 0)
    → put first early 0 n xs ≡ put first late 0 n ys
put_same first n early late xs ys within long same others =
    let within_late : fits first late 0 n ys = λ i low. (let room = within i low in omega arith) in
    let left = length-put first early n 0 xs within in
    let right = length-put first late n 0 ys within_late in
    ext_get_or 0 (put first early 0 n xs) (put first late 0 n ys) (left ∙ sym long ∙ sym right) (λ k low. elim (placed first n k) [
      | inl here ↦
          (let below = here.2 in
          ap (λ (q : ℕ). get_or (put first early 0 n xs) q 0) here.4
          ∙ put-here first early n 0 xs here.0 here.1 within (omega arith) (omega arith) here.3
          ∙ ap (λ (v : ℕ). get_or (word v) here.1 0) (same here.0 here.2)
          ∙ sym (put-here first late n 0 ys here.0 here.1 within_late (omega arith) (omega arith) here.3)
          ∙ ap (λ (q : ℕ). get_or (put first late 0 n ys) q 0) (sym here.4))
      | inr apart ↦
          put-other first early n 0 xs k within (λ i _ little. apart i (omega arith))
          ∙ sym (others k apart)
          ∙ sym (put-other first late n 0 ys k within_late (λ i _ little. apart i (omega arith)))
    ])

pub relinked_twice : (rename again both : ℕ → ℕ) (bytes : List ℕ) → is_linked bytes ≡ true → ((x : ℕ) → rename x < tree_mark)
    → ((i : ℕ) → i < link_count bytes → again (rename (word_at bytes (link_place bytes i))) ≡ both (word_at bytes (link_place bytes i)))
    → relinked again (relinked rename bytes) ≡ relinked both bytes
relinked_twice rename again both bytes sound few same =
    let new : List ℕ = relinked rename bytes in
    let frame = framed rename bytes sound few in
    let there : relinked again new ≡ put (first_link bytes) (λ i. again (word_at new (link_place bytes i))) 0 (link_count bytes) new =
    ap₂ (λ (f n : ℕ). put f (λ i. again (word_at new (f + 4 * i))) 0 n new) frame.first frame.count in
    let early : ℕ → ℕ = λ i. rename (word_at bytes (link_place bytes i)) in
    let fit : fits (first_link bytes) early 0 (link_count bytes) bytes = λ i low. links-fit bytes sound i (omega arith) in
    let long : length new ≡ length bytes = (relinked-relinked rename bytes sound few).long in
    there ∙ put_same (first_link bytes) (link_count bytes) (λ i. again (word_at new (link_place bytes i))) (λ i. both (word_at bytes (link_place bytes i))) new bytes
    (λ i low. let room = fit i low in omega arith) (sym long) (λ i low. ap again (word_here rename bytes sound few i low) ∙ same i low)
    (λ k apart. sym ((relinked-relinked rename bytes sound few).others k apart))

-- Two bodies that are the same with their links renamed, each by its own names.
pub record AreSameRelinked (left_name right_name : ℕ → ℕ) (left right : List ℕ) : Type 0 where
  pub long : length right ≡ length left
  pub count : link_count right ≡ link_count left
  pub first : first_link right ≡ first_link left
  pub alike : (i : ℕ) → i < link_count left → left_name (word_at left (link_place left i)) ≡ right_name (word_at right (link_place right i))
  pub others : (k : ℕ) → IsOfNoLink left k → get_or right k 0 ≡ get_or left k 0

module _ (left_name right_name : ℕ → ℕ) (left right : List ℕ) (left_sound : is_linked left ≡ true) (right_sound : is_linked right ≡ true) where
  pub same-relinked : AreSameRelinked left_name right_name left right → relinked left_name left ≡ relinked right_name right
  same-relinked same =
      put_same (first_link left) (link_count left) (λ i. left_name (word_at left (link_place left i))) (λ i. right_name (word_at right (first_link left + 4 * i))) left right
      (λ i low. links-fit left left_sound i (omega arith)) same.long
      (λ i low. same.alike i low ∙ ap (λ (f : ℕ). right_name (word_at right (f + 4 * i))) same.first) same.others
      ∙ sym (ap₂ (λ (f n : ℕ). put f (λ i. right_name (word_at right (f + 4 * i))) 0 n right) same.first same.count)

  pub relinked-same : ((x : ℕ) → left_name x < tree_mark) → ((x : ℕ) → right_name x < tree_mark) → relinked left_name left ≡ relinked right_name right
      → AreSameRelinked left_name right_name left right
  relinked-same left_few right_few same =
      let l = relinked-relinked left_name left left_sound left_few in
      let r = relinked-relinked right_name right right_sound right_few in
      let count : link_count right ≡ link_count left = sym r.count ∙ ap link_count (sym same) ∙ l.count in
      let first : first_link right ≡ first_link left = sym r.first ∙ ap first_link (sym same) ∙ l.first in record {
        long = sym r.long ∙ ap length (sym same) ∙ l.long;
        count = count;
        first = first;
        alike = λ i low.
            sym (word_here left_name left left_sound left_few i low)
            ∙ ap₂ (λ (bytes : List ℕ) (f : ℕ). word_at bytes (f + 4 * i)) same (sym first)
            ∙ word_here right_name right right_sound right_few i (omega arith);
        others = λ k apart.
            sym (r.others k (λ i low. subst (λ (f : ℕ). (k < f + 4 * i) ⊎ (f + 4 * i + 2 ≤ k)) (sym first) (apart i (omega arith))))
            ∙ ap (λ (bytes : List ℕ). get_or bytes k 0) (sym same)
            ∙ l.others k apart;
      }
