-- Links that are gone through one by one.
use Rattle.std.proofs.Common.{◌≡◌, ℕ, ◌+◌, ◌-◌, ◌*◌, ◌<◌, ◌≤◌, Bool, true, false, nat_le, ◌&&◌, List, [], ◌∷◌, ◌++◌, length, not, cond, ◌==◌, map, refl, sym, ap, ◌∙◌, arith, le-leb}
use Rattle.std.specs.Prelude.{if◌then◌else◌}
use Rattle.std.specs.List.{range_with_len, filter, fold}
use Rattle.geos_model.specs.Bytes.{written}
use Rattle.geos_model.specs.Words.{word, word_at}
use Rattle.geos_model.specs.Chain.{branch_count, branches_at, has_branches, is_linked, is_tree, link_place, link_count, links, relinked, tree_mark}
use Rattle.vm_chains.proofs.Ranges.{range_next, range_done}

-- the links from a place on, of so many in all
abbrev pub links_from : List ℕ → ℕ → ℕ → List ℕ
links_from bytes i n = filter (λ h. not (h == 0)) (map (λ k. word_at bytes (link_place bytes k)) (range_with_len i (n - i)))

pub all_links : (bytes : List ℕ) (n : ℕ) → n ≡ link_count bytes → links_from bytes 0 n ≡ links bytes
all_links bytes n is = ap (λ (k : ℕ). filter (λ h. not (h == 0)) (map (λ k. word_at bytes (link_place bytes k)) (range_with_len 0 k))) (let e : n - 0 ≡ n = omega arith in e ∙ is)

pub no_links : (bytes : List ℕ) (n : ℕ) → links_from bytes n n ≡ []
no_links bytes n = ap (λ (ks : List ℕ). filter (λ h. not (h == 0)) (map (λ k. word_at bytes (link_place bytes k)) ks)) (range_done n n (omega arith))

pushed : (b : Bool) (w : ℕ) (xs rest : List ℕ) → cond b (w ∷ xs) xs ++ rest ≡ cond b (w ∷ (xs ++ rest)) (xs ++ rest)
pushed true w xs rest = refl
pushed false w xs rest = refl

module _ (bytes : List ℕ) (i j n w : ℕ) (next : i + 1 ≡ j) (within : j ≤ n) (is : w ≡ word_at bytes (link_place bytes i)) where
  split : links_from bytes i n ≡ cond (not (w == 0)) (w ∷ links_from bytes j n) (links_from bytes j n)
  split =
      ap (λ (ks : List ℕ). filter (λ h. not (h == 0)) (map (λ k. word_at bytes (link_place bytes k)) ks)) (range_next i n (omega arith))
      ∙ (λ t. let v = sym is in cond (not (v t == 0)) (v t ∷ links_from bytes (next t) n) (links_from bytes (next t) n))

  -- it is put before them, and before others
  pub link_pushed : (rest : List ℕ) → cond (not (w == 0)) (w ∷ (links_from bytes j n ++ rest)) (links_from bytes j n ++ rest) ≡ links_from bytes i n ++ rest
  link_pushed rest = sym (ap (λ (xs : List ℕ). xs ++ rest) split ∙ pushed (not (w == 0)) w (links_from bytes j n) rest)

-- The link of a block that is no tree.

module _ (bytes : List ℕ) (w : ℕ) (is : w ≡ word_at bytes 0) (other : (w == tree_mark) ≡ false) where
  plain : is_tree bytes ≡ false
  plain = ap (λ (n : ℕ). n == tree_mark) (sym is) ∙ other

  pub one_linked : 2 ≤ length bytes → is_linked bytes ≡ true
  one_linked enough = (λ i. nat_le 2 (length bytes) && (if plain i then has_branches bytes else true)) ∙ ap (λ (b : Bool). b && true) (le-leb 2 (length bytes) enough)

  one_link : links bytes ≡ cond (not (w == 0)) (w ∷ []) []
  one_link =
      (λ i. filter (λ h. not (h == 0)) (map (λ k. word_at bytes ((if plain i then branches_at bytes + 2 else 0) + 4 * k)) (range_with_len 0 (if plain i then branch_count bytes else 1))))
      ∙ ap (λ (v : ℕ). cond (not (v == 0)) (v ∷ []) []) (sym is)

  pub one_pushed : (rest : List ℕ) → cond (not (w == 0)) (w ∷ rest) rest ≡ links bytes ++ rest
  one_pushed rest = sym (ap (λ (xs : List ℕ). xs ++ rest) one_link ∙ pushed (not (w == 0)) w [] rest)

-- bytes in which the links of a body from a place on are renamed, of so many in all
abbrev pub relinked_from : (ℕ → ℕ) → List ℕ → ℕ → ℕ → List ℕ → List ℕ
relinked_from rename body i n bytes =
    fold (λ new k. let at = link_place body k in written new at (word (rename (word_at body at)))) bytes (range_with_len i (n - i))

pub all_renamed : (rename : ℕ → ℕ) (body bytes : List ℕ) (n : ℕ) → n ≡ link_count body → bytes ≡ body → relinked_from rename body 0 n bytes ≡ relinked rename body
all_renamed rename body bytes n is same =
    let e : n - 0 ≡ link_count body = omega (arith, is) in
    λ t. fold (λ new k. let at = link_place body k in written new at (word (rename (word_at body at)))) (same t) (range_with_len 0 (e t))

pub none_renamed : (rename : ℕ → ℕ) (body bytes : List ℕ) (i n : ℕ) → n ≤ i → relinked_from rename body i n bytes ≡ bytes
none_renamed rename body bytes i n past =
    ap (λ (ks : List ℕ). fold (λ new k. let at = link_place body k in written new at (word (rename (word_at body at)))) bytes ks) (range_done i n past)

pub next_renamed : (rename : ℕ → ℕ) (body bytes : List ℕ) (i n : ℕ) → i < n → relinked_from rename body i n bytes ≡ relinked_from rename body (i + 1) n (written bytes (link_place body i) (word (rename (word_at body (link_place body i)))))
next_renamed rename body bytes i n within =
    ap (λ (ks : List ℕ). fold (λ new k. let at = link_place body k in written new at (word (rename (word_at body at)))) bytes ks) (range_next i n within)
