-- Room for bytes under any handle is a matter of how many they are, and no heap has room for very many.
use Rattle.std.proofs.Common.{◌≡◌, ℕ, ◌+◌, ◌≤◌, Ordering, Less, Equal, Greater, Bool, true, false, cond, List, [], ◌∷◌, ◌++◌, map, length, drop, Option, Some, is_some, unwrap_or, nat_le, nat_cmp, sum_by, refl, sym, ap, ◌∙◌, arith}
use Rattle.std.proofs.lemmas.Bool.{leb-true, eq-eqb}
use Rattle.std.proofs.lemmas.List.{append-nil, drop_all}
use Rattle.std.proofs.lemmas.List.Sums.{sum_by-cons}
use Rattle.std.specs.Ordering.{eq_by_cmp}
use Rattle.std.specs.Cmp.{nat_cmp_total, unsigned_tied}
use Rattle.std.specs.List.{splice}
use Rattle.std.specs.FinMap.{entries, get, insert, entries-insert, get-insert, same_map, nat_cmp-IsAntisymmetric, put}
use Rattle.geos_model.specs.Heap.{ChunkMap, chunk_bytes, space_of, table_len, need, fits, fits_with, is_chunk_handle, is_heap_map, capacity}
use Rattle.geos_model.proofs.HeapEdits.{heap-insert}
use Rattle.geos_model.proofs.HeapTables.{fits_with-fewer, space_of_ge}

abbrev space : List (ℕ × List ℕ) → ℕ
space es = sum_by (λ c. space_of (length c.1)) es

space-cons : (e : ℕ × List ℕ) (es : List (ℕ × List ℕ)) → space (e ∷ es) ≡ space_of (length e.1) + space es
space-cons e es = sum_by-cons (λ c. space_of (length c.1)) e es

-- Other bytes under a handle.
module _ (h : ℕ) (a b : List ℕ) where
  keys-order : (o : Ordering) (e : ℕ × List ℕ) (es : List (ℕ × List ℕ)) → nat_cmp h e.0 ≡ o → map (λ e. e.0) (put nat_cmp h a es) ≡ map (λ e. e.0) (put nat_cmp h b es)
      → map (λ e. e.0) (put nat_cmp h a (e ∷ es)) ≡ map (λ e. e.0) (put nat_cmp h b (e ∷ es))
  keys-order Less e es is rest = rw is refl
  keys-order Equal e es is rest = rw is refl
  keys-order Greater e es is rest = rw is (ap (λ (ks : List ℕ). e.0 ∷ ks) rest)

  -- leave the keys as they are
  keys-put : (es : List (ℕ × List ℕ)) → map (λ e. e.0) (put nat_cmp h a es) ≡ map (λ e. e.0) (put nat_cmp h b es)
  keys-put [] = refl
  keys-put (e ∷ es) = keys-order (nat_cmp h e.0) e es refl (keys-put es)

  space-order : (o : Ordering) (e : ℕ × List ℕ) (es : List (ℕ × List ℕ)) → nat_cmp h e.0 ≡ o → length a ≡ length b → space (put nat_cmp h a es) ≡ space (put nat_cmp h b es)
      → space (put nat_cmp h a (e ∷ es)) ≡ space (put nat_cmp h b (e ∷ es))
  space-order Less e es is same rest = rw is (space-cons (h, a) (e ∷ es) ∙ ap (λ (n : ℕ). space_of n + space (e ∷ es)) same ∙ sym (space-cons (h, b) (e ∷ es)))
  space-order Equal e es is same rest = rw is (space-cons (e.0, a) es ∙ ap (λ (n : ℕ). space_of n + space es) same ∙ sym (space-cons (e.0, b) es))
  space-order Greater e es is same rest = rw is (space-cons e (put nat_cmp h a es) ∙ ap (λ (n : ℕ). space_of (length e.1) + n) rest ∙ sym (space-cons e (put nat_cmp h b es)))

  -- and as many take as much space
  space-put : (es : List (ℕ × List ℕ)) → length a ≡ length b → space (put nat_cmp h a es) ≡ space (put nat_cmp h b es)
  space-put [] same = space-cons (h, a) [] ∙ ap (λ (n : ℕ). space_of n + space []) same ∙ sym (space-cons (h, b) [])
  space-put (e ∷ es) same = space-order (nat_cmp h e.0) e es refl same (space-put es same)

  pub fits_as : (m : ChunkMap) → length a ≡ length b → fits_with m h a ≡ fits_with m h b
  unfolding fits_with fits need
  fits_as m same =
      let keys_same : map (λ e. e.0) (entries (insert m h a)) ≡ map (λ e. e.0) (entries (insert m h b)) = ap (map (λ e. e.0)) (entries-insert nat_cmp_total m h a) ∙ keys-put (entries m) ∙ ap (map (λ e. e.0)) (sym (entries-insert nat_cmp_total m h b)) in
      let space_same : space (entries (insert m h a)) ≡ space (entries (insert m h b)) = ap space (entries-insert nat_cmp_total m h a) ∙ space-put (entries m) same ∙ ap space (sym (entries-insert nat_cmp_total m h b)) in
      let needed : need (insert m h a) ≡ need (insert m h b) = omega (arith, ap table_len keys_same, space_same) in
      ap (λ (n : ℕ). nat_le n capacity) needed

-- Bytes take no less space than they are.
module _ (h : ℕ) (b : List ℕ) where
  within-order : (o : Ordering) (e : ℕ × List ℕ) (es : List (ℕ × List ℕ)) → nat_cmp h e.0 ≡ o → length b ≤ space (put nat_cmp h b es) → length b ≤ space (put nat_cmp h b (e ∷ es))
  within-order Less e es is rest = rw is (let t = space-cons (h, b) (e ∷ es) in omega (arith, t, space_of_ge (length b)))
  within-order Equal e es is rest = rw is (let t = space-cons (e.0, b) es in omega (arith, t, space_of_ge (length b)))
  within-order Greater e es is rest = rw is (let t = space-cons e (put nat_cmp h b es) in omega (arith, t, rest))

  within-put : (es : List (ℕ × List ℕ)) → length b ≤ space (put nat_cmp h b es)
  within-put [] = let t = space-cons (h, b) [] in omega (arith, t, space_of_ge (length b))
  within-put (e ∷ es) = within-order (nat_cmp h e.0) e es refl (within-put es)

  pub fits_few : (m : ChunkMap) → fits_with m h b ≡ true → length b ≤ capacity
  unfolding fits_with fits need
  fits_few m fit =
      let most : need (insert m h b) ≤ capacity = leb-true _ _ fit in
      let part : length b ≤ space (entries (insert m h b)) = omega (arith, ap space (entries-insert nat_cmp_total m h b), within-put (entries m)) in
      omega (arith, most, part)

-- A chunk that was put in, and written over.

pub get-put : (m : ChunkMap) (h : ℕ) (b : List ℕ) → get (insert m h b) h ≡ Some b
get-put m h b = get-insert nat_cmp_total m h b h ∙ ap (λ (t : Bool). cond t (Some b) (get m h)) (unsigned_tied h h ∙ eq-eqb h h refl)

pub bytes-put : (m : ChunkMap) (h : ℕ) (b : List ℕ) → chunk_bytes (insert m h b) h ≡ b
bytes-put m h b = ap (λ (o : Option (List ℕ)). unwrap_or o []) (get-put m h b)

over : (t : Bool) (a b : List ℕ) (o : Option (List ℕ)) → cond t (Some b) (cond t (Some a) o) ≡ cond t (Some b) o
over true a b o = refl
over false a b o = refl

pub put_again : (m : ChunkMap) (h : ℕ) (a b : List ℕ) → insert (insert m h a) h b ≡ insert m h b
put_again m h a b =
    same_map nat_cmp_total nat_cmp-IsAntisymmetric _ _ (λ q.
    get-insert nat_cmp_total (insert m h a) h b q ∙ ap (cond (eq_by_cmp nat_cmp q h) (Some b)) (get-insert nat_cmp_total m h a q)
    ∙ over (eq_by_cmp nat_cmp q h) a b (get m q) ∙ sym (get-insert nat_cmp_total m h b q))

-- fewer bytes fit where more do
pub fits_fewer : (m : ChunkMap) (h : ℕ) (a b : List ℕ) → is_heap_map m ≡ true → is_chunk_handle h ≡ true → fits_with m h a ≡ true → length b ≤ length a → fits_with m h b ≡ true
unfolding fits_with
fits_fewer m h a b heap handle room fewer =
    let put : get (insert m h a) h ≡ Some a = get-put m h a in
    let few : length b ≤ length (chunk_bytes (insert m h a) h) = omega (arith, fewer, ap length (bytes-put m h a)) in
    ap fits (sym (put_again m h a b)) ∙ fits_with-fewer (insert m h a) h b (heap-insert m h a heap handle room) (ap is_some put) few

pub filled : (m : ChunkMap) (h : ℕ) (a b : List ℕ) → length a ≡ length b → insert (insert m h a) h (splice (chunk_bytes (insert m h a) h) 0 (0 + length b) b) ≡ insert m h b
filled m h a b same =
    ap (λ (n : ℕ). insert (insert m h a) h (b ++ drop n (chunk_bytes (insert m h a) h))) (let e : 0 + length b ≡ length b = omega arith in e)
    ∙ ap (λ (x : List ℕ). insert (insert m h a) h (b ++ drop (length b) x)) (bytes-put m h a)
    ∙ ap (λ (x : List ℕ). insert (insert m h a) h (b ++ x)) (drop_all (length b) a (omega arith))
    ∙ ap (insert (insert m h a) h) (append-nil b)
    ∙ put_again m h a b
