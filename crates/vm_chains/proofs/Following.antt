-- What a block links to, by its first word, or by its bytes.
use Rattle.std.proofs.Common.{◌≡◌, ◌≢◌, ◌≤◌, ℕ, Bool, true, false, not, cond, ◌==◌, ◌||◌, ◌&&◌, nat_lt, List, ◌∷◌, ◌++◌, Some, None, length, Option, refl, sym, ap, ◌∙◌, inl, inr}
use Rattle.std.proofs.lemmas.Bool.{and_from, cases_Bool, cond-true, cond-false, ltb-false, ne_eqb, or_parts}
use Rattle.std.specs.FinMap.{get}
use Rattle.std.specs.Option.{option_map_or}
use Rattle.geos_model.specs.Chain.{is_linked, is_member, links, relinked, tree_mark}
use Rattle.geos_model.specs.Document.{Block, Document, is_heap, is_heap_body, is_raw, raw_bytes_of}
use Rattle.geos_model.specs.Words.{word_at}
use Rattle.document_file.specs.Fronts.{first_word}
use Rattle.vm_chains.specs.Alike.{mark_of}
use Rattle.vm_chains.specs.Walking.{GoesOn}
use Rattle.vm_chains.proofs.LinkLemmas.{one_linked, one_pushed}
use Rattle.vm_chains.proofs.WalkLemmas.{and_false}

word_of : (summed : Bool) (bytes : List ℕ) (w : ℕ) → first_word summed bytes ≡ Some w → (2 ≤ length bytes) × (w ≡ word_at bytes 0)
word_of summed bytes w is = elim (cases_Bool (summed || nat_lt (length bytes) 2)) as (λ _. (2 ≤ length bytes) × (w ≡ word_at bytes 0)) [
  | inl none ↦ (let e : None ≡ Some w = sym (cond-true _ _ _ none) ∙ is in absurd (cc e))
  | inr some ↦
      (let e : Some (word_at bytes 0) ≡ Some w = sym (cond-false _ _ _ some) ∙ is in
      let same : word_at bytes 0 ≡ w = cc e in
      (ltb-false (length bytes) 2 (or_parts summed (nat_lt (length bytes) 2) some).1, sym same))
]

pub goes_on_by_word : (d : Document) (h : ℕ) (summed : Bool) (w : ℕ) (old new : List ℕ) → is_raw d h ≡ true → Some w ≡ first_word summed (raw_bytes_of d h) → w ≢ tree_mark → new ≡ cond (not (w == 0)) (w ∷ old) old → GoesOn d h old new
goes_on_by_word d h summed w old new raw is other pushed =
    let bytes : List ℕ = raw_bytes_of d h in
    let word = word_of summed bytes w (sym is) in
    let plain : (w == tree_mark) ≡ false = ne_eqb w tree_mark other in
    record { member = and_from (is_raw d h) (is_linked bytes) raw (one_linked bytes w word.1 plain word.0); pending = pushed ∙ one_pushed bytes w word.1 plain old }

module _ (d : Document) (h : ℕ) (bytes : List ℕ) (is : bytes ≡ raw_bytes_of d h) where
  -- its links, and its bytes with a mark for each of them
  pub goes_on_marked : (old new items : List ℕ) → is_raw d h ≡ true → is_linked bytes ≡ true → new ≡ links bytes ++ old → items ≡ relinked mark_of bytes → GoesOn d h old new × (items ≡ relinked mark_of (raw_bytes_of d h))
  goes_on_marked old new items raw linked pushed marked =
      (record { member = and_from (is_raw d h) (is_linked (raw_bytes_of d h)) raw (ap is_linked (sym is) ∙ linked); pending = pushed ∙ ap (λ (xs : List ℕ). links xs ++ old) is }, marked ∙ ap (λ (xs : List ℕ). relinked mark_of xs) is)

  -- it has none
  pub goes_nowhere : is_linked bytes ≡ false → is_member d h ≡ false
  goes_nowhere none = ap (λ (l : Bool). is_raw d h && l) (ap is_linked (sym is) ∙ none) ∙ and_false (is_raw d h)

-- no heap is one of a chain
pub heap_nowhere : (d : Document) (h : ℕ) → is_heap d h ≡ true → is_member d h ≡ false
heap_nowhere d h heap = ap (λ (b : Bool). b && is_linked (raw_bytes_of d h)) (by (get d.blocks h) heap)
  where
    by : (o : Option Block) → option_map_or (λ (b : Block). is_heap_body b.body) o false ≡ true → option_map_or (λ (b : Block). not (is_heap_body b.body)) o false ≡ false
    by None is = refl
    by (Some b) is = ap not is
