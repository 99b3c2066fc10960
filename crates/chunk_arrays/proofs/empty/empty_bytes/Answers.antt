use Rattle.std.proofs.Common.{◌≡◌, ◌+◌, ◌++◌, ◌∙◌, ◌==◌, ℕ, List, [], length, ap, sym, refl, inl, inr, append-nil}
use Rattle.std.proofs.lemmas.Bool.{cases_Bool}
use Rattle.geos_model.specs.Array.{Array, array_bytes}
use Rattle.geos_model.specs.Words.{word}
use Rattle.geos_model.proofs.Arrays.{array_bytes-spelled, head_of, table_of}
use Rattle.chunk_arrays.proofs.empty.empty_bytes.Goals as goal

-- a table without places
no_table : (a : Array) → a.elements ≡ [] → table_of a ≡ []
no_table a none = elim (cases_Bool (a.size == 0)) [
  | inl any ↦ rw (any, none) refl
  | inr one ↦ rw one refl
]

-- the bytes of an array without elements are its header and its extra bytes
spelled_short : (size : ℕ) (extra : List ℕ) → let a : Array = record { extra = extra; size = size; elements = [] } in array_bytes a ≡ head_of a ++ extra
spelled_short size extra =
    let a : Array = record { extra = extra; size = size; elements = [] } in
    array_bytes-spelled a ∙ ap (λ (l : List ℕ). head_of a ++ (extra ++ (l ++ []))) (no_table a refl) ∙ ap (λ (l : List ℕ). head_of a ++ l) (append-nil extra)

pub returns : goal.returns
returns c =
    c.in_ok-extend_from_slice.ensures.items
    ∙ ap (λ (l : List ℕ). l ++ c.args.extra.now) c.in_ok-push_header.ensures
    ∙ ap (λ (l : List ℕ). (l ++ (word 0 ++ word c.args.size ++ word 0 ++ word (8 + length c.args.extra.now))) ++ c.args.extra.now) c.in_ok-bytes.ensures.items
    ∙ sym (spelled_short c.args.size c.args.extra.now)
