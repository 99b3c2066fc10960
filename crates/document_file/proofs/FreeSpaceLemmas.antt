-- The free space of a file: which extents are taken, in any order.
use Rattle.std.proofs.Common.{◌≡◌, ℕ, zero, suc, ◌+◌, ◌<◌, List, [], ◌∷◌, ◌++◌, Option, None, Some, length, get_or, set, refl, sym, ap, subst, ◌∙◌, arith, length-append}
use Rattle.std.specs.Prelude.{IfSome}
use Rattle.std.specs.List.Sorted.{IsPermutation}
use Rattle.std.proofs.lemmas.List.{append_assoc}
use Rattle.std.proofs.lemmas.List.Sorted.{IsPermutation-sym, IsPermutation-trans, IsPermutation-middle, IsPermutation-append_comm, IsPermutation-append_left, IsPermutation-append_right}
use Rattle.file_format.specs.declared.file.Extent.{Extent}
use Rattle.file_space.specs.Placing.{IsLength}
use Rattle.file_space.specs.Space.{Space, AreTaken}
use Rattle.file_space.proofs.SpaceLemmas.{taken-permuted}
use Rattle.document_file.specs.FreeSpace.{IsSpaceOf, MarksTaken}
use Rattle.document_file.specs.Ranges.{IsPlaced}
use Rattle.document_file.specs.Slots.{block_extents}
use Rattle.document_file.specs.declared.table.Place.{Place}

-- Lists in another order.

-- the first two parts change places
pub swapped : {X : Type 0} (xs ys zs : List X) → IsPermutation (xs ++ (ys ++ zs)) (ys ++ (xs ++ zs))
swapped xs ys zs = subst (λ l. IsPermutation l (ys ++ (xs ++ zs))) (append_assoc xs ys zs) (subst (λ l. IsPermutation ((xs ++ ys) ++ zs) l) (append_assoc ys xs zs) (IsPermutation-append_left zs (xs ++ ys) (ys ++ xs) (IsPermutation-append_comm xs ys)))

pub one_block : (o : Option Place) (places : List (Option Place)) → block_extents (o ∷ places) ≡ block_extents (o ∷ []) ++ block_extents places
one_block None places = refl
one_block (Some p) places = refl

-- a place of a table is written over: its extent makes room for the other
pub block_set : (places : List (Option Place)) (at : ℕ) (o : Option Place) → at < length places → IsPermutation (block_extents (o ∷ []) ++ block_extents places) (block_extents (get_or places at None ∷ []) ++ block_extents (set places at o))
block_set [] at o l = absurd (omega (arith, l))
block_set (x ∷ xs) zero o l =
    subst (λ b. IsPermutation (block_extents (o ∷ []) ++ b) (block_extents (x ∷ []) ++ block_extents (o ∷ xs))) (sym (one_block x xs))
    (subst (λ b. IsPermutation (block_extents (o ∷ []) ++ (block_extents (x ∷ []) ++ block_extents xs)) (block_extents (x ∷ []) ++ b)) (sym (one_block o xs)) (swapped (block_extents (o ∷ [])) (block_extents (x ∷ [])) (block_extents xs)))
block_set (x ∷ xs) (suc at) o l =
    let here : List Extent = block_extents (o ∷ []) in
    let first : List Extent = block_extents (x ∷ []) in
    let gone : List Extent = block_extents (get_or xs at None ∷ []) in
    let now : List Extent = block_extents (set xs at o) in
    let rest : IsPermutation (here ++ block_extents xs) (gone ++ now) = block_set xs at o (omega (arith, l)) in
    subst (λ b. IsPermutation (here ++ b) (gone ++ block_extents (x ∷ set xs at o))) (sym (one_block x xs))
    (subst (λ b. IsPermutation (here ++ (first ++ block_extents xs)) (gone ++ b)) (sym (one_block x (set xs at o)))
    (IsPermutation-trans (here ++ (first ++ block_extents xs)) (first ++ (here ++ block_extents xs)) (gone ++ (first ++ now)) (swapped here first (block_extents xs))
    (IsPermutation-trans (first ++ (here ++ block_extents xs)) (first ++ (gone ++ now)) (gone ++ (first ++ now)) (IsPermutation-append_right first (here ++ block_extents xs) (gone ++ now) rest) (swapped first gone now))))

-- a user ID changes no extent
pub same_extents : (places : List (Option Place)) (at : ℕ) (place new : Place) → get_or places at None ≡ Some place → new.extent ≡ place.extent → block_extents (set places at (Some new)) ≡ block_extents places
same_extents [] at place new is same = refl
same_extents (x ∷ xs) zero place new is same = ap (λ (e : Extent). e ∷ block_extents xs) same ∙ sym (ap (λ (o : Option Place). block_extents (o ∷ xs)) is)
same_extents (x ∷ xs) (suc at) place new is same = one_block x (set xs at (Some new)) ∙ ap (λ (l : List Extent). block_extents (x ∷ []) ++ l) (same_extents xs at place new is same) ∙ sym (one_block x xs)

-- What is known.

pub known-permuted : (xs ys : List Extent) (space : Option Space) → IsPermutation xs ys → IsSpaceOf xs space → IsSpaceOf ys space
known-permuted xs ys None same known = tt
known-permuted xs ys (Some s) same known = taken-permuted xs ys s same known

-- and so there is one whose rest is this
pub known_rest : (xs rest : List Extent) (space : Option Space) → IsSpaceOf (xs ++ rest) space → IfSome space (λ s. (more : List Extent) × AreTaken (xs ++ more) s)
known_rest xs rest None known = tt
known_rest xs rest (Some s) known = (rest, known)

-- One of the extents that were taken for blocks goes into the table, and what was there is to be given back.
pub known-put : (places : List (Option Place)) (at : ℕ) (e : Extent) (p : Place) (extents kept : List Extent) (space : Option Space) → at < length places → p.extent ≡ e → IsSpaceOf ((e ∷ extents) ++ (block_extents places ++ kept)) space
    → IsSpaceOf (block_extents (get_or places at None ∷ []) ++ (extents ++ (block_extents (set places at (Some p)) ++ kept))) space
known-put places at e p extents kept space l is known =
    let gone : List Extent = block_extents (get_or places at None ∷ []) in
    let old : List Extent = block_extents places in
    let now : List Extent = block_extents (set places at (Some p)) in
    let set_in : IsPermutation (e ∷ old) (gone ++ now) = subst (λ (x : Extent). IsPermutation (x ∷ old) (gone ++ now)) is (block_set places at (Some p) l) in
    let with_kept : IsPermutation (e ∷ (old ++ kept)) (gone ++ (now ++ kept)) = subst (λ m. IsPermutation (e ∷ (old ++ kept)) m) (append_assoc gone now kept) (IsPermutation-append_left kept (e ∷ old) (gone ++ now) set_in) in
    known-permuted (e ∷ (extents ++ (old ++ kept))) (gone ++ (extents ++ (now ++ kept))) space
    (IsPermutation-trans (e ∷ (extents ++ (old ++ kept))) (extents ++ (e ∷ (old ++ kept))) (gone ++ (extents ++ (now ++ kept)))
    (IsPermutation-sym (extents ++ e ∷ (old ++ kept)) (e ∷ (extents ++ (old ++ kept))) (IsPermutation-middle extents e (old ++ kept)))
    (IsPermutation-trans (extents ++ (e ∷ (old ++ kept))) (extents ++ (gone ++ (now ++ kept))) (gone ++ (extents ++ (now ++ kept)))
    (IsPermutation-append_right extents (e ∷ (old ++ kept)) (gone ++ (now ++ kept)) with_kept)
    (swapped extents gone (now ++ kept)))) known

-- A block is taken out.
pub known-removed : (places : List (Option Place)) (at : ℕ) (kept : List Extent) (space : Option Space) → at < length places → IsSpaceOf (block_extents places ++ kept) space → IsSpaceOf (block_extents (get_or places at None ∷ []) ++ (block_extents (set places at None) ++ kept)) space
known-removed places at kept space l known =
    let gone : List Extent = block_extents (get_or places at None ∷ []) in
    let now : List Extent = block_extents (set places at None) in
    known-permuted (block_extents places ++ kept) (gone ++ (now ++ kept)) space (subst (λ m. IsPermutation (block_extents places ++ kept) m) (append_assoc gone now kept) (IsPermutation-append_left kept (block_extents places) (gone ++ now) (block_set places at None l))) known

-- More is taken.

pub takes-none : (space : Space) → MarksTaken [] space space
takes-none space = record { count = omega arith; taken = λ taken are. are }

pub takes-one : (xs : List Extent) (e : Extent) (a b c : Space) → MarksTaken xs a b → c.count ≡ b.count + 1 → ((taken : List Extent) → AreTaken taken b → AreTaken (e ∷ taken) c) → MarksTaken (xs ++ e ∷ []) a c
takes-one xs e a b c first count held = record {
  count = (let long = length-append xs (e ∷ []) in let was = first.count in omega (arith, long, was, count));
  taken = λ taken are.
      subst (λ l. AreTaken l c) (sym (append_assoc xs (e ∷ []) taken)) (taken-permuted (e ∷ (xs ++ taken)) (xs ++ e ∷ taken) c (IsPermutation-sym (xs ++ e ∷ taken) (e ∷ (xs ++ taken)) (IsPermutation-middle xs e taken)) (held (xs ++ taken) (first.taken taken are)));
}

pub takes-first : (xs : List Extent) (e : Extent) (a b c : Space) → MarksTaken xs a b → c.count ≡ b.count + 1 → ((taken : List Extent) → AreTaken taken b → AreTaken (e ∷ taken) c) → MarksTaken (e ∷ xs) a c
takes-first xs e a b c first count held = record {
  count = (let was = first.count in omega (arith, was, count));
  taken = λ taken are. held (xs ++ taken) (first.taken taken are);
}

pub takes-both : (xs ys : List Extent) (a b c : Space) → MarksTaken ys a b → MarksTaken xs b c → MarksTaken (xs ++ ys) a c
takes-both xs ys a b c first second = record {
  count = (let long = length-append xs ys in let one = first.count in let two = second.count in omega (arith, long, one, two));
  taken = λ taken are. subst (λ l. AreTaken l c) (sym (append_assoc xs ys taken)) (second.taken (ys ++ taken) (first.taken taken are));
}

-- an extent that can be, as the free space asks
pub placed_length : (e : Extent) → IsPlaced e → IsLength e.length
placed_length e placed = (placed.some, (let short = placed.short in omega (arith, short)))
