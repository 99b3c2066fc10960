-- Blocks that are put in or taken out one after another.
use Rattle.std.proofs.Common.{◌≡◌, ◌≢◌, ℕ, List, [], ◌∷◌, true, map, get_or, Some, None, nat_cmp, refl, sym, ap, subst, ◌∙◌, arith}
use Rattle.std.proofs.lemmas.List.{length-map, get_or-map}
use Rattle.std.proofs.lemmas.List.Elements.{All-nil, All-cons, All-head, All-tail}
use Rattle.std.specs.List.{All, Contains}
use Rattle.std.specs.FinMap.{FinMap, get}
use Rattle.geos_model.specs.ElementArray.{all_distinct}
use Rattle.geos_model.specs.Document.{Block, Document, IsValid, is_vm_handle, with_block, without_block, with_blocks, handles_of, without_blocks}
use Rattle.geos_model.proofs.BlockLists.{distinct-first, distinct-rest, taken_elsewhere}
use Rattle.geos_model.proofs.Chains.{contains_first, contains_later}
use Rattle.geos_model.proofs.HeapEdits.{get-taken_same}
use Rattle.geos_model.proofs.Validity.{without_block-valid}
use Rattle.vm_blocks.proofs.MapLemmas.{put_taken, taken_put, put_past_taken}
use Rattle.document_file.specs.Members.{imaged_block, imaged_blocks}
use Rattle.vm_blocks.specs.State.{ResidentBlock, locks_of}
use Rattle.vm_blocks.specs.Changes.{AreFree, CanRemoveAll, IsFreeHandle}
use Rattle.vm_blocks.specs.Preparing.{CanRemoveByHandle}
use Rattle.document_file.specs.declared.member.Member.{Member}

-- What holds of each of a list that is made of another.
pub All-from_map : {X Y : Type 0} (P : X → Type 0) (f : Y → X) (ys : List Y) → All P (map f ys) → All (λ y. P (f y)) ys
All-from_map P f ys all = λ i y within. subst P (get_or-map f ys i y (f y) within) (all i (f y) (omega (arith, within, length-map ys f)))

-- Handles of which none is there twice.

abbrev pub IsAbsent : ℕ → List ℕ → Type 0
IsAbsent h hs = Contains hs h → ⊥

is_other : (h k : ℕ) (hs : List ℕ) → IsAbsent h (k ∷ hs) → h ≢ k
is_other h k hs absent = λ is. absent (subst (Contains (k ∷ hs)) (sym is) (contains_first k hs))

is_later : (h k : ℕ) (hs : List ℕ) → IsAbsent h (k ∷ hs) → IsAbsent h hs
is_later h k hs absent = λ there. absent (contains_later k hs h there)

-- One block.

swapped : (d : Document) (h k : ℕ) (b : Block) → h ≢ k → with_block (without_block d k) h b ≡ without_block (with_block d h b) k
swapped d h k b other = ap (λ (m : FinMap nat_cmp Block). record d { blocks = m }) (put_past_taken d.blocks h k b other)

taken_after : (d : Document) (h : ℕ) (b : Block) → get d.blocks h ≡ None → without_block (with_block d h b) h ≡ d
taken_after d h b free = ap (λ (m : FinMap nat_cmp Block). record d { blocks = m }) (taken_put d.blocks h b free)

put_after : (d : Document) (h : ℕ) (b : Block) → get d.blocks h ≡ Some b → with_block (without_block d h) h b ≡ d
put_after d h b there = ap (λ (m : FinMap nat_cmp Block). record d { blocks = m }) (put_taken d.blocks h b there)

-- Under a handle that none of them has.

pub put_later : (d : Document) (hs : List ℕ) (h : ℕ) (b : Block) → IsAbsent h hs → with_block (without_blocks d hs) h b ≡ without_blocks (with_block d h b) hs
put_later d [] h b absent = refl
put_later d (k ∷ hs) h b absent =
    put_later (without_block d k) hs h b (is_later h k hs absent) ∙ ap (λ (x : Document). without_blocks x hs) (swapped d h k b (is_other h k hs absent))

taken_later : (d : Document) (ps : List (ℕ × Block)) (h : ℕ) → IsAbsent h (handles_of ps) → without_block (with_blocks d ps) h ≡ with_blocks (without_block d h) ps
taken_later d [] h absent = refl
taken_later d (p ∷ ps) h absent =
    taken_later (with_block d p.0 p.1) ps h (is_later h p.0 (handles_of ps) absent)
    ∙ ap (λ (x : Document). with_blocks x ps) (sym (swapped d p.0 h p.1 (λ is. is_other h p.0 (handles_of ps) absent (sym is))))

-- The document stays valid.

pub taken_valid : (d : Document) (hs : List ℕ) → IsValid d → All (λ h. d.map_block ≢ h) hs → IsValid (without_blocks d hs)
taken_valid d [] valid others = valid
taken_valid d (h ∷ hs) valid others =
    taken_valid (without_block d h) hs (without_block-valid d h valid (All-head (λ h. d.map_block ≢ h) h hs others)) (All-tail (λ h. d.map_block ≢ h) h hs others)

-- Where something was taken out there is nothing.

pub taken_gone : (d : Document) (hs : List ℕ) → all_distinct hs ≡ true → All (λ h. get (without_blocks d hs).blocks h ≡ None) hs
taken_gone d [] once = All-nil (λ h. get d.blocks h ≡ None)
taken_gone d (h ∷ hs) once =
    let less : Document = without_block d h in
    All-cons (λ k. get (without_blocks less hs).blocks k ≡ None) h hs
    (taken_elsewhere less hs h (distinct-first h hs once) ∙ get-taken_same d.blocks h h refl)
    (taken_gone less hs (distinct-rest h hs once))

-- The other way round.

pub in_and_out : (d : Document) (ps : List (ℕ × Block)) → All (λ p. get d.blocks p.0 ≡ None) ps → all_distinct (handles_of ps) ≡ true → without_blocks (with_blocks d ps) (handles_of ps) ≡ d
in_and_out d [] free once = refl
in_and_out d (p ∷ ps) free once =
    ap (λ (x : Document). without_blocks x (handles_of ps)) (
    taken_later (with_block d p.0 p.1) ps p.0 (distinct-first p.0 (handles_of ps) once)
    ∙ ap (λ (x : Document). with_blocks x ps) (taken_after d p.0 p.1 (All-head (λ p. get d.blocks p.0 ≡ None) p ps free)))
    ∙ in_and_out d ps (All-tail (λ p. get d.blocks p.0 ≡ None) p ps free) (distinct-rest p.0 (handles_of ps) once)

pub out_and_in : (d : Document) (ps : List (ℕ × Block)) → All (λ p. get d.blocks p.0 ≡ Some p.1) ps → all_distinct (handles_of ps) ≡ true → with_blocks (without_blocks d (handles_of ps)) ps ≡ d
out_and_in d [] there once = refl
out_and_in d (p ∷ ps) there once =
    ap (λ (x : Document). with_blocks x ps) (
    put_later (without_block d p.0) (handles_of ps) p.0 p.1 (distinct-first p.0 (handles_of ps) once)
    ∙ ap (λ (x : Document). without_blocks x (handles_of ps)) (put_after d p.0 p.1 (All-head (λ p. get d.blocks p.0 ≡ Some p.1) p ps there)))
    ∙ out_and_in d ps (All-tail (λ p. get d.blocks p.0 ≡ Some p.1) p ps there) (distinct-rest p.0 (handles_of ps) once)

-- What can come in or go does so under a VM handle, and what goes isn't the map block.

pub in_handles : (d : Document) (ms : List Member) → AreFree d (handles_of (imaged_blocks ms)) → All (λ m. IsFreeHandle d m.handle.0) ms
in_handles d ms are =
    All-from_map (λ p. IsFreeHandle d p.0) (λ m. (m.handle.0, imaged_block m.block)) ms (All-from_map (IsFreeHandle d) (λ p. p.0) (imaged_blocks ms) are.free)

pub out_handles : (d : Document) → IsValid d → (ps : List (ℕ × Block)) → CanRemoveAll d ps → All (λ p. is_vm_handle p.0 ≡ true) ps
out_handles d valid ps can = λ i p within. (valid.blocks (get_or ps i p).0 (get_or ps i p).1 (can.go i p within).stands).handle

module _ (d : Document) (ms : List Member) (can : CanRemoveByHandle d (handles_of (imaged_blocks ms))) where
  each_leaves : (P : ℕ → Type 0) → All P (handles_of (imaged_blocks ms)) → All (λ m. P m.handle.0) ms
  each_leaves P all = All-from_map (λ p. P p.0) (λ m. (m.handle.0, imaged_block m.block)) ms (All-from_map P (λ p. p.0) (imaged_blocks ms) all)

  pub leaving_unlocked : (ss : List ResidentBlock) → All (λ h. locks_of ss h ≡ 0) (handles_of (imaged_blocks ms)) → All (λ m. locks_of ss m.handle.0 ≡ 0) ms
  leaving_unlocked ss unlocked = each_leaves (λ h. locks_of ss h ≡ 0) unlocked

  pub leaving_others : All (λ m. d.map_block ≢ m.handle.0) ms
  leaving_others = each_leaves (λ h. d.map_block ≢ h) can.others
