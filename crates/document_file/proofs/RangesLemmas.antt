-- What stays of a file where some of its bytes are torn.
use Rattle.std.proofs.Common.{◌≡◌, ℕ, ◌+◌, ◌*◌, ◌<◌, ◌≤◌, List, [], ◌∷◌, ◌++◌, All, drop, length, get_or, refl, sym, ap, ◌∙◌, arith, inl, inr, length-take, length-drop}
use Rattle.std.proofs.lemmas.Grind.{same_number_lists}
use Rattle.std.proofs.lemmas.List.{length-append, get_or-append-add, get_or_append_left, get_or-drop, get_or-take}
use Rattle.std.proofs.lemmas.List.Elements.{All-nil, All-cons, All-head, All-tail}
use Rattle.vm_store.specs.Facts.{byte, Torn, Holds}
use Rattle.document_file.specs.Ranges.{start_of, end_of, IsPlaced, KeepsExtent, KeepsAll, IsOut, IsClear}
use Rattle.file_format.specs.File.{bytes_in}
use Rattle.file_format.specs.declared.file.Extent.{Extent}

-- the two parts of a list
module _ {X : Type 0} (P : X → Type 0) where
  pub all_left : (xs ys : List X) → All P (xs ++ ys) → All P xs
  all_left [] ys all = All-nil P
  all_left (x ∷ xs) ys all = All-cons P x xs (All-head P x (xs ++ ys) all) (all_left xs ys (All-tail P x (xs ++ ys) all))

  pub all_right : (xs ys : List X) → All P (xs ++ ys) → All P ys
  all_right [] ys all = all
  all_right (x ∷ xs) ys all = all_right xs ys (All-tail P x (xs ++ ys) all)

-- a byte out of the range
pub torn_byte : (at n from to i : ℕ) (c d : List ℕ) → IsOut at n from to → Torn at n c d → from ≤ i → i < to → i < length c → byte d i ≡ byte c i
torn_byte at n from to i c d out torn low high inside = elim out as (λ _. byte d i ≡ byte c i) [ inl before ↦ torn.below i (omega arith) inside | inr behind ↦ torn.above i (omega arith) inside ]

-- bytes that stand there
pub torn_holds : (at n from to : ℕ) (bytes c d : List ℕ) → from + length bytes ≤ to → IsOut at n from to → Torn at n c d → Holds c from bytes → Holds d from bytes
torn_holds at n from to bytes c d short out torn was = record {
  within = omega (arith, was.within, torn.no_shorter);
  each = λ i inside. torn_byte at n from to (from + i) c d out torn (omega arith) (omega arith) (omega (arith, was.within)) ∙ was.each i inside;
}

pub torn_same : (at n : ℕ) (e : Extent) (file c d : List ℕ) → IsOut at n (start_of e) (end_of e) → Torn at n c d → KeepsExtent file c e → KeepsExtent file d e
torn_same at n e file c d out torn was = record {
  within = omega (arith, was.within, torn.no_shorter);
  bytes = λ i low high. torn_byte at n (start_of e) (end_of e) i c d out torn low high (omega (arith, high, was.within)) ∙ was.bytes i low high;
}

-- extents
pub torn_keeps : (at n : ℕ) (es : List Extent) (file c d : List ℕ) → IsClear at n es → Torn at n c d → KeepsAll es file c → KeepsAll es file d
torn_keeps at n es file c d clear torn was k x inside = torn_same at n (get_or es k x) file c d (clear k x inside) torn (was k x inside)

-- extents that lie in a file
pub keeps_itself : (es : List Extent) (c : List ℕ) → All (λ e. end_of e ≤ length c) es → KeepsAll es c c
keeps_itself es c within k x inside = record { within = within k x inside; bytes = λ i low high. refl }

-- two files that have the bytes of a third have each other's
pub keeps_of_both : (es : List Extent) (file now c : List ℕ) → KeepsAll es file now → KeepsAll es file c → KeepsAll es now c
keeps_of_both es file now c one other k x inside =
    let here = one k x inside in
    let there = other k x inside in
    record { within = there.within; bytes = λ i low high. there.bytes i low high ∙ sym (here.bytes i low high) }

-- which lie in the other one too
pub keeps_within : (es : List Extent) (file c : List ℕ) → KeepsAll es file c → All (λ e. end_of e ≤ length c) es
keeps_within es file c keeps k x inside = (keeps k x inside).within

-- a range in the slots
pub clear_of_slots : (at n : ℕ) (es : List Extent) → at + n ≤ 1024 → All IsPlaced es → IsClear at n es
clear_of_slots at n es low placed k x inside = let high = (placed k x inside).behind in inr (omega arith)

-- what a commit writes keeps the extents
pub slots_keep : (es : List Extent) (file c d : List ℕ) → All IsPlaced es → Torn 0 1024 c d → KeepsAll es file c → KeepsAll es file d
slots_keep es file c d placed torn was = torn_keeps 0 1024 es file c d (clear_of_slots 0 1024 es (omega arith) placed) torn was

-- some of the bytes that stand there
pub holds_part : (c : List ℕ) (at : ℕ) (front bytes back : List ℕ) → Holds c at (front ++ (bytes ++ back)) → Holds c (at + length front) bytes
holds_part c at front bytes back all =
    let long = length-append front (bytes ++ back) in
    let more = length-append bytes back in
    record {
      within = omega (arith, long, more, all.within);
      each = λ i inside.
          let place : at + length front + i ≡ at + (length front + i) = omega arith in
          ap (byte c) place ∙ all.each (length front + i) (omega (arith, long, more)) ∙ (get_or-append-add front (bytes ++ back) i 0 ∙ get_or_append_left bytes back 0 i inside);
    }

-- those that stand at an extent are the extent's
pub bytes_held : (file bytes : List ℕ) (e : Extent) → length bytes ≡ e.length → Holds file (start_of e) bytes → bytes_in file e ≡ bytes
bytes_held file bytes e size held =
    let at : ℕ = 512 * e.page in
    let long : length (bytes_in file e) ≡ e.length = omega (arith, length-take e.length (drop at file), length-drop at file, held.within, size) in
    same_number_lists (bytes_in file e) bytes (long ∙ sym size) (λ k inside.
    let low : k < e.length = omega (arith, inside, long) in
    get_or-take e.length (drop at file) k 0 low ∙ get_or-drop at file k 0 ∙ held.each k (omega (arith, low, size)))
