-- An edit of a chunk array changes its head, where it does, and a run of its elements.
use Rattle.std.proofs.Common.{◌≡◌, ℕ, ◌+◌, ◌-◌, ◌*◌, ◌≤◌, Bool, true, false, ◌==◌, if◌then◌else◌, List, [], ◌∷◌, ◌++◌, length, take, drop, Option, Some, None, is_none, unwrap_or, refl, sym, ap, ap₂, subst, ◌∙◌, inl, inr, arith, length-append, append_assoc, drop-drop, take_at, length-take-le}
use Rattle.std.proofs.lemmas.Bool.{cases_Bool, cond-true, cond-false}
use Rattle.std.proofs.lemmas.List.{take-append-drop}
use Rattle.std.proofs.lemmas.Grind.{flat_map-append}
use Rattle.std.specs.List.{splice}
use Rattle.std.specs.FinMap.{contains_key}
use Rattle.geos_model.specs.Bytes.{same_bytes}
use Rattle.geos_model.specs.Array.{Array, array_bytes, array_of}
use Rattle.geos_model.specs.ArrayEdits.{new_array, array_in}
use Rattle.geos_model.specs.Document.{Document, chunks_of, is_heap}
use Rattle.geos_model.specs.Meaning.{chunk_at, with_chunk}
use Rattle.geos_model.specs.Places.{total_length, head_length, array_places}
use Rattle.geos_model.specs.declared.handle.VmHandle.{VmHandle}
use Rattle.geos_model.specs.declared.handle.ChunkHandle.{ChunkHandle}
use Rattle.geos_model.specs.declared.place.Place.{Place}
use Rattle.geos_model.specs.declared.place.Place.TheVariants as place
use Rattle.geos_model.proofs.Arrays.{joined, head_of, table_of, array_bytes-spelled, array_bytes-of, same_bytes-is, table-even, length_table-any}
use Rattle.geos_model.proofs.TwoRuns.{one_run, two_runs}
use Rattle.geos_model.proofs.Reaching.{Reaches}

-- the places of an array's edit, by the lengths of the two heads and of the elements that stay
abbrev runs : VmHandle → ChunkHandle → List ℕ → List ℕ → ℕ → ℕ → ℕ → ℕ → List Place
runs b c old new h g before behind =
    (if same_bytes (take h old) (take g new) then [] else place.Run b c 0 h g ∷ [])
    ++ place.Run b c (g + before) (length old - h - before - behind) (length new - (g + before) - behind) ∷ []

-- How many bytes changed, from how many stay.
old_run : (old H A M Z : List ℕ) → old ≡ H ++ (A ++ (M ++ Z)) → length old - length H - length A - length Z ≡ length M
old_run old H A M Z is =
    let whole = ap length is ∙ length-append H (A ++ (M ++ Z)) in
    let behind = length-append A (M ++ Z) in
    let last = length-append M Z in
    omega (arith, whole, behind, last)

new_run : (new G A N Z : List ℕ) → new ≡ G ++ (A ++ (N ++ Z)) → length new - (length G + length A) - length Z ≡ length N
new_run new G A N Z is =
    let whole = ap length is ∙ length-append G (A ++ (N ++ Z)) in
    let behind = length-append A (N ++ Z) in
    let last = length-append N Z in
    omega (arith, whole, behind, last)

-- the head H becomes G, or stays, and M becomes N
runs_reach : (d : Document) (b : VmHandle) (c : ChunkHandle) (H G A M N Z : List ℕ) (new : List ℕ) → is_heap d b.0 ≡ true → contains_key (chunks_of d b.0) c.0 ≡ true
    → chunk_at d b.0 c.0 ≡ H ++ (A ++ (M ++ Z)) → new ≡ G ++ (A ++ (N ++ Z))
    → Reaches (runs b c (chunk_at d b.0 c.0) new (length H) (length G) (length A) (length Z)) d (with_chunk d b.0 c.0 new)
runs_reach d b c H G A M N Z new heap live is_old is_new =
    let old : List ℕ = chunk_at d b.0 c.0 in
    let head : take (length H) old ≡ H = ap (take (length H)) is_old ∙ take_at H (A ++ (M ++ Z)) (length H) refl in
    let new_head : take (length G) new ≡ G = ap (take (length G)) is_new ∙ take_at G (A ++ (N ++ Z)) (length G) refl in
    let same : Bool = same_bytes (take (length H) old) (take (length G) new) in
    let told : List Place → Type 0 = λ ps. Reaches ps d (with_chunk d b.0 c.0 new) in
    let run : Place = place.Run b c (length G + length A) (length old - length H - length A - length Z) (length new - (length G + length A) - length Z) in
    let is_run : place.Run b c (length G + length A) (length M) (length N) ≡ run =
    ap₂ (λ (n m : ℕ). place.Run b c (length G + length A) n m) (sym (old_run old H A M Z is_old)) (sym (new_run new G A N Z is_new)) in
    let to_new : (ps : List Place) → Reaches ps d (with_chunk d b.0 c.0 (G ++ (A ++ (N ++ Z)))) → told ps =
    λ ps. subst (λ (l : List ℕ). Reaches ps d (with_chunk d b.0 c.0 l)) (sym is_new) in
    elim (cases_Bool same) [
      | inl stays ↦
          let equal : H ≡ G = sym head ∙ same_bytes-is (take (length H) old) (take (length G) new) stays ∙ new_head in
          subst (λ (ps : List Place). told (ps ++ run ∷ [])) (sym (cond-true same [] (place.Run b c 0 (length H) (length G) ∷ []) stays))
          (subst (λ (p : Place). told (p ∷ [])) is_run
          (to_new (place.Run b c (length G + length A) (length M) (length N) ∷ []) (one_run d b c G A M N Z heap live (is_old ∙ ap (λ (l : List ℕ). l ++ (A ++ (M ++ Z))) equal))))
      | inr changes ↦
          subst (λ (ps : List Place). told (ps ++ run ∷ [])) (sym (cond-false same [] (place.Run b c 0 (length H) (length G) ∷ []) changes))
          (subst (λ (p : Place). told (place.Run b c 0 (length H) (length G) ∷ p ∷ [])) is_run
          (to_new (place.Run b c 0 (length H) (length G) ∷ place.Run b c (length G + length A) (length M) (length N) ∷ []) (two_runs d b c H G A M N Z heap live is_old)))
    ]

-- The head of an array: all before its elements.
abbrev head : Array → List ℕ
head a = head_of a ++ (a.extra ++ table_of a)

length-head : (a : Array) → length (head a) ≡ head_length a (length a.elements)
length-head a =
    let whole = length-append (head_of a) (a.extra ++ table_of a) in
    let behind = length-append a.extra (table_of a) in
    let table : length (table_of a) ≡ (if a.size == 0 then 2 * length a.elements else 0) = elim (cases_Bool (a.size == 0)) [
      | inl any ↦ length_table-any a any ∙ sym (cond-true (a.size == 0) (2 * length a.elements) 0 any)
      | inr one ↦ ap length (table-even a one) ∙ sym (cond-false (a.size == 0) (2 * length a.elements) 0 one)
    ] in
    whole ∙ ap (λ (n : ℕ). length (head_of a) + n) (behind ∙ ap (λ (n : ℕ). length a.extra + n) table) ∙ omega arith

-- an array with as many extra bytes, and elements of the same size, has as long a head for as many elements
same-head_length : (a z : Array) (n m : ℕ) → z.size ≡ a.size → length z.extra ≡ length a.extra → n ≡ m → head_length z n ≡ head_length a m
same-head_length a z n m size extra count =
    ap₂ (λ (k l : ℕ). k + l) (ap (λ (x : ℕ). 8 + x) extra) (ap₂ (λ (s k : ℕ). if s == 0 then 2 * k else 0) size count)

-- an array's bytes, by three parts of its elements
by_parts : (a : Array) (P Q R : List (List ℕ)) → a.elements ≡ P ++ (Q ++ R) → array_bytes a ≡ head a ++ (joined P ++ (joined Q ++ joined R))
by_parts a P Q R is =
    let split : joined a.elements ≡ joined P ++ (joined Q ++ joined R) =
    ap joined is ∙ flat_map-append (λ x. x) P (Q ++ R) ∙ ap (λ (l : List ℕ). joined P ++ l) (flat_map-append (λ x. x) Q R) in
    array_bytes-spelled a
    ∙ ap (λ (l : List ℕ). head_of a ++ l) (sym (append_assoc a.extra (table_of a) (joined a.elements)))
    ∙ sym (append_assoc (head_of a) (a.extra ++ table_of a) (joined a.elements))
    ∙ ap (λ (l : List ℕ). head a ++ l) split

-- bytes that are an array are those of the array in them
pub array_in-bytes : (bytes : List ℕ) → is_none (array_of bytes) ≡ false → bytes ≡ array_bytes (array_in bytes)
array_in-bytes bytes is = by_read (array_of bytes) refl is
  where
    by_read : (read : Option Array) → array_of bytes ≡ read → is_none read ≡ false → bytes ≡ array_bytes (unwrap_or read (new_array 0 0))
    by_read None e none = absurd (cc none)
    by_read (Some a) e some = sym (array_bytes-of bytes a e).1

-- the elements from one to another are cut out
cut_out : (xs : List (List ℕ)) (from to : ℕ) → from ≤ to → xs ≡ take from xs ++ (take (to - from) (drop from xs) ++ drop to xs)
cut_out xs from to low =
    let same : drop (to - from) (drop from xs) ≡ drop to xs = drop-drop (to - from) from xs ∙ ap (λ (n : ℕ). drop n xs) (omega (arith, low)) in
    sym (take-append-drop from xs)
    ∙ ap (λ (l : List (List ℕ)). take from xs ++ l) (sym (take-append-drop (to - from) (drop from xs)) ∙ ap (λ (l : List (List ℕ)). take (to - from) (drop from xs) ++ l) same)

count-spliced : (xs ys : List (List ℕ)) (from to : ℕ) → from ≤ length xs → length (splice xs from to ys) ≡ from + length ys + length (drop to xs)
count-spliced xs ys from to low =
    let front = length-take-le from xs low in
    let whole = length-append (take from xs) (ys ++ drop to xs) in
    let behind = length-append ys (drop to xs) in
    omega (arith, front, whole, behind)

-- an array with others in the place of some of its elements, and with other extra bytes, of which there are as many
pub array_reaches : (d : Document) (b : VmHandle) (c : ChunkHandle) (z : Array) (from to : ℕ) (ys : List (List ℕ)) → is_heap d b.0 ≡ true → contains_key (chunks_of d b.0) c.0 ≡ true
    → is_none (array_of (chunk_at d b.0 c.0)) ≡ false → let a = array_in (chunk_at d b.0 c.0) in
    z.size ≡ a.size → length z.extra ≡ length a.extra → z.elements ≡ splice a.elements from to ys → from ≤ length a.elements → from ≤ to
    → Reaches (array_places b c (chunk_at d b.0 c.0) (array_bytes z) from to (length ys)) d (with_chunk d b.0 c.0 (array_bytes z))
array_reaches d b c z from to ys heap live is size extra elements low order =
    let old : List ℕ = chunk_at d b.0 c.0 in
    let new : List ℕ = array_bytes z in
    let a : Array = array_in old in
    let P : List (List ℕ) = take from a.elements in
    let Q : List (List ℕ) = take (to - from) (drop from a.elements) in
    let R : List (List ℕ) = drop to a.elements in
    let is_old : old ≡ head a ++ (joined P ++ (joined Q ++ joined R)) = array_in-bytes old is ∙ by_parts a P Q R (cut_out a.elements from to order) in
    let is_new : new ≡ head z ++ (joined P ++ (joined ys ++ joined R)) = by_parts z P ys R elements in
    let count : length z.elements ≡ from + length ys + length R = ap length elements ∙ count-spliced a.elements ys from to low in
    let long : length (head z) ≡ head_length a (from + length ys + length R) =
    length-head z ∙ same-head_length a z (length z.elements) (from + length ys + length R) size extra count in
    subst (λ (h : ℕ). Reaches (runs b c old new h (head_length a (from + length ys + length R)) (total_length P) (total_length R)) d (with_chunk d b.0 c.0 new)) (length-head a)
    (subst (λ (g : ℕ). Reaches (runs b c old new (length (head a)) g (total_length P) (total_length R)) d (with_chunk d b.0 c.0 new)) long
    (runs_reach d b c (head a) (head z) (joined P) (joined Q) (joined ys) (joined R) new heap live is_old is_new))
