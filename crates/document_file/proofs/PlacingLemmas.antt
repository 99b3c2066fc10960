-- Extents that are found for images, one by one.
use Rattle.std.proofs.Common.{◌≡◌, ℕ, false, count_by, ◌+◌, ◌*◌, ◌%◌, ◌<◌, ◌≤◌, List, [], ◌∷◌, ◌++◌, All, Option, None, Some, take, drop, zero, suc, length, get_or, refl, sym, ap, subst, ◌∙◌, arith, inl, inr, length-append}
use Rattle.std.proofs.lemmas.Bool.{cases_eq, le-ltb}
use Rattle.std.proofs.Math.Nat.{div-add-mod, mod-lt}
use Rattle.std.proofs.lemmas.List.{append-nil, take_more, get_or_append_left}
use Rattle.std.proofs.lemmas.List.Elements.{All-nil, All-cons, All-head, All-tail, All-append}
use Rattle.file_format.specs.File.{pages_of, longest_image}
use Rattle.geos_model.specs.Image.{image}
use Rattle.file_format.specs.declared.file.Extent.{Extent}
use Rattle.file_space.specs.Placing.{IsApart, IsFirstFit, is_long, AreFewLong}
use Rattle.file_space.proofs.PlacingLemmas.{as_one, count_cons, count_none}
use Rattle.std.specs.List.Sorted.{IsPermutation}
use Rattle.std.proofs.lemmas.List.Sorted.{IsPermutation-refl, IsPermutation-trans, IsPermutation-middle}
use Rattle.file_space.specs.Space.{Space, AreTaken}
use Rattle.file_space.proofs.SpaceLemmas.{taken-permuted}
use Rattle.document_file.specs.Ranges.{start_of, end_of, IsPlaced, IsOut, IsClear}
use Rattle.document_file.specs.Slots.{block_extents}
use Rattle.document_file.specs.FreeSpace.{MarksTaken}
use Rattle.document_file.specs.Writing.{AreFor}
use Rattle.document_file.proofs.FreeSpaceLemmas.{takes-one}
use Rattle.document_file.proofs.ImageLemmas.{image_length}
use Rattle.document_file.specs.declared.table.Place.{Place}
use Rattle.document_file.specs.declared.member.Member.{Member}

-- the taken extents and those found since, the newest first
abbrev pub taken_with : List Extent → List Extent → List Extent
taken_with taken [] = taken
taken_with taken (e ∷ es) = taken_with (e ∷ taken) es

-- extents were found for the first n images
pub record IsPlacing (taken : List Extent) (puts : List Member) (n : ℕ) (extents : List Extent) (space : Space) : Type 0 where
  pub found : AreFewLong taken → AreFor taken puts n extents
  pub are : AreTaken (taken_with taken extents) space

-- Lists with one more element.

at_end : {X : Type 0} (xs : List X) (x d : X) → get_or (xs ++ x ∷ []) (length xs) d ≡ x
at_end [] x d = refl
at_end (y ∷ xs) x d = at_end xs x d

one_more : {X : Type 0} (P : X → Type 0) (xs : List X) (x : X) → All P xs → P x → All P (xs ++ x ∷ [])
one_more P xs x all new = All-append P xs (x ∷ []) all (All-cons P x [] new (All-nil P))

with_more : (taken es : List Extent) (x : Extent) → taken_with taken (es ++ x ∷ []) ≡ x ∷ taken_with taken es
with_more taken [] x = refl
with_more taken (e ∷ es) x = with_more (e ∷ taken) es x

with_taken : (P : Extent → Type 0) (taken es : List Extent) → All P (taken_with taken es) → All P taken
with_taken P taken [] all = all
with_taken P taken (e ∷ es) all = All-tail P e taken (with_taken P (e ∷ taken) es all)

with_found : (P : Extent → Type 0) (taken es : List Extent) → All P (taken_with taken es) → All P es
with_found P taken [] all = All-nil P
with_found P taken (e ∷ es) all = All-cons P e es (All-head P e taken (with_taken P (e ∷ taken) es all)) (with_found P (e ∷ taken) es all)

-- Which are long.

-- an image isn't
pub image_short : (e : Extent) → e.length ≤ longest_image → is_long e ≡ false
image_short e short = le-ltb 128 (pages_of e.length) (omega (arith, short))

pub images_short : (es : List Extent) → All (λ e. e.length ≤ longest_image) es → count_by is_long es ≡ 0
images_short es short = count_none is_long es (λ k d inside. image_short (get_or es k d) (short k d inside))

sized_short : (taken : List Extent) (puts : List Member) (n : ℕ) (extents : List Extent) (p : Member) → AreFor taken puts n extents → All (λ e. e.length ≤ longest_image) extents
sized_short taken puts n extents p are k d inside =
    let put : Member = get_or puts k p in
    let size = are.sizes k d p (let long = are.count in omega (arith, inside, long)) in
    let short = (image_length put.block.image put.block.valid).1 in
    omega (arith, size, short)

with_short : (taken es : List Extent) → All (λ e. e.length ≤ longest_image) es → count_by is_long (taken_with taken es) ≡ count_by is_long taken
with_short taken [] short = refl
with_short taken (e ∷ es) short =
    let rest = with_short (e ∷ taken) es (All-tail (λ x. x.length ≤ longest_image) e es short) in
    let here : as_one (is_long e) ≡ 0 = ap as_one (image_short e (All-head (λ x. x.length ≤ longest_image) e es short)) in
    let whole = count_cons is_long e taken in
    omega (arith, rest, here, whole)

-- Pages and bytes.

pages_hold : (n : ℕ) → n ≤ 512 * pages_of n
pages_hold n = let whole = div-add-mod (n + 511) 512 in let rest : (n + 511) % 512 < 512 = mod-lt (n + 511) (omega arith) in omega (arith, whole, rest)

-- extents that share no page share no byte
pub apart_out : (page n : ℕ) (e : Extent) → IsApart (record { page = page; length = n }) e → IsOut (512 * page) n (start_of e) (end_of e)
apart_out page n e apart =
    let mine = pages_hold n in
    let other = pages_hold e.length in
    elim apart as (λ _. IsOut (512 * page) n (start_of e) (end_of e)) [ inl before ↦ inr (omega (arith, mine, before)) | inr behind ↦ inl (omega (arith, other, behind)) ]

-- so what was found shares none with those that are taken
pub fit_clear : (taken : List Extent) (n : ℕ) (e : Extent) → IsFirstFit taken n e → IsClear (start_of e) e.length taken
fit_clear taken n e fit k d inside =
    let one = get_or taken k d in
    subst (λ m. IsOut (start_of e) m (start_of one) (end_of one)) (sym fit.length_is) (apart_out e.page n one (fit.free k d inside))

-- one image more
module _ (taken extents : List Extent) (puts : List Member) (n : ℕ) (r : Extent) (p : Member) (is : (d : Member) → get_or puts n d ≡ p) (size : (1 ≤ length (image p.block.image)) × (length (image p.block.image) ≤ longest_image)) (fit : IsFirstFit (taken_with taken extents) (length (image p.block.image)) r) where
  out : (e : Extent) → IsApart (record { page = r.page; length = length (image p.block.image) }) e → IsOut (start_of r) r.length (start_of e) (end_of e)
  out e apart = subst (λ m. IsOut (start_of r) m (start_of e) (end_of e)) (sym fit.length_is) (apart_out r.page (length (image p.block.image)) e apart)

  few_long : AreFewLong taken → AreFor taken puts n extents → AreFewLong (taken_with taken extents)
  few_long longs was = (let same = with_short taken extents (sized_short taken puts n extents p was) in omega (arith, longs, same))

  found_more : AreFewLong taken → AreFor taken puts n extents → AreFor taken puts (n + 1) (extents ++ r ∷ [])
  found_more longs was =
      let long = was.count in
      let all = extents ++ r ∷ [] in
      let old : (k : ℕ) (d : Extent) → k < n → get_or all k d ≡ get_or extents k d = λ k d low. get_or_append_left extents (r ∷ []) d k (omega (arith, long, low)) in
      let last : (d : Extent) → get_or all n d ≡ r = λ d. subst (λ m. get_or all m d ≡ r) long (at_end extents r d) in
      record {
        count = omega (arith, length-append extents (r ∷ []), long);
        sizes = λ k e q low. elim (cases_eq k n) as (λ _. (get_or all k e).length ≡ length (image (get_or puts k q).block.image)) [
          | inl same ↦ subst (λ m. (get_or all m e).length ≡ length (image (get_or puts m q).block.image)) (sym same) (ap (λ x. x.length) (last e) ∙ fit.length_is ∙ ap (λ (x : Member). length (image x.block.image)) (sym (is q)))
          | inr other ↦ ap (λ x. x.length) (old k e (omega (arith, low, other))) ∙ was.sizes k e q (omega (arith, low, other))
        ];
        placed = one_more IsPlaced extents r was.placed (record { behind = fit.behind_slots; within = fit.in_reach (few_long longs was); some = omega (arith, fit.length_is, size.0); short = omega (arith, fit.length_is, size.1) });
        clear = one_more (λ e. IsClear (start_of e) e.length taken) extents r was.clear (λ k d inside. out (get_or taken k d) (with_taken (IsApart (record { page = r.page; length = length (image p.block.image) })) taken extents fit.free k d inside));
        apart = λ i k e less low. elim (cases_eq k n) as (λ _. IsOut (start_of (get_or all k e)) (get_or all k e).length (start_of (get_or all i e)) (end_of (get_or all i e))) [
          | inl same ↦
              let P : Extent → Extent → Type 0 = λ x y. IsOut (start_of x) x.length (start_of y) (end_of y) in
              let new = out (get_or extents i e) (with_found (IsApart (record { page = r.page; length = length (image p.block.image) })) taken extents fit.free i e (omega (arith, less, same, long))) in
              subst (λ m. P (get_or all m e) (get_or all i e)) (sym same) (subst (λ x. P x (get_or all i e)) (sym (last e)) (subst (P r) (sym (old i e (omega (arith, less, same)))) new))
          | inr other ↦
              let P : Extent → Extent → Type 0 = λ x y. IsOut (start_of x) x.length (start_of y) (end_of y) in
              subst (λ x. P x (get_or all i e)) (sym (old k e (omega (arith, low, other)))) (subst (P (get_or extents k e)) (sym (old i e (omega (arith, less, low)))) (was.apart i k e less (omega (arith, low, other))))
        ];
      }

  pub placing_more : (old new : Space) → IsPlacing taken puts n extents old → AreTaken (r ∷ taken_with taken extents) new → IsPlacing taken puts (n + 1) (extents ++ r ∷ []) new
  placing_more old new was are = record {
    found = λ longs. found_more longs (was.found longs);
    are = subst (λ es. AreTaken es new) (sym (with_more taken extents r)) are;
  }

-- nothing is found yet
pub placing_none : (taken : List Extent) (puts : List Member) (space : Space) → AreTaken taken space → IsPlacing taken puts 0 [] space
placing_none taken puts space all = record {
  found = λ longs. record { count = refl; sizes = λ k e p low. absurd (omega arith); placed = All-nil IsPlaced; clear = All-nil (λ e. IsClear (start_of e) e.length taken); apart = λ i k e less low. absurd (omega arith) };
  are = all;
}

-- the newest first or last
with_order : (taken es : List Extent) → IsPermutation (taken_with taken es) (es ++ taken)
with_order taken [] = IsPermutation-refl taken
with_order taken (e ∷ es) = IsPermutation-trans (taken_with (e ∷ taken) es) (es ++ e ∷ taken) (e ∷ (es ++ taken)) (with_order (e ∷ taken) es) (IsPermutation-middle es e taken)

pub placing_taken : (taken es : List Extent) (puts : List Member) (n : ℕ) (space : Space) → IsPlacing taken puts n es space → AreTaken (es ++ taken) space
placing_taken taken es puts n space is = taken-permuted (taken_with taken es) (es ++ taken) space (with_order taken es) is.are

-- The extents of the first places.

blocks_end : (xs : List (Option Place)) (o : Option Place) → block_extents (xs ++ o ∷ []) ≡ block_extents xs ++ block_extents (o ∷ [])
blocks_end [] o = refl
blocks_end (None ∷ xs) o = blocks_end xs o
blocks_end (Some x ∷ xs) o = ap (λ (l : List Extent). x.extent ∷ l) (blocks_end xs o)

pub blocks_more : (places : List (Option Place)) (i : ℕ) (o : Option Place) → i < length places → get_or places i None ≡ o → block_extents (take (i + 1) places) ≡ block_extents (take i places) ++ block_extents (o ∷ [])
blocks_more places i o inside is = ap block_extents (take_more places i None inside) ∙ ap (λ x. block_extents (take i places ++ x ∷ [])) is ∙ blocks_end (take i places) o

pub blocks_split : (places : List (Option Place)) (i : ℕ) → block_extents places ≡ block_extents (take i places) ++ block_extents (drop i places)
blocks_split places zero = refl
blocks_split [] (suc i) = refl
blocks_split (None ∷ xs) (suc i) = blocks_split xs i
blocks_split (Some x ∷ xs) (suc i) = ap (λ (l : List Extent). x.extent ∷ l) (blocks_split xs i)

-- those of the first places are fewer than all where another follows
pub blocks_fewer : (places : List (Option Place)) (i : ℕ) (place : Place) → i < length places → get_or places i None ≡ Some place → length (block_extents (take i places)) + 1 ≤ length (block_extents places)
blocks_fewer places i place inside is =
    let next : block_extents (take (i + 1) places) ≡ block_extents (take i places) ++ place.extent ∷ [] = blocks_more places i (Some place) inside is in
    let whole = ap length (blocks_split places (i + 1)) in
    let both = length-append (block_extents (take (i + 1) places)) (block_extents (drop (i + 1) places)) in
    let one = ap length next in
    let long = length-append (block_extents (take i places)) (place.extent ∷ []) in
    omega (arith, whole, both, one, long)

-- an extent more is taken, or none
pub takes_some : (places : List (Option Place)) (i : ℕ) (place : Place) (a b c : Space) → i < length places → get_or places i None ≡ Some place → MarksTaken (block_extents (take i places)) a b → c.count ≡ b.count + 1 → ((taken : List Extent) → AreTaken taken b → AreTaken (place.extent ∷ taken) c)
    → MarksTaken (block_extents (take (i + 1) places)) a c
takes_some places i place a b c inside is before count held = subst (λ l. MarksTaken l a c) (sym (blocks_more places i (Some place) inside is)) (takes-one (block_extents (take i places)) place.extent a b c before count held)

pub takes_no_more : (places : List (Option Place)) (i : ℕ) (a b : Space) → i < length places → get_or places i None ≡ None → MarksTaken (block_extents (take i places)) a b → MarksTaken (block_extents (take (i + 1) places)) a b
takes_no_more places i a b inside is before = subst (λ l. MarksTaken l a b) (sym (blocks_more places i None inside is ∙ append-nil (block_extents (take i places)))) before
