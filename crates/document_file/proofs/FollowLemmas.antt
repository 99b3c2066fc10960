-- The free space across a commit: the extents of one table in place of those of another.
use Rattle.std.proofs.Common.{◌≡◌, ℕ, IsTrue, zero, suc, ◌+◌, ◌*◌, ◌<◌, ◌≤◌, Bool, true, false, List, [], ◌∷◌, ◌++◌, Option, None, take, drop, length, get_or, refl, sym, ap, ap₂, subst, ◌∙◌, arith, length-append}
use Rattle.std.specs.Bool.{then_some}
use Rattle.std.specs.Prelude.{if◌then◌else◌, IfSome}
use Rattle.std.specs.List.Sorted.{IsPermutation}
use Rattle.std.proofs.lemmas.List.{append_assoc, take_all, drop_all}
use Rattle.std.proofs.lemmas.List.Sorted.{IsPermutation-append_right}
use Rattle.file_format.specs.declared.file.Extent.{Extent}
use Rattle.geos_model.specs.Document.{most_blocks}
use Rattle.file_space.specs.Space.{Space, AreTaken, IsTaken}
use Rattle.file_space.proofs.SpaceLemmas.{taken-permuted}
use Rattle.document_file.specs.Copies.{IsCopy, IsSameStored}
use Rattle.document_file.specs.FreeSpace.{TakesPlaceOf, AreAmongTaken, next_saved, next_extents}
use Rattle.document_file.specs.Slots.{block_extents, stored_extents, pair_extents, prepared_extents, marked_extents, referenced_extents, switched}
use Rattle.document_file.specs.Sound.{IsFormed}
use Rattle.document_file.specs.declared.table.Place.{Place}
use Rattle.document_file.specs.declared.table.BlockTable.{BlockTable}
use Rattle.document_file.specs.declared.table.DocumentRef.{DocumentRef}
use Rattle.document_file.specs.declared.slot.Slots.{Slots}
use Rattle.document_file.proofs.CopiesLemmas.{same_extents}
use Rattle.document_file.proofs.FreeSpaceLemmas.{swapped, one_block}
use Rattle.document_file.proofs.PlacingLemmas.{blocks_split}
use Rattle.document_file.proofs.PutBlocksLemmas.{pair_few, marked_few}
use Rattle.document_file.proofs.TableLemmas.{length-block_extents}

-- Extents in place of others, in the midst of what is taken.

pub among : (before gone rest : List Extent) (s : Space) → AreTaken (before ++ (gone ++ rest)) s → AreAmongTaken gone s
among before gone rest s are = (before ++ rest, taken-permuted (before ++ (gone ++ rest)) (gone ++ (before ++ rest)) s (swapped before gone rest) are)

-- two of them, apart
pub among_both : (before gone middle now rest : List Extent) (s : Space) → AreTaken (before ++ (gone ++ (middle ++ (now ++ rest)))) s → AreAmongTaken (gone ++ now) s
among_both before gone middle now rest s are =
    let closer : IsPermutation (gone ++ (middle ++ (now ++ rest))) ((gone ++ now) ++ (middle ++ rest)) =
    subst (λ l. IsPermutation (gone ++ (middle ++ (now ++ rest))) l) (sym (append_assoc gone now (middle ++ rest)))
    (IsPermutation-append_right gone (middle ++ (now ++ rest)) (now ++ (middle ++ rest)) (swapped middle now rest)) in
    among before (gone ++ now) (middle ++ rest) s
    (taken-permuted (before ++ (gone ++ (middle ++ (now ++ rest)))) (before ++ ((gone ++ now) ++ (middle ++ rest))) s
    (IsPermutation-append_right before (gone ++ (middle ++ (now ++ rest))) ((gone ++ now) ++ (middle ++ rest)) closer) are)

-- the first of two in the other order
pub among_turned : (now gone rest : List Extent) (s : Space) → AreTaken (now ++ (gone ++ rest)) s → AreAmongTaken (gone ++ now) s
among_turned now gone rest s are = (rest, subst (λ l. AreTaken l s) (sym (append_assoc gone now rest)) (taken-permuted (now ++ (gone ++ rest)) (gone ++ (now ++ rest)) s (swapped now gone rest) are))

pub among_first : (xs ys : List Extent) (s : Space) → AreAmongTaken (xs ++ ys) s → AreAmongTaken xs s
among_first xs ys s are = (ys ++ are.0, subst (λ l. AreTaken l s) (append_assoc xs ys are.0) are.1)

pub replaced : (before gone now rest : List Extent) (a b : Space) → TakesPlaceOf gone now a b → AreTaken (before ++ (gone ++ rest)) a → AreTaken (before ++ (now ++ rest)) b
replaced before gone now rest a b step are =
    taken-permuted (now ++ (before ++ rest)) (before ++ (now ++ rest)) b (swapped now before rest)
    (step (before ++ rest) (taken-permuted (before ++ (gone ++ rest)) (gone ++ (before ++ rest)) a (swapped before gone rest) are))

-- The walk over two tables, of which the shorter one has no block past its end.

-- the block of a place, if there is one
abbrev pub block_of : List (Option Place) → ℕ → List Extent
block_of places at = block_extents (get_or places at None ∷ [])

dropped_next : (places : List (Option Place)) (at : ℕ) → block_extents (drop at places) ≡ block_of places at ++ block_extents (drop (suc at) places)
dropped_next [] zero = refl
dropped_next [] (suc at) = refl
dropped_next (x ∷ xs) zero = one_block x xs
dropped_next (x ∷ xs) (suc at) = dropped_next xs at

taken_next : (places : List (Option Place)) (at : ℕ) → block_extents (take (suc at) places) ≡ block_extents (take at places) ++ block_of places at
taken_next [] zero = refl
taken_next [] (suc at) = refl
taken_next (x ∷ xs) zero = refl
taken_next (x ∷ xs) (suc at) =
    one_block x (take (suc at) xs) ∙ ap (λ (l : List Extent). block_extents (x ∷ []) ++ l) (taken_next xs at)
    ∙ sym (append_assoc (block_extents (x ∷ [])) (block_extents (take at xs)) (block_of xs at))
    ∙ ap (λ (l : List Extent). l ++ block_of xs at) (sym (one_block x (take at xs)))

one_more : (at : ℕ) → suc at ≡ at + 1
one_more at = omega arith

dropped_block : (places : List (Option Place)) (at : ℕ) → block_extents (drop at places) ≡ block_of places at ++ block_extents (drop (at + 1) places)
dropped_block places at = subst (λ n. block_extents (drop at places) ≡ block_of places at ++ block_extents (drop n places)) (one_more at) (dropped_next places at)

taken_block : (places : List (Option Place)) (at : ℕ) → block_extents (take (at + 1) places) ≡ block_extents (take at places) ++ block_of places at
taken_block places at = subst (λ n. block_extents (take n places) ≡ block_extents (take at places) ++ block_of places at) (one_more at) (taken_next places at)

-- the first places are those of the new table
abbrev pub IsWalked : List (Option Place) → List (Option Place) → ℕ → Space → Space → Type 0
IsWalked old new at a b = (rest : List Extent) → AreTaken (block_extents old ++ rest) a → AreTaken (block_extents (take at new) ++ (block_extents (drop at old) ++ rest)) b

module _ (old new : List (Option Place)) (at : ℕ) (a b : Space) (walked : IsWalked old new at a b) where
  abbrev pub left : List Extent
  left = block_extents (drop (at + 1) old)

  abbrev pub done : List Extent
  done = block_extents (take at new)

  met : (rest : List Extent) → AreTaken (block_extents old ++ rest) a → AreTaken (done ++ (block_of old at ++ (left ++ rest))) b
  met rest are = subst (λ l. AreTaken (done ++ l) b) (ap (λ (l : List Extent). l ++ rest) (dropped_block old at) ∙ append_assoc (block_of old at) left rest) (walked rest are)

  pub walk_among : AreAmongTaken (block_extents old ++ block_extents new) a → AreAmongTaken (block_of old at ++ block_of new at) b
  walk_among taken =
      let rest : List Extent = taken.0 in
      let next : List Extent = block_of new at in
      let behind : List Extent = block_extents (drop (at + 1) new) in
      let parts : block_extents new ++ rest ≡ done ++ (next ++ (behind ++ rest)) =
      ap (λ (l : List Extent). l ++ rest) (blocks_split new at ∙ ap (λ (l : List Extent). done ++ l) (dropped_block new at))
      ∙ append_assoc done (next ++ behind) rest ∙ ap (λ (l : List Extent). done ++ l) (append_assoc next behind rest) in
      let whole : left ++ (block_extents new ++ rest) ≡ (left ++ done) ++ (next ++ (behind ++ rest)) =
      ap (λ (l : List Extent). left ++ l) parts ∙ sym (append_assoc left done (next ++ (behind ++ rest))) in
      among_both done (block_of old at) (left ++ done) next (behind ++ rest) b
      (subst (λ l. AreTaken (done ++ (block_of old at ++ l)) b) whole
      (met (block_extents new ++ rest) (subst (λ l. AreTaken l a) (append_assoc (block_extents old) (block_extents new) rest) taken.1)))

  pub walk_few : (most : ℕ) → AreAmongTaken (block_extents old) a → a.count + length (block_extents new) < most → b.count < most
  walk_few most taken few =
      let rest = taken.0 in
      let before = taken.1.count in
      let now = (walked rest taken.1).count in
      let all = length-append (block_extents old) rest in
      let parts = length-append done (block_extents (drop at old) ++ rest) in
      let behind = length-append (block_extents (drop at old)) rest in
      let olds = ap length (blocks_split old at) in
      let news = ap length (blocks_split new at) in
      let split_old = length-append (block_extents (take at old)) (block_extents (drop at old)) in
      let split_new = length-append (block_extents (take at new)) (block_extents (drop at new)) in
      omega (arith, before, now, all, parts, behind, olds, news, split_old, split_new, few)

  pub walk_more : (c : Space) → TakesPlaceOf (block_of old at) (block_of new at) b c → IsWalked old new (at + 1) a c
  walk_more c step rest are =
      let next : AreTaken (done ++ (block_of new at ++ (left ++ rest))) c = replaced done (block_of old at) (block_of new at) (left ++ rest) b c step (met rest are) in
      subst (λ l. AreTaken l c) (sym (append_assoc done (block_of new at) (left ++ rest)) ∙ ap (λ (l : List Extent). l ++ (left ++ rest)) (sym (taken_block new at))) next

pub walk_done : (old new : List (Option Place)) (at : ℕ) (a b : Space) → IsWalked old new at a b → length old ≤ at → length new ≤ at → TakesPlaceOf (block_extents old) (block_extents new) a b
walk_done old new at a b walked short low rest are =
    subst (λ ps. AreTaken (block_extents ps ++ rest) b) (take_all at new low) (subst (λ ps. AreTaken (block_extents (take at new) ++ (block_extents ps ++ rest)) b) (drop_all at old short) (walked rest are))

-- One document in place of another.

module _ (directory : Extent) (old : List Extent) (other : Extent) (new : List Extent) (a b : Space) (taken : AreAmongTaken ((directory ∷ old) ++ (other ∷ new)) a)
    (left : (rest : List Extent) → AreTaken (directory ∷ rest) a → AreTaken rest b) where
  abbrev pub rest : List Extent
  rest = taken.0

  pub released_taken : IsTaken directory a
  released_taken = ((old ++ (other ∷ new)) ++ rest, taken.1)

  met_again : AreTaken (old ++ (other ∷ (new ++ rest))) b
  met_again = subst (λ l. AreTaken l b) (append_assoc old (other ∷ new) rest) (left ((old ++ (other ∷ new)) ++ rest) taken.1)

  pub released_among : AreAmongTaken (old ++ new) b
  released_among = among_both [] old (other ∷ []) new rest b met_again

  module _ (c : Space) (step : TakesPlaceOf old new b c) where
    pub followed_taken : IsTaken other c
    followed_taken = among new (other ∷ []) (new ++ rest) c (step (other ∷ (new ++ rest)) met_again)

    pub followed_few : (most : ℕ) → a.count + length new < most → c.count < most
    followed_few most few =
        let before = taken.1.count in
        let now = (step (other ∷ (new ++ rest)) met_again).count in
        let was = length-append (old ++ (other ∷ new)) rest in
        let olds = length-append old (other ∷ new) in
        let is = length-append new (other ∷ (new ++ rest)) in
        let news = length-append new rest in
        omega (arith, before, now, was, olds, is, news, few)

    pub document_replaced : (d : Space) → TakesPlaceOf [] (other ∷ []) c d → TakesPlaceOf (directory ∷ old) (other ∷ new) a d
    document_replaced d held others are = held (new ++ others) (step others (left (old ++ others) are))

-- A commit.

-- where no other commit is in doubt
pub settled_extents : (slots : Slots) → prepared_extents slots.spare ≡ [] → referenced_extents slots ≡ stored_extents slots.committed.updated ++ (stored_extents slots.committed.saved ++ marked_extents slots.marked)
settled_extents slots none =
    ap (λ p. pair_extents slots.committed ++ (p ++ marked_extents slots.marked)) none
    ∙ append_assoc (stored_extents slots.committed.updated) (stored_extents slots.committed.saved) (marked_extents slots.marked)

module _ (directory : Extent) (live : BlockTable) (slots : Slots) (saves : Bool) (formed : IsFormed live slots) (none : prepared_extents slots.spare ≡ []) (a b c d : Space)
    (are : AreTaken (directory ∷ (block_extents live.places.items ++ referenced_extents slots)) a) where
  abbrev pub mine : List Extent
  mine = directory ∷ block_extents live.places.items

  abbrev pub updated : List Extent
  updated = stored_extents slots.committed.updated

  abbrev pub saved : List Extent
  saved = stored_extents slots.committed.saved

  abbrev pub marked : List Extent
  marked = marked_extents slots.marked

  abbrev pub next : List Extent
  next = next_saved directory live slots saves

  at_first : AreTaken (mine ++ (updated ++ (saved ++ marked))) a
  at_first = subst (λ l. AreTaken (mine ++ l) a) (settled_extents slots none) are

  pub commit_among : AreAmongTaken (updated ++ mine) a
  commit_among = among_turned mine updated (saved ++ marked) a at_first

  counted : length (mine ++ (updated ++ (saved ++ marked))) + length (block_extents live.places.items) ≤ 5 * most_blocks + 3
  counted =
      let blocks = length-block_extents live.places.items in
      let size = formed.table.size in
      let pair = pair_few slots.committed formed.committed in
      let few = marked_few slots.marked formed.marked in
      let one = length-append mine (updated ++ (saved ++ marked)) in
      let two = length-append updated (saved ++ marked) in
      let three = length-append saved marked in
      let four = length-append updated saved in
      omega (arith, blocks, size, pair, few, one, two, three, four)

  pub commit_few : a.count + length (block_extents live.places.items) ≤ 5 * most_blocks + 3
  commit_few = let count = at_first.count in let few = counted in omega (arith, count, few)

  module _ (first : TakesPlaceOf updated mine a b) where
    at_second : AreTaken (mine ++ (mine ++ (saved ++ marked))) b
    at_second = replaced mine updated mine (saved ++ marked) a b first at_first

    grouped : AreTaken ((mine ++ mine) ++ (saved ++ marked)) b
    grouped = subst (λ l. AreTaken l b) (sym (append_assoc mine mine (saved ++ marked))) at_second

    pub saved_among : AreAmongTaken (saved ++ mine) b
    saved_among =
        among_turned mine saved (mine ++ marked) b
        (taken-permuted (mine ++ (mine ++ (saved ++ marked))) (mine ++ (saved ++ (mine ++ marked))) b
        (IsPermutation-append_right mine (mine ++ (saved ++ marked)) (saved ++ (mine ++ marked)) (swapped mine saved marked)) at_second)

    pub saved_few : b.count + length (block_extents live.places.items) ≤ 6 * most_blocks + 4
    saved_few =
        let count = at_second.count in
        let few = counted in
        let blocks = length-block_extents live.places.items in
        let size = formed.table.size in
        let one = length-append mine (updated ++ (saved ++ marked)) in
        let two = length-append updated (saved ++ marked) in
        let three = length-append mine (mine ++ (saved ++ marked)) in
        let four = length-append mine (saved ++ marked) in
        omega (arith, count, few, blocks, size, one, two, three, four)

    module _ (second : TakesPlaceOf saved next b c) where
      at_third : AreTaken (mine ++ (mine ++ (next ++ marked))) c
      at_third = subst (λ l. AreTaken l c) (append_assoc mine mine (next ++ marked)) (replaced (mine ++ mine) saved next marked b c second grouped)

      pub directory_taken : IsTaken directory c
      directory_taken = (block_extents live.places.items ++ (mine ++ (next ++ marked)), at_third)

      pub committed_taken : ((rest : List Extent) → AreTaken (directory ∷ rest) c → AreTaken rest d) → AreTaken (block_extents live.places.items ++ next_extents directory live slots saves) d
      committed_taken left = left (block_extents live.places.items ++ (mine ++ (next ++ marked))) at_third

-- the saved document lies where it is to
next_saved_is : (live : BlockTable) (slots : Slots) (saves : Bool) (pending saved : DocumentRef) → IsCopy pending.table.value live → IsSameStored saved (if saves then pending else slots.committed.saved)
    → stored_extents saved ≡ next_saved pending.directory live slots saves
next_saved_is live slots true pending saved copy same = same_extents saved pending same ∙ ap (λ ps. pending.directory ∷ block_extents ps) copy.places
next_saved_is live slots false pending saved copy same = same_extents saved slots.committed.saved same

pub next_taken : (live : BlockTable) (slots now : Slots) (saves : Bool) (pending saved : DocumentRef) (space : Space) → IsCopy pending.table.value live → IsSameStored saved (if saves then pending else slots.committed.saved)
    → now ≡ switched slots (record { updated = pending; saved = saved })
    → AreTaken (block_extents live.places.items ++ next_extents pending.directory live slots saves) space
    → AreTaken (block_extents live.places.items ++ referenced_extents now) space
next_taken live slots now saves pending saved space copy same is taken =
    let after : Slots = switched slots (record { updated = pending; saved = saved }) in
    let stands : referenced_extents after ≡ next_extents pending.directory live slots saves =
    settled_extents after refl
    ∙ ap₂ (λ (xs ys : List Extent). xs ++ (ys ++ marked_extents slots.marked)) (ap (λ ps. pending.directory ∷ block_extents ps) copy.places) (next_saved_is live slots saves pending saved copy same) in
    subst (λ s. AreTaken (block_extents live.places.items ++ referenced_extents s) space) (sym is)
    (subst (λ l. AreTaken (block_extents live.places.items ++ l) space) (sym stands) taken)

-- where it is followed, it is known
pub known_if : (P : Space → Type 0) (b : Bool) (space : Space) (r : Option Space) → (IsTrue b → P space) → r ≡ then_some b space → IfSome r P
known_if P true space r there is = subst (λ o. IfSome o P) (sym is) (there refl)
known_if P false space r there is = subst (λ o. IfSome o P) (sym is) tt
