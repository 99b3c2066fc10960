-- Lemmas on the lines of bytes, and on lines that are too long.
use Rattle.std.proofs.Common.{◌≡◌, ℕ, ◌+◌, ◌-◌, ◌<◌, ◌≤◌, min, Bool, true, false, cond, ◌==◌, List, [], ◌∷◌, ◌++◌, length, slice_index, take, refl, sym, ap, ◌∙◌, arith, length-append, length-take, suc, inl, inr, drop}
use Rattle.std.proofs.Math.Seq.{take-append_seam}
use Rattle.std.proofs.lemmas.List.{take_all, take-take, take-append-le, get_or-take, append_assoc, nil_from_length, drop_more, take-append-drop}
use Rattle.std.proofs.lemmas.Bool.{cases_lt, eqb-true}
use Rattle.geos_model.specs.Script.{lines, begin_line, finished_lines, command}
use Rattle.geos_shell.specs.Manners.{longest_kept}
use Rattle.geos_shell.specs.Progress.{HasNoFeed, StandsFor}
use Rattle.geos_script.proofs.Words.{command-long}

-- a line feed ends the first line
pub lines-at_feed : (line rest : List ℕ) → HasNoFeed line → lines (line ++ 10 ∷ rest) ≡ line ∷ lines rest
lines-at_feed [] rest h = refl
lines-at_feed (x ∷ line) rest h = rw (h.0, lines-at_feed line rest h.1)

-- and that line is finished
pub finished_lines-at_feed : (line rest : List ℕ) → HasNoFeed line → finished_lines (line ++ 10 ∷ rest) ≡ line ∷ finished_lines rest
finished_lines-at_feed [] rest h = refl
finished_lines-at_feed (x ∷ line) rest h = rw (h.0, finished_lines-at_feed line rest h.1)

-- with no line feed, all is one line
pub lines-one : (line : List ℕ) → 0 < length line → HasNoFeed line → lines line ≡ line ∷ []
lines-one [] some h = absurd (omega arith)
lines-one (x ∷ []) some h = rw h.0
lines-one (x ∷ y ∷ line) some h = rw (h.0, lines-one (y ∷ line) (omega arith) h.1)

-- bytes with no line feed have no finished line
pub finished_lines-none : (line : List ℕ) → HasNoFeed line → finished_lines line ≡ []
finished_lines-none [] h = refl
finished_lines-none (x ∷ line) h = rw (h.0, finished_lines-none line h.1)

begin_line-some : (x : ℕ) (rest : List (List ℕ)) → 0 < length (begin_line x rest)
begin_line-some x [] = omega arith
begin_line-some x (line ∷ rest) = omega arith

first_line-some : (feed : Bool) (x : ℕ) (rest : List (List ℕ)) → 0 < length (cond feed ([] ∷ rest) (begin_line x rest))
first_line-some true x rest = omega arith
first_line-some false x rest = begin_line-some x rest

-- bytes have a line
pub lines-some : (bytes : List ℕ) → 0 < length bytes → 0 < length (lines bytes)
lines-some [] some = absurd (omega arith)
lines-some (x ∷ bytes) some = first_line-some (x == 10) x (lines bytes)

pub HasNoFeed-append : (xs ys : List ℕ) → HasNoFeed xs → HasNoFeed ys → HasNoFeed (xs ++ ys)
HasNoFeed-append [] ys h k = k
HasNoFeed-append (x ∷ xs) ys h k = (h.0, HasNoFeed-append xs ys h.1 k)

not_true : (b : Bool) → (b ≡ true → ⊥) → b ≡ false
not_true true h = absurd (h refl)
not_true false h = refl

-- a search that found no line feed
pub HasNoFeed-from_reads : (xs : List ℕ) → ((k : ℕ) → k < length xs → slice_index xs k == 10 ≡ true → ⊥) → HasNoFeed xs
HasNoFeed-from_reads [] h = tt
HasNoFeed-from_reads (x ∷ xs) h =
    (not_true _ (h 0 (omega arith)), HasNoFeed-from_reads xs (λ k l. h (suc k) (omega arith)))

-- what lies before the first line feed
pub HasNoFeed-before : (xs : List ℕ) (end : ℕ) → end ≤ length xs → ((k : ℕ) → k < end → slice_index xs k == 10 ≡ true → ⊥) → HasNoFeed (take end xs)
HasNoFeed-before xs end h before =
    HasNoFeed-from_reads (take end xs)
    (λ k l is.
    let low : k < end = omega (arith, length-take end xs) in
    before k low (rw (get_or-take end xs k 0 low) at is))

-- ---- what stands for a line

pub longest_kept-is : longest_kept ≡ 140001
unfolding longest_kept
longest_kept-is = refl

-- a command has no more bytes than are kept
command-front : (line : List ℕ) → command (take longest_kept line) ≡ command line
command-front line =
    elim (cases_lt 140000 (length line)) [
      | inl long ↦ command-long (take longest_kept line) (omega (arith, longest_kept-is, length-take longest_kept line)) ∙ sym (command-long line long)
      | inr short ↦ ap command (take_all longest_kept line (omega (arith, longest_kept-is)))
    ]

-- the front of more than a line is that of more than its front
front-append : (line more : List ℕ) → take longest_kept (take longest_kept line ++ more) ≡ take longest_kept (line ++ more)
front-append line more =
    elim (cases_lt longest_kept (length line)) [
      | inl long ↦
          let full : longest_kept ≤ length (take longest_kept line) = omega (arith, length-take longest_kept line) in
          take-append-le longest_kept (take longest_kept line) more full ∙ take-take longest_kept longest_kept line (omega arith) ∙ sym (take-append-le longest_kept line more (omega arith))
      | inr short ↦ ap (λ l. take longest_kept (l ++ more)) (take_all longest_kept line (omega arith))
    ]

-- what stands for a line is the same command
pub StandsFor-command : (begun kept : List ℕ) → StandsFor begun kept → command kept ≡ command begun
StandsFor-command begun kept h = sym (command-front kept) ∙ ap command h ∙ command-front begun

StandsFor-lengths : (begun kept : List ℕ) → StandsFor begun kept → min longest_kept (length kept) ≡ min longest_kept (length begun)
StandsFor-lengths begun kept h = sym (length-take longest_kept kept) ∙ ap length h ∙ length-take longest_kept begun

-- and is there where that is
pub StandsFor-some : (begun kept : List ℕ) → StandsFor begun kept → 0 < length kept → 0 < length begun
StandsFor-some begun kept h some = omega (arith, longest_kept-is, StandsFor-lengths begun kept h)

pub StandsFor-none : (begun kept : List ℕ) → StandsFor begun kept → length kept ≡ 0 → begun ≡ []
StandsFor-none begun kept h none = nil_from_length begun (omega (arith, longest_kept-is, StandsFor-lengths begun kept h))

-- where nothing was kept, a line stands for itself
pub StandsFor-whole : (kept tail : List ℕ) → length kept ≡ 0 → StandsFor (kept ++ tail) tail
StandsFor-whole kept tail none = rw (nil_from_length kept none) refl

-- what is kept of a line that grows stands for it
pub StandsFor-front : (old part : List ℕ) (room most : ℕ) → 140000 < length old + room → most ≡ min (length part) room → StandsFor (old ++ part) (old ++ take most part)
StandsFor-front old part room most wide e =
    elim (cases_lt room (length part)) [
      | inl long ↦
          let front = old ++ take most part in
          let full : longest_kept ≤ length front = omega (arith, longest_kept-is, length-append old (take most part), length-take most part) in
          let whole : front ++ drop most part ≡ old ++ part = append_assoc old (take most part) (drop most part) ∙ ap (λ l. old ++ l) (take-append-drop most part) in
          sym (take-append-le longest_kept front (drop most part) full) ∙ ap (take longest_kept) whole
      | inr short ↦ ap (λ l. take longest_kept (old ++ l)) (take_all most part (omega arith))
    ]

-- what stands for the front of a line stands for it as it grows alike
pub StandsFor-trans : (begun kept part new : List ℕ) → StandsFor begun kept → StandsFor (kept ++ part) new → StandsFor (begun ++ part) new
StandsFor-trans begun kept part new p q =
    q ∙ sym (front-append kept part) ∙ ap (λ l. take longest_kept (l ++ part)) p ∙ front-append begun part

-- bytes, cut before a line feed
pub rest_at_feed : (bytes : List ℕ) (end : ℕ) → end < length bytes → slice_index bytes end == 10 ≡ true → bytes ≡ take end bytes ++ 10 ∷ drop (end + 1) bytes
rest_at_feed bytes end within is =
    let feed : slice_index bytes end ≡ 10 = eqb-true _ _ is in
    let from : drop end bytes ≡ 10 ∷ drop (end + 1) bytes = drop_more bytes end 0 within ∙ ap (λ x. x ∷ drop (end + 1) bytes) feed in
    sym (take-append-drop end bytes) ∙ ap (λ l. take end bytes ++ l) from

-- bytes, cut behind a line feed
pub cut_at_feed : (bytes : List ℕ) (end : ℕ) → end < length bytes → slice_index bytes end == 10 ≡ true → bytes ≡ (take end bytes ++ 10 ∷ []) ++ drop (end + 1) bytes
cut_at_feed bytes end within is = rest_at_feed bytes end within is ∙ sym (append_assoc (take end bytes) (10 ∷ []) (drop (end + 1) bytes))

-- bytes without so many as there are at their end
pub front_of : (front rest bytes : List ℕ) → bytes ≡ front ++ rest → take (length bytes - length rest) bytes ≡ front
front_of front rest bytes is =
    let count : length bytes - length rest ≡ length front = omega (arith, ap length is, length-append front rest) in
    rw (count, is) (take-append_seam front rest)
