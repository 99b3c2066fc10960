-- The positions that marks stand for, as entries are made, undone, joined and forgotten.
use Rattle.std.proofs.Common.{◌≡◌, ◌⊎◌, ◌<◌, ◌≤◌, ◌+◌, ◌-◌, ◌==◌, ℕ, zero, suc, Bool, true, false, Option, Some, None, inl, inr, refl, sym, ap, subst, ◌∙◌, arith, eq-eqb, leb-true, le-leb}
use Rattle.std.specs.Prelude.{nat_le, IfSome}
use Rattle.std.proofs.lemmas.Bool.{cases_Bool, cond-true, cond-false, leb-false, lt-leb, lt-ltb, le-ltb, ne_eqb}
use Rattle.geos_model.specs.Position.{Position, Back, Ahead, Nowhere, is_here, position_after_step, position_in_group, position_after_undo, position_after_redo, position_after_join, position_after_forget}
use Rattle.undo_log.specs.Marks.{AreMarksWithin, IsMarkWithin, both_marks, mark_from, mark_joined, mark_lowered, mark_up_to, position_of}
use Rattle.undo_log.specs.declared.marks.Marks.{Marks}

-- a mark that lies so far back, or so far ahead
back_at : (done mark n : ℕ) → mark + n ≡ done → position_of done (Some mark) ≡ Back n
back_at done mark n is = cond-true _ _ _ (le-leb mark done (omega arith)) ∙ ap Back (omega arith)

ahead_at : (done mark n : ℕ) → done + 1 + n ≡ mark → position_of done (Some mark) ≡ Ahead n
ahead_at done mark n is = cond-false _ _ _ (lt-leb mark done (omega arith)) ∙ ap Ahead (omega arith)

-- each does one of both
abbrev Place : ℕ → ℕ → Type 0
Place done mark = ((n : ℕ) × (mark + n ≡ done)) ⊎ ((n : ℕ) × (done + 1 + n ≡ mark))

place : (done mark : ℕ) → Place done mark
place done mark = elim (cases_Bool (nat_le mark done)) as (λ _. Place done mark) [
  | inl back ↦ let before = leb-true mark done back in inl (done - mark, omega (arith, before))
  | inr ahead ↦ let behind = leb-false mark done ahead in inr (mark - done - 1, omega (arith, behind))
]

-- no step lies between where the mark is the place
pub here : (done : ℕ) (mark : Option ℕ) → is_here (position_of done mark) ≡ (elim mark as (λ _. Bool) [ None ↦ false | Some m ↦ m == done ])
here done None = refl
here done (Some m) = by_place (place done m)
  where
    by_place : Place done m → is_here (position_of done (Some m)) ≡ (m == done)
    by_place (inl (zero, is)) = ap is_here (back_at done m 0 is) ∙ sym (eq-eqb m done (omega arith))
    by_place (inl (suc n, is)) = ap is_here (back_at done m (suc n) is) ∙ sym (ne_eqb m done (λ same. omega arith))
    by_place (inr (n, is)) = ap is_here (ahead_at done m n is) ∙ sym (ne_eqb m done (λ same. omega arith))

-- An entry is undone, or made again.

pub undo_position : (n : ℕ) (mark : Option ℕ) → position_of n mark ≡ position_after_undo (position_of (n + 1) mark)
undo_position n None = refl
undo_position n (Some m) = by_place (place (n + 1) m)
  where
    by_place : Place (n + 1) m → position_of n (Some m) ≡ position_after_undo (position_of (n + 1) (Some m))
    by_place (inl (zero, is)) = ahead_at n m 0 (omega arith) ∙ sym (ap position_after_undo (back_at (n + 1) m 0 is))
    by_place (inl (suc k, is)) = back_at n m k (omega arith) ∙ sym (ap position_after_undo (back_at (n + 1) m (suc k) is))
    by_place (inr (k, is)) = ahead_at n m (suc k) (omega arith) ∙ sym (ap position_after_undo (ahead_at (n + 1) m k is))

pub redo_position : (n : ℕ) (mark : Option ℕ) → position_of (n + 1) mark ≡ position_after_redo (position_of n mark)
redo_position n None = refl
redo_position n (Some m) = by_place (place n m)
  where
    by_place : Place n m → position_of (n + 1) (Some m) ≡ position_after_redo (position_of n (Some m))
    by_place (inl (k, is)) = back_at (n + 1) m (suc k) (omega arith) ∙ sym (ap position_after_redo (back_at n m k is))
    by_place (inr (zero, is)) = back_at (n + 1) m 0 (omega arith) ∙ sym (ap position_after_redo (ahead_at n m 0 is))
    by_place (inr (suc k, is)) = ahead_at (n + 1) m k (omega arith) ∙ sym (ap position_after_redo (ahead_at n m (suc k) is))

-- An entry is made where nothing is left to make again.

pub step_position : (first n : ℕ) (mark : Option ℕ) → IsMarkWithin first n mark → position_of (n + 1) mark ≡ position_after_step (position_of n mark)
step_position first n None within = refl
step_position first n (Some m) within =
    let last = within.1 in
    back_at (n + 1) m (suc (n - m)) (omega (arith, last)) ∙ sym (ap position_after_step (back_at n m (n - m) (omega (arith, last))))

pub kept_position : (first n : ℕ) (mark : Option ℕ) → IsMarkWithin first n mark → position_of n mark ≡ position_in_group (position_of n mark)
kept_position first n None within = refl
kept_position first n (Some m) within =
    let last = within.1 in
    let is = back_at n m (n - m) (omega (arith, last)) in is ∙ sym (ap position_in_group is)

-- What could be made again is gone.

pub cut_position : (n : ℕ) (mark : Option ℕ) → position_of n (mark_up_to n mark) ≡ position_in_group (position_of n mark)
cut_position n None = refl
cut_position n (Some m) = by_place (place n m)
  where
    by_place : Place n m → position_of n (mark_up_to n (Some m)) ≡ position_in_group (position_of n (Some m))
    by_place (inl (k, is)) =
        let at = back_at n m k is in
        ap (position_of n) (cond-true _ _ _ (le-leb m n (omega arith))) ∙ at ∙ sym (ap position_in_group at)
    by_place (inr (k, is)) = ap (position_of n) (cond-false _ _ _ (lt-leb m n (omega arith))) ∙ sym (ap position_in_group (ahead_at n m k is))

pub step_after_cut : (p : Position) → position_after_step (position_in_group p) ≡ position_after_step p
step_after_cut (Back n) = refl
step_after_cut (Ahead n) = refl
step_after_cut Nowhere = refl

-- The entries before and behind a place are one.

pub join_position : (at : ℕ) (mark : Option ℕ) → position_of at (mark_joined at mark) ≡ position_after_join (position_of (at + 1) mark)
join_position at None = refl
join_position at (Some m) = by_place (place (at + 1) m)
  where
    behind : at < m → mark_joined at (Some m) ≡ Some (m - 1)
    behind more = cond-true _ _ _ (lt-ltb at m more)

    by_place : Place (at + 1) m → position_of at (mark_joined at (Some m)) ≡ position_after_join (position_of (at + 1) (Some m))
    by_place (inl (zero, is)) =
        ap (position_of at) (behind (omega arith)) ∙ back_at at (m - 1) 0 (omega arith) ∙ sym (ap position_after_join (back_at (at + 1) m 0 is))
    by_place (inl (suc zero, is)) =
        ap (position_of at) (cond-false _ _ _ (le-ltb at m (omega arith)) ∙ cond-true _ _ _ (eq-eqb m at (omega arith))) ∙ sym (ap position_after_join (back_at (at + 1) m 1 is))
    by_place (inl (suc (suc k), is)) =
        ap (position_of at) (cond-false _ _ _ (le-ltb at m (omega arith)) ∙ cond-false _ _ _ (ne_eqb m at (λ same. omega arith)))
        ∙ back_at at m (suc k) (omega arith) ∙ sym (ap position_after_join (back_at (at + 1) m (suc (suc k)) is))
    by_place (inr (k, is)) =
        ap (position_of at) (behind (omega arith)) ∙ ahead_at at (m - 1) k (omega arith) ∙ sym (ap position_after_join (ahead_at (at + 1) m k is))

-- The entries before a place are forgotten.

pub forget_position : (first most done : ℕ) (mark : Option ℕ) → first + most ≡ done → position_of done (mark_from first mark) ≡ position_after_forget most (position_of done mark)
forget_position first most done None total = refl
forget_position first most done (Some m) total = by_place (place done m) (cases_Bool (nat_le first m))
  where
    by_place : Place done m → (nat_le first m ≡ true) ⊎ (nat_le first m ≡ false) → position_of done (mark_from first (Some m)) ≡ position_after_forget most (position_of done (Some m))
    by_place (inl (k, is)) (inl kept) =
        let at = back_at done m k is in let least = leb-true first m kept in
        ap (position_of done) (cond-true _ _ _ kept) ∙ at ∙ sym (ap (position_after_forget most) at ∙ cond-true _ _ _ (le-leb k most (omega (arith, least))))
    by_place (inl (k, is)) (inr gone) =
        let at = back_at done m k is in let least = leb-false first m gone in
        ap (position_of done) (cond-false _ _ _ gone) ∙ sym (ap (position_after_forget most) at ∙ cond-false _ _ _ (lt-leb k most (omega (arith, least))))
    by_place (inr (k, is)) (inl kept) =
        let at = ahead_at done m k is in ap (position_of done) (cond-true _ _ _ kept) ∙ at ∙ sym (ap (position_after_forget most) at)
    by_place (inr (k, is)) (inr gone) = let least = leb-false first m gone in absurd (omega (arith, least))

-- where they are no more than are kept, nothing changes
pub none_forgotten : (dead most done last : ℕ) (mark : Option ℕ) → done ≤ dead + most → IsMarkWithin dead last mark → position_of done mark ≡ position_after_forget most (position_of done mark)
none_forgotten dead most done last None few within = refl
none_forgotten dead most done last (Some m) few within = by_place (place done m)
  where
    by_place : Place done m → position_of done (Some m) ≡ position_after_forget most (position_of done (Some m))
    by_place (inl (k, is)) =
        let at = back_at done m k is in let least = within.0 in at ∙ sym (ap (position_after_forget most) at ∙ cond-true _ _ _ (le-leb k most (omega (arith, least))))
    by_place (inr (k, is)) = let at = ahead_at done m k is in at ∙ sym (ap (position_after_forget most) at)

-- Entries are taken away in front.

pub lower_position : (count done last : ℕ) (mark : Option ℕ) → count ≤ done → IsMarkWithin count last mark → position_of (done - count) (mark_lowered count mark) ≡ position_of done mark
lower_position count done last None some within = refl
lower_position count done last (Some m) some within = by_place (place done m)
  where
    by_place : Place done m → position_of (done - count) (Some (m - count)) ≡ position_of done (Some m)
    by_place (inl (k, is)) = let least = within.0 in back_at (done - count) (m - count) k (omega (arith, least)) ∙ sym (back_at done m k is)
    by_place (inr (k, is)) = let least = within.0 in ahead_at (done - count) (m - count) k (omega (arith, least)) ∙ sym (ahead_at done m k is)

-- Where marks lie.

within_more : (first last more : ℕ) (mark : Option ℕ) → last ≤ more → IsMarkWithin first last mark → IsMarkWithin first more mark
within_more first last more None most within = tt
within_more first last more (Some m) most within = (within.0, let least = within.1 in omega (arith, least))

within_up_to : (first last n : ℕ) (mark : Option ℕ) → IsMarkWithin first last mark → IsMarkWithin first n (mark_up_to n mark)
within_up_to first last n None within = tt
within_up_to first last n (Some m) within = elim (cases_Bool (nat_le m n)) as (λ _. IsMarkWithin first n (mark_up_to n (Some m))) [
  | inl kept ↦ rw kept (within.0, leb-true m n kept)
  | inr gone ↦ rw gone tt
]

pub within_from : (dead first last : ℕ) (mark : Option ℕ) → IsMarkWithin dead last mark → IsMarkWithin first last (mark_from first mark)
within_from dead first last None within = tt
within_from dead first last (Some m) within = elim (cases_Bool (nat_le first m)) as (λ _. IsMarkWithin first last (mark_from first (Some m))) [
  | inl kept ↦ rw kept (leb-true first m kept, within.1)
  | inr gone ↦ rw gone tt
]

within_joined : (dead at last : ℕ) (mark : Option ℕ) → dead ≤ at → at ≤ last → IsMarkWithin dead (last + 1) mark → IsMarkWithin dead last (mark_joined at mark)
within_joined dead at last None least most within = tt
within_joined dead at last (Some m) least most within = by_place (place at m)
  where
    by_place : Place at m → IsMarkWithin dead last (mark_joined at (Some m))
    by_place (inl (zero, is)) = subst (IsMarkWithin dead last) (sym (cond-false _ _ _ (le-ltb at m (omega arith)) ∙ cond-true _ _ _ (eq-eqb m at (omega arith)))) tt
    by_place (inl (suc k, is)) =
        subst (IsMarkWithin dead last) (sym (cond-false _ _ _ (le-ltb at m (omega arith)) ∙ cond-false _ _ _ (ne_eqb m at (λ same. omega arith)))) (within.0, omega arith)
    by_place (inr (k, is)) =
        let highest = within.1 in subst (IsMarkWithin dead last) (sym (cond-true _ _ _ (lt-ltb at m (omega arith)))) (omega arith, omega (arith, highest))

within_lowered : (count last : ℕ) (mark : Option ℕ) → IsMarkWithin count last mark → IsMarkWithin 0 (last - count) (mark_lowered count mark)
within_lowered count last None within = tt
within_lowered count last (Some m) within = let least = within.0 in let highest = within.1 in (omega arith, omega (arith, least, highest))

-- so of both
pub marks_more : (first last more : ℕ) (marks : Marks) → last ≤ more → AreMarksWithin first last marks → AreMarksWithin first more marks
marks_more first last more marks most within = record { updated = within_more first last more marks.updated most within.updated; saved = within_more first last more marks.saved most within.saved }

pub marks_up_to : (first last n : ℕ) (marks : Marks) → AreMarksWithin first last marks → AreMarksWithin first n (both_marks (mark_up_to n) marks)
marks_up_to first last n marks within = record { updated = within_up_to first last n marks.updated within.updated; saved = within_up_to first last n marks.saved within.saved }

pub marks_from : (dead first last : ℕ) (marks : Marks) → AreMarksWithin dead last marks → AreMarksWithin first last (both_marks (mark_from first) marks)
marks_from dead first last marks within = record { updated = within_from dead first last marks.updated within.updated; saved = within_from dead first last marks.saved within.saved }

pub marks_joined : (dead at last : ℕ) (marks : Marks) → dead ≤ at → at ≤ last → AreMarksWithin dead (last + 1) marks → AreMarksWithin dead last (both_marks (mark_joined at) marks)
marks_joined dead at last marks least most within = record {
  updated = within_joined dead at last marks.updated least most within.updated;
  saved = within_joined dead at last marks.saved least most within.saved;
}

pub marks_lowered : (count last : ℕ) (marks : Marks) → AreMarksWithin count last marks → AreMarksWithin 0 (last - count) (both_marks (mark_lowered count) marks)
marks_lowered count last marks within = record { updated = within_lowered count last marks.updated within.updated; saved = within_lowered count last marks.saved within.saved }

-- a mark doesn't lie before the first place
pub not_before : (first last : ℕ) (mark : Option ℕ) → IsMarkWithin first last mark → IfSome mark (λ at. first ≤ at)
not_before first last None within = tt
not_before first last (Some m) within = within.0
