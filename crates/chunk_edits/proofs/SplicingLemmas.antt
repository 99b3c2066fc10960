-- What stands before, in and behind a spliced part, and that a splice leads back.
use Rattle.std.proofs.Common.{◌≡◌, ℕ, ◌+◌, ◌-◌, ◌≤◌, List, ◌++◌, length, take, drop, arith, refl, sym, ap, ap₂, ◌∙◌, append_assoc, length-append, length-drop}
use Rattle.std.proofs.lemmas.List.{take-append-drop, take_at, drop_at, drop-drop, length-take-le}
use Rattle.std.specs.List.{splice}
use Rattle.chunk_edits.specs.Splicing.{Splice, OccursAt, Leads, backwards}

module _ (xs ys : List ℕ) (at end : ℕ) (within : at ≤ length xs) where
  take-splice : take at (splice xs at end ys) ≡ take at xs
  take-splice = take_at (take at xs) (ys ++ drop end xs) at (length-take-le at xs within)

  drop-splice : drop at (splice xs at end ys) ≡ ys ++ drop end xs
  drop-splice = drop_at (take at xs) (ys ++ drop end xs) at (length-take-le at xs within)

  drop-splice_past : drop (at + length ys) (splice xs at end ys) ≡ drop end xs
  drop-splice_past = sym (drop-drop (length ys) at (splice xs at end ys)) ∙ (ap (drop (length ys)) drop-splice ∙ drop_at ys (drop end xs) (length ys) refl)

  pub length-splice : length (splice xs at end ys) ≡ at + length ys + (length xs - end)
  length-splice = omega (arith, length-append (take at xs) (ys ++ drop end xs), length-append ys (drop end xs), length-take-le at xs within, length-drop end xs)

-- a part that is put where it stands
splice-standing : (xs part : List ℕ) (at : ℕ) → OccursAt xs at part → splice xs at (at + length part) part ≡ xs
splice-standing xs part at stands =
    let behind : part ++ drop (at + length part) xs ≡ drop at xs =
    ap (λ (l : List ℕ). part ++ l) (sym (drop-drop (length part) at xs))
    ∙ (ap (λ (l : List ℕ). l ++ drop (length part) (drop at xs)) (sym stands.same) ∙ take-append-drop (length part) (drop at xs)) in
    ap (λ (l : List ℕ). take at xs ++ l) behind ∙ take-append-drop at xs

-- a part that is put where another stands, and the other again
module _ (xs old new : List ℕ) (at : ℕ) (stands : OccursAt xs at old) where
  stands-splice : OccursAt (splice xs at (at + length old) new) at new
  stands-splice =
      let within : at ≤ length xs = let l = stands.within in omega (arith, l) in
      record {
        within = let l = stands.within in omega (arith, l, length-splice xs new at (at + length old) within);
        same = ap (take (length new)) (drop-splice xs new at (at + length old) within) ∙ take_at new (drop (at + length old) xs) (length new) refl;
      }

  splice-back : splice (splice xs at (at + length old) new) at (at + length new) old ≡ xs
  splice-back =
      let within : at ≤ length xs = let l = stands.within in omega (arith, l) in
      ap (λ (l : List ℕ). l ++ (old ++ drop (at + length new) (splice xs at (at + length old) new))) (take-splice xs new at (at + length old) within)
      ∙ (ap (λ (l : List ℕ). take at xs ++ (old ++ l)) (drop-splice_past xs new at (at + length old) within)
      ∙ splice-standing xs old at stands)

pub leads_back : (s : Splice) (from to : List ℕ) (held : ℕ) → Leads s from to held → OccursAt to s.at s.new × (backwards s to ≡ from)
leads_back s from to held leads = (
  rw (sym leads.gives) (stands-splice from s.old s.new s.at leads.stands),
  rw (sym leads.gives) (splice-back from s.old s.new s.at leads.stands),
)

-- A splice that holds the old part and the new one in a row.
abbrev pub parts : ℕ → List ℕ → List ℕ → Splice
parts at old new = record { at = at; old = old; new = new }

pub parts_in_row : (at : ℕ) (old new row : List ℕ) → row ≡ old ++ new → parts at (take (length old) row) (drop (length old) row) ≡ parts at old new
parts_in_row at old new row is =
    ap₂ (parts at)
    (ap (take (length old)) is ∙ take_at old new (length old) refl) (ap (drop (length old)) is ∙ drop_at old new (length old) refl)

-- Both parts, each written over the first bytes of what was left: the bytes begin with both.
pub row_of_both : (old new first second rest behind : List ℕ) → first ≡ old → second ≡ new
    → take (length old + length new) (take (length old) (first ++ rest) ++ (second ++ behind)) ≡ old ++ new
row_of_both old new first second rest behind one two =
    ap (λ (l : List ℕ). take (length old + length new) (take (length old) (l ++ rest) ++ (second ++ behind))) one
    ∙ (ap₂ (λ (l m : List ℕ). take (length old + length new) (l ++ (m ++ behind))) (take_at old rest (length old) refl) two
    ∙ (ap (take (length old + length new)) (sym (append_assoc old new behind))
    ∙ take_at (old ++ new) behind (length old + length new) (length-append old new)))
