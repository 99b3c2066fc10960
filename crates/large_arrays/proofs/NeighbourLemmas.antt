-- Which neighbours are joined, by what pieces weigh.
use Rattle.std.proofs.Common.{◌≡◌, ℕ, ◌+◌, ◌<◌, ◌≤◌, Bool, true, false, ◌&&◌, ◌==◌, nat_le, nat_lt, if◌then◌else◌, List, [], ◌∷◌, ◌++◌, length, map, Option, Some, None, unwrap_or, refl, sym, ap, ap₂, ◌∙◌, inl, inr, arith, leb-true, leb-false}
use Rattle.std.proofs.lemmas.Bool.{cases_Bool, true≢false, cond-true, cond-false, ne_eqb}
use Rattle.geos_model.specs.Pieces.{BranchPiece, piece_weight, join_room, are_joined}
use Rattle.geos_model.specs.Spread.{first_place, end_place, middle, left_piece, right_piece, with_first}
use Rattle.geos_model.specs.LargeWindow.{left_joins, right_joins, looks_left, looks_right}
use Rattle.large_bodies.specs.Neighbours.{ends_of, if_known, looks_left_by, looks_right_by, are_joined_by, left_joins_by, last_weight, right_joins_by}
use Rattle.large_bodies.specs.declared.neighbours.MiddleEnds.{MiddleEnds}
use Rattle.geos_model.proofs.SpreadFits.{weight-append}
use Rattle.geos_model.proofs.SpreadSides.{is_full}
use Rattle.geos_model.proofs.SpreadStays.{begins}
use Rattle.geos_model.proofs.Windows.{there, last, joins_left, joins_right, joins_right-some, joins_left-some, last-next, there-left, there-right, left_is, right_is}

-- what a neighbour weighs, if there is one
abbrev weighs : ℕ → BranchPiece → Option ℕ
weighs size p = if_known (there p) (piece_weight size p)

some_pieces : (m : BranchPiece) (ms : List BranchPiece) → (length (m ∷ ms) == 0) ≡ false
some_pieces m ms = ne_eqb (length (m ∷ ms)) 0 (λ is. omega arith)

-- with another behind it is the last one still
last-longer : (p m : BranchPiece) (ms : List BranchPiece) → last (p ∷ m ∷ ms) ≡ last (m ∷ ms)
last-longer p m ms = last-next p m ms

and_false : (b : Bool) → (b && false) ≡ false
and_false true = refl
and_false false = refl

joined-none : (o : Option ℕ) → are_joined_by o None ≡ false
joined-none None = refl
joined-none (Some w) = refl

module _ (size : ℕ) where
  -- the left neighbour and the middle's first piece
  left-by : (l : BranchPiece) (mid : List BranchPiece) (r : BranchPiece) → joins_left size l mid r ≡ left_joins_by (weighs size l) (weighs size r) (ends_of size mid)
  left-by [] mid r = refl
  left-by (z ∷ zs) [] [] = refl
  left-by (z ∷ zs) [] (y ∷ ys) = refl
  left-by (z ∷ zs) (m ∷ ms) r =
      joins_left-some size z zs m ms r
      ∙ ap (are_joined_by (Some (piece_weight size (z ∷ zs)))) (sym (cond-false (length (m ∷ ms) == 0) (weighs size r) (Some (piece_weight size m)) (some_pieces m ms)))

  -- what stands before the right neighbour, where there is a middle
  before-by : (l : BranchPiece) (m : BranchPiece) (ms : List BranchPiece) (r : BranchPiece)
      → piece_weight size (last (with_first size l (m ∷ ms))) ≡ last_weight (weighs size l) (weighs size r) (ends_of size (m ∷ ms))
  before-by [] m ms r =
      let one = length (m ∷ ms) == 1 in
      sym (cond-false (one && false) (0 + piece_weight size (last (m ∷ ms))) (piece_weight size (last (m ∷ ms))) (and_false one))
  before-by (z ∷ zs) m ms r =
      let l : BranchPiece = z ∷ zs in
      let ends : MiddleEnds = ends_of size (m ∷ ms) in
      let b = are_joined size l m in
      let one = length (m ∷ ms) == 1 in
      let end : ℕ = piece_weight size (last (m ∷ ms)) in
      let joins : left_joins_by (weighs size l) (weighs size r) ends ≡ b = sym (left-by l (m ∷ ms) r) ∙ joins_left-some size z zs m ms r in
      elim (cases_Bool b) [
        | inl joined ↦
            ap (λ (ps : List BranchPiece). piece_weight size (last ps)) (cond-true b ((l ++ m) ∷ ms) (l ∷ m ∷ ms) joined)
            ∙ joined_end ms
            ∙ ap (λ (c : Bool). if one && c then piece_weight size l + end else end) (sym (joins ∙ joined))
        | inr apart ↦
            ap (λ (ps : List BranchPiece). piece_weight size (last ps)) (cond-false b ((l ++ m) ∷ ms) (l ∷ m ∷ ms) apart ∙ refl)
            ∙ ap (piece_weight size) (last-longer l m ms)
            ∙ sym (cond-false (one && false) (piece_weight size l + end) end (and_false one))
            ∙ ap (λ (c : Bool). if one && c then piece_weight size l + end else end) (sym (joins ∙ apart))
      ]
    where
      joined_end : (ms : List BranchPiece) → piece_weight size (last (((z ∷ zs) ++ m) ∷ ms))
          ≡ (if (length (m ∷ ms) == 1) && true then piece_weight size (z ∷ zs) + piece_weight size (last (m ∷ ms)) else piece_weight size (last (m ∷ ms)))
      joined_end [] = weight-append size (z ∷ zs) m
      joined_end (n ∷ ns) =
          let more : ((length (m ∷ n ∷ ns) == 1) && true) ≡ false = ap (λ (c : Bool). c && true) (ne_eqb (length (m ∷ n ∷ ns)) 1 (λ is. omega arith)) in
          ap (piece_weight size) (last-longer ((z ∷ zs) ++ m) n ns ∙ sym (last-longer m n ns))
          ∙ sym (cond-false ((length (m ∷ n ∷ ns) == 1) && true) (piece_weight size (z ∷ zs) + piece_weight size (last (m ∷ n ∷ ns))) (piece_weight size (last (m ∷ n ∷ ns))) more)

  -- there is a first piece before it
  begun : (l : BranchPiece) (m : BranchPiece) (ms : List BranchPiece) → (w : BranchPiece) × (ws : List BranchPiece) × (with_first size l (m ∷ ms) ≡ w ∷ ws)
  begun [] m ms = (m, ms, refl)
  begun (z ∷ zs) m ms =
      let b = are_joined size (z ∷ zs) m in
      elim (cases_Bool b) [
        | inl joined ↦ (((z ∷ zs) ++ m), ms, cond-true b (((z ∷ zs) ++ m) ∷ ms) ((z ∷ zs) ∷ m ∷ ms) joined)
        | inr apart ↦ ((z ∷ zs), m ∷ ms, cond-false b (((z ∷ zs) ++ m) ∷ ms) ((z ∷ zs) ∷ m ∷ ms) apart)
      ]

  right-by : (l : BranchPiece) (mid : List BranchPiece) (r : BranchPiece) → joins_right size l mid r ≡ right_joins_by (weighs size l) (weighs size r) (ends_of size mid)
  right-by [] [] [] = refl
  right-by [] [] (y ∷ ys) = refl
  right-by (z ∷ zs) [] [] = refl
  right-by (z ∷ zs) [] (y ∷ ys) = refl
  right-by l (m ∷ ms) [] = sym (joined-none (if length (m ∷ ms) == 0 then weighs size l else Some (last_weight (weighs size l) None (ends_of size (m ∷ ms)))))
  right-by l (m ∷ ms) (y ∷ ys) =
      let r : BranchPiece = y ∷ ys in
      let all = begun l m ms in
      let before : ℕ = last_weight (weighs size l) (weighs size r) (ends_of size (m ∷ ms)) in
      joins_right-some size l (m ∷ ms) r all.0 all.1 all.2
      ∙ ap (λ (ps : List BranchPiece). are_joined size (last ps) r) (sym all.2)
      ∙ ap (λ (n : ℕ). nat_le (n + piece_weight size r) join_room) (before-by l m ms r)
      ∙ ap (λ (o : Option ℕ). are_joined_by o (weighs size r)) (sym (cond-false (length (m ∷ ms) == 0) (weighs size l) (Some before) (some_pieces m ms)))

-- Where sizes vary, weights of neighbours that aren't looked at play no part.

abbrev seen : Bool → Bool → Bool → ℕ → Bool
seen none here there beside = here && (if none then there else nat_le beside join_room)

abbrev join_left : Bool → ℕ → Option ℕ → Option ℕ → Bool
join_left none first left right = are_joined_by left (if none then right else Some first)

abbrev join_right : Bool → Bool → ℕ → ℕ → Option ℕ → Option ℕ → Bool
join_right none one first last left right =
    are_joined_by (if none then left else Some (if one && join_left none first left right then unwrap_or left 0 + last else last)) right

-- what is too heavy already is joined to nothing
too_heavy : (m n : ℕ) → nat_le n join_room ≡ false → nat_le (m + n) join_room ≡ false
too_heavy m n heavy = elim (cases_Bool (nat_le (m + n) join_room)) [
  | inl is ↦ (let most = leb-true (m + n) join_room is in let more = leb-false n join_room heavy in absurd (omega arith))
  | inr other ↦ other
]

unseen-left : (none hl hr : Bool) (wl wr first last : ℕ)
    → join_left none first (if_known (seen none hl hr first) wl) (if_known (seen none hr hl last) wr) ≡ join_left none first (if_known hl wl) (if_known hr wr)
unseen-left true true true wl wr first last = refl
unseen-left true true false wl wr first last = refl
unseen-left true false true wl wr first last = refl
unseen-left true false false wl wr first last = refl
unseen-left false false hr wl wr first last = refl
unseen-left false true hr wl wr first last = elim (cases_Bool (nat_le first join_room)) [
  | inl light ↦ ap (λ (b : Bool). are_joined_by (if_known b wl) (Some first)) light
  | inr heavy ↦ ap (λ (b : Bool). are_joined_by (if_known b wl) (Some first)) heavy ∙ sym (too_heavy wl first heavy)
]

-- what a joined neighbour weighs is known
known_joined : (hl light : Bool) (wl first : ℕ) → are_joined_by (if_known (hl && light) wl) (Some first) ≡ true → unwrap_or (if_known (hl && light) wl) 0 ≡ unwrap_or (if_known hl wl) 0
known_joined true true wl first joined = refl
known_joined true false wl first joined = absurd (true≢false (sym joined))
known_joined false light wl first joined = refl

unseen-last : (one hl hr : Bool) (wl wr first last : ℕ)
    → (if one && join_left false first (if_known (seen false hl hr first) wl) (if_known (seen false hr hl last) wr) then unwrap_or (if_known (seen false hl hr first) wl) 0 + last else last)
    ≡ (if one && join_left false first (if_known hl wl) (if_known hr wr) then unwrap_or (if_known hl wl) 0 + last else last)
unseen-last false hl hr wl wr first last = refl
unseen-last true hl hr wl wr first last =
    let known : Option ℕ = if_known (seen false hl hr first) wl in
    let b = are_joined_by known (Some first) in
    let same : b ≡ are_joined_by (if_known hl wl) (Some first) = unseen-left false hl hr wl wr first last in
    let w : ℕ = unwrap_or (if_known hl wl) 0 in
    elim (cases_Bool b) [
      | inl joined ↦
          cond-true b (unwrap_or known 0 + last) last joined
          ∙ ap (λ (n : ℕ). n + last) (known_joined hl (nat_le first join_room) wl first joined)
          ∙ sym (cond-true (are_joined_by (if_known hl wl) (Some first)) (w + last) last (sym same ∙ joined))
      | inr apart ↦
          cond-false b (unwrap_or known 0 + last) last apart ∙ sym (cond-false (are_joined_by (if_known hl wl) (Some first)) (w + last) last (sym same ∙ apart))
    ]

unseen-right : (none one hl hr : Bool) (wl wr first last : ℕ)
    → join_right none one first last (if_known (seen none hl hr first) wl) (if_known (seen none hr hl last) wr) ≡ join_right none one first last (if_known hl wl) (if_known hr wr)
unseen-right true one true true wl wr first last = refl
unseen-right true one true false wl wr first last = refl
unseen-right true one false true wl wr first last = refl
unseen-right true one false false wl wr first last = refl
unseen-right false one hl false wl wr first last = refl
unseen-right false one hl true wl wr first last =
    let left : ℕ = if one && join_left false first (if_known hl wl) (Some wr) then unwrap_or (if_known hl wl) 0 + last else last in
    ap (λ (n : ℕ). are_joined_by (Some n) (if_known (nat_le last join_room) wr)) (unseen-last one hl true wl wr first last)
    ∙ elim (cases_Bool (nat_le last join_room)) [
      | inl light ↦ ap (λ (b : Bool). are_joined_by (Some left) (if_known b wr)) light
      | inr heavy ↦ ap (λ (b : Bool). are_joined_by (Some left) (if_known b wr)) heavy ∙ sym (heavy_last (one && join_left false first (if_known hl wl) (Some wr)) (unwrap_or (if_known hl wl) 0) heavy)
    ]
  where
    heavy_last : (c : Bool) (w : ℕ) → nat_le last join_room ≡ false → nat_le ((if c then w + last else last) + wr) join_room ≡ false
    heavy_last true w heavy =
        let swap : (w + wr) + last ≡ w + last + wr = omega arith in
        ap (λ (n : ℕ). nat_le n join_room) (sym swap) ∙ too_heavy (w + wr) last heavy
    heavy_last false w heavy =
        let swap : wr + last ≡ last + wr = omega arith in
        ap (λ (n : ℕ). nat_le n join_room) (sym swap) ∙ too_heavy wr last heavy

-- A run in pieces, its neighbours by what they weigh.
module _ (size : ℕ) (ps : List BranchPiece) (i j : ℕ) (new : BranchPiece) (some : 0 < length ps) (full : is_full ps ≡ true) (order : i ≤ j) where
  abbrev f : ℕ
  f = (first_place (map length ps) i j).0

  abbrev t : ℕ
  t = (end_place (map length ps) j).0

  abbrev l : BranchPiece
  l = left_piece ps i j

  abbrev r : BranchPiece
  r = right_piece ps j

  abbrev mid : List BranchPiece
  mid = middle size ps i j new

  abbrev ends : MiddleEnds
  ends = ends_of size mid

  -- there are such neighbours
  abbrev hl : Bool
  hl = nat_lt 0 f

  abbrev hr : Bool
  hr = nat_lt (t + 1) (length ps)

  weighs_left : weighs size l ≡ if_known hl (piece_weight size l)
  weighs_left = ap (λ (b : Bool). if_known b (piece_weight size l)) (sym (there-left f ps full (begins ps i j some)))

  weighs_right : weighs size r ≡ if_known hr (piece_weight size r)
  weighs_right = ap (λ (b : Bool). if_known b (piece_weight size r)) (sym (there-right t ps full))

  pub left_joins-by : left_joins size ps i j new ≡ left_joins_by (if_known hl (piece_weight size l)) (if_known hr (piece_weight size r)) ends
  left_joins-by =
      left_is size ps i j new some full order ∙ left-by size l mid r ∙ ap₂ (λ (x y : Option ℕ). left_joins_by x y ends) weighs_left weighs_right

  pub right_joins-by : right_joins size ps i j new ≡ right_joins_by (if_known hl (piece_weight size l)) (if_known hr (piece_weight size r)) ends
  right_joins-by =
      right_is size ps i j new some full order ∙ right-by size l mid r ∙ ap₂ (λ (x y : Option ℕ). right_joins_by x y ends) weighs_left weighs_right

  -- Where sizes vary, by those that are looked at.

  pub looks_left-by : (size == 0) ≡ true → looks_left size ps i j new ≡ looks_left_by hl hr ends
  looks_left-by vary = cond-true (size == 0) (looks_left_by hl hr ends) (left_joins size ps i j new) vary

  pub looks_right-by : (size == 0) ≡ true → looks_right size ps i j new ≡ looks_right_by hl hr ends
  looks_right-by vary = cond-true (size == 0) (looks_right_by hl hr ends) (right_joins size ps i j new) vary

  pub left_joins-seen : (size == 0) ≡ true
      → left_joins size ps i j new ≡ left_joins_by (if_known (looks_left_by hl hr ends) (piece_weight size l)) (if_known (looks_right_by hl hr ends) (piece_weight size r)) ends
  left_joins-seen vary = left_joins-by ∙ sym (unseen-left (length mid == 0) hl hr (piece_weight size l) (piece_weight size r) ends.first ends.last)

  pub right_joins-seen : (size == 0) ≡ true
      → right_joins size ps i j new ≡ right_joins_by (if_known (looks_left_by hl hr ends) (piece_weight size l)) (if_known (looks_right_by hl hr ends) (piece_weight size r)) ends
  right_joins-seen vary = right_joins-by ∙ sym (unseen-right (length mid == 0) (length mid == 1) hl hr (piece_weight size l) (piece_weight size r) ends.first ends.last)

  -- Where all have one size, those that are joined are looked at.

  pub looks_left-one : (size == 0) ≡ false → looks_left size ps i j new ≡ left_joins size ps i j new
  looks_left-one one = cond-false (size == 0) (looks_left_by hl hr ends) (left_joins size ps i j new) one

  pub looks_right-one : (size == 0) ≡ false → looks_right size ps i j new ≡ right_joins size ps i j new
  looks_right-one one = cond-false (size == 0) (looks_right_by hl hr ends) (right_joins size ps i j new) one
