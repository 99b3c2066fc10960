use Rattle.std.proofs.Common.{◌≡◌, ℕ, ◌+◌, ◌≤◌, ◌++◌, true, List, [], ◌∷◌, length, take, drop, get_or, replicate, refl, sym, ap, subst, ◌∙◌, arith}
use Rattle.byteorder.specs.Endian.{little_bytes}
use Rattle.geos_model.specs.Words.{word}
use Rattle.geos_model.specs.Array.{Array}
use Rattle.geos_model.specs.ElementArray.{first_token, is_sound, slots_array}
use Rattle.geos_model.specs.ElementEdits.{with_new}
use Rattle.chunk_arrays.specs.Rewriting.{extra_after}
use Rattle.element_arrays.specs.Slotted.{Slotted, slotted_array}
use Rattle.element_arrays.proofs.SlottedLemmas.{is_even-slots, length-slots, extra-slots, extra_put, extra_room, spelled-parts, length-parts, newest_lt, newest_link, token-none, put-none, token-some, put-some, put, behind_last, gives, refuses, carried}
use Rattle.element_arrays.proofs.slot_view.SlotView.with_new.Goals.{After-from-at, After-element, After-first_word-next}
use Rattle.element_arrays.proofs.slot_view.SlotView.with_new.Goals as goal

-- the bytes that come in
abbrev coming : List ℕ → List ℕ → List ℕ
coming head tail = (1 ∷ 0 ∷ 0 ∷ []) ++ head ++ tail ++ replicate 0 0

coming_is : (head tail : List ℕ) → coming head tail ≡ little_bytes 3 1 ++ (head ++ tail)
coming_is head tail = spelled-parts 1 (1 ∷ 0 ∷ 0 ∷ []) head tail refl

pub rewrite-requires-clause-within : goal.rewrite-requires-clause-within
rewrite-requires-clause-within c =
    let s : Slotted = c.args.self.now in
    let len = length-slots s.more s.slots c.array-array.result.now.array c.array-array.ensures in
    omega (arith, len, (c.from-at.ensures ∙ c.len.ensures))

pub rewrite-requires-clause-even : goal.rewrite-requires-clause-even
rewrite-requires-clause-even c =
    let s : Slotted = c.args.self.now in
    let head = c.args.head.now in let tail = c.args.tail.now in
    is_even-slots s.more s.slots c.array-array.result.now.array c.array-array.result.now.array.extra c.from-at.result c.from-at.result (coming head tail) c.array-array.ensures c.array-array.result.now.even
    (length-parts s.slots.size 1 (coming head tail) (head ++ tail) (coming_is head tail) c.requires)

pub element-requires : goal.element-requires
element-requires c =
    let s : Slotted = c.args.self.now in
    let len = length-slots s.more s.slots c.array-array.result.now.array c.array-array.ensures in
    let low = newest_lt s.slots c.in-Some.token.0 c.args.self.now.sound c.in-Some.ensures in
    omega (arith, len, low, c.from-at-in-Some.ensures)

-- the link in the slot of the newest free token, in its two parts
link_at : (s : Slotted) (v : Array) (t at : ℕ) (element : List ℕ) → v ≡ slotted_array s → is_sound s.slots ≡ true → s.slots.free ≡ t ∷ drop 1 s.slots.free → at ≡ t → element ≡ get_or v.elements at [] → (2 ≤ length element) × (take 2 element ≡ word (first_token (drop 1 s.slots.free)))
link_at s v t at element is sound free place e =
    let same : element ≡ get_or v.elements t [] = e ∙ ap (λ (n : ℕ). get_or v.elements n []) place in
    subst (λ x. (2 ≤ length x) × (take 2 x ≡ word (first_token (drop 1 s.slots.free)))) (sym same) (newest_link s.more s.slots v t is sound free)

link : (c : After-element) → (2 ≤ length c.element.result.now) × (take 2 c.element.result.now ≡ word (first_token (drop 1 c.args.self.now.slots.free)))
link c = link_at c.args.self.now c.array-array.result.now.array c.in-Some.token.0 c.from-at-in-Some.result c.element.result.now c.array-array.ensures c.args.self.now.sound c.in-Some.ensures c.from-at-in-Some.ensures c.element.ensures

pub first_word-next-requires : goal.first_word-next-requires
first_word-next-requires c = (link (goal.at.first_word-next-requires c).After-element).0

pub rewrite-requires-in-Some-clause-within : goal.rewrite-requires-in-Some-clause-within
rewrite-requires-in-Some-clause-within c =
    let s : Slotted = c.args.self.now in
    let len = length-slots s.more s.slots c.array-array.result.now.array c.array-array.ensures in
    let low = newest_lt s.slots c.in-Some.token.0 c.args.self.now.sound c.in-Some.ensures in
    omega (arith, len, low, c.from-at-in-Some.ensures)

pub rewrite-requires-in-Some-clause-extra : goal.rewrite-requires-in-Some-clause-extra
rewrite-requires-in-Some-clause-extra c =
    let s : Slotted = c.args.self.now in
    extra_room s.more s.slots c.array-array.result.now.array (first_token (drop 1 s.slots.free)) c.first_word-next.result.now c.array-array.ensures (c.first_word-next.ensures ∙ (link (goal.at.rewrite-requires-in-Some-clause-extra c).After-element).1)

pub rewrite-requires-in-Some-clause-even : goal.rewrite-requires-in-Some-clause-even
rewrite-requires-in-Some-clause-even c =
    let s : Slotted = c.args.self.now in
    let head = c.args.head.now in let tail = c.args.tail.now in
    is_even-slots s.more s.slots c.array-array.result.now.array (extra_after c.array-array.result.now.array c.first_word-next.result.now) c.from-at-in-Some.result (c.from-at-in-Some.result + 1) (coming head tail) c.array-array.ensures c.array-array.result.now.even
    (length-parts s.slots.size 1 (coming head tail) (head ++ tail) (coming_is head tail) c.requires)

-- what comes out where no token is free
appended : (c : After-from-at) → c.args.self.now.slots.free ≡ [] → put c.array-array.result.now.array c.array-array.result.now.array.extra c.from-at.result c.from-at.result (coming c.args.head.now c.args.tail.now) ≡ slots_array c.args.self.now.more (with_new c.args.self.now.slots (c.args.head.now ++ c.args.tail.now)).0
appended c free =
    let s : Slotted = c.args.self.now in
    let v = c.array-array.result.now.array in
    let head = c.args.head.now in let tail = c.args.tail.now in
    put-none s.more s.slots v c.from-at.result v.extra (coming head tail) (head ++ tail) c.array-array.ensures free (c.from-at.ensures ∙ c.len.ensures) (extra-slots s.more s.slots v c.array-array.ensures) (coming_is head tail)

pub returns-in_err-patch-in-None : goal.returns-in_err-patch-in-None
returns-in_err-patch-in-None c =
    let s : Slotted = c.args.self.now in
    let fault = c.in_err-patch-in-None.field-0.0 in
    carried c.from_residual.result _ _ fault c.from_residual.ensures.1
    (refuses s (with_new s.slots (c.args.head.now ++ c.args.tail.now)).0 _ fault (appended (goal.at.returns-in_err-patch-in-None c).After-from-at c.in-None.ensures) c.in_err-patch-in-None.ensures)

pub returns-in_ok-patch-in-None : goal.returns-in_ok-patch-in-None
returns-in_ok-patch-in-None c =
    let s : Slotted = c.args.self.now in
    let bytes = c.args.head.now ++ c.args.tail.now in (
      gives s (with_new s.slots bytes).0 c.array-array.result.now.array _ _ c.from-at.result c.in_ok-patch-in-None.patch c.array-array.ensures
          (appended (goal.at.returns-in_ok-patch-in-None c).After-from-at c.in-None.ensures)
          (c.from-at.ensures ∙ token-none s.slots bytes c.len.result c.in-None.ensures c.len.ensures)
          (behind_last c.array-array.result.now.array _ c.from-at.result c.in_ok-patch-in-None.patch c.array-array.result.now.even
          (let len = length-slots s.more s.slots c.array-array.result.now.array c.array-array.ensures in omega (arith, len, (c.from-at.ensures ∙ c.len.ensures)))
          c.in_ok-patch-in-None.ensures),
      token-none s.slots bytes c.len.result c.in-None.ensures c.len.ensures,
    )

-- what comes out where one is
reused : (c : After-first_word-next) → put c.array-array.result.now.array (extra_after c.array-array.result.now.array c.first_word-next.result.now) c.from-at-in-Some.result (c.from-at-in-Some.result + 1) (coming c.args.head.now c.args.tail.now) ≡ slots_array c.args.self.now.more (with_new c.args.self.now.slots (c.args.head.now ++ c.args.tail.now)).0
reused c =
    let s : Slotted = c.args.self.now in
    let v = c.array-array.result.now.array in
    let is = c.array-array.ensures in
    let t : ℕ = c.in-Some.token.0 in
    let at = c.from-at-in-Some.result in
    let head = c.args.head.now in let tail = c.args.tail.now in
    let next = link_at s v t at c.element.result.now is s.sound c.in-Some.ensures c.from-at-in-Some.ensures c.element.ensures in
    let first = extra_put s.more s.slots v (first_token (drop 1 s.slots.free)) c.first_word-next.result.now is (c.first_word-next.ensures ∙ next.1) in
    put-some s.more s.slots v t at (extra_after v c.first_word-next.result.now) (coming head tail) (head ++ tail) is s.sound c.in-Some.ensures c.from-at-in-Some.ensures first (coming_is head tail)

pub returns-in_err-patch-in-Some : goal.returns-in_err-patch-in-Some
returns-in_err-patch-in-Some c =
    let s : Slotted = c.args.self.now in
    let fault = c.in_err-patch-in-Some.field-0.0 in
    carried c.from_residual-in_err-patch-in-Some.result _ _ fault c.from_residual-in_err-patch-in-Some.ensures.1
    (refuses s (with_new s.slots (c.args.head.now ++ c.args.tail.now)).0 _ fault (reused (goal.at.returns-in_err-patch-in-Some c).After-first_word-next) c.in_err-patch-in-Some.ensures)

pub returns-in_ok-patch-in-Some : goal.returns-in_ok-patch-in-Some
returns-in_ok-patch-in-Some c =
    let s : Slotted = c.args.self.now in
    let bytes = c.args.head.now ++ c.args.tail.now in (
      gives s (with_new s.slots bytes).0 c.array-array.result.now.array _ _ c.from-at-in-Some.result c.in_ok-patch-in-Some.patch c.array-array.ensures
          (reused (goal.at.returns-in_ok-patch-in-Some c).After-first_word-next)
          (c.from-at-in-Some.ensures ∙ token-some s.slots bytes c.in-Some.token.0 c.in-Some.ensures)
          c.in_ok-patch-in-Some.ensures,
      token-some s.slots bytes c.in-Some.token.0 c.in-Some.ensures,
    )
