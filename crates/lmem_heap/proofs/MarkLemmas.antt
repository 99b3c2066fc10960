-- A heap's marks stay right where a chunk changes, once that chunk's own is forgotten.
use Rattle.std.proofs.Common.{◌≡◌, ◌≢◌, ℕ, zero, suc, ◌≤◌, ◌==◌, true, not, List, [], ◌∷◌, take, set, get_or, get_or-set_other, Option, Some, None, IfSome, unwrap_or, refl, sym, ap, subst, ◌∙◌, inl, inr, arith}
use Rattle.std.proofs.lemmas.Bool.{cases_lt, cases_eq, cond-true, cond-false, ne_eqb, eq-eqb}
use Rattle.std.proofs.lemmas.List.{get_or-take, get_or_past, length-take}
use Rattle.geos_model.proofs.Tables.{put_at, slot_at-put_other}
use Rattle.heap_images.specs.Packed.{PackedSlots}
use Rattle.lmem_heap.specs.Known.{is_array_of}
use Rattle.lmem_heap.specs.Marks.{kind_in, without, IsMarked, AreMarked}
use Rattle.lmem_heap.specs.declared.known.ArrayKind.{ArrayKind}
use Rattle.lmem_heap.specs.declared.marks.Mark.{Mark}

-- the bytes of a slot's chunk
abbrev bytes_at : PackedSlots → ℕ → List ℕ
bytes_at t i = unwrap_or (get_or t i None) []

-- where all slots but k have what they had, the marks of all but k stay right
kept : (t n : PackedSlots) (k : ℕ) (ms : List Mark) → ((j : ℕ) → j ≢ k → get_or n j None ≡ get_or t j None) → AreMarked t ms → AreMarked n (without k ms)
kept t n k [] same are = tt
kept t n k (m ∷ ms) same are =
    let rest = kept t n k ms same are.1 in
    elim (cases_eq m.slot k) [
      | inl own ↦ subst (AreMarked n) (sym (cond-false (not (m.slot == k)) (m ∷ without k ms) (without k ms) (ap not (eq-eqb m.slot k own)))) rest
      | inr other ↦
          let is : IsMarked n m = subst (λ (o : Option (List ℕ)). is_array_of m.kind (unwrap_or o []) ≡ true) (sym (same m.slot other)) are.0 in
          subst (AreMarked n) (sym (cond-true (not (m.slot == k)) (m ∷ without k ms) (without k ms) (ap not (ne_eqb m.slot k other)))) (is, rest)
    ]

-- a chunk is put in slot k
pub marked_put : (t n : PackedSlots) (k : ℕ) (b : List ℕ) (ms ns : List Mark) → n ≡ put_at t k b → ns ≡ without k ms → AreMarked t ms → AreMarked n ns
marked_put t n k b ms ns is left are =
    subst (AreMarked n) (sym left) (kept t n k ms (λ j other. ap (λ (x : PackedSlots). get_or x j None) is ∙ slot_at-put_other t k j b other) are)

-- behind the last chunk there is none
cut_slot : (t : PackedSlots) (n j : ℕ) → ((i : ℕ) → n ≤ i → get_or t i None ≡ None) → get_or (take n t) j None ≡ get_or t j None
cut_slot t n j gaps = elim (cases_lt j n) [
  | inl l ↦ get_or-take n t j None l
  | inr past ↦ get_or_past (take n t) j None (omega (arith, length-take n t)) ∙ sym (gaps j past)
]

-- slot k is cleared, and the slots behind the last chunk are left off
pub marked_freed : (t s n : PackedSlots) (k most : ℕ) (ms ns : List Mark) → s ≡ set t k None → n ≡ take most s → ((j : ℕ) → most ≤ j → get_or s j None ≡ None) → ns ≡ without k ms → AreMarked t ms → AreMarked n ns
marked_freed t s n k most ms ns cleared cut gaps left are =
    subst (AreMarked n) (sym left) (kept t n k ms (λ j other.
    ap (λ (x : PackedSlots). get_or x j None) cut ∙ (cut_slot s most j gaps
    ∙ (ap (λ (x : PackedSlots). get_or x j None) cleared ∙ get_or-set_other t k j None None other))) are)

-- the first marks of those that are right
marked_first : (t : PackedSlots) (n : ℕ) (ms : List Mark) → AreMarked t ms → AreMarked t (take n ms)
marked_first t zero ms are = tt
marked_first t (suc n) [] are = tt
marked_first t (suc n) (m ∷ ms) are = (are.0, marked_first t n ms are.1)

-- slot k is marked
pub marked_more : (t : PackedSlots) (k : ℕ) (kind : ArrayKind) (ms ns : List Mark) → is_array_of kind (bytes_at t k) ≡ true → ns ≡ record { slot = k; kind = kind } ∷ take 7 (without k ms) → AreMarked t ms → AreMarked t ns
marked_more t k kind ms ns is made are =
    subst (AreMarked t) (sym made) (is, marked_first t 7 (without k ms) (kept t t k ms (λ j other. refl) are))

-- what a mark tells of its slot's chunk
pub marked_kind : (t : PackedSlots) (ms : List Mark) (i : ℕ) → AreMarked t ms → IfSome (kind_in ms i) (λ kind. is_array_of kind (bytes_at t i) ≡ true)
marked_kind t [] i are = tt
marked_kind t (m ∷ ms) i are = elim (cases_eq m.slot i) [
  | inl own ↦ subst (λ (o : Option ArrayKind). IfSome o (λ kind. is_array_of kind (bytes_at t i) ≡ true)) (sym (cond-true (m.slot == i) (Some m.kind) (kind_in ms i) (eq-eqb m.slot i own)))
      (subst (λ (j : ℕ). is_array_of m.kind (bytes_at t j) ≡ true) own are.0)
  | inr other ↦ subst (λ (o : Option ArrayKind). IfSome o (λ kind. is_array_of kind (bytes_at t i) ≡ true)) (sym (cond-false (m.slot == i) (Some m.kind) (kind_in ms i) (ne_eqb m.slot i other))) (marked_kind t ms i are.1)
]

-- so it tells of the chunk that was found there
pub known_kind : (t : PackedSlots) (ms : List Mark) (i : ℕ) (b : List ℕ) (o : Option ArrayKind) → AreMarked t ms → o ≡ kind_in ms i → Some b ≡ get_or t i None → IfSome o (λ kind. is_array_of kind b ≡ true)
known_kind t ms i b o are is found =
    subst (λ (x : List ℕ). IfSome o (λ kind. is_array_of kind x ≡ true)) (ap (λ (s : Option (List ℕ)). unwrap_or s []) (sym found))
    (subst (λ (p : Option ArrayKind). IfSome p (λ kind. is_array_of kind (bytes_at t i) ≡ true)) (sym is) (marked_kind t ms i are))
