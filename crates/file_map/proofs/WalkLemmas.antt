-- Walks over parts by their first pages.
use Rattle.std.proofs.Common.{◌≡◌, ℕ, ◌+◌, ◌<◌, ◌≤◌, ◌||◌, ◌&&◌, Bool, true, false, max, List, ◌∷◌, length, drop, get_or, arith, refl, sym, subst, ap, ap₂, ◌∙◌, inl, inr}
use Rattle.std.specs.Prelude.{nat_le, nat_lt}
use Rattle.std.specs.List.Sorted.{IsNonDecreasingBy}
use Rattle.std.proofs.lemmas.Bool.{cases_lt, le-leb, leb-true, lt-ltb, le-ltb, leb-false}
use Rattle.std.proofs.lemmas.List.{drop_more, get_or-drop}
use Rattle.std.proofs.lemmas.List.Folds.{list_any_none}
use Rattle.std.proofs.lemmas.Option.{slice_get-get_or, slice_get_cases}
use Rattle.std.proofs.lemmas.List.{length-drop}
use Rattle.file_format.specs.File.{end_page}
use Rattle.file_space.specs.Space.{is_on, is_within}
use Rattle.file_space.proofs.SpaceLemmas.{within_no}
use Rattle.file_map.specs.Pages.{lies, page_content, content_at, users}
use Rattle.file_map.specs.Walks.{AreEnds, Covers, IsPast, IsPartWalk, begins_by, begins_by_of, ends_behind, further}
use Rattle.file_map.specs.declared.part.Part.{Part}
use Rattle.file_map.specs.declared.walk.Ends.{Ends}
use Rattle.file_map.specs.declared.walk.Walk.{Walk}

lt_max : (q a b : ℕ) → nat_lt q (max a b) ≡ (nat_lt q a || nat_lt q b)
lt_max q a b = elim (cases_lt q a) [
  | inl low ↦ lt-ltb q (max a b) (omega (arith, low)) ∙ ap (λ t. t || nat_lt q b) (sym (lt-ltb q a low))
  | inr high ↦ elim (cases_lt q b) [
    | inl low ↦ lt-ltb q (max a b) (omega (arith, low)) ∙ ap₂ (λ s t. s || t) (sym (le-ltb q a high)) (sym (lt-ltb q b low))
    | inr above ↦ le-ltb q (max a b) (omega (arith, high, above)) ∙ ap₂ (λ s t. s || t) (sym (le-ltb q a high)) (sym (le-ltb q b above))
  ]
]

none : (q : ℕ) (rest : Bool) → rest ≡ (nat_lt q 0 || rest)
none q rest = ap (λ b. b || rest) (sym (le-ltb q 0 (omega arith)))

none_of : (a b : Bool) → b ≡ false → (a && b) ≡ false
none_of true b isnt = isnt
none_of false b isnt = refl

or_none : (a b : Bool) → b ≡ false → (a || b) ≡ a
or_none true b isnt = refl
or_none false b isnt = isnt

or_assoc : (a b c : Bool) → (a || (b || c)) ≡ ((a || b) || c)
or_assoc true b c = refl
or_assoc false b c = refl

-- a part that has begun lies before the further end
passed : (counts : Bool) (start part_end end q : ℕ) (rest : Bool) → start ≤ q
    → (nat_lt q end || ((counts && is_within start part_end q) || rest)) ≡ (nat_lt q (further counts part_end end) || rest)
passed false start part_end end q rest from = refl
passed true start part_end end q rest from =
    or_assoc (nat_lt q end) (is_within start part_end q) rest
    ∙ ap (λ b. (nat_lt q end || (b && nat_lt q part_end)) || rest) (le-leb start q from)
    ∙ ap (λ b. b || rest) (sym (lt_max q end part_end))

covers_more : (test : Part → Bool) (ps rest : List Part) (p : Part) (page end : ℕ) → p.extent.page ≤ page → Covers test ps (p ∷ rest) page end
    → Covers test ps rest page (further (test p) (end_page p.extent) end)
covers_more test ps rest p page end begun c = λ q from. c q from ∙ passed (test p) p.extent.page (end_page p.extent) end q (lies test rest q) (omega (arith, begun, from))

pub ends_more : (ps rest : List Part) (p : Part) (page : ℕ) (ends : Ends) → p.extent.page ≤ page → AreEnds ps (p ∷ rest) page ends → AreEnds ps rest page (ends_behind p ends)
ends_more ps rest p page ends begun e = record {
  slots = covers_more _ ps rest p page ends.slots begun e.slots;
  directory = covers_more _ ps rest p page ends.directory begun e.directory;
  raw = covers_more _ ps rest p page ends.raw begun e.raw;
  heap = covers_more _ ps rest p page ends.heap begun e.heap;
  updated = covers_more _ ps rest p page ends.updated begun e.updated;
  saved = covers_more _ ps rest p page ends.saved begun e.saved;
}

-- a walk on a page is one on the next page too
pub walk_later : (ps : List Part) (page : ℕ) (w : Walk) → IsPartWalk ps page w → IsPartWalk ps (page + 1) w
walk_later ps page w is = record {
  within = is.within;
  ends = record {
    slots = λ q from. is.ends.slots q (omega (arith, from));
    directory = λ q from. is.ends.directory q (omega (arith, from));
    raw = λ q from. is.ends.raw q (omega (arith, from));
    heap = λ q from. is.ends.heap q (omega (arith, from));
    updated = λ q from. is.ends.updated q (omega (arith, from));
    saved = λ q from. is.ends.saved q (omega (arith, from));
  };
}

-- where a part begins by a page there is one
pub begun_within : (ps : List Part) (next page : ℕ) → begins_by ps next page ≡ true → next < length ps
begun_within ps next page begins = elim (cases_lt next (length ps)) [
  | inl low ↦ low
  | inr past ↦ elim (slice_get_cases ps next).1 [
    | inl some ↦ some.1
    | inr gone ↦ let isnt = ap (λ o. begins_by_of o page) gone.1 in absurd (cc (begins, isnt))
  ]
]

begun_at : (ps : List Part) (next page : ℕ) (d : Part) → next < length ps → begins_by ps next page ≡ nat_le (get_or ps next d).extent.page page
begun_at ps next page d within = ap (λ o. begins_by_of o page) (slice_get-get_or ps next d within)

pub begun_page : (ps : List Part) (next page : ℕ) (d : Part) → begins_by ps next page ≡ true → (get_or ps next d).extent.page ≤ page
begun_page ps next page d begins = leb-true _ page (sym (begun_at ps next page d (begun_within ps next page begins)) ∙ begins)

-- one part further
pub walk_more : (ps : List Part) (page : ℕ) (w : Walk) (d : Part) → IsPartWalk ps page w → begins_by ps w.next page
    ≡ true
    → IsPartWalk ps page (record { next = w.next + 1; ends = ends_behind (get_or ps w.next d) w.ends })
walk_more ps page w d is begins =
    let within = begun_within ps w.next page begins in
    record {
      within = omega (arith, within);
      ends = ends_more ps (drop (w.next + 1) ps) (get_or ps w.next d) page w.ends (begun_page ps w.next page d begins)
          (subst (λ rest. AreEnds ps rest page w.ends) (drop_more ps w.next d within) is.ends);
    }

-- those parts lie not on the page that begin behind it
past_none : (test : Part → Bool) (ps : List Part) (page : ℕ) (w : Walk) → IsNonDecreasingBy (λ p. p.extent.page) ps → IsPast ps page w → lies test (drop w.next ps) page ≡ false
past_none test ps page w sorted past = list_any_none (λ p. test p && is_on page p.extent) (drop w.next ps) (λ k d within.
    let inside : w.next + k < length ps = omega (arith, within, length-drop w.next ps) in
    let first : w.next < length ps = omega (arith, inside) in
    let behind : page < (get_or ps w.next d).extent.page = leb-false _ page (sym (begun_at ps w.next page d first) ∙ past) in
    let rises = sorted w.next (w.next + k) d (omega arith) inside in
    let at : get_or (drop w.next ps) k d ≡ get_or ps (w.next + k) d = get_or-drop w.next ps k d in
    subst (λ p. (test p && is_on page p.extent) ≡ false) (sym at) (none_of (test (get_or ps (w.next + k) d)) _ (within_no _ _ page (λ from to. omega (arith, from, rises, behind)))))

lies_at : (test : Part → Bool) (ps : List Part) (page end : ℕ) (w : Walk) → IsNonDecreasingBy (λ p. p.extent.page) ps → IsPast ps page w → Covers test ps (drop w.next ps) page end
    → lies test ps page ≡ nat_lt page end
lies_at test ps page end w sorted past c = c page (omega arith) ∙ or_none _ _ (past_none test ps page w sorted past)

-- what lies on the page
pub walk_content : (ps : List Part) (page : ℕ) (w : Walk) → IsNonDecreasingBy (λ p. p.extent.page) ps → IsPartWalk ps page w → IsPast ps page w
    → content_at ps page
    ≡ page_content (nat_lt page w.ends.slots) (nat_lt page w.ends.directory) (nat_lt page w.ends.raw) (nat_lt page w.ends.heap) (users (nat_lt page w.ends.updated) (nat_lt page w.ends.saved))
walk_content ps page w sorted is past =
    let slots = lies_at _ ps page w.ends.slots w sorted past is.ends.slots in
    let directory = lies_at _ ps page w.ends.directory w sorted past is.ends.directory in
    let raw = lies_at _ ps page w.ends.raw w sorted past is.ends.raw in
    let heap = lies_at _ ps page w.ends.heap w sorted past is.ends.heap in
    let updated = lies_at _ ps page w.ends.updated w sorted past is.ends.updated in
    let saved = lies_at _ ps page w.ends.saved w sorted past is.ends.saved in
    cc

pub walk_none : (ps : List Part) → IsPartWalk ps 0 (record { next = 0; ends = record { slots = 0; directory = 0; raw = 0; heap = 0; updated = 0; saved = 0 } })
walk_none ps = record {
  within = omega arith;
  ends = record { slots = λ q from. none q _; directory = λ q from. none q _; raw = λ q from. none q _; heap = λ q from. none q _; updated = λ q from. none q _; saved = λ q from. none q _ };
}
