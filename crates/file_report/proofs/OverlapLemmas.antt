-- Extents that overlap, found in one walk over them by their first pages.
use Rattle.std.proofs.Common.{◌≡◌, ◌⊎◌, ℕ, ◌+◌, ◌<◌, ◌≤◌, max, min, List, length, take, get_or, [], ◌∷◌, ◌++◌, Option, None, Some, Bool, true, false, not, IsTrue, nat_lt, arith, refl, sym, subst, ap, ap₂, ◌∙◌, inl, inr}
use Rattle.std.proofs.lemmas.Bool.{cases_eq}
use borrow.Author.Tests.{ltb-true}
use Rattle.std.specs.List.{Contains}
use Rattle.std.specs.List.Sorted.{IsNonDecreasingBy}
use Rattle.file_format.proofs.Files.{get_or_same}
use Rattle.std.proofs.lemmas.List.{get_or-take, length-take, take_more}
use Rattle.std.proofs.lemmas.List.Elements.{Contains-append_left, Contains-push, Contains-push_cases}
use Rattle.file_format.specs.File.{end_page}
use Rattle.file_space.proofs.SpaceLemmas.{within_high, within_low, within_yes}
use Rattle.file_report.specs.Pages.{AreReportedIn, DoOverlap, IsShared, IsReportedIn, part_of_content}
use Rattle.geos_model.specs.declared.handle.VmHandle.{VmHandle}
use Rattle.file_format.specs.declared.file.Extent.{Extent}
use Rattle.file_report.specs.declared.pages.Part.{Part}
use Rattle.file_report.specs.declared.pages.Part.TheVariants as parts
use Rattle.file_report.specs.declared.pages.Usage.{Usage}

-- Pages.

pub overlap_from : (u v : Usage) → max u.extent.page v.extent.page < min (end_page u.extent) (end_page v.extent) → (IsShared u v → ⊥) → DoOverlap (u, v)
overlap_from u v common differ = record {
  page = max u.extent.page v.extent.page;
  first = within_yes u.extent.page (end_page u.extent) _ (omega arith) (omega (arith, common));
  second = within_yes v.extent.page (end_page v.extent) _ (omega arith) (omega (arith, common));
  differ = differ;
}

pub overlap_pages : (u v : Usage) → DoOverlap (u, v) → max u.extent.page v.extent.page < min (end_page u.extent) (end_page v.extent)
overlap_pages u v o =
    let a = within_low u.extent.page (end_page u.extent) o.page o.first in
    let b = within_high u.extent.page (end_page u.extent) o.page o.first in
    let c = within_low v.extent.page (end_page v.extent) o.page o.second in
    let d = within_high v.extent.page (end_page v.extent) o.page o.second in
    omega (arith, a, b, c, d)

pub overlap_by_test : (u v : Usage) → nat_lt (max u.extent.page v.extent.page) (min (end_page u.extent) (end_page v.extent)) ≡ true → (IsShared u v → ⊥) → DoOverlap (u, v)
overlap_by_test u v test differ = overlap_from u v (ltb-true _ _ test) differ

pub not_both : (b : Bool) → IsTrue b → IsTrue (not b) → ⊥
not_both true is isnt = cc
not_both false is isnt = cc

pub not_from : (b : Bool) → (IsTrue b → ⊥) → IsTrue (not b)
not_from true none = absurd (none refl)
not_from false none = refl

-- The same in the same place.

shared_itself : (u : Usage) → IsShared u u
shared_itself u = record { part = refl; extent = refl }

shared_back : (u v : Usage) → IsShared u v → IsShared v u
shared_back u v s = record { part = sym s.part; extent = sym s.extent }

shared_on : (u v w : Usage) → IsShared u v → IsShared v w → IsShared u w
shared_on u v w s t = record { part = s.part ∙ t.part; extent = s.extent ∙ t.extent }

overlap_back : (u v : Usage) → DoOverlap (u, v) → DoOverlap (v, u)
overlap_back u v o = record { page = o.page; first = o.second; second = o.first; differ = λ s. o.differ (shared_back v u s) }

told_as : (pairs : List (Usage × Usage)) (u v : Usage) → IsShared u v → IsReportedIn pairs u → IsReportedIn pairs v
told_as pairs u v s t = record {
  pair = t.pair;
  listed = t.listed;
  has = elim t.has [ inl first ↦ inl (shared_on t.pair.0 u v first s) | inr second ↦ inr (shared_on t.pair.1 u v second s) ];
}

same_part : (p q : Part) → (p ≡ q) ⊎ (p ≡ q → ⊥)
same_part parts.Slots parts.Slots = inl refl
same_part parts.Slots parts.Directory = inr (λ e. cc)
same_part parts.Slots (parts.Image block) = inr (λ e. cc)
same_part parts.Directory parts.Slots = inr (λ e. cc)
same_part parts.Directory parts.Directory = inl refl
same_part parts.Directory (parts.Image block) = inr (λ e. cc)
same_part (parts.Image block) parts.Slots = inr (λ e. cc)
same_part (parts.Image block) parts.Directory = inr (λ e. cc)
same_part (parts.Image block) (parts.Image other) = elim (cases_eq block.0 other.0) [
  | inl same ↦ inl (ap (λ n. parts.Image (record { 0 = n })) same)
  | inr differ ↦ inr (λ e. let same : block ≡ other = cc in differ (ap (λ (h : VmHandle). h.0) same))
]

same_extent : (e f : Extent) → (e ≡ f) ⊎ (e ≡ f → ⊥)
same_extent e f = elim (cases_eq e.page f.page) [
  | inl page ↦ elim (cases_eq e.length f.length) [
    | inl long ↦ inl (let make : ℕ → ℕ → Extent = λ p n. record { page = p; length = n } in ap₂ make page long)
    | inr differ ↦ inr (λ same. differ (ap (λ (x : Extent). x.length) same))
  ]
  | inr differ ↦ inr (λ same. differ (ap (λ (x : Extent). x.page) same))
]

shared_or : (u v : Usage) → IsShared u v ⊎ (IsShared u v → ⊥)
shared_or u v = elim (same_part (part_of_content u.content) (part_of_content v.content)) [
  | inl part ↦ elim (same_extent u.extent v.extent) [
    | inl extent ↦ inl (record { part = part; extent = extent })
    | inr differ ↦ inr (λ s. differ s.extent)
  ]
  | inr differ ↦ inr (λ s. differ s.part)
]

-- The walk.

-- Of these extents the furthest, if there is any: none ends behind it.
pub record IsFurthest (us : List Usage) (furthest : Option Usage) : Type 0 where
  pub one : (u : Usage) → furthest ≡ Some u → Contains us u
  pub all : (u : Usage) → Contains us u → (f : Usage) × (furthest ≡ Some f) × (end_page u.extent ≤ end_page f.extent)

-- these are walked over
pub record IsSwept (us : List Usage) (pairs : List (Usage × Usage)) (furthest : Option Usage) : Type 0 where
  pub furthest_is : IsFurthest us furthest
  pub told : AreReportedIn us pairs

none_in : (u : Usage) → Contains [] u → ⊥
none_in u c = absurd (let short = c.1 in omega (arith, short))

pub swept_none : IsSwept [] [] None
swept_none = record {
  furthest_is = record { one = λ u is. cc; all = λ u c. absurd (none_in u c) };
  told = λ u v c d o. absurd (none_in u c);
}

furthest_more : (us : List Usage) (v : Usage) (furthest : Option Usage) (next : Usage) → IsFurthest us furthest → ((furthest ≡ Some next) ⊎ (next ≡ v))
    → end_page v.extent ≤ end_page next.extent → ((u : Usage) → furthest ≡ Some u → end_page u.extent ≤ end_page next.extent) → IsFurthest (us ++ v ∷ []) (Some next)
furthest_more us v furthest next before which behind behind_all =
    let is : Contains (us ++ v ∷ []) next = elim which [
      | inl old ↦ Contains-append_left us (v ∷ []) next (before.one next old)
      | inr new ↦ subst (Contains (us ++ v ∷ [])) (sym new) (Contains-push us v)
    ] in
    record {
      one = λ u same. let e : next ≡ u = cc in subst (Contains (us ++ v ∷ [])) e is;
      all = λ u c. elim (Contains-push_cases us v u c) [
        | inl old ↦
            let f = before.all u old in
            let far = behind_all f.0 f.1 in
            let near = f.2 in
            (next, refl, omega (arith, far, near))
        | inr new ↦ (next, refl, subst (λ (x : Usage). end_page x.extent ≤ end_page next.extent) new behind)
      ];
    }

-- an extent that overlaps the next one: both are told
pair_told : (us : List Usage) (v u f : Usage) (old new : List (Usage × Usage)) → ((x : Usage) → Contains us x → x.extent.page ≤ v.extent.page) → AreReportedIn us old
    → ((x : Usage) → IsReportedIn old x → IsReportedIn new x) → (DoOverlap (f, v) → Contains new (f, v)) → Contains us u → Contains us f → end_page u.extent ≤ end_page f.extent → DoOverlap (u, v)
    → IsReportedIn new u × IsReportedIn new v
pair_told us v u f old new order told kept added u_in f_in far o =
    let common = overlap_pages u v o in
    let u_low = order u u_in in
    let f_low = order f f_in in
    let with_v : max f.extent.page v.extent.page < min (end_page f.extent) (end_page v.extent) = omega (arith, common, u_low, f_low, far) in
    let with_u : max u.extent.page f.extent.page < min (end_page u.extent) (end_page f.extent) = omega (arith, common, u_low, f_low, far) in
    elim (shared_or f v) [
      | inl same ↦
          let apart : IsShared u f → ⊥ = λ s. o.differ (shared_on u f v s same) in
          let both = overlap_from u f with_u apart in
          (kept u (told u f u_in f_in both), told_as new f v same (kept f (told f u f_in u_in (overlap_back u f both))))
      | inr differ ↦
          let pair : Contains new (f, v) = added (overlap_from f v with_v differ) in
          let told_v : IsReportedIn new v = record { pair = (f, v); listed = pair; has = inr (shared_itself v) } in
          elim (shared_or u f) [
            | inl same ↦ (let told_u : IsReportedIn new u = record { pair = (f, v); listed = pair; has = inl (shared_back u f same) } in (told_u, told_v))
            | inr apart ↦ (kept u (told u f u_in f_in (overlap_from u f with_u apart)), told_v)
          ]
    ]

swept_more : (us : List Usage) (v : Usage) (old new : List (Usage × Usage)) (furthest : Option Usage) (next : Usage) → ((x : Usage) → Contains us x → x.extent.page ≤ v.extent.page)
    → IsSwept us old furthest → ((x : Usage) → IsReportedIn old x → IsReportedIn new x) → ((x : Usage) → furthest ≡ Some x → DoOverlap (x, v) → Contains new (x, v))
    → ((furthest ≡ Some next) ⊎ (next ≡ v)) → end_page v.extent ≤ end_page next.extent → ((x : Usage) → furthest ≡ Some x → end_page x.extent ≤ end_page next.extent)
    → IsSwept (us ++ v ∷ []) new (Some next)
swept_more us v old new furthest next order swept kept added which behind behind_all =
    let with_next : (u : Usage) → Contains us u → DoOverlap (u, v) → IsReportedIn new u
    × IsReportedIn new v = λ u u_in o.
    let f = swept.furthest_is.all u u_in in
    pair_told us v u f.0 old new order swept.told kept (added f.0 f.1) u_in (swept.furthest_is.one f.0 f.1) f.2 o in
    record {
      furthest_is = furthest_more us v furthest next swept.furthest_is which behind behind_all;
      told = λ u w u_in w_in o. elim (Contains-push_cases us v u u_in) [
        | inl u_old ↦ elim (Contains-push_cases us v w w_in) [
          | inl w_old ↦ kept u (swept.told u w u_old w_old o)
          | inr w_new ↦ (with_next u u_old (subst (λ x. DoOverlap (u, x)) (sym w_new) o)).0
        ]
        | inr u_new ↦ elim (Contains-push_cases us v w w_in) [
          | inl w_old ↦ subst (IsReportedIn new) u_new (with_next w w_old (overlap_back v w (subst (λ x. DoOverlap (x, w)) (sym u_new) o))).1
          | inr w_new ↦ absurd (o.differ (subst (IsShared u) (sym u_new ∙ w_new) (shared_itself u)))
        ]
      ];
    }

length-take_most : (i : ℕ) (us : List Usage) → length (take i us) ≤ i
length-take_most i us = let is = length-take i us in omega (arith, is)

-- of extents by their first pages the first ones begin no later than the next one
taken_before : (us : List Usage) (i : ℕ) (d : Usage) → i < length us → IsNonDecreasingBy (λ u. u.extent.page) us → (x : Usage) → Contains (take i us) x → x.extent.page ≤ (get_or us i d).extent.page
taken_before us i d within order x c =
    let few : c.0 < length (take i us) = c.1 in
    let short : length (take i us) ≤ i = length-take_most i us in
    let below : c.0 < i = omega (arith, few, short) in
    let is : get_or us c.0 x ≡ x = sym (get_or-take i us c.0 x below) ∙ c.2 in
    let rises = order c.0 i x (omega (arith, below)) within in
    let same : (get_or us i x).extent.page ≡ (get_or us i d).extent.page = ap (λ (u : Usage). u.extent.page) (get_or_same us i x d within) in
    let page : (get_or us c.0 x).extent.page ≡ x.extent.page = ap (λ (u : Usage). u.extent.page) is in
    omega (arith, rises, same, page)

pub swept_next : (us : List Usage) (i : ℕ) (d : Usage) (old new : List (Usage × Usage)) (furthest : Option Usage) (next : Usage) → i < length us → IsNonDecreasingBy (λ u. u.extent.page) us
    → IsSwept (take i us) old furthest → ((x : Usage) → IsReportedIn old x → IsReportedIn new x) → ((x : Usage) → furthest ≡ Some x → DoOverlap (x, get_or us i d) → Contains new (x, get_or us i d))
    → ((furthest ≡ Some next) ⊎ (next ≡ get_or us i d)) → end_page (get_or us i d).extent ≤ end_page next.extent → ((x : Usage) → furthest ≡ Some x → end_page x.extent ≤ end_page next.extent)
    → IsSwept (take (i + 1) us) new (Some next)
swept_next us i d old new furthest next within order swept kept added which behind behind_all =
    subst (λ vs. IsSwept vs new (Some next)) (sym (take_more us i d within))
    (swept_more (take i us) (get_or us i d) old new furthest next (taken_before us i d within order) swept kept added which behind behind_all)
