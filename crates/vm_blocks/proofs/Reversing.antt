-- Changes that are carried out in memory and taken back.
use Rattle.std.proofs.Common.{◌≡◌, ◌+◌, ◌<◌, ℕ, Bool, List, [], ◌∷◌, length, map, take, drop, get_or, true, false, Some, refl, sym, ap, subst, ◌∙◌, ap₂, nat_eq, add-one, take-suc, drop-cons, eq-eqb, eqb-true}
use Rattle.std.specs.Prelude.{◌&&◌}
use Rattle.std.proofs.lemmas.Bool.{and_parts, true≢false}
use Rattle.std.specs.Option.{option_map}
use Rattle.std.proofs.lemmas.List.{reverse-append}
use Rattle.std.specs.FinMap.{get}
use Rattle.geos_model.specs.Document.{Block, Document, attributes_of, block_at, is_heap, is_heap_body, is_live, is_valid_body, with_attributes, with_block, IsTyped}
use Rattle.geos_model.specs.declared.block.Attributes.{Attributes}
use Rattle.geos_model.specs.declared.command.Body.{Body}
use Rattle.geos_model.specs.declared.handle.VmHandle.{VmHandle}
use Rattle.chunk_edits.specs.declared.direction.Direction.{Direction}
use Rattle.chunk_edits.specs.declared.direction.Direction.TheVariants.{Forwards, Backwards}
use Rattle.vm_blocks.specs.State.{CacheState}
use Rattle.vm_blocks.specs.Changes.{after_part, attributes_for_kind, directed, directed_all, directed_part, reversed_part}
use Rattle.vm_blocks.specs.Exactness.{IsExactPart}
use Rattle.vm_blocks.specs.InMemory.{carried, IsListed, IsReversible, IsReversiblePart, StaysInMemory}
use Rattle.vm_blocks.specs.Keeping.{is_loaded}
use Rattle.vm_blocks.specs.Parts.{AllowsPart, body_after_part}
use Rattle.vm_blocks.specs.Preparing.{AreInMemory, IsInMemory}
use Rattle.vm_blocks.specs.declared.change.Change.{Change}
use Rattle.vm_blocks.specs.declared.change.Change.TheVariants as changes
use Rattle.vm_blocks.specs.declared.change.PartChange.{PartChange}
use Rattle.vm_blocks.proofs.ChangeLaws.{new_there, old_back, part_twice}
use Rattle.vm_blocks.proofs.Exactness.{part_leads_back}
use Rattle.vm_blocks.proofs.InMemory.{part_with, attributes_with, in_place_alike}
use Rattle.vm_blocks.proofs.KeepingLaws.{loaded-by, loaded-live, loaded-resident}
use Rattle.vm_blocks.proofs.KindLemmas.{attributes_for_kind-same}
use Rattle.vm_blocks.proofs.Residents.{both}
use Rattle.vm_blocks.proofs.Preparing.{at_hand_made, block_there, body_of_option, live_there}

-- ---- a part of a body

module _ {S : Type 0} (p : PartChange) (b : ℕ) (state : CacheState S) (body : Body) (loaded : is_loaded state b ≡ true)
    (is : option_map (λ (x : Block). x.body) (get state.document.blocks b) ≡ Some body) (valid : is_valid_body body ≡ true) where
  abbrev d : Document
  d = state.document

  abbrev had : Block
  had = block_at d b

  abbrev given : Block
  given = record had { body = body_after_part p had.body }

  body_is : had.body ≡ body
  body_is = body_of_option (get d.blocks b) body is

  there : get d.blocks b ≡ Some had
  there = live_there d b (loaded-live state b loaded)

  made : after_part b p d ≡ with_block d b given
  made = part_with b p d had there

  now : get (with_block d b given).blocks b ≡ Some given
  now = new_there d b had given there

  pub reversible_part : IsExactPart p body → IsReversiblePart p b state
  reversible_part exact_of_body =
      let exact : IsExactPart p had.body = subst (IsExactPart p) (sym body_is) exact_of_body in
      let back = part_leads_back p had.body (ap is_valid_body body_is ∙ valid) exact in
      record {
        loaded = loaded;
        takes = exact.takes;
        back = subst (λ (x : Document). AllowsPart (reversed_part p) (block_at x b).body) (sym made)
            (subst (λ (x : Block). AllowsPart (reversed_part p) x.body) (sym (block_there (with_block d b given) b given now)) back.0);
        gives = ap (after_part b (reversed_part p)) made ∙ part_with b (reversed_part p) (with_block d b given) given now
            ∙ ap (λ (x : Body). with_block (with_block d b given) b (record had { body = x })) back.1 ∙ old_back d b had given there;
      }

  -- it isn't exact
  pub inexact_part : (IsExactPart p body → ⊥) → IsExactPart p (block_at d b).body → ⊥
  inexact_part other exact = other (subst (IsExactPart p) body_is exact)

pub part_reverses : {S : Type 0} (direction : Direction) (h : VmHandle) (p : PartChange) (state : CacheState S) → IsReversiblePart (directed_part direction p) h.0 state → IsReversible direction (changes.Part h p) state
part_reverses Forwards h p state r = record { ready = (r.loaded, r.takes); back = (at_hand_made (changes.Part h p) state r.loaded, r.back); gives = r.gives }
part_reverses Backwards h p state r = record {
  ready = (r.loaded, r.takes);
  back = (
    at_hand_made (changes.Part h (reversed_part p)) state r.loaded,
    subst (λ (x : PartChange). AllowsPart x (block_at (after_part h.0 (reversed_part p) state.document) h.0).body) (part_twice p) r.back,
  );
  gives = subst (λ (x : PartChange). after_part h.0 x (after_part h.0 (reversed_part p) state.document) ≡ state.document) (part_twice p) r.gives;
}

-- ---- attributes

module _ (b : ℕ) (was new : Attributes) (d : Document) (live : is_live d b ≡ true) (typed : IsTyped (is_heap d b) (attributes_of d b)) (is : attributes_of d b ≡ was) where
  abbrev block : Block
  block = block_at d b

  stands : get d.blocks b ≡ Some block
  stands = live_there d b live

  abbrev remade : Block
  remade = record block { attributes = attributes_for_kind (is_heap_body block.body) new }

  abbrev after : Document
  after = with_attributes d b (attributes_for_kind (is_heap d b) new)

  after_is : after ≡ with_block d b remade
  after_is = attributes_with b new d block stands

  remade_there : get (with_block d b remade).blocks b ≡ Some remade
  remade_there = new_there d b block remade stands

  had_is : block.attributes ≡ was
  had_is = rw stands at is

  fits : IsTyped (is_heap_body block.body) was
  fits = subst (IsTyped (is_heap_body block.body)) had_is (rw stands at typed)

  attributes_back : (is_live after b ≡ true) × (with_attributes after b (attributes_for_kind (is_heap after b) was) ≡ d)
  attributes_back = subst (λ (x : Document). (is_live x b ≡ true) × (with_attributes x b (attributes_for_kind (is_heap x b) was) ≡ d)) (sym after_is) (
    rw remade_there refl,
    attributes_with b was (with_block d b remade) remade remade_there
        ∙ ap (λ (a : Attributes). with_block (with_block d b remade) b (record block { attributes = a })) (attributes_for_kind-same (is_heap_body block.body) was fits ∙ sym had_is)
        ∙ old_back d b block remade stands,
  )

pub attributes_reverse : {S : Type 0} (h : VmHandle) (old new : Attributes) (state : CacheState S) → is_live state.document h.0 ≡ true → IsTyped (is_heap state.document h.0) (attributes_of state.document h.0)
    → attributes_of state.document h.0 ≡ old → IsReversible Forwards (changes.Attributes h old new) state
attributes_reverse h old new state live typed is =
    let back = attributes_back h.0 old new state.document live typed is in
    record { ready = live; back = back.0; gives = back.1 }

pub attributes_reverse_back : {S : Type 0} (h : VmHandle) (old new : Attributes) (state : CacheState S) → is_live state.document h.0 ≡ true → IsTyped (is_heap state.document h.0) (attributes_of state.document h.0)
    → attributes_of state.document h.0 ≡ new → IsReversible Backwards (changes.Attributes h old new) state
attributes_reverse_back h old new state live typed is =
    let back = attributes_back h.0 new old state.document live typed is in
    record { ready = live; back = back.0; gives = back.1 }

-- what a comparison of attributes says
pub same_attributes : (a b : Attributes) (r : Bool) → r ≡ (nat_eq a.user_id b.user_id && nat_eq a.heap_type b.heap_type) → r ≡ true → a ≡ b
same_attributes a b r is equal =
    let both = and_parts (nat_eq a.user_id b.user_id) (nat_eq a.heap_type b.heap_type) (sym is ∙ equal) in
    ap₂ (λ (u t : ℕ). record { user_id = u; heap_type = t }) (eqb-true a.user_id b.user_id both.0) (eqb-true a.heap_type b.heap_type both.1)

pub other_attributes : (a b : Attributes) (r : Bool) → r ≡ (nat_eq a.user_id b.user_id && nat_eq a.heap_type b.heap_type) → r ≡ false → a ≡ b → ⊥
other_attributes a b r is differ same =
    let equal : (nat_eq a.user_id b.user_id && nat_eq a.heap_type b.heap_type) ≡ true = both _ _ (eq-eqb a.user_id b.user_id (ap (λ (x : Attributes). x.user_id) same)) (eq-eqb a.heap_type b.heap_type (ap (λ (x : Attributes). x.heap_type) same)) in
    true≢false (sym equal ∙ sym is ∙ differ)

-- ---- changes one after another

-- those that are in memory still are
in_memory_on : {S : Type 0} (x c : Change) (state : CacheState S) → IsListed c state.document → IsInMemory x state → IsInMemory x (carried c state)
in_memory_on (changes.BlocksIn ms) c state listed here = tt
in_memory_on (changes.BlocksOut ms) c state listed here = tt
in_memory_on (changes.Part b part) c state listed here =
    loaded-by (carried c state) b.0 (loaded-resident state b.0 here) (in_place_alike c state.document listed b.0 ∙ loaded-live state b.0 here)
in_memory_on (changes.Attributes b x y) c state listed here = tt
in_memory_on (changes.Map x y) c state listed here = tt

pub all_in_memory_on : {S : Type 0} (cs : List Change) (c : Change) (state : CacheState S) → IsListed c state.document → AreInMemory cs state → AreInMemory cs (carried c state)
all_in_memory_on [] c state listed here = tt
all_in_memory_on (x ∷ cs) c state listed here = (in_memory_on x c state listed here.0, all_in_memory_on cs c state listed here.1)

-- where nothing but the order of use changed

pub stays_refl : {S : Type 0} (state : CacheState S) → StaysInMemory state state
stays_refl state = record { disk = refl; document = refl; loaded = λ h loaded. loaded }

pub stays_trans : {S : Type 0} (a b c : CacheState S) → StaysInMemory a b → StaysInMemory b c → StaysInMemory a c
stays_trans a b c p q = record { disk = q.disk ∙ p.disk; document = q.document ∙ p.document; loaded = λ h loaded. q.loaded h (p.loaded h loaded) }

pub in_memory_stays : {S : Type 0} (x : Change) (a b : CacheState S) → StaysInMemory a b → IsInMemory x a → IsInMemory x b
in_memory_stays (changes.BlocksIn ms) a b stays here = tt
in_memory_stays (changes.BlocksOut ms) a b stays here = tt
in_memory_stays (changes.Part h part) a b stays here = stays.loaded h.0 here
in_memory_stays (changes.Attributes h x y) a b stays here = tt
in_memory_stays (changes.Map x y) a b stays here = tt

pub all_in_memory_stay : {S : Type 0} (cs : List Change) (a b : CacheState S) → StaysInMemory a b → AreInMemory cs a → AreInMemory cs b
all_in_memory_stay [] a b stays here = tt
all_in_memory_stay (x ∷ cs) a b stays here = (in_memory_stays x a b stays here.0, all_in_memory_stay cs a b stays here.1)

-- the last one of some is the next
module _ (direction : Direction) (cs : List Change) (k : ℕ) (less : k < length cs) (other : Change) where
  abbrev last : Change
  last = get_or cs k other

  pub next_left : directed_all direction (take (k + 1) cs) ≡ directed direction last ∷ directed_all direction (take k cs)
  next_left =
      ap (λ (n : ℕ). directed_all direction (take n cs)) (add-one k)
      ∙ ap (λ (l : List Change). directed_all direction l) (take-suc cs k other less)
      ∙ ap (map (directed direction)) (reverse-append (take k cs) (last ∷ []))

  pub next_done : drop k cs ≡ last ∷ drop (k + 1) cs
  next_done = drop-cons cs k other less ∙ ap (λ (n : ℕ). last ∷ drop n cs) (sym (add-one k))
