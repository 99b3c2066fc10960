use Rattle.std.proofs.Common.{◌≡◌, ◌==◌, ℕ, zero, suc, ◌+◌, ◌-◌, ◌<◌, ◌≤◌, List, ◌∷◌, length, drop, get_or, set, replicate, nat_le, refl, sym, ap, ◌∙◌, inl, inr, arith, leb-true, eq-eqb, length-set, get_or-set_same, get_or-set_other}
use Rattle.std.proofs.lemmas.Bool.{and_parts, cases_eq, cond-true, cond-false, ne_eqb}
use Rattle.std.proofs.lemmas.List.{drop_all, drop_more}
use Rattle.std.specs.List.{zip}
use Rattle.geos_model.specs.Chain.{name_of}
use Rattle.geos_model.specs.Document.{most_blocks}
use Rattle.geos_model.specs.declared.handle.VmHandle.{VmHandle}
use Rattle.vm_chains.specs.Numbers.{numbers}
use Rattle.vm_chains.proofs.renaming.Renaming.new.Goals as goal

abbrev no_handle : VmHandle
no_handle = record { 0 = 0 }

no_name : (n h : ℕ) → get_or {A = ℕ} (replicate n 0) h 0 ≡ 0
no_name zero h = refl
no_name (suc n) zero = refl
no_name (suc n) (suc h) = no_name n h

-- one more handle gets its name
named_more : (names : List ℕ) (k v h : ℕ) (pairs : List (ℕ × ℕ)) → k < length names → get_or names h 0 ≡ name_of pairs h → get_or (set names k v) h 0 ≡ name_of ((k, v) ∷ pairs) h
named_more names k v h pairs within named = elim (cases_eq h k) [
  | inl same ↦ ap (λ (x : ℕ). get_or (set names k v) x 0) same ∙ get_or-set_same names k v 0 within ∙ sym (cond-true (k == h) v (name_of pairs h) (eq-eqb k h (sym same)))
  | inr other ↦ get_or-set_other names k h v 0 other ∙ named ∙ sym (cond-false (k == h) v (name_of pairs h) (ne_eqb k h (λ e. other (sym e))))
]

-- the list from the place before on
from_before : (hs : List VmHandle) (i : ℕ) → 0 < i → i ≤ length hs → drop (i - 1) hs ≡ get_or hs (i - 1) no_handle ∷ drop i hs
from_before hs i some within =
    let back : i - 1 + 1 ≡ i = omega arith in
    drop_more hs (i - 1) no_handle (omega arith) ∙ ap (λ (n : ℕ). get_or hs (i - 1) no_handle ∷ drop n hs) back

pub loop-i-init : goal.loop-i-init
loop-i-init c =
    let made = c.in_ok-by_handle.ensures {u = tt} in
    let zeros : c.in_ok-by_handle.by_handle.items ≡ replicate (most_blocks + 1) 0 = made.items_if_clones_equal (λ y e. e) in
    let all = length c.args.handles.now in
    record {
      size = omega (arith, made.len, c.in_ok-by_handle.by_handle.ok.0);
      named = λ h. ap (λ (xs : List ℕ). get_or xs h 0) zeros ∙ no_name (most_blocks + 1) h
          ∙ sym (ap (λ (hs : List VmHandle). name_of (zip (numbers hs) (numbers (drop all c.args.names.now))) h) (drop_all all c.args.handles.now (omega arith)));
    }

pub index_mut-requires : goal.index_mut-requires
index_mut-requires c =
    let k = (get_or c.args.handles.now (c.loop-i.i - 1) no_handle).0 in
    let few : k ≤ most_blocks = leb-true k most_blocks (and_parts (nat_le 1 k) (nat_le k most_blocks) (c.requires.handles (c.loop-i.i - 1) no_handle (omega arith))).1 in
    omega (arith, few, c.from.ensures, c.loop-i.invariant.size, c.loop-i.by_handle.ok.0)

pub loop-i-preserved : goal.loop-i-preserved
loop-i-preserved c =
    let hs = c.args.handles.now in let ns = c.args.names.now in let i = c.loop-i.i in let items = c.loop-i.by_handle.items in
    let k = (get_or hs (i - 1) no_handle).0 in let v = (get_or ns (i - 1) no_handle).0 in
    let few : k ≤ most_blocks = leb-true k most_blocks (and_parts (nat_le 1 k) (nat_le k most_blocks) (c.requires.handles (i - 1) no_handle (omega arith))).1 in
    let within : k < length items = omega (arith, few, c.loop-i.invariant.size) in
    record {
      size = length-set items c.from.result v ∙ c.loop-i.invariant.size;
      named = λ h. ap (λ (n : ℕ). get_or (set items n v) h 0) c.from.ensures ∙ named_more items k v h _ within (c.loop-i.invariant.named h)
          ∙ sym (λ j. name_of (zip (numbers (from_before hs i (omega arith) (omega arith) j)) (numbers (from_before ns i (omega arith) (omega arith) j))) h);
    }

pub returns : goal.returns
returns c = λ h.
    let end : c.loop-i.i ≡ 0 = omega arith in
    c.loop-i.invariant.named h ∙ (λ j. name_of (zip (numbers (drop (end j) c.args.handles.now)) (numbers (drop (end j) c.args.names.now))) h)
