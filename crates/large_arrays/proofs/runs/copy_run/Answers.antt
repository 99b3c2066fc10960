use Rattle.std.proofs.Common.{◌≡◌, ◌∙◌, ◌+◌, ◌<◌, ◌≤◌, ◌++◌, ◌⊎◌, ℕ, List, true, false, min, length, take, drop, get_or, refl, sym, ap, subst, inl, inr, arith, append-nil}
use Rattle.geos_model.specs.Document.{Document}
use Rattle.geos_model.specs.declared.fault.Fault.{Fault}
use Rattle.geos_model.specs.declared.fault.Fault.TheVariants.{BadChain}
use Rattle.vm_blocks.specs.Keeping.{IsEnvironmentFault}
use Rattle.vm_blocks.proofs.KeepingLaws.{keeps-refl, keeps-same, keeps-trans, lacks-later}
use Rattle.vm_chains.specs.Walking.{Stops}
use Rattle.vm_chains.proofs.Loading.{carried, carried_so, still_room}
use Rattle.geos_model.specs.Pieces.{elements_in_pieces}
use Rattle.large_arrays.specs.LargeRuns.{are_branches_under, pieces_under, run_under}
use Rattle.large_arrays.specs.declared.spot.BranchLink.{BranchLink}
use Rattle.large_arrays.proofs.CopiedRuns.{joined_bytes, counts-rest, counts-done, count-first, pieces-done, copied-step, appended-same, tested-step, tested-none, tested-done}
use Rattle.large_arrays.proofs.Marking.{no_link}
use Rattle.large_arrays.proofs.runs.copy_run.Goals as goal

pub loop-link-init : goal.loop-link-init
loop-link-init g c =
    let a = c.args.blocks.now in let s = c.args.spot.now in
    record {
      keeps = keeps-refl g.S.Store.facts a;
      first = c.requires.within.first;
      few = omega arith;
      all = c.requires.within.all;
      tested = λ steady. refl;
      bytes = λ steady. ap (λ (xs : List ℕ). xs ++ joined_bytes (take s.count (drop s.before (elements_in_pieces (pieces_under a.document s.size s.links.items))))) c.new-bytes.ensures.items;
    }

pub overflow_add-from : goal.overflow_add-from
overflow_add-from g c = let most = c.loop-link.invariant.few in let few = c.requires.within.few in omega (arith, most, few)

pub overflow_sub-left : goal.overflow_sub-left
overflow_sub-left g c =
    let a = c.args.blocks.now in let m = c.loop-link.blocks in let s = c.args.spot.now in let k : ℕ = c.loop-link.link-index in
    let links = s.links.items in let lent = c.deref-link-items.result.now in let same : lent ≡ links = c.deref-link-items.ensures.value in
    let low : k < length links = subst (λ (ls : List BranchLink). k < length ls) same c.loop-link-test.true in
    let link : BranchLink = get_or lent k no_link in
    let is : link ≡ get_or links k no_link = ap (λ (ls : List BranchLink). get_or ls k no_link) same in
    let count : c.from.result ≡ (get_or links k no_link).count = c.from.ensures ∙ ap (λ (l : BranchLink). l.count) is in
    let first = c.loop-link.invariant.first low in let at = count-first links k low in let end = c.min-to.ensures in
    omega (arith, first, at, end, count)

pub append_run-requires-clause-room : goal.append_run-requires-clause-room
append_run-requires-clause-room g c = still_room g.S.Store.facts c.args.blocks.now c.loop-link.blocks c.loop-link.invariant.keeps c.requires.room

pub append_run-requires-clause-size : goal.append_run-requires-clause-size
append_run-requires-clause-size g c = c.requires.within.small

pub append_run-requires-clause-order : goal.append_run-requires-clause-order
append_run-requires-clause-order g c =
    let a = c.args.blocks.now in let m = c.loop-link.blocks in let s = c.args.spot.now in let k : ℕ = c.loop-link.link-index in
    let links = s.links.items in let lent = c.deref-link-items.result.now in let same : lent ≡ links = c.deref-link-items.ensures.value in
    let low : k < length links = subst (λ (ls : List BranchLink). k < length ls) same c.loop-link-test.true in
    let link : BranchLink = get_or lent k no_link in
    let is : link ≡ get_or links k no_link = ap (λ (ls : List BranchLink). get_or ls k no_link) same in
    let count : c.from.result ≡ (get_or links k no_link).count = c.from.ensures ∙ ap (λ (l : BranchLink). l.count) is in
    let first = c.loop-link.invariant.first low in let at = count-first links k low in let end = c.min-to.ensures in
    omega (arith, first, at, end, count)

pub append_run-requires-clause-within : goal.append_run-requires-clause-within
append_run-requires-clause-within g c = let end = c.min-to.ensures in let count = c.from.ensures in omega (arith, end, count)

pub returns-in_err-append_run-clause-keeps : goal.returns-in_err-append_run-clause-keeps
returns-in_err-append_run-clause-keeps g c = keeps-trans g.S.Store.facts c.args.blocks.now c.loop-link.blocks c.append_run.new.blocks c.loop-link.invariant.keeps c.append_run.ensures.keeps

pub returns-in_err-append_run-clause-value : goal.returns-in_err-append_run-clause-value
returns-in_err-append_run-clause-value g c = λ steady.
    let a = c.args.blocks.now in let m = c.loop-link.blocks in let s = c.args.spot.now in let k : ℕ = c.loop-link.link-index in
    let links = s.links.items in let lent = c.deref-link-items.result.now in let same : lent ≡ links = c.deref-link-items.ensures.value in
    let low : k < length links = subst (λ (ls : List BranchLink). k < length ls) same c.loop-link-test.true in
    let link : BranchLink = get_or lent k no_link in
    let is : link ≡ get_or links k no_link = ap (λ (ls : List BranchLink). get_or ls k no_link) same in
    let count : c.from.result ≡ (get_or links k no_link).count = c.from.ensures ∙ ap (λ (l : BranchLink). l.count) is in
    let e = c.append_run.new.blocks in let fault = c.in_err-append_run.field-0.0 in
    let lacks : Fault → Type 0 = IsEnvironmentFault g.S.Store.facts a.disk.store e.disk.store in
    let stops : Stops lacks (are_branches_under e.document s.size links ≡ false) fault = elim c.in_err-append_run.ensures.value [
      | inl lack ↦ inl (lacks-later g.S.Store.facts a m e.disk.store fault c.loop-link.invariant.keeps lack)
      | inr bad ↦ inr (bad.0, tested-none e.document s.size links k link low is bad.1)
    ] in
    carried c.from_residual.result fault _ _ c.from_residual.ensures.1 stops

pub returns-in_err-append_run-clause-refusals : goal.returns-in_err-append_run-clause-refusals
returns-in_err-append_run-clause-refusals g c =
    let a = c.args.blocks.now in let m = c.loop-link.blocks in let e = c.append_run.new.blocks in let fault = c.in_err-append_run.field-0.0 in
    let lacks : Fault → Type 0 = IsEnvironmentFault g.S.Store.facts a.disk.store e.disk.store in
    let stops : lacks fault ⊎ (fault ≡ BadChain) = elim c.in_err-append_run.ensures.value [
      | inl lack ↦ inl (lacks-later g.S.Store.facts a m e.disk.store fault c.loop-link.invariant.keeps lack)
      | inr bad ↦ inr bad.0
    ] in
    carried_so c.from_residual.result fault _ c.from_residual.ensures.1 stops

pub loop-link-preserved : goal.loop-link-preserved
loop-link-preserved g c =
    let a = c.args.blocks.now in let m = c.loop-link.blocks in let s = c.args.spot.now in let k : ℕ = c.loop-link.link-index in
    let links = s.links.items in let lent = c.deref-link-items.result.now in let same : lent ≡ links = c.deref-link-items.ensures.value in
    let low : k < length links = subst (λ (ls : List BranchLink). k < length ls) same c.loop-link-test.true in
    let link : BranchLink = get_or lent k no_link in
    let is : link ≡ get_or links k no_link = ap (λ (ls : List BranchLink). get_or ls k no_link) same in
    let count : c.from.result ≡ (get_or links k no_link).count = c.from.ensures ∙ ap (λ (l : BranchLink). l.count) is in
    let e = c.append_run.new.blocks in
    let keeps = keeps-trans g.S.Store.facts a m e c.loop-link.invariant.keeps c.append_run.ensures.keeps in
    let first = c.loop-link.invariant.first low in let at = count-first links k low in let end = c.min-to.ensures in
    let rest = counts-rest links k low in let all = c.loop-link.invariant.all in let few = c.loop-link.invariant.few in
    let order : c.loop-link.from ≤ (get_or links k no_link).count = omega (arith, first, at) in
    let to : c.min-to.result ≡ min (get_or links k no_link).count (c.loop-link.from + c.loop-link.left) = end ∙ ap (λ (n : ℕ). min n (c.loop-link.from + c.loop-link.left)) count in
    record {
      keeps = keeps;
      first = λ _. omega arith;
      few = omega (arith, few, end);
      all = omega (arith, all, rest, to, order);
      tested = λ steady.
          let run = appended-same a.document e.document s.size c.loop-link.from c.min-to.result link (get_or links k no_link) c.loop-link.bytes.items c.append_run.new.bytes.items (keeps-same g.S.Store.facts a e keeps steady) is c.in_ok-append_run.ensures.value in
          tested-step a.document s.size links k run.elements low (c.loop-link.invariant.tested steady) run.branch;
      bytes = λ steady.
          let run = appended-same a.document e.document s.size c.loop-link.from c.min-to.result link (get_or links k no_link) c.loop-link.bytes.items c.append_run.new.bytes.items (keeps-same g.S.Store.facts a e keeps steady) is c.in_ok-append_run.ensures.value in
          copied-step a.document s.size links c.requires.within.small k c.loop-link.from c.loop-link.left c.min-to.result c.loop-link.bytes.items c.append_run.new.bytes.items (run_under a.document s) run.elements low run.branch order to run.bytes (c.loop-link.invariant.bytes steady);
    }

pub returns-clause-value : goal.returns-clause-value
returns-clause-value g c = λ steady.
    let a = c.args.blocks.now in let m = c.loop-link.blocks in let s = c.args.spot.now in let k : ℕ = c.loop-link.link-index in let links = s.links.items in
    let past : length links ≤ k = subst (λ (ls : List BranchLink). length ls ≤ k) c.deref-link-items.ensures.value c.loop-link-test.false in
    let none = counts-done links k past in let all = c.loop-link.invariant.all in
    let left : c.loop-link.left ≡ 0 = omega (arith, none, all) in
    let bytes = c.loop-link.bytes.items in
    subst (λ (d : Document). (are_branches_under d s.size links ≡ true) × (bytes ≡ run_under d s)) (sym (keeps-same g.S.Store.facts a m c.loop-link.invariant.keeps steady)) (
      tested-done a.document s.size links k past (c.loop-link.invariant.tested steady),
      sym (append-nil bytes) ∙ ap (λ (xs : List (List ℕ)). bytes ++ joined_bytes xs) (sym (pieces-done a.document s.size links c.requires.within.small k c.loop-link.left c.loop-link.from past left)) ∙ c.loop-link.invariant.bytes steady,
    )
