use Rattle.std.proofs.Common.{◌≡◌, ◌∙◌, ◌+◌, ◌-◌, ◌++◌, ℕ, List, [], length, refl, sym, ap, ap₂}
use Rattle.vm_chains.specs.Numbers.{numbers}
use Rattle.large_bodies.specs.RootEdits.{head_bytes, count_bytes, link_bytes, run_between}
use Rattle.geos_model.specs.LargeLayout.{Root}
use Rattle.std.proofs.lemmas.List.{length-map}
use Rattle.geos_model.specs.declared.handle.VmHandle.{VmHandle}
use Rattle.large_bodies.proofs.RootRuns.{added, root_pushed}
use Rattle.large_arrays.proofs.root_edits.new_root.Goals as goal

pub returns : goal.returns
returns c =
    let r : Root = c.args.root.now in
    let first : ℕ = c.args.first in
    let behind : ℕ = c.args.behind in
    let counts : List ℕ = c.args.counts.now in
    let names : List ℕ = numbers c.args.branches.now in
    let end : ℕ = c.branches-old.result in
    let total : ℕ = c.total_without.result + c.sum_of.result in
    let many = length-map c.args.branches.now (λ (h : VmHandle). h.0) in
    let head : List ℕ = head_bytes (end - (behind - first) + length names) r.size total in
    let a : List ℕ = head ++ count_bytes (run_between r.counts 0 first) in
    let b : List ℕ = a ++ count_bytes counts in
    let d : List ℕ = b ++ count_bytes (run_between r.counts behind end) in
    let e : List ℕ = d ++ link_bytes (run_between r.branches 0 first) in
    let f : List ℕ = e ++ link_bytes names in
    let start : c.push_head.new.out.items ≡ head =
    added _ _ [] _ head c.in_ok-push_head.ensures c.in_ok-bytes.ensures.items
    (ap₂ (λ (n s : ℕ). head_bytes n s total) (ap (λ (n : ℕ). end - (behind - first) + n) (sym many)) c.size_word.ensures) in
    root_pushed r first behind counts names c.extend_from_slice-4.new.self.items total end c.requires.order c.requires.within
    c.branches-old.ensures.counts c.branches-old.ensures.branches (c.requires.same ∙ sym many)
    (ap₂ (λ (m n : ℕ). m + n) c.total_without.ensures.value c.sum_of.ensures.value)
    (added _ _ f _ _ c.in_ok-extend_from_slice-4.ensures.items
    (added _ _ e _ _ c.in_ok-push_links.ensures
    (added _ _ d _ _ c.in_ok-extend_from_slice-3.ensures.items
    (added _ _ b _ _ c.in_ok-extend_from_slice-2.ensures.items
    (added _ _ a _ _ c.in_ok-push_words.ensures
    (added _ _ head _ _ c.in_ok-extend_from_slice.ensures.items start c.count_bytes.ensures)
    refl)
    c.count_bytes-2.ensures)
    c.link_bytes.ensures)
    refl)
    c.link_bytes-2.ensures)
