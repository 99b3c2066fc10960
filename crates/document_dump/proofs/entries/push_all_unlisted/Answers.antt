use Rattle.std.proofs.Common.{◌≡◌, ◌++◌, ℕ, List, flat_map, ap, subst, arith}
use Rattle.geos_model.specs.Document.{empty_document}
use Rattle.geos_model.specs.declared.command.Edit.{Edit}
use Rattle.document_dump.specs.Lines.{text}
use Rattle.document_dump.specs.Changes.{block_freed, blocks_freed}
use Rattle.document_dump.proofs.Handles.{handles_above, handles_above-none, left_more, left_none}
use Rattle.document_dump.proofs.entries.push_all_unlisted.Goals as goal

pub loop-i-init : goal.loop-i-init
unfolding blocks_freed
loop-i-init c = λ file map_block d is.
    let f : ℕ → List Edit = block_freed empty_document d c.args.last in
    ap (λ (hs : List ℕ). c.args.out.now.items ++ text (flat_map f hs)) handles_above-none

pub loop-i-preserved : goal.loop-i-preserved
loop-i-preserved c = λ file map_block d is.
    let f : ℕ → List Edit = block_freed empty_document d c.args.last in
    left_more f c.loop-i.i _ c.loop-i.out.items _ (omega arith) (c.loop-i.invariant file map_block d is) (c.in_ok-push_unlisted.ensures file map_block d is)

pub returns : goal.returns
returns c = λ file map_block d is.
    let f : ℕ → List Edit = block_freed empty_document d c.args.last in
    let end : c.loop-i.i ≡ 8192 = omega arith in
    let all : List ℕ = c.args.out.now.items ++ text (blocks_freed empty_document d c.args.last) in
    left_none f all c.loop-i.out.items (subst (λ (i : ℕ). c.loop-i.out.items ++ text (flat_map f (handles_above i)) ≡ all) end (c.loop-i.invariant file map_block d is))
