use Rattle.std.proofs.Common.{◌+◌, ◌≡◌, length, sym, ap, subst, ◌∙◌, arith, List}
use Rattle.std.proofs.lemmas.List.{get_or_default}
use Rattle.file_format.specs.declared.file.Extent.{Extent}
use Rattle.file_space.specs.Placing.{IsFirstFit}
use Rattle.document_file.specs.Writing.{AreFor}
use Rattle.document_file.proofs.PlacingLemmas.{IsPlacing, taken_with, placing_more, placing_none, placing_taken}
use Rattle.document_file.proofs.ImageLemmas.{image_length}
use Rattle.document_file.proofs.placing.place_images.Goals as goal

pub loop-put-init : goal.loop-put-init
loop-put-init c = record { count = omega arith; placing = λ taken are. subst (λ (es : List Extent). IsPlacing taken c.args.puts.now 0 es c.args.space.now) (sym c.in_ok-extents.ensures.items) (placing_none taken c.args.puts.now c.args.space.now are) }

pub overflow_cast-as_slice : goal.overflow_cast-as_slice
overflow_cast-as_slice c =
    let size = image_length c.put-item.result.block.image c.put-item.result.block.valid in
    let same = ap length c.as_slice.ensures in
    omega (arith, size.1, same)

pub take-requires-clause-in_range : goal.take-requires-clause-in_range
take-requires-clause-in_range c =
    let size = image_length c.put-item.result.block.image c.put-item.result.block.valid in
    let same = ap length c.as_slice.ensures in
    (omega (arith, size.0, same), omega (arith, size.1, same))

pub loop-put-preserved : goal.loop-put-preserved
loop-put-preserved c =
    let i = c.loop-put.put-index in
    let p = c.put-item.result in
    let size = image_length p.block.image p.block.valid in
    let same = ap length c.as_slice.ensures in
    record {
      count = (let was = c.loop-put.invariant.count in let one = c.in_ok-extent.ensures.count in omega (arith, was, one));
      placing = λ taken are.
          let before = c.loop-put.invariant.placing taken are in
          let fits = c.in_ok-extent.ensures.placed (taken_with taken c.loop-put.extents.items) before.are in
          subst (λ es. IsPlacing taken c.args.puts.now (i + 1) es c.take.new.self) (sym c.in_ok-push.ensures.items)
          (placing_more taken c.loop-put.extents.items c.args.puts.now i c.in_ok-extent.extent p (λ d. get_or_default c.args.puts.now i d _ c.loop-put-test.true ∙ sym c.put-item.is) size
          (subst (λ n. IsFirstFit (taken_with taken c.loop-put.extents.items) n c.in_ok-extent.extent) same fits.0) c.loop-put.space c.take.new.self before fits.1);
    }

pub returns-clause-found : goal.returns-clause-found
returns-clause-found c = λ taken are longs.
    let all : c.loop-put.put-index ≡ length c.args.puts.now = omega (arith, c.loop-put-test.false, c.loop-put.auto.put-index-end) in
    subst (λ n. AreFor taken c.args.puts.now n c.loop-put.extents.items) all ((c.loop-put.invariant.placing taken are).found longs)

pub returns-clause-taken : goal.returns-clause-taken
returns-clause-taken c = λ taken are. placing_taken taken c.loop-put.extents.items c.args.puts.now c.loop-put.put-index c.loop-put.space (c.loop-put.invariant.placing taken are)
