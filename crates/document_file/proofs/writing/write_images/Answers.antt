use Rattle.std.proofs.Common.{◌<◌, length, IsTrue, sym, ap, subst, ◌∙◌, arith}
use Rattle.std.proofs.lemmas.List.{get_or_default}
use Rattle.geos_model.specs.Image.{image}
use Rattle.document_file.specs.declared.member.Member.{Member}
use Rattle.document_file.proofs.WritingLemmas.{fills_more, written_more}
use Rattle.document_file.proofs.writing.write_images.Goals as goal

pub returns-in_err-write_extent-clause-fills : goal.returns-in_err-write_extent-clause-fills
returns-in_err-write_extent-clause-fills g c = λ so.
    let i = c.loop-i.i in
    let extents = c.args.extents.now in
    let inside : i < length extents = omega (arith, c.requires.extents.count, c.loop-i-test.true) in
    let now = subst IsTrue (sym c.loop-i.invariant.honest) so in
    fills_more c.args.slots.now extents c.args.puts.now (g.S.Store.facts c.args.store.now) (g.S.Store.facts c.loop-i.store) (g.S.Store.facts c.write_extent.new.store) i _ inside (get_or_default extents i _ _ inside)
    (c.write_extent.ensures.elsewhere now) (λ file was. c.write_extent.ensures.leaves file now was) (λ file was. c.write_extent.ensures.crash file now was) (c.loop-i.invariant.fills so)

pub loop-i-preserved : goal.loop-i-preserved
loop-i-preserved g c =
    let i = c.loop-i.i in
    let extents = c.args.extents.now in
    let inside : i < length extents = omega (arith, c.requires.extents.count, c.loop-i-test.true) in
    let still = λ (so : IsTrue (g.S.Store.facts c.args.store.now).honest). subst IsTrue (sym c.loop-i.invariant.honest) so in
    record {
      honest = c.write_extent.ensures.honest ∙ c.loop-i.invariant.honest;
      failures = omega (arith, c.in_ok-write_extent.ensures.failures.0, c.loop-i.invariant.failures);
      fills = λ so.
          fills_more c.args.slots.now extents c.args.puts.now (g.S.Store.facts c.args.store.now) (g.S.Store.facts c.loop-i.store) (g.S.Store.facts c.write_extent.new.store) i _ inside (get_or_default extents i _ _ inside)
          (c.write_extent.ensures.elsewhere (still so)) (λ file was. c.write_extent.ensures.leaves file (still so) was) (λ file was. c.write_extent.ensures.crash file (still so) was) (c.loop-i.invariant.fills so);
      written = λ so.
          written_more c.args.slots.now extents c.args.puts.now (g.S.Store.facts c.args.store.now) (g.S.Store.facts c.loop-i.store) (g.S.Store.facts c.write_extent.new.store) i _ inside (get_or_default extents i _ _ inside)
          (c.write_extent.ensures.elsewhere (still so)) _ c.requires.extents c.loop-i-test.true c.as_slice.result.now (λ p. c.as_slice.ensures ∙ ap (λ (x : Member). image x.block.image) (c.index-puts-i.is ∙ get_or_default c.args.puts.now i _ p c.loop-i-test.true)) (c.in_ok-write_extent.ensures.written (still so)) (c.loop-i.invariant.written so);
    }
