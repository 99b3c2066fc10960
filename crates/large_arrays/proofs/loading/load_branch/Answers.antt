use Rattle.std.proofs.Common.{◌≡◌, ◌∙◌, false, true, refl, sym, inr}
use Rattle.geos_model.specs.Document.{is_raw}
use Rattle.vm_blocks.specs.Kinds.{IsWrongBlock}
use Rattle.vm_blocks.proofs.KeepingLaws.{keeps-refl}
use Rattle.large_arrays.proofs.LoadedBlocks.{raw-brought, was_accepted, was_refused, wrong-not_raw}
use Rattle.large_arrays.proofs.loading.load_branch.Goals as goal

pub returns-then-is_err-clause-keeps : goal.returns-then-is_err-clause-keeps
returns-then-is_err-clause-keeps g c = keeps-refl g.S.Store.facts c.args.blocks.now

pub returns-then-is_err-clause-value : goal.returns-then-is_err-clause-value
returns-then-is_err-clause-value g c =
    let d = c.args.blocks.now.document in let h = c.args.handle.0 in
    inr (refl, was_refused c.test_root.result (λ _. is_raw d h ≡ true) (IsWrongBlock is_raw d h) (is_raw d h ≡ false) c.test_root.ensures (sym c.is_err.ensures.value ∙ c.if-is_err.true) (wrong-not_raw d h))

pub returns-clause-value : goal.returns-clause-value
returns-clause-value g c =
    let a = c.args.blocks.now in let h = c.args.handle.0 in let e = c.load_raw.ensures in
    raw-brought g.S.Store.facts a c.load_raw.new.self e.keeps h c.requires.room c.load_raw.result e.ok e.err
    (was_accepted c.test_root.result (λ _. is_raw a.document h ≡ true) (IsWrongBlock is_raw a.document h) (is_raw a.document h ≡ true) c.test_root.ensures (sym c.is_err.ensures.value ∙ c.if-is_err.false) (λ _ raw. raw))
