use Rattle.std.proofs.Common.{◌≡◌, true, refl}
use Rattle.geos_model.specs.Forms.{form_asked, has_form}
use Rattle.geos_model.specs.Forms as forms
use Rattle.geos_model.specs.Reply.{Reply, AreEqual, BytesAre, NumberIs, blocks_are}
use Rattle.geos_model.specs.declared.command.Command.{Command}
use Rattle.geos_model.specs.declared.command.Command.TheVariants as commands
use Rattle.vm_blocks.specs.State.{CacheState}
use Rattle.vm_store.specs.Facts.{StoreFacts}
use Rattle.large_arrays.specs.LargeLookUps.{placed_bytes}
use Rattle.doc_edits.specs.LookUps.{AnswersChainFromBlocks}
use Rattle.doc_edits.proofs.Forms.{by_form}
use Rattle.doc_edits.proofs.LookUps.{shown_err, shown_ok}
use Rattle.doc_edits.proofs.look_ups.prepare_along_chain.Goals as goal

-- what is seen, in the form that is asked for
abbrev SeesSo : {S : Type 0} → (S → StoreFacts) → CacheState S → CacheState S → Command → Reply → Type 0
SeesSo facts old new command reply = AnswersChainFromBlocks facts old new command reply × (has_form reply (form_asked command) ≡ true)

pub returns-in_err-lists-in-Walk-clause-sees : goal.returns-in_err-lists-in-Walk-clause-sees
returns-in_err-lists-in-Walk-clause-sees g c =
    let new = c.walk.new.blocks in
    rw c.in-Walk.is (shown_err (SeesSo g.S.Store.facts c.args.blocks.now new (commands.Walk c.in-Walk.root)) (λ handles. blocks_are handles.items) c.walk.result (c.walk.ensures, by_form forms.Names (λ handles. blocks_are handles.items) (λ x. refl) c.walk.result) new c.args.lists.now _ c.in_err-lists-in-Walk.was c.from_residual.result c.from_residual.ensures.1)

pub returns-in_ok-lists-in-Walk-clause-sees : goal.returns-in_ok-lists-in-Walk-clause-sees
returns-in_ok-lists-in-Walk-clause-sees g c =
    let new = c.walk.new.blocks in
    rw c.in-Walk.is (shown_ok (SeesSo g.S.Store.facts c.args.blocks.now new (commands.Walk c.in-Walk.root)) (λ handles. blocks_are handles.items) c.walk.result (c.walk.ensures, by_form forms.Names (λ handles. blocks_are handles.items) (λ x. refl) c.walk.result) _ c.in_ok-lists-in-Walk.was)

pub returns-in_err-size-in-Size-clause-sees : goal.returns-in_err-size-in-Size-clause-sees
returns-in_err-size-in-Size-clause-sees g c =
    let new = c.chain_size.new.blocks in
    rw c.in-Size.is (shown_err (SeesSo g.S.Store.facts c.args.blocks.now new (commands.ChainSize c.in-Size.root)) NumberIs c.chain_size.result (c.chain_size.ensures, by_form forms.Number NumberIs (λ x. refl) c.chain_size.result) new c.args.lists.now _ c.in_err-size-in-Size.was c.from_residual-in_err-size-in-Size.result c.from_residual-in_err-size-in-Size.ensures.1)

pub returns-in_ok-size-in-Size-clause-sees : goal.returns-in_ok-size-in-Size-clause-sees
returns-in_ok-size-in-Size-clause-sees g c =
    let new = c.chain_size.new.blocks in
    rw (c.in-Size.is, c.from.ensures) (shown_ok (SeesSo g.S.Store.facts c.args.blocks.now new (commands.ChainSize c.in-Size.root)) NumberIs c.chain_size.result (c.chain_size.ensures, by_form forms.Number NumberIs (λ x. refl) c.chain_size.result) _ c.in_ok-size-in-Size.was)

pub returns-in_err-equal-in-Equal-clause-sees : goal.returns-in_err-equal-in-Equal-clause-sees
returns-in_err-equal-in-Equal-clause-sees g c =
    let new = c.chain_equal.new.blocks in
    rw c.in-Equal.is (shown_err (SeesSo g.S.Store.facts c.args.blocks.now new (commands.ChainEqual c.in-Equal.first c.in-Equal.second)) AreEqual c.chain_equal.result (c.chain_equal.ensures, by_form forms.Equal AreEqual (λ x. refl) c.chain_equal.result) new c.args.lists.now _ c.in_err-equal-in-Equal.was c.from_residual-in_err-equal-in-Equal.result c.from_residual-in_err-equal-in-Equal.ensures.1)

pub returns-in_ok-equal-in-Equal-clause-sees : goal.returns-in_ok-equal-in-Equal-clause-sees
returns-in_ok-equal-in-Equal-clause-sees g c =
    let new = c.chain_equal.new.blocks in
    rw c.in-Equal.is (shown_ok (SeesSo g.S.Store.facts c.args.blocks.now new (commands.ChainEqual c.in-Equal.first c.in-Equal.second)) AreEqual c.chain_equal.result (c.chain_equal.ensures, by_form forms.Equal AreEqual (λ x. refl) c.chain_equal.result) _ c.in_ok-equal-in-Equal.was)

-- a count of elements

pub returns-in_err-count-in-LargeCount-clause-sees : goal.returns-in_err-count-in-LargeCount-clause-sees
returns-in_err-count-in-LargeCount-clause-sees g c =
    let new = c.large_count.new.blocks in
    rw c.in-LargeCount.is (shown_err (SeesSo g.S.Store.facts c.args.blocks.now new (commands.LargeCount c.in-LargeCount.root)) NumberIs c.large_count.result (c.large_count.ensures, by_form forms.Number NumberIs (λ x. refl) c.large_count.result) new c.args.lists.now _ c.in_err-count-in-LargeCount.was c.from_residual-in_err-count-in-LargeCount.result c.from_residual-in_err-count-in-LargeCount.ensures.1)

pub returns-in_ok-count-in-LargeCount-clause-sees : goal.returns-in_ok-count-in-LargeCount-clause-sees
returns-in_ok-count-in-LargeCount-clause-sees g c =
    let new = c.large_count.new.blocks in
    rw (c.in-LargeCount.is, c.from-in-LargeCount.ensures) (shown_ok (SeesSo g.S.Store.facts c.args.blocks.now new (commands.LargeCount c.in-LargeCount.root)) NumberIs c.large_count.result (c.large_count.ensures, by_form forms.Number NumberIs (λ x. refl) c.large_count.result) _ c.in_ok-count-in-LargeCount.was)

-- an element

pub returns-in_err-place-in-LargeElement-clause-sees : goal.returns-in_err-place-in-LargeElement-clause-sees
returns-in_err-place-in-LargeElement-clause-sees g c =
    let new = c.large_element.new.blocks in
    rw c.in-LargeElement.is (shown_err (SeesSo g.S.Store.facts c.args.blocks.now new (commands.LargeElement c.in-LargeElement.root c.in-LargeElement.i)) (λ place. BytesAre (placed_bytes new.document place)) c.large_element.result (c.large_element.ensures.answers, by_form forms.Bytes (λ place. BytesAre (placed_bytes new.document place)) (λ x. refl) c.large_element.result) new c.args.lists.now _ c.in_err-place-in-LargeElement.was c.from_residual-in_err-place-in-LargeElement.result c.from_residual-in_err-place-in-LargeElement.ensures.1)

pub returns-in_ok-place-in-LargeElement-clause-sees : goal.returns-in_ok-place-in-LargeElement-clause-sees
returns-in_ok-place-in-LargeElement-clause-sees g c =
    let new = c.large_element.new.blocks in
    rw c.in-LargeElement.is (shown_ok (SeesSo g.S.Store.facts c.args.blocks.now new (commands.LargeElement c.in-LargeElement.root c.in-LargeElement.i)) (λ place. BytesAre (placed_bytes new.document place)) c.large_element.result (c.large_element.ensures.answers, by_form forms.Bytes (λ place. BytesAre (placed_bytes new.document place)) (λ x. refl) c.large_element.result) _ c.in_ok-place-in-LargeElement.was)

-- a run of elements

pub returns-in_err-lists-in-LargeRun-clause-sees : goal.returns-in_err-lists-in-LargeRun-clause-sees
returns-in_err-lists-in-LargeRun-clause-sees g c =
    let new = c.large_run.new.blocks in
    rw c.in-LargeRun.is (shown_err (SeesSo g.S.Store.facts c.args.blocks.now new (commands.LargeRun c.in-LargeRun.root c.in-LargeRun.i c.in-LargeRun.n)) (λ bytes. BytesAre bytes.items) c.large_run.result (c.large_run.ensures, by_form forms.Bytes (λ bytes. BytesAre bytes.items) (λ x. refl) c.large_run.result) new c.args.lists.now _ c.in_err-lists-in-LargeRun.was c.from_residual-in_err-lists-in-LargeRun.result c.from_residual-in_err-lists-in-LargeRun.ensures.1)

pub returns-in_ok-lists-in-LargeRun-clause-sees : goal.returns-in_ok-lists-in-LargeRun-clause-sees
returns-in_ok-lists-in-LargeRun-clause-sees g c =
    let new = c.large_run.new.blocks in
    rw c.in-LargeRun.is (shown_ok (SeesSo g.S.Store.facts c.args.blocks.now new (commands.LargeRun c.in-LargeRun.root c.in-LargeRun.i c.in-LargeRun.n)) (λ bytes. BytesAre bytes.items) c.large_run.result (c.large_run.ensures, by_form forms.Bytes (λ bytes. BytesAre bytes.items) (λ x. refl) c.large_run.result) _ c.in_ok-lists-in-LargeRun.was)
