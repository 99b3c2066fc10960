use Rattle.std.proofs.Common.{◌≡◌, true, sym, subst, ◌∙◌, inl}
use Rattle.std.proofs.lemmas.Result.{MatchResult-weaker}
use Rattle.std.specs.FinMap.{get}
use Rattle.geos_model.specs.Document.{Document, is_raw}
use Rattle.geos_model.specs.declared.fault.Fault.TheVariants.{Memory}
use Rattle.vm_blocks.proofs.KeepingLaws.{keeps-refl, keeps-same, keeps-trans, lacks-file, lacks-memory, raw_by}
use Rattle.vm_chains.specs.Walking.{GoesOn}
use Rattle.vm_chains.proofs.Following.{goes_on_by_word}
use Rattle.vm_chains.proofs.Loading.{carried, carried_so, refused_later, still_live, still_room}
use Rattle.vm_chains.proofs.StepLemmas.{stops_later, stops_so}
use Rattle.vm_chains.proofs.stepping.follow_link.Goals as goal

pub returns-then-not-is_live-clause-keeps : goal.returns-then-not-is_live-clause-keeps
returns-then-not-is_live-clause-keeps g c = keeps-refl g.S.Store.facts c.args.blocks.now

-- the word couldn't be read

pub returns-in_err-link-clause-value : goal.returns-in_err-link-clause-value
returns-in_err-link-clause-value g c = λ steady.
    carried c.from_residual.result c.in_err-link.field-0.0 _ _ c.from_residual.ensures.1 (inl (lacks-file g.S.Store.facts c.args.blocks.now.disk.store c.first_word.new.self.disk.store c.in_err-link.field-0.0 c.in_err-link.ensures.fails))

pub returns-in_err-link-clause-refusals : goal.returns-in_err-link-clause-refusals
returns-in_err-link-clause-refusals g c =
    carried_so c.from_residual.result c.in_err-link.field-0.0 _ c.from_residual.ensures.1 (inl (lacks-file g.S.Store.facts c.args.blocks.now.disk.store c.first_word.new.self.disk.store c.in_err-link.field-0.0 c.in_err-link.ensures.fails))

-- it is a link

pub returns-in_err-push_link-in-Some-clause-value : goal.returns-in_err-push_link-in-Some-clause-value
returns-in_err-push_link-in-Some-clause-value g c = λ steady.
    carried c.from_residual-in_err-push_link-in-Some.result Memory _ _ c.from_residual-in_err-push_link-in-Some.ensures.1 (inl (lacks-memory g.S.Store.facts c.args.blocks.now.disk.store c.first_word.new.self.disk.store))

pub returns-in_err-push_link-in-Some-clause-refusals : goal.returns-in_err-push_link-in-Some-clause-refusals
returns-in_err-push_link-in-Some-clause-refusals g c =
    carried_so c.from_residual-in_err-push_link-in-Some.result Memory _ c.from_residual-in_err-push_link-in-Some.ensures.1 (inl (lacks-memory g.S.Store.facts c.args.blocks.now.disk.store c.first_word.new.self.disk.store))

pub returns-in_ok-push_link-in-Some-clause-value : goal.returns-in_ok-push_link-in-Some-clause-value
returns-in_ok-push_link-in-Some-clause-value g c = λ steady.
    let a = c.args.blocks.now in let b = c.first_word.new.self in let h = c.args.handle.0 in
    let raw : is_raw a.document h ≡ true = raw_by (get a.document.blocks h) (sym c.is_live.ensures ∙ c.if-not-is_live.false) (sym c.is_heap.ensures ∙ c.if-is_heap.false) in
    subst (λ (d : Document). GoesOn d h c.args.pending.now c.push_link.new.pending) (sym (keeps-same g.S.Store.facts a b c.first_word.ensures.keeps steady))
    (goes_on_by_word a.document h _ c.in-Some.link c.args.pending.now c.push_link.new.pending raw (sym c.in-Some.is ∙ c.in_ok-link.ensures.value steady) c.if-link.true c.in_ok-push_link-in-Some.ensures)

pub returns-in_ok-push_link-in-Some-clause-live : goal.returns-in_ok-push_link-in-Some-clause-live
returns-in_ok-push_link-in-Some-clause-live g c =
    still_live g.S.Store.facts c.args.blocks.now c.first_word.new.self c.first_word.ensures.keeps c.args.handle.0 (sym c.is_live.ensures ∙ c.if-not-is_live.false)

-- the block is loaded

pub follow-requires : goal.follow-requires
follow-requires g c = record { room = still_room g.S.Store.facts c.args.blocks.now c.first_word.new.self c.first_word.ensures.keeps c.requires.room }

pub returns-in_default-clause-keeps : goal.returns-in_default-clause-keeps
returns-in_default-clause-keeps g c = keeps-trans g.S.Store.facts c.args.blocks.now c.first_word.new.self c.follow.new.blocks c.first_word.ensures.keeps c.follow.ensures.keeps

pub returns-in_default-clause-value : goal.returns-in_default-clause-value
returns-in_default-clause-value g c = λ steady.
    MatchResult-weaker c.follow.result c.follow.ensures.value (λ _ on. on) (λ fault stops. stops_later g.S.Store.facts c.args.blocks.now c.first_word.new.self c.follow.new.blocks fault _ c.first_word.ensures.keeps stops)

pub returns-in_default-clause-refusals : goal.returns-in_default-clause-refusals
returns-in_default-clause-refusals g c =
    refused_later c.follow.result _ _ _ c.follow.ensures.value (λ fault stops. stops_so g.S.Store.facts c.args.blocks.now c.first_word.new.self c.follow.new.blocks fault _ c.first_word.ensures.keeps stops)
