use Rattle.std.proofs.Common.{Err, ap, map, refl, ◌∙◌}
use Rattle.std.proofs.lemmas.Result.{err_from_is_err_and}
use Rattle.geos_model.specs.Reply.{BytesAre, PlacesAre, blocks_are, chunks_are, reply_by, reply_of}
use Rattle.geos_model.specs.LookUps.{places_look_up}
use Rattle.geos_model.specs.declared.command.Command.TheVariants as commands
use Rattle.doc_edits.proofs.LookUps.{shown_ok}
use Rattle.undo_log.proofs.Keeping.{kept_invariant}
use Rattle.undo_log.proofs.LookUps.{StepsSo, along_chain_form, along_chain_looked, answered_err, at_rest, blocks_listed, blocks_unlisted, in_block_form, in_block_looked, places_steps, session_with, shows_err, shows_ok}
use Rattle.undo_log.proofs.session.Session.look_up.Goals as goal

pub returns-in_err-prepared-in-InBlock : goal.returns-in_err-prepared-in-InBlock
returns-in_err-prepared-in-InBlock g c =
    let new = c.prepare_in_block.new.blocks in let lists = c.prepare_in_block.new.lists in let r = c.prepare_in_block.result in
    let reply = reply_by reply_of c.from_residual-in_err-prepared-in-InBlock.result in
    let shows = shows_err new lists r _ c.from_residual-in_err-prepared-in-InBlock.result c.in_err-prepared-in-InBlock.was c.from_residual-in_err-prepared-in-InBlock.ensures.1 in
    rw c.in-InBlock.is (
      (refl, (λ _. tt), in_block_looked g.S.Store.facts _ new c.self.inside.log.lists _ c.self.view_is c.reveal_invariant.ensures.distinct lists r reply shows c.in-InBlock.block c.in-InBlock.asked c.prepare_in_block.ensures.sees),
      record { leaves = tt; form = in_block_form g.S.Store.facts _ new c.self.inside.log.lists _ c.self.view_is c.reveal_invariant.ensures.distinct lists r reply shows c.in-InBlock.block c.in-InBlock.asked c.prepare_in_block.ensures.sees },
    )

pub returns-in-Blocks : goal.returns-in-Blocks
returns-in-Blocks g c =
    let new = c.prepare_in_block.new.blocks in let lists = c.prepare_in_block.new.lists in let r = c.prepare_in_block.result in
    let reply = blocks_are c.deref-in-Blocks.result.now in
    let shows = shows_ok new lists r c.in_ok-prepared-in-InBlock.prepared reply c.in_ok-prepared-in-InBlock.was (rw c.in-Blocks.is (ap blocks_are c.deref-in-Blocks.ensures.value)) in
    rw c.in-InBlock.is (
      (refl, (λ _. tt), in_block_looked g.S.Store.facts _ new c.self.inside.log.lists _ c.self.view_is c.reveal_invariant.ensures.distinct lists r reply shows c.in-InBlock.block c.in-InBlock.asked c.prepare_in_block.ensures.sees),
      record { leaves = tt; form = in_block_form g.S.Store.facts _ new c.self.inside.log.lists _ c.self.view_is c.reveal_invariant.ensures.distinct lists r reply shows c.in-InBlock.block c.in-InBlock.asked c.prepare_in_block.ensures.sees },
    )

pub returns-in-Chunks : goal.returns-in-Chunks
returns-in-Chunks g c =
    let new = c.prepare_in_block.new.blocks in let lists = c.prepare_in_block.new.lists in let r = c.prepare_in_block.result in
    let reply = chunks_are c.deref-in-Chunks.result.now in
    let shows = shows_ok new lists r c.in_ok-prepared-in-InBlock.prepared reply c.in_ok-prepared-in-InBlock.was (rw c.in-Chunks.is (ap chunks_are c.deref-in-Chunks.ensures.value)) in
    rw c.in-InBlock.is (
      (refl, (λ _. tt), in_block_looked g.S.Store.facts _ new c.self.inside.log.lists _ c.self.view_is c.reveal_invariant.ensures.distinct lists r reply shows c.in-InBlock.block c.in-InBlock.asked c.prepare_in_block.ensures.sees),
      record { leaves = tt; form = in_block_form g.S.Store.facts _ new c.self.inside.log.lists _ c.self.view_is c.reveal_invariant.ensures.distinct lists r reply shows c.in-InBlock.block c.in-InBlock.asked c.prepare_in_block.ensures.sees },
    )

pub returns-in-Bytes : goal.returns-in-Bytes
returns-in-Bytes g c =
    let new = c.prepare_in_block.new.blocks in let lists = c.prepare_in_block.new.lists in let r = c.prepare_in_block.result in
    let reply = BytesAre c.deref-in-Bytes.result.now in
    let shows = shows_ok new lists r c.in_ok-prepared-in-InBlock.prepared reply c.in_ok-prepared-in-InBlock.was (rw c.in-Bytes.is (ap BytesAre c.deref-in-Bytes.ensures.value)) in
    rw c.in-InBlock.is (
      (refl, (λ _. tt), in_block_looked g.S.Store.facts _ new c.self.inside.log.lists _ c.self.view_is c.reveal_invariant.ensures.distinct lists r reply shows c.in-InBlock.block c.in-InBlock.asked c.prepare_in_block.ensures.sees),
      record { leaves = tt; form = in_block_form g.S.Store.facts _ new c.self.inside.log.lists _ c.self.view_is c.reveal_invariant.ensures.distinct lists r reply shows c.in-InBlock.block c.in-InBlock.asked c.prepare_in_block.ensures.sees },
    )

pub returns-in_default : goal.returns-in_default
returns-in_default g c =
    let new = c.prepare_in_block.new.blocks in let lists = c.prepare_in_block.new.lists in let r = c.prepare_in_block.result in
    let reply = reply_by reply_of c.answer.result in
    let shows = shows_ok new lists r c.in_ok-prepared-in-InBlock.prepared reply c.in_ok-prepared-in-InBlock.was (c.answer.ensures lists) in
    rw c.in-InBlock.is (
      (refl, (λ _. tt), in_block_looked g.S.Store.facts _ new c.self.inside.log.lists _ c.self.view_is c.reveal_invariant.ensures.distinct lists r reply shows c.in-InBlock.block c.in-InBlock.asked c.prepare_in_block.ensures.sees),
      record { leaves = tt; form = in_block_form g.S.Store.facts _ new c.self.inside.log.lists _ c.self.view_is c.reveal_invariant.ensures.distinct lists r reply shows c.in-InBlock.block c.in-InBlock.asked c.prepare_in_block.ensures.sees },
    )

pub returns-in_err-prepared-in-AlongChain : goal.returns-in_err-prepared-in-AlongChain
returns-in_err-prepared-in-AlongChain g c =
    let new = c.prepare_along_chain.new.blocks in let lists = c.prepare_along_chain.new.lists in let r = c.prepare_along_chain.result in
    let reply = reply_by reply_of c.from_residual-in_err-prepared-in-AlongChain.result in
    let shows = shows_err new lists r _ c.from_residual-in_err-prepared-in-AlongChain.result c.in_err-prepared-in-AlongChain.was c.from_residual-in_err-prepared-in-AlongChain.ensures.1 in
    rw c.in-AlongChain.is (
      (refl, (λ _. tt), along_chain_looked g.S.Store.facts _ new c.self.inside.log.lists _ c.self.view_is c.reveal_invariant-in-AlongChain.ensures.distinct lists r reply shows c.in-AlongChain.asked c.prepare_along_chain.ensures.sees),
      record { leaves = tt; form = along_chain_form g.S.Store.facts _ new c.self.inside.log.lists _ c.self.view_is c.reveal_invariant-in-AlongChain.ensures.distinct lists r reply shows c.in-AlongChain.asked c.prepare_along_chain.ensures.sees },
    )

pub returns-in-Blocks-prepared : goal.returns-in-Blocks-prepared
returns-in-Blocks-prepared g c =
    let new = c.prepare_along_chain.new.blocks in let lists = c.prepare_along_chain.new.lists in let r = c.prepare_along_chain.result in
    let reply = blocks_are c.deref-in-Blocks-prepared.result.now in
    let shows = shows_ok new lists r c.in_ok-prepared-in-AlongChain.prepared reply c.in_ok-prepared-in-AlongChain.was (rw c.in-Blocks-prepared.is (ap blocks_are c.deref-in-Blocks-prepared.ensures.value)) in
    rw c.in-AlongChain.is (
      (refl, (λ _. tt), along_chain_looked g.S.Store.facts _ new c.self.inside.log.lists _ c.self.view_is c.reveal_invariant-in-AlongChain.ensures.distinct lists r reply shows c.in-AlongChain.asked c.prepare_along_chain.ensures.sees),
      record { leaves = tt; form = along_chain_form g.S.Store.facts _ new c.self.inside.log.lists _ c.self.view_is c.reveal_invariant-in-AlongChain.ensures.distinct lists r reply shows c.in-AlongChain.asked c.prepare_along_chain.ensures.sees },
    )

pub returns-in-Chunks-prepared : goal.returns-in-Chunks-prepared
returns-in-Chunks-prepared g c =
    let new = c.prepare_along_chain.new.blocks in let lists = c.prepare_along_chain.new.lists in let r = c.prepare_along_chain.result in
    let reply = chunks_are c.deref-in-Chunks-prepared.result.now in
    let shows = shows_ok new lists r c.in_ok-prepared-in-AlongChain.prepared reply c.in_ok-prepared-in-AlongChain.was (rw c.in-Chunks-prepared.is (ap chunks_are c.deref-in-Chunks-prepared.ensures.value)) in
    rw c.in-AlongChain.is (
      (refl, (λ _. tt), along_chain_looked g.S.Store.facts _ new c.self.inside.log.lists _ c.self.view_is c.reveal_invariant-in-AlongChain.ensures.distinct lists r reply shows c.in-AlongChain.asked c.prepare_along_chain.ensures.sees),
      record { leaves = tt; form = along_chain_form g.S.Store.facts _ new c.self.inside.log.lists _ c.self.view_is c.reveal_invariant-in-AlongChain.ensures.distinct lists r reply shows c.in-AlongChain.asked c.prepare_along_chain.ensures.sees },
    )

pub returns-in-Bytes-prepared : goal.returns-in-Bytes-prepared
returns-in-Bytes-prepared g c =
    let new = c.prepare_along_chain.new.blocks in let lists = c.prepare_along_chain.new.lists in let r = c.prepare_along_chain.result in
    let reply = BytesAre c.deref-in-Bytes-prepared.result.now in
    let shows = shows_ok new lists r c.in_ok-prepared-in-AlongChain.prepared reply c.in_ok-prepared-in-AlongChain.was (rw c.in-Bytes-prepared.is (ap BytesAre c.deref-in-Bytes-prepared.ensures.value)) in
    rw c.in-AlongChain.is (
      (refl, (λ _. tt), along_chain_looked g.S.Store.facts _ new c.self.inside.log.lists _ c.self.view_is c.reveal_invariant-in-AlongChain.ensures.distinct lists r reply shows c.in-AlongChain.asked c.prepare_along_chain.ensures.sees),
      record { leaves = tt; form = along_chain_form g.S.Store.facts _ new c.self.inside.log.lists _ c.self.view_is c.reveal_invariant-in-AlongChain.ensures.distinct lists r reply shows c.in-AlongChain.asked c.prepare_along_chain.ensures.sees },
    )

pub returns-in_default-prepared : goal.returns-in_default-prepared
returns-in_default-prepared g c =
    let new = c.prepare_along_chain.new.blocks in let lists = c.prepare_along_chain.new.lists in let r = c.prepare_along_chain.result in
    let reply = reply_by reply_of c.answer-in_default-prepared.result in
    let shows = shows_ok new lists r c.in_ok-prepared-in-AlongChain.prepared reply c.in_ok-prepared-in-AlongChain.was (c.answer-in_default-prepared.ensures lists) in
    rw c.in-AlongChain.is (
      (refl, (λ _. tt), along_chain_looked g.S.Store.facts _ new c.self.inside.log.lists _ c.self.view_is c.reveal_invariant-in-AlongChain.ensures.distinct lists r reply shows c.in-AlongChain.asked c.prepare_along_chain.ensures.sees),
      record { leaves = tt; form = along_chain_form g.S.Store.facts _ new c.self.inside.log.lists _ c.self.view_is c.reveal_invariant-in-AlongChain.ensures.distinct lists r reply shows c.in-AlongChain.asked c.prepare_along_chain.ensures.sees },
    )

-- the list of blocks, and what is answered by a value

pub returns-in_err-list_into-in-List : goal.returns-in_err-list_into-in-List
returns-in_err-list_into-in-List g c =
    let lacked = err_from_is_err_and c.from_residual.result c.from_residual.ensures.1 in
    let steps = blocks_unlisted (session_with c.self.inside.blocks c.self.inside.log.lists) c.from_residual.result (lacked.1 ∙ ap Err lacked.2) in
    rw c.in-List.is ((refl, (λ _. tt), at_rest _ c.args.self.now commands.List _ c.self.view_is steps.0), record { leaves = tt; form = steps.1 })

pub returns-in_ok-list_into-in-List : goal.returns-in_ok-list_into-in-List
returns-in_ok-list_into-in-List g c =
    let steps = blocks_listed (session_with c.self.inside.blocks c.self.inside.log.lists) c.deref.result.now (ap (map (λ h. h.0)) c.deref.ensures.value ∙ c.in_ok-list_into-in-List.ensures.all) in
    rw c.in-List.is ((refl, (λ _. tt), at_rest _ c.args.self.now commands.List _ c.self.view_is steps.0), record { leaves = tt; form = steps.1 })

pub returns-in_err-self-inside-in-Places : goal.returns-in_err-self-inside-in-Places
returns-in_err-self-inside-in-Places g c =
    let s = session_with c.self.inside.blocks c.self.inside.log.lists in
    let steps = answered_err (StepsSo s (places_look_up c.in-Places.asked)) (λ places. PlacesAre places.items) c.places.result (places_steps s c.in-Places.asked c.places.result c.places.ensures) _ c.in_err-self-inside-in-Places.was c.from_residual-in_err-self-inside-in-Places.result c.from_residual-in_err-self-inside-in-Places.ensures.1 in
    rw c.in-Places.is ((refl, (λ _. tt), at_rest _ c.args.self.now (places_look_up c.in-Places.asked) _ c.self.view_is steps.0), record { leaves = tt; form = steps.1 })

pub returns-in_ok-self-inside-in-Places : goal.returns-in_ok-self-inside-in-Places
returns-in_ok-self-inside-in-Places g c =
    let s = session_with c.self.inside.blocks c.self.inside.log.lists in
    let steps = shown_ok (StepsSo s (places_look_up c.in-Places.asked)) (λ places. PlacesAre places.items) c.places.result (places_steps s c.in-Places.asked c.places.result c.places.ensures) _ c.in_ok-self-inside-in-Places.was (PlacesAre c.deref-in-Places.result.now) (ap PlacesAre c.deref-in-Places.ensures.value) in
    rw c.in-Places.is ((refl, (λ _. tt), at_rest _ c.args.self.now (places_look_up c.in-Places.asked) _ c.self.view_is steps.0), record { leaves = tt; form = steps.1 })

-- The session is as valid as it was.

pub invariant_of-self-in-Break-branch-3 : goal.invariant_of-self-in-Break-branch-3
invariant_of-self-in-Break-branch-3 g c = kept_invariant g.S.Store.facts _ _ c.self.inside.log.lists c.prepare_in_block.ensures.keeps c.self.invariant

pub invariant_of-self-in-Blocks : goal.invariant_of-self-in-Blocks
invariant_of-self-in-Blocks g c = kept_invariant g.S.Store.facts _ _ c.self.inside.log.lists c.prepare_in_block.ensures.keeps c.self.invariant

pub invariant_of-self-in-Chunks : goal.invariant_of-self-in-Chunks
invariant_of-self-in-Chunks g c = kept_invariant g.S.Store.facts _ _ c.self.inside.log.lists c.prepare_in_block.ensures.keeps c.self.invariant

pub invariant_of-self-in-Bytes : goal.invariant_of-self-in-Bytes
invariant_of-self-in-Bytes g c = kept_invariant g.S.Store.facts _ _ c.self.inside.log.lists c.prepare_in_block.ensures.keeps c.self.invariant

pub invariant_of-self-in_default : goal.invariant_of-self-in_default
invariant_of-self-in_default g c = kept_invariant g.S.Store.facts _ _ c.self.inside.log.lists c.prepare_in_block.ensures.keeps c.self.invariant

pub invariant_of-self-in-Break-branch-4 : goal.invariant_of-self-in-Break-branch-4
invariant_of-self-in-Break-branch-4 g c = kept_invariant g.S.Store.facts _ _ c.self.inside.log.lists c.prepare_along_chain.ensures.keeps c.self.invariant

pub invariant_of-self-in-Blocks-prepared : goal.invariant_of-self-in-Blocks-prepared
invariant_of-self-in-Blocks-prepared g c = kept_invariant g.S.Store.facts _ _ c.self.inside.log.lists c.prepare_along_chain.ensures.keeps c.self.invariant

pub invariant_of-self-in-Chunks-prepared : goal.invariant_of-self-in-Chunks-prepared
invariant_of-self-in-Chunks-prepared g c = kept_invariant g.S.Store.facts _ _ c.self.inside.log.lists c.prepare_along_chain.ensures.keeps c.self.invariant

pub invariant_of-self-in-Bytes-prepared : goal.invariant_of-self-in-Bytes-prepared
invariant_of-self-in-Bytes-prepared g c = kept_invariant g.S.Store.facts _ _ c.self.inside.log.lists c.prepare_along_chain.ensures.keeps c.self.invariant

pub invariant_of-self-in_default-prepared : goal.invariant_of-self-in_default-prepared
invariant_of-self-in_default-prepared g c = kept_invariant g.S.Store.facts _ _ c.self.inside.log.lists c.prepare_along_chain.ensures.keeps c.self.invariant
