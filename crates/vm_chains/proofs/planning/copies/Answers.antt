use Rattle.std.proofs.Common.{◌≡◌, ℕ, ◌+◌, ◌<◌, ◌≤◌, ◌++◌, ◌∷◌, [], List, get_or, length, drop, true, refl, sym, ap, ◌∙◌, arith}
use Rattle.std.proofs.lemmas.List.{append-nil, drop_all, length_push, take_all}
use Rattle.std.specs.List.{zip}
use Rattle.geos_model.specs.Chain.{is_member, name_of, relinked, relinked_block, renamed_blocks}
use Rattle.geos_model.specs.declared.block.Attributes.{Attributes}
use Rattle.geos_model.specs.declared.command.Body.TheVariants.{Raw}
use Rattle.vm_chains.specs.declared.renaming.Renaming.{Renaming}
use Rattle.geos_model.specs.Document.{Block, Document, attributes_of, block_at, handles_of, raw_bytes_of}
use Rattle.geos_model.specs.declared.fault.Fault.TheVariants.{Memory}
use Rattle.geos_model.specs.declared.handle.VmHandle.{VmHandle}
use Rattle.vm_chains.specs.Naming.{name_in}
use Rattle.document_file.specs.Members.{imaged_blocks}
use Rattle.vm_chains.specs.Numbers.{numbers}
use Rattle.document_file.specs.declared.member.Member.{Member}
use Rattle.vm_blocks.proofs.KeepingLaws.{keeps-refl, keeps-same, keeps-steady, keeps-trans, lacks-later, lacks-memory}
use Rattle.vm_chains.proofs.CopyLemmas.{copies_from, copies_more}
use Rattle.vm_chains.proofs.ChainLemmas.{renamed_block}
use Rattle.vm_chains.proofs.Loading.{carried_so, still_live, still_then}
use Rattle.vm_chains.proofs.Planned.{handles_more}
use Rattle.vm_chains.proofs.planning.copies.Goals as goal

abbrev no_handle : VmHandle
no_handle = record { 0 = 0 }

-- a block of the copy, by what was read
block_is : (now d : Document) (h : ℕ) (attributes : Attributes) (bytes : List ℕ) (names : Renaming) (given : ℕ → ℕ) → attributes ≡ attributes_of d h → bytes ≡ relinked (name_in names) (raw_bytes_of now h) → now ≡ d
    → ((k : ℕ) → name_in names k ≡ given k) → ◌≡◌ {A = Block} (record { attributes = attributes; body = Raw bytes }) (relinked_block given (block_at d h))
block_is now d h attributes bytes names given attributes_are read same named =
    renamed_block d h attributes bytes (name_in names) given attributes_are (read ∙ ap (λ (x : Document). relinked (name_in names) (raw_bytes_of x h)) same) named

pub returns-in_err-names-clause-keeps : goal.returns-in_err-names-clause-keeps
returns-in_err-names-clause-keeps g c = keeps-refl g.S.Store.facts c.args.blocks.now

pub returns-in_err-names-clause-refusals : goal.returns-in_err-names-clause-refusals
returns-in_err-names-clause-refusals g c = carried_so c.from_residual.result Memory _ c.from_residual.ensures.1 (lacks-memory g.S.Store.facts c.args.blocks.now.disk.store c.args.blocks.now.disk.store)

pub loop-i-init : goal.loop-i-init
loop-i-init g c =
    let nothing = c.new-plan.ensures.items in let hs = c.args.handles.now in let new = c.args.new.now in
    record {
      plan = λ steady. ap (λ (ms : List Member). imaged_blocks ms ++ copies_from c.args.blocks.now.document hs new hs new) nothing;
      handles = ap (λ (ms : List Member). handles_of (imaged_blocks ms)) nothing;
      named = c.in_ok-names.ensures {u = tt};
      many = ap (λ (ms : List Member). length ms) nothing;
      keeps = keeps-refl g.S.Store.facts c.args.blocks.now;
    }

pub relinked_at-requires-clause-live : goal.relinked_at-requires-clause-live
relinked_at-requires-clause-live g c =
    still_live g.S.Store.facts c.args.blocks.now c.loop-i.blocks c.loop-i.invariant.keeps (get_or c.args.handles.now c.loop-i.i no_handle).0 (c.requires.live.live c.loop-i.i no_handle (omega arith))

pub relinked_at-requires-clause-member : goal.relinked_at-requires-clause-member
relinked_at-requires-clause-member g c =
    let h = (get_or c.args.handles.now c.loop-i.i no_handle).0 in let within : c.loop-i.i < length c.args.handles.now = omega arith in
    still_then g.S.Store.facts c.args.blocks.now c.loop-i.blocks c.loop-i.invariant.keeps (λ d. is_member d h ≡ true) (λ steady. c.requires.members steady c.loop-i.i no_handle within)

pub returns-in_err-bytes-clause-keeps : goal.returns-in_err-bytes-clause-keeps
returns-in_err-bytes-clause-keeps g c = keeps-trans g.S.Store.facts c.args.blocks.now c.loop-i.blocks c.relinked_at.new.blocks c.loop-i.invariant.keeps c.relinked_at.ensures.keeps

pub returns-in_err-bytes-clause-refusals : goal.returns-in_err-bytes-clause-refusals
returns-in_err-bytes-clause-refusals g c =
    carried_so c.from_residual-in_err-bytes.result c.in_err-bytes.field-0.0 _ c.from_residual-in_err-bytes.ensures.1
    (lacks-later g.S.Store.facts c.args.blocks.now c.loop-i.blocks c.relinked_at.new.blocks.disk.store c.in_err-bytes.field-0.0 c.loop-i.invariant.keeps c.in_err-bytes.ensures.refusals)

pub attributes-requires : goal.attributes-requires
attributes-requires g c =
    let keeps = keeps-trans g.S.Store.facts c.args.blocks.now c.loop-i.blocks c.relinked_at.new.blocks c.loop-i.invariant.keeps c.relinked_at.ensures.keeps in
    still_live g.S.Store.facts c.args.blocks.now c.relinked_at.new.blocks keeps (get_or c.args.handles.now c.loop-i.i no_handle).0 (c.requires.live.live c.loop-i.i no_handle (omega arith))

pub raw-requires-clause-typed : goal.raw-requires-clause-typed
raw-requires-clause-typed g c = c.attributes.ensures.typed c.in_ok-bytes.ensures.raw

pub returns-in_err-block-clause-keeps : goal.returns-in_err-block-clause-keeps
returns-in_err-block-clause-keeps g c = keeps-trans g.S.Store.facts c.args.blocks.now c.loop-i.blocks c.relinked_at.new.blocks c.loop-i.invariant.keeps c.relinked_at.ensures.keeps

pub returns-in_err-block-clause-refusals : goal.returns-in_err-block-clause-refusals
returns-in_err-block-clause-refusals g c =
    carried_so c.from_residual-in_err-block.result Memory _ c.from_residual-in_err-block.ensures.1 (lacks-memory g.S.Store.facts c.args.blocks.now.disk.store c.relinked_at.new.blocks.disk.store)

pub returns-in_err-push-clause-keeps : goal.returns-in_err-push-clause-keeps
returns-in_err-push-clause-keeps g c = keeps-trans g.S.Store.facts c.args.blocks.now c.loop-i.blocks c.relinked_at.new.blocks c.loop-i.invariant.keeps c.relinked_at.ensures.keeps

pub returns-in_err-push-clause-refusals : goal.returns-in_err-push-clause-refusals
returns-in_err-push-clause-refusals g c =
    carried_so c.from_residual-in_err-push.result Memory _ c.from_residual-in_err-push.ensures.1 (lacks-memory g.S.Store.facts c.args.blocks.now.disk.store c.relinked_at.new.blocks.disk.store)

pub loop-i-preserved : goal.loop-i-preserved
loop-i-preserved g c =
    let a = c.args.blocks.now in let e = c.relinked_at.new.blocks in
    let d = a.document in let hs = c.args.handles.now in let new = c.args.new.now in let i = c.loop-i.i in
    let h = (get_or hs i no_handle).0 in
    let m : Member = record { handle = get_or new i no_handle; block = c.in_ok-block.block } in
    let keeps = keeps-trans g.S.Store.facts a c.loop-i.blocks e c.loop-i.invariant.keeps c.relinked_at.ensures.keeps in
    let within : i < length hs = omega arith in let there : i < length new = omega arith in
    let pushed : c.push.new.self.items ≡ c.loop-i.plan.items ++ m ∷ [] = c.in_ok-push.ensures.items in
    record {
      plan = λ steady.
          let same : e.document ≡ d = keeps-same g.S.Store.facts a e keeps steady in
          let attributes_are : c.attributes.result ≡ attributes_of d h = c.attributes.ensures.value ∙ ap (λ (x : Document). attributes_of x h) same in
          let block = c.in_ok-block.ensures ∙ block_is e.document d h c.attributes.result c.in_ok-bytes.bytes.items _ (name_of (zip (numbers hs) (numbers new))) attributes_are (c.in_ok-bytes.ensures.value (keeps-steady g.S.Store.facts a c.loop-i.blocks c.loop-i.invariant.keeps steady)) same c.loop-i.invariant.named in
          ap (λ (ms : List Member). imaged_blocks ms ++ copies_from d hs new (drop (i + 1) hs) (drop (i + 1) new)) pushed
          ∙ copies_more d hs new c.loop-i.plan.items m i no_handle no_handle _ within there refl block (c.loop-i.invariant.plan steady);
      handles = ap (λ (ms : List Member). handles_of (imaged_blocks ms)) pushed ∙ handles_more c.loop-i.plan.items m i new no_handle there refl c.loop-i.invariant.handles;
      named = c.loop-i.invariant.named;
      many = omega (arith, ap (λ (ms : List Member). length ms) pushed, length_push c.loop-i.plan.items m, c.loop-i.invariant.many);
      keeps = keeps;
    }

pub returns-clause-value : goal.returns-clause-value
returns-clause-value g c = λ steady.
    let a = c.args.blocks.now in let d = a.document in let hs = c.args.handles.now in let new = c.args.new.now in let i = c.loop-i.i in let items = c.loop-i.plan.items in
    let past : length hs ≤ i = omega arith in let past_new : length new ≤ i = omega arith in
    ap (λ v. imaged_blocks v.items) c.new-2.ensures
    ∙ sym (append-nil (imaged_blocks items)) ∙ sym (λ j. imaged_blocks items ++ copies_from d hs new (drop_all i hs past j) (drop_all i new past_new j)) ∙ c.loop-i.invariant.plan steady
    ∙ ap (λ (x : Document). renamed_blocks x (numbers hs) (numbers new)) (sym (keeps-same g.S.Store.facts a c.loop-i.blocks c.loop-i.invariant.keeps steady))

pub returns-clause-handles : goal.returns-clause-handles
returns-clause-handles g c =
    let past : length c.args.new.now ≤ c.loop-i.i = omega arith in
    ap (λ v. handles_of (imaged_blocks v.items)) c.new-2.ensures ∙ c.loop-i.invariant.handles
    ∙ ap (λ (xs : List VmHandle). numbers xs) (take_all c.loop-i.i c.args.new.now past)
