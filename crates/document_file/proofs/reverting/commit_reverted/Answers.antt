use Rattle.std.proofs.Common.{◌∙◌}
use Rattle.std.proofs.lemmas.Result.{err_from_is_err_and}
use Rattle.document_file.proofs.CopiesLemmas.{pair_documents, pair_placed, pair_stored, pair_tables}
use Rattle.document_file.proofs.PassingLemmas.{KeepsCommitted-fails, KeepsCommitted-MayCommit}
use Rattle.document_file.proofs.SavedAnewLemmas.{reverted_document, reverted_placed, reverted_table}
use Rattle.document_file.proofs.SlotsLemmas.{kept_after, shut_after}
use Rattle.document_file.proofs.StandsLemmas.{sound_settled}
use Rattle.document_file.specs.PendingDirectories.{reverted}
use Rattle.document_file.proofs.reverting.commit_reverted.Goals as goal

pub returns-in_err-write_anew-clause-commits : goal.returns-in_err-write_anew-clause-commits
returns-in_err-write_anew-clause-commits g c =
    let p = err_from_is_err_and c.from_residual.result c.from_residual.ensures.1 in
    rw (p.1) (KeepsCommitted-fails g.S.Store.facts _ _ _ _ c.write_anew.ensures.passes (sound_settled g.S.Store.facts c.write_anew.new.store c.args.live.now c.args.slots.now c.write_anew.ensures.sound))

pub commit_pair-requires-clause-tables : goal.commit_pair-requires-clause-tables
commit_pair-requires-clause-tables g c =
    let s = reverted c.args.slots.now c.args.anew in
    let is = reverted_table c.args.live.now c.args.slots.now c.requires.sound.formed c.args.anew c.requires.made in
    pair_tables (g.S.Store.facts c.args.store.now).content c.args.pair s s c.requires.updated c.requires.saved is is

pub commit_pair-requires-clause-placed : goal.commit_pair-requires-clause-placed
commit_pair-requires-clause-placed g c =
    let s = reverted c.args.slots.now c.args.anew in
    let placed = reverted_placed c.args.live.now c.args.slots.now c.requires.sound.formed c.args.anew c.requires.made c.requires.spared in
    pair_placed (g.S.Store.facts c.args.store.now).content c.args.pair s s c.requires.updated c.requires.saved placed placed

pub commit_pair-requires-clause-stored : goal.commit_pair-requires-clause-stored
commit_pair-requires-clause-stored g c so =
    let s = reverted c.args.slots.now c.args.anew in
    let stored = c.in_ok-write_anew.ensures.stored so in
    pair_stored (g.S.Store.facts c.write_anew.new.store).content c.args.pair s s c.requires.updated c.requires.saved c.args.slots.now.next_version stored stored

pub returns-clause-commits : goal.returns-clause-commits
returns-clause-commits g c =
    let s = reverted c.args.slots.now c.args.anew in
    let now = (g.S.Store.facts c.write_anew.new.store).content in
    KeepsCommitted-MayCommit g.S.Store.facts _ _ _ _ _ c.commit_pair.result c.write_anew.ensures.passes
    (λ so.
    let one = reverted_document c.args.live.now c.args.slots.now c.requires.sound.formed now c.args.anew c.requires.made ∙ c.write_anew.ensures.passes.saved so in
    pair_documents now c.args.pair s s c.requires.updated c.requires.saved ∙ (λ i. (one i, one i)))
    c.commit_pair.ensures.commits

pub returns-clause-shut : goal.returns-clause-shut
returns-clause-shut g c = shut_after c.commit_pair.result (g.S.Store.facts c.args.store.now) (g.S.Store.facts c.write_anew.new.store) (g.S.Store.facts c.commit_pair.new.store) c.args.slots.now c.write_anew.ensures.passes.honest c.write_anew.ensures.passes.failures c.commit_pair.ensures.shut

pub returns-clause-kept : goal.returns-clause-kept
returns-clause-kept g c = kept_after c.commit_pair.result (g.S.Store.facts c.args.store.now) (g.S.Store.facts c.write_anew.new.store) (g.S.Store.facts c.commit_pair.new.store) c.args.slots.now c.write_anew.ensures.passes.honest
    (λ so.
    let updated = c.write_anew.ensures.passes.updated so in
    let saved = c.write_anew.ensures.passes.saved so in
    λ i. (updated i, saved i))
    c.commit_pair.ensures.kept
