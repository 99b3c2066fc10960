use Rattle.std.proofs.Common.{◌≡◌, ℕ, true, false, List, is_some, length, ap, subst, sym, ◌∙◌}
use Rattle.file_format.specs.File.{block_of}
use Rattle.file_format.specs.declared.file.Entry.{Entry}
use Rattle.file_format.proofs.LooksLemmas.{OnlyReadsStore-trans, still, same_bytes_then}
use Rattle.file_salvage.specs.Entries.{entry_at, image_flaw, is_right}
use Rattle.file_salvage.proofs.EntryLemmas.{flawed}
use Rattle.file_salvage.proofs.entries.damage_at.Goals as goal

pub returns-in_err-flaw-clause-looks : goal.returns-in_err-flaw-clause-looks
returns-in_err-flaw-clause-looks g c = OnlyReadsStore-trans (g.S.Store.facts c.args.store.now) (g.S.Store.facts c.has_block.new.store) _ (g.met.S.Store.timely c.args.store.now) c.has_block.ensures.looks c.image_flaw.ensures.looks

pub returns-clause-looks : goal.returns-clause-looks
returns-clause-looks g c = OnlyReadsStore-trans (g.S.Store.facts c.args.store.now) (g.S.Store.facts c.has_block.new.store) _ (g.met.S.Store.timely c.args.store.now) c.has_block.ensures.looks c.image_flaw.ensures.looks

pub returns-clause-damage : goal.returns-clause-damage
returns-clause-damage g c = λ so.
    let a = g.S.Store.facts c.args.store.now in
    let b = g.S.Store.facts c.has_block.new.store in
    let looks = c.has_block.ensures.looks in
    let version = c.args.listing.file_version in
    let bytes = c.args.listing.bytes.now in
    let i = c.args.i in
    let entry = c.entry_at-entry.ensures in
    let flaw = c.in_ok-flaw.flaw in
    let right : is_right version (length a.content) bytes i ≡ true =
    sym (c.is_right.ensures ∙ ap (λ (n : ℕ). is_right version n bytes i) (c.requires.size so)) ∙ c.if-not-is_right.false in
    let hasnt : is_some (block_of a.content (entry_at bytes i)) ≡ false =
    sym (c.in_ok-has.ensures.block so ∙ ap (λ (e : Entry). is_some (block_of a.content e)) entry) ∙ c.if-has.false in
    let now : flaw ≡ image_flaw a.content c.entry_at-entry.result = subst (λ (file : List ℕ). flaw ≡ image_flaw file c.entry_at-entry.result) (same_bytes_then a b looks so) (c.in_ok-flaw.ensures.flaw (still a b looks so)) in
    flawed a.content version bytes i flaw right hasnt (now ∙ ap (λ (e : Entry). image_flaw a.content e) entry)
