use Rattle.std.proofs.Common.{◌<◌, ◌≤◌, length, sym, ap, refl, ◌∙◌, arith, add-one, eq-eqb, ne_eqb}
use Rattle.std.proofs.lemmas.List.{take_all}
use Rattle.file_format.proofs.Files.{no_entry}
use Rattle.document_dump.specs.Entries.{entry_with}
use Rattle.document_dump.proofs.Listed.{found_at, none_next}
use Rattle.document_dump.proofs.entries.entry_with.Goals as goal

pub loop-entry-init : goal.loop-entry-init
loop-entry-init c = refl

pub loop-entry-preserved : goal.loop-entry-preserved
loop-entry-preserved c =
    let inside : c.loop-entry.entry-index < length c.args.entries.now = omega arith in
    rw add-one (none_next c.args.block.0 c.args.entries.now c.loop-entry.entry-index no_entry inside c.loop-entry.invariant (ne_eqb _ _ c.if-found.false))

pub returns-then-found : goal.returns-then-found
returns-then-found c =
    let inside : c.loop-entry.entry-index < length c.args.entries.now = omega arith in
    sym (found_at c.args.block.0 c.args.entries.now c.loop-entry.entry-index no_entry inside c.loop-entry.invariant (eq-eqb _ _ c.if-found.true))

pub returns : goal.returns
returns c =
    let all : length c.args.entries.now ≤ c.loop-entry.entry-index = omega arith in
    sym (ap (entry_with c.args.block.0) (sym (take_all c.loop-entry.entry-index c.args.entries.now all)) ∙ c.loop-entry.invariant)
