use Rattle.std.proofs.Common.{◌++◌, ℕ, List, ap, sym, ◌∙◌, append-nil}
use Rattle.std.proofs.lemmas.Bool.{lt-ltb, le-ltb}
use Rattle.geos_model.specs.declared.command.Edit.{Edit}
use Rattle.geos_model.specs.declared.command.Edit.TheVariants as edits
use Rattle.document_dump.specs.Changes.{block_name}
use Rattle.document_dump.specs.Lines.{text}
use Rattle.document_dump.proofs.Listed.{freed_above, freed_below, freed_listed, one_line}
use Rattle.document_dump.proofs.entries.push_unlisted.Goals as goal

pub returns-then-listed : goal.returns-then-listed
returns-then-listed c = λ file map_block d is.
    sym (append-nil c.args.out.now.items)
    ∙ ap (λ (es : List Edit). c.args.out.now.items ++ text es) (sym (freed_listed file map_block c.args.entries.now d is c.args.block.0 c.args.last (sym c.is_listed-listed.ensures ∙ c.if-listed.true)))

pub returns-then-below : goal.returns-then-below
returns-then-below c = λ file map_block d is.
    c.in_ok-push_free_block.ensures ∙ ap (λ (l : List ℕ). c.args.out.now.items ++ l) (one_line (edits.FreeBlock (block_name c.args.block.0)))
    ∙ ap (λ (es : List Edit). c.args.out.now.items ++ text es) (sym (freed_below file map_block c.args.entries.now d is c.args.block.0 c.args.last (sym c.is_listed-listed.ensures ∙ c.if-listed.false) (lt-ltb c.args.block.0 c.args.last c.if-below.true)))

pub returns : goal.returns
returns c = λ file map_block d is.
    sym (append-nil c.args.out.now.items)
    ∙ ap (λ (es : List Edit). c.args.out.now.items ++ text es) (sym (freed_above file map_block c.args.entries.now d is c.args.block.0 c.args.last (sym c.is_listed-listed.ensures ∙ c.if-listed.false) (le-ltb c.args.block.0 c.args.last c.if-below.false)))
