use Rattle.std.proofs.Common.{◌++◌, ℕ, List, length, ap, ◌∙◌, append_assoc}
use Rattle.std.proofs.lemmas.Result.{on_ok_weaker}
use Rattle.geos_model.specs.declared.command.Edit.TheVariants as edits
use Rattle.document_dump.specs.Lines.{line, text}
use Rattle.document_dump.specs.Changes.{block_made, bytes_written}
use Rattle.document_dump.specs.declared.bodies.Target.TheVariants as targets
use Rattle.document_dump.proofs.bodies.push_raw.Goals as goal

pub returns : goal.returns
unfolding block_made
returns c =
    let rest = text (bytes_written (targets.Raw c.args.block) c.args.bytes.now) in
    on_ok_weaker c.push_pieces.result (λ pushed. pushed ∙ ap (λ (l : List ℕ). l ++ rest) c.in_ok-push_new_raw.ensures ∙ append_assoc c.args.out.now.items (line (edits.NewRaw c.args.attributes.user_id (length c.args.bytes.now))) rest)
    c.push_pieces.ensures
