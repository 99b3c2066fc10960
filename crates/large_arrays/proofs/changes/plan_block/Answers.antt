use Rattle.std.proofs.Common.{◌≡◌, ◌++◌, ◌∷◌, ◌∙◌, ℕ, List, [], length, sym, ap, subst, length-append}
use Rattle.geos_model.specs.Document.{Block, no_attributes}
use Rattle.geos_model.specs.declared.command.Body.TheVariants.{Raw}
use Rattle.document_file.specs.Members.{imaged_blocks}
use Rattle.vm_blocks.specs.declared.change.Change.{Change}
use Rattle.vm_blocks.specs.declared.change.Change.TheVariants as changes
use Rattle.vm_blocks.specs.declared.member.Members.{Members}
use Rattle.large_arrays.specs.ChangePlans.{ArePlanned, ArePlannedByHandle}
use Rattle.large_arrays.proofs.PlannedChanges.{block_planned, block_listed}
use Rattle.large_arrays.proofs.changes.plan_block.Goals as goal

pub returns : goal.returns
returns c =
    let before : List Change = c.args.changes.now.items in
    let h : ℕ = c.args.handle.0 in let bytes : List ℕ = c.args.bytes.items in let ms : Members = c.in_ok-one.field-0 in
    let one : imaged_blocks ms.list.items ≡ (h, record { attributes = no_attributes; body = Raw bytes }) ∷ [] =
    c.in_ok-one.ensures ∙ ap (λ (b : Block). (h, b) ∷ []) c.in_ok-block.ensures in
    record {
      planned = λ d freed bodies planned untouched free.
          subst (λ (cs : List Change). ArePlanned cs d freed (bodies ++ (h, bytes) ∷ [])) (sym {A = List Change} c.in_ok-push.ensures.items)
          (block_planned d freed bodies h untouched before ms bytes one free planned);
      listed = λ d freed bodies planned untouched free.
          subst (λ (cs : List Change). ArePlannedByHandle cs d freed (bodies ++ (h, bytes) ∷ [])) (sym {A = List Change} c.in_ok-push.ensures.items)
          (block_listed d freed bodies h untouched before ms bytes one free planned);
      more = ap {A = List Change} length c.in_ok-push.ensures.items ∙ length-append before (changes.BlocksIn ms ∷ []);
    }
