use Rattle.std.proofs.Common.{◌≡◌, ◌++◌, ◌∷◌, ◌∙◌, List, [], length, sum_by, refl, sym, ap, subst, arith, length-append}
use Rattle.geos_model.specs.Document.{raw_bytes_of}
use Rattle.chunk_edits.specs.Patching.{patched, total_held}
use Rattle.vm_blocks.specs.Changes.{weight as change_weight}
use Rattle.vm_blocks.specs.declared.change.Change.{Change}
use Rattle.vm_blocks.specs.declared.change.Change.TheVariants as changes
use Rattle.vm_blocks.specs.declared.change.PartChange.TheVariants as parts
use Rattle.large_arrays.specs.ChangePlans.{ArePlanned, ArePlannedByHandle}
use Rattle.large_arrays.proofs.PlannedChanges.{patch_planned, patch_listed}
use Rattle.large_arrays.proofs.changes.plan_patch.Goals as goal

pub returns : goal.returns
returns c =
    let before : List Change = c.args.changes.now.items in
    let h = c.args.handle in
    let ps = c.args.patch in
    record {
      planned = λ d freed bodies planned untouched raw stands fits.
          subst (λ (cs : List Change). ArePlanned cs d freed (bodies ++ (h.0, patched ps (raw_bytes_of d h.0)) ∷ [])) (sym {A = List Change} c.in_ok-push.ensures.items)
          (patch_planned d freed bodies h.0 untouched before h ps refl (raw_bytes_of d h.0) planned raw refl stands fits);
      listed = λ d freed bodies body planned untouched live.
          subst (λ (cs : List Change). ArePlannedByHandle cs d freed (bodies ++ (h.0, body) ∷ [])) (sym {A = List Change} c.in_ok-push.ensures.items)
          (patch_listed d freed bodies h.0 untouched before h ps refl body planned live);
      holds = record {
        more = changes.Part h (parts.RawPatch ps) ∷ [];
        joined = c.in_ok-push.ensures.items;
        holds = (let one : sum_by change_weight (changes.Part h (parts.RawPatch ps) ∷ []) ≡ total_held ps = omega arith in one);
      };
      more = ap {A = List Change} length c.in_ok-push.ensures.items ∙ length-append before (changes.Part h (parts.RawPatch ps) ∷ []);
    }
