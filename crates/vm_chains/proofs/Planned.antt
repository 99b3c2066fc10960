-- Plans to which one more block is added.
use Rattle.std.proofs.Common.{◌≡◌, ◌+◌, ◌<◌, ℕ, List, [], ◌∷◌, ◌++◌, length, take, get_or, sym, ap, ◌∙◌}
use Rattle.std.proofs.lemmas.List.{map-append, take_more}
use Rattle.geos_model.specs.Chain.{chain_blocks_of}
use Rattle.geos_model.specs.Document.{Block, Document, block_at, handles_of}
use Rattle.geos_model.specs.declared.handle.VmHandle.{VmHandle}
use Rattle.document_file.specs.Members.{imaged_block, imaged_blocks}
use Rattle.document_file.specs.declared.member.Member.{Member}
use Rattle.vm_chains.specs.Numbers.{numbers}

module _ (plan : List Member) (m : Member) where
  one_more : imaged_blocks (plan ++ m ∷ []) ≡ imaged_blocks plan ++ (m.handle.0, imaged_block m.block) ∷ []
  one_more = map-append (λ (x : Member). (x.handle.0, imaged_block x.block)) plan (m ∷ [])

  -- the handles of the plan are those so far
  pub met_more : (met new : List ℕ) → new ≡ met ++ m.handle.0 ∷ [] → handles_of (imaged_blocks plan) ≡ met → handles_of (imaged_blocks (plan ++ m ∷ [])) ≡ new
  met_more met new is so_far =
      ap (λ (ps : List (ℕ × Block)). handles_of ps) one_more ∙ map-append (λ (p : ℕ × Block). p.0) (imaged_blocks plan) ((m.handle.0, imaged_block m.block) ∷ [])
      ∙ (λ j. so_far j ++ m.handle.0 ∷ []) ∙ sym is

  -- its blocks are those so far, as they are
  pub saved_more : (d : Document) (met new : List ℕ) → new ≡ met ++ m.handle.0 ∷ [] → imaged_block m.block ≡ block_at d m.handle.0 → imaged_blocks plan ≡ chain_blocks_of d met → imaged_blocks (plan ++ m ∷ []) ≡ chain_blocks_of d new
  saved_more d met new is block so_far =
      one_more ∙ (λ j. so_far j ++ (m.handle.0, block j) ∷ [])
      ∙ sym (ap (λ (hs : List ℕ). chain_blocks_of d hs) is ∙ map-append (λ (x : ℕ). (x, block_at d x)) met (m.handle.0 ∷ []))

  -- so of some of a list of handles
  pub handles_more : (i : ℕ) (hs : List VmHandle) (h : VmHandle) → i < length hs → m.handle ≡ get_or hs i h → handles_of (imaged_blocks plan) ≡ numbers (take i hs) → handles_of (imaged_blocks (plan ++ m ∷ [])) ≡ numbers (take (i + 1) hs)
  handles_more i hs h within handle so_far =
      met_more (numbers (take i hs)) (numbers (take (i + 1) hs))
      (ap numbers (take_more hs i h within) ∙ map-append (λ (x : VmHandle). x.0) (take i hs) (get_or hs i h ∷ []) ∙ ap (λ (x : VmHandle). numbers (take i hs) ++ x.0 ∷ []) (sym handle)) so_far
