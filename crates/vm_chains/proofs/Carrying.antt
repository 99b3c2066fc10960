-- Blocks of a plan can come in or go.
use Rattle.std.proofs.Common.{◌≡◌, ◌≢◌, Bool, ℕ, suc, ◌<◌, ◌≤◌, true, false, ◌==◌, List, [], length, get_or, Option, None, Some, is_none, is_some, unwrap_or, Result, Ok, Err, IfOk, length-take, refl, sym, ap, subst, ◌∙◌, arith}
use Rattle.std.proofs.lemmas.Bool.{eq-eqb, true≢false}
use Rattle.std.proofs.lemmas.List.{length-map}
use Rattle.std.proofs.lemmas.List.Elements.{All-map, Contains-get_or}
use Rattle.std.proofs.lemmas.List.Folds.{list_any_at}
use Rattle.std.specs.List.{Contains, list_any}
use Rattle.std.specs.FinMap.{get}
use Rattle.geos_model.specs.Chain.{chain_blocks_of, chain, chain_blocks, free_conditions, free_handles, new_handles}
use Rattle.geos_model.specs.ElementArray.{all_distinct}
use Rattle.geos_model.specs.Document.{Block, Document, block_at, handles_of}
use Rattle.geos_model.specs.Refusal.{Conditions, first_refusal}
use Rattle.geos_model.specs.declared.fault.Fault.{Fault}
use Rattle.geos_model.specs.declared.fault.Fault.TheVariants.{BadChain, IsMap}
use Rattle.geos_model.proofs.Refusals.{none_applies, or_none}
use Rattle.geos_model.proofs.Chains.{chain-members}
use Rattle.geos_model.proofs.ChainCopies.{new-new}
use Rattle.geos_model.proofs.ChainEdits.{blocks_of-handles}
use Rattle.document_file.specs.Members.{imaged_block, imaged_blocks}
use Rattle.vm_blocks.specs.Changes.{AreFree, CanRemoveAll, CanRemove}
use Rattle.vm_blocks.specs.declared.member.Members.{Members}
use Rattle.document_file.specs.declared.member.Member.{Member}
use Rattle.geos_model.specs.declared.handle.VmHandle.{VmHandle}
use Rattle.vm_chains.specs.Numbers.{numbers}
use Rattle.vm_chains.specs.Answers.{AnswersChain}
use Rattle.vm_blocks.specs.Preparing.{CanRemoveByHandle}
use Rattle.vm_chains.specs.Stepping.{AreMet}
use Rattle.vm_chains.specs.Walking.{BeginsWith}
use Rattle.document_file.specs.Disk.{SameUnlessCorrupt}

none_there : (o : Option Block) → is_some o ≡ false → o ≡ None
none_there None no_ = refl
none_there (Some b) no_ = absurd (cc no_)

some_there : (o : Option Block) (b : Block) → is_some o ≡ true → o ≡ Some (unwrap_or o b)
some_there None b so = absurd (cc so)
some_there (Some x) b so = refl

chain_there : (o : Option (List ℕ)) → is_none o ≡ false → o ≡ Some (unwrap_or o [])
chain_there None no_ = absurd (cc no_)
chain_there (Some hs) no_ = refl

-- The least free handles, as many as were wanted, are free.
new_free : (d : Document) (n : ℕ) → n ≤ length (new_handles d n) → AreFree d (new_handles d n)
new_free d n enough =
    let new : List ℕ = new_handles d n in
    let are = new-new d n (let taken = length-take n (free_handles d) in omega (arith, taken, enough)) in
    record {
      free = λ i x within. let there = Contains-get_or new i x within in record { handle = are.handle (get_or new i x) there; free = none_there (get d.blocks (get_or new i x)) (are.not_live (get_or new i x) there) };
      distinct = are.once;
    }

-- The blocks of a chain can go, where none of them is the map block.
blocks_go : (d : Document) (h : ℕ) → first_refusal (free_conditions d h) ≡ None → CanRemoveAll d (chain_blocks_of d (chain_blocks d h))
blocks_go d h none =
    let cs : Conditions = free_conditions d h in
    let hs : List ℕ = chain_blocks d h in
    let are = chain-members d h hs (chain_there (chain d h) (or_none (none_applies cs none BadChain refl)).0) in
    let no_map = (or_none (none_applies cs none IsMap refl)).0 in
    let other : (x : ℕ) → Contains hs x → d.map_block ≢ x = λ x there same. true≢false (sym (list_any_at (λ y. y == d.map_block) hs there.0 x there.1 (ap (λ (y : ℕ). y == d.map_block) there.2 ∙ eq-eqb x d.map_block (sym same))) ∙ no_map) in
    record {
      go = All-map (λ p. CanRemove d p.0 p.1) (λ x. (x, block_at d x)) hs (λ i x within. let there = Contains-get_or hs i x within in record { stands = some_there (get d.blocks (get_or hs i x)) _ (are.live (get_or hs i x) there); other = other (get_or hs i x) there });
      distinct = subst (λ (xs : List ℕ). all_distinct xs ≡ true) (sym (blocks_of-handles d hs)) are.once;
    }

-- What is free or can go is known by handle, so that it stays.

free_stays : (honest : Bool) (d now : Document) (hs : List ℕ) → SameUnlessCorrupt honest d now → AreFree d hs → AreFree now hs
free_stays honest d now hs unless_corrupt are = record {
  free = λ i x within. let was = are.free i x within in record { handle = was.handle; free = none_there (get now.blocks (get_or hs i x)) (unless_corrupt.live (get_or hs i x) ∙ ap (λ (o : Option Block). is_some o) was.free) };
  distinct = are.distinct;
}

pub leaving : (d : Document) (ms : List Member) → AreMet d 0 (handles_of (imaged_blocks ms)) → list_any (λ m. m.handle.0 == d.map_block) ms ≡ false → CanRemoveByHandle d (handles_of (imaged_blocks ms))
leaving d ms are other = record {
  live = are.live;
  distinct = are.distinct;
  others = All-map (λ h. d.map_block ≢ h) (λ (p : ℕ × Block). p.0) (imaged_blocks ms) (All-map (λ (p : ℕ × Block). d.map_block ≢ p.0) (λ (m : Member). (m.handle.0, imaged_block m.block)) ms (λ i m within same. true≢false (sym (list_any_at (λ (x : Member). x.handle.0 == d.map_block) ms i m within (eq-eqb (get_or ms i m).handle.0 d.map_block (sym same))) ∙ other)));
}

-- So plans apply.

pub copy_applies : (honest : Bool) (d now : Document) (n : ℕ) (new : List VmHandle) (result : Result Members Fault) → SameUnlessCorrupt honest d now → numbers new ≡ new_handles d n → n ≤ length new
    → IfOk result (λ plan. handles_of (imaged_blocks plan.list.items) ≡ numbers new) → IfOk result (λ plan. AreFree now (handles_of (imaged_blocks plan.list.items)))
copy_applies honest d now n new (Err fault) unless_corrupt is enough handles = tt
copy_applies honest d now n new (Ok plan) unless_corrupt is enough handles =
    let many : length (new_handles d n) ≡ length new = ap length (sym is) ∙ length-map new (λ h. h.0) in
    subst (AreFree now) (sym (handles ∙ is)) (free_stays honest d now (new_handles d n) unless_corrupt (new_free d n (omega (arith, many, enough))))

pub copy_some : (root : ℕ) (hs new : List VmHandle) (result : Result Members Fault) → BeginsWith root (numbers hs) → length hs ≤ length new
    → IfOk result (λ plan. handles_of (imaged_blocks plan.list.items) ≡ numbers new) → IfOk result (λ plan. 0 < length plan.list.items)
copy_some root hs new (Err fault) begins enough handles = tt
copy_some root hs new (Ok plan) begins enough handles =
    let met : suc (length begins.0) ≡ length hs = sym (ap length begins.1) ∙ length-map hs (λ h. h.0) in
    let many : length plan.list.items ≡ length new =
    sym (length-map plan.list.items (λ m. (m.handle.0, imaged_block m.block))) ∙ sym (length-map (imaged_blocks plan.list.items) (λ p. p.0)) ∙ ap length handles ∙ length-map new (λ h. h.0) in
    omega (arith, met, many, enough)

pub free_applies : (lacks : Fault → Type 0) (d : Document) (h : ℕ) (result : Result Members Fault) → AnswersChain lacks (free_conditions d h) (λ plan. imaged_blocks plan.list.items ≡ chain_blocks_of d (chain_blocks d h)) result → IfOk result (λ plan. CanRemoveAll d (imaged_blocks plan.list.items))
free_applies lacks d h (Ok plan) is = subst (CanRemoveAll d) (sym is.1) (blocks_go d h is.0)
free_applies lacks d h (Err fault) is = tt
