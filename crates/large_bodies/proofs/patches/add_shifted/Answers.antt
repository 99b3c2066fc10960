use Rattle.std.proofs.Common.{◌/◌, List, ℕ, length, refl, subst}
use Rattle.std.proofs.lemmas.Result.{on_ok_weaker}
use Rattle.large_bodies.specs.Patches.{AddsPieces}
use Rattle.large_bodies.proofs.ShiftedWords.{adds-shifted, not_shifted}
use Rattle.large_bodies.proofs.patches.add_shifted.Goals as goal

pub returns-then-by-eq0 : goal.returns-then-by-eq0
returns-then-by-eq0 c =
    let old : List ℕ = c.args.old.now in let new : List ℕ = c.args.new.now in
    on_ok_weaker c.add_kept.result
    (λ added. subst (λ (l : List ℕ). AddsPieces c.args.patch.now c.add_kept.new.patch old l 0)
    (not_shifted old new c.args.by c.requires.shifted c.if-by-eq0.true (λ i. (c.type_inv.old i).fits) (λ i. (c.type_inv.new i).fits)) added)
    c.add_kept.ensures

pub returns : goal.returns
returns c =
    let old : List ℕ = c.args.old.now in let new : List ℕ = c.args.new.now in
    on_ok_weaker c.rebase.result
    (λ joined. adds-shifted c.args.patch.now c.rebase.new.self old new c.args.by (length old / 2) c.requires.shifted refl (λ i. (c.type_inv.old i).fits) (λ i. (c.type_inv.new i).fits) joined)
    c.rebase.ensures.ok
