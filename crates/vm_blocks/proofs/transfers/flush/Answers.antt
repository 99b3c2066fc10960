use Rattle.std.proofs.Common.{◌≡◌, ◌+◌, nat_eq, true, false, [], ◌∷◌, drop, get_or, add-one, refl, sym, ap, ◌∙◌, inl, inr}
use Rattle.std.specs.Prelude.{◌||◌}
use Rattle.std.specs.List.{list_any}
use Rattle.std.proofs.lemmas.Bool.{cases_Bool, cases_eq, ne_eqb}
use Rattle.std.proofs.lemmas.List.{drop_all}
use Rattle.std.proofs.Math.Seq.{drop-cons}
use Rattle.vm_blocks.specs.Frames.{is_changed_in}
use Rattle.vm_blocks.proofs.CallAfterCall.{moves_both, moves_none}
use Rattle.vm_blocks.proofs.OrderOfUse.{changed_listed}
use Rattle.vm_blocks.proofs.transfers.flush.Goals as goal

pub returns-in_err-blocks-clause-moves : goal.returns-in_err-blocks-clause-moves
returns-in_err-blocks-clause-moves g c = moves_none g.S.Store.facts c.args.file.now c.args.frames.now.entries c.requires.kept

pub loop-block-init : goal.loop-block-init
loop-block-init g c = record {
  moves = moves_none g.S.Store.facts c.args.file.now c.args.frames.now.entries c.requires.kept;
  seats_kept = refl;
  cap = refl;
  left = λ h changed. ap (list_any (nat_eq h)) (c.deref-block-items.ensures.value ∙ c.in_ok-blocks.ensures) ∙ changed_listed h c.args.frames.now.entries changed;
}

pub loop-block-preserved : goal.loop-block-preserved
loop-block-preserved g c =
    let l = c.loop-block in
    let k = l.block-index in
    let xs = c.deref-block-items.result.now in
    let b = get_or xs k 0 in
    let new = c.write_back.new in
    let rest : drop k xs ≡ b ∷ drop (k + 1) xs = drop-cons xs k 0 c.loop-block-test.true ∙ ap (λ n. b ∷ drop n xs) (sym (add-one k)) in
    record {
      moves = moves_both g.S.Store.facts c.args.file.now c.args.frames.now.entries l.file l.frames.entries new.file new.frames.entries l.invariant.moves c.write_back.ensures.moves;
      seats_kept = c.write_back.ensures.residents ∙ l.invariant.seats_kept;
      cap = c.write_back.ensures.cap ∙ l.invariant.cap;
      left = λ h changed. elim (cases_eq h b) as (λ _. list_any (nat_eq h) (drop (k + 1) xs) ≡ true) [
        | inl here ↦ let wrong : false ≡ true = sym (ap (is_changed_in new.frames.entries) here ∙ c.in_ok-write_back.ensures.clean) ∙ changed in absurd (cc wrong)
        | inr other ↦
            let was = sym (c.in_ok-write_back.ensures.others h other) ∙ changed in
            sym (ap (list_any (nat_eq h)) rest ∙ ap (λ t. t || list_any (nat_eq h) (drop (k + 1) xs)) (ne_eqb h b other)) ∙ l.invariant.left h was
      ];
    }

pub returns-in_err-write_back-clause-moves : goal.returns-in_err-write_back-clause-moves
returns-in_err-write_back-clause-moves g c =
    let l = c.loop-block in
    moves_both g.S.Store.facts c.args.file.now c.args.frames.now.entries l.file l.frames.entries c.write_back.new.file c.write_back.new.frames.entries l.invariant.moves c.write_back.ensures.moves

pub returns-clause-moves : goal.returns-clause-moves
returns-clause-moves g c = c.loop-block.invariant.moves

pub returns-clause-clean : goal.returns-clause-clean
returns-clause-clean g c =
    let l = c.loop-block in
    let none : drop l.block-index c.deref-block-items.result.now ≡ [] = drop_all l.block-index c.deref-block-items.result.now c.loop-block-test.false in
    record {
      each = λ h. elim (cases_Bool (is_changed_in l.frames.entries h)) as (λ _. is_changed_in l.frames.entries h ≡ false) [
        | inl changed ↦ let wrong : true ≡ false = sym (l.invariant.left h changed) ∙ ap (list_any (nat_eq h)) none in absurd (cc wrong)
        | inr clean ↦ clean
      ];
    }
