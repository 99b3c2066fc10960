use Rattle.std.proofs.Common.{◌≡◌, ◌∙◌, ℕ, ◌==◌, Option, None, Some, Ok, ap, rules, sym, to_z, of_z, w32}
use Rattle.std.proofs.lemmas.Bool.{cond-true, cond-false, eq-eqb, ne_eqb}
use Rattle.geos_c.specs.Calls.{limit_by}
use Rattle.geos_c.proofs.calls.limit_undo.Goals.{then-most-eq0, else-most-eq0}
use Rattle.geos_c.proofs.calls.limit_undo.Goals as goal

all_by_none : (n : ℕ) → n ≡ 0 → None ≡ limit_by n
all_by_none n none = sym (cond-true (n == 0) None (Some n) (eq-eqb n 0 none))

most_by_some : (n : ℕ) → (n ≡ 0 → ⊥) → Some n ≡ limit_by n
most_by_some n some = sym (cond-false (n == 0) None (Some n) (ne_eqb n 0 some))

pub returns : goal.returns
returns g c =
    let told : to_z w32 (of_z w32 c.code_of.result) ≡ c.code_of.result = search rules in
    let limited : c.if-most-eq0.limit ≡ limit_by c.args.most = elim c.if-most-eq0.branch [
      | then-most-eq0 w ↦ w.limit-is ∙ all_by_none c.args.most w.if-most-eq0.true
      | else-most-eq0 w ↦ w.limit-is ∙ most_by_some c.args.most w.if-most-eq0.false
    ] in
    let session = c.args.session.now in
    (Ok tt, told ∙ c.code_of.ensures, (c.limit_undo.ensures.done ∙ ap (λ (most : Option ℕ). record session { log = record session.log { limit = most } }) limited, tt))
