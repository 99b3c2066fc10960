use Rattle.std.proofs.Common.{◌≡◌, ◌&&◌, true, rules, inl, inr}
use Rattle.std.proofs.lemmas.Result.{MatchResult-weaker}
use Rattle.geos_model.specs.Document.{is_live}
use Rattle.vm_chains.proofs.Loading.{carried, carried_so, refused_later}
use Rattle.vm_chains.proofs.Refusals.{two_refused}
use Rattle.vm_chains.proofs.comparing.test_roots.Goals as goal

pub returns-in_err-test_root-clause-value : goal.returns-in_err-test_root-clause-value
returns-in_err-test_root-clause-value g c =
    let d = c.args.blocks.now.document in let f = c.args.first.0 in let s = c.args.second.0 in let fault = c.in_err-test_root.field-0.0 in
    let first : is_live d f ≡ true = first_of (cc, search rules) in
    let second : is_live d s ≡ true = first_of (cc, search rules) in
    carried c.from_residual.result fault _ _ c.from_residual.ensures.1 (two_refused d f s fault (λ i. first i && second i) (inl c.in_err-test_root.ensures))

pub returns-in_err-test_root-clause-refusals : goal.returns-in_err-test_root-clause-refusals
returns-in_err-test_root-clause-refusals g c = carried_so c.from_residual.result c.in_err-test_root.field-0.0 _ c.from_residual.ensures.1 (inl c.in_err-test_root.ensures)

pub returns-clause-value : goal.returns-clause-value
returns-clause-value g c =
    let d = c.args.blocks.now.document in let f = c.args.first.0 in let s = c.args.second.0 in
    let first : is_live d f ≡ true = first_of (cc, search rules) in
    let second : is_live d s ≡ true = first_of (cc, search rules) in
    MatchResult-weaker c.test_root-2.result c.test_root-2.ensures (λ _ raw. (c.in_ok-test_root.ensures, raw)) (λ fault refuses. two_refused d f s fault (λ i. first i && second i) (inr refuses))

pub returns-clause-refusals : goal.returns-clause-refusals
returns-clause-refusals g c = refused_later c.test_root-2.result _ _ _ c.test_root-2.ensures (λ fault refuses. inr refuses)
