use Rattle.std.proofs.Common.{◌≡◌, ℕ, ◌==◌, [], ◌∷◌, reverse, length, ap, sym, ◌∙◌, rules, tests}
use Rattle.std.specs.Prelude.{find}
use Rattle.std.specs.Option.{option_map}
use Rattle.std.specs.Map.Iter.{TakesLast, deref_pair}
use Rattle.std.specs.Iterator.Adapters.{rev_source, rev_steps}
use Rattle.std.proofs.lemmas.List.{reverse-append}
use Rattle.std.proofs.lemmas.Iterator.Consumers.{YieldsList-from_shown}
use Rattle.std.proofs.lemmas.Iterator.Search.{find_from_yields_List}
use Rattle.vm_blocks.specs.declared.frame.Frame.{Frame}
use Rattle.vm_blocks.proofs.OrderOfUse.{victim_is}
use Rattle.vm_blocks.proofs.frame.victim.Goals as goal

pub returns-in-Some : goal.returns-in-Some
returns-in-Some c =
    let es = c.args.frames.now.entries in
    let road = YieldsList-from_shown (rev_steps (TakesLast (deref_pair {K = ℕ} {X = Frame}))) (deref_pair {K = ℕ} {X = Frame}) (λ s. reverse (rev_source s)) (λ s t h. ap length (ap reverse h.0)) (λ s x t h. ap reverse h ∙ reverse-append (rev_source t) (deref_pair x ∷ [])) c.rev.result in
    let found = find_from_yields_List (λ (e : ℕ × Frame). e.1.locks == 0) _ _ c.find.result c.find.ensures.ran road (λ x b q k. search (rules, tests)) in
    let rest : rev_source c.rev.result ≡ es = c.rev.ensures.source ∙ c.iter.ensures in
    ap (λ o. option_map (λ (e : ℕ × Frame). e.0) (option_map (deref_pair {K = ℕ} {X = Frame}) o)) (sym c.in-Some.is) ∙ ap (option_map (λ (e : ℕ × Frame). e.0)) (found ∙ ap (λ xs. find (λ (e : ℕ × Frame). e.1.locks == 0) (reverse xs)) rest) ∙ victim_is es

pub returns-in-None : goal.returns-in-None
returns-in-None c =
    let es = c.args.frames.now.entries in
    let road = YieldsList-from_shown (rev_steps (TakesLast (deref_pair {K = ℕ} {X = Frame}))) (deref_pair {K = ℕ} {X = Frame}) (λ s. reverse (rev_source s)) (λ s t h. ap length (ap reverse h.0)) (λ s x t h. ap reverse h ∙ reverse-append (rev_source t) (deref_pair x ∷ [])) c.rev.result in
    let found = find_from_yields_List (λ (e : ℕ × Frame). e.1.locks == 0) _ _ c.find.result c.find.ensures.ran road (λ x b q k. search (rules, tests)) in
    let rest : rev_source c.rev.result ≡ es = c.rev.ensures.source ∙ c.iter.ensures in
    ap (λ o. option_map (λ (e : ℕ × Frame). e.0) (option_map (deref_pair {K = ℕ} {X = Frame}) o)) (sym c.in-None.is) ∙ ap (option_map (λ (e : ℕ × Frame). e.0)) (found ∙ ap (λ xs. find (λ (e : ℕ × Frame). e.1.locks == 0) (reverse xs)) rest) ∙ victim_is es
