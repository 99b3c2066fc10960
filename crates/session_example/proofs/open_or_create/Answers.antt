use Rattle.std.proofs.Common.{◌≡◌, IsTrue, Result, Ok, Err, sym, subst, ◌∙◌}
use Rattle.std.specs.Prelude.{MatchResult}
use Rattle.file_format.specs.File.{stands}
use Rattle.session_example.proofs.open_or_create.Goals as goal

-- what is known of both outcomes, by what else is
match_by : {T E : Type 0} (r : Result T E) (P P' : T → Type 0) (Q Q' : E → Type 0) → ((x : T) → P x → P' x) → ((e : E) → Q e → Q' e) → MatchResult r P Q → MatchResult r P' Q'
match_by (Ok x) P P' Q Q' f g is = f x is
match_by (Err e) P P' Q Q' f g is = g e is

pub returns-in-Ok : goal.returns-in-Ok
returns-in-Ok g c = record {
  kept = λ so _.
      let there = subst IsTrue (sym c.len.ensures.honest) so in
      let same = (c.len.ensures.unchanged so).content in
      match_by c.open.result _ _ _ _
      (λ session opened. subst (λ file. stands file ≡ Ok (session.document, session.disk.saved)) same
      (subst (λ d. stands (g.S.Store.facts c.len.new.self).content ≡ Ok (d, session.disk.saved)) (sym (opened.now there).0) (opened.documents there)))
      (λ refused not. (not.unchanged there).content ∙ same)
      c.open.ensures.opened;
}
