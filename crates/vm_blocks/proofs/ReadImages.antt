-- What is read of an image.
use Rattle.std.proofs.Common.{◌≡◌, ◌⊎◌, ℕ, true, IsTrue, List, Option, None, Some, sym, ap, subst, ◌∙◌, unwrap_or, inl, inr}
use Rattle.std.specs.Prelude.{Result, Err}
use Rattle.vm_store.specs.Facts.{StoreFacts}
use Rattle.geos_model.specs.Document.{is_valid_body}
use Rattle.geos_model.specs.Image.{image, body_of}
use Rattle.geos_model.specs.declared.command.Body.{Body}
use Rattle.geos_model.specs.declared.fault.Fault.{Fault}
use Rattle.geos_model.specs.declared.fault.Fault.TheVariants.{Memory, Damaged}
use Rattle.file_format.proofs.Files.{body_of-image}
use Rattle.document_file.specs.Calls.{IsResourceFault}
use Rattle.document_file.specs.Effects.{Fails, IsDamage}

pub body_is : (body other : Body) (bytes : List ℕ) → body_of bytes ≡ Some body → bytes ≡ image other → is_valid_body other ≡ true → other ≡ body
body_is body other bytes read is valid =
    let both : Some other ≡ Some body = sym (ap body_of is ∙ body_of-image other valid) ∙ read in
    ap (λ (o : Option Body). unwrap_or o body) both

pub no_image : (other : Body) (bytes : List ℕ) → body_of bytes ≡ None → bytes ≡ image other → is_valid_body other ≡ true → ⊥
no_image other bytes none is valid =
    let wrong : None ≡ Some other = sym none ∙ ap body_of is ∙ body_of-image other valid in
    cc wrong

-- what can't be read
pub unread : {S A : Type 0} (facts : S → StoreFacts) (old new : S) (fault : Fault) (result : Result A Fault) → result ≡ Err fault → (fault ≡ Memory) ⊎ (fault ≡ Damaged) → (fault ≡ Damaged → IsTrue (facts old).honest → ⊥)
    → Fails facts (IsDamage (facts old).honest) old new result
unread facts old new fault result is either other = subst (Fails facts (IsDamage (facts old).honest) old new) (sym is) (record {
  file = λ file. elim either [ inl memory ↦ absurd (cc (file, memory)) | inr damaged ↦ absurd (cc (file, damaged)) ];
  faults = elim either as (λ _. IsResourceFault fault ⊎ IsDamage (facts old).honest fault) [ inl memory ↦ inl (inl memory) | inr damaged ↦ inr (damaged, other damaged) ];
})
