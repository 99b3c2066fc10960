use Rattle.std.proofs.Common.{◌≡◌, ℕ, [], ◌∷◌, nat_eq, Option, sym, ap, ◌∙◌}
use Rattle.checksum.specs.Crc32c.{crc32c}
use Rattle.geos_model.specs.Image.{image}
use Rattle.file_format.specs.File.{has_sum}
use Rattle.document_file.proofs.reading.raw_has_sum.Goals as goal

pub returns-in-Some : goal.returns-in-Some
unfolding image
returns-in-Some c =
    let body = c.args.body.now in
    let joined : c.crc32c_after.result ≡ crc32c (0 ∷ body) = c.crc32c_after.ensures.joined (0 ∷ []) (c.crc32c-kind.ensures.sum ∙ ap (λ (b : ℕ). crc32c (b ∷ [])) c.byte.ensures) in
    ap (nat_eq c.in-Some.sum) joined ∙ ap (λ (o : Option ℕ). has_sum o (0 ∷ body)) (sym c.in-Some.is)
