use Rattle.std.specs.Prelude.{◌||◌}
use Rattle.std.proofs.Common.{◌≡◌, ◌⊎◌, Bool, true, false, sym, ap, subst, ◌∙◌, inl, inr}
use Rattle.document_file.specs.Sums.{has_sums}
use Rattle.file_format.proofs.LooksLemmas.{OnlyReadsStore-trans}
use Rattle.document_file.proofs.SumsLemmas.{for_sums}
use Rattle.document_file.proofs.turning.opened_slots.Goals as goal

pub returns-then-not-summed-clause-looks : goal.returns-then-not-summed-clause-looks
returns-then-not-summed-clause-looks g c = OnlyReadsStore-trans _ _ _ (λ so. g.met.S.Store.timely c.args.store.now so) c.open_slots.ensures.looks c.give_sums.ensures.looks

-- whether commits write sums, where a file that has none isn't to get them
summed_or : (asked summed : Bool) → ((asked ≡ true) × (summed ≡ true)) ⊎ (asked ≡ false) → summed ≡ (asked || summed)
summed_or asked summed (inl both) = both.1 ∙ sym (ap (λ b. b || summed) both.0)
summed_or asked summed (inr none) = sym (ap (λ b. b || summed) none)

pub returns-clause-checksums : goal.returns-clause-checksums
returns-clause-checksums g c so =
    let p = c.in_ok-slots.ensures in
    let version = c.in_ok-slots.slots.version in
    let either = subst (λ b. ((c.args.checksums ≡ true) × (b ≡ true)) ⊎ (c.args.checksums ≡ false)) c.has_sums-summed.ensures c.else-checksums.either in
    ap has_sums p.next_version ∙ for_sums (has_sums version) ∙ summed_or c.args.checksums (has_sums version) either ∙ sym (ap (λ b. c.args.checksums || b) (p.versioned so))
