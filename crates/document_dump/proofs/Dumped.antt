-- The text of a whole dump.
use Rattle.std.proofs.Common.{◌≡◌, ℕ, List, Option, codes, subst}
use Rattle.std.proofs.KnownBytes.{Appends-trans}
use Rattle.std.specs.Io.KnownBytes.{Appends}
use Rattle.geos_model.specs.Document.{Document}
use Rattle.document_dump.specs.Lines.{text}
use Rattle.document_dump.specs.Changes.{changes}
use Rattle.document_dump.specs.Dumps.{dump_text, if_changed, saved_text}
use Rattle.document_dump.specs.declared.dumping.Which.TheVariants.{Both, Saved}

pub dumped_saved : (updated saved : Document) (from to : Option (List ℕ)) → Appends from to (saved_text saved) → Appends from to (dump_text Saved updated saved)
unfolding dump_text
dumped_saved updated saved from to sent = sent

pub dumped_both : (updated saved updated_now saved_now : Document) (from mid to : Option (List ℕ)) → updated_now ≡ updated → saved_now ≡ saved → Appends from mid (saved_text saved)
    → Appends mid to (if_changed (text (changes saved_now updated_now)) (codes "update\n")) → Appends from to (dump_text Both updated saved)
unfolding dump_text
dumped_both updated saved updated_now saved_now from mid to updated_is saved_is first then =
    let known = subst (λ (d : Document). Appends mid to (if_changed (text (changes saved d)) (codes "update\n"))) updated_is (subst (λ (d : Document). Appends mid to (if_changed (text (changes d updated_now)) (codes "update\n"))) saved_is then) in
    Appends-trans from mid to (saved_text saved) (if_changed (text (changes saved updated)) (codes "update\n")) first known
