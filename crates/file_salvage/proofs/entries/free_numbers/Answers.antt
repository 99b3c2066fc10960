use Rattle.std.proofs.Common.{◌≡◌, ◌<◌, ◌++◌, ◌∷◌, [], ℕ, List, Option, None, length, ap₂, sym, ◌∙◌, arith}
use Rattle.std.proofs.lemmas.List.{get_or_default}
use Rattle.file_format.specs.declared.file.Entry.{Entry}
use Rattle.file_salvage.specs.Entries.{free_at, free_below}
use Rattle.file_salvage.specs.declared.flaw.Flaw.{Flaw}
use Rattle.file_salvage.proofs.EntryLemmas.{places_more}
use Rattle.file_salvage.proofs.entries.free_numbers.Goals as goal

pub loop-i-preserved : goal.loop-i-preserved
loop-i-preserved c =
    let bytes = c.args.bytes.now in
    let damages = c.args.damages.now in
    let i = c.loop-i.i in
    let below : i < length damages = omega arith in
    let value : c.free_below.result ≡ free_at bytes damages i =
    c.free_below.ensures ∙ ap₂ (λ (e : Entry) (d : Option Flaw). free_below i e d) c.entry_at.ensures (get_or_default damages i _ None below) in
    c.in_ok-push.ensures.items ∙ ap₂ (λ (l : List ℕ) (n : ℕ). l ++ n ∷ []) c.loop-i.invariant value ∙ sym (places_more (free_at bytes damages) i)
