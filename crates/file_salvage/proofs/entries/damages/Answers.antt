use Rattle.std.proofs.Common.{◌≡◌, ◌++◌, ◌∷◌, [], ℕ, List, Option, length, map, ap, ap₂, subst, sym, ◌∙◌, arith}
use Rattle.std.proofs.lemmas.Grind.{common_steps}
use Rattle.std.specs.List.{range_with_len}
use Rattle.file_format.proofs.LooksLemmas.{OnlyReadsStore-refl, OnlyReadsStore-trans, still, same_bytes_then, still_holds}
use Rattle.file_salvage.specs.Entries.{damage_at, entry_count}
use Rattle.file_salvage.specs.declared.flaw.Flaw.{Flaw}
use Rattle.file_salvage.proofs.EntryLemmas.{places_more}
use Rattle.file_salvage.proofs.entries.damages.Goals as goal

pub loop-i-init : goal.loop-i-init
loop-i-init g c = record {
  reads = OnlyReadsStore-refl (g.S.Store.facts c.args.store.now);
  count = ap length c.new-found.ensures.items;
  damages = λ so. c.new-found.ensures.items;
}

pub loop-i-preserved : goal.loop-i-preserved
loop-i-preserved g c =
    let a = g.S.Store.facts c.args.store.now in
    let b = g.S.Store.facts c.loop-i.store in
    let version = c.args.listing.file_version in
    let bytes = c.args.listing.bytes.now in
    let i = c.loop-i.i in
    let reads = c.loop-i.invariant.reads in
    record {
      reads = OnlyReadsStore-trans a b _ (g.met.S.Store.timely c.args.store.now) reads c.damage_at.ensures.looks;
      count = grind (arith, common_steps, c.in_ok-push.ensures.items, c.loop-i.invariant.count);
      damages = λ so.
          let now = subst (λ (file : List ℕ). c.in_ok-damage.damage ≡ damage_at file version bytes i) (same_bytes_then a b reads so) (c.in_ok-damage.ensures.damage (still a b reads so)) in
          c.in_ok-push.ensures.items ∙ ap₂ (λ (l : List (Option Flaw)) (d : Option Flaw). l ++ d ∷ []) (c.loop-i.invariant.damages so) now ∙ sym (places_more (damage_at a.content version bytes) i);
    }

pub damage_at-requires-clause-size : goal.damage_at-requires-clause-size
damage_at-requires-clause-size g c = still_holds (λ (file : List ℕ). c.args.listing.file_length ≡ length file) (g.S.Store.facts c.args.store.now) (g.S.Store.facts c.loop-i.store) c.loop-i.invariant.reads c.requires.size

pub returns-clause-damages : goal.returns-clause-damages
returns-clause-damages g c = λ so.
    let end : c.loop-i.i ≡ entry_count c.args.listing.bytes.now = omega (arith, c.entry_count-i-end.ensures) in
    subst (λ (n : ℕ). c.loop-i.found.items ≡ map (damage_at (g.S.Store.facts c.args.store.now).content c.args.listing.file_version c.args.listing.bytes.now) (range_with_len 0 n)) end (c.loop-i.invariant.damages so)

pub returns-in_err-push-clause-looks : goal.returns-in_err-push-clause-looks
returns-in_err-push-clause-looks g c = OnlyReadsStore-trans (g.S.Store.facts c.args.store.now) (g.S.Store.facts c.loop-i.store) _ (g.met.S.Store.timely c.args.store.now) c.loop-i.invariant.reads c.damage_at.ensures.looks

pub returns-in_err-damage-clause-looks : goal.returns-in_err-damage-clause-looks
returns-in_err-damage-clause-looks g c = OnlyReadsStore-trans (g.S.Store.facts c.args.store.now) (g.S.Store.facts c.loop-i.store) _ (g.met.S.Store.timely c.args.store.now) c.loop-i.invariant.reads c.damage_at.ensures.looks
