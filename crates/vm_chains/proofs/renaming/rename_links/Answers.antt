use Rattle.std.proofs.Common.{◌≡◌, ◌+◌, ◌*◌, ℕ, List, length, sym, ap, ◌∙◌, arith}
use Rattle.geos_model.specs.Bytes.{written}
use Rattle.geos_model.specs.Chain.{link_place}
use Rattle.geos_model.specs.Words.{word, word_at}
use Rattle.vm_chains.specs.Naming.{name_in}
use Rattle.vm_chains.proofs.LinkLemmas.{relinked_from, all_renamed, none_renamed, next_renamed}
use Rattle.vm_chains.proofs.renaming.rename_links.Goals as goal

pub loop-i-init : goal.loop-i-init
loop-i-init c = record {
  size = ap (λ (xs : List ℕ). length xs) c.requires.copy;
  rest = all_renamed (name_in c.args.names.now) c.args.body.now c.args.bytes.now c.args.links.count c.requires.links.count c.requires.copy;
}

pub loop-i-preserved : goal.loop-i-preserved
loop-i-preserved c =
    let body = c.args.body.now in let rename = name_in c.args.names.now in let i = c.loop-i.i in let n = c.args.links.count in
    let place : c.from.result + 4 * c.from-in-loop-i.result ≡ link_place body i = λ j. (c.from.ensures ∙ c.requires.links.first) j + 4 * c.from-in-loop-i.ensures j in
    let read : c.word.result ≡ word_at body (link_place body i) = c.word.ensures ∙ ap (λ (k : ℕ). word_at body k) place in
    let name : c.of.result ≡ rename (word_at body (link_place body i)) = c.of.ensures ∙ ap rename read in
    let wrote : c.write_word.new.bytes ≡ written c.loop-i.bytes (link_place body i) (word (rename (word_at body (link_place body i)))) = c.write_word.ensures ∙ (λ j. written c.loop-i.bytes (place j) (word (name j))) in
    record {
      size = c.write_word.auto.bytes ∙ c.loop-i.invariant.size;
      rest = ap (λ (xs : List ℕ). relinked_from rename body (i + 1) n xs) wrote ∙ sym (next_renamed rename body c.loop-i.bytes i n (omega arith)) ∙ c.loop-i.invariant.rest;
    }

pub returns : goal.returns
returns c =
    sym (none_renamed (name_in c.args.names.now) c.args.body.now c.loop-i.bytes c.loop-i.i c.args.links.count (omega arith)) ∙ c.loop-i.invariant.rest
