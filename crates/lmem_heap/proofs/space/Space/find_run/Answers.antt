use Rattle.std.proofs.Common.{◌+◌, ℕ, ap, refl, arith}
use Rattle.lmem_heap.proofs.EntryLemmas.{entry_ends, head_ends, piece_read}
use Rattle.lmem_heap.proofs.space.Space.find_run.Goals as goal

pub entry-p-requires : goal.entry-p-requires
entry-p-requires c = omega (arith, entry_ends c.requires.well_formed c.args.i c.requires.slot)

pub word_in-requires : goal.word_in-requires
word_in-requires c = let is = c.entry-p.ensures.value in head_ends c.requires.well_formed c.args.i c.entry-p.result c.requires.slot (omega (arith, is, c.if-p-gt-EMPTY.true)) c.entry-p.ensures.value

pub returns-then-p-gt-EMPTY : goal.returns-then-p-gt-EMPTY
returns-then-p-gt-EMPTY c =
    let is = c.entry-p.ensures.value in
    let f = piece_read c.requires.well_formed c.args.i c.entry-p.result c.word_in.result c.requires.slot (omega (arith, is, c.if-p-gt-EMPTY.true)) c.entry-p.ensures.value c.word_in.ensures.value in
    record {
      ends = omega (arith, f.ends);
      none = λ dead. absurd (omega (arith, is, c.if-p-gt-EMPTY.true));
      some = λ live. (ap (λ (k : ℕ). k + 2) is, f.value);
    }

pub returns-else-p-gt-EMPTY : goal.returns-else-p-gt-EMPTY
returns-else-p-gt-EMPTY c = let is = c.entry-p.ensures.value in record { ends = omega arith; none = λ dead. refl; some = λ live. absurd (omega (arith, is, c.if-p-gt-EMPTY.false)) }
