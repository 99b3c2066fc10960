use Rattle.std.proofs.Common.{◌≡◌, ◌++◌, ◌∷◌, flat_map, take}
use Rattle.geos_script.specs.Printing.{word_text}
use Rattle.geos_script.proofs.word.push_words.Given as goal

abbrev pub invariant-loop-word : goal.invariant-loop-word
invariant-loop-word l = l.out.items ≡ l.fn.out.items ++ (l.name ++ flat_map (λ w. 32 ∷ word_text w) (take l.word-index l.operands))
