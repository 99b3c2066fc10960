-- What lines on chains, groups and splices are, and the text of what only chains are answered.
use Rattle.std.proofs.Common.{◌≡◌, [], ◌∷◌, true, false, Some, None, codes, refl}
use Rattle.hex.specs.Hex.{decode_pairs}
use Rattle.geos_model.specs.Reply.{AreEqual}
use Rattle.geos_model.specs.Script.{command, reply_text}
use Rattle.geos_model.specs.declared.command.Edit.TheVariants as edits
use Rattle.geos_model.specs.declared.command.Command.TheVariants as commands

copied : command (codes "chcopy 01fF") ≡ Some (commands.Edit (edits.CopyChain (record { 0 = 0x1FF })))
unfolding command decode_pairs
copied = refl

freed : command (codes "chfree 0002") ≡ Some (commands.Edit (edits.FreeChain (record { 0 = 2 })))
unfolding command decode_pairs
freed = refl

walked : command (codes "walk 0000") ≡ Some (commands.Walk (record { 0 = 0 }))
unfolding command decode_pairs
walked = refl

measured : command (codes "chsize 0801") ≡ Some (commands.ChainSize (record { 0 = 0x801 }))
unfolding command decode_pairs
measured = refl

compared : command (codes "chequal 0003 0005") ≡ Some (commands.ChainEqual (record { 0 = 3 }) (record { 0 = 5 }))
unfolding command decode_pairs
compared = refl

-- one operand is missing, or too many
no_second : command (codes "chequal 0003") ≡ None
unfolding command decode_pairs
no_second = refl

no_third : command (codes "walk 0003 0005") ≡ None
unfolding command decode_pairs
no_third = refl

begun : command (codes "begin") ≡ Some commands.Begin
unfolding command decode_pairs
begun = refl

ended : command (codes "end") ≡ Some commands.End
unfolding command decode_pairs
ended = refl

abandoned : command (codes "abandon") ≡ Some commands.Abandon
unfolding command decode_pairs
abandoned = refl

-- a group has no number
no_number : command (codes "begin 1") ≡ None
unfolding command decode_pairs
no_number = refl

spliced : command (codes "splice 0003 001c 2 10 0aFF") ≡ Some (commands.Edit (edits.Splice (record { 0 = 3 }) (record { 0 = 28 }) 2 10 (0x0A ∷ 0xFF ∷ [])))
unfolding command decode_pairs
spliced = refl

-- nine digits, and no more
inserted : command (codes "hinsert 0001 536592409 6869") ≡ Some (commands.Edit (edits.InsertLarge (record { 0 = 1 }) (record { 0 = 536592409 }) (0x68 ∷ 0x69 ∷ [])))
unfolding command decode_pairs
inserted = refl

too_long : command (codes "hget 0001 1000000000") ≡ None
unfolding command decode_pairs
too_long = refl

same-text : reply_text (AreEqual true) ≡ codes "same"
unfolding reply_text
same-text = refl

differ-text : reply_text (AreEqual false) ≡ codes "differ"
unfolding reply_text
differ-text = refl
