use Rattle.std.proofs.Common.{IsTrue, sym, ap, subst, ◌∙◌}
use Rattle.file_format.specs.File.{bytes_in}
use Rattle.document_file.specs.Effects.{IsNewFile}
use Rattle.document_file.specs.Making.{first_directory}
use Rattle.document_file.specs.Sound.{disk_of}
use Rattle.document_file.proofs.EffectsLemmas.{made_file}
use Rattle.document_file.proofs.FirstFileLemmas.{first_text}
use Rattle.document_file.specs.Sums.{has_sums}
use Rattle.document_file.proofs.SumsLemmas.{for_sums}
use Rattle.document_file.proofs.MakingLemmas.{IsEmpty, empty_shown, first_shown, made_open, made_shut}
use Rattle.document_file.proofs.file.VmFile.create.Goals as goal

pub returns-in-Ok-clause-made : goal.returns-in-Ok-clause-made
returns-in-Ok-clause-made g c =
    let facts = g.S.Store.facts in
    let made = c.in-Ok.made in
    let store = c.make_empty.new.store in
    let none : IsEmpty made.live = record { map_block = c.in-Ok.ensures.map_block; places = c.in-Ok.ensures.places } in
    let shown = empty_shown (facts store).content made.live none in
    let one = first_shown c.args.checksums (facts store).content first_directory _ made.live made.slots c.in-Ok.ensures.first in
    (shown, subst (λ d. IsNewFile facts d (disk_of facts store made.slots)) shown (made_file facts g.met.S.Store.timely c.args.checksums store made.live made.slots c.in-Ok.ensures.sound one))

pub returns-in-Ok-clause-first : goal.returns-in-Ok-clause-first
returns-in-Ok-clause-first g c so =
    let store = c.make_empty.new.store in
    let still = subst IsTrue (sym c.make_empty.ensures.honest) so in
    made_open (g.S.Store.facts store) c.in-Ok.made.live c.in-Ok.made.slots c.args.checksums c.in-Ok.ensures.sound c.in-Ok.ensures.first still (g.met.S.Store.timely store still).now

pub returns-in-Ok-clause-second : goal.returns-in-Ok-clause-second
returns-in-Ok-clause-second g c so =
    let store = c.make_empty.new.store in
    let still = subst IsTrue (sym c.make_empty.ensures.honest) so in
    made_shut (g.S.Store.facts store) c.in-Ok.made.live c.in-Ok.made.slots c.args.checksums c.in-Ok.ensures.sound c.in-Ok.ensures.first still (g.met.S.Store.timely store still).now

pub returns-in-Ok-clause-directory : goal.returns-in-Ok-clause-directory
returns-in-Ok-clause-directory g c so = ap (λ f. bytes_in f first_directory) (c.in-Ok.ensures.bytes so) ∙ first_text c.args.checksums

pub returns-in-Ok-clause-checksums : goal.returns-in-Ok-clause-checksums
returns-in-Ok-clause-checksums g c = ap has_sums c.in-Ok.ensures.first.next_version ∙ for_sums c.args.checksums
