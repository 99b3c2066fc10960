use Rattle.file_format.proofs.LooksLemmas.{OnlyReadsStore-trans}
use Rattle.file_map.specs.Drawn.{svg_of}
use Rattle.file_map.proofs.MapLemmas.{lacks_refuse, picture_drawn}
use Rattle.file_map.proofs.drawing.draw_svg.Goals as goal

pub returns-clause-looks : goal.returns-clause-looks
returns-clause-looks g c = OnlyReadsStore-trans _ _ _ (λ so. g.met.S.Store.timely c.args.store.now so) c.read_map.ensures.looks c.write_svg.ensures.looks

pub returns-clause-text : goal.returns-clause-text
returns-clause-text g c = picture_drawn svg_of _ _ c.in_ok-map.map _ _ c.write_svg.result c.read_map.ensures.looks c.in_ok-map.ensures.map c.write_svg.ensures.text

pub returns-clause-refusals : goal.returns-clause-refusals
returns-clause-refusals g c = lacks_refuse (g.S.Store.facts c.args.store.now) c.write_svg.result c.write_svg.ensures.refusals
