use Rattle.std.proofs.Common.{◌≡◌, ◌≤◌, ◌+◌, ◌-◌, ◌*◌, ◌++◌, ◌∷◌, [], ℕ, arith, subst, ap, ◌∙◌}
use Rattle.file_map.specs.Lines.{padded}
use Rattle.file_map.specs.Pages.{content_at, glyph, glyphs, row_length}
use Rattle.file_map.proofs.TextLemmas.{glued2, glued3, pushed_map}
use Rattle.file_map.proofs.rows.push_row.Goals as goal

pub loop-page-preserved : goal.loop-page-preserved
loop-page-preserved c =
    let ps = c.args.parts.now in
    let first = 64 * c.args.row in
    let page = c.loop-page.page in
    let start = c.extend_from_slice.new.self.items in
    let low : first ≤ page = c.loop-page.auto.page in
    let next : page - first + 1 ≡ page + 1 - first = omega (arith, low) in
    let at : first + (page - first) ≡ page = omega (arith, low) in
    record {
      walk = c.in_ok-walk.ensures.walk;
      tally = c.in_ok-walk.ensures.tally;
      text = subst (λ (n : ℕ). c.push_page.new.out.items ≡ start ++ glyphs ps first n) next
          (pushed_map (λ q. glyph (content_at ps q)) first (page - first) page start c.loop-page.out.items c.push_page.new.out.items at c.loop-page.invariant.text c.in_ok-walk.ensures.text);
    }

pub returns-clause-text : goal.returns-clause-text
returns-clause-text c =
    let ps = c.args.parts.now in
    let first = 64 * c.args.row in
    let page = c.loop-page.page in
    let number = padded 8 first in
    let drawn = glyphs ps first (page - first) in
    let o0 = c.args.out.now.items in
    let o1 = c.push_padded.new.out.items in
    let o2 = c.extend_from_slice.new.self.items in
    let o3 = c.loop-page.out.items in
    let o4 = c.push.new.self.items in
    let all : page - first ≡ row_length c.args.pages c.args.row = omega (arith, c.loop-page-test.false, c.loop-page.auto.page, c.loop-page.auto.page-end, c.min-page-end.ensures, c.requires.begins) in
    glued3 o0 o1 o3 o4 number (32 ∷ 32 ∷ drawn) (10 ∷ []) c.in_ok-push_padded.ensures (glued2 o1 o2 o3 (32 ∷ 32 ∷ []) drawn c.in_ok-extend_from_slice.ensures.items c.loop-page.invariant.text)
    c.in_ok-push.ensures.items
    ∙ ap (λ n. o0 ++ ((number ++ 32 ∷ 32 ∷ glyphs ps first n) ++ 10 ∷ [])) all
