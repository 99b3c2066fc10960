use Rattle.std.proofs.Common.{◌≡◌, ◌-◌, ℕ, drop, length, reverse, take, take_at, length-drop, ap, ◌∙◌, arith}
use Rattle.std.proofs.lemmas.List.{reverse-reverse}
use Rattle.undo_log.proofs.Telling.{newest_are}
use Rattle.undo_log.proofs.entry.Changes.keep_next.Goals as goal

pub returns-then-count-len : goal.returns-then-count-len
returns-then-count-len c =
    let cs = c.self.inside.stack.items in let n = c.args.count in let k = length cs - n in
    let len : c.len-len.result ≡ length cs = omega (arith, c.len-len.ensures) in
    let back : length (drop (c.len-len.result - n) cs) ≡ n = length-drop (c.len-len.result - n) cs ∙ omega (arith, len, c.if-count-len.true) in
    ap reverse (c.truncate.ensures.items
    ∙ ap (take n) c.rotate_left.ensures.items
    ∙ take_at (drop (c.len-len.result - n) cs) (take (c.len-len.result - n) cs) n back
    ∙ ap (λ (l : ℕ). drop (l - n) cs) len
    ∙ newest_are cs n)
    ∙ reverse-reverse (take n (reverse cs))
    ∙ ap (take n) c.self.view_is
