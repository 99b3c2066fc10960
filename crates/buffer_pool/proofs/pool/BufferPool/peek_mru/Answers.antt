use Rattle.std.proofs.Common.{ℕ, sym, ap, ◌∙◌}
use Rattle.std.specs.List.{slice_get}
use Rattle.std.specs.Option.{option_and_then, option_map}
use Rattle.std.specs.Map.Iter.{deref_pair}
use Rattle.buffer_pool.specs.Seats.{seat_of}
use Rattle.buffer_pool.proofs.SeatLemmas.{first-seated, first_taken}
use Rattle.buffer_pool.proofs.pool.BufferPool.peek_mru.Goals as goal

pub returns-in_err-key : goal.returns-in_err-key
returns-in_err-key g c =
    let p = c.self.inside in
    ap (option_map (deref_pair {K = ℕ} {X = g.row.V.Denot})) c.from_residual.ensures ∙ ap (option_and_then (seat_of p.values)) c.in_err-key.ensures
    ∙ sym (first-seated p.values p.order.entries c.self.invariant.taken) ∙ ap (λ x. slice_get x.entries 0) c.self.view_is

pub index-requires : goal.index-requires
index-requires g c =
    let p = c.self.inside in
    first_taken p.values p.order.entries (c.in_ok-key.key.now, c.in_ok-key.slot.now) c.in_ok-key.ensures c.self.invariant.taken

pub returns : goal.returns
returns g c =
    let p = c.self.inside in
    sym (ap (option_map (λ (v : g.row.V.Denot). (c.in_ok-key.key.now, v))) c.index.ensures) ∙ ap (option_and_then (seat_of p.values)) c.in_ok-key.ensures
    ∙ sym (first-seated p.values p.order.entries c.self.invariant.taken) ∙ ap (λ x. slice_get x.entries 0) c.self.view_is
