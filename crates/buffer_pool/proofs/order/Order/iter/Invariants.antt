use Rattle.std.proofs.Common.{◌≡◌, ◌≤◌, List, ◌++◌, length}
use Rattle.buffer_pool.specs.Orders.{Seat}
use Rattle.buffer_pool.proofs.order.Order.iter.Given as goal

-- what is left to come is the front of the order, with all seats that have a key
abbrev pub invariant-loop-self : goal.invariant-loop-self
invariant-loop-self l = record {
  behind : List Seat;
  is : l.self-inside.seats.entries ≡ l.seats ++ behind;
  few : l.self-inside.taken ≤ length l.seats;
}

abbrev pub decreases-loop-self : goal.decreases-loop-self
decreases-loop-self l = length l.seats
