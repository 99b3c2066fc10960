use Rattle.std.proofs.Common.{◌≡◌, ◌+◌, ◌++◌, ℕ, List, true, length, map, take}
use Rattle.std.specs.List.{All, AllZip, zip}
use Rattle.geos_model.specs.Document.{Document, is_live}
use Rattle.large_arrays.specs.ChangePlans.{ArePlanned, ArePlannedByHandle, piece_bodies}
use Rattle.large_arrays.specs.Gathering.{HasOldBody}
use Rattle.vm_chains.specs.Numbers.{numbers}
use Rattle.large_arrays.specs.HandleLists.{ShareNoHandle, old_handles}
use Rattle.large_arrays.specs.WindowPlans.{AreHomes}
use Rattle.large_arrays.proofs.piece_plans.plan_pieces.Given as goal

abbrev pub invariant-loop-k : goal.invariant-loop-k
invariant-loop-k l = record {
  planned : (d : Document) (freed : List ℕ) (bodies : List (ℕ × List ℕ)) → ArePlanned l.fn.changes.items d freed bodies
      → AllZip (λ old body. HasOldBody d old.handle.0 body.items) l.gathered.olds.items l.gathered.bodies.items
      → AreHomes d (old_handles l.gathered.olds.items) (numbers l.handles)
      → ShareNoHandle freed (numbers l.handles) → ShareNoHandle (map (λ p. p.0) bodies) (numbers l.handles)
      → ArePlanned l.changes.items d freed (bodies ++ piece_bodies l.gathered.pieces.size (take l.k (zip (numbers l.handles) l.gathered.pieces.pieces)));
  listed : (d : Document) (freed : List ℕ) (bodies : List (ℕ × List ℕ)) → ArePlannedByHandle l.fn.changes.items d freed bodies
      → All (λ old. is_live d old.handle.0 ≡ true) l.gathered.olds.items
      → AreHomes d (old_handles l.gathered.olds.items) (numbers l.handles)
      → ShareNoHandle freed (numbers l.handles) → ShareNoHandle (map (λ p. p.0) bodies) (numbers l.handles)
      → ArePlannedByHandle l.changes.items d freed (bodies ++ piece_bodies l.gathered.pieces.size (take l.k (zip (numbers l.handles) l.gathered.pieces.pieces)));
  more : length l.changes.items ≡ length l.fn.changes.items + l.k;
}
