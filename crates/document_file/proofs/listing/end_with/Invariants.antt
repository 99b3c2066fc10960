use Rattle.std.proofs.Common.{◌≡◌, ◌≤◌, [], All, take}
use Rattle.geos_model.specs.Document.{most_blocks}
use Rattle.document_file.proofs.listing.end_with.Given as goal

abbrev pub invariant-loop-put : goal.invariant-loop-put
invariant-loop-put l = record {
  start : l.fn.end ≤ l.end;
  puts : All (λ p. p.handle.0 ≤ l.end) (take l.put-index l.puts);
  alone : l.puts ≡ [] → l.end ≡ l.fn.end;
  within : l.end ≤ most_blocks;
}
