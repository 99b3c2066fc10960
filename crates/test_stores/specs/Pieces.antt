-- A file in memory that moves few bytes a call.
use Rattle.std.specs.Prelude.{ℕ, Bool}
use Rattle.vm_store.specs.Facts.{IsTimely}
use Rattle.test_stores.specs.History.{History, facts_of, timely}
use Rattle.host_store.specs.System.{FileFacts}

-- the store behind it, how many calls there were, how many of them failed and how many were interrupted, and whether a
-- sync failed
pub record Pieces : Type 0 where
  pub store : History
  pub calls : ℕ
  pub failures : ℕ
  pub interruptions : ℕ
  pub has_failed_sync : Bool

-- what is known of the store behind it, with counts of its own
abbrev pub pieces_facts : Pieces → FileFacts
pieces_facts p = record {
  store = record (facts_of p.store) { failures = p.failures };
  has_failed_sync = p.has_failed_sync;
  interruptions = p.interruptions;
}

pub pieces_timely : (p : Pieces) → IsTimely ((pieces_facts p).store)
pieces_timely p = let t = timely p.store in record { now = t.now; only_now = t.only_now; counts_now = t.counts_now }
