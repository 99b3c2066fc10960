-- What is known of a file of the host: nothing.
use Rattle.std.specs.Prelude.{false, []}
use Rattle.vm_store.specs.Facts.{IsTimely}
use Rattle.host_store.specs.System.{FileFacts}

abbrev pub host_system_facts : FileFacts
host_system_facts = record {
  store = record {
    content = [];
    honest = false;
    failures = 0;
    may_leave = λ c. Unit {0};
    moment = 0;
    left_since = λ t c. Unit {0};
  };
  has_failed_sync = false;
  interruptions = 0;
}

-- it isn't honest, so nothing is owed
pub host_system_timely : IsTimely host_system_facts.store
host_system_timely = record { now = tt; only_now = λ c left. tt; counts_now = λ t c le left. tt }
