-- The file behind a number that the program gave: of its store nothing is known, but how many calls have failed.
use Rattle.std.specs.Prelude.{◌≡◌, ℤ, false, Ok, IfOk}
use Rattle.vm_store.specs.Facts.{StoreFacts}
use Rattle.host_store.specs.Host.{Host, host_facts}
use Rattle.host_store.specs.HostSystem.{host_system_facts}
use Rattle.host_store.specs.System.{SystemCalls}
use Rattle.c_sessions.specs.Files.{FileCalls}
use Rattle.geos_c.specs.declared.channel.Channel.{Channel}
use Rattle.geos_c.specs.declared.channel.ChannelFile.{ChannelFile}
use Rattle.geos_c.specs.declared.channel.ChannelSystem.{ChannelSystem}
use Rattle.c_sessions.specs.declared.files.FileNumber.{FileNumber}

abbrev pub FileStore : Type 0
FileStore = Host ChannelFile

abbrev pub facts : FileStore → StoreFacts
facts = λ h. host_facts (λ file. host_system_facts) h

abbrev pub file_number : ℤ → FileNumber
file_number n = record { 0 = n }

-- that on a number, of which no call has failed
abbrev pub store_on : FileNumber → FileStore
store_on n = record { file = record { number = n }; has_failed_sync = false; failures = 0 }

-- The program has opened and locked it: the number is found, and is the file.
abbrev pub channel_system_calls : SystemCalls ChannelSystem FileNumber ChannelFile
channel_system_calls = record {
  guards = λ old result new. (new ≡ old) × (result ≡ Ok tt);
  opens = λ old path make result new. (new ≡ old) × (result ≡ Ok old.number);
  syncs_folder = λ old path result new. (new ≡ old) × (result ≡ Ok tt);
  locks = λ old number result new. (new ≡ old) × (result ≡ Ok (record { number = number }));
  closes = λ old file new. new ≡ old;
}

-- What the program is asked no contract can say: a file that is opened is the one with the number, and to close one is
-- to ask nothing.
abbrev pub channel_calls : FileCalls Channel FileStore
channel_calls = record {
  opens = λ old number own result new. (new ≡ old) × IfOk result (λ store. store ≡ store_on number);
  closes = λ old store new. new ≡ old;
}
