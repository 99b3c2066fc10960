-- What a record that is lent is.
use Rattle.packed_log.specs.declared.record.LentRecord.{LentRecord}
use Rattle.packed_log.specs.declared.record.LentRecord.TheVariants as lent
use Rattle.packed_log.specs.Records.{Record, Short, Whole}

abbrev pub record_of : {H W : Type 0} → LentRecord H W → Record H W
record_of (lent.Short head bytes) = Short head bytes.now
record_of (lent.Whole whole) = Whole whole.now
