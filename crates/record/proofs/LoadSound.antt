-- What loading builds is sound, since a record is of a sound table.
use Rattle.record.specs.LoadSound.{LoadSound}
use Rattle.record.proofs.Loads.{loaded}

pub theorem : LoadSound
theorem w s built n e = let (r, is) = loaded w s e in record { table = r.table; reached = r.reached; is_words = is }
