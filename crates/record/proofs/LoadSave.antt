-- The run that was loaded holds the record's table, whose record the bytes are.
use Rattle.promises.proofs.Prelude.{◌≡◌, refl, ◌∙◌, sym, ap}
use Rattle.rules.specs.Table.{words, table_of}
use Rattle.rules.specs.History.{Sound}
use Rattle.rules.proofs.Words.{table_of_words}
use Rattle.sound.proofs.Sound.{sized}
use Rattle.saved.specs.Record.{record_of}
use Rattle.record.specs.LoadSave.{LoadSave}
use Rattle.record.proofs.Saves.{save_is}
use Rattle.record.proofs.Loads.{load_is}

pub theorem : LoadSave
theorem s w out r size room =
    let T = r.table in
    let sound : Sound (words T) = record { table = T; reached = r.reached; is_words = refl } in
    let same : record_of (table_of (words T)) ≡ s = ap record_of (table_of_words T (sized r.reached)) ∙ r.is_record in
    record { built = words T; loads = sym (load_is w r size); saves = rw same at (sym (save_is sound refl out (rw same room))) }
