-- The bytes that were saved are the record of the run's table, which reads back.
use Rattle.promises.proofs.Prelude.{refl, ◌∙◌, sym, take_at}
use Rattle.rules.specs.Table.{table_of}
use Rattle.rules.proofs.Words.{words_table_of}
use Rattle.sound.proofs.Sound.{sound_legal, sound_table}
use Rattle.saved.specs.Record.{record_of, IsRecord}
use Rattle.saved.proofs.Length as length
use Rattle.record.specs.SaveLoad.{SaveLoad}
use Rattle.record.proofs.Saves.{save_is}
use Rattle.record.proofs.Loads.{load_is}

pub theorem : SaveLoad
theorem w out w' sound room size =
    let T = table_of w in
    let s = record_of T in
    let l = sound_legal sound in
    let long = length.theorem T (sound_table sound) in
    let r : IsRecord s = record { table = T; reached = sound_table sound; is_record = refl } in
    record {
      written = _;
      saves = rw long at (sym (save_is sound refl out (rw long room)));
      loads = rw (take_at s _ _ long, ← load_is w' r (size ∙ l.shape.size), words_table_of w l.shape.size);
    }
