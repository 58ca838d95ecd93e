-- `record::save` meets its contract: it refuses as the audit does, or the table is sound.
use Rattle.std.proofs.lemmas.Result.{err_from_is_err_and}
use Rattle.audit.proofs.Told.{audited}
use Rattle.fields.proofs.Places.{only}
use Rattle.record.proofs.Saves.{save_refused}
use Rattle.record.proofs.save.Goals as goal

pub returns-in_err-audit_table : goal.returns-in_err-audit_table
returns-in_err-audit_table c =
    let p = err_from_is_err_and c.from_residual.result c.from_residual.ensures.1 in
    rw (p.1, p.2) (save_refused _ _ c.in_err-audit_table.field-0.0 (rw c.in_err-audit_table.was at c.audit_table.ensures))

pub save_sound-requires : goal.save_sound-requires
save_sound-requires c = (audited c.audit_table.ensures c.in_ok-audit_table.was, only _ _)
