-- What each way out of a save answers. The record's three runs of bytes follow each other, so they are the record whole.
use Rattle.promises.proofs.Prelude.{◌≡◌, ◌∙◌, ap, List, [], ◌∷◌, ◌++◌, ℕ, ◌-◌, ◌≤◌, ◌<◌, zero-add, arith, length, drop, sets, ltb, le-ltb, lt-ltb}
use lib.Seq.{sets-eq}
use Rattle.rules.specs.Table.{◌!◌, Table, table_of}
use Rattle.rules.specs.History.{Sound}
use Rattle.rules.specs.Answers.{refused, Outcome, refused_at, done, ◌⇒◌, none, more}
use Rattle.rules.specs.declared.Refusal.{Refusal}
use Rattle.rules.specs.declared.Refusal.TheVariants.{Room}
use Rattle.rules.proofs.Occasions.{here, first_is, free_is}
use Rattle.sound.specs.Test.{Passes}
use Rattle.sound.proofs.Reached.{passes}
use Rattle.sound.proofs.Sound.{sound_legal, sound_table}
use Rattle.audit.specs.Audit.{audit_call}
use Rattle.audit.proofs.Told.{refused_first, sound_later, sound_free}
use Rattle.fields.specs.declared.Form.{Form}
use Rattle.fields.specs.Form.{form_for, out_at, in_at}
use Rattle.saved.specs.Record.{head_record, each, removal_record, seat_record, record_in, record_of}
use Rattle.saved.proofs.Each.{put_then}
use Rattle.saved.proofs.Holds.{head_end, removals_end, length_record_in}
use Rattle.record.specs.Calls.{save_call}

pub save_refused : (w out : List ℕ) (r : Refusal) → refused r ≡ audit_call w → refused_at out r ≡ save_call w out
unfolding save_call
save_refused w out r =
    let s = record_of (table_of w) in
    refused_first w out (ltb (length out) (length s) ⇒ Room ∷ []) (done (length s ∷ []) (s ++ drop (length s) out)) r

module _ {w : List ℕ} (s : Sound w) {f : Form} (own : form_for (w ! 0) ≡ f) where
  abbrev T : Table
  T = table_of w

  abbrev m : ℕ
  m = w ! 0 - w ! 1

  abbrev r : List ℕ
  r = record_of T

  pub good : Passes T
  good = passes (sound_table s)

  in_form : r ≡ record_in f T
  in_form = ap (λ (g : Form). record_in g T) own

  size : length r ≡ in_at f m (w ! 1)
  size = ap length in_form ∙ length_record_in f T good

  -- what the code asks of a sound run
  pub long : 1 < length w
  long = omega (arith, (sound_legal s).shape)

  abbrev saves : List ℕ → Outcome
  saves out = done (length r ∷ []) (r ++ drop (length r) out)

  pub save_room : (out : List ℕ) → length out < in_at f m (w ! 1) → refused_at out Room ≡ save_call w out
  unfolding save_call
  save_room out h = first_is (refused_at out) (saves out) (sound_later s {r = Room} (here {os = []} (lt-ltb (length out) (length r) (omega (arith, size)))))

  pub save_is : (out : List ℕ) → length r ≤ length out → saves out ≡ save_call w out
  unfolding save_call
  save_is out h = free_is (refused_at out) (saves out) (sound_free s (more {r = Room} (le-ltb (length out) (length r) h) none))

  pub save_done : (out : List ℕ) {o₁ o₂ o₃ : List ℕ} → in_at f m (w ! 1) ≤ length out
      → o₁ ≡ sets out 0 (head_record f (w ! 0) (w ! 1))
      → o₂ ≡ sets o₁ (out_at f 0) (each (removal_record f T) m)
      → o₃ ≡ sets o₂ (out_at f m) (each (seat_record f T) (w ! 0))
      → done (in_at f m (w ! 1) ∷ []) o₃ ≡ save_call w out
  unfolding record_in
  save_done out {o₁} {o₂} {o₃} h e₁ e₂ e₃ =
      let outs = each (removal_record f T) m in
      let ins = each (seat_record f T) (w ! 0) in
      let whole = put_then out 0 (head_record f (w ! 0) (w ! 1)) (outs ++ ins) (head_end f T) e₁ (put_then o₁ (out_at f 0) outs ins (removals_end f T m) e₂ e₃) in
      let written : o₃ ≡ r ++ drop (length r) out = whole ∙ rw (← in_form) (sets-eq r out 0 (omega (arith, size)) ∙ rw zero-add) in
      rw (written, ← size) (save_is out (omega (arith, size)))
