-- An accepted call is an accepted opening, or an accepted change of the sound table that it finds, and leaves a sound one: where a call is done,
-- none of its refusals applied.
use Rattle.promises.proofs.Prelude.{◌≡◌, ◌∙◌, sym, ap, List, [], ◌∷◌, ◌++◌, ℕ}
use Rattle.rules.specs.Table.{◌!◌, Table, words, table_of}
use Rattle.rules.specs.Changes.{take_out}
use Rattle.rules.specs.History.{out_refusals, seat_refusals, Opens, Change, taking, seating, Accepts, changed, Reached, Sound}
use Rattle.rules.specs.Answers.{Outcome, done, Occasion, Free, more}
use Rattle.rules.specs.Asks.{Asks}
use Rattle.rules.proofs.Accepts.{opening, taken, seated}
use Rattle.rules.proofs.Occasions.{done_free}
use Rattle.rules.proofs.Words.{table_of_words}
use Rattle.sound.proofs.Histories.{reached_opened, reached_changed}
use Rattle.sound.proofs.Sound.{sized, sound_table}
use Rattle.audit.specs.Audit.{audit_refusals}
use Rattle.audit.proofs.Told.{after_audit}
use Rattle.changes.specs.Calls.{open_call, seat_call, out_call}
use Rattle.changes.specs.Accepted.{OpenOpens, IsChange, OutChanges, SeatChanges}
use Rattle.changes.proofs.Told.{seats, takes, opens, open_occasions}

-- the words of a reached table
read_back : {T : Table} {v : List ℕ} → Reached T → words T ≡ v → (table_of v ≡ T) × Sound v
read_back {T} r e = (ap table_of (sym e) ∙ table_of_words T (sized r), record { table = T; reached = r; is_words = e })

asks_of : (T : Table) (c : Change) → Accepts T c → Asks T c
asks_of T (taking id b) t = taken t
asks_of T (seating id b) t = seated t

accepted_changes : (c : Change) {w v : List ℕ} → Sound w → Accepts (table_of w) c → words (changed (table_of w) c) ≡ v → IsChange c w v
accepted_changes c s ok e = let (table, sound) = read_back (reached_changed c (sound_table s) ok) e in record { accepts = ok; asks = asks_of _ c ok; table = table; sound = sound }

-- the values and the words of a call that is done
answered : {x b : ℕ} {u v : List ℕ} → done (x ∷ []) u ≡ done (b ∷ []) v → (x ≡ b) × (u ≡ v)
answered e = (ap (λ (o : Outcome). o.answer.values ! 0) e, ap (λ (o : Outcome). o.after) e)

pub out_changes : OutChanges
unfolding out_call
out_changes w v id b s f =
    let T = table_of w in
    let (free, e) = done_free w (takes w id) (audit_refusals w ++ out_refusals T id) f in
    let (at, is) = answered e in
    accepted_changes (taking id b) s (record { free = after_audit w free; is_place = at }) (ap (λ (x : ℕ). words (take_out T x)) (sym at) ∙ is)

pub seat_changes : SeatChanges
unfolding seat_call
seat_changes w v id b s small f =
    let (free, e) = done_free w (seats w id) (audit_refusals w ++ seat_refusals (table_of w) id) f in
    let (at, is) = answered e in
    accepted_changes (seating id b) s (record { free = after_audit w free; small = small; is_last = at }) is

pub open_opens : OpenOpens
unfolding open_call
open_opens w u a ids vs word f =
    let (free, e) = done_free w (opens w a ids) (open_occasions w a ids) f in
    let ok : Opens a ids = record { free = rest free; each = λ i h. word i } in
    let (table, sound) = read_back (reached_opened a ids ok) (ap (λ (o : Outcome). o.after) e) in
    record { opens = ok; asks = opening ok; table = table; sound = sound }
  where
    rest : {o : Occasion} {os : List Occasion} → Free (o ∷ os) → Free os
    rest (more e f) = f
