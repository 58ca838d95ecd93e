-- The calls accept what is asked for in plain conditions: the lists that they read say just these. On a sound table an id stands in one seat.
use Rattle.promises.proofs.Prelude.{◌∙◌, sym, ap, [], ◌∷◌, ℕ, arith}
use Rattle.rules.specs.Table.{words, table_of}
use Rattle.rules.specs.Changes.{take_out, seat_id}
use Rattle.rules.specs.History.{taking, seating}
use Rattle.rules.specs.Answers.{done}
use Rattle.rules.proofs.Accepts.{opens_from, takes_from, seats_from}
use Rattle.sound.proofs.Reached.{passes}
use Rattle.sound.proofs.Sound.{sound_table}
use Rattle.changes.proofs.Told.{seat_done, out_done, open_done}
use Rattle.demands.specs.Accepts.{AcceptsOpening, AcceptsChange}

pub opening : AcceptsOpening
opening w a ids o size = sym (open_done w a ids size (opens_from o).free)

pub change : AcceptsChange
change w (taking id b) s t =
    let i = (passes (sound_table s)).ids in
    let k = takes_from t (λ x h e. i.apart x b (omega (arith, i.size)) (omega (arith, i.size, t.inside)) (λ z. t.named (sym e ∙ z)) (e ∙ sym t.has)) in
    sym (out_done s id k.free) ∙ ap (λ (x : ℕ). done (x ∷ []) (words (take_out (table_of w) x))) k.is_place
change w (seating id b) s t = sym (seat_done s id (seats_from t).free) ∙ ap (λ (x : ℕ). done (x ∷ []) (words (seat_id (table_of w) id))) t.is_last
