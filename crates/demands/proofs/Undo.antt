-- Taking a server out and seating an id gives back every word but the id, since seating writes again each word that taking out wrote, with
-- what stood there before (`undo` of crate rules); and a sound table has what that asks for.
use Rattle.promises.proofs.Prelude.{◌≡◌, refl, ◌∙◌, sym, ap, subst, ap₂, ◌≢◌, true, false, not, List, [], ◌∷◌, ℕ, ◌≤◌, arith, ℕ_discrete, set, length-set}
use Rattle.promises.proofs.Prelude.{get_or-set_same, get_or-set_other, ne_eqb}
use lib.Seq.{set-get_or}
use Rattle.rules.specs.Table.{◌!◌, Table, with_ids, words, table_of}
use Rattle.rules.specs.Changes.{last_out, take_out, seat_id, Leaves}
use Rattle.rules.specs.Ids.{occurs}
use Rattle.rules.specs.History.{Id, taking, Sound}
use Rattle.rules.specs.Answers.{Outcome, done, none, more}
use Rattle.rules.proofs.Accepts.{taken}
use Rattle.rules.proofs.Undo.{Undoable, last_out_lem, undo_id}
use Rattle.rules.proofs.Words.{holds_table, holds_put, part_word}
use Rattle.sound.proofs.Made.{leaves_stands}
use Rattle.sound.proofs.Reached.{passes, leaves, reached_kept}
use Rattle.sound.proofs.Sound.{sound_legal, sound_table}
use Rattle.rules.proofs.Ids.{not_occurs}
use Rattle.changes.specs.Calls.{seat_call, out_call}
use Rattle.changes.proofs.Told.{seat_done, out_done}
use Rattle.demands.specs.Undo.{seated, seat_of, id_word, Undo, Returns}
use Rattle.changes.specs.Accepted.{IsChange}
use Rattle.changes.proofs.Accepted.{out_changes}

module _ (w : List ℕ) (server : ℕ) (s : Sound w) (two : 2 ≤ w ! 1) (some : server ≢ 0) (there : seated w server ≡ true) where
  abbrev T : Table
  T = table_of w

  abbrev b : ℕ
  b = seat_of w server

  abbrev v : List ℕ
  v = words (take_out T b)

  accepted : out_call w server ≡ done (b ∷ []) v
  accepted = sym (out_done s server (more (ne_eqb server 0 some) (more (ap not there) (more (ne_eqb (w ! 1) 1 (omega arith)) none))))

  change : IsChange (taking server b) w v
  change = out_changes w v server b s accepted

  left : Leaves T.bare b
  left = leaves (passes (sound_table s)) change.accepts

  has : T.S ! b ≡ server
  has = (taken change.accepts).has

  stands : Undoable T.bare b
  stands = leaves_stands (reached_kept (sound_table s)) left

  one_word : (id : ℕ) → words (with_ids T (set T.S b id)) ≡ set w (id_word w b) id
  one_word id = sym (holds_put (holds_table w (w ! 0) refl (sound_legal s).shape.size) 5 b id (omega arith) left.below refl).is

  held : w ! id_word w b ≡ server
  held = sym (part_word w (w ! 0) 5 b left.below) ∙ has

  back : (id : ℕ) → Id id → seated v id ≡ false → seat_call v id ≡ done (b ∷ []) (set w (id_word w b) id)
  back id ok new =
      let room : v ! 1 ≢ v ! 0 = λ e. omega (arith, stands.most) in
      sym (seat_done change.sound id (more (ne_eqb id 0 ok.0) (more new (more (ne_eqb _ _ room) none))))
      ∙ ap (λ (U : Table). done (last_out U.bare ∷ []) (words (seat_id U id))) change.table
      ∙ ap₂ (λ (x : ℕ) (u : List ℕ). done (x ∷ []) u) (last_out_lem stands) (ap words (undo_id T b id stands) ∙ one_word id)

  own : Id server
  own = subst Id has ((passes (sound_table s)).ids.some b left.below left.in_use)

  -- the server's id stood in its seat alone
  own_id : seated v server ≡ false
  own_id =
      let i = (passes (sound_table s)).ids in
      ap (λ (U : Table). occurs server U.S) change.table ∙ not_occurs server (set T.S b 0) (λ x h. elim (ℕ_discrete x b) [
        | yes e ↦ rw (e, get_or-set_same T.S b 0 0 (omega (arith, i.size, left.below))) (λ z. some (sym z))
        | no ne ↦ rw (get_or-set_other T.S b x 0 0 ne)
            (λ e. let size = length-set T.S b 0 in
            ne (i.apart x b (omega (arith, i.size)) left.below (λ z. some (sym e ∙ z)) (e ∙ sym (has))))
      ])

pub theorem : Undo
theorem w server id s two some there ok new =
    let e = accepted w server s two some there in
    record {
      taken_out = ap (λ (o : Outcome). o.answer) e;
      seated_again = rw e (back w server s two some there id ok (rw e at new));
      held = held w server s two some there;
    }

pub returns : Returns
returns w server s two some there =
    let same = set-get_or w (id_word w (seat_of w server)) 0 in
    rw (accepted w server s two some there)
    (back w server s two some there server (own w server s two some there) (own_id w server s two some there)
    ∙ ap (done (seat_of w server ∷ [])) (rw (held w server s two some there) at same))
