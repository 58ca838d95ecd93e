-- What each call answers, by the first of its refusals, or where there is none.
use Rattle.promises.proofs.Prelude.{◌≡◌, ap, Bool, not, List, [], ◌∷◌, ℕ, length, eqb, eq-eqb}
use Rattle.rules.specs.Table.{Table, words, run_length, table_of}
use Rattle.rules.specs.Changes.{opened, last_out, take_out, seat_id}
use Rattle.rules.specs.Ids.{place_of}
use Rattle.rules.specs.Answers.{refused, Outcome, refused_at, done, Occasion, ◌⇒◌, Free, more}
use Rattle.rules.specs.History.{open_refusals, out_refusals, seat_refusals, Sound}
use Rattle.rules.specs.declared.Refusal.{Refusal}
use Rattle.rules.specs.declared.Refusal.TheVariants.{Size}
use Rattle.rules.proofs.Occasions.{First, also, first_is, free_is}
use Rattle.audit.specs.Audit.{audit_call}
use Rattle.audit.proofs.Told.{refused_first, sound_later, sound_free}
use Rattle.changes.specs.Calls.{open_call, seat_call, out_call}

module _ (w : List ℕ) (id : ℕ) where
  abbrev T : Table
  T = table_of w

  -- what a change leaves where it is done
  abbrev pub seats : Outcome
  seats = done (last_out T.bare ∷ []) (words (seat_id T id))

  abbrev pub takes : Outcome
  takes = let b = place_of id T.S in done (b ∷ []) (words (take_out T b))

  pub seat_refused : (r : Refusal) → refused r ≡ audit_call w → refused_at w r ≡ seat_call w id
  unfolding seat_call
  seat_refused = refused_first w w (seat_refusals T id) seats

  pub out_refused : (r : Refusal) → refused r ≡ audit_call w → refused_at w r ≡ out_call w id
  unfolding out_call
  out_refused = refused_first w w (out_refusals T id) takes

module _ {w : List ℕ} (s : Sound w) (id : ℕ) where
  pub seat_first : {r : Refusal} → First r (seat_refusals (table_of w) id) → refused_at w r ≡ seat_call w id
  unfolding seat_call
  seat_first f = first_is (refused_at w) (seats w id) (sound_later s f)

  pub seat_done : Free (seat_refusals (table_of w) id) → seats w id ≡ seat_call w id
  unfolding seat_call
  seat_done f = free_is (refused_at w) (seats w id) (sound_free s f)

  pub out_first : {r : Refusal} → First r (out_refusals (table_of w) id) → refused_at w r ≡ out_call w id
  unfolding out_call
  out_first f = first_is (refused_at w) (takes w id) (sound_later s f)

  pub out_done : Free (out_refusals (table_of w) id) → takes w id ≡ out_call w id
  unfolding out_call
  out_done f = free_is (refused_at w) (takes w id) (sound_free s f)

module _ (w : List ℕ) (a : ℕ) (ids : List ℕ) where
  abbrev long : Bool
  long = not (eqb (length w) (run_length a))

  abbrev pub opens : Outcome
  opens = done (length ids ∷ []) (words (opened a ids))

  abbrev pub open_occasions : List Occasion
  open_occasions = long ⇒ Size ∷ open_refusals a ids

  pub open_first : {r : Refusal} → First r open_occasions → refused_at w r ≡ open_call w a ids
  unfolding open_call
  open_first f = first_is (refused_at w) opens f

  -- SIZE for what a is
  pub open_size : First Size (open_refusals a ids) → refused_at w Size ≡ open_call w a ids
  open_size f = open_first (also long f)

  pub open_done : length w ≡ run_length a → Free (open_refusals a ids) → opens ≡ open_call w a ids
  unfolding open_call
  open_done size f = free_is (refused_at w) opens (more {r = Size} (ap not (eq-eqb _ _ size)) f)
