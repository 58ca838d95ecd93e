-- Where the parts of a record end, and so how long it is; and bytes that have every field of a table are its record.
use Rattle.promises.proofs.Prelude.{◌≡◌, refl, ◌∙◌, sym, List, ◌++◌, ℕ, ◌-◌, ◌<◌, ◌+◌, arith, ℕ_discrete, length, length-append, ne_eqb, eq-eqb}
use Rattle.rules.specs.Table.{◌!◌, Table}
use Rattle.sound.specs.Test.{Passes}
use Rattle.fields.specs.declared.Form.{Form}
use Rattle.fields.specs.Form.{head_mark, field, out_mark, in_mark, mark_length, server_length, out_length, out_at, in_at}
use Rattle.fields.specs.Numbers.{Stands}
use Rattle.fields.proofs.Numbers.{stands_both, stands_whole, length_bytes, stands_number, two_written}
use Rattle.fields.proofs.Places.{head_two, out_is, out_within, out_first, in_first}
use Rattle.saved.specs.Record.{head_record, each, seat_record, removal_record, record_in}
use Rattle.saved.specs.Reader.{rank, left_at, server_at}
use Rattle.saved.specs.Fits.{HeadFits, InFits}
use Rattle.saved.proofs.Each.{length_each, stands_each}
use Rattle.saved.proofs.Ranks.{rank_all, seat_within, seats_end}

-- the bytes s have every field of the table T
pub record HasFields (f : Form) (s : List ℕ) (T : Table) : Type 0 where
  pub head : HeadFits f s T.bare.seats T.bare.used
  pub outs : (i : ℕ) → i < T.bare.seats - T.bare.used → Stands s (out_at f i) out_mark × (left_at f s i ≡ T.bare.R ! i)
  pub ins : (b : ℕ) → b < T.bare.seats → T.bare.A ! b ≡ 0
      → let r = rank T.bare.A b in
      InFits f s (in_at f (T.bare.seats - T.bare.used) r) b × (server_at f s (T.bare.seats - T.bare.used) r ≡ T.S ! b)

-- a head's mark ends where its first field begins
pub mark_end : (f : Form) → 0 + length (head_mark f) ≡ mark_length
mark_end f = omega (arith, head_two f)

module _ (f : Form) (T : Table) where
  abbrev a : ℕ
  a = T.bare.seats

  abbrev n : ℕ
  n = T.bare.used

  abbrev m : ℕ
  m = T.bare.seats - T.bare.used

  abbrev outs : List ℕ
  outs = each (removal_record f T) m

  abbrev ins : List ℕ
  ins = each (seat_record f T) a

  pub head_end : 0 + length (head_record f a n) ≡ out_at f 0
  head_end = simp (length-append, length_bytes, head_two) (omega arith)

  -- the first k removals end where the next one stands
  pub removals_end : (k : ℕ) → out_at f 0 + length (each (removal_record f T) k) ≡ out_at f k
  removals_end k = omega (arith, out_is f k, length_each (removal_record f T) (out_length f) k (λ i. simp length_bytes (omega arith)))

  pub seats_all : Passes T → out_at f m + length ins ≡ in_at f m n
  seats_all p = rw (rank_all T.bare p.test) at (seats_end f T m a)

  pub length_record_in : Passes T → length (record_in f T) ≡ in_at f m n
  unfolding record_in
  length_record_in p = omega (arith, length-append (head_record f a n) (outs ++ ins), length-append outs ins, head_end, removals_end m, seats_all p)

  -- bytes with every field of T
  pub is_record_lem : (s : List ℕ) → ((i : ℕ) → s ! i < 256) → Passes T → HasFields f s T → record_in f T ≡ s
  unfolding record_in
  is_record_lem s byte p t =
      let long = t.head.long in
      let later = in_first f m n in
      let first = out_first f m in
      let head = two_written s (head_mark f) 0 (field f) (field f) a n (mark_end f) refl byte (omega arith) t.head.mark t.head.is_a t.head.is_N in
      let removals =
      stands_each s (out_at f 0) (removal_record f T) m (λ i h.
      let inside = out_within f i m h in
      rw (removals_end i)
      (stands_both s (out_at f i) out_mark _ refl (t.outs i h).0 (stands_number s byte (field f) (out_at f i + mark_length) _ (omega arith) (t.outs i h).1))) in
      let seats =
      stands_each s (out_at f m) (seat_record f T) a (λ b h.
      rw (seats_end f T m b)
      (elim (ℕ_discrete (T.bare.A ! b) 0) [
        | no ne ↦ rw (ne_eqb (T.bare.A ! b) 0 ne)
        | yes z ↦
            let at = in_at f m (rank T.bare.A b) in
            let inside = rw (rank_all T.bare p.test) at (seat_within f T.bare.A m a b h z) in
            let (i, id) = t.ins b h z in
            rw (eq-eqb (T.bare.A ! b) 0 z)
            (two_written s in_mark at {at₂ = at + out_length f} (field f) server_length b (T.S ! b) refl (omega arith) byte (omega arith) i.mark i.own id)
      ])) in
      stands_whole s _ (long ∙ sym (length_record_in p))
      (stands_both s 0 (head_record f a n) _ head_end head (stands_both s (out_at f 0) outs _ (removals_end m) removals seats))
