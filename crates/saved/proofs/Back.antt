-- Reading undoes writing: `table_from` gives a reached table back from its record, because each field reads back and the
-- removals make the rest. So each table has one record, each record one table, whether bytes are a record is decided, and a record passes load's test.
use Rattle.promises.proofs.Prelude.{◌≡◌, refl, ◌∙◌, sym, ap, List, ◌++◌, ℕ, ◌-◌, ◌≤◌, ◌<◌, ◌+◌, ◌^◌, arith, ℕ_discrete, length, ne_eqb, eq-eqb}
use mathlib.Core.List.{List-discrete}
use mathlib.Core.Logic.Dec
use native.Mathlib.Decide.{map_dec}
use lib.Seq.{take-length, ext_get_or}
use Rattle.rules.specs.Table.{◌!◌, Bare, Table, table}
use Rattle.rules.specs.History.{Reached}
use Rattle.rules.specs.Changes.{Leaves}
use Rattle.sound.specs.Removals.{after}
use Rattle.sound.proofs.Made.{after_is, fewer_still, next_leaves, after_first}
use Rattle.sound.proofs.Audit.{R_takeable, as_made}
use Rattle.sound.specs.Test.{Passes}
use Rattle.sound.proofs.Reached.{passes}
use Rattle.sound.proofs.Sound.{reached?}
use Rattle.fields.specs.Numbers.{Stands}
use Rattle.fields.specs.declared.Form.{Form}
use Rattle.fields.specs.declared.Form.TheVariants.{Short}
use Rattle.fields.specs.Form.{head_mark, field, form_for, out_mark, in_mark, mark_length, server_length, out_length, out_at, in_at}
use Rattle.fields.proofs.Numbers.{stands_left, stands_right, number_bytes, two_read}
use Rattle.fields.proofs.Places.{seats_fit}
use Rattle.saved.specs.Record.{head_record, each, removal_record, seat_record, record_in, record_of, IsRecord}
use Rattle.saved.specs.Reader.{listed, rank, marked_form, left_at, server_of, bare_from, table_read, table_from}
use Rattle.saved.specs.Fits.{AllNew, Good}
use Rattle.saved.proofs.Each.{stands_at, length_listed, listed_at}
use Rattle.saved.proofs.Ranks.{rank_onto, rank_all, seats_end}
use Rattle.saved.proofs.Holds.{HasFields, mark_end, head_end, removals_end, length_record_in}

-- the mark names the form
pub marked : (f : Form) (s : List ℕ) → Stands s 0 (head_mark f) → marked_form s ≡ f
unfolding marked_form
marked Short s h = refl

module _ {s : List ℕ} (r : IsRecord s) where
  abbrev T : Table
  T = r.table

  abbrev a : ℕ
  a = T.bare.seats

  abbrev m : ℕ
  m = T.bare.seats - T.bare.used

  abbrev f : Form
  f = form_for a

  p : Passes T
  p = passes r.reached

  fit : (x : ℕ) → x ≤ a → x < 256 ^ field f
  fit x h = seats_fit a x p.most h

  whole : Stands s 0 (head_record f a T.bare.used ++ (each (removal_record f T) m ++ each (seat_record f T) a))
  unfolding record_in
  whole = rw r.is_record (take-length s)

  -- each field reads back
  told : HasFields f s T
  told =
      let fits = fit _ p.test.shape.most in
      let head = two_read s (head_mark f) 0 (field f) (field f) a T.bare.used (mark_end f) refl (fit _ (omega arith)) fits (stands_left s 0 _ _ whole) in
      let body = stands_right s 0 (head_record f a T.bare.used) _ (head_end f T) whole in
      record {
        head =
            record {
              mark = head.0;
              is_a = head.1;
              is_N = head.2;
              some = p.test.shape.some;
              fit = p.test.shape.most;
              most = p.most;
              long = ap length (sym r.is_record) ∙ length_record_in f T p;
            };
        outs = λ i h.
            let one = stands_at s (out_at f 0) (removal_record f T) m i h (removals_end f T i) (stands_left s (out_at f 0) (each (removal_record f T) m) _ body) in
            let fits = fit (T.bare.R ! i) (omega (arith, ((p.test.removal i (omega arith)).taken h).below)) in
            (stands_left s (out_at f i) out_mark _ one, number_bytes (field f) _ s (out_at f i + mark_length) fits (stands_right s (out_at f i) out_mark _ refl one));
        ins = λ b h z.
            let id = p.ids.some b h z in
            let seats = stands_right s (out_at f 0) (each (removal_record f T) m) _ (removals_end f T m) body in
            let one = rw (eq-eqb (T.bare.A ! b) 0 z) at (stands_at s (out_at f m) (seat_record f T) a b h (seats_end f T m b) seats) in
            let at = in_at f m (rank T.bare.A b) in
            let fits = fit b (omega arith) in
            let (mark, own, server) = two_read s in_mark at {at₂ = at + out_length f} (field f) server_length b (T.S ! b) refl (omega arith) fits id.1 one in
            (record { mark = mark; own = own; some = λ e. id.0 (sym server ∙ e) }, server);
      }

  pub named : marked_form s ≡ f
  named = marked f s told.head.mark

  -- the removals up to i make what R's first i make
  bare_after : (i : ℕ) → i ≤ m → bare_from f s a m i ≡ after a T.bare.R i
  unfolding bare_from
  bare_after i h = after_first a (listed (left_at f s) m) T.bare.R i (λ j l. listed_at (left_at f s) m j (omega arith) ∙ (told.outs j (omega arith)).1)

  bare_back : bare_from f s a m m ≡ T.bare
  bare_back = bare_after m (omega arith) ∙ sym (as_made T.bare p.test)

  servers_back : listed (server_of f s m T.bare.A) a ≡ T.S
  servers_back =
      let long = length_listed (server_of f s m T.bare.A) a in
      ext_get_or 0 _ T.S (long ∙ sym p.ids.size) (λ b h.
      listed_at (server_of f s m T.bare.A) a b (omega arith)
      ∙ elim (ℕ_discrete (T.bare.A ! b) 0) [
        | yes z ↦ rw (eq-eqb (T.bare.A ! b) 0 z) (told.ins b (omega arith) z).1
        | no ne ↦ rw (ne_eqb (T.bare.A ! b) 0 ne) (sym (p.ids.none b (omega arith) (omega arith)))
      ])

  pub record_read : table_read (form_for r.table.bare.seats) s r.table.bare.seats r.table.bare.used ≡ r.table
  unfolding table_read
  record_read = ap (λ (B : Bare). table B (listed (server_of f s m B.A) a)) bare_back ∙ ap (table T.bare) servers_back

  pub record_table : table_from s ≡ T
  record_table = rw (named, told.head.is_a, told.head.is_N) record_read

  -- and the record passes load's test
  leaves : (i : ℕ) → i < m → Leaves (bare_from f s a m i) (left_at f s i)
  leaves i h =
      let t = R_takeable T.bare p.test in
      rw (bare_after i (omega arith), (told.outs i h).1)
      (next_leaves (fewer_still t (omega arith)) (after_is a T.bare.R i (fewer_still t (omega arith))))

  apart : AllNew f s m T.bare.used
  apart j l i h e =
      let all = rank_all T.bare p.test in
      let (x, hx, zx, ex) = rank_onto T.bare.A a i (omega arith) in
      let (y, hy, zy, ey) = rank_onto T.bare.A a j (omega arith) in
      let at_x = rw ex at (told.ins x hx zx).1 in
      let at_y = rw ey at (told.ins y hy zy).1 in
      let same = p.ids.apart x y hx hy (p.ids.some x hx zx).0 (sym at_x ∙ e ∙ at_y) in
      omega (arith, ap (rank T.bare.A) same)

  pub record_good : Good (form_for r.table.bare.seats) s r.table.bare.seats r.table.bare.used
  record_good =
      record {
        head = told.head;
        own = refl;
        body =
            record {
              outs = λ i h. record { mark = (told.outs i h).0; leaves = leaves i h };
              ins = rw (bare_back) (λ b h z. (told.ins b h z).0);
              apart = apart;
            };
      }

-- so each record is that of one table
pub one_table : (T U : Table) → Reached T → Reached U → record_of T ≡ record_of U → T ≡ U
one_table T U r q e =
    sym (record_table (record { table = T; reached = r; is_record = refl }))
    ∙ record_table (record { table = U; reached = q; is_record = sym e })

pub record? : (s : List ℕ) → Dec (IsRecord s)
record? s =
    map_dec
    (λ d. record { table = table_from s; reached = d.0; is_record = d.1 })
    (λ r. rw (record_table r) (r.reached, r.is_record))
    (Dec.and (reached? (table_from s)) (List-discrete ℕ_discrete (record_of (table_from s)) s))
