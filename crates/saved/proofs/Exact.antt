-- The test that load makes is exact: a record passes it (`Back`), and bytes that pass it are a record. For the table that they
-- read as is made by its removals and has good ids, so it is sound, and each field of its record stands where it was read.
use Rattle.promises.proofs.Prelude.{◌≡◌, ◌∙◌, sym, ap, ◌≢◌, List, ℕ, ◌-◌, ◌≤◌, ◌<◌, ◌+◌, add-one, arith, ℕ_discrete, length, ne_eqb, eq-eqb}
use Rattle.rules.specs.Table.{◌!◌, Bare, table}
use Rattle.rules.specs.Changes.{out}
use Rattle.rules.proofs.Lists.{not_apart}
use Rattle.sound.specs.Removals.{after, Takeable}
use Rattle.sound.proofs.Made.{After, after_counts, after_is, fewer_still, takeable_each}
use Rattle.sound.proofs.Passes.{made_passes}
use Rattle.sound.specs.Test.{Test, Passes}
use Rattle.sound.proofs.Reached.{reached}
use Rattle.fields.specs.declared.Form.{Form}
use Rattle.fields.specs.Form.{form_for, server_length, out_length, in_at}
use Rattle.fields.proofs.Numbers.{number_below}
use Rattle.saved.specs.Record.{record_in, IsRecord}
use Rattle.saved.specs.Reader.{listed, rank, left_at, server_at, server_of, bare_from}
use Rattle.saved.specs.Fits.{HeadFits, AllOut, Good}
use Rattle.saved.proofs.Each.{length_listed, listed_at}
use Rattle.saved.proofs.Ranks.{rank_below, rank_injective, rank_after}
use Rattle.saved.proofs.Holds.{is_record_lem}

-- the table before each removal
module _ (f : Form) (s : List ℕ) (a m i : ℕ) where
  pub bare_counts : ((bare_from f s a m i).seats ≡ a) × ((bare_from f s a m i).used ≡ a - i) × (length (bare_from f s a m i).A ≡ a)
  unfolding bare_from
  bare_counts = after_counts a (listed (left_at f s) m) i

  pub bare_next : i < m → bare_from f s a m (i + 1) ≡ out (bare_from f s a m i) (left_at f s i)
  unfolding bare_from after
  bare_next h = rw (add-one, listed_at (left_at f s) m i h)

-- removals that fit make a table, in which all other seats are in use
module _ {f : Form} {s : List ℕ} {a n : ℕ} (head : HeadFits f s a n) (outs : AllOut f s a (a - n) (a - n)) where
  abbrev left : List ℕ
  left = listed (left_at f s) (a - n)

  pub outs_takeable : Takeable a left (a - n)
  unfolding bare_from
  outs_takeable = takeable_each a left (a - n) (omega (arith, head)) (λ i h. rw (listed_at (left_at f s) (a - n) i h) (outs i h).leaves)

  pub outs_after : (i : ℕ) → i ≤ a - n → After a left i (bare_from f s a (a - n) i)
  unfolding bare_from
  outs_after i h = after_is a left i (fewer_still outs_takeable h)

  pub outs_test : (i : ℕ) → i ≤ a - n → Test (bare_from f s a (a - n) i)
  unfolding bare_from
  outs_test i h = made_passes a left i (fewer_still outs_takeable h)

  pub outs_rank : rank (bare_from f s a (a - n) (a - n)).A a ≡ n
  unfolding bare_from
  outs_rank = rank_after a left (a - n) outs_takeable ∙ omega (arith, head)

-- what bytes that pass read as
module _ (f : Form) (s : List ℕ) (byte : (i : ℕ) → s ! i < 256) (a n : ℕ) (g : Good f s a n) where
  abbrev m : ℕ
  m = a - n

  abbrev F : Bare
  F = bare_from f s a m m

  made : After a (listed (left_at f s) m) m F
  made = outs_after g.head g.body.outs m (omega arith)

  used : F.used ≡ n
  used = made.used ∙ omega (arith, g.head)

  abbrev servers : List ℕ
  servers = listed (server_of f s m F.A) a

  server_in : (x : ℕ) → x < a → F.A ! x ≡ 0 → servers ! x ≡ server_at f s m (rank F.A x)
  server_in x h z = listed_at (server_of f s m F.A) a x h ∙ rw (eq-eqb (F.A ! x) 0 z)

  server_out : (x : ℕ) → x < a → F.A ! x ≢ 0 → servers ! x ≡ 0
  server_out x h ne = listed_at (server_of f s m F.A) a x h ∙ rw (ne_eqb (F.A ! x) 0 ne)

  named : (x : ℕ) → x < a → servers ! x ≢ 0 → F.A ! x ≡ 0
  named x h ne = elim (ℕ_discrete (F.A ! x) 0) [ yes z ↦ z | no o ↦ absurd (ne (server_out x h o)) ]

  different : (x y : ℕ) → x < a → y < a → servers ! x ≢ 0 → servers ! x ≡ servers ! y → x ≡ y
  different x y hx hy ne e =
      let zx = named x hx ne in
      let zy = named y hy (λ z. ne (e ∙ z)) in
      let i = rank F.A x in
      let j = rank F.A y in
      let same : server_at f s m i ≡ server_at f s m j = sym (server_in x hx zx) ∙ e ∙ server_in y hy zy in
      let ranks = outs_rank g.head g.body.outs in
      let below-x = rank_below F.A a x hx zx in
      let below-y = rank_below F.A a y hy zy in
      rank_injective F.A x y zx zy
      (not_apart i j (λ l. g.body.apart j (omega arith) i l same) (λ l. g.body.apart i (omega arith) j l (sym same)))

  read_passes : Passes (table F servers)
  read_passes =
      record {
        most = rw made.seats g.head.most;
        test = outs_test g.head g.body.outs m (omega arith);
        ids =
            rw made.seats
            (record {
              size = length_listed (server_of f s m F.A) a;
              none = λ x h l. server_out x h (omega arith);
              some = λ x h z. rw (server_in x h z) ((g.body.ins x h z).some, number_below s byte server_length (in_at f m (rank F.A x) + out_length f));
              apart = different;
            });
      }

  pub good_record : IsRecord s
  good_record =
      record {
        table = table F servers;
        reached = reached read_passes;
        is_record =
            ap (λ (h : Form). record_in h (table F servers)) (ap form_for made.seats ∙ g.own)
            ∙ is_record_lem f (table F servers) s byte read_passes
            (record {
              head = rw (made.seats, used) g.head;
              outs = λ i h. let l : i < m = omega (arith, made.seats, used) in ((g.body.outs i l).mark, sym (made.left i l ∙ listed_at (left_at f s) m i l));
              ins = λ b h z. let l : b < a = omega (arith, made.seats) in rw (made.seats, used) (g.body.ins b l z, sym (server_in b l z));
            });
      }
