-- A good record's table is built as it reads: from a full table the removals make the rest, and then each seat gets its server.
use Rattle.promises.proofs.Prelude.{◌≡◌, refl, ◌∙◌, sym, ap, subst, ap₂, List, append-nil, ℕ, ◌-◌, ◌≤◌, ◌<◌, ◌+◌, arith, length, set, length-set, replicate}
use Rattle.rules.specs.Table.{◌!◌, Bare, Table, table, words, base, run_length, table_for}
use Rattle.rules.specs.Changes.{take_out, open_bare, Leaves}
use Rattle.rules.specs.Keys.{full}
use Rattle.rules.proofs.Words.{holds_words, holds_put, table_of_words, length_words}
use Rattle.sound.specs.Test.{Test}
use Rattle.sound.specs.Removals.{after}
use Rattle.sound.proofs.Sound.{sized_parts}
use Rattle.layout.specs.Layout.{Filling}
use Rattle.layout.proofs.Filling.{filling_more, filled_is}
use Rattle.fields.specs.declared.Form.{Form}
use Rattle.fields.specs.Form.{out_length, out_at}
use Rattle.fields.proofs.Places.{out_within, in_first}
use Rattle.saved.specs.Reader.{listed, left_at, server_of, bare_from, table_read}
use Rattle.saved.specs.Fits.{Good}
use Rattle.saved.proofs.Each.{length_listed, listed_at}
use Rattle.saved.proofs.Exact.{bare_next, outs_after, outs_test}
use Rattle.record.specs.Building.{table_at, Laid}

-- a full table is an opening with all seats in use
full_open : (a : ℕ) → open_bare a a ≡ full a
full_open a =
    let none : a - a ≡ 0 = omega arith in
    rw none (λ i. record { seats = a; used = a; A = append-nil (replicate a 0) i; K = (full a).K; W = (full a).W; L = (full a).L; R = (full a).R })

module _ {f : Form} {s : List ℕ} {a n : ℕ} (g : Good f s a n) where
  abbrev m : ℕ
  m = a - n

  laid : (i : ℕ) → i ≤ m → (w S : List ℕ) → length S ≡ a → w ≡ words (table_at f s a m i S) → Laid f s w a m i
  laid i h w S size e =
      let T = table_at f s a m i S in
      let now = outs_after g.head g.body.outs i h in
      let own = sized_parts S refl now.kept.shape (size ∙ sym now.seats) in
      let reads = ap₂ table_for (sym now.seats) e ∙ table_of_words T own in
      record {
        S = S;
        size = size;
        holds = rw e (holds_words T a (sized_parts S now.seats now.kept.shape size));
        reads = reads;
        legal =
            record {
              first = ap (λ (x : List ℕ). x ! 0) e ∙ now.seats;
              some = omega (arith, g.head);
              shape = record { size = ap length e ∙ length_words T own ∙ ap run_length now.seats; most = g.head.most };
            };
        test = subst (λ (U : Table). Test U.bare) (sym reads) (outs_test g.head g.body.outs i h);
      }

  pub laid_none : (w S : List ℕ) → length S ≡ a → w ≡ words (table (open_bare a a) S) → Laid f s w a m 0
  unfolding bare_from after
  laid_none w S size e = laid 0 (omega arith) w S size (e ∙ ap (λ (B : Bare). words (table B S)) (full_open a))

  -- the record of each removal ends within the bytes
  pub out_room : (i : ℕ) → i < m → out_at f i + out_length f ≤ length s
  out_room i h = omega (arith, g.head.long, in_first f m n, out_within f i m h)

  -- the next seat may leave it
  pub laid_leaves : {i : ℕ} {w : List ℕ} → i < m → Laid f s w a m i → Leaves (table_for a w).bare (left_at f s i)
  laid_leaves {i} h l = subst (λ (T : Table). Leaves T.bare (left_at f s i)) (sym l.reads) (g.body.outs i h).leaves

  pub laid_next : (i : ℕ) → i < m → (w w' : List ℕ) (l : Laid f s w a m i) → w' ≡ words (take_out (table_for a w) (left_at f s i)) → Laid f s w' a m (i + 1)
  laid_next i h w w' l e =
      let b = left_at f s i in
      laid (i + 1) (omega arith) w' (set l.S b 0) (length-set l.S b 0 ∙ l.size)
      (rw (bare_next f s a m i h) (e ∙ ap (λ (T : Table). words (take_out T b)) l.reads))

  -- the servers
  abbrev servers : List ℕ
  servers = listed (server_of f s m (bare_from f s a m m).A) a

  -- the run has those of the seats below b
  pub record Served (w : List ℕ) (b : ℕ) : Type 0 where
    pub laid : Laid f s w a m m
    pub filled : Filling (λ k x. x ≡ servers ! k) a b laid.S

  pub served_none : (w : List ℕ) → Laid f s w a m m → Served w 0
  served_none w l = record { laid = l; filled = record { size = l.size; each = λ k h. absurd (omega arith) } }

  pub served_next : (w w' : List ℕ) (b : ℕ) → b < a → Served w b → w' ≡ set w (base a 5 + b) (server_of f s m (bare_from f s a m m).A b) → Served w' (b + 1)
  unfolding laid
  served_next w w' b below v e =
      let S = v.laid.S in
      let x = server_of f s m (bare_from f s a m m).A b in
      record {
        laid = laid m (omega arith) w' (set S b x) (length-set S b x ∙ v.laid.size) (holds_put v.laid.holds 5 b x (omega arith) below e).is;
        filled = filling_more x below (sym (listed_at (server_of f s m (bare_from f s a m m).A) a b below)) v.filled;
      }

  pub served_all : (w : List ℕ) (b : ℕ) → a ≤ b → Served w b → w ≡ words (table_read f s a n)
  unfolding table_read
  served_all w b h v =
      let l = v.laid in
      let all : Filling (λ k x. x ≡ servers ! k) a a l.S = record { size = v.filled.size; each = λ k i. v.filled.each k (omega arith) } in
      let same = filled_is servers (length_listed (server_of f s m (bare_from f s a m m).A) a) (λ k x i e. e) all in
      l.holds.is ∙ ap (λ (S : List ℕ). words (table_at f s a m m S)) same
