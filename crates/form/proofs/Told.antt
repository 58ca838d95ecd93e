-- A flag for each seat out of use tells what A tells: taking a seat out makes both not 0. So the records of the seats without a flag are those of the
-- seats in use; and what the tests tell together.
use Rattle.std.specs.Prelude.{Option, Some, None}
use Rattle.promises.proofs.Prelude.{◌≡◌, refl, ◌∙◌, sym, ap₂, true, Bool, ◌&&◌, below_more, List, ℕ, ◌-◌, ◌≤◌, ◌<◌, ◌+◌, arith, ℕ_discrete, length, set, length-set, replicate}
use Rattle.promises.proofs.Prelude.{length-replicate, get_or-set_same, get_or-set_other}
use mathlib.Core.Logic.{◌↔◌}
use Rattle.rules.specs.Table.{◌!◌, most_seats}
use Rattle.rules.specs.Changes.{Leaves}
use Rattle.rules.proofs.Lists.{zeros_at}
use Rattle.promises.specs.Decides.{Decides}
use Rattle.promises.proofs.Decided.{decides_iff, decides_both}
use Rattle.sound.specs.Removals.{after}
use Rattle.fields.specs.declared.Form.{Form}
use Rattle.fields.specs.Form.{out_length, in_length, out_at, in_at}
use Rattle.fields.proofs.Places.{out_within, in_within, in_first}
use Rattle.saved.specs.Record.{IsRecord}
use Rattle.saved.specs.Reader.{rank, bare_from, left_at}
use Rattle.saved.specs.Fits.{HeadFits, AllIn, New, AllNew, BodyFits, Good}
use Rattle.saved.proofs.Ranks.{rank_same}
use Rattle.saved.proofs.Back.{marked, named, record_good, record?}
use Rattle.saved.proofs.Exact.{outs_rank, good_record, bare_counts, bare_next}
use Rattle.form.specs.declared.Recorded.{Recorded}
use Rattle.form.specs.Form.{form_in, form_of}
use Rattle.form.specs.declared.Head.{Head}
use Rattle.form.specs.Tests.{FormTold}
use Rattle.form.specs.Heads.{removals, bare_at, Noting, OutsTold}

module _ (h : Head) where
  abbrev f : Form
  f = h.form

  abbrev s : List ℕ
  s = h.bytes.now

  abbrev m : ℕ
  m = removals h

  -- the records of the removals, and of the seats in use, end within the bytes
  pub out_room : (i : ℕ) → i < m → out_at f i + out_length f ≤ length s
  out_room i l = omega (arith, h.fits.long, in_first f m h.used, out_within f i m l)

  pub in_room : (j : ℕ) → j < h.used → in_at f m j + in_length f ≤ length s
  in_room j l = omega (arith, h.fits.long, in_within f m j h.used l)

  -- nobody has left
  pub noted_none : (flags : List ℕ) → flags ≡ replicate most_seats 0 → Noting h 0 flags
  unfolding bare_from after
  noted_none flags e = rw e (record { size = length-replicate {A = ℕ} most_seats 0; same = λ x l. (λ z. zeros_at h.seats x, λ z. zeros_at most_seats x) })

  module _ (i : ℕ) (early : i < m) where
    -- the next seat leaves
    pub leaves_next : left_at f s i < h.seats → (bare_at h i).A ! left_at f s i ≡ 0 → Leaves (bare_at h i) (left_at f s i)
    leaves_next l z = let c = bare_counts f s h.seats m i in record { below = omega arith; in_use = z; two = omega (arith, h.fits) }

    pub noted_more : (flags : List ℕ) → left_at f s i < h.seats → Noting h i flags → Noting h (i + 1) (set flags (left_at f s i) 1)
    noted_more flags l n =
        let c = bare_counts f s h.seats m i in
        let A = (bare_at h i).A in
        let b = left_at f s i in
        let v = (bare_at h i).used - 1 in
        rw (bare_next f s h.seats m i early)
        (record {
          size = length-set flags b 1 ∙ n.size;
          same = λ x k. elim (ℕ_discrete x b) [
            | yes q ↦ rw (q, get_or-set_same flags b 1 0 (omega (arith, n.size, h.fits.most)), get_or-set_same A b v 0 (omega arith)) (omega (arith, h.fits))
            | no ne ↦ rw (get_or-set_other flags b x 1 0 ne, get_or-set_other A b x v 0 ne) (n.same x k)
          ];
        })

-- the records of seats are the same by any list that is 0 at the same seats
same_ins : {f : Form} {s : List ℕ} (m : ℕ) (A B : List ℕ) {n : ℕ} → ((x : ℕ) → x < n → (A ! x ≡ 0) ↔ (B ! x ≡ 0)) → AllIn f s m A n → AllIn f s m B n
same_ins m A B same all b h z = rw (rank_same A B b (λ x l. same x (omega arith))) at (all b h ((same b h).1 z))

module _ (h : Head) where
  -- two servers more are new
  pub pair_more : (j n : ℕ) → n ≡ j + 2 → (all two : Bool) → Decides all (AllNew h.form h.bytes.now (removals h) j)
      → Decides two (New h.form h.bytes.now (removals h) j × New h.form h.bytes.now (removals h) (j + 1)) → Decides (all && two) (AllNew h.form h.bytes.now (removals h) n)
  pair_more j n e all two =
      let P = New h.form h.bytes.now (removals h) in
      decides_both all two (λ before pair k l. below_more P (j + 1) (below_more P j before pair.0) pair.1 k (omega arith))
      (λ every k l. every k (omega arith)) (λ every. (every j (omega arith), every (j + 1) (omega arith)))

  module _ {flags : List ℕ} (o : OutsTold h true flags) where
    pub ins_ready : (h.seats ≤ length flags) × (rank flags h.seats ≡ h.used)
    ins_ready = (omega (arith, h.fits.most, o.1.size), rank_same flags _ h.seats o.1.same ∙ outs_rank h.fits o.0)

    pub body_told : (t : Bool) → AllIn h.form h.bytes.now (removals h) flags h.seats → Decides t (AllNew h.form h.bytes.now (removals h) h.used)
        → Decides t (BodyFits h.form h.bytes.now h.seats h.used)
    body_told t ins = decides_iff t (λ apart. record { outs = o.0; ins = same_ins _ flags _ o.1.same ins; apart = apart }) (λ b. b.apart)

    pub body_ins : (AllIn h.form h.bytes.now (removals h) flags h.seats → ⊥) → BodyFits h.form h.bytes.now h.seats h.used → ⊥
    body_ins fails b = fails (same_ins _ _ flags (λ x l. ((o.1.same x l).1, (o.1.same x l).0)) b.ins)

-- the head has one a and N, so if the body does not fit them nothing fits
pub other_body : {f : Form} {s : List ℕ} {a n : ℕ} → HeadFits f s a n → (BodyFits f s a n → ⊥) → (a' n' : ℕ) → Good f s a' n' → ⊥
other_body head fails a' n' g = fails (rw (sym g.head.is_a ∙ head.is_a, sym g.head.is_N ∙ head.is_N) at g.body)

-- a record in one form is a record; and no record in one form is none, where it is none in any
pub form_told : (f : Form) (s : List ℕ) → ((i : ℕ) → s ! i < 256) → (FormTold f s None → (g : Form) → FormTold g s None) → (r : Option Recorded) → FormTold f s r → r ≡ form_of s
unfolding form_of
form_told f s byte all r told = go r told (record? s)
  where
    go : (r : Option Recorded) → FormTold f s r → (d : Dec (IsRecord s)) → r ≡ form_in d
    go None none (yes r) = absurd (all none _ _ _ (record_good r))
    go None none (no m) = refl
    go (Some q) g (no m) = absurd (m (good_record f s byte q.seats q.used g))
    go (Some q) g (yes r) =
        let h = rw (sym (named r) ∙ marked f s g.head.mark) at (record_good r).head in
        ap₂ (λ (a n : ℕ). Some (record { seats = a; used = n })) (sym g.head.is_a ∙ h.is_a) (sym g.head.is_N ∙ h.is_N)
