-- What a table is that is made by taking the seats rs out, in order, of a full one; and that seating undoes the last.
use Rattle.promises.proofs.Prelude.{◌≡◌, refl, ◌∙◌, sym, ap, ap₂, List, ℕ, ◌-◌, ◌≤◌, ◌<◌, suc, zero, arith, ℕ_discrete, length, length-set, length-replicate}
use Rattle.rules.specs.Table.{◌!◌, Bare}
use Rattle.rules.specs.Changes.{out, seat, Leaves}
use Rattle.rules.proofs.Undo.{Undoable, undo}
use Rattle.sound.specs.Kept.{Kept}
use Rattle.sound.specs.Removals.{after, Takeable}
use Rattle.sound.proofs.Written.{written}
use Rattle.sound.proofs.KeptOut.{kept_full, kept_out}

-- the table after the first k of rs
pub record After (a : ℕ) (rs : List ℕ) (k : ℕ) (T : Bare) : Type 0 where
  pub seats : T.seats ≡ a
  pub used : T.used ≡ a - k
  pub kept : Kept T
  pub left : (i : ℕ) → i < k → T.R ! i ≡ rs ! i

pub fewer_still : {a : ℕ} {rs : List ℕ} {k j : ℕ} → Takeable a rs k → j ≤ k → Takeable a rs j
fewer_still t h = record { fewer = omega arith; below = λ i l. t.below i (omega arith); apart = λ i j l m. t.apart i j l (omega arith) }

-- whatever rs has, each of them is one seat less in use
pub after_counts : (a : ℕ) (rs : List ℕ) (k : ℕ) → ((after a rs k).seats ≡ a) × ((after a rs k).used ≡ a - k) × (length (after a rs k).A ≡ a)
unfolding after
after_counts a rs zero = (refl, omega arith, length-replicate a 0)
after_counts a rs (suc k) =
    let d = after_counts a rs k in
    (d.0, omega (arith, d.1), length-set (after a rs k).A (rs ! k) ((after a rs k).used - 1) ∙ d.2)

-- the next of rs is in use
module _ {a : ℕ} {rs : List ℕ} {k : ℕ} {T : Bare} (t : Takeable a rs (suc k)) (d : After a rs k T) where
  pub next_leaves : Leaves T (rs ! k)
  next_leaves =
      let below = t.below k (omega arith) in
      record {
        below = omega arith;
        in_use = elim (ℕ_discrete (T.A ! (rs ! k)) 0) [
          | yes e ↦ e
          | no ne ↦
              let o = d.kept.order.each (rs ! k) (omega arith) ne in
              absurd (t.apart _ k (omega arith) (omega arith) (sym (d.left _ (omega arith)) ∙ o.2))
        ];
        two = omega arith;
      }

  pub next : After a rs (suc k) (out T (rs ! k))
  next =
      let w = written d.kept next_leaves in
      record {
        seats = d.seats;
        used = omega arith;
        kept = kept_out d.kept next_leaves;
        left = λ i h. elim (ℕ_discrete i k) [
          | yes e ↦ ap (λ (j : ℕ). (out T (rs ! k)).R ! j) (omega arith) ∙ w.R_at ∙ ap (λ (j : ℕ). rs ! j) (sym e)
          | no ne ↦ w.R_off i (omega arith) ∙ d.left i (omega arith)
        ];
      }

pub after_is : (a : ℕ) (rs : List ℕ) (k : ℕ) → Takeable a rs k → After a rs k (after a rs k)
unfolding after
after_is a rs zero t = record { seats = refl; used = omega arith; kept = kept_full a (omega arith); left = λ i h. absurd (omega arith) }
after_is a rs (suc k) t = next t (after_is a rs k (fewer_still t (omega arith)))

-- seats that leave one after the other, each in use when it leaves, are distinct
pub takeable_each : (a : ℕ) (rs : List ℕ) (k : ℕ) → 1 ≤ a → ((i : ℕ) → i < k → Leaves (after a rs i) (rs ! i)) → Takeable a rs k
takeable_each a rs zero some each = record { fewer = omega arith; below = λ i h. absurd (omega arith); apart = λ i j h l. absurd (omega arith) }
takeable_each a rs (suc k) some each =
    let t = takeable_each a rs k some (λ i h. each i (omega arith)) in
    let d = after_is a rs k t in
    let v = each k (omega arith) in
    record {
      fewer = omega arith;
      below = λ i h. elim (ℕ_discrete i k) [ yes e ↦ rw e (omega arith) | no ne ↦ t.below i (omega arith) ];
      apart = λ i j h l. elim (ℕ_discrete j k) [
        | yes e ↦ rw e (λ q. omega (arith, ap (λ (x : ℕ). (after a rs k).A ! x) (d.left i (omega arith) ∙ q), (d.kept.order.taken i (omega arith)).1))
        | no ne ↦ t.apart i j h (omega arith)
      ];
    }

-- only the first k of rs matter
pub after_first : (a : ℕ) (rs ss : List ℕ) (k : ℕ) → ((i : ℕ) → i < k → rs ! i ≡ ss ! i) → after a rs k ≡ after a ss k
unfolding after
after_first a rs ss zero h = refl
after_first a rs ss (suc k) h = ap₂ out (after_first a rs ss k (λ i l. h i (omega arith))) (h k (omega arith))

-- a seat that may leave stands in the line
pub leaves_stands : {T : Bare} {b : ℕ} → Kept T → Leaves T b → Undoable T b
leaves_stands {T} {b} g v =
    let s = g.seated b v.below v.in_use in
    let l = g.line (T.used - 1) (omega arith) in
    let sh = g.shape in
    record { some = sh.some; most = sh.most; len_R = sh.len_R; in_use = v.in_use; own_K = s.0; position = s.2; last = l.2; rest = g.order.rest _ (omega arith) }

-- so seating puts back what taking out wrote
pub undone : {T : Bare} {b : ℕ} → Kept T → Leaves T b → seat (out T b) ≡ T
undone g v = undo (leaves_stands g v)
