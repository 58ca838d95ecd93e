-- How many seats are in use below a seat. Taking one seat out makes one less of them, so after k removals a - k of a are left.
use Rattle.promises.proofs.Prelude.{◌≡◌, refl, ◌∙◌, ap, ◌≢◌, List, ℕ, ◌-◌, ◌≤◌, ◌<◌, ◌+◌, suc, zero, add-zero, add-one, arith, ℕ_discrete, length, set}
use Rattle.promises.proofs.Prelude.{length-append, replicate, get_or-set_same, get_or-set_other, ne_eqb, eq-eqb}
use mathlib.Core.Logic.{◌↔◌}
use Rattle.rules.specs.Table.{◌!◌, Bare, Table}
use Rattle.rules.proofs.Lists.{not_apart, zeros_at}
use Rattle.sound.specs.Removals.{after, Takeable}
use Rattle.sound.specs.Test.{Test}
use Rattle.sound.proofs.Made.{after_is, fewer_still, next_leaves}
use Rattle.sound.proofs.Audit.{R_takeable, as_made}
use Rattle.fields.specs.declared.Form.{Form}
use Rattle.fields.specs.Form.{in_length, out_at, in_at}
use Rattle.fields.proofs.Numbers.{length_bytes}
use Rattle.fields.proofs.Places.{in_within}
use Rattle.saved.specs.Record.{in_record, each, seat_record}
use Rattle.saved.specs.Reader.{rank}

module _ (A : List ℕ) (b : ℕ) where
  pub rank_used : A ! b ≡ 0 → rank A (suc b) ≡ suc (rank A b)
  rank_used z = rw (eq-eqb (A ! b) 0 z) (omega arith)

  pub rank_out : A ! b ≢ 0 → rank A (suc b) ≡ rank A b
  rank_out ne = rw (ne_eqb (A ! b) 0 ne) (omega arith)

pub rank_same : (A F : List ℕ) (n : ℕ) → ((x : ℕ) → x < n → (A ! x ≡ 0) ↔ (F ! x ≡ 0)) → rank A n ≡ rank F n
rank_same A F zero h = refl
rank_same A F (suc n) h =
    let before = rank_same A F n (λ x l. h x (omega arith)) in
    elim (ℕ_discrete (A ! n) 0) [
      | yes z ↦ omega (arith, rank_used A n z, rank_used F n ((h n (omega arith)).0 z))
      | no ne ↦ omega (arith, rank_out A n ne, rank_out F n (λ z. ne ((h n (omega arith)).1 z)))
    ]

pub rank_most : (A : List ℕ) (n : ℕ) → rank A n ≤ n
rank_most A zero = omega arith
rank_most A (suc n) = elim (ℕ_discrete (A ! n) 0) [
  | yes z ↦ omega (arith, rank_used A n z, rank_most A n)
  | no ne ↦ omega (arith, rank_out A n ne, rank_most A n)
]

-- a seat in use counts for every seat after it
pub rank_below : (A : List ℕ) (n b : ℕ) → b < n → A ! b ≡ 0 → rank A b < rank A n
rank_below A zero b h z = absurd (omega arith)
rank_below A (suc n) b h z = elim (ℕ_discrete b n) [
  | yes e ↦ let u = rank_used A b z in rw (← e) (omega arith)
  | no ne ↦ omega (arith, rank_below A n b (omega arith) z)
]

-- so two seats in use with as many below them are the same
pub rank_injective : (A : List ℕ) (x y : ℕ) → A ! x ≡ 0 → A ! y ≡ 0 → rank A x ≡ rank A y → x ≡ y
rank_injective A x y zx zy e = not_apart x y (λ l. omega (arith, rank_below A y x l zx)) (λ l. omega (arith, rank_below A x y l zy))

-- and each number below the whole is that of some seat in use
pub rank_onto : (A : List ℕ) (n j : ℕ) → j < rank A n → (x : ℕ) × (x < n) × (A ! x ≡ 0) × (rank A x ≡ j)
rank_onto A zero j h = absurd (omega arith)
rank_onto A (suc n) j h = elim (ℕ_discrete (A ! n) 0) [
  | yes z ↦ elim (ℕ_discrete (rank A n) j) [
    | yes e ↦ (n, omega arith, z, e)
    | no ne ↦ let u = rank_used A n z in let (x, l, z', r) = rank_onto A n j (omega arith) in (x, omega arith, z', r)
  ]
  | no ne ↦ let u = rank_out A n ne in let (x, l, z', r) = rank_onto A n j (omega arith) in (x, omega arith, z', r)
]

rank_full : (a n : ℕ) → rank (replicate a 0) n ≡ n
rank_full a zero = refl
rank_full a (suc n) = rank_used (replicate a 0) n (zeros_at a n) ∙ ap suc (rank_full a n)

module _ (A : List ℕ) (b v : ℕ) (h : b < length A) (z : A ! b ≡ 0) (ne : v ≢ 0) where
  rank_before : (n : ℕ) → n ≤ b → rank (set A b v) n ≡ rank A n
  rank_before n l = rank_same (set A b v) A n (λ x k. rw (get_or-set_other A b x v 0 (omega arith)) (λ z. z, λ z. z))

  rank_set : (n : ℕ) → b < n → suc (rank (set A b v) n) ≡ rank A n
  rank_set zero l = absurd (omega arith)
  rank_set (suc n) l = elim (ℕ_discrete b n) [
    | yes e ↦ rw (← e) (omega (arith, rank_out (set A b v) b (rw (get_or-set_same A b v 0 h) ne), rank_before b (omega arith), rank_used A b z))
    | no other ↦ rw (get_or-set_other A b n v 0 (omega arith)) (omega (arith, rank_set n (omega arith)))
  ]

pub rank_after : (a : ℕ) (rs : List ℕ) (k : ℕ) → Takeable a rs k → rank (after a rs k).A a ≡ a - k
unfolding after
rank_after a rs zero t = rank_full a a ∙ omega arith
rank_after a rs (suc k) t =
    let before : Takeable a rs k = fewer_still t (omega arith) in
    let d = after_is a rs k before in
    let v = next_leaves t d in
    let one = rank_set (after a rs k).A (rs ! k) ((after a rs k).used - 1) (omega arith) v.in_use (omega arith) a (omega arith) in
    omega (arith, rank_after a rs k before)

pub rank_all : (T : Bare) → Test T → rank T.A T.seats ≡ T.used
rank_all T t =
    ap (λ (F : Bare). rank F.A T.seats) (as_made T t)
    ∙ rank_after T.seats T.R (T.seats - T.used) (R_takeable T t)
    ∙ omega (arith, t.shape.most)

module _ (f : Form) where
  pub length_in : (b id : ℕ) → length (in_record f b id) ≡ in_length f
  length_in b id = simp (length-append, length_bytes) (omega arith)

  -- the record of a seat in use ends within those of all seats
  pub seat_within : (A : List ℕ) (m n b : ℕ) → b < n → A ! b ≡ 0 → in_at f m (rank A b) + in_length f ≤ in_at f m (rank A n)
  seat_within A m n b h z = in_within f m (rank A b) (rank A n) (rank_below A n b h z)

  -- the records of the seats below b end where the next seat in use has its own
  pub seats_end : (T : Table) (m b : ℕ) → out_at f m + length (each (seat_record f T) b) ≡ in_at f m (rank T.bare.A b)
  seats_end T m zero = add-zero (out_at f m)
  seats_end T m (suc b) =
      let before = seats_end T m b in
      rw (length-append (each (seat_record f T) b) (seat_record f T b))
      (elim (ℕ_discrete (T.bare.A ! b) 0) [
        | yes z ↦ rw (eq-eqb (T.bare.A ! b) 0 z, length_in, add-one) (omega arith)
        | no ne ↦ rw (ne_eqb (T.bare.A ! b) 0 ne, add-zero (rank T.bare.A b)) (omega arith)
      ])
