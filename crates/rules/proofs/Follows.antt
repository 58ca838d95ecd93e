-- A walk's count is how often it followed K, since it goes on by one follow exactly where A is m or more.
use Rattle.promises.proofs.Prelude.{◌≡◌, refl, ◌∙◌, List, ℕ, ◌≤◌, ◌<◌, ◌+◌, suc, zero, arith, length}
use Rattle.rules.specs.Table.{◌!◌}
use Rattle.rules.specs.Keys.{at, walk}
use Rattle.rules.specs.Follows.{along, Followed, CountsFollows}
use Rattle.rules.proofs.Walks.{never, stops, goes, comes_zero, comes_suc, walk_stops, walk_goes}

-- e is n and what was followed since
record Since (A K : List ℕ) (m fuel n h x e : ℕ) : Type 0 where
  count : ℕ
  sum : n + count ≡ e
  most : count ≤ fuel
  followed : Followed A K m h x count

module _ (A K : List ℕ) (m : ℕ) where
  followed_none : (h x : ℕ) → h ≡ x → h < length A → A ! h < m → Followed A K m h x 0
  followed_none h x e i l = rw (← e) (record {
    there = refl;
    ends = l;
    goes_on = λ j k. absurd (omega arith);
    seats = λ j k. let z : j ≡ 0 = omega arith in rw z i;
  })

  followed_one : (h x n : ℕ) → h < length A → m ≤ A ! h → Followed A K m (K ! h) x n → Followed A K m h x (suc n)
  followed_one h x n i l f = record { there = f.there; ends = f.ends; goes_on = on; seats = inside }
    where
      on : (j : ℕ) → j < suc n → m ≤ A ! along K j h
      on zero k = l
      on (suc j) k = f.goes_on j (omega arith)

      inside : (j : ℕ) → j ≤ suc n → along K j h < length A
      inside zero k = i
      inside (suc j) k = f.seats j (omega arith)

  counted : {x e : ℕ} (fuel n h : ℕ) → walk A K m fuel n h ≡ at x e → Since A K m fuel n h x e
  counted zero n h e = elim (comes_zero A K m n h e) [
    | stops l i k c ↦ record { count = 0; sum = omega arith; most = omega arith; followed = followed_none h _ k i l }
    | goes l i k ↦ absurd (never k)
  ]
  counted (suc fuel) n h e = elim (comes_suc A K m fuel n h e) [
    | stops l i k c ↦ record { count = 0; sum = omega arith; most = omega arith; followed = followed_none h _ k i l }
    | goes l i k ↦
        let s = counted fuel (n + 1) (K ! h) k in
        record { count = suc s.count; sum = omega (arith, s.sum); most = omega (arith, s.most); followed = followed_one h _ _ i l s.followed }
  ]

  walked : (k fuel n h x e : ℕ) → Followed A K m h x k → k ≤ fuel → n + k ≡ e → walk A K m fuel n h ≡ at x e
  walked zero fuel n h x e f l c =
      let same : n ≡ e = omega arith in
      rw (← same, ← f.there) (walk_stops A K m fuel n h (f.seats 0 (omega arith)) (rw f.there f.ends))
  walked (suc k) zero n h x e f l c = absurd (omega arith)
  walked (suc k) (suc fuel) n h x e f l c =
      let more : Followed A K m (K ! h) x k = record {
        there = f.there;
        ends = f.ends;
        goes_on = λ i j. f.goes_on (suc i) (omega arith);
        seats = λ i j. f.seats (suc i) (omega arith);
      } in
      walk_goes A K m fuel n h (f.seats 0 (omega arith)) (f.goes_on 0 (omega arith)) ∙ walked k fuel (n + 1) (K ! h) x e more (omega arith) (omega arith)

pub theorem : CountsFollows
theorem A K m fuel h x n = (
  λ e. let s = counted A K m fuel 0 h e in let same : s.count ≡ n = omega (arith, s.sum) in rw (← same) (s.followed, s.most),
  λ f l. walked A K m n fuel 0 h x n f l (omega arith),
)
