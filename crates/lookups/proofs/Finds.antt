-- The two rules go from seat to seat together: at a seat out of use the walk ends at the seat that stood at the position drawn.
-- A falls at each redraw, and is at least N until it is 0; so the redraws end on a seat in use, and are a - N at most. Each follows K
-- a - N times at most.
use Rattle.promises.proofs.Prelude.{◌≡◌, refl, sym, subst, List, [], ℕ, ◌-◌, ◌≤◌, ◌<◌, ◌+◌, ◌*◌, suc, zero, arith, ℕ_discrete, ne_eqb}
use native.Mathlib.Nat.{mul-add}
use Rattle.rules.specs.Table.{◌!◌, Bare, Table}
use Rattle.rules.specs.History.{Reached}
use Rattle.rules.specs.Keys.{Move, full, moves_of, since, Found, on, draw, Looked, found, lookup}
use Rattle.rules.proofs.Accepts.{opening}
use Rattle.sound.specs.Kept.{Kept}
use Rattle.rules.proofs.Lists.{zeros_at}
use Rattle.sound.proofs.Passes.{test_full}
use Rattle.sound.proofs.Reached.{reached_kept}
use Rattle.lookups.specs.EveryTable.{Draws, EveryTable}
use Rattle.rules.proofs.Walks.{walk_end, lookup_here}
use Rattle.lookups.proofs.Walks.{gone}
use Rattle.lookups.proofs.Leads.{leads_seats, history_leads, Lines, lines_since}

-- what both rules find after d draws and f follows, with c redraws at most
pub record Finds (T : Bare) (d f c : ℕ) (looked : Looked) (g : Found) : Type 0 where
  pub walks : ℕ
  pub agrees : looked ≡ found g walks
  pub below : g.seat < T.seats
  pub in_use : T.A ! g.seat ≡ 0
  pub some : d ≤ g.draws
  pub most : g.draws ≤ d + c
  pub few : walks + (T.seats - T.used) * d ≤ f + (T.seats - T.used) * g.draws

module _ (T : Bare) (ms : List Move) (pick : ℕ → ℕ → ℕ) (picks : Draws pick) (g : Kept T) (lines : Lines T (λ x. since x [] (full T.seats) ms)) where
  draw_here : (fuel d b : ℕ) → T.A ! b ≡ 0 → draw T ms pick fuel d b ≡ on b d
  unfolding draw
  draw_here zero d b z = refl
  draw_here (suc fuel) d b z = rw z

  here : (fuel more c d f b : ℕ) → b < T.seats → T.A ! b ≡ 0 → Finds T d f c (lookup T.A T.K pick fuel d f b) (draw T ms pick more d b)
  here fuel more c d f b i z = rw (lookup_here T.A T.K pick fuel d f b z, draw_here more d b z)
      (record { walks = f; agrees = refl; below = i; in_use = z; some = omega arith; most = omega arith; few = omega arith })

  pub finds : (fuel more c d f b : ℕ) → b < T.seats → T.A ! b ≤ fuel → T.A ! b ≤ more → suc (T.A ! b) ≤ T.used + c
      → Finds T d f c (lookup T.A T.K pick fuel d f b) (draw T ms pick more d b)
  unfolding draw lookup
  finds zero more c d f b i h l m = here zero more c d f b i (omega arith)
  finds (suc fuel) zero c d f b i h l m = here (suc fuel) zero c d f b i (omega arith)
  finds (suc fuel) (suc more) c d f b i h l m = elim (ℕ_discrete (T.A ! b) 0) [
    | yes z ↦ here (suc fuel) (suc more) c d f b i z
    | no ne ↦
        let len_A = g.shape.len_A in
        let w = lines b (pick b (T.A ! b)) (picks b _ (omega arith)) in
        let end = walk_end T.A T.K (T.A ! b) T.seats 0 _ w.is in
        let late = gone g b ne in
        let r = finds fuel more (c - 1) (d + 1) (f + w.follows) (since b [] (full T.seats) ms ! pick b (T.A ! b)) (omega (arith, end.0))
        (omega (arith, end.1)) (omega (arith, end.1)) (omega (arith, end.1)) in
        rw (ne_eqb (T.A ! b) 0 ne, len_A, w.is)
        (record {
          walks = r.walks;
          agrees = r.agrees;
          below = r.below;
          in_use = r.in_use;
          some = omega (arith, r.some);
          most = omega (arith, r.most, r.some);
          few = omega (arith, r.few, w.few, mul-add (T.seats - T.used) d 1);
        })
  ]

module _ (T : Table) (r : Reached T) where
  -- the moves that left the table
  abbrev moves : List Move
  moves = moves_of r.a r.ids r.history

  pub lines_reached : Lines T.bare (λ x. since x [] (full T.bare.seats) moves)
  lines_reached =
      let run = history_leads r in
      let lines = lines_since run (test_full r.a (omega (arith, opening r.opens))) (λ x. []) (λ x q h. absurd (omega (arith, zeros_at r.a x))) in
      subst (λ (a : ℕ). Lines T.bare (λ x. since x [] (full a) moves)) (sym (leads_seats run)) lines

-- from the first seat, on every table that a history leaves
pub every : EveryTable (λ T looked f. Finds T.bare 1 0 (T.bare.seats - T.bare.used) looked f)
every T r pick first picks i =
    let U = T.bare in
    let g = reached_kept r in
    let low : U.A ! first < U.seats = elim (ℕ_discrete (U.A ! first) 0) [ yes z ↦ omega arith | no ne ↦ (g.order.each first i ne).1 ] in
    finds U (moves T r) pick picks g (lines_reached T r) (U.A ! first) U.seats (U.seats - U.used) 1 0 first i (omega arith) (omega arith) (omega arith)
