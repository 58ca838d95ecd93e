-- The follows are few, since a seat out of use left when at least N others were in use, and a walk follows K once at the most for each seat out of use then.
use Rattle.promises.proofs.Prelude.{◌∙◌, ap, ℕ, ◌≤◌, ◌+◌, ◌*◌, ◌-◌, arith}
use native.Mathlib.Nat.{mul-sub}
use Rattle.rules.specs.Table.{◌!◌}
use Rattle.rules.specs.Keys.{walk}
use Rattle.sound.proofs.Reached.{reached_kept}
use Rattle.lookups.specs.FewFollows.{FewFollows, FewWalks}
use Rattle.lookups.proofs.Walks.{gone}
use Rattle.lookups.proofs.Finds.{lines_reached, every}

pub theorem : FewFollows
theorem T r pick b picks ne =
    let U = T.bare in
    let g = reached_kept r in
    let w = lines_reached T r b (pick b (U.A ! b)) (picks b _ (omega arith)) in (
      _,
      record {
        follows = w.follows;
        is = ap (λ (a : ℕ). walk U.A U.K (U.A ! b) a 0 (pick b (U.A ! b))) g.shape.len_A ∙ w.is;
        few = omega (arith, w.few, gone g b ne);
      },
    )

one_less : (s d n : ℕ) → n + s * 1 ≤ 0 + s * d → n ≤ s * (d - 1)
one_less s d n h = omega (arith, mul-sub s d 1)

pub walks : FewWalks
walks T r pick first picks i = let f = every T r pick first picks i in (f.walks, f.agrees, one_less _ _ _ f.few)
