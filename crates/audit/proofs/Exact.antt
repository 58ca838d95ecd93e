-- The pass is exact: a run of legal shape is sound if and only if N is from 1 to a, every index passes and no id occurs twice.
use Rattle.promises.proofs.Prelude.{◌≡◌, ◌∙◌, sym, ◌≢◌, false, List, ℕ, ◌<◌, ◌+◌, ◌^◌, arith, length}
use Rattle.rules.specs.Table.{◌!◌, Table, part_count, base, part, table_for, table_of}
use Rattle.rules.specs.History.{Sound}
use Rattle.rules.specs.Ids.{repeats}
use Rattle.rules.specs.Runs.{Legal}
use Rattle.rules.proofs.Words.{part_length, part_word}
use Rattle.sound.specs.Removals.{Ids}
use Rattle.sound.specs.Test.{Passes}
use Rattle.sound.proofs.Reached.{passes, reached}
use Rattle.sound.proofs.Sound.{sound_table, table_sound}
use Rattle.rules.proofs.Lists.{not_apart}
use Rattle.rules.proofs.Ids.{apart, not_repeats}
use Rattle.audit.specs.Pass.{HeadPasses, AllPass}

pub record Pass (w : List ℕ) (a : ℕ) : Type 0 where
  pub head : HeadPasses w a
  pub all : AllPass (table_for a w) a
  pub once : repeats (table_for a w).S ≡ false

module _ (w : List ℕ) (legal-w : Legal w (w ! 0)) where
  abbrev T : Table
  T = table_of w

  long : (k : ℕ) → k < part_count → length (part (w ! 0) k w) ≡ w ! 0
  long k h = part_length w k legal-w.shape.size h

  module _ (p : Pass w (w ! 0)) (word : (i : ℕ) → w ! i < 2 ^ 32) where
    same_id : (x y : ℕ) → x < w ! 0 → y < w ! 0 → T.S ! x ≢ 0 → T.S ! x ≡ T.S ! y → x ≡ y
    same_id x y h l ne e =
        let size = long 5 (omega arith) in
        not_apart x y (λ m. apart T.S p.once x y m (omega arith) ne e) (λ m. apart T.S p.once y x m (omega arith) (λ z. ne (e ∙ z)) (sym e))

    good_ids : Ids (w ! 0) T.bare.A T.S
    good_ids =
        record {
          size = long 5 (omega arith);
          none = λ x h. (p.all x h).seat.none;
          some = λ x h e. ((p.all x h).seat.some e, rw (part_word w (w ! 0) 5 x h) (word (base (w ! 0) 5 + x)));
          apart = same_id;
        }

    passing : Passes T
    passing =
        record {
          most = legal-w.shape.most;
          test = record {
            shape = record {
              some = p.head.some;
              most = p.head.most;
              len_A = long 0 (omega arith);
              len_K = long 1 (omega arith);
              len_W = long 2 (omega arith);
              len_L = long 3 (omega arith);
              len_R = long 4 (omega arith);
            };
            seat = λ x h. (p.all x h).seat.words;
            removal = λ i h. (p.all i h).removal;
          };
          ids = good_ids;
        }

    pub pass_sound : Sound w
    pass_sound = table_sound legal-w.shape.size (reached passing)

  pub sound_pass : Sound w → Pass w (w ! 0)
  sound_pass s =
      let p = passes (sound_table s) in
      let t = p.test in
      record {
        head = record { some = t.shape.some; most = t.shape.most };
        all = λ x h. record { seat = record { words = t.seat x h; some = λ e. (p.ids.some x h e).0; none = p.ids.none x h }; removal = t.removal x h };
        once = not_repeats T.S (λ i j h l ne e. omega (arith, p.ids.size, p.ids.apart i j (omega (arith, p.ids.size)) (omega (arith, p.ids.size)) ne e));
      }
