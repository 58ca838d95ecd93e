-- An accepted opening passes the test, and its ids are good.
use Rattle.promises.proofs.Prelude.{◌≡◌, refl, ◌∙◌, sym, ◌≢◌, List, ℕ, ◌-◌, ◌<◌, arith, dec_lt, length}
use Rattle.rules.specs.Table.{◌!◌}
use Rattle.rules.specs.Changes.{opened, open_s}
use Rattle.sound.specs.Removals.{Ids}
use Rattle.sound.specs.Test.{gone, stays, Test}
use Rattle.rules.specs.Asks.{Opening}
use Rattle.rules.proofs.Lists.{not_apart, length_count, own_at}
use Rattle.rules.proofs.Openings.{length_open_a, open_a_in, open_a_out, length_open_r, open_r_out, open_r_rest, length_open_s, open_s_in, open_s_out}

module _ (a : ℕ) (ids : List ℕ) (o : Opening a ids) where
  abbrev w : ℕ
  w = length ids

  pub open_passes : Test (opened a ids).bare
  unfolding opened
  open_passes =
      record {
        shape = record {
          some = o.some;
          most = o.fit;
          len_A = length_open_a a w o.fit;
          len_K = length_count a 0;
          len_W = length_count a 0;
          len_L = length_count a 0;
          len_R = length_open_r a w o.fit;
        };
        seat = λ x h. elim (dec_lt x w) [
          | yes l ↦ record {
            used = λ e. own_at a x h;
            out = λ ne. absurd (ne (open_a_in a w x l));
            start = stays (rw (open_a_in a w x l) (omega arith)) (own_at a x h) (λ m. own_at a x h);
          }
          | no l ↦ record {
            used = λ e. own_at a x h;
            out = λ ne. rw (open_a_out a w x (omega arith) h) (omega arith, h, open_r_out a w (a - 1 - x) (omega arith) ∙ omega arith);
            start = gone (rw (open_a_out a w x (omega arith) h) (omega arith)) (own_at a x h);
          }
        ];
        removal = λ i h. record {
          taken = λ l. rw (open_r_out a w i l)
              (record {
                below = omega arith;
                dated = open_a_out a w (a - 1 - i) (omega arith) (omega arith);
                last_k = refl;
                moved = λ ne. absurd (ne (own_at a (a - 1 - i) (omega arith)));
              });
          rest = λ l. open_r_rest a w i l;
        };
      }

  -- where an id stands
  named : (x : ℕ) → open_s a ids ! x ≢ 0 → x < w
  named x ne = elim (dec_lt x w) [ yes l ↦ l | no l ↦ absurd (ne (open_s_out a ids x (omega arith))) ]

  pub open_ids : Ids a (opened a ids).bare.A (opened a ids).S
  unfolding opened
  open_ids =
      record {
        size = length_open_s a ids o.fit;
        none = λ x h ne. elim (dec_lt x w) [ yes m ↦ absurd (ne (open_a_in a w x m)) | no m ↦ open_s_out a ids x (omega arith) ];
        some = λ x h e. elim (dec_lt x w) [ yes m ↦ rw (open_s_in a ids x m) (o.each x m) | no m ↦ absurd (omega (arith, open_a_out a w x (omega arith) h)) ];
        apart = λ x y h l ne e.
            let hx : x < w = named x ne in
            let hy : y < w = named y (λ z. ne (e ∙ z)) in
            let same : ids ! x ≡ ids ! y = sym (open_s_in a ids x hx) ∙ e ∙ open_s_in a ids y hy in
            not_apart x y (λ m. o.apart x y m hy same) (λ m. o.apart y x m hx (sym same));
      }
