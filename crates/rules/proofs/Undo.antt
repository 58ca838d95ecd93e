-- Seating undoes taking out: each word that taking b out wrote is written again, with what stood there before. L[W[N]] is one of them.
use Rattle.promises.proofs.Prelude.{◌≡◌, ◌∙◌, ap, ap₂, List, ℕ, ◌-◌, ◌≤◌, ◌+◌, arith, length, set, get_or-set_same}
use lib.Seq.{set-set}
use Rattle.rules.specs.Table.{◌!◌, Bare, Table, with_bare, with_ids}
use Rattle.rules.specs.Changes.{out, seat, last_out, take_out, seat_id}
use Rattle.rules.proofs.Lists.{keeps, set_back}

-- what taking b out and seating ask of a table: b is in use, and stands in the line; so does the line's last seat
pub record Undoable (T : Bare) (b : ℕ) : Type 0 where
  pub some : 1 ≤ T.used
  pub most : T.used ≤ T.seats
  pub len_R : length T.R ≡ T.seats
  pub in_use : T.A ! b ≡ 0
  pub own_K : T.K ! b ≡ b
  pub position : T.W ! (T.L ! b) ≡ b
  pub last : T.L ! (T.W ! (T.used - 1)) ≡ T.used - 1
  pub rest : T.R ! (T.seats - T.used) ≡ 0

module _ {T : Bare} {b : ℕ} (s : Undoable T b) where
  abbrev end : ℕ
  end = T.seats - T.used

  end_same : T.seats - (T.used - 1) - 1 ≡ end
  end_same = omega (arith, s.some, s.most)

  end_b : set T.R end b ! end ≡ b
  end_b = get_or-set_same T.R end b 0 (omega (arith, s.some, s.most, s.len_R))

  -- the seat taken out is the last one out
  pub last_out_lem : last_out (out T b) ≡ b
  last_out_lem = rw end_same end_b

  -- the seat that stands last has its position back
  pub L_back : (seat (out T b)).L ≡ T.L
  L_back =
      let n = T.used - 1 in
      let p = T.L ! b in
      let last = T.W ! n in
      ap (λ (x : ℕ). set (set T.L last p) x n) (keeps T.W p n) ∙ set_back T.L last p n s.last

  pub undo : seat (out T b) ≡ T
  undo =
      let n = T.used - 1 in
      let p = T.L ! b in
      let last = T.W ! n in
      let N-back : n + 1 ≡ T.used = omega (arith, s.some) in
      rw (end_same, end_b, L_back)
      (λ i. record {
        seats = T.seats;
        used = N-back i;
        A = set_back T.A b n 0 s.in_use i;
        K = set_back T.K b last b s.own_K i;
        W = set_back T.W p last b s.position i;
        L = T.L;
        R = set_back T.R end b 0 s.rest i;
      })

-- with the ids: every word is as it was, except the id in that one seat
pub undo_id : (T : Table) (b id : ℕ) → Undoable T.bare b → seat_id (take_out T b) id ≡ with_ids T (set T.S b id)
undo_id T b id s =
    let S-back = ap (λ (x : ℕ). set (set T.S b 0) x id) (last_out_lem s) ∙ set-set T.S b 0 id in
    ap₂ (λ (B : Bare) (S : List ℕ). with_ids (with_bare T B) S) (undo s) S-back
