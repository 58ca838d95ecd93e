-- Document 01, 'Changes': what opening, taking out and seating leave, word by word.
use Rattle.std.specs.Prelude.{◌≡◌, List, [], ◌∷◌, ◌++◌, ℕ, zero, suc, ◌+◌, ◌-◌, ◌<◌, ◌≤◌, length, set, replicate}
use Rattle.rules.specs.Table.{◌!◌, Bare, Table, table, with_bare, with_ids}

-- i, i + 1, .. : n numbers
abbrev pub count : ℕ → ℕ → List ℕ
count zero i = []
count (suc n) i = i ∷ count n (suc i)

-- i, i - 1, .. : n numbers
abbrev pub down : ℕ → ℕ → List ℕ
down zero i = []
down (suc n) i = i ∷ down n (i - 1)

-- Opening with a and a list of w ids: A is 0 below w, and b at b from there on; K, W and L have b at b; a - 1 down to w are in R
abbrev pub open_a : ℕ → ℕ → List ℕ
open_a a w = replicate w 0 ++ count (a - w) w

abbrev pub open_r : ℕ → ℕ → List ℕ
open_r a w = down (a - w) (a - 1) ++ replicate w 0

abbrev pub open_bare : ℕ → ℕ → Bare
open_bare a w = record { seats = a; used = w; A = open_a a w; K = count a 0; W = count a 0; L = count a 0; R = open_r a w }

-- seat i gets id i of the list
abbrev pub open_s : ℕ → List ℕ → List ℕ
open_s a ids = ids ++ replicate (a - length ids) 0

-- Opening: N is the number of ids
unfoldable pub opened : ℕ → List ℕ → Table
opened a ids = table (open_bare a (length ids)) (open_s a ids)

-- Taking out the seat b, with the ids set aside: b goes behind the others in R, N falls by 1, and A[b] is the new N. The seat that stood last in the line,
-- W[N], takes b's position: K[b] is that seat, W has it at the position that L has for b, and L has that position for it.
abbrev pub out : Bare → ℕ → Bare
out T b =
    let N = T.used - 1 in
    let last = T.W ! N in
    let position = T.L ! b in
    record {
      seats = T.seats;
      used = N;
      A = set T.A b N;
      K = set T.K b last;
      W = set T.W position last;
      L = set T.L last position;
      R = set T.R (T.seats - T.used) b;
    }

-- the seat b may be taken out: it is in use, and not the only one
pub record Leaves (T : Bare) (b : ℕ) : Type 0 where
  pub below : b < T.seats
  pub in_use : T.A ! b ≡ 0
  pub two : 2 ≤ T.used

-- the last entry of R
abbrev pub last_out : Bare → ℕ
last_out T = T.R ! (T.seats - T.used - 1)

-- Seating the last seat out, with the ids set aside: its word in R becomes 0 and its A too. The seat that stood last when it left, W[N], has its own
-- position N back; then the seat stands where L has it and is its own successor, and N rises by 1.
abbrev pub seat : Bare → Bare
seat T =
    let N = T.used in
    let b = last_out T in
    let L = set T.L (T.W ! N) N in
    record {
      seats = T.seats;
      used = N + 1;
      A = set T.A b 0;
      K = set T.K b b;
      W = set T.W (L ! b) b;
      L = L;
      R = set T.R (T.seats - N - 1) 0;
    }

-- Taking out the seat b of an id: the seat has no server then
abbrev pub take_out : Table → ℕ → Table
take_out T b = with_ids (with_bare T (out T.bare b)) (set T.S b 0)

-- Seating an id: the seat that was taken out last gets it
abbrev pub seat_id : Table → ℕ → Table
seat_id T id = with_ids (with_bare T (seat T.bare)) (set T.S (last_out T.bare) id)
