-- Document 01, 'Finding a key'. The draws are kept apart from the rules: `first` is the first seat drawn, and `pick b n` the position
-- drawn at seat b among n.
use Rattle.std.specs.Prelude.{Bool, true, false, List, [], ◌∷◌, ◌++◌, map, length, take, replicate, eqb, ltb}
use Rattle.std.proofs.Math.Bool.{cond}
use Prim.Native.Nat.{ℕ, zero, suc, ◌+◌, ◌-◌, ◌%◌}
use Rattle.splitmix.specs.Generator.{output}
use Rattle.rules.specs.Table.{◌!◌, Bare}
use Rattle.rules.specs.Changes.{count, down, out, seat}
use Rattle.rules.specs.History.{Change, taking, seating}

-- The paper's hash(k) and hash(b, k): output 1 and, by request 3/13, output b + 2 of SplitMix64 started at the key k
abbrev pub hash₁ : ℕ → ℕ
hash₁ k = output 1 k

abbrev pub hash : ℕ → ℕ → ℕ
hash b k = output (b + 2) k

-- what a key draws: a first seat among a, and at seat b, which is out of use, a position among n, which is A[b]
abbrev pub first_of : ℕ → ℕ → ℕ
first_of k a = hash₁ k % a

abbrev pub pick_of : ℕ → ℕ → ℕ → ℕ
pick_of k b n = hash b k % n

-- By sets, on the history. A change of seats, with the ids set aside:
pub data Move : Type 0 where
  leave : ℕ → Move
  return : Move

abbrev pub move : Change → Move
move (taking id b) = leave b
move (seating id b) = return

abbrev pub moved : Bare → Move → Bare
moved T (leave b) = out T b
moved T return = seat T

-- all a seats in use
abbrev pub full : ℕ → Bare
full a = record { seats = a; used = a; A = replicate a 0; K = count a 0; W = count a 0; L = count a 0; R = replicate a 0 }

-- seats unused at opening count as taken out, in R's order, from a line of all a seats
abbrev pub moves_of : ℕ → List ℕ → List Change → List Move
moves_of a ids h = map leave (down (a - length ids) (a - 1)) ++ map move h

-- the working line
abbrev pub line : Bare → List ℕ
line T = take T.used T.W

-- the line just after b was last taken out by these moves from T; l if it never was
abbrev pub since : ℕ → List ℕ → Bare → List Move → List ℕ
since b l T [] = l
since b l T (leave c ∷ ms) = since b (cond (eqb c b) (line (out T c)) l) (out T c) ms
since b l T (return ∷ ms) = since b l (seat T) ms

-- a seat, and draws: how many hashes were taken, 1 and one for each redraw
pub record Found : Type 0 where
  pub seat : ℕ
  pub draws : ℕ

abbrev pub on : ℕ → ℕ → Found
on b d = record { seat = b; draws = d }

-- from seat b, after d draws: while b is out of use, the next seat stands at the position drawn of the line since b.
-- A seat is left for good, so a redraws are enough.
module _ (T : Bare) (ms : List Move) (pick : ℕ → ℕ → ℕ) where
  unfoldable pub draw : ℕ → ℕ → ℕ → Found
  draw zero d b = on b d
  draw (suc fuel) d b =
      let next = since b [] (full T.seats) ms ! pick b (T.A ! b) in
      let more = draw fuel (d + 1) next in
      cond (eqb (T.A ! b) 0) (on b d) more

  -- the first seat is the first draw
  abbrev pub set_rule : ℕ → Found
  set_rule first = draw T.seats 1 first

-- By the arrays, on any table: from seat b the walk begins at h, the position drawn, read as a seat, and follows K while A[h] >= A[b]. It is lost, which
-- is DAMAGED, where h is a or more, or where it followed K a times and would again. (That the final seat has no server is the third occasion: crate
-- `find`.) A walk that ends tells its seat, and how often it followed K: request 2/13.
pub data Walk : Type 0 where
  at : (seat follows : ℕ) → Walk
  lost : Walk

-- what the arrays lead to, and how often all redraws together followed K
pub data Looked : Type 0 where
  found : Found → (walks : ℕ) → Looked
  damaged : Looked

-- at h: lost where h is a or more, there where A[h] is below m, else more
abbrev pub step : Bool → Bool → Walk → Walk → Walk
step false low there more = lost
step true true there more = there
step true false there more = more

-- a redraw, and what follows it
abbrev pub onward : Walk → (ℕ → ℕ → Looked) → Looked
onward lost next = damaged
onward (at h n) next = next h n

module _ (A K : List ℕ) where
  -- from h, after n follows: while A[h] >= m, h becomes K[h]; lost where K was followed `fuel` times more and would be again
  unfoldable pub walk : ℕ → ℕ → ℕ → ℕ → Walk
  walk m zero n h = step (ltb h (length A)) (ltb (A ! h) m) (at h n) lost
  walk m (suc fuel) n h =
      let more = walk m fuel (n + 1) (K ! h) in
      step (ltb h (length A)) (ltb (A ! h) m) (at h n) more

  -- the redraw at seat b, which may follow K a times
  abbrev pub redraw : (ℕ → ℕ → ℕ) → ℕ → Walk
  redraw pick b = walk (A ! b) (length A) 0 (pick b (A ! b))

  -- from seat b, after d draws and f follows: while A[b] is not 0, a redraw. A falls, so A[b] redraws are enough.
  unfoldable pub lookup : (ℕ → ℕ → ℕ) → ℕ → ℕ → ℕ → ℕ → Looked
  unfolding walk
  lookup pick zero d f b = found (on b d) f
  lookup pick (suc fuel) d f b =
      let more = onward (redraw pick b) (λ h n. lookup pick fuel (d + 1) (f + n) h) in
      cond (eqb (A ! b) 0) (found (on b d) f) more

-- the seat, the draws and the walks, before the seat's server is asked for
abbrev pub array_rule : Bare → (ℕ → ℕ → ℕ) → ℕ → Looked
array_rule T pick first = lookup T.A T.K pick (T.A ! first) 1 0 first
