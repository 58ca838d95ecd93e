-- Document 01, 'Examples to prove': E1 to E11, one table. A case is what the definitions compute, and what the document says.
use Rattle.std.specs.Prelude.{List, [], ◌∷◌, ◌++◌, ℕ}
use Rattle.rules.specs.Table.{◌!◌, Bare, Table}
use Rattle.rules.specs.Changes.{count, opened, last_out}
use Rattle.rules.specs.History.{Opens, Change, taking, seating, run, Accepted}
use Rattle.rules.specs.Keys.{full, line, moves_of, since, Found, draw, set_rule, at, lost, Looked, found, damaged, walk, redraw, lookup, array_rule}

-- a table of a seats, opened all in use with the ids 11, 12, .., and a history from there
abbrev pub after : ℕ → List Change → Table
after a h = run (opened a (count a 11)) h

abbrev pub h1 : List Change
h1 = taking 17 6 ∷ taking 16 5 ∷ taking 12 1 ∷ []

abbrev pub h2 : List Change
h2 = h1 ++ (taking 11 0 ∷ [])

abbrev pub h3 : List Change
h3 = h2 ++ (taking 15 4 ∷ [])

-- E8's, E10's and E11's
abbrev pub h8 : List Change
h8 = h3 ++ (seating 99 4 ∷ [])

abbrev pub h10 : List Change
h10 = taking 11 0 ∷ []

abbrev pub h11 : List Change
h11 = taking 13 2 ∷ []

-- document 01 accepts the opening, and each change in its turn
pub record Happens (a : ℕ) (h : List Change) : Type 0 where
  pub opens : Opens a (count a 11)
  pub accepted : Accepted (opened a (count a 11)) h

abbrev pub AllHappen : Type 0
AllHappen = Happens 7 h1 × Happens 7 h2 × Happens 7 h3 × Happens 7 h8 × Happens 1 [] × Happens 2 h10 × Happens 3 h11

-- position p as it stood after seat b was taken out, in E3's state
abbrev pub stood : ℕ → ℕ → ℕ
stood b p = since b [] (full 7) (moves_of 7 (count 7 11) h3) ! p

-- the seat and the draws, by both rules, where every redraw picks p
abbrev pub seat_and_draws : Found → List ℕ
seat_and_draws f = f.seat ∷ f.draws ∷ []

abbrev pub told : Looked → List ℕ
told (found f walks) = seat_and_draws f
told damaged = []

abbrev pub both : ℕ → List Change → ℕ → ℕ → List (List ℕ)
both a h first p =
    let T = (after a h).bare in
    seat_and_draws (set_rule T (moves_of a (count a 11) h) (λ b n. p) first) ∷ told (array_rule T (λ b n. p) first) ∷ []

-- the redraw at seat b that picks p, in E3's state: the seat where it ends, and its follows; and the walks of all from b on
abbrev pub redrawn : ℕ → ℕ → List ℕ
redrawn b p = elim (redraw (after 7 h3).bare.A (after 7 h3).bare.K (λ c n. p) b) [ at x n ↦ x ∷ n ∷ [] | lost ↦ [] ]

abbrev pub walks_from : ℕ → ℕ → List ℕ
walks_from b p = elim (array_rule (after 7 h3).bare (λ c n. p) b) [ found f walks ↦ walks ∷ [] | damaged ↦ [] ]

-- every word but the ids, a list for each part, and N
abbrev pub bare_words : Bare → List (List ℕ)
bare_words T = T.A ∷ T.K ∷ T.W ∷ T.L ∷ T.R ∷ (T.used ∷ []) ∷ []

pub record Case : Type 0 where
  pub computed : List (List ℕ)
  pub document : List (List ℕ)

abbrev case : List (List ℕ) → List (List ℕ) → Case
case c d = record { computed = c; document = d }

unfoldable pub examples : List Case
unfolding opened draw walk lookup
examples =
    let E1 = (after 7 h1).bare in
    let E2 = (after 7 h2).bare in
    let E3 = (after 7 h3).bare in
    let E8 = (after 7 h8).bare in
    let E11 = (after 3 h11).bare in
    -- E1
    case (E1.A ∷ line E1 ∷ [])
    ((0 ∷ 4 ∷ 0 ∷ 0 ∷ 0 ∷ 5 ∷ 6 ∷ []) ∷ (0 ∷ 4 ∷ 2 ∷ 3 ∷ []) ∷ [])
    -- E2
    ∷ case (E2.K ∷ E2.W ∷ E2.L ∷ E2.R ∷ (E2.used ∷ []) ∷ [])
    ((3 ∷ 4 ∷ 2 ∷ 3 ∷ 4 ∷ 5 ∷ 6 ∷ []) ∷ (3 ∷ 4 ∷ 2 ∷ 3 ∷ 4 ∷ 5 ∷ 6 ∷ []) ∷ (0 ∷ 1 ∷ 2 ∷ 0 ∷ 1 ∷ 5 ∷ 6 ∷ []) ∷ (6 ∷ 5 ∷ 1 ∷ 0 ∷ 0 ∷ 0 ∷ 0 ∷ []) ∷ (3 ∷ []) ∷ [])
    -- E3
    ∷ case ((E3.K ! 4 ∷ []) ∷ line E3 ∷ []) ((2 ∷ []) ∷ (3 ∷ 2 ∷ []) ∷ [])
    -- E4, E5, E6
    ∷ case ((stood 5 1 ∷ []) ∷ (stood 1 1 ∷ []) ∷ (stood 4 1 ∷ []) ∷ []) ((1 ∷ []) ∷ (4 ∷ []) ∷ (2 ∷ []) ∷ [])
    -- E7
    ∷ case (both 7 h3 5 1) ((2 ∷ 4 ∷ []) ∷ (2 ∷ 4 ∷ []) ∷ [])
    -- E7's walks (request 2/13), by hand: A is 3 4 0 0 2 5 6 and K is 3 4 2 3 2 5 6. From seat 5, whose A is 5, position 1 has A = 4 and is where it ends.
    -- From seat 1, whose A is 4, position 1 does not end it: K[1] is 4, which has A = 2. From seat 4, whose A is 2, position 1 leads to 4 and on to K[4],
    -- which is 2, in use.
    ∷ case (redrawn 5 1 ∷ redrawn 1 1 ∷ redrawn 4 1 ∷ walks_from 5 1 ∷ []) ((1 ∷ 0 ∷ []) ∷ (4 ∷ 1 ∷ []) ∷ (2 ∷ 2 ∷ []) ∷ (3 ∷ []) ∷ [])
    -- E8
    ∷ case ((last_out E3 ∷ []) ∷ bare_words E8) ((4 ∷ []) ∷ bare_words E2)
    -- E9
    ∷ case (both 1 [] 0 0) ((0 ∷ 1 ∷ []) ∷ (0 ∷ 1 ∷ []) ∷ [])
    -- E10
    ∷ case (both 2 h10 0 0) ((1 ∷ 2 ∷ []) ∷ (1 ∷ 2 ∷ []) ∷ [])
    -- E11
    ∷ case ((E11.A ! 2 ∷ []) ∷ (E11.K ! 2 ∷ []) ∷ (E11.L ! 2 ∷ []) ∷ line E11 ∷ []) ((2 ∷ []) ∷ (2 ∷ []) ∷ (2 ∷ []) ∷ (0 ∷ 1 ∷ []) ∷ [])
    ∷ []
