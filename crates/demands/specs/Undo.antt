-- Demand 3: "On any sound table with at least two servers, take any seated server out, then seat any id that is not 0 and not then
-- seated. Every word of the table is as it was, except the id in that one seat."
use Rattle.std.specs.Prelude.{◌≡◌, Bool, true, false, List, [], ◌∷◌, ◌≢◌, ℕ, ◌+◌, ◌≤◌, set}
use Rattle.rules.specs.Table.{◌!◌, base, table_of}
use Rattle.rules.specs.History.{Id, Sound}
use Rattle.rules.specs.Ids.{occurs, place_of}
use Rattle.rules.specs.Answers.{fine, done}
use Rattle.changes.specs.Calls.{seat_call, out_call}

-- of the words w: is the id seated, in which seat, and which word holds the id in seat b
abbrev pub seated : List ℕ → ℕ → Bool
seated w id = occurs id (table_of w).S

abbrev pub seat_of : List ℕ → ℕ → ℕ
seat_of w id = place_of id (table_of w).S

abbrev pub id_word : List ℕ → ℕ → ℕ
id_word w b = base (w ! 0) 5 + b

-- Both calls are accepted and answer the server's seat. Every word after them is as it was, except the one that holds the id in that
-- seat: it held the server, and holds the id.
pub record Undone (w : List ℕ) (server id : ℕ) : Type 0 where
  pub taken_out : (out_call w server).answer ≡ fine (seat_of w server ∷ [])
  pub seated_again : seat_call (out_call w server).after id ≡ done (seat_of w server ∷ []) (set w (id_word w (seat_of w server)) id)
  pub held : w ! id_word w (seat_of w server) ≡ server

-- word 1 is N, the number of servers
abbrev pub Undo : Type 0
Undo =
    (w : List ℕ) (server id : ℕ) → Sound w → 2 ≤ w ! 1 → server ≢ 0 → seated w server ≡ true
    → Id id → seated (out_call w server).after id ≡ false
    → Undone w server id

-- the server's own id is one of these, and leaves the very words that were there
abbrev pub Returns : Type 0
Returns =
    (w : List ℕ) (server : ℕ) → Sound w → 2 ≤ w ! 1 → server ≢ 0 → seated w server ≡ true
    → seat_call (out_call w server).after server ≡ done (seat_of w server ∷ []) w
