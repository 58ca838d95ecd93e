-- As many seatings as removals leave every word but the ids as it was, since they empty the stack of removals; so every key is found as
-- before.
use Rattle.promises.proofs.Prelude.{◌≡◌, refl, ◌∙◌, sym, ap, subst, List, [], ◌∷◌, ℕ, ◌+◌, suc, arith, length}
use Rattle.rules.specs.Table.{Bare, Table, table, table_of}
use Rattle.rules.specs.History.{Change, taking, Sound}
use Rattle.sound.proofs.Reached.{passes}
use Rattle.sound.proofs.Sound.{sound_table}
use Rattle.changes.specs.Calls.{seat_call, out_call}
use Rattle.demands.specs.Again.{Each, none, more, Again}
use Rattle.changes.proofs.Accepted.{out_changes, seat_changes}
use Rattle.demands.proofs.Stack.{Stack, empty, push, pop, emptied}
use Rattle.demands.proofs.Keys.{rule, finds, finds_same}

-- n removals from B make the words w
record Piled (B : Bare) (n : ℕ) (w : List ℕ) : Type 0 where
  sound : Sound w
  removals : List Change
  size : length removals ≡ n
  stack : Stack B removals (table_of w).bare

same_bare : {B : Bare} {removals : List Change} {T U : Table} → T ≡ U → Stack B removals U.bare → Stack B removals T.bare
same_bare {B} {removals} e k = subst (λ (X : Table). Stack B removals X.bare) (sym e) k

outs : {B : Bare} {ids w u : List ℕ} (n m : ℕ) → n + length ids ≡ m → Each out_call ids w u → Piled B n w → Piled B m u
outs {B} n m h (none {w = w}) p = subst (λ (i : ℕ). Piled B i w) (omega arith) p
outs n m h (more {id = id} {b = b} {w = w} {u = u} small e rest) p =
    let c = out_changes w u id b p.sound e in
    outs (suc n) m (omega arith) rest
    (record {
      sound = c.sound;
      removals = taking id b ∷ p.removals;
      size = ap suc p.size;
      stack = same_bare c.table (push p.stack (passes (sound_table p.sound)) c.accepts);
    })

bottom : {B T : Bare} (removals : List Change) → length removals ≡ 0 → Stack B removals T → B ≡ T
bottom [] e k = emptied k
bottom (r ∷ removals) e k = absurd (omega arith)

seats : {B : Bare} {ids w v : List ℕ} (removals : List Change) → Each seat_call ids w v → Sound w → length removals ≡ length ids → Stack B removals (table_of w).bare
    → (B ≡ (table_of v).bare) × Sound v
seats removals none s e k = (bottom removals e k, s)
seats [] (more small f rest) s e k = absurd (omega arith)
seats (r ∷ removals) (more {id = id} {b = b} {w = w} {u = u} small f rest) s e k =
    let c = seat_changes w u id b s small f in
    seats removals rest c.sound (omega arith) (same_bare c.table (pop k))

pub theorem : Again
theorem servers ids w u v s outs-done seats-done size k =
    let start : Piled (table_of w).bare 0 w = record { sound = s; removals = []; size = refl; stack = empty } in
    let p = outs 0 (length servers) (omega arith) outs-done start in
    let (same, t) = seats p.removals seats-done p.sound (omega (arith, p.size)) p.stack in
    let (f, walks, was) = finds w k s in
    let now = finds_same v k f walks t (ap (λ (B : Bare). rule (table B []) k) (sym same) ∙ was.ruled) in
    rw (was.answer, now.answer) (refl, refl, refl)
