-- The removals that no seating answered so far are a stack over the table before them: a removal goes on top, and a seating takes the
-- top off again, since it undoes that removal.
use Rattle.promises.proofs.Prelude.{◌≡◌, refl, ◌∙◌, sym, ap, subst, List, [], ◌∷◌, ◌++◌, ℕ}
use mathlib.Core.List.{reverse, reverse-cons}
use Rattle.rules.specs.Table.{Bare, Table}
use Rattle.rules.specs.Changes.{out, seat, last_out, Leaves}
use Rattle.rules.specs.History.{Change, taking, Takes}
use Rattle.rules.specs.Keys.{move, moved}
use Rattle.sound.specs.Kept.{Kept}
use Rattle.rules.proofs.Undo.{last_out_lem}
use Rattle.sound.proofs.Made.{undone, leaves_stands}
use Rattle.sound.proofs.Steps.{kept}
use Rattle.sound.specs.Test.{Passes}
use Rattle.sound.proofs.Reached.{leaves}
use Rattle.demands.specs.Histories.{reseat, Allows, Allowed, none, more}

-- from B the removals, the latest first, make T
pub data Stack (B : Bare) : List Change → Bare → Type 0 where
  empty : Stack B [] B
  top : {id b : ℕ} {removals : List Change} {U T : Bare} → Stack B removals U → Kept U → Leaves U b → out U b ≡ T → Stack B (taking id b ∷ removals) T

pub push : {B : Bare} {removals : List Change} {T : Table} {id b : ℕ} → Stack B removals T.bare → Passes T → Takes T id b → Stack B (taking id b ∷ removals) (out T.bare b)
push {T = T} k p s = top k (kept T.bare p.test) (leaves p s) refl

pub pop : {B T : Bare} {c : Change} {removals : List Change} → Stack B (c ∷ removals) T → Stack B removals (seat T)
pop {B} (top {removals = removals} k g v e) = subst (λ (X : Bare). Stack B removals X) (sym (undone g v) ∙ ap seat e) k

-- the latest of them is the last seat out
pub top_seat : {U T : Bare} {b : ℕ} → Kept U → Leaves U b → out U b ≡ T → b ≡ last_out T
top_seat g v e = sym (last_out_lem (leaves_stands g v)) ∙ ap last_out e

pub emptied : {B T : Bare} → Stack B [] T → B ≡ T
emptied empty = refl

-- from O the changes h, each allowed, make T
pub data Makes : Bare → List Change → Bare → Type 0 where
  nothing : {T : Bare} → Makes T [] T
  next : {T U : Bare} {c : Change} {h : List Change} → Allows T c → Makes (moved T (move c)) h U → Makes T (c ∷ h) U

pub makes_append : {O T U : Bare} {h k : List Change} → Makes O h T → Makes T k U → Makes O (h ++ k) U
makes_append nothing m = m
makes_append (next ok l) m = next ok (makes_append l m)

pub stack_makes : {B T : Bare} {removals : List Change} → Stack B removals T → Makes B (reverse removals) T
stack_makes empty = nothing
stack_makes {B} (top {id = id} {b = b} {removals = removals} k g v e) =
    rw (reverse-cons (taking id b) removals, ← e) (makes_append (stack_makes k) (next v nothing))

pub makes_same : {O T : Bare} {h : List Change} → Makes O h T → T ≡ reseat O h
makes_same nothing = refl
makes_same (next ok m) = makes_same m

pub makes_allowed : {O T : Bare} {h : List Change} → Makes O h T → Allowed O h
makes_allowed nothing = none
makes_allowed (next ok m) = more ok (makes_allowed m)
