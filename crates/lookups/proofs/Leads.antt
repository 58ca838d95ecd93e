-- Every accepted history is a run of moves that a full table allows: first the seats unused at opening leave, and then each accepted
-- change is an allowed move. From each position of the line just after a seat was last taken out, the walk for that seat's A ends at the
-- seat that stood there, and follows K once at the most for each seat out of use then: a removal adds the line that it leaves, and neither
-- it nor its undoing is seen by the walks for earlier ones.
use Rattle.promises.proofs.Prelude.{◌≡◌, refl, sym, subst, cond, List, [], ◌∷◌, ◌++◌, ℕ, ◌-◌, ◌<◌, ◌+◌, suc, zero, arith, ℕ_discrete, length}
use Rattle.promises.proofs.Prelude.{get_or-take, eqb, ne_eqb, eq-eqb}
use mathlib.Core.List.{map}
use Rattle.rules.specs.Table.{◌!◌, Bare, Table}
use Rattle.rules.specs.Changes.{down, opened, out, seat, Leaves}
use Rattle.rules.specs.History.{Change, taking, seating, Opens, run, Accepted, done, then, Reached}
use Rattle.rules.specs.Keys.{Move, leave, return, move, full, moves_of, line, since}
use Rattle.rules.proofs.Lists.{differ}
use Rattle.rules.proofs.Openings.{open_r_out}
use Rattle.sound.specs.Removals.{after, Takeable}
use Rattle.sound.specs.Kept.{Kept}
use Rattle.sound.specs.Test.{Test, Passes}
use Rattle.sound.proofs.Written.{written}
use Rattle.sound.proofs.Steps.{kept, out_passes, seat_passes, seat_leaves, out_of_seat}
use Rattle.sound.proofs.Made.{fewer_still, after_is, next_leaves}
use Rattle.sound.proofs.Audit.{R_takeable, as_made}
use Rattle.sound.proofs.Reached.{leaves, room, changed_passes, opened_passes}
use Rattle.lookups.specs.FewFollows.{EndsAt}
use Rattle.lookups.proofs.Walks.{walk_in, gone, walk_out, front}

-- moves that a table allows, and the table that they lead to
pub data Leads : Bare → List Move → Bare → Type 0 where
  none : {T : Bare} → Leads T [] T
  left : {T U : Bare} {b : ℕ} {ms : List Move} → Leaves T b → Leads (out T b) ms U → Leads T (leave b ∷ ms) U
  returned : {T U : Bare} {ms : List Move} → T.used < T.seats → Leads (seat T) ms U → Leads T (return ∷ ms) U

pub leads_seats : {T U : Bare} {ms : List Move} → Leads T ms U → U.seats ≡ T.seats
leads_seats none = refl
leads_seats (left v r) = leads_seats r
leads_seats (returned h r) = leads_seats r

changes_lead : {T : Table} {h : List Change} → Accepted T h → Passes T → Leads T.bare (map move h) (run T h).bare
changes_lead done p = none
changes_lead (then {c = taking id b} s ok) p = left (leaves p s) (changes_lead ok (changed_passes (taking id b) p s))
changes_lead (then {c = seating id b} s ok) p = returned (room p s) (changes_lead ok (changed_passes (seating id b) p s))

-- taking out seats from the last one down
module _ {ms : List Move} {U : Bare} (a : ℕ) (rs : List ℕ) (m : ℕ) (t : Takeable a rs m) (isDown : (i : ℕ) → i < m → rs ! i ≡ a - 1 - i)
    (r : Leads (after a rs m) ms U) where
  down_leads : (n k x : ℕ) → k + n ≡ m → a - 1 - k ≡ x → Leads (after a rs k) (map leave (down n x) ++ ms) U
  unfolding after
  down_leads zero k x h l = let same : k ≡ m = omega arith in rw same r
  down_leads (suc n) k x h l =
      let few : Takeable a rs (suc k) = fewer_still t (omega arith) in
      let next = next_leaves few (after_is a rs k (fewer_still few (omega arith))) in
      let e : x ≡ rs ! k = omega (arith, isDown k (omega arith)) in
      rw e (left next (down_leads n (suc k) (rs ! k - 1) (omega arith) (omega arith)))

opening_leads : {ms : List Move} {U : Bare} (a : ℕ) (ids : List ℕ) → Opens a ids → Leads (opened a ids).bare ms U
    → Leads (full a) (map leave (down (a - length ids) (a - 1)) ++ ms) U
unfolding opened after
opening_leads {ms} {U} a ids o r =
    let t = (opened_passes a ids o).test in
    let T = (opened a ids).bare in
    let m = a - length ids in
    down_leads a T.R m (R_takeable T t) (open_r_out a (length ids)) (subst (λ (X : Bare). Leads X ms U) (as_made T t) r) m 0 (a - 1) (omega arith)
    (omega arith)

pub history_leads : {T : Table} (r : Reached T) → Leads (full r.a) (moves_of r.a r.ids r.history) T.bare
history_leads r =
    let o = opened_passes r.a r.ids r.opens in
    rw r.leaves at (opening_leads r.a r.ids r.opens (changes_lead r.accepted o))

-- l x is the line just after x was taken out
abbrev pub Lines : Bare → (ℕ → List ℕ) → Type 0
Lines T l = (x q : ℕ) → q < T.A ! x → EndsAt (l x ! q) (T.seats - T.A ! x) (walk_in T (T.A ! x) T.seats 0 q)

module _ {T : Bare} {b : ℕ} (g : Kept T) (v : Leaves T b) where
  abbrev T' : Bare
  T' = out T b

  lines_out : Test T' → (l : ℕ → List ℕ) → Lines T l → Lines T' (λ x. cond (eqb b x) (line T') (l x))
  lines_out t l f x q h = elim (ℕ_discrete b x) [
    | yes e ↦
        let h' : q < T.used - 1 = rw (written g v).A_at at (rw (← e) at h) in
        rw (eq-eqb b x e, ← e, (written g v).A_at) (rw (get_or-take T'.used T'.W q 0 h') (front T' t q T.seats h' (omega arith)))
    | no ne ↦
        let off = (written g v).A_off x (λ e. ne (sym e)) in
        let h' : q < T.A ! x = rw off at h in
        rw (ne_eqb b x ne, off, walk_out g v (T.A ! x) T.seats 0 q (gone g x (omega arith))) (f x q h')
  ]

  lines_back : (l : ℕ → List ℕ) → Lines T' l → Lines T l
  lines_back l f x q h =
      let off = (written g v).A_off x (differ T.A (omega arith)) in
      rw (← walk_out g v (T.A ! x) T.seats 0 q (gone g x (omega arith))) (rw off at (f x q (rw off h)))

pub lines_since : {T U : Bare} {ms : List Move} → Leads T ms U → Test T → (l : ℕ → List ℕ) → Lines T l → Lines U (λ x. since x (l x) T ms)
lines_since none t l f = f
lines_since {T} (left {b = b} v r) t l f = let t' = out_passes T b t v in lines_since r t' _ (lines_out (kept T t) v t' l f)
lines_since {T} (returned h r) t l f =
    let t' = seat_passes T t h in
    let f' = subst (λ (X : Bare). Lines X l) (sym (out_of_seat T t h)) f in
    lines_since r t' l (lines_back (kept (seat T) t') (seat_leaves T t h) l f')
