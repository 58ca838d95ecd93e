-- Along an accepted history the table is the stack of removals not answered so far, over what the seatings left over made of the opening;
-- so it ends as what is left of the history makes it. A seat in use was given its id by its latest seating, or by the opening.
use Rattle.promises.proofs.Prelude.{◌≡◌, refl, ◌∙◌, sym, ap, subst, cond, List, [], ◌∷◌, ◌++◌, append-nil, append_assoc, ℕ, ◌-◌, suc, zero, arith, ℕ_discrete}
use Rattle.promises.proofs.Prelude.{length, replicate, get_or-set_same, get_or-set_other, eqb, ne_eqb, eq-eqb}
use mathlib.Core.List.Sublistᴰ
use mathlib.Core.List.{reverse, reverse-cons, Sublistᴰ}
use lib.Seq.{append_snoc}
use Rattle.rules.specs.Table.{◌!◌, Bare, Table, table_of}
use Rattle.rules.specs.Changes.{opened}
use Rattle.rules.specs.History.{Change, taking, seating, run, Accepted, done, then, Sound}
use Rattle.rules.proofs.Lists.{zeros_at}
use Rattle.sound.proofs.Written.{written}
use Rattle.sound.proofs.KeptOut.{still}
use Rattle.sound.proofs.Steps.{kept, seat_leaves}
use Rattle.sound.specs.Test.{Passes}
use Rattle.sound.proofs.Reached.{leaves, room, changed_passes, opened_passes}
use Rattle.changes.specs.Accepted.{IsChange}
use Rattle.changes.proofs.Accepted.{out_changes, seat_changes, open_opens}
use Rattle.demands.specs.Histories.{struck, strike, last_given, Answers, read, removal, answer, alone, Struck, Histories, Calls, end, out, seat, HistoriesOfCalls}
use Rattle.demands.proofs.Stack.{Stack, empty, top, push, pop, top_seat, emptied, Makes, nothing, next, makes_append, stack_makes, makes_same, makes_allowed}

-- every word but the ids
ends : {O : Bare} {T : Table} {B : Bare} {h over unanswered : List Change} → Accepted T h → Passes T → Makes O over B → Stack B unanswered T.bare
    → Makes O (struck over unanswered h) (run T h).bare
ends done p m k = makes_append m (stack_makes k)
ends (then {c = taking id b} s ok) p m k = ends ok (changed_passes (taking id b) p s) m (push k p s)
ends {unanswered = r ∷ unanswered} (then {c = seating id b} s ok) p m k = ends ok (changed_passes (seating id b) p s) m (pop k)
ends {O} {T = T} {unanswered = []} (then {c = seating id b} s ok) p m k =
    let m' = rw (emptied k) at m in
    ends ok (changed_passes (seating id b) p s) (makes_append m' (next (room p s, s.is_last) nothing)) empty

-- the latest removal not answered so far is the last seat out
answered : {T : Table} {B : Bare} {h unanswered : List Change} → Accepted T h → Passes T → Stack B unanswered T.bare → Answers unanswered h
answered done p k = read
answered (then {c = taking id b} s ok) p k = removal (answered ok (changed_passes (taking id b) p s) (push k p s))
answered (then {c = seating id b} {h = h} s ok) p (top {id = old} {removals = removals} k g v e) =
    let same = sym (top_seat g v e ∙ s.is_last) in
    subst (λ (x : ℕ). Answers (taking old x ∷ removals) (seating id b ∷ h)) same (answer (answered ok (changed_passes (seating id b) p s) (pop (top {id = old} k g v e))))
answered (then {c = seating id b} s ok) p empty = alone (answered ok (changed_passes (seating id b) p s) empty)

-- the ids: where x is in use, it holds g now
holds : {T : Table} {h : List Change} → Accepted T h → Passes T → (x g : ℕ) → (T.bare.A ! x ≡ 0 → T.S ! x ≡ g)
    → (run T h).bare.A ! x ≡ 0 → (run T h).S ! x ≡ last_given x g h
holds done p x g f = f
holds {T} (then {c = taking id b} s ok) p x g f = holds ok (changed_passes (taking id b) p s) x g (λ z.
    let k = kept T.bare p.test in
    let v = leaves p s in
    let (ne, was) = still T.bare b k v (written k v) x z in
    get_or-set_other T.S b x 0 0 ne ∙ f was)
holds {T} (then {c = seating id b} s ok) p x g f = holds ok (changed_passes (seating id b) p s) x (cond (eqb b x) id g) (rw s.is_last (elim (ℕ_discrete x b) [
  | yes e ↦ rw (e, eq-eqb b b refl) (λ z. get_or-set_same T.S b id 0 (omega (arith, s.is_last, (seat_leaves T.bare p.test (room p s)).below, p.ids.size)))
  | no ne ↦ rw (ne_eqb b x (λ e. ne (sym e)), get_or-set_other T.bare.A b x 0 0 ne, get_or-set_other T.S b x id 0 ne) f
]))

-- opening gave seat x id x of the list
first_given : (ids : List ℕ) (m x : ℕ) → (ids ++ replicate m 0) ! x ≡ ids ! x
first_given [] m x = zeros_at m x
first_given (id ∷ ids) m zero = refl
first_given (id ∷ ids) m (suc x) = first_given ids m x

-- of two removals and three seatings one seating is left over
example : strike (taking 11 1 ∷ taking 12 2 ∷ seating 13 2 ∷ seating 14 1 ∷ seating 15 6 ∷ taking 16 3 ∷ []) ≡ seating 15 6 ∷ taking 16 3 ∷ []
example = refl

-- what is left out
snoc : (over unanswered : List Change) (c : Change) (h : List Change) → (over ++ reverse (c ∷ unanswered)) ++ h ≡ (over ++ reverse unanswered) ++ (c ∷ h)
snoc over unanswered c h = rw (reverse-cons c unanswered, ← append_assoc, append_snoc) refl

two_less : (k h : List Change) (c d : Change) → Sublistᴰ (k ++ h) (k ++ c ∷ d ∷ h)
two_less [] h c d = Sublistᴰ.cons (Sublistᴰ.cons (Sublistᴰ.refl h))
two_less (x ∷ k) h c d = Sublistᴰ.cons-cons refl (two_less k h c d)

left_out : (over unanswered h : List Change) → Sublistᴰ (struck over unanswered h) ((over ++ reverse unanswered) ++ h)
left_out over unanswered [] = rw append-nil (Sublistᴰ.refl _)
left_out over unanswered (taking id b ∷ h) = rw snoc at (left_out over (taking id b ∷ unanswered) h)
left_out over (r ∷ unanswered) (seating id b ∷ h) = rw snoc (Sublistᴰ.trans (left_out over unanswered h) (two_less (over ++ reverse unanswered) h r (seating id b)))
left_out over [] (seating id b ∷ h) = rw append-nil (rw (append-nil, append_snoc) at (left_out (over ++ (seating id b ∷ [])) [] h))

pub theorem : Histories
unfolding opened
theorem a ids h o ok =
    let p = opened_passes a ids o in
    let m = ends ok p nothing empty in
    record {
      bare = makes_same m;
      held = λ x l. holds ok p x (ids ! x) (λ z. first_given ids (a - length ids) x);
      fewer = left_out [] [] h;
      allowed = makes_allowed m;
      answers = answered ok p empty;
    }

-- an accepted call, and what follows it
call_accepted : {c : Change} {w u : List ℕ} {h : List Change} {last : Table} → IsChange c w u → Accepted (table_of u) h × (last ≡ run (table_of u) h)
    → Accepted (table_of w) (c ∷ h) × (last ≡ run (table_of w) (c ∷ h))
call_accepted {h = h} c r = (then c.accepts (subst (λ (U : Table). Accepted U h) c.table r.0), r.1 ∙ ap (λ (U : Table). run U h) c.table)

calls_accepted : {w v : List ℕ} {h : List Change} → Sound w → Calls w h v → Accepted (table_of w) h × (table_of v ≡ run (table_of w) h)
calls_accepted s end = (done, refl)
calls_accepted s (out {id = id} {b = b} {w = w} {u = u} e rest) = let c = out_changes w u id b s e in call_accepted c (calls_accepted c.sound rest)
calls_accepted s (seat {id = id} {b = b} {w = w} {u = u} word e rest) = let c = seat_changes w u id b s word e in call_accepted c (calls_accepted c.sound rest)

pub of_calls : HistoriesOfCalls
of_calls a ids w u v h word e calls =
    let o = open_opens w u a ids (length ids ∷ []) word e in
    let r = subst (λ (U : Table). Accepted U h × (table_of v ≡ run U h)) o.table (calls_accepted o.sound calls) in
    subst (λ (U : Table). Struck a ids h U) (sym r.1) (theorem a ids h o.opens r.0)
