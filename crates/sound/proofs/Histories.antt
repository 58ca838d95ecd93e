-- Histories grow at their end: a change that a reached table accepts leaves a reached table.
use Rattle.promises.proofs.Prelude.{◌≡◌, refl, ◌∙◌, sym, ap, subst, List, [], ◌∷◌, ◌++◌, ℕ}
use Rattle.rules.specs.Table.{Table}
use Rattle.rules.specs.Changes.{opened}
use Rattle.rules.specs.History.{Opens, Change, Accepts, changed, run, Accepted, done, then, Reached}

pub run_append : (T : Table) (h k : List Change) → run T (h ++ k) ≡ run (run T h) k
run_append T [] k = refl
run_append T (c ∷ h) k = run_append (changed T c) h k

pub accepted_snoc : {T : Table} {h : List Change} (c : Change) → Accepted T h → Accepts (run T h) c → Accepted T (h ++ (c ∷ []))
accepted_snoc c done s = then s done
accepted_snoc c (then r ok) s = then r (accepted_snoc c ok s)

pub reached_opened : (a : ℕ) (ids : List ℕ) → Opens a ids → Reached (opened a ids)
reached_opened a ids o = record { a = a; ids = ids; opens = o; history = []; accepted = done; leaves = refl }

pub reached_changed : {T : Table} (c : Change) → Reached T → Accepts T c → Reached (changed T c)
reached_changed c r s =
    record {
      a = r.a;
      ids = r.ids;
      opens = r.opens;
      history = r.history ++ (c ∷ []);
      accepted = accepted_snoc c r.accepted (subst (λ (U : Table). Accepts U c) (sym r.leaves) s);
      leaves = run_append _ r.history (c ∷ []) ∙ ap (λ (U : Table). changed U c) r.leaves;
    }
