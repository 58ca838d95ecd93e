-- `changes::open_table` meets its contract: each way out is the first refusal that applies, or there is none.
use Rattle.promises.proofs.Prelude.{◌≡◌, ◌∙◌, sym, ap, not, List, [], ◌∷◌, ℕ, ◌≤◌, arith, dec_lt, length, eq-eqb, ne_eqb, lt-ltb, le-ltb, rules}
use Rattle.rules.specs.Table.{run_length, most_seats}
use Rattle.rules.specs.Answers.{refused_at, done, none, more}
use Rattle.rules.specs.History.{list_refusals}
use Rattle.rules.specs.declared.Refusal.{Refusal}
use Rattle.rules.proofs.Occasions.{First, here, later}
use Rattle.changes.specs.Calls.{open_call}
use Rattle.changes.proofs.Told.{open_first, open_size, open_done}
use Rattle.changes.proofs.open_table.Goals as goal
use Rattle.changes.proofs.open_table.Goals.{Else-t-start, Else-not-contains-2}

-- a is good, and the run of its length
good : (s : Else-t-start) → (1 ≤ s.args.a) × (s.args.a ≤ most_seats) × (length s.args.t.now ≡ run_length s.args.a)
good s = (search rules, search rules, s.if-t-start.false ∙ s.start.ensures)

-- and so is the number of ids
few : (s : Else-not-contains-2) → (1 ≤ length s.args.ids.now) × (length s.args.ids.now ≤ s.args.a)
few s = (search rules, search rules)

-- a and the run are good: the list decides
listed : (s : Else-t-start) {r : Refusal}
    → First r (list_refusals s.args.a s.args.ids.now) → refused_at s.args.t.now r ≡ open_call s.args.t.now s.args.a s.args.ids.now
listed s f =
    let g = good s in
    open_first _ _ _ (later (ap not (eq-eqb _ _ g.2)) (later (le-ltb _ 1 g.0) (later (le-ltb most_seats _ g.1) f)))

pub returns-then-not-contains : goal.returns-then-not-contains
returns-then-not-contains c =
    open_size _ _ _ (elim (dec_lt c.args.a 1) [ yes y ↦ here (lt-ltb _ 1 y) | no n ↦ later (le-ltb _ 1 (omega arith)) (here (lt-ltb most_seats _ (search rules))) ])

pub returns-then-t-start : goal.returns-then-t-start
returns-then-t-start c = open_first _ _ _ (here (ap not (ne_eqb _ _ (λ e. c.if-t-start.true (e ∙ sym c.start.ensures)))))

pub returns-then-not-contains-2 : goal.returns-then-not-contains-2
returns-then-not-contains-2 c =
    listed (goal.at.returns-then-not-contains-2 c).Else-t-start
    (elim (dec_lt (length c.args.ids.now) 1) [ yes y ↦ here (lt-ltb _ 1 y) | no n ↦ later (le-ltb _ 1 (omega arith)) (here (lt-ltb _ _ (search rules))) ])

pub returns-then-zero : goal.returns-then-zero
returns-then-zero c =
    let f = few (goal.at.returns-then-zero c).Else-not-contains-2 in
    listed (goal.at.returns-then-zero c).Else-t-start (later (le-ltb _ 1 f.0) (later (le-ltb _ _ f.1) (here (cc))))

pub returns-then-twice : goal.returns-then-twice
returns-then-twice c =
    let f = few (goal.at.returns-then-twice c).Else-not-contains-2 in
    listed (goal.at.returns-then-twice c).Else-t-start (later (le-ltb _ 1 f.0) (later (le-ltb _ _ f.1) (later (cc) (here (cc)))))

pub returns : goal.returns
returns c =
    let g = good (goal.at.returns c).Else-t-start in
    let f = few (goal.at.returns c).Else-not-contains-2 in
    let opens = open_done c.args.t.now c.args.a c.args.ids.now g.2 (more (le-ltb _ 1 g.0) (more (le-ltb most_seats _ g.1) (more (le-ltb _ 1 f.0) (more (le-ltb _ _ f.1) (more (cc) (more (cc) none)))))) in
    let back : _ ≡ c.lay_out.new.run.words.now = search rules in
    ap (λ (w : List ℕ). done (length c.args.ids.now ∷ []) w) (back ∙ c.lay_out.ensures.words) ∙ opens
