-- `find::follow` meets its contract and ends.
use Rattle.promises.proofs.Prelude.{◌≡◌, ◌∙◌, sym, ◌+◌, ◌-◌, suc, arith, length, rules}
use Rattle.find.proofs.Turns.{rest_whole, rest_none, rest_past, rest_stops, rest_goes}
use Rattle.find.proofs.follow.Goals as goal

pub loop-n-init : goal.loop-n-init
loop-n-init c = rest_whole c.args.A.now c.args.K.now c.args.m (length c.args.A.now) c.args.from

pub returns-then-a-i : goal.returns-then-a-i
returns-then-a-i c = sym (rest_past _ _ _ (length c.args.A.now + 1 - c.loop-n.n) _ c.loop-n.h.0 (search rules)) ∙ c.loop-n.invariant

pub returns-then-A-i : goal.returns-then-A-i
returns-then-A-i c = sym (rest_stops _ _ _ (length c.args.A.now + 1 - c.loop-n.n) _ _ (omega arith) (search rules) (search rules)) ∙ c.loop-n.invariant

pub loop-n-preserved : goal.loop-n-preserved
loop-n-preserved c =
    let e : length c.args.A.now + 1 - c.loop-n.n ≡ suc (length c.args.A.now + 1 - (c.loop-n.n + 1)) = omega arith in
    sym (rest_goes _ _ _ _ _ _ (search rules) (search rules)) ∙ (rw e at c.loop-n.invariant)

pub returns : goal.returns
returns c = sym (rest_none _ _ _ (length c.args.A.now + 1 - c.loop-n.n) _ c.loop-n.h.0 (omega arith)) ∙ c.loop-n.invariant
