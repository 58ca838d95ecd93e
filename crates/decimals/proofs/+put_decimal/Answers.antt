-- `decimals::put_decimal` meets its contract: the other digits, and the last behind them.
use Rattle.promises.proofs.Prelude.{◌≡◌, ◌∙◌, ap, [], ◌∷◌, ℕ, ◌<◌, ◌+◌, ◌^◌, ◌/◌, ◌%◌, arith, length, length-append, rules}
use Rattle.decimals.specs.Decimal.{decimal}
use Rattle.decimals.proofs.Opposites.{decimal_digit, decimal_last}
use Rattle.decimals.proofs.Stored.{put_byte, put_then, put_length}
use Rattle.decimals.proofs.+put_decimal.Goals as goal

longer : (v : ℕ) → 9 < v → v < 10 ^ 20 → length (decimal v) ≡ length (decimal (v / 10)) + 1
longer v p h = ap length (decimal_last v p h) ∙ length-append (decimal (v / 10)) ((48 + v % 10) ∷ [])

pub bounds-out-0 : goal.bounds-out-0
bounds-out-0 t c = omega (arith, ap length (decimal_digit c.args.v (omega arith)))

pub returns-then-v-lt10 : goal.returns-then-v-lt10
returns-then-v-lt10 t c =
    let one = decimal_digit c.args.v (omega arith) in
    rw one (put_byte _ _ (48 + c.args.v) (omega (arith, ap length one)))

pub put_decimal-to-requires : goal.put_decimal-to-requires
put_decimal-to-requires t c = (search rules, omega (arith, longer c.args.v (omega arith) (omega arith)))

pub bounds-out-to : goal.bounds-out-to
bounds-out-to t c = omega (arith, longer c.args.v (omega arith) (omega arith), put_length c.put_decimal-to.ensures)

pub returns : goal.returns
returns t c =
    rw (decimal_last c.args.v (omega arith) (omega arith))
    (put_then c.put_decimal-to.ensures
    (put_byte _ _ (48 + c.args.v % 10) (omega (arith, longer c.args.v (omega arith) (omega arith), put_length c.put_decimal-to.ensures))))
