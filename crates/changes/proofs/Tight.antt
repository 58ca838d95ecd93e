-- The promises of `open_table`, `seat_server` and `take_out` leave one outcome: an answer's number and values say which result it is.
use Rattle.promises.specs.One.{One}
use Rattle.rules.specs.Answers.{Outcome, Results}
use Rattle.rules.proofs.One.{one_results, number_told, seat_told}
use Rattle.changes.specs.Calls.{opened_answer, changed_answer}

pub one_opened : (x : Outcome) → One (Results opened_answer x)
one_opened = one_results number_told

pub one_changed : (x : Outcome) → One (Results changed_answer x)
one_changed = one_results seat_told
