-- The promise of `packet_key` leaves one outcome: an answer's number says which result it is.
use Rattle.promises.specs.One.{One}
use Rattle.rules.specs.Answers.{Outcome, Results}
use Rattle.rules.proofs.One.{nothing_told, one_results}
use Rattle.packet.specs.Key.{keyed_answer}

pub one_keyed : (x : Outcome) → One (Results keyed_answer x)
one_keyed = one_results nothing_told
