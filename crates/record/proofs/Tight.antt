-- The promises of `save` and `load` leave one outcome: an answer's number and values say which result it is.
use Rattle.promises.specs.One.{One}
use Rattle.rules.specs.Answers.{Outcome, Results}
use Rattle.rules.proofs.One.{number_told, one_results}
use Rattle.record.specs.Calls.{saved_answer, loaded_answer}

pub one_saved : (x : Outcome) → One (Results saved_answer x)
one_saved = one_results number_told

pub one_loaded : (x : Outcome) → One (Results loaded_answer x)
one_loaded = one_results number_told
