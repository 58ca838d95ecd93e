-- The promise of `audit_table` leaves one result: an answer's number says which it is.
use Rattle.promises.specs.One.{One}
use Rattle.rules.specs.Answers.{Answer, Says}
use Rattle.rules.proofs.One.{nothing_told, one_says}
use Rattle.audit.specs.Audit.{audited_answer}

pub one_audited : (x : Answer) → One (Says audited_answer x)
one_audited = one_says nothing_told
