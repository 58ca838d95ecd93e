-- The promises of the reads that answer a part, or a value of its words, leave one outcome.
use Rattle.promises.proofs.Prelude.{List, ℕ}
use Rattle.promises.specs.One.{One}
use Rattle.promises.proofs.One.{one_equal, one_read}
use Rattle.rules.specs.Table.{part}
use Rattle.parts.specs.Shape.{Lends, Spelling, IsWord}

pub one_lent : (w : List ℕ) (a k : ℕ) → One (Lends w a k)
one_lent w a k l m h j = one_equal (part a k w) l m h.0 j.0

pub one_word : {V : Type 0} (s : Spelling V) (x : ℕ) → One (IsWord s x)
one_word s = one_read s.word s.exact
