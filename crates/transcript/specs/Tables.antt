-- What the lines leave: an answer, and the table after it.
use Rattle.std.specs.Prelude.{◌≡◌, List, ℕ, ◌≤◌, take}
use Rattle.rules.specs.Answers.{Answer, Outcome}
use Rattle.transcript.specs.Replies.{Reply, reply_answer, reply_most}
use Rattle.transcript.specs.declared.Table.{Table}

-- an answer that takes so many bytes at the most
pub record Short (x : Answer) (most : ℕ) (r : Reply) : Type 0 where
  pub answer : reply_answer r ≡ x
  pub short : reply_most r ≤ most

-- the words of the table
abbrev pub table_in : Table → List ℕ
table_in s = take s.len s.words.now

-- such an answer, and the table after it
pub record After (o : Outcome) (most : ℕ) (r : Reply) (s : Table) : Type 0 where
  pub reply : Short o.answer most r
  pub words : table_in s ≡ o.after
