-- What the program's replies mean, how much room they take, and what is left of the output and of the input.
use Rattle.std.specs.Prelude.{◌≡◌, List, [], ◌∷◌, ℕ, ◌+◌, ◌*◌, ◌≤◌, max, length, Option, Result, Ok, Err, eqb}
use Rattle.std.specs.List.{position}
use Rattle.rules.specs.Answers.{Answer, fine, refused}
use Rattle.decimals.specs.Places.{Put}
use Rattle.find.specs.Find.{lookup_answer}
use Rattle.transcript.specs.Printing.{printed}
use Rattle.transcript.specs.Transcript.{line_refused}
use Rattle.transcript.specs.declared.Values.{Values}
use Rattle.transcript.specs.declared.Values.TheVariants as values
use Rattle.transcript.specs.declared.LineRefusal.{LineRefusal}
use Rattle.transcript.specs.declared.LineRefusal.TheVariants as errors
use Rattle.transcript.specs.declared.Output.{Output}
use Rattle.transcript.specs.declared.Lines.{Lines}
use Rattle.lines.specs.Lines.{lines_of}

abbrev pub Reply : Type 0
Reply = Result Values LineRefusal

abbrev pub reply_answer : Reply → Answer
reply_answer (Ok (values.One v)) = fine (v ∷ [])
reply_answer (Ok (values.Found f)) = lookup_answer (Ok f)
reply_answer (Err (errors.Refused r)) = refused r
reply_answer (Err errors.Unknown) = line_refused

abbrev pub number_of_line_refusal : LineRefusal → ℕ
number_of_line_refusal why = (reply_answer (Err why)).number

-- the bytes of a number of 32 bits behind a space, at the most: ten digits
abbrev pub value_most : ℕ
value_most = 11

-- the bytes of a line of k such numbers, at the most: a word of two, the numbers, and LF
abbrev pub line_most : ℕ → ℕ
line_most k = 2 + value_most * k + 1

-- the bytes of the answer to a line that is not known: `no 11` and LF
abbrev pub unknown_most : ℕ
unknown_most = 6

-- the bytes of the output for each byte of the input. A find's line has 6 bytes at the least and its answer `line_most 4`, which is 47, at the most: within
-- 6 * 8. An empty line is one byte, LF, and its answer 6: within 8.
abbrev pub byte_room : ℕ
byte_room = 8

-- room for the answer to a line
abbrev pub line_room : List ℕ → ℕ
line_room line = byte_room * max 1 (length line)

-- the bytes that a reply takes, at the most
abbrev pub reply_most : Reply → ℕ
reply_most (Ok (values.One v)) = line_most 1
reply_most (Ok (values.Found f)) = line_most 4
reply_most (Err (errors.Refused r)) = line_most 1
reply_most (Err errors.Unknown) = unknown_most

-- text is put behind what is written
pub record Adds (text : List ℕ) (before after : Output) : Type 0 where
  pub put : Put text before.len before.bytes.now (after.len, after.bytes.now)
  pub same : after.bytes.ghost_name ≡ before.bytes.ghost_name

-- a reply's line is put
pub record Puts (r : Reply) (before after : Output) : Type 0 where
  pub adds : Adds (printed (reply_answer r)) before after
  pub short : after.len ≤ before.len + reply_most r

-- the place of the first LF
abbrev pub first_end : List ℕ → Option ℕ
first_end input = position (λ b. eqb b 10) input

-- the lines that are left
abbrev pub lines_left : Lines → List (List ℕ)
lines_left s = lines_of s.0.now
