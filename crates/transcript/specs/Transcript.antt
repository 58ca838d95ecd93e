-- Document 01, 'The line program': what a transcript is.
use Rattle.std.specs.Prelude.{cond, List, [], ◌∷◌, ◌++◌, ℕ, length, replicate, ltb, eqb}
use Rattle.rules.specs.Table.{run_length}
use Rattle.rules.specs.Answers.{Answer, refused, Outcome}
use Rattle.rules.specs.declared.Refusal.TheVariants.{Room}
use Rattle.changes.specs.Calls.{open_call, seat_call, out_call}
use Rattle.find.specs.Find.{find_call}
use Rattle.lines.specs.Lines.{lines_of, Command, open_line, seat_line, out_line, find_line, unknown, command_of}
use Rattle.transcript.specs.Printing.{printed}

-- the program does not know the line
abbrev pub line_refused : Answer
line_refused = record { number = 11; values = [] }

-- a refused open keeps the old table
abbrev pub reopened : List ℕ → Outcome → Outcome
reopened w o = cond (eqb o.answer.number 0) o (record { answer = o.answer; after = w })

-- a lookup leaves the table; its values are seat, server, draws and, by request 2/13, walks
abbrev pub looked : List ℕ → ℕ → Outcome
looked w key = record { answer = find_call w key; after = w }

-- what a command answers, and the words of the table after it
unfoldable pub respond : List ℕ → Command → Outcome
respond w (open_line a ids) = reopened w (open_call (replicate (run_length a) 0) a ids)
respond w (seat_line id) = seat_call w id
respond w (out_line id) = out_call w id
respond w (find_line key) = looked w key
respond w unknown = record { answer = line_refused; after = w }

-- each line gets one answer
unfoldable pub replies : List ℕ → List (List ℕ) → List ℕ
unfolding respond
replies w [] = []
replies w (l ∷ ls) =
    let o = respond w (command_of l) in
    printed o.answer ++ replies o.after ls

abbrev pub most_input : ℕ
most_input = 4096

-- before an accepted open the table is empty; input over 4,096 bytes prints `no 9` alone
unfoldable pub transcript : List ℕ → List ℕ
unfolding replies
transcript input = cond (ltb most_input (length input)) (printed (refused Room)) (replies [] (lines_of input))
