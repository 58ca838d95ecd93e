-- `Cursor::word` meets its contract: it tries the four words in their order.
use Rattle.lines.specs.Lines.{open_word, seat_word, out_word, find_word, command_of}
use Rattle.lines.specs.Readings.{ids_read}
use Rattle.lines.proofs.Words.{starts_pointwise}
use Rattle.lines.proofs.Cursor.word.Goals as goal

pub returns-in-Some-clause-read : goal.returns-in-Some-clause-read
unfolding command_of ids_read
returns-in-Some-clause-read c =
    let s = c.args.self.rest.now in
    let found = c.in-Some.ensures.cases in
    rw (starts_pointwise open_word s, found.0, found.1)

pub returns-in-Some-strip_prefix-clause-read : goal.returns-in-Some-strip_prefix-clause-read
unfolding command_of ids_read
returns-in-Some-strip_prefix-clause-read c =
    let s = c.args.self.rest.now in
    let found = c.in-Some-strip_prefix.ensures.cases in
    rw (starts_pointwise open_word s, c.in_default.ensures.cases, starts_pointwise seat_word s, found.0, found.1)

pub returns-in-Some-strip_prefix-2-clause-read : goal.returns-in-Some-strip_prefix-2-clause-read
unfolding command_of ids_read
returns-in-Some-strip_prefix-2-clause-read c =
    let s = c.args.self.rest.now in
    let found = c.in-Some-strip_prefix-2.ensures.cases in
    rw (starts_pointwise open_word s, c.in_default.ensures.cases, starts_pointwise seat_word s, c.in_default-strip_prefix.ensures.cases)
    (rw (starts_pointwise out_word s, found.0, found.1))

pub returns-in-Some-strip_prefix-3-clause-read : goal.returns-in-Some-strip_prefix-3-clause-read
unfolding command_of ids_read
returns-in-Some-strip_prefix-3-clause-read c =
    let s = c.args.self.rest.now in
    let found = c.in-Some-strip_prefix-3.ensures.cases in
    rw (starts_pointwise open_word s, c.in_default.ensures.cases, starts_pointwise seat_word s, c.in_default-strip_prefix.ensures.cases)
    (rw (starts_pointwise out_word s, c.in_default-strip_prefix-2.ensures.cases, starts_pointwise find_word s, found.0, found.1))

pub returns-clause-read : goal.returns-clause-read
unfolding command_of ids_read
returns-clause-read c =
    let s = c.args.self.rest.now in
    rw (starts_pointwise open_word s, c.in_default.ensures.cases, starts_pointwise seat_word s, c.in_default-strip_prefix.ensures.cases)
    (rw (starts_pointwise out_word s, c.in_default-strip_prefix-2.ensures.cases, starts_pointwise find_word s, c.in_default-strip_prefix-3.ensures.cases))
