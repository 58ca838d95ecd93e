-- `lines::open_line` meets its contract. The loop's invariant: the ids read so far, before those of the rest, are all ids.
use Rattle.promises.proofs.Prelude.{length}
use Rattle.lines.proofs.Listing.{Listing}
use Rattle.lines.proofs.open_line.Given as goal

abbrev pub invariant-loop-c : goal.invariant-loop-c
invariant-loop-c l = Listing l.initial.c.rest.now l.initial.into l.into l.c.rest.now l.n

abbrev pub decreases-loop-c : goal.decreases-loop-c
decreases-loop-c l = length l.c.rest.now
