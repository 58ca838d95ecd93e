-- `ids::place_in` meets its contract: a place that is none is the length.
use Rattle.ids.proofs.Scans.{place_or_length}
use Rattle.ids.proofs.place_in.Goals as goal

pub returns : goal.returns
returns c = place_or_length c.args.id c.args.l.now c.find_in.result c.unwrap_or.result c.find_in.ensures c.unwrap_or.ensures
