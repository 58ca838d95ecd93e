-- `record::Record::build` meets its contract: a full table is laid out, the removals are made, and the servers stand in S last.
use Rattle.promises.proofs.Prelude.{◌∙◌, arith}
use Rattle.rules.specs.Table.{part}
use Rattle.layout.proofs.Laid.{part_long}
use Rattle.record.proofs.Built.{laid_none}
use Rattle.record.proofs.Record.build.Goals as goal

pub take_all-requires : goal.take_all-requires
take_all-requires c =
    let r = c.args.self.now in
    let w = c.args.run.now.words.now in
    record {
      seats = c.lay_bare.ensures.keeps.seats ∙ c.requires;
      laid = laid_none r.good c.lay_bare.new.run.words.now (part r.seats 5 w) (part_long w r.seats 5 (omega (arith, c.args.run.now.shape.size, c.requires))) (rw c.requires at c.lay_bare.ensures.words);
    }
