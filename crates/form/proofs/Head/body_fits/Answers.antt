-- `form::Head::body_fits` meets its contract: the removals, the seats in use and the servers are tested in turn.
use Rattle.promises.proofs.Prelude.{◌≡◌, true, false}
use Rattle.form.proofs.Told.{ins_ready, body_told, body_ins}
use Rattle.form.proofs.Head.body_fits.Goals as goal
use Rattle.form.proofs.Head.body_fits.Goals.{then-note_outs, else-note_outs}

pub ins_fit-requires : goal.ins_fit-requires
ins_fit-requires c = ins_ready c.args.self.now (rw c.if-note_outs.true at c.note_outs.ensures)

pub returns-then-ins_fit : goal.returns-then-ins_fit
returns-then-ins_fit c = elim c.if-note_outs.branch [
  | then-note_outs w ↦
      let fits : w.ins_fit.result ≡ true = cc in
      body_told c.args.self.now (rw w.if-note_outs.true at c.note_outs.ensures) c.all_new.result (rw fits at w.ins_fit.ensures) c.all_new.ensures
  | else-note_outs w ↦ absurd (cc)
]

pub returns-else-ins_fit : goal.returns-else-ins_fit
returns-else-ins_fit c =
    rw c.if-ins_fit.false
    (elim c.if-note_outs.branch [
      | then-note_outs w ↦
          let misses : w.ins_fit.result ≡ false = cc in
          body_ins c.args.self.now (rw w.if-note_outs.true at c.note_outs.ensures) (rw misses at w.ins_fit.ensures)
      | else-note_outs w ↦ let misses = rw w.if-note_outs.false at c.note_outs.ensures in λ b. misses b.outs
    ])
