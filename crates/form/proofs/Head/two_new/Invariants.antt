-- `form::Head::two_new` meets its contract. The loop's invariant: the first i are looked at.
use Rattle.promises.proofs.Prelude.{◌≢◌, ℕ, ◌<◌, ◌+◌}
use Rattle.promises.specs.Decides.{Decides}
use Rattle.saved.specs.Reader.{server_at}
use Rattle.form.specs.Heads.{removals}
use Rattle.form.proofs.Head.two_new.Given as goal

abbrev pub invariant-loop-i : goal.invariant-loop-i
invariant-loop-i l =
    let server = server_at l.self.form l.self.bytes.now (removals l.self) in
    Decides l.ok ((k : ℕ) → k < l.i → (server k ≢ server l.j) × (server k ≢ server (l.j + 1)))
