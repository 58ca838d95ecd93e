-- A record is as long as document 01 says, since as many seats have A = 0 as are in use.
use Rattle.promises.proofs.Prelude.{◌≡◌, ◌∙◌, ℕ, ◌-◌, arith}
use Rattle.sound.proofs.Reached.{passes}
use Rattle.fields.specs.Form.{form_for, in_at}
use Rattle.fields.proofs.Places.{out_is, in_is}
use Rattle.saved.specs.Length.{record_length, Length, InBytes}
use Rattle.saved.proofs.Holds.{length_record_in}

pub record_end : (a N : ℕ) → in_at (form_for a) (a - N) N ≡ record_length a N
record_end a N = omega (arith, out_is (form_for a) (a - N), in_is (form_for a) (a - N) N)

pub theorem : Length
theorem T r = length_record_in (form_for T.bare.seats) T (passes r) ∙ record_end T.bare.seats T.bare.used

pub in_bytes : InBytes
unfolding form_for
in_bytes a N = omega arith
