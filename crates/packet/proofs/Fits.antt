-- What the tests of form tell: the bytes of a packet that keeps the rules hold its header, and the ports where they are wanted.
use Rattle.promises.proofs.Prelude.{◌≡◌, ◌⊎◌, inl, inr, true, false, ℕ, ◌≤◌, ◌<◌, ◌+◌, arith}
use borrow.Author.Tests.{leb-true}
use Rattle.promises.proofs.Decided.{bool_cases, both}
use Rattle.packet.specs.declared.Header.{Header}
use Rattle.packet.specs.Packet.{wants_ports, fits4, ports_fit}

pub record Fits4 (h : Header) (n : ℕ) : Type 0 where
  pub least : 20 ≤ h.end
  pub within : h.end ≤ h.total
  pub given : h.total ≤ n

pub fits4_true : (h : Header) (n : ℕ) → fits4 h n ≡ true → Fits4 h n
fits4_true h n e =
    let (header, given) = both _ _ e in
    let (least, within) = both _ _ header in
    record { least = leb-true _ _ least; within = leb-true _ _ within; given = leb-true _ _ given }

pub fits4_short : (h : Header) (n : ℕ) → n < 20 ⊎ h.total < 20 → fits4 h n ≡ false
fits4_short h n short = elim (bool_cases (fits4 h n)) [
  | inl e ↦
      let f = fits4_true h n e in
      elim short [ inl l ↦ absurd (omega (arith, f.least, f.within, f.given)) | inr l ↦ absurd (omega (arith, f.least, f.within)) ]
  | inr e ↦ e
]

pub ports_room : (h : Header) → wants_ports h ≡ true → ports_fit h ≡ true → h.end + 4 ≤ h.total
ports_room h wants fits = leb-true _ _ (rw wants at fits)
