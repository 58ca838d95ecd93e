-- What a step leaves of a run that is lent as a struct: its words, its seats, and which run is lent. A promise of the words, with `Keeps`, leaves one of each.
use Rattle.promises.proofs.Prelude.{◌≡◌, ◌∙◌, sym, List, ℕ}
use Rattle.steps.specs.declared.RunMut.{RunMut}
use Rattle.steps.specs.Steps.{Keeps}

pub one_run : (w : List ℕ) (before o p : RunMut) → o.words.now ≡ w → Keeps before o → p.words.now ≡ w → Keeps before p
    → (o.words.now ≡ p.words.now) × (o.seats ≡ p.seats) × (o.words.ghost_name ≡ p.words.ghost_name)
one_run w before o p e k f l = (e ∙ sym f, k.seats ∙ sym l.seats, k.lent ∙ sym l.lent)
