-- Document 01, FORM: "the bytes are no record of any sound table". So what loading builds is sound.
use Rattle.std.specs.Prelude.{◌≡◌, List, [], ◌∷◌, ℕ}
use Rattle.rules.specs.History.{Sound}
use Rattle.rules.specs.Answers.{done}
use Rattle.record.specs.Calls.{load_call}

abbrev pub LoadSound : Type 0
LoadSound = (w s built : List ℕ) (n : ℕ) → load_call w s ≡ done (n ∷ []) built → Sound built
