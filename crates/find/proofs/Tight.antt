-- The promise of `find_server` leaves one result: an answer's number and values say which it is.
use Rattle.promises.proofs.Prelude.{◌≡◌, [], ◌∷◌}
use Rattle.promises.specs.One.{One}
use Rattle.rules.specs.Answers.{Answer, Says}
use Rattle.rules.proofs.One.{result_apart, one_says}
use Rattle.find.specs.declared.Found.{Found}
use Rattle.find.specs.Find.{lookup_answer}

exact : (f g : Found) → f.seat.0 ∷ f.server ∷ f.draws ∷ f.walks ∷ [] ≡ g.seat.0 ∷ g.server ∷ g.draws ∷ g.walks ∷ [] → f ≡ g
exact f g e =
    let seat : f.seat.0 ≡ g.seat.0 = cc in
    let server : f.server ≡ g.server = cc in
    let draws : f.draws ≡ g.draws = cc in
    let walks : f.walks ≡ g.walks = cc in
    λ i. record { seat = record { 0 = seat i }; server = server i; draws = draws i; walks = walks i }

pub one_found : (x : Answer) → One (Says lookup_answer x)
one_found = one_says (result_apart _ exact)
