-- Request 1/13, 'Keys from packets': the key of a list of words, and the call.
use Rattle.std.specs.Prelude.{not, Result, List, [], ◌∷◌, ℕ, length, eqb}
use Rattle.std.specs.Int.Bits.{bit_xor}
use Rattle.splitmix.specs.Generator.{output}
use Rattle.rules.specs.Answers.{Answer, result_answer, Outcome, refused_at, done, ◌⇒◌, first_that}
use Rattle.rules.specs.declared.Refusal.{Refusal}
use Rattle.rules.specs.declared.Refusal.TheVariants.{Room, Packet}
use Rattle.fields.specs.Numbers.{bytes}
use Rattle.packet.specs.Packet.{well_formed, words_of}

-- for each word the key becomes output 1 started at key xor word
abbrev pub key_from : ℕ → List ℕ → ℕ
key_from key [] = key
key_from key (x ∷ xs) = key_from (output 1 (bit_xor key x)) xs

-- it starts at 0
abbrev pub key_of : List ℕ → ℕ
key_of xs = key_from 0 xs

-- the number of each answer, which has no value
abbrev pub keyed_answer : Result (Unit {0}) Refusal → Answer
keyed_answer = result_answer (λ _. [])

-- The key of the packet p into the lent bytes k, which are to be eight
unfoldable pub key_call : List ℕ → List ℕ → Outcome
key_call p k =
    first_that (not (eqb (length k) 8) ⇒ Room ∷ not (well_formed p) ⇒ Packet ∷ []) (refused_at k)
    (done [] (bytes 8 (key_of (words_of p))))
