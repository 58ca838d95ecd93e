-- A run's shape (document 01, 'The table'), as the functions that work on its parts ask for it.
use Rattle.std.specs.Prelude.{◌≡◌, cond, List, ℕ, ◌+◌, ◌<◌, ◌≤◌, length, Option, Some, None}
use Rattle.rules.specs.Table.{◌!◌, base, part, legal}
use Rattle.rules.specs.declared.Seat.{Seat}
use Rattle.rules.specs.declared.Position.{Position}

-- a run's seats, where its shape is legal
unfoldable pub size_of : List ℕ → Option ℕ
size_of w = cond (legal w) (Some (w ! 0)) None

-- place i of part k, where the part ends within the run
pub record Lent (w : List ℕ) (a k i : ℕ) : Type 0 where
  pub fits : base a k + a ≤ length w
  pub below : i < a

-- part k, with its length
abbrev pub Lends : List ℕ → ℕ → ℕ → List ℕ → Type 0
Lends w a k l = (l ≡ part a k w) × (length l ≡ a)

-- how the values of a type are words: no two are the same one
pub record Spelling (V : Type 0) : Type 1 where
  pub word : V → ℕ
  pub exact : (x y : V) → word x ≡ word y → x ≡ y

-- the value of this word
abbrev pub IsWord : {V : Type 0} → Spelling V → ℕ → V → Type 0
IsWord s x v = s.word v ≡ x

-- a number is its own word, a seat's and a position's is its number
abbrev pub number_word : Spelling ℕ
number_word = record { word = λ x. x; exact = λ x y e. e }

abbrev pub seat_word : Spelling Seat
seat_word = record { word = λ b. b.0; exact = λ b c e i. record { 0 = e i } }

abbrev pub position_word : Spelling Position
position_word = record { word = λ p. p.0; exact = λ p q e i. record { 0 = e i } }
