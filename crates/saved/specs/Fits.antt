-- The test of bytes that load makes, told for each field. Nobody has to believe this: proofs/ shows that exactly the records pass it.
use Rattle.std.specs.Prelude.{◌≡◌, List, ◌≢◌, ℕ, ◌+◌, ◌-◌, ◌<◌, ◌≤◌, length}
use Rattle.rules.specs.Table.{◌!◌, most_seats}
use Rattle.rules.specs.Changes.{Leaves}
use Rattle.fields.specs.Numbers.{number_at, Stands}
use Rattle.fields.specs.declared.Form.{Form}
use Rattle.fields.specs.Form.{head_mark, field, form_for, out_mark, in_mark, mark_length, server_length, out_length, out_at, in_at}
use Rattle.saved.specs.Reader.{rank, seats_in, used_in, left_at, server_at, bare_from}

module _ (f : Form) (s : List ℕ) where
  -- a head of a seats with n in use, and bytes for its records
  pub record HeadFits (a n : ℕ) : Type 0 where
    pub mark : Stands s 0 (head_mark f)
    pub is_a : seats_in f s ≡ a
    pub is_N : used_in f s ≡ n
    pub some : 1 ≤ n
    pub fit : n ≤ a
    pub most : a ≤ most_seats
    pub long : length s ≡ in_at f (a - n) n

  -- the record of removal i of m: its seat is in use when it leaves
  pub record OutFits (a m i : ℕ) : Type 0 where
    pub mark : Stands s (out_at f i) out_mark
    pub leaves : Leaves (bare_from f s a m i) (left_at f s i)

  -- a record of seat b stands at `at`
  pub record InFits (at b : ℕ) : Type 0 where
    pub mark : Stands s at in_mark
    pub own : number_at s (at + mark_length) (field f) ≡ b
    pub some : number_at s (at + out_length f) server_length ≢ 0

  abbrev pub AllOut : ℕ → ℕ → ℕ → Type 0
  AllOut a m n = (i : ℕ) → i < n → OutFits a m i

  -- of each seat below n that is in use after the m removals that left A
  abbrev pub AllIn : ℕ → List ℕ → ℕ → Type 0
  AllIn m A n = (b : ℕ) → b < n → A ! b ≡ 0 → InFits (in_at f m (rank A b)) b

  -- the j-th server is none of those before it
  abbrev pub New : ℕ → ℕ → Type 0
  New m j = (i : ℕ) → i < j → server_at f s m i ≢ server_at f s m j

  abbrev pub AllNew : ℕ → ℕ → Type 0
  AllNew m n = (j : ℕ) → j < n → New m j

  -- after the head
  pub record BodyFits (a n : ℕ) : Type 0 where
    pub outs : AllOut a (a - n) (a - n)
    pub ins : AllIn (a - n) (bare_from f s a (a - n) (a - n)).A a
    pub apart : AllNew (a - n) n

  -- the bytes are a record of a seats with n in use
  pub record Good (a n : ℕ) : Type 0 where
    pub head : HeadFits a n
    pub own : form_for a ≡ f
    pub body : BodyFits a n
