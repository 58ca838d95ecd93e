-- How a record reads back. Nobody has to believe this: proofs/ shows that it undoes `record_of`.
use Rattle.std.specs.Prelude.{cond, List, [], ◌∷◌, ℕ, zero, suc, ◌+◌, ◌-◌, eqb}
use Rattle.rules.specs.Table.{◌!◌, Bare, Table, table}
use Rattle.sound.specs.Removals.{after}
use Rattle.fields.specs.Numbers.{number_at}
use Rattle.fields.specs.declared.Form.TheVariants.{Short}
use Rattle.fields.specs.declared.Form.{Form}
use Rattle.fields.specs.Form.{field, mark_length, server_length, out_length, out_at, in_at}
use Rattle.saved.specs.Record.{each}

abbrev pub listed : (ℕ → ℕ) → ℕ → List ℕ
listed f n = each (λ i. f i ∷ []) n

-- the seats in use below b
abbrev pub rank : List ℕ → ℕ → ℕ
rank A zero = 0
rank A (suc b) = rank A b + cond (eqb (A ! b) 0) 1 0

-- the form that a head's mark names: the only one, until there is a second
unfoldable pub marked_form : List ℕ → Form
marked_form s = Short

module _ (f : Form) (s : List ℕ) where
  abbrev pub seats_in : ℕ
  seats_in = number_at s mark_length (field f)

  abbrev pub used_in : ℕ
  used_in = number_at s (out_length f) (field f)

  -- the seat of the i-th removal, and the j-th server after m of them
  abbrev pub left_at : ℕ → ℕ
  left_at i = number_at s (out_at f i + mark_length) (field f)

  abbrev pub server_at : ℕ → ℕ → ℕ
  server_at m j = number_at s (in_at f m j + out_length f) server_length

  abbrev pub server_of : ℕ → List ℕ → ℕ → ℕ
  server_of m A b = cond (eqb (A ! b) 0) (server_at m (rank A b)) 0

  -- the table of a seats before removal i of m
  unfoldable pub bare_from : ℕ → ℕ → ℕ → Bare
  bare_from a m i = after a (listed left_at m) i

  -- the table of a seats with n in use
  unfoldable pub table_read : ℕ → ℕ → Table
  unfolding bare_from
  table_read a n =
      let m = a - n in
      let F = bare_from a m m in
      table F (listed (server_of m F.A) a)

abbrev pub table_from : List ℕ → Table
table_from s = let f = marked_form s in table_read f s (seats_in f s) (used_in f s)
