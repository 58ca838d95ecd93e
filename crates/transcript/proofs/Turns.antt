-- A line more: what is read of the input, and what is written of the transcript.
use Rattle.promises.proofs.Prelude.{◌≡◌, refl, sym, inl, inr, subst, false, not, List, [], ◌∷◌, ℕ, suc, ◌<◌, ◌≤◌, ◌+◌, arith, ℕ_discrete, length, drop, take, ne_eqb, eq-eqb, eqb, ltb, drop_of_length-le, append_assoc, append-nil, ◌++◌, ◌*◌, length-append, length-take-le, take-append-drop}
use Rattle.std.specs.Prelude.{Some, None}
use Rattle.std.specs.List.{position_or_len}
use lib.Seq.{take-length}
use borrow.Author.Tests.{ltb-false}
use Rattle.std.proofs.lemmas.List.Sums.{prefix_len-le-length}
use Rattle.promises.proofs.Decided.{bool_cases}
use Rattle.std.specs.Counts.{IsPrefixLen}
use Rattle.promises.specs.One.{One}
use Rattle.transcript.specs.Written.{Written}
use Rattle.decimals.proofs.Stored.{put_length, put_front, put_behind}
use Rattle.lines.specs.Lines.{joins, lines_of, command_of}
use Rattle.transcript.specs.Printing.{printed}
use Rattle.transcript.specs.Transcript.{respond, replies}
use Rattle.transcript.specs.declared.Output.{Output}
use Rattle.transcript.specs.declared.Table.{Table}
use Rattle.transcript.proofs.Saying.{adds_then}
use Rattle.transcript.specs.Replies.{Reply, byte_room, line_room, reply_most, reply_answer, Adds, Puts, first_end}
use Rattle.transcript.specs.Tables.{table_in, After}

-- the first line, up to its end or the input's

abbrev upto : List ℕ → ℕ
upto s = position_or_len (λ b. eqb b 10) s

abbrev Begins : List ℕ → ℕ → Type 0
Begins s n = lines_of s ≡ take n s ∷ lines_of (drop (n + 1) s)

begins_later : (b : ℕ) (l : List ℕ) (n : ℕ) → eqb b 10 ≡ false → Begins l n → Begins (b ∷ l) (1 + n)
unfolding lines_of
begins_later b l n h e =
    let one : 1 + n ≡ suc n = omega arith in
    let more : 1 + n + 1 ≡ suc (n + 1) = omega arith in
    rw (h, more, one, e)

begins : (s : List ℕ) → 0 < length s → Begins s (upto s)
unfolding lines_of
begins [] h = absurd (omega arith)
begins (b ∷ []) h = elim (ℕ_discrete b 10) [ yes e ↦ rw (eq-eqb b 10 e) | no e ↦ rw (ne_eqb b 10 e) ]
begins (b ∷ c ∷ s) h = elim (ℕ_discrete b 10) [
  | yes e ↦ rw (eq-eqb b 10 e)
  | no e ↦
      let other = ne_eqb b 10 e in
      let k : upto (b ∷ c ∷ s) ≡ 1 + upto (c ∷ s) = rw other refl in
      subst (Begins (b ∷ c ∷ s)) (sym k) (begins_later b (c ∷ s) (upto (c ∷ s)) other (begins (c ∷ s) (omega arith)))
]

module _ (s : List ℕ) (h : 0 < length s) where
  pub lines_ended : (i : ℕ) → Some i ≡ first_end s → lines_of s ≡ take i s ∷ lines_of (drop (i + 1) s)
  lines_ended i e = elim (bool_cases (ltb (upto s) (length s))) [
    | inl t ↦ let n : i ≡ upto s = cc in rw n (begins s h)
    | inr t ↦ cc
  ]

  pub lines_unended : None ≡ first_end s → lines_of s ≡ s ∷ []
  unfolding lines_of
  lines_unended e = elim (bool_cases (ltb (upto s) (length s))) [
    | inl t ↦ cc
    | inr t ↦
        let n : upto s ≡ length s = omega (arith, ltb-false (upto s) (length s) t, prefix_len-le-length (λ b. not (eqb b 10)) s) in
        let none : drop (length s + 1) s ≡ [] = drop_of_length-le s (omega arith) in
        rw (n, take-length, none) at (begins s h)
  ]

-- what is printed so far, before the answers to the lines that are left, is the whole; and there is room for these

abbrev pub room_of : List (List ℕ) → ℕ
room_of [] = 0
room_of (l ∷ ls) = line_room l + room_of ls

room_of_joins : (b : ℕ) (ls : List (List ℕ)) → room_of (joins b ls) ≤ byte_room + room_of ls
room_of_joins b [] = omega arith
room_of_joins b (l ∷ ls) = omega arith

room_of_lines : (s : List ℕ) → room_of (lines_of s) ≤ byte_room * length s
unfolding lines_of
room_of_lines [] = omega arith
room_of_lines (b ∷ s) = elim (bool_cases (eqb b 10)) [
  | inl e ↦ rw e (omega (arith, room_of_lines s))
  | inr e ↦ rw e (omega (arith, room_of_lines s, room_of_joins b (lines_of s)))
]

pub record So (most : ℕ) (all : List (List ℕ)) (before out : Output) (table : Table) (left : List (List ℕ)) : Type 0 where
  pub few : room_of left ≤ byte_room * most
  pub room : out.len + room_of left ≤ length before.bytes.now
  pub text : List ℕ
  pub adds : Adds text before out
  pub whole : text ++ replies (table_in table) left ≡ replies [] all

pub so_begins : (s : List ℕ) (before : Output) (table : Table) {left : List (List ℕ)} → left ≡ lines_of s → table.len ≡ 0
    → before.len + byte_room * length s ≤ length before.bytes.now → So (length s) (lines_of s) before before table left
so_begins s before table e z h = rw e (record {
  few = room_of_lines s;
  room = omega (arith, room_of_lines s);
  text = [];
  adds = record { put = record { fits = omega arith; next = omega arith; bytes = refl }; same = refl };
  whole = rw z;
})

module _ {most : ℕ} {all : List (List ℕ)} {before out : Output} {table : Table} {line : List ℕ} {left : List (List ℕ)} (so : So most all before out table (line ∷ left)) where
  pub line_short : length line ≤ most
  line_short = omega (arith, so.few)

  module _ {r : Reply} {table' : Table} (after : After (respond (table_in table) (command_of line)) (line_room line) r table') where
    pub fits : out.len + reply_most r ≤ length out.bytes.now
    fits = omega (arith, put_length so.adds.put, after.reply.short)

    pub so_more : {out' : Output} → Puts r out out' → So most all before out' table' left
    unfolding replies
    so_more p = record {
      few = omega (arith, so.few);
      room = omega (arith, p.short, after.reply.short);
      text = so.text ++ printed (reply_answer r);
      adds = adds_then so.adds p.adds;
      whole = rw (after.words, append_assoc so.text (printed (reply_answer r)), after.reply.answer) so.whole;
    }

pub so_ends : {most : ℕ} {all : List (List ℕ)} {before out : Output} {table : Table} → So most all before out table [] → Adds (replies [] all) before out
unfolding replies
so_ends {all = all} so = let e : so.text ≡ replies [] all = rw append-nil at so.whole in rw e at so.adds

-- what stands alone at the front is all that is written
pub adds_written : {text : List ℕ} {before out : Output} → before.len ≡ 0 → Adds text before out → Written text before.bytes.now (out.len, out.bytes.now)
adds_written {out = out} z a =
    let p = rw z at a.put in
    record { count = omega (arith, p.next); bytes = cc (take-append-drop out.len out.bytes.now, put_front p, put_behind p) }

pub written_counts : {text before after : List ℕ} {r : ℕ} → Written text before (r, after) → IsPrefixLen r after
written_counts {text} {before} {after} {r} w =
    let h : r ≤ length after = rw w.bytes (simp length-append (omega arith)) in
    (h, sym (length-take-le r after h))

-- the promise of `run` leaves one outcome
pub one_written : (text before : List ℕ) → One (Written text before)
one_written text before (n, l) (m, k) w v = cc
