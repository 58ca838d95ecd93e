-- The words of the toolchain that proofs use most, passed on in one place. A rarer one is brought in from its own module.
pub use mathlib.Core.Path.{◌≡◌, refl, ◌∙◌, sym, ap, subst, ap₂}
pub use mathlib.Core.Logic.{◌≢◌, inl, inr, ◌⊎◌}
pub use mathlib.Core.Bool.{true, false, Bool, not, ◌&&◌, cond}
pub use mathlib.Core.List.{List, [], ◌∷◌, ◌++◌, append-nil, append_assoc}
pub use Prim.Native.Nat.{ℕ, ◌-◌, ◌≤◌, ◌<◌, ◌+◌, suc, zero, ◌^◌, ◌*◌, ◌/◌, ◌%◌}
pub use native.Mathlib.Nat.{add-zero, zero-add}
pub use native.Mathlib.Numerals.{add-one}
pub use native.Mathlib.Omega.{arith}
pub use native.Mathlib.Decide.{ℕ_discrete, dec_lt}
pub use lib.ListN.{length, drop, set, length-append, length-set, take, length-drop, drop_of_length-le, replicate, take-append-drop, length-replicate, get_or}
pub use lib.ListN.{length-take}
pub use lib.Seq.{get_or-set_same, get_or-set_other, length-take-le, sets, drop-drop, get_or-take, take_at}
pub use lib.Dec.{eqb, ltb}
pub use borrow.Author.Rules.{rules}
pub use borrow.Author.Tests.{ne_eqb, eq-eqb, le-ltb, lt-ltb, le-leb, eqb-true, not-false}
pub use borrow.Author.Count.{below_more}
