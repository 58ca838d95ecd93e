-- A change moves only keys that are on its seat while that is in use, since the array rule finds every other key as before
-- (crate lookups), and the other seats keep their servers.
use Rattle.promises.proofs.Prelude.{◌≡◌, refl, ◌∙◌, sym, ap, subst, ◌≢◌, List, [], ◌∷◌, ℕ, ◌-◌, ◌*◌, ◌≤◌, ◌<◌, arith, get_or-set_other, ne_eqb}
use native.Mathlib.Nat.{zero-mul}
use Rattle.rules.specs.Table.{◌!◌, Table, table_of}
use Rattle.rules.specs.History.{Reached, Sound}
use Rattle.rules.specs.Keys.{first_of, pick_of, moves_of, Found, set_rule, Looked, found, array_rule}
use Rattle.rules.specs.Answers.{Answer, fine}
use Rattle.rules.proofs.Words.{legal_is}
use Rattle.sound.proofs.Sound.{sound_legal, sound_table}
use Rattle.lookups.specs.InUse.{Serves}
use Rattle.lookups.specs.FewDraws.{Few}
use Rattle.lookups.specs.Stay.{OnlyOn}
use Rattle.lookups.proofs.EveryTable.{first_below, hash_draws}
use Rattle.lookups.proofs.InUse as InUse
use Rattle.lookups.proofs.FewDraws as FewDraws
use Rattle.lookups.proofs.FewFollows as FewFollows
use Rattle.lookups.proofs.Stay as Stay
use Rattle.find.specs.Find.{find_call}
use Rattle.demands.specs.Keys.{seat_for, BySets, EveryKey, NoneOut, TakingOut, Seating}
use Rattle.changes.proofs.Accepted.{out_changes, seat_changes}

-- what the array rule says of a key
abbrev pub rule : Table → ℕ → Looked
rule T k = array_rule T.bare (pick_of k) (first_of k T.bare.seats)

-- find answers f, with the server there, and the walks
pub record Finds (w : List ℕ) (k : ℕ) (f : Found) (walks : ℕ) : Type 0 where
  pub ruled : rule (table_of w) k ≡ found f walks
  pub serves : Serves (table_of w) f
  pub few : Few (w ! 0) (w ! 1) f.draws
  pub few_walks : walks ≤ (w ! 0 - w ! 1) * (f.draws - 1)
  pub answer : find_call w k ≡ fine (f.seat ∷ (table_of w).S ! f.seat ∷ f.draws ∷ walks ∷ [])

module _ (w : List ℕ) (k : ℕ) (r : Reached (table_of w)) (s : Sound w) where
  abbrev T : Table
  T = table_of w

  abbrev first : ℕ
  first = first_of k (w ! 0)

  below : first < w ! 0
  below = first_below k (w ! 0) (sound_legal s).some

  pub finds_by : (walks : ℕ) × Finds w k (set_rule T.bare (moves_of r.a r.ids r.history) (pick_of k) first) walks
  unfolding find_call
  finds_by =
      let (walks, e, few) = FewFollows.walks T r (pick_of k) first (hash_draws k) below in
      let served = InUse.theorem T r (pick_of k) first (hash_draws k) below in (
        walks,
        record {
          ruled = e;
          serves = served;
          few = FewDraws.theorem T r (pick_of k) first (hash_draws k) below;
          few_walks = few;
          answer = rw (legal_is w (sound_legal s), e, ne_eqb _ 0 served.server) refl;
        },
      )

pub finds : (w : List ℕ) (k : ℕ) → Sound w → (f : Found) × (walks : ℕ) × Finds w k f walks
finds w k s = let f = finds_by w k (sound_table s) s in (_, f.0, f.1)

-- the same, of what the rule is known to find
pub finds_same : (w : List ℕ) (k : ℕ) (f : Found) (walks : ℕ) → Sound w → rule (table_of w) k ≡ found f walks → Finds w k f walks
finds_same w k f walks s e =
    let (g, n, at) = finds w k s in
    let same : g ≡ f = cc at.ruled in
    let sameWalks : n ≡ walks = cc at.ruled in
    subst (λ (x : Found). Finds w k x walks) same (subst (λ (x : ℕ). Finds w k g x) sameWalks at)

pub by_sets : BySets
by_sets w k r s = let e = (finds_by w k r s).1.answer in rw e refl

pub every_key : EveryKey
every_key w k s =
    let f = (finds w k s).2 in
    let e = f.answer in
    record {
      is_fine = rw e refl;
      seat = rw e f.serves.below;
      server = rw e f.serves.server;
      draws = rw e f.few.most;
      walks = rw e f.few_walks;
    }

pub none_out : NoneOut
none_out w k s e =
    let none : w ! 0 - w ! 1 ≡ 0 = omega arith in
    omega (arith, rw (none, zero-mul) at (every_key w k s).walks)

-- b is in use in the words w, and out of use in v
only_on : (w v : List ℕ) (b k : ℕ) → Sound w → Sound v → OnlyOn b (rule (table_of w) k) (rule (table_of v) k)
    → ((x : ℕ) → x ≢ b → (table_of v).S ! x ≡ (table_of w).S ! x) → seat_for w k ≢ b → find_call v k ≡ find_call w k
only_on w v b k s t only same ne =
    let (f, walks, at) = finds w k s in
    let off : f.seat ≢ b = λ e. ne (ap (λ (r : Answer). r.values ! 0) at.answer ∙ e) in
    let still = finds_same v k f walks t (only.others f.seat f.draws walks off at.ruled) in
    still.answer ∙ ap (λ (x : ℕ). fine (f.seat ∷ x ∷ f.draws ∷ walks ∷ [])) (same f.seat off) ∙ sym at.answer

pub taking_out : TakingOut
taking_out w v id b k s e =
    let c = out_changes w v id b s e in
    let T = table_of w in
    only_on w v b k s c.sound
    (subst (λ (U : Table). OnlyOn b (rule T k) (rule U k)) (sym c.table) (Stay.taking_out T id b (pick_of k) (first_of k (w ! 0)) (sound_table s) c.accepts))
    (λ x ne. ap (λ (U : Table). U.S ! x) c.table ∙ get_or-set_other T.S b x 0 0 ne)

pub seating : Seating
seating w v id b k s small e ne =
    let c = seat_changes w v id b s small e in
    let T = table_of w in
    sym (only_on v w b k c.sound s
    (subst (λ (U : Table). OnlyOn b (rule U k) (rule T k)) (sym c.table) (Stay.seating T id b (pick_of k) (first_of k (w ! 0)) (sound_table s) c.accepts))
    (λ x off. sym (ap (λ (U : Table). U.S ! x) c.table ∙ rw c.accepts.is_last (get_or-set_other T.S b x id 0 off))) ne)
