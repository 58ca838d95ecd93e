-- Whether words are sound is decided, so that a definition may ask it.
use Rattle.promises.proofs.Prelude.{◌≡◌, refl, ◌∙◌, sym, ap, subst, ◌≢◌, List, [], ◌∷◌, ℕ, ◌-◌, ◌<◌, suc, zero, ◌^◌, arith, ℕ_discrete, dec_lt, length, get_or}
use mathlib.Core.List.{List-discrete}
use mathlib.Core.Logic.Dec
use native.Mathlib.Decide.{dec_le, map_dec}
use Rattle.rules.specs.Table.{◌!◌, Bare, Table, table, parts, run_length, most_seats, table_of}
use Rattle.rules.specs.History.{Id, Reached, Sound}
use Rattle.rules.specs.Runs.{Legal, All, none, more}
use Rattle.rules.proofs.Words.{words_table_of, table_of_words, length_words}
use Rattle.sound.specs.Kept.{Lengths}
use Rattle.sound.specs.Removals.{after, Takeable, Ids}
use Rattle.sound.specs.Test.{Test}
use Rattle.sound.proofs.Passes.{made_passes}
use Rattle.sound.proofs.Audit.{R_takeable, as_made}
use Rattle.sound.proofs.Reached.{passes, reached}

-- for all below n
all? : (P : ℕ → Type 0) → ((i : ℕ) → Dec (P i)) → (n : ℕ) → Dec ((i : ℕ) → i < n → P i)
all? P d zero = yes (λ i h. absurd (omega arith))
all? P d (suc n) = elim (all? P d n) [
  | no f ↦ no (λ g. f (λ i h. g i (omega arith)))
  | yes f ↦ elim (d n) [
    | no p ↦ no (λ g. p (g n (omega arith)))
    | yes p ↦ yes (λ i h. elim (ℕ_discrete i n) [ yes e ↦ subst P (sym e) p | no ne ↦ f i (omega arith) ])
  ]
]

imp? : {P Q : Type 0} → Dec P → Dec Q → Dec (P → Q)
imp? (no p) d = yes (λ h. absurd (p h))
imp? (yes p) (yes q) = yes (λ h. q)
imp? (yes p) (no q) = no (λ f. q (f p))

id? : (x : ℕ) → Dec (Id x)
id? x = Dec.and (Dec.not (ℕ_discrete x 0)) (dec_lt x (2 ^ 32))

-- two tables, by their words
code : Bare → List (List ℕ)
code T = (T.seats ∷ T.used ∷ []) ∷ T.A ∷ T.K ∷ T.W ∷ T.L ∷ T.R ∷ []

decode : List (List ℕ) → Bare
decode c = record { seats = get_or c 0 [] ! 0; used = get_or c 0 [] ! 1; A = get_or c 1 []; K = get_or c 2 []; W = get_or c 3 []; L = get_or c 4 []; R = get_or c 5 [] }

equal? : (T U : Bare) → Dec (T ≡ U)
unfolding code decode
equal? T U = map_dec (λ e. ap decode e) (λ e. ap code e) (List-discrete (List-discrete ℕ_discrete) (code T) (code U))

takeable? : (a : ℕ) (rs : List ℕ) (k : ℕ) → Dec (Takeable a rs k)
takeable? a rs k =
    map_dec
    (λ t. record { fewer = t.0; below = t.1.0; apart = λ i j h l. t.1.1 j l i h })
    (λ t. (t.fewer, (t.below, λ j l i h. t.apart i j h l)))
    (Dec.and (dec_lt k a) (Dec.and
    (all? (λ i. rs ! i < a) (λ i. dec_lt (rs ! i) a) k)
    (all? (λ j. (i : ℕ) → i < j → rs ! i ≢ rs ! j) (λ j. all? (λ i. rs ! i ≢ rs ! j) (λ i. Dec.not (ℕ_discrete (rs ! i) (rs ! j))) j) k)))

-- a table passes if it is what taking out the first of its R makes
test? : (T : Bare) → Dec (Test T)
test? T =
    let k = T.seats - T.used in
    map_dec
    (λ m. subst (λ (X : Bare). Test X) (sym m.1) (made_passes T.seats T.R k m.0))
    (λ t. (R_takeable T t, as_made T t))
    (Dec.and (takeable? T.seats T.R k) (equal? T (after T.seats T.R k)))

ids? : (a : ℕ) (A S : List ℕ) → Dec (Ids a A S)
ids? a A S =
    map_dec
    (λ t. record { size = t.0; none = t.1.0; some = t.1.1.0; apart = λ x y h l. t.1.1.1 x h y l })
    (λ t. (t.size, (t.none, (t.some, λ x h y l. t.apart x y h l))))
    (Dec.and (ℕ_discrete (length S) a) (Dec.and
    (all? (λ x. A ! x ≢ 0 → S ! x ≡ 0) (λ x. imp? (Dec.not (ℕ_discrete (A ! x) 0)) (ℕ_discrete (S ! x) 0)) a) (Dec.and
    (all? (λ x. A ! x ≡ 0 → Id (S ! x)) (λ x. imp? (ℕ_discrete (A ! x) 0) (id? (S ! x))) a)
    (all? (λ x. (y : ℕ) → y < a → S ! x ≢ 0 → S ! x ≡ S ! y → x ≡ y) (λ x. all? (λ y. S ! x ≢ 0 → S ! x ≡ S ! y → x ≡ y)
    (λ y. imp? (Dec.not (ℕ_discrete (S ! x) 0)) (imp? (ℕ_discrete (S ! x) (S ! y)) (ℕ_discrete x y))) a) a))))

pub reached? : (T : Table) → Dec (Reached T)
reached? T =
    map_dec
    (λ p. reached (record { most = p.0; test = p.1.0; ids = p.1.1 }))
    (λ r. let p = passes r in (p.most, (p.test, p.ids)))
    (Dec.and (dec_le T.bare.seats most_seats) (Dec.and (test? T.bare) (ids? T.bare.seats T.bare.A T.S)))

-- the parts of a reached table are a words each
pub sized_parts : {B : Bare} (S : List ℕ) {a : ℕ} → B.seats ≡ a → Lengths B → length S ≡ a → All a (parts (table B S))
sized_parts S e s size = more (s.len_A ∙ e) (more (s.len_K ∙ e) (more (s.len_W ∙ e) (more (s.len_L ∙ e) (more (s.len_R ∙ e) (more size none)))))

pub sized : {T : Table} → Reached T → All T.bare.seats (parts T)
sized {T} r = let p = passes r in sized_parts T.S refl p.test.shape p.ids.size

-- so sound words are of legal shape, and what they hold is reached
pub sound_legal : {w : List ℕ} → Sound w → Legal w (w ! 0)
sound_legal s =
    let p = passes s.reached in
    rw (← s.is_words) (record { first = refl; some = omega (arith, p.test.shape.some, p.test.shape.most); shape = record { size = length_words s.table (sized s.reached); most = p.most } })

pub sound_table : {w : List ℕ} → Sound w → Reached (table_of w)
sound_table s = rw (← s.is_words, table_of_words s.table (sized s.reached)) s.reached

pub table_sound : {w : List ℕ} → length w ≡ run_length (w ! 0) → Reached (table_of w) → Sound w
table_sound {w} size r = record { table = table_of w; reached = r; is_words = words_table_of w size }

pub sound? : (w : List ℕ) → Dec (Sound w)
sound? w = elim (ℕ_discrete (length w) (run_length (w ! 0))) [
  | no n ↦ no (λ s. n (sound_legal s).shape.size)
  | yes e ↦ map_dec (λ r. table_sound e r) (λ s. sound_table s) (reached? (table_of w))
]
