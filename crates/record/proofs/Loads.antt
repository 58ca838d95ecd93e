-- What each way out of a load answers: the form says whether the bytes are a record, and of which table.
use Rattle.std.specs.Prelude.{Some, None}
use Rattle.promises.proofs.Prelude.{◌≡◌, refl, ◌∙◌, sym, ap, ap₂, ◌≢◌, not, List, [], ◌∷◌, ℕ, arith, length, eqb, ne_eqb, eq-eqb}
use Rattle.rules.specs.Table.{words, run_length}
use Rattle.rules.specs.Answers.{Outcome, refused_at, done, ◌⇒◌, none, more}
use Rattle.rules.specs.declared.Refusal.TheVariants.{Size, Form}
use Rattle.rules.proofs.Numbers.{not_fine}
use Rattle.rules.proofs.Occasions.{here, first_is, free_is, done_free}
use Rattle.fields.specs.declared.Form as fields
use Rattle.fields.specs.Form.{form_for}
use Rattle.saved.specs.Record.{IsRecord}
use Rattle.saved.specs.Reader.{table_read}
use Rattle.saved.specs.Fits.{Good}
use Rattle.saved.proofs.Back.{record?, record_table, record_read, record_good}
use Rattle.form.specs.declared.Recorded.{Recorded}
use Rattle.form.specs.Form.{form_in, form_of}
use Rattle.record.specs.Calls.{load_table, load_by, load_call}

pub load_form : (w s : List ℕ) → form_of s ≡ None → refused_at w Form ≡ load_call w s
unfolding form_of load_call
load_form w s e = go (record? s) e
  where
    go : (d : Dec (IsRecord s)) → form_in d ≡ None → refused_at w Form ≡ load_by w d
    go (yes r) e = let z : ◌≡◌ {A = ℕ} 0 1 = cc in absurd (omega arith)
    go (no n) e = refl

-- what is loaded is a record's table
pub loaded : (w s : List ℕ) {n : ℕ} {built : List ℕ} → load_call w s ≡ done (n ∷ []) built → (r : IsRecord s) × (words r.table ≡ built)
unfolding load_call
loaded w s {n} {built} e = go (record? s) e
  where
    go : (d : Dec (IsRecord s)) → load_by w d ≡ done (n ∷ []) built → (r : IsRecord s) × (words r.table ≡ built)
    go (no m) e = not_fine Form (n ∷ []) (ap (λ (o : Outcome). o.answer) e)
    go (yes r) e =
        let T = r.table in
        let is = (done_free w (done (T.bare.used ∷ []) (words T)) (not (eqb (length w) (run_length T.bare.seats)) ⇒ Size ∷ []) e).1 in
        (r, ap (λ (o : Outcome). o.after) is)

-- of a record its one table is loaded
module _ (w : List ℕ) {s : List ℕ} (r : IsRecord s) where
  loads : load_table w r.table ≡ load_call w s
  unfolding load_call
  loads = go (record? s)
    where
      go : (d : Dec (IsRecord s)) → load_table w r.table ≡ load_by w d
      go (no n) = absurd (n r)
      go (yes q) = ap (load_table w) (sym (record_table r) ∙ record_table q)

  pub load_is : length w ≡ run_length r.table.bare.seats → done (r.table.bare.used ∷ []) (words r.table) ≡ load_call w s
  load_is e = free_is (refused_at w) _ (more {r = Size} (ap not (eq-eqb _ _ e)) none) ∙ loads

-- the form names the record's table
module _ (s : List ℕ) (q : Recorded) (e : form_of s ≡ Some q) where
  abbrev Names : Type 0
  Names = (r : IsRecord s) × (r.table.bare.seats ≡ q.seats) × (r.table.bare.used ≡ q.used)

  names : Names
  unfolding form_of
  names = go (record? s) e
    where
      go : (d : Dec (IsRecord s)) → form_in d ≡ Some q → Names
      go (no m) e = absurd (cc)
      go (yes r) e =
          let same : ◌≡◌ {A = Recorded} (record { seats = r.table.bare.seats; used = r.table.bare.used }) q = cc in
          (r, ap (λ (x : Recorded). x.seats) same, ap (λ (x : Recorded). x.used) same)

  pub load_size : (w : List ℕ) → length w ≢ run_length q.seats → refused_at w Size ≡ load_call w s
  load_size w ne =
      let (r, seats, used) = names in
      first_is (refused_at w) _ {r = Size} (here {os = []} (ap not (ne_eqb _ _ (λ q. ne (q ∙ ap run_length seats))))) ∙ loads w r

  pub good : {f : fields.Form} → form_for q.seats ≡ f → Good f s q.seats q.used
  good own = let (r, seats, used) = names in rw (seats, used, own) at (record_good r)

  pub load_done : (w w' : List ℕ) {f : fields.Form} → form_for q.seats ≡ f → length w ≡ run_length q.seats → w' ≡ words (table_read f s q.seats q.used)
      → done (q.used ∷ []) w' ≡ load_call w s
  load_done w w' own size is =
      let (r, seats, used) = names in
      let read = rw (seats, used, own) at (record_read r) in
      ap₂ (λ (y : ℕ) (l : List ℕ). done (y ∷ []) l) (sym used) (is ∙ ap words read) ∙ load_is w r (size ∙ ap run_length (sym seats))
