-- `layout::lay_bare` meets its contract: it lays out the parts of `laid_bare`.
use Rattle.promises.proofs.Prelude.{◌∙◌, rules}
use Rattle.rules.specs.Changes.{count, open_a, open_r}
use Rattle.rules.proofs.Lists.{length_count, count_at}
use Rattle.rules.proofs.Openings.{length_open_a, open_a_in, open_a_out, length_open_r, open_r_out, open_r_rest}
use Rattle.layout.proofs.Filling.{laid_is}
use Rattle.layout.proofs.Laid.{laid_bare}
use Rattle.layout.proofs.lay_bare.Goals as goal

pub returns-clause-words : goal.returns-clause-words
returns-clause-words c =
    let a = c.args.run.now.seats in
    let w = c.args.w in
    let e₀ = c.set_used.ensures.keeps.seats ∙ c.set_seats.ensures.keeps.seats in
    let e₁ = c.lay.ensures.keeps.seats ∙ e₀ in
    let e₂ = c.lay-2.ensures.keeps.seats ∙ e₁ in
    let e₃ = c.lay-3.ensures.keeps.seats ∙ e₂ in
    let e₄ = c.lay-4.ensures.keeps.seats ∙ e₃ in
    let A = laid_is (open_a a w) (length_open_a a w c.requires) (λ i x h p. search (rules, open_a_in a w i, open_a_out a w i)) e₀ c.lay.ensures.laid in
    let K = laid_is (count a 0) (length_count a 0) (λ i x h p. search (rules, count_at a 0 i h)) e₁ c.lay-2.ensures.laid in
    let W = laid_is (count a 0) (length_count a 0) (λ i x h p. search (rules, count_at a 0 i h)) e₂ c.lay-3.ensures.laid in
    let L = laid_is (count a 0) (length_count a 0) (λ i x h p. search (rules, count_at a 0 i h)) e₃ c.lay-4.ensures.laid in
    let R = laid_is (open_r a w) (length_open_r a w c.requires) (λ i x h p. search (rules, open_r_out a w i, open_r_rest a w i)) e₄ c.lay-5.ensures.laid in
    laid_bare c.args.run.now.words.now a w c.args.run.now.shape.size c.requires _ (rw (L, W, K, A, c.set_used.ensures.words, c.set_seats.ensures.words) at R)
