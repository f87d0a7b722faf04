-- The claim. Assumes nothing.
use mathlib.Core.Path.{◌≡◌, refl, sym, ap, ◌∙◌, subst}
use mathlib.Core.Bool.{Bool, true, false}
use mathlib.Core.List.{List, [], ◌∷◌, map}
use Prim.Native.Nat.{ℕ}
use lib.Ieee.{Float, le, of_bits}
use Rattle.ieee.specs.Functions.{zero_f, one, finite_positive}
use Rattle.refusal.specs.Outcome as Outcome
use Rattle.refusal.specs.Outcome.{Outcome, answer, refusal}
use Rattle.thin_film_grammar.specs.declared.Film.{Film}
use Rattle.thin_film_grammar.specs.Films.{film}
use Rattle.thin_film_grammar.specs.Reading.{counted, ended, read_from, reading}
use Rattle.thin_film_grammar.proofs.Claim as Grammar
use Rattle.thin_film_solver.specs.declared.ThinFilmLayer.{ThinFilmLayer}
use Rattle.thin_film_coating.specs.Coating.{listed, layers_in}
use Rattle.thin_film_shorthand.specs.Stack.{valid, layer, stack}
use Rattle.thin_film_shorthand.specs.Claim.{Right, bad_number, given, Some, Answered, answered, Refused, refused, Shorthand}
use Rattle.thin_film_shorthand.proofs.Given.{all_fine, apart, bad, good, read_out}

module _ (text : List ℕ) (n_h n_l n_m design : Float) where
  right : Right text n_h n_l n_m design (stack text n_h n_l n_m design)
  right = go (valid n_h n_l n_m design) refl
    where
      go : (z : Bool) → valid n_h n_l n_m design ≡ z → Right text n_h n_l n_m design (stack text n_h n_l n_m design)
      go true e = subst (Right text n_h n_l n_m design) (good text n_h n_l n_m design e) (given e (Grammar.gives text))
      go false e = subst (Right text n_h n_l n_m design) (bad text n_h n_l n_m design e) (bad_number e)

  only : (o : Outcome (List ThinFilmLayer)) → Right text n_h n_l n_m design o → o ≡ stack text n_h n_l n_m design
  only o (bad_number e) = bad text n_h n_l n_m design e
  only o (given {o = x} e g) = ap (Outcome.map (map (layer n_h n_l n_m design))) (Grammar.only text x g) ∙ good text n_h n_l n_m design e

  told : Outcome.map listed (Outcome.map layers_in (stack text n_h n_l n_m design)) ≡ stack text n_h n_l n_m design
  told = read_out (stack text n_h n_l n_m design)

  told_apart : (place : ℕ) → stack text n_h n_l n_m design ≡ refusal 0 place → ⊥
  told_apart place e = go (valid n_h n_l n_m design) refl
    where
      one_is_none : ◌≡◌ {A = Outcome (List ThinFilmLayer)} (refusal 1 0) (refusal 0 place) → ⊥
      one_is_none z = cc

      go : (z : Bool) → valid n_h n_l n_m design ≡ z → ⊥
      go true v = apart (layer n_h n_l n_m design) (reading text) place (all_fine text) (good text n_h n_l n_m design v ∙ e)
      go false v = one_is_none (bad text n_h n_l n_m design v ∙ e)

-- ---- each happens: H, an index of zero, the empty text, H^31 three times
ones : valid one one one one ≡ true
unfolding valid finite_positive le of_bits
ones = refl

zeros : valid zero_f one one one ≡ false
unfolding valid finite_positive le of_bits
zeros = refl

one_letter : reading (0x48 ∷ []) ≡ answer (film 0 0 ∷ [])
unfolding reading read_from ended counted
one_letter = refl

empty : reading [] ≡ refusal 9 0
unfolding reading read_from ended
empty = refl

thrice : List ℕ
thrice = 0x28 ∷ 0x48 ∷ 0x5E ∷ 0x33 ∷ 0x31 ∷ 0x29 ∷ 0x5E ∷ 0x33 ∷ []

ninety_three : reading thrice ≡ refusal 10 0
unfolding thrice reading read_from ended counted
ninety_three = refl

from_reading : (text : List ℕ) (o : Outcome (List Film)) → reading text ≡ o → Outcome.map (map (layer one one one one)) o ≡ stack text one one one one
from_reading text o e = ap (Outcome.map (map (layer one one one one))) (sym e) ∙ good text one one one one ones

pub shorthand : Shorthand
shorthand = record {
  right = right;
  only = only;
  only_tree = (Grammar.grammar).only_tree;
  told = told;
  told_apart = told_apart;
  an_answer = record { text = 0x48 ∷ []; n_h = one; n_l = one; n_m = one; design = one; gives = subst Answered (from_reading (0x48 ∷ []) (answer (film 0 0 ∷ [])) one_letter) answered };
  a_1 = record { text = []; n_h = zero_f; n_l = one; n_m = one; design = one; gives = subst (Refused 1) (bad [] zero_f one one one zeros) refused };
  a_9 = record { text = []; n_h = one; n_l = one; n_m = one; design = one; gives = subst (Refused 9) (from_reading [] (refusal 9 0) empty) refused };
  a_10 = record { text = thrice; n_h = one; n_l = one; n_m = one; design = one; gives = subst (Refused 10) (from_reading thrice (refusal 10 0) ninety_three) refused };
}
