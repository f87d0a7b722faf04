-- Known answers of document 01, computed by the checker. Assumes nothing.
use mathlib.Core.Path.{◌≡◌, refl, ◌∙◌, ap}
use mathlib.Core.Bool.{true}
use mathlib.Core.List.{[]}
use lib.Dec.{lit≤}
use lib.Ieee as Ieee
use lib.Ieee.{Float, of_bits}
use lib.Ieee.Scale.{finite}
use Rattle.ieee.specs.Functions.{zero_f, one, three, finite_positive}
use Rattle.refusal.specs.Outcome.{answer}
use Rattle.thin_film_solver.proofs.Known as Solved
use Rattle.thin_film_coating.specs.declared.Coating.TheVariants as C
use Rattle.thin_film.specs.declared.SurfaceCoating.TheVariants as S
use Rattle.thin_film_layers.specs.Evaluation.{ordered}
use Rattle.thin_film.specs.Coating.{layers_of}
use Rattle.thin_film_valid.specs.Valid.{valid}
use Rattle.thin_film.specs.Evaluate.{rust_evaluate_surface, evaluate_surface}
use Rattle.thin_film_coating.specs.Evaluate.{evaluate_coating}
use Rattle.thin_film_coating.proofs.Answers.{solved}

one_passes : finite_positive one ≡ true
unfolding finite_positive Ieee.le of_bits
one_passes = refl

three_passes : finite_positive three ≡ true
unfolding finite_positive Ieee.le of_bits
three_passes = refl

zero_passes : finite zero_f ≡ true
unfolding of_bits
zero_passes = refl

admitted : (wavelength : Float) → finite_positive wavelength ≡ true → valid one three zero_f wavelength ≡ true
unfolding valid
admitted wavelength e = simp (one_passes, three_passes, zero_passes, e)

-- Custom, no layers, 1 to 3, angle 0, at any wavelength that is admitted: rs = rp = -0.5, ts = tp = 0.5, R = 0.25, T = 0.75, phases π, and nothing stays in the glass
pub no_layers : (wavelength : Float) → finite_positive wavelength ≡ true → evaluate_surface (S.Custom C.Multilayer) [] one three zero_f wavelength ≡ answer Solved.bare
unfolding evaluate_coating rust_evaluate_surface evaluate_surface layers_of ordered Ieee.lt of_bits
no_layers wavelength e = solved one three zero_f wavelength [] C.Multilayer refl (admitted wavelength e) (lit≤ tt) ∙ ap answer (Solved.no_layers wavelength)
