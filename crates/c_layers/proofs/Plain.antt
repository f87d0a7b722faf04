-- A refusal of an evaluation has no place, and its number is not 0. Assumes nothing.
use Rattle.std.specs.Prelude.{None, Option, Some}
use Prim.Native.Nat.{ℕ, ◌<◌, ◌%◌}
use native.Mathlib.Omega.{arith}
use mathlib.Core.Path.{◌≡◌, refl}
use mathlib.Core.Bool.{Bool, true, false, cond}
use mathlib.Core.List.{List}
use lib.Dec.{eqb, leb}
use lib.ListN.{length}
use lib.Ieee.{Float, lt}
use Rattle.refusal.specs.Outcome.{Outcome, answer, refusal, invalid_parameter, too_many_layers, map}
use Rattle.thin_film_solver.specs.declared.ThinFilmLayer.{ThinFilmLayer}
use Rattle.thin_film_solver.specs.Absorptance.{with_absorptance}
use Rattle.thin_film_solver.specs.Solve as Solve
use Rattle.thin_film_coating.specs.declared.Coating.{Coating}
use Rattle.thin_film_coating.specs.declared.Coating.TheVariants as C
use Rattle.thin_film.specs.declared.SurfaceCoating.{SurfaceCoating}
use Rattle.thin_film.specs.Coating.{coating_of, layers_of}
use Rattle.thin_film_layers.specs.Evaluation.{ordered}
use Rattle.thin_film_valid.specs.Valid.{valid}
use Rattle.thin_film_coating.specs.Evaluate.{rust_respond, rust_evaluate_coating, evaluate_coating}
use Rattle.thin_film.specs.Evaluate.{rust_evaluate_surface, evaluate_surface}
use Rattle.c_layers.specs.Evaluate.{layers, call_coating, evaluate_coded, evaluate}

abbrev pub Plain : {A : Type 0} → Outcome A → Type 0
Plain (answer a) = Unit {0}
Plain (refusal number place) = (0 < number) × (place ≡ 0)

module _ {A : Type 0} where
  pub either : (b : Bool) (x y : Outcome A) → Plain x → Plain y → Plain (cond b x y)
  either true x y h k = h
  either false x y h k = k

  pub mapped : {B : Type 0} (f : A → B) (x : Outcome A) → Plain x → Plain (map f x)
  mapped f (answer a) h = tt
  mapped f (refusal number place) h = h

module _ (n_incident n_substrate angle wavelength : Float) where
  responds : (coating : Coating) (ls : List ThinFilmLayer) → Plain (rust_respond coating ls n_incident n_substrate angle wavelength)
  unfolding rust_respond
  responds C.IdealAr ls = tt
  responds C.IdealMirror ls = tt
  responds C.IdealBeamsplitter ls = tt
  responds C.Multilayer ls = either (leb (length ls) 64) (answer (Solve.rust_evaluate n_incident n_substrate angle wavelength ls)) too_many_layers tt (omega arith, refl)

  of_coating : (coating : Coating) (ls : List ThinFilmLayer) → Plain (evaluate_coating coating ls n_incident n_substrate angle wavelength)
  unfolding rust_evaluate_coating evaluate_coating
  of_coating coating ls = mapped with_absorptance (rust_evaluate_coating coating ls n_incident n_substrate angle wavelength) (either (valid n_incident n_substrate angle wavelength) (rust_respond coating ls n_incident n_substrate angle wavelength) invalid_parameter (responds coating ls) (omega arith, refl))

  pub of_surface : (s : SurfaceCoating) (ls : List ThinFilmLayer) → Plain (evaluate_surface s ls n_incident n_substrate angle wavelength)
  unfolding evaluate_coating rust_evaluate_surface evaluate_surface
  of_surface s ls = of_coating (coating_of s) (ordered (lt n_substrate n_incident) (layers_of s ls))

  of_coded : (k : Option SurfaceCoating) (flat : List Float) → Plain (evaluate_coded k flat n_incident n_substrate angle wavelength)
  unfolding evaluate_coded
  of_coded (Some s) flat = of_surface s (layers flat)
  of_coded None flat = (omega arith, refl)

  pub of_code : (code : ℕ) (design : Float) (flat : List Float) → Plain (evaluate code design n_incident n_substrate angle wavelength flat)
  unfolding evaluate
  of_code code design flat = either (eqb (length flat % 3) 0) (evaluate_coded (call_coating code design) flat n_incident n_substrate angle wavelength) invalid_parameter (of_coded (call_coating code design) flat) (omega arith, refl)
