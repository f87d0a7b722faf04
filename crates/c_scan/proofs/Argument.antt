-- Which argument fails a test of evaluate. Assumes nothing.
use Prim.Native.Nat.{ℕ, ◌^◌, ◌<◌}
use mathlib.Core.Path.{◌≡◌, refl, ap, ◌∙◌}
use mathlib.Core.Bool.{Bool, true, false, ◌&&◌, cond}
use mathlib.Core.List.{List}
use native.Mathlib.Omega.{arith}
use lib.Dec.{leb, lit<}
use lib.ListN.{length}
use lib.Ieee.{Float}
use lib.Ieee.Scale.{finite}
use Rattle.ieee.specs.Functions.{finite_positive}
use Rattle.refusal.specs.Outcome.{Outcome, answer, invalid_parameter, too_many_layers}
use Rattle.thin_film_solver.specs.declared.ThinFilmLayer.{ThinFilmLayer}
use Rattle.thin_film_valid.specs.Valid.{valid}
use Rattle.thin_film_coating.specs.declared.Coating.TheVariants as C
use Rattle.thin_film_coating.specs.Evaluate.{rust_evaluate_coating}
use Rattle.thin_film.specs.declared.SurfaceCoating.{SurfaceCoating}
use Rattle.thin_film.specs.declared.SurfaceCoating.TheVariants as S
use Rattle.thin_film.specs.Evaluate.{rust_evaluate_surface, evaluate_surface, refusal_of}
use Rattle.c_layers.proofs.Checked.{checked, passed}
use Rattle.c_scan.specs.Argument.{invalid_argument, ArgumentClaim}

abbrev first : Bool → Bool → Bool → Bool → ℕ
first a b c d = cond a (cond b (cond c (cond d 0 4) 3) 2) 1

all_pass : (a b c d : Bool) → first a b c d ≡ 0 → (a && b && c && d) ≡ true
all_pass true true true true e = refl
all_pass true true true false e = absurd (omega arith)
all_pass true true false d e = absurd (omega arith)
all_pass true false c d e = absurd (omega arith)
all_pass false b c d e = absurd (omega arith)

one_not : (a b c d : Bool) → (first a b c d ≡ 0 → ⊥) → (a && b && c && d) ≡ false
one_not true true true true h = absurd (h refl)
one_not true true true false h = refl
one_not true true false d h = refl
one_not true false c d h = refl
one_not false b c d h = refl

-- 3, or none
no_one : (s : SurfaceCoating) (count : ℕ) → checked s count ≡ invalid_parameter → ⊥
no_one (S.Custom C.IdealAr) count e = cc
no_one (S.Custom C.IdealMirror) count e = cc
no_one (S.Custom C.IdealBeamsplitter) count e = cc
no_one (S.Custom C.Multilayer) count e = go (leb count 64) e
  where
    go : (b : Bool) → ◌≡◌ {A = Outcome (Unit {0})} (cond b (answer tt) too_many_layers) invalid_parameter → ⊥
    go true e = cc
    go false e = let z : ◌≡◌ {A = ℕ} 3 1 = cc in omega arith
no_one S.IdealAr count e = cc
no_one (S.MgF2 design) count e = cc
no_one S.BroadbandAr count e = cc
no_one S.HighReflectanceMirror count e = cc

module _ (surface : SurfaceCoating) (layers : List ThinFilmLayer) (n_incident n_substrate angle wavelength : Float) where
  none_fails : invalid_argument n_incident n_substrate angle wavelength ≡ 0 → evaluate_surface surface layers n_incident n_substrate angle wavelength ≡ invalid_parameter → ⊥
  unfolding invalid_argument valid
  none_fails e r =
      let v = all_pass (finite_positive n_incident) (finite_positive n_substrate) (finite angle) (finite_positive wavelength) e in
      no_one surface (length layers) (passed n_incident n_substrate angle wavelength v surface layers ∙ ap refusal_of r)

  one_fails : (invalid_argument n_incident n_substrate angle wavelength ≡ 0 → ⊥) → evaluate_surface surface layers n_incident n_substrate angle wavelength ≡ invalid_parameter
  unfolding invalid_argument valid rust_evaluate_surface evaluate_surface rust_evaluate_coating
  one_fails h = simp (one_not (finite_positive n_incident) (finite_positive n_substrate) (finite angle) (finite_positive wavelength) h)

pub argument_claim : ArgumentClaim
argument_claim = record { none_fails = none_fails; one_fails = one_fails }

small : (a b c d : Bool) → first a b c d < 2 ^ 32
small true true true true = lit< tt
small true true true false = lit< tt
small true true false d = lit< tt
small true false c d = lit< tt
small false b c d = lit< tt

pub argument_small : (n_incident n_substrate angle wavelength : Float) → invalid_argument n_incident n_substrate angle wavelength < 2 ^ 32
unfolding invalid_argument
argument_small n_incident n_substrate angle wavelength = small (finite_positive n_incident) (finite_positive n_substrate) (finite angle) (finite_positive wavelength)
