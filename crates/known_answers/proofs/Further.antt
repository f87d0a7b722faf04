-- The further answers, computed. Assumes nothing.
use mathlib.Core.Path.{◌≡◌, refl, ap}
use Prim.Native.Nat.{ℕ}
use native.Mathlib.Omega.{arith}
use Rattle.std.specs.Prelude.{Result, Ok, Err}
use Rattle.refusal.specs.declared.Refusal.{Refusal}
use Rattle.refusal.specs.declared.Refusal.TheVariants as R
use Rattle.refusal.specs.Outcome.{Outcome, refusal, refused, outcome}
use Rattle.polarization.specs.declared.SurfaceJones.{SurfaceJones}
use lib.Ieee.{add, sub, mul, div, lt, le, neg, of_bits}
use Rattle.ieee.specs.Functions.{abs, max, clamp, finite_positive}
use Rattle.math_root.specs.Root.{square_root}
use Rattle.thin_film_complex.specs.Complex as Complex
use Rattle.fresnel.specs.Fresnel.{sin2_t, cos_t, power, refracted, fresnel_dielectric}
use Rattle.polarization_stokes.specs.Stokes.{guarded, degree_of_polarization}
use Rattle.polarization_stokes.specs.Jones.{intensity, normalize}
use Rattle.polarization_mueller.specs.Jones.{diattenuator}
use Rattle.polarization.specs.Surface.{indices_valid, surface_fresnel_jones}
use Rattle.name_bytes.specs.Trim.{prefix, kept, trimmed}
use Rattle.name_bytes.specs.Search.{begins, is, contains}
use Rattle.name_coating.specs.Name.{upper, names_none, names_mgf2, names_bbar, names_mirror, names_ar, coating_of, from_format_name}
use Rattle.known_answers.specs.Further.{FurtherAnswers}

-- ---- beside a refusal with 1 stands nothing
its_number : {n place : ℕ} → ◌≡◌ {A = Outcome SurfaceJones} (refusal n place) (refusal 1 0) → n ≡ 1
its_number e = cc

invalid : (x : Refusal) → ◌≡◌ {A = Outcome SurfaceJones} (refused x) (refusal 1 0) → x ≡ R.InvalidParameter
invalid R.InvalidParameter e = refl
invalid (R.Name p) e = let z : ◌≡◌ {A = ℕ} 2 1 = its_number e in absurd (omega arith)
invalid R.TooManyLayers e = let z : ◌≡◌ {A = ℕ} 3 1 = its_number e in absurd (omega arith)
invalid R.Length e = let z : ◌≡◌ {A = ℕ} 4 1 = its_number e in absurd (omega arith)
invalid (R.Grammar p) e = let z : ◌≡◌ {A = ℕ} 5 1 = its_number e in absurd (omega arith)
invalid (R.Limits p) e = let z : ◌≡◌ {A = ℕ} 6 1 = its_number e in absurd (omega arith)
invalid R.NoSurface e = let z : ◌≡◌ {A = ℕ} 7 1 = its_number e in absurd (omega arith)
invalid R.TooShort e = let z : ◌≡◌ {A = ℕ} 8 1 = its_number e in absurd (omega arith)
invalid (R.Text p) e = let z : ◌≡◌ {A = ℕ} 9 1 = its_number e in absurd (omega arith)
invalid R.TooManyFilms e = let z : ◌≡◌ {A = ℕ} 10 1 = its_number e in absurd (omega arith)
invalid R.Wavelength e = let z : ◌≡◌ {A = ℕ} 11 1 = its_number e in absurd (omega arith)
invalid (R.Tuning p) e = let z : ◌≡◌ {A = ℕ} 12 1 = its_number e in absurd (omega arith)
invalid R.Range e = let z : ◌≡◌ {A = ℕ} 13 1 = its_number e in absurd (omega arith)
invalid R.Film e = let z : ◌≡◌ {A = ℕ} 14 1 = its_number e in absurd (omega arith)
invalid (R.Weight p) e = let z : ◌≡◌ {A = ℕ} 15 1 = its_number e in absurd (omega arith)
invalid (R.Line p) e = let z : ◌≡◌ {A = ℕ} 16 1 = its_number e in absurd (omega arith)

no_matrices : (r : Result SurfaceJones Refusal) → outcome r ≡ refusal 1 0 → r ≡ Err R.InvalidParameter
no_matrices (Ok j) e = cc
no_matrices (Err x) e = ap Err (invalid x e)

pub further_answers : FurtherAnswers
unfolding fresnel_dielectric refracted power sin2_t cos_t square_root abs max clamp add sub mul div lt le neg of_bits Complex.real Complex.norm_sq Complex.quotient Complex.div Complex.scale intensity normalize guarded degree_of_polarization finite_positive indices_valid surface_fresnel_jones diattenuator from_format_name coating_of names_none names_mgf2 names_bbar names_mirror names_ar upper trimmed kept prefix is begins contains
further_answers = record {
  faint = refl;
  faintest = refl;
  too_faint = refl;
  quotient_at_edge = refl;
  quotient_under_edge = refl;
  normalized_at_edge = refl;
  normalized_over_edge = refl;
  degree_over_edge = refl;
  no_index = refl;
  beside_a_refusal = no_matrices;
  before_a = refl;
  upper_a = refl;
  upper_z = refl;
  behind_z = refl;
  blanks = refl;
  no_blanks = refl;
  last_ascii = refl;
  over_ascii = refl;
  longest = refl;
  too_long = refl;
  blank_name = refl;
  bbar_mgf2 = refl;
  refl_bbar = refl;
  he_ne = refl;
  ar_refl = refl;
  hr = refl;
  mirror_2 = refl;
}
