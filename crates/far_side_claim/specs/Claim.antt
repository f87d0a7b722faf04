-- 02 slip 4: 'Glass-to-air surfaces take the layers reversed.' Types only; proofs/Claim.antt inhabits `FarSide`.
use Rattle.std.specs.Prelude.{◌≡◌, true, cond, ◌⊎◌, List, reverse, ℕ, ◌/◌, ◌%◌, ◌<◌, length, drop, Float}
use Rattle.std.specs.Float.{nan}
use Rattle.std.specs.Float.Ieee.{lt, le}
use Rattle.refusal.specs.Outcome.{Outcome, answer, refusal, map}
use Rattle.thin_film_solver.specs.declared.ThinFilmLayer.{ThinFilmLayer}
use Rattle.thin_film_coating.specs.declared.Coating.TheVariants as C
use Rattle.thin_film_coating.specs.Evaluate.{evaluate_coating}
use Rattle.thin_film.specs.declared.SurfaceCoating.TheVariants as S
use Rattle.thin_film.specs.Evaluate.{evaluate_surface}
use Rattle.c_layers.specs.Evaluate as Call
use Rattle.c_scan.specs.Scan.{responses, too_many_cases, paired, evaluate_list}
use Rattle.surface.specs.declared.Answers.{Answers}
use Rattle.surface.specs.Answers.{coated_answers}
use Rattle.sheet.specs.Sheet.{SheetSurface, Sheet, nth}
use Rattle.sheet_values.specs.Values.{value, films, surface_value, met_with, met_at}
use Rattle.gate.specs.Gate.{gated}
use Rattle.gate.specs.Wavelength.{holds}
use Rattle.sheet_surfaces.specs.Surfaces.{surface_answers}
use Rattle.sheet_retuned.specs.Retuned.{answers_at}
use Rattle.train_steps.specs.Train.{chosen_of, chosen_powers}

-- what is given for explicit layers is f of these, with n1 for n_incident and n2 for n_substrate: 'in reverse order' where
-- 'n_incident > n_substrate'; as they stand where it is at most n_substrate, and where one of the two is no number
pub record Turned {A : Type 0} (n1 n2 : Float) (f : List ThinFilmLayer → A) (layers : List ThinFilmLayer) (given : A) : Type 0 where
  pub above : lt n2 n1 ≡ true → given ≡ f (reverse layers)
  pub at_most : le n1 n2 ≡ true → given ≡ f layers
  pub no_number : (n1 ≡ nan) ⊎ (n2 ≡ nan) → given ≡ f layers

-- the answers of a sheet's surface with these layers, at a wavelength
abbrev pub evaluated : Float → SheetSurface → List ThinFilmLayer → Outcome Answers
evaluated w y l =
    map coated_answers (evaluate_coating C.Multilayer l (value y.n_incident) (value y.n_substrate) (value y.angle) w)

-- 'the answer or refusal is the one that `Coating::evaluate` gives', for every list of layers, of any length: every call that takes layers
pub record FarSide : Type 0 where
  -- of SurfaceCoating::evaluate
  pub of_surface : (layers : List ThinFilmLayer) (n_incident n_substrate angle wavelength : Float) →
      Turned n_incident n_substrate (λ l. evaluate_coating C.Multilayer l n_incident n_substrate angle wavelength) layers
      (evaluate_surface (S.Custom C.Multilayer) layers n_incident n_substrate angle wavelength)
  -- of a sheet's surface whose coating is 5, at the wavelength that steps alone meet it with
  pub of_sheet : (src : List ℕ) (x : Sheet) → gated src ≡ answer x → (i : ℕ) → i < length x.surfaces →
      (nth x.surfaces i).payload / 2 ≡ 5 →
      let y = nth x.surfaces i in
      let w = met_at (value x.wavelength) x.surfaces i in
      Turned (value y.n_incident) (value y.n_substrate) (evaluated w y) (films w y.layers) (surface_answers src i)
  -- and after a retune made right before it is stepped, which is not refused
  pub of_sheet_at : (src : List ℕ) (x : Sheet) → gated src ≡ answer x → (i : ℕ) → i < length x.surfaces →
      (nth x.surfaces i).payload / 2 ≡ 5 → (retuned : Float) → holds retuned (drop i x.surfaces) ≡ true →
      let y = nth x.surfaces i in
      let w = met_with retuned y.tuning in
      Turned (value y.n_incident) (value y.n_substrate) (evaluated w y) (films w y.layers) (answers_at src i retuned)
  -- of the powers that a step, a whole run and a band's line multiply by, at any wavelength
  pub of_train : (w : Float) (y : SheetSurface) → y.payload / 2 ≡ 5 →
      Turned (value y.n_incident) (value y.n_substrate)
      (λ l. chosen_of (surface_value y).reflected (map (λ (a : Answers). a.powers) (evaluated w y l))) (films w y.layers)
      (chosen_powers w y)
  -- of dihkelu_evaluate with code 5
  pub of_call : (design n_incident n_substrate angle wavelength : Float) (flat : List Float) → length flat % 3 ≡ 0 →
      Turned n_incident n_substrate (λ l. evaluate_coating C.Multilayer l n_incident n_substrate angle wavelength) (Call.layers flat)
      (Call.evaluate 5 design n_incident n_substrate angle wavelength flat)
  -- and of dihkelu_evaluate_list
  pub of_cases : (design n_incident n_substrate : Float) (angles wavelengths flat : List Float) → length flat % 3 ≡ 0 →
      Turned n_incident n_substrate
      (λ l. cond (paired angles wavelengths)
      (responses (λ angle wavelength. evaluate_coating C.Multilayer l n_incident n_substrate angle wavelength) 0 angles wavelengths)
      (refusal 1 too_many_cases)) (Call.layers flat) (evaluate_list 5 design n_incident n_substrate angles wavelengths flat)
