-- Slip 4. Assumes nothing.
use Rattle.thin_film.specs.declared.SurfaceCoating.{SurfaceCoating}
use Rattle.std.specs.Prelude.{Option, Some}
use mathlib.Core.Path.{◌≡◌, refl, sym, ap, ◌∙◌, subst}
use mathlib.Core.Bool.{Bool, true, false, ◌||◌, ◌&&◌, not, cond}
use mathlib.Core.Logic.{◌⊎◌, inl, inr}
use mathlib.Core.List.{List, reverse}
use Prim.Native.Nat.{ℕ, ◌+◌, ◌*◌, ◌/◌, ◌%◌, ◌<◌}
use native.Mathlib.Omega.{arith}
use lib.Dec.{eqb, ltb}
use lib.ListN.{length, drop}
use lib.Ieee.{Float, nan, inf, fin, up, down, below, level, lt, eq, le}
use borrow.Author.Tests.{eq-eqb, eqb-true, lt-ltb, ltb-true, le-ltb}
use Rattle.refusal.specs.Outcome.{Outcome, answer, refusal, map, bind}
use Rattle.thin_film_solver.specs.declared.ThinFilmLayer.{ThinFilmLayer}
use Rattle.thin_film_layers.specs.Evaluation.{ordered}
use Rattle.thin_film_coating.specs.declared.Coating.TheVariants as C
use Rattle.thin_film_coating.specs.Evaluate.{evaluate_coating}
use Rattle.thin_film.specs.declared.SurfaceCoating.TheVariants as S
use Rattle.thin_film.specs.Coating.{layers_of}
use Rattle.thin_film.specs.Evaluate.{rust_evaluate_surface, evaluate_surface}
use Rattle.gate_limits.specs.Coating.{coded, interface}
use Rattle.thin_film_solver.specs.declared.CoatingResponse.{CoatingResponse}
use Rattle.c_layers.specs.Evaluate as Call
use Rattle.c_scan.specs.Scan.{responses, too_many_cases, paired, evaluate_list}
use Rattle.surface.specs.declared.Answers.{Answers}
use Rattle.surface.specs.Answers.{coated_answers, answers_of}
use Rattle.sheet.specs.Sheet.{Sheet, SheetSurface, nth}
use Rattle.sheet_values.specs.Values.{value, films, surface_value, met_with, met_at}
use Rattle.gate.specs.Gate.{gated}
use Rattle.gate.specs.Wavelength.{holds}
use Rattle.sheet_surfaces.specs.Surfaces.{its_answers, answers_to, surface_answers}
use Rattle.sheet_retuned.specs.Retuned.{retuned_before, answers_at}
use Rattle.train_steps.specs.Train.{chosen_of, chosen_powers}
use Rattle.far_side_claim.specs.Claim.{Turned, evaluated, FarSide}

-- ---- what is at most something is not above it
not_both : false ≡ true → ⊥
not_both e = let z : ◌≡◌ {A = ℕ} 0 1 = ap (λ (b : Bool). cond b 1 0) e in omega arith

either : (p q r : Bool) → (p ≡ true → r ≡ false) → (q ≡ true → r ≡ false) → p || q ≡ true → r ≡ false
either true q r f g h = f refl
either false q r f g h = g h

first : (p q : Bool) → p && q ≡ true → p ≡ true
first true q h = refl
first false q h = h

second : (p q : Bool) → p && q ≡ true → q ≡ true
second true q h = h
second false q h = absurd (not_both h)

module _ (a b : ℕ) where
  within : (s t : Bool) → below s a t b || level s a t b ≡ true → below t b s a ≡ false
  within false false h = either (ltb a b) (level false a false b) (ltb b a) (λ e. let l = ltb-true a b e in le-ltb b a (omega arith)) (λ e. let l = eqb-true a b (first (eqb a b) true e) in le-ltb b a (omega arith)) h
  within false true h = let z = second (eqb a b) (eqb a 0) h in let l = eqb-true a 0 z in let m = eqb-true a b (first (eqb a b) (eqb a 0) h) in le-ltb 0 (b + a) (omega arith)
  within true false h = refl
  within true true h = either (ltb b a) (level true a true b) (ltb a b) (λ e. let l = ltb-true b a e in le-ltb a b (omega arith)) (λ e. let l = eqb-true a b (first (eqb a b) true e) in le-ltb a b (omega arith)) h

at_most_not_above : (x y : Float) → le x y ≡ true → lt y x ≡ false
unfolding le lt eq
at_most_not_above nan y h = absurd (not_both h)
at_most_not_above (inf s) nan h = refl
at_most_not_above (inf true) (inf t) h = infinite t
  where
    infinite : (t : Bool) → t && false ≡ false
    infinite true = refl
    infinite false = refl
at_most_not_above (inf false) (inf true) h = absurd (not_both h)
at_most_not_above (inf false) (inf false) h = refl
at_most_not_above (inf true) (fin t n d) h = refl
at_most_not_above (inf false) (fin t n d) h = absurd (not_both h)
at_most_not_above (fin s m e) nan h = refl
at_most_not_above (fin s m e) (inf true) h = absurd (not_both h)
at_most_not_above (fin s m e) (inf false) h = refl
at_most_not_above (fin s m e) (fin t n d) h = within (m * up e * down d) (n * up d * down e) s t h

nan_right : (y : Float) → lt y nan ≡ false
unfolding lt
nan_right nan = refl
nan_right (inf s) = refl
nan_right (fin s m e) = refl

nan_left : (x : Float) → lt nan x ≡ false
unfolding lt
nan_left x = refl

no_number_not_above : (x y : Float) → (x ≡ nan) ⊎ (y ≡ nan) → lt y x ≡ false
no_number_not_above x y (inl e) = ap (lt y) e ∙ nan_right y
no_number_not_above x y (inr e) = ap (λ (z : Float). lt z x) e ∙ nan_left x

-- ---- by the test alone
module _ {A : Type 0} (n_incident n_substrate : Float) (f : List ThinFilmLayer → A) (layers : List ThinFilmLayer) (given : A) where
  turned : given ≡ f (ordered (lt n_substrate n_incident) layers) → Turned n_incident n_substrate f layers given
  unfolding ordered
  turned e = record {
    above = λ t. e ∙ ap (λ (r : Bool). f (ordered r layers)) t;
    at_most = λ t. e ∙ ap (λ (r : Bool). f (ordered r layers)) (at_most_not_above n_incident n_substrate t);
    no_number = λ t. e ∙ ap (λ (r : Bool). f (ordered r layers)) (no_number_not_above n_incident n_substrate t);
  }

-- ---- SurfaceCoating::evaluate
module _ (layers : List ThinFilmLayer) (n_incident n_substrate angle wavelength : Float) where
  explicit : evaluate_surface (S.Custom C.Multilayer) layers n_incident n_substrate angle wavelength
      ≡ evaluate_coating C.Multilayer (ordered (lt n_substrate n_incident) layers) n_incident n_substrate angle wavelength
  unfolding evaluate_surface rust_evaluate_surface evaluate_coating layers_of
  explicit = refl

-- ---- a sheet's surface
module _ (w : Float) (y : SheetSurface) (five : y.payload / 2 ≡ 5) where
  abbrev in_order : Outcome Answers
  in_order = evaluated w y (ordered (lt (value y.n_substrate) (value y.n_incident)) (films w y.layers))

  custom : interface (y.payload / 2) ≡ Some (S.Custom C.Multilayer)
  unfolding interface coded
  custom = ap interface five

  met : its_answers w y ≡ in_order
  unfolding answers_of
  met =
      ap (λ (k : Option SurfaceCoating). answers_of k w (surface_value y) (films w y.layers)) custom
      ∙ ap (map coated_answers) (explicit (films w y.layers) (value y.n_incident) (value y.n_substrate) (value y.angle) w)

  chosen_met : chosen_powers w y ≡ chosen_of (surface_value y).reflected (map (λ (a : Answers). a.powers) in_order)
  unfolding chosen_powers
  chosen_met = ap (λ (o : Outcome Answers). chosen_of (surface_value y).reflected (map (λ (a : Answers). a.powers) o)) met

module _ (src : List ℕ) (x : Sheet) (e : gated src ≡ answer x) (i : ℕ) (there : i < length x.surfaces) (five : (nth x.surfaces i).payload / 2 ≡ 5) where
  abbrev y : SheetSurface
  y = nth x.surfaces i

  sheet_surface : surface_answers src i ≡ in_order (met_at (value x.wavelength) x.surfaces i) y five
  unfolding surface_answers
  sheet_surface = ap (answers_to i) e ∙ simp (lt-ltb i (length x.surfaces) there) (met (met_at (value x.wavelength) x.surfaces i) y five)

  retuned_surface : (v : Float) → holds v (drop i x.surfaces) ≡ true → answers_at src i v ≡ in_order (met_with v y.tuning) y five
  unfolding answers_at
  retuned_surface v h = ap (λ (o : Outcome Sheet). bind o (retuned_before i v)) e ∙ rw (lt-ltb i (length x.surfaces) there, h) (met (met_with v y.tuning) y five)

-- ---- dihkelu_evaluate
module _ (design n_incident n_substrate angle wavelength : Float) (flat : List Float) (whole : length flat % 3 ≡ 0) where
  call : Call.evaluate 5 design n_incident n_substrate angle wavelength flat
      ≡ evaluate_coating C.Multilayer (ordered (lt n_substrate n_incident) (Call.layers flat)) n_incident n_substrate angle wavelength
  unfolding Call.evaluate Call.evaluate_coded Call.call_coating coded
  call = simp (eq-eqb (length flat % 3) 0 whole) (explicit (Call.layers flat) n_incident n_substrate angle wavelength)

-- ---- dihkelu_evaluate_list: the same of each case
abbrev cases : Float → Float → List Float → List Float → List ThinFilmLayer → Outcome (List CoatingResponse)
cases n_incident n_substrate angles wavelengths l =
    cond (paired angles wavelengths) (responses (λ angle wavelength. evaluate_coating C.Multilayer l n_incident n_substrate angle wavelength) 0 angles wavelengths) (refusal 1 too_many_cases)

all_cases : (design n_incident n_substrate : Float) (flat : List Float) → length flat % 3 ≡ 0 → (angles wavelengths : List Float)
    → evaluate_list 5 design n_incident n_substrate angles wavelengths flat ≡ cases n_incident n_substrate angles wavelengths (ordered (lt n_substrate n_incident) (Call.layers flat))
unfolding evaluate_list
all_cases design n_incident n_substrate flat whole angles wavelengths =
    λ k. cond (paired angles wavelengths) (responses (λ angle wavelength. call design n_incident n_substrate angle wavelength flat whole k) 0 angles wavelengths) (refusal 1 too_many_cases)

pub far_side : FarSide
far_side = record {
  of_surface = λ layers n_incident n_substrate angle wavelength.
      turned n_incident n_substrate (λ l. evaluate_coating C.Multilayer l n_incident n_substrate angle wavelength) layers _ (explicit layers n_incident n_substrate angle wavelength);
  of_sheet = λ src x e i there five. turned _ _ _ _ _ (sheet_surface src x e i there five);
  of_sheet_at = λ src x e i there five v h. turned _ _ _ _ _ (retuned_surface src x e i there five v h);
  of_train = λ w y five. turned (value y.n_incident) (value y.n_substrate) (λ l. chosen_of (surface_value y).reflected (map (λ (a : Answers). a.powers) (evaluated w y l))) (films w y.layers) _ (chosen_met w y five);
  of_call = λ design n_incident n_substrate angle wavelength flat whole.
      turned n_incident n_substrate (λ l. evaluate_coating C.Multilayer l n_incident n_substrate angle wavelength) (Call.layers flat) _ (call design n_incident n_substrate angle wavelength flat whole);
  of_cases = λ design n_incident n_substrate angles wavelengths flat whole.
      turned n_incident n_substrate (cases n_incident n_substrate angles wavelengths) (Call.layers flat) _ (all_cases design n_incident n_substrate flat whole angles wavelengths);
}
