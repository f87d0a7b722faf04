-- An admitted sheet's surfaces without layers, met head-on. Assumes nothing.
use Rattle.std.specs.Prelude.{None, Some}
use mathlib.Core.Path.{◌≡◌, refl, sym, ap, ◌∙◌, subst}
use Prim.Native.Nat.{ℕ, ◌/◌, ◌<◌}
use mathlib.Core.Bool.{false}
use mathlib.Core.List.{List, []}
use lib.Dec.{T}
use lib.ListN.{length}
use lib.Ieee.{Float, binary64, le}
use lib.Ieee.Bits.{of_bits-fits}
use lib.Ieee.Fits.{and_l, and_r}
use borrow.Author.Tests.{lt-ltb}
use Rattle.ieee.specs.Functions.{one, four}
use Rattle.ieee.proofs.Range.FromZero.{in_positive}
use Rattle.ieee_near.specs.Index.{Index}
use Rattle.ieee_near.proofs.Exact.{is_zero}
use Rattle.math_trig.specs.Trig.{cos}
use Rattle.refusal.specs.Outcome.{answer, map}
use Rattle.thin_film_solver.specs.Solve.{no_response}
use Rattle.thin_film_coating.specs.declared.Coating.TheVariants as C
use Rattle.thin_film.specs.declared.SurfaceCoating.TheVariants as S
use Rattle.thin_film.specs.Evaluate.{evaluate_surface}
use Rattle.thin_film_conserved.specs.Claim.{Conserves, EverySurface}
use Rattle.math_trig.proofs.AtZero.{cos_zero}
use Rattle.thin_film_conserved.proofs.Claim.{light_in_light_out}
use Rattle.fresnel.specs.Fresnel.{fresnel_dielectric}
use Rattle.fresnel_near.specs.Claim.{Both}
use Rattle.fresnel_near.proofs.Claim.{every_pair}
use Rattle.gate_limits.specs.Coating.{coded, interface}
use Rattle.gate_limits.specs.Limits.{within, surface_passes}
use Rattle.gate_limits.proofs.Ranges.{wavelength_in, surface_in}
use Rattle.surface.specs.Answers.{assembled, coated_powers, coated_answers, bare_powers, bare_answers, answers_of, answers}
use Rattle.surface.proofs.Bare.{bare_jones}
use Rattle.sheet.specs.Sheet.{SheetSurface, SheetLayer, nth, Sheet}
use Rattle.sheet_values.specs.Values.{value, films, surface_value, met_at}
use Rattle.gate.specs.Gate.{gated}
use Rattle.gate.specs.Claim.{WithinLimits}
use Rattle.gate.proofs.Wavelengths.{met}
use Rattle.gate.proofs.Claim.{gate_claim}
use Rattle.sheet_surfaces.specs.Surfaces.{answers_to, surface_answers}
use Rattle.sheet_surfaces.proofs.Answers.{all_nth}
use Rattle.sheet_head_on.specs.Claim.{Straight, CustomAnswers, BareAnswers, HeadOnClaim}

-- an index that passes is one from 1 to 4
index : (pattern : ℕ) → T (within one four (value pattern)) → Index (value pattern)
unfolding within
index n t = record { held = of_bits-fits binary64 n; least = and_l (le one (value n)) (le (value n) four) t; most = and_r (le one (value n)) (le (value n) four) t }

custom_is : interface 5 ≡ Some (S.Custom C.Multilayer)
unfolding interface coded
custom_is = refl

bare_is : interface 0 ≡ None
unfolding interface coded
bare_is = refl

module _ (src : List ℕ) (x : Sheet) (is_admitted : gated src ≡ answer x) (inside : WithinLimits x) (i : ℕ) (l : i < length x.surfaces) where
  abbrev y : SheetSurface
  y = nth x.surfaces i

  abbrev w : Float
  w = met_at (value x.wavelength) x.surfaces i

  good : T (surface_passes (surface_value y))
  good = all_nth _ x.surfaces i inside.surfaces l

  incident : Index (value y.n_incident)
  unfolding surface_passes
  incident = index y.n_incident (and_l (within one four (value y.n_incident)) _ good)

  substrate : Index (value y.n_substrate)
  unfolding surface_passes
  substrate = index y.n_substrate (and_l (within one four (value y.n_substrate)) _ (and_r (within one four (value y.n_incident)) _ good))

  told : surface_answers src i ≡ answers w (surface_value y) (films w y.layers)
  unfolding surface_answers
  told = ap (answers_to i) is_admitted ∙ rw (lt-ltb i (length x.surfaces) l)

  custom : {bound : ℕ} → EverySurface (λ n1 n2. Conserves bound) → y.payload / 2 ≡ 5 → y.layers ≡ [] → Straight y → CustomAnswers bound src i
  unfolding answers_of coated_answers assembled coated_powers films
  custom every five none z =
      let c = every (value y.n_incident) (value y.n_substrate) (value y.angle) w incident substrate (of_bits-fits binary64 y.angle) z (subst T (sym (in_positive (wavelength_in w (met x inside i l).0) tt)) tt) in
      record {
        answers = coated_answers c.response;
        is =
            told ∙ ap (λ (code : ℕ). answers_of (interface code) w (surface_value y) (films w y.layers)) five ∙ ap (λ (j : _). answers_of j w (surface_value y) (films w y.layers)) custom_is
            ∙ ap (λ (ls : List SheetLayer). map coated_answers (evaluate_surface (S.Custom C.Multilayer) (films w ls) (value y.n_incident) (value y.n_substrate) (value y.angle) w)) none ∙ ap (map coated_answers) c.is;
        response = c.holds;
        s = c.holds.s;
        p = c.holds.p;
      }

  bare : y.payload / 2 ≡ 0 → Straight y → BareAnswers src i y
  unfolding answers_of bare_answers assembled bare_powers
  bare zero-code z =
      let j = bare_jones (surface_value y) (surface_in (surface_value y) good) in
      let e = is_zero (value y.angle) (of_bits-fits binary64 y.angle) z in
      let r : Both (value y.n_incident) (value y.n_substrate) (fresnel_dielectric (cos (value y.angle)) (value y.n_incident) (value y.n_substrate)) =
      subst (λ (c : Float). Both (value y.n_incident) (value y.n_substrate) (fresnel_dielectric c (value y.n_incident) (value y.n_substrate)))
      (sym (ap cos e.1 ∙ cos_zero e.0)) (every_pair (value y.n_incident) (value y.n_substrate) incident substrate) in
      record {
        answers = assembled false (bare_powers (surface_value y)) no_response j.value;
        is =
            told ∙ ap (λ (code : ℕ). answers_of (interface code) w (surface_value y) (films w y.layers)) zero-code ∙ ap (λ (j : _). answers_of j w (surface_value y) (films w y.layers)) bare_is
            ∙ ap (map (assembled false (bare_powers (surface_value y)) no_response)) j.is;
        s = r.s;
        p = r.p;
      }

pub head_on_claim : HeadOnClaim
head_on_claim src bytes x e =
    let inside = ((gate_claim.admits src bytes x).0 e).0.1 in
    record {
      custom = λ i l. custom src x e inside i l light_in_light_out.within;
      closer = λ i l. custom src x e inside i l light_in_light_out.closer;
      bare = bare src x e inside;
    }
