-- One bare surface within the limits. Assumes nothing.
use Rattle.std.specs.Prelude.{None}
use mathlib.Core.Path.{◌≡◌, refl, sym, ap, ◌∙◌, subst}
use Prim.Native.Nat.{ℕ, zero, suc, ◌+◌, ◌-◌, ◌^◌, ◌≤◌}
use native.Mathlib.Nat.{le_trans, le_of_eq, mul-le-mul}
use native.Mathlib.Omega.{arith}
use mathlib.Core.Bool.{Bool, true, false, cond}
use mathlib.Core.List.{List, [], ◌∷◌}
use lib.ListN.{take}
use lib.Dec.{T, lit≤}
use lib.Ieee.{Float, binary64, fits, le}
use lib.Ieee.Bits.{of_bits-fits}
use lib.Ieee.Fits.{and_l, and_r, sub-fits}
use lib.Ieee.Scale.{finite}
use Rattle.ieee.specs.Functions.{one, four, quarter}
use Rattle.ieee.specs.Range.{Mag}
use Rattle.ieee.proofs.Range.Laws.{plus_finite}
use Rattle.ieee.proofs.Range.Falls.{zero_to_one}
use Rattle.ieee_near.specs.Index.{Index, gap}
use Rattle.near_abs.proofs.Laws.{Near}
use Rattle.math_trig.specs.Trig.{cos}
use Rattle.math_phase.specs.Claim.{two_pi}
use Rattle.refusal.specs.Outcome.{answer, map}
use Rattle.thin_film_solver.specs.Solve.{no_response}
use Rattle.fresnel.specs.Fresnel.{fresnel_dielectric}
use Rattle.fresnel_tilted.specs.Claim.{whole, reflected, transmitted, bound, Power, Tilted}
use Rattle.fresnel_tilted.proofs.Claim.{rest_is}
use Rattle.bare_near.specs.Claim.{Admitted}
use Rattle.bare_near.proofs.Claim.{every_angle, held}
use Rattle.bare_near.proofs.Exists.{exists}
use Rattle.gate_limits.specs.Coating.{coded, interface}
use Rattle.gate_limits.specs.Limits.{within, power_passes, snell_size, refracts, angle_passes, surface_passes}
use Rattle.gate_limits.proofs.Ranges.{surface_in}
use Rattle.surface.specs.declared.Answers.{Answers}
use Rattle.surface.specs.Finite.{UnitPowers}
use Rattle.surface.specs.Answers.{assembled, bare_powers, bare_answers, answers_of, answers}
use Rattle.surface.proofs.Bare.{bare_jones, bare_unit}
use Rattle.sheet.specs.Blocks.{All}
use Rattle.sheet.specs.Sheet.{SheetSurface}
use Rattle.sheet_values.specs.Values.{value, films, surface_value}
use Rattle.train_steps.specs.declared.Chosen.{Chosen}
use Rattle.train_steps.specs.Train.{chosen, chosen_of, chosen_powers}
use Rattle.sheet_accuracy.specs.Claim as A
use Rattle.sheet_accuracy.specs.Claim.{Plain, Tilts, ExactPowers, s_first, s_second, p_first, p_second, s_part, p_part, s_whole, p_whole}

-- an index that passes is one from 1 to 4
pub index : (pattern : ℕ) → T (within one four (value pattern)) → Index (value pattern)
unfolding within
index n t = record { held = of_bits-fits binary64 n; least = and_l (le one (value n)) (le (value n) four) t; most = and_r (le one (value n)) (le (value n) four) t }

bare_is : interface 0 ≡ None
unfolding interface coded
bare_is = refl

-- ---- what the train multiplies by
pub record Factor (A B : ℕ) (c : Float) : Type 0 where
  pub near : Near bound A B c
  pub mag : Mag 1 0 c
  pub under : A ≤ B

power_near : {A B : ℕ} {c : Float} → Power A B c → T (fits binary64 c) → Near bound A B c
power_near {c = c} p f = record { ok = record { fine = plus_finite c p.sign; held = f }; base = p.base; off = p.near }

pub unit_mag : (c : Float) → T (power_passes c) → Mag 1 0 c
unfolding within
unit_mag c t = (zero_to_one c t).mag

reflected_under : (a b : ℕ) → reflected a b ≤ whole a b
reflected_under a b = mul-le-mul (go a b) (go a b)
  where
    go : (a b : ℕ) → gap a b ≤ a + b
    go a b = omega arith

transmitted_under : (a b : ℕ) → transmitted a b ≤ whole a b
transmitted_under a b = le_trans (le_of_eq (sym (rest_is a b))) (less (whole a b) (reflected a b))
  where
    less : (x y : ℕ) → x - y ≤ x
    less x y = omega arith

module _ (y : SheetSurface) (good : T (surface_passes (surface_value y))) (plain : Plain y) where
  abbrev n1 : Float
  n1 = value y.n_incident

  abbrev n2 : Float
  n2 = value y.n_substrate

  abbrev x : Float
  x = value y.angle

  admits : Admitted x n1 n2
  unfolding surface_passes angle_passes
  admits =
      let t = and_r (finite x) _ (and_r (within one four n2) _ (and_r (within one four n1) _ good)) in
      record {
        angle = record { held = of_bits-fits binary64 y.angle; most = plain.angle };
        incident = index y.n_incident (and_l (within one four n1) _ good);
        substrate = index y.n_substrate (and_l (within one four n2) _ (and_r (within one four n1) _ good));
        cosine = and_l (le quarter (cos x)) _ t;
        sine = and_l (refracts (snell_size n1 x) n2) _ (and_r (le quarter (cos x)) _ t);
      }

  -- its exact optics exist
  pub bare : A.Bare y
  bare = record { plain = plain; exact = (exists.optics x n1 n2 admits two_pi (2 ^ 110) exists.turn 11 (lit≤ tt) (2 ^ 60)).optics }

-- and those of a train
pub all_bare : (n : ℕ) (ys : List SheetSurface) → All (λ (y : SheetSurface). T (surface_passes (surface_value y))) ys → All Plain (take n ys) → All A.Bare (take n ys)
all_bare zero ys good h = tt
all_bare (suc n) [] good h = tt
all_bare (suc n) (y ∷ ys) good h = (bare y good.0 h.0, all_bare n ys good.1 h.1)

module _ (y : SheetSurface) (good : T (surface_passes (surface_value y))) (h : A.Bare y) where
  abbrev n1' : Float
  n1' = value y.n_incident

  abbrev n2' : Float
  n2' = value y.n_substrate

  abbrev x' : Float
  x' = value y.angle

  admitted : Admitted x' n1' n2'
  admitted = admits y good h.plain

  tilted : Tilted n1' n2' h.exact.C h.exact.K h.exact.t h.exact.L (fresnel_dielectric (cos x') n1' n2')
  tilted = every_angle x' n1' n2' admitted h.exact

  pub exact_powers : ExactPowers y h (bare_powers (surface_value y))
  unfolding bare_powers
  exact_powers = record {
    s = record { reflects = tilted.s.reflects; transmits = tilted.s.transmits };
    p = record { reflects = tilted.p.reflects; transmits = tilted.p.transmits };
  }

  -- its answers, at any wavelength
  pub record Told (w : Float) : Type 0 where
    pub answers' : Answers
    pub is : answers w (surface_value y) (films w y.layers) ≡ answer answers'
    pub powers : answers'.powers ≡ bare_powers (surface_value y)

  pub told : (w : Float) → Told w
  unfolding answers_of bare_answers assembled
  told w =
      let j = bare_jones (surface_value y) (surface_in (surface_value y) good) in
      record {
        answers' = assembled false (bare_powers (surface_value y)) no_response j.value;
        is =
            ap (λ (code : ℕ). answers_of (interface code) w (surface_value y) (films w y.layers)) h.plain.coating ∙ ap (λ (j : _). answers_of j w (surface_value y) (films w y.layers)) bare_is
            ∙ ap (map (assembled false (bare_powers (surface_value y)) no_response)) j.is;
        powers = refl;
      }

  chosen_is : (w : Float) → chosen_powers w y ≡ chosen (surface_value y).reflected (bare_powers (surface_value y))
  unfolding chosen_powers
  chosen_is w =
      let t = told w in
      ap (λ (o : _). chosen_of (surface_value y).reflected (map (λ (a : Answers). a.powers) o)) t.is ∙ ap (chosen (surface_value y).reflected) t.powers

  unit : UnitPowers (bare_powers (surface_value y))
  unit = bare_unit (surface_value y) (surface_in (surface_value y) good)

  module _ (a b : ℕ) (r t : Float) (e : Tilts a b r t) (fr : T (fits binary64 r)) (ft : T (fits binary64 t)) (ur : T (power_passes r)) (ut : T (power_passes t)) where
    either : (q : Bool) → Factor (cond q (reflected a b) (transmitted a b)) (whole a b) (cond q r t)
    either true = record { near = power_near e.reflects fr; mag = unit_mag r ur; under = reflected_under a b }
    either false = record { near = power_near e.transmits ft; mag = unit_mag t ut; under = transmitted_under a b }

  pub s_factor : (w : Float) → Factor (s_part y h) (s_whole y h) (chosen_powers w y).s
  unfolding bare_powers
  s_factor w =
      subst (λ (c : Chosen). Factor (s_part y h) (s_whole y h) c.s) (sym (chosen_is w))
      (either (s_first y h) (s_second y h) _ _ exact_powers.s (held x' n1' n2' admitted h.exact).0 (sub-fits binary64 one _) unit.reflectance_s unit.transmittance_s (surface_value y).reflected)

  pub p_factor : (w : Float) → Factor (p_part y h) (p_whole y h) (chosen_powers w y).p
  unfolding bare_powers
  p_factor w =
      subst (λ (c : Chosen). Factor (p_part y h) (p_whole y h) c.p) (sym (chosen_is w))
      (either (p_first y h) (p_second y h) _ _ exact_powers.p (held x' n1' n2' admitted h.exact).1 (sub-fits binary64 one _) unit.reflectance_p unit.transmittance_p (surface_value y).reflected)
