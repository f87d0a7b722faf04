-- The claim. Assumes nothing.
use Rattle.std.specs.Prelude.{Some}
use mathlib.Core.Path.{◌≡◌, refl, sym, ap, ap₂, ◌∙◌, subst}
use Prim.Native.Nat.{ℕ, zero, suc, ◌+◌, ◌*◌, ◌/◌, ◌^◌, ◌≤◌, ◌<◌, min}
use native.Mathlib.Nat.{le_trans, le_of_eq, mul-one, one-mul, mul_comm, mul_assoc, mul_left_comm, mul_right_comm, mul-le-mul, mul-pos}
use native.Mathlib.Omega.{arith}
use mathlib.Core.Bool.{Bool, true, false, ◌&&◌, cond}
use mathlib.Core.List.{List, [], ◌∷◌}
use lib.Dec.{T, lit≤, ltb}
use lib.Pow.{pow_pos}
use lib.ListN.{length, take, drop}
use lib.Ieee.{Float, binary64, fits, eq}
use lib.Ieee.Bits.{of_bits-fits}
use lib.Ieee.Fits.{and_l, and_r}
use borrow.Author.Tests.{lt-ltb, ltb-true, ltb-false}
use Rattle.ieee.specs.Range.{Mag}
use Rattle.ieee.specs.Count.{count}
use Rattle.near_abs.specs.Off.{Within}
use Rattle.near_abs.proofs.Within.{untimes, known}
use Rattle.near_abs.proofs.Counts.{U, Held, count_most}
use Rattle.near_abs.proofs.Laws.{Near, itself}
use Rattle.ieee.specs.Functions.{zero_f, one, four}
use Rattle.ieee.proofs.Range.FromZero.{in_positive}
use Rattle.refusal.specs.Outcome.{answer, refusal, map}
use Rattle.thin_film_coating.specs.declared.Coating.TheVariants as F
use Rattle.thin_film.specs.declared.SurfaceCoating.TheVariants as S
use Rattle.thin_film.specs.Evaluate.{evaluate_surface}
use Rattle.thin_film_conserved.proofs.Claim.{light_in_light_out}
use Rattle.gate_limits.specs.Coating.{coded, interface}
use Rattle.gate_limits.proofs.Ranges.{wavelength_in}
use Rattle.gate.proofs.Wavelengths.{met}
use Rattle.gate_limits.specs.Limits.{within, wavelength_passes, power_passes, beam_passes, surface_passes}
use Rattle.surface.specs.declared.Powers.{Powers}
use Rattle.surface.specs.Answers.{answers, assembled, coated_answers, answers_of}
use Rattle.sheet.specs.Blocks.{All}
use Rattle.sheet.specs.Sheet.{SheetSurface, SheetLayer, nth, Sheet}
use Rattle.sheet_values.specs.Values.{value, films, surface_value, met_with, met_at}
use Rattle.gate.specs.Gate.{gated}
use Rattle.gate.specs.Wavelength.{holds}
use Rattle.gate.specs.Claim.{WithinLimits}
use Rattle.gate.proofs.Claim.{gate_claim}
use Rattle.sheet_surfaces.specs.Surfaces.{answers_to, surface_answers}
use Rattle.sheet_surfaces.proofs.Answers.{all_nth}
use Rattle.train_steps.specs.declared.State.{State}
use Rattle.train_steps.specs.Train.{fresh, chosen_powers}
use Rattle.train_claim.specs.Claim as C
use Rattle.train_claim.specs.Claim.{Action, a_step, a_retune, acts, count_steps, Course, meets, is_told, course, course_of, worked_out, chosen_s, chosen_p}
use Rattle.train_claim.proofs.Claim.{train_claim}
use Rattle.sheet_accuracy.specs.Claim.{Bare, ExactPowers, BareAnswers, CustomAnswers, s_part, p_part, s_whole, p_whole, product, each, Passed, ExactTrain, OfSheet, Accuracy}
use Rattle.sheet_accuracy.proofs.Surface.{index, bare, all_bare, exact_powers, told, unit_mag, s_factor, p_factor}
use Rattle.sheet_accuracy.proofs.Train.{passed}

custom_is : interface 5 ≡ Some (S.Custom F.Multilayer)
unfolding interface coded
custom_is = refl

-- ---- how many surfaces a list of actions takes
module _ (ys : List SheetSurface) where
  met_length : (actions : List Action) (held : Float) (done : ℕ) → done ≤ length ys → done + length (course ys held done actions).met ≡ min (done + count_steps actions) (length ys)
  unfolding course
  met_length [] held done l = go done (length ys) l
    where
      go : (d n : ℕ) → d ≤ n → d + 0 ≡ min (d + 0) n
      go d n l = omega (arith, l)
  met_length (a_step ∷ more) held done l = by (ltb done (length ys)) refl (λ w d g. met_length more w d g)
    where
      w : Float
      w = met_with held (nth ys done).tuning

      one : (d k c n : ℕ) → suc d + k ≡ min (suc d + c) n → d + suc k ≡ min (d + suc c) n
      one d k c n h = omega (arith, h)

      two : (d k c n : ℕ) → n ≤ d → d ≤ n → d + k ≡ min (d + c) n → d + k ≡ min (d + suc c) n
      two d k c n a b h = omega (arith, a, b, h)

      by : (t : Bool) → ltb done (length ys) ≡ t → ((v : Float) (d : ℕ) → d ≤ length ys → d + length (course ys v d more).met ≡ min (d + count_steps more) (length ys))
          → done + length (cond t (meets w (course ys w (suc done) more)) (is_told (refusal 7 0) (course ys held done more))).met ≡ min (done + suc (count_steps more)) (length ys)
      by true e again = one done (length (course ys w (suc done) more).met) (count_steps more) (length ys) (again w (suc done) (ltb-true done (length ys) e))
      by false e again = two done (length (course ys held done more).met) (count_steps more) (length ys) (ltb-false done (length ys) e) l (again held done l)
  met_length (a_retune w ∷ more) held done l = by (holds w (drop done ys)) (met_length more w done l) (met_length more held done l)
    where
      by : (t : Bool) → done + length (course ys w done more).met ≡ min (done + count_steps more) (length ys) → done + length (course ys held done more).met ≡ min (done + count_steps more) (length ys)
          → done + length (cond t (is_told (answer tt) (course ys w done more)) (is_told (refusal 11 0) (course ys held done more))).met ≡ min (done + count_steps more) (length ys)
      by true a b = a
      by false a b = b

module _ (src : List ℕ) (x : Sheet) (is_admitted : gated src ≡ answer x) (inside : WithinLimits x) where
  surface : (i : ℕ) → i < length x.surfaces → (h : Bare (nth x.surfaces i)) → BareAnswers src i (nth x.surfaces i) h
  unfolding surface_answers
  surface i l h =
      let y = nth x.surfaces i in
      let w = met_at (value x.wavelength) x.surfaces i in
      let good = all_nth _ x.surfaces i inside.surfaces l in
      let t = told y good h w in
      record {
        answers = t.answers';
        is = ap (answers_to i) is_admitted ∙ rw (lt-ltb i (length x.surfaces) l) t.is;
        powers = subst (λ (r : Powers). ExactPowers y h r) (sym t.powers) (exact_powers y good h);
      }

  custom : (i : ℕ) → i < length x.surfaces → let y = nth x.surfaces i in y.payload / 2 ≡ 5 → y.layers ≡ [] → T (eq (value y.angle) zero_f) → CustomAnswers src i y
  unfolding surface_answers surface_passes answers_of coated_answers assembled films
  custom i l five none z =
      let y = nth x.surfaces i in
      let w = met_at (value x.wavelength) x.surfaces i in
      let good = all_nth _ x.surfaces i inside.surfaces l in
      let n1 = value y.n_incident in
      let n2 = value y.n_substrate in
      let c = light_in_light_out.exact n1 n2 (value y.angle) w (index y.n_incident (and_l (within one four n1) _ good)) (index y.n_substrate (and_l (within one four n2) _ (and_r (within one four n1) _ good))) (of_bits-fits binary64 y.angle) z (subst T (sym (in_positive (wavelength_in w (met x inside i l).0) tt)) tt) in
      record {
        answers = coated_answers c.response;
        is =
            ap (answers_to i) is_admitted
            ∙ rw (lt-ltb i (length x.surfaces) l)
            (ap (λ (code : ℕ). answers_of (interface code) w (surface_value y) (films w y.layers)) five ∙ ap (λ (j : _). answers_of j w (surface_value y) (films w y.layers)) custom_is
            ∙ ap (λ (ls : List SheetLayer). map coated_answers (evaluate_surface (S.Custom F.Multilayer) (films w ls) n1 n2 (value y.angle) w)) none ∙ ap (map coated_answers) c.is);
        exact = c.holds;
        powers = refl;
      }

  -- the BEAM's powers
  s_good : T (power_passes (value x.s))
  unfolding beam_passes
  s_good = and_l (power_passes (value x.s)) _ (and_r (wavelength_passes (value x.wavelength)) _ inside.beam)

  p_good : T (power_passes (value x.p))
  unfolding beam_passes
  p_good = and_r (power_passes (value x.s)) _ (and_r (wavelength_passes (value x.wavelength)) _ inside.beam)

  beam : (pattern : ℕ) → T (power_passes (value pattern)) → Held (value pattern)
  beam n t = record { fine = (unit_mag (value n) t).fine; held = of_bits-fits binary64 n }

  -- a product from the BEAM's power on, under the name of the claim
  named : (n F G : ℕ) (s0 s : Float) → Near (0 + n * each) (count s0 * F) (U * G) s → Passed n F G s0 s
  named n F G s0 s h = record {
    base = some G U h.base;
    near = untimes (n * each * G) (count s * G) (count s0 * F) U (pow_pos 1074) (known (one n each U G) (two (count s) U G) refl h.off);
  }
    where
      some : (g u : ℕ) → 0 < u * g → 0 < g
      some zero u h = omega (arith, h)
      some (suc g) u h = omega arith

      one : (n e u g : ℕ) → (0 + n * e) * (u * g) ≡ n * e * g * u
      one n e u g = omega arith

      two : (c u g : ℕ) → c * (u * g) ≡ c * g * u
      two c u g = omega arith

  unit_count : (s : Float) → Held s → Mag 1 0 s → count s ≤ U
  unit_count s h m = le_trans (le_of_eq (sym (mul-one (count s)))) (le_trans (count_most 1 0 h m.most) (le_of_eq (one-mul U)))

  s_passed : (ws : List Float) → length ws ≤ length x.surfaces → (h : All Bare (take (length ws) x.surfaces)) → let ys = take (length ws) x.surfaces in
      Passed (length ws) (product s_part ys h) (product s_whole ys h) (value x.s) (C.product (value x.s) (chosen_s ws x.surfaces))
  unfolding chosen_s
  s_passed ws l h =
      let b = beam x.s s_good in
      let m = unit_mag (value x.s) s_good in
      named (length ws) _ _ (value x.s) _
      (passed s_part s_whole (λ w y. (chosen_powers w y).s) chosen_s none (λ w ws y ys. refl) s_factor ws x.surfaces l inside.surfaces h 0 (count (value x.s)) U (value x.s) (itself b) m (unit_count (value x.s) b m))
    where
      none : (ys : List SheetSurface) → chosen_s [] ys ≡ []
      none [] = refl
      none (y ∷ ys) = refl

  p_passed : (ws : List Float) → length ws ≤ length x.surfaces → (h : All Bare (take (length ws) x.surfaces)) → let ys = take (length ws) x.surfaces in
      Passed (length ws) (product p_part ys h) (product p_whole ys h) (value x.p) (C.product (value x.p) (chosen_p ws x.surfaces))
  unfolding chosen_p
  p_passed ws l h =
      let b = beam x.p p_good in
      let m = unit_mag (value x.p) p_good in
      named (length ws) _ _ (value x.p) _
      (passed p_part p_whole (λ w y. (chosen_powers w y).p) chosen_p none (λ w ws y ys. refl) p_factor ws x.surfaces l inside.surfaces h 0 (count (value x.p)) U (value x.p) (itself b) m (unit_count (value x.p) b m))
    where
      none : (ys : List SheetSurface) → chosen_p [] ys ≡ []
      none [] = refl
      none (y ∷ ys) = refl

  out : (actions : List Action) (h : All Bare (take (worked_out x actions).done x.surfaces)) → ExactTrain x (worked_out x actions) h
  unfolding worked_out
  out actions =
      let ws = (course_of x actions).met in
      let e : length ws ≡ min (count_steps actions) (length x.surfaces) = plain (length ws) (count_steps actions) (length x.surfaces) (met_length x.surfaces actions (value x.wavelength) 0 (zero-le (length x.surfaces))) in
      subst (λ (n : ℕ). (h : All Bare (take n x.surfaces)) → ExactTrain x (record { done = n; s = C.product (value x.s) (chosen_s ws x.surfaces); p = C.product (value x.p) (chosen_p ws x.surfaces); wavelength_nm = (course_of x actions).held }) h) e
      (λ h. record { s = s_passed ws (under (length ws) (count_steps actions) (length x.surfaces) e) h; p = p_passed ws (under (length ws) (count_steps actions) (length x.surfaces) e) h })
    where
      zero-le : (n : ℕ) → 0 ≤ n
      zero-le n = omega arith

      plain : (k c n : ℕ) → 0 + k ≡ min (0 + c) n → k ≡ min c n
      plain k c n h = omega (arith, h)

      under : (k c n : ℕ) → k ≡ min c n → k ≤ n
      under k c n e = omega (arith, e)

pub accuracy : Accuracy
accuracy src bytes x e =
    let inside = ((gate_claim.admits src bytes x).0 e).0.1 in
    record {
      exists = λ i l h. bare (nth x.surfaces i) (all_nth _ x.surfaces i inside.surfaces l) h;
      all_exist = λ n. all_bare n x.surfaces inside.surfaces;
      surface = surface src x e inside;
      custom = custom src x e inside;
      train = λ actions. subst (λ (st : State). (h : All Bare (take st.done x.surfaces)) → ExactTrain x st h) (sym ((train_claim.admitted src bytes x e).lists actions)) (out src x e inside actions);
    }
