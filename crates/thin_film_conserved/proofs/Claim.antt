-- Light in, light out: R and T of the response, and of `SurfaceCoating::evaluate`. Assumes nothing.
use mathlib.Core.Path.{◌≡◌, refl, sym, ap, ◌∙◌, subst}
use Prim.Native.Nat.{ℕ, ◌+◌, ◌-◌, ◌*◌, ◌^◌, ◌≤◌}
use native.Mathlib.Nat.{le_trans, mul-pos, mul_assoc}
use mathlib.Core.Bool.{Bool, true, false}
use mathlib.Core.List.{List, []}
use lib.Dec.{T, lit≤}
use lib.Ieee.{Float, binary64, fits, lt, eq}
use lib.Ieee.Bits.{is_true}
use lib.Ieee.Fits.{add-fits, mul-fits}
use lib.Ieee.Scale.{finite}
use lib.Ieee.Positive.{num, den}
use Rattle.ieee.specs.Operators.{◌⊕◌, ◌⊗◌, ◌⊘◌}
use Rattle.ieee.specs.Functions.{zero_f, two, finite_positive}
use Rattle.ieee.specs.Range.{plus}
use Rattle.ieee.specs.Count.{count}
use Rattle.ieee.proofs.Range.FromZero.{equals_zero, in_positive}
use Rattle.ieee_near.specs.Index.{Index, gap, difference², sum², OffBy}
use Rattle.ieee_near.specs.Near.{Near}
use Rattle.ieee_near.proofs.Laws.{a_zero, near_frac}
use Rattle.ieee_near.proofs.Zeros.{clamp_fits}
use Rattle.ieee_near.proofs.Exact.{is_zero}
use Rattle.ieee_near.proofs.Pair.{index_in, counted, off_by, S_pos, difference_counts, product_counts}
use Rattle.math_trig.specs.Trig.{sin, cos}
use Rattle.refusal.specs.Outcome.{answer}
use Rattle.thin_film_complex.specs.declared.Complex.{Complex}
use Rattle.thin_film_complex.specs.Complex.{scale, norm_sq, add, sub, mul}
use Rattle.thin_film_matrix.specs.Matrix.{identity}
use Rattle.thin_film_solver.specs.declared.ThinFilmLayer.{ThinFilmLayer}
use Rattle.thin_film_solver.specs.declared.CoatingResponse.{CoatingResponse}
use Rattle.thin_film_solver.specs.Solve.{eta0_s, eta0_p, eta_sub_s, eta_sub_p, product_s, product_p, b_of, c_of, reflection, transmission, reflectance, transmittance, solve, rust_respond, rust_evaluate, evaluate}
use Rattle.thin_film_solver.specs.Absorptance.{with_absorptance}
use Rattle.thin_film_valid.specs.Valid.{valid}
use Rattle.thin_film_layers.specs.Evaluation.{ordered}
use Rattle.thin_film_coating.specs.declared.Coating.TheVariants as C
use Rattle.thin_film_coating.specs.Evaluate.{evaluate_coating}
use Rattle.thin_film_coating.proofs.Answers.{solved}
use Rattle.thin_film.specs.declared.SurfaceCoating.TheVariants as S
use Rattle.thin_film.specs.Coating.{layers_of}
use Rattle.thin_film.specs.Evaluate.{rust_evaluate_surface, evaluate_surface}
use Rattle.thin_film_conserved.specs.Claim.{AddsUp, Conserves, asked, reached, product, Exact, EverySurface, LightInLightOut}
use Rattle.thin_film_conserved.proofs.Sum.{squares, adds_up}
use Rattle.thin_film_conserved.proofs.Powers.{near_R, near_T}
use Rattle.thin_film_conserved.proofs.Straight.{Is, is_less, is_sum, is_twice, is_eta0_s, is_eta0_p, is_sub_s, is_sub_p}

-- ---- one polarization, for admittances that are the indices a and b
module _ (a b : Float) (ia : Index a) (ib : Index b) (eta0 eta : Complex) (h0 : Is a eta0) (h1 : Is b eta) where
  R_fits : T (fits binary64 (solve identity eta0 eta).reflectance)
  unfolding solve reflectance norm_sq
  R_fits = clamp_fits (norm_sq (reflection identity eta0 eta)) (add-fits binary64 ((reflection identity eta0 eta).re ⊗ (reflection identity eta0 eta).re) ((reflection identity eta0 eta).im ⊗ (reflection identity eta0 eta).im))

  T_fits : T (fits binary64 (solve identity eta0 eta).transmittance)
  unfolding solve transmittance
  T_fits = clamp_fits (eta.re ⊘ eta0.re ⊗ norm_sq (transmission identity eta0 eta)) (mul-fits binary64 (eta.re ⊘ eta0.re) (norm_sq (transmission identity eta0 eta)))

  abbrev total_is : ℕ
  total_is = num a * den b + num b * den a

  abbrev w : Complex
  w = add (mul eta0 (b_of identity eta)) (c_of identity eta)

  total : Is (a ⊕ b) w
  total = is_sum a b ia ib eta0 eta h0 h1

  R_near : Near 11 224 12 (gap (num a * den b) (num b * den a) * gap (num a * den b) (num b * den a)) (total_is * total_is) (solve identity eta0 eta).reflectance × T (plus (solve identity eta0 eta).reflectance)
  unfolding solve reflection
  R_near =
      let less = is_less a b ia ib eta0 eta h0 h1 in
      near_R a b ia ib (sub (mul eta0 (b_of identity eta)) (c_of identity eta)) w less.re less.im total.re total.im

  T_near : Near 11 14 14 (4 * (num a * den b * (num b * den a))) (total_is * total_is) (solve identity eta0 eta).transmittance × T (plus (solve identity eta0 eta).transmittance)
  unfolding solve transmission
  T_near =
      let twice = is_twice a b ia ib eta0 eta h0 h1 in
      near_T a b ia ib (scale eta0 two) w eta0 eta twice.re twice.im total.re total.im h0.re h1.re

  solved_adds_up : AddsUp reached (solve identity eta0 eta).reflectance (solve identity eta0 eta).transmittance
  solved_adds_up =
      let S0 = S_pos a b ia ib in
      record {
        reflects = R_near.1;
        transmits = T_near.1;
        near = adds_up (gap (num a * den b) (num b * den a) * gap (num a * den b) (num b * den a)) (4 * (num a * den b * (num b * den a))) (total_is * total_is) (count (solve identity eta0 eta).reflectance) (count (solve identity eta0 eta).transmittance) (mul-pos S0 S0) (squares (num a * den b) (num b * den a)) (counted R_fits R_near.0) (counted T_fits T_near.0);
      }

  R_off : OffBy 12 (difference² a b) (sum² a b) (solve identity eta0 eta).reflectance
  R_off =
      let S0 = S_pos a b ia ib in
      off_by {k = 11} (2 ^ 53 - 12) 12 (solve identity eta0 eta).reflectance refl (lit≤ tt) (lit≤ tt)
      (counted R_fits (near_frac (gap (num a * den b) (num b * den a) * gap (num a * den b) (num b * den a)) (total_is * total_is) (difference² a b) (sum² a b) (mul-pos S0 S0) (difference_counts a b ia ib) R_near.0))

  T_off : OffBy 12 (product a b) (sum² a b) (solve identity eta0 eta).transmittance
  T_off =
      let S0 = S_pos a b ia ib in
      off_by {k = 11} (2 ^ 53 - 12) 12 (solve identity eta0 eta).transmittance refl (lit≤ tt) (lit≤ tt)
      (counted T_fits (near_frac (4 * (num a * den b * (num b * den a))) (total_is * total_is) (product a b) (sum² a b) (mul-pos S0 S0)
      (fourfold (num a * den b * (num b * den a)) (sum² a b) (count a * count b) (total_is * total_is) (product_counts a b ia ib)) T_near.0))
    where
      fourfold : (x s y t : ℕ) → x * s ≡ y * t → 4 * x * s ≡ 4 * y * t
      fourfold x s y t e = mul_assoc 4 x s ∙ ap (λ (z : ℕ). 4 * z) e ∙ sym (mul_assoc 4 y t)

-- ---- both
module _ (n0 ns : Float) (i0 : Index n0) (i1 : Index ns) where
  record Solved (r : CoatingResponse) : Type 0 where
    conserves : Conserves reached r
    exact : Exact n0 ns r

  straight : (s : Bool) (wavelength : Float) → Solved (evaluate n0 ns (a_zero s) wavelength [])
  unfolding evaluate rust_evaluate rust_respond with_absorptance product_s product_p
  straight s wavelength =
      let e0 = eta0_s n0 (cos (a_zero s)) in
      let e1 = eta_sub_s (n0 ⊗ sin (a_zero s)) ns in
      let f0 = eta0_p n0 (cos (a_zero s)) in
      let f1 = eta_sub_p (n0 ⊗ sin (a_zero s)) ns in
      let h0 = is_eta0_s n0 ns i0 i1 s in
      let h1 = is_sub_s n0 ns i0 i1 s in
      let g0 = is_eta0_p n0 ns i0 i1 s in
      let g1 = is_sub_p n0 ns i0 i1 s in
      record {
        conserves = record { s = solved_adds_up n0 ns i0 i1 e0 e1 h0 h1; p = solved_adds_up n0 ns i0 i1 f0 f1 g0 g1 };
        exact = record {
          reflects_s = R_off n0 ns i0 i1 e0 e1 h0 h1;
          reflects_p = R_off n0 ns i0 i1 f0 f1 g0 g1;
          transmits_s = T_off n0 ns i0 i1 e0 e1 h0 h1;
          transmits_p = T_off n0 ns i0 i1 f0 f1 g0 g1;
        };
      }

  at_zero : (angle wavelength : Float) → T (fits binary64 angle) → T (eq angle zero_f) → Solved (evaluate n0 ns angle wavelength [])
  at_zero angle wavelength f z = let e = is_zero angle f z in subst (λ (x : Float). Solved (evaluate n0 ns x wavelength [])) (sym e.1) (straight e.0 wavelength)

  -- no layers, in either order; no number of the surface is refused
  nothing_turned : (b : Bool) → ordered b [] ≡ []
  unfolding ordered
  nothing_turned true = refl
  nothing_turned false = refl

  admitted : (angle w : Float) → T (eq angle zero_f) → T (finite_positive w) → valid n0 ns angle w ≡ true
  unfolding valid
  admitted angle w z e = simp (in_positive (index_in i0) tt, in_positive (index_in i1) tt, is_true (finite angle) (equals_zero angle z).fine, is_true (finite_positive w) e)

  answers : (angle w : Float) → T (eq angle zero_f) → T (finite_positive w) → evaluate_surface (S.Custom C.Multilayer) [] n0 ns angle w ≡ answer (evaluate n0 ns angle w [])
  unfolding evaluate_surface rust_evaluate_surface evaluate_coating layers_of
  answers angle w z e =
      ap (λ (l : List ThinFilmLayer). evaluate_coating C.Multilayer l n0 ns angle w) (nothing_turned (lt ns n0))
      ∙ solved n0 ns angle w [] C.Multilayer refl (admitted angle w z e) (lit≤ tt)

wider : {b c : ℕ} {r t : Float} → b ≤ c → AddsUp b r t → AddsUp c r t
wider h a = record { reflects = a.reflects; transmits = a.transmits; near = le_trans a.near h }

every : (P : Float → Float → CoatingResponse → Type 0) → ((n0 ns : Float) (r : CoatingResponse) → Conserves reached r → Exact n0 ns r → P n0 ns r) → EverySurface P
every P g n0 ns angle w i j f z e =
    let c = at_zero n0 ns i j angle w f z in
    record { response = evaluate n0 ns angle w []; is = answers n0 ns i j angle w z e; holds = g n0 ns (evaluate n0 ns angle w []) c.conserves c.exact }

pub light_in_light_out : LightInLightOut
light_in_light_out = record {
  within = every (λ n1 n2. Conserves asked) (λ n1 n2 r c x. record { s = wider (lit≤ {m = reached} {n = asked} tt) c.s; p = wider (lit≤ {m = reached} {n = asked} tt) c.p });
  closer = every (λ n1 n2. Conserves reached) (λ n1 n2 r c x. c);
  exact = every Exact (λ n1 n2 r c x. x);
}
