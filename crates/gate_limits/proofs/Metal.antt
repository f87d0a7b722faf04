-- Layers under the limits of metal films have the ranges that the proofs of their answers start from: no term of a rounded sum of values that are not below zero is above the sum. Assumes nothing.
use mathlib.Core.Path.{◌≡◌, sym, ap, ◌∙◌, subst}
use mathlib.Core.List.{List, [], ◌∷◌}
use mathlib.Core.Bool.{Bool, true, false, ◌&&◌}
use Prim.Native.Nat.{ℕ, suc, ◌+◌, ◌*◌, ◌≤◌, ◌<◌}
use native.Mathlib.Nat.{le_refl, zero-mul, mul-pos}
use native.Mathlib.Omega.{arith}
use lib.Dec.{T, eqb, leb, leb→le, eqb→eq, lit≤}
use lib.ListN.{length}
use lib.Ieee.{Float, binary64, unlike, fits, le, eq, of_bits}
use lib.Ieee.Fits.{and_l, and_r, add-fits, mul-fits}
use lib.Ieee.Scale.{finite}
use lib.Ieee.Positive.{num, den, den_pos, through, positive}
use Rattle.ieee.specs.Operators.{◌⊕◌, ◌⊗◌, ◌⊘◌}
use Rattle.ieee.specs.Functions.{zero_f, two, four}
use Rattle.ieee.specs.Range.{sgn, plus, Mag, In, Pow}
use Rattle.ieee.proofs.Range.Laws.{in_lit, in_mag, plus_finite, plus_sgn, div_is, mul_mag, mul_in}
use Rattle.ieee.proofs.Range.Quotients.{div_mag}
use Rattle.ieee.proofs.Range.Powers.{to_pow, pow_up, add_pow}
use Rattle.ieee.proofs.Range.Zero.{mul_zero_mag}
use Rattle.ieee.proofs.Range.Falls.{Least0, least0, least0_le, rounds_least0, rounds_cross, self_rounds, mul_rounds, add_rounds}
use Rattle.ieee.proofs.Range.FromZero.{from_zero}
use Rattle.ieee.proofs.Range.Tests.{gate_in}
use Rattle.ieee.proofs.Range.Constants.{zero_mag, two_in}
use Rattle.ieee_near.proofs.Exact.{is_zero}
use Rattle.math_trig.specs.Angles.{pi}
use Rattle.math_trig.specs.Trig.{sin}
use Rattle.math_trig.proofs.AtZero.{sin_zero}
use Rattle.thin_film_solver.specs.declared.ThinFilmLayer.{ThinFilmLayer}
use Rattle.thin_film_solver.specs.Layer.{factor}
use Rattle.thin_film_bounds.specs.Solver.{AbsorbingLayer, Each}
use Rattle.gate_limits.specs.declared.Surface.{Surface}
use Rattle.gate_limits.specs.Limits.{hundred_thousand, sixteenth, eight, sixteen, within, metal_within, metals_within, absorption, absorptions, may_be_metal, metal_passes}
use Rattle.gate_limits.proofs.Ranges.{four_in, hundred_thousand_in}

-- ---- the ends
sixteenth_in : In 1 4 1 4 sixteenth
unfolding of_bits
sixteenth_in = in_lit sixteenth tt

eight_in : In 8 0 8 0 eight
unfolding of_bits
eight_in = in_lit eight tt

sixteen_in : In 16 0 16 0 sixteen
unfolding of_bits
sixteen_in = in_lit sixteen tt

index_ends : T (positive sixteenth && positive four)
unfolding of_bits
index_ends = tt

zero_fits : T (fits binary64 zero_f)
unfolding fits of_bits
zero_fits = tt

zero_least0 : Least0 zero_f
unfolding of_bits
zero_least0 u = absurd u

-- ---- not below zero: quotients, and sums, which are no less than either term
div_least0 : (x y : Float) → T (finite x) → T (plus y) → 0 < num y → Least0 x → Least0 (x ⊘ y)
div_least0 x y f p y0 l = rounds_least0 (mul-pos y0 (den_pos x)) (record { s = unlike (sgn x) (sgn y); is = div_is x y f (plus_finite y p) y0; nought = λ u. ap (λ (n : ℕ). n * den y) (only (sgn x) (sgn y) l (plus_sgn y p) u) ∙ zero-mul (den y) })
  where
    only : (s t : Bool) → (T s → num x ≡ 0) → t ≡ false → T (unlike s t) → num x ≡ 0
    only true t f e u = f tt
    only false t f e u = absurd (subst (λ (t : Bool). T (unlike false t)) e u)

record Adds (a t : Float) : Type 0 where
  least : Least0 (a ⊕ t)
  keeps : num a * den (a ⊕ t) ≤ num (a ⊕ t) * den a
  takes : num t * den (a ⊕ t) ≤ num (a ⊕ t) * den t

adds : (a t : Float) → T (fits binary64 a) → T (fits binary64 t) → T (finite a) → T (finite t) → Least0 a → Least0 t → T (finite (a ⊕ t)) → Adds a t
adds a t ha ht fa ft la lt f =
    let r = add_rounds a t fa ft la lt in
    let D = mul-pos (den_pos a) (den_pos t) in
    record {
      least = rounds_least0 D r;
      keeps = (rounds_cross (self_rounds a ha fa la) r (den_pos a) D f (first (num a) (den a) (num t) (den t))).1;
      takes = (rounds_cross (self_rounds t ht ft lt) r (den_pos t) D f (second (num a) (den a) (num t) (den t))).1;
    }
  where
    first : (n d m e : ℕ) → n * (d * e) ≤ (n * e + m * d) * d
    first n d m e = omega arith

    second : (n d m e : ℕ) → m * (d * e) ≤ (n * e + m * d) * e
    second n d m e = omega arith

-- ---- the sum over a list, of terms that are not below zero and at most 2 ^ 16
record Term (t : Float) : Type 0 where
  held : T (fits binary64 t)
  size : Pow 16 t
  least : Least0 t

module _ (w : Float) where
  abbrev Terms : List ThinFilmLayer → Type 0
  Terms layers = Each (λ (layer : ThinFilmLayer). Term (absorption w layer)) layers

  abbrev Under : List ThinFilmLayer → Float → Type 0
  Under layers F = Each (λ (layer : ThinFilmLayer). num (absorption w layer) * den F ≤ num F * den (absorption w layer)) layers

  summed : (layers : List ThinFilmLayer) (a : Float) (k : ℕ) → T (fits binary64 a) → Least0 a → Pow k a → 16 ≤ k → k + length layers ≤ 1023 → Terms layers
      → let F = absorptions w a layers in (T (finite F) × Least0 F) × ((num a * den F ≤ num F * den a) × Under layers F)
  unfolding absorptions
  summed [] a k ha la sa lo hi ts = ((sa.fine, la), (le_refl (num a * den a), tt))
  summed (layer ∷ layers) a k ha la sa lo hi ts =
      let t = absorption w layer in
      let u = ts.0 in
      let s : Pow (suc k) (a ⊕ t) = add_pow sa (pow_up u.size lo) (omega arith) in
      let d = adds a t ha u.held sa.fine u.size.fine la u.least s.fine in
      let r = summed layers (a ⊕ t) (suc k) (add-fits binary64 a t) d.least s (omega arith) (omega arith) ts.1 in
      let F = absorptions w (a ⊕ t) layers in
      (r.0, (through (num a) (num (a ⊕ t)) (num F) (den a) (den (a ⊕ t)) (den F) (den_pos (a ⊕ t)) d.keeps r.1.0, (through (num t) (num (a ⊕ t)) (num F) (den t) (den (a ⊕ t)) (den F) (den_pos (a ⊕ t)) d.takes r.1.0, r.1.1)))

-- ---- one layer
record Metal (layer : ThinFilmLayer) : Type 0 where
  index : In 1 4 4 0 layer.n
  k_size : Mag 8 0 layer.k
  k_least : Least0 layer.k
  thickness : Mag 100000 0 layer.thickness_nm
  thick_least : Least0 layer.thickness_nm

metal_in : (layer : ThinFilmLayer) → T (metal_within layer) → Metal layer
unfolding metal_within within
metal_in layer t =
    let n = layer.n in
    let k = layer.k in
    let d = layer.thickness_nm in
    let A = le sixteenth n && le n four in
    let B = le zero_f k && le k eight in
    let C = le zero_f d && le d hundred_thousand in
    let a = and_l A (B && C) t in
    let b = and_l B C (and_r A (B && C) t) in
    let c = and_r B C (and_r A (B && C) t) in
    record {
      index = gate_in sixteenth four n sixteenth_in four_in index_ends (and_l (le sixteenth n) (le n four) a) (and_r (le sixteenth n) (le n four) a);
      k_size = from_zero k eight eight_in (and_l (le zero_f k) (le k eight) b) (and_r (le zero_f k) (le k eight) b);
      k_least = least0 k (and_l (le zero_f k) (le k eight) b);
      thickness = from_zero d hundred_thousand hundred_thousand_in (and_l (le zero_f d) (le d hundred_thousand) c) (and_r (le zero_f d) (le d hundred_thousand) c);
      thick_least = least0 d (and_l (le zero_f d) (le d hundred_thousand) c);
    }

pi_in : In 3 0 4 0 pi
unfolding of_bits
pi_in = in_lit pi tt

term : (w : Float) → In 100 0 10000 0 w → (layer : ThinFilmLayer) → Metal layer → Term (absorption w layer)
unfolding absorption
term w W layer g =
    let d = layer.thickness_nm in
    let a : In 6 0 8 0 (two ⊗ pi) = mul_in two_in pi_in tt in
    let b : Mag 800000 0 (two ⊗ pi ⊗ d) = mul_mag (in_mag a) g.thickness tt in
    let f : Mag 8192 0 (two ⊗ pi ⊗ d ⊘ w) = div_mag b W tt in
    let t : Mag 65536 0 (two ⊗ pi ⊗ d ⊘ w ⊗ layer.k) = mul_mag f g.k_size tt in
    let p : Least0 (two ⊗ pi) = λ u. absurd (subst T (plus_sgn (two ⊗ pi) a.sign) u) in
    let q : Least0 (two ⊗ pi ⊗ d) = rounds_least0 (mul-pos (den_pos (two ⊗ pi)) (den_pos d)) (mul_rounds (two ⊗ pi) d (in_mag a).fine g.thickness.fine p g.thick_least) in
    let r : Least0 (two ⊗ pi ⊗ d ⊘ w) = div_least0 (two ⊗ pi ⊗ d) w b.fine W.sign (above (num w) (den w) (den_pos w) W.least) q in
    record {
      held = mul-fits binary64 (two ⊗ pi ⊗ d ⊘ w) layer.k;
      size = to_pow 16 t tt;
      least = rounds_least0 (mul-pos (den_pos (two ⊗ pi ⊗ d ⊘ w)) (den_pos layer.k)) (mul_rounds (two ⊗ pi ⊗ d ⊘ w) layer.k f.fine g.k_size.fine r g.k_least);
    }
  where
    above : (n d : ℕ) → 0 < d → 100 * d ≤ n * 1 → 0 < n
    above n d h g = omega arith

-- ---- all of them
abbrev pub Held : List ThinFilmLayer → Type 0
Held layers = Each (λ (layer : ThinFilmLayer). T (fits binary64 layer.k)) layers

module _ (w : Float) (W : In 100 0 10000 0 w) where
  metals_in : (layers : List ThinFilmLayer) → T (metals_within layers) → Each Metal layers
  unfolding metals_within
  metals_in [] t = tt
  metals_in (layer ∷ layers) t = (metal_in layer (and_l (metal_within layer) (metals_within layers) t), metals_in layers (and_r (metal_within layer) (metals_within layers) t))

  terms : (layers : List ThinFilmLayer) → Each Metal layers → Terms w layers
  terms [] g = tt
  terms (layer ∷ layers) g = (term w W layer g.0, terms layers g.1)

  -- the solver's own product
  same : (layer : ThinFilmLayer) → absorption w layer ≡ factor layer.thickness_nm w ⊗ layer.k
  unfolding absorption factor
  same layer = λ i. two ⊗ pi ⊗ layer.thickness_nm ⊘ w ⊗ layer.k

  gathered : (layers : List ThinFilmLayer) (F : Float) → Each Metal layers → Held layers → Under w layers F → Mag 16 0 F → Each (AbsorbingLayer w) layers
  gathered [] F g h u m = tt
  gathered (layer ∷ layers) F g h u m =
      let t = absorption w layer in
      let d : Mag 16 0 t = record { fine = (term w W layer g.0).size.fine; most = through (num t) (num F) 16 (den t) (den F) 1 (den_pos F) u.0 m.most } in (
        record { index = g.0.index; absorbs = g.0.k_size; held = h.0; thickness = g.0.thickness; damped = subst (λ (x : Float). Mag 16 0 x) (same layer) d },
        gathered layers F g.1 h.1 u.1 m,
      )

  absorbing : (layers : List ThinFilmLayer) → length layers ≤ 4 → T (metals_within layers) → Held layers → T (le (absorptions w zero_f layers) sixteen) → Each (AbsorbingLayer w) layers
  absorbing layers few t h e =
      let g = metals_in layers t in
      let z : Pow 16 zero_f = pow_up (to_pow 0 zero_mag tt) (lit≤ tt) in
      let r = summed w layers zero_f 16 zero_fits zero_least0 z (lit≤ tt) (omega arith) (terms layers g) in
      let F = absorptions w zero_f layers in
      let m : Mag 16 0 F = from_zero F sixteen sixteen_in (least0_le zero_f F zero_mag.fine r.0.0 zero_least0 r.0.1 r.1.0) e in
      gathered layers F g h r.1.1 m

-- ---- a surface with its layers
pub record Absorbs (w : Float) (s : Surface) (layers : List ThinFilmLayer) : Type 0 where
  pub custom : s.coating ≡ 5
  pub straight : (n0 : Float) → In 1 0 4 0 n0 → Mag 0 0 (n0 ⊗ sin s.angle_rad)
  pub few : length layers ≤ 4
  pub each : Each (AbsorbingLayer w) layers

pub absorbs : (w : Float) (s : Surface) (layers : List ThinFilmLayer) → In 100 0 10000 0 w → T (fits binary64 s.angle_rad) → Held layers → T (metal_passes w s layers) → Absorbs w s layers
unfolding metal_passes may_be_metal
absorbs w s layers W f h t =
    let angle = s.angle_rad in
    let A = eqb s.coating 5 in
    let B = eq angle zero_f in
    let C = leb 1 (length layers) in
    let D = leb (length layers) 4 in
    let E = metals_within layers in
    let F = le (absorptions w zero_f layers) sixteen in
    let a = and_l (A && (B && (C && D))) (E && F) t in
    let b = and_r (A && (B && (C && D))) (E && F) t in
    let c = and_r A (B && (C && D)) a in
    let few = leb→le (length layers) 4 (and_r C D (and_r B (C && D) c)) in
    record {
      custom = eqb→eq s.coating 5 (and_l A (B && (C && D)) a);
      straight = λ n0 N. mul_zero_mag (in_mag N) (zero_sine (and_l B (C && D) c));
      few = few;
      each = absorbing w W layers few (and_l E F b) h (and_r E F b);
    }
  where
    zero_sine : T (eq s.angle_rad zero_f) → Mag 0 0 (sin s.angle_rad)
    zero_sine e =
        let z = is_zero s.angle_rad f e in
        subst (λ (x : Float). Mag 0 0 x) (sym (ap sin z.1 ∙ sin_zero z.0)) (record { fine = tt; most = lit≤ tt })
