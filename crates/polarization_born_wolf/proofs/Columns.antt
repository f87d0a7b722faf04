-- The four columns of a diagonal matrix. Assumes nothing.
use mathlib.Core.Path.{◌≡◌, refl, sym, ap, ap₂, ◌∙◌, subst}
use Prim.Native.Nat.{ℕ}
use lib.Dec.{T, lit≤}
use lib.Ieee.{Float, nan, neg, fits, of_bits}
use Rattle.ieee.specs.Operators.{◌⊕◌, ◌⊖◌, ◌⊗◌}
use Rattle.ieee.specs.Functions.{zero_f, one, two, half, quarter}
use Rattle.ieee.specs.Range.{Pow}
use Rattle.ieee.proofs.Range.Laws.{sub_is}
use Rattle.ieee.proofs.Range.Constants.{zero_mag}
use Rattle.ieee.proofs.Range.Zero.{zero_mul_mag, sub_self_mag}
use Rattle.ieee.proofs.Range.Powers.{of_pow, pow_up, neg_pow}
use Rattle.math_trig.proofs.Opposites.{neg_neg, mul_neg, square_neg, add_neg, sub_neg, sub_opposite}
use Rattle.thin_film_complex.specs.declared.Complex.{Complex}
use Rattle.thin_film_complex.specs.Complex as C
use Rattle.polarization_stokes.specs.declared.StokesVector.{StokesVector}
use Rattle.polarization_value.specs.Value.{same, SameMueller}
use Rattle.polarization_value.proofs.Laws.{more, nil, each_at}
use Rattle.polarization_mueller.specs.Jones.{diattenuator}
use Rattle.polarization_value.proofs.Commute.{product_comm, sum_comm_f}
use Rattle.polarization_value.proofs.Keeps.{Zero, zero_sum, zero_difference, Keeps, kept, zeros, keeps_sum, keeps_difference, keeps_same, same_zeros}
use Rattle.polarization_born_wolf.specs.Conversion.{complex, transformed, from_six, to_mueller_born_wolf}
use Rattle.polarization_born_wolf.specs.Claim.{Moderate, diagonal}
use Rattle.polarization_born_wolf.proofs.Near.{Near, itself, retarget, keeps_opposite, near_add, near_sub, near_mul, near_neg}
use Rattle.polarization_born_wolf.proofs.Fourfold.{fourfold}
use Rattle.polarization_born_wolf.proofs.Beams.{two_held, two_pow, norm, cosine, sine, NearStokes, after_zero, less_after_zero, of_x, of_y, of_plus, of_minus, of_plus_i, of_minus_i}

-- ---- the constants
half_near : Near 0 half half
unfolding of_bits fits
half_near = record { held = tt; size = record { fine = tt; most = lit≤ tt }; keeps = kept }

quarter_near : Near 0 quarter quarter
unfolding of_bits fits
quarter_near = record { held = tt; size = record { fine = tt; most = lit≤ tt }; keeps = kept }

-- ---- products with an opposite
neg_right : (x y : Float) → x ⊗ neg y ≡ neg (x ⊗ y)
neg_right x y = product_comm x (neg y) ∙ mul_neg y x ∙ ap neg (product_comm y x)

keeps_zero : {x r : Float} → Zero x → Keeps x r → Zero r
keeps_zero p kept = p
keeps_zero p (zeros q q') = q'

-- ---- the entries of a row
half_sum : {x y p q : Float} → Near 1002 x p → Near 1002 y q → Keeps (half ⊗ (x ⊕ y)) (half ⊗ (p ⊕ q))
half_sum h g = (near_mul half_near (near_add h g (lit≤ tt)) (lit≤ tt)).keeps

half_difference : {x y p q : Float} → Near 1002 x p → Near 1002 y q → Keeps (half ⊗ (x ⊖ y)) (half ⊗ (p ⊖ q))
half_difference h g = (near_mul half_near (near_sub h g (lit≤ tt)) (lit≤ tt)).keeps

half_nothing : {p q : Float} → Zero p → Zero q → Zero (half ⊗ (p ⊕ q)) × Zero (half ⊗ (p ⊖ q))
half_nothing {p} {q} h g = (halved (zero_sum h g), halved (zero_difference h g))
  where
    halved : {x : Float} → Zero x → Zero (half ⊗ x)
    halved {x} h = subst Zero (product_comm x half) (zero_mul_mag h (of_pow half_near.size))

nothing_left : {x p q : Float} → Near 1002 x p → Near 1002 x q → Zero (quarter ⊗ (p ⊖ q))
nothing_left {x} h g =
    let d = near_sub h g (lit≤ tt) in
    near_zero (near_mul quarter_near d (lit≤ tt)) (subst Zero (product_comm (x ⊖ x) quarter) (zero_mul_mag (sub_self_mag x h.size.fine) (of_pow quarter_near.size)))
  where
    near_zero : {k : ℕ} {y r : Float} → Near k y r → Zero y → Zero r
    near_zero h p = keeps_zero p h.keeps

fourth_of : (y : Float) {p q : Float} → Near 1001 y y → Near 1002 (two ⊗ y) p → Near 1002 (neg (two ⊗ y)) q → Keeps y (quarter ⊗ (p ⊖ q))
fourth_of y {p} {q} s h g =
    let d = subst (λ (x : Float). Near 1003 x (p ⊖ q)) (sub_opposite (two ⊗ y) (two ⊗ y)) (near_sub h g (lit≤ tt)) in
    subst (λ (x : Float). Keeps x (quarter ⊗ (p ⊖ q))) (fourfold y (record { fine = s.size.fine; held = s.held }) (pow_up s.size (lit≤ tt))) (near_mul quarter_near d (lit≤ tt)).keeps

-- twice what is the opposite of y, up to the sign of a zero
doubled : (y : Float) {e r : Float} → Near 1001 y y → Keeps (neg y) e → Near 1002 (two ⊗ e) r → Near 1002 (neg (two ⊗ y)) r
doubled y {e} {r} s k h =
    let n : Near 1001 (neg y) e = record { held = (near_neg s).held; size = (near_neg s).size; keeps = k } in
    let t = subst (λ (x : Float). Near 1002 x (two ⊗ e)) (neg_right two y) (near_mul (itself two_held two_pow) n (lit≤ tt)) in
    retarget h t.held t.size t.keeps

-- ---- the matrix
module _ (tx ty : Complex) (h : Moderate tx) (g : Moderate ty) where
  na : Near 500 tx.re tx.re
  na = itself h.finite.re.held h.re

  nb : Near 500 tx.im tx.im
  nb = itself h.finite.im.held h.im

  nc : Near 500 ty.re ty.re
  nc = itself g.finite.re.held g.re

  nd : Near 500 ty.im ty.im
  nd = itself g.finite.im.held g.im

  X : Near 1001 (norm tx) (norm tx)
  X = near_add (near_mul na na (lit≤ tt)) (near_mul nb nb (lit≤ tt)) (lit≤ tt)

  Y : Near 1001 (norm ty) (norm ty)
  Y = near_add (near_mul nc nc (lit≤ tt)) (near_mul nd nd (lit≤ tt)) (lit≤ tt)

  Cos : Near 1001 (cosine tx ty) (cosine tx ty)
  Cos = near_add (near_mul na nc (lit≤ tt)) (near_mul nb nd (lit≤ tt)) (lit≤ tt)

  Sin : Near 1001 (sine tx ty) (sine tx ty)
  Sin = near_sub (near_mul na nd (lit≤ tt)) (near_mul nb nc (lit≤ tt)) (lit≤ tt)

  wide : {x : Float} → Near 1001 x x → Pow 1002 x
  wide n = pow_up n.size (lit≤ tt)

  -- (1, 0) and (0, 1)
  no_norm : Zero (norm C.zero)
  no_norm = zero_sum (zero_mul_mag zero_mag zero_mag) (zero_mul_mag zero_mag zero_mag)

  x0 : Near 1002 (norm tx) (transformed (diattenuator tx ty) (complex one zero_f) (complex zero_f zero_f)).s0
  x0 = retarget (of_x tx ty h g).s0 X.held (wide X) (keeps_sum (norm tx) (norm C.zero) X.held no_norm)

  x1 : Near 1002 (norm tx) (transformed (diattenuator tx ty) (complex one zero_f) (complex zero_f zero_f)).s1
  x1 = retarget (of_x tx ty h g).s1 X.held (wide X) (keeps_difference X.held no_norm)

  y0 : Near 1002 (norm ty) (transformed (diattenuator tx ty) (complex zero_f zero_f) (complex one zero_f)).s0
  y0 = retarget (of_y tx ty h g).s0 Y.held (wide Y) (after_zero Y.held no_norm)

  y1 : Near 1002 (neg (norm ty)) (transformed (diattenuator tx ty) (complex zero_f zero_f) (complex one zero_f)).s1
  y1 = retarget (of_y tx ty h g).s1 (near_neg Y).held (neg_pow (wide Y)) (less_after_zero (norm ty) Y.held no_norm)

  -- ---- zeros
  right_zero : {x : Float} → Near 500 x x → Zero (x ⊗ zero_f)
  right_zero {x} n = subst Zero (product_comm zero_f x) (zero_mul_mag zero_mag (of_pow n.size))

  left_zero : {x : Float} → Near 500 x x → Zero (zero_f ⊗ x)
  left_zero n = zero_mul_mag zero_mag (of_pow n.size)

  twice_zero : {x : Float} → Zero x → Zero (two ⊗ x)
  twice_zero {x} p = subst Zero (product_comm x two) (zero_mul_mag p (of_pow two_pow))

  x2 : Zero (transformed (diattenuator tx ty) (complex one zero_f) (complex zero_f zero_f)).s2
  x2 = keeps_zero (twice_zero (zero_sum (right_zero na) (right_zero nb))) (of_x tx ty h g).s2.keeps

  x3 : Zero (transformed (diattenuator tx ty) (complex one zero_f) (complex zero_f zero_f)).s3
  x3 = keeps_zero (twice_zero (zero_difference (right_zero na) (right_zero nb))) (of_x tx ty h g).s3.keeps

  y2 : Zero (transformed (diattenuator tx ty) (complex zero_f zero_f) (complex one zero_f)).s2
  y2 = keeps_zero (twice_zero (zero_sum (left_zero nc) (left_zero nd))) (of_y tx ty h g).s2.keeps

  y3 : Zero (transformed (diattenuator tx ty) (complex zero_f zero_f) (complex one zero_f)).s3
  y3 = keeps_zero (twice_zero (zero_difference (left_zero nd) (left_zero nc))) (of_y tx ty h g).s3.keeps

  -- ---- the other four: the squares
  minus_norm : norm (complex (neg ty.re) (neg ty.im)) ≡ norm ty
  minus_norm = ap₂ ◌⊕◌ (square_neg ty.re) (square_neg ty.im)

  plus_i_norm : norm (complex (neg ty.im) ty.re) ≡ norm ty
  plus_i_norm = ap (λ (z : Float). z ⊕ ty.re ⊗ ty.re) (square_neg ty.im) ∙ sum_comm_f (ty.im ⊗ ty.im) (ty.re ⊗ ty.re)

  minus_i_norm : norm (complex ty.im (neg ty.re)) ≡ norm ty
  minus_i_norm = ap (λ (z : Float). ty.im ⊗ ty.im ⊕ z) (square_neg ty.re) ∙ sum_comm_f (ty.im ⊗ ty.im) (ty.re ⊗ ty.re)

  module _ {v : Complex} {s : StokesVector} (n : NearStokes tx v s) (e : norm v ≡ norm ty) where
    sum_of : Near 1002 (norm tx ⊕ norm ty) s.s0
    sum_of = subst (λ (z : Float). Near 1002 (norm tx ⊕ z) s.s0) e n.s0

    gap_of : Near 1002 (norm tx ⊖ norm ty) s.s1
    gap_of = subst (λ (z : Float). Near 1002 (norm tx ⊖ z) s.s1) e n.s1

  -- ---- the products
  abbrev ac : Float
  ac = tx.re ⊗ ty.re

  abbrev bd : Float
  bd = tx.im ⊗ ty.im

  abbrev ad : Float
  ad = tx.re ⊗ ty.im

  abbrev bc : Float
  bc = tx.im ⊗ ty.re

  minus_cosine : Keeps (neg (cosine tx ty)) (cosine tx (complex (neg ty.re) (neg ty.im)))
  minus_cosine = subst (λ (z : Float). Keeps (neg (cosine tx ty)) z) (sym (ap₂ ◌⊕◌ (neg_right tx.re ty.re) (neg_right tx.im ty.im))) (keeps_opposite (add_neg ac bd))

  minus_sine : Keeps (neg (sine tx ty)) (sine tx (complex (neg ty.re) (neg ty.im)))
  minus_sine = subst (λ (z : Float). Keeps (neg (sine tx ty)) z) (sym (ap₂ ◌⊖◌ (neg_right tx.re ty.im) (neg_right tx.im ty.re))) (keeps_opposite (sub_neg ad bc))

  plus_i_cosine : Keeps (neg (sine tx ty)) (cosine tx (complex (neg ty.im) ty.re))
  plus_i_cosine =
      subst (λ (z : Float). Keeps (neg (sine tx ty)) z) (ap₂ ◌⊕◌ (sym (neg_right tx.re ty.im)) (neg_neg bc))
      (subst (λ (z : Float). Keeps (neg z) (neg ad ⊕ neg (neg bc))) (sym (sub_is ad bc)) (keeps_opposite (add_neg ad (neg bc))))

  plus_i_sine : sine tx (complex (neg ty.im) ty.re) ≡ cosine tx ty
  plus_i_sine = ap (λ (z : Float). ac ⊖ z) (neg_right tx.im ty.im) ∙ sub_opposite ac bd

  minus_i_cosine : cosine tx (complex ty.im (neg ty.re)) ≡ sine tx ty
  minus_i_cosine = ap (λ (z : Float). ad ⊕ z) (neg_right tx.im ty.re) ∙ sym (sub_is ad bc)

  minus_i_sine : Keeps (neg (cosine tx ty)) (sine tx (complex ty.im (neg ty.re)))
  minus_i_sine =
      subst (λ (z : Float). Keeps (neg (cosine tx ty)) z) (sym (ap (λ (z : Float). z ⊖ bd) (neg_right tx.re ty.re) ∙ sub_is (neg ac) bd)) (keeps_opposite (add_neg ac bd))

  -- ---- columns three and four, in their last two rows
  p : NearStokes tx ty (transformed (diattenuator tx ty) (complex one zero_f) (complex one zero_f))
  p = of_plus tx ty h g

  m : NearStokes tx (complex (neg ty.re) (neg ty.im)) (transformed (diattenuator tx ty) (complex one zero_f) (complex (neg one) zero_f))
  m = of_minus tx ty h g

  pi : NearStokes tx (complex (neg ty.im) ty.re) (transformed (diattenuator tx ty) (complex one zero_f) (complex zero_f one))
  pi = of_plus_i tx ty h g

  mi : NearStokes tx (complex ty.im (neg ty.re)) (transformed (diattenuator tx ty) (complex one zero_f) (complex zero_f (neg one)))
  mi = of_minus_i tx ty h g

  entry_10 : Keeps (cosine tx ty) (quarter ⊗ ((transformed (diattenuator tx ty) (complex one zero_f) (complex one zero_f)).s2 ⊖ (transformed (diattenuator tx ty) (complex one zero_f) (complex (neg one) zero_f)).s2))
  entry_10 = fourth_of (cosine tx ty) Cos p.s2 (doubled (cosine tx ty) Cos minus_cosine m.s2)

  entry_14 : Keeps (sine tx ty) (quarter ⊗ ((transformed (diattenuator tx ty) (complex one zero_f) (complex one zero_f)).s3 ⊖ (transformed (diattenuator tx ty) (complex one zero_f) (complex (neg one) zero_f)).s3))
  entry_14 = fourth_of (sine tx ty) Sin p.s3 (doubled (sine tx ty) Sin minus_sine m.s3)

  entry_15 : Keeps (cosine tx ty) (quarter ⊗ ((transformed (diattenuator tx ty) (complex one zero_f) (complex zero_f one)).s3 ⊖ (transformed (diattenuator tx ty) (complex one zero_f) (complex zero_f (neg one))).s3))
  entry_15 = fourth_of (cosine tx ty) Cos (subst (λ (z : Float). Near 1002 (two ⊗ z) (transformed (diattenuator tx ty) (complex one zero_f) (complex zero_f one)).s3) plus_i_sine pi.s3) (doubled (cosine tx ty) Cos minus_i_sine mi.s3)

  entry_11 : Keeps (neg (sine tx ty)) (quarter ⊗ ((transformed (diattenuator tx ty) (complex one zero_f) (complex zero_f one)).s2 ⊖ (transformed (diattenuator tx ty) (complex one zero_f) (complex zero_f (neg one))).s2))
  entry_11 =
      fourth_of (neg (sine tx ty)) (near_neg Sin)
      (subst (λ (z : Float). Near 1002 z (transformed (diattenuator tx ty) (complex one zero_f) (complex zero_f one)).s2) (sym (neg_right two (sine tx ty))) (doubled (sine tx ty) Sin plus_i_cosine pi.s2))
      (subst (λ (z : Float). Near 1002 z (transformed (diattenuator tx ty) (complex one zero_f) (complex zero_f (neg one))).s2) (sym (ap neg (neg_right two (sine tx ty)) ∙ neg_neg (two ⊗ sine tx ty)))
      (subst (λ (z : Float). Near 1002 (two ⊗ z) (transformed (diattenuator tx ty) (complex one zero_f) (complex zero_f (neg one))).s2) minus_i_cosine mi.s2))

  entry_4 : Keeps (half ⊗ (norm tx ⊖ norm ty)) (half ⊗ ((transformed (diattenuator tx ty) (complex one zero_f) (complex zero_f zero_f)).s1 ⊕ (transformed (diattenuator tx ty) (complex zero_f zero_f) (complex one zero_f)).s1))
  entry_4 = subst (λ (z : Float). Keeps (half ⊗ z) (half ⊗ ((transformed (diattenuator tx ty) (complex one zero_f) (complex zero_f zero_f)).s1 ⊕ (transformed (diattenuator tx ty) (complex zero_f zero_f) (complex one zero_f)).s1))) (sym (sub_is (norm tx) (norm ty))) (half_sum x1 y1)

  entry_5 : Keeps (half ⊗ (norm tx ⊕ norm ty)) (half ⊗ ((transformed (diattenuator tx ty) (complex one zero_f) (complex zero_f zero_f)).s1 ⊖ (transformed (diattenuator tx ty) (complex zero_f zero_f) (complex one zero_f)).s1))
  entry_5 = subst (λ (z : Float). Keeps (half ⊗ z) (half ⊗ ((transformed (diattenuator tx ty) (complex one zero_f) (complex zero_f zero_f)).s1 ⊖ (transformed (diattenuator tx ty) (complex zero_f zero_f) (complex one zero_f)).s1))) (sub_opposite (norm tx) (norm ty)) (half_difference x1 y1)

  nought : {r : Float} → Zero r → T (same r zero_f)
  nought z = same_zeros z zero_mag

  pub columns : SameMueller (to_mueller_born_wolf (diattenuator tx ty)) (diagonal tx ty)
  unfolding to_mueller_born_wolf from_six diagonal C.norm_sq
  columns i l =
      each_at nan
      (more (keeps_same (half_sum x0 y0))
      (more (keeps_same (half_difference x0 y0))
      (more (nought (nothing_left (sum_of p refl) (sum_of m minus_norm)))
      (more (nought (nothing_left (sum_of pi plus_i_norm) (sum_of mi minus_i_norm)))
      (more (keeps_same entry_4)
      (more (keeps_same entry_5)
      (more (nought (nothing_left (gap_of p refl) (gap_of m minus_norm)))
      (more (nought (nothing_left (gap_of pi plus_i_norm) (gap_of mi minus_i_norm)))
      (more (nought (half_nothing x2 y2).0)
      (more (nought (half_nothing x2 y2).1)
      (more (keeps_same entry_10)
      (more (keeps_same entry_11)
      (more (nought (half_nothing x3 y3).0)
      (more (nought (half_nothing x3 y3).1)
      (more (keeps_same entry_14)
      (more (keeps_same entry_15)
      nil)))))))))))))))) i l
