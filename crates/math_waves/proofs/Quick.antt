-- The steps without a division are the series' steps, for the square of a near angle: each product is from 0 to 5/2. Assumes nothing.
use mathlib.Core.Path.{◌≡◌, sym, ap, ◌∙◌, subst}
use Prim.Native.Nat.{ℕ}
use lib.Dec.{T}
use lib.Ieee.{Float, of_int}
use lib.Ieee.Fits.{mul-fits}
use Rattle.ieee.specs.Operators.{◌⊖◌, ◌⊗◌, ◌⊘◌}
use Rattle.ieee.specs.Functions.{one}
use Rattle.ieee.specs.Range.{Mag, In, inb}
use Rattle.ieee.proofs.Range.Constants.{one_in}
use Rattle.ieee.proofs.Range.Laws.{in_lit, in_up, mul_in, sq_in}
use Rattle.ieee.proofs.Range.Sums.{sub_in}
use Rattle.ieee.proofs.Range.Quotients.{div_in}
use Rattle.ieee_quotient.specs.Quick.{whole, Step}
use Rattle.ieee_quotient.proofs.Claim.{quick_claim}
use Rattle.math_trig.specs.Trig.{fold, second_fold, series, sin_div, cos_div, sin_at, cos_at}
use Rattle.math_trig.specs.Internal.{near_line}
use Rattle.math_trig.proofs.Turns.{limit_mag}
use Rattle.math_trig.proofs.TrigBounds.{fold_mag, second_fold_mag}
use Rattle.math_waves.specs.Internal.{near, near_sin, near_cos, near_fold, near_square, step, quick_step, by_6, by_12, by_20, by_72, first_sin, last_sin, first_cos, last_cos, sin_steps, cos_steps, sin_end, cos_end, quick_sin, quick_cos}
use Rattle.math_waves.proofs.Sizes.{limited, folded}

module _ (z : Float) (Z : In 0 0 5 1 z) where
  -- from 0 to 1 it stays
  held : (c p : Float) → In 6 0 1000 0 c → In 0 0 1 0 p → In 0 0 1 0 (step c z p)
  unfolding step
  held c p C P =
      let a : In 0 0 5 1 (p ⊗ z) = mul_in P Z tt in
      let b : In 0 0 1 1 ((p ⊗ z) ⊘ c) = div_in a C tt in
      let d : In 1 1 1 0 (one ⊖ (p ⊗ z) ⊘ c) = sub_in one_in b tt in
      in_up d tt

  swap : (a b : ℕ) (y u : Float) (c : ℕ) → Step a b y u c → (p : Float) → In 0 0 1 0 p → quick_step (whole a) (whole b) y u z p ≡ step (whole c) z p
  unfolding step quick_step
  swap a b y u c h p P = let x : In 0 0 5 1 (p ⊗ z) = mul_in P Z tt in h (p ⊗ z) x.sign (mul-fits _ p z)

  -- a divisor
  by : (c : ℕ) → T (inb 6 0 1000 0 (whole c)) → (p : Float) → In 0 0 1 0 p → In 0 0 1 0 (step (whole c) z p)
  by c t p P = held (whole c) p (in_lit (whole c) t) P

  -- ---- sin
  abbrev s1 : Float
  s1 = step (whole 420) z one

  abbrev s2 : Float
  s2 = step (whole 342) z s1

  abbrev s3 : Float
  s3 = step (whole 272) z s2

  abbrev s4 : Float
  s4 = step (whole 210) z s3

  abbrev s5 : Float
  s5 = step (whole 156) z s4

  abbrev s6 : Float
  s6 = step (whole 110) z s5

  abbrev s7 : Float
  s7 = step (whole 72) z s6

  abbrev s8 : Float
  s8 = step (whole 42) z s7

  abbrev s9 : Float
  s9 = step (whole 20) z s8

  abbrev s10 : Float
  s10 = step (whole 6) z s9

  s1_in : In 0 0 1 0 s1
  unfolding of_int
  s1_in = by 420 tt one (in_up one_in tt)

  s2_in : In 0 0 1 0 s2
  unfolding of_int
  s2_in = by 342 tt s1 s1_in

  s3_in : In 0 0 1 0 s3
  unfolding of_int
  s3_in = by 272 tt s2 s2_in

  s4_in : In 0 0 1 0 s4
  unfolding of_int
  s4_in = by 210 tt s3 s3_in

  s5_in : In 0 0 1 0 s5
  unfolding of_int
  s5_in = by 156 tt s4 s4_in

  s6_in : In 0 0 1 0 s6
  unfolding of_int
  s6_in = by 110 tt s5 s5_in

  s7_in : In 0 0 1 0 s7
  unfolding of_int
  s7_in = by 72 tt s6 s6_in

  s8_in : In 0 0 1 0 s8
  unfolding of_int
  s8_in = by 42 tt s7 s7_in

  s9_in : In 0 0 1 0 s9
  unfolding of_int
  s9_in = by 20 tt s8 s8_in

  sin_is : sin_steps z ≡ series sin_div 10 z one
  unfolding sin_steps first_sin last_sin series step
  sin_is =
      ap (λ (w : Float). by_6 z (by_20 z (step (whole 42) z (by_72 z (step (whole 110) z (step (whole 156) z (step (whole 210) z w))))))) (swap 256 16 _ _ 272 quick_claim.by_272 s2 s2_in)
      ∙ ap (λ (w : Float). by_6 z (by_20 z (step (whole 42) z w))) (swap 64 8 _ _ 72 quick_claim.by_72 s6 s6_in)
      ∙ ap (λ (w : Float). by_6 z w) (swap 16 4 _ _ 20 quick_claim.by_20 s8 s8_in)
      ∙ swap 4 2 _ _ 6 quick_claim.by_6 s9 s9_in

  -- ---- cos
  abbrev c1 : Float
  c1 = step (whole 462) z one

  abbrev c2 : Float
  c2 = step (whole 380) z c1

  abbrev c3 : Float
  c3 = step (whole 306) z c2

  abbrev c4 : Float
  c4 = step (whole 240) z c3

  abbrev c5 : Float
  c5 = step (whole 182) z c4

  abbrev c6 : Float
  c6 = step (whole 132) z c5

  abbrev c7 : Float
  c7 = step (whole 90) z c6

  abbrev c8 : Float
  c8 = step (whole 56) z c7

  abbrev c9 : Float
  c9 = step (whole 30) z c8

  abbrev c10 : Float
  c10 = step (whole 12) z c9

  abbrev c11 : Float
  c11 = step (whole 2) z c10

  c1_in : In 0 0 1 0 c1
  unfolding of_int
  c1_in = by 462 tt one (in_up one_in tt)

  c2_in : In 0 0 1 0 c2
  unfolding of_int
  c2_in = by 380 tt c1 c1_in

  c3_in : In 0 0 1 0 c3
  unfolding of_int
  c3_in = by 306 tt c2 c2_in

  c4_in : In 0 0 1 0 c4
  unfolding of_int
  c4_in = by 240 tt c3 c3_in

  c5_in : In 0 0 1 0 c5
  unfolding of_int
  c5_in = by 182 tt c4 c4_in

  c6_in : In 0 0 1 0 c6
  unfolding of_int
  c6_in = by 132 tt c5 c5_in

  c7_in : In 0 0 1 0 c7
  unfolding of_int
  c7_in = by 90 tt c6 c6_in

  c8_in : In 0 0 1 0 c8
  unfolding of_int
  c8_in = by 56 tt c7 c7_in

  c9_in : In 0 0 1 0 c9
  unfolding of_int
  c9_in = by 30 tt c8 c8_in

  cos_is : cos_steps z ≡ series cos_div 11 z one
  unfolding cos_steps first_cos last_cos series step
  cos_is =
      ap (λ (w : Float). step (whole 2) z (by_12 z (step (whole 30) z (step (whole 56) z (step (whole 90) z w))))) (swap 128 4 _ _ 132 quick_claim.by_132 c5 c5_in)
      ∙ ap (λ (w : Float). step (whole 2) z w) (swap 8 4 _ _ 12 quick_claim.by_12 c9 c9_in)

-- ---- near angles
module _ (x : Float) (t : T (near x (near_line x))) where
  square_in : In 0 0 5 1 (near_square x)
  unfolding near_square near_fold
  square_in = sq_in (subst (λ (r : Float). Mag 7074237752028440 52 (second_fold r)) (sym (folded x t)) (second_fold_mag (fold x) (fold_mag x (limit_mag x (limited x (near_line x) t)).fine))) tt

  pub quick_sin_is : quick_sin x ≡ near_sin x
  unfolding quick_sin near_sin sin_end sin_at near_square near_fold
  quick_sin_is = ap (sin_end (near_fold x)) (sin_is (near_square x) square_in)

  pub quick_cos_is : quick_cos x ≡ near_cos x
  unfolding quick_cos near_cos cos_end cos_at near_square near_fold
  quick_cos_is = ap (cos_end (near_line x)) (cos_is (near_square x) square_in)
