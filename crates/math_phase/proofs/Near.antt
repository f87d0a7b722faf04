-- |r - (x - k·2π)| in counts of 2 ^ -1074, for every f64 up to 2 ^ 20 in size. Assumes nothing.
use mathlib.Core.Path.{◌≡◌, refl, sym, ap, ap₂, ◌∙◌}
use mathlib.Core.Logic.{inl, inr}
use mathlib.Core.List.{[], ◌∷◌}
use Prim.Native.Nat.{ℕ, ◌+◌, ◌*◌, ◌^◌, ◌≤◌, ◌<◌}
use native.Mathlib.Nat.{le_trans, le_of_eq, zero-mul, mul_comm, mul_right_comm, mul-le-mul_right, le_of_mul-le-mul_right, mul-pos, mul_assoc}
use native.Mathlib.Omega.{arith}
use mathlib.Core.Bool.{Bool, true, false, not}
use lib.Dec.{T}
use lib.IntN.{ℤ, pos, nat_abs, neg_ℤ, ◌-ℤ◌, ◌*ℤ◌, +ℤ_idl, +ℤ_idr}
use lib.Ieee.{Float, nan, inf, fin, binary64, fits, neg, of_bits}
use lib.Ieee.Fits.{sub-fits, neg-fits}
use lib.Ieee.Scale.{finite}
use lib.Ieee.Positive.{num, den, den_pos}
use Rattle.ieee.specs.Operators.{◌⊘◌}
use Rattle.ieee.specs.Functions.{zero_f}
use Rattle.ieee.specs.Range.{sgn, Mag}
use Rattle.ieee.specs.Count.{count}
use Rattle.ieee.proofs.Count.{count_is}
use Rattle.ieee.proofs.Range.Laws.{neg_mag}
use Rattle.whole_ring.proofs.Solver.{var, ◌:+◌, opp, identity}
use Rattle.whole_ring.proofs.Laws.{neg_mul}
use Rattle.whole_f64.specs.Whole.{signed}
use Rattle.whole_f64.proofs.Laws.{size_neg, signed_add}
use Rattle.whole_nearest.specs.Nearest.{nearest_size}
use Rattle.math_trig.specs.Angles.{tau}
use Rattle.math_trig.specs.Trig.{less_turns, reduce}
use Rattle.math_trig.specs.Opposite.{Opposite}
use Rattle.math_trig.proofs.Less.{signed_times, reduce_mag}
use Rattle.math_trig.proofs.Turned.{reduce_odd, turns_neg, sgn_neg, div_neg}
use Rattle.math_phase.specs.Claim.{turns, value, two_pi, off, most_off}
use Rattle.math_phase.proofs.Whole.{opposite, apart}
use Rattle.math_phase.proofs.Accurate.{pick, above, below, most_parts, accurate}

reduce_fits : (x : Float) → T (fits binary64 (reduce x))
unfolding reduce less_turns
reduce_fits x = sub-fits binary64 _ _

-- ---- from fractions to counts: W-as-Z is 2 ^ 1074
counted : (a d W Z c e : ℕ) → a * (W * Z) ≡ c * e → a * d * W * Z ≡ c * (d * e)
counted a d W Z c e h = mul_assoc (a * d) W Z ∙ mul_right_comm a d (W * Z) ∙ ap (λ (z : ℕ). z * d) h ∙ mul_assoc c e d ∙ ap (λ (z : ℕ). c * z) (mul_comm e d)

module _ (a b n dx dr W Z ca cb cx k E : ℕ) (D : 0 < dx * dr) (ea : a * (W * Z) ≡ ca * dr) (eb : b * (W * Z) ≡ cb * dr) (en : n * (W * Z) ≡ cx * dx) where
  pa : a * dx * W * Z ≡ ca * (dx * dr)
  pa = counted a dx W Z ca dr ea

  pb : b * dx * W * Z ≡ cb * (dx * dr)
  pb = counted b dx W Z cb dr eb

  pn : n * dr * W * Z ≡ cx * (dx * dr)
  pn = counted n dr W Z cx dx en ∙ ap (λ (z : ℕ). cx * z) (mul_comm dr dx)

  most_counts : a * dx * W + k * (dx * dr) ≤ n * dr * W + b * dx * W + E * (dx * dr) → ca + k * Z ≤ cx + cb + E * Z
  most_counts h = le_of_mul-le-mul_right (at (a * dx * W) (n * dr * W) (b * dx * W) (dx * dr) Z ca cb cx k E pa pn pb (mul-le-mul_right Z h)) D
    where
      at : (A N B D Z ca cb cx k E : ℕ) → A * Z ≡ ca * D → N * Z ≡ cx * D → B * Z ≡ cb * D → (A + k * D) * Z ≤ (N + B + E * D) * Z → (ca + k * Z) * D ≤ (cx + cb + E * Z) * D
      at A N B D Z ca cb cx k E p q r h = omega arith

  least_counts : n * dr * W + b * dx * W ≤ a * dx * W + k * (dx * dr) + E * (dx * dr) → cx + cb ≤ ca + k * Z + E * Z
  least_counts h = le_of_mul-le-mul_right (at (a * dx * W) (n * dr * W) (b * dx * W) (dx * dr) Z ca cb cx k E pa pn pb (mul-le-mul_right Z h)) D
    where
      at : (A N B D Z ca cb cx k E : ℕ) → A * Z ≡ ca * D → N * Z ≡ cx * D → B * Z ≡ cb * D → (N + B) * Z ≤ (A + k * D + E * D) * Z → (cx + cb) * D ≤ (ca + k * Z + E * Z) * D
      at A N B D Z ca cb cx k E p q r h = omega arith

-- a float's two parts in counts
abbrev up_count : Float → ℕ
up_count r = pick (sgn r) 0 (count r)

abbrev down_count : Float → ℕ
down_count r = pick (sgn r) (count r) 0

up_is : (s : Bool) (n c d L : ℕ) → c * d ≡ n * L → pick s 0 n * L ≡ pick s 0 c * d
up_is true n c d L e = zero-mul L ∙ sym (zero-mul d)
up_is false n c d L e = sym e

down_is : (s : Bool) (n c d L : ℕ) → c * d ≡ n * L → pick s n 0 * L ≡ pick s c 0 * d
down_is true n c d L e = sym e
down_is false n c d L e = zero-mul L ∙ sym (zero-mul d)

by_parts : (s : Bool) (c : ℕ) → signed s c ≡ pos (pick s 0 c) -ℤ pos (pick s c 0)
by_parts true c = sym (+ℤ_idl (neg_ℤ (pos c)))
by_parts false c = sym (+ℤ_idr (pos c))

-- ---- an x that is not negative
module _ (turn : ℕ) (lo : two_pi ≤ turn) (hi : turn ≤ two_pi + 1) where
  clear : (x : Float) → T (fits binary64 x) → Mag (2 ^ 20) 0 x → sgn x ≡ false → off turn x ≤ most_off
  clear x ft h s =
      let r = reduce x in
      let K = nearest_size (x ⊘ tau) in
      let p = accurate turn lo hi x ft h s in
      let cx = count_is x ft h.fine in
      let cr = count_is r (reduce_fits x) (reduce_mag x h).fine in
      let D = mul-pos (den_pos x) (den_pos r) in
      let m : up_count r + K * turn * 2 ^ 964 ≤ count x + down_count r + most_parts * 2 ^ 964 =
      most_counts (above r) (below r) (num x) (den x) (den r) (2 ^ 110) (2 ^ 964) (up_count r) (down_count r) (count x) (K * turn) most_parts D
      (up_is (sgn r) (num r) (count r) (den r) (2 ^ 1074) cr) (down_is (sgn r) (num r) (count r) (den r) (2 ^ 1074) cr) (sym cx) p.most in
      let l : count x + down_count r ≤ up_count r + K * turn * 2 ^ 964 + most_parts * 2 ^ 964 =
      least_counts (above r) (below r) (num x) (den x) (den r) (2 ^ 110) (2 ^ 964) (up_count r) (down_count r) (count x) (K * turn) most_parts D
      (up_is (sgn r) (num r) (count r) (den r) (2 ^ 1074) cr) (down_is (sgn r) (num r) (count r) (den r) (2 ^ 1074) cr) (sym cx) p.least in
      le_trans (le_of_eq (ap nat_abs (as_counts x s))) (apart false (up_count r + K * turn * 2 ^ 964) (count x + down_count r) most_off m l)
    where
      as_counts : (x : Float) → sgn x ≡ false
          → value (reduce x) -ℤ (value x -ℤ turns x *ℤ pos (turn * 2 ^ 964)) ≡ pos (up_count (reduce x) + nearest_size (x ⊘ tau) * turn * 2 ^ 964) -ℤ pos (count x + down_count (reduce x))
      as_counts x s =
          let r = reduce x in
          let K = nearest_size (x ⊘ tau) in
          ap (λ (b : Bool). value r -ℤ (signed b (count x) -ℤ signed b K *ℤ pos (turn * 2 ^ 964))) s
          ∙ ap₂ (λ (a b : ℤ). a -ℤ (pos (count x) -ℤ b)) (by_parts (sgn r) (count r)) (signed_times false K (turn * 2 ^ 964) ∙ ap pos (sym (mul_assoc K turn (2 ^ 964))))
          ∙ identity (var 0 :+ opp (var 1) :+ opp (var 2 :+ opp (var 3))) (var 0 :+ var 3 :+ opp (var 2 :+ var 1)) tt (pos (up_count r) ∷ pos (down_count r) ∷ pos (count x) ∷ pos (K * turn * 2 ^ 964) ∷ [])
          ∙ ap₂ ◌-ℤ◌ (signed_add false (up_count r) (K * turn * 2 ^ 964)) (signed_add false (count x) (down_count r))

  -- ---- and so for every x
  count_neg : (x : Float) → count (neg x) ≡ count x
  unfolding count neg
  count_neg nan = refl
  count_neg (inf s) = refl
  count_neg (fin s m e) = refl

  value_neg : (x : Float) → T (finite x) → value (neg x) ≡ neg_ℤ (value x)
  value_neg x f = ap₂ signed (sgn_neg x f) (count_neg x) ∙ sym (opposite (sgn x) (count x))

  value_opposite : {x y : Float} → T (finite x) → Opposite x y → value y ≡ neg_ℤ (value x)
  value_opposite {x} {y} f (inl e) = ap value e ∙ value_neg x f
  value_opposite {x} {y} f (inr e) = ap value e.1 ∙ zeros ∙ sym (ap (λ (z : Float). neg_ℤ (value z)) e.0)
    where
      zeros : value zero_f ≡ neg_ℤ (value zero_f)
      zeros = unfold count of_bits in refl

  turns_opposite : (x : Float) → T (finite x) → turns (neg x) ≡ neg_ℤ (turns x)
  turns_opposite x f = ap₂ signed (sgn_neg x f) (ap nearest_size (div_neg x tau) ∙ turns_neg (x ⊘ tau)) ∙ sym (opposite (sgn x) (nearest_size (x ⊘ tau)))

  off_neg : (x : Float) → Mag (2 ^ 20) 0 x → off turn (neg x) ≡ off turn x
  off_neg x h =
      let r = value (reduce x) in
      let c = pos (turn * 2 ^ 964) in
      ap nat_abs
      (ap₂ (λ (a b : ℤ). a -ℤ (b -ℤ turns (neg x) *ℤ c)) (value_opposite (reduce_mag x h).fine (reduce_odd x h)) (value_neg x h.fine)
      ∙ ap (λ (z : ℤ). neg_ℤ r -ℤ (neg_ℤ (value x) -ℤ z)) (ap (λ (z : ℤ). z *ℤ c) (turns_opposite x h.fine) ∙ neg_mul (turns x) c)
      ∙ identity (opp (var 0) :+ opp (opp (var 1) :+ opp (opp (var 2)))) (opp (var 0 :+ opp (var 1 :+ opp (var 2)))) tt (r ∷ value x ∷ (turns x *ℤ c) ∷ []))
      ∙ size_neg (r -ℤ (value x -ℤ turns x *ℤ c))

  pub near : (x : Float) → T (fits binary64 x) → Mag (2 ^ 20) 0 x → off turn x ≤ most_off
  near x ft h = go (sgn x) refl
    where
      go : (s : Bool) → sgn x ≡ s → off turn x ≤ most_off
      go false e = clear x ft h e
      go true e =
          le_trans (le_of_eq (sym (off_neg x h)))
          (clear (neg x) (neg-fits binary64 x ft) (neg_mag h) (sgn_neg x h.fine ∙ ap not e))
