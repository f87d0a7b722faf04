-- One pair of indices: what is reflected, a little more and a little less of it, beside the exact fraction. Assumes nothing.
use mathlib.Core.Path.{◌≡◌, sym, subst}
use Prim.Native.Nat.{ℕ, ◌+◌, ◌-◌, ◌*◌, ◌^◌, ◌≤◌, ◌<◌}
use native.Mathlib.Nat.{le_trans, le_of_eq, lt_of_lt_of_le, le-add_right, mul_comm, mul_assoc, mul_left_comm, mul_right_comm, mul-le-mul_right, mul-pos, le_of_mul-le-mul_right}
use native.Mathlib.Omega.{arith}
use lib.Dec.{T, lit≤}
use lib.Ieee.{Float, binary64, fits, of_bits}
use lib.Ieee.Fits.{mul-fits}
use lib.Ieee.Positive.{num, den, den_pos}
use Rattle.ieee.specs.Range.{plus}
use Rattle.ieee.specs.Count.{count}
use Rattle.ieee.proofs.Count.{count_is}
use Rattle.ieee.proofs.Range.Laws.{plus_finite}
use Rattle.ieee.proofs.Range.Plus.{mul_plus}
use Rattle.ieee_near.specs.Index.{Index, difference², sum²}
use Rattle.ieee_near.specs.Near.{E, W, some, Close, Near}
use Rattle.ieee_near.proofs.Close.{narrow}
use Rattle.ieee_near.proofs.Laws.{near_self, near_mul}
use Rattle.ieee_near.proofs.Pair.{index_in, one_to_four, counted}
use Rattle.fresnel.specs.declared.Reflectances.{Reflectances}
use Rattle.fresnel_near.proofs.HeadOn as HeadOn
use Rattle.reflectance_range.specs.Range.{head_on, a_little_more, a_little_less, upper, lower}
use Rattle.reflectance_range.proofs.Order.{nine_of_25, slack, slack_down}

-- ---- the constants
near_more : Near 0 0 1 (2 ^ 49 + 1) (2 ^ 49) a_little_more
unfolding of_bits
near_more = near_self {l = 0} {p = 1} a_little_more tt (some (lit≤ tt)) (lit≤ tt)

near_less : Near 0 1 0 (2 ^ 49 - 1) (2 ^ 49) a_little_less
unfolding of_bits
near_less = near_self {l = 1} {p = 0} a_little_less tt (some (lit≤ tt)) (lit≤ tt)

more_plus : T (plus a_little_more)
unfolding of_bits
more_plus = tt

less_plus : T (plus a_little_less)
unfolding of_bits
less_plus = tt

-- ---- the count of an index
pub count_least : {x : Float} → Index x → 2 ^ 1074 ≤ count x
count_least {x} i = go (count x) (num x) (den x) (2 ^ 1074) (den_pos x) (count_is x i.held (plus_finite x (index_in i).sign)) (one_to_four x (index_in i)).0
  where
    go : (g n d K : ℕ) → 0 < d → g * d ≡ n * K → d ≤ n → K ≤ g
    go g n d K D e h = le_of_mul-le-mul_right (le_trans (le_of_eq (mul_comm K d)) (le_trans (mul-le-mul_right K h) (le_of_eq (sym e)))) D

count_most : {x : Float} → Index x → count x ≤ 4 * 2 ^ 1074
count_most {x} i = go (count x) (num x) (den x) (2 ^ 1074) (den_pos x) (count_is x i.held (plus_finite x (index_in i).sign)) (one_to_four x (index_in i)).1
  where
    go : (g n d K : ℕ) → 0 < d → g * d ≡ n * K → n ≤ 4 * d → g ≤ 4 * K
    go g n d K D e h = le_of_mul-le-mul_right (le_trans (le_of_eq e) (le_trans (mul-le-mul_right K h) (le_of_eq (mul_right_comm 4 d K)))) D

-- ---- k / K of a fraction, up to so many roundings
turned : (w f k K A B n d : ℕ) → w * (A * k * d) ≤ f * (n * (B * K)) → w * k * (A * d) ≤ f * K * (n * B)
turned w f k K A B n d h = le_trans (le_of_eq (l w k A d)) (le_trans h (le_of_eq (r f n B K)))
  where
    l : (w k A d : ℕ) → w * k * (A * d) ≡ w * (A * k * d)
    l w k A d = simp (mul_assoc, mul_comm, mul_left_comm)

    r : (f n B K : ℕ) → f * (n * (B * K)) ≡ f * K * (n * B)
    r f n B K = simp (mul_assoc, mul_comm, mul_left_comm)

turned' : (w f k K A B n d : ℕ) → w * (n * (B * K)) ≤ f * (A * k * d) → w * K * (n * B) ≤ f * k * (A * d)
turned' w f k K A B n d h = le_trans (le_of_eq (l w K n B)) (le_trans h (le_of_eq (r f A k d)))
  where
    l : (w K n B : ℕ) → w * K * (n * B) ≡ w * (n * (B * K))
    l w K n B = simp (mul_assoc, mul_comm, mul_left_comm)

    r : (f A k d : ℕ) → f * (A * k * d) ≡ f * k * (A * d)
    r f A k d = simp (mul_assoc, mul_comm, mul_left_comm)

no_less : (x y : ℕ) → 1 * x ≤ 1 * y → x ≤ y
no_less x y h = omega arith

module _ (x y : Float) (ix : Index x) (iy : Index y) where
  abbrev A : ℕ
  A = difference² x y

  abbrev B : ℕ
  B = sum² x y

  reflected : HeadOn.Power x y ix iy (head_on x y)
  unfolding head_on
  reflected = subst (λ (r : Reflectances). HeadOn.Power x y ix iy r.rs) (sym (HeadOn.head_on x y ix iy)) (HeadOn.power_near x y ix iy)

  near_upper : Near 8 218 7 (A * (2 ^ 49 + 1)) (B * 2 ^ 49) (upper x y)
  unfolding upper
  near_upper = near_mul reflected.near near_more (lit≤ tt) (lit≤ tt)

  near_lower : Near 8 219 6 (A * (2 ^ 49 - 1)) (B * 2 ^ 49) (lower x y)
  unfolding lower
  near_lower = near_mul reflected.near near_less (lit≤ tt) (lit≤ tt)

  pub upper_plus : T (plus (upper x y))
  unfolding upper
  upper_plus = mul_plus (head_on x y) a_little_more reflected.sign more_plus near_upper.fine

  pub lower_plus : T (plus (lower x y))
  unfolding lower
  lower_plus = mul_plus (head_on x y) a_little_less reflected.sign less_plus near_lower.fine

  pub upper_fits : T (fits binary64 (upper x y))
  unfolding upper
  upper_fits = mul-fits binary64 (head_on x y) a_little_more

  lower_fits : T (fits binary64 (lower x y))
  unfolding lower
  lower_fits = mul-fits binary64 (head_on x y) a_little_less

  upper_close : Close 8 (A * (2 ^ 49 + 1)) (B * 2 ^ 49) (count (upper x y)) (2 ^ 1074)
  upper_close = counted upper_fits near_upper

  lower_close : Close 8 (A * (2 ^ 49 - 1)) (B * 2 ^ 49) (count (lower x y)) (2 ^ 1074)
  lower_close = counted lower_fits near_lower

  pub small : A * 25 ≤ B * 9
  small = nine_of_25 (count x) (count y) (fourfold (count x) (count y) (2 ^ 1074) (count_most ix) (count_least iy)) (fourfold (count y) (count x) (2 ^ 1074) (count_most iy) (count_least ix))
    where
      fourfold : (g h K : ℕ) → g ≤ 4 * K → K ≤ h → g ≤ 4 * h
      fourfold g h K p q = omega arith

  pub under_pos : 0 < B
  under_pos = let p : 0 < count x + count y = lt_of_lt_of_le (lit≤ {m = 1} {n = 2 ^ 1074} tt) (le_trans (count_least ix) (le-add_right (count x) (count y))) in mul-pos p p

  -- ---- the exact fraction is no more than the upper one, which is within 9 of 2 ^ -53 of it; and likewise of the lower one
  pub upper_over : A * 2 ^ 1074 ≤ count (upper x y) * B
  upper_over =
      no_less (A * 2 ^ 1074) (count (upper x y) * B)
      (narrow (W ^ 8 * (2 ^ 49 + 1)) (E ^ 8 * 2 ^ 49) 1 1 (A * 2 ^ 1074) (count (upper x y) * B) (lit≤ {m = 1} {n = W ^ 8 * (2 ^ 49 + 1)} tt) (lit≤ {m = 1 * (E ^ 8 * 2 ^ 49)} {n = 1 * (W ^ 8 * (2 ^ 49 + 1))} tt)
      (turned (W ^ 8) (E ^ 8) (2 ^ 49 + 1) (2 ^ 49) A B (count (upper x y)) (2 ^ 1074) upper_close.least))

  pub upper_near : count (upper x y) * B ≤ A * 2 ^ 1074 + 9 * 2 ^ 1021 * B
  upper_near =
      slack (2 ^ 53) (2 ^ 1021) (count (upper x y)) A B (lit≤ tt) small
      (narrow (W ^ 8 * 2 ^ 49) (E ^ 8 * (2 ^ 49 + 1)) (2 ^ 53 + 25) (2 ^ 53) (count (upper x y) * B) (A * 2 ^ 1074) (lit≤ {m = 1} {n = W ^ 8 * 2 ^ 49} tt) (lit≤ {m = 2 ^ 53 * (E ^ 8 * (2 ^ 49 + 1))} {n = (2 ^ 53 + 25) * (W ^ 8 * 2 ^ 49)} tt)
      (turned' (W ^ 8) (E ^ 8) (2 ^ 49 + 1) (2 ^ 49) A B (count (upper x y)) (2 ^ 1074) upper_close.most))

  pub lower_under : count (lower x y) * B ≤ A * 2 ^ 1074
  lower_under =
      no_less (count (lower x y) * B) (A * 2 ^ 1074)
      (narrow (W ^ 8 * 2 ^ 49) (E ^ 8 * (2 ^ 49 - 1)) 1 1 (count (lower x y) * B) (A * 2 ^ 1074) (lit≤ {m = 1} {n = W ^ 8 * 2 ^ 49} tt) (lit≤ {m = 1 * (E ^ 8 * (2 ^ 49 - 1))} {n = 1 * (W ^ 8 * 2 ^ 49)} tt)
      (turned' (W ^ 8) (E ^ 8) (2 ^ 49 - 1) (2 ^ 49) A B (count (lower x y)) (2 ^ 1074) lower_close.most))

  pub lower_near : A * 2 ^ 1074 ≤ count (lower x y) * B + 9 * 2 ^ 1021 * B
  lower_near =
      slack_down (2 ^ 53 - 25) (2 ^ 1021) (count (lower x y)) A B small
      (narrow (W ^ 8 * (2 ^ 49 - 1)) (E ^ 8 * 2 ^ 49) (2 ^ 53) (2 ^ 53 - 25) (A * 2 ^ 1074) (count (lower x y) * B) (lit≤ {m = 1} {n = W ^ 8 * (2 ^ 49 - 1)} tt) (lit≤ {m = (2 ^ 53 - 25) * (E ^ 8 * 2 ^ 49)} {n = 2 ^ 53 * (W ^ 8 * (2 ^ 49 - 1))} tt)
      (turned (W ^ 8) (E ^ 8) (2 ^ 49 - 1) (2 ^ 49) A B (count (lower x y)) (2 ^ 1074) lower_close.least))
