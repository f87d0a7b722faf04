-- Two indices from 1 to 4: their sum and their difference, rounded once. Assumes nothing.
use mathlib.Core.Path.{◌≡◌, sym, ap, ap₂, ◌∙◌, subst}
use Prim.Native.Nat.{ℕ, zero, suc, ◌+◌, ◌-◌, ◌*◌, ◌%◌, ◌^◌, ◌≤◌, ◌<◌}
use native.Mathlib.Nat.{le_trans, le_of_eq, lt_of_lt_of_le, eq-zero-or-pos, mul-one, one-mul, mul_assoc, mul_comm, mul_right_comm, mul-mul-mul_comm, mul-le-mul, mul-le-mul_right, mul-pos, mul-sub, add-mul, eq_of_mul-eq-mul_right, one-le-pow}
use native.Mathlib.Omega.{arith}
use mathlib.Core.Logic.{inl, inr}
use mathlib.Core.Bool.{Bool, ◌&&◌}
use lib.Dec.{T, eqb, ltb, leb, ltb→lt, lit≤}
use lib.IntN.{pos, negsuc}
use lib.Ieee.{Float, nan, inf, fin, binary64, fits, of_bits}
use lib.Ieee.Fits.{and_l, and_r}
use lib.Ieee.Positive.{num, den, den_pos}
use Rattle.ieee.specs.Operators.{◌⊕◌, ◌⊖◌}
use Rattle.ieee.specs.Functions.{one, four}
use Rattle.ieee.specs.Range.{In}
use Rattle.ieee.specs.Count.{count}
use Rattle.ieee.proofs.Count.{count_is}
use Rattle.ieee.proofs.Range.Laws.{in_lit, plus_finite}
use Rattle.ieee.proofs.Range.Constants.{one_in}
use Rattle.ieee.proofs.Range.Sums.{add_in}
use Rattle.ieee.proofs.Range.Tests.{gate_in}
use Rattle.ieee_near.specs.Index.{Index, gap, difference², sum², OffBy}
use Rattle.ieee_near.specs.Near.{E, W, none, some, Above, Close, Near}
use Rattle.ieee_near.proofs.Gap.{gap_part}
use Rattle.ieee_near.proofs.Close.{close_value, narrow}
use Rattle.ieee_near.proofs.Laws.{near_self, near_sum, near_gap}

pub index_in : {n : Float} → Index n → In 1 0 4 0 n
unfolding of_bits
index_in {n} h = let f : In 4 0 4 0 four = in_lit four tt in gate_in one four n one_in f tt h.least h.most

-- ---- an f64 from 1 to 4 has a denominator below 2 ^ 53
den_small : (x : Float) → T (fits binary64 x) → In 1 0 4 0 x → den x ≤ 2 ^ 53
unfolding fits
den_small nan t h = absurd h.sign
den_small (inf s) t h = absurd h.sign
den_small (fin s m (pos k)) t h = lit≤ tt
den_small (fin s zero (negsuc k)) t h = few (2 ^ suc k) h.least
  where
    few : (d : ℕ) → 1 * d ≤ 0 * 1 * 1 → d ≤ 2 ^ 53
    few d g = omega arith
den_small (fin s (suc m) (negsuc k)) t h =
    let A : Bool = eqb (suc m % 2) 1 in
    let B : Bool = ltb (suc m) (2 ^ 53) in
    let C : Bool = leb (2 ^ suc k) (2 ^ 1074) in
    let F : Bool = ltb (suc m * 1) (2 ^ 1024 * 2 ^ suc k) in
    few (2 ^ suc k) (suc m) h.least (ltb→lt (suc m) (2 ^ 53) (and_r A B (and_l (A && B) C (and_l (A && B && C) F t))))
  where
    few : (d n : ℕ) → 1 * d ≤ n * 1 * 1 → n < 2 ^ 53 → d ≤ 2 ^ 53
    few d n g h = omega arith

-- ---- whole numbers
pub one_to_four : (x : Float) → In 1 0 4 0 x → (den x ≤ num x) × (num x ≤ 4 * den x)
one_to_four x h = (le_trans (le_of_eq (sym (one-mul (den x)))) (le_trans h.least (le_of_eq (mul-one (num x)))), le_trans (le_of_eq (sym (mul-one (num x)))) h.most)

-- for N / d and M / e from 1 to 4: their sum is from 1 to 8, and so is the gap at most
sum_low : (N d M e : ℕ) → d ≤ N → d * e ≤ (N * e + M * d) * 1
sum_low N d M e h = let g = mul-le-mul_right e h in omega arith

sum_high : (N d M e : ℕ) → N ≤ 4 * d → M ≤ 4 * e → N * e + M * d ≤ 8 * (d * e)
sum_high N d M e h g = let u = mul-le-mul_right e h in let v = mul-le-mul_right d g in omega arith

pub gap_under : (x y : ℕ) → gap x y ≤ x + y
gap_under x y = omega arith

gap_low : (g d e : ℕ) → 0 < g → d ≤ 2 ^ 53 → e ≤ 2 ^ 53 → d * e ≤ g * 2 ^ 106
gap_low g d e h u v = le_trans (mul-le-mul u v) (mul-le-mul_right (2 ^ 106) h)

pub near_index : {x : Float} → Index x → Near 0 0 2 (num x) (den x) x
near_index {x} i =
    let h = index_in i in
    near_self x (plus_finite x h.sign) (some (le_trans (one_to_four x h).0 (le_of_eq (sym (mul-one (num x)))))) (one_to_four x h).1

pub index_pos : {x : Float} → Index x → 0 < num x
index_pos {x} i = lt_of_lt_of_le (den_pos x) (one_to_four x (index_in i)).0

-- ---- a value as a count of 2 ^ -1074
pub counted : {k l p A B : ℕ} {x : Float} → T (fits binary64 x) → Near k l p A B x → Close k A B (count x) (2 ^ 1074)
counted {x = x} h n = close_value (num x) (den x) (count x) (2 ^ 1074) (den_pos x) (sym (count_is x h n.fine)) n.close

-- ---- counts for fractions: n / d and m / e, with the counts g and h of 1 / K
same_sum : (n d m e g h K : ℕ) → g * d ≡ n * K → h * e ≡ m * K → (g + h) * (d * e) ≡ (n * e + m * d) * K
same_sum n d m e g h K p q =
    add-mul g h (d * e) ∙ ap₂ ◌+◌ (sym (mul_assoc g d e) ∙ ap (λ (x : ℕ). x * e) p ∙ mul_right_comm n K e) (ap (λ (x : ℕ). h * x) (mul_comm d e) ∙ sym (mul_assoc h e d) ∙ ap (λ (x : ℕ). x * d) q ∙ mul_right_comm m K d) ∙ sym (add-mul (n * e) (m * d) K)

same_sub : (x y x' y' P K : ℕ) → x * P ≡ x' * K → y * P ≡ y' * K → (x - y) * P ≡ (x' - y') * K
same_sub x y x' y' P K p q = mul_comm (x - y) P ∙ mul-sub P x y ∙ ap₂ ◌-◌ (mul_comm P x ∙ p ∙ mul_comm x' K) (mul_comm P y ∙ q ∙ mul_comm y' K) ∙ sym (mul-sub K x' y') ∙ mul_comm K (x' - y')

same_gap : (x y x' y' P K : ℕ) → x * P ≡ x' * K → y * P ≡ y' * K → gap x y * P ≡ gap x' y' * K
same_gap x y x' y' P K p q = add-mul (x - y) (y - x) P ∙ ap₂ ◌+◌ (same_sub x y x' y' P K p q) (same_sub y x y' x' P K q p) ∙ sym (add-mul (x' - y') (y' - x') K)

-- X / S = x / s and Y / S = y / s, multiplied
pair_same : (X Y S x y s P K : ℕ) → 0 < P → 0 < K → x * P ≡ X * K → y * P ≡ Y * K → s * P ≡ S * K → X * Y * (s * s) ≡ x * y * (S * S)
pair_same X Y S x y s P K P0 K0 p q r = mul-mul-mul_comm X Y s s ∙ ap₂ ◌*◌ (each X x p) (each Y y q) ∙ mul-mul-mul_comm x S y S
  where
    each : (X x : ℕ) → x * P ≡ X * K → X * s ≡ x * S
    each X x p = eq_of_mul-eq-mul_right (K * P) (mul-pos K0 P0) (X * s) (x * S) (mul-mul-mul_comm X s K P ∙ ap₂ ◌*◌ (sym p) r ∙ mul-mul-mul_comm x P S K ∙ ap (λ (z : ℕ). x * S * z) (mul_comm P K))

-- ---- off by so many parts in 2 ^ 53, which k roundings stay below
pub off_by : {k A B : ℕ} (m j : ℕ) (x : Float) → m + j ≡ 2 ^ 53 → (m + j) * E ^ k ≤ (m + j + j) * W ^ k → m * E ^ k ≤ (m + j) * W ^ k → Close k A B (count x) (2 ^ 1074) → OffBy j A B x
off_by {k} {A} {B} m j x e up down c =
    subst (λ (K : ℕ). gap (count x * B) (A * 2 ^ 1074) * K ≤ j * (A * 2 ^ 1074)) e
    (gap_part m j (count x * B) (A * 2 ^ 1074) (narrow (W ^ k) (E ^ k) (m + j + j) (m + j) (count x * B) (A * 2 ^ 1074) W0 up c.most) (narrow (W ^ k) (E ^ k) (m + j) m (A * 2 ^ 1074) (count x * B) W0 down c.least))
  where
    W0 : 0 < W ^ k
    W0 = one-le-pow k W (lit≤ {m = 1} {n = W} tt)

module _ (a b : Float) (ia : Index a) (ib : Index b) where
  ha : In 1 0 4 0 a
  ha = index_in ia

  hb : In 1 0 4 0 b
  hb = index_in ib

  abbrev pub S : ℕ
  S = num a * den b + num b * den a

  abbrev pub G : ℕ
  G = gap (num a * den b) (num b * den a)

  abbrev pub D : ℕ
  D = den a * den b

  pub D_pos : 0 < D
  D_pos = mul-pos (den_pos a) (den_pos b)

  pub S_pos : 0 < S
  S_pos = lt_of_lt_of_le D_pos (le_trans (sum_low (num a) (den a) (num b) (den b) (one_to_four a ha).0) (le_of_eq (mul-one S)))

  S_high : S ≤ 2 ^ 3 * D
  S_high = sum_high (num a) (den a) (num b) (den b) (one_to_four a ha).1 (one_to_four b hb).1

  pub near_total : Near 1 0 3 S D (a ⊕ b)
  near_total = near_sum a b ha.sign hb.sign (some (sum_low (num a) (den a) (num b) (den b) (one_to_four a ha).0)) S_high (lit≤ tt) (lit≤ tt)

  pub near_difference : Near 1 106 3 G D (a ⊖ b)
  near_difference = near_gap a b ha.sign hb.sign low (le_trans (gap_under (num a * den b) (num b * den a)) S_high) (lit≤ tt) (lit≤ tt)
    where
      low : Above 106 G D
      low = elim (eq-zero-or-pos G) [ inl e ↦ none e | inr g ↦ some (gap_low G (den a) (den b) g (den_small a ia.held ha) (den_small b ib.held hb)) ]

  -- the rounded sum
  pub total_in : In 2 0 8 0 (a ⊕ b)
  total_in = add_in ha hb tt

  -- ---- the same fraction of counts
  ca : count a * den a ≡ num a * 2 ^ 1074
  ca = count_is a ia.held (plus_finite a ha.sign)

  cb : count b * den b ≡ num b * 2 ^ 1074
  cb = count_is b ib.held (plus_finite b hb.sign)

  sum_count : (count a + count b) * D ≡ S * 2 ^ 1074
  sum_count = same_sum (num a) (den a) (num b) (den b) (count a) (count b) (2 ^ 1074) ca cb

  a_count : count a * D ≡ num a * den b * 2 ^ 1074
  a_count = sym (mul_assoc (count a) (den a) (den b)) ∙ ap (λ (n : ℕ). n * den b) ca ∙ mul_right_comm (num a) (2 ^ 1074) (den b)

  b_count : count b * D ≡ num b * den a * 2 ^ 1074
  b_count = ap (λ (n : ℕ). count b * n) (mul_comm (den a) (den b)) ∙ sym (mul_assoc (count b) (den b) (den a)) ∙ ap (λ (n : ℕ). n * den a) cb ∙ mul_right_comm (num b) (2 ^ 1074) (den a)

  gap_count : gap (count a) (count b) * D ≡ G * 2 ^ 1074
  gap_count = same_gap (count a) (count b) (num a * den b) (num b * den a) D (2 ^ 1074) a_count b_count

  pub difference_counts : G * G * sum² a b ≡ difference² a b * (S * S)
  difference_counts = pair_same G G S (gap (count a) (count b)) (gap (count a) (count b)) (count a + count b) D (2 ^ 1074) D_pos (lit≤ tt) gap_count gap_count sum_count

  pub product_counts : num a * den b * (num b * den a) * sum² a b ≡ count a * count b * (S * S)
  product_counts = pair_same (num a * den b) (num b * den a) S (count a) (count b) (count a + count b) D (2 ^ 1074) D_pos (lit≤ tt) a_count b_count sum_count
