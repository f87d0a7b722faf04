-- Operations on f64 with clear signs that are exact on their counts of 2 ^ -1074. Assumes nothing.
use mathlib.Core.Path.{◌≡◌, refl, sym, ap, ◌∙◌, subst}
use Prim.Native.Nat.{ℕ, zero, suc, ◌+◌, ◌-◌, ◌*◌, ◌%◌, ◌^◌, ◌≤◌, ◌<◌}
use native.Mathlib.Nat.{lt_of_le_of_lt, not-le_of_lt, lt_irrefl, zero-mul, mul-one, mul_comm, mul_assoc, mul_left_comm, mul_right_comm, mul-pos, mul-sub, mul-le-mul_right, mul-lt-mul_of_pos_right, lt_of_mul-lt-mul_right, le_of_mul-le-mul_right, eq_of_mul-eq-mul_right, add-mul}
use native.Mathlib.Omega.{arith}
use mathlib.Core.Bool.{Bool, true, false, not, cond}
use lib.Arith.{digits_mod}
use lib.Dec.{T, ltb, lit<, eqb-suc-zero, ltb→lt, nltb→le}
use lib.Pow.{pow_pos, pow-add}
use lib.Ieee.{Float, nan, inf, fin, binary64, up, down, round, unlike, sum, lt, rem, fits, of_bits}
use lib.Ieee.Exact.{HasValue, round_exact}
use lib.Ieee.Fits.{round-fits}
use lib.Ieee.Positive.{num, den, den_pos, first_pos}
use lib.Ieee.Scale.{finite, round_same}
use Rattle.ieee.specs.Operators.{◌⊕◌, ◌⊖◌, ◌⊘◌}
use Rattle.ieee.specs.Functions.{is_zero, four}
use Rattle.ieee.specs.Range.{sgn, plus, In}
use Rattle.ieee.specs.Count.{count}
use Rattle.ieee.specs.Fmod.{Remainder}
use Rattle.ieee.proofs.Count.{count_of, count_is}
use Rattle.ieee.proofs.Fmod.{rem_is_fmod}
use Rattle.ieee.proofs.Range.Round.{value_cross, value_finite, round_plus}
use Rattle.ieee.proofs.Range.Laws.{plus_finite, plus_sgn, in_lit, add_is, div_is}
use Rattle.ieee.proofs.Range.Sums.{sub_sum}
use Rattle.ieee.proofs.Range.Values.{whole, round_itself, split_pow}

-- the f64 of a count
abbrev pub of : ℕ → Float
of a = round binary64 false a (2 ^ 1074)

-- an f64 with a clear sign, and its count
pub record Counted (x : Float) (a : ℕ) : Type 0 where
  pub held : T (fits binary64 x)
  pub sign : T (plus x)
  pub is : count x ≡ a

module _ {x : Float} {a : ℕ} (h : Counted x a) where
  fine : T (finite x)
  fine = plus_finite x h.sign

  -- x is a / 2 ^ 1074, multiplied out
  cross : a * den x ≡ num x * 2 ^ 1074
  cross = subst (λ (n : ℕ). n * den x ≡ num x * 2 ^ 1074) h.is (count_is x h.held fine)

  pub of_count : of a ≡ x
  of_count =
      round_same binary64 false a (2 ^ 1074) (num x) (den x) (pow_pos 1074) (den_pos x) cross
      ∙ subst (λ (s : Bool). round binary64 s (num x) (den x) ≡ x) (plus_sgn x h.sign) (round_itself binary64 x fine h.held)

-- ---- order
lt_sizes : (x y : Float) → T (plus x) → T (plus y) → T (lt x y) → num x * den y < num y * den x
unfolding lt
lt_sizes nan y p q t = absurd p
lt_sizes (inf s) y p q t = absurd p
lt_sizes (fin true m e) y p q t = absurd p
lt_sizes (fin false m e) nan p q t = absurd q
lt_sizes (fin false m e) (inf s) p q t = absurd q
lt_sizes (fin false m e) (fin true n d) p q t = absurd q
lt_sizes (fin false m e) (fin false n d) p q t = ltb→lt (m * up e * down d) (n * up d * down e) t

not_lt_sizes : (x y : Float) → T (plus x) → T (plus y) → T (not (lt x y)) → num y * den x ≤ num x * den y
unfolding lt
not_lt_sizes nan y p q t = absurd p
not_lt_sizes (inf s) y p q t = absurd p
not_lt_sizes (fin true m e) y p q t = absurd p
not_lt_sizes (fin false m e) nan p q t = absurd q
not_lt_sizes (fin false m e) (inf s) p q t = absurd q
not_lt_sizes (fin false m e) (fin true n d) p q t = absurd q
not_lt_sizes (fin false m e) (fin false n d) p q t = nltb→le (m * up e * down d) (n * up d * down e) t

-- ---- two fractions X / dx and Y / dy as counts a and b of 1 / L
module _ (X dx Y dy L a b : ℕ) (h : a * dx ≡ X * L) (g : b * dy ≡ Y * L) where
  first : X * dy * L ≡ a * (dx * dy)
  first = mul_right_comm X dy L ∙ ap (λ (n : ℕ). n * dy) (sym h) ∙ mul_assoc a dx dy

  second : Y * dx * L ≡ b * (dx * dy)
  second = mul_right_comm Y dx L ∙ ap (λ (n : ℕ). n * dx) (sym g) ∙ mul_right_comm b dy dx ∙ mul_assoc b dx dy

  order : 0 < L → X * dy < Y * dx → a < b
  order p k = lt_of_mul-lt-mul_right (dx * dy) (subst (λ (n : ℕ). n < b * (dx * dy)) first (subst (λ (n : ℕ). X * dy * L < n) second (mul-lt-mul_of_pos_right k p)))

  not_order : 0 < dx * dy → Y * dx ≤ X * dy → b ≤ a
  not_order p k = le_of_mul-le-mul_right (subst (λ (n : ℕ). n ≤ a * (dx * dy)) second (subst (λ (n : ℕ). Y * dx * L ≤ n) first (mul-le-mul_right L k))) p

  not_order_back : 0 < L → b ≤ a → Y * dx ≤ X * dy
  not_order_back p k = le_of_mul-le-mul_right (subst (λ (n : ℕ). n ≤ X * dy * L) (sym second) (subst (λ (n : ℕ). b * (dx * dy) ≤ n) (sym first) (mul-le-mul_right (dx * dy) k))) p

  less : (X * dy - Y * dx) * L ≡ (a - b) * (dx * dy)
  less = sub_mul (X * dy) (Y * dx) L ∙ ap (λ (n : ℕ). n - Y * dx * L) first ∙ ap (λ (n : ℕ). a * (dx * dy) - n) second ∙ sym (sub_mul a b (dx * dy))
    where
      sub_mul : (n m c : ℕ) → (n - m) * c ≡ n * c - m * c
      sub_mul n m c = mul_comm (n - m) c ∙ mul-sub c n m ∙ ap (λ (z : ℕ). z - c * m) (mul_comm c n) ∙ ap (λ (z : ℕ). n * c - z) (mul_comm c m)

  -- a third, R / dr, with X / dx = t·(Y / dy) + R / dr
  rest : (R dr c t : ℕ) → c * dr ≡ R * L → 0 < dx * (dy * dr) → X * (dy * dr) ≡ (t * Y * dr + R * dy) * dx → a ≡ t * b + c
  rest R dr c t k p e =
      let D = dx * (dy * dr) in
      let u : a * D ≡ X * (dy * dr) * L = sym (mul_assoc a dx (dy * dr)) ∙ ap (λ (n : ℕ). n * (dy * dr)) h ∙ mul_right_comm X L (dy * dr) in
      let v₀ : t * Y * dr * dx * L ≡ Y * L * (t * (dr * dx)) = simp (mul_assoc, mul_comm, mul_left_comm) in
      let v₁ : b * dy * (t * (dr * dx)) ≡ t * b * D = simp (mul_assoc, mul_comm, mul_left_comm) in
      let v = v₀ ∙ ap (λ (n : ℕ). n * (t * (dr * dx))) (sym g) ∙ v₁ in
      let w₀ : R * dy * dx * L ≡ R * L * (dy * dx) = simp (mul_assoc, mul_comm, mul_left_comm) in
      let w₁ : c * dr * (dy * dx) ≡ c * D = simp (mul_assoc, mul_comm, mul_left_comm) in
      let w = w₀ ∙ ap (λ (n : ℕ). n * (dy * dx)) (sym k) ∙ w₁ in
      eq_of_mul-eq-mul_right D p a (t * b + c)
      (u
      ∙ ap (λ (n : ℕ). n * L) (e ∙ add-mul (t * Y * dr) (R * dy) dx)
      ∙ add-mul (t * Y * dr * dx) (R * dy * dx) L
      ∙ ap (λ (n : ℕ). n + R * dy * dx * L) v
      ∙ ap (λ (n : ℕ). t * b * D + n) w
      ∙ sym (add-mul (t * b) c D))

pick : (n m c : ℕ) → m ≤ n → sum binary64 false n true m c ≡ round binary64 false (n - m) c
unfolding sum
pick n m c h = go (ltb n m) (ltb→lt n m)
  where
    go : (t : Bool) → (T t → n < m) → cond t (round binary64 true (m - n) c) (round binary64 false (n - m) c) ≡ round binary64 false (n - m) c
    go true k = absurd (not-le_of_lt (k tt) h)
    go false k = refl

some_size : (y : Float) → T (plus y) → 0 < num y → T (not (is_zero y))
some_size nan p h = absurd p
some_size (inf s) p h = absurd p
some_size (fin s zero e) p h = absurd (lt_irrefl 0 (subst (λ (n : ℕ). 0 < n) (zero-mul (up e)) h))
some_size (fin s (suc m) e) p h = subst (λ (b : Bool). T (not b)) (sym (eqb-suc-zero m)) tt

sign_back : (r : Float) → T (finite r) → sgn r ≡ false → T (plus r)
sign_back nan f e = absurd f
sign_back (inf s) f e = absurd f
sign_back (fin s m k) f e = subst (λ (b : Bool). T (not b)) (sym e) tt

module _ {x y : Float} {a b : ℕ} (h : Counted x a) (g : Counted y b) where
  pub lt_counts : T (lt x y) → a < b
  lt_counts t = order (num x) (den x) (num y) (den y) (2 ^ 1074) a b (cross h) (cross g) (pow_pos 1074) (lt_sizes x y h.sign g.sign t)

  pub not_lt_counts : T (not (lt x y)) → b ≤ a
  not_lt_counts t = not_order (num x) (den x) (num y) (den y) (2 ^ 1074) a b (cross h) (cross g) (mul-pos (den_pos x) (den_pos y)) (not_lt_sizes x y h.sign g.sign t)

  -- x - y is the difference of the counts, rounded once
  pub sub_counts : b ≤ a → x ⊖ y ≡ of (a - b)
  sub_counts k =
      let e = not_order_back (num x) (den x) (num y) (den y) (2 ^ 1074) a b (cross h) (cross g) (pow_pos 1074) k in
      sub_sum x y h.sign g.sign
      ∙ pick (num x * den y) (num y * den x) (den x * den y) e
      ∙ round_same binary64 false (num x * den y - num y * den x) (den x * den y) (a - b) (2 ^ 1074) (mul-pos (den_pos x) (den_pos y)) (pow_pos 1074)
      (less (num x) (den x) (num y) (den y) (2 ^ 1074) a b (cross h) (cross g))

  -- the remainder of two counts is an f64: it is that of the language's %, which is exact
  pub mod_counts : 0 < b → Counted (of (a % b)) (a % b)
  mod_counts B =
      let z = rem binary64 x y in
      let size : 0 < num y = first_pos (num y) (2 ^ 1074) (subst (λ (n : ℕ). 0 < n) (cross g) (mul-pos B (den_pos y))) in
      let r : Remainder x y z = rem_is_fmod.remainder x y h.held g.held (fine h) (fine g) (some_size y g.sign size) in
      let k : count z * den z ≡ num z * 2 ^ 1074 = count_is z r.held r.fine in
      let e : a ≡ r.times * b + count z = rest (num x) (den x) (num y) (den y) (2 ^ 1074) a b (cross h) (cross g) (num z) (den z) (count z) r.times k (mul-pos (den_pos x) (mul-pos (den_pos y) (den_pos z))) r.exact in
      let l : count z < b = order (num z) (den z) (num y) (den y) (2 ^ 1074) (count z) b k (cross g) (pow_pos 1074) r.below in
      let m : a % b ≡ count z = ap (λ (n : ℕ). n % b) e ∙ digits_mod r.times l in
      let w : Counted z (a % b) = record { held = r.held; sign = sign_back z r.fine (r.sign ∙ plus_sgn x h.sign); is = sym m } in
      subst (λ (f : Float). Counted f (a % b)) (sym (of_count w)) w

-- ---- a count of few digits is an f64
pub held_count : (m j a : ℕ) → m < 2 ^ 53 → m * 2 ^ j ≡ a → a < 2 ^ 2098 → Counted (of a) a
held_count m j a few e under =
    let v : HasValue (of a) false a (2 ^ 1074) =
    round_exact binary64 false a (2 ^ 1074) m j (pow_pos 1074) few (subst (λ (n : ℕ). n < 2 ^ 2098) (sym e) under) (ap (λ (n : ℕ). n * 2 ^ 1074) (sym e)) in
    record {
      held = round-fits binary64 false a (2 ^ 1074);
      sign = round_plus binary64 a (2 ^ 1074) (value_finite (of a) false a (2 ^ 1074) v);
      is = count_of (of a) a (value_cross (of a) false a (2 ^ 1074) v);
    }

pub record Digits (a : ℕ) : Type 0 where
  pub m : ℕ
  pub j : ℕ
  pub few : m < 2 ^ 53
  pub is : m * 2 ^ j ≡ a
  pub under : a < 2 ^ 2098

pub digits : {x : Float} {a : ℕ} → Counted x a → Digits a
digits {x} {a} h =
    let w = whole binary64 x (fine h) h.held in
    let e : w.m * 2 ^ w.j ≡ a = sym (count_of x (w.m * 2 ^ w.j) w.is) ∙ h.is in
    record { m = w.m; j = w.j; few = w.few; is = e; under = subst (λ (n : ℕ). n < 2 ^ 2098) e w.under }

-- ---- x + x
sum_plus : (n m c : ℕ) → sum binary64 false n false m c ≡ round binary64 false (n + m) c
unfolding sum
sum_plus n m c = refl

module _ {x : Float} {a : ℕ} (h : Counted x a) where
  twice_is : x ⊕ x ≡ of (2 * a)
  twice_is =
      let N = num x * den x in
      let D = den x * den x in
      add_is x x (fine h) (fine h)
      ∙ ap (λ (s : Bool). sum binary64 s N s N D) (plus_sgn x h.sign)
      ∙ sum_plus N N D
      ∙ round_same binary64 false (N + N) D (2 * a) (2 ^ 1074) (mul-pos (den_pos x) (den_pos x)) (pow_pos 1074) (doubled N (2 ^ 1074) a D (first (num x) (den x) (num x) (den x) (2 ^ 1074) a a (cross h) (cross h)))
    where
      doubled : (n l a d : ℕ) → n * l ≡ a * d → (n + n) * l ≡ 2 * a * d
      doubled n l a d e = omega arith

  pub twice : 2 * a < 2 ^ 2098 → Counted (x ⊕ x) (2 * a)
  twice under =
      let d = digits h in
      subst (λ (z : Float). Counted z (2 * a)) (sym twice_is) (held_count d.m (d.j + 1) (2 * a) d.few (higher d.m d.j a d.is) under)
    where
      higher : (m j c : ℕ) → m * 2 ^ j ≡ c → m * 2 ^ (j + 1) ≡ 2 * c
      higher m j c e = ap (λ (n : ℕ). m * n) (pow-add 2 j 1) ∙ sym (mul_assoc m (2 ^ j) 2) ∙ ap (λ (n : ℕ). n * 2) e ∙ mul_comm c 2

-- ---- x / 4, where x has two digits to spare below
pub four_in : In 4 0 4 0 four
unfolding of_bits
four_in = in_lit four tt

four_is : (num four ≡ 4) × (den four ≡ 1)
unfolding of_bits
four_is = (refl, refl)

in_quarters : (X dx L a b n d : ℕ) → a * dx ≡ X * L → b * 4 ≡ a → n ≡ 4 → d ≡ 1 → X * d * L ≡ b * (n * dx)
in_quarters X dx L a b n d h e f g =
    ap (λ (z : ℕ). X * z * L) g
    ∙ ap (λ (z : ℕ). z * L) (mul-one X)
    ∙ sym h
    ∙ ap (λ (z : ℕ). z * dx) (sym e)
    ∙ mul_assoc b 4 dx
    ∙ ap (λ (z : ℕ). b * (z * dx)) (sym f)

module _ {x : Float} {a : ℕ} (h : Counted x a) (large : 2 ^ 55 ≤ a) where
  spare : 2 ≤ (digits h).j
  spare = let d = digits h in go d.m d.j d.few (subst (λ (n : ℕ). 2 ^ 55 ≤ n) (sym d.is) large)
    where
      go : (m j : ℕ) → m < 2 ^ 53 → 2 ^ 55 ≤ m * 2 ^ j → 2 ≤ j
      go m zero k l = absurd (omega arith)
      go m (suc zero) k l = absurd (omega arith)
      go m (suc (suc j)) k l = omega arith

  pub quarter : (b : ℕ) × ((4 * b ≡ a) × Counted (x ⊘ four) b)
  quarter =
      let d = digits h in
      let b = d.m * 2 ^ (d.j - 2) in
      let e : b * 4 ≡ a = sym (split_pow d.m 2 d.j spare) ∙ d.is in
      (b, (mul_comm 4 b ∙ e, subst (λ (z : Float). Counted z b) (sym (quotient b e)) (held_count d.m (d.j - 2) b d.few refl (less_than b a e d.under))))
    where
      less_than : (b a : ℕ) → b * 4 ≡ a → a < 2 ^ 2098 → b < 2 ^ 2098
      less_than b a e k = lt_of_le_of_lt (least b a e) k
        where
          least : (b a : ℕ) → b * 4 ≡ a → b ≤ a
          least b a e = omega arith

      quotient : (b : ℕ) → b * 4 ≡ a → x ⊘ four ≡ of b
      quotient b e =
          let size : 0 < num four = subst (λ (n : ℕ). 0 < n) (sym four_is.0) (lit< tt) in
          let N = num x * den four in
          let D = num four * den x in
          div_is x four (fine h) (plus_finite four four_in.sign) size
          ∙ ap (λ (s : Bool). round binary64 (unlike s (sgn four)) N D) (plus_sgn x h.sign)
          ∙ ap (λ (s : Bool). round binary64 (unlike false s) N D) (plus_sgn four four_in.sign)
          ∙ round_same binary64 false N D b (2 ^ 1074) (mul-pos size (den_pos x)) (pow_pos 1074) (in_quarters (num x) (den x) (2 ^ 1074) a b (num four) (den four) (cross h) e four_is.0 four_is.1)
