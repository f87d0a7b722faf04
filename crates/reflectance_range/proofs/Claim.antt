-- Slip 9: the exact fractions over two ranges, and the two floats beside them. Assumes nothing.
use mathlib.Core.Path.{◌≡◌, refl, sym, ap, ◌∙◌, subst}
use mathlib.Core.Logic.{◌⊎◌, inl, inr}
use Prim.Native.Nat.{ℕ, ◌+◌, ◌*◌, ◌^◌, ◌≤◌, ◌<◌, zero-le}
use native.Mathlib.Nat.{le_refl, le_trans, le_of_eq, le_of_lt, zero-mul, mul-le-mul_right, add-le-add, le_of_mul-le-mul_right}
use native.Mathlib.Omega.{arith}
use mathlib.Core.Bool.{Bool, true, false, not, ◌&&◌, cond}
use lib.Dec.{T, leb, ltb, leb→le, nleb→lt, ltb→lt, nltb→le, lit≤}
use lib.Ieee.{Float, binary64, fits, lt, le, of_bits}
use lib.Ieee.Bits.{is_true}
use lib.Ieee.Fits.{and_l, and_r, and_i}
use Rattle.ieee.specs.Functions.{zero_f, one, four, max}
use Rattle.ieee.specs.Range.{plus}
use Rattle.ieee.specs.Count.{count}
use Rattle.ieee.proofs.Count.{count_of}
use Rattle.ieee.proofs.Range.Tests.{choose}
use Rattle.ieee_near.specs.Index.{Between, Index, gap, difference², sum²}
use Rattle.refusal.specs.Outcome.{Outcome, answer, refusal}
use Rattle.reflectance_range.specs.declared.ReflectanceRange.{ReflectanceRange}
use Rattle.reflectance_range.specs.Range.{index_valid, range_valid, upper, lower, high, low, reflectance_range}
use Rattle.reflectance_range.specs.Claim.{Range, Fraction, exact, AtMost, larger, largest, smallest, Reached, Extremes, Lies, Tight, asked, reached, Given, Answered, RangeClaim}
use Rattle.reflectance_range.proofs.Order.{wider_apart, wider_apart', squared, carry, carry_down, carry_over, both_ends, below_one}
use Rattle.reflectance_range.proofs.Corner.{upper_plus, lower_plus, upper_fits, small, under_pos, upper_over, upper_near, lower_under, lower_near}
use Rattle.reflectance_range.proofs.Ends.{index_lt, lt_count, count_le, le_count, inside, self}

-- ---- the larger of two fractions
larger_left : (p q : Fraction) → AtMost p (larger p q)
larger_left p q = choose (λ (r : Fraction). AtMost p r) (leb (p.above * q.under) (q.above * p.under)) q p (leb→le (p.above * q.under) (q.above * p.under)) (λ t. le_refl (p.above * p.under))

larger_right : (p q : Fraction) → AtMost q (larger p q)
larger_right p q = choose (λ (r : Fraction). AtMost q r) (leb (p.above * q.under) (q.above * p.under)) q p (λ t. le_refl (q.above * q.under)) (λ t. le_of_lt (nleb→lt (p.above * q.under) (q.above * p.under) t))

larger_is : (P : Fraction → Type 0) (p q : Fraction) → P p → P q → P (larger p q)
larger_is P p q h g = choose P (leb (p.above * q.under) (q.above * p.under)) q p (λ t. g) (λ t. h)

-- ---- what is known of a high and of a low float beside a fraction
record HighOf (h : Float) (p : Fraction) : Type 0 where
  over : p.above * 2 ^ 1074 ≤ count h * p.under
  near : count h * p.under ≤ p.above * 2 ^ 1074 + 9 * 2 ^ 1021 * p.under

record LowOf (l : Float) (p : Fraction) : Type 0 where
  sign : T (plus l)
  positive : 0 < p.under
  under : count l * p.under ≤ p.above * 2 ^ 1074
  near : p.above * 2 ^ 1074 ≤ count l * p.under + 9 * 2 ^ 1021 * p.under

module _ (a b c d : Float) (r : Range a b) (s : Range c d) where
  ia : Index a
  ia = r.low_end

  ib : Index b
  ib = r.high_end

  ic : Index c
  ic = s.low_end

  id : Index d
  id = s.high_end

  -- ---- the extremes
  module _ (x y : Float) (bx : Between a b x) (by : Between c d y) where
    ix : Index x
    ix = inside r bx

    iy : Index y
    iy = inside s by

    xb : count x ≤ count b
    xb = count_le ix ib bx.most

    ax : count a ≤ count x
    ax = count_le ia ix bx.least

    cy : count c ≤ count y
    cy = count_le ic iy by.least

    yd : count y ≤ count d
    yd = count_le iy id by.most

    most : AtMost (exact x y) (largest a b c d)
    most = go (leb (count x) (count y)) (leb→le (count x) (count y)) (nleb→lt (count x) (count y))
      where
        go : (t : Bool) → (T t → count x ≤ count y) → (T (not t) → count y < count x) → AtMost (exact x y) (largest a b c d)
        go true f g =
            carry (difference² x y) (sum² x y) (difference² a d) (sum² a d) (largest a b c d).above (largest a b c d).under (under_pos a d ia id)
            (squared (gap (count x) (count y)) (count x + count y) (gap (count a) (count d)) (count a + count d) (wider_apart' (count x) (count y) (count a) (count d) (f tt) ax yd)) (larger_right (exact b c) (exact a d))
        go false f g =
            carry (difference² x y) (sum² x y) (difference² b c) (sum² b c) (largest a b c d).above (largest a b c d).under (under_pos b c ib ic)
            (squared (gap (count x) (count y)) (count x + count y) (gap (count b) (count c)) (count b + count c) (wider_apart (count x) (count y) (count b) (count c) (le_of_lt (g tt)) xb cy)) (larger_left (exact b c) (exact a d))

    least : AtMost (smallest a b c d) (exact x y)
    least =
        choose (λ (p : Fraction). AtMost p (exact x y)) (ltb (count b) (count c)) (exact b c) (cond (ltb (count d) (count a)) (exact a d) (record { above = 0; under = 1 }))
        (λ t. squared (gap (count b) (count c)) (count b + count c) (gap (count x) (count y)) (count x + count y) (wider_apart' (count b) (count c) (count x) (count y) (le_of_lt (ltb→lt (count b) (count c) t)) xb cy))
        (λ u. choose (λ (p : Fraction). AtMost p (exact x y)) (ltb (count d) (count a)) (exact a d) (record { above = 0; under = 1 })
        (λ t. squared (gap (count a) (count d)) (count a + count d) (gap (count x) (count y)) (count x + count y) (wider_apart (count a) (count d) (count x) (count y) (le_of_lt (ltb→lt (count d) (count a) t)) ax yd))
        (λ t. le_trans (le_of_eq (zero-mul (sum² x y))) zero-le))

  a_in : Between a b a
  a_in = record { held = ia.held; least = self ia; most = r.order }

  b_in : Between a b b
  b_in = record { held = ib.held; least = r.order; most = self ib }

  c_in : Between c d c
  c_in = record { held = ic.held; least = self ic; most = s.order }

  d_in : Between c d d
  d_in = record { held = id.held; least = s.order; most = self id }

  at_corner : (x y : Float) → Between a b x → Between c d y → Reached a b c d (exact x y)
  at_corner x y bx by = record { n1 = x; n2 = y; first = bx; second = by; same = refl }

  meets : (x : Float) → Between a b x → Between c d x → Reached a b c d (record { above = 0; under = 1 })
  meets x bx by = record { n1 = x; n2 = x; first = bx; second = by; same = nothing (count x) (sum² x x) }
    where
      nothing : (x y : ℕ) → gap x x * gap x x * 1 ≡ 0 * y
      nothing x y = ap (λ (z : ℕ). z * z * 1) (flat x) ∙ sym (zero-mul y)
        where
          flat : (x : ℕ) → gap x x ≡ 0
          flat x = omega arith

  at_least : Reached a b c d (smallest a b c d)
  at_least =
      choose (λ (p : Fraction). Reached a b c d p) (ltb (count b) (count c)) (exact b c) (cond (ltb (count d) (count a)) (exact a d) (record { above = 0; under = 1 })) (λ t. at_corner b c b_in c_in)
      (λ u. choose (λ (p : Fraction). Reached a b c d p) (ltb (count d) (count a)) (exact a d) (record { above = 0; under = 1 }) (λ t. at_corner a d a_in d_in)
      (λ t. overlap (nltb→le (count b) (count c) u) (nltb→le (count d) (count a) t)))
    where
      overlap : count c ≤ count b → count a ≤ count d → Reached a b c d (record { above = 0; under = 1 })
      overlap h g = go (leb (count a) (count c)) (leb→le (count a) (count c)) (nleb→lt (count a) (count c))
        where
          go : (t : Bool) → (T t → count a ≤ count c) → (T (not t) → count c < count a) → Reached a b c d (record { above = 0; under = 1 })
          go true f k = meets c (record { held = ic.held; least = le_count ia ic (f tt); most = le_count ic ib h }) c_in
          go false f k = meets a a_in (record { held = ia.held; least = le_count ic ia (le_of_lt (k tt)); most = le_count ia id g })

  extremes : Extremes a b c d
  extremes = record { most = most; least = least; at_most = larger_is (Reached a b c d) (exact b c) (exact a d) (at_corner b c b_in c_in) (at_corner a d a_in d_in); at_least = at_least }

  -- ---- the high float is one of two, and no less than either
  abbrev High : Float → Type 0
  High h = T (plus h) × ((count (upper b c) ≤ count h) × ((count (upper a d) ≤ count h) × ((h ≡ upper b c) ⊎ (h ≡ upper a d))))

  high_is : High (high a b c d)
  unfolding high max
  high_is =
      let u = upper b c in
      let v = upper a d in
      let pu = upper_plus b c ib ic in
      let pv = upper_plus a d ia id in
      let e = lt_count v u (upper_fits a d ia id) (upper_fits b c ib ic) pv pu in
      choose (λ (h : Float). High h) (lt v u) u v
      (λ w. (pu, (le_refl (count u), (le_of_lt (ltb→lt (count v) (count u) (subst T e w)), inl refl))))
      (λ w. (pv, (nltb→le (count v) (count u) (subst (λ (t : Bool). T (not t)) e w), (le_refl (count v), inr refl))))

  abbrev L : Fraction
  L = largest a b c d

  high_of : HighOf (high a b c d) L
  high_of = record {
    over = larger_is (λ (p : Fraction). p.above * 2 ^ 1074 ≤ count (high a b c d) * p.under) (exact b c) (exact a d)
        (le_trans (upper_over b c ib ic) (mul-le-mul_right (sum² b c) high_is.1.0))
        (le_trans (upper_over a d ia id) (mul-le-mul_right (sum² a d) high_is.1.1.0));
    near = elim high_is.1.1.1 [
      | inl e ↦ subst (λ (h : Float). count h * L.under ≤ L.above * 2 ^ 1074 + 9 * 2 ^ 1021 * L.under) (sym e)
          (carry_over (difference² b c) (sum² b c) L.above L.under (count (upper b c)) (2 ^ 1074) (9 * 2 ^ 1021) (under_pos b c ib ic) (larger_left (exact b c) (exact a d)) (upper_near b c ib ic))
      | inr e ↦ subst (λ (h : Float). count h * L.under ≤ L.above * 2 ^ 1074 + 9 * 2 ^ 1021 * L.under) (sym e)
          (carry_over (difference² a d) (sum² a d) L.above L.under (count (upper a d)) (2 ^ 1074) (9 * 2 ^ 1021) (under_pos a d ia id) (larger_right (exact b c) (exact a d)) (upper_near a d ia id))
    ];
  }

  L_pos : 0 < L.under
  L_pos = larger_is (λ (p : Fraction). 0 < p.under) (exact b c) (exact a d) (under_pos b c ib ic) (under_pos a d ia id)

  L_small : L.above * 25 ≤ L.under * 9
  L_small = larger_is (λ (p : Fraction). p.above * 25 ≤ p.under * 9) (exact b c) (exact a d) (small b c ib ic) (small a d ia id)

  -- ---- the low float
  low_at : (x y : Float) → Index x → Index y → LowOf (lower x y) (exact x y)
  low_at x y i j = record { sign = lower_plus x y i j; positive = under_pos x y i j; under = lower_under x y i j; near = lower_near x y i j }

  low_zero : LowOf zero_f (record { above = 0; under = 1 })
  low_zero = record {
    sign = unfold of_bits in tt;
    positive = lit≤ tt;
    under = le_of_eq (ap (λ (n : ℕ). n * 1) none ∙ sym (zero-mul (2 ^ 1074)));
    near = le_trans (le_of_eq (zero-mul (2 ^ 1074))) zero-le;
  }
    where
      none : count zero_f ≡ 0
      none = unfold of_bits in count_of (of_bits binary64 0) 0 refl

  low_of : LowOf (low a b c d) (smallest a b c d)
  unfolding low
  low_of = rw (index_lt ib ic, index_lt id ia) (go (ltb (count b) (count c)) (ltb (count d) (count a)))
    where
      go : (t u : Bool) → LowOf (cond t (lower b c) (cond u (lower a d) zero_f)) (cond t (exact b c) (cond u (exact a d) (record { above = 0; under = 1 })))
      go true u = low_at b c ib ic
      go false true = low_at a d ia id
      go false false = low_zero

  -- ---- both
  abbrev given_is : ReflectanceRange
  given_is = record { low = low a b c d; high = high a b c d }

  lies : (x y : Float) → Between a b x → Between c d y → Lies given_is x y
  lies x y bx by = record {
    least = carry_down (difference² x y) (sum² x y) (smallest a b c d).above (smallest a b c d).under (count (low a b c d)) (2 ^ 1074) low_of.positive (least x y bx by) low_of.under;
    most = carry (difference² x y) (sum² x y) L.above L.under (count (high a b c d)) (2 ^ 1074) L_pos (most x y bx by) high_of.over;
  }

  closer : Tight reached given_is L (smallest a b c d)
  closer = both_ends (count (high a b c d)) (count (low a b c d)) L.above L.under (smallest a b c d).above (smallest a b c d).under (2 ^ 1074) (9 * 2 ^ 1021) high_of.near low_of.near

  given : Given a b c d given_is
  given = record {
    lies = lies;
    tight = le_trans closer (add-le-add (le_refl _) (mul-le-mul_right (L.under * (smallest a b c d).under) (lit≤ {m = reached} {n = asked} tt)));
    closer = closer;
    low_sign = low_of.sign;
    high_sign = high_is.0;
    order = let l = lies a c a_in c_in in le_of_mul-le-mul_right (le_trans l.least l.most) (under_pos a c ia ic);
    unit = below_one (count (high a b c d)) L.above L.under (2 ^ 1074) (9 * 2 ^ 1021) L_pos L_small high_of.near (lit≤ {m = 9 * 2 ^ 1074 + 25 * (9 * 2 ^ 1021)} {n = 25 * 2 ^ 1074} tt);
  }

-- ---- the tests
valid_range : (a b : Float) → Range a b → T (range_valid a b)
unfolding range_valid index_valid
valid_range a b r =
    and_i (le one a && le a four) (le one b && le b four && le a b) (and_i (le one a) (le a four) r.low_end.least r.low_end.most)
    (and_i (le one b && le b four) (le a b) (and_i (le one b) (le b four) r.high_end.least r.high_end.most) r.order)

range_of : (a b : Float) → T (fits binary64 a) → T (fits binary64 b) → T (range_valid a b) → Range a b
unfolding range_valid index_valid
range_of a b fa fb t =
    let l = and_l (le one a && le a four) _ t in
    let u = and_r (le one a && le a four) _ t in
    let h = and_l (le one b && le b four) (le a b) u in
    record {
      low_end = record { held = fa; least = and_l (le one a) (le a four) l; most = and_r (le one a) (le a four) l };
      high_end = record { held = fb; least = and_l (le one b) (le b four) h; most = and_r (le one b) (le b four) h };
      order = and_r (le one b && le b four) (le a b) u;
    }

answered : (a b c d : Float) → Range a b → Range c d → Answered a b c d
unfolding reflectance_range
answered a b c d r s = record {
  value = given_is a b c d r s;
  is = rw (is_true (range_valid a b) (valid_range a b r), is_true (range_valid c d) (valid_range c d s));
  given = given a b c d r s;
}

thirteen : (a b c d : Float) → T (fits binary64 a) → T (fits binary64 b) → T (fits binary64 c) → T (fits binary64 d) → (Range a b × Range c d → ⊥) → reflectance_range a b c d ≡ refusal 13 0
unfolding reflectance_range
thirteen a b c d fa fb fc fd never = go (answer (record { low = low a b c d; high = high a b c d })) (range_valid a b && range_valid c d) (λ t. never (range_of a b fa fb (and_l (range_valid a b) (range_valid c d) t), range_of c d fc fd (and_r (range_valid a b) (range_valid c d) t)))
  where
    go : (o : Outcome ReflectanceRange) (t : Bool) → (T t → ⊥) → cond t o (refusal 13 0) ≡ refusal 13 0
    go o true f = absurd (f tt)
    go o false f = refl

pub range_claim : RangeClaim
range_claim = record { extremes = extremes; answered = answered; thirteen = thirteen }
