-- What rounding keeps: a fraction N / D that is no more than a bound p / 2 ^ j rounds to a value that is no more than it, where the format holds the bound.
-- And the same for a bound from below. Over either format f, so that 2 ^ low f stays a name and no numeral of 300 digits is written out. Assumes nothing.
use mathlib.Core.Path.{◌≡◌, refl, sym, ap, ◌∙◌, subst}
use mathlib.Core.Logic.{◌⊎◌, inl, inr}
use Prim.Native.Nat.{ℕ, zero, suc, ◌+◌, ◌-◌, ◌*◌, ◌^◌, ◌≤◌, ◌<◌}
use native.Mathlib.Nat.{le_of_eq, le_of_lt, mul_comm, mul_assoc, mul_right_comm, mul-lt-mul_of_pos_right, lt_of_mul-lt-mul_right}
use native.Mathlib.Omega.{arith}
use mathlib.Core.Bool.{Bool, true, false, ◌&&◌, ◌||◌, cond}
use lib.Dec.{T, ltb, eqb, eqb→eq, ltb→lt}
use lib.Pow.{pow-add, pow_pos}
use lib.Ieee.{Float, nan, inf, fin, Format, prec, emax, low, up, down, odd, units, round, le}
use lib.Ieee.Fits.{round_is, and_l}
use lib.Ieee.Exact.{HasValue, units_val, round_exact}
use lib.Ieee.Order.{drop, kept, transfer, round_mono}
use lib.Ieee.Scale.{grid, overflow, finite, round_under}
use lib.Ieee.Positive.{num, den, den_pos}
use Rattle.ieee.specs.Range.{sgn, clear, plus, Rep}

join : (i l j : ℕ) → j ≤ l → i + (l - j) + j ≡ i + l
join i l j h = omega arith

rep_is : (f : Format) (p j : ℕ) (r : Rep f p j) → p * 2 ^ low f ≡ r.q * 2 ^ (r.i + (low f - j)) * 2 ^ j
rep_is f p j r =
    ap (λ (x : ℕ). x * 2 ^ low f) r.is
    ∙ mul_assoc r.q (2 ^ r.i) (2 ^ low f)
    ∙ ap (λ (x : ℕ). r.q * x) (sym (pow-add 2 r.i (low f)) ∙ ap (λ (x : ℕ). 2 ^ x) (sym (join r.i (low f) j r.deep)) ∙ pow-add 2 (r.i + (low f - j)) j)
    ∙ sym (mul_assoc r.q (2 ^ (r.i + (low f - j))) (2 ^ j))

rep_under : (f : Format) (p j : ℕ) (r : Rep f p j) → r.q * 2 ^ (r.i + (low f - j)) < 2 ^ (low f + suc (emax f))
rep_under f p j r =
    lt_of_mul-lt-mul_right (2 ^ j)
    (subst (λ (x : ℕ). x < 2 ^ (low f + suc (emax f)) * 2 ^ j) (rep_is f p j r)
    (subst (λ (x : ℕ). p * 2 ^ low f < x)
    (mul_right_comm (2 ^ suc (emax f)) (2 ^ j) (2 ^ low f) ∙ ap (λ (x : ℕ). x * 2 ^ j) (mul_comm (2 ^ suc (emax f)) (2 ^ low f) ∙ sym (pow-add 2 (low f) (suc (emax f)))))
    (mul-lt-mul_of_pos_right r.under (pow_pos (low f)))))

-- so it is rounded to itself
pub rep_value : (f : Format) (s : Bool) (p j : ℕ) → Rep f p j → HasValue (round f s p (2 ^ j)) s p (2 ^ j)
rep_value f s p j r = round_exact f s p (2 ^ j) r.q (r.i + (low f - j)) (pow_pos j) r.few (rep_under f p j r) (rep_is f p j r)

-- ---- the sign of what is rounded
odd_clear : (d q k l : ℕ) → T (clear (odd d false q k l))
unfolding odd
odd_clear d zero k l = tt
odd_clear d (suc q) k l = tt

pub units_clear : (f : Format) (q k : ℕ) → T (clear (units f false q k))
unfolding units
units_clear f q k = go (ltb (q * 2 ^ k) (2 ^ (low f + suc (emax f))))
  where
    go : (b : Bool) → T (clear (cond b (odd (suc (prec f)) false q k (low f)) (inf false)))
    go true = odd_clear (suc (prec f)) q k (low f)
    go false = tt

pub round_clear : (f : Format) (a c : ℕ) → T (clear (round f false a c))
round_clear f a c = subst (λ (x : Float). T (clear x)) (sym (round_is f false a c)) (units_clear f (kept (prec f) (a * 2 ^ low f) c) (drop (prec f) (a * 2 ^ low f) c))

-- ---- the order of two values that are not negative
or_split : (a b : Bool) → T (a || b) → T a ⊎ T b
or_split true b t = inl tt
or_split false b t = inr t

pub lt_or_eq : (a b : ℕ) (c : Bool) → T (ltb a b || (eqb a b && c)) → a ≤ b
lt_or_eq a b c t = elim (or_split (ltb a b) (eqb a b && c) t) [ inl u ↦ le_of_lt (ltb→lt a b u) | inr u ↦ le_of_eq (eqb→eq a b (and_l (eqb a b) c u)) ]

-- x is no more than a finite y
pub below_finite : (x y : Float) (s : Bool) (p q : ℕ) → T (clear x) → HasValue y s p q → T (le x y) → T (finite x)
unfolding le
below_finite nan y s p q c v h = absurd c
below_finite (inf true) y s p q c v h = absurd c
below_finite (inf false) nan s p q c v h = absurd v
below_finite (inf false) (inf t) s p q c v h = absurd v
below_finite (inf false) (fin t n d) s p q c v h = absurd h
below_finite (fin t m e) y s p q c v h = tt

pub le_cross : (x y : Float) → T (clear x) → T (clear y) → T (finite x) → T (finite y) → T (le x y) → num x * den y ≤ num y * den x
unfolding le
le_cross nan y a b c d h = absurd a
le_cross (inf s) y a b c d h = absurd c
le_cross (fin true m e) y a b c d h = absurd a
le_cross (fin false m e) nan a b c d h = absurd b
le_cross (fin false m e) (inf t) a b c d h = absurd d
le_cross (fin false m e) (fin true n k) a b c d h = absurd b
le_cross (fin false m e) (fin false n k) a b c d h = lt_or_eq (m * up e * down k) (n * up k * down e) true h

-- ---- what a value's fraction says
pub value_cross : (x : Float) (s : Bool) (a c : ℕ) → HasValue x s a c → num x * c ≡ a * den x
value_cross nan s a c h = absurd h
value_cross (inf t) s a c h = absurd h
value_cross (fin t m e) s a c h = h.1

pub value_sign : (x : Float) (s : Bool) (a c : ℕ) → HasValue x s a c → sgn x ≡ s
value_sign nan s a c h = absurd h
value_sign (inf t) s a c h = absurd h
value_sign (fin t m e) s a c h = h.0

pub value_finite : (x : Float) (s : Bool) (a c : ℕ) → HasValue x s a c → T (finite x)
value_finite nan s a c h = absurd h
value_finite (inf t) s a c h = absurd h
value_finite (fin t m e) s a c h = tt

-- ---- a finite result is the whole number `grid` of the format's smallest values, whatever its sign
pub round_value : (f : Format) (s : Bool) (a c : ℕ) → grid f a c < overflow f → HasValue (round f s a c) s (grid f a c) (2 ^ low f)
round_value f s a c h = subst (λ (x : Float). HasValue x s (grid f a c) (2 ^ low f)) (sym (round_is f s a c)) (units_val f s (kept (prec f) (a * 2 ^ low f) c) (drop (prec f) (a * 2 ^ low f) c) h)

-- ---- the bound from above
-- N / D ≤ p / 2 ^ j, so what N / D is rounded to is finite, and no more than p / 2 ^ j
module _ (f : Format) (N D p j : ℕ) (D0 : 0 < D) (r : Rep f p j) (h : N * 2 ^ j ≤ p * D) where
  mono : T (le (round f false N D) (round f false p (2 ^ j)))
  mono = round_mono f N D p (2 ^ j) D0 (pow_pos j) h

  top_value : HasValue (round f false p (2 ^ j)) false p (2 ^ j)
  top_value = rep_value f false p j r

  no_overflow : grid f N D < overflow f
  no_overflow = round_under f N D (below_finite (round f false N D) (round f false p (2 ^ j)) false p (2 ^ j) (round_clear f N D) top_value mono)

  grid_le : grid f N D * 2 ^ j ≤ p * 2 ^ low f
  grid_le =
      let x = round f false N D in
      let y = round f false p (2 ^ j) in
      let v = round_value f false N D no_overflow in
      transfer (grid f N D) p (2 ^ low f) (2 ^ j) (num x) (num y) (den x) (den y) (den_pos x) (den_pos y)
      (sym (value_cross x false (grid f N D) (2 ^ low f) v))
      (sym (value_cross y false p (2 ^ j) top_value))
      (le_cross x y (round_clear f N D) (round_clear f p (2 ^ j)) (value_finite x false (grid f N D) (2 ^ low f) v) (value_finite y false p (2 ^ j) top_value) mono)

  pub round_most : (s : Bool) → T (finite (round f s N D)) × (num (round f s N D) * 2 ^ j ≤ p * den (round f s N D))
  round_most s =
      let x = round f s N D in
      let v = round_value f s N D no_overflow in (
        value_finite x s (grid f N D) (2 ^ low f) v,
        transfer (num x) p (den x) (2 ^ j) (grid f N D) p (2 ^ low f) (2 ^ j) (pow_pos (low f)) (pow_pos j) (value_cross x s (grid f N D) (2 ^ low f) v) refl grid_le,
      )

-- ---- the bound from below, for a result that is known to be finite
pub round_least : (f : Format) (N D p j : ℕ) → 0 < D → Rep f p j → p * D ≤ N * 2 ^ j → T (finite (round f false N D)) → p * den (round f false N D) ≤ num (round f false N D) * 2 ^ j
round_least f N D p j D0 r h t =
    let x = round f false N D in
    let y = round f false p (2 ^ j) in
    let v = rep_value f false p j r in
    transfer p (num x) (2 ^ j) (den x) (num y) (num x) (den y) (den x) (den_pos y) (den_pos x)
    (sym (value_cross y false p (2 ^ j) v))
    refl
    (le_cross y x (round_clear f p (2 ^ j)) (round_clear f N D) (value_finite y false p (2 ^ j) v) t
    (round_mono f p (2 ^ j) N D (pow_pos j) D0 h))

pub to_plus : (x : Float) → T (clear x) → T (finite x) → T (plus x)
to_plus nan a b = absurd a
to_plus (inf s) a b = absurd b
to_plus (fin s m e) a b = a

pub round_plus : (f : Format) (N D : ℕ) → T (finite (round f false N D)) → T (plus (round f false N D))
round_plus f N D t = to_plus (round f false N D) (round_clear f N D) t
