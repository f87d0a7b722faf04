-- The laws of `square_root`, for any format.
-- `square_root_ge`, `square_root_le`: if the format holds lo and hi, and lo * lo ≤ x ≤ hi * hi as fractions, then lo ≤ squareRoot x ≤ hi.
-- `square_root_positive`: the root of a number that is finite and above zero is finite and above zero. `square_root_fits`: the format holds every root. Assumes nothing.
use mathlib.Core.Path.{◌≡◌, refl, sym, ap, ◌∙◌, subst}
use Prim.Native.Nat.{ℕ, zero, suc, ◌+◌, ◌*◌, ◌^◌, ◌≤◌, ◌<◌}
use native.Mathlib.Nat.{le_refl, le_trans, le_of_eq, le_of_lt, lt_of_lt_of_le, lt_of_le_of_lt, mul-one, one-mul, mul_assoc, mul_comm, mul_left_comm, mul_right_comm, mul-le-mul_left, mul-le-mul_right, mul-pos, mul-lt-mul_of_pos_right, lt_of_mul-lt-mul_right, mul-mul-mul_comm}
use mathlib.Core.Bool.{Bool, true, false, cond, true≢false}
use lib.IntN.{pos, negsuc}
use lib.Dec.{T, ltb, ltb→lt, lit≤}
use lib.Pow.{pow-add, pow_pos, pow_mono, pow-lt}
use lib.Ieee.{Float, nan, inf, fin, Format, binary32, binary64, prec, emax, low, up, down, odd, units, le, fits}
use lib.Ieee.Fits.{two, two-le_pos, down_pos, odd-fits}
use lib.Ieee.Exact.{HasValue, odd_sign, units_val}
use lib.Ieee.Order.{le_of_values}
use lib.Ieee.Scale.{overflow}
use lib.Ieee.Positive.{num, den, positive, positive-finite, den_pos, first_pos, value_pos, own_value, between}
use Rattle.ieee.proofs.Range.Values.{Whole, whole, unique}
use Rattle.math_root.specs.Root.{round_root, square_root}
use Rattle.math_root.proofs.Grid.{root_drop, root_kept, root_grid, round_root_is, root_grid_mono, root_grid_exact, kept_le}

pub square_root_is : (f : Format) (x : Float) → T (positive x) → square_root f x ≡ round_root f (num x) (den x)
unfolding square_root
square_root_is f nan p = absurd p
square_root_is f (inf s) p = absurd p
square_root_is f (fin true m e) p = absurd p
square_root_is f (fin false zero e) p = absurd p
square_root_is f (fin false (suc m) e) p = refl

-- ---- the root of the square of a value that the format holds, m * 2 ^ j of its smallest values
square_grid : (f : Format) (x : Float) (w : Whole f x) → root_grid (prec f) (num x * num x * 2 ^ low f * 2 ^ low f) (den x * den x) ≡ w.m * 2 ^ w.j
square_grid f x w =
    let l = 2 ^ low f in
    let g = w.m * 2 ^ w.j in
    root_grid_exact (prec f) (num x * num x * l * l) (den x * den x) w.m w.j (mul-pos (den_pos x) (den_pos x)) w.few
    (pairs (num x) l ∙ ap (λ (z : ℕ). z * z) w.is ∙ mul-mul-mul_comm g (den x) g (den x))
  where
    pairs : (a l : ℕ) → a * a * l * l ≡ a * l * (a * l)
    pairs a l = simp (mul_assoc, mul_left_comm)

-- ---- comparing a value with q * 2 ^ k units

le_inf : (x : Float) (a c : ℕ) → HasValue x false a c → T (le x (inf false))
unfolding le
le_inf nan a c p = absurd p
le_inf (inf s) a c p = absurd p
le_inf (fin true m e) a c p = absurd (true≢false p.0)
le_inf (fin false m e) a c p = tt

le_units : (f : Format) (x : Float) (a c q k : ℕ) → 0 < c → HasValue x false a c → a * 2 ^ low f ≤ q * 2 ^ k * c → T (le x (units f false q k))
unfolding units
le_units f x a c q k C v h = go (ltb (q * 2 ^ k) (overflow f))
  where
    go : (b : Bool) → T (le x (cond b (odd (suc (prec f)) false q k (low f)) (inf false)))
    go true = le_of_values x (odd (suc (prec f)) false q k (low f)) a c (q * 2 ^ k) (2 ^ low f) C (pow_pos (low f)) v (odd_sign (suc (prec f)) false q k (low f)) h
    go false = le_inf x a c v

units_le : (f : Format) (x : Float) (a c q k : ℕ) → 0 < c → HasValue x false a c → q * 2 ^ k < overflow f → q * 2 ^ k * c ≤ a * 2 ^ low f → T (le (units f false q k) x)
units_le f x a c q k C v u h = le_of_values (units f false q k) x (q * 2 ^ k) (2 ^ low f) a c (pow_pos (low f)) C (units_val f false q k u) v h

-- ---- lo ≤ √x and √x ≤ hi, by the squares

-- a fraction's cross product with both numerators in squared units
scaled_up : (a d c b l : ℕ) → a * d ≤ c * b → a * l * l * d ≤ c * l * l * b
scaled_up a d c b l h = le_trans (le_of_eq (out a l d)) (le_trans (mul-le-mul_right (l * l) h) (le_of_eq (sym (out c l b))))
  where
    out : (a l d : ℕ) → a * l * l * d ≡ a * d * (l * l)
    out a l d = simp (mul_assoc, mul_comm, mul_left_comm)

pub round_root_ge : (f : Format) (lo : Float) (a c : ℕ) → T (fits f lo) → T (positive lo) → 0 < c → num lo * num lo * c ≤ a * (den lo * den lo) → T (le lo (round_root f a c))
round_root_ge f lo a c h p C s =
    let l = 2 ^ low f in
    let v = whole f lo (positive-finite lo p) h in
    let g = v.m * 2 ^ v.j in
    let n = a * l * l in
    let m : g ≤ root_grid (prec f) n c =
    subst (λ (x : ℕ). x ≤ root_grid (prec f) n c) (square_grid f lo v)
    (root_grid_mono (prec f) (num lo * num lo * l * l) (den lo * den lo) n c (two-le_pos (prec f) (two f)) (mul-pos (den_pos lo) (den_pos lo)) C (scaled_up (num lo * num lo) c a (den lo * den lo) l s)) in
    subst (λ (x : Float). T (le lo x)) (sym (round_root_is f a c))
    (le_units f lo (num lo) (den lo) (root_kept (prec f) n c) (root_drop (prec f) n c) (den_pos lo) (own_value lo p) (le_trans (le_of_eq v.is) (mul-le-mul_right (den lo) m)))

pub round_root_le : (f : Format) (hi : Float) (a c : ℕ) → T (fits f hi) → T (positive hi) → 0 < c → a * (den hi * den hi) ≤ num hi * num hi * c → T (le (round_root f a c) hi)
round_root_le f hi a c h p C s =
    let l = 2 ^ low f in
    let v = whole f hi (positive-finite hi p) h in
    let g = v.m * 2 ^ v.j in
    let n = a * l * l in
    let m : root_grid (prec f) n c ≤ g =
    subst (λ (x : ℕ). root_grid (prec f) n c ≤ x) (square_grid f hi v)
    (root_grid_mono (prec f) n c (num hi * num hi * l * l) (den hi * den hi) (two-le_pos (prec f) (two f)) C (mul-pos (den_pos hi) (den_pos hi)) (scaled_up a (den hi * den hi) (num hi * num hi) c l s)) in
    subst (λ (x : Float). T (le x hi)) (sym (round_root_is f a c))
    (units_le f hi (num hi) (den hi) (root_kept (prec f) n c) (root_drop (prec f) n c) (den_pos hi) (own_value hi p) (lt_of_le_of_lt m v.under) (le_trans (mul-le-mul_right (den hi) m) (le_of_eq (sym v.is))))

pub square_root_ge : (f : Format) (lo x : Float) → T (fits f lo) → T (positive lo) → T (positive x) → num lo * num lo * den x ≤ num x * (den lo * den lo) → T (le lo (square_root f x))
square_root_ge f lo x h p q s = subst (λ (y : Float). T (le lo y)) (sym (square_root_is f x q)) (round_root_ge f lo (num x) (den x) h p (den_pos x) s)

pub square_root_le : (f : Format) (hi x : Float) → T (fits f hi) → T (positive hi) → T (positive x) → num x * (den hi * den hi) ≤ num hi * num hi * den x → T (le (square_root f x) hi)
square_root_le f hi x h p q s = subst (λ (y : Float). T (le y hi)) (sym (square_root_is f x q)) (round_root_le f hi (num x) (den x) h p (den_pos x) s)

-- ---- the root of a number that is finite and above zero is finite and above zero: 2 ^ -low ≤ √x ≤ 2 ^ emax

abbrev pub smallest : Format → Float
smallest binary32 = fin false 1 (negsuc 148)
smallest binary64 = fin false 1 (negsuc 1073)

smallest_fits : (f : Format) → T (fits f (smallest f))
unfolding fits
smallest_fits binary32 = tt
smallest_fits binary64 = tt

smallest_positive : (f : Format) → T (positive (smallest f))
smallest_positive binary32 = tt
smallest_positive binary64 = tt

-- 2 ^ emax
abbrev pub large : Format → Float
large f = fin false 1 (pos (emax f))

large_fits : (f : Format) → T (fits f (large f))
unfolding fits
large_fits binary32 = tt
large_fits binary64 = tt

-- x is 2 ^ -low at least, and below 2 ^ (emax + 1)
least_whole : (n d l g : ℕ) → 0 < n → 0 < l → n * l ≡ g * d → 1 * 1 * d ≤ n * (l * l)
least_whole n d l g N L e =
    let G : 0 < g = first_pos g d (subst (λ (z : ℕ). 0 < z) e (mul-pos N L)) in
    le_trans (mul-le-mul_right d G) (le_trans (le_of_eq (sym e ∙ sym (mul-one (n * l)))) (le_trans (mul-le-mul_left (n * l) L) (le_of_eq (mul_assoc n l l))))

above_smallest : (f : Format) (n d g : ℕ) → 0 < n → n * 2 ^ low f ≡ g * d → num (smallest f) * num (smallest f) * d ≤ n * (den (smallest f) * den (smallest f))
above_smallest binary32 n d g N e = least_whole n d (2 ^ 149) g N (pow_pos 149) e
above_smallest binary64 n d g N e = least_whole n d (2 ^ 1074) g N (pow_pos 1074) e

under_top : (f : Format) (n d g : ℕ) → 0 < d → n * 2 ^ low f ≡ g * d → g < overflow f → n < 2 ^ suc (emax f) * d
under_top f n d g D e u =
    lt_of_mul-lt-mul_right (2 ^ low f)
    (lt_of_le_of_lt (le_of_eq e)
    (lt_of_lt_of_le (mul-lt-mul_of_pos_right u D)
    (le_of_eq (ap (λ (z : ℕ). z * d) (pow-add 2 (low f) (suc (emax f)) ∙ mul_comm (2 ^ low f) (2 ^ suc (emax f))) ∙ mul_right_comm (2 ^ suc (emax f)) (2 ^ low f) d))))

doubled : (f : Format) → suc (emax f) ≤ emax f + emax f
doubled binary32 = lit≤ tt
doubled binary64 = lit≤ tt

below_large : (f : Format) (n d : ℕ) → n < 2 ^ suc (emax f) * d → n * (1 * 1) ≤ 1 * 2 ^ emax f * (1 * 2 ^ emax f) * d
below_large f n d h =
    le_trans (le_of_eq (mul-one n))
    (le_trans (le_of_lt h)
    (mul-le-mul_right d
    (le_trans (pow_mono (doubled f))
    (le_of_eq (pow-add 2 (emax f) (emax f) ∙ ap (λ (x : ℕ). x * x) (sym (one-mul (2 ^ emax f))))))))

pub square_root_positive : (f : Format) (x : Float) → T (fits f x) → T (positive x) → T (positive (square_root f x))
square_root_positive f x h p =
    let w = whole f x (positive-finite x p) h in
    between (smallest f) (square_root f x) (large f) (smallest_positive f) tt
    (square_root_ge f (smallest f) x (smallest_fits f) (smallest_positive f) p (above_smallest f (num x) (den x) (w.m * 2 ^ w.j) (value_pos x (num x) (den x) p (den_pos x) (own_value x p)) w.is))
    (square_root_le f (large f) x (large_fits f) tt p (below_large f (num x) (den x) (under_top f (num x) (den x) (w.m * 2 ^ w.j) (den_pos x) w.is w.under)))

-- ---- the format holds every root

pub units_fits : (f : Format) (s : Bool) (q k : ℕ) → q ≤ 2 ^ prec f → T (fits f (units f s q k))
unfolding units
units_fits f s q k a = go (ltb (q * 2 ^ k) (overflow f)) (ltb→lt (q * 2 ^ k) (overflow f))
  where
    go : (b : Bool) → (T b → q * 2 ^ k < overflow f) → T (fits f (cond b (odd (suc (prec f)) s q k (low f)) (inf s)))
    go true h = odd-fits f (suc (prec f)) s q k (lt_of_le_of_lt a (pow-lt (le_refl (suc (prec f))))) a (h tt)
    go false h = unfold fits in tt

pub square_root_fits : (f : Format) (x : Float) → T (fits f x) → T (fits f (square_root f x))
unfolding square_root fits
square_root_fits f nan h = h
square_root_fits f (inf true) h = tt
square_root_fits f (inf false) h = h
square_root_fits f (fin s zero e) h = h
square_root_fits f (fin true (suc m) e) h = tt
square_root_fits f (fin false (suc m) e) h =
    let n = suc m * up e * 2 ^ low f * 2 ^ low f in
    subst (λ (x : Float). T (fits f x)) (sym (round_root_is f (suc m * up e) (down e))) (units_fits f false (root_kept (prec f) n (down e)) (root_drop (prec f) n (down e)) (kept_le (prec f) n (down e) (down_pos e)))

-- ---- a value above zero that fits is known by its size
positive_value : (x : Float) (a c : ℕ) → T (positive x) → num x * c ≡ a * den x → HasValue x false a c
positive_value nan a c p e = absurd p
positive_value (inf s) a c p e = absurd p
positive_value (fin true m d) a c p e = absurd p
positive_value (fin false m d) a c p e = (refl, e)

pub fits_unique : (f : Format) (x y : Float) → T (fits f x) → T (fits f y) → T (positive x) → T (positive y) → num x * den y ≡ num y * den x → x ≡ y
fits_unique f x y h k p q e = unique f x y false (num y) (den y) (den_pos y) h k (positive_value x (num y) (den y) p e) (own_value y q)
