-- What the source's tests say of a float: whether it is an infinity or a zero, and its sign bit. Assumes nothing.
use mathlib.Core.Path.{◌≡◌, refl, sym, ap, ◌∙◌}
use Prim.Native.Nat.{ℕ, zero, suc, ◌+◌, ◌*◌, ◌%◌, ◌/◌, ◌^◌, ◌≤◌, ◌<◌}
use mathlib.Core.Bool.{Bool, true, false, ◌&&◌, ◌||◌, beq, cond, true≢false, false≢true}
use borrow.Author.Tests.{lt-leb, le-leb, ne_eqb}
use lib.Dec.{T, eqb, leb, eqb-suc-zero}
use lib.IntN.{pos}
use lib.Ieee.{Float, nan, inf, fin, Format, binary64, up, down, odd, ones, hid, top, prec, low, neg, eq, fits, is_nan, of_fields, of_bits, to_bits}
use lib.Ieee.Bits.{of_bits-to_bits}
use lib.Ieee.Fits.{up_pos}
use Rattle.ieee.proofs.Signs.{zero_is, zero_level, not_zero, infinity, inf_is}
use Rattle.ieee.specs.Functions.{is_inf, is_zero}
use Rattle.ieee.specs.Range.{sgn}

-- ---- x == 1.0 / 0.0, x == -(1.0 / 0.0)
at_infinity : (x : Float) → eq x (inf false) ≡ true → true ≡ is_inf x
unfolding eq
at_infinity nan e = absurd (false≢true e)
at_infinity (inf s) e = refl
at_infinity (fin s m d) e = absurd (false≢true e)

else_infinity : (x : Float) → eq x (inf false) ≡ false → eq x (neg (inf false)) ≡ is_inf x
unfolding eq neg
else_infinity nan e = refl
else_infinity (inf true) e = refl
else_infinity (inf false) e = absurd (true≢false e)
else_infinity (fin s m d) e = refl

pub infinite : (x : Float) → eq x infinity ≡ true → true ≡ is_inf x
infinite x e = at_infinity x (ap (eq x) (sym inf_is) ∙ e)

pub infinite_else : (x : Float) → eq x infinity ≡ false → eq x (neg infinity) ≡ is_inf x
infinite_else x e = rw inf_is (else_infinity x (ap (eq x) (sym inf_is) ∙ e))

-- ---- x == 0.0
at_zero : (x : Float) → eq x (fin false 0 (pos 0)) ≡ is_zero x
unfolding eq
at_zero nan = refl
at_zero (inf s) = refl
at_zero (fin s zero d) = zero_level s (up d) (down d)
at_zero (fin s (suc m) d) =
    ap (λ (b : Bool). b && (beq s false || eqb (suc m * up d * 1) 0)) (ne_eqb (suc m * up d * 1) (0 * 1 * down d) (not_zero m (up d) (down d) (up_pos d))) ∙ sym (eqb-suc-zero m)

pub zero_test : (x : Float) → eq x (of_bits binary64 0) ≡ is_zero x
zero_test x = ap (eq x) zero_is ∙ at_zero x

-- ---- the sign bit: the highest of the pattern
odd_sign : (d : ℕ) (s : Bool) (q k l : ℕ) → sgn (odd d s q k l) ≡ s
unfolding odd
odd_sign d s zero k l = refl
odd_sign d s (suc q) k l = refl

fields_sign : (f : Format) (s : Bool) (x t : ℕ) → is_nan (of_fields f s x t) ≡ false → sgn (of_fields f s x t) ≡ s
unfolding of_fields is_nan
fields_sign f s zero t e = odd_sign (prec f) s t 0 (low f)
fields_sign f s (suc x) t e = go (eqb (suc x) (ones f)) (eqb t 0) e
  where
    go : (a b : Bool) → is_nan (cond a (cond b (inf s) nan) (odd (prec f) s (hid f + t) x (low f))) ≡ false → sgn (cond a (cond b (inf s) nan) (odd (prec f) s (hid f + t) x (low f))) ≡ s
    go true true e = refl
    go true false e = absurd (true≢false e)
    go false b e = odd_sign (prec f) s (hid f + t) x (low f)

bits_sign : (x : Float) → T (fits binary64 x) → is_nan x ≡ false → sgn x ≡ leb (2 ^ 63) (to_bits binary64 x)
unfolding of_bits
bits_sign x h e =
    let b = to_bits binary64 x in
    let q = of_bits-to_bits binary64 x h in
    ap sgn (sym q) ∙ fields_sign binary64 (leb (top binary64) b) (b % top binary64 / hid binary64) (b % hid binary64) (ap is_nan q ∙ e)

pub sign_set : (x : Float) → T (fits binary64 x) → is_nan x ≡ false → 2 ^ 63 ≤ to_bits binary64 x → sgn x ≡ true
sign_set x h e l = bits_sign x h e ∙ le-leb _ _ l

pub sign_clear : (x : Float) → T (fits binary64 x) → is_nan x ≡ false → to_bits binary64 x < 2 ^ 63 → sgn x ≡ false
sign_clear x h e l = bits_sign x h e ∙ lt-leb _ _ l
