-- Which bit patterns are a NaN's, the NaN that the source makes by an operation, and the sign bit of a pattern. Assumes nothing.
use mathlib.Core.Path.{◌≡◌, refl, sym, ap, ◌∙◌, subst}
use Prim.Native.Nat.{ℕ, zero, suc, ◌+◌, ◌%◌, ◌/◌, ◌^◌, ◌≤◌, ◌<◌}
use native.Mathlib.Nat.{mod-mod}
use native.Mathlib.Omega.{arith}
use mathlib.Core.Bool.{Bool, true, false, not, cond, false≢true}
use borrow.Author.Tests.{lt-leb}
use lib.Dec.{T, leb, eqb, lt→ltb}
use lib.Arith.{le→nltb}
use lib.Ieee.{Float, nan, inf, fin, Format, binary64, prec, low, hid, ones, odd, div, is_nan, nan_bits, of_fields, of_bits}
use Rattle.ieee.specs.Functions.{abs}
use lib.Ieee.Bits.{is_true, nan_bits_is, nan_bits_above}

-- the source's 0.0 / 0.0
pub nan_is : div binary64 (of_bits binary64 0) (of_bits binary64 0) ≡ nan
unfolding of_bits div
nan_is = refl

-- a pattern up to the infinity's, the sign aside
pub no_nan : (b : ℕ) → b % 2 ^ 63 ≤ 0x7ff0_0000_0000_0000 → T (not (nan_bits binary64 b))
no_nan b h = subst (λ (t : Bool). T (not t)) (sym (nan_bits_above binary64 b)) (le→nltb 0x7ff0_0000_0000_0000 (b % 2 ^ 63) h)

is_nan_lem : (x : Float) → is_nan x ≡ true → x ≡ nan
unfolding is_nan
is_nan_lem nan e = refl
is_nan_lem (inf s) e = absurd (false≢true e)
is_nan_lem (fin s m d) e = absurd (false≢true e)

-- a pattern above it
pub nan_bits_lem : (b : ℕ) → 0x7ff0_0000_0000_0000 < b % 2 ^ 63 → of_bits binary64 b ≡ nan
nan_bits_lem b h = is_nan_lem (of_bits binary64 b) (sym (nan_bits_is binary64 b) ∙ nan_bits_above binary64 b ∙ is_true _ (lt→ltb 0x7ff0_0000_0000_0000 (b % 2 ^ 63) h))

-- ---- without its sign bit a pattern stands for the absolute value
odd_abs : (d : ℕ) (s : Bool) (q k l : ℕ) → abs (odd d s q k l) ≡ odd d false q k l
unfolding odd abs
odd_abs d s zero k l = refl
odd_abs d s (suc q) k l = refl

fields_abs : (f : Format) (s : Bool) (x t : ℕ) → abs (of_fields f s x t) ≡ of_fields f false x t
unfolding of_fields abs
fields_abs f s zero t = odd_abs (prec f) s t 0 (low f)
fields_abs f s (suc x) t = go (eqb (suc x) (ones f)) (eqb t 0)
  where
    go : (a b : Bool) → abs (cond a (cond b (inf s) nan) (odd (prec f) s (hid f + t) x (low f))) ≡ cond a (cond b (inf false) nan) (odd (prec f) false (hid f + t) x (low f))
    go true true = refl
    go true false = refl
    go false b = odd_abs (prec f) s (hid f + t) x (low f)

read : (b : ℕ) → of_bits binary64 b ≡ of_fields binary64 (leb (2 ^ 63) b) (b % 2 ^ 63 / 2 ^ 52) (b % 2 ^ 52)
unfolding of_bits
read b = refl

pub bits_abs : (b : ℕ) → of_bits binary64 (b % 2 ^ 63) ≡ abs (of_bits binary64 b)
bits_abs b =
    read (b % 2 ^ 63)
    ∙ ap (λ (s : Bool). of_fields binary64 s (b % 2 ^ 63 % 2 ^ 63 / 2 ^ 52) (b % 2 ^ 63 % 2 ^ 52)) (lt-leb (2 ^ 63) (b % 2 ^ 63) (less b))
    ∙ ap (λ (x : ℕ). of_fields binary64 false (x / 2 ^ 52) (b % 2 ^ 63 % 2 ^ 52)) (mod-mod b (2 ^ 63))
    ∙ ap (of_fields binary64 false (b % 2 ^ 63 / 2 ^ 52)) (digits b)
    ∙ sym (fields_abs binary64 (leb (2 ^ 63) b) (b % 2 ^ 63 / 2 ^ 52) (b % 2 ^ 52))
    ∙ ap abs (sym (read b))
  where
    less : (b : ℕ) → b % 2 ^ 63 < 2 ^ 63
    less b = omega arith

    digits : (b : ℕ) → b % 2 ^ 63 % 2 ^ 52 ≡ b % 2 ^ 52
    digits b = omega arith
