-- The root of a complex number whose imaginary part is a zero: its norm is the real part itself, so the root is real. Assumes nothing.
use mathlib.Core.Path.{◌≡◌, refl, sym, ap, ◌∙◌}
use mathlib.Core.Bool.{Bool, true, false, not, ◌&&◌, ◌||◌, beq, cond, false≢true}
use Prim.Native.Nat.{ℕ, ◌*◌}
use lib.Dec.{T, eqb, eqb→eq}
use lib.IntN.{pos}
use lib.Ieee.{Float, nan, inf, fin, binary64, up, down, below, level, neg, lt, eq, le, fits, of_bits}
use lib.Ieee.Fits.{mul-fits}
use lib.Ieee.Positive.{positive}
use Rattle.ieee.specs.Operators.{◌⊕◌, ◌⊖◌, ◌⊗◌, ◌⊘◌}
use Rattle.ieee.specs.Functions.{zero_f, two, max}
use Rattle.ieee.specs.Range.{Mag, In}
use Rattle.ieee.proofs.Signs.{zero_is, of_true, and-true, nothing'}
use Rattle.ieee.proofs.Range.FromZero.{equals_zero}
use Rattle.ieee.proofs.Range.Constants.{zero_in, two_in}
use Rattle.ieee.proofs.Range.Laws.{in_lit, in_mag, sq_in, plus_finite}
use Rattle.ieee.proofs.Range.Quotients.{div_mag}
use Rattle.ieee.proofs.Range.Tests.{gate_in, never_above}
use Rattle.ieee.proofs.Range.Zero.{zero_mul_mag, add_zero_same, sub_self_mag}
use Rattle.math_root.specs.Root.{square_root}
use Rattle.math_root.proofs.Range.{sqrt_law}
use Rattle.thin_film_complex.specs.declared.Complex.{Complex}
use Rattle.thin_film_complex.specs.Complex.{norm_sq, norm, half_root, sqrt}

-- 2^-10 and 2^10, the ends of the range in which the root of a rounded square is known
abbrev pub least : Float
least = of_bits binary64 0x3F50_0000_0000_0000

abbrev pub most : Float
most = of_bits binary64 0x4090_0000_0000_0000

least_in : In 1 10 1 10 least
unfolding of_bits
least_in = in_lit least tt

most_in : In 1024 0 1024 0 most
unfolding of_bits
most_in = in_lit most tt

ends_positive : T (positive least && positive most)
unfolding of_bits
ends_positive = tt

is_false : (b : Bool) → T (not b) → b ≡ false
is_false true t = absurd t
is_false false t = refl

-- a zero of either sign is at least zero
either : (b : Bool) → b || true ≡ true
either true = refl
either false = refl

level_zero : (s : Bool) → level false 0 s 0 ≡ true
level_zero true = refl
level_zero false = refl

zero-le : (y : Float) → eq y (fin false 0 (pos 0)) ≡ true → le (fin false 0 (pos 0)) y ≡ true
unfolding eq lt le
zero-le nan e = absurd (false≢true e)
zero-le (inf s) e = absurd (false≢true e)
zero-le (fin s m d) e =
    let A = m * up d * 1 in
    let B = 0 * 1 * down d in
    let none : B ≡ 0 = nothing' (down d) in
    let same : A ≡ 0 = eqb→eq A B (and-true (eqb A B) (beq s false || eqb A 0) e) ∙ none in
    ap (λ (b : Bool). below false B s A || b) (ap (λ (n : ℕ). level false n s A) none ∙ ap (level false 0 s) same ∙ level_zero s) ∙ either (below false B s A)

root_zero : square_root binary64 zero_f ≡ zero_f
unfolding square_root of_bits
root_zero = refl

module _ (x y : Float) (held : T (fits binary64 x)) (x-in : In 1 10 1024 0 x) (y-zero : Mag 0 0 y) where
  abbrev z : Complex
  z = record { re = x; im = y }

  square_in : In 0 0 1048576 0 (x ⊗ x)
  square_in = sq_in (in_mag x-in) tt

  norm_sq_is : norm_sq z ≡ x ⊗ x
  unfolding norm_sq
  norm_sq_is = add_zero_same (x ⊗ x) square_in.sign (mul-fits binary64 x x) (zero_mul_mag y-zero y-zero)

  norm_is : norm z ≡ x
  unfolding norm
  norm_is = ap (square_root binary64) norm_sq_is ∙ sqrt_law.root_sq x-in held

  none : half_root (x ⊖ x) ≡ zero_f
  unfolding half_root max
  none = let h : lt zero_f ((x ⊖ x) ⊘ two) ≡ false = is_false _ (never_above zero_in (div_mag {r = 0} {n = 0} (sub_self_mag x (plus_finite x x-in.sign)) two_in tt) tt) in simp (h, root_zero)

  pub root_at : sqrt z ≡ record { re = half_root (x ⊕ x); im = cond (le zero_f y) zero_f (neg zero_f) }
  unfolding sqrt
  root_at = simp (norm_is, none)

pub root_is : (z : Complex) → T (fits binary64 z.re) → eq z.im zero_f ≡ true → le least z.re ≡ true → le z.re most ≡ true → ◌≡◌ {A = Complex} (record { re = half_root (z.re ⊕ z.re); im = zero_f }) (sqrt z)
root_is z held e l m =
    let up = ap (λ (x : Float). le x z.im) zero_is ∙ zero-le z.im (ap (eq z.im) (sym zero_is) ∙ e) in
    let at = root_at z.re z.im held (gate_in least most z.re least_in most_in ends_positive (of_true _ l) (of_true _ m)) (equals_zero z.im (of_true _ e)) in
    sym (rw up at at)
