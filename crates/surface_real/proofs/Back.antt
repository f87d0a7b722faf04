-- What a finite number of the real way says: nothing stood in its way. Assumes nothing.
use mathlib.Core.Path.{◌≡◌, refl, sym, ◌∙◌, subst}
use mathlib.Core.Bool.{Bool, true, false, not, ◌&&◌, cond}
use lib.Dec.{T}
use lib.Ieee.{Float, binary64, div, lt, le, eq, fits, of_bits}
use lib.Ieee.Positive.{positive}
use lib.Ieee.Scale.{finite}
use Rattle.ieee.specs.Operators.{◌⊕◌, ◌⊗◌, ◌⊘◌}
use Rattle.ieee.specs.Functions.{zero_f, tiny}
use Rattle.ieee.specs.Range.{In}
use Rattle.ieee.proofs.Signs.{of_true}
use Rattle.ieee.proofs.Range.Constants.{zero_mag}
use Rattle.ieee.proofs.Range.Laws.{in_lit, plus_finite}
use Rattle.ieee.proofs.Range.Tests.{gate_in}
use Rattle.ieee.proofs.Range.FromZero.{equals_zero}
use Rattle.math_trig.specs.Trig.{cos}
use Rattle.math_trig.proofs.TrigBounds.{cos_none}
use Rattle.thin_film_complex.specs.declared.Complex.{Complex}
use Rattle.thin_film_complex.specs.Complex.{real, half_root, sqrt}
use Rattle.thin_film_complex.proofs.RealRoot.{root_is}
use Rattle.polarization_value.proofs.Keeps.{Keeps, kept}
use Rattle.thin_film_real.proofs.Keeps.{Fine, Divides, mul_back, div_back}
use Rattle.thin_film_real.proofs.Parts.{Re}
use Rattle.surface_real.specs.Internal.{no_number, over, real_part, least_square, most_square, root}

pub no_fine : {A : Type 0} → Fine no_number → A
unfolding of_bits div
no_fine f = absurd f.fine

-- a choice whose other side is a NaN
pub chosen : (b : Bool) (x : Float) → Fine (cond b x no_number) → (b ≡ true) × (cond b x no_number ≡ x)
chosen true x f = (refl, refl)
chosen false x f = no_fine f

unchosen : (b : Bool) (x : Float) → Fine (cond b no_number x) → (b ≡ false) × (cond b no_number x ≡ x)
unchosen true x f = no_fine f
unchosen false x f = (refl, refl)

-- ---- a quotient
pub record Quotient (x y : Float) : Type 0 where
  pub is : over x y ≡ (x ⊗ y) ⊘ (y ⊗ y)
  pub large : lt (y ⊗ y) tiny ≡ false
  pub above : Fine x
  pub below : Fine y
  pub divides : Divides (y ⊗ y)

pub over_back : (x y : Float) → Fine (over x y) → Quotient x y
unfolding over
over_back x y f =
    let h = unchosen (lt (y ⊗ y) tiny) ((x ⊗ y) ⊘ (y ⊗ y)) f in
    let d = div_back (x ⊗ y) (y ⊗ y) (subst Fine h.1 f) in
    let m = mul_back x y d.0 in
    record { is = h.1; large = h.0; above = m.0; below = m.1; divides = d.1 }

-- ---- a real part
pub real_part_back : (z : Complex) → Fine (real_part z) → Re (real_part z) z
unfolding real_part
real_part_back z f =
    let h = chosen (eq z.im zero_f) z.re f in
    record { re = subst (λ (x : Float). Keeps x z.re) (sym h.1) kept; im = equals_zero z.im (of_true _ h.0) }

-- ---- a cosine: that of no finite angle is a NaN
pub cos_back : (d : Float) → Fine (cos d) → Fine d
cos_back d f = go (finite d) (λ t. record { fine = t }) (λ t. absurd (subst Fine (cos_none d t) f).fine)
  where
    go : (b : Bool) → (T b → Fine d) → (T (not b) → Fine d) → Fine d
    go true g h = g tt
    go false g h = h tt

pub real_part_is : (z : Complex) → Fine (real_part z) → real_part z ≡ z.re
unfolding real_part
real_part_is z f = (chosen (eq z.im zero_f) z.re f).1

-- ---- a root
least_in : In 1 10 1 10 least_square
unfolding of_bits
least_in = in_lit least_square tt

most_in : In 1024 0 1024 0 most_square
unfolding of_bits
most_in = in_lit most_square tt

ends : T (positive least_square && positive most_square)
unfolding of_bits
ends = tt

zero_same : eq zero_f zero_f ≡ true
unfolding eq of_bits
zero_same = refl

pub root_back : (x : Float) → T (fits binary64 x) → Fine (root x) → Fine x × Re (root x) (sqrt (real x))
unfolding root real
root_back x held f =
    let h = chosen (le least_square x) (cond (le x most_square) (half_root (x ⊕ x)) no_number) f in
    let g = chosen (le x most_square) (half_root (x ⊕ x)) (subst Fine h.1 f) in
    let n : In 1 10 1024 0 x = gate_in least_square most_square x least_in most_in ends (of_true _ h.0) (of_true _ g.0) in (
      record { fine = plus_finite x n.sign },
      subst (Re (root x)) (root_is (record { re = x; im = zero_f }) held zero_same h.0 g.0)
          (record { re = subst (λ (y : Float). Keeps y (half_root (x ⊕ x))) (sym (h.1 ∙ g.1)) kept; im = zero_mag }),
    )
