-- Amplitudes over real numbers, none of whose parts is a zero, are those of the product's matrix, bit for bit. Assumes nothing.
use mathlib.Core.Path.{◌≡◌, refl, sym, ap, ◌∙◌, subst}
use mathlib.Core.Bool.{Bool, true, false, not, ◌&&◌, ◌||◌, cond}
use lib.Dec.{T}
use lib.Ieee.{Float, eq, is_nan, of_bits}
use lib.Ieee.Fits.{and_l, and_r}
use Rattle.ieee.specs.Operators.{◌⊕◌, ◌⊖◌, ◌⊗◌}
use Rattle.ieee.specs.Functions.{zero_f, one, clamp}
use Rattle.ieee.proofs.Range.Constants.{zero_mag}
use Rattle.thin_film_complex.specs.declared.Complex.{Complex}
use Rattle.thin_film_complex.specs.Complex.{real, norm_sq, arg}
use Rattle.thin_film_matrix.specs.Matrix.{Matrix}
use Rattle.thin_film_solver.specs.declared.Polarized.{Polarized}
use Rattle.thin_film_solver.specs.Solve.{solve, reflection, transmission}
use Rattle.polarization_value.proofs.Keeps.{Zero, Keeps, kept, zeros, same_zeros}
use Rattle.thin_film_real.proofs.Keeps.{Fine}
use Rattle.thin_film_real.proofs.Parts.{Re, Both}
use Rattle.surface_real.specs.declared.Product.{Product}
use Rattle.surface_real.specs.declared.Shares.{Shares}
use Rattle.surface_real.specs.Internal.{power_of, power}
use Rattle.surface_real.proofs.Products.{For}
use Rattle.surface_real.proofs.Powers as P
use Rattle.response_real.specs.declared.Amplitudes.{Amplitudes}
use Rattle.response_real.specs.Internal.{shares_of, amplitudes_of, amplitudes, no_zero, polarized}

-- ---- no zero
zero_equals : (x : Float) → Zero x → eq x zero_f ≡ true
unfolding is_nan of_bits
zero_equals x h = go (eq x zero_f) (is_nan x) (same_zeros {x = x} {y = zero_f} h zero_mag)
  where
    go : (a b : Bool) → T (a || b && false) → a ≡ true
    go true b t = refl
    go false true t = absurd t
    go false false t = absurd t

one_number : {x r : Float} → Keeps x r → eq x zero_f ≡ false → x ≡ r
one_number kept e = refl
one_number {x} (zeros p q) e = absurd (no (sym e ∙ zero_equals x p))
  where
    no : false ≡ true → ⊥
    no h = subst (λ (b : Bool). T (not b)) h tt

-- what is said of both parts
parts : (a b : Bool) → T (cond a false (not b)) → (a ≡ false) × (b ≡ false)
parts true b t = absurd t
parts false true t = absurd t
parts false false t = (refl, refl)

one_complex : (x y : Float) (z : Complex) → Both x y z → T (no_zero (record { re = x; im = y })) → record { re = x; im = y } ≡ z
unfolding no_zero
one_complex x y z h t =
    let q = parts (eq x zero_f) (eq y zero_f) t in
    let a : x ≡ z.re = one_number h.re q.0 in
    let b : y ≡ z.im = one_number h.im q.1 in
    (λ k. record { re = a k; im = b k })

-- ---- the answers for one polarization
answers : {r t r' t' : Complex} {x y z x' y' z' : Float} → r ≡ r' → t ≡ t' → x ≡ x' → y ≡ y' → z ≡ z'
    → ◌≡◌ {A = Polarized} (record { r = r; t = t; reflectance = x; transmittance = y; phase = z }) (record { r = r'; t = t'; reflectance = x'; transmittance = y'; phase = z' })
answers a b c d e = cc

-- ---- the shares are those of surface_real
module _ (m : Product) (e0 e : Float) where
  pub shares_are : (amplitudes m e0 e).shares ≡ power m e0 e
  unfolding amplitudes amplitudes_of shares_of power power_of norm_sq
  shares_are = refl

  module _ (M : Matrix) (f : Fine (power m e0 e).r) (g : Fine (power m e0 e).t) (h : For m M) (eta : Complex) (k : Re e eta) (e-is : eta.re ≡ e)
      (nr : T (no_zero (amplitudes m e0 e).r)) (nt : T (no_zero (amplitudes m e0 e).t)) where
    r_is : (amplitudes m e0 e).r ≡ reflection M (real e0) eta
    unfolding amplitudes amplitudes_of
    r_is = one_complex _ _ (reflection M (real e0) eta) (P.reflects_both m M e0 e f g h eta k e-is) nr

    t_is : (amplitudes m e0 e).t ≡ transmission M (real e0) eta
    unfolding amplitudes amplitudes_of
    t_is = one_complex _ _ (transmission M (real e0) eta) (P.transmits_both m M e0 e f g h eta k e-is) nt

    pub solves : polarized (amplitudes m e0 e) ≡ solve M (real e0) eta
    unfolding polarized solve
    solves =
        answers r_is t_is
        (ap (λ (s : Shares). clamp s.r zero_f one) shares_are ∙ P.reflects m M e0 e f g h eta k e-is)
        (ap (λ (s : Shares). clamp s.t zero_f one) shares_are ∙ P.transmits m M e0 e f g h eta k e-is)
        (ap arg r_is)
