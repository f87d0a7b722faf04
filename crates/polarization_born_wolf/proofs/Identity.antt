-- The conversion's matrix, four times over, applied to a beam's Stokes parameters: four times those of the transformed beam. In any arithmetic
-- as a formula, over ℤ as an identity. Assumes nothing.
use mathlib.Core.Path.{◌≡◌}
use mathlib.Core.List.{List, [], ◌∷◌}
use Prim.Native.Nat.{ℕ}
use lib.Dec.{T}
use lib.IntN.{ℤ, pos, negsuc}
use Rattle.polarization_stokes.specs.BornWolf.{Arithmetic, Number, Parameters, in_parts, exact}
use Rattle.polarization_born_wolf.specs.Claim.{dot}
use Rattle.whole_ring.proofs.Solver.{Ex, var, con, ◌:+◌, ◌:*◌, opp, identity, left, eval}

module _ {A : Type 0} (K : Arithmetic A) (unit : ℤ → A) where
  abbrev pub number : ℤ → ℤ → Number A
  number x y = record { re = unit x; im = unit y }

  -- the transformed beam's parameters
  abbrev pub response : Number A → Number A → Number A → Number A → Number A → Number A → Parameters A
  response p q r s x y = in_parts K (dot K p x q y) (dot K r x s y)

  -- a half in quarters, and a quarter
  abbrev pub twice : A → A
  twice x = K.times (K.times (unit (pos 1)) x) (unit (pos 2))

  abbrev pub once : A → A
  once x = K.times (unit (pos 1)) x

  -- a row times a beam's parameters, in quarters
  abbrev pub row_times : A → A → A → A → A → A → Parameters A → A
  row_times x y plus minus plus_i minus_i s =
      K.plus (K.plus (K.plus (K.plus (unit (pos 0)) (K.times (twice (K.plus x y)) s.s0)) (K.times (twice (K.minus x y)) s.s1)) (K.times (once (K.minus plus minus)) s.s2))
      (K.times (once (K.minus plus_i minus_i)) s.s3)

  module _ (p q r s x y : Number A) where
    abbrev pub to : ℤ → ℤ → ℤ → ℤ → Parameters A
    to a b c d = response p q r s (number a b) (number c d)

    -- one of the four parameters of the matrix applied to the beam's
    abbrev pub before : (Parameters A → A) → A
    before f =
        row_times (f (to (pos 1) (pos 0) (pos 0) (pos 0))) (f (to (pos 0) (pos 0) (pos 1) (pos 0)))
        (f (to (pos 1) (pos 0) (pos 1) (pos 0))) (f (to (pos 1) (pos 0) (negsuc 0) (pos 0)))
        (f (to (pos 1) (pos 0) (pos 0) (pos 1))) (f (to (pos 1) (pos 0) (pos 0) (negsuc 0))) (in_parts K x y)

    abbrev pub after : (Parameters A → A) → A
    after f = K.times (f (response p q r s x y)) (unit (pos 4))

-- ---- as expressions in twelve variables
abbrev written : Arithmetic Ex
written = record { plus = ◌:+◌; minus = λ a b. a :+ opp b; times = ◌:*◌; opposite = opp; two = con (pos 2) }

abbrev at : ℕ → ℕ → Number Ex
at i j = record { re = var i; im = var j }

abbrev left_of : (Parameters Ex → Ex) → Ex
left_of = before written con (at 0 1) (at 2 3) (at 4 5) (at 6 7) (at 8 9) (at 10 11)

abbrev right_of : (Parameters Ex → Ex) → Ex
right_of = after written con (at 0 1) (at 2 3) (at 4 5) (at 6 7) (at 8 9) (at 10 11)

abbrev same : ℤ → ℤ
same x = x

module _ (p q r s x y : Number ℤ) where
  abbrev values : List ℤ
  values = p.re ∷ p.im ∷ q.re ∷ q.im ∷ r.re ∷ r.im ∷ s.re ∷ s.im ∷ x.re ∷ x.im ∷ y.re ∷ y.im ∷ []

  law : (f : Parameters Ex → Ex) → T (left (left_of f) (right_of f)) → eval values (left_of f) ≡ eval values (right_of f)
  law f t = identity (left_of f) (right_of f) t values

  pub first : before exact same p q r s x y (λ (w : Parameters ℤ). w.s0) ≡ after exact same p q r s x y (λ (w : Parameters ℤ). w.s0)
  first = law (λ w. w.s0) tt

  pub second : before exact same p q r s x y (λ (w : Parameters ℤ). w.s1) ≡ after exact same p q r s x y (λ (w : Parameters ℤ). w.s1)
  second = law (λ w. w.s1) tt

  pub third : before exact same p q r s x y (λ (w : Parameters ℤ). w.s2) ≡ after exact same p q r s x y (λ (w : Parameters ℤ). w.s2)
  third = law (λ w. w.s2) tt

  pub fourth : before exact same p q r s x y (λ (w : Parameters ℤ). w.s3) ≡ after exact same p q r s x y (λ (w : Parameters ℤ). w.s3)
  fourth = law (λ w. w.s3) tt
