-- `surface_real::finish` meets its contract. Assumes nothing.
use mathlib.Core.Path.{◌≡◌, ◌∙◌}
use mathlib.Core.Bool.{Bool}
use lib.Ieee.{Float}
use lib.Ieee.Scale.{finite}
use Rattle.ieee.specs.Operators.{◌⊕◌, ◌⊗◌, ◌⊘◌}
use Rattle.ieee.specs.Functions.{zero_f, one, max, clamp}
use Rattle.thin_film_complex.specs.declared.Complex.{Complex}
use Rattle.thin_film_complex.specs.Complex.{real, mul, div}
use Rattle.thin_film_solver.specs.declared.Incidence.{Incidence}
use Rattle.thin_film_solver.specs.Solve.{least_cos}
use Rattle.surface_real.specs.declared.Stack.{Stack}
use Rattle.surface_real.specs.declared.Shares.{Shares}
use Rattle.surface_real.specs.declared.Known.{Known}
use Rattle.surface_real.specs.Internal.{real_part, cos_theta_sub, power, known_of, finish}
use borrow.Author.Rules.{rules}
use Rattle.surface_real.proofs.finish.Goals as goal

shares : (i : Incidence) (k : Stack) (q : Float) (z n x y : Complex) (a b m : Float) (s p : Shares) → q ≡ cos_theta_sub (i.snell ⊘ i.n_substrate) → z ≡ real q → n ≡ real i.n_substrate
    → x ≡ mul n z → a ≡ real_part x → y ≡ div n z → b ≡ real_part y → m ≡ max i.cos_theta0 least_cos
    → s ≡ power k.s (i.n_incident ⊗ i.cos_theta0) a → p ≡ power k.p (i.n_incident ⊘ m) b → known_of s p ≡ finish i k
unfolding finish
shares i k q z n x y a b m s p h1 h2 h3 h4 h5 h6 h7 h8 h9 h10 = simp (h10, h9, h8, h7, h6, h5, h4, h3, h2, h1)

last : (s p : Shares) (a b c d : Float) (f : Bool) → a ≡ clamp s.r zero_f one → b ≡ clamp p.r zero_f one → c ≡ clamp s.t zero_f one → d ≡ clamp p.t zero_f one
    → f ≡ finite ((s.r ⊕ s.t) ⊕ (p.r ⊕ p.t))
    → ◌≡◌ {A = Known} (record { known = f; powers = record { reflectance_s = a; reflectance_p = b; transmittance_s = c; transmittance_p = d } }) (known_of s p)
unfolding known_of
last s p a b c d f h1 h2 h3 h4 h5 = simp (h5, h4, h3, h2, h1)

pub returns : goal.returns
returns c =
    last _ _ _ _ _ _ _ c.clamp.ensures c.clamp-2.ensures c.clamp-3.ensures c.clamp-4.ensures c.is_finite-known.ensures
    ∙ shares _ _ _ _ _ _ _ _ _ _ _ _ c.cos_theta_sub.ensures c.real-cos.ensures c.real-n_sub.ensures c.mul.ensures c.real_part-eta_s.ensures c.div.ensures c.real_part-eta_p.ensures c.max.ensures c.power-s.ensures c.power-p.ensures
