-- `response_real::finish` meets its contract. Assumes nothing.
use mathlib.Core.Path.{◌≡◌, sym, ◌∙◌}
use mathlib.Core.Bool.{Bool, true, false}
use lib.Ieee.{Float}
use Rattle.ieee.specs.Operators.{◌⊗◌, ◌⊘◌}
use Rattle.ieee.specs.Functions.{max}
use Rattle.thin_film_complex.specs.declared.Complex.{Complex}
use Rattle.thin_film_complex.specs.Complex.{real, mul, div}
use Rattle.thin_film_solver.specs.declared.CoatingResponse.{CoatingResponse}
use Rattle.thin_film_solver.specs.declared.Incidence.{Incidence}
use Rattle.thin_film_solver.specs.declared.Polarized.{Polarized}
use Rattle.thin_film_solver.specs.Solve.{least_cos, respond, no_response}
use Rattle.surface_real.specs.declared.Stack.{Stack}
use Rattle.surface_real.specs.Internal.{real_part, cos_theta_sub}
use Rattle.response_real.specs.declared.Amplitudes.{Amplitudes}
use Rattle.response_real.specs.declared.Known.{Known}
use Rattle.response_real.specs.Internal.{amplitudes, certain, polarized, known_of, finish}
use borrow.Author.Rules.{rules}
use Rattle.response_real.proofs.finish.Goals as goal

both : (i : Incidence) (k : Stack) (q : Float) (z n x y : Complex) (a b m : Float) (s p : Amplitudes) → q ≡ cos_theta_sub (i.snell ⊘ i.n_substrate) → z ≡ real q → n ≡ real i.n_substrate
    → x ≡ mul n z → a ≡ real_part x → y ≡ div n z → b ≡ real_part y → m ≡ max i.cos_theta0 least_cos
    → s ≡ amplitudes k.s (i.n_incident ⊗ i.cos_theta0) a → p ≡ amplitudes k.p (i.n_incident ⊘ m) b → known_of s p ≡ finish i k
unfolding finish
both i k q z n x y a b m s p h1 h2 h3 h4 h5 h6 h7 h8 h9 h10 = simp (h10, h9, h8, h7, h6, h5, h4, h3, h2, h1)

module _ (s p : Amplitudes) (f : Bool) (f-is : f ≡ certain s p) where
  known : f ≡ true → (a b : Polarized) (r : CoatingResponse) → a ≡ polarized s → b ≡ polarized p → r ≡ respond a b → ◌≡◌ {A = Known} (record { known = true; response = r }) (known_of s p)
  unfolding known_of
  known e a b r h1 h2 h3 = let h : certain s p ≡ true = sym f-is ∙ e in simp (h, h3, h1, h2)

  unknown : f ≡ false → (r : CoatingResponse) → r ≡ no_response → ◌≡◌ {A = Known} (record { known = false; response = r }) (known_of s p)
  unfolding known_of
  unknown e r h1 = let h : certain s p ≡ false = sym f-is ∙ e in simp (h, h1)

pub returns-then-certain : goal.returns-then-certain
returns-then-certain c =
    known _ _ _ c.certain.ensures c.if-certain.true _ _ _ c.polarized-of_s.ensures c.polarized-of_p.ensures c.respond-response.ensures
    ∙ both _ _ _ _ _ _ _ _ _ _ _ _ c.cos_theta_sub.ensures c.real-cos.ensures c.real-n_sub.ensures c.mul.ensures c.real_part-eta_s.ensures c.div.ensures c.real_part-eta_p.ensures c.max.ensures c.amplitudes_of-s.ensures c.amplitudes_of-p.ensures

pub returns-else-certain : goal.returns-else-certain
returns-else-certain c =
    unknown _ _ _ c.certain.ensures c.if-certain.false _ c.no_response-response.ensures
    ∙ both _ _ _ _ _ _ _ _ _ _ _ _ c.cos_theta_sub.ensures c.real-cos.ensures c.real-n_sub.ensures c.mul.ensures c.real_part-eta_s.ensures c.div.ensures c.real_part-eta_p.ensures c.max.ensures c.amplitudes_of-s.ensures c.amplitudes_of-p.ensures
