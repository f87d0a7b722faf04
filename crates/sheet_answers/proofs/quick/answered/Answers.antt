-- `sheet_answers::quick::answered` meets its contract. Assumes nothing.
use mathlib.Core.Path.{◌≡◌, sym, ap, ◌∙◌}
use Rattle.refusal.specs.declared.Refusal.{Refusal}
use Rattle.refusal.specs.Outcome.{answer, refused, map, outcome}
use Rattle.thin_film_solver.specs.declared.CoatingResponse.{CoatingResponse}
use Rattle.surface.specs.Answers.{coated_powers}
use Rattle.sheet_answers.proofs.quick.answered.Goals as goal
use Rattle.std.specs.Prelude.{Ok, Err, Result}

response : (a : Result CoatingResponse Refusal) (r : CoatingResponse) → a ≡ Ok r → answer (coated_powers r) ≡ map coated_powers (outcome a)
response a r e = ap (λ (k : Result CoatingResponse Refusal). map coated_powers (outcome k)) (sym e)

refusal : (a : Result CoatingResponse Refusal) (r : Refusal) → a ≡ Err r → refused r ≡ map coated_powers (outcome a)
refusal a r e = ap (λ (k : Result CoatingResponse Refusal). map coated_powers (outcome k)) (sym e)

pub returns-in-Ok : goal.returns-in-Ok
returns-in-Ok c = ap answer c.coated_powers.ensures ∙ response _ _ c.in-Ok.is

pub returns-in-Err : goal.returns-in-Err
returns-in-Err c = refusal _ _ c.in-Err.is
