-- `c_scan::place_case` meets its contract. Assumes nothing.
use mathlib.Core.Path.{sym, ap, ◌∙◌}
use native.Mathlib.Omega.{arith}
use Rattle.refusal.specs.Outcome.{Outcome, outcome}
use Rattle.thin_film_solver.specs.declared.CoatingResponse.{CoatingResponse}
use Rattle.c_scan.specs.Internal.{placed}
use Rattle.c_scan.proofs.Placed.{part}
use Rattle.c_scan.proofs.place_case.Goals as goal

pub offset_bounds-list-at : goal.offset_bounds-list-at
offset_bounds-list-at c = omega (arith, c.well_formed.1.1.1.1.1.1.1.1.0)

pub returns-in-Ok : goal.returns-in-Ok
returns-in-Ok c = part _ _ _ _ _ c.requires c.put_response-wrote.ensures ∙ ap (λ (o : Outcome CoatingResponse). placed c.args.at o c.args.list.now) (sym (ap outcome c.in-Ok.is) ∙ c.evaluate.ensures)

pub returns-in-Err : goal.returns-in-Err
returns-in-Err c = ap (λ (o : Outcome CoatingResponse). placed c.args.at o c.args.list.now) (sym (ap outcome c.in-Err.is) ∙ c.evaluate.ensures)
