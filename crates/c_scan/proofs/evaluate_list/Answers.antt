-- `c_scan::evaluate_list` meets its contract. Assumes nothing.
use mathlib.Core.Path.{◌≡◌, ap, ◌∙◌}
use mathlib.Core.List.{List}
use Prim.Native.Nat.{ℕ, ◌^◌}
use lib.Ieee.{Float}
use Rattle.refusal.specs.Outcome.{Outcome, refusal}
use Rattle.thin_film_solver.specs.declared.CoatingResponse.{CoatingResponse}
use Rattle.c_call.specs.Call.{done, packed, answered}
use Rattle.c_scan.specs.Scan.{scanned}
use Rattle.c_scan.proofs.Written.{unequal, too_many, in_pairs}
use Rattle.c_scan.proofs.evaluate_list.Goals as goal

refused : (o : Outcome (List CoatingResponse)) (n : ℕ) (list : List Float) → refusal 1 (2 ^ 28) ≡ o → n ≡ packed 1 (2 ^ 28) → done n list ≡ answered scanned o list
refused o n list e is = ap (λ (k : ℕ). done k list) is ∙ ap (λ (z : Outcome (List CoatingResponse)). answered scanned z list) e

pub returns-then-angles_rad-wavelengths_nm : goal.returns-then-angles_rad-wavelengths_nm
returns-then-angles_rad-wavelengths_nm c = refused _ _ _ (unequal _ _ _ _ _ _ _ c.if-angles_rad-wavelengths_nm.true) c.packed_at.ensures

pub returns-then-angles_rad-ge268435456 : goal.returns-then-angles_rad-ge268435456
returns-then-angles_rad-ge268435456 c = refused _ _ _ (too_many _ _ _ _ _ _ _ c.if-angles_rad-wavelengths_nm.false c.if-angles_rad-ge268435456.true) c.packed_at-then-angles_rad-ge268435456.ensures

pub returns : goal.returns
returns c = c.paired.ensures ∙ ap (λ (o : Outcome (List CoatingResponse)). answered scanned o c.args.list.now) (in_pairs _ _ _ _ _ _ _ c.if-angles_rad-wavelengths_nm.false c.if-angles_rad-ge268435456.false)
