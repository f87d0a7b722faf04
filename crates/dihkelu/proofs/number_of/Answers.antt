-- `dihkelu::number_of` meets its contract. Assumes nothing.
use mathlib.Core.Path.{◌≡◌, sym, ap, ◌∙◌}
use Prim.Native.Nat.{ℕ, ◌%◌, ◌^◌}
use borrow.Author.Rules.{rules}
use Rattle.refusal.specs.declared.Refusal.{Refusal}
use Rattle.gate.specs.Gate as Gate
use Rattle.c_call.specs.Call.{packed, Apart, returned}
use Rattle.c_call.proofs.Returned.{whole_place}
use Rattle.dihkelu.proofs.number_of.Goals as goal
use Rattle.refusal.specs.Outcome.{outcome, number_of, place_of}
use Rattle.std.specs.Prelude.{Err, Result}

refused : (g : Result ℕ Refusal) (r : Refusal) (n : ℕ) → g ≡ Err r → Apart (outcome g) → n ≡ packed (number_of r) (place_of r % 2 ^ 32) → n ≡ returned (outcome g)
refused g r n e h is = is ∙ whole_place r (outcome g) (ap outcome (sym e)) h ∙ ap (λ (z : Result ℕ Refusal). returned (outcome z)) (sym e)

pub returns-in-Err : goal.returns-in-Err
returns-in-Err c = refused _ _ _ c.in-Err.is c.requires c.packed.ensures
