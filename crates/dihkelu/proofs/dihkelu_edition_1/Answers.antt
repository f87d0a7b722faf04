-- `dihkelu::dihkelu_edition_1` meets its contract. Assumes nothing.
use mathlib.Core.Path.{◌≡◌, sym, ap, ◌∙◌, subst}
use mathlib.Core.List.{List}
use Prim.Native.Nat.{ℕ, ◌%◌, ◌^◌}
use borrow.Author.Rules.{rules}
use Rattle.refusal.specs.declared.Refusal.{Refusal}
use Rattle.refusal.specs.Outcome.{Outcome, refused, outcome, number_of, place_of}
use Rattle.sheet.proofs.Stands.{Known, bytes_from}
use Rattle.sheet_edition_1.specs.Edition.{Written, to_edition_1}
use Rattle.c_call.specs.Call.{packed, Apart}
use Rattle.c_call.proofs.Returned.{whole_place}
use Rattle.dihkelu.specs.Edition.{copied, rewritten}
use Rattle.dihkelu.proofs.Rewritten.{Small, fine_apart, fine}
use Rattle.dihkelu.proofs.dihkelu_edition_1.Goals as goal
use Rattle.std.specs.Prelude.{Ok, Err, Result}

module _ (src output out : List ℕ) (g : Result ℕ Refusal) (e : record { result = outcome g; output = out } ≡ to_edition_1 src output) where
  long : (n : ℕ) → g ≡ Ok n → copied n out ≡ rewritten (to_edition_1 src output)
  long n is = ap (λ (z : Result ℕ Refusal). rewritten record { result = outcome z; output = out }) (sym is) ∙ ap rewritten e

  refuses : Known src → (r : Refusal) → g ≡ Err r → (n : ℕ) → n ≡ packed (number_of r) (place_of r % 2 ^ 32) → copied n out ≡ rewritten (to_edition_1 src output)
  refuses known r is n n_is =
      ap (λ (k : ℕ). copied k out) (n_is ∙ whole_place r (outcome g) (ap outcome (sym is)) apart)
      ∙ ap (λ (z : Result ℕ Refusal). rewritten record { result = outcome z; output = out }) (sym is)
      ∙ ap rewritten e
    where
      apart : Apart (outcome g)
      apart = subst Apart (sym (ap (λ (z : Written). z.result) e)) (fine_apart Small (to_edition_1 src output).result (fine src (bytes_from src known) output))

pub returns-in-Ok : goal.returns-in-Ok
returns-in-Ok c = long _ _ _ _ c.to_edition_1.ensures _ c.in-Ok.is

pub returns-in-Err : goal.returns-in-Err
returns-in-Err c = refuses _ _ _ _ c.to_edition_1.ensures c.type_inv.sheet _ c.in-Err.is _ c.packed.ensures
