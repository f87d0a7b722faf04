-- What is returned and left where there are 8 numbers, and where there are not, by either conversion. Assumes nothing.
use mathlib.Core.Path.{◌≡◌, ap, ◌∙◌}
use mathlib.Core.Bool.{Bool, true, false, cond}
use mathlib.Core.List.{List}
use Prim.Native.Nat.{ℕ}
use lib.Dec.{eqb, lit<}
use lib.ListN.{length}
use lib.Ieee.{Float}
use borrow.Author.Tests.{eq-eqb, ne_eqb}
use Rattle.refusal.specs.Outcome.{answer, invalid_parameter}
use Rattle.polarization_mueller.specs.declared.JonesMatrix.{JonesMatrix}
use Rattle.polarization_mueller.specs.declared.MuellerMatrix.{MuellerMatrix}
use Rattle.c_call.specs.Call.{Done, done, packed, written, answered}
use Rattle.c_call.specs.Layout.{rows}
use Rattle.c_call.proofs.Returned.{Sound}
use Rattle.c_mueller.specs.Mueller.{jones, converted}

module _ (conversion : JonesMatrix → MuellerMatrix) (numbers list : List Float) where
  pub refused : (n : ℕ) → (length numbers ≡ 8 → ⊥) → n ≡ packed 1 0 → done n list ≡ answered rows (converted conversion numbers) list
  refused n h e = simp (ne_eqb _ _ h) (ap (λ (k : ℕ). done k list) e)

  pub wrote : (d : Done) (j : JonesMatrix) (m : MuellerMatrix) → length numbers ≡ 8 → j ≡ jones numbers → m ≡ conversion j → d ≡ written (rows m) list → d ≡ answered rows (converted conversion numbers) list
  wrote d j m h k e is = simp (eq-eqb _ _ h) (is ∙ ap (λ (z : MuellerMatrix). written (rows z) list) (e ∙ ap conversion k))

  -- the refusal's number is not 0
  pub converted_sound : Sound (converted conversion numbers)
  converted_sound = go (eqb (length numbers) 8)
    where
      go : (b : Bool) → Sound (cond b (answer (conversion (jones numbers))) invalid_parameter)
      go true = tt
      go false = (lit< tt, lit< tt)
