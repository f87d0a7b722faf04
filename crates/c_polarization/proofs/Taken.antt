-- What is returned and left where there are as many numbers as are needed, and where there are not. Assumes nothing.
use mathlib.Core.Path.{◌≡◌, ap, ◌∙◌}
use mathlib.Core.Bool.{Bool, true, false, ◌&&◌, cond}
use mathlib.Core.List.{List}
use Prim.Native.Nat.{ℕ}
use lib.Dec.{eqb, lit<}
use lib.ListN.{length}
use lib.Ieee.{Float}
use borrow.Author.Tests.{eq-eqb, ne_eqb}
use Rattle.refusal.specs.Outcome.{answer, invalid_parameter}
use Rattle.c_call.specs.Call.{Done, done, packed, Reply, written, answered}
use Rattle.c_call.proofs.Returned.{Sound}
use Rattle.c_polarization.specs.Numbers.{of, of_two}

module _ {A : Type 0} (layout : A → Reply) where
  either : (b : Bool) (a : A) → Sound (cond b (answer a) invalid_parameter)
  either true a = tt
  either false a = (lit< tt, lit< tt)

  module _ (count : ℕ) (call : List Float → A) (numbers list : List Float) where
    pub refused : (n : ℕ) → (length numbers ≡ count → ⊥) → n ≡ packed 1 0 → done n list ≡ answered layout (of count call numbers) list
    refused n h e = simp (ne_eqb (length numbers) count h) (ap (λ (k : ℕ). done k list) e)

    pub wrote : (d : Done) (a : A) → length numbers ≡ count → a ≡ call numbers → d ≡ written (layout a) list → d ≡ answered layout (of count call numbers) list
    wrote d a h e is = simp (eq-eqb (length numbers) count h) (is ∙ ap (λ (z : A). written (layout z) list) e)

    pub sound : Sound (of count call numbers)
    sound = either (eqb (length numbers) count) (call numbers)

  module _ (count other : ℕ) (call : List Float → List Float → A) (numbers others list : List Float) where
    pub first_refused : (n : ℕ) → (length numbers ≡ count → ⊥) → n ≡ packed 1 0 → done n list ≡ answered layout (of_two count other call numbers others) list
    first_refused n h e = simp (ne_eqb (length numbers) count h) (ap (λ (k : ℕ). done k list) e)

    pub second_refused : (n : ℕ) → length numbers ≡ count → (length others ≡ other → ⊥) → n ≡ packed 1 0 → done n list ≡ answered layout (of_two count other call numbers others) list
    second_refused n g h e = simp (eq-eqb (length numbers) count g, ne_eqb (length others) other h) (ap (λ (k : ℕ). done k list) e)

    pub wrote_two : (d : Done) (a : A) → length numbers ≡ count → length others ≡ other → a ≡ call numbers others → d ≡ written (layout a) list → d ≡ answered layout (of_two count other call numbers others) list
    wrote_two d a g h e is = simp (eq-eqb (length numbers) count g, eq-eqb (length others) other h) (is ∙ ap (λ (z : A). written (layout z) list) e)

    pub sound_two : Sound (of_two count other call numbers others)
    sound_two = either (eqb (length numbers) count && eqb (length others) other) (call numbers others)
