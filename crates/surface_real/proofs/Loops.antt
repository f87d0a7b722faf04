-- A loop that joins one film after the other. Assumes nothing.
use mathlib.Core.Path.{◌≡◌, refl, sym, ap, ap₂, ◌∙◌}
use mathlib.Core.Bool.{Bool}
use Prim.Native.Nat.{ℕ, ◌+◌}
use native.Mathlib.Numerals.{add-one}
use Rattle.thin_film_layers.specs.Internal.{nth_index}
use Rattle.surface_real.specs.declared.Film.{Film}
use Rattle.surface_real.specs.declared.Stack.{Stack}
use Rattle.surface_real.specs.Internal.{join}
use Rattle.surface_real.specs.InternalFilms.{joined}

module _ (f : ℕ → Film) (reversed : Bool) (n : ℕ) where
  pub none : (k : Stack) → k ≡ joined f reversed n 0 k
  unfolding joined
  none k = refl

  pub next : (i : ℕ) (k m m' : Stack) (g : Film) → m ≡ joined f reversed n i k → g ≡ f (nth_index reversed n i) → m' ≡ join m g → m' ≡ joined f reversed n (i + 1) k
  unfolding joined
  next i k m m' g m_is g-is m'-is = m'-is ∙ ap₂ join m_is g-is ∙ ap (λ (z : ℕ). joined f reversed n z k) (sym (add-one i))

  pub all : (i : ℕ) (k m : Stack) → i ≡ n → m ≡ joined f reversed n i k → m ≡ joined f reversed n n k
  all i k m e is = is ∙ ap (λ (z : ℕ). joined f reversed n z k) e
