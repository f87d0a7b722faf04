-- The i-th layer of a preset coating's list. Assumes nothing.
use Prim.Native.Nat.{ℕ, zero, suc, ◌+◌, ◌*◌, ◌%◌, ◌<◌}
use native.Mathlib.Nat.{not-suc-le-zero, le_of_suc-le-suc}
use native.Mathlib.Omega.{arith}
use mathlib.Core.Path.{◌≡◌, refl}
use mathlib.Core.List.{List, [], ◌∷◌}
use lib.ListN.{length, get_or}
use lib.Ieee.{Float}
use Rattle.thin_film_solver.specs.Solve.{dielectric}
use Rattle.thin_film_layers.specs.Evaluation.{no_layer}
use Rattle.thin_film_presets.specs.Layers.{quarter_wave, bragg_layers}

-- within a list it is the same whatever stands for what is past its end
pub default : {A : Type 0} (l : List A) (i : ℕ) (d e : A) → i < length l → get_or l i d ≡ get_or l i e
default [] i d e h = absurd (not-suc-le-zero h)
default (x ∷ xs) zero d e h = refl
default (x ∷ xs) (suc i) d e h = default xs i d e (le_of_suc-le-suc h)

-- (H L)^pairs H: the even places hold the high index, the odd places the low one
module _ (high low design : Float) where
  pub even : (pairs i : ℕ) → i < 2 * pairs + 1 → i % 2 ≡ 0 → get_or (bragg_layers high low pairs design) i no_layer ≡ dielectric high (quarter_wave design high)
  unfolding bragg_layers
  even zero zero h e = refl
  even zero (suc i) h e = absurd (omega arith)
  even (suc pairs) zero h e = refl
  even (suc pairs) (suc zero) h e = absurd (omega arith)
  even (suc pairs) (suc (suc i)) h e = even pairs i (omega arith) (omega arith)

  pub odd : (pairs i : ℕ) → i < 2 * pairs + 1 → (i % 2 ≡ 0 → ⊥) → get_or (bragg_layers high low pairs design) i no_layer ≡ dielectric low (quarter_wave design low)
  unfolding bragg_layers
  odd pairs zero h e = absurd (e refl)
  odd zero (suc i) h e = absurd (omega arith)
  odd (suc pairs) (suc zero) h e = refl
  odd (suc pairs) (suc (suc i)) h e = odd pairs i (omega arith) (λ z. e (omega (arith, z)))

  first : (pairs : ℕ) → dielectric high (quarter_wave design high) ≡ get_or (bragg_layers high low pairs design) 0 no_layer
  unfolding bragg_layers
  first zero = refl
  first (suc pairs) = refl

  -- the same for any number of pairs that has an i-th layer
  pub alike : (m pairs i : ℕ) → i < 2 * m + 1 → i < 2 * pairs + 1 → get_or (bragg_layers high low m design) i no_layer ≡ get_or (bragg_layers high low pairs design) i no_layer
  unfolding bragg_layers
  alike zero pairs zero h g = first pairs
  alike zero pairs (suc i) h g = absurd (omega arith)
  alike (suc m) pairs zero h g = first pairs
  alike (suc m) zero (suc i) h g = absurd (omega arith)
  alike (suc m) (suc pairs) (suc zero) h g = refl
  alike (suc m) (suc pairs) (suc (suc i)) h g = alike m pairs i (omega arith) (omega arith)
