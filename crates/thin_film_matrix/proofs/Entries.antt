-- Two matrices are equal by their entries. Assumes nothing.
use mathlib.Core.Path.{◌≡◌}
use mathlib.Core.List.{List, [], ◌∷◌}
use Rattle.thin_film_complex.specs.declared.Complex.{Complex}

pub four : {a b c d a' b' c' d' : Complex} → a ≡ a' → b ≡ b' → c ≡ c' → d ≡ d' → ◌≡◌ {A = List (List Complex)} ((a ∷ b ∷ []) ∷ (c ∷ d ∷ []) ∷ []) ((a' ∷ b' ∷ []) ∷ (c' ∷ d' ∷ []) ∷ [])
four e f g h = cc
