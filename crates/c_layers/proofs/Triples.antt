-- The layers of a flat list: how many there are, and where each stands. Assumes nothing.
use mathlib.Core.Path.{◌≡◌, refl, ◌∙◌, ap}
use Prim.Native.Nat.{ℕ, zero, suc, ◌+◌, ◌*◌, ◌/◌, ◌<◌}
use native.Mathlib.Omega.{arith}
use mathlib.Core.List.{List, [], ◌∷◌}
use lib.ListN.{length, get_or}
use lib.Ieee.{Float, nan}
use Rattle.thin_film_solver.specs.declared.ThinFilmLayer.{ThinFilmLayer}
use Rattle.thin_film_layers.specs.Evaluation.{no_layer}
use Rattle.c_layers.specs.Evaluate.{layers}

pub count : (flat : List Float) → length (layers flat) ≡ length flat / 3
unfolding layers
count [] = refl
count (n ∷ []) = refl
count (n ∷ k ∷ []) = refl
count (n ∷ k ∷ thickness ∷ flat) = ap suc (count flat) ∙ omega arith

-- three numbers, at three places, and from a place on
abbrev from : List Float → ℕ → ℕ → ℕ → ThinFilmLayer
from flat a b d = record { n = get_or flat a nan; k = get_or flat b nan; thickness_nm = get_or flat d nan }

abbrev pub three : List Float → ℕ → ThinFilmLayer
three flat m = from flat m (m + 1) (m + 2)

-- past the first layer
later : (n k thickness : Float) (flat : List Float) (m : ℕ) → three (n ∷ k ∷ thickness ∷ flat) (3 + m) ≡ three flat m
later n k thickness flat m =
    let l : List Float = n ∷ k ∷ thickness ∷ flat in
    let e₀ : 3 + m ≡ suc (suc (suc m)) = omega arith in
    let e₁ : 3 + m + 1 ≡ suc (suc (suc (m + 1))) = omega arith in
    let e₂ : 3 + m + 2 ≡ suc (suc (suc (m + 2))) = omega arith in
    ap (λ (a : ℕ). from l a (3 + m + 1) (3 + m + 2)) e₀ ∙ ap (λ (a : ℕ). from l (suc (suc (suc m))) a (3 + m + 2)) e₁ ∙ ap (λ (a : ℕ). from l (suc (suc (suc m))) (suc (suc (suc (m + 1)))) a) e₂

pub at : (flat : List Float) (j : ℕ) → 3 * j + 2 < length flat → three flat (3 * j) ≡ get_or (layers flat) j no_layer
unfolding layers
at [] j h = absurd (omega arith)
at (n ∷ []) j h = absurd (omega arith)
at (n ∷ k ∷ []) j h = absurd (omega arith)
at (n ∷ k ∷ thickness ∷ flat) zero h = refl
at (n ∷ k ∷ thickness ∷ flat) (suc j) h =
    let e : 3 * suc j ≡ 3 + 3 * j = omega arith in
    ap (three (n ∷ k ∷ thickness ∷ flat)) e ∙ later n k thickness flat (3 * j) ∙ at flat j (omega arith)
