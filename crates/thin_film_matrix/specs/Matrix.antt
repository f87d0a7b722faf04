-- Two-by-two matrices of complex numbers, as nested lists: mat_mul_2x2 of thin_film.rs. Definitions only.
use Rattle.std.specs.Prelude.{ℕ, List, [], ◌∷◌, get_or}
use Rattle.std.specs.Float.{nan}
use Rattle.ieee.specs.Functions.{one}
use Rattle.thin_film_complex.specs.declared.Complex.{Complex}
use Rattle.thin_film_complex.specs.Complex.{real, zero, ◌⊞◌, ◌⊠◌}

abbrev pub Matrix : Type 0
Matrix = List (List Complex)

-- what a list gives past its end
abbrev pub none : Complex
none = record { re = nan; im = nan }

-- m[i][j]
abbrev pub at : Matrix → ℕ → ℕ → Complex
at m i j = get_or (get_or m i []) j none

-- [[a, b], [c, d]]
abbrev pub matrix : Complex → Complex → Complex → Complex → Matrix
matrix a b c d = (a ∷ b ∷ []) ∷ (c ∷ d ∷ []) ∷ []

-- a b + c d
unfoldable pub dot : Complex → Complex → Complex → Complex → Complex
dot a b c d = a ⊠ b ⊞ c ⊠ d

unfoldable pub mat_mul : Matrix → Matrix → Matrix
mat_mul a b =
    matrix
    (dot (at a 0 0) (at b 0 0) (at a 0 1) (at b 1 0))
    (dot (at a 0 0) (at b 0 1) (at a 0 1) (at b 1 1))
    (dot (at a 1 0) (at b 0 0) (at a 1 1) (at b 1 0))
    (dot (at a 1 0) (at b 0 1) (at a 1 1) (at b 1 1))

-- initial 2x2 identity matrices
abbrev pub identity : Matrix
identity = matrix (real one) zero zero (real one)
