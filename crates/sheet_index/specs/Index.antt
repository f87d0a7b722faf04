-- The index of a sheet in grammar: of each SURFACE where it begins, how many layers it has, and the sine and the cosine of its angle.
-- Definitions only.
use Rattle.std.specs.Prelude.{ℕ, zero, suc, ◌+◌, ◌-◌, List, set, Float}
use Rattle.std.specs.Float.{binary64}
use Rattle.std.specs.Float.Ieee.{of_bits}
use Rattle.math_trig.specs.Trig.{sin, cos}
use Rattle.sheet.specs.Words.{float}
use Rattle.sheet.specs.Internal.{layer_run, place}

-- f 0, f 1, .. stored in the first n places of a list; the others stay
unfoldable pub filled : {A : Type 0} → (ℕ → A) → ℕ → List A → List A
filled f zero l = l
filled f (suc n) l = set (filled f n l) n (f n)

-- n, and 64 where n is more
abbrev pub at_most_64 : ℕ → ℕ
at_most_64 n = 64 - (64 - n)

-- of the i-th SURFACE
abbrev pub layers_of : List ℕ → ℕ → ℕ
layers_of src i = layer_run 16 src (place src i)

abbrev pub angle_of : List ℕ → ℕ → Float
angle_of src i = of_bits binary64 (float src (place src i + 5))

abbrev pub sine_of : List ℕ → ℕ → Float
sine_of src i = sin (angle_of src i)

abbrev pub cosine_of : List ℕ → ℕ → Float
cosine_of src i = cos (angle_of src i)
