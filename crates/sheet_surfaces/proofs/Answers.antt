-- Every surface of an admitted sheet is answered. Assumes nothing.
use mathlib.Core.List.{List, [], ◌∷◌}
use Prim.Native.Nat.{ℕ, zero, suc, ◌+◌, ◌≤◌, ◌<◌}
use native.Mathlib.Omega.{arith}
use lib.Dec.{T}
use lib.ListN.{length}
use lib.Ieee.{Float, binary64, fits}
use lib.Ieee.Bits.{of_bits-fits}
use Rattle.thin_film_solver.specs.declared.ThinFilmLayer.{ThinFilmLayer}
use Rattle.thin_film_bounds.specs.Solver.{Each}
use Rattle.gate_limits.specs.Limits.{wavelength_passes, passes}
use Rattle.surface.specs.Finite.{Answered, Held}
use Rattle.surface.proofs.Finite.{every_surface_answered}
use Rattle.sheet.specs.Blocks.{All}
use Rattle.sheet.specs.Sheet.{SheetLayer, layer, cauchy, SheetSurface, nth, Sheet, WellFormed}
use Rattle.sheet_values.specs.Values.{value, films, surface_value, met_at}
use Rattle.gate.specs.Claim.{WithinLimits}
use Rattle.gate.proofs.Wavelengths.{films_length, met}

pub all_nth : (P : SheetSurface → Type 0) (ys : List SheetSurface) (i : ℕ) → All P ys → i < length ys → P (nth ys i)
all_nth P [] i a h = absurd (omega arith)
all_nth P (y ∷ ys) zero a h = a.0
all_nth P (y ∷ ys) (suc i) a h = all_nth P ys i a.1 (omega arith)

-- its numbers are f64s
each_held : (w : Float) (ls : List SheetLayer) → Each (λ (l : ThinFilmLayer). T (fits binary64 l.k)) (films w ls)
unfolding films
each_held w [] = tt
each_held w (layer n k t ∷ ls) = (of_bits-fits binary64 k, each_held w ls)
each_held w (cauchy a b c t ∷ ls) = (of_bits-fits binary64 0, each_held w ls)

held : (w : Float) (y : SheetSurface) → Held (surface_value y) (films w y.layers)
held w y = record { angle = of_bits-fits binary64 y.angle; each_k = each_held w y.layers }

-- within the limits at a wavelength
abbrev pub Good : Float → SheetSurface → Type 0
Good w y = T (passes w (surface_value y) (films w y.layers))

-- a surface within the limits, with 16 layers at the most
pub answered : (w : Float) → T (wavelength_passes w) → (y : SheetSurface) → Good w y → length y.layers ≤ 16 → Answered w (surface_value y) (films w y.layers)
answered w t y p h = every_surface_answered w (surface_value y) (films w y.layers) (held w y) t p (omega (arith, films_length w y.layers))

-- the i-th surface of an admitted sheet, by a list of steps alone
pub nth_answered : (x : Sheet) → WellFormed x → WithinLimits x → (i : ℕ) → i < length x.surfaces → let w = met_at (value x.wavelength) x.surfaces i in let y = nth x.surfaces i in Answered w (surface_value y) (films w y.layers)
nth_answered x f h i lt = let m = met x h i lt in answered (met_at (value x.wavelength) x.surfaces i) m.0 (nth x.surfaces i) m.1 (all_nth _ x.surfaces i f.surfaces lt).few
