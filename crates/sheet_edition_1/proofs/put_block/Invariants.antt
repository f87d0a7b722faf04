-- `sheet_edition_1::put_block` meets its contract. The loop's invariant: the first j words are written. Assumes nothing.
use mathlib.Core.Path.{◌≡◌}
use mathlib.Core.List.{List}
use Prim.Native.Nat.{ℕ, ◌*◌}
use lib.ListN.{length, take}
use lib.Seq.{sets}
use Rattle.sheet.specs.Sheet.{bytes}
use Rattle.sheet_edition_1.specs.Internal.{new_words}
use Rattle.sheet_edition_1.proofs.put_block.Given as goal

-- the first j words are written
pub record Half (ws output₀ output : List ℕ) (to j : ℕ) : Type 0 where
  pub long : length output ≡ length output₀
  pub wrote : output ≡ sets output₀ (4 * to) (bytes (take j ws))

abbrev pub invariant-loop-j : goal.invariant-loop-j
invariant-loop-j l = Half (new_words l.wavelength_nm l.src l.at) l.initial.output l.output l.to l.j
