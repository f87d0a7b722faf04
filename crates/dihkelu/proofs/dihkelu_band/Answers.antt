-- `dihkelu::dihkelu_band` meets its contract. Assumes nothing.
use mathlib.Core.Path.{◌≡◌, sym, ap, ◌∙◌}
use mathlib.Core.List.{List}
use Prim.Native.Nat.{ℕ, ◌%◌, ◌^◌}
use borrow.Author.Rules.{rules}
use lib.Ieee.{Float}
use Rattle.refusal.specs.declared.Refusal.{Refusal}
use Rattle.refusal.specs.Outcome.{refused as refused-with, outcome, number_of, place_of}
use Rattle.sheet.proofs.Stands.{Known, bytes_from}
use Rattle.band.specs.Band.{band}
use Rattle.c_call.specs.Call.{done, packed, answered}
use Rattle.c_call.proofs.Returned.{sound_apart, refuses, answers}
use Rattle.dihkelu.specs.Band.{banded}
use Rattle.dihkelu.proofs.Band.{band_sound}
use Rattle.dihkelu.proofs.dihkelu_band.Goals as goal

refused : (src : List ℕ) → Known src → (ws : List Float) (ns : List ℕ) (r : Refusal) (n : ℕ) (list : List Float) → refused-with r ≡ band src ws ns → n ≡ packed (number_of r) (place_of r % 2 ^ 32) → done n list ≡ answered banded (band src ws ns) list
refused src known ws ns r n list e is = refuses banded r (band src ws ns) n list e (sound_apart (band src ws ns) (band_sound src (bytes_from src known) ws ns)) is

pub returns-in-Ok : goal.returns-in-Ok
returns-in-Ok c = answers banded _ _ _ _ (sym (ap outcome c.in-Ok.is) ∙ c.band.ensures) c.put_both.ensures

pub returns-in-Err : goal.returns-in-Err
returns-in-Err c = refused _ c.type_inv.sheet _ _ _ _ _ (sym (ap outcome c.in-Err.is) ∙ c.band.ensures) c.packed.ensures
