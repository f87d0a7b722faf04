-- Two-by-two matrices as the walks by hand meet them: their row, and its laws. Assumes `Logic`.
use seplogic.Ra.Ura.{Ura}
use mir.Syntax.{Ty, ty_array}
use types.Logic.{Logic}
use denote.RattleType.{RattleType}
use denote.Laws.{Is, Makes, Lawful}
use denote.Array.{Array, Array-Makes, Array-Lawful}
use denote.Struct.Laws as LL
use Rattle.thin_film_complex.specs.contracts.Complex as C
use Rattle.thin_film_complex.proofs.Complex.TheLaws as C'

abbrev pub Mx : RattleType
Mx = Array (Array C.the_row 2) 2

abbrev pub mx_mir : Ty
mx_mir = ty_array (ty_array C'.mir 2) 2

module _ {M : Type 1} {𝓤 : Ura M} (𝓛 : Logic 𝓤) where
  pub mx_makes : Makes 𝓛 Mx (Is Mx)
  mx_makes = Array-Makes 𝓛 (Array C.the_row 2) (Array-Makes 𝓛 C.the_row (LL.makes C.the_type C'.the_plain 𝓛) 2) 2

  pub mx_lawful : Lawful 𝓛 Mx
  mx_lawful = Array-Lawful 𝓛 (Array C.the_row 2) (Array-Lawful 𝓛 C.the_row (LL.lawful C.the_type C'.the_laws 𝓛) 2) 2
