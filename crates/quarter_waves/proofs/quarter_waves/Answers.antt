-- `quarter_waves::quarter_waves` meets its contract. Assumes nothing.
use mathlib.Core.Path.{◌≡◌, sym, ap, ◌∙◌, subst}
use mathlib.Core.Bool.{Bool, false, not}
use lib.Dec.{T}
use lib.Ieee.{Float, binary64, fits}
use Rattle.ieee.proofs.Signs.{of_true}
use Rattle.refusal.specs.Outcome.{answer}
use Rattle.quarter_waves.specs.Waves.{quarter_wave, divided, admitted}
use Rattle.quarter_waves.specs.Internal.{Divides}
use Rattle.quarter_waves.proofs.Lengths.{divides, abs_divided}
use Rattle.quarter_waves.proofs.Claim.{within, outside}
use Rattle.quarter_waves.proofs.quarter_waves.Goals as goal

of_false : (b : Bool) → b ≡ false → T (not b)
of_false b e = rw e tt

pub divided-requires : goal.divided-requires
divided-requires c =
    let t : T (admitted c.args.n c.args.thickness_nm c.args.wavelength_nm) = of_true _ (sym c.admitted.ensures ∙ c.if-admitted.true) in
    subst (λ (x : Float). Divides x (quarter_wave c.args.wavelength_nm)) (sym c.abs-p.ensures) (divides c.args.n c.args.thickness_nm c.args.wavelength_nm ((let it : T (fits binary64 c.args.wavelength_nm) = subst T (sym c.well_formed.1.1.0.1) tt in it)) t)

pub returns-then-admitted : goal.returns-then-admitted
returns-then-admitted c =
    let n = c.args.n in
    let thickness = c.args.thickness_nm in
    let wavelength = c.args.wavelength_nm in
    let t : T (admitted n thickness wavelength) = of_true _ (sym c.admitted.ensures ∙ c.if-admitted.true) in
    ap answer (c.divided.ensures ∙ ap (λ (x : Float). divided x (quarter_wave wavelength)) c.abs-p.ensures ∙ abs_divided n thickness wavelength ((let it : T (fits binary64 c.args.wavelength_nm) = subst T (sym c.well_formed.1.1.0.1) tt in it)) t) ∙ sym (within n thickness wavelength t)

pub returns-else-admitted : goal.returns-else-admitted
returns-else-admitted c = sym (outside _ _ _ (of_false _ (sym c.admitted.ensures ∙ c.if-admitted.false)))
