-- `c_quarter_waves::quarter_waves` meets its contract. Assumes nothing.
use mathlib.Core.Path.{refl, sym, ap, ◌∙◌}
use Rattle.quarter_waves.specs.Waves.{quarter_waves}
use Rattle.c_call.proofs.Returned.{sound_apart, refuses, answers}
use Rattle.c_quarter_waves.specs.Waves.{counted}
use Rattle.c_quarter_waves.proofs.Sound.{sound}
use Rattle.c_quarter_waves.proofs.quarter_waves.Goals as goal
use Rattle.refusal.specs.Outcome.{outcome}

pub returns-in-Ok : goal.returns-in-Ok
returns-in-Ok c = answers counted _ _ _ _ (sym (ap outcome c.in-Ok.is) ∙ c.quarter_waves.ensures) refl

pub returns-in-Err : goal.returns-in-Err
returns-in-Err c =
    let a = c.args in
    let o = quarter_waves a.n a.thickness_nm a.wavelength_nm in
    refuses counted _ _ _ _ (sym (ap outcome c.in-Err.is) ∙ c.quarter_waves.ensures) (sound_apart o (sound a.n a.thickness_nm a.wavelength_nm)) c.packed.ensures
