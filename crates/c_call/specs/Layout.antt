-- The numbers of a response and of a surface's answers, one after the other. Definitions only.
use Rattle.std.specs.Prelude.{ℕ, cond, List, [], ◌∷◌, ◌++◌, Float}
use Rattle.ieee.specs.Functions.{zero_f, one}
use Rattle.thin_film_solver.specs.declared.CoatingResponse.{CoatingResponse}
use Rattle.polarization_mueller.specs.declared.JonesMatrix.{JonesMatrix}
use Rattle.polarization_mueller.specs.declared.MuellerMatrix.{MuellerMatrix}
use Rattle.polarization_mueller.specs.Jones as Jones
use Rattle.polarization_mueller.specs.Mueller as Mueller
use Rattle.surface.specs.declared.Powers.{Powers}
use Rattle.surface.specs.declared.Answers.{Answers}
use Rattle.c_call.specs.Call.{Reply, reply, counted}

-- the Rust's fields: rs, rp, ts, tp as re, im; R_s, R_p, T_s, T_p; the phases of rs and rp
abbrev pub rust_numbers : CoatingResponse → List Float
rust_numbers r =
    r.rs.re ∷ r.rs.im ∷ r.rp.re ∷ r.rp.im ∷ r.ts.re ∷ r.ts.im ∷ r.tp.re ∷ r.tp.im
    ∷ r.reflectance_s ∷ r.reflectance_p ∷ r.transmittance_s ∷ r.transmittance_p
    ∷ r.phase_rs_rad ∷ r.phase_rp_rad ∷ []

-- and 02 slip 2's two numbers at the end: what stays in the glass, of s and of p
abbrev pub response_numbers : CoatingResponse → List Float
response_numbers r = rust_numbers r ++ r.absorptance_s ∷ r.absorptance_p ∷ []

-- one number
abbrev pub alone : Float → Reply
alone x = counted (x ∷ [])

-- two numbers, and what is returned for them
abbrev pub both : ℕ → Float → Float → Reply
both returned a b = reply returned (a ∷ b ∷ [])

-- dihkelu_evaluate: 16 numbers
abbrev pub evaluated : CoatingResponse → Reply
evaluated r = counted (response_numbers r)

-- ---- a surface's answers
abbrev pub powers_numbers : Powers → List Float
powers_numbers p = p.reflectance_s ∷ p.reflectance_p ∷ p.transmittance_s ∷ p.transmittance_p ∷ []

-- m00, m01, m10, m11 as re, im
abbrev pub jones_numbers : JonesMatrix → List Float
jones_numbers j =
    (Jones.entry j 0).re ∷ (Jones.entry j 0).im ∷ (Jones.entry j 1).re ∷ (Jones.entry j 1).im
    ∷ (Jones.entry j 2).re ∷ (Jones.entry j 2).im ∷ (Jones.entry j 3).re ∷ (Jones.entry j 3).im ∷ []

-- a Jones matrix: 8 numbers
abbrev pub entries : JonesMatrix → Reply
entries j = counted (jones_numbers j)

-- one, then another: 16 numbers
abbrev pub two_entries : JonesMatrix → JonesMatrix → Reply
two_entries j k = counted (jones_numbers j ++ jones_numbers k)

-- row after row
abbrev pub mueller_numbers : MuellerMatrix → List Float
mueller_numbers m =
    Mueller.entry m 0 ∷ Mueller.entry m 1 ∷ Mueller.entry m 2 ∷ Mueller.entry m 3
    ∷ Mueller.entry m 4 ∷ Mueller.entry m 5 ∷ Mueller.entry m 6 ∷ Mueller.entry m 7
    ∷ Mueller.entry m 8 ∷ Mueller.entry m 9 ∷ Mueller.entry m 10 ∷ Mueller.entry m 11
    ∷ Mueller.entry m 12 ∷ Mueller.entry m 13 ∷ Mueller.entry m 14 ∷ Mueller.entry m 15 ∷ []

-- dihkelu_to_mueller, dihkelu_mueller_born_wolf: 16 numbers
abbrev pub rows : MuellerMatrix → Reply
rows m = counted (mueller_numbers m)

-- whether the surface is coated, 1 or 0, and R_s, R_p, T_s, T_p
abbrev pub head : Answers → List Float
head a = cond a.coated one zero_f ∷ powers_numbers a.powers

-- what every surface has: these, and the matrices of the reflected light and of the transmitted. 53 numbers
abbrev pub common : Answers → List Float
common a = head a ++ jones_numbers a.reflection ++ jones_numbers a.transmission ++ mueller_numbers a.reflection_mueller ++
    mueller_numbers a.transmission_mueller

-- dihkelu_answers: and last, of a coated surface alone, the response: 69 numbers
abbrev pub surface_answered : Answers → Reply
surface_answered a = counted (common a ++ cond a.coated (response_numbers a.response) [])
