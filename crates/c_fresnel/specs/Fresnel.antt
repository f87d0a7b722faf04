-- What dihkelu_fresnel_dielectric, dihkelu_fresnel_unpolarized and dihkelu_surface_fresnel_jones write. Definitions only.
use Rattle.fresnel.specs.declared.Reflectances.{Reflectances}
use Rattle.fresnel.specs.declared.Unpolarized.{Unpolarized}
use Rattle.polarization.specs.declared.SurfaceJones.{SurfaceJones}
use Rattle.c_call.specs.Call.{Reply}
use Rattle.c_call.specs.Layout.{both, two_entries}

-- Rs, Rp
abbrev pub reflectances : Reflectances → Reply
reflectances r = both 2 r.rs r.rp

-- r_total, t_total
abbrev pub totals : Unpolarized → Reply
totals r = both 2 r.r_total r.t_total

-- the matrix of the reflected light, then that of the transmitted
abbrev pub matrices : SurfaceJones → Reply
matrices j = two_entries j.reflection j.transmission
