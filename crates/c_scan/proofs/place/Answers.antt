-- `c_scan::place` meets its contract. Assumes nothing.
use native.Mathlib.Omega.{arith}
use Rattle.c_scan.proofs.Filled.{begun, turn, ended}
use Rattle.c_scan.proofs.place.Goals as goal

pub loop-i-init : goal.loop-i-init
loop-i-init c = begun _ _ _ _

pub overflow_mul-i : goal.overflow_mul-i
overflow_mul-i c = omega (arith, c.loop-i.invariant.long, c.requires.fits, c.well_formed.1.1.1.1.1.1.1.0)

pub bounds-wavelengths_nm-i : goal.bounds-wavelengths_nm-i
bounds-wavelengths_nm-i c = omega (arith, c.requires.as_many)

pub place_case-requires : goal.place_case-requires
place_case-requires c = omega (arith, c.loop-i.invariant.long, c.requires.fits)

pub loop-i-preserved : goal.loop-i-preserved
loop-i-preserved c = turn _ _ _ _ c.requires.none_refused c.requires.as_many c.requires.fits _ _ _ _ c.loop-i-test.true c.loop-i.invariant c.place_case.ensures

pub shape_of-list : goal.shape_of-list
shape_of-list c = c.loop-i.invariant.long

pub returns : goal.returns
returns c = ended _ _ _ _ _ _ c.loop-i-test.false c.loop-i.invariant
