-- `name_coating::to_format_name` meets its contract. Assumes nothing.
use Rattle.name_coating.proofs.to_format_name.Goals as goal

pub returns-in-IdealAr : goal.returns-in-IdealAr
returns-in-IdealAr c = simp c.in-IdealAr.is

pub returns-in-MgF2 : goal.returns-in-MgF2
returns-in-MgF2 c = simp c.in-MgF2.is

pub returns-in-BroadbandAr : goal.returns-in-BroadbandAr
returns-in-BroadbandAr c = simp c.in-BroadbandAr.is

pub returns-in-HighReflectanceMirror : goal.returns-in-HighReflectanceMirror
returns-in-HighReflectanceMirror c = simp c.in-HighReflectanceMirror.is

pub returns-in-Custom : goal.returns-in-Custom
returns-in-Custom c = simp c.in-Custom.is
