-- What dihkelu_reflectance_range writes. Definitions only.
use Rattle.reflectance_range.specs.declared.ReflectanceRange.{ReflectanceRange}
use Rattle.c_call.specs.Call.{Reply}
use Rattle.c_call.specs.Layout.{both}

-- low, high, and that they are 2
abbrev pub ranged : ReflectanceRange → Reply
ranged r = both 2 r.low r.high
