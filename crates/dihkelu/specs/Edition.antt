-- What dihkelu_edition_1 returns and leaves (02 slip 6). Definitions only.
use Rattle.std.specs.Prelude.{List, ℕ}
use Rattle.c_call.specs.Call.{returned}
use Rattle.sheet_edition_1.specs.Edition.{Written}

-- the number that a call returns, and the bytes that it leaves
pub record Copied : Type 0 where
  pub returned : ℕ
  pub output : List ℕ

abbrev pub copied : ℕ → List ℕ → Copied
copied returned output = record { returned = returned; output = output }

-- dihkelu_edition_1: the new sheet's length in bytes, and the output as it is written
abbrev pub rewritten : Written → Copied
rewritten r = copied (returned r.result) r.output
