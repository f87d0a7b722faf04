-- `dihkelu::dihkelu_gate` meets its contract. Assumes nothing.
use mathlib.Core.Path.{◌≡◌, sym, ap, ◌∙◌, subst}
use mathlib.Core.List.{List}
use Prim.Native.Nat.{ℕ}
use borrow.Author.Rules.{rules}
use Rattle.refusal.specs.Outcome.{Outcome}
use Rattle.sheet.specs.Read.{surfaces_of}
use Rattle.sheet.proofs.Stands.{Known, bytes_from}
use Rattle.gate.specs.Gate.{gated, gate}
use Rattle.c_call.specs.Call.{Apart, returned}
use Rattle.dihkelu.proofs.Places.{gate_apart}
use Rattle.c_call.proofs.Returned.{apart_map}
use Rattle.dihkelu.proofs.dihkelu_gate.Goals as goal

apart : (src : List ℕ) → Known src → (o : Outcome ℕ) → o ≡ gate src → Apart o
unfolding gate
apart src known o e = subst Apart (sym e) (apart_map surfaces_of (gated src) (gate_apart src (bytes_from src known)))

pub number_of-requires : goal.number_of-requires
number_of-requires c = apart _ c.type_inv.sheet _ c.gate.ensures

pub returns : goal.returns
returns c = c.number_of.ensures ∙ ap returned c.gate.ensures
