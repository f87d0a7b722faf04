-- `dihkelu::dihkelu_run` meets its contract. Assumes nothing.
use mathlib.Core.Path.{◌≡◌, sym, ap, ◌∙◌, subst}
use mathlib.Core.Bool.{Bool, true, false, cond}
use mathlib.Core.List.{List}
use Prim.Native.Nat.{ℕ, ◌*◌}
use native.Mathlib.Omega.{arith}
use lib.Dec.{leb}
use lib.ListN.{length}
use lib.Ieee.{Float}
use borrow.Author.Rules.{rules}
use Rattle.refusal.specs.Outcome.{Outcome, answer, refusal}
use Rattle.sheet.specs.Sheet.{Sheet}
use Rattle.sheet.proofs.Stands.{Known, bytes_from}
use Rattle.gate.specs.Gate.{gated}
use Rattle.train_steps.specs.Train.{Ran, ran, run}
use Rattle.c_call.specs.Call.{done, Apart, returned}
use Rattle.dihkelu.specs.Train.{run_done}
use Rattle.dihkelu.proofs.Places.{gate_apart}
use Rattle.dihkelu.proofs.dihkelu_run.Goals as goal

either : (b : Bool) (x y : Ran) → Apart x.result → Apart y.result → Apart (cond b x y).result
either true x y h k = h
either false x y h k = k

module _ (src : List ℕ) (known : Known src) (list out : List Float) (o : Outcome ℕ) (e : record { result = o; list = out } ≡ run src list) where
  apart : Apart o
  unfolding run
  apart = subst Apart (sym (ap (λ (z : Ran). z.result) e)) (go (gated src) (gate_apart src (bytes_from src known)))
    where
      go : (q : Outcome Sheet) → Apart q → Apart (ran list q).result
      go (answer x) h = either (leb (2 * length x.surfaces) (length list)) _ _ tt (omega arith)
      go (refusal number place) h = h

  whole : (n : ℕ) → n ≡ returned o → done n out ≡ run_done (run src list)
  whole n is = ap (λ (k : ℕ). done k out) is ∙ ap run_done e

pub number_of-requires : goal.number_of-requires
number_of-requires c = apart _ c.type_inv.sheet _ _ _ c.run.ensures

pub returns : goal.returns
returns c = whole _ c.type_inv.sheet _ _ _ c.run.ensures _ c.number_of.ensures
