-- `band::steady::steady` meets its contract. Assumes nothing.
use mathlib.Core.Path.{◌≡◌, sym, ap, ◌∙◌, subst}
use mathlib.Core.Bool.{true}
use mathlib.Core.List.{List}
use Prim.Native.Nat.{ℕ}
use native.Mathlib.Nat.{sub-zero}
use Rattle.sheet.specs.Internal.{begin}
use Rattle.gate.specs.Internal.{layers_hold_at}
use Rattle.band.proofs.Always.{Surfaces, surface_more, surfaces_done}
use mathlib.Core.Bool.{not}
use Rattle.band.proofs.steady.steady.Goals as goal

begun : (src : List ℕ) (n place : ℕ) → place ≡ begin src 0 → Surfaces src (begin src 0) n place 0
begun src n place p w e = ap (λ (q : ℕ). layers_hold_at n src q w) (sym p) ∙ subst (λ (m : ℕ). layers_hold_at m src place w ≡ true) (sub-zero n) e

pub loop-init : goal.loop-init
loop-init c = begun _ _ _ c.begin_of-place.ensures

pub loop-preserved : goal.loop-preserved
loop-preserved c =
    surface_more _ _ _ _ _ c.loop.invariant c.loop-test.true c.surface_steady.result c.surface_steady.ensures (ap not c.if-not-surface_steady.false) _ c.after_layers-place.ensures

pub returns : goal.returns
returns c = λ t. surfaces_done _ _ _ _ _ c.loop.invariant c.loop-test.false
