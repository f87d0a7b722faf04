-- `gate::surface_holds` meets its contract. Assumes nothing.
use mathlib.Core.Path.{◌≡◌, sym, ap, ◌∙◌}
use mathlib.Core.Bool.{Bool, true, ◌||◌}
use mathlib.Core.List.{List, []}
use Prim.Native.Nat.{ℕ}
use lib.Ieee.{Float}
use Rattle.gate_limits.specs.declared.Judgement.{Judgement}
use Rattle.gate_limits.specs.declared.Surface.{Surface}
use Rattle.gate_limits.specs.Limits.{judgement}
use Rattle.sheet.specs.Internal.{next_place, layer_run, surface_at, layers_at}
use Rattle.sheet_values.specs.Values.{surface_value}
use Rattle.gate.specs.Wavelength.{layers_admitted}
use Rattle.gate.specs.declared.Fit.{Fit}
use Rattle.gate.specs.Internal.{fits, metal_at, surface_holds_at}
use Rattle.gate.proofs.Surfaces.{all_fit}
use Rattle.gate.proofs.surface_holds.Goals as goal

none : (src : List ℕ) (at : ℕ) (w : Float) (n : ℕ) → n ≡ layer_run 16 src at → n ≡ 0 → true ≡ surface_holds_at src at w
unfolding surface_holds_at layers_at layers_admitted
none src at w n en z = rw (sym en ∙ z)

module _ (src : List ℕ) (at : ℕ) (w : Float) (s : Surface) (es : s ≡ surface_value (surface_at src at [])) (j : Judgement) (ej : j ≡ judgement s) (n : ℕ) (en : n ≡ layer_run 16 src at) (q : ℕ) (eq : q ≡ next_place src at)
    (f : Fit) (ef : f ≡ fits w j.snell src q (layers_at src q n)) where
  et : f.all ≡ layers_admitted w j.snell (layers_at src q n)
  et = ap (λ (z : Fit). z.all) ef ∙ all_fit w j.snell src q (layers_at src q n)

  same : surface_holds_at src at w ≡ (f.all || metal_at src at n w)
  unfolding surface_holds_at metal_at
  same = sym ((λ i. et i || metal_at src at n w) ∙ (λ i. layers_admitted w (ej i).snell (layers_at src (eq i) (en i)) || metal_at src at (en i) w) ∙ ap (λ (z : Surface). layers_admitted w (judgement z).snell (layers_at src (next_place src at) (layer_run 16 src at)) || metal_at src at (layer_run 16 src at) w) es)

  either : (r : Bool) → r ≡ f.all || metal_at src at n w → r ≡ surface_holds_at src at w
  either r e = e ∙ sym same

pub returns-then-n-eq0 : goal.returns-then-n-eq0
returns-then-n-eq0 c = none _ _ _ _ c.layer_run-n.ensures c.if-n-eq0.true

pub returns : goal.returns
returns c = either _ _ _ _ c.surface_at.ensures _ c.judge_surface-judgement.ensures _ c.layer_run-n.ensures _ c.next_place-next.ensures _ c.layers_fit-fit.ensures _ c.or_metal.ensures
