-- `sheet_index::gather` meets its contract. Assumes nothing.
use mathlib.Core.Path.{◌≡◌, ap, ◌∙◌}
use mathlib.Core.List.{List}
use Prim.Native.Nat.{ℕ, suc, ◌+◌}
use native.Mathlib.Omega.{arith}
use Rattle.sheet.specs.declared.Floats.{Floats}
use Rattle.sheet.specs.declared.LayerRun.{LayerRun}
use Rattle.sheet.specs.Internal.{floats_at, place_on, layer_run, onto, begin}
use Rattle.sheet_index.proofs.Filled.{filled_none, filled_more, stored_none, stored_more}
use Rattle.sheet_index.proofs.gather.Goals as goal

start : (src : List ℕ) (i at : ℕ) → at ≡ begin src i → at ≡ begin src (i + 0)
start src i at e = e ∙ ap (begin src) (none i)
  where
    none : (i : ℕ) → i ≡ i + 0
    none i = omega arith

next : (src : List ℕ) (i k o q : ℕ) → o ≡ onto src (begin src (i + k)) → q ≡ place_on src o (suc (layer_run 16 src o)) → q ≡ begin src (i + (k + 1))
unfolding begin
next src i k o q eo eq = eq ∙ ap (λ (z : ℕ). place_on src z (suc (layer_run 16 src z))) eo ∙ ap (begin src) (up i k)
  where
    up : (i k : ℕ) → suc (i + k) ≡ i + (k + 1)
    up i k = omega arith

pub loop-k-init : goal.loop-k-init
loop-k-init c = record { stands = start _ _ _ c.requires.1; begun = stored_none _ _ _; counted = stored_none _ _ _; angled = filled_none _ _ }

pub loop-k-preserved : goal.loop-k-preserved
loop-k-preserved c =
    let h = c.loop-k.invariant in
    let o = c.onto-surface.ensures ∙ ap (onto _) h.stands in
    let run = c.layers_on-run.ensures in
    record {
      stands = next _ _ _ _ _ o (ap (λ (z : LayerRun). z.next) run);
      begun = stored_more _ _ _ _ _ _ h.begun h.stands;
      counted = stored_more _ _ _ _ _ _ h.counted (ap (λ (z : LayerRun). z.count) run ∙ ap (layer_run 16 _) o);
      angled = filled_more _ _ _ _ _ h.angled (ap (λ (z : Floats). z.third) (c.floats_at-floats.ensures ∙ ap (floats_at _) o));
    }
