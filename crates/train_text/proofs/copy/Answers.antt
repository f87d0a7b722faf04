-- `train_text::copy` meets its contract. Assumes nothing.
use mathlib.Core.Path.{◌≡◌, ap, ◌∙◌, subst}
use mathlib.Core.List.{List, ◌++◌}
use Prim.Native.Nat.{ℕ, ◌+◌, ◌≤◌, ◌<◌}
use native.Mathlib.Nat.{zero-add}
use native.Mathlib.Omega.{arith}
use lib.ListN.{length, get_or, set, drop}
use Rattle.train_text.proofs.Pages.{Half, begun, further, pasted}
use Rattle.train_text.proofs.copy.Goals as goal

module _ (bytes buffer₀ : List ℕ) (room : length bytes ≤ length buffer₀) where
  onward : (buffer : List ℕ) (i x : ℕ) → Half buffer₀ 0 bytes buffer i → i < length bytes → Half buffer₀ 0 bytes (set buffer i (get_or bytes i x)) (i + 1)
  onward buffer i x h l = subst (λ (k : ℕ). Half buffer₀ 0 bytes (set buffer k (get_or bytes i x)) (i + 1)) (zero-add i) (further buffer₀ 0 bytes (omega arith) buffer i x h l)

  whole : (buffer : List ℕ) (i : ℕ) → Half buffer₀ 0 bytes buffer i → length bytes ≤ i → buffer ≡ bytes ++ drop (length bytes) buffer₀
  whole buffer i h l = pasted buffer₀ 0 bytes (omega arith) buffer i h l ∙ ap (λ (k : ℕ). bytes ++ drop k buffer₀) (zero-add (length bytes))

pub loop-i-init : goal.loop-i-init
loop-i-init c = begun _ _ _

pub loop-i-preserved : goal.loop-i-preserved
loop-i-preserved c = onward _ _ c.requires _ _ _ c.loop-i.invariant c.loop-i-test.true

pub shape_of-buffer : goal.shape_of-buffer
shape_of-buffer c = c.loop-i.invariant.long

pub returns : goal.returns
returns c = whole _ _ c.requires _ _ c.loop-i.invariant c.loop-i-test.false
