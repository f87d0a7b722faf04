-- `gate::limits` meets its contract. Assumes nothing.
use mathlib.Core.Path.{◌≡◌, sym, ap, ◌∙◌}
use mathlib.Core.List.{List}
use Prim.Native.Nat.{ℕ, ◌<◌}
use lib.Ieee.{Float, nan}
use lib.ListN.{get_or}
use Rattle.math_trig.specs.Trig.{sin_cos}
use Rattle.refusal.specs.Outcome.{refusal}
use Rattle.sheet.specs.Internal.{onto, begin}
use Rattle.sheet_index.specs.Internal.{Indexed}
use Rattle.gate.specs.declared.Passage.{Passage}
use Rattle.gate.specs.Internal.{angle_at, passage_at}
use Rattle.gate.proofs.Surfaces.{beam_fails, beam_holds, one_fails, one_holds, all_hold}
use mathlib.Core.Bool.{not}
use Rattle.gate.proofs.limits.Goals as goal

module _ (src : List ℕ) (n : ℕ) (b c : List ℕ) (s t : List Float) (h : Indexed src n b c s t) (i : ℕ) (lt : i < n) where
  -- the sine and the cosine are those of the i-th SURFACE
  angles : record { sin = get_or s i nan; cos = get_or t i nan } ≡ sin_cos (angle_at src (onto src (get_or b i 0)))
  angles = (λ k. record { sin = h.sine i lt k; cos = h.cosine i lt k }) ∙ ap (λ (z : ℕ). sin_cos (angle_at src (onto src z))) (sym (h.begun i lt))

  here : (w : Float) (j : Passage) → j ≡ passage_at src (get_or b i 0) (get_or c i 0) w → j ≡ passage_at src (begin src i) (get_or c i 0) w
  here w j e = e ∙ ap (λ (k : ℕ). passage_at src k (get_or c i 0) w) (h.begun i lt)

pub returns-then-not-beam_passes : goal.returns-then-not-beam_passes
returns-then-not-beam_passes c =
    c.outside.ensures ∙ ap (refusal 6) c.next_place.ensures ∙ beam_fails _ _ c.type_inv.src c.requires.0.0 c.requires.0.1 _ c.beam_of-beam.ensures _ c.beam_passes.ensures (ap not c.if-not-beam_passes.true)

pub loop-i-init : goal.loop-i-init
loop-i-init c =
    beam_holds _ _ c.type_inv.src c.requires.0.0 c.requires.0.1 _ c.beam_of-beam.ensures _ c.beam_passes.ensures (ap not c.if-not-beam_passes.false)

pub returns-then-not-passage : goal.returns-then-not-passage
returns-then-not-passage c =
    let h = c.requires.1 in
    let lt = c.loop-i-test.true in
    c.outside-then-not-passage.ensures ∙ one_fails _ _ _ _ _ c.loop-i.invariant lt _ (h.counted _ lt) _ (here _ _ _ _ _ _ h _ lt _ _ c.judge-passage.ensures) c.if-not-passage.true

pub loop-i-preserved : goal.loop-i-preserved
loop-i-preserved c =
    let h = c.requires.1 in
    let lt = c.loop-i-test.true in
    one_holds _ _ _ _ _ c.loop-i.invariant lt _ (h.counted _ lt) _ (here _ _ _ _ _ _ h _ lt _ _ c.judge-passage.ensures) c.if-not-passage.false

pub returns : goal.returns
returns c = all_hold _ _ _ _ _ c.loop-i.invariant c.loop-i-test.false
