-- `gate::judge` meets its contract. Assumes nothing.
use mathlib.Core.Path.{◌≡◌, refl, sym, ap, ◌∙◌}
use mathlib.Core.Bool.{Bool, true, false, not, ◌||◌, cond}
use mathlib.Core.List.{List, []}
use Prim.Native.Nat.{ℕ}
use lib.Ieee.{Float}
use borrow.Author.Tests.{not-true, not-false}
use Rattle.math_trig.specs.declared.SinCos.{SinCos}
use Rattle.math_trig.specs.Trig.{sin_cos}
use Rattle.gate_limits.specs.declared.Judgement.{Judgement}
use Rattle.gate_limits.specs.declared.Surface.{Surface}
use Rattle.gate_limits.specs.Limits.{judgement}
use Rattle.sheet.specs.Internal.{next_place, tuning_at, surface_at, layers_at, onto}
use Rattle.sheet_values.specs.Values.{surface_value, met_with}
use Rattle.gate.specs.declared.Fit.{Fit}
use Rattle.gate.specs.declared.Passage.{Passage}
use Rattle.gate.specs.Internal.{angle_at, fits, metal_at, tuning_passes, passage_at}
use Rattle.gate.proofs.Surfaces.{all_fit}
use Rattle.gate.proofs.judge.Goals as goal

abbrev passage : Bool → Float → ℕ → Passage
passage t v p = record { passes = t; wavelength_nm = v; place = p }

-- the judgement of a SURFACE by the sine and the cosine of its angle
judged : (src : List ℕ) (at o : ℕ) → at ≡ o → (s : Surface) → s ≡ surface_value (surface_at src at []) → (theta : SinCos) → theta ≡ sin_cos (angle_at src o) → (j : Judgement) → (theta ≡ sin_cos s.angle_rad → j ≡ judgement s) → j ≡ judgement (surface_value (surface_at src o []))
judged src at o ea s es theta et j f = f (et ∙ ap (λ (k : ℕ). sin_cos (angle_at src k)) (sym ea) ∙ ap (λ (z : Surface). sin_cos z.angle_rad) (sym es)) ∙ ap judgement es ∙ ap (λ (k : ℕ). judgement (surface_value (surface_at src k []))) ea

-- what the code finds, one after the other
module _ (src : List ℕ) (begin n : ℕ) (held v : Float) (ev : v ≡ met_with held (tuning_at src begin)) (t : Bool) (et : t ≡ tuning_passes (tuning_at src begin)) (at : ℕ) (ea : at ≡ onto src begin)
    (j : Judgement) (ej : j ≡ judgement (surface_value (surface_at src (onto src begin) []))) (q : ℕ) (eq : q ≡ next_place src at) (f : Fit) (ef : f ≡ fits v j.snell src q (layers_at src q n)) (m : Bool) (em : m ≡ f.all || metal_at src at n v) where
  next : q ≡ next_place src (onto src begin)
  next = eq ∙ ap (next_place src) ea

  fit : f ≡ fits (met_with held (tuning_at src begin)) (judgement (surface_value (surface_at src (onto src begin) []))).snell src (next_place src (onto src begin)) (layers_at src (next_place src (onto src begin)) n)
  fit = ef ∙ (λ i. fits (ev i) (ej i).snell src (next i) (layers_at src (next i) n))

  is : passage_at src begin n held ≡ cond t (cond j.passes (cond m (passage true v begin) (passage false v f.place)) (passage false v at)) (passage false v begin)
  unfolding passage_at metal_at
  is = sym (λ i. cond (et i) (cond (ej i).passes (cond ((em ∙ (λ i. (ap (λ (z : Fit). z.all) fit ∙ all_fit _ _ src _ _) i || metal_at src (ea i) n (ev i))) i) (passage true (ev i) begin) (passage false (ev i) (fit i).place)) (passage false (ev i) (ea i))) (passage false (ev i) begin))

  out_7 : not t ≡ true → passage false v begin ≡ passage_at src begin n held
  out_7 e = sym (is ∙ rw (not-true t e) refl)

  module _ (e : not t ≡ false) where
    out_surface : not j.passes ≡ true → passage false v at ≡ passage_at src begin n held
    out_surface p = sym (is ∙ rw (not-false t e, not-true j.passes p) refl)

    module _ (p : not j.passes ≡ false) where
      fails : not m ≡ true → passage false v f.place ≡ passage_at src begin n held
      fails r = sym (is ∙ rw (not-false t e, not-false j.passes p, not-true m r) refl)

      stands : not m ≡ false → passage true v begin ≡ passage_at src begin n held
      stands r = sym (is ∙ rw (not-false t e, not-false j.passes p, not-false m r) refl)

pub returns-then-not-tuning_passes : goal.returns-then-not-tuning_passes
returns-then-not-tuning_passes c =
    let ev = c.met_with-wavelength_nm.ensures in
    out_7 _ _ _ _ _ ev _ (c.tuning_passes.ensures _ ev) _ refl _ refl _ refl _ refl _ refl (ap not c.if-not-tuning_passes.true)

pub returns-then-not-judgement : goal.returns-then-not-judgement
returns-then-not-judgement c =
    let ev = c.met_with-wavelength_nm.ensures in
    let ea = c.onto-at.ensures in
    let ej = judged _ _ _ ea _ c.surface_at-surface.ensures _ c.requires _ c.judge_with-judgement.ensures in
    out_surface _ _ _ _ _ ev _ (c.tuning_passes.ensures _ ev) _ ea _ ej _ refl _ refl _ refl (ap not c.if-not-tuning_passes.false) c.if-not-judgement.true

pub returns-then-not-or_metal : goal.returns-then-not-or_metal
returns-then-not-or_metal c =
    let ev = c.met_with-wavelength_nm.ensures in
    let ea = c.onto-at.ensures in
    let ej = judged _ _ _ ea _ c.surface_at-surface.ensures _ c.requires _ c.judge_with-judgement.ensures in
    fails _ _ _ _ _ ev _ (c.tuning_passes.ensures _ ev) _ ea _ ej _ c.next_place-next.ensures _ c.layers_fit-fit.ensures _ c.or_metal.ensures (ap not c.if-not-tuning_passes.false) c.if-not-judgement.false (ap not c.if-not-or_metal.true)

pub returns : goal.returns
returns c =
    let ev = c.met_with-wavelength_nm.ensures in
    let ea = c.onto-at.ensures in
    let ej = judged _ _ _ ea _ c.surface_at-surface.ensures _ c.requires _ c.judge_with-judgement.ensures in
    stands _ _ _ _ _ ev _ (c.tuning_passes.ensures _ ev) _ ea _ ej _ c.next_place-next.ensures _ c.layers_fit-fit.ensures _ c.or_metal.ensures (ap not c.if-not-tuning_passes.false) c.if-not-judgement.false (ap not c.if-not-or_metal.false)
