-- A verdict for each block; all of them hold exactly where a well-formed sheet is within the limits; the first that does not gives the refusal its place. Assumes nothing.
use mathlib.Core.Path.{◌≡◌, refl, sym, ap, ◌∙◌, subst}
use mathlib.Core.Bool.{Bool, true, false, ◌||◌}
use mathlib.Core.Logic.{◌⊎◌, inl, inr}
use mathlib.Core.List.{List, [], ◌∷◌}
use Prim.Native.Nat.{ℕ, zero, suc, ◌^◌, ◌≤◌, ◌<◌}
use native.Mathlib.Omega.{arith}
use lib.Dec.{T}
use lib.ListN.{length, get_or}
use lib.Ieee.{Float}
use Rattle.ieee.proofs.Signs.{of_true}
use Rattle.ieee.proofs.Range.Falls.{or_l, or_r}
use Rattle.refusal.specs.Outcome.{Outcome, answer, refusal}
use Rattle.gate_limits.specs.Limits.{wavelength_passes, beam_passes, surface_passes}
use Rattle.sheet.specs.Blocks.{Block, All}
use Rattle.sheet.specs.Sheet.{SheetLayer, layer, cauchy, Tuning, keeps, tunes, SheetSurface, no_surface, Sheet, GoodSurface, WellFormed, surface_block, tuned_blocks, layers_blocks, surfaces_blocks, end_block, blocks}
use Rattle.sheet.proofs.KindWords.{numbers_raw, kind_of, payload_of}
use Rattle.sheet.proofs.Forward.{small_edition}
use Rattle.sheet.proofs.Stands.{Ends, surfaces_end}
use Rattle.sheet_values.specs.Values.{value, surface_value, met_with}
use Rattle.gate.specs.Gate.{layer_admitted, metal_admitted, snell_of, verdict, old, spared, either, tuned, leading, carried, walked, verdicts_by, verdicts, judged}
use Rattle.gate.specs.Wavelength.{layers_admitted, surface_admitted}
use Rattle.gate.specs.Internal.{tuning_passes}
use Rattle.gate.specs.Claim.{untuned, WithinLimits, FirstOutside, AsBefore}
use Rattle.gate.proofs.Wavelengths.{both, and, one_of, AllMet, all_met, met_within}

abbrev pub Passed : List Bool → Type 0
Passed ts = All T ts

abbrev Says : Type 0
Says = Float → SheetSurface → Block → Bool

-- ---- as many as blocks
walked_each : (says : Says) (w : Float) (y : SheetSurface) (ks : List Block) → length (walked says w y ks) ≡ length ks
unfolding walked
walked_each says w y [] = refl
walked_each says w y (k ∷ ks) = ap suc (walked_each says (tuned w k) (carried y k ks) ks)

pub each : (x : Sheet) → length (verdicts x) ≡ length (blocks x)
each x = walked_each either (value x.wavelength) no_surface (blocks x)

-- ---- each is that of the old limits, or the block is spared
both_ways : (w : Float) (y : SheetSurface) (ks : List Block) (i : ℕ) → get_or (walked either w y ks) i true ≡ get_or (walked spared w y ks) i false || get_or (walked old w y ks) i true
unfolding walked
both_ways w y [] i = refl
both_ways w y (k ∷ ks) zero = refl
both_ways w y (k ∷ ks) (suc i) = both_ways (tuned w k) (carried y k ks) ks i

neither : (a b : Bool) → (a || b) ≡ false → (a ≡ false) × (b ≡ false)
neither true b e = absurd (of_true false (sym e))
neither false b e = (refl, e)

one_way : (a b : Bool) → (a || b) ≡ true → (a ≡ true) ⊎ (b ≡ true)
one_way true b e = inl refl
one_way false b e = inr e

pub as_before : (x : Sheet) (place : ℕ) → FirstOutside x place → AsBefore x place
as_before x place f =
    let w = value x.wavelength in
    let e = both_ways w no_surface (blocks x) in
    let n = neither (get_or (verdicts_by spared x) f.block false) (get_or (verdicts_by old x) f.block true) (sym (e f.block) ∙ f.outside) in
    record {
      block = f.block;
      stands = f.stands;
      outside = n.1;
      unspared = n.0;
      first = λ i lt. one_way (get_or (verdicts_by spared x) i false) (get_or (verdicts_by old x) i true) (sym (e i) ∙ f.first i lt);
    }

-- ---- the verdicts of a sheet's blocks, from its data
abbrev pub layer_verdict : Float → SheetSurface → SheetLayer → Bool
layer_verdict w y l = metal_admitted w y || layer_admitted w (snell_of y) l

unfoldable pub layers_verdicts : Float → SheetSurface → List SheetLayer → List Bool → List Bool
layers_verdicts w y [] more = more
layers_verdicts w y (l ∷ ls) more = layer_verdict w y l ∷ layers_verdicts w y ls more

abbrev pub tuning_verdicts : Tuning → List Bool → List Bool
tuning_verdicts keeps more = more
tuning_verdicts (tunes v) more = wavelength_passes (value v) ∷ more

unfoldable pub surfaces_verdicts : Float → List SheetSurface → List Bool → List Bool
surfaces_verdicts w [] more = more
surfaces_verdicts w (y ∷ ys) more =
    let v = met_with w y.tuning in
    tuning_verdicts y.tuning (surface_passes (surface_value y) ∷ layers_verdicts v (untuned y) y.layers (surfaces_verdicts v ys more))

layers : (w : Float) (y : SheetSurface) (ls : List SheetLayer) (more : List Block) → walked either w y (layers_blocks ls more) ≡ layers_verdicts w y ls (walked either w y more)
unfolding walked verdict tuned carried layers_blocks layers_verdicts
layers w y [] more = refl
layers w y (layer n k t ∷ ls) more = rw (numbers_raw (n ∷ k ∷ t ∷ [])) (ap (λ (ts : List Bool). layer_verdict w y (layer n k t) ∷ ts) (layers w y ls more))
layers w y (cauchy a c d t ∷ ls) more = rw (numbers_raw (a ∷ c ∷ d ∷ t ∷ [])) (ap (λ (ts : List Bool). layer_verdict w y (cauchy a c d t) ∷ ts) (layers w y ls more))

-- the layers that stand first
pub leads : (n : ℕ) (ls : List SheetLayer) (more : List Block) → length ls ≤ n → Ends more → leading n (layers_blocks ls more) ≡ ls
unfolding leading layers_blocks
leads zero [] more le e = refl
leads zero (l ∷ ls) more le e = absurd (omega arith)
leads (suc n) [] [] le e = absurd e
leads (suc n) [] (k ∷ more) le e = rw e refl
leads (suc n) (layer m k t ∷ ls) more le e = rw (numbers_raw (m ∷ k ∷ t ∷ [])) (ap (λ (rest : List SheetLayer). layer m k t ∷ rest) (leads n ls more (omega arith) e))
leads (suc n) (cauchy a c d t ∷ ls) more le e = rw (numbers_raw (a ∷ c ∷ d ∷ t ∷ [])) (ap (λ (rest : List SheetLayer). cauchy a c d t ∷ rest) (leads n ls more (omega arith) e))

surface : (w : Float) (z y : SheetSurface) (more : List Block) → y.payload < 2 ^ 28 → leading 16 more ≡ y.layers → walked either w z (surface_block y ∷ more) ≡ surface_passes (surface_value y) ∷ walked either w (untuned y) more
unfolding walked verdict tuned carried
surface w z y more lt e = rw (kind_of 3 y.payload lt, payload_of 3 y.payload lt, numbers_raw (y.n_incident ∷ y.n_substrate ∷ y.angle ∷ []), e) refl

tuning : (w : Float) (z : SheetSurface) (t : Tuning) (more : List Block) → walked either w z (tuned_blocks t more) ≡ tuning_verdicts t (walked either (met_with w t) z more)
unfolding walked verdict tuned carried
tuning w z keeps more = refl
tuning w z (tunes v) more = rw (numbers_raw (v ∷ [])) refl

surfaces : (edition n : ℕ) (w : Float) (z : SheetSurface) (ys : List SheetSurface) → n < 2 ^ 28 → All (GoodSurface edition) ys → walked either w z (surfaces_blocks ys (end_block n ∷ [])) ≡ surfaces_verdicts w ys (true ∷ [])
unfolding surfaces_blocks surfaces_verdicts walked verdict
surfaces edition n w z [] lt g = rw (kind_of 5 n lt) refl
surfaces edition n w z (y ∷ ys) lt g =
    let v = met_with w y.tuning in
    let rest = surfaces_blocks ys (end_block n ∷ []) in
    tuning w z y.tuning (surface_block y ∷ layers_blocks y.layers rest)
    ∙ ap (tuning_verdicts y.tuning) (surface v z y (layers_blocks y.layers rest) (omega (arith, g.0.payload)) (leads 16 y.layers rest g.0.few (surfaces_end edition n ys lt g.1))
    ∙ ap (λ (ts : List Bool). surface_passes (surface_value y) ∷ ts) (layers v (untuned y) y.layers rest
    ∙ ap (layers_verdicts v (untuned y) y.layers) (surfaces edition n v (untuned y) ys lt g.1)))

abbrev pub of_data : Sheet → List Bool
of_data x = true ∷ beam_passes (value x.wavelength) (value x.s) (value x.p) ∷ surfaces_verdicts (value x.wavelength) x.surfaces (true ∷ [])

pub verdicts_are : (x : Sheet) → WellFormed x → verdicts x ≡ of_data x
unfolding blocks walked verdict tuned carried
verdicts_are x h =
    rw (kind_of 1 x.edition (small_edition x.edition h.edition), numbers_raw (x.wavelength ∷ x.s ∷ x.p ∷ []))
    (ap (λ (ts : List Bool). true ∷ beam_passes (value x.wavelength) (value x.s) (value x.p) ∷ ts)
    (surfaces x.edition (length x.surfaces) (value x.wavelength) no_surface x.surfaces (omega (arith, h.few)) h.surfaces))

-- ---- all hold exactly where each kind 7 passes, and each SURFACE with its layers at the wavelength that it is met with
all_spared : (w : Float) (y : SheetSurface) (ls : List SheetLayer) (ts : List Bool) → T (metal_admitted w y) → Passed ts → Passed (layers_verdicts w y ls ts)
unfolding layers_verdicts
all_spared w y [] ts m t = t
all_spared w y (l ∷ ls) ts m t = (or_l (metal_admitted w y) (layer_admitted w (snell_of y) l) m, all_spared w y ls ts m t)

all_within : (w : Float) (y : SheetSurface) (ls : List SheetLayer) (ts : List Bool) → T (layers_admitted w (snell_of y) ls) → Passed ts → Passed (layers_verdicts w y ls ts)
unfolding layers_verdicts layers_admitted
all_within w y [] ts h t = t
all_within w y (l ∷ ls) ts h t =
    let p = both (layer_admitted w (snell_of y) l) (layers_admitted w (snell_of y) ls) h in
    (or_r (metal_admitted w y) (layer_admitted w (snell_of y) l) p.0, all_within w y ls ts p.1 t)

layers_in : (w : Float) (y : SheetSurface) (ts : List Bool) → T (surface_admitted w y) → Passed ts → Passed (layers_verdicts w y y.layers ts)
layers_in w y ts h t = elim (one_of (layers_admitted w (snell_of y) y.layers) (metal_admitted w y) h) [ inl a ↦ all_within w y y.layers ts a t | inr m ↦ all_spared w y y.layers ts m t ]

rest_passed : (w : Float) (y : SheetSurface) (ls : List SheetLayer) (ts : List Bool) → Passed (layers_verdicts w y ls ts) → Passed ts
unfolding layers_verdicts
rest_passed w y [] ts h = h
rest_passed w y (l ∷ ls) ts h = rest_passed w y ls ts h.1

unspared : (w : Float) (y : SheetSurface) (ls : List SheetLayer) (ts : List Bool) → metal_admitted w y ≡ false → Passed (layers_verdicts w y ls ts) → T (layers_admitted w (snell_of y) ls)
unfolding layers_verdicts layers_admitted
unspared w y [] ts m h = tt
unspared w y (l ∷ ls) ts m h = and (layer_admitted w (snell_of y) l) (layers_admitted w (snell_of y) ls) (subst (λ (b : Bool). T (b || layer_admitted w (snell_of y) l)) m h.0) (unspared w y ls ts m h.1)

layers_out : (w : Float) (y : SheetSurface) (ts : List Bool) → Passed (layers_verdicts w y y.layers ts) → T (surface_admitted w y) × Passed ts
layers_out w y ts h = (by (metal_admitted w y) refl, rest_passed w y y.layers ts h)
  where
    by : (m : Bool) → metal_admitted w y ≡ m → T (surface_admitted w y)
    by true e = or_r (layers_admitted w (snell_of y) y.layers) (metal_admitted w y) (of_true _ e)
    by false e = or_l (layers_admitted w (snell_of y) y.layers) (metal_admitted w y) (unspared w y y.layers ts e h)

tuning_in : (t : Tuning) (ts : List Bool) → T (tuning_passes t) → Passed ts → Passed (tuning_verdicts t ts)
tuning_in keeps ts h p = p
tuning_in (tunes v) ts h p = (h, p)

tuning_out : (t : Tuning) (ts : List Bool) → Passed (tuning_verdicts t ts) → T (tuning_passes t) × Passed ts
tuning_out keeps ts p = (tt, p)
tuning_out (tunes v) ts p = (p.0, p.1)

surfaces_in : (w : Float) (ys : List SheetSurface) (ts : List Bool) → AllMet w ys → Passed ts → Passed (surfaces_verdicts w ys ts)
unfolding surfaces_verdicts
surfaces_in w [] ts h t = t
surfaces_in w (y ∷ ys) ts h t =
    let v = met_with w y.tuning in
    tuning_in y.tuning (surface_passes (surface_value y) ∷ layers_verdicts v (untuned y) y.layers (surfaces_verdicts v ys ts)) h.0
    (h.1.0, layers_in v (untuned y) (surfaces_verdicts v ys ts) h.1.1.0 (surfaces_in v ys ts h.1.1.1 t))

surfaces_out : (w : Float) (ys : List SheetSurface) (ts : List Bool) → Passed (surfaces_verdicts w ys ts) → AllMet w ys
unfolding surfaces_verdicts
surfaces_out w [] ts h = tt
surfaces_out w (y ∷ ys) ts h =
    let v = met_with w y.tuning in
    let a = tuning_out y.tuning (surface_passes (surface_value y) ∷ layers_verdicts v (untuned y) y.layers (surfaces_verdicts v ys ts)) h in
    let b = layers_out v (untuned y) (surfaces_verdicts v ys ts) a.1.1 in
    (a.0, (a.1.0, (b.0, surfaces_out v ys ts b.1)))

pub within_passed : (x : Sheet) → WellFormed x → WithinLimits x → Passed (verdicts x)
within_passed x f h = subst Passed (sym (verdicts_are x f)) (tt, (h.beam, surfaces_in (value x.wavelength) x.surfaces (true ∷ []) (all_met x h) (tt, tt)))

pub passed_within : (x : Sheet) → WellFormed x → Passed (verdicts x) → WithinLimits x
passed_within x f p = let h : Passed (of_data x) = subst Passed (verdicts_are x f) p in met_within x h.1.0 (surfaces_out (value x.wavelength) x.surfaces (true ∷ []) h.1.1)

-- ---- the first that does not hold
pub record First (ts : List Bool) (i : ℕ) : Type 0 where
  pub inside : i < length ts
  pub outside : get_or ts i true ≡ false
  pub first : (j : ℕ) → j < i → get_or ts j true ≡ true

pub data Judged {A : Type 0} (a : A) (ps : List ℕ) (ts : List Bool) : Outcome A → Type 0 where
  all_pass : Passed ts → Judged a ps ts (answer a)
  one_fails : (i : ℕ) → First ts i → Judged a ps ts (refusal 6 (get_or ps i 0))

later : {A : Type 0} (a : A) (p : ℕ) (ps : List ℕ) (ts : List Bool) {o : Outcome A} → Judged a ps ts o → Judged a (p ∷ ps) (true ∷ ts) o
later a p ps ts (all_pass h) = all_pass (tt, h)
later a p ps ts (one_fails i f) = one_fails (suc i) record { inside = omega (arith, f.inside); outside = f.outside; first = by }
  where
    by : (j : ℕ) → j < suc i → get_or (true ∷ ts) j true ≡ true
    by zero lt = refl
    by (suc j) lt = f.first j (omega arith)

pub judging : {A : Type 0} (a : A) (ps : List ℕ) (ts : List Bool) → length ts ≡ length ps → Judged a ps ts (judged a ps ts)
unfolding judged
judging a ps [] e = all_pass tt
judging a [] (t ∷ ts) e = absurd (omega arith)
judging a (p ∷ ps) (true ∷ ts) e = later a p ps ts (judging a ps ts (omega arith))
judging a (p ∷ ps) (false ∷ ts) e = one_fails 0 record { inside = omega arith; outside = refl; first = λ j lt. absurd (omega arith) }

pub passed_judged : {A : Type 0} (a : A) (ps : List ℕ) (ts : List Bool) → Passed ts → judged a ps ts ≡ answer a
unfolding judged
passed_judged a ps [] h = refl
passed_judged a [] (t ∷ ts) h = refl
passed_judged a (p ∷ ps) (true ∷ ts) h = passed_judged a ps ts h.1
passed_judged a (p ∷ ps) (false ∷ ts) h = absurd h.0

pub first_judged : {A : Type 0} (a : A) (ps : List ℕ) (ts : List Bool) → length ts ≡ length ps → (i : ℕ) → First ts i → judged a ps ts ≡ refusal 6 (get_or ps i 0)
unfolding judged
first_judged a ps [] e i f = absurd (omega (arith, f.inside))
first_judged a [] (t ∷ ts) e i f = absurd (omega arith)
first_judged a (p ∷ ps) (true ∷ ts) e zero f = absurd (let o : true ≡ false = f.outside in let z : ◌≡◌ {A = ℕ} 0 1 = cc in omega arith)
first_judged a (p ∷ ps) (true ∷ ts) e (suc i) f = first_judged a ps ts (omega arith) i record { inside = omega (arith, f.inside); outside = f.outside; first = λ j lt. f.first (suc j) (omega arith) }
first_judged a (p ∷ ps) (false ∷ ts) e zero f = refl
first_judged a (p ∷ ps) (false ∷ ts) e (suc i) f = absurd (let o : false ≡ true = f.first 0 (omega arith) in let z : ◌≡◌ {A = ℕ} 0 1 = cc in omega arith)
