-- The limits of a sheet, SURFACE after SURFACE: what is judged from where one begins, and how one SURFACE with its kind 7 and its layers changes it. Assumes nothing.
use mathlib.Core.Path.{◌≡◌, refl, sym, ap, ◌∙◌, subst}
use mathlib.Core.Bool.{Bool, true, false, not, ◌&&◌, ◌||◌, cond}
use mathlib.Core.List.{List, [], ◌∷◌}
use Prim.Native.Nat.{ℕ, suc, ◌+◌, ◌≤◌, ◌<◌}
use native.Mathlib.Numerals.{add-one}
use native.Mathlib.Omega.{arith}
use lib.Dec.{T, eqb}
use lib.ListN.{length, drop, drop_of_length-le}
use lib.Seq.{drop-cons}
use lib.Ieee.{Float}
use borrow.Author.Tests.{not-true, not-false}
use Rattle.refusal.specs.Outcome.{Outcome, answer, refusal, map}
use Rattle.gate.specs.declared.Fit.{Fit}
use Rattle.gate.specs.declared.Passage.{Passage}
use Rattle.gate_limits.specs.Limits.{beam_passes, surface_passes}
use Rattle.sheet.specs.Words.{word, kind, float}
use Rattle.sheet.specs.Blocks.{Block, Result, read, fault, starts}
use Rattle.sheet.specs.Sheet.{SheetLayer, Tuning, keeps, tunes, SheetSurface, no_surface, nth, Sheet, layer_block, surface_block, tuned_blocks, layers_blocks, surfaces_blocks, end_block, blocks, places}
use Rattle.sheet.specs.Read.{decode, graded, surfaces_of, grammar}
use Rattle.sheet.specs.Claim.{length_fits}
use Rattle.sheet.specs.Internal.{next_place, place_on, tuning_at, layers_at, onto, begin, place}
use Rattle.sheet.proofs.Stands.{Stands, Standing, SurfaceHere, standing, Known, bytes_from, next_is, next_stands, beam_stands, tuning_i, placed, begin_stands}
use Rattle.sheet_index.specs.Index.{layers_of}
use Rattle.sheet_values.specs.declared.Beam.{Beam}
use Rattle.sheet_values.specs.Values.{value, beam_value, surface_value, met_with}
use Rattle.sheet_values.specs.Internal.{beam_at}
use Rattle.sheet_values.proofs.Here.{beam_here}
use Rattle.gate.specs.Gate.{layer_admitted, metal_admitted, snell_of, verdicts, judged, within_limits}
use Rattle.gate.specs.Wavelength.{layers_admitted, surface_admitted}
use Rattle.gate.specs.Internal.{fits, whole_at, tuning_passes, passage_at}
use Rattle.gate.specs.Claim.{untuned}
use Rattle.gate.proofs.Verdicts.{layers_verdicts, tuning_verdicts, surfaces_verdicts, verdicts_are}

-- all layers pass exactly where none is the first that does not
pub all_fit : (w b : Float) (src : List ℕ) (at : ℕ) (ls : List SheetLayer) → (fits w b src at ls).all ≡ layers_admitted w b ls
unfolding fits layers_admitted
all_fit w b src at [] = refl
all_fit w b src at (l ∷ ls) = by (layer_admitted w b l) (all_fit w b src (next_place src at) ls)
  where
    by : (t : Bool) → (fits w b src (next_place src at) ls).all ≡ layers_admitted w b ls → (cond t (fits w b src (next_place src at) ls) (record { all = false; place = at })).all ≡ (t && layers_admitted w b ls)
    by true e = e
    by false e = refl

abbrev place_of : Fit → ℕ
place_of f = f.place

abbrev wavelength_of : Passage → Float
wavelength_of r = r.wavelength_nm

same : (at : ℕ) (t : Bool) (f : Fit) → cond t f.place at ≡ place_of (cond t f (record { all = false; place = at }))
same at true f = refl
same at false f = refl

module _ (src : List ℕ) (n : ℕ) where
  -- ---- the first of some blocks
  first : (at : ℕ) (k : Block) (ks : List Block) (t : Bool) (ts : List Bool) → Stands src at (k ∷ ks) → judged n (starts at (k ∷ ks)) (t ∷ ts) ≡ cond t (judged n (starts (next_place src at) ks) ts) (refusal 6 at)
  unfolding judged starts
  first at k ks t ts s = ap (λ (q : ℕ). cond t (judged n (starts q ks) ts) (refusal 6 at)) (sym (next_is src at k ks s))

  -- layers
  pick : (m t l : Bool) (o : Outcome ℕ) (p q : ℕ) → cond (m || t) (cond (l || m) o (refusal 6 q)) (refusal 6 p) ≡ cond ((t && l) || m) o (refusal 6 (cond t q p))
  pick true true true o p q = refl
  pick true true false o p q = refl
  pick true false true o p q = refl
  pick true false false o p q = refl
  pick false true true o p q = refl
  pick false true false o p q = refl
  pick false false l o p q = refl

  module _ (w : Float) (y : SheetSurface) (more : List Block) (ts : List Bool) where
    layers : (at : ℕ) (ls : List SheetLayer) → Stands src at (layers_blocks ls more)
        → judged n (starts at (layers_blocks ls more)) (layers_verdicts w y ls ts)
        ≡ cond (layers_admitted w (snell_of y) ls || metal_admitted w y) (judged n (starts (place_on src at (length ls)) more) ts) (refusal 6 (fits w (snell_of y) src at ls).place)
    unfolding layers_blocks layers_verdicts layers_admitted place_on fits
    layers at [] s = refl
    layers at (l ∷ ls) s =
        let q = next_place src at in
        let t = layer_admitted w (snell_of y) l in
        let L = layers_admitted w (snell_of y) ls in
        let m = metal_admitted w y in
        let o = judged n (starts (place_on src q (length ls)) more) ts in
        first at (layer_block l) (layers_blocks ls more) (m || t) (layers_verdicts w y ls ts) s
        ∙ ap (λ (z : Outcome ℕ). cond (m || t) z (refusal 6 at)) (layers q ls (next_stands src at (layer_block l) (layers_blocks ls more) s))
        ∙ pick m t L o at (fits w (snell_of y) src q ls).place
        ∙ ap (λ (z : ℕ). cond ((t && L) || m) o (refusal 6 z)) (same at t (fits w (snell_of y) src q ls))

  -- a kind 7
  onto_same : (at : ℕ) → tuning_at src at ≡ keeps → onto src at ≡ at
  unfolding onto
  onto_same at e = by (eqb (kind (word src at)) 7) e
    where
      by : (t : Bool) → cond t (tunes (float src (at + 1))) keeps ≡ keeps → cond t (next_place src at) at ≡ at
      by true e = absurd (let z : ◌≡◌ {A = ℕ} 0 1 = cc in omega arith)
      by false e = refl

  onto_next : (at v : ℕ) → tuning_at src at ≡ tunes v → onto src at ≡ next_place src at
  unfolding onto
  onto_next at v e = by (eqb (kind (word src at)) 7) e
    where
      by : (t : Bool) → cond t (tunes (float src (at + 1))) keeps ≡ tunes v → cond t (next_place src at) at ≡ next_place src at
      by true e = refl
      by false e = absurd (let z : ◌≡◌ {A = ℕ} 0 1 = cc in omega arith)

  tuning : (at : ℕ) (t : Tuning) (bs : List Block) (ts : List Bool) → Stands src at (tuned_blocks t bs) → tuning_at src at ≡ t
      → judged n (starts at (tuned_blocks t bs)) (tuning_verdicts t ts) ≡ cond (tuning_passes t) (judged n (starts (onto src at) bs) ts) (refusal 6 at)
  tuning at keeps bs ts s e = ap (λ (q : ℕ). judged n (starts q bs) ts) (sym (onto_same at e))
  tuning at (tunes v) bs ts s e = first at _ bs _ ts s ∙ ap (λ (q : ℕ). cond (tuning_passes (tunes v)) (judged n (starts q bs) ts) (refusal 6 at)) (sym (onto_next at v e))

  beyond : (at : ℕ) (t : Tuning) (bs : List Block) → Stands src at (tuned_blocks t bs) → tuning_at src at ≡ t → Stands src (onto src at) bs
  beyond at keeps bs s e = subst (λ (q : ℕ). Stands src q bs) (sym (onto_same at e)) s
  beyond at (tunes v) bs s e = subst (λ (q : ℕ). Stands src q bs) (sym (onto_next at v e)) (next_stands src at _ bs s)

  -- ---- a SURFACE with its kind 7 and its layers
  abbrev after : Outcome ℕ → Passage → Outcome ℕ
  after o r = cond r.passes o (refusal 6 r.place)

  settle : (a b c : Bool) (o : Outcome ℕ) (v : Float) (p q s : ℕ)
      → cond a (cond b (cond c o (refusal 6 s)) (refusal 6 q)) (refusal 6 p)
      ≡ after o (cond a (cond b (cond c (record { passes = true; wavelength_nm = v; place = p }) (record { passes = false; wavelength_nm = v; place = s })) (record { passes = false; wavelength_nm = v; place = q })) (record { passes = false; wavelength_nm = v; place = p }))
  settle true true true o v p q s = refl
  settle true true false o v p q s = refl
  settle true false c o v p q s = refl
  settle false b c o v p q s = refl

  met : (a b c : Bool) (v : Float) (p q s : ℕ) → wavelength_of (cond a (cond b (cond c (record { passes = true; wavelength_nm = v; place = p }) (record { passes = false; wavelength_nm = v; place = s })) (record { passes = false; wavelength_nm = v; place = q })) (record { passes = false; wavelength_nm = v; place = p })) ≡ v
  met true true true v p q s = refl
  met true true false v p q s = refl
  met true false c v p q s = refl
  met false b c v p q s = refl

  module _ (x : Sheet) (h : Standing src x) (i : ℕ) (lt : i < length x.surfaces) where
    abbrev y : SheetSurface
    y = nth x.surfaces i

    abbrev left : ℕ → List Block
    left k = surfaces_blocks (drop k x.surfaces) (end_block (length x.surfaces) ∷ [])

    here : SurfaceHere src (place src i) (nth x.surfaces i) (surfaces_blocks (drop (suc i) x.surfaces) (end_block (length x.surfaces) ∷ []))
    here = placed src x h i lt

    tuned : tuning_at src (begin src i) ≡ (nth x.surfaces i).tuning
    tuned = tuning_i src x h (begin src i) i lt (begin_stands src x h i (omega arith))

    whole : (m : ℕ) → m ≡ layers_of src i → whole_at src (place src i) m ≡ untuned (nth x.surfaces i)
    whole m e = here.value (layers_at src (next_place src (place src i)) m) ∙ ap (λ (ls : List SheetLayer). record { tuning = keeps; payload = (nth x.surfaces i).payload; n_incident = (nth x.surfaces i).n_incident; n_substrate = (nth x.surfaces i).n_substrate; angle = (nth x.surfaces i).angle; layers = ls }) (ap (layers_at src (next_place src (place src i))) (e ∙ here.run) ∙ here.layers)

    after_it : place_on src (next_place src (place src i)) (length y.layers) ≡ begin src (suc i)
    unfolding begin place_on
    after_it = ap (place_on src (next_place src (place src i))) (sym here.run)

    -- what the code finds of it
    abbrev found : Float → Tuning → SheetSurface → Passage
    found w t z =
        let v = met_with w t in
        cond (tuning_passes t)
        (cond (surface_passes (surface_value z))
        (cond (surface_admitted v z)
        (record { passes = true; wavelength_nm = v; place = begin src i })
        (record { passes = false; wavelength_nm = v; place = (fits v (snell_of z) src (next_place src (place src i)) z.layers).place }))
        (record { passes = false; wavelength_nm = v; place = place src i }))
        (record { passes = false; wavelength_nm = v; place = begin src i })

    is : (w : Float) (m : ℕ) → m ≡ layers_of src i → passage_at src (begin src i) m w ≡ found w y.tuning (untuned y)
    unfolding passage_at
    is w m e = λ k. found w (tuned k) (whole m e k)

    -- the wavelength that it is met with
    met_is : (w : Float) (m : ℕ) → m ≡ layers_of src i → (passage_at src (begin src i) m w).wavelength_nm ≡ met_with w y.tuning
    met_is w m e = ap wavelength_of (is w m e) ∙ met (tuning_passes y.tuning) (surface_passes (surface_value y)) (surface_admitted (met_with w y.tuning) (untuned y)) (met_with w y.tuning) (begin src i) (place src i) (fits (met_with w y.tuning) (snell_of y) src (next_place src (place src i)) y.layers).place

    -- all that is judged from where it begins on
    one : (w : Float) (m : ℕ) → m ≡ layers_of src i
        → judged n (starts (begin src i) (left i)) (surfaces_verdicts w (drop i x.surfaces) (true ∷ []))
        ≡ after (judged n (starts (begin src (suc i)) (left (suc i))) (surfaces_verdicts (met_with w (nth x.surfaces i).tuning) (drop (suc i) x.surfaces) (true ∷ []))) (passage_at src (begin src i) m w)
    unfolding surfaces_blocks surfaces_verdicts passage_at
    one w m e =
        let v = met_with w y.tuning in
        let ys = drop (suc i) x.surfaces in
        let more = left (suc i) in
        let ts = surfaces_verdicts v ys (true ∷ []) in
        let rest = layers_blocks y.layers more in
        let b = begin src i in
        let at = place src i in
        let sp = surface_passes (surface_value y) in
        let us = sp ∷ layers_verdicts v (untuned y) y.layers ts in
        let c = drop-cons x.surfaces i no_surface lt in
        let s0 : Stands src b (tuned_blocks y.tuning (surface_block y ∷ rest)) = subst (λ (zs : List SheetSurface). Stands src b (surfaces_blocks zs (end_block (length x.surfaces) ∷ []))) c (begin_stands src x h i (omega arith)) in
        let s1 : Stands src at (surface_block y ∷ rest) = beyond b y.tuning (surface_block y ∷ rest) s0 tuned in
        let o = judged n (starts (begin src (suc i)) more) ts in
        let q = (fits v (snell_of y) src (next_place src at) y.layers).place in
        let ok = surface_admitted v (untuned y) in
        ap (λ (zs : List SheetSurface). judged n (starts b (surfaces_blocks zs (end_block (length x.surfaces) ∷ []))) (surfaces_verdicts w zs (true ∷ []))) c
        ∙ tuning b y.tuning (surface_block y ∷ rest) us s0 tuned
        ∙ ap (λ (z : Outcome ℕ). cond (tuning_passes y.tuning) z (refusal 6 b))
        (first at (surface_block y) rest sp (layers_verdicts v (untuned y) y.layers ts) s1
        ∙ ap (λ (z : Outcome ℕ). cond sp z (refusal 6 at))
        (layers v (untuned y) more ts (next_place src at) y.layers (next_stands src at (surface_block y) rest s1)
        ∙ ap (λ (k : ℕ). cond ok (judged n (starts k more) ts) (refusal 6 q)) after_it))
        ∙ settle (tuning_passes y.tuning) sp ok o v b at q
        ∙ ap (after o) (sym (is w m e))

-- ---- along the loop over a sheet
map_judged : (x : Sheet) (ps : List ℕ) (ts : List Bool) → map surfaces_of (judged x ps ts) ≡ judged (surfaces_of x) ps ts
unfolding judged
map_judged x ps [] = refl
map_judged x [] (t ∷ ts) = refl
map_judged x (p ∷ ps) (true ∷ ts) = map_judged x ps ts
map_judged x (p ∷ ps) (false ∷ ts) = refl

-- a sheet that is counted is read
pub counted : (src : List ℕ) (n : ℕ) → grammar src ≡ answer n → (x : Sheet) × ((decode src ≡ read x) × (surfaces_of x ≡ n))
unfolding grammar
counted src n e = go (decode src) refl e
  where
    go : (q : Result Sheet) → decode src ≡ q → map surfaces_of (graded q) ≡ answer n → (x : Sheet) × ((decode src ≡ read x) × (surfaces_of x ≡ n))
    go (read x) p e = (x, (p, inside e))
      where
        inside : answer (surfaces_of x) ≡ answer n → surfaces_of x ≡ n
        inside e = cc
    go (fault place) p e = absurd (let z : ◌≡◌ {A = ℕ} 0 1 = cc in omega arith)

pub few : (src : List ℕ) (n : ℕ) → Known src → T (length_fits src) → grammar src ≡ answer n → n ≤ 64
few src n known t e = let c = counted src n e in let s = standing src (bytes_from src known) t c.0 c.1.0 in omega (arith, s.formed.few, c.1.1)

-- the sheet, and that the SURFACEs from the i-th on are judged as the whole sheet is
pub record Reached (src : List ℕ) (n i : ℕ) (w : Float) (o : Outcome ℕ) : Type 0 where
  pub sheet : Sheet
  pub stands : Standing src sheet
  pub counts : length sheet.surfaces ≡ n
  pub judges : judged n (starts (begin src i) (surfaces_blocks (drop i sheet.surfaces) (end_block (length sheet.surfaces) ∷ []))) (surfaces_verdicts w (drop i sheet.surfaces) (true ∷ [])) ≡ o

abbrev result : List ℕ → Outcome ℕ
result src = map surfaces_of (within_limits (graded (decode src)))

module _ (src : List ℕ) (n : ℕ) (known : Known src) (t : T (length_fits src)) (e : grammar src ≡ answer n) (m : Beam) (m_is : m ≡ beam_at src (next_place src 0)) (p : Bool) (p_is : p ≡ beam_passes m.wavelength_nm m.s m.p) where
  x : Sheet
  x = (counted src n e).0

  s : Standing src (counted src n e).0
  s = standing src (bytes_from src known) t (counted src n e).0 (counted src n e).1.0

  is_beam : m ≡ beam_value (counted src n e).0
  is_beam = m_is ∙ beam_here src (counted src n e).0 s

  whole_sheet : result src ≡ cond p (judged n (starts (begin src 0) (surfaces_blocks (counted src n e).0.surfaces (end_block (length (counted src n e).0.surfaces) ∷ []))) (surfaces_verdicts m.wavelength_nm (counted src n e).0.surfaces (true ∷ []))) (refusal 6 (next_place src 0))
  unfolding blocks begin place_on
  whole_sheet =
      let c = counted src n e in
      let x = c.0 in
      let sv = surfaces_verdicts (value x.wavelength) x.surfaces (true ∷ []) in
      let bp = beam_passes (value x.wavelength) (value x.s) (value x.p) in
      let rest = surfaces_blocks x.surfaces (end_block (length x.surfaces) ∷ []) in
      ap (λ (q : Result Sheet). map surfaces_of (within_limits (graded q))) c.1.0
      ∙ map_judged x (places x) (verdicts x)
      ∙ ap (λ (k : ℕ). judged k (places x) (verdicts x)) c.1.1
      ∙ ap (judged n (places x)) (verdicts_are x s.formed)
      ∙ first src n 0 _ _ true (bp ∷ sv) s.stands
      ∙ first src n (next_place src 0) _ rest bp sv (beam_stands src x s)
      ∙ sym (ap (λ (z : Bool). cond z (judged n (starts (begin src 0) rest) (surfaces_verdicts m.wavelength_nm x.surfaces (true ∷ []))) (refusal 6 (next_place src 0))) p_is
      ∙ ap (λ (z : Beam). cond (beam_passes z.wavelength_nm z.s z.p) (judged n (starts (begin src 0) rest) (surfaces_verdicts z.wavelength_nm x.surfaces (true ∷ []))) (refusal 6 (next_place src 0))) is_beam)

  pub beam_fails : not p ≡ true → refusal 6 (next_place src 0) ≡ result src
  beam_fails f = sym (whole_sheet ∙ rw (not-true p f) refl)

  pub beam_holds : not p ≡ false → Reached src n 0 m.wavelength_nm (result src)
  beam_holds f = record { sheet = (counted src n e).0; stands = s; counts = (counted src n e).1.1; judges = sym (whole_sheet ∙ rw (not-false p f) refl) }

module _ (src : List ℕ) (n i : ℕ) (w : Float) (o : Outcome ℕ) (r : Reached src n i w o) where
  module _ (lt : i < n) (m : ℕ) (em : m ≡ layers_of src i) (j : Passage) (ej : j ≡ passage_at src (begin src i) m w) where
    low : i < length r.sheet.surfaces
    low = omega (arith, r.counts)

    abbrev rest : Outcome ℕ
    rest = judged n (starts (begin src (suc i)) (surfaces_blocks (drop (suc i) r.sheet.surfaces) (end_block (length r.sheet.surfaces) ∷ []))) (surfaces_verdicts (met_with w (nth r.sheet.surfaces i).tuning) (drop (suc i) r.sheet.surfaces) (true ∷ []))

    so : o ≡ after src n rest j
    so = sym r.judges ∙ one src n r.sheet r.stands i low w m em ∙ ap (after src n rest) (sym ej)

    pub one_fails : not j.passes ≡ true → refusal 6 j.place ≡ o
    one_fails f = sym (so ∙ rw (not-true j.passes f) refl)

    pub one_holds : not j.passes ≡ false → Reached src n (i + 1) j.wavelength_nm o
    one_holds f =
        let v : j.wavelength_nm ≡ met_with w (nth r.sheet.surfaces i).tuning = ap wavelength_of ej ∙ met_is src n r.sheet r.stands i low w m em in
        rw (add-one i, v) record { sheet = r.sheet; stands = r.stands; counts = r.counts; judges = sym (so ∙ rw (not-false j.passes f) refl) }

  pub all_hold : n ≤ i → answer n ≡ o
  unfolding surfaces_blocks surfaces_verdicts starts judged
  all_hold le = ap (λ (zs : List SheetSurface). judged n (starts (begin src i) (surfaces_blocks zs (end_block (length r.sheet.surfaces) ∷ []))) (surfaces_verdicts w zs (true ∷ []))) (sym (drop_of_length-le r.sheet.surfaces {i = i} (omega (arith, r.counts)))) ∙ r.judges
