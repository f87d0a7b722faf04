-- The slip. Assumes nothing.
use mathlib.Core.Path.{◌≡◌, refl, sym, ap, ◌∙◌, subst}
use mathlib.Core.Bool.{Bool, true, false, ◌&&◌, cond}
use mathlib.Core.Logic.{◌⊎◌, inl, inr}
use mathlib.Core.List.{List, [], ◌∷◌}
use Prim.Native.Nat.{ℕ, zero, suc, ◌+◌, ◌≤◌, ◌<◌}
use native.Mathlib.Nat.{zero-add}
use native.Mathlib.Omega.{arith}
use lib.Dec.{T, eqb, leb, eqb→eq, eqb_refl, leb→le, le→leb}
use lib.ListN.{length, get_or}
use lib.Ieee.{Float, nan, binary64, fits, to_bits}
use lib.Ieee.Bits.{of_bits-to_bits, to_bits-lt}
use Rattle.ieee.proofs.Signs.{of_true}
use Rattle.ieee.proofs.Range.Falls as Falls
use Rattle.ieee.proofs.Range.Falls.{zero_to_one}
use Rattle.refusal.specs.Outcome.{Outcome, answer, refusal, map, bind}
use Rattle.gate_limits.specs.Limits.{within, wavelength_passes, power_passes, beam_passes}
use Rattle.sheet.specs.Blocks.{All}
use Rattle.sheet.specs.Sheet.{SheetSurface, Sheet, WellFormed, encode}
use Rattle.sheet.specs.Claim.{Bytes}
use Rattle.sheet.proofs.Measure.{encode_fits}
use Rattle.sheet_values.specs.Values.{value}
use Rattle.gate.specs.Gate.{gated}
use Rattle.gate.specs.Wavelength.{layers_hold, holds}
use Rattle.gate.specs.Claim.{WithinLimits}
use Rattle.gate.proofs.Wavelengths.{both, and}
use Rattle.gate.proofs.Claim.{gate_claim}
use Rattle.sheet_untuned.specs.Untuned.{without_tuning}
use Rattle.sheet_untuned.specs.Claim.{Untuned, FirstTuning}
use Rattle.sheet_untuned.proofs.Claim.{untuned_claim}
use Rattle.train_steps.specs.Train.{fresh}
use Rattle.train_claim.specs.Claim.{acts, steps}
use Rattle.train_claim.proofs.Falls.{Unit-powers}
use Rattle.train_claim.proofs.Claim.{powers_after, train_claim}
use Rattle.band.specs.declared.BandPowers.{BandPowers}
use Rattle.band.specs.Band.{at_wavelength, at_line, lines_fit, weight_passes, each_line, tested, whole_sum, powers, band}
use Rattle.band.specs.Claim.{Lines, Weight, Passes, FirstFails, Told, lists, weight, wavelength, passed, FromZeroToOne, BandClaim}
use Rattle.band.proofs.Sums.{light}
use Rattle.band.proofs.Bounds.{mean_unit}

-- ---- the sheet at a line's wavelength
range : (w : Float) (ys : List SheetSurface) → T (holds w ys) → T (wavelength_passes w)
unfolding holds
range w ys h = (both (wavelength_passes w) (layers_hold w ys) h).0

module _ (x : Sheet) (formed : WellFormed x) (inside : WithinLimits x) (w : Float) (held : T (fits binary64 w)) where
  same : value (to_bits binary64 w) ≡ w
  same = of_bits-to_bits binary64 w held

  formed_at : WellFormed (at_wavelength x w)
  formed_at = record { edition = formed.edition; wavelength = to_bits-lt binary64 w held; s = formed.s; p = formed.p; surfaces = formed.surfaces; few = formed.few }

  beam_at : T (holds w x.surfaces) → T (beam_passes (value (to_bits binary64 w)) (value x.s) (value x.p))
  unfolding beam_passes
  beam_at h = rw same (and (wavelength_passes w) (power_passes (value x.s) && power_passes (value x.p)) (range w x.surfaces h) (both (wavelength_passes (value x.wavelength)) (power_passes (value x.s) && power_passes (value x.p)) inside.beam).1)

  inside_at : Passes x w → WithinLimits (at_wavelength x w)
  inside_at h = record { beam = beam_at h; surfaces = inside.surfaces; holds = rw same h; tuned = inside.tuned }

  bytes_at : Bytes (encode (at_wavelength x w))
  bytes_at = (encode_fits (at_wavelength x w) formed_at).1

  admitted_at : Passes x w → gated (encode (at_wavelength x w)) ≡ answer (at_wavelength x w)
  admitted_at h = (gate_claim.admits (encode (at_wavelength x w)) bytes_at (at_wavelength x w)).1 ((formed_at, inside_at h), refl)

  passes_at : gated (encode (at_wavelength x w)) ≡ answer (at_wavelength x w) → Passes x w
  passes_at e = let m = (gate_claim.admits (encode (at_wavelength x w)) bytes_at (at_wavelength x w)).0 e in rw same at m.0.1.holds

  line_at : Passes x w → acts (encode (at_wavelength x w)) (steps (length x.surfaces)) (fresh (at_wavelength x w)) ≡ at_line x w
  unfolding at_line
  line_at h = (train_claim.admitted (encode (at_wavelength x w)) bytes_at (at_wavelength x w) (admitted_at h)).lists (steps (length x.surfaces))

  powers_at : Passes x w → Unit-powers (at_line x w)
  unfolding at_line
  powers_at h = powers_after (encode (at_wavelength x w)) (at_wavelength x w) (admitted_at h) formed_at (inside_at h) (steps (length x.surfaces))

  unit_at : Passes x w → Falls.FromZeroToOne (at_line x w).s × Falls.FromZeroToOne (at_line x w).p
  unfolding within
  unit_at h = (zero_to_one (at_line x w).s (powers_at h).s, zero_to_one (at_line x w).p (powers_at h).p)

-- ---- lists and weights
fits_lines : (ws : List Float) (ns : List ℕ) → T (lines_fit ws ns) → Lines ws ns
fits_lines ws ns t =
    let a = both (leb 1 (length ws)) (leb (length ws) 64 && eqb (length ws) (length ns)) t in
    let b = both (leb (length ws) 64) (eqb (length ws) (length ns)) a.1 in
    record { some = leb→le 1 (length ws) a.0; most = leb→le (length ws) 64 b.0; equal = eqb→eq (length ws) (length ns) b.1 }

lines_fits : (ws : List Float) (ns : List ℕ) → Lines ws ns → T (lines_fit ws ns)
lines_fits ws ns l =
    and (leb 1 (length ws)) (leb (length ws) 64 && eqb (length ws) (length ns)) (le→leb 1 (length ws) l.some)
    (and (leb (length ws) 64) (eqb (length ws) (length ns)) (le→leb (length ws) 64 l.most) (subst (λ (k : ℕ). T (eqb (length ws) k)) l.equal (eqb_refl (length ws))))

to_weight : (n : ℕ) → T (weight_passes n) → Weight n
to_weight n t = let b = both (leb 1 n) (leb n 1000) t in (leb→le 1 n b.0, leb→le n 1000 b.1)

of_weight : (n : ℕ) → Weight n → T (weight_passes n)
of_weight n w = and (leb 1 n) (leb n 1000) (le→leb 1 n w.0) (le→leb n 1000 w.1)

all : {A : Type 0} {P Q : A → Type 0} → ((a : A) → P a → Q a) → (cs : List A) → All P cs → All Q cs
all f [] h = tt
all f (c ∷ cs) h = (f c h.0, all f cs h.1)

-- ---- the lines one after another: all pass, or the first that fails is told
module _ {A : Type 0} (number : ℕ) (test : A → Bool) (P : A → Type 0) (to : (a : A) → T (test a) → P a) (of : (a : A) → P a → T (test a)) (d : A) where
  abbrev Split : ℕ → List A → Type 0
  Split line cs = (All P cs × (each_line number test line cs ≡ answer tt)) ⊎ ((i : ℕ) × (FirstFails P d cs i × (each_line number test line cs ≡ refusal number (line + i))))

  never : (a : A) → test a ≡ false → P a → ⊥
  never a e p = subst T e (of a p)

  split : (line : ℕ) (cs : List A) → Split line cs
  unfolding each_line
  split line [] = inl (tt, refl)
  split line (c ∷ cs) = by (test c) refl (split (suc line) cs)
    where
      on : (a b : ℕ) → suc a + b ≡ a + suc b
      on a b = omega arith

      here : (n : ℕ) → n ≡ n + 0
      here n = omega arith

      later : (i : ℕ) → FirstFails P d cs i → P c → FirstFails P d (c ∷ cs) (suc i)
      later i f p = record { inside = omega (arith, f.inside); fails = f.fails; first = before }
        where
          before : (j : ℕ) → j < suc i → P (get_or (c ∷ cs) j d)
          before zero l = p
          before (suc j) l = f.first j (omega arith)

      by : (t : Bool) → test c ≡ t → Split (suc line) cs → (All P (c ∷ cs) × (cond t (each_line number test (suc line) cs) (refusal number line) ≡ answer tt)) ⊎ ((i : ℕ) × (FirstFails P d (c ∷ cs) i × (cond t (each_line number test (suc line) cs) (refusal number line) ≡ refusal number (line + i))))
      by true e (inl (h, q)) = inl ((to c (of_true (test c) e), h), q)
      by true e (inr (i, (f, q))) = inr (suc i, (later i f (to c (of_true (test c) e)), q ∙ ap (refusal number) (on line i)))
      by false e r = inr (0, (record { inside = omega arith; fails = never c e; first = λ j l. absurd (omega arith) }, ap (refusal number) (here line)))

-- ---- how a band is answered
module _ (x : Sheet) (ws : List Float) (ns : List ℕ) where
  abbrev said : Outcome BandPowers
  said = map (λ t. powers x ws ns) (tested x ws ns)

  no_lines : lines_fit ws ns ≡ false → Told x ws ns said
  no_lines e = rw e (lists (λ l. subst T e (lines_fits ws ns l)))

  with_lines : lines_fit ws ns ≡ true → Told x ws ns said
  with_lines e = by (split 15 weight_passes Weight to_weight of_weight 0 0 ns) (split 16 (λ w. holds w x.surfaces) (Passes x) (λ w h. h) (λ w h. h) nan 0 ws)
    where
      l : Lines ws ns
      l = fits_lines ws ns (of_true _ e)

      by : Split 15 weight_passes Weight to_weight of_weight 0 0 ns → Split 16 (λ w. holds w x.surfaces) (Passes x) (λ w h. h) (λ w h. h) nan 0 ws → Told x ws ns said
      by (inr (i, (f, q))) r = rw (e, q, zero-add i) (weight l i f)
      by (inl (h, q)) (inr (i, (f, r))) = rw (e, q, r, zero-add i) (wavelength l h i f)
      by (inl (h, q)) (inl (g, r)) = rw (e, q, r) (passed l h g)

  told : Told x ws ns said
  told = by (lines_fit ws ns) refl
    where
      by : (t : Bool) → lines_fit ws ns ≡ t → Told x ws ns said
      by true e = with_lines e
      by false e = no_lines e

-- ---- the means
heavy : (ns : List ℕ) → 1 ≤ length ns → All Weight ns → 1 ≤ whole_sum ns
unfolding whole_sum
heavy [] l h = absurd (omega arith)
heavy (n ∷ ns) l h = omega (arith, h.0.0)

module _ (src : List ℕ) (bs : Bytes src) (x : Sheet) (g : gated src ≡ answer x) (ws : List Float) (fit : All (λ (w : Float). T (fits binary64 w)) ws) (ns : List ℕ) where
  units : (vs : List Float) → All (λ (w : Float). T (fits binary64 w)) vs → All (Passes x) vs → All (λ (w : Float). Falls.FromZeroToOne (at_line x w).s × Falls.FromZeroToOne (at_line x w).p) vs
  units [] f h = tt
  units (v ∷ vs) f h = let m = ((gate_claim.admits src bs x).0 g).0 in (unit_at x m.0 m.1 v f.0 h.0, units vs f.1 h.1)

  means : Lines ws ns → All Weight ns → All (Passes x) ws → FromZeroToOne (powers x ws ns).s × FromZeroToOne (powers x ws ns).p
  means l h p =
      let u = units ws fit p in
      let least = heavy ns (omega (arith, l.some, l.equal)) h in
      let most = light ws ns (lines_fits ws ns l) (all of_weight ns h) in
      (mean_unit (λ st. st.s) x ws ns l.equal (all (λ w v. v.0) ws u) least most, mean_unit (λ st. st.p) x ws ns l.equal (all (λ w v. v.1) ws u) least most)

  no : {A : Type 0} {a : A} {number place : ℕ} → refusal number place ≡ answer a → ⊥
  no e = let z : ◌≡◌ {A = ℕ} 0 1 = cc in omega arith

  bounds : (b : BandPowers) (o : Outcome BandPowers) → Told x ws ns o → o ≡ answer b → FromZeroToOne b.s × FromZeroToOne b.p
  bounds b _ (lists f) e = absurd (no e)
  bounds b _ (weight l i f) e = absurd (no e)
  bounds b _ (wavelength l h i f) e = absurd (no e)
  bounds b _ (passed l h p) e = subst (λ (z : BandPowers). FromZeroToOne z.s × FromZeroToOne z.p) (same_powers (powers x ws ns) b e) (means l h p)
    where
      same_powers : (a b : BandPowers) → answer a ≡ answer b → a ≡ b
      same_powers a b e = cc

-- ---- the claim
on_sheet : (src : List ℕ) (x : Sheet) (ws : List Float) (ns : List ℕ) → without_tuning src ≡ answer x → band src ws ns ≡ map (λ t. powers x ws ns) (tested x ws ns)
unfolding band
on_sheet src x ws ns e = ap (λ (o : Outcome Sheet). bind o (λ (z : Sheet). map (λ t. powers z ws ns) (tested z ws ns))) e

not_taken : (src : List ℕ) (number place : ℕ) (ws : List Float) (ns : List ℕ) → without_tuning src ≡ refusal number place → band src ws ns ≡ refusal number place
unfolding band
not_taken src number place ws ns e = ap (λ (o : Outcome Sheet). bind o (λ (z : Sheet). map (λ t. powers z ws ns) (tested z ws ns))) e

told_of : (src : List ℕ) → Bytes src → (x : Sheet) → gated src ≡ answer x → Untuned x → (ws : List Float) (ns : List ℕ) → Told x ws ns (band src ws ns)
told_of src bs x g u ws ns = subst (Told x ws ns) (sym (on_sheet src x ws ns (untuned_claim.taken src bs x g u))) (told x ws ns)

bounded : (src : List ℕ) → Bytes src → (ws : List Float) → All (λ (w : Float). T (fits binary64 w)) ws → (ns : List ℕ) (b : BandPowers) → band src ws ns ≡ answer b → FromZeroToOne b.s × FromZeroToOne b.p
bounded src bs ws fit ns b e = go (gated src) refl
  where
    no_such : (number place : ℕ) → band src ws ns ≡ refusal number place → ⊥
    no_such number place q = let z : refusal number place ≡ answer b = sym q ∙ e in apart z
      where
        apart : refusal number place ≡ answer b → ⊥
        apart z = let n : ◌≡◌ {A = ℕ} 0 1 = cc in omega arith

    go : (o : Outcome Sheet) → gated src ≡ o → FromZeroToOne b.s × FromZeroToOne b.p
    go (refusal number place) g = absurd (no_such number place (not_taken src number place ws ns (untuned_claim.turned_back src number place g)))
    go (answer x) g = by (untuned_claim.either x ((gate_claim.admits src bs x).0 g).0.0)
      where
        by : Untuned x ⊎ ((place : ℕ) × FirstTuning x place) → FromZeroToOne b.s × FromZeroToOne b.p
        by (inl u) = bounds src bs x g ws fit ns b (band src ws ns) (told_of src bs x g u ws ns) e
        by (inr (place, f)) = absurd (no_such 12 place (not_taken src 12 place ws ns (untuned_claim.twelve src x g place f)))

pub band_claim : BandClaim
band_claim = record {
  passes = λ src bs x g w f. let m = ((gate_claim.admits src bs x).0 g).0 in (admitted_at x m.0 m.1 w f, passes_at x m.0 m.1 w f);
  line = λ src bs x g w f h. let m = ((gate_claim.admits src bs x).0 g).0 in line_at x m.0 m.1 w f h;
  turned_back = λ src number place e ws ns. not_taken src number place ws ns (untuned_claim.turned_back src number place e);
  twelve = λ src x g place f ws ns. not_taken src 12 place ws ns (untuned_claim.twelve src x g place f);
  told = told_of;
  bounded = bounded;
}
