-- The place of a refusal of the gate, and of a 12, is at most the count of words, so that it leaves the number apart. Assumes nothing.
use mathlib.Core.Path.{◌≡◌, refl, sym, ap, subst}
use mathlib.Core.Logic.{◌⊎◌, inl, inr}
use mathlib.Core.Bool.{Bool, true, false, ◌&&◌, cond}
use mathlib.Core.List.{List, [], ◌∷◌}
use Prim.Native.Nat.{ℕ, zero, suc, ◌+◌, ◌*◌, ◌%◌, ◌^◌, ◌≤◌, ◌<◌}
use native.Mathlib.Omega.{arith}
use lib.Dec.{T, eqb, leb, leb→le}
use lib.ListN.{length, get_or, take, drop, length-append, length-drop}
use lib.Ieee.Fits.{and_l, and_r}
use borrow.Author.Tests.{leb-true}
use Rattle.refusal.specs.Outcome.{Outcome, answer, refusal}
use Rattle.sheet.specs.Words.{word, words_of}
use Rattle.sheet.specs.Blocks.{Block, Grammar, flat, starts, Result, read, fault, mapped, blocks_from}
use Rattle.sheet.specs.Sheet.{Sheet, WellFormed, kind_word, blocks, words, places}
use Rattle.sheet.specs.Read.{decode, sheet_of, at_open, sheet_grammar}
use Rattle.sheet.specs.Claim.{Bytes, longest, length_fits}
use Rattle.sheet.proofs.Claim.{grammar_claim}
use Rattle.sheet.proofs.Measure.{words_of_length, length_limits}
use Rattle.gate.specs.Gate.{gated}
use Rattle.gate.proofs.Claim.{Case, short, broken, outside, inside, cases, gate_claim}
use Rattle.sheet_untuned.specs.Untuned.{without_tuning}
use Rattle.sheet_untuned.specs.Claim.{Untuned, FirstTuning}
use Rattle.sheet_untuned.proofs.Claim.{untuned_claim}
use Rattle.c_layers.proofs.Plain.{Plain}
use Rattle.c_call.specs.Call.{Apart}
use Rattle.c_call.proofs.Returned.{Sound, sound_apart}

-- a refusal without a place
pub plain_sound : {A : Type 0} (o : Outcome A) → Plain o → Sound o
plain_sound (answer a) h = tt
plain_sound (refusal number place) h = (h.0, omega (arith, h.1))

same : {A : Type 0} (p q : ℕ) → ◌≡◌ {A = Result A} (fault p) (fault q) → p ≡ q
same p q e = cc

no_fault : {A : Type 0} (x : A) (q : ℕ) → read x ≡ fault q → ⊥
no_fault x q e = let z : ◌≡◌ {A = ℕ} 0 1 = cc in omega arith

of_mapped : {A B : Type 0} (f : A → B) (r : Result A) (q : ℕ) → mapped f r ≡ fault q → r ≡ fault q
of_mapped f (read x) q e = absurd (no_fault (f x) q e)
of_mapped f (fault p) q e = cc

-- ---- a fault is at a word or just after the last
fault_most : (g : Grammar) (fuel : ℕ) (s : g.Standing) (at : ℕ) (ws : List ℕ) (q : ℕ) → blocks_from g fuel s at ws ≡ fault q → q ≤ at + length ws
unfolding blocks_from
fault_most g zero s at ws q e = omega (arith, same at q e)
fault_most g (suc fuel) s at [] q e = by (g.may_end s) e
  where
    by : (t : Bool) → cond {A = Result (List Block)} t (read []) (fault at) ≡ fault q → q ≤ at + 0
    by true e = absurd (no_fault {A = List Block} [] q e)
    by false e = omega (arith, same at q e)
fault_most g (suc fuel) s at (w ∷ ws) q e =
    by (g.may s w) (leb (g.raws w) (length ws)) refl e (λ z. fault_most g fuel (g.after s w) (at + suc (g.raws w)) (drop (g.raws w) ws) q z)
  where
    rest : Result (List Block)
    rest = blocks_from g fuel (g.after s w) (at + suc (g.raws w)) (drop (g.raws w) ws)

    by : (t u : Bool) → leb (g.raws w) (length ws) ≡ u → cond (t && u) (mapped (λ bs. record { word = w; raw = take (g.raws w) ws } ∷ bs) rest) (fault at) ≡ fault q
        → (rest ≡ fault q → q ≤ at + suc (g.raws w) + length (drop (g.raws w) ws)) → q ≤ at + suc (length ws)
    by true true f e again = let h = again (of_mapped (λ bs. record { word = w; raw = take (g.raws w) ws } ∷ bs) rest q e) in let l = leb-true (g.raws w) (length ws) f in omega (arith, length-drop (g.raws w) ws)
    by true false f e again = omega (arith, same at q e)
    by false u f e again = omega (arith, same at q e)

faulty : (src : List ℕ) (place : ℕ) → decode src ≡ fault place → place ≤ length (words_of src)
unfolding decode
faulty src place e =
    let ws = words_of src in
    let h = fault_most sheet_grammar (suc (length ws)) at_open 0 ws place (of_mapped sheet_of (blocks_from sheet_grammar (suc (length ws)) at_open 0 ws) place e) in
    omega arith

-- ---- a block stands at a word of the sheet
starts_below : (at : ℕ) (bs : List Block) (i : ℕ) → i < length bs → get_or (starts at bs) i 0 < at + length (flat bs)
unfolding starts flat
starts_below at [] i lt = absurd (omega arith)
starts_below at (b ∷ bs) zero lt = omega (arith, length-append b.raw (flat bs))
starts_below at (b ∷ bs) (suc i) lt = let h = starts_below (at + suc (length b.raw)) bs i (omega arith) in omega (arith, length-append b.raw (flat bs))

pub place_below : (x : Sheet) → WellFormed x → (place i : ℕ) → i < length (blocks x) → place ≡ get_or (places x) i 0 → place ≤ 9865
place_below x h place i lt e = omega (arith, starts_below 0 (blocks x) i lt, (length_limits x h).1.0)

-- ---- the gate
module _ (src : List ℕ) (bytes : Bytes src) where
  most : longest src ≤ 39460
  most = by (eqb (word src 0) (kind_word 1 2))
    where
      by : (t : Bool) → cond t 39460 30500 ≤ 39460
      by true = omega arith
      by false = omega arith

  fits : T (length_fits src) → (36 ≤ length src) × (length src ≤ 39460)
  fits t =
      let n = length src in
      let u = and_r (eqb (n % 4) 0) (leb 36 n && leb n (longest src)) t in
      (leb→le 36 n (and_l (leb 36 n) (leb n (longest src)) u), omega (arith, leb→le n (longest src) (and_r (leb 36 n) (leb n (longest src)) u), most))

  of_case : {o : Outcome Sheet} → Case src o → Sound o
  of_case (short f) = (omega arith, omega arith)
  of_case (broken t place d) = let l = fits t in let w = words_of_length src in (omega arith, omega (arith, faulty src place d))
  of_case (outside t x d place f) = (omega arith, omega (arith, place_below x ((grammar_claim.reads src bytes t x).0 d).0 place f.block f.inside f.stands))
  of_case (inside t x d h) = tt

  pub gate_sound : Sound (gated src)
  gate_sound = of_case (cases src)

  pub gate_apart : Apart (gated src)
  gate_apart = sound_apart (gated src) gate_sound

  -- 12 is at a word of the sheet
  pub untuned_sound : Sound (without_tuning src)
  untuned_sound = go (gated src) refl gate_sound
    where
      go : (o : Outcome Sheet) → gated src ≡ o → Sound o → Sound (without_tuning src)
      go (refusal number place) g s = subst Sound (sym (untuned_claim.turned_back src number place g)) s
      go (answer x) g s = by (untuned_claim.either x formed)
        where
          formed : WellFormed x
          formed = ((gate_claim.admits src bytes x).0 g).0.0

          by : Untuned x ⊎ ((place : ℕ) × FirstTuning x place) → Sound (without_tuning src)
          by (inl u) = subst Sound (sym (untuned_claim.taken src bytes x g u)) tt
          by (inr (place, f)) = subst Sound (sym (untuned_claim.twelve src x g place f)) (omega arith, omega (arith, place_below x formed place f.block f.inside f.stands))
