-- The length of an edition 1 sheet is below 2^32. Assumes nothing.
use mathlib.Core.Path.{◌≡◌, refl, sym, ap, ◌∙◌}
use mathlib.Core.Bool.{Bool, true, false, cond}
use mathlib.Core.List.{List}
use Prim.Native.Nat.{ℕ, ◌^◌, ◌<◌}
use native.Mathlib.Omega.{arith}
use lib.Dec.{leb, lit<}
use lib.ListN.{length}
use Rattle.refusal.specs.Outcome.{Outcome, answer, refusal, map}
use Rattle.sheet.specs.Sheet.{Sheet, WellFormed, words, encode}
use Rattle.sheet.specs.Read.{surfaces_of}
use Rattle.sheet.specs.Claim.{Bytes}
use Rattle.sheet.proofs.WordBytes.{length_bytes}
use Rattle.sheet.proofs.Measure.{length_limits}
use Rattle.gate.proofs.Claim.{gate_claim}
use Rattle.sheet_untuned.specs.Untuned.{without_tuning}
use Rattle.sheet_untuned.proofs.Admitted.{taken}
use Rattle.sheet_edition_1.specs.Edition.{translated, edition_1, Written, written, to_edition_1}
use Rattle.sheet_edition_1.proofs.Shorter.{shorter}
use Rattle.c_call.specs.Call.{Apart}
use Rattle.c_call.proofs.Returned.{Sound}
use Rattle.dihkelu.proofs.Places.{untuned_sound}

-- what is answered is so, and a refusal's number is not 0 and its place leaves it apart
abbrev pub Fine : {A : Type 0} → (A → Type 0) → Outcome A → Type 0
Fine P (answer a) = P a
Fine P (refusal number place) = (0 < number) × (place < 2 ^ 32)

abbrev pub Small : ℕ → Type 0
Small n = n < 2 ^ 32

pub fine_apart : {A : Type 0} (P : A → Type 0) (o : Outcome A) → Fine P o → Apart o
fine_apart P (answer a) h = tt
fine_apart P (refusal number place) h = h.1

abbrev Short : Sheet → Type 0
Short y = length (encode y) < 2 ^ 32

module _ (src : List ℕ) (bytes : Bytes src) where
  short : (x : Sheet) → WellFormed x → Short (translated x)
  unfolding encode
  short x h = omega (arith, shorter x, length_bytes (words x), (length_limits x h).1.0)

  edition_1_fine : Fine Short (edition_1 src)
  unfolding edition_1
  edition_1_fine = go (without_tuning src) refl (untuned_sound src bytes)
    where
      same : (x y : Sheet) → answer x ≡ answer y → x ≡ y
      same x y e = cc

      formed : (x : Sheet) → without_tuning src ≡ answer x → WellFormed x
      formed x e =
          let t = taken src (surfaces_of x) (ap (map surfaces_of) (sym e)) in
          ((gate_claim.admits src bytes x).0 (t.gated_is ∙ ap answer (same t.sheet x (sym t.is ∙ e)))).0.0

      go : (o : Outcome Sheet) → without_tuning src ≡ o → Sound o → Fine Short (map translated o)
      go (answer x) e s = short x (formed x e)
      go (refusal number place) e s = s

  pub fine : (output : List ℕ) → Fine Small (to_edition_1 src output).result
  unfolding to_edition_1
  fine output = go (edition_1 src) edition_1_fine
    where
      either : (b : Bool) (x y : Written) → Fine Small x.result → Fine Small y.result → Fine Small (cond b x y).result
      either true x y h k = h
      either false x y h k = k

      go : (o : Outcome Sheet) → Fine Short o → Fine Small (written o output).result
      go (answer y) h = either (leb (length (encode y)) (length output)) _ _ h (lit< tt, lit< tt)
      go (refusal number place) h = h
