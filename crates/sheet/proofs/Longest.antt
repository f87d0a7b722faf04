-- The longest sheets: 64 SURFACEs of 16 layers each, in edition 2 each after a kind 7. Assumes nothing.
use mathlib.Core.Path.{◌≡◌, refl, sym, ap, ◌∙◌}
use mathlib.Core.Bool.{cond}
use mathlib.Core.Logic.{◌⊎◌, inl, inr}
use Prim.Native.Nat.{ℕ, zero, suc, ◌*◌}
use native.Mathlib.Omega.{arith}
use lib.Dec.{eqb}
use lib.ListN.{length, replicate}
use Rattle.sheet.specs.Blocks.{All, flat}
use Rattle.sheet.specs.Sheet.{SheetLayer, layer, cauchy, Tuning, keeps, tunes, SheetSurface, Sheet, GoodLayer, GoodTuning, GoodSurface, WellFormed, kind_word, raw_words, layers_blocks, surfaces_blocks, blocks, words, encode}
use Rattle.sheet.specs.Claim.{longest, Longest}
use Rattle.sheet.proofs.WordBytes.{length_bytes}
use Rattle.sheet.proofs.Measure.{first_word}

module _ (edition : ℕ) (t : Tuning) (tuned : GoodTuning edition t) (l : SheetLayer) (good : GoodLayer edition l) where
  face : SheetSurface
  face = record { tuning = t; payload = 10; n_incident = 0; n_substrate = 0; angle = 0; layers = replicate 16 l }

  full : Sheet
  full = record { edition = edition; wavelength = 0; s = 0; p = 0; surfaces = replicate 64 face }

  layers_good : (n : ℕ) → All (GoodLayer edition) (replicate n l)
  layers_good zero = tt
  layers_good (suc n) = (good, layers_good n)

  face_good : GoodSurface edition face
  unfolding face
  face_good = record { tuning = tuned; payload = omega arith; n_incident = omega arith; n_substrate = omega arith; angle = omega arith; layers = layers_good 16; few = omega arith; custom = inr refl }

  faces_good : (n : ℕ) → All (GoodSurface edition) (replicate n face)
  faces_good zero = tt
  faces_good (suc n) = (face_good, faces_good n)

  full_good : (edition ≡ 1) ⊎ (edition ≡ 2) → WellFormed full
  unfolding full
  full_good e = record { edition = e; wavelength = omega arith; s = omega arith; p = omega arith; surfaces = faces_good 64; few = omega arith }

  -- a sheet of n words, of an edition whose sheets may have so many
  reaches : WellFormed full → (n : ℕ) → length (words full) ≡ n → 4 * n ≡ cond (eqb (kind_word 1 edition) (kind_word 1 2)) 39460 30500 → length (encode full) ≡ longest (encode full)
  unfolding encode full
  reaches h n l e = length_bytes (words full) ∙ ap (λ (m : ℕ). 4 * m) l ∙ e ∙ sym (ap (λ (w : ℕ). cond (eqb w (kind_word 1 2)) 39460 30500) (first_word full h))

  filled : (edition ≡ 1) ⊎ (edition ≡ 2) → (n : ℕ) → length (words full) ≡ n → 4 * n ≡ cond (eqb (kind_word 1 edition) (kind_word 1 2)) 39460 30500 → Longest edition
  unfolding full
  filled e n l q = record { sheet = full; formed = full_good e; edition_is = refl; reaches = reaches (full_good e) n l q }

pub longest_one : Longest 1
unfolding full face blocks surfaces_blocks layers_blocks flat raw_words
longest_one = filled 1 keeps tt (layer 0 0 0) (omega arith, (omega arith, omega arith)) (inl refl) 7625 refl refl

pub longest_two : Longest 2
unfolding full face blocks surfaces_blocks layers_blocks flat raw_words
longest_two = filled 2 (tunes 0) (refl, omega arith) (cauchy 0 0 0 0) (refl, (omega arith, (omega arith, (omega arith, omega arith)))) (inr refl) 9865 refl refl
