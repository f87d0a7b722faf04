-- The upper-case bytes, one more at a time, before the zeros that fill the 32 places. Assumes nothing.
use mathlib.Core.Path.{◌≡◌, refl, sym, ap, ◌∙◌}
use Prim.Native.Nat.{ℕ, suc, ◌+◌, ◌-◌, ◌≤◌, ◌<◌}
use native.Mathlib.Numerals.{add-one}
use native.Mathlib.Omega.{arith}
use mathlib.Core.List.{List, [], ◌∷◌, ◌++◌, map, append_assoc, map-append}
use lib.ListN.{length, get_or, take, set, replicate, length-map, length-append}
use lib.Seq.{take-suc, length-take-le, set_at, take_at, take-length}
use Rattle.name_coating.specs.declared.Clean.{Clean}
use Rattle.name_bytes.specs.Ascii.{upper_byte}
use Rattle.name_coating.specs.Name.{upper}

-- the first i bytes of s in upper case
abbrev pub filled : List ℕ → ℕ → List ℕ
filled s i = upper (take i s) ++ replicate (32 - i) 0

pub filled_none : (s : List ℕ) → replicate 32 0 ≡ filled s 0
unfolding upper
filled_none s = refl

zeros : (i : ℕ) → i < 32 → replicate {A = ℕ} (32 - i) 0 ≡ 0 ∷ replicate (32 - suc i) 0
zeros i h = ap (λ (n : ℕ). replicate {A = ℕ} n 0) (less i h)
  where
    less : (i : ℕ) → i < 32 → 32 - i ≡ suc (32 - suc i)
    less i h = omega arith

module _ (s : List ℕ) (i : ℕ) (h : i < length s) (few : length s ≤ 32) where
  one_more : upper (take (suc i) s) ≡ upper (take i s) ++ (upper_byte (get_or s i 0) ∷ [])
  unfolding upper
  one_more = ap (map upper_byte) (take-suc s i 0 h) ∙ map-append upper_byte (take i s) (get_or s i 0 ∷ [])

  size : length (upper (take i s)) ≡ i
  unfolding upper
  size = length-map (take i s) upper_byte ∙ length-take-le i s (omega arith)

  pub filled_more : set (filled s i) i (upper_byte (get_or s i 0)) ≡ filled s (i + 1)
  filled_more =
      ap (λ (l : List ℕ). set (upper (take i s) ++ l) i (upper_byte (get_or s i 0))) (zeros i (omega arith))
      ∙ set_at (upper (take i s)) 0 (replicate (32 - suc i) 0) (upper_byte (get_or s i 0)) i size
      ∙ sym (append_assoc (upper (take i s)) (upper_byte (get_or s i 0) ∷ []) (replicate (32 - suc i) 0))
      ∙ ap (λ (l : List ℕ). l ++ replicate (32 - suc i) 0) (sym one_more)
      ∙ ap (filled s) (sym (add-one i))

pub filled_all : (s : List ℕ) → filled s (length s) ≡ upper s ++ replicate (32 - length s) 0
filled_all s = ap (λ (l : List ℕ). upper l ++ replicate (32 - length s) 0) (take-length s)

-- ---- the upper-case name, which its first bytes are
module _ (s : List ℕ) (u : Clean) (is : u ≡ record { bytes = upper s ++ replicate (32 - length s) 0; len = length s }) where
  size_all : length (upper s) ≡ length s
  unfolding upper
  size_all = length-map s upper_byte

  pub clean_is : take u.len u.bytes ≡ upper s
  clean_is = simp is (take_at (upper s) (replicate (32 - length s) 0) (length s) size_all)

  pub clean_fits : u.len ≤ length u.bytes
  clean_fits = simp is (simp length-append (omega (arith, size_all)))

  pub clean_size : u.len ≡ length (take u.len u.bytes)
  clean_size = sym (length-take-le u.len u.bytes clean_fits)
