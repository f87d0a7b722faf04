-- The span of a name is its trimmed part. Assumes nothing.
use mathlib.Core.Path.{◌≡◌, refl, sym}
use Prim.Native.Nat.{ℕ, ◌+◌, ◌≤◌, ◌<◌}
use native.Mathlib.Nat.{sub-le}
use native.Mathlib.Omega.{arith}
use mathlib.Core.Bool.{Bool, true, false}
use mathlib.Core.List.{List, [], reverse}
use lib.Dec.{ltb}
use lib.ListN.{length, take, drop, drop_of_length-le, length-drop}
use lib.Seq.{take-nil, length-take-le}
use borrow.Author.Tests.{ltb-true, ltb-false, lt-ltb, le-ltb}
use Rattle.name_bytes.specs.Trim.{blank, prefix, kept, trimmed, span}

kept_le : (s : List ℕ) → kept s ≤ length s
unfolding kept
kept_le s = sub-le (length s) (prefix blank (reverse s))

length_trimmed : (s : List ℕ) → length (trimmed s) ≡ kept (drop (prefix blank s) s)
unfolding trimmed
length_trimmed s = length-take-le (kept (drop (prefix blank s) s)) (drop (prefix blank s) s) (kept_le (drop (prefix blank s) s))

pub trimmed_le : (s : List ℕ) → length (trimmed s) ≤ length s
trimmed_le s = omega (arith, length_trimmed s, kept_le (drop (prefix blank s) s), length-drop (prefix blank s) s)

module _ (s : List ℕ) (h : prefix blank s < length s) where
  pub inside : record { place = prefix blank s; len = kept (drop (prefix blank s) s) } ≡ span s
  unfolding span
  inside = simp (lt-ltb (prefix blank s) (length s) h, length_trimmed s)

  inside_is : take (span s).len (drop (span s).place s) ≡ trimmed s
  unfolding trimmed
  inside_is = simp (sym inside)

  inside_fits : (span s).place + (span s).len ≤ length s
  inside_fits = simp (sym inside) (omega (arith, kept_le (drop (prefix blank s) s), length-drop (prefix blank s) s))

module _ (s : List ℕ) (h : length s ≤ prefix blank s) where
  nothing : trimmed s ≡ []
  unfolding trimmed
  nothing = simp (drop_of_length-le s h) (take-nil (kept []))

  pub outside : record { place = 0; len = 0 } ≡ span s
  unfolding span
  outside = simp (le-ltb (prefix blank s) (length s) h, nothing)

  outside_is : take (span s).len (drop (span s).place s) ≡ trimmed s
  outside_is = simp (sym outside, nothing)

  outside_fits : (span s).place + (span s).len ≤ length s
  outside_fits = simp (sym outside) (omega arith)

pub part_is : (s : List ℕ) → take (span s).len (drop (span s).place s) ≡ trimmed s
part_is s = go (ltb (prefix blank s) (length s)) refl
  where
    go : (b : Bool) → ltb (prefix blank s) (length s) ≡ b → take (span s).len (drop (span s).place s) ≡ trimmed s
    go true e = inside_is s (ltb-true (prefix blank s) (length s) e)
    go false e = outside_is s (ltb-false (prefix blank s) (length s) e)

pub part_fits : (s : List ℕ) → (span s).place + (span s).len ≤ length s
part_fits s = go (ltb (prefix blank s) (length s)) refl
  where
    go : (b : Bool) → ltb (prefix blank s) (length s) ≡ b → (span s).place + (span s).len ≤ length s
    go true e = inside_fits s (ltb-true (prefix blank s) (length s) e)
    go false e = outside_fits s (ltb-false (prefix blank s) (length s) e)
