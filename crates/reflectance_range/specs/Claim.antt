-- 02, slip 9, one type. Each f64 is a count of 2^-1074, and the fractions are multiplied out. Types only; proofs/Claim.antt inhabits
-- `RangeClaim`.
use Rattle.std.specs.Prelude.{◌≡◌, ℕ, ◌+◌, ◌*◌, ◌^◌, ◌≤◌, cond, T, leb, ltb, Float}
use Rattle.std.specs.Float.{binary64}
use Rattle.std.specs.Float.Ieee.{fits, le}
use Rattle.ieee.specs.Range.{plus}
use Rattle.ieee.specs.Count.{count}
use Rattle.ieee_near.specs.Index.{Between, Index, difference², sum²}
use Rattle.refusal.specs.Outcome.{answer, refusal}
use Rattle.reflectance_range.specs.declared.ReflectanceRange.{ReflectanceRange}
use Rattle.reflectance_range.specs.Range.{reflectance_range}

-- ---- a range of f64s within 1 to 4
pub record Range (low high : Float) : Type 0 where
  pub low_end : Index low
  pub high_end : Index high
  pub order : T (le low high)

-- ---- the exact fractions
pub record Fraction : Type 0 where
  pub above : ℕ
  pub under : ℕ

-- (n1 - n2)² / (n1 + n2)²
abbrev pub exact : Float → Float → Fraction
exact n1 n2 = record { above = difference² n1 n2; under = sum² n1 n2 }

abbrev pub AtMost : Fraction → Fraction → Type 0
AtMost p q = p.above * q.under ≤ q.above * p.under

abbrev pub larger : Fraction → Fraction → Fraction
larger p q = cond (leb (p.above * q.under) (q.above * p.under)) q p

-- the largest and the smallest over two ranges, from the four ends; 'Overlapping ranges have a true minimum of 0'
abbrev pub largest : Float → Float → Float → Float → Fraction
largest n1-low n1-high n2-low n2-high = larger (exact n1-high n2-low) (exact n1-low n2-high)

abbrev pub smallest : Float → Float → Float → Float → Fraction
smallest n1-low n1-high n2-low n2-high =
    cond (ltb (count n1-high) (count n2-low)) (exact n1-high n2-low)
    (cond (ltb (count n2-high) (count n1-low)) (exact n1-low n2-high) (record { above = 0; under = 1 }))

-- some pair of the ranges has this fraction
pub record Reached (n1-low n1-high n2-low n2-high : Float) (p : Fraction) : Type 0 where
  pub n1 : Float
  pub n2 : Float
  pub first : Between n1-low n1-high n1
  pub second : Between n2-low n2-high n2
  pub same : difference² n1 n2 * p.under ≡ p.above * sum² n1 n2

-- they are the largest and the smallest over all pairs
pub record Extremes (n1-low n1-high n2-low n2-high : Float) : Type 0 where
  pub most : (n1 n2 : Float) → Between n1-low n1-high n1 → Between n2-low n2-high n2
      → AtMost (exact n1 n2) (largest n1-low n1-high n2-low n2-high)
  pub least : (n1 n2 : Float) → Between n1-low n1-high n1 → Between n2-low n2-high n2
      → AtMost (smallest n1-low n1-high n2-low n2-high) (exact n1 n2)
  pub at_most : Reached n1-low n1-high n2-low n2-high (largest n1-low n1-high n2-low n2-high)
  pub at_least : Reached n1-low n1-high n2-low n2-high (smallest n1-low n1-high n2-low n2-high)

-- ---- the two floats
-- 'the exact fraction (n1 - n2)²/(n1 + n2)² lies between the two'
pub record Lies (r : ReflectanceRange) (n1 n2 : Float) : Type 0 where
  pub least : count r.low * sum² n1 n2 ≤ difference² n1 n2 * 2 ^ 1074
  pub most : difference² n1 n2 * 2 ^ 1074 ≤ count r.high * sum² n1 n2

-- 'The gap between them exceeds the true spread by at most' so many 2^-1074: high - low ≤ most - least + excess
abbrev pub Tight : ℕ → ReflectanceRange → Fraction → Fraction → Type 0
Tight excess r most least =
    count r.high * (most.under * least.under) + least.above * most.under * 2 ^ 1074
    ≤ count r.low * (most.under * least.under) + most.above * least.under * 2 ^ 1074 + excess * (most.under * least.under)

-- 2^-40
abbrev pub asked : ℕ
asked = 2 ^ 1034

-- 18·2^-53, some 2^-48.8
abbrev pub reached : ℕ
reached = 18 * 2 ^ 1021

pub record Given (n1-low n1-high n2-low n2-high : Float) (r : ReflectanceRange) : Type 0 where
  -- for every pair of values within the ranges
  pub lies : (n1 n2 : Float) → Between n1-low n1-high n1 → Between n2-low n2-high n2 → Lies r n1 n2
  pub tight : Tight asked r (largest n1-low n1-high n2-low n2-high) (smallest n1-low n1-high n2-low n2-high)
  pub closer : Tight reached r (largest n1-low n1-high n2-low n2-high) (smallest n1-low n1-high n2-low n2-high)
  -- 0 ≤ low ≤ high ≤ 1; a count is without its sign, which is clear
  pub low_sign : T (plus r.low)
  pub high_sign : T (plus r.high)
  pub order : count r.low ≤ count r.high
  pub unit : count r.high ≤ 2 ^ 1074

pub record Answered (n1-low n1-high n2-low n2-high : Float) : Type 0 where
  pub value : ReflectanceRange
  pub is : reflectance_range n1-low n1-high n2-low n2-high ≡ answer value
  pub given : Given n1-low n1-high n2-low n2-high value

-- ---- the slip
pub record RangeClaim : Type 0 where
  pub extremes : (n1-low n1-high n2-low n2-high : Float) → Range n1-low n1-high → Range n2-low n2-high
      → Extremes n1-low n1-high n2-low n2-high
  pub answered : (n1-low n1-high n2-low n2-high : Float) → Range n1-low n1-high → Range n2-low n2-high
      → Answered n1-low n1-high n2-low n2-high
  -- 13 for every other four f64s, and nothing else turns a pair of ranges back
  pub thirteen : (n1-low n1-high n2-low n2-high : Float) → T (fits binary64 n1-low) → T (fits binary64 n1-high) → T (fits binary64 n2-low)
      → T (fits binary64 n2-high) → (Range n1-low n1-high × Range n2-low n2-high → ⊥)
      → reflectance_range n1-low n1-high n2-low n2-high ≡ refusal 13 0
