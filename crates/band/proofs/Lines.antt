-- The first line that fails a test, line by line. Assumes nothing.
use mathlib.Core.Path.{◌≡◌, refl, sym, ap, ◌∙◌}
use mathlib.Core.Bool.{Bool, true, false, cond}
use mathlib.Core.List.{List, [], ◌∷◌}
use Prim.Native.Nat.{ℕ, suc, ◌+◌, ◌≤◌, ◌<◌}
use native.Mathlib.Nat.{add-zero}
use native.Mathlib.Numerals.{add-one}
use native.Mathlib.Omega.{arith}
use lib.Dec.{T}
use lib.ListN.{length, get_or, drop, drop_of_length-le}
use lib.Seq.{drop-cons}
use Rattle.refusal.specs.Outcome.{answer, refusal}
use Rattle.sheet.specs.Blocks.{All}
use Rattle.band.specs.Band.{each_line}
use Rattle.band.specs.Internal.{first_false}

module _ {A : Type 0} (test : A → Bool) where
  passes : (a : A) (cs : List A) → test a ≡ true → first_false test (a ∷ cs) ≡ suc (first_false test cs)
  unfolding first_false
  passes a cs e = rw e

  fails : (a : A) (cs : List A) → test a ≡ false → first_false test (a ∷ cs) ≡ 0
  unfolding first_false
  fails a cs e = rw e

  none : first_false test [] ≡ 0
  unfolding first_false
  none = refl

  -- before the i-th line: none of those before it fails
  module _ (cs : List A) (i : ℕ) (h : first_false test cs ≡ i + first_false test (drop i cs)) where
    pub further : (d : A) → i < length cs → test (get_or cs i d) ≡ true → first_false test cs ≡ i + 1 + first_false test (drop (i + 1) cs)
    further d lt e =
        let k : first_false test (drop i cs) ≡ suc (first_false test (drop (i + 1) cs)) = ap (first_false test) (drop-cons cs i d lt) ∙ passes (get_or cs i d) (drop (suc i) cs) e ∙ ap (λ (n : ℕ). suc (first_false test (drop n cs))) (sym (add-one i)) in
        omega arith

    pub stops : (d : A) → i < length cs → test (get_or cs i d) ≡ false → i ≡ first_false test cs
    stops d lt e =
        let k : first_false test (drop i cs) ≡ 0 = ap (first_false test) (drop-cons cs i d lt) ∙ fails (get_or cs i d) (drop (suc i) cs) e in
        omega arith

    pub ends : i ≤ length cs → length cs ≤ i → length cs ≡ first_false test cs
    ends most le =
        let k : first_false test (drop i cs) ≡ 0 = ap (first_false test) (drop_of_length-le cs le) ∙ none in
        omega arith

-- ---- what the refusal of a list of lines is
module _ {A : Type 0} (number : ℕ) (test : A → Bool) where
  pub line_refused : (line : ℕ) (cs : List A) → first_false test cs < length cs → each_line number test line cs ≡ refusal number (line + first_false test cs)
  unfolding first_false each_line
  line_refused line [] lt = absurd (omega arith)
  line_refused line (c ∷ cs) lt = by (test c) lt (λ l. line_refused (suc line) cs l)
    where
      by : (t : Bool) → cond t (suc (first_false test cs)) 0 < suc (length cs) → (first_false test cs < length cs → each_line number test (suc line) cs ≡ refusal number (suc line + first_false test cs))
          → cond t (each_line number test (suc line) cs) (refusal number line) ≡ refusal number (line + cond t (suc (first_false test cs)) 0)
      by true lt again = again (omega arith) ∙ ap (refusal number) (on line (first_false test cs))
        where
          on : (a b : ℕ) → suc a + b ≡ a + suc b
          on a b = omega arith
      by false lt again = ap (refusal number) (sym (add-zero line))

  pub lines_pass : (line : ℕ) (cs : List A) → length cs ≤ first_false test cs → (each_line number test line cs ≡ answer tt) × All (λ (c : A). T (test c)) cs
  unfolding first_false each_line
  lines_pass line [] le = (refl, tt)
  lines_pass line (c ∷ cs) le = by (test c) le (λ l. lines_pass (suc line) cs l)
    where
      by : (t : Bool) → suc (length cs) ≤ cond t (suc (first_false test cs)) 0 → (length cs ≤ first_false test cs → (each_line number test (suc line) cs ≡ answer tt) × All (λ (c : A). T (test c)) cs)
          → (cond t (each_line number test (suc line) cs) (refusal number line) ≡ answer tt) × (T t × All (λ (c : A). T (test c)) cs)
      by true le again = let a = again (omega arith) in (a.0, (tt, a.1))
      by false le again = absurd (omega arith)
