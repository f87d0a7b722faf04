-- The lines, piece behind piece. Assumes nothing.
use mathlib.Core.Path.{◌≡◌, sym, ap, ◌∙◌, subst}
use mathlib.Core.Bool.{Bool, true, false}
use mathlib.Core.List.{List, [], ◌∷◌, ◌++◌}
use Prim.Native.Nat.{ℕ, ◌+◌, ◌-◌, ◌≤◌}
use native.Mathlib.Omega.{arith}
use lib.ListN.{length, take, drop, length-drop}
use lib.Seq.{take_all}
use lib.Ieee.{Float}
use Rattle.train_steps.specs.Train.{sum}
use Rattle.train_text.specs.Text.{hex, pattern, bits, decimal, letter, surface_line, sum_line, refused_line}
use Rattle.train_text.specs.Page.{Appended}
use Rattle.train_text.proofs.Pages.{then}

-- the same bytes
pub same_bytes : {p q : List ℕ} {at r : ℕ} {x y : List ℕ} → x ≡ y → Appended p at x r q → Appended p at y r q
same_bytes {p} {q} {at} {r} e h = subst (λ (z : List ℕ). Appended p at z r q) e h

-- ---- pieces
pub bits_are : {p q : List ℕ} {at r : ℕ} (text : List ℕ) (w : ℕ) (x : Float) → Appended p at text r q → text ≡ hex 16 w → w ≡ pattern x → Appended p at (bits x) r q
unfolding bits
bits_are text w x h e f = same_bytes (e ∙ ap (hex 16) f) h

pub decimal_is : {p q : List ℕ} {at r : ℕ} (digits : List ℕ) (from n : ℕ) → Appended p at (take (20 - from) (drop from digits)) r q → (drop from digits ≡ decimal n) × ((from ≤ 20) × (length digits ≡ 20))
    → Appended p at (decimal n) r q × (r ≤ at + 20)
decimal_is digits from n h d =
    let l : length (drop from digits) ≡ length digits - from = length-drop from digits in
    let g = same_bytes (take_all (20 - from) (drop from digits) (omega (arith, d.1.1)) ∙ d.0) h in
    (g, omega (arith, g.counts, ap length d.0, d.1.1))

pub letter_is : {p q : List ℕ} {at r : ℕ} (b : Bool) → b ≡ true → Appended p at (32 ∷ 82 ∷ 32 ∷ []) r q → Appended p at (letter b) r q × (r ≡ at + 3)
letter_is b e h = (same_bytes (sym (ap letter e)) h, h.counts)

pub other_letter_is : {p q : List ℕ} {at r : ℕ} (b : Bool) → b ≡ false → Appended p at (32 ∷ 84 ∷ 32 ∷ []) r q → Appended p at (letter b) r q × (r ≡ at + 3)
other_letter_is b e h = (same_bytes (sym (ap letter e)) h, h.counts)

-- ---- lines
pub surface_is : {p₀ p₁ p₂ p₃ p₄ p₅ p₆ : List ℕ} {at a b c d e r : ℕ} (n : ℕ) (reflected : Bool) (s p : Float)
    → Appended p₀ at (decimal n) a p₁ × (a ≤ at + 20) → Appended p₁ a (letter reflected) b p₂ × (b ≡ a + 3) → Appended p₂ b (bits s) c p₃ × (c ≡ b + 16)
    → Appended p₃ c (32 ∷ []) d p₄ → Appended p₄ d (bits p) e p₅ × (e ≡ d + 16) → Appended p₅ e (10 ∷ []) r p₆ → Appended p₀ at (surface_line n reflected s p) r p₆ × (r ≤ at + 57)
unfolding surface_line
surface_is n reflected s p f g h i j k = (
  then (decimal n) _ f.0 (then (letter reflected) _ g.0 (then (bits s) _ h.0 (then (32 ∷ []) _ i (then (bits p) (10 ∷ []) j.0 k)))),
  omega (arith, f.1, g.1, h.1, i.counts, j.1, k.counts),
)

pub sum_is : {p₀ p₁ p₂ p₃ : List ℕ} {at a b r : ℕ} (s p x : Float) → at + 21 ≤ length p₀
    → Appended p₀ at (115 ∷ 117 ∷ 109 ∷ 32 ∷ []) a p₁ → x ≡ sum s p → Appended p₁ a (bits x) b p₂ × (b ≡ a + 16) → Appended p₂ b (10 ∷ []) r p₃ → Appended p₀ at (sum_line s p) r p₃ × (r ≤ length p₀)
unfolding sum_line
sum_is s p x room f e g h = (
  same_bytes (ap (λ (z : Float). 115 ∷ 117 ∷ 109 ∷ 32 ∷ (bits z ++ (10 ∷ []))) e) (then (115 ∷ 117 ∷ 109 ∷ 32 ∷ []) _ f (then (bits x) (10 ∷ []) g.0 h)),
  omega (arith, f.counts, g.1, h.counts),
)

pub refusal_is : {p₀ p₁ p₂ p₃ p₄ p₅ : List ℕ} {a b c d r : ℕ} (number place : ℕ) → 50 ≤ length p₀
    → Appended p₀ 0 (114 ∷ 101 ∷ 102 ∷ 117 ∷ 115 ∷ 101 ∷ 100 ∷ 32 ∷ []) a p₁ → Appended p₁ a (decimal number) b p₂ × (b ≤ a + 20) → Appended p₂ b (32 ∷ []) c p₃
    → Appended p₃ c (decimal place) d p₄ × (d ≤ c + 20) → Appended p₄ d (10 ∷ []) r p₅ → Appended p₀ 0 (refused_line number place) r p₅ × (r ≤ length p₀)
unfolding refused_line
refusal_is number place room f g h i j = (
  then (114 ∷ 101 ∷ 102 ∷ 117 ∷ 115 ∷ 101 ∷ 100 ∷ 32 ∷ []) _ f (then (decimal number) _ g.0 (then (32 ∷ []) _ h (then (decimal place) (10 ∷ []) i.0 j))),
  omega (arith, f.counts, g.1, h.counts, i.1, j.counts),
)
