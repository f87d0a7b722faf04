-- 01, The rest: byte strings compared and searched, as the Rust compares or searches each. Definitions only; proofs/Meaning.antt shows what
-- the tests mean.
use Rattle.std.specs.Prelude.{◌≡◌, ℕ, Bool, true, false, ◌&&◌, ◌||◌, List, [], ◌∷◌, ◌++◌, T, eqb, length}

-- p stands at the beginning of s
unfoldable pub begins : List ℕ → List ℕ → Bool
begins s [] = true
begins [] (c ∷ cs) = false
begins (b ∷ bs) (c ∷ cs) = eqb b c && begins bs cs

-- s == p
unfoldable pub is : List ℕ → List ℕ → Bool
is s p = eqb (length s) (length p) && begins s p

-- s.contains(p): p stands somewhere in s
unfoldable pub contains : List ℕ → List ℕ → Bool
contains [] p = begins [] p
contains (b ∷ bs) p = begins (b ∷ bs) p || contains bs p

-- there is a place where p stands in s
pub record Somewhere (s p : List ℕ) : Type 0 where
  pub before : List ℕ
  pub after : List ℕ
  pub there : s ≡ before ++ (p ++ after)

-- the claim: the tests mean what their names say
pub record Searching : Type 0 where
  pub is_sound : (s p : List ℕ) → T (is s p) → s ≡ p
  pub is_whole : (s : List ℕ) → T (is s s)
  pub contains_sound : (s p : List ℕ) → T (contains s p) → Somewhere s p
  pub contains_whole : (s p : List ℕ) → Somewhere s p → T (contains s p)
