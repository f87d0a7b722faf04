-- 02 slip 1: the grammar of the stack shorthand, as trees and what it means that a text spells one. Definitions only; there is no reader in
-- it.
use Rattle.std.specs.Prelude.{◌≡◌, List, [], ◌∷◌, ◌++◌, map, Bool, true, false, not, ◌&&◌, cond, ℕ, suc, ◌+◌, ◌*◌, ◌-◌, ◌≤◌, ◌<◌, T, leb, eqb}

-- what a byte is: a space, a digit, a letter (0, 1, 2 for H, L, M), a bracket, a power sign; any other byte is `bad`
pub data Sym : Type 0 where
  blank : Sym
  dig : ℕ → Sym
  let' : ℕ → Sym
  open' : Sym
  close : Sym
  hat : Sym
  bad : Sym

-- byte 0x20 alone is a space
abbrev pub kind : ℕ → Sym
kind b =
    cond (eqb b 0x20) blank
    (cond (eqb b 0x48) (let' 0)
    (cond (eqb b 0x4C) (let' 1)
    (cond (eqb b 0x4D) (let' 2)
    (cond (eqb b 0x28) open'
    (cond (eqb b 0x29) close
    (cond (eqb b 0x5E) hat
    (cond (leb 0x30 b && leb b 0x39) (dig (b - 0x30)) bad)))))))

-- a tree: items from the first to the last. A letter has its factor and its power, a bracket what it holds and its power; 0 where none is
-- written
pub data Stack : Type 0 where
  none : Stack
  letter : Stack → ℕ → ℕ → ℕ → Stack
  group : Stack → Stack → ℕ → Stack

pub data Blank : List Sym → Type 0 where
  nil : Blank []
  more : {t : List Sym} → Blank t → Blank (blank ∷ t)

-- a whole number of one or two digits with no leading zero
pub data Numeral : List Sym → ℕ → Type 0 where
  one : {a : ℕ} → 0 < a → Numeral (dig a ∷ []) a
  two : {a b n : ℕ} → 0 < a → n ≡ 10 * a + b → Numeral (dig a ∷ dig b ∷ []) n

pub data Factor : List Sym → ℕ → Type 0 where
  no_factor : Factor [] 0
  factor : {f b t : List Sym} {n : ℕ} → Numeral f n → Blank b → t ≡ f ++ b → Factor t n

pub data Power : List Sym → ℕ → Type 0 where
  no_power : Power [] 0
  power : {b c e t : List Sym} {n : ℕ} → Blank b → Blank c → Numeral e n → n ≤ 31 → t ≡ b ++ (hat ∷ (c ++ e)) → Power t n

-- digits that touch are one number: a text that ends in a digit is not followed by one
abbrev pub is_dig : Sym → Bool
is_dig blank = false
is_dig (dig a) = true
is_dig (let' l) = false
is_dig open' = false
is_dig close = false
is_dig hat = false
is_dig bad = false

abbrev pub starts : List Sym → Bool
starts [] = false
starts (x ∷ t) = is_dig x

-- whether the last is a digit; b is the answer for nothing
abbrev pub ends : Bool → List Sym → Bool
ends b [] = b
ends b (x ∷ t) = ends (is_dig x) t

abbrev pub some : Stack → Bool
some none = false
some (letter s m l p) = true
some (group s g p) = true

-- with at most k levels of brackets: the text, and its reading
pub data Spells : ℕ → List Sym → Stack → Type 0 where
  nothing : {k : ℕ} → Spells k [] none
  space : {k : ℕ} {t u : List Sym} {s : Stack} → Spells k t s → u ≡ t ++ (blank ∷ []) → Spells k u s
  then_letter : {k m l n : ℕ} {t f p u : List Sym} {s : Stack} → Spells k t s → T (not (ends false t && starts f)) → Factor f m →
      Power p n → u ≡ t ++ (f ++ (let' l ∷ p)) → Spells k u (letter s m l n)
  then_group : {k n : ℕ} {t v p u : List Sym} {s g : Stack} → Spells (suc k) t s → Spells k v g → T (some g) → Power p n →
      u ≡ t ++ (open' ∷ (v ++ (close ∷ p))) → Spells (suc k) u (group s g n)

-- symbols of the grammar: brackets four deep at most, and at least one letter
pub record Symbols (t : List Sym) (s : Stack) : Type 0 where
  pub spells : Spells 4 t s
  pub holds : T (some s)

-- a text of the grammar, and its tree
abbrev pub Text : List ℕ → Stack → Type 0
Text text s = Symbols (map kind text) s
