-- 02 slip 1: what a text gives, in the grammar's words alone. Definitions only; proofs/Claim.antt has the proof.
use Rattle.std.specs.Prelude.{◌≡◌, List, ◌++◌, ℕ, suc, ◌≤◌, ◌<◌, length, take}
use Rattle.refusal.specs.Outcome.{Outcome, answer, refusal}
use Rattle.thin_film_grammar.specs.declared.Film.{Film}
use Rattle.thin_film_grammar.specs.Grammar.{Stack, Text}
use Rattle.thin_film_grammar.specs.Films.{films}
use Rattle.thin_film_grammar.specs.Reading.{reading}

-- some text of the grammar, of any length and any count of layers, begins with these bytes
pub record Begins (bytes : List ℕ) : Type 0 where
  pub rest : List ℕ
  pub tree : Stack
  pub text : Text (bytes ++ rest) tree

-- what a text gives
pub data Gives (text : List ℕ) : Outcome (List Film) → Type 0 where
  -- 'before either, 255 for a text over 255 bytes'
  too_long : 255 < length text → Gives text (refusal 9 255)
  -- '9 with the first byte that no text of this grammar could have there'
  wrong : {i : ℕ} → length text ≤ 255 → i < length text → Begins (take i text) → (Begins (take (suc i) text) → ⊥) → Gives text (refusal 9 i)
  -- 'the length if the text stops early'
  early : length text ≤ 255 → Begins text → ((tree : Stack) → Text text tree → ⊥) → Gives text (refusal 9 (length text))
  -- '10 for more than 64 layers, after 9'
  many : {tree : Stack} → length text ≤ 255 → Text text tree → 64 < length (films tree) → Gives text (refusal 10 0)
  -- else the films of the tree that the text spells
  read : {tree : Stack} → length text ≤ 255 → Text text tree → length (films tree) ≤ 64 → Gives text (answer (films tree))

pub record Grammar : Type 0 where
  -- 'the reading of every accepted text is the only one that the grammar gives'
  pub only_tree : (text : List ℕ) (tree tree' : Stack) → Text text tree → Text text tree' → tree ≡ tree'
  -- every text gives `reading`, and nothing else
  pub gives : (text : List ℕ) → Gives text (reading text)
  pub only : (text : List ℕ) (o : Outcome (List Film)) → Gives text o → o ≡ reading text
