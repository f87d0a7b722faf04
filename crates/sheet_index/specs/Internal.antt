-- Scaffolding, not to be believed: what is stored from a place on, and what is read back of an index.
use Rattle.std.specs.Prelude.{◌≡◌, ℕ, zero, suc, ◌+◌, ◌≤◌, ◌<◌, List, set, get_or, Float}
use Rattle.std.specs.Float.{nan}
use Rattle.sheet.specs.Internal.{begin}
use Rattle.sheet_index.specs.Index.{layers_of, sine_of, cosine_of}

-- f i, f (i + 1), .. stored in the n places from i on
unfoldable pub stored : {A : Type 0} → (ℕ → A) → ℕ → ℕ → List A → List A
stored f i zero l = l
stored f i (suc n) l = set (stored f i n l) (i + n) (f (i + n))

-- the index of n SURFACEs stands in four lists
pub record Indexed (src : List ℕ) (n : ℕ) (begins counts : List ℕ) (sines cosines : List Float) : Type 0 where
  pub few : n ≤ 64
  pub begun : (i : ℕ) → i < n → get_or begins i 0 ≡ begin src i
  pub counted : (i : ℕ) → i < n → get_or counts i 0 ≡ layers_of src i
  pub sine : (i : ℕ) → i < n → get_or sines i nan ≡ sine_of src i
  pub cosine : (i : ℕ) → i < n → get_or cosines i nan ≡ cosine_of src i
