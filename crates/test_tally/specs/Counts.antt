-- The records of a replay, and its counts, one for each of 256 functions. Definitions only.
use Rattle.std.specs.Prelude.{ℕ, zero, suc, ◌+◌, ◌-◌, ◌/◌, ◌%◌, ◌^◌, ◌<◌, ◌≡◌, Bool, true, false, cond, ◌&&◌, List, [], ◌∷◌, length, replicate, Option, Some, None, ◌==◌, nat_le, nat_lt, slice_index, slice_set}
use Rattle.test_records.specs.declared.Header.{Header}

-- a record's words fit into so many bytes
unfoldable pub fits : Header → ℕ → Bool
fits h bytes = cond (nat_lt (bytes / 8) h.args) false (nat_le h.results (bytes / 8 - h.args))

-- a record that was read stands wholly in so many bytes
abbrev pub stands : Option Header → ℕ → Bool
stands (Some h) bytes = fits h bytes
stands None bytes = true

-- whether every answer of a function so far agreed; there are 256 functions
abbrev pub clean : ℕ → List ℕ → List ℕ → Bool
clean f all agreed = cond (nat_lt f 256) (slice_index all f == slice_index agreed f) false

-- whether every answer of the first n functions agreed
unfoldable pub all_clean : ℕ → List ℕ → List ℕ → Bool
all_clean zero all agreed = true
all_clean (suc n) all agreed = all_clean n all agreed && clean n all agreed

-- one more answer of a function
abbrev pub one_more : ℕ → List ℕ → List ℕ
one_more f counts = cond (nat_lt f 256) (slice_set counts f ((slice_index counts f + 1) % 2 ^ 32)) counts

-- all answers and those that agreed, with one more of a function
abbrev pub tallied : ℕ → Bool → List ℕ → List ℕ → (List ℕ × List ℕ)
tallied f agrees all agreed = (one_more f all, cond agrees (one_more f agreed) agreed)

-- all answers and those that agreed, after records that each call a function, the last one first
unfoldable pub after : List (ℕ × Bool) → (List ℕ × List ℕ)
after [] = (replicate 256 0, replicate 256 0)
after (r ∷ before) = tallied r.0 r.1 (after before).0 (after before).1

-- counts of some records, fewer than a count holds
pub record Counted (all agreed : List ℕ) : Type 0 where
  pub records : List (ℕ × Bool)
  pub few : length records < 2 ^ 32
  pub counts : (all, agreed) ≡ after records
