-- Whole numbers that differ by so much at most. Definition only; the laws are in proofs.
use Rattle.std.specs.Prelude.{ℕ, ◌+◌, ◌≤◌}

-- |m - n| ≤ e
pub record Within (e m n : ℕ) : Type 0 where
  pub most : m ≤ n + e
  pub least : n ≤ m + e
