-- `math_atan::atan2` meets its contract. Assumes nothing.
use mathlib.Core.Path.{sym, ◌∙◌}
use borrow.Author.Rules.{rules}
use lib.Ieee.{is_nan}
use Rattle.math_atan.specs.Atan.{atan2}
use Rattle.ieee.proofs.Signs.{is_nan_lem, not_nan}
use Rattle.math_atan.proofs.atan2.Goals as goal

pub returns-then-y : goal.returns-then-y
unfolding atan2 is_nan
returns-then-y c = simp (is_nan_lem _ c.if-y.true)

pub returns-then-x : goal.returns-then-x
unfolding atan2 is_nan
returns-then-x c = simp (not_nan _ c.if-y.false, is_nan_lem _ c.if-x.true)

pub returns-then-both_infinite : goal.returns-then-both_infinite
unfolding atan2
returns-then-both_infinite c =
    simp (not_nan _ c.if-y.false, not_nan _ c.if-x.false, sym c.both_infinite.ensures ∙ c.if-both_infinite.true, c.with_sign.ensures, c.by_sign.ensures)

pub returns-then-zero_or_infinite : goal.returns-then-zero_or_infinite
unfolding atan2
returns-then-zero_or_infinite c =
    simp (not_nan _ c.if-y.false, not_nan _ c.if-x.false, sym c.both_infinite.ensures ∙ c.if-both_infinite.false, sym c.zero_or_infinite.ensures ∙ c.if-zero_or_infinite.true, c.with_sign-then-zero_or_infinite.ensures, c.by_sign-then-zero_or_infinite.ensures)

pub returns-then-zero_or_infinite-2 : goal.returns-then-zero_or_infinite-2
unfolding atan2
returns-then-zero_or_infinite-2 c =
    simp (not_nan _ c.if-y.false, not_nan _ c.if-x.false, sym c.both_infinite.ensures ∙ c.if-both_infinite.false, sym c.zero_or_infinite.ensures ∙ c.if-zero_or_infinite.false, sym c.zero_or_infinite-else-zero_or_infinite.ensures ∙ c.if-zero_or_infinite-2.true, c.with_sign-then-zero_or_infinite-2.ensures)

pub returns-else-zero_or_infinite-2 : goal.returns-else-zero_or_infinite-2
unfolding atan2
returns-else-zero_or_infinite-2 c =
    simp (not_nan _ c.if-y.false, not_nan _ c.if-x.false, sym c.both_infinite.ensures ∙ c.if-both_infinite.false, sym c.zero_or_infinite.ensures ∙ c.if-zero_or_infinite.false, sym c.zero_or_infinite-else-zero_or_infinite.ensures ∙ c.if-zero_or_infinite-2.false, c.turned.ensures, c.atan.ensures)
