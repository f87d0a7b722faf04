-- 02 slips 6 and 14: '12 with the word of the first kind 7, after 4, 5 and 6'. Definitions only.
use Rattle.std.specs.Prelude.{cond, List, [], ◌∷◌, ℕ, eqb}
use Rattle.refusal.specs.Outcome.{Outcome, answer, refusal, bind}
use Rattle.sheet.specs.Words.{kind}
use Rattle.sheet.specs.Blocks.{Block}
use Rattle.sheet.specs.Sheet.{Sheet, blocks, places}
use Rattle.gate.specs.Gate.{gated}

unfoldable pub no_tuning : {A : Type 0} → A → List ℕ → List Block → Outcome A
no_tuning a places [] = answer a
no_tuning a [] (b ∷ bs) = answer a
no_tuning a (place ∷ places) (b ∷ bs) = cond (eqb (kind b.word) 7) (refusal 12 place) (no_tuning a places bs)

-- the sheet that some bytes hold, if it is admitted and has no kind 7
unfoldable pub without_tuning : List ℕ → Outcome Sheet
without_tuning src = bind (gated src) (λ (x : Sheet). no_tuning x (places x) (blocks x))
