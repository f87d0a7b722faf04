-- 02 slip 1: what a text gives before the indices are looked at: its films, or 9 with a place, or 10. Definitions only.
-- specs/Claim.antt says in the grammar's own words what this is.
use Rattle.std.specs.Prelude.{ℕ, suc, ◌&&◌, cond, List, [], ◌∷◌, leb, length}
use Rattle.refusal.specs.Outcome.{Outcome, answer, refusal}
use Rattle.thin_film_grammar.specs.declared.Film.{Film}
use Rattle.thin_film_grammar.specs.Grammar.{Stack, kind, some}
use Rattle.thin_film_grammar.specs.Films.{films}
use Rattle.thin_film_grammar.specs.InternalMachine.{State, stop, at, step, begin, rests}

-- '10 for more than 64 layers, after 9'
unfoldable pub counted : List Film → Outcome (List Film)
counted l = cond (leb (length l) 64) (answer l) (refusal 10 0)

-- at the end of the text: '9 with the length if the text stops early'
unfoldable pub ended : State → ℕ → Outcome (List Film)
ended stop i = refusal 9 i
ended (at [] s p) i = cond (some s && rests p) (counted (films s)) (refusal 9 i)
ended (at (f ∷ fs) s p) i = refusal 9 i

-- where the machine has stopped, the first; else the second
abbrev pub going : State → Outcome (List Film) → Outcome (List Film) → Outcome (List Film)
going stop x y = x
going (at fs s p) x y = y

-- from the i-th byte on
unfoldable pub read_from : State → ℕ → List ℕ → Outcome (List Film)
read_from q i [] = ended q i
read_from q i (b ∷ bs) = going (step q (kind b)) (refusal 9 i) (read_from (step q (kind b)) (suc i) bs)

-- 'before either, 255 for a text over 255 bytes'
unfoldable pub reading : List ℕ → Outcome (List Film)
reading text = cond (leb (length text) 255) (read_from begin 0 text) (refusal 9 255)
