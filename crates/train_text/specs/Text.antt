-- 01, 'Known answers': what the program `train` prints of a sheet, as bytes. Definitions only.
-- "Surface number, T or R, bits of s, bits of p; last the sum's. A refusal prints only `refused N place`." Surfaces are counted from 1, and
-- each line ends in a newline.
use Rattle.std.specs.Prelude.{ℕ, zero, suc, ◌+◌, ◌*◌, ◌/◌, ◌%◌, Bool, cond, List, [], ◌∷◌, ◌++◌, leb, ltb, length, drop, Float}
use Rattle.std.specs.Float.{binary64}
use Rattle.std.specs.Float.Ieee.{eq, to_bits}
use Rattle.refusal.specs.Outcome.{Outcome, answer, refusal}
use Rattle.sheet.specs.Sheet.{SheetSurface, Sheet}
use Rattle.sheet_values.specs.Values.{surface_value}
use Rattle.gate.specs.Gate.{gated}
use Rattle.train_steps.specs.declared.State.{State}
use Rattle.train_steps.specs.Train.{fresh, after_one, sum}

-- ---- numbers, in ASCII
-- `0` to `9`, then `A` to `F`
abbrev pub hex_digit : ℕ → ℕ
hex_digit d = cond (ltb d 10) (48 + d) (55 + d)

-- the last k digits of n, the most significant first
unfoldable pub hex : ℕ → ℕ → List ℕ
hex zero n = []
hex (suc k) n = hex k (n / 16) ++ (hex_digit (n % 16) ∷ [])

-- the pattern of a float; every NaN, which alone does not equal itself, has the same
unfoldable pub pattern : Float → ℕ
pattern x = cond (eq x x) (to_bits binary64 x) 0x7FF8_0000_0000_0000

-- bits: 16 upper-case hexadecimal digits
unfoldable pub bits : Float → List ℕ
bits x = hex 16 (pattern x)

-- n in decimal, for an n of at most k digits
unfoldable pub digits : ℕ → ℕ → List ℕ
digits zero n = []
digits (suc k) n = cond (ltb n 10) ((48 + n) ∷ []) (digits k (n / 10) ++ ((48 + n % 10) ∷ []))

-- 2 ^ 64 has 20 digits
unfoldable pub decimal : ℕ → List ℕ
decimal n = digits 20 n

-- ---- lines
-- " R " or " T "
abbrev pub letter : Bool → List ℕ
letter reflected = cond reflected (32 ∷ 82 ∷ 32 ∷ []) (32 ∷ 84 ∷ 32 ∷ [])

-- surface number, T or R, bits of s, bits of p
unfoldable pub surface_line : ℕ → Bool → Float → Float → List ℕ
surface_line number reflected s p = decimal number ++ (letter reflected ++ (bits s ++ (32 ∷ (bits p ++ (10 ∷ [])))))

-- "sum ", its bits
unfoldable pub sum_line : Float → Float → List ℕ
sum_line s p = 115 ∷ 117 ∷ 109 ∷ 32 ∷ (bits (sum s p) ++ (10 ∷ []))

-- "refused ", number, place
unfoldable pub refused_line : ℕ → ℕ → List ℕ
refused_line number place = 114 ∷ 101 ∷ 102 ∷ 117 ∷ 115 ∷ 101 ∷ 100 ∷ 32 ∷ (decimal number ++ (32 ∷ (decimal place ++ (10 ∷ []))))

-- the lines of the surfaces that are left of a train in a state: one for each step, with the surfaces done then; last the sum's
unfoldable pub lines : State → List SheetSurface → List ℕ
lines st [] = sum_line st.s st.p
lines st (y ∷ ys) =
    let next = after_one st y in
    surface_line next.done (surface_value y).reflected next.s next.p ++ lines next ys

unfoldable pub text : Outcome Sheet → List ℕ
text (answer x) = lines (fresh x) x.surfaces
text (refusal number place) = refused_line number place

-- a run of the sheet has a list of 128 places. That is enough for the 64 surfaces that a sheet has at the most (specs/Claim.antt), so that
-- no 8 is printed
abbrev pub with_room : Outcome Sheet → Outcome Sheet
with_room (answer x) = cond (leb (2 * length x.surfaces) 128) (answer x) (refusal 8 0)
with_room (refusal number place) = refusal number place

unfoldable pub train_text : List ℕ → List ℕ
train_text src = text (with_room (gated src))

-- ---- in a lent buffer
-- how many bytes were written or a refusal, and the buffer
pub record Left : Type 0 where
  pub result : Outcome ℕ
  pub buffer : List ℕ

-- 8 where the buffer is shorter than the text: then nothing is written. The rest of a longer one is untouched
unfoldable pub written : List ℕ → List ℕ → Left
written t buffer =
    cond (leb (length t) (length buffer))
    (record { result = answer (length t); buffer = t ++ drop (length t) buffer })
    (record { result = refusal 8 0; buffer = buffer })
