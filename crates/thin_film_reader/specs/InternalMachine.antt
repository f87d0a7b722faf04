-- What the machine of the code holds, of the machine that builds the tree (thin_film_grammar, InternalMachine): how many brackets are open,
-- whether anything stands at
-- this level, and the phase. Definitions only.
use Rattle.std.specs.Prelude.{◌≡◌, Bool, true, false, ◌&&◌, cond, ℕ, suc, pred, ◌+◌, ◌*◌, ◌≤◌, List, [], ◌∷◌, ltb, leb, eqb, length}
use Rattle.thin_film_grammar.specs.Grammar.{Sym, blank, dig, let', open', close, hat, bad, some}
use Rattle.thin_film_grammar.specs.InternalMachine as M
use Rattle.thin_film_grammar.specs.InternalMachine.{ready, atom, mul1, mul2, gap, caret, pow1, pow2, State, stop, at, spaced, rests}
use Rattle.thin_film_reader.specs.declared.machine.Phase.{Phase}
use Rattle.thin_film_reader.specs.declared.machine.Phase.TheVariants as P
use Rattle.thin_film_reader.specs.declared.machine.Machine.{Machine}

pub data Small : Type 0 where
  halt : Small
  on : ℕ → Bool → M.Phase → Small

abbrev pub erase : State → Small
erase stop = halt
erase (at fs s p) = on (length fs) (some s) p

abbrev pub small_digit : ℕ → Bool → M.Phase → ℕ → Small
small_digit d any ready a = cond (ltb 0 a) (on d any (mul1 a)) halt
small_digit d any atom a = cond (ltb 0 a) (on d any (mul1 a)) halt
small_digit d any (mul1 n) a = on d any (mul2 (10 * n + a))
small_digit d any (mul2 n) a = halt
small_digit d any (gap n) a = halt
small_digit d any caret a = cond (ltb 0 a && leb a 31) (on d any (pow1 a)) halt
small_digit d any (pow1 n) a = cond (leb (10 * n + a) 31) (on d any pow2) halt
small_digit d any pow2 a = halt

abbrev pub small_letter : ℕ → M.Phase → Small
small_letter d ready = on d true atom
small_letter d atom = on d true atom
small_letter d (mul1 n) = on d true atom
small_letter d (mul2 n) = on d true atom
small_letter d (gap n) = on d true atom
small_letter d caret = halt
small_letter d (pow1 n) = on d true atom
small_letter d pow2 = on d true atom

abbrev pub small_hat : ℕ → Bool → M.Phase → Small
small_hat d any ready = halt
small_hat d any atom = on d any caret
small_hat d any (mul1 n) = halt
small_hat d any (mul2 n) = halt
small_hat d any (gap n) = halt
small_hat d any caret = halt
small_hat d any (pow1 n) = halt
small_hat d any pow2 = halt

abbrev pub small_step : Small → Sym → Small
small_step halt x = halt
small_step (on d any p) blank = on d any (spaced p)
small_step (on d any p) (dig a) = small_digit d any p a
small_step (on d any p) (let' l) = small_letter d p
small_step (on d any p) open' = cond (rests p) (cond (ltb d 4) (on (suc d) false ready) halt) halt
small_step (on d any p) close = cond (rests p) (cond (ltb 0 d) (cond any (on (pred d) true atom) halt) halt) halt
small_step (on d any p) hat = small_hat d any p
small_step (on d any p) bad = halt

-- ---- the code's machine
abbrev pub view_at : Phase → ℕ → Bool → ℕ → Small
view_at P.Stop n any d = halt
view_at P.Ready n any d = on d any ready
view_at P.Atom n any d = on d any atom
view_at P.Number1 n any d = on d any (mul1 n)
view_at P.Number2 n any d = on d any (mul2 n)
view_at P.Gap n any d = on d any (gap n)
view_at P.Caret n any d = on d any caret
view_at P.Power1 n any d = on d any (pow1 n)
view_at P.Power2 n any d = on d any pow2

abbrev pub view : Machine → Small
view m = view_at m.phase m.number m.any m.depth

abbrev pub spaced_in : Phase → Phase
spaced_in P.Stop = P.Stop
spaced_in P.Ready = P.Ready
spaced_in P.Atom = P.Atom
spaced_in P.Number1 = P.Gap
spaced_in P.Number2 = P.Gap
spaced_in P.Gap = P.Gap
spaced_in P.Caret = P.Caret
spaced_in P.Power1 = P.Ready
spaced_in P.Power2 = P.Ready

abbrev pub rests_in : Phase → Bool
rests_in P.Stop = false
rests_in P.Ready = true
rests_in P.Atom = true
rests_in P.Number1 = false
rests_in P.Number2 = false
rests_in P.Gap = false
rests_in P.Caret = false
rests_in P.Power1 = true
rests_in P.Power2 = true

-- a letter may follow
abbrev pub takes_letter : Phase → Bool
takes_letter P.Stop = false
takes_letter P.Ready = true
takes_letter P.Atom = true
takes_letter P.Number1 = true
takes_letter P.Number2 = true
takes_letter P.Gap = true
takes_letter P.Caret = false
takes_letter P.Power1 = true
takes_letter P.Power2 = true

-- a power may follow
abbrev pub takes_power : Phase → Bool
takes_power P.Stop = false
takes_power P.Ready = false
takes_power P.Atom = true
takes_power P.Number1 = false
takes_power P.Number2 = false
takes_power P.Gap = false
takes_power P.Caret = false
takes_power P.Power1 = false
takes_power P.Power2 = false

-- a first digit is a digit
abbrev pub Low_at : Phase → ℕ → Type 0
Low_at P.Stop n = Unit {0}
Low_at P.Ready n = Unit {0}
Low_at P.Atom n = Unit {0}
Low_at P.Number1 n = n ≤ 9
Low_at P.Number2 n = Unit {0}
Low_at P.Gap n = Unit {0}
Low_at P.Caret n = Unit {0}
Low_at P.Power1 n = n ≤ 9
Low_at P.Power2 n = Unit {0}

pub record Low (m : Machine) : Type 0 where
  pub number : Low_at m.phase m.number
  pub depth : m.depth ≤ 4

abbrev pub halted_in : Phase → Bool
halted_in P.Stop = true
halted_in P.Ready = false
halted_in P.Atom = false
halted_in P.Number1 = false
halted_in P.Number2 = false
halted_in P.Gap = false
halted_in P.Caret = false
halted_in P.Power1 = false
halted_in P.Power2 = false

-- a text may end
abbrev pub whole_in : Machine → Bool
whole_in m = eqb m.depth 0 && (m.any && rests_in m.phase)

-- the same with another phase
abbrev pub at_phase : Machine → Phase → Machine
at_phase m p = record { phase = p; number = m.number; any = m.any; depth = m.depth }

-- r is m after a symbol
pub record Stepped (m : Machine) (x : Sym) (r : Machine) : Type 0 where
  pub seen : view r ≡ small_step (view m) x
  pub low : Low r

-- r is m after a letter, whichever it is
abbrev pub Lettered : Machine → Machine → Type 0
Lettered m r = (l : ℕ) → Stepped m (let' l) r

abbrev pub stopped : Machine
stopped = record { phase = P.Stop; number = 0; any = false; depth = 0 }

abbrev pub begin : Machine
begin = record { phase = P.Ready; number = 0; any = false; depth = 0 }
