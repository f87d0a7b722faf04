-- The machine: the brackets that are open with what stands before each, what has been read at this level, and a phase. Definitions only.
use Rattle.std.specs.Prelude.{Bool, true, false, ◌&&◌, cond, List, [], ◌∷◌, ◌++◌, ℕ, ◌+◌, ◌*◌, T, ltb, leb, length}
use Rattle.thin_film_grammar.specs.declared.Film.{Film}
use Rattle.thin_film_grammar.specs.Films.{films}
use Rattle.thin_film_grammar.specs.Grammar.{Sym, blank, dig, let', open', close, hat, bad, Stack, none, letter, group, some}

-- ready: an item may follow. atom: a power may follow too. mul1, mul2: after the digits of a factor; gap: and a space. caret: after ^.
-- pow1, pow2: after the digits of a power
pub data Phase : Type 0 where
  ready : Phase
  atom : Phase
  mul1 : ℕ → Phase
  mul2 : ℕ → Phase
  gap : ℕ → Phase
  caret : Phase
  pow1 : ℕ → Phase
  pow2 : Phase

pub data State : Type 0 where
  stop : State
  at : List Stack → Stack → Phase → State

-- the last item with the power n
abbrev pub raised : Stack → ℕ → Stack
raised none n = none
raised (letter s m l p) n = letter s m l n
raised (group s g p) n = group s g n

abbrev pub opened : List Stack → Stack → State
opened fs s = cond (ltb (length fs) 4) (at (s ∷ fs) none ready) stop

abbrev pub shut : List Stack → Stack → State
shut [] s = stop
shut (f ∷ fs) s = cond (some s) (at fs (group f s 0) atom) stop

abbrev pub digit : List Stack → Stack → Phase → ℕ → State
digit fs s ready a = cond (ltb 0 a) (at fs s (mul1 a)) stop
digit fs s atom a = cond (ltb 0 a) (at fs s (mul1 a)) stop
digit fs s (mul1 n) a = at fs s (mul2 (10 * n + a))
digit fs s (mul2 n) a = stop
digit fs s (gap n) a = stop
digit fs s caret a = cond (ltb 0 a && leb a 31) (at fs (raised s a) (pow1 a)) stop
digit fs s (pow1 n) a = cond (leb (10 * n + a) 31) (at fs (raised s (10 * n + a)) pow2) stop
digit fs s pow2 a = stop

abbrev pub spaced : Phase → Phase
spaced ready = ready
spaced atom = atom
spaced (mul1 n) = gap n
spaced (mul2 n) = gap n
spaced (gap n) = gap n
spaced caret = caret
spaced (pow1 n) = ready
spaced pow2 = ready

abbrev pub lettered : List Stack → Stack → Phase → ℕ → State
lettered fs s ready l = at fs (letter s 0 l 0) atom
lettered fs s atom l = at fs (letter s 0 l 0) atom
lettered fs s (mul1 n) l = at fs (letter s n l 0) atom
lettered fs s (mul2 n) l = at fs (letter s n l 0) atom
lettered fs s (gap n) l = at fs (letter s n l 0) atom
lettered fs s caret l = stop
lettered fs s (pow1 n) l = at fs (letter s 0 l 0) atom
lettered fs s pow2 l = at fs (letter s 0 l 0) atom

-- whether an item is complete, so that a bracket may open or close, or the text end
abbrev pub rests : Phase → Bool
rests ready = true
rests atom = true
rests (mul1 n) = false
rests (mul2 n) = false
rests (gap n) = false
rests caret = false
rests (pow1 n) = true
rests pow2 = true

abbrev pub hatted : List Stack → Stack → Phase → State
hatted fs s ready = stop
hatted fs s atom = at fs s caret
hatted fs s (mul1 n) = stop
hatted fs s (mul2 n) = stop
hatted fs s (gap n) = stop
hatted fs s caret = stop
hatted fs s (pow1 n) = stop
hatted fs s pow2 = stop

abbrev pub step : State → Sym → State
step stop x = stop
step (at fs s p) blank = at fs s (spaced p)
step (at fs s p) (dig a) = digit fs s p a
step (at fs s p) (let' l) = lettered fs s p l
step (at fs s p) open' = cond (rests p) (opened fs s) stop
step (at fs s p) close = cond (rests p) (shut fs s) stop
step (at fs s p) hat = hatted fs s p
step (at fs s p) bad = stop

abbrev pub run : State → List Sym → State
run q [] = q
run q (x ∷ t) = run (step q x) t

abbrev pub begin : State
begin = at [] none ready

-- the reading at which the machine accepts
pub data Accepts : State → Stack → Type 0 where
  accepts : {s : Stack} {p : Phase} → T (some s && rests p) → Accepts (at [] s p) s

-- the films of the open brackets and of what stands at this level, in the order of the text
abbrev pub flat : List Stack → Stack → List Film
flat [] s = films s
flat (f ∷ fs) s = flat fs f ++ films s
