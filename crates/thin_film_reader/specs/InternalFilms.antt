-- What the code does to the films so far. Definitions only.
use Rattle.std.specs.Prelude.{◌≡◌, Bool, true, false, cond, List, [], ◌∷◌, ℕ, zero, suc, ◌+◌, ◌*◌, ◌-◌, ◌≤◌, ltb, length, get_or, set, replicate}
use Rattle.thin_film_grammar.specs.declared.Film.{Film}
use Rattle.thin_film_grammar.specs.Grammar.{Sym, blank, dig, let', open', close, hat, bad}
use Rattle.thin_film_grammar.specs.Films.{film}
use Rattle.thin_film_grammar.specs.InternalMachine as M
use Rattle.thin_film_grammar.specs.InternalMachine.{ready, atom, mul1, mul2, gap, caret, pow1, pow2}
use Rattle.thin_film_reader.specs.declared.machine.Phase.{Phase}
use Rattle.thin_film_reader.specs.declared.machine.Phase.TheVariants as P
use Rattle.thin_film_reader.specs.declared.machine.Machine.{Machine}
use Rattle.thin_film_reader.specs.declared.films.Films.{Films}
use Rattle.thin_film_reader.specs.InternalMachine.{Small, halt, small_step, view, Low}

abbrev pub no_film : Film
no_film = film 0 0

abbrev pub no_films : Films
no_films = record { items = replicate 64 no_film; count = 0; unit = 0; opened = replicate 4 0 }

-- more than 64 films
abbrev pub over : Films → Films
over f = record { items = f.items; count = 65; unit = f.unit; opened = f.opened }

abbrev pub pushed : Films → Film → Films
pushed f x = cond (ltb f.count 64)
    (record { items = set f.items f.count x; count = f.count + 1; unit = f.unit; opened = f.opened }) (over f)

-- the film that is an item's length before the next
abbrev pub again : Films → Film
again f = get_or f.items (f.count - f.unit) no_film

unfoldable pub repeated : Films → ℕ → Films
repeated f zero = f
repeated f (suc n) = repeated (pushed f (again f)) n

-- a letter
abbrev pub added : Films → Film → Films
added f x = record { items = (pushed f x).items; count = (pushed f x).count; unit = 1; opened = (pushed f x).opened }

-- an opening bracket inside d others
abbrev pub marked : Films → ℕ → Films
marked f d = record { items = f.items; count = f.count; unit = f.unit; opened = set f.opened d f.count }

-- a closing bracket inside d, which it closes
abbrev pub closed : Films → ℕ → Films
closed f d = record { items = f.items; count = f.count; unit = f.count - get_or f.opened (d - 1) 0; opened = f.opened }

-- ---- the phase of the machine that builds the tree
abbrev pub phase_of : Phase → ℕ → M.Phase
phase_of P.Stop n = ready
phase_of P.Ready n = ready
phase_of P.Atom n = atom
phase_of P.Number1 n = mul1 n
phase_of P.Number2 n = mul2 n
phase_of P.Gap n = gap n
phase_of P.Caret n = caret
phase_of P.Power1 n = pow1 n
phase_of P.Power2 n = pow2

-- whether a multiplier stands before the next letter
abbrev pub numbered : Phase → Bool
numbered P.Stop = false
numbered P.Ready = false
numbered P.Atom = false
numbered P.Number1 = true
numbered P.Number2 = true
numbered P.Gap = true
numbered P.Caret = false
numbered P.Power1 = false
numbered P.Power2 = false

abbrev pub multiplier_in : M.Phase → ℕ
multiplier_in ready = 0
multiplier_in atom = 0
multiplier_in (mul1 n) = n
multiplier_in (mul2 n) = n
multiplier_in (gap n) = n
multiplier_in caret = 0
multiplier_in (pow1 n) = 0
multiplier_in pow2 = 0

-- how many copies of the last item a digit adds
abbrev pub copies_in : M.Phase → ℕ → ℕ
copies_in ready a = 0
copies_in atom a = 0
copies_in (mul1 n) a = 0
copies_in (mul2 n) a = 0
copies_in (gap n) a = 0
copies_in caret a = a - 1
copies_in (pow1 n) a = 9 * n + a
copies_in pow2 a = 0

-- after a symbol, in a phase and inside d brackets
abbrev pub taken : Films → M.Phase → ℕ → Sym → Films
taken f p d blank = f
taken f p d (dig a) = repeated f (copies_in p a * f.unit)
taken f p d (let' l) = added f (film l (multiplier_in p))
taken f p d open' = marked f d
taken f p d close = closed f d
taken f p d hat = f
taken f p d bad = f

-- what holds of the films at any time
pub record Safe (f : Films) : Type 0 where
  pub unit : f.unit ≤ f.count
  pub marks : (j : ℕ) → get_or f.opened j 0 ≤ f.count
  pub few : f.count ≤ 65

-- a symbol does not stop the machine, which has at most four brackets open
pub record Goes (m : Machine) (x : Sym) : Type 0 where
  pub goes : small_step (view m) x ≡ halt → ⊥
  pub low : Low m
