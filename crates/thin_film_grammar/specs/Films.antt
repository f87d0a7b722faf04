-- 02 slip 1: the films that a tree stands for, in the order of the text. Definitions only.
use Rattle.std.specs.Prelude.{List, [], ◌∷◌, ◌++◌, ℕ, zero, suc}
use Rattle.thin_film_grammar.specs.declared.Film.{Film}
use Rattle.thin_film_grammar.specs.Grammar.{Stack, none, letter, group}

-- a power that is not written is 1
abbrev pub power_of : ℕ → ℕ
power_of zero = 1
power_of (suc n) = suc n

-- 'a power then repeats the letter or bracket before it'
abbrev pub times : ℕ → List Film → List Film
times zero t = []
times (suc n) t = t ++ times n t

-- 'a whole number before a letter binds first'
abbrev pub film : ℕ → ℕ → Film
film l m = record { letter = l; multiplier = m }

-- 'joining comes last'; neighbours of one letter stay separate
abbrev pub films : Stack → List Film
films none = []
films (letter s m l n) = films s ++ times (power_of n) (film l m ∷ [])
films (group s g n) = films s ++ times (power_of n) (films g)
