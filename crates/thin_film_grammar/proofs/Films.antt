-- What each step does to the films: a bracket changes nothing, a letter adds one, a power repeats the last item. Assumes nothing.
use mathlib.Core.Path.{◌≡◌, refl, sym, ap, ◌∙◌}
use mathlib.Core.List.{List, [], ◌∷◌, ◌++◌, append_assoc, append-nil}
use Prim.Native.Nat.{ℕ, zero, suc, pred, ◌+◌}
use native.Mathlib.Nat.{zero-add}
use native.Mathlib.Omega.{arith}
use Rattle.thin_film_grammar.specs.declared.Film.{Film}
use Rattle.thin_film_grammar.specs.Grammar.{Stack, none, letter, group}
use Rattle.thin_film_grammar.specs.InternalMachine.{raised}
use Rattle.thin_film_grammar.specs.Films.{power_of, times, film, films}
use Rattle.thin_film_grammar.specs.InternalMachine.{flat}

pub opening : (fs : List Stack) (s : Stack) → flat (s ∷ fs) none ≡ flat fs s
opening fs s = append-nil (flat fs s)

-- films that a level adds are added to those before it
added : (fs : List Stack) (s s' : Stack) (t : List Film) → films s' ≡ films s ++ t → flat fs s' ≡ flat fs s ++ t
added [] s s' t e = e
added (f ∷ fs) s s' t e = ap (λ (u : List Film). flat fs f ++ u) e ∙ sym (append_assoc (flat fs f) (films s) t)

pub closing : (fs : List Stack) (f s : Stack) → flat fs (group f s 0) ≡ flat (f ∷ fs) s
closing fs f s = added fs f (group f s 0) (films s) (ap (λ (u : List Film). films f ++ u) (append-nil (films s)))

pub one_more : (fs : List Stack) (s : Stack) (m l : ℕ) → flat fs (letter s m l 0) ≡ flat fs s ++ (film l m ∷ [])
one_more fs s m l = added fs s (letter s m l 0) (film l m ∷ []) refl

-- what stands before the last item, and one copy of it
abbrev pub before : Stack → Stack
before none = none
before (letter s m l p) = s
before (group s g p) = s

abbrev pub unit : Stack → List Film
unit none = []
unit (letter s m l p) = film l m ∷ []
unit (group s g p) = films g

abbrev pub copies : Stack → ℕ → List Film
copies none n = []
copies (letter s m l p) n = times (power_of n) (film l m ∷ [])
copies (group s g p) n = times (power_of n) (films g)

pub raising : (fs : List Stack) (s : Stack) (n : ℕ) → flat fs (raised s n) ≡ flat fs (before s) ++ copies s n
raising fs none n = sym (append-nil (flat fs none))
raising fs (letter s m l p) n = added fs s (letter s m l n) (times (power_of n) (film l m ∷ [])) refl
raising fs (group s g p) n = added fs s (group s g n) (times (power_of n) (films g)) refl

-- ---- copies of the last item
pub times_nil : (n : ℕ) → times n [] ≡ []
times_nil zero = refl
times_nil (suc n) = times_nil n

one_more_sum : (m n : ℕ) → suc m + n ≡ suc (m + n)
one_more_sum m n = omega arith

pub times_add : (m n : ℕ) (u : List Film) → times (m + n) u ≡ times m u ++ times n u
times_add zero n u = ap (λ (k : ℕ). times k u) (zero-add n)
times_add (suc m) n u = ap (λ (k : ℕ). times k u) (one_more_sum m n) ∙ ap (λ (t : List Film). u ++ t) (times_add m n u) ∙ sym (append_assoc u (times m u) (times n u))

pub times_last : (n : ℕ) (u : List Film) → times (suc n) u ≡ times n u ++ u
times_last zero u = append-nil u
times_last (suc n) u = ap (λ (t : List Film). u ++ t) (times_last n u) ∙ sym (append_assoc u (times n u) u)

copies_are : (s : Stack) (n : ℕ) → copies s n ≡ times (power_of n) (unit s)
copies_are none n = sym (times_nil (power_of n))
copies_are (letter s m l p) n = refl
copies_are (group s g p) n = refl

raised_are : (fs : List Stack) (s : Stack) (n : ℕ) → flat fs (raised s n) ≡ flat fs (before s) ++ times (power_of n) (unit s)
raised_are fs s n = raising fs s n ∙ ap (λ (t : List Film). flat fs (before s) ++ t) (copies_are s n)

-- a higher power has so many copies more
pub more_copies : (fs : List Stack) (s : Stack) (n m k : ℕ) → raised s n ≡ s → power_of m ≡ power_of n + k → flat fs (raised s m) ≡ flat fs s ++ times k (unit s)
more_copies fs s n m k e h =
    raised_are fs s m ∙ ap (λ (j : ℕ). flat fs (before s) ++ times j (unit s)) h ∙ ap (λ (t : List Film). flat fs (before s) ++ t) (times_add (power_of n) k (unit s))
    ∙ sym (append_assoc (flat fs (before s)) (times (power_of n) (unit s)) (times k (unit s))) ∙ ap (λ (t : List Film). t ++ times k (unit s)) (sym (raised_are fs s n) ∙ ap (flat fs) e)

-- what stands before the last copy
pub last_copy : (fs : List Stack) (s : Stack) (n : ℕ) → raised s n ≡ s → (t : List Film) × (flat fs s ≡ t ++ unit s)
last_copy fs s n e = (flat fs (before s) ++ times (pred (power_of n)) (unit s), sym (ap (flat fs) e) ∙ raised_are fs s n ∙ ap (λ (t : List Film). flat fs (before s) ++ t) (one n) ∙ sym (append_assoc (flat fs (before s)) (times (pred (power_of n)) (unit s)) (unit s)))
  where
    one : (n : ℕ) → times (power_of n) (unit s) ≡ times (pred (power_of n)) (unit s) ++ unit s
    one zero = times_last 0 (unit s)
    one (suc n) = times_last n (unit s)
