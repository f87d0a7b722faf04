-- `is` is equality, and `contains` says that there is a place where the pattern stands. Assumes nothing.
use mathlib.Core.Path.{◌≡◌, refl, sym, ap, ◌∙◌, subst}
use Prim.Native.Nat.{ℕ}
use mathlib.Core.Bool.{Bool, true, false, ◌&&◌, ◌||◌}
use mathlib.Core.Logic.{◌⊎◌, inl, inr, ⊎_elim}
use mathlib.Core.List.{List, [], ◌∷◌, ◌++◌, append-nil}
use lib.Dec.{T, eqb, eqb→eq, eqb_refl}
use lib.ListN.{length, drop}
use lib.Seq.{drop-length}
use Rattle.name_bytes.specs.Search.{begins, is, contains, Somewhere, Searching}

-- ---- tests
first : (a b : Bool) → T (a && b) → T a
first true b t = tt
first false b t = t

second : (a b : Bool) → T (a && b) → T b
second true b t = t
second false b t = absurd t

both : (a b : Bool) → T a → T b → T (a && b)
both true b s t = t
both false b s t = s

either : (a b : Bool) → T (a || b) → T a ⊎ T b
either true b t = inl tt
either false b t = inr t

one : (a b : Bool) → T a → T (a || b)
one true b t = tt
one false b t = absurd t

other : (a b : Bool) → T b → T (a || b)
other true b t = tt
other false b t = t

-- ---- begins
split : (s p : List ℕ) → T (begins s p) → s ≡ p ++ drop (length p) s
unfolding begins
split s [] t = refl
split [] (c ∷ cs) t = absurd t
split (b ∷ bs) (c ∷ cs) t =
    ap (λ (x : ℕ). x ∷ bs) (eqb→eq b c (first (eqb b c) (begins bs cs) t)) ∙ ap (λ (l : List ℕ). c ∷ l) (split bs cs (second (eqb b c) (begins bs cs) t))

stands : (p after : List ℕ) → T (begins (p ++ after) p)
unfolding begins
stands [] after = tt
stands (c ∷ cs) after = both (eqb c c) (begins (cs ++ after) cs) (eqb_refl c) (stands cs after)

-- ---- is
is_sound : (s p : List ℕ) → T (is s p) → s ≡ p
unfolding is
is_sound s p t =
    split s p (second (eqb (length s) (length p)) (begins s p) t)
    ∙ ap (λ (n : ℕ). p ++ drop n s) (sym (eqb→eq (length s) (length p) (first (eqb (length s) (length p)) (begins s p) t)))
    ∙ ap (λ (l : List ℕ). p ++ l) (drop-length s) ∙ append-nil p

is_whole : (s : List ℕ) → T (is s s)
unfolding is
is_whole s = both (eqb (length s) (length s)) (begins s s) (eqb_refl (length s)) (subst (λ (l : List ℕ). T (begins l s)) (append-nil s) (stands s []))

-- ---- contains
here : (s p : List ℕ) → T (begins s p) → Somewhere s p
here s p t = record { before = []; after = drop (length p) s; there = split s p t }

further : (b : ℕ) (bs p : List ℕ) → Somewhere bs p → Somewhere (b ∷ bs) p
further b bs p w = record { before = b ∷ w.before; after = w.after; there = ap (λ (l : List ℕ). b ∷ l) w.there }

contains_sound : (s p : List ℕ) → T (contains s p) → Somewhere s p
unfolding contains
contains_sound [] p t = here [] p t
contains_sound (b ∷ bs) p t =
    ⊎_elim (here (b ∷ bs) p) (λ u. further b bs p (contains_sound bs p u)) (either (begins (b ∷ bs) p) (contains bs p) t)

contains_first : (s p : List ℕ) → T (begins s p) → T (contains s p)
unfolding contains
contains_first [] p t = t
contains_first (b ∷ bs) p t = one (begins (b ∷ bs) p) (contains bs p) t

found : (before p after : List ℕ) → T (contains (before ++ (p ++ after)) p)
unfolding contains
found [] p after = contains_first (p ++ after) p (stands p after)
found (b ∷ bs) p after = other (begins (b ∷ bs ++ (p ++ after)) p) (contains (bs ++ (p ++ after)) p) (found bs p after)

contains_whole : (s p : List ℕ) → Somewhere s p → T (contains s p)
contains_whole s p w = subst (λ (l : List ℕ). T (contains l p)) (sym w.there) (found w.before p w.after)

pub searching : Searching
searching = record { is_sound = is_sound; is_whole = is_whole; contains_sound = contains_sound; contains_whole = contains_whole }
