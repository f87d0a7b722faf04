-- The films that the code keeps are those that the tree so far stands for. Assumes nothing.
use mathlib.Core.Path.{◌≡◌, refl, sym, ap, ◌∙◌, subst}
use mathlib.Core.Bool.{Bool, true, false, ◌&&◌, cond}
use mathlib.Core.List.{List, [], ◌∷◌, ◌++◌, append_assoc, append-nil}
use Prim.Native.Nat.{ℕ, zero, suc, ◌+◌, ◌*◌, ◌-◌, ◌≤◌, ◌<◌}
use native.Mathlib.Nat.{zero-mul}
use native.Mathlib.Omega.{arith}
use lib.Dec.{ltb, leb}
use lib.ListN.{length, get_or, set, replicate, length-append, length-set, get_or-append}
use lib.Seq.{set_at, get_or-set_same, get_or-set_other}
use borrow.Author.Tests.{lt-ltb, le-ltb, ltb-true, ltb-false, leb-true}
use Rattle.thin_film_grammar.specs.declared.Film.{Film}
use Rattle.thin_film_grammar.specs.Grammar.{Sym, blank, dig, let', open', close, hat, bad, Stack, none, letter, group, some}
use Rattle.thin_film_grammar.specs.Films.{power_of, times, film, films}
use Rattle.thin_film_grammar.specs.InternalMachine.{Phase, ready, atom, mul1, mul2, gap, caret, pow1, pow2, State, stop, at, raised, opened, shut, digit, spaced, lettered, rests, hatted, step, flat}
use Rattle.thin_film_grammar.proofs.Films.{opening, closing, one_more, unit, times_nil, more_copies, last_copy}
use Rattle.thin_film_reader.specs.declared.films.Films.{Films}
use Rattle.thin_film_reader.specs.InternalFilms.{no_film, no_films, over, pushed, again, repeated, added, marked, closed, multiplier_in, copies_in, taken}
use Rattle.thin_film_reader.proofs.Pushes.{push_over, push_fits, stays_over}
use Rattle.thin_film_reader.proofs.Grown.{grown, grown_longer, grown_times}

-- ---- films in their places
pub data Laid (f : Films) (l : List Film) : Type 0 where
  fits : f.count ≡ length l → length l ≤ 64 → f.items ≡ l ++ replicate (64 - length l) no_film → Laid f l
  full : f.count ≡ 65 → 64 < length l → Laid f l

places : (n : ℕ) → n < 64 → replicate (64 - n) no_film ≡ no_film ∷ replicate (64 - (n + 1)) no_film
places n h = ap (λ (k : ℕ). replicate k no_film) (less n h)
  where
    less : (n : ℕ) → n < 64 → 64 - n ≡ suc (64 - (n + 1))
    less n h = omega arith

laid_fitted : (f : Films) (l : List Film) (x : Film) → f.count ≡ length l → length l < 64 → f.items ≡ l ++ replicate (64 - length l) no_film → Laid (pushed f x) (l ++ (x ∷ []))
laid_fitted f l x e h i =
    let long : length (l ++ (x ∷ [])) ≡ length l + 1 = length-append l (x ∷ []) in
    let below : f.count < 64 = omega arith in
    subst (λ (g : Films). Laid g (l ++ (x ∷ []))) (push_fits f x below)
    (fits (ap (λ (n : ℕ). n + 1) e ∙ sym long) (omega (arith, long))
    (ap (λ (t : List Film). set t f.count x) (i ∙ ap (λ (t : List Film). l ++ t) (places (length l) h)) ∙ set_at l no_film (replicate (64 - (length l + 1)) no_film) x f.count (sym e)
    ∙ sym (append_assoc l (x ∷ []) (replicate (64 - (length l + 1)) no_film)) ∙ ap (λ (n : ℕ). (l ++ (x ∷ [])) ++ replicate (64 - n) no_film) (sym long)))

laid_full : (f : Films) (l : List Film) (x : Film) → 64 ≤ f.count → 64 ≤ length l → Laid (pushed f x) (l ++ (x ∷ []))
laid_full f l x h k =
    let long : length (l ++ (x ∷ [])) ≡ length l + 1 = length-append l (x ∷ []) in
    subst (λ (g : Films). Laid g (l ++ (x ∷ []))) (push_over f x h) (full refl (omega (arith, long)))

pub laid_push : (f : Films) (l : List Film) (x : Film) → Laid f l → Laid (pushed f x) (l ++ (x ∷ []))
laid_push f l x (fits e h i) = go (ltb (length l) 64) refl
  where
    go : (z : Bool) → ltb (length l) 64 ≡ z → Laid (pushed f x) (l ++ (x ∷ []))
    go true t = laid_fitted f l x e (ltb-true _ _ t) i
    go false t = let k = ltb-false _ _ t in laid_full f l x (omega arith) k
laid_push f l x (full e h) = laid_full f l x (omega arith) (omega arith)

-- a full list stays full
pub full_repeated : (f : Films) (n : ℕ) → f.count ≡ 65 → (repeated f n).count ≡ 65
unfolding repeated
full_repeated f zero e = e
full_repeated f (suc n) e = ap (λ (g : Films). (repeated g n).count) (sym (push_over f (again f) (omega arith))) ∙ ap (λ (g : Films). g.count) (stays_over f n)

pushed_unit : (f : Films) (x : Film) → (pushed f x).unit ≡ f.unit
pushed_unit f x = go (ltb f.count 64)
  where
    go : (z : Bool) → (cond z (record { items = set f.items f.count x; count = f.count + 1; unit = f.unit; opened = f.opened }) (over f)).unit ≡ f.unit
    go true = refl
    go false = refl

pub pushed_opened : (f : Films) (x : Film) → (pushed f x).opened ≡ f.opened
pushed_opened f x = go (ltb f.count 64)
  where
    go : (z : Bool) → (cond z (record { items = set f.items f.count x; count = f.count + 1; unit = f.unit; opened = f.opened }) (over f)).opened ≡ f.opened
    go true = refl
    go false = refl

pub repeated_unit : (f : Films) (n : ℕ) → (repeated f n).unit ≡ f.unit
unfolding repeated
repeated_unit f zero = refl
repeated_unit f (suc n) = repeated_unit (pushed f (again f)) n ∙ pushed_unit f (again f)

pub repeated_opened : (f : Films) (n : ℕ) → (repeated f n).opened ≡ f.opened
unfolding repeated
repeated_opened f zero = refl
repeated_opened f (suc n) = repeated_opened (pushed f (again f)) n ∙ pushed_opened f (again f)

again_is : (f : Films) (l : List Film) (u : ℕ) → f.count ≡ length l → f.items ≡ l ++ replicate (64 - length l) no_film → f.unit ≡ u → 0 < u → u ≤ length l → again f ≡ get_or l (length l - u) no_film
again_is f l u e i h k m =
    ap (λ (t : List Film). get_or t (f.count - f.unit) no_film) i ∙ ap (λ (n : ℕ). get_or (l ++ replicate (64 - length l) no_film) n no_film) (place f.count f.unit (length l) u e h)
    ∙ get_or-append l (replicate (64 - length l) no_film) no_film (length l - u) (omega arith)
  where
    place : (a b c d : ℕ) → a ≡ c → b ≡ d → a - b ≡ c - d
    place a b c d e f = omega arith

pub laid_repeated : (n : ℕ) (f : Films) (l : List Film) (u : ℕ) → Laid f l → f.unit ≡ u → 0 < u → u ≤ length l → Laid (repeated f n) (grown u n l)
unfolding repeated
laid_repeated zero f l u h e k m = h
laid_repeated (suc n) f l u (fits c d i) e k m =
    let x = get_or l (length l - u) no_film in
    let long : length (l ++ (x ∷ [])) ≡ length l + 1 = length-append l (x ∷ []) in
    laid_repeated n (pushed f (again f)) (l ++ (x ∷ [])) u
    (subst (λ (y : Film). Laid (pushed f y) (l ++ (x ∷ []))) (sym (again_is f l u c i e k m)) (laid_push f l x (fits c d i))) (pushed_unit f (again f) ∙ e) k (omega (arith, long))
laid_repeated (suc n) f l u (full c d) e k m = full (full_repeated f (suc n) c) (let h = grown_longer u (suc n) l in omega (arith, h))

pub repeated_none : (f : Films) → repeated f 0 ≡ f
unfolding repeated
repeated_none f = refl
