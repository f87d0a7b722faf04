-- Each symbol keeps the films those of the tree so far. Assumes nothing.
use mathlib.Core.Path.{◌≡◌, refl, sym, ap, ◌∙◌, subst}
use mathlib.Core.Bool.{Bool, true, false, ◌&&◌, cond}
use mathlib.Core.List.{List, [], ◌∷◌, ◌++◌, append_assoc, append-nil}
use Prim.Native.Nat.{ℕ, zero, suc, ◌+◌, ◌*◌, ◌-◌, ◌≤◌, ◌<◌}
use native.Mathlib.Nat.{zero-mul, mul-zero}
use native.Mathlib.Omega.{arith}
use lib.Dec.{T, ltb, leb, lit≤}
use lib.ListN.{length, get_or, set, replicate, length-append, length-set}
use lib.Seq.{get_or-set_same, get_or-set_other}
use borrow.Author.Tests.{ltb-true, leb-true}
use Rattle.thin_film_grammar.specs.declared.Film.{Film}
use Rattle.thin_film_grammar.specs.Grammar.{Sym, blank, dig, let', open', close, hat, bad, Stack, none, letter, group, some}
use Rattle.thin_film_grammar.specs.Films.{power_of, times, film, films}
use Rattle.thin_film_grammar.specs.InternalMachine.{Phase, ready, atom, mul1, mul2, gap, caret, pow1, pow2, State, stop, at, raised, opened, shut, digit, spaced, lettered, rests, hatted, step, flat}
use Rattle.thin_film_grammar.proofs.Complete.{raised_again}
use Rattle.thin_film_grammar.proofs.Films.{opening, closing, one_more, unit, times_nil, more_copies, last_copy}
use Rattle.thin_film_reader.specs.declared.films.Films.{Films}
use Rattle.thin_film_reader.specs.InternalFilms.{no_film, no_films, over, pushed, again, repeated, added, marked, closed, multiplier_in, copies_in, taken}
use Rattle.thin_film_reader.proofs.Grown.{grown, grown_longer, grown_times}
use Rattle.thin_film_reader.proofs.Kept.{Laid, fits, full, laid_push, laid_repeated, full_repeated, repeated_unit, repeated_opened, pushed_opened, repeated_none}

-- ---- where each open bracket began
abbrev Marks : List ℕ → List Stack → Type 0
Marks o [] = Unit {0}
Marks o (s ∷ fs) = (get_or o (length fs) 0 ≡ length (flat fs s)) × Marks o fs

marks_set : (fs : List Stack) (o : List ℕ) (i v : ℕ) → length fs ≤ i → Marks o fs → Marks (set o i v) fs
marks_set [] o i v h m = tt
marks_set (s ∷ fs) o i v h m =
    let below : length fs < i = omega arith in
    (get_or-set_other o i (length fs) v 0 (λ e. omega arith) ∙ m.0, marks_set fs o i v (omega arith) m.1)

-- ---- the last item: what its power is so far, and one copy's length
abbrev Plain : Phase → Stack → Type 0
Plain ready s = Unit {0}
Plain atom s = raised s 0 ≡ s
Plain (mul1 n) s = Unit {0}
Plain (mul2 n) s = Unit {0}
Plain (gap n) s = Unit {0}
Plain caret s = raised s 0 ≡ s
Plain (pow1 n) s = (0 < n) × (raised s n ≡ s)
Plain pow2 s = Unit {0}

abbrev Measured : Phase → ℕ → Stack → Type 0
Measured ready n s = Unit {0}
Measured atom n s = n ≡ length (unit s)
Measured (mul1 m) n s = Unit {0}
Measured (mul2 m) n s = Unit {0}
Measured (gap m) n s = Unit {0}
Measured caret n s = n ≡ length (unit s)
Measured (pow1 m) n s = n ≡ length (unit s)
Measured pow2 n s = Unit {0}

pub data Kept (f : Films) (fs : List Stack) (s : Stack) (p : Phase) : Type 0 where
  kept : Plain p s → Laid f (flat fs s) → Marks f.opened fs → length f.opened ≡ 4 → Measured p f.unit s → Kept f fs s p
  past : Plain p s → f.count ≡ 65 → 64 < length (flat fs s) → Kept f fs s p

abbrev pub Held : Films → State → Type 0
Held f stop = Unit {0}
Held f (at fs s p) = Kept f fs s p

pub laid_of : (f : Films) (fs : List Stack) (s : Stack) (p : Phase) → Kept f fs s p → Laid f (flat fs s)
laid_of f fs s p (kept a l m o u) = l
laid_of f fs s p (past a c h) = full c h

held_if : (f : Films) (b : Bool) (q : State) → (b ≡ true → Held f q) → Held f (cond b q stop)
held_if f true q h = h refl
held_if f false q h = tt

-- another phase in which nothing is asked of the last item
module _ (f : Films) (fs : List Stack) (s : Stack) (p : Phase) where
  free : (q : Phase) → Plain q s → ((n : ℕ) → Measured q n s) → Kept f fs s p → Kept f fs s q
  free q a b (kept _ l m o u) = kept a l m o (b f.unit)
  free q a b (past _ c h) = past a c h

spaced_kept : (f : Films) (fs : List Stack) (s : Stack) (p : Phase) → Kept f fs s p → Kept f fs s (spaced p)
spaced_kept f fs s ready h = h
spaced_kept f fs s atom h = h
spaced_kept f fs s (mul1 n) h = free f fs s (mul1 n) (gap n) tt (λ n. tt) h
spaced_kept f fs s (mul2 n) h = free f fs s (mul2 n) (gap n) tt (λ n. tt) h
spaced_kept f fs s (gap n) h = h
spaced_kept f fs s caret h = h
spaced_kept f fs s (pow1 n) h = free f fs s (pow1 n) ready tt (λ n. tt) h
spaced_kept f fs s pow2 h = free f fs s pow2 ready tt (λ n. tt) h

hat_kept : (f : Films) (fs : List Stack) (s : Stack) (p : Phase) → Kept f fs s p → Held f (hatted fs s p)
hat_kept f fs s ready h = tt
hat_kept f fs s atom (kept a l m o u) = kept a l m o u
hat_kept f fs s atom (past a c h) = past a c h
hat_kept f fs s (mul1 n) h = tt
hat_kept f fs s (mul2 n) h = tt
hat_kept f fs s (gap n) h = tt
hat_kept f fs s caret h = tt
hat_kept f fs s (pow1 n) h = tt
hat_kept f fs s pow2 h = tt

-- ---- a letter
module _ (f : Films) (fs : List Stack) (s : Stack) (p : Phase) (l m : ℕ) where
  letter_kept : Kept f fs s p → Kept (added f (film l m)) fs (letter s m l 0) atom
  letter_kept (kept a k n o u) =
      kept refl (relaid (subst (Laid (pushed f (film l m))) (sym (one_more fs s m l)) (laid_push f (flat fs s) (film l m) k)))
      (subst (λ (t : List ℕ). Marks t fs) (sym (pushed_opened f (film l m))) n) (ap length (pushed_opened f (film l m)) ∙ o) refl
    where
      relaid : {t : List Film} → Laid (pushed f (film l m)) t → Laid (added f (film l m)) t
      relaid (fits a b c) = fits a b c
      relaid (full a b) = full a b
  letter_kept (past a c h) = past refl (gone (laid_push f (flat fs s) (film l m) (full c h))) (subst (λ (t : List Film). 64 < length t) (sym (one_more fs s m l)) (let e = length-append (flat fs s) (film l m ∷ []) in omega (arith, e)))
    where
      gone : Laid (pushed f (film l m)) (flat fs s ++ (film l m ∷ [])) → (pushed f (film l m)).count ≡ 65
      gone (fits x y z) = let e = length-append (flat fs s) (film l m ∷ []) in absurd (omega (arith, e))
      gone (full x y) = x

letters_kept : (f : Films) (fs : List Stack) (s : Stack) (p : Phase) (l : ℕ) → Kept f fs s p → Held (added f (film l (multiplier_in p))) (lettered fs s p l)
letters_kept f fs s ready l h = letter_kept f fs s ready l 0 h
letters_kept f fs s atom l h = letter_kept f fs s atom l 0 h
letters_kept f fs s (mul1 n) l h = letter_kept f fs s (mul1 n) l n h
letters_kept f fs s (mul2 n) l h = letter_kept f fs s (mul2 n) l n h
letters_kept f fs s (gap n) l h = letter_kept f fs s (gap n) l n h
letters_kept f fs s caret l h = tt
letters_kept f fs s (pow1 n) l h = letter_kept f fs s (pow1 n) l 0 h
letters_kept f fs s pow2 l h = letter_kept f fs s pow2 l 0 h

-- ---- brackets
open_kept : (f : Films) (fs : List Stack) (s : Stack) (p : Phase) → length fs < 4 → Kept f fs s p → Kept (marked f (length fs)) (s ∷ fs) none ready
open_kept f fs s p h (kept a (fits x y z) m o u) =
    let e : flat (s ∷ fs) none ≡ flat fs s = opening fs s in
    kept tt (relaid (subst (Laid f) (sym e) (fits x y z))) (get_or-set_same f.opened (length fs) f.count 0 (omega arith) ∙ x, marks_set fs f.opened (length fs) f.count (omega arith) m) (length-set f.opened (length fs) f.count ∙ o) tt
  where
    relaid : {t : List Film} → Laid f t → Laid (marked f (length fs)) t
    relaid (fits a b c) = fits a b c
    relaid (full a b) = full a b
open_kept f fs s p h (kept a (full x y) m o u) = past tt x (subst (λ (t : List Film). 64 < length t) (sym (opening fs s)) y)
open_kept f fs s p h (past a c k) = past tt c (subst (λ (t : List Film). 64 < length t) (sym (opening fs s)) k)

close_kept : (f : Films) (fs : List Stack) (t s : Stack) (p : Phase) → Kept f (t ∷ fs) s p → Kept (closed f (suc (length fs))) fs (group t s 0) atom
close_kept f fs t s p (kept a (fits x y z) m o u) =
    kept refl (relaid (subst (Laid f) (sym (closing fs t s)) (fits x y z))) m.1 o (measure f.count (length (flat fs t)) (length (films s)) (get_or f.opened (suc (length fs) - 1) 0) (x ∙ length-append (flat fs t) (films s)) (ap (λ (n : ℕ). get_or f.opened n 0) (one_less (length fs)) ∙ m.0))
  where
    one_less : (n : ℕ) → suc n - 1 ≡ n
    one_less n = omega arith

    measure : (c a b d : ℕ) → c ≡ a + b → d ≡ a → c - d ≡ b
    measure c a b d e f = omega arith

    relaid : {l : List Film} → Laid f l → Laid (closed f (suc (length fs))) l
    relaid (fits a b c) = fits a b c
    relaid (full a b) = full a b
close_kept f fs t s p (kept a (full x y) m o u) = past refl x (subst (λ (l : List Film). 64 < length l) (sym (closing fs t s)) y)
close_kept f fs t s p (past a c h) = past refl c (subst (λ (l : List Film). 64 < length l) (sym (closing fs t s)) h)

-- ---- powers
-- k copies more of the last item, whose power was n
module _ (f : Films) (fs : List Stack) (s : Stack) (n m k : ℕ) (plain : raised s n ≡ s) (sum : power_of m ≡ power_of n + k) where
  longer : length (flat fs s) ≤ length (flat fs (raised s m))
  longer = let e = ap length (more_copies fs s n m k plain sum) ∙ length-append (flat fs s) (times k (unit s)) in omega (arith, e)

  raised_laid : Laid f (flat fs s) → f.unit ≡ length (unit s) → Laid (repeated f (k * f.unit)) (flat fs (raised s m))
  raised_laid l e =
      subst (λ (j : ℕ). Laid (repeated f (k * j)) (flat fs (raised s m))) (sym e)
      (by_unit (unit s) refl)
    where
      front : (t : List Film) × (flat fs s ≡ t ++ unit s)
      front = last_copy fs s n plain

      by_unit : (u : List Film) → unit s ≡ u → Laid (repeated f (k * length (unit s))) (flat fs (raised s m))
      by_unit [] g =
          let none : k * length (unit s) ≡ 0 = ap (λ (t : List Film). k * length t) g ∙ mul-zero k in
          let same : flat fs (raised s m) ≡ flat fs s = more_copies fs s n m k plain sum ∙ ap (λ (t : List Film). flat fs s ++ times k t) g ∙ ap (λ (t : List Film). flat fs s ++ t) (times_nil k) ∙ append-nil (flat fs s) in
          subst (λ (j : ℕ). Laid (repeated f j) (flat fs (raised s m))) (sym none) (subst (λ (t : List Film). Laid (repeated f 0) t) (sym same) (no_more l))
        where
          no_more : Laid f (flat fs s) → Laid (repeated f 0) (flat fs s)
          no_more h = rw (repeated_none f) h
      by_unit (x ∷ u) g =
          let long : length (unit s) ≡ suc (length u) = ap length g in
          let all : length (flat fs s) ≡ length front.0 + length (unit s) = ap length front.1 ∙ length-append front.0 (unit s) in
          let grows : grown (length (unit s)) (k * length (unit s)) (flat fs s) ≡ flat fs (raised s m) =
          ap (grown (length (unit s)) (k * length (unit s))) front.1 ∙ grown_times k front.0 (unit s) ∙ ap (λ (t : List Film). t ++ times k (unit s)) (sym front.1) ∙ sym (more_copies fs s n m k plain sum) in
          subst (Laid (repeated f (k * length (unit s)))) grows (laid_repeated (k * length (unit s)) f (flat fs s) (length (unit s)) l e (omega (arith, long)) (omega (arith, all)))

unit_raised : (s : Stack) (n : ℕ) → unit (raised s n) ≡ unit s
unit_raised none n = refl
unit_raised (letter s m l p) n = refl
unit_raised (group s g p) n = refl

power_is : (n : ℕ) → 0 < n → power_of n ≡ n
power_is zero h = absurd (omega arith)
power_is (suc n) h = refl

none_more : (f : Films) → repeated f (0 * f.unit) ≡ f
none_more f = ap (repeated f) (zero-mul f.unit) ∙ repeated_none f

-- a phase q of the item raised to m
module _ (f : Films) (fs : List Stack) (s : Stack) (p q : Phase) (n m k : ℕ) (plain : raised s n ≡ s) (sum : power_of m ≡ power_of n + k) (after : Plain q (raised s m)) (asks : (j : ℕ) → j ≡ length (unit s) → Measured q j (raised s m)) where
  raised_kept : (Measured p f.unit s → f.unit ≡ length (unit s)) → Kept f fs s p → Kept (repeated f (k * f.unit)) fs (raised s m) q
  raised_kept reads (past a c h) = past after (full_repeated f (k * f.unit) c) (let g = longer f fs s n m k plain sum in omega (arith, g))
  raised_kept reads (kept a l o e u) =
      kept after (raised_laid f fs s n m k plain sum l (reads u)) (subst (λ (t : List ℕ). Marks t fs) (sym (repeated_opened f (k * f.unit))) o) (ap length (repeated_opened f (k * f.unit)) ∙ e)
      (asks (repeated f (k * f.unit)).unit (repeated_unit f (k * f.unit) ∙ reads u))

plain_of : (f : Films) (fs : List Stack) (s : Stack) (p : Phase) → Kept f fs s p → Plain p s
plain_of f fs s p (kept a l m o u) = a
plain_of f fs s p (past a c h) = a

no_copies : (f : Films) (q : State) → Held f q → Held (repeated f (0 * f.unit)) q
no_copies f q h = subst (λ (g : Films). Held g q) (sym (none_more f)) h

number_kept : (f : Films) (fs : List Stack) (s : Stack) (p : Phase) (a : ℕ) → Kept f fs s p → Held (repeated f (0 * f.unit)) (cond (ltb 0 a) (at fs s (mul1 a)) stop)
number_kept f fs s p a h = no_copies f (cond (ltb 0 a) (at fs s (mul1 a)) stop) (held_if f (ltb 0 a) (at fs s (mul1 a)) (λ t. free f fs s p (mul1 a) tt (λ n. tt) h))

digits_kept : (f : Films) (fs : List Stack) (s : Stack) (p : Phase) (a : ℕ) → Kept f fs s p → Held (repeated f (copies_in p a * f.unit)) (digit fs s p a)
digits_kept f fs s ready a h = number_kept f fs s ready a h
digits_kept f fs s atom a h = number_kept f fs s atom a h
digits_kept f fs s (mul1 n) a h = no_copies f (at fs s (mul2 (10 * n + a))) (free f fs s (mul1 n) (mul2 (10 * n + a)) tt (λ n. tt) h)
digits_kept f fs s (mul2 n) a h = tt
digits_kept f fs s (gap n) a h = tt
digits_kept f fs s caret a h = held_if (repeated f ((a - 1) * f.unit)) (ltb 0 a && leb a 31) (at fs (raised s a) (pow1 a)) (λ t.
    let positive : 0 < a = ltb-true 0 a (and_left (ltb 0 a) (leb a 31) t) in
    let powers : power_of a ≡ 1 + (a - 1) = power_is a positive ∙ one a positive in
    raised_kept f fs s caret (pow1 a) 0 a (a - 1) (plain_of f fs s caret h) powers (positive, raised_again s a a) (λ j e. e ∙ ap length (sym (unit_raised s a))) (λ u. u) h)
  where
    and_left : (x y : Bool) → (x && y) ≡ true → x ≡ true
    and_left true y e = refl
    and_left false y e = e

    one : (a : ℕ) → 0 < a → a ≡ 1 + (a - 1)
    one a h = omega arith
digits_kept f fs s (pow1 n) a h = held_if (repeated f ((9 * n + a) * f.unit)) (leb (10 * n + a) 31) (at fs (raised s (10 * n + a)) pow2) (λ t.
    let was = plain_of f fs s (pow1 n) h in
    raised_kept f fs s (pow1 n) pow2 n (10 * n + a) (9 * n + a) was.1 (powers n a was.0) tt (λ j e. tt) (λ u. u) h)
  where
    more : (n a : ℕ) → 10 * n + a ≡ n + (9 * n + a)
    more n a = omega arith

    powers : (n a : ℕ) → 0 < n → power_of (10 * n + a) ≡ power_of n + (9 * n + a)
    powers n a h = power_is (10 * n + a) (omega arith) ∙ more n a ∙ ap (λ (j : ℕ). j + (9 * n + a)) (sym (power_is n h))
digits_kept f fs s pow2 a h = tt

shut_kept : (f : Films) (fs : List Stack) (s : Stack) (p : Phase) → Kept f fs s p → Held (closed f (length fs)) (shut fs s)
shut_kept f [] s p h = tt
shut_kept f (t ∷ fs) s p h = held_if (closed f (suc (length fs))) (some s) (at fs (group t s 0) atom) (λ e. close_kept f fs t s p h)

pub take_held : (f : Films) (fs : List Stack) (s : Stack) (p : Phase) (x : Sym) → Kept f fs s p → Held (taken f p (length fs) x) (step (at fs s p) x)
take_held f fs s p blank h = spaced_kept f fs s p h
take_held f fs s p (dig a) h = digits_kept f fs s p a h
take_held f fs s p (let' l) h = letters_kept f fs s p l h
take_held f fs s p open' h = held_if (marked f (length fs)) (rests p) (opened fs s) (λ t. held_if (marked f (length fs)) (ltb (length fs) 4) (at (s ∷ fs) none ready) (λ u. open_kept f fs s p (ltb-true (length fs) 4 u) h))
take_held f fs s p close h = held_if (closed f (length fs)) (rests p) (shut fs s) (λ t. shut_kept f fs s p h)
take_held f fs s p hat h = hat_kept f fs s p h
take_held f fs s p bad h = tt

pub begins_kept : Kept no_films [] none ready
begins_kept = kept tt (fits refl (lit≤ tt) refl) tt refl tt
