-- What the machine has read is spelled by the grammar, as far as it goes. Assumes nothing.
use mathlib.Core.Path.{◌≡◌, refl, sym, ap, ◌∙◌, subst}
use mathlib.Core.List.{List, [], ◌∷◌, ◌++◌, map, map-append, append_assoc, append-nil}
use mathlib.Core.Bool.{Bool, true, false, not, ◌&&◌, cond}
use Prim.Native.Nat.{ℕ, zero, suc, ◌+◌, ◌*◌, ◌≤◌, ◌<◌}
use native.Mathlib.Omega.{arith}
use lib.Dec.{T, ltb, leb, ltb→lt, leb→le}
use lib.ListN.{length}
use lib.Ieee.Fits.{and_l, and_r}
use Rattle.thin_film_grammar.specs.Grammar.{Sym, kind, blank, dig, let', open', close, hat, bad, Stack, none, letter, group, Blank, nil, more, Numeral, one, two, Factor, no_factor, factor, Power, no_power, power, is_dig, starts, ends, some, Spells, nothing, space, then_letter, then_group, Symbols}
use Rattle.thin_film_grammar.specs.InternalMachine.{Phase, ready, atom, mul1, mul2, gap, caret, pow1, pow2, State, stop, at, raised, opened, shut, digit, spaced, lettered, rests, hatted, step, run, begin, Accepts, accepts}
use Rattle.thin_film_grammar.proofs.Complete.{ends_append, run_append, raised_again, yes}

-- ---- blanks at the end
blank_last : {b : List Sym} → Blank b → Blank (b ++ (blank ∷ []))
blank_last nil = more nil
blank_last (more h) = more (blank_last h)

spaces : {k : ℕ} {t b : List Sym} {s : Stack} → Spells k t s → Blank b → Spells k (t ++ b) s
spaces {k} {t} {b} {s} h nil = rw append-nil h
spaces {k} {t} {b} {s} h (more {t = c} g) = rw (← (append_assoc t (blank ∷ []) c)) (spaces (space h refl) g)

-- ---- an item that may still take a power: t, then the item's text a, which with a power p to it spells the item raised
record Item (k : ℕ) (u : List Sym) (s : Stack) : Type 0 where
  spelled : {p : List Sym} {n : ℕ} → Power p n → Spells k (u ++ p) (raised s n)
  whole : raised s 0 ≡ s
  plain : (b : Bool) → T (not (ends b u))

-- ---- what has been read at one level
data Level (k : ℕ) (u : List Sym) (s : Stack) : Phase → Type 0 where
  is_ready : Spells k u s → T (not (ends false u)) → Level k u s ready
  is_atom : {v b : List Sym} → Item k v s → Blank b → u ≡ v ++ b → Level k u s atom
  is_mul1 : {v : List Sym} {a : ℕ} → Spells k v s → T (not (ends false v)) → 0 < a → u ≡ v ++ (dig a ∷ []) → Level k u s (mul1 a)
  is_mul2 : {v f : List Sym} {n : ℕ} → Spells k v s → T (not (ends false v)) → Numeral f n → u ≡ v ++ f → Level k u s (mul2 n)
  is_gap : {v f b : List Sym} {n : ℕ} → Spells k v s → T (not (ends false v)) → Numeral f n → Blank b → u ≡ v ++ (f ++ b) → Level k u s (gap n)
  is_caret : {v b c : List Sym} → Item k v s → Blank b → Blank c → u ≡ v ++ (b ++ (hat ∷ c)) → Level k u s caret
  is_pow1 : {v b c : List Sym} {a : ℕ} {i : Stack} → Item k v i → Blank b → Blank c → 0 < a → a ≤ 31 → s ≡ raised i a → u ≡ v ++ (b ++ (hat ∷ (c ++ (dig a ∷ [])))) → Level k u s (pow1 a)
  is_pow2 : Spells k u s → Level k u s pow2

-- ---- the brackets that are open: the text up to the last of them
data Opened : ℕ → List Sym → List Stack → Type 0 where
  no_bracket : Opened 4 [] []
  bracket : {k : ℕ} {t u w : List Sym} {s : Stack} {fs : List Stack} → Opened (suc k) t fs → Spells (suc k) u s → w ≡ t ++ (u ++ (open' ∷ [])) → Opened k w (s ∷ fs)

data Partial (t : List Sym) : State → Type 0 where
  stopped : Partial t stop
  going : {k : ℕ} {w u : List Sym} {fs : List Stack} {s : Stack} {p : Phase} → Opened k w fs → Level k u s p → t ≡ w ++ u → Partial t (at fs s p)

-- ---- a level whose last item is complete is spelled
by_text : {k : ℕ} {t u : List Sym} {s : Stack} → t ≡ u → Spells k t s → Spells k u s
by_text {k} {t} {u} {s} e h = subst (λ (w : List Sym). Spells k w s) e h

item_spells : {k : ℕ} {u : List Sym} {s : Stack} → Item k u s → Spells k u s
item_spells {k} {u} {s} i = subst (λ (z : Stack). Spells k u z) i.whole (by_text (append-nil u) (i.spelled no_power))

spelled_at : {k : ℕ} {u : List Sym} {s : Stack} {p : Phase} → Level k u s p → T (rests p) → Spells k u s
spelled_at (is_ready h n) r = h
spelled_at (is_atom i b e) r = by_text (sym e) (spaces (item_spells i) b)
spelled_at (is_mul1 h n a e) r = absurd r
spelled_at (is_mul2 h n f e) r = absurd r
spelled_at (is_gap h n f b e) r = absurd r
spelled_at (is_caret i b c e) r = absurd r
spelled_at {k} {u} {s} (is_pow1 {a = a} i b c a0 few es e) r = subst (λ (z : Stack). Spells k u z) (sym es) (by_text (sym e) (i.spelled (power b c (one a0) few refl)))
spelled_at (is_pow2 h) r = h

no_digit : (u : List Sym) → T (not (ends false (u ++ (blank ∷ []))))
no_digit u = rw (ends_append false u (blank ∷ [])) tt

-- ---- a space
spaced_level : {k : ℕ} {u : List Sym} {s : Stack} {p : Phase} → Level k u s p → Level k (u ++ (blank ∷ [])) s (spaced p)
spaced_level {u = u} (is_ready h n) = is_ready (space h refl) (no_digit u)
spaced_level (is_atom {v = v} {b = b} i kb e) = is_atom i (blank_last kb) (simp (e, append_assoc))
spaced_level (is_mul1 h n a e) = is_gap h n (one a) (more nil) (simp (e, append_assoc))
spaced_level (is_mul2 h n f e) = is_gap h n f (more nil) (simp (e, append_assoc))
spaced_level (is_gap h n f b e) = is_gap h n f (blank_last b) (simp (e, append_assoc))
spaced_level (is_caret i b c e) = is_caret i b (blank_last c) (simp (e, append_assoc))
spaced_level {u = u} (is_pow1 i b c a0 few es e) = is_ready (space (spelled_at (is_pow1 i b c a0 few es e) tt) refl) (no_digit u)
spaced_level {u = u} (is_pow2 h) = is_ready (space h refl) (no_digit u)

-- ---- a letter, with or without a factor
letter_item : {k m : ℕ} {u f : List Sym} {s : Stack} (l : ℕ) → Spells k u s → T (not (ends false u && starts f)) → Factor f m → Item k (u ++ (f ++ (let' l ∷ []))) (letter s m l 0)
letter_item {k} {m} {u} {f} {s} l h a kf = record {
  spelled = λ kp. by_text (simp append_assoc) (then_letter {l = l} h a kf kp refl);
  whole = refl;
  plain = λ b. rw (ends_append b u (f ++ (let' l ∷ [])), ends_append (ends b u) f (let' l ∷ [])) tt;
}

apart : (u f : List Sym) → T (not (ends false u)) → T (not (ends false u && starts f))
apart u f h = go (ends false u) (starts f) h
  where
    go : (a b : Bool) → T (not a) → T (not (a && b))
    go true b h = absurd h
    go false b h = tt

lone : (u : List Sym) → T (not (ends false u && starts []))
lone u = go (ends false u)
  where
    go : (a : Bool) → T (not (a && false))
    go true = tt
    go false = tt

-- ---- no digit at the end of an item and its spaces
quiet : {b : List Sym} → (z : Bool) → T (not z) → Blank b → T (not (ends z b))
quiet z h nil = h
quiet z h (more g) = quiet false tt g

atom_quiet : {k : ℕ} {u v b : List Sym} {s : Stack} → Item k v s → Blank b → u ≡ v ++ b → T (not (ends false u))
atom_quiet {u = u} {v = v} {b = b} i kb e = rw (e, ends_append false v b) (quiet (ends false v) (i.plain false) kb)

-- ---- the other symbols, at one level; w is the text up to the last open bracket
module _ {k : ℕ} {w : List Sym} {fs : List Stack} (o : Opened k w fs) where
  onto : {s : Stack} {p : Phase} (u : List Sym) (x : Sym) → Level k (u ++ (x ∷ [])) s p → Partial ((w ++ u) ++ (x ∷ [])) (at fs s p)
  onto u x h = going o h (append_assoc w u (x ∷ []))

  test : (t : List Sym) (b : Bool) (q : State) → (T b → Partial t q) → Partial t (cond b q stop)
  test t true q f = f tt
  test t false q f = stopped

  digit_level : {u : List Sym} {s : Stack} {p : Phase} (a : ℕ) → Level k u s p → Partial ((w ++ u) ++ (dig a ∷ [])) (digit fs s p a)
  digit_level {u} {s} a (is_ready h n) = test ((w ++ u) ++ (dig a ∷ [])) (ltb 0 a) (at fs s (mul1 a)) (λ t. onto u (dig a) (is_mul1 h n (ltb→lt 0 a t) refl))
  digit_level {u} {s} a (is_atom i b e) = test ((w ++ u) ++ (dig a ∷ [])) (ltb 0 a) (at fs s (mul1 a)) (λ t. onto u (dig a) (is_mul1 (spelled_at (is_atom i b e) tt) (atom_quiet i b e) (ltb→lt 0 a t) refl))
  digit_level {u} a (is_mul1 {v = v} {a = m} h n m0 e) = onto u (dig a) (is_mul2 h n (two m0 refl) (simp (e, append_assoc)))
  digit_level a (is_mul2 h n f e) = stopped
  digit_level a (is_gap h n f b e) = stopped
  digit_level {u} {s} a (is_caret i b c e) =
      test ((w ++ u) ++ (dig a ∷ [])) (ltb 0 a && leb a 31) (at fs (raised s a) (pow1 a))
      (λ t. onto u (dig a) (is_pow1 i b c (ltb→lt 0 a (and_l (ltb 0 a) (leb a 31) t)) (leb→le a 31 (and_r (ltb 0 a) (leb a 31) t)) refl (simp (e, append_assoc))))
  digit_level {u} {s} a (is_pow1 {a = m} {i = j} i b c m0 few es e) =
      test ((w ++ u) ++ (dig a ∷ [])) (leb (10 * m + a) 31) (at fs (raised s (10 * m + a)) pow2)
      (λ t. onto u (dig a) (is_pow2 (subst (λ (z : Stack). Spells k (u ++ (dig a ∷ [])) z) (sym (ap (λ (z : Stack). raised z (10 * m + a)) es ∙ raised_again j m (10 * m + a))) (by_text (sym (simp (e, append_assoc))) (i.spelled (power b c (two m0 refl) (leb→le (10 * m + a) 31 t) refl))))))
  digit_level a (is_pow2 h) = stopped

  lone_letter : {u : List Sym} {s : Stack} (l : ℕ) → Spells k u s → Partial ((w ++ u) ++ (let' l ∷ [])) (at fs (letter s 0 l 0) atom)
  lone_letter {u} l h = onto u (let' l) (is_atom (letter_item l h (lone u) no_factor) nil (sym (append-nil (u ++ (let' l ∷ [])))))

  letter_level : {u : List Sym} {s : Stack} {p : Phase} (l : ℕ) → Level k u s p → Partial ((w ++ u) ++ (let' l ∷ [])) (lettered fs s p l)
  letter_level l (is_ready h n) = lone_letter l h
  letter_level l (is_atom i b e) = lone_letter l (spelled_at (is_atom i b e) tt)
  letter_level {u} l (is_mul1 {v = v} {a = a} h n a0 e) = onto u (let' l) (is_atom (letter_item l h (apart v (dig a ∷ []) n) (factor (one a0) nil refl)) nil (simp (e, append_assoc, append-nil)))
  letter_level {u} l (is_mul2 {v = v} {f = f} h n kf e) = onto u (let' l) (is_atom (letter_item l h (apart v f n) (factor kf nil (sym (append-nil f)))) nil (simp (e, append_assoc, append-nil)))
  letter_level {u} l (is_gap {v = v} {f = f} {b = b} h n kf kb e) = onto u (let' l) (is_atom (letter_item l h (apart v (f ++ b) n) (factor kf kb refl)) nil (simp (e, append_assoc, append-nil)))
  letter_level l (is_caret i b c e) = stopped
  letter_level l (is_pow1 i b c a0 few es e) = lone_letter l (spelled_at (is_pow1 i b c a0 few es e) tt)
  letter_level l (is_pow2 h) = lone_letter l h

  hat_level : {u : List Sym} {s : Stack} {p : Phase} → Level k u s p → Partial ((w ++ u) ++ (hat ∷ [])) (hatted fs s p)
  hat_level (is_ready h n) = stopped
  hat_level {u} (is_atom i b e) = onto u hat (is_caret i b nil (simp (e, append_assoc)))
  hat_level (is_mul1 h n a e) = stopped
  hat_level (is_mul2 h n f e) = stopped
  hat_level (is_gap h n f b e) = stopped
  hat_level (is_caret i b c e) = stopped
  hat_level (is_pow1 i b c a0 few es e) = stopped
  hat_level (is_pow2 h) = stopped

-- ---- brackets
opened_length : {k : ℕ} {w : List Sym} {fs : List Stack} → Opened k w fs → length fs + k ≡ 4
opened_length no_bracket = refl
opened_length (bracket {k = k} {fs = fs} o h e) = let i = opened_length o in next (length fs) k i
  where
    next : (n k : ℕ) → n + suc k ≡ 4 → suc n + k ≡ 4
    next n k h = omega arith

open_level : {k : ℕ} {w u : List Sym} {fs : List Stack} {s : Stack} → Opened k w fs → Spells k u s → Partial ((w ++ u) ++ (open' ∷ [])) (opened fs s)
open_level {k = zero} {w = w} {u = u} {fs = fs} {s = s} o h = test o ((w ++ u) ++ (open' ∷ [])) (ltb (length fs) 4) (at (s ∷ fs) none ready) (λ t. absurd (full (length fs) (opened_length o) (ltb→lt (length fs) 4 t)))
  where
    full : (n : ℕ) → n + 0 ≡ 4 → n < 4 → ⊥
    full n e h = omega arith
open_level {k = suc k} {w = w} {u = u} {fs = fs} {s = s} o h = test o ((w ++ u) ++ (open' ∷ [])) (ltb (length fs) 4) (at (s ∷ fs) none ready) (λ t. going (bracket o h refl) (is_ready nothing tt) (append_assoc w u (open' ∷ []) ∙ sym (append-nil (w ++ (u ++ (open' ∷ []))))))

group_item : {k : ℕ} {u v : List Sym} {s g : Stack} → Spells (suc k) u s → Spells k v g → T (some g) → Item (suc k) (u ++ (open' ∷ (v ++ (close ∷ [])))) (group s g 0)
group_item {k} {u} {v} {s} {g} h i t = record {
  spelled = λ kp. by_text (simp append_assoc) (then_group h i t kp refl);
  whole = refl;
  plain = λ b. rw (ends_append b u (open' ∷ (v ++ (close ∷ []))), ends_append false v (close ∷ [])) tt;
}

close_level : {k : ℕ} {w u : List Sym} {fs : List Stack} {s : Stack} → Opened k w fs → Spells k u s → Partial ((w ++ u) ++ (close ∷ [])) (shut fs s)
close_level no_bracket h = stopped
close_level {k} {w} {u} {fs} {s} (bracket {t = t} {u = v} {s = f} {fs = gs} o h e) i =
    test o ((w ++ u) ++ (close ∷ [])) (some s) (at gs (group f s 0) atom) (λ y. going o (is_atom (group_item h i y) nil refl) (simp (e, append_assoc, append-nil)))

-- ---- one symbol, and all of them
step_partial : (t : List Sym) (q : State) (x : Sym) → Partial t q → Partial (t ++ (x ∷ [])) (step q x)
step_partial t stop x stopped = stopped
step_partial t (at fs s p) blank (going {w = w} {u = u} o h e) = rw e (going o (spaced_level h) (append_assoc w u (blank ∷ [])))
step_partial t (at fs s p) (dig a) (going o h e) = rw e (digit_level o a h)
step_partial t (at fs s p) (let' l) (going o h e) = rw e (letter_level o l h)
step_partial t (at fs s p) open' (going {w = w} {u = u} o h e) = rw e (test o ((w ++ u) ++ (open' ∷ [])) (rests p) (opened fs s) (λ r. open_level o (spelled_at h r)))
step_partial t (at fs s p) close (going {w = w} {u = u} o h e) = rw e (test o ((w ++ u) ++ (close ∷ [])) (rests p) (shut fs s) (λ r. close_level o (spelled_at h r)))
step_partial t (at fs s p) hat (going o h e) = rw e (hat_level o h)
step_partial t (at fs s p) bad (going o h e) = stopped

run_partial : (t u : List Sym) (q : State) → Partial t q → Partial (t ++ u) (run q u)
run_partial t [] q h = rw append-nil h
run_partial t (x ∷ u) q h = rw (← (append_assoc t (x ∷ []) u)) (run_partial (t ++ (x ∷ [])) u (step q x) (step_partial t q x h))

sound : (t : List Sym) → Partial t (run begin t)
sound t = run_partial [] t begin (going no_bracket (is_ready nothing tt) refl)

derived : {t : List Sym} {q : State} {s : Stack} → Partial t q → Accepts q s → Symbols t s
derived {t = t} {s = s} stopped x3 = elim x3 [ ]
derived (going no_bracket h e) (accepts {s = s} {p = p} y) = record { spells = by_text (sym e) (spelled_at h (and_r (some s) (rests p) y)); holds = and_l (some s) (rests p) y }
derived {t = t} (going {k = k} {w = w} {u = u} {p = p} (bracket {s = s} {fs = fs} _ _ _) h e) x22 = elim x22 [ ]

pub derivable : (t : List Sym) (s : Stack) → Accepts (run begin t) s → Symbols t s
derivable t s h = derived (sound t) h

-- ---- what has not stopped can be ended, in bytes: H or 1H where one is due, and the brackets
closes : List Stack → List ℕ
closes [] = []
closes (f ∷ fs) = 0x29 ∷ closes fs

finish : Phase → List ℕ
finish ready = 0x48 ∷ []
finish atom = 0x48 ∷ []
finish (mul1 n) = 0x48 ∷ []
finish (mul2 n) = 0x48 ∷ []
finish (gap n) = 0x48 ∷ []
finish caret = 0x31 ∷ 0x48 ∷ []
finish (pow1 n) = 0x48 ∷ []
finish pow2 = 0x48 ∷ []

record Ended (fs : List Stack) (s : Stack) (p : Phase) : Type 0 where
  item : Stack
  ends_so : run (at fs s p) (map kind (finish p)) ≡ at fs item atom
  holds : T (some item)

ended : (fs : List Stack) (s : Stack) (p : Phase) → Ended fs s p
unfolding finish
ended fs s ready = record { item = letter s 0 0 0; ends_so = refl; holds = tt }
ended fs s atom = record { item = letter s 0 0 0; ends_so = refl; holds = tt }
ended fs s (mul1 n) = record { item = letter s n 0 0; ends_so = refl; holds = tt }
ended fs s (mul2 n) = record { item = letter s n 0 0; ends_so = refl; holds = tt }
ended fs s (gap n) = record { item = letter s n 0 0; ends_so = refl; holds = tt }
ended fs s caret = record { item = letter (raised s 1) 0 0 0; ends_so = refl; holds = tt }
ended fs s (pow1 n) = record { item = letter s 0 0 0; ends_so = refl; holds = tt }
ended fs s pow2 = record { item = letter s 0 0 0; ends_so = refl; holds = tt }

closed : (fs : List Stack) (s : Stack) → T (some s) → (i : Stack) × Accepts (run (at fs s atom) (map kind (closes fs))) i
unfolding closes
closed [] s h = (s, accepts (both (some s) h))
  where
    both : (b : Bool) → T b → T (b && true)
    both true t = tt
    both false t = t
closed (f ∷ fs) s h = let i = closed fs (group f s 0) tt in (i.0, subst (λ (q : State). Accepts (run q (map kind (closes fs))) i.0) (sym (yes (some s) (at fs (group f s 0) atom) stop h)) i.1)

pub goes_on : (t : List Sym) (fs : List Stack) (s : Stack) (p : Phase) → run begin t ≡ at fs s p → (rest : List ℕ) × (i : Stack) × Symbols (t ++ map kind rest) i
goes_on t fs s p e =
    let x = ended fs s p in
    let c = closed fs x.item x.holds in
    (finish p ++ closes fs, c.0, rw map-append (derivable (t ++ (map kind (finish p) ++ map kind (closes fs))) c.0 (rw (run_append begin t (map kind (finish p) ++ map kind (closes fs)), e, run_append (at fs s p) (map kind (finish p)) (map kind (closes fs)), x.ends_so) c.1)))
