-- The machine reads every text of the grammar, and so a text has one reading. Assumes nothing.
use mathlib.Core.Path.{◌≡◌, refl, sym, ap, ◌∙◌, subst}
use mathlib.Core.List.{List, [], ◌∷◌, ◌++◌}
use mathlib.Core.Bool.{Bool, true, false, not, ◌&&◌, cond}
use Prim.Native.Nat.{ℕ, zero, suc, ◌+◌, ◌*◌, ◌≤◌, ◌<◌}
use native.Mathlib.Omega.{arith}
use lib.Dec.{T, ltb, leb, lt→ltb, le→leb}
use lib.ListN.{length}
use lib.Ieee.Fits.{and_i}
use Rattle.thin_film_grammar.specs.Grammar.{Sym, blank, dig, let', open', close, hat, bad, Stack, none, letter, group, Blank, nil, more, Numeral, one, two, Factor, no_factor, factor, Power, no_power, power, is_dig, starts, ends, some, Spells, nothing, space, then_letter, then_group, Symbols}
use Rattle.thin_film_grammar.specs.InternalMachine.{Phase, ready, atom, mul1, mul2, gap, caret, pow1, pow2, State, stop, at, raised, opened, shut, digit, spaced, lettered, rests, hatted, step, run, begin, Accepts, accepts}

-- ---- runs
pub run_append : (q : State) (t u : List Sym) → run q (t ++ u) ≡ run (run q t) u
run_append q [] u = refl
run_append q (x ∷ t) u = run_append (step q x) t u

pub ends_append : (b : Bool) (t u : List Sym) → ends b (t ++ u) ≡ ends (ends b t) u
ends_append b [] u = refl
ends_append b (x ∷ t) u = ends_append (is_dig x) t u

pub yes : {A : Type 0} (b : Bool) (x y : A) → T b → cond b x y ≡ x
yes true x y t = refl
yes false x y t = absurd t

-- ---- a power's digits have been read, and may go on
abbrev pub powered : Phase → Bool
powered ready = false
powered atom = false
powered (mul1 n) = false
powered (mul2 n) = false
powered (gap n) = false
powered caret = false
powered (pow1 n) = true
powered pow2 = true

-- ---- a factor and its letter
-- after the digits n of a factor, and perhaps a space
abbrev factored : Phase → ℕ → Type 0
factored ready n = ⊥
factored atom n = ⊥
factored (mul1 m) n = m ≡ n
factored (mul2 m) n = m ≡ n
factored (gap m) n = m ≡ n
factored caret n = ⊥
factored (pow1 m) n = ⊥
factored pow2 n = ⊥

after_digits : (fs : List Stack) (s : Stack) (q : Phase) (n l : ℕ) → factored q n → lettered fs s q l ≡ at fs (letter s n l 0) atom
after_digits fs s ready n l h = absurd h
after_digits fs s atom n l h = absurd h
after_digits fs s (mul1 m) n l h = ap (λ (n : ℕ). at fs (letter s n l 0) atom) h
after_digits fs s (mul2 m) n l h = ap (λ (n : ℕ). at fs (letter s n l 0) atom) h
after_digits fs s (gap m) n l h = ap (λ (n : ℕ). at fs (letter s n l 0) atom) h
after_digits fs s caret n l h = absurd h
after_digits fs s (pow1 m) n l h = absurd h
after_digits fs s pow2 n l h = absurd h

still : (q : Phase) (n : ℕ) → factored q n → factored (spaced q) n
still ready n h = h
still atom n h = h
still (mul1 m) n h = h
still (mul2 m) n h = h
still (gap m) n h = h
still caret n h = h
still (pow1 m) n h = h
still pow2 n h = h

blanks_letter : (fs : List Stack) (s : Stack) (q : Phase) (n l : ℕ) {b : List Sym} (p : List Sym) → Blank b → factored q n → run (at fs s q) (b ++ (let' l ∷ p)) ≡ run (at fs (letter s n l 0) atom) p
blanks_letter fs s q n l p nil h = ap (λ (z : State). run z p) (after_digits fs s q n l h)
blanks_letter fs s q n l p (more b) h = blanks_letter fs s (spaced q) n l p b (still q n h)

-- a first digit, where an item may begin
first_digit : (fs : List Stack) (s : Stack) (q : Phase) (a : ℕ) → T (rests q) → (T (powered q) → ⊥) → 0 < a → digit fs s q a ≡ at fs s (mul1 a)
first_digit fs s ready a r p h = yes (ltb 0 a) (at fs s (mul1 a)) stop (lt→ltb 0 a h)
first_digit fs s atom a r p h = yes (ltb 0 a) (at fs s (mul1 a)) stop (lt→ltb 0 a h)
first_digit fs s (mul1 n) a r p h = absurd r
first_digit fs s (mul2 n) a r p h = absurd r
first_digit fs s (gap n) a r p h = absurd r
first_digit fs s caret a r p h = absurd r
first_digit fs s (pow1 n) a r p h = absurd (p tt)
first_digit fs s pow2 a r p h = absurd (p tt)

bare_letter : (fs : List Stack) (s : Stack) (q : Phase) (l : ℕ) → T (rests q) → lettered fs s q l ≡ at fs (letter s 0 l 0) atom
bare_letter fs s ready l r = refl
bare_letter fs s atom l r = refl
bare_letter fs s (mul1 n) l r = absurd r
bare_letter fs s (mul2 n) l r = absurd r
bare_letter fs s (gap n) l r = absurd r
bare_letter fs s caret l r = absurd r
bare_letter fs s (pow1 n) l r = refl
bare_letter fs s pow2 l r = refl

letter_run : (fs : List Stack) (s : Stack) (q : Phase) {f : List Sym} {m : ℕ} (l : ℕ) (p : List Sym) → Factor f m → T (rests q) → (T (powered q) → T (starts f) → ⊥) → run (at fs s q) (f ++ (let' l ∷ p)) ≡ run (at fs (letter s m l 0) atom) p
letter_run fs s q l p no_factor r d = ap (λ (z : State). run z p) (bare_letter fs s q l r)
letter_run fs s q l p (factor {b = b} (one {a = a} h) k e) r d =
    rw e (ap (λ (z : State). run z (b ++ (let' l ∷ p))) (first_digit fs s q a r (λ u. d u (rw e tt)) h) ∙ blanks_letter fs s (mul1 a) a l p k refl)
letter_run fs s q l p (factor {b = b} (two {a = a} {b = c} {n = n} h g) k e) r d =
    rw e (ap (λ (z : State). run (step z (dig c)) (b ++ (let' l ∷ p))) (first_digit fs s q a r (λ u. d u (rw e tt)) h) ∙ blanks_letter fs s (mul2 (10 * a + c)) n l p k (sym g))

-- ---- a power
record Raised (fs : List Stack) (s : Stack) (p : List Sym) (n : ℕ) : Type 0 where
  phase : Phase
  runs : run (at fs s atom) p ≡ at fs (raised s n) phase
  resting : T (rests phase)
  digits : T (powered phase) → (b : Bool) → T (ends b p)

blanks : (fs : List Stack) (s : Stack) (q : Phase) {b : List Sym} (t : List Sym) → Blank b → spaced q ≡ q → run (at fs s q) (b ++ t) ≡ run (at fs s q) t
blanks fs s q t nil e = refl
blanks fs s q t (more {t = b} h) e = ap (λ (z : Phase). run (at fs s z) (b ++ t)) e ∙ blanks fs s q t h e

small : (a d n : ℕ) → n ≡ 10 * a + d → n ≤ 31 → a ≤ 31
small a d n e h = omega arith

pub raised_again : (s : Stack) (a n : ℕ) → raised (raised s a) n ≡ raised s n
raised_again none a n = refl
raised_again (letter s m l p) a n = refl
raised_again (group s g p) a n = refl

ends_digits : {e : List Sym} {n : ℕ} (b : Bool) → Numeral e n → T (ends b e)
ends_digits b (one h) = tt
ends_digits b (two h g) = tt

-- s has no power yet
abbrev plain : Stack → Type 0
plain none = ⊥
plain (letter s m l p) = p ≡ 0
plain (group s g p) = p ≡ 0

plain_raised : (s : Stack) → plain s → s ≡ raised s 0
plain_raised none h = absurd h
plain_raised (letter s m l p) h = ap (letter s m l) h
plain_raised (group s g p) h = ap (group s g) h

behind : (b c e : List Sym) {n : ℕ} (z : Bool) → Numeral e n → T (ends z (b ++ (hat ∷ (c ++ e))))
behind b c e z k = rw (ends_append z b (hat ∷ (c ++ e)), ends_append false c e) (ends_digits (ends false c) k)

ahead : (fs : List Stack) (s : Stack) (b c d : List Sym) → Blank b → Blank c → run (at fs s atom) (b ++ (hat ∷ (c ++ d))) ≡ run (at fs s caret) d
ahead fs s b c d kb kc = blanks fs s atom (hat ∷ (c ++ d)) kb refl ∙ blanks fs s caret d kc refl

power_run : (fs : List Stack) (s : Stack) {p : List Sym} {n : ℕ} → plain s → Power p n → Raised fs s p n
power_run fs s h no_power = record { phase = atom; runs = ap (λ (z : Stack). at fs z atom) (plain_raised s h); resting = tt; digits = λ u b. absurd u }
power_run fs s h (power {b = b} {c = c} kb kc (one {a = a} k) few eq) = record {
  phase = pow1 a;
  runs = rw eq (ahead fs s b c (dig a ∷ []) kb kc ∙ yes (ltb 0 a && leb a 31) (at fs (raised s a) (pow1 a)) stop (and_i (ltb 0 a) (leb a 31) (lt→ltb 0 a k) (le→leb a 31 few)));
  resting = tt;
  digits = λ u z. rw eq (behind b c (dig a ∷ []) z (one k));
}
power_run fs s h (power {b = b} {c = c} kb kc (two {a = a} {b = d} {n = n} k g) few eq) = record {
  phase = pow2;
  runs = rw eq (ahead fs s b c (dig a ∷ dig d ∷ []) kb kc ∙ ap (λ (z : State). step z (dig d)) (yes (ltb 0 a && leb a 31) (at fs (raised s a) (pow1 a)) stop (and_i (ltb 0 a) (leb a 31) (lt→ltb 0 a k) (le→leb a 31 (small a d n g few)))) ∙ yes (leb (10 * a + d) 31) (at fs (raised (raised s a) (10 * a + d)) pow2) stop (le→leb (10 * a + d) 31 (subst (λ (m : ℕ). m ≤ 31) g few)) ∙ ap (λ (z : Stack). at fs z pow2) (raised_again s a (10 * a + d) ∙ ap (raised s) (sym g)));
  resting = tt;
  digits = λ u z. rw eq (behind b c (dig a ∷ dig d ∷ []) z (two k g));
}

-- ---- a whole level
pub record Reads (fs : List Stack) (t : List Sym) (s : Stack) : Type 0 where
  pub phase : Phase
  pub runs : run (at fs none ready) t ≡ at fs s phase
  pub resting : T (rests phase)
  pub digits : T (powered phase) → T (ends false t)

touches : (q : Phase) (t f : List Sym) → T (not (ends false t && starts f)) → (T (powered q) → T (ends false t)) → T (powered q) → T (starts f) → ⊥
touches q t f h d u v = clash (ends false t) (starts f) h (d u) v
  where
    clash : (a b : Bool) → T (not (a && b)) → T a → T b → ⊥
    clash true true h t u = h
    clash true false h t u = u
    clash false b h t u = t

rest_spaced : (q : Phase) → T (rests q) → T (rests (spaced q)) × (T (powered (spaced q)) → ⊥)
rest_spaced ready r = (tt, λ u. u)
rest_spaced atom r = (tt, λ u. u)
rest_spaced (mul1 n) r = absurd r
rest_spaced (mul2 n) r = absurd r
rest_spaced (gap n) r = absurd r
rest_spaced caret r = absurd r
rest_spaced (pow1 n) r = (tt, λ u. u)
rest_spaced pow2 r = (tt, λ u. u)

pub complete : {k : ℕ} {t : List Sym} {s : Stack} → Spells k t s → (fs : List Stack) → length fs + k ≡ 4 → Reads fs t s
complete nothing fs e = record { phase = ready; runs = refl; resting = tt; digits = λ u. absurd u }
complete (space {t = t} {s = s} h e) fs k =
    let r = complete h fs k in
    let q = rest_spaced r.phase r.resting in
    record {
      phase = spaced r.phase;
      runs = rw (e, run_append (at fs none ready) t (blank ∷ []), r.runs) refl;
      resting = q.0;
      digits = λ u. absurd (q.1 u);
    }
complete (then_letter {m = m} {l = l} {t = t} {f = f} {p = p} {s = s} h ap' kf kp e) fs k =
    let r = complete h fs k in
    let x = power_run fs (letter s m l 0) refl kp in
    record {
      phase = x.phase;
      runs = rw (e, run_append (at fs none ready) t (f ++ (let' l ∷ p)), r.runs) (letter_run fs s r.phase l p kf r.resting (touches r.phase t f ap' r.digits) ∙ x.runs);
      resting = x.resting;
      digits = λ u. rw (e, ends_append false t (f ++ (let' l ∷ p)), ends_append (ends false t) f (let' l ∷ p)) (x.digits u false);
    }
complete (then_group {k = k'} {t = t} {v = v} {p = p} {s = s} {g = g} h i some' kp e) fs k =
    let r = complete h fs k in
    let y = complete i (s ∷ fs) (deeper (length fs) k' k) in
    let x = power_run fs (group s g 0) refl kp in
    record {
      phase = x.phase;
      runs = rw (e, run_append (at fs none ready) t (open' ∷ (v ++ (close ∷ p))), r.runs)
          (ap (λ (z : State). run z (v ++ (close ∷ p))) (yes (rests r.phase) (opened fs s) stop r.resting ∙ yes (ltb (length fs) 4) (at (s ∷ fs) none ready) stop (lt→ltb (length fs) 4 (room (length fs) k' k)))
          ∙ run_append (at (s ∷ fs) none ready) v (close ∷ p) ∙ ap (λ (z : State). run z (close ∷ p)) y.runs
          ∙ ap (λ (z : State). run z p) (yes (rests y.phase) (shut (s ∷ fs) g) stop y.resting ∙ yes (some g) (at fs (group s g 0) atom) stop some')
          ∙ x.runs);
      resting = x.resting;
      digits = λ u. rw (e, ends_append false t (open' ∷ (v ++ (close ∷ p))), ends_append false v (close ∷ p)) (x.digits u false);
    }
  where
    deeper : (n k : ℕ) → n + suc k ≡ 4 → suc n + k ≡ 4
    deeper n k h = omega arith

    room : (n k : ℕ) → n + suc k ≡ 4 → n < 4
    room n k h = omega arith

-- ---- what follows
pub accepted : (t : List Sym) (s : Stack) → Symbols t s → Accepts (run begin t) s
accepted t s h =
    let r = complete h.spells [] refl in
    rw r.runs (accepts (both (some s) (rests r.phase) h.holds r.resting))
  where
    both : (a b : Bool) → T a → T b → T (a && b)
    both true true t u = tt
    both true false t u = u
    both false b t u = t

abbrev reading : State → Stack
reading stop = none
reading (at fs s p) = s

pub only_reading : (t : List Sym) (s s' : Stack) → Symbols t s → Symbols t s' → s ≡ s'
only_reading t s s' h h' = let r = complete h.spells [] refl in let r' = complete h'.spells [] refl in ap reading (sym r.runs ∙ r'.runs)

stopped : (t : List Sym) → run stop t ≡ stop
stopped [] = refl
stopped (x ∷ t) = stopped t

-- where the machine has stopped, no text of the grammar goes on
pub stops : (t rest : List Sym) (s : Stack) → run begin t ≡ stop → Symbols (t ++ rest) s → ⊥
stops t rest s e h =
    let r = complete h.spells [] refl in
    never (sym (ap (λ (q : State). run q rest) e ∙ stopped rest) ∙ sym (run_append begin t rest) ∙ r.runs)
  where
    never : {s : Stack} {p : Phase} → stop ≡ at [] s p → ⊥
    never e = let z : ◌≡◌ {A = ℕ} 0 1 = cc in omega arith
