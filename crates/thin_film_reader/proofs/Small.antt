-- The machine without the reading takes the same steps. Assumes nothing.
use mathlib.Core.Path.{◌≡◌, refl, sym, ap, ◌∙◌}
use mathlib.Core.List.{List, [], ◌∷◌}
use mathlib.Core.Bool.{Bool, true, false, ◌&&◌, cond}
use Prim.Native.Nat.{ℕ, zero, suc, pred, ◌+◌, ◌*◌}
use native.Mathlib.Nat.{zero-lt-suc}
use lib.Dec.{ltb, leb, lt→ltb}
use lib.ListN.{length}
use Rattle.thin_film_grammar.specs.Grammar.{Sym, blank, dig, let', open', close, hat, bad, Stack, none, letter, group, some}
use Rattle.thin_film_grammar.specs.InternalMachine.{Phase, ready, atom, mul1, mul2, gap, caret, pow1, pow2, State, stop, at, raised, opened, shut, digit, lettered, rests, hatted, step}
use Rattle.thin_film_grammar.proofs.Complete.{yes}
use Rattle.thin_film_reader.specs.InternalMachine.{Small, halt, on, erase, small_digit, small_letter, small_hat, small_step}

either : (b : Bool) (q : State) → erase (cond b q stop) ≡ cond b (erase q) halt
either true q = refl
either false q = refl

kept : (s : Stack) (n : ℕ) → some (raised s n) ≡ some s
kept none n = refl
kept (letter s m l p) n = refl
kept (group s g p) n = refl

digits : (fs : List Stack) (s : Stack) (p : Phase) (a : ℕ) → erase (digit fs s p a) ≡ small_digit (length fs) (some s) p a
digits fs s ready a = either (ltb 0 a) (at fs s (mul1 a))
digits fs s atom a = either (ltb 0 a) (at fs s (mul1 a))
digits fs s (mul1 n) a = refl
digits fs s (mul2 n) a = refl
digits fs s (gap n) a = refl
digits fs s caret a = either (ltb 0 a && leb a 31) (at fs (raised s a) (pow1 a)) ∙ ap (λ (b : Bool). cond (ltb 0 a && leb a 31) (on (length fs) b (pow1 a)) halt) (kept s a)
digits fs s (pow1 n) a = either (leb (10 * n + a) 31) (at fs (raised s (10 * n + a)) pow2) ∙ ap (λ (b : Bool). cond (leb (10 * n + a) 31) (on (length fs) b pow2) halt) (kept s (10 * n + a))
digits fs s pow2 a = refl

letters : (fs : List Stack) (s : Stack) (p : Phase) (l : ℕ) → erase (lettered fs s p l) ≡ small_letter (length fs) p
letters fs s ready l = refl
letters fs s atom l = refl
letters fs s (mul1 n) l = refl
letters fs s (mul2 n) l = refl
letters fs s (gap n) l = refl
letters fs s caret l = refl
letters fs s (pow1 n) l = refl
letters fs s pow2 l = refl

hats : (fs : List Stack) (s : Stack) (p : Phase) → erase (hatted fs s p) ≡ small_hat (length fs) (some s) p
hats fs s ready = refl
hats fs s atom = refl
hats fs s (mul1 n) = refl
hats fs s (mul2 n) = refl
hats fs s (gap n) = refl
hats fs s caret = refl
hats fs s (pow1 n) = refl
hats fs s pow2 = refl

closing : (fs : List Stack) (s : Stack) → erase (shut fs s) ≡ cond (ltb 0 (length fs)) (cond (some s) (on (pred (length fs)) true atom) halt) halt
closing [] s = refl
closing (f ∷ fs) s = either (some s) (at fs (group f s 0) atom) ∙ sym (yes (ltb 0 (suc (length fs))) (cond (some s) (on (length fs) true atom) halt) halt (lt→ltb 0 (suc (length fs)) (zero-lt-suc (length fs))))

pub same_step : (q : State) (x : Sym) → erase (step q x) ≡ small_step (erase q) x
same_step stop x = refl
same_step (at fs s p) blank = refl
same_step (at fs s p) (dig a) = digits fs s p a
same_step (at fs s p) (let' l) = letters fs s p l
same_step (at fs s p) open' = either (rests p) (opened fs s) ∙ ap (λ (q : Small). cond (rests p) q halt) (either (ltb (length fs) 4) (at (s ∷ fs) none ready))
same_step (at fs s p) close = either (rests p) (shut fs s) ∙ ap (λ (q : Small). cond (rests p) q halt) (closing fs s)
same_step (at fs s p) hat = hats fs s p
same_step (at fs s p) bad = refl
