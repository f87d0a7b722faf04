-- How far a text has been read. Assumes nothing.
use mathlib.Core.Path.{◌≡◌, refl, sym, ap, ◌∙◌, subst}
use mathlib.Core.Bool.{Bool, true, false, not, ◌&&◌, cond}
use mathlib.Core.List.{List, [], ◌∷◌, ◌++◌}
use Prim.Native.Nat.{ℕ, zero, suc, ◌+◌, ◌*◌, ◌-◌, ◌≤◌, ◌<◌}
use native.Mathlib.Numerals.{add-one}
use native.Mathlib.Omega.{arith}
use lib.Dec.{T, ltb, leb, eqb}
use lib.ListN.{length, get_or, set, drop, replicate, drop_of_length-le}
use lib.Seq.{drop-cons, get_or-set_same, get_or-set_other, set_out}
use borrow.Author.Tests.{ltb-true, ltb-false, leb-true, leb-false, le-leb, lt-leb, eqb-true, eqb-false, ne_eqb, lt-ltb}
use Rattle.refusal.specs.Outcome.{Outcome, answer, refusal}
use Rattle.thin_film_grammar.specs.declared.Film.{Film}
use Rattle.thin_film_grammar.specs.Grammar.{Sym, kind, blank, dig, let', open', close, hat, bad, Stack, none, some}
use Rattle.thin_film_grammar.specs.Films.{film, films}
use Rattle.thin_film_grammar.specs.InternalMachine as M
use Rattle.thin_film_grammar.specs.InternalMachine.{State, stop, at, step, rests, flat}
use Rattle.thin_film_grammar.specs.Reading.{counted, ended, going, read_from, reading}
use Rattle.thin_film_reader.specs.declared.machine.Phase.{Phase}
use Rattle.thin_film_reader.specs.declared.machine.Phase.TheVariants as P
use Rattle.thin_film_reader.specs.declared.machine.Machine.{Machine}
use Rattle.thin_film_reader.specs.declared.films.Films.{Films}
use Rattle.thin_film_reader.specs.declared.Reading.{Reading}
use Rattle.thin_film_reader.specs.InternalMachine.{Small, halt, on, erase, small_step, view_at, view, rests_in, halted_in, whole_in, Low, Stepped, begin}
use Rattle.thin_film_reader.specs.InternalFilms.{no_film, no_films, over, pushed, again, repeated, added, marked, closed, phase_of, taken, Safe, Goes}
use Rattle.refusal.specs.Outcome as Outcome
use Rattle.thin_film_reader.specs.Read.{placed, kept_films}
use Rattle.thin_film_reader.proofs.Small.{same_step}
use Rattle.thin_film_reader.proofs.Pushes.{push_over, push_fits}
use Rattle.thin_film_reader.proofs.Kept.{Laid, fits, full}
use Rattle.thin_film_reader.proofs.Held.{Kept, Held, take_held, laid_of, begins_kept}

-- ---- the films stay safe
safe_over : (f : Films) → Safe f → Safe (over f)
safe_over f s = record { unit = let h = s.unit in let k = s.few in omega arith; marks = λ j. let h = s.marks j in let k = s.few in omega arith; few = omega arith }

safe_pushed : (f : Films) (x : Film) → Safe f → Safe (pushed f x)
safe_pushed f x s = go (ltb f.count 64) refl
  where
    go : (z : Bool) → ltb f.count 64 ≡ z → Safe (pushed f x)
    go true e = let b = ltb-true _ _ e in subst Safe (push_fits f x b) (record { unit = let h = s.unit in omega arith; marks = λ j. let h = s.marks j in omega arith; few = omega arith })
    go false e = subst Safe (push_over f x (ltb-false _ _ e)) (safe_over f s)

safe_repeated : (n : ℕ) (f : Films) → Safe f → Safe (repeated f n)
unfolding repeated
safe_repeated zero f s = s
safe_repeated (suc n) f s = safe_repeated n (pushed f (again f)) (safe_pushed f (again f) s)

some_pushed : (f : Films) (x : Film) → 1 ≤ (pushed f x).count
some_pushed f x = go (ltb f.count 64)
  where
    go : (z : Bool) → 1 ≤ (cond z (record { items = set f.items f.count x; count = f.count + 1; unit = f.unit; opened = f.opened }) (over f)).count
    go true = omega arith
    go false = omega arith

safe_added : (f : Films) (x : Film) → Safe f → Safe (added f x)
safe_added f x s = let t = safe_pushed f x s in record { unit = some_pushed f x; marks = t.marks; few = t.few }

safe_marked : (f : Films) (d : ℕ) → Safe f → Safe (marked f d)
safe_marked f d s = record { unit = s.unit; marks = λ j. go j (eqb j d) refl (ltb d (length f.opened)) refl; few = s.few }
  where
    go : (j : ℕ) (z : Bool) → eqb j d ≡ z → (w : Bool) → ltb d (length f.opened) ≡ w → get_or (set f.opened d f.count) j 0 ≤ f.count
    go j true e true g = rw (eqb-true j d e, get_or-set_same f.opened d f.count 0 (ltb-true _ _ g)) (omega arith)
    go j true e false g = rw (set_out f.opened d f.count (ltb-false _ _ g)) (s.marks j)
    go j false e w g = rw (get_or-set_other f.opened d j f.count 0 (eqb-false _ _ e)) (s.marks j)

safe_taken : (f : Films) (p : M.Phase) (d : ℕ) (x : Sym) → Safe f → Safe (taken f p d x)
safe_taken f p d blank s = s
safe_taken f p d (dig a) s = safe_repeated _ f s
safe_taken f p d (let' l) s = safe_added f _ s
safe_taken f p d open' s = safe_marked f d s
safe_taken f p d close s = record { unit = omega arith; marks = s.marks; few = s.few }
safe_taken f p d hat s = s
safe_taken f p d bad s = s

-- ---- what the code's machine has of the tree's
abbrev Alike : Phase → ℕ → Bool → ℕ → ℕ → Bool → M.Phase → Type 0
Alike q n a k d any p = (k ≡ d) × (a ≡ any) × (phase_of q n ≡ p) × (rests_in q ≡ rests p)

alike : (q : Phase) (n : ℕ) (a : Bool) (k d : ℕ) (any : Bool) (p : M.Phase) → view_at q n a k ≡ on d any p → Alike q n a k d any p
alike P.Stop n a k d any p e = let z : ◌≡◌ {A = ℕ} 0 1 = cc in absurd (omega arith)
alike P.Ready n a k d any p e = let h : M.ready ≡ p = cc in (cc, (cc), h, ap rests h)
alike P.Atom n a k d any p e = let h : M.atom ≡ p = cc in (cc, (cc), h, ap rests h)
alike P.Number1 n a k d any p e = let h : M.mul1 n ≡ p = cc in (cc, (cc), h, ap rests h)
alike P.Number2 n a k d any p e = let h : M.mul2 n ≡ p = cc in (cc, (cc), h, ap rests h)
alike P.Gap n a k d any p e = let h : M.gap n ≡ p = cc in (cc, (cc), h, ap rests h)
alike P.Caret n a k d any p e = let h : M.caret ≡ p = cc in (cc, (cc), h, ap rests h)
alike P.Power1 n a k d any p e = let h : M.pow1 n ≡ p = cc in (cc, (cc), h, ap rests h)
alike P.Power2 n a k d any p e = let h : M.pow2 ≡ p = cc in (cc, (cc), h, ap rests h)

halts : (q : Phase) (n : ℕ) (a : Bool) (k : ℕ) → halted_in q ≡ true → view_at q n a k ≡ halt
halts P.Stop n a k e = refl
halts P.Ready n a k e = cc
halts P.Atom n a k e = cc
halts P.Number1 n a k e = cc
halts P.Number2 n a k e = cc
halts P.Gap n a k e = cc
halts P.Caret n a k e = cc
halts P.Power1 n a k e = cc
halts P.Power2 n a k e = cc

goes : (q : Phase) (n : ℕ) (a : Bool) (k : ℕ) → halted_in q ≡ false → view_at q n a k ≡ halt → ⊥
goes P.Stop n a k e h = let z : ◌≡◌ {A = ℕ} 0 1 = cc in omega arith
goes P.Ready n a k e h = let z : ◌≡◌ {A = ℕ} 0 1 = cc in omega arith
goes P.Atom n a k e h = let z : ◌≡◌ {A = ℕ} 0 1 = cc in omega arith
goes P.Number1 n a k e h = let z : ◌≡◌ {A = ℕ} 0 1 = cc in omega arith
goes P.Number2 n a k e h = let z : ◌≡◌ {A = ℕ} 0 1 = cc in omega arith
goes P.Gap n a k e h = let z : ◌≡◌ {A = ℕ} 0 1 = cc in omega arith
goes P.Caret n a k e h = let z : ◌≡◌ {A = ℕ} 0 1 = cc in omega arith
goes P.Power1 n a k e h = let z : ◌≡◌ {A = ℕ} 0 1 = cc in omega arith
goes P.Power2 n a k e h = let z : ◌≡◌ {A = ℕ} 0 1 = cc in omega arith

unrolled : (q : State) (i b : ℕ) (bs : List ℕ) → read_from q i (b ∷ bs) ≡ going (step q (kind b)) (refusal 9 i) (read_from (step q (kind b)) (suc i) bs)
unfolding read_from
unrolled q i b bs = refl

ended_false : (s : Stack) (p : M.Phase) (i : ℕ) → (some s && rests p) ≡ false → ended (at [] s p) i ≡ refusal 9 i
unfolding ended
ended_false s p i e = simp e

ended_true : (s : Stack) (p : M.Phase) (i : ℕ) → (some s && rests p) ≡ true → ended (at [] s p) i ≡ counted (films s)
unfolding ended
ended_true s p i e = simp e

ended_open : (g : Stack) (fs : List Stack) (s : Stack) (p : M.Phase) (i : ℕ) → ended (at (g ∷ fs) s p) i ≡ refusal 9 i
unfolding ended
ended_open g fs s p i = refl

laid_counted : (f : Films) (l : List Film) → Laid f l → kept_films f ≡ Outcome.map placed (counted l)
unfolding counted
laid_counted f l (fits e h i) = let c : f.count ≤ 64 = omega arith in simp (le-leb f.count 64 c, le-leb (length l) 64 h, i, e)
laid_counted f l (full e h) = let c : 64 < f.count = omega arith in simp (lt-leb f.count 64 c, lt-leb (length l) 64 h)

-- ---- the loop
pub record Reached (text : List ℕ) (i : ℕ) (m : Machine) (f : Films) : Type 0 where
  pub within : i ≤ length text
  pub low : Low m
  pub safe : Safe f
  fs : List Stack
  tree : Stack
  phase : M.Phase
  seen : view m ≡ on (length fs) (some tree) phase
  from : read_from M.begin 0 text ≡ read_from (at fs tree phase) i (drop i text)
  kept : Kept f fs tree phase

pub begun : (text : List ℕ) (m : Machine) (f : Films) → m ≡ begin → f ≡ no_films → Reached text 0 m f
begun text m f e g =
    rw (e, g) (record {
      within = omega arith;
      low = record { number = tt; depth = omega arith };
      safe = record { unit = omega arith; marks = λ j. none_open j; few = omega arith };
      fs = [];
      tree = none;
      phase = M.ready;
      seen = refl;
      from = refl;
      kept = begins_kept;
    })
  where
    none_open : (j : ℕ) → get_or (replicate 4 0) j 0 ≤ 0
    none_open zero = omega arith
    none_open (suc zero) = omega arith
    none_open (suc (suc zero)) = omega arith
    none_open (suc (suc (suc zero))) = omega arith
    none_open (suc (suc (suc (suc j)))) = omega arith

module _ (text : List ℕ) (i : ℕ) (m : Machine) (f : Films) (r : Reached text i m f) (inside : i < length text) (n : Machine) (moved : Stepped m (kind (get_or text i 0)) n) where
  abbrev b : ℕ
  b = get_or text i 0

  abbrev after : State
  after = step (at r.fs r.tree r.phase) (kind b)

  erased : view n ≡ erase after
  erased = moved.seen ∙ ap (λ (z : Small). small_step z (kind b)) r.seen ∙ sym (same_step (at r.fs r.tree r.phase) (kind b))

  turn : read_from M.begin 0 text ≡ going after (refusal 9 i) (read_from after (i + 1) (drop (i + 1) text))
  turn = r.from ∙ ap (read_from (at r.fs r.tree r.phase) i) (drop-cons text i 0 inside) ∙ unrolled (at r.fs r.tree r.phase) i b (drop (suc i) text) ∙ ap (λ (k : ℕ). going after (refusal 9 i) (read_from after k (drop k text))) (sym (add-one i))

  pub stops : halted_in n.phase ≡ true → refusal 9 i ≡ read_from M.begin 0 text
  stops h = sym (turn ∙ stopped after (sym erased ∙ halts n.phase n.number n.any n.depth h))
    where
      stopped : (q : State) → erase q ≡ halt → going q (refusal 9 i) (read_from q (i + 1) (drop (i + 1) text)) ≡ refusal 9 i
      stopped stop e = refl
      stopped (at fs s p) e = let z : ◌≡◌ {A = ℕ} 0 1 = cc in absurd (omega arith)

  pub going_on : halted_in n.phase ≡ false → Goes m (kind b)
  going_on h = record { goes = λ e. goes n.phase n.number n.any n.depth h (moved.seen ∙ e); low = r.low }

  pub next : (g : Films) → halted_in n.phase ≡ false → g ≡ taken f (phase_of m.phase m.number) m.depth (kind b) → Reached text (i + 1) n g
  next g h e = at_state after refl (rw (← same_films) at (take_held f r.fs r.tree r.phase (kind b) r.kept))
    where
      view_is : Alike m.phase m.number m.any m.depth (length r.fs) (some r.tree) r.phase
      view_is = alike m.phase m.number m.any m.depth (length r.fs) (some r.tree) r.phase r.seen

      same_films : g ≡ taken f r.phase (length r.fs) (kind b)
      same_films = e ∙ ap (λ (q : M.Phase). taken f q m.depth (kind b)) view_is.2 ∙ ap (λ (d : ℕ). taken f r.phase d (kind b)) view_is.0

      at_state : (q : State) → after ≡ q → Held g after → Reached text (i + 1) n g
      at_state stop x k = absurd (goes n.phase n.number n.any n.depth h (erased ∙ ap erase x))
      at_state (at fs s p) x k = record {
        within = omega arith;
        low = moved.low;
        safe = rw same_films (safe_taken f r.phase (length r.fs) (kind b) r.safe);
        fs = fs;
        tree = s;
        phase = p;
        seen = erased ∙ ap erase x;
        from = turn ∙ ap (λ (q : State). going q (refusal 9 i) (read_from q (i + 1) (drop (i + 1) text))) x;
        kept = subst (Held g) x k;
      }

-- ---- the end of the text
module _ (text : List ℕ) (i : ℕ) (m : Machine) (f : Films) (r : Reached text i m f) (over-text : length text ≤ i) where
  at_end : read_from M.begin 0 text ≡ ended (at r.fs r.tree r.phase) i
  unfolding read_from
  at_end = r.from ∙ ap (read_from (at r.fs r.tree r.phase) i) (drop_of_length-le text over-text)

  view_is : Alike m.phase m.number m.any m.depth (length r.fs) (some r.tree) r.phase
  view_is = alike m.phase m.number m.any m.depth (length r.fs) (some r.tree) r.phase r.seen

  whole_is : whole_in m ≡ eqb (length r.fs) 0 && (some r.tree && rests r.phase)
  whole_is = simp (view_is.0, view_is.1, view_is.3)

  pub early : whole_in m ≡ false → refusal 9 i ≡ read_from M.begin 0 text
  early h = sym (at_end ∙ go r.fs r.tree r.phase (sym whole_is ∙ h))
    where
      go : (fs : List Stack) (s : Stack) (p : M.Phase) → (eqb (length fs) 0 && (some s && rests p)) ≡ false → ended (at fs s p) i ≡ refusal 9 i
      go [] s p e = ended_false s p i e
      go (g ∷ fs) s p e = ended_open g fs s p i

  pub counts : whole_in m ≡ true → kept_films f ≡ Outcome.map placed (read_from M.begin 0 text)
  counts h = go r.fs r.tree r.phase (sym whole_is ∙ h) (laid_of f r.fs r.tree r.phase r.kept) ∙ ap (Outcome.map placed) (sym at_end)
    where
      go : (fs : List Stack) (s : Stack) (p : M.Phase) → (eqb (length fs) 0 && (some s && rests p)) ≡ true → Laid f (flat fs s) → kept_films f ≡ Outcome.map placed (ended (at fs s p) i)
      go [] s p e l = laid_counted f (films s) l ∙ ap (Outcome.map placed) (sym (ended_true s p i e))
      go (g ∷ fs) s p e l = let z : ◌≡◌ {A = ℕ} 0 1 = never fs e in absurd (omega arith)
        where
          never : (fs : List Stack) → (eqb (suc (length fs)) 0 && (some s && rests p)) ≡ true → ◌≡◌ {A = ℕ} 0 1
          never fs e = let n : eqb (suc (length fs)) 0 ≡ false = ne_eqb (suc (length fs)) 0 (λ h. omega (arith, h)) in let k = rw n at e in cc

pub too_long : (text : List ℕ) → 255 < length text → refusal 9 255 ≡ reading text
unfolding reading
too_long text h = simp (lt-leb _ _ h)

pub not_long : (text : List ℕ) → length text ≤ 255 → reading text ≡ read_from M.begin 0 text
unfolding reading
not_long text h = simp (le-leb _ _ h)
