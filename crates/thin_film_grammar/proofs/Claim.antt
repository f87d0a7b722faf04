-- Each text gives `reading`, and nothing else: the claim. Assumes nothing.
use mathlib.Core.Path.{◌≡◌, refl, sym, ap, ◌∙◌, subst}
use mathlib.Core.List.{List, [], ◌∷◌, ◌++◌, map, map-append, append_assoc, append-nil}
use mathlib.Core.Bool.{Bool, true, false, ◌&&◌, cond}
use Prim.Native.Nat.{ℕ, suc, ◌+◌, ◌≤◌, ◌<◌}
use native.Mathlib.Omega.{arith}
use lib.Dec.{T, leb, le→leb, leb→le, nleb→lt}
use lib.ListN.{length, get_or, take, drop, length-append}
use lib.Seq.{take_at, take-suc, split_at, length-take-le}
use borrow.Author.Tests.{le-leb, lt-leb, leb-true, leb-false}
use Rattle.refusal.specs.Outcome.{Outcome, answer, refusal}
use Rattle.thin_film_grammar.specs.declared.Film.{Film}
use Rattle.thin_film_grammar.specs.Grammar.{Sym, kind, Stack, some, Symbols, Text}
use Rattle.thin_film_grammar.specs.Films.{films}
use Rattle.thin_film_grammar.specs.InternalMachine.{Phase, rests, State, stop, at, step, run, begin, Accepts, accepts}
use Rattle.thin_film_grammar.specs.Reading.{counted, ended, going, read_from, reading}
use Rattle.thin_film_grammar.specs.Claim.{Begins, Gives, too_long, wrong, early, many, read, Grammar}
use Rattle.thin_film_grammar.proofs.Complete as Complete
use Rattle.thin_film_grammar.proofs.Sound as Sound

abbrev state : List ℕ → State
state t = run begin (map kind t)

begins : (t : List ℕ) (fs : List Stack) (s : Stack) (p : Phase) → state t ≡ at fs s p → Begins t
begins t fs s p e = let g = Sound.goes_on (map kind t) fs s p e in record { rest = g.0; tree = g.1; text = rw map-append g.2 }

not_begins : (t : List ℕ) → state t ≡ stop → Begins t → ⊥
not_begins t e v = Complete.stops (map kind t) (map kind v.rest) v.tree e (rw map-append at v.text)

abbrev Goes : State → Type 0
Goes stop = ⊥
Goes (at fs s p) = Unit {0}

goes_begins : (t : List ℕ) (q : State) → state t ≡ q → Goes q → Begins t
goes_begins t stop e h = absurd h
goes_begins t (at fs s p) e h = begins t fs s p e

further : (t : List ℕ) (b : ℕ) → state (t ++ (b ∷ [])) ≡ step (state t) (kind b)
further t b = ap (run begin) (map-append kind t (b ∷ [])) ∙ Complete.run_append begin (map kind t) (kind b ∷ [])

-- ---- at the end of the text
only_accepts : (t : List ℕ) (s tree : Stack) (p : Phase) → state t ≡ at [] s p → Text t tree → (s ≡ tree) × T (some s && rests p)
only_accepts t s tree p e h = go (at [] s p) (subst (λ (q : State). Accepts q tree) e (Complete.accepted (map kind t) tree h)) refl
  where
    go : (q : State) → Accepts q tree → q ≡ at [] s p → (s ≡ tree) × T (some s && rests p)
    go q (accepts {s = s'} {p = p'} h) f = let k : s' ≡ s = cc in let l : p' ≡ p = cc in (sym k, rw (k, l) at h)

closed_only : (t : List ℕ) (fs : List Stack) (f s tree : Stack) (p : Phase) → state t ≡ at (f ∷ fs) s p → Text t tree → ⊥
closed_only t fs f s tree p e h = go (at (f ∷ fs) s p) (subst (λ (q : State). Accepts q tree) e (Complete.accepted (map kind t) tree h)) refl
  where
    go : (q : State) → Accepts q tree → q ≡ at (f ∷ fs) s p → ⊥
    go q (accepts h) g = let z : ◌≡◌ {A = ℕ} 0 1 = cc in omega arith

counts : (t : List ℕ) (s : Stack) → length t ≤ 255 → Text t s → Gives t (counted (films s))
unfolding counted
counts t s h k = go (leb (length (films s)) 64) refl
  where
    go : (z : Bool) → leb (length (films s)) 64 ≡ z → Gives t (cond z (answer (films s)) (refusal 10 0))
    go true e = read h k (leb-true _ _ e)
    go false e = many h k (leb-false _ _ e)

at_end : (t : List ℕ) (q : State) → state t ≡ q → Goes q → length t ≤ 255 → Gives t (ended q (length t))
unfolding ended
at_end t stop e g h = absurd g
at_end t (at [] s p) e g h = go (some s && rests p) refl
  where
    go : (z : Bool) → (some s && rests p) ≡ z → Gives t (cond z (counted (films s)) (refusal 9 (length t)))
    go true f = counts t s h (Sound.derivable (map kind t) s (rw e (accepts {s = s} {p = p} (rw f tt))))
    go false f = early h (begins t [] s p e) (λ tree k. rw f at (only_accepts t s tree p e k).1)
at_end t (at (f ∷ fs) s p) e g h = early h (begins t (f ∷ fs) s p e) (λ tree k. closed_only t fs f s tree p e k)

-- ---- from a byte on
from_here : (t bs : List ℕ) (q : State) → state t ≡ q → Goes q → length (t ++ bs) ≤ 255 → Gives (t ++ bs) (read_from q (length t) bs)
unfolding read_from
from_here t [] q e g h = rw append-nil (at_end t q e g (rw append-nil at h))
from_here t (b ∷ bs) q e g h = go (λ r. from_here (t ++ (b ∷ [])) bs r) (step q (kind b)) refl
  where
    text_is : (t ++ (b ∷ [])) ++ bs ≡ t ++ (b ∷ bs)
    text_is = append_assoc t (b ∷ []) bs

    long : suc (length t) ≡ length (t ++ (b ∷ []))
    long = rw (length-append t (b ∷ [])) (omega arith)

    next : state (t ++ (b ∷ [])) ≡ step q (kind b)
    next = further t b ∙ ap (λ (z : State). step z (kind b)) e

    go : ((r : State) → state (t ++ (b ∷ [])) ≡ r → Goes r → length ((t ++ (b ∷ [])) ++ bs) ≤ 255 → Gives ((t ++ (b ∷ [])) ++ bs) (read_from r (length (t ++ (b ∷ []))) bs)) → (r : State) → step q (kind b) ≡ r → Gives (t ++ (b ∷ bs)) (going r (refusal 9 (length t)) (read_from r (suc (length t)) bs))
    go after stop f =
        wrong {i = length t} h (rw (length-append t (b ∷ bs)) (omega arith)) (subst Begins (sym (take_at t (b ∷ bs) (length t) refl)) (goes_begins t q e g))
        (λ v. not_begins (t ++ (b ∷ [])) (next ∙ f) (subst Begins (ap (take (suc (length t))) (sym text_is) ∙ take_at (t ++ (b ∷ [])) bs (suc (length t)) (sym long)) v))
    go after (at fs s p) f =
        subst (λ (u : List ℕ). Gives u (read_from (at fs s p) (suc (length t)) bs)) text_is
        (subst (λ (n : ℕ). Gives ((t ++ (b ∷ [])) ++ bs) (read_from (at fs s p) n bs)) (sym long) (after (at fs s p) (next ∙ f) tt (rw text_is h)))

pub gives : (text : List ℕ) → Gives text (reading text)
unfolding reading
gives text = go (leb (length text) 255) refl
  where
    go : (z : Bool) → leb (length text) 255 ≡ z → Gives text (cond z (read_from begin 0 text) (refusal 9 255))
    go true e = from_here [] text begin refl tt (leb-true _ _ e)
    go false e = too_long (leb-false _ _ e)

-- ---- nothing else
data Whether (q : State) : Type 0 where
  is_stop : q ≡ stop → Whether q
  goes : Goes q → Whether q

whether : (q : State) → Whether q
whether stop = is_stop refl
whether (at fs s p) = goes tt

begins_goes : (t : List ℕ) → Begins t → Goes (state t)
begins_goes t v = go (whether (state t))
  where
    go : Whether (state t) → Goes (state t)
    go (is_stop e) = absurd (not_begins t e v)
    go (goes g) = g

not_begins_stop : (t : List ℕ) → (Begins t → ⊥) → state t ≡ stop
not_begins_stop t h = go (whether (state t))
  where
    go : Whether (state t) → state t ≡ stop
    go (is_stop e) = e
    go (goes g) = absurd (h (goes_begins t (state t) refl g))

run_stop : (t : List Sym) → run stop t ≡ stop
run_stop [] = refl
run_stop (x ∷ t) = run_stop t

turn : (t bs : List ℕ) (q : State) (i b : ℕ) (r : State) → step q (kind b) ≡ r → Goes (run (step q (kind b)) (map kind t)) → read_from q i (b ∷ (t ++ bs)) ≡ read_from (step q (kind b)) (suc i) (t ++ bs)
unfolding read_from
turn t bs q i b stop e g = absurd (subst Goes (ap (λ (z : State). run z (map kind t)) e ∙ run_stop (map kind t)) g)
turn t bs q i b (at fs s p) e g = rw e refl

-- the bytes before the place where the machine stops change nothing
along : (t bs : List ℕ) (q : State) (i : ℕ) → Goes (run q (map kind t)) → read_from q i (t ++ bs) ≡ read_from (run q (map kind t)) (i + length t) bs
along [] bs q i g = ap (λ (n : ℕ). read_from q n bs) (omega arith)
along (b ∷ t) bs q i g = turn t bs q i b (step q (kind b)) refl g ∙ along t bs (step q (kind b)) (suc i) g ∙ ap (λ (n : ℕ). read_from (run (step q (kind b)) (map kind t)) n bs) (omega arith)

within : (text : List ℕ) → length text ≤ 255 → reading text ≡ read_from begin 0 text
unfolding reading
within text h = simp (le-leb _ _ h)

stops_at : (q : State) (i b : ℕ) (bs : List ℕ) → step q (kind b) ≡ stop → read_from q i (b ∷ bs) ≡ refusal 9 i
unfolding read_from
stops_at q i b bs e = rw e refl

at_length : (text : List ℕ) → Goes (state text) → read_from begin 0 text ≡ ended (state text) (length text)
unfolding read_from
at_length text g = ap (read_from begin 0) (sym (append-nil text)) ∙ along text [] begin 0 g ∙ ap (ended (state text)) (omega arith)

ended_early : (text : List ℕ) (q : State) → state text ≡ q → ((tree : Stack) → Text text tree → ⊥) → ended q (length text) ≡ refusal 9 (length text)
unfolding ended
ended_early text stop e h = refl
ended_early text (at [] s p) e h = go (some s && rests p) refl
  where
    go : (z : Bool) → (some s && rests p) ≡ z → cond z (counted (films s)) (refusal 9 (length text)) ≡ refusal 9 (length text)
    go true f = absurd (h s (Sound.derivable (map kind text) s (rw e (accepts {s = s} {p = p} (rw f tt)))))
    go false f = refl
ended_early text (at (f ∷ fs) s p) e h = refl

ended_whole : (q : State) (tree : Stack) (i : ℕ) → Accepts q tree → ended q i ≡ counted (films tree)
unfolding ended
ended_whole q tree i (accepts {s = s} {p = p} h) = Complete.yes (some s && rests p) (counted (films s)) (refusal 9 i) h

accepts_goes : (q : State) (tree : Stack) → Accepts q tree → Goes q
accepts_goes q tree (accepts h) = tt

whole : (text : List ℕ) (tree : Stack) → length text ≤ 255 → Text text tree → reading text ≡ counted (films tree)
whole text tree h k =
    let a : Accepts (state text) tree = Complete.accepted (map kind text) tree k in
    within text h ∙ at_length text (accepts_goes (state text) tree a) ∙ ended_whole (state text) tree (length text) a

pub only : (text : List ℕ) (o : Outcome (List Film)) → Gives text o → o ≡ reading text
unfolding reading counted
only text o (too_long h) = simp (lt-leb _ _ h)
only text o (wrong {i = i} h k v n) =
    let front : length (take i text) ≡ i = length-take-le i text (omega arith) in
    let b = get_or text i 0 in
    let next : state (take (suc i) text) ≡ step (state (take i text)) (kind b) = ap state (take-suc text i 0 k) ∙ further (take i text) b in
    sym (within text h ∙ ap (read_from begin 0) (split_at text i 0 k) ∙ along (take i text) (b ∷ drop (suc i) text) begin 0 (begins_goes (take i text) v)
    ∙ stops_at (state (take i text)) (0 + length (take i text)) b (drop (suc i) text) (sym next ∙ not_begins_stop (take (suc i) text) n) ∙ ap (refusal 9) (omega arith))
only text o (early h v n) = sym (within text h ∙ at_length text (begins_goes text v) ∙ ended_early text (state text) refl n)
only text o (many {tree = tree} h k l) = sym (whole text tree h k ∙ simp (lt-leb _ _ l))
only text o (read {tree = tree} h k l) = sym (whole text tree h k ∙ simp (le-leb _ _ l))

pub grammar : Grammar
grammar = record { only_tree = λ text tree tree'. Complete.only_reading (map kind text) tree tree'; gives = gives; only = only }
