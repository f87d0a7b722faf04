-- Each symbol's step of the machine. Assumes nothing.
use mathlib.Core.Path.{◌≡◌, refl, sym, ap, ◌∙◌, subst}
use mathlib.Core.Bool.{Bool, true, false, not, ◌&&◌, cond}
use Prim.Native.Nat.{ℕ, suc, pred, ◌+◌, ◌*◌, ◌-◌, ◌≤◌, ◌<◌}
use native.Mathlib.Omega.{arith}
use lib.Dec.{ltb, leb, eqb, lit≤}
use borrow.Author.Tests.{lt-ltb, le-ltb, le-leb, lt-leb, eq-eqb, ne_eqb, not-true, not-false}
use Rattle.thin_film_grammar.specs.InternalMachine as M
use Rattle.thin_film_grammar.specs.Grammar.{Sym, kind, blank, dig, let', open', close, hat, bad}
use Rattle.thin_film_reader.specs.declared.machine.Phase.{Phase}
use Rattle.thin_film_reader.specs.declared.machine.Phase.TheVariants as P
use Rattle.thin_film_reader.specs.declared.machine.Machine.{Machine}
use Rattle.thin_film_reader.specs.InternalMachine.{Small, halt, on, small_digit, small_step, view_at, view, spaced_in, rests_in, takes_letter, takes_power, Low_at, Low, at_phase, Stepped, Lettered, stopped, whole_in}

pub stops : (m : Machine) (x : Sym) (r : Machine) → r ≡ stopped → halt ≡ small_step (view m) x → Stepped m x r
stops m x r e h = rw e (record { seen = h; low = record { number = tt; depth = lit≤ tt } })

abbrev pub with_phase : Machine → Phase → Machine
with_phase m p = record { phase = p; number = m.number; any = m.any; depth = m.depth }

pub spaces : (m : Machine) (q : Phase) → q ≡ spaced_in m.phase → Low m → Stepped m blank (with_phase m q)
spaces m q e h = rw e (record { seen = seen m.phase m.number m.any m.depth; low = record { number = low m.phase m.number; depth = h.depth } })
  where
    seen : (p : Phase) (n : ℕ) (any : Bool) (d : ℕ) → view_at (spaced_in p) n any d ≡ small_step (view_at p n any d) blank
    seen P.Stop n any d = refl
    seen P.Ready n any d = refl
    seen P.Atom n any d = refl
    seen P.Number1 n any d = refl
    seen P.Number2 n any d = refl
    seen P.Gap n any d = refl
    seen P.Caret n any d = refl
    seen P.Power1 n any d = refl
    seen P.Power2 n any d = refl

    low : (p : Phase) (n : ℕ) → Low_at (spaced_in p) n
    low P.Stop n = tt
    low P.Ready n = tt
    low P.Atom n = tt
    low P.Number1 n = tt
    low P.Number2 n = tt
    low P.Gap n = tt
    low P.Caret n = tt
    low P.Power1 n = tt
    low P.Power2 n = tt

pub letters : (m : Machine) → takes_letter m.phase ≡ true → Low m → Lettered m (record { phase = P.Atom; number = 0; any = true; depth = m.depth })
letters m e h l = record { seen = seen m.phase m.number m.any m.depth e; low = record { number = tt; depth = h.depth } }
  where
    seen : (p : Phase) (n : ℕ) (any : Bool) (d : ℕ) → takes_letter p ≡ true → on d true M.atom ≡ small_step (view_at p n any d) (let' l)
    seen P.Stop n any d e = cc
    seen P.Ready n any d e = refl
    seen P.Atom n any d e = refl
    seen P.Number1 n any d e = refl
    seen P.Number2 n any d e = refl
    seen P.Gap n any d e = refl
    seen P.Caret n any d e = cc
    seen P.Power1 n any d e = refl
    seen P.Power2 n any d e = refl

pub no_letter : (m r : Machine) → takes_letter m.phase ≡ false → r ≡ stopped → Lettered m r
no_letter m r e f l = stops m (let' l) r f (seen m.phase m.number m.any m.depth e)
  where
    seen : (p : Phase) (n : ℕ) (any : Bool) (d : ℕ) → takes_letter p ≡ false → halt ≡ small_step (view_at p n any d) (let' l)
    seen P.Stop n any d e = refl
    seen P.Ready n any d e = cc
    seen P.Atom n any d e = cc
    seen P.Number1 n any d e = cc
    seen P.Number2 n any d e = cc
    seen P.Gap n any d e = cc
    seen P.Caret n any d e = refl
    seen P.Power1 n any d e = cc
    seen P.Power2 n any d e = cc

pub carets : (m : Machine) → takes_power m.phase ≡ true → Low m → Stepped m hat (record { phase = P.Caret; number = 0; any = m.any; depth = m.depth })
carets m e h = record { seen = seen m.phase m.number m.any m.depth e; low = record { number = tt; depth = h.depth } }
  where
    seen : (p : Phase) (n : ℕ) (any : Bool) (d : ℕ) → takes_power p ≡ true → on d any M.caret ≡ small_step (view_at p n any d) hat
    seen P.Stop n any d e = cc
    seen P.Ready n any d e = cc
    seen P.Atom n any d e = refl
    seen P.Number1 n any d e = cc
    seen P.Number2 n any d e = cc
    seen P.Gap n any d e = cc
    seen P.Caret n any d e = cc
    seen P.Power1 n any d e = cc
    seen P.Power2 n any d e = cc

pub no_caret : (m r : Machine) → takes_power m.phase ≡ false → r ≡ stopped → Stepped m hat r
no_caret m r e f = stops m hat r f (seen m.phase m.number m.any m.depth e)
  where
    seen : (p : Phase) (n : ℕ) (any : Bool) (d : ℕ) → takes_power p ≡ false → halt ≡ small_step (view_at p n any d) hat
    seen P.Stop n any d e = refl
    seen P.Ready n any d e = refl
    seen P.Atom n any d e = cc
    seen P.Number1 n any d e = refl
    seen P.Number2 n any d e = refl
    seen P.Gap n any d e = refl
    seen P.Caret n any d e = refl
    seen P.Power1 n any d e = refl
    seen P.Power2 n any d e = refl

-- ---- brackets
-- what a bracket gives: halt before an item is complete
abbrev bracketed : Bool → Small → Small
bracketed r q = cond r q halt

opening : (p : Phase) (n : ℕ) (any : Bool) (d : ℕ) → small_step (view_at p n any d) open' ≡ bracketed (rests_in p) (cond (ltb d 4) (on (suc d) false M.ready) halt)
opening P.Stop n any d = refl
opening P.Ready n any d = refl
opening P.Atom n any d = refl
opening P.Number1 n any d = refl
opening P.Number2 n any d = refl
opening P.Gap n any d = refl
opening P.Caret n any d = refl
opening P.Power1 n any d = refl
opening P.Power2 n any d = refl

closing : (p : Phase) (n : ℕ) (any : Bool) (d : ℕ) → small_step (view_at p n any d) close ≡ bracketed (rests_in p) (cond (ltb 0 d) (cond any (on (pred d) true M.atom) halt) halt)
closing P.Stop n any d = refl
closing P.Ready n any d = refl
closing P.Atom n any d = refl
closing P.Number1 n any d = refl
closing P.Number2 n any d = refl
closing P.Gap n any d = refl
closing P.Caret n any d = refl
closing P.Power1 n any d = refl
closing P.Power2 n any d = refl

module _ (m : Machine) where
  abbrev after_open : Small
  after_open = small_step (view m) open'

  abbrev after_close : Small
  after_close = small_step (view m) close

  pub opening_is : after_open ≡ bracketed (rests_in m.phase) (cond (ltb m.depth 4) (on (suc m.depth) false M.ready) halt)
  opening_is = opening m.phase m.number m.any m.depth

  pub closing_is : after_close ≡ bracketed (rests_in m.phase) (cond (ltb 0 m.depth) (cond m.any (on (pred m.depth) true M.atom) halt) halt)
  closing_is = closing m.phase m.number m.any m.depth

  pub no_open : (r : Machine) → rests_in m.phase ≡ false → r ≡ stopped → Stepped m open' r
  no_open r e f = stops m open' r f (sym (opening_is ∙ simp e))

  pub deep : (r : Machine) → rests_in m.phase ≡ true → 4 ≤ m.depth → r ≡ stopped → Stepped m open' r
  deep r e h f = stops m open' r f (sym (opening_is ∙ simp (e, le-ltb _ _ h)))

  pub opens : (d : ℕ) → rests_in m.phase ≡ true → m.depth < 4 → d ≡ m.depth + 1 → Stepped m open' (record { phase = P.Ready; number = 0; any = false; depth = d })
  opens d e h k = let j : d ≡ suc m.depth = omega arith in record { seen = ap (λ (n : ℕ). on n false M.ready) j ∙ sym (opening_is ∙ simp (e, lt-ltb _ _ h)); low = record { number = tt; depth = omega arith } }

  pub no_close : (r : Machine) → rests_in m.phase ≡ false → r ≡ stopped → Stepped m close r
  no_close r e f = stops m close r f (sym (closing_is ∙ simp e))

  pub unopened : (r : Machine) → rests_in m.phase ≡ true → m.depth ≡ 0 → r ≡ stopped → Stepped m close r
  unopened r e h f = stops m close r f (sym (closing_is ∙ simp (e, h)))

  pub empty : (r : Machine) → rests_in m.phase ≡ true → 0 < m.depth → m.any ≡ false → r ≡ stopped → Stepped m close r
  empty r e h a f = stops m close r f (sym (closing_is ∙ simp (e, lt-ltb _ _ h, a)))

  pub closes : (d : ℕ) → rests_in m.phase ≡ true → 0 < m.depth → m.any ≡ true → d ≡ m.depth - 1 → Low m → Stepped m close (record { phase = P.Atom; number = 0; any = true; depth = d })
  closes d e h a k w = let b = w.depth in let j : d ≡ pred m.depth = omega arith in record { seen = ap (λ (n : ℕ). on n true M.atom) j ∙ sym (closing_is ∙ simp (e, lt-ltb _ _ h, a)); low = record { number = tt; depth = omega arith } }

-- ---- digits
module _ (m : Machine) (a : ℕ) (low : a ≤ 9) where
  pub no_number : (r : Machine) → a ≡ 0 → r ≡ stopped → Stepped (at_phase m P.Ready) (dig a) r
  no_number r e f = stops (at_phase m P.Ready) (dig a) r f (simp e)

  pub number : 0 < a → Low m → Stepped (at_phase m P.Ready) (dig a) (record { phase = P.Number1; number = a; any = m.any; depth = m.depth })
  number h w = record { seen = simp (lt-ltb _ _ h); low = record { number = low; depth = w.depth } }

  pub no_power : (r : Machine) → a ≡ 0 → r ≡ stopped → Stepped (at_phase m P.Caret) (dig a) r
  no_power r e f = stops (at_phase m P.Caret) (dig a) r f (simp e)

  pub power : 0 < a → Low m → Stepped (at_phase m P.Caret) (dig a) (record { phase = P.Power1; number = a; any = m.any; depth = m.depth })
  power h w = let k : a ≤ 31 = omega arith in record { seen = simp (lt-ltb _ _ h, le-leb _ _ k); low = record { number = low; depth = w.depth } }

  pub too_high : (r : Machine) → 31 < 10 * m.number + a → r ≡ stopped → Stepped (at_phase m P.Power1) (dig a) r
  too_high r h f = stops (at_phase m P.Power1) (dig a) r f (simp (lt-leb _ _ h))

  pub second : 10 * m.number + a ≤ 31 → Low m → Stepped (at_phase m P.Power1) (dig a) (record { phase = P.Power2; number = 0; any = m.any; depth = m.depth })
  second h w = record { seen = simp (le-leb _ _ h); low = record { number = tt; depth = w.depth } }

-- a step from m by its phase
pub by_phase : (m : Machine) (p : Phase) (x : Sym) (r : Machine) → m.phase ≡ p → Stepped (at_phase m p) x r → Stepped m x r
by_phase m p x r e h = record { seen = h.seen ∙ ap (λ (q : Phase). small_step (view_at q m.number m.any m.depth) x) (sym e); low = h.low }

pub halts : (m : Machine) (p : Phase) (x : Sym) (r : Machine) → m.phase ≡ p → halt ≡ small_step (view (at_phase m p)) x → r ≡ stopped → Stepped m x r
halts m p x r e h f = by_phase m p x r e (stops (at_phase m p) x r f h)

-- Atom takes a first digit as Ready does
pub as_ready : (m : Machine) (a : ℕ) (r : Machine) → Stepped (at_phase m P.Ready) (dig a) r → Stepped (at_phase m P.Atom) (dig a) r
as_ready m a r h = record { seen = h.seen; low = h.low }

pub low_at : (m : Machine) (p : Phase) → m.phase ≡ p → Low m → Low_at p m.number
low_at m p e h = rw e at h.number

-- ---- bytes
pub to_kind : (m r : Machine) (b : ℕ) (x : Sym) → kind b ≡ x → Stepped m x r → Stepped m (kind b) r
to_kind m r b x e h = rw e h

module _ (b : ℕ) where
  pub is_blank : b ≡ 0x20 → kind b ≡ blank
  is_blank e = rw e refl

  pub is_h : b ≡ 0x48 → kind b ≡ let' 0
  is_h e = rw e refl

  pub is_l : b ≡ 0x4C → kind b ≡ let' 1
  is_l e = rw e refl

  pub is_m : b ≡ 0x4D → kind b ≡ let' 2
  is_m e = rw e refl

  pub is_open : b ≡ 0x28 → kind b ≡ open'
  is_open e = rw e refl

  pub is_close : b ≡ 0x29 → kind b ≡ close
  is_close e = rw e refl

  pub is_hat : b ≡ 0x5E → kind b ≡ hat
  is_hat e = rw e refl

  -- none of the bytes that stand alone
  pub record Other : Type 0 where
    pub no_blank : eqb b 0x20 ≡ false
    pub no_h : eqb b 0x48 ≡ false
    pub no_l : eqb b 0x4C ≡ false
    pub no_m : eqb b 0x4D ≡ false
    pub no_open : eqb b 0x28 ≡ false
    pub no_close : eqb b 0x29 ≡ false
    pub no_hat : eqb b 0x5E ≡ false

  other : Other → kind b ≡ cond (leb 0x30 b && leb b 0x39) (dig (b - 0x30)) bad
  other o = simp (o.no_blank, o.no_h, o.no_l, o.no_m, o.no_open, o.no_close, o.no_hat)

  pub below : Other → b < 0x30 → kind b ≡ bad
  below o h = other o ∙ simp (lt-leb _ _ h)

  pub above : Other → 0x30 ≤ b → 0x39 < b → kind b ≡ bad
  above o h k = other o ∙ simp (le-leb _ _ h, lt-leb _ _ k)

  pub is_digit : Other → 0x30 ≤ b → b ≤ 0x39 → kind b ≡ dig (b - 0x30)
  is_digit o h k = other o ∙ simp (le-leb _ _ h, le-leb _ _ k)

pub bad_stops : (m r : Machine) → r ≡ stopped → Stepped m bad r
bad_stops m r e = stops m bad r e (seen m.phase m.number m.any m.depth)
  where
    seen : (p : Phase) (n : ℕ) (any : Bool) (d : ℕ) → halt ≡ small_step (view_at p n any d) bad
    seen P.Stop n any d = refl
    seen P.Ready n any d = refl
    seen P.Atom n any d = refl
    seen P.Number1 n any d = refl
    seen P.Number2 n any d = refl
    seen P.Gap n any d = refl
    seen P.Caret n any d = refl
    seen P.Power1 n any d = refl
    seen P.Power2 n any d = refl

pub others : (b : ℕ) → (b ≡ 0x20 → ⊥) → (b ≡ 0x48 → ⊥) → (b ≡ 0x4C → ⊥) → (b ≡ 0x4D → ⊥) → (b ≡ 0x28 → ⊥) → (b ≡ 0x29 → ⊥) → (b ≡ 0x5E → ⊥) → Other b
others b s h l m o c p = record { no_blank = ne_eqb _ _ s; no_h = ne_eqb _ _ h; no_l = ne_eqb _ _ l; no_m = ne_eqb _ _ m; no_open = ne_eqb _ _ o; no_close = ne_eqb _ _ c; no_hat = ne_eqb _ _ p }

pub nine : (b : ℕ) → b ≤ 57 → b - 48 ≤ 9
nine b h = omega arith

-- ---- the end of the text
pub holds_none : (m : Machine) → m.depth ≡ 0 → not m.any ≡ true → false ≡ whole_in m
holds_none m e f = simp (eq-eqb _ _ e, not-true m.any f)

pub ends_whole : (m : Machine) (r : Bool) → m.depth ≡ 0 → not m.any ≡ false → r ≡ rests_in m.phase → r ≡ whole_in m
ends_whole m r e f g = simp (g, eq-eqb _ _ e, not-false m.any f)
