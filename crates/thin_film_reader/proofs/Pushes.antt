-- What the functions over the films so far give. Assumes nothing.
use mathlib.Core.Path.{◌≡◌, refl, sym, ap, ◌∙◌, subst}
use mathlib.Core.Bool.{Bool, true, false, not, cond}
use Prim.Native.Nat.{ℕ, zero, suc, ◌+◌, ◌*◌, ◌-◌, ◌≤◌, ◌<◌}
use native.Mathlib.Nat.{mul-le-mul}
use native.Mathlib.Omega.{arith}
use lib.Dec.{ltb, eqb}
use lib.ListN.{get_or, set}
use borrow.Author.Tests.{lt-ltb, le-ltb, ltb-true, le-leb, lt-leb, ne_eqb}
use Rattle.thin_film_grammar.specs.declared.Film.{Film}
use Rattle.thin_film_grammar.specs.Grammar.{Sym, kind, blank, dig, open', close, hat, bad}
use Rattle.thin_film_grammar.specs.InternalMachine as M
use Rattle.thin_film_reader.specs.declared.machine.Phase.{Phase}
use Rattle.thin_film_reader.specs.declared.machine.Phase.TheVariants as P
use Rattle.thin_film_reader.specs.declared.machine.Machine.{Machine}
use Rattle.thin_film_reader.specs.declared.films.Films.{Films}
use Rattle.thin_film_reader.specs.InternalMachine.{Small, halt, small_step, view_at, view, rests_in, Low_at, Low}
use Rattle.thin_film_reader.specs.InternalFilms.{no_film, over, pushed, again, repeated, phase_of, numbered, multiplier_in, copies_in, taken, Safe, Goes}
use Rattle.thin_film_reader.proofs.Steps.{opening_is, closing_is, is_open, is_close, is_digit, others}

abbrev fitted : Films → Film → Films
fitted f x = record { items = set f.items f.count x; count = f.count + 1; unit = f.unit; opened = f.opened }

pub push_over : (f : Films) (x : Film) → 64 ≤ f.count → over f ≡ pushed f x
push_over f x h = simp (le-ltb _ _ h)

pub push_fits : (f : Films) (x : Film) → f.count < 64 → fitted f x ≡ pushed f x
push_fits f x h = simp (lt-ltb _ _ h)

pub stays_over : (f : Films) (n : ℕ) → repeated (over f) n ≡ over f
unfolding repeated
stays_over f zero = refl
stays_over f (suc n) = stays_over f n

pub one_turn : (f : Films) (left : ℕ) → 0 < left → repeated f left ≡ repeated (pushed f (again f)) (left - 1)
unfolding repeated
one_turn f zero h = absurd (omega arith)
one_turn f (suc n) h = let e : n ≡ suc n - 1 = omega arith in ap (repeated (pushed f (again f))) e

pub no_turn : (f : Films) (left : ℕ) → left ≤ 0 → repeated f left ≡ f
unfolding repeated
no_turn f zero h = refl
no_turn f (suc n) h = absurd (omega arith)

pub turn_over : (f : Films) (left : ℕ) → 0 < left → 64 ≤ f.count → over f ≡ repeated f left
turn_over f left h k = sym (one_turn f left h ∙ ap (λ (g : Films). repeated g (left - 1)) (sym (push_over f (again f) k)) ∙ stays_over f (left - 1))

pub unit_within : (f r : Films) (x : Film) → f.count < 64 → r ≡ pushed f x → f.unit ≤ f.count → r.unit ≤ r.count
unit_within f r x h e k = rw (e, ← (push_fits f x h)) (omega arith)

-- ---- the multiplier, and the copies that a digit adds
pub no_multiplier : (p : Phase) (n : ℕ) → numbered p ≡ false → 0 ≡ multiplier_in (phase_of p n)
no_multiplier P.Stop n e = refl
no_multiplier P.Ready n e = refl
no_multiplier P.Atom n e = refl
no_multiplier P.Number1 n e = let z : ◌≡◌ {A = Bool} true false = e in cc
no_multiplier P.Number2 n e = cc
no_multiplier P.Gap n e = cc
no_multiplier P.Caret n e = refl
no_multiplier P.Power1 n e = refl
no_multiplier P.Power2 n e = refl

pub a_multiplier : (p : Phase) (n : ℕ) → numbered p ≡ true → n ≡ multiplier_in (phase_of p n)
a_multiplier P.Stop n e = cc
a_multiplier P.Ready n e = cc
a_multiplier P.Atom n e = cc
a_multiplier P.Number1 n e = refl
a_multiplier P.Number2 n e = refl
a_multiplier P.Gap n e = refl
a_multiplier P.Caret n e = cc
a_multiplier P.Power1 n e = cc
a_multiplier P.Power2 n e = cc

pub at_caret : (p : Phase) (n a r : ℕ) → p ≡ P.Caret → r ≡ a - 1 → r ≡ copies_in (phase_of p n) a
at_caret p n a r e h = rw e h

pub at_power : (p : Phase) (n a r : ℕ) → p ≡ P.Power1 → r ≡ 9 * n + a → r ≡ copies_in (phase_of p n) a
at_power p n a r e h = rw e h

few : (p : Phase) (n a : ℕ) → Low_at p n → a ≤ 9 → copies_in (phase_of p n) a ≤ 90
few P.Stop n a h k = omega arith
few P.Ready n a h k = omega arith
few P.Atom n a h k = omega arith
few P.Number1 n a h k = omega arith
few P.Number2 n a h k = omega arith
few P.Gap n a h k = omega arith
few P.Caret n a h k = omega arith
few P.Power1 n a h k = omega arith
few P.Power2 n a h k = omega arith

pub few_more : (f : Films) (m : Machine) (a r : ℕ) → r ≡ copies_in (phase_of m.phase m.number) a → Safe f → Low m → a ≤ 9 → r * f.unit ≤ 5850
few_more f m a r e s l h =
    let u : f.unit ≤ 65 = omega (arith, s.unit, s.few) in
    let k : r ≤ 90 = rw e (few m.phase m.number a l.number h) in
    mul-le-mul k u

-- ---- by the byte
pub as_kind : (f r : Films) (p : M.Phase) (d b : ℕ) (x : Sym) → kind b ≡ x → r ≡ taken f p d x → r ≡ taken f p d (kind b)
as_kind f r p d b x e h = h ∙ ap (taken f p d) (sym e)

either_way : (f : Films) (p : M.Phase) (d : ℕ) (z : Bool) (x : Sym) → f ≡ taken f p d x → f ≡ taken f p d (cond z x bad)
either_way f p d true x h = h
either_way f p d false x h = refl

pub low_byte : (f : Films) (p : M.Phase) (d b : ℕ) → b < 0x30 → (b ≡ 0x28 → ⊥) → (b ≡ 0x29 → ⊥) → f ≡ taken f p d (kind b)
low_byte f p d b h o c =
    let e : kind b ≡ cond (eqb b 0x20) blank bad = simp (ne_eqb b 0x48 (λ e. omega arith), ne_eqb b 0x4C (λ e. omega arith), ne_eqb b 0x4D (λ e. omega arith), ne_eqb b 0x28 o, ne_eqb b 0x29 c, ne_eqb b 0x5E (λ e. omega arith), lt-leb 0x30 b h) in
    either_way f p d (eqb b 0x20) blank refl ∙ ap (taken f p d) (sym e)

pub high_byte : (f : Films) (p : M.Phase) (d b : ℕ) → 0x39 < b → (b ≡ 0x48 → ⊥) → (b ≡ 0x4C → ⊥) → (b ≡ 0x4D → ⊥) → f ≡ taken f p d (kind b)
high_byte f p d b h x l m =
    let e : kind b ≡ cond (eqb b 0x5E) hat bad = simp (ne_eqb b 0x20 (λ e. omega arith), ne_eqb b 0x48 x, ne_eqb b 0x4C l, ne_eqb b 0x4D m, ne_eqb b 0x28 (λ e. omega arith), ne_eqb b 0x29 (λ e. omega arith), le-leb 0x30 b (omega arith), lt-leb b 0x39 h) in
    either_way f p d (eqb b 0x5E) hat refl ∙ ap (taken f p d) (sym e)

pub digit_byte : (b : ℕ) → 0x30 ≤ b → b ≤ 0x39 → kind b ≡ dig (b - 0x30)
digit_byte b h k = is_digit b (others b (λ e. omega arith) (λ e. omega arith) (λ e. omega arith) (λ e. omega arith) (λ e. omega arith) (λ e. omega arith) (λ e. omega arith)) h k

-- ---- a bracket that does not stop the machine
pub room : (m : Machine) → (small_step (view m) open' ≡ halt → ⊥) → m.depth < 4
room m h = go (ltb m.depth 4) refl
  where
    never : (b : Bool) → cond b halt halt ≡ halt
    never true = refl
    never false = refl

    go : (z : Bool) → ltb m.depth 4 ≡ z → m.depth < 4
    go true e = ltb-true _ _ e
    go false e = absurd (h (opening_is m ∙ rw e (never (rests_in m.phase))))

pub some_open : (m : Machine) → (small_step (view m) close ≡ halt → ⊥) → 0 < m.depth
some_open m h = go (ltb 0 m.depth) refl
  where
    never : (b : Bool) → cond b halt halt ≡ halt
    never true = refl
    never false = refl

    go : (z : Bool) → ltb 0 m.depth ≡ z → 0 < m.depth
    go true e = ltb-true _ _ e
    go false e = absurd (h (closing_is m ∙ rw e (never (rests_in m.phase))))

pub opens_within : (m : Machine) (b : ℕ) → b ≡ 0x28 → Goes m (kind b) → m.depth < 4
opens_within m b e g = room m (λ h. g.goes (ap (small_step (view m)) (is_open b e) ∙ h))

pub closes_one : (m : Machine) (b : ℕ) → b ≡ 0x29 → Goes m (kind b) → 0 < m.depth
closes_one m b e g = some_open m (λ h. g.goes (ap (small_step (view m)) (is_close b e) ∙ h))
