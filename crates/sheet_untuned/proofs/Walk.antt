-- Along the blocks of an admitted sheet: no kind 7 was seen so far. Assumes nothing.
use mathlib.Core.Path.{◌≡◌, refl, sym, ap, ◌∙◌}
use mathlib.Core.List.{List, [], ◌∷◌}
use Prim.Native.Nat.{ℕ, ◌-◌, ◌≤◌, ◌<◌}
use native.Mathlib.Omega.{arith}
use borrow.Author.Tests.{eq-eqb, ne_eqb, lt-ltb}
use Rattle.refusal.specs.Outcome.{answer, refusal}
use Rattle.sheet.specs.Words.{word, count, kind}
use Rattle.sheet.specs.Blocks.{Block, starts}
use Rattle.sheet.specs.Sheet.{Sheet, blocks, places}
use Rattle.sheet.specs.Internal.{next_place}
use Rattle.sheet.proofs.Stands.{Stands, Standing, inside, word_here, next_is, next_stands, ends_here}
use Rattle.sheet_untuned.specs.Untuned.{no_tuning}
use Rattle.sheet_untuned.specs.Internal.{Looked}

next_later : (src : List ℕ) (at : ℕ) → at < count src → at < next_place src at
unfolding next_place
next_later src at lt = rw (lt-ltb at (count src) lt) (omega arith)

pub less_left : (src : List ℕ) (at q : ℕ) → at < count src → q ≡ next_place src at → count src - q < count src - at
less_left src at q lt e = omega (arith, next_later src at lt)

-- the blocks that are left from a place on have the first kind 7 that the whole sheet has
pub record Unseen (src : List ℕ) (x : Sheet) (at : ℕ) : Type 0 where
  pub left : List Block
  pub stands : Stands src at left
  pub same : no_tuning x (starts at left) left ≡ no_tuning x (places x) (blocks x)

pub unseen_first : (src : List ℕ) (x : Sheet) → Standing src x → Unseen src x 0
unseen_first src x h = record { left = blocks x; stands = h.stands; same = refl }

module _ (src : List ℕ) (x : Sheet) (at : ℕ) where
  on : (bs : List Block) → Stands src at bs → no_tuning x (starts at bs) bs ≡ no_tuning x (places x) (blocks x) → at < count src → (kind (word src at) ≡ 7 → ⊥) → Unseen src x (next_place src at)
  unfolding no_tuning starts
  on [] s e lt k = absurd (omega (arith, ends_here src at s))
  on (b ∷ bs) s e lt k =
      let w = word_here src at b bs s in
      record {
        left = bs;
        stands = next_stands src at b bs s;
        same = rw (next_is src at b bs s) (rw (ne_eqb (kind b.word) 7 (λ q. k (ap kind w ∙ q))) at e);
      }

  pub unseen_on : Unseen src x at → at < count src → (kind (word src at) ≡ 7 → ⊥) → Unseen src x (next_place src at)
  unseen_on u lt k = on u.left u.stands u.same lt k

  seen : (bs : List Block) → Stands src at bs → no_tuning x (starts at bs) bs ≡ no_tuning x (places x) (blocks x) → at < count src → kind (word src at) ≡ 7 → no_tuning x (places x) (blocks x) ≡ refusal 12 at
  unfolding no_tuning starts
  seen [] s e lt k = absurd (omega (arith, ends_here src at s))
  seen (b ∷ bs) s e lt k = sym (rw (eq-eqb (kind b.word) 7 (ap kind (sym (word_here src at b bs s)) ∙ k)) at e)

  pub seen_here : Unseen src x at → at < count src → kind (word src at) ≡ 7 → Looked src x at
  seen_here u lt k = record { found = λ l. seen u.left u.stands u.same lt k; none = λ l. absurd (omega arith) }

  ended : (bs : List Block) → Stands src at bs → no_tuning x (starts at bs) bs ≡ no_tuning x (places x) (blocks x) → count src ≤ at → no_tuning x (places x) (blocks x) ≡ answer x
  unfolding no_tuning
  ended [] s e le = sym e
  ended (b ∷ bs) s e le = absurd (omega (arith, inside src at b bs s))

  pub none_seen : Unseen src x at → count src ≤ at → Looked src x at
  none_seen u le = record { found = λ l. absurd (omega arith); none = λ l. ended u.left u.stands u.same le }
