-- Along the blocks of an admitted sheet: what is left, what was counted and what was written. Assumes nothing.
use mathlib.Core.Path.{◌≡◌, refl, sym, ap, ◌∙◌}
use mathlib.Core.List.{List, [], ◌∷◌, ◌++◌, append_assoc, append-nil}
use Prim.Native.Nat.{ℕ, ◌+◌, ◌*◌, ◌≤◌, ◌<◌}
use native.Mathlib.Omega.{arith}
use lib.ListN.{length, drop, length-append}
use lib.Seq.{sets}
use lib.Ieee.{Float}
use Rattle.sheet.specs.Words.{count}
use Rattle.sheet.specs.Blocks.{Block, flat}
use Rattle.sheet.specs.Sheet.{Sheet, bytes, blocks, words, encode}
use Rattle.sheet.specs.Internal.{next_place}
use Rattle.sheet.proofs.WordBytes.{length_bytes}
use Rattle.sheet.proofs.Stands.{Stands, Standing, inside, next_stands, ends_here}
use Rattle.sheet_values.specs.Values.{value}
use Rattle.sheet_edition_1.specs.Edition.{translated}
use Rattle.sheet_edition_1.specs.Internal.{new_size, new_words}
use Rattle.sheet_edition_1.proofs.Stores.{words_then, front}
use Rattle.sheet_edition_1.proofs.NewBlocks.{new_blocks, new_sheet, next_inside, next_after, words_here, size_here}

-- ---- the words of the new sheet
abbrev pub all : Sheet → List ℕ
all x = words (translated x)

-- so many words are done, and what is left gives the rest
pub record Half (src : List ℕ) (x : Sheet) (at to : ℕ) : Type 0 where
  pub left : List Block
  pub stands : Stands src at left
  pub done : List ℕ
  pub counts : length done ≡ to
  pub fills : done ++ flat (new_blocks (value x.wavelength) left) ≡ all x

pub half_first : (src : List ℕ) (x : Sheet) → Standing src x → Half src x 0 0
half_first src x h = record { left = blocks x; stands = h.stands; done = []; counts = refl; fills = ap flat (new_sheet x h.formed) }

-- one block on
pub record OneOn (src : List ℕ) (x : Sheet) (at to : ℕ) (h : Half src x at to) : Type 0 where
  pub inside : next_place src at ≤ count src
  pub after : at < next_place src at
  pub size : length (new_words (value x.wavelength) src at) ≡ new_size src at
  pub room : to + new_size src at ≤ length (all x)
  pub next : Half src x (next_place src at) (to + new_size src at)
  pub done : next.done ≡ h.done ++ new_words (value x.wavelength) src at

module _ (src : List ℕ) (x : Sheet) (at to : ℕ) (lt : at < count src) where
  by : (bs : List Block) (s : Stands src at bs) (ws : List ℕ) (c : length ws ≡ to) (f : ws ++ flat (new_blocks (value x.wavelength) bs) ≡ all x) → OneOn src x at to record { left = bs; stands = s; done = ws; counts = c; fills = f }
  unfolding flat
  by [] s ws c f = absurd (omega (arith, ends_here src at s))
  by (b ∷ bs) s ws c f =
      let w = value x.wavelength in
      let here = words_here src at b bs s w in
      let new = new_words w src at in
      let rest = flat (new_blocks w bs) in
      let long : length new ≡ new_size src at = ap length here ∙ sym (size_here src at b bs s w) in
      let fills : (ws ++ new) ++ rest ≡ all x = append_assoc ws new rest ∙ ap (λ (z : List ℕ). ws ++ (z ++ rest)) here ∙ f in
      record {
        inside = next_inside src at b bs s;
        after = next_after src at b bs s;
        size = long;
        room = omega (arith, ap length fills, length-append (ws ++ new) rest, length-append ws new);
        next = record { left = bs; stands = next_stands src at b bs s; done = ws ++ new; counts = length-append ws new ∙ omega arith; fills = fills };
        done = refl;
      }

  pub one_on : (h : Half src x at to) → OneOn src x at to h
  one_on h = by h.left h.stands h.done h.counts h.fills

-- past the last word nothing is left
complete : (src : List ℕ) (x : Sheet) (at to : ℕ) (h : Half src x at to) → count src ≤ at → h.done ≡ all x
unfolding flat
complete src x at to h le = by h.left h.stands h.fills
  where
    by : (bs : List Block) → Stands src at bs → h.done ++ flat (new_blocks (value x.wavelength) bs) ≡ all x → h.done ≡ all x
    by [] s f = sym (append-nil h.done) ∙ f
    by (b ∷ bs) s f = absurd (omega (arith, inside src at b bs s))

-- ---- what is written
pub record Wrote (src output₀ output : List ℕ) (x : Sheet) (at to : ℕ) : Type 0 where
  pub half : Half src x at to
  pub wrote : output ≡ sets output₀ 0 (bytes half.done)

pub wrote_first : (src output : List ℕ) (x : Sheet) → Standing src x → Wrote src output output x 0 0
unfolding bytes half_first
wrote_first src output x h = record { half = half_first src x h; wrote = refl }

module _ (src output₀ output : List ℕ) (x : Sheet) (at to : ℕ) (h : Wrote src output₀ output x at to) where
  pub wrote_on : at < count src → (v : Float) → v ≡ value x.wavelength → (next : List ℕ) → next ≡ sets output (4 * to) (bytes (new_words v src at)) → (on : ℕ) → on ≡ to + new_size src at → (q : ℕ) → q ≡ next_place src at
      → Wrote src output₀ next x q on
  wrote_on lt v v-is next is on on-is q q-is =
      let o = one_on src x at to lt h.half in
      let new = new_words (value x.wavelength) src at in
      rw (q-is, on-is) record {
        half = o.next;
        wrote =
            is
            ∙ (λ i. sets (h.wrote i) (4 * to) (bytes (new_words (v-is i) src at)))
            ∙ words_then output₀ 0 h.half.done new to (omega (arith, h.half.counts))
            ∙ ap (λ (z : List ℕ). sets output₀ 0 (bytes z)) (sym o.done);
      }

  pub wrote_all : count src ≤ at → length (encode (translated x)) ≤ length output₀ → output ≡ encode (translated x) ++ drop (length (encode (translated x))) output₀
  unfolding encode
  wrote_all le room =
      let e = complete src x at to h.half le in
      h.wrote ∙ ap (λ (z : List ℕ). sets output₀ 0 (bytes z)) e ∙ front output₀ (all x) room

-- ---- what is counted
pub counted_all : (src : List ℕ) (x : Sheet) (at n : ℕ) → Half src x at n → count src ≤ at → 4 * n ≡ length (encode (translated x))
unfolding encode
counted_all src x at n h le = omega (arith, h.counts, ap length (complete src x at n h le), length_bytes (all x))
