-- `sheet_edition_1::put_block` meets its contract. The loop's invariant: the first j words are written. Assumes nothing.
use mathlib.Core.Path.{◌≡◌, refl, sym, ap, ◌∙◌}
use mathlib.Core.List.{List, [], ◌∷◌}
use Prim.Native.Nat.{ℕ, ◌+◌, ◌*◌, ◌≤◌, ◌<◌}
use native.Mathlib.Omega.{arith}
use lib.ListN.{length, get_or}
use lib.Seq.{sets, length-sets, take_all}
use lib.Ieee.{Float}
use Rattle.sheet.specs.Words.{count}
use Rattle.sheet.specs.Sheet.{bytes}
use Rattle.sheet.specs.Internal.{next_place}
use Rattle.sheet_edition_1.specs.Internal.{new_size, new_words}
use Rattle.sheet_edition_1.proofs.Stores.{word_then}
use Rattle.sheet_edition_1.proofs.NewBlocks.{new_length}
use Rattle.sheet_edition_1.proofs.put_block.Invariants.{Half}
use Rattle.sheet_edition_1.proofs.put_block.Goals as goal

module _ (w : Float) (src : List ℕ) (at to : ℕ) (output₀ : List ℕ) (inside : next_place src at ≤ count src) (room : 4 * (to + new_size src at) ≤ length output₀) (n : ℕ) (n_is : n ≡ new_size src at) where
  abbrev ws : List ℕ
  ws = new_words w src at

  long : length ws ≡ n
  long = new_length w src at inside ∙ sym n_is

  begun : Half ws output₀ output₀ to 0
  unfolding bytes
  begun = record { long = refl; wrote = refl }

  module _ (output : List ℕ) (j : ℕ) (h : Half ws output₀ output to j) where
    left : j < n → j < length ws
    left lt = omega (arith, long)

    has_room : j < n → 4 * (to + j) + 4 ≤ length output
    has_room lt = omega (arith, h.long)

    further : j < n → (v : ℕ) → v ≡ get_or ws j 0 → (next : List ℕ) → next ≡ sets output (4 * (to + j)) (bytes (v ∷ [])) → Half ws output₀ next to (j + 1)
    further lt v e next is = record {
      long = ap length is ∙ length-sets output (4 * (to + j)) (bytes (v ∷ [])) ∙ h.long;
      wrote = is ∙ word_then output₀ to ws j (left lt) v e output h.wrote;
    }

    all : j ≡ n → output ≡ sets output₀ (4 * to) (bytes ws)
    all e = h.wrote ∙ ap (λ (z : List ℕ). sets output₀ (4 * to) (bytes z)) (take_all j ws (omega (arith, long)))

pub loop-j-init : goal.loop-j-init
loop-j-init c = begun _ _ _ _ _ c.requires.0 c.requires.1 _ c.new_size-n.ensures

pub overflow_add-to : goal.overflow_add-to
overflow_add-to c = record { fits = omega (arith, has_room _ _ _ _ _ c.requires.0 c.requires.1 _ c.new_size-n.ensures _ _ c.loop-j.invariant c.loop-j-test.true) }

pub new_word-requires : goal.new_word-requires
new_word-requires c = left _ _ _ _ _ c.requires.0 c.requires.1 _ c.new_size-n.ensures _ _ c.loop-j.invariant c.loop-j-test.true

pub put_word-requires : goal.put_word-requires
put_word-requires c = has_room _ _ _ _ _ c.requires.0 c.requires.1 _ c.new_size-n.ensures _ _ c.loop-j.invariant c.loop-j-test.true

pub loop-j-preserved : goal.loop-j-preserved
loop-j-preserved c = further _ _ _ _ _ c.requires.0 c.requires.1 _ c.new_size-n.ensures _ _ c.loop-j.invariant c.loop-j-test.true _ c.new_word.ensures _ c.put_word.ensures

pub overflow_add-result : goal.overflow_add-result
overflow_add-result c = record { fits = omega (arith, c.new_size-n.ensures, c.requires.1) }

pub shape_of-output : goal.shape_of-output
shape_of-output c = c.loop-j.invariant.long

pub returns : goal.returns
returns c = (all _ _ _ _ _ c.requires.0 c.requires.1 _ c.new_size-n.ensures _ _ c.loop-j.invariant (omega arith), ap (λ (k : ℕ). c.args.to + k) c.new_size-n.ensures)
