-- `c_names::put_name` meets its contract. Assumes nothing.
use mathlib.Core.Path.{◌≡◌, refl, sym, ap, ◌∙◌}
use mathlib.Core.List.{List, ◌++◌}
use Prim.Native.Nat.{ℕ, ◌-◌, ◌≤◌}
use native.Mathlib.Omega.{arith}
use lib.ListN.{length, take, replicate, length-append}
use lib.Seq.{take_at, length-take-le}
use borrow.Author.Rules.{rules}
use Rattle.thin_film.specs.declared.Text.{Text}
use Rattle.thin_film.specs.Coating.{text}
use Rattle.name_coating.specs.Name.{format_name}
use Rattle.c_names.specs.Names.{laid}
use Rattle.c_names.proofs.Short.{Short, short}
use Rattle.c_names.proofs.put_name.Goals as goal

-- the name, which the text's first bytes are
module _ (name : List ℕ) (t : Text) (is : t ≡ text name) where
  name_is : take t.len t.bytes ≡ name
  name_is = simp is (take_at name (replicate (16 - length name) 0) (length name) refl)

  fits : t.len ≤ length t.bytes
  fits = simp is (simp length-append (omega arith))

  few : Short name → length (take t.len t.bytes) ≤ 16
  few h = rw name_is h

  size : t.len ≡ length (take t.len t.bytes)
  size = sym (length-take-le t.len t.bytes fits)

pub slice_bounds-bytes-end : goal.slice_bounds-bytes-end
slice_bounds-bytes-end c = fits (format_name c.args.coating) _ c.to_format_name-text.ensures

pub slice_bounds-put-end : goal.slice_bounds-put-end
slice_bounds-put-end c = size (format_name c.args.coating) _ c.to_format_name-text.ensures

pub put-requires : goal.put-requires
put-requires c = few (format_name c.args.coating) _ c.to_format_name-text.ensures (short c.args.coating)

pub returns : goal.returns
returns c =
    c.put.ensures
    ∙ ap (λ (l : List ℕ). laid l c.args.output.now)
    (name_is (format_name c.args.coating) _ c.to_format_name-text.ensures)
