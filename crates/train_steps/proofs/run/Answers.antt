-- `train_steps::run` meets its contract. Assumes nothing.
use mathlib.Core.Path.{◌≡◌, sym, ap, ◌∙◌, refl}
use Prim.Native.Nat.{ℕ, ◌*◌, ◌≤◌, ◌<◌}
use native.Mathlib.Omega.{arith}
use borrow.Author.Tests.{le-leb, lt-leb}
use mathlib.Core.List.{List, ◌++◌}
use lib.ListN.{length, drop}
use lib.Ieee.{Float}
use Rattle.std.proofs.lemmas.Result.{err_from_is_err_and}
use Rattle.refusal.specs.declared.Refusal.{Refusal}
use Rattle.refusal.specs.Outcome.{answer, refusal, refused, number_of, place_of}
use Rattle.sheet.specs.Sheet.{Sheet}
use Rattle.sheet.proofs.Stands.{Known}
use Rattle.gate.specs.Gate.{gated, gate}
use Rattle.gate.proofs.Admitted.{admitted, turned_back}
use Rattle.gate.proofs.Index.{result_is, read_back}
use Rattle.train_steps.specs.Train.{fresh, after_each, ran, run}
use Rattle.train_steps.proofs.run.Goals as goal

module _ (src : List ℕ) (list : List Float) where
  module _ (n : ℕ) (known : Known src) (e : answer n ≡ gate src) where
    too_short : length list < 2 * n → record { result = refusal 8 0; list = list } ≡ run src list
    unfolding run
    too_short h =
        let a = admitted src n known e in
        rw (a.is, lt-leb (2 * length a.sheet.surfaces) (length list) (omega (arith, a.counts)))

    whole : 2 * n ≤ length list → (out : List Float)
        → ((x : Sheet) → gated src ≡ answer x → length x.surfaces ≡ n → out ≡ after_each (fresh x) x.surfaces ++ drop (2 * n) list) → record { result = answer n; list = out } ≡ run src list
    unfolding run
    whole h out f =
        let a = admitted src n known e in
        let xs = a.sheet.surfaces in
        let o : out ≡ after_each (fresh a.sheet) xs ++ drop (2 * length xs) list =
        f a.sheet a.is a.counts ∙ ap (λ (k : ℕ). after_each (fresh a.sheet) xs ++ drop (2 * k) list) (sym a.counts)
        in
        rw (a.is, le-leb (2 * length xs) (length list) (omega (arith, a.counts)), a.counts) (λ i. record { result = answer n; list = rw a.counts at o i })

  not_run : (r : Refusal) → refused r ≡ gate src → record { result = refused r; list = list } ≡ run src list
  unfolding run
  not_run r e = sym (ap (ran list) (turned_back src (number_of r) (place_of r) e))

pub returns-then-list-n : goal.returns-then-list-n
returns-then-list-n c =
    too_short _ _ _ c.type_inv.src (result_is _ _ _ _ _ _ c.in_ok-count.ensures) c.if-list-n.true

pub write_each-requires : goal.write_each-requires
write_each-requires c =
    (c.if-list-n.false, read_back _ _ _ _ _ _ c.in_ok-count.ensures c.type_inv.src _ refl)

pub returns : goal.returns
returns c =
    whole _ _ _ c.type_inv.src (result_is _ _ _ _ _ _ c.in_ok-count.ensures) c.if-list-n.false _ c.write_each.ensures

pub returns-in_err-count : goal.returns-in_err-count
returns-in_err-count c =
    let p = err_from_is_err_and c.from_residual.result c.from_residual.ensures.1 in
    rw (p.1, p.2) (not_run _ _ _ (result_is _ _ _ _ _ _ c.in_err-count.ensures))
