-- Where the response of the real way is known, it is that of section 4. Assumes nothing.
use mathlib.Core.Path.{◌≡◌, refl, sym, ap, ◌∙◌, subst}
use mathlib.Core.Bool.{Bool, true, false, ◌&&◌, cond}
use mathlib.Core.List.{List}
use lib.Dec.{T}
use lib.Ieee.{Float}
use lib.Ieee.Fits.{and_l, and_r}
use lib.Ieee.Scale.{finite}
use Rattle.ieee.specs.Operators.{◌⊕◌}
use Rattle.ieee.proofs.Signs.{of_true}
use Rattle.thin_film_complex.specs.declared.Complex.{Complex}
use Rattle.thin_film_complex.specs.Complex.{real, ◌⊠◌, ◌⧄◌}
use Rattle.thin_film_matrix.specs.Matrix.{Matrix, identity}
use Rattle.thin_film_solver.specs.declared.ThinFilmLayer.{ThinFilmLayer}
use Rattle.thin_film_solver.specs.declared.Incidence.{Incidence}
use Rattle.thin_film_solver.specs.declared.CoatingResponse.{CoatingResponse}
use Rattle.thin_film_solver.specs.declared.Polarized.{Polarized}
use Rattle.thin_film_solver.specs.Solve.{eta0_s, eta0_p, product_s, product_p, solve, respond, no_response}
use Rattle.thin_film_solver.specs.Internal as Internal
use Rattle.thin_film_solver.specs.Internal.{onward, solved}
use Rattle.thin_film_real.proofs.Keeps.{Fine, add_back}
use Rattle.surface_real.specs.declared.Shares.{Shares}
use Rattle.surface_real.specs.declared.Stack.{Stack}
use Rattle.surface_real.specs.Internal.{power, no_films, stacked}
use Rattle.surface_real.proofs.Back.{real_part_back, real_part_is}
use Rattle.surface_real.proofs.Products.{For}
use Rattle.surface_real.proofs.Whole as R
use Rattle.response_real.specs.declared.Amplitudes.{Amplitudes}
use Rattle.response_real.specs.declared.Known.{Known}
use Rattle.response_real.specs.Internal.{amplitudes, no_zero, plain, certain, polarized, known_of, finish, real_response, RealResponse}
use Rattle.response_real.proofs.Parts.{shares_are, solves}

-- what is known is certain
known_back : (b : Bool) (x : CoatingResponse) → (cond {A = Known} b (record { known = true; response = x }) (record { known = false; response = no_response })).known ≡ true
    → T b × ((cond {A = Known} b (record { known = true; response = x }) (record { known = false; response = no_response })).response ≡ x)
known_back true x e = (tt, refl)
known_back false x e = absurd (subst (λ (b : Bool). T b) (sym e) tt)

module _ (i : Incidence) (layers : List ThinFilmLayer) where
  abbrev s : Amplitudes
  s = amplitudes (R.k i layers).s (R.e0_s i layers) (R.e_s i layers)

  abbrev p : Amplitudes
  p = amplitudes (R.k i layers).p (R.e0_p i layers) (R.e_p i layers)

  abbrev ms : Matrix
  ms = product_s i.snell i.wavelength_nm identity layers

  abbrev mp : Matrix
  mp = product_p i.snell i.wavelength_nm identity layers

  module _ (t : T (certain s p)) where
    abbrev total : Float
    total = (s.shares.r ⊕ s.shares.t) ⊕ (p.shares.r ⊕ p.shares.t)

    sum : Fine total
    unfolding certain
    sum = record { fine = and_l (finite total) (plain s && plain p) t }

    both : T (plain s && plain p)
    unfolding certain
    both = and_r (finite total) (plain s && plain p) t

    of_s : Fine s.shares.r × Fine s.shares.t
    of_s = add_back s.shares.r s.shares.t (add_back (s.shares.r ⊕ s.shares.t) (p.shares.r ⊕ p.shares.t) sum).0

    of_p : Fine p.shares.r × Fine p.shares.t
    of_p = add_back p.shares.r p.shares.t (add_back (s.shares.r ⊕ s.shares.t) (p.shares.r ⊕ p.shares.t) sum).1

    rs : Fine (R.s i layers).r
    rs = subst (λ (z : Shares). Fine z.r) (shares_are _ _ _) of_s.0

    ts : Fine (R.s i layers).t
    ts = subst (λ (z : Shares). Fine z.t) (shares_are _ _ _) of_s.1

    rp : Fine (R.p i layers).r
    rp = subst (λ (z : Shares). Fine z.r) (shares_are _ _ _) of_p.0

    tp : Fine (R.p i layers).t
    tp = subst (λ (z : Shares). Fine z.t) (shares_are _ _ _) of_p.1

    abbrev es : Complex
    es = R.n_sub i layers ⊠ real (R.cos i layers)

    abbrev ep : Complex
    ep = R.n_sub i layers ⧄ real (R.cos i layers)

    s_is : polarized s ≡ solve ms (real (R.e0_s i layers)) es
    unfolding plain
    s_is =
        let z = and_l (plain s) (plain p) both in
        let f = R.fine_s i layers rs ts rp tp in
        solves _ _ _ ms rs ts (R.both i layers rs ts rp tp).s es (real_part_back es f) (sym (real_part_is es f)) (and_l (no_zero s.r) (no_zero s.t) z) (and_r (no_zero s.r) (no_zero s.t) z)

    p_is : polarized p ≡ solve mp (real (R.e0_p i layers)) ep
    unfolding plain
    p_is =
        let z = and_r (plain s) (plain p) both in
        let f = R.fine_p i layers rs ts rp tp in
        solves _ _ _ mp rp tp (R.both i layers rs ts rp tp).p ep (real_part_back ep f) (sym (real_part_is ep f)) (and_l (no_zero p.r) (no_zero p.t) z) (and_r (no_zero p.r) (no_zero p.t) z)

    same : respond (polarized s) (polarized p) ≡ solved i layers
    unfolding onward Internal.finish eta0_s eta0_p
    same =
        (λ k. respond (s_is k) (p_is k))
        ∙ (λ k. respond (solve ms (real (R.e0_s i layers)) (R.eta_s_is i layers rs ts rp tp k)) (solve mp (real (R.e0_p i layers)) (R.eta_p_is i layers rs ts rp tp k)))

  known : (real_response i layers).known ≡ true → (real_response i layers).response ≡ solved i layers
  unfolding finish known_of
  known e = let h = known_back (certain s p) (respond (polarized s) (polarized p)) e in h.1 ∙ same h.0

pub whole : RealResponse
whole i layers e = known i layers e

-- the same from the product of the films
pub known_stack : (light : Incidence) (ls : List ThinFilmLayer) (k : Stack) (q : Known) → k ≡ stacked light.snell light.wavelength_nm no_films ls → q ≡ finish light k
    → q.known ≡ true → q.response ≡ solved light ls
known_stack light ls k q k_is q-is e =
    let is : q ≡ real_response light ls = q-is ∙ ap (finish light) k_is in
    ap (λ (z : Known). z.response) is ∙ whole light ls (ap (λ (z : Known). z.known) (sym is) ∙ e)
