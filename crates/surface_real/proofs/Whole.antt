-- Where the powers of the real way are known, they are those of section 4. Assumes nothing.
use mathlib.Core.Path.{◌≡◌, refl, sym, ap, ◌∙◌, subst}
use mathlib.Core.Bool.{true}
use mathlib.Core.List.{List}
use lib.Ieee.{Float, binary64, le}
use Rattle.ieee.specs.Operators.{◌⊕◌, ◌⊖◌, ◌⊗◌, ◌⊘◌}
use Rattle.ieee.specs.Functions.{zero_f, one, abs, max}
use Rattle.ieee.proofs.Signs.{of_true}
use Rattle.math_root.specs.Root.{square_root}
use Rattle.thin_film_complex.specs.declared.Complex.{Complex}
use Rattle.thin_film_complex.specs.Complex.{real, mul, ◌⊠◌, ◌⧄◌}
use Rattle.thin_film_matrix.specs.Matrix.{identity}
use Rattle.thin_film_solver.specs.declared.ThinFilmLayer.{ThinFilmLayer}
use Rattle.thin_film_solver.specs.declared.Incidence.{Incidence}
use Rattle.thin_film_solver.specs.Absorptance.{with_absorptance}
use Rattle.thin_film_solver.specs.Solve as Solve
use Rattle.thin_film_solver.specs.Solve.{least_cos, eta0_s, eta0_p, eta_sub_s, eta_sub_p, product_s, product_p, reflectance, transmittance, reflection, transmission, rust_respond, respond}
use Rattle.thin_film_solver.specs.Internal as Internal
use Rattle.thin_film_solver.specs.Internal.{onward, solved}
use Rattle.surface.specs.declared.Powers.{Powers}
use Rattle.surface.specs.Answers.{coated_powers}
use Rattle.thin_film_real.proofs.Keeps.{Fine, mul_back, add_back, sub_back}
use Rattle.surface_real.specs.declared.Stack.{Stack}
use Rattle.surface_real.specs.declared.Shares.{Shares}
use Rattle.surface_real.specs.declared.Known.{Known}
use Rattle.surface_real.specs.Internal.{real_part, cos_theta_sub, no_films, stacked, power, known_of, finish}
use Rattle.surface_real.specs.Internal.{real_powers, RealPowers}
use Rattle.surface_real.proofs.Back.{chosen, real_part_back, real_part_is}
use Rattle.surface_real.proofs.Products.{Fine-stack, Both-for, begun, through}
use Rattle.surface_real.proofs.Powers as P

four : {a b c d a' b' c' d' : Float} → a ≡ a' → b ≡ b' → c ≡ c' → d ≡ d'
    → ◌≡◌ {A = Powers} (record { reflectance_s = a; reflectance_p = b; transmittance_s = c; transmittance_p = d }) (record { reflectance_s = a'; reflectance_p = b'; transmittance_s = c'; transmittance_p = d' })
four e f g h = cc

module _ (i : Incidence) (layers : List ThinFilmLayer) where
  abbrev pub k : Stack
  k = stacked i.snell i.wavelength_nm no_films layers

  abbrev pub q : Float
  q = i.snell ⊘ i.n_substrate

  abbrev pub cos : Float
  cos = cos_theta_sub q

  abbrev pub n_sub : Complex
  n_sub = real i.n_substrate

  abbrev pub e0_s : Float
  e0_s = i.n_incident ⊗ i.cos_theta0

  abbrev pub e0_p : Float
  e0_p = i.n_incident ⊘ max i.cos_theta0 least_cos

  abbrev pub e_s : Float
  e_s = real_part (n_sub ⊠ real cos)

  abbrev pub e_p : Float
  e_p = real_part (n_sub ⧄ real cos)

  abbrev pub s : Shares
  s = power k.s e0_s e_s

  abbrev pub p : Shares
  p = power k.p e0_p e_p

  module _ (rs : Fine s.r) (ts : Fine s.t) (rp : Fine p.r) (tp : Fine p.t) where
    fine_stack : Fine-stack k
    fine_stack = record { s = P.finite k.s identity e0_s e_s rs ts; p = P.finite k.p identity e0_p e_p rp tp }

    pub both : Both-for k (product_s i.snell i.wavelength_nm identity layers) (product_p i.snell i.wavelength_nm identity layers)
    both = through i.snell i.wavelength_nm no_films identity identity layers fine_stack begun

    pub fine_s : Fine e_s
    fine_s = P.eta_fine k.s identity e0_s e_s rs ts

    pub fine_p : Fine e_p
    fine_p = P.eta_fine k.p identity e0_p e_p rp tp

    cos_fine : Fine cos
    unfolding mul real
    cos_fine = (mul_back i.n_substrate cos (sub_back (i.n_substrate ⊗ cos) (zero_f ⊗ zero_f) (subst Fine (real_part_is (n_sub ⊠ real cos) fine_s) fine_s)).0).1

    cos_is : Solve.cos_theta_sub q ≡ real cos
    unfolding Solve.cos_theta_sub cos_theta_sub
    cos_is = let h = chosen (le (abs q) one) (square_root binary64 (max (one ⊖ q ⊗ q) zero_f)) cos_fine in rw h.0 refl

    pub eta_s_is : n_sub ⊠ real cos ≡ eta_sub_s i.snell i.n_substrate
    unfolding eta_sub_s
    eta_s_is = ap (λ (z : Complex). n_sub ⊠ z) (sym cos_is)

    pub eta_p_is : n_sub ⧄ real cos ≡ eta_sub_p i.snell i.n_substrate
    unfolding eta_sub_p
    eta_p_is = ap (λ (z : Complex). n_sub ⧄ z) (sym cos_is)

    same : (finish i k).powers ≡ coated_powers (solved i layers)
    unfolding finish known_of coated_powers onward Internal.finish respond with_absorptance rust_respond Solve.solve eta0_s eta0_p
    same =
        let ms = product_s i.snell i.wavelength_nm identity layers in
        let mp = product_p i.snell i.wavelength_nm identity layers in
        let es = n_sub ⊠ real cos in
        let ep = n_sub ⧄ real cos in
        let ks = real_part_back es fine_s in
        let kp = real_part_back ep fine_p in
        let is = sym (real_part_is es fine_s) in
        let ip = sym (real_part_is ep fine_p) in
        four
        (P.reflects k.s ms e0_s e_s rs ts both.s es ks is ∙ ap (λ (z : Complex). reflectance (reflection ms (real e0_s) z)) eta_s_is)
        (P.reflects k.p mp e0_p e_p rp tp both.p ep kp ip ∙ ap (λ (z : Complex). reflectance (reflection mp (real e0_p) z)) eta_p_is)
        (P.transmits k.s ms e0_s e_s rs ts both.s es ks is ∙ ap (λ (z : Complex). transmittance (real e0_s) z (transmission ms (real e0_s) z)) eta_s_is)
        (P.transmits k.p mp e0_p e_p rp tp both.p ep kp ip ∙ ap (λ (z : Complex). transmittance (real e0_p) z (transmission mp (real e0_p) z)) eta_p_is)

  pub known : (real_powers i layers).known ≡ true → (real_powers i layers).powers ≡ coated_powers (solved i layers)
  unfolding finish known_of
  known e =
      let f = add_back (s.r ⊕ s.t) (p.r ⊕ p.t) (record { fine = of_true _ e }) in
      let g = add_back s.r s.t f.0 in
      let h = add_back p.r p.t f.1 in
      same g.0 g.1 h.0 h.1

pub whole : RealPowers
whole i layers e = known i layers e

-- the same from the product of the films
pub known_stack : (light : Incidence) (layers : List ThinFilmLayer) (k : Stack) (q : Known) → k ≡ stacked light.snell light.wavelength_nm no_films layers → q ≡ finish light k → q.known ≡ true
    → q.powers ≡ coated_powers (solved light layers)
known_stack light layers k q k_is q-is e =
    let is : q ≡ real_powers light layers = q-is ∙ ap (finish light) k_is in
    ap (λ (z : Known). z.powers) is ∙ whole light layers (ap (λ (z : Known). z.known) (sym is) ∙ e)
