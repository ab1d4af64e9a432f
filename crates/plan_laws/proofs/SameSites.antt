-- A place whose box, with the boxes around it, is the same in two configurations.
use Rattle.std.proofs.Common.{◌≡◌, List, [], ◌∷◌, ◌++◌, map, Some, refl, sym, ◌∙◌, ap, subst}
use Rattle.std.specs.Prelude.{option_map}
use Rattle.akl_terms.specs.declared.name.Name.{Name}
use Rattle.akl_terms.specs.declared.name.Var.{Var}
use Rattle.akl_terms.specs.declared.name.Place.{Place}
use Rattle.akl_terms.specs.Tree.{variable}
use Rattle.akl_terms.specs.Equal.{Equations, Equal}
use Rattle.akl_model.specs.Config.{IsIn, Content, Config, Found, equations_of, whole, box_at, site_of}
use Rattle.akl_model.specs.Wakes.{boxes_around, IsAt, names_around, names_down_to}
use Rattle.akl_model.proofs.Options.{some_value}
use Rattle.akl_model.proofs.NamesKept.{box-itself, site-box}
use Rattle.constraint_laws.specs.Oldest.{IsOldest}
use Rattle.step_laws.specs.Stays.{IsSameBox}
use Rattle.plan_laws.specs.Sleeps.{IsOutermostAt, IsAliasAt}
use Rattle.plan_laws.proofs.InScope.{Good}
use Rattle.plan_laws.proofs.DownTo.{is_down, down_to, path_to, begins_path}
use Rattle.plan_laws.proofs.Nearest.{on_path}
use Rattle.plan_laws.specs.Waits.{IsScopedAt, HasOldestAt}

pub record HasSameSite (c d : Config) (place : Place) : Type 0 where
  pub before : Found
  pub afterwards : Found
  pub was : site_of place c.roots ≡ Some before
  pub is : site_of place d.roots ≡ Some afterwards
  pub same : IsSameBox before afterwards

pub turned_site : {c d : Config} {place : Place} → HasSameSite c d place → HasSameSite d c place
turned_site s = record { before = s.afterwards; afterwards = s.before; was = s.is; is = s.was; same = record { around = sym s.same.around; content = sym s.same.content } }

pub whole_same : (e f : Found) → IsSameBox e f → whole e ≡ whole f
whole_same e f s = λ i. equations_of (s.around i) ++ (s.content i).equations

-- the same boxes stand around it
pub boxes_same : (c d : Config) (place : Place) → HasSameSite c d place → boxes_around place c.roots ≡ boxes_around place d.roots
boxes_same c d (Place.Goal g) s = ap (option_map names_down_to) s.was ∙ (λ i. Some (map (λ (b : Content). b.name) (s.same.around i) ++ (s.same.content i).name ∷ [])) ∙ sym (ap (option_map names_down_to) s.is)
boxes_same c d (Place.Box n) s = ap (option_map names_around) s.was ∙ (λ i. Some (map (λ (b : Content). b.name) (s.same.around i))) ∙ sym (ap (option_map names_around) s.is)

module _ (c d : Config) (w : Good c) (v : Good d) (place : Place) (s : HasSameSite c d place) where
  path : path_to (site_of place c.roots) ≡ s.afterwards.around ++ s.afterwards.content ∷ []
  path = ap path_to s.was ∙ (λ i. s.same.around i ++ s.same.content i ∷ [])

  names : names_down_to s.before ≡ names_down_to s.afterwards
  names = λ i. map (λ (b : Content). b.name) (s.same.around i) ++ (s.same.content i).name ∷ []

  at_same : (n : Name) → IsAt n c.roots place → IsAt n d.roots place
  at_same n h =
      let f : (f : Found) × (site_of place c.roots ≡ Some f) × IsIn n (names_down_to f) = down_to n c.roots place h in
      is_down n d.roots place s.afterwards s.is (subst (IsIn n) names (subst (λ (u : Found). IsIn n (names_down_to u)) (some_value (sym f.1 ∙ s.was)) f.2))

  -- each of these boxes is the same
  pub box_same : (n : Name) (m : Found) → IsAt n c.roots place → box_at n c.roots ≡ Some m → (u : Found) × (box_at n d.roots ≡ Some u) × IsSameBox m u
  box_same n m h e =
      let b : (rest : List Content) × (m.around ++ m.content ∷ rest ≡ path_to (site_of place c.roots)) = begins_path c w place n m h e in
      let u : (u : Found) × (box_at m.content.name d.roots ≡ Some u) × (u.around ≡ m.around) × (u.content ≡ m.content) =
      on_path s.afterwards.content.name d.roots s.afterwards v.stand.once (site-box place d.roots s.afterwards v.stand.once s.is) refl m.around m.content b.0 (sym (b.1 ∙ path)) in
      (u.0, subst (λ (k : Name). box_at k d.roots ≡ Some u.0) (sym (box-itself n c.roots m e)) u.1, record { around = sym u.2; content = sym u.3 })

  pub outermost_same : (o : Found) → IsOutermostAt c place o → (u : Found) × IsOutermostAt d place u × (whole o ≡ whole u)
  outermost_same o h =
      let u : (u : Found) × (box_at o.content.name d.roots ≡ Some u) × IsSameBox o u = box_same o.content.name o h.is_at h.is_found in
      let q : o.content.name ≡ u.0.content.name = ap (λ (b : Content). b.name) u.2.content in (
        u.0,
        record {
          is_found = subst (λ (n : Name). box_at n d.roots ≡ Some u.0) q u.1;
          is_root = sym u.2.around ∙ h.is_root;
          is_at = subst (λ (n : Name). IsAt n d.roots place) q (at_same o.content.name h.is_at);
        },
        whole_same o u.0 u.2,
      )

  -- so are the variables in scope, and those that are equal at the outermost box
  pub scoped_same : (x : Var) → IsScopedAt c place x → IsScopedAt d place x
  scoped_same x h =
      let u : (u : Found) × (box_at h.home.content.name d.roots ≡ Some u) × IsSameBox h.home u = box_same h.home.content.name h.home h.is_at h.is_found in
      let q : h.home.content.name ≡ u.0.content.name = ap (λ (b : Content). b.name) u.2.content in
      record {
        home = u.0;
        is_found = subst (λ (n : Name). box_at n d.roots ≡ Some u.0) q u.1;
        is_at = subst (λ (n : Name). IsAt n d.roots place) q (at_same h.home.content.name h.is_at);
        frame = subst (λ (b : Content). IsIn x.frame b.frames) u.2.content h.frame;
      }

  pub alias_same : (y x : Var) → IsAliasAt c place y x → IsAliasAt d place y x
  alias_same y x a =
      let u : (u : Found) × IsOutermostAt d place u × (whole a.outermost ≡ whole u) = outermost_same a.outermost a.is_outermost in
      record { outermost = u.0; is_outermost = u.1; equal = subst (λ (E : Equations). Equal E (variable y) (variable x)) u.2 a.equal }

pub oldest_same : (c d : Config) (w : Good c) (v : Good d) (place : Place) → HasSameSite c d place → (list : List Var) → HasOldestAt c place list → HasOldestAt d place list
oldest_same c d w v place s list h = record {
  each = λ o i x y m k.
      let u : (u : Found) × IsOutermostAt c place u × (whole o ≡ whole u) = outermost_same d c v w place (turned_site s) o i in
      h.each u.0 u.1 x y m (subst (λ (E : Equations). IsOldest E x y) u.2 k);
}
