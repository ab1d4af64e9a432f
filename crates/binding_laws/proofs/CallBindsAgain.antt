-- A call at once binds the same where it is made again in the same box.
use Rattle.std.proofs.Common.{◌≡◌, ℕ, List, ◌++◌, Some, sym, ap, subst, ◌∙◌}
use Rattle.akl_terms.specs.declared.name.Name.{Name}
use Rattle.akl_terms.specs.declared.name.Var.{Var}
use Rattle.akl_terms.specs.declared.program.Program.{Program}
use Rattle.akl_terms.specs.Tree.{variable}
use Rattle.akl_terms.specs.Equal.{Equations, Equal, IsConsistent}
use Rattle.constraint_laws.specs.Bound.{IsNewlyBound}
use Rattle.constraint_laws.specs.Oldest.{HasOldest}
use Rattle.constraint_laws.specs.Touched.{IsAmong}
use Rattle.akl_model.specs.declared.label.Rule.{Rule}
use Rattle.akl_model.specs.Config.{Content, without_goal, Config, Found, equations_of, whole, box_at, home_of}
use Rattle.akl_model.specs.Names.{HasDistinctNames}
use Rattle.akl_model.specs.Changes.{Binds}
use Rattle.akl_model.proofs.NamesKept.{Stand}
use Rattle.akl_model.proofs.Options.{some_value}
use Rattle.step_laws.specs.Bound.{outermost_equations, AreBoundIn}
use Rattle.step_laws.specs.Stays.{IsSameBox}
use Rattle.plan_laws.specs.AtOnce.{with_named, IsAtOnce, at_once, AreInForce, IsAtOnceIn}
use Rattle.plan_laws.proofs.Between.{stand_of, was_found}
use Rattle.plan_laws.proofs.CallPassage.{end_home}
use Rattle.binding_laws.proofs.BindsLater.{same_outermost}

-- the box of the goal afterwards
abbrev pub box_after : {p : Program} {c : Config} {w : ℕ} {g : Name} {f : Found} → IsAtOnce p c w g f → Found
box_after {p} {c} {w} {g} {f} x = record {
  around = f.around;
  content = x.after;
  goals = with_named x.goals_left (without_goal g f.goals);
}

module _ (rules : List Rule) (force : AreInForce rules) (p : Program) (c : Config) (distinct : HasDistinctNames c) (w : ℕ) (g : Name) (f : Found) (is_home : home_of g c.roots ≡ Some f) (x : IsAtOnce p c w g f) where
  abbrev s : Stand c
  s = stand_of c distinct

  pub was_there : box_at f.content.name c.roots ≡ Some f
  was_there = was_found c s g f is_home

  pub is_there : box_at f.content.name (at_once x).roots ≡ Some (box_after x)
  is_there = end_home rules force p c s w g f is_home x ⊥ (λ u. absurd u)

-- between boxes with the same contents, down to them and after a change, the same is bound
binds_as : (c e d h : Config) (m n : Name) (f k a b : Found) → box_at m c.roots ≡ Some f → box_at m e.roots ≡ Some a → box_at n d.roots ≡ Some k → box_at n h.roots ≡ Some b → IsSameBox f k → IsSameBox a b
    → (v : Var) → Binds c e m v → Binds d h n v
binds_as c e d h m n f k a b was is was_now is_now before now v y =
    let q : y.adds.before ≡ f = some_value (sym y.adds.was ∙ was) in
    let r : y.adds.afterwards ≡ a = some_value (sym y.adds.is ∙ is) in
    let at_first : whole y.adds.before ≡ whole k = ap whole q ∙ same_whole f k before in
    let at_last : whole y.adds.afterwards ≡ whole b = ap whole r ∙ same_whole a b now in
    record {
      adds = record {
        before = k;
        afterwards = b;
        was = was_now;
        is = is_now;
        more = λ same. y.adds.more (ap (λ (u : Found). u.content.equations) r ∙ ap (λ (u : Content). u.equations) now.content ∙ same ∙ sym (ap (λ (u : Found). u.content.equations) q ∙ ap (λ (u : Content). u.equations) before.content));
      };
      consistent = subst IsConsistent at_last y.consistent;
      newly_bound = subst (λ (E : Equations). IsNewlyBound (whole k) E v) at_last (subst (λ (E : Equations). IsNewlyBound E (whole y.adds.afterwards) v) at_first y.newly_bound);
    }
  where
    same_whole : (a b : Found) → IsSameBox a b → whole a ≡ whole b
    same_whole a b z = (λ i. equations_of (z.around i) ++ (z.content i).equations)

pub call_binds_again : (rules : List Rule) → AreInForce rules → (p : Program) (c : Config) → HasDistinctNames c → (w : ℕ) (g : Name) (f : Found) → home_of g c.roots ≡ Some f → (x : IsAtOnce p c w g f)
    → (d : Config) → HasDistinctNames d → (y : IsAtOnceIn rules x d) → (list : List Var) → AreBoundIn c (at_once x) f list → AreBoundIn d (at_once y.again) y.site list
call_binds_again rules force p c distinct w g f is_home x d apart y list bound = record {
  each = λ v m. binds_as c (at_once x) d (at_once y.again) f.content.name y.site.content.name f y.site (box_after x) (box_after y.again) was is was_now is_now y.same joined v (bound.each v m);
  every = λ v b.
      let o : (u : Var) × IsAmong u list × Equal (outermost_equations f) (variable v) (variable u) =
      bound.every v (binds_as d (at_once y.again) c (at_once x) y.site.content.name f.content.name y.site f (box_after y.again) (box_after x) was_now is_now was is back joined_back v b) in
      (o.0, o.1, subst (λ (E : Equations). Equal E (variable v) (variable o.0)) (same_outermost f y.site y.same) o.2);
  oldest = subst (λ (E : Equations). HasOldest E list) (same_outermost f y.site y.same) bound.oldest;
}
  where
    was : box_at f.content.name c.roots ≡ Some f
    was = was_there rules force p c distinct w g f is_home x

    is : box_at f.content.name (at_once x).roots ≡ Some (box_after x)
    is = is_there rules force p c distinct w g f is_home x

    was_now : box_at y.site.content.name d.roots ≡ Some y.site
    was_now = was_there rules force p d apart w g y.site y.is_home y.again

    is_now : box_at y.site.content.name (at_once y.again).roots ≡ Some (box_after y.again)
    is_now = is_there rules force p d apart w g y.site y.is_home y.again

    joined : IsSameBox (box_after x) (box_after y.again)
    joined = record { around = y.same.around; content = sym y.same_after }

    back : IsSameBox y.site f
    back = record { around = sym y.same.around; content = sym y.same.content }

    joined_back : IsSameBox (box_after y.again) (box_after x)
    joined_back = record { around = sym joined.around; content = sym joined.content }
