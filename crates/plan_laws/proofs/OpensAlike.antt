-- What the last label of a call at once opens is what the net change opens.
use Rattle.std.proofs.Common.{◌≡◌, ◌++◌, List, Bool, true, false, Option, Some, refl, sym, ◌∙◌, subst}
use Rattle.akl_terms.specs.declared.name.Name.{Name}
use Rattle.akl_terms.specs.declared.name.Var.{Var}
use Rattle.akl_terms.specs.declared.name.Place.{Place}
use Rattle.akl_terms.specs.Names.{same_name}
use Rattle.akl_terms.specs.Touching.{IsOutside as IsExternal}
use Rattle.akl_terms.proofs.SameNames.{same_name-equal}
use Rattle.akl_model.specs.Config.{Boxes, Goals, Config, held_in, Found, equations_of, box_at, home_of}
use Rattle.akl_model.specs.Stable.{only, frames_of}
use Rattle.akl_model.specs.Changes.{goal_names, Binds}
use Rattle.akl_model.specs.Wakes.{Wait, Opens, new_goal, new_box, changed_goal, box_of_changed_goal, changed_constraint, changed_goals, holder_of_changed_goals, woken, bound_outside}
use Rattle.akl_model.proofs.Options.{some_value}
use Rattle.akl_model.proofs.NamesKept.{Stand}
use Rattle.step_laws.specs.Stays.{HaveShape}
use Rattle.plan_laws.proofs.CallAlternatives.{Calling, between, IsNewName, AreNew}
use Rattle.plan_laws.proofs.Bound.{binds_from}
use Rattle.plan_laws.proofs.Elsewhere.{Alike, neither, both}
use Rattle.plan_laws.proofs.CallsOutside.{alike_constraint, alike_names, alike_shape, none_alike, Before, alike_some, outside}

pub alike_back : (R S : Goals → Goals → Type 0) → ((u v : Goals) → R u v → S v u) → (x y : Option Found) → Alike R x y → Alike S y x
alike_back R S h _ _ neither = neither
alike_back R S h _ _ (both a b gs hs r) = both a b hs gs (h gs hs r)

-- two configurations in which what stands in a third is found alike: the same is opened from each of them to it
module _ (waits : List Wait) (m c d : Config) (boxes : (n : Name) (f : Found) → box_at n d.roots ≡ Some f → Alike (λ (u v : Goals). goal_names u ≡ goal_names v) (box_at n m.roots) (box_at n c.roots))
    (homes : (g : Name) (f : Found) → home_of g d.roots ≡ Some f → Alike (λ (u v : Goals). HaveShape (held_in g u) (held_in g v)) (home_of g m.roots) (home_of g c.roots)) where
  box_in : (n : Name) (f e : Found) → box_at n d.roots ≡ Some f → box_at n m.roots ≡ Some e → Before (λ (u v : Goals). goal_names v ≡ goal_names u) (box_at n c.roots) e
  box_in n f e i x = alike_some (λ (u v : Goals). goal_names v ≡ goal_names u) (box_at n c.roots) (box_at n m.roots) e
      (alike_back (λ (u v : Goals). goal_names u ≡ goal_names v) (λ (u v : Goals). goal_names v ≡ goal_names u) (λ u v q. q) (box_at n m.roots) (box_at n c.roots) (boxes n f i)) x

  home_then : (g : Name) (f e : Found) → home_of g d.roots ≡ Some f → home_of g m.roots ≡ Some e → Before (λ (u v : Goals). HaveShape (held_in g v) (held_in g u)) (home_of g c.roots) e
  home_then g f e i x = alike_some (λ (u v : Goals). HaveShape (held_in g v) (held_in g u)) (home_of g c.roots) (home_of g m.roots) e
      (alike_back (λ (u v : Goals). HaveShape (held_in g u) (held_in g v)) (λ (u v : Goals). HaveShape (held_in g v) (held_in g u)) (λ u v q. q) (home_of g m.roots) (home_of g c.roots) (homes g f i)) x

  binds : (n : Name) (x : Var) → Binds m d n x → Binds c d n x
  binds n x b =
      let z : Before (λ (u v : Goals). goal_names v ≡ goal_names u) (box_at n c.roots) b.adds.before = box_in n b.adds.afterwards b.adds.before b.adds.is b.adds.was in
      binds_from m c d n b.adds.before z.before b.adds.was z.found (sym z.content) (λ i. equations_of (sym z.around i) ++ (sym z.content i).equations) x b

  pub opens_alike : (place : Place) → Opens waits m d place → Opens waits c d place
  opens_alike _ (new_goal {g} {f} e i) = new_goal (none_alike (λ (u v : Goals). HaveShape (held_in g u) (held_in g v)) (home_of g m.roots) (home_of g c.roots) (homes g f i) e) i
  opens_alike _ (new_box {n} {f} e i) = new_box (none_alike (λ (u v : Goals). goal_names u ≡ goal_names v) (box_at n m.roots) (box_at n c.roots) (boxes n f i) e) i
  opens_alike _ (changed_goal {g} {e} {f} y i x) = changed_goal (home_then g f e i y).found i (λ q. x (alike_shape g (home_of g m.roots) (home_of g c.roots) (homes g f i) ∙ q))
  opens_alike _ (box_of_changed_goal g {e} {f} y i x) = box_of_changed_goal g (home_then g f e i y).found i (λ q. x (alike_shape g (home_of g m.roots) (home_of g c.roots) (homes g f i) ∙ q))
  opens_alike _ (changed_constraint {n} {e} {f} y i x) =
      changed_constraint (box_in n f e i y).found i (λ q. x (alike_constraint (λ (u v : Goals). goal_names u ≡ goal_names v) (box_at n m.roots) (box_at n c.roots) (boxes n f i) ∙ q))
  opens_alike _ (changed_goals {n} {e} {f} y i x) = changed_goals (box_in n f e i y).found i (λ q. x (alike_names (box_at n m.roots) (box_at n c.roots) (boxes n f i) ∙ q))
  opens_alike _ (holder_of_changed_goals n {g} {e} {f} y i x j) = holder_of_changed_goals n (box_in n f e i y).found i (λ q. x (alike_names (box_at n m.roots) (box_at n c.roots) (boxes n f i) ∙ q)) j
  opens_alike _ (woken n {x} y b) = woken n y (binds n x b)
  opens_alike _ (bound_outside n {x} b o h) =
      bound_outside n (binds n x b) (subst (λ (f : Found). IsExternal (frames_of (only f)) x) (some_value (sym b.adds.is ∙ (binds n x b).adds.is)) o) h

pub other_name : (k : Calling) (g : Name) → (g ≡ k.goal → ⊥) → same_name g k.goal ≡ false
other_name k g n = on (same_name g k.goal) refl
  where
    on : (t : Bool) → same_name g k.goal ≡ t → t ≡ false
    on true q = absurd (n (same_name-equal g k.goal q))
    on false q = refl

-- of those the configurations before the call and before its last label, where nothing that goes with it is there afterwards
module _ (k : Calling) (bs : Boxes) (s : Stand (between k bs)) (new : AreNew k bs) (d : Config) (box_gone : (n : Name) (f : Found) → box_at n d.roots ≡ Some f → IsNewName k n → ⊥)
    (goal_gone : (g : Name) (f : Found) → home_of g d.roots ≡ Some f → (IsNewName k g → ⊥) × (g ≡ k.goal → ⊥)) where
  boxes_alike : (n : Name) (f : Found) → box_at n d.roots ≡ Some f → Alike (λ (u v : Goals). goal_names u ≡ goal_names v) (box_at n k.config.roots) (box_at n (between k bs).roots)
  boxes_alike n f i = (outside k bs s new).boxes n (box_gone n f i)

  homes_alike : (g : Name) (f : Found) → home_of g d.roots ≡ Some f → Alike (λ (u v : Goals). HaveShape (held_in g u) (held_in g v)) (home_of g k.config.roots) (home_of g (between k bs).roots)
  homes_alike g f i = (outside k bs s new).homes g (goal_gone g f i).0 (other_name k g (goal_gone g f i).1)

  pub last_opens : (waits : List Wait) (place : Place) → Opens waits k.config d place → Opens waits (between k bs) d place
  last_opens waits = opens_alike waits k.config (between k bs) d boxes_alike homes_alike

  pub net_opens : (waits : List Wait) (place : Place) → Opens waits (between k bs) d place → Opens waits k.config d place
  net_opens waits = opens_alike waits (between k bs) k.config d
      (λ n f i. alike_back (λ (u v : Goals). goal_names u ≡ goal_names v) (λ (u v : Goals). goal_names u ≡ goal_names v) (λ u v q. sym q) (box_at n k.config.roots) (box_at n (between k bs).roots) (boxes_alike n f i))
      (λ g f i. alike_back (λ (u v : Goals). HaveShape (held_in g u) (held_in g v)) (λ (u v : Goals). HaveShape (held_in g u) (held_in g v)) (λ u v q. sym q) (home_of g k.config.roots) (home_of g (between k bs).roots) (homes_alike g f i))
