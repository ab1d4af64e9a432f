-- A label at a goal that goes, by which its box stays one: what else is there afterwards is as it was, but for this box.
use Rattle.std.proofs.Common.{◌≡◌, List, [], ◌∷◌, Some, None, refl, sym, ◌∙◌, ap, subst}
use Rattle.std.specs.Prelude.{option_map}
use Rattle.akl_terms.specs.declared.name.Name.{Name}
use Rattle.akl_terms.specs.declared.name.Place.{Place}
use Rattle.akl_terms.specs.declared.program.Program.{Program}
use Rattle.akl_model.specs.declared.item.Item.{Item}
use Rattle.akl_model.specs.declared.label.Rule.{Rule}
use Rattle.akl_model.specs.declared.label.Label.{Label}
use Rattle.akl_model.specs.Config.{Config, Found, box_at, home_of}
use Rattle.akl_model.specs.Changes.{Shape, shape_at, goals_at, constraint_of, constraint_at, Constraint, box_names, Adds}
use Rattle.akl_model.specs.Derivations.{Applies}
use Rattle.akl_model.proofs.NamesKept.{Stand}
use Rattle.akl_model.proofs.Options.{some_value}
use Rattle.step_laws.specs.ChangedItems.{goal_of, MayChange, store, goals, goal, store_gone, goals_gone, goal_gone, store_new, goals_new, goal_new, holder, roots, binding}
use Rattle.step_laws.proofs.ChangedItems.{store_item, goals_item, goal_item}
use Rattle.step_laws.proofs.Decide.{option_or, names_or, shape_or, constraint_or, not_not}

module _ (rules : List Rule) (p : Program) (c : Config) (l : Label) (d : Config) (s : Stand c) (a : Applies rules p c l d) (one : box_names a.change.boxes ≡ a.site.content.name ∷ []) (g : Name) (place : l.place ≡ Place.Goal g)
    (gone : home_of g d.roots ≡ None) where
  -- what may change of what is there before and afterwards
  abbrev Claim : Item → Type 0
  Claim Item.Roots = a ≡ a
  Claim (Item.Store n) = (e f : Found) → box_at n c.roots ≡ Some e → box_at n d.roots ≡ Some f → n ≡ a.site.content.name
  Claim (Item.Goals n) = (e f : Found) → box_at n c.roots ≡ Some e → box_at n d.roots ≡ Some f → n ≡ a.site.content.name
  Claim (Item.Goal i) = (e f : Found) → home_of i c.roots ≡ Some e → home_of i d.roots ≡ Some f → ⊥
  Claim (Item.Binding x) = a ≡ a

  claim : (i : Item) → MayChange a i → Claim i
  claim _ store = λ e f i j. refl
  claim _ goals = λ e f i j. refl
  claim _ (goal {g = k} q) = λ e f i j.
      let z : Some g ≡ Some k = sym (ap (λ (u : Place). goal_of u l.alternative a.site) place) ∙ q in
      let y : home_of k d.roots ≡ None = subst (λ (u : Name). home_of u d.roots ≡ None) (some_value z) gone in
      cc
  claim _ (store_gone i j) = λ e f u v. cc
  claim _ (goals_gone i j) = λ e f u v. cc
  claim _ (goal_gone i j) = λ e f u v. cc
  claim _ (store_new i j) = λ e f u v. cc
  claim _ (goals_new i j) = λ e f u v. cc
  claim _ (goal_new i j) = λ e f u v. cc
  claim _ (holder r i h k) = λ e f u v. r.not_one one
  claim _ (roots r i) = refl
  claim _ (binding b) = refl

  pub shape_kept : (i : Name) (e f : Found) → home_of i c.roots ≡ Some e → home_of i d.roots ≡ Some f → shape_at i c.roots ≡ shape_at i d.roots
  shape_kept i e f u v = not_not (option_or Shape shape_or (shape_at i c.roots) (shape_at i d.roots)) (λ n. claim (Item.Goal i) (goal_item rules p c l d s a i n) e f u v)

  pub store_kept : (n : Name) (e f : Found) → (n ≡ a.site.content.name → ⊥) → box_at n c.roots ≡ Some e → box_at n d.roots ≡ Some f → constraint_at n c.roots ≡ constraint_at n d.roots
  store_kept n e f o u v = not_not (option_or Constraint constraint_or (constraint_at n c.roots) (constraint_at n d.roots)) (λ x. o (claim (Item.Store n) (store_item rules p c l d s a n x) e f u v))

  pub set_kept : (n : Name) (e f : Found) → (n ≡ a.site.content.name → ⊥) → box_at n c.roots ≡ Some e → box_at n d.roots ≡ Some f → goals_at n c.roots ≡ goals_at n d.roots
  set_kept n e f o u v = not_not (option_or (List Name) names_or (goals_at n c.roots) (goals_at n d.roots)) (λ x. o (claim (Item.Goals n) (goals_item rules p c l d s a n x) e f u v))

  -- equations are added to this box alone
  pub adds_here : (n : Name) → Adds c d n → n ≡ a.site.content.name
  adds_here n x = claim (Item.Store n) (store_item rules p c l d s a n (λ q. x.more
      (let u : constraint_of x.before ≡ constraint_of x.afterwards = some_value (sym (ap (option_map constraint_of) x.was) ∙ q ∙ ap (option_map constraint_of) x.is) in ap (λ (k : Constraint). k.equations) (sym u)))) x.before x.afterwards x.was x.is
