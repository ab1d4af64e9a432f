-- The ports of a box are what they were where a plan at a goal of the box is right still by what it read.
use Rattle.std.proofs.Common.{◌≡◌, ℕ, ◌≤◌, List, ◌∷◌, [], ◌++◌, length, Some, sym, ◌∙◌, ap, refl}
use Rattle.std.specs.Prelude.{option_map}
use Rattle.akl_terms.specs.declared.name.Name.{Name}
use Rattle.akl_terms.specs.declared.name.Var.{Var}
use Rattle.akl_terms.specs.declared.program.Program.{Program}
use Rattle.akl_terms.specs.declared.program.Query.{Query}
use Rattle.constraint_laws.specs.Touched.{IsAmong}
use Rattle.akl_model.specs.declared.item.Item.{Item}
use Rattle.akl_model.specs.declared.label.Rule.{Rule}
use Rattle.akl_model.specs.declared.label.Label.{Label}
use Rattle.akl_model.specs.Config.{Config, Found, box_at}
use Rattle.akl_model.specs.Changes.{by_binding, Constraint, constraint_of, constraint_at, IsLastChange}
use Rattle.akl_model.specs.Derivations.{Derives, Replays}
use Rattle.akl_model.proofs.Options.{some_value}
use Rattle.akl_model.proofs.Scoped.{IsIn-right}
use Rattle.std.proofs.Common.{inl}
use Rattle.step_laws.specs.Stays.{GoesOn}
use Rattle.plan_laws.proofs.ByGoals.{by_goals_law}
use Rattle.reading_laws.specs.Boxes.{StaysUnbound}
use Rattle.reading_laws.specs.Plans.{ReadsItems}
use Rattle.reading_laws.specs.Seen.{IsSeen, ReadsAt, in_root, by_ends, inside}
use Rattle.reading_laws.specs.Unchanged.{Unchanged}
use Rattle.reading_laws.proofs.Boxes.{enough_unbound}
use Rattle.reading_laws.proofs.SeenItems.{seen_unchanged}
use Rattle.reading_laws.proofs.SeenPlans.{root_items, ends_items}
use Rattle.reading_laws.proofs.Untouched.{goals_untouched}

module _ (rules : List Rule) (p : Program) (q : Query) (journal further : List Label) (c d : Config) (r : Replays rules p q journal c) (v : Derives rules p c further d)
    (f k : Found) (is : box_at f.content.name c.roots ≡ Some f) (there : box_at f.content.name d.roots ≡ Some k) where
  abbrev U : Item → Type 0
  U = IsSeen rules p q (journal ++ further) (length journal)

  abbrev run : GoesOn rules p c further d
  run = record { query = q; journal = journal; replays = r; derives = v }

  unchanged : (i : Item) (number : ℕ) → IsLastChange by_binding rules p q (journal ++ further) i number → number ≤ length journal → Unchanged rules p c further d v i
  unchanged i number last early = seen_unchanged rules p q journal further c d i number r v last early

  by_items : (g : Name) → ReadsItems rules p c further d run g f [] → k.content.ports ≡ f.content.ports
  by_items g u =
      let x : StaysUnbound (λ x. IsAmong x u.inner) d f.content.name f = enough_unbound rules p q journal c further d r v f.content.name f u.inner is u.stores u.enough u.within in
      let e : x.now ≡ k = some_value (sym x.is ∙ there) in
      ap (λ (b : Found). b.content.ports) (sym e) ∙ x.ports

  by_set : Unchanged rules p c further d v (Item.Goals f.content.name) → k.content.ports ≡ f.content.ports
  by_set u =
      let e : constraint_at f.content.name c.roots ≡ constraint_at f.content.name d.roots = by_goals_law rules p c further d run f.content.name (goals_untouched rules p c further d v f.content.name u) in
      let o : constraint_of f ≡ constraint_of k = some_value (sym (ap (option_map constraint_of) is) ∙ e ∙ ap (option_map constraint_of) there) in
      ap (λ (x : Constraint). x.ports) (sym o)

  pub ports_stay : (g : Name) (list : List Var) → ReadsAt U c g f list → k.content.ports ≡ f.content.ports
  ports_stay g list (in_root root goal store bindings) = by_items g (root_items rules p c further d run g f [] root (unchanged (Item.Goal g) goal.number goal.last goal.early)
      (unchanged (Item.Store f.content.name) store.number store.last store.early) (λ x i. absurd i))
  ports_stay g list (by_ends u) = by_items g (ends_items rules p q journal further c d r v g f [] (record {
    inner = u.inner;
    enough = u.enough;
    ends = u.ends;
    ended = u.ended;
    oldest = u.oldest;
    old = u.old;
    goal = u.goal;
    stores = u.stores;
    end_bindings = u.end_bindings;
    bindings = λ x i. absurd i;
  }) (λ x i. absurd i))
  ports_stay g list (inside goal sets) =
      let s : U (Item.Goals f.content.name) = sets f.content.name (IsIn-right f.content.name _ (f.content.name ∷ []) (inl refl)) in
      by_set (unchanged (Item.Goals f.content.name) s.number s.last s.early)
