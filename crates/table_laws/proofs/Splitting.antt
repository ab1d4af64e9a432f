-- What a label of Split makes of the box of its place, by its choice.
use Rattle.std.proofs.Common.{◌≡◌, ℕ, ◌+◌, ◌≤◌, length, Option, Some, sym, ◌∙◌, ap, subst, arith}
use Rattle.std.specs.Prelude.{IsSomeAnd, option_map}
use Rattle.akl_terms.specs.declared.name.Name.{Name}
use Rattle.akl_terms.specs.declared.name.Place.{Place}
use Rattle.akl_terms.specs.declared.program.Program.{Program}
use Rattle.akl_model.specs.declared.label.Rule.{Rule}
use Rattle.akl_model.specs.declared.label.Label.{Label}
use Rattle.akl_model.specs.Config.{box, a_choice, held_in, with_content, Found}
use Rattle.akl_model.specs.Renaming.{sorted_names}
use Rattle.akl_model.specs.Rules.{Change, alone, others, ChoiceIn, choice_with, split_at, change_by}
use Rattle.akl_model.specs.Conditions.{Makes}
use Rattle.akl_model.specs.Stable.{only, IsStable, IsSplitPoint, Allows}
use Rattle.akl_model.proofs.Options.{some_value, some_and}
use Rattle.akl_model.proofs.Finds.{times, times_of, times_inside}
use Rattle.akl_model.proofs.Drawn.{drawn_times, times-renamed}
use Rattle.akl_model.proofs.RuleCases.{SplitCase}
use Rattle.akl_model.proofs.NamesKept.{split_held, rest_less, rest_once}
use Rattle.step_laws.specs.ChangedItems.{goal_of}
use Rattle.table_laws.specs.Steps.{rest_of, second_of}

-- the choice of a split
pub split_choice : (p : Program) (next : ℕ) (l : Label) (f : Found) (c : Change) (m : Makes (Allows p) p next l f c) (n a : Name) → l.rule ≡ Rule.Split → l.place ≡ Place.Box n → l.alternative ≡ Some a
    → (k : ChoiceIn) × (choice_with a f.goals ≡ Some k) × IsSplitPoint f a k
split_choice p next l f c m n a rule place names = some_and (IsSplitPoint f a) (choice_with a f.goals) (
    let x : IsStable p f × IsSomeAnd (choice_with a f.goals) (IsSplitPoint f a) =
    subst (λ (u : Rule). Allows p m.reading u (Place.Box n) (Some a) f) rule (subst (λ (u : Place). Allows p m.reading l.rule u (Some a) f) place (subst (λ (u : Option Name). Allows p m.reading l.rule l.place u f) names m.allowed)) in
    x.1)

module _ (p : Program) (next : ℕ) (l : Label) (f : Found) (c : Change) (m : Makes (Allows p) p next l f c) (n a : Name) (k : ChoiceIn) (rule : l.rule ≡ Rule.Split) (place : l.place ≡ Place.Box n)
    (names : l.alternative ≡ Some a) (is_choice : choice_with a f.goals ≡ Some k) where
  pub allowed : IsStable p f × IsSomeAnd (choice_with a f.goals) (IsSplitPoint f a)
  allowed = subst (λ (u : Rule). Allows p m.reading u (Place.Box n) (Some a) f) rule (subst (λ (u : Place). Allows p m.reading l.rule u (Some a) f) place (subst (λ (u : Option Name). Allows p m.reading l.rule l.place u f) names m.allowed))

  pub point : IsSplitPoint f a k
  point =
      let w : (v : ChoiceIn) × (choice_with a f.goals ≡ Some v) × IsSplitPoint f a v = some_and (IsSplitPoint f a) (choice_with a f.goals) allowed.1 in
      subst (IsSplitPoint f a) (some_value (sym w.1 ∙ is_choice)) w.2

  pub change : split_at l.worker next a f (Some k) ≡ Some c
  change = ap (split_at l.worker next a f) (sym is_choice) ∙ (λ i. change_by p m.reading l.worker next (sym rule i) (sym place i) (sym names i) f) ∙ m.change

  abbrev pub the_case : SplitCase p l.worker next f c l.place l.alternative
  the_case = record { name = n; is_place = place; at_alternative = a; is_alternative = names; choice_in = k; stable = allowed.0; is_choice = is_choice; point = point; change = change }

  pub boxes_are : c.boxes ≡ box f.content (with_content k.name (a_choice k.op (alone a k.alternatives)) f.goals) (second_of l.worker next a f k)
  boxes_are = ap (λ (v : Change). v.boxes) (sym (some_value change))

  pub at_choice : goal_of l.place l.alternative f ≡ Some k.name
  at_choice = (λ i. goal_of (place i) (names i) f) ∙ ap (option_map (λ (v : ChoiceIn). v.name)) is_choice

  module _ (once : (i : Name) → times i (only f) ≤ 1) where
    pub choice_held : held_in k.name f.goals ≡ Some (a_choice k.op k.alternatives)
    choice_held = split_held p l.worker next f c once the_case

    pub rest_few : (i : Name) → times i (rest_of a f k) ≤ 1
    rest_few = rest_once p l.worker next f c once the_case

    pub rest_within : (i : Name) → times i (rest_of a f k) ≤ times i (only f)
    rest_within = rest_less p l.worker next f c once the_case

    pub goals_once : (i : Name) → times_inside i (with_content k.name (a_choice k.op (others a k.alternatives)) f.goals) ≤ 1
    goals_once i = let h : times_of i f.content + (times_inside i (with_content k.name (a_choice k.op (others a k.alternatives)) f.goals) + 0) ≤ 1 = rest_few i in omega arith

    pub second_drawn : (i : Name) → times i (second_of l.worker next a f k) ≤ drawn_times i l.worker next (length (sorted_names (rest_of a f k)))
    second_drawn i = times-renamed l.worker next i (rest_of a f k) rest_few
