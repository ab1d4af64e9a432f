-- The variables of goals, where those inside of a choice or a collecting goal count once, are the same variables.
use Rattle.std.proofs.Common.{◌≡◌, ℕ, List, [], ◌++◌, refl, sym, ap, ◌∙◌, append_assoc}
use Rattle.std.proofs.lemmas.List.{append-nil}
use Rattle.std.specs.List.{concat}
use Rattle.akl_syntax.specs.Goals.{Goal, Goals, Parts, call, choice, lifted, collect, lifted_collect, no_goals, more_goals, no_parts, more_parts}
use Rattle.akl_syntax.specs.Variables.{goal_variables, goals_variables, parts_variables}
use Rattle.term_syntax.specs.Tree.{Tree}
use Rattle.term_syntax.specs.Variables.{tree_variables}
use Rattle.akl_lift.specs.Lifting.{seen_from, collect_variables}
use Rattle.akl_lift.specs.Noting.{distinct, outer, outer_all, outer_parts, outer_collected}
use Rattle.akl_lift.proofs.FirstSeen.{has, seen_from-append, seen_from-distinct, has-seen_from}

-- lists of which the same is seen, one behind the other
seen_both : (known xs xs' ys ys' : List ℕ) → seen_from known xs ≡ seen_from known xs' → seen_from (seen_from known xs') ys ≡ seen_from (seen_from known xs') ys' → seen_from known (xs ++ ys) ≡ seen_from known (xs' ++ ys')
seen_both known xs xs' ys ys' e f = seen_from-append known xs ys ∙ ap (λ (ns : List ℕ). seen_from ns ys) e ∙ f ∙ sym (seen_from-append known xs' ys')

mutual
  seen-outer : (known : List ℕ) (g : Goal) → seen_from known (outer g) ≡ seen_from known (goal_variables g)
  seen-outer known (call s ts) = refl
  seen-outer known (choice ps) = seen_from-distinct known (concat (outer_parts ps)) ∙ seen-outer_parts known ps
  seen-outer known (lifted n ns) = refl
  seen-outer known (lifted_collect n ns r) = refl
  seen-outer known (collect t gs r) =
      seen_both known (distinct (concat (outer_collected t gs))) (collect_variables t gs) (tree_variables r) (tree_variables r)
      (seen_from-distinct known (concat (outer_collected t gs)) ∙ ap (seen_from known) (append-nil (tree_variables t ++ outer_all gs))
      ∙ seen_both known (tree_variables t) (tree_variables t) (outer_all gs) (goals_variables gs) refl (seen-outer_all (seen_from known (tree_variables t)) gs)) refl
      ∙ ap (seen_from known) (append_assoc (tree_variables t) (goals_variables gs) (tree_variables r))

  pub seen-outer_all : (known : List ℕ) (gs : Goals) → seen_from known (outer_all gs) ≡ seen_from known (goals_variables gs)
  seen-outer_all known no_goals = refl
  seen-outer_all known (more_goals g gs) =
      seen_both known (outer g) (goal_variables g) (outer_all gs) (goals_variables gs) (seen-outer known g) (seen-outer_all (seen_from known (goal_variables g)) gs)

  pub seen-outer_parts : (known : List ℕ) (ps : Parts) → seen_from known (concat (outer_parts ps)) ≡ seen_from known (parts_variables ps)
  seen-outer_parts known no_parts = refl
  seen-outer_parts known (more_parts gs op hs ps) =
      seen_both known (outer_all gs ++ outer_all hs) (goals_variables gs ++ goals_variables hs) (concat (outer_parts ps)) (parts_variables ps)
      (seen_both known (outer_all gs) (goals_variables gs) (outer_all hs) (goals_variables hs) (seen-outer_all known gs) (seen-outer_all (seen_from known (goals_variables gs)) hs))
      (seen-outer_parts (seen_from known (goals_variables gs ++ goals_variables hs)) ps)

pub seen-outer_collected : (known : List ℕ) (t : Tree) (gs : Goals) → seen_from known (concat (outer_collected t gs)) ≡ seen_from known (collect_variables t gs)
seen-outer_collected known t gs =
    ap (seen_from known) (append-nil (tree_variables t ++ outer_all gs))
    ∙ seen_both known (tree_variables t) (tree_variables t) (outer_all gs) (goals_variables gs) refl (seen-outer_all (seen_from known (tree_variables t)) gs)

-- the variables of a collecting goal's clause, in their order
pub seen-collected : (args : List ℕ) (t : Tree) (gs : Goals) → seen_from [] (args ++ concat (outer_collected t gs)) ≡ seen_from [] (args ++ collect_variables t gs)
seen-collected args t gs = seen_both [] args args (concat (outer_collected t gs)) (collect_variables t gs) refl (seen-outer_collected (seen_from [] args) t gs)

-- the variables of a part's clause, in their order
pub seen-part : (args : List ℕ) (gs hs : Goals) → seen_from [] (args ++ (outer_all gs ++ outer_all hs)) ≡ seen_from [] (args ++ (goals_variables gs ++ goals_variables hs))
seen-part args gs hs =
    seen_both [] args args (outer_all gs ++ outer_all hs) (goals_variables gs ++ goals_variables hs) refl
    (seen_both (seen_from [] args) (outer_all gs) (goals_variables gs) (outer_all hs) (goals_variables hs) (seen-outer_all (seen_from [] args) gs) (seen-outer_all (seen_from (seen_from [] args) (goals_variables gs)) hs))

-- lists of which the same is seen have the same variables
has_alike : (v : ℕ) (xs ys : List ℕ) → seen_from [] xs ≡ seen_from [] ys → has v xs ≡ has v ys
has_alike v xs ys e = sym (has-seen_from v [] xs) ∙ ap (has v) e ∙ has-seen_from v [] ys

pub has-outer : (v : ℕ) (g : Goal) → has v (outer g) ≡ has v (goal_variables g)
has-outer v g = has_alike v (outer g) (goal_variables g) (seen-outer [] g)

pub has-outer_all : (v : ℕ) (gs : Goals) → has v (outer_all gs) ≡ has v (goals_variables gs)
has-outer_all v gs = has_alike v (outer_all gs) (goals_variables gs) (seen-outer_all [] gs)
