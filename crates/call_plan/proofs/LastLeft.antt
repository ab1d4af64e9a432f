-- The labels of a call end with the promotion of the alternative that is left, and make a call at once.
use Rattle.std.proofs.Common.{◌≡◌, ℕ, List, [], ◌∷◌, Bool, true, Some, None, refl, ap, arith}
use Rattle.std.specs.Prelude.{if◌then◌else◌}
use Rattle.akl_terms.specs.declared.name.Name.{Name}
use Rattle.akl_terms.specs.declared.program.Clause.{Clause}
use Rattle.akl_terms.specs.declared.program.Op.{Op}
use Rattle.akl_terms.specs.declared.term.Node.{Node}
use Rattle.akl_terms.specs.Tree.{Tree}
use Rattle.akl_terms.specs.Equal.{IsConsistent}
use Rattle.akl_terms.proofs.SameNames.{same_name-refl}
use Rattle.akl_model.specs.Config.{Operator, Content, Boxes, no_boxes, box, Goals, no_goals, Found, whole}
use Rattle.akl_model.specs.Instances.{instances}
use Rattle.akl_model.specs.Rules.{operator_of, count_of, up_to, alone, alternative_of, kept_by}
use Rattle.akl_model.specs.Conditions.{IsQuietBox}
use Rattle.plan_laws.specs.AtOnce.{inner, Ends, promotes, cuts}
use Rattle.call_plan.specs.Ended.{cuts_others, end_labels}

-- the operator of the choice that a call becomes which doesn't collect
abbrev pub operator : Op → Operator
operator Op.Condition = Operator.condition
operator Op.Commit = Operator.commit
operator Op.Choice = Operator.nondeterminate
operator Op.Collect = Operator.nondeterminate

-- what has to hold of the alternative that is left, and what is left behind it
abbrev pub Holds : Op → Found → Type 0
Holds Op.Condition a = IsQuietBox a
Holds Op.Commit a = IsQuietBox a
Holds Op.Choice a = IsConsistent (whole a)
Holds Op.Collect a = ⊥

pub is_operator : (op : Op) → (op ≡ Op.Collect → ⊥) → operator_of op None ≡ Some (operator op)
is_operator Op.Condition n = refl
is_operator Op.Commit n = refl
is_operator Op.Choice n = refl
is_operator Op.Collect n = absurd (n refl)

module _ (nodes : List Node) (w n : ℕ) (arguments : List Tree) where
  -- the alternatives that are left behind the one that is promoted
  abbrev pub left_behind : Op → List Clause → Boxes
  left_behind Op.Choice behind = no_boxes
  left_behind Op.Condition behind = instances nodes w n arguments behind
  left_behind Op.Commit behind = instances nodes w n arguments behind
  left_behind Op.Collect behind = no_boxes

  module _ (g : Name) (f : Found) (a : Content) where
    -- others are cut where it is quiet
    cut_by : (o : Operator) (b : Content) (gs : Goals) (rest : Boxes) → kept_by o a.name (box a no_goals (box b gs rest)) ≡ box a no_goals no_boxes → IsQuietBox (inner f a no_goals)
        → Ends a.name.worker g f o a (box a no_goals (box b gs rest)) (end_labels g a.name true)
    cut_by o b gs rest k quiet = cuts (box a no_goals (box b gs rest))
        (ap (λ (t : Bool). if t then Some (inner f a no_goals) else alternative_of f a.name (box b gs rest)) (same_name-refl a.name)) k
        (let e : count_of (kept_by o a.name (box a no_goals (box b gs rest))) ≡ 1 = ap count_of k in omega arith) quiet

    kept_condition : (bs : Boxes) → kept_by Operator.condition a.name (box a no_goals bs) ≡ box a no_goals no_boxes
    kept_condition bs = ap (λ (t : Bool). if t then box a no_goals no_boxes else box a no_goals (up_to a.name bs)) (same_name-refl a.name)

    kept_commit : (bs : Boxes) → kept_by Operator.commit a.name (box a no_goals bs) ≡ box a no_goals no_boxes
    kept_commit bs = ap (λ (t : Bool). if t then box a no_goals no_boxes else alone a.name bs) (same_name-refl a.name)

    pub ends_of : (op : Op) (behind : List Clause) → Holds op (inner f a no_goals)
        → Ends a.name.worker g f (operator op) a (box a no_goals (left_behind op behind)) (end_labels g a.name (cuts_others op behind))
    ends_of Op.Choice behind h = promotes h
    ends_of Op.Condition [] h = promotes h
    ends_of Op.Condition (c ∷ cs) h = cut_by Operator.condition _ _ _ (kept_condition (instances nodes w n arguments (c ∷ cs))) h
    ends_of Op.Commit [] h = promotes h
    ends_of Op.Commit (c ∷ cs) h = cut_by Operator.commit _ _ _ (kept_commit (instances nodes w n arguments (c ∷ cs))) h
    ends_of Op.Collect behind h = absurd h
