-- What joins a box is told to it.
use Rattle.std.proofs.Common.{◌≡◌, ℕ, Bool, length, Option, Some, None, refl, sym, ◌∙◌, ap, subst, ◌⊎◌, inl, inr}
use Rattle.std.specs.Prelude.{if◌then◌else◌}
use Rattle.akl_terms.specs.declared.name.Name.{Name}
use Rattle.akl_terms.specs.declared.name.Place.{Place}
use Rattle.akl_terms.specs.declared.program.Program.{Program}
use Rattle.akl_terms.proofs.SameNames.{same_name-refl}
use Rattle.akl_model.specs.declared.label.Rule.{Rule}
use Rattle.akl_model.specs.declared.label.Label.{Label}
use Rattle.akl_model.specs.Config.{Operator, Content, Boxes, no_boxes, box, Goals, no_goals, a_choice, held_in, without_goal, Found}
use Rattle.akl_model.specs.Instances.{with_atoms}
use Rattle.akl_model.specs.Rules.{Reading, Change, becomes, joining, promote, gathered, collect, collect_as, change_by}
use Rattle.akl_model.proofs.Options.{some_value}
use Rattle.table_laws.specs.Steps.{IsPromoted, IsGathered}

-- the box stays, and this is told to it
abbrev pub Joins : Content → Found → Change → Type 0
Joins k f ch = (gs : Goals) × (ch.boxes ≡ box (joining k f.content) gs no_boxes)

promoted : (w next : ℕ) (g : Name) (f : Found) (op : Operator) (k : Content) (ch : Change) → promote w next g k.name f (Some (a_choice op (box k no_goals no_boxes))) ≡ Some ch → Joins k f ch
promoted w next g f op k ch e = (
  with_atoms w next k.body (without_goal g f.goals),
  ap (λ (x : Change). x.boxes) (sym (some_value (sym (subst (λ (t : Bool). (if t then Some made else None) ≡ Some made) (sym (same_name-refl k.name)) refl) ∙ e))),
)
  where
    made : Change
    made = becomes (joining k f.content) (with_atoms w next k.body (without_goal g f.goals)) (length k.body)

collected : (p : Program) (w next : ℕ) (g : Name) (f : Found) (r : _) (bs : Boxes) (k : Content) (ch : Change) → gathered p w next f.content.name r bs ≡ Some k → collect p w next g f (Some (a_choice (Operator.collecting r) bs)) ≡ Some ch → Joins k f ch
collected p w next g f r bs k ch is e = (without_goal g f.goals, ap (λ (x : Change). x.boxes) (sym (some_value (sym (ap (collect_as g bs f) is) ∙ e))))

-- so it is by a label of Promote or Collect
pub joins_change : (p : Program) (v : Reading) (next : ℕ) (l : Label) (g : Name) (f : Found) (op : Operator) (bs : Boxes) (k : Content) (ch : Change) → l.place ≡ Place.Goal g → held_in g f.goals ≡ Some (a_choice op bs)
    → IsPromoted l bs k ⊎ IsGathered p l next f.content.name op bs k → change_by p v l.worker next l.rule l.place l.alternative f ≡ Some ch → Joins k f ch
joins_change p v next l g f op bs k ch place held origin e = elim origin [
  | inl z ↦ promoted l.worker next g f op k ch (ap (promote l.worker next g k.name f) (sym (held ∙ ap (λ (cs : Boxes). Some (a_choice op cs)) z.only)) ∙ by Rule.Promote (Some k.name) z.rule z.alternative)
  | inr z ↦ collected p l.worker next g f z.result bs k ch z.is_content (ap (collect p l.worker next g f) (sym (held ∙ ap (λ (o : Operator). Some (a_choice o bs)) z.collects)) ∙ by Rule.Collect None z.rule z.alternative)
]
  where
    by : (r : Rule) (o : Option Name) → l.rule ≡ r → l.alternative ≡ o → change_by p v l.worker next r (Place.Goal g) o f ≡ Some ch
    by r o i j = subst (λ (z : Rule). change_by p v l.worker next z (Place.Goal g) o f ≡ Some ch) i (subst (λ (z : Option Name). change_by p v l.worker next l.rule (Place.Goal g) z f ≡ Some ch) j
        (subst (λ (z : Place). change_by p v l.worker next l.rule z l.alternative f ≡ Some ch) place e))
