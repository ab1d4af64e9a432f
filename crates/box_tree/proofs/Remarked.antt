-- A step that was made of a table, as variables are marked.
use Rattle.std.proofs.Common.{◌≡◌, ℕ, List, Option, Some, None, sym, ap, subst, ◌∙◌, ◌⊎◌, inl, inr}
use Rattle.std.specs.Map.{lookup}
use Rattle.akl_terms.specs.Names.{same_name}
use Rattle.constraint_laws.specs.Touched.{IsAmong}
use Rattle.akl_terms.specs.declared.name.Name.{Name}
use Rattle.akl_terms.specs.declared.name.Place.{Place}
use Rattle.akl_terms.specs.declared.name.Var.{Var}
use Rattle.akl_model.specs.declared.label.Label.{Label}
use Rattle.box_tree.specs.StoreMarks.{TableMarksValue, stores_of}
use Rattle.box_tree.specs.Applied.{KeepsMark, Applied}
use Rattle.box_tree.specs.Lefts.{HasLeft, IsToldSolved, IsMarkLeft}
use Rattle.box_tree.specs.declared.store_marks.Left.{Left}
use Rattle.table_laws.specs.Marks.{Marks}
use Rattle.table_laws.specs.Rows.{Table}
use Rattle.table_laws.specs.Steps as laws
use Rattle.table_laws.specs.Writes.{IsTable, Fails, Cuts, Splits}
use Rattle.box_tree.specs.declared.step.Step.{Step}
use Rattle.box_tree.specs.Tables.{TableValue, LeadsBy, Makes, table_of, mark_after}

-- the same rows, under other marks
module _ (u : TableValue) (m : Option TableMarksValue) where
  abbrev other : Table
  other = table_of (record u { marks = m })

  same : {T : Table} → IsTable (table_of u) T → IsTable other T
  same x = record { nodes = x.nodes; boxes = x.boxes; goals = x.goals; roots = x.roots; roots_changed = x.roots_changed; next = x.next; steps = x.steps }

  fails : {T : Table} {n : Name} → Fails T (table_of u) n → Fails T other n
  fails x = record { nodes = x.nodes; box_goes = x.box_goes; goal_goes = x.goal_goes; box_stays = x.box_stays; goal_stays = x.goal_stays; roots = x.roots; roots_changed = x.roots_changed; next = x.next; steps = x.steps }

  cuts : {T : Table} {g n : Name} → Cuts T (table_of u) g n → Cuts T other g n
  cuts x = record { nodes = x.nodes; box_goes = x.box_goes; goal_goes = x.goal_goes; box_stays = x.box_stays; goal_stays = x.goal_stays; roots = x.roots; roots_changed = x.roots_changed; next = x.next; steps = x.steps }

  splits : {T : Table} {n a copy : Name} {copies : List laws.BoxCopy} {at : Option ℕ} {worker drawn : ℕ} → Splits T (table_of u) n a copy copies at worker drawn → Splits T other n a copy copies at worker drawn
  splits x = record { nodes = x.nodes; box_goes = x.box_goes; goal_goes = x.goal_goes; box_stays = x.box_stays; goal_stays = x.goal_stays; roots = x.roots; roots_changed = x.roots_changed; next = x.next; steps = x.steps }

  module _ (t : TableValue) (l : Label) (others : ℕ) (at : Option ℕ) (names : ℕ) where
    leads : (step : Step) (place : Place) (alternative : Option Name) → LeadsBy t (record l { place = place; alternative = alternative }) others at names step (table_of u) → LeadsBy t (record l { place = place; alternative = alternative }) others at names step other
    leads (Step.Tell part solved) (Place.Goal g) a x = same x
    leads (Step.Tell part solved) (Place.Box n) a x = absurd x
    leads (Step.Fork op alternatives) (Place.Goal g) a x = same x
    leads (Step.Fork op alternatives) (Place.Box n) a x = absurd x
    leads Step.Fail (Place.Goal g) a x = absurd x
    leads Step.Fail (Place.Box n) a x = fails x
    leads Step.Cut (Place.Goal g) None x = absurd x
    leads Step.Cut (Place.Goal g) (Some n) x = cuts x
    leads Step.Cut (Place.Box n) a x = absurd x
    leads (Step.Join part solved goals told behind) (Place.Goal g) a x = record { promoted = x.promoted; later = x.later; number = x.number; table = same x.table }
    leads (Step.Join part solved goals told behind) (Place.Box n) a x = absurd x
    leads Step.Refute (Place.Goal g) a x = same x
    leads Step.Refute (Place.Box n) a x = absurd x
    leads Step.Confirm (Place.Goal g) a x = same x
    leads Step.Confirm (Place.Box n) a x = absurd x
    leads (Step.Split copy copies) (Place.Goal g) a x = absurd x
    leads (Step.Split copy copies) (Place.Box n) None x = absurd x
    leads (Step.Split copy copies) (Place.Box n) (Some b) x = splits x

-- what is known of a store that is left
kept_mark : (t : TableValue) (l : Label) (step : Step) (u : TableValue) (n : Name) (left : Left) (number told : ℕ) → HasLeft t l.place step left → left ≡ Left.Store n number → IsToldSolved ((table_of u).box_of n) told
    → lookup (same_name n) (stores_of u.marks) ≡ Some (record { told = told; number = number }) → KeepsMark t l step u n
kept_mark t l step u n left number told has e solved kept =
    let h : HasLeft t l.place step (Left.Store n number) = subst (HasLeft t l.place step) e has in
    record { leaves = h.0; goal = h.1.0; place = h.1.1; number = number; home = h.1.2; told = told; solved = solved; kept = kept }

-- the step is made, and then its variables are marked, and what it leaves of the marks of stores
module _ (t u v w : TableValue) (l : Label) (others : ℕ) (at : Option ℕ) (names : ℕ) (step : Step) (binds : List Var) (makes : Makes t l others at names step u) (marked : v ≡ record u { marks = v.marks })
    (marks : (x : TableValue) → x.marks ≡ u.marks → Marks binds (table_of x) (table_of v)) (stores : stores_of v.marks ≡ stores_of u.marks) (rest : w ≡ record v { marks = w.marks })
    (variables : (x : Var) → mark_after v.steps w.marks x ≡ mark_after v.steps v.marks x) (left : Left) (has : HasLeft t l.place step left)
    (lefts : (n : Name) → IsMarkLeft v left n (stores_of v.marks) (stores_of w.marks)) where
  whole : w ≡ record u { marks = w.marks }
  whole = rest ∙ ap (λ (x : TableValue). record x { marks = w.marks }) marked

  same_steps : w.steps ≡ v.steps
  same_steps = ap (λ (x : TableValue). x.steps) rest

  same_mark : (x : Var) → (table_of w).mark_of x ≡ (table_of v).mark_of x
  same_mark x = ap (λ (n : ℕ). mark_after n w.marks x) same_steps ∙ variables x

  marks_all : Marks binds (table_of t) (table_of w)
  marks_all = record { each = λ x. on x ((marks t (sym makes.marks)).each x) }
    where
      on : (x : Var) → ((table_of v).mark_of x ≡ v.steps) ⊎ ((IsAmong x binds → ⊥) × ((table_of v).mark_of x ≡ (table_of t).mark_of x))
          → ((table_of w).mark_of x ≡ w.steps) ⊎ ((IsAmong x binds → ⊥) × ((table_of w).mark_of x ≡ (table_of t).mark_of x))
      on x (inl e) = inl (same_mark x ∙ e ∙ sym same_steps)
      on x (inr e) = inr (e.0, same_mark x ∙ e.1)

  before : stores_of v.marks ≡ stores_of t.marks
  before = stores ∙ ap stores_of makes.marks

  store : (n : Name) → IsMarkLeft v left n (stores_of v.marks) (stores_of w.marks)
      → (lookup (same_name n) (stores_of w.marks) ≡ lookup (same_name n) (stores_of t.marks)) ⊎ ((lookup (same_name n) (stores_of w.marks) ≡ None) ⊎ KeepsMark t l step w n)
  store n (inl e) = inl (e ∙ ap (lookup (same_name n)) before)
  store n (inr (inl e)) = inr (inl e)
  store n (inr (inr k)) = inr (inr (kept_mark t l step w n left k.0 k.1 has k.2 (subst (λ (x : TableValue). IsToldSolved ((table_of x).box_of n) k.1) (sym rest) k.3) k.4))

  pub applied : Applied t l others at names step binds w
  applied = record {
    program = ap (λ (x : TableValue). x.program) whole ∙ makes.program;
    query = ap (λ (x : TableValue). x.query) whole ∙ makes.query;
    marks = marks_all;
    stores = λ n. store n (lefts n);
    leads = subst (λ (x : TableValue). LeadsBy t l others at names step (table_of x)) (sym whole) (leads u w.marks t l others at names step l.place l.alternative makes.leads);
  }
