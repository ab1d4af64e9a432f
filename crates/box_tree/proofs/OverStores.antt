-- What a step makes of the box of its place is what the plan adds to the box's own store.
use Rattle.std.proofs.Common.{◌≡◌, ◌≤◌, List, Option, Some, refl, sym, ap, ◌∙◌}
use Rattle.std.specs.Prelude.{option_and_then}
use Rattle.akl_terms.specs.declared.name.Name.{Name}
use Rattle.akl_terms.specs.declared.name.Place.{Place}
use Rattle.akl_terms.specs.declared.term.Node.{Node}
use Rattle.akl_model.specs.Config.{Config, Held, Found, held_in, site_of}
use Rattle.akl_model.proofs.Finds.{times}
use Rattle.akl_model.proofs.NamesKept.{box-itself}
use Rattle.local_store.specs.Stored.{Stored}
use Rattle.step_laws.proofs.Whereabouts as places
use Rattle.table_laws.specs.Rows.{GoalRow, Table, store_in}
use Rattle.table_laws.specs.Steps as laws
use Rattle.table_laws.specs.Unfolds.{Unfolds}
use Rattle.table_laws.specs.Writes.{home_in}
use Rattle.table_laws.proofs.Insides.{goal_row}
use Rattle.table_laws.specs.PartSteps.{step_over}
use Rattle.box_tree.specs.declared.step.Step.{Step}
use Rattle.box_tree.specs.Plans.{part_step}
use Rattle.box_tree.specs.Tables.{step_of, store_at}

pub over_store : (nodes : List Node) (s : Stored) (step : Step) → step_over s (part_step nodes step) ≡ step_of nodes s step
over_store nodes s (Step.Tell part solved) = refl
over_store nodes s (Step.Fork op alternatives) = refl
over_store nodes s Step.Fail = refl
over_store nodes s Step.Cut = refl
over_store nodes s (Step.Join part solved goals told behind) = refl
over_store nodes s Step.Refute = refl
over_store nodes s Step.Confirm = refl
over_store nodes s (Step.Split copy copies) = refl

-- the store of the box of a place is that of the box in which the place is found
pub site_store : (T : Table) (c : Config) → Unfolds T c → ((m : _) → times m c.roots ≤ 1) → (place : Place) (f : Found) → site_of place c.roots ≡ Some f → store_at T place ≡ store_in (T.box_of f.content.name)
site_store T c u once (Place.Box n) f e = ap (λ (m : Name). store_in (T.box_of m)) (box-itself n c.roots f e)
site_store T c u once (Place.Goal g) f e =
    let held : (h : Held) × (held_in g f.goals ≡ Some h) = (places.home_in g c.roots f e).1 in
    let row : _ = goal_row T c u once g f held.0 e held.1 in
    ap (λ (o : Option GoalRow). store_in (option_and_then T.box_of (home_in o))) row.1 ∙ ap (λ (m : Name). store_in (T.box_of m)) row.2

-- so over this store the step is that of the place in the table
pub over_site : (T : Table) (c : Config) → Unfolds T c → ((m : _) → times m c.roots ≤ 1) → (nodes : List Node) (place : Place) (f : Found) → site_of place c.roots ≡ Some f → (step : Step)
    → step_over (store_in (T.box_of f.content.name)) (part_step nodes step) ≡ step_of nodes (store_at T place) step
over_site T c u once nodes place f e step = over_store nodes (store_in (T.box_of f.content.name)) step ∙ ap (λ (s : Stored). step_of nodes s step) (sym (site_store T c u once place f e))
