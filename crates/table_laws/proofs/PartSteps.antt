-- All steps of plans, later and in their own table.
use Rattle.std.proofs.Common.{◌≡◌, List, Some, ◌∙◌, sym, subst}
use Rattle.std.specs.Prelude.{slice_index}
use Rattle.akl_terms.specs.declared.name.Name.{Name}
use Rattle.akl_terms.specs.declared.name.Var.{Var}
use Rattle.akl_terms.specs.declared.name.Place.{Place}
use Rattle.akl_terms.specs.declared.program.Program.{Program}
use Rattle.akl_terms.specs.declared.program.Query.{Query}
use Rattle.akl_model.specs.declared.label.Rule.{Rule}
use Rattle.akl_model.specs.declared.label.Label.{Label}
use Rattle.akl_model.specs.Config.{Config, box_at}
use Rattle.akl_model.specs.Derivations.{Applies}
use Rattle.akl_model.proofs.NamesKept.{replay-stands, site-box}
use Rattle.step_laws.specs.Bound.{AreBoundIn}
use Rattle.reading_laws.specs.Seen.{ReadsAt}
use Rattle.table_laws.specs.Rows.{Table}
use Rattle.table_laws.specs.Stamped.{Run, IsTableOf}
use Rattle.table_laws.specs.Steps.{Makes}
use Rattle.table_laws.specs.Planned.{GoesOnTo, Seen, LeadsOn, store_of}
use Rattle.table_laws.specs.PartSteps.{PartStep, tells_part, joins_part, without_part, step_over, MakesPart, ReadsPart, ClashesLater}
use Rattle.table_laws.proofs.Here.{tells_here, joins_here}
use Rattle.table_laws.proofs.JoinsLater.{joins_later}
use Rattle.table_laws.proofs.SameSteps.{same_step}
use Rattle.table_laws.proofs.TellsLater.{tells_later}

same_goal : (l : Label) (g h : Name) → l.place ≡ Place.Goal g → l.place ≡ Place.Goal h → g ≡ h
same_goal l g h i j = let k : Place.Goal g ≡ Place.Goal h = sym i ∙ j in cc

module _ (rules : List Rule) (p : Program) (q : Query) (journal further : List Label) (c : Config) (l : Label) (T : Table) (y : GoesOnTo rules p q journal further c l T) (e : Config) (a : Applies rules p c l e) (list : List Var)
    (bound : AreBoundIn c e a.site list) where
  reads_of : (g h : Name) → l.place ≡ Place.Goal g → l.place ≡ Place.Goal h → ReadsAt (Seen rules p q journal further) c g a.site list → ReadsAt (Seen rules p q journal further) c h a.site list
  reads_of g h i j u = subst (λ (n : Name). ReadsAt (Seen rules p q journal further) c n a.site list) (same_goal l g h i j) u

  pub part_step : (step : PartStep) → ReadsPart (Seen rules p q journal further) c l a.site list step → (m : MakesPart p l (slice_index c.next l.worker) a.site step)
      → (k : LeadsOn a y.table.config list) × ClashesLater p l (slice_index c.next l.worker) a.site k.applies.site step m
      × Makes p l (slice_index y.table.config.next l.worker) k.applies.site (step_over (store_of T a.site.content.name) step)
  part_step (tells_part x solved) u m =
      let k : _ = tells_later rules p q journal further c l T y e a m.0 m.1 list bound (reads_of u.0 m.0 u.1 m.1 u.2) x m.2 in
      (k.0, k.1, k.2 solved)
  part_step (joins_part x solved goals) u m =
      let k : _ = joins_later rules p q journal further c l T y e a m.0 m.1 list bound (reads_of u.0 m.0 u.1 m.1 u.2) x goals m.2 in
      (k.0, k.1, k.2 solved)
  part_step (without_part step) u m =
      let k : _ = same_step rules p q journal further c l T y e a list bound step u m in
      (k.0, tt, k.1)

here : (rules : List Rule) (run : Run) (S : Table) (s : IsTableOf rules run S) (l : Label) (e : Config) (a : Applies rules run.program s.config l e) → box_at a.site.content.name s.config.roots ≡ Some a.site
here rules run S s l e a = site-box l.place s.config.roots a.site (replay-stands rules run.program run.query run.journal s.config s.replays).once a.is_site

pub part_here : (rules : List Rule) (run : Run) (S : Table) (s : IsTableOf rules run S) (l : Label) (e : Config) (a : Applies rules run.program s.config l e) (step : PartStep)
    → MakesPart run.program l (slice_index s.config.next l.worker) a.site step → Makes run.program l (slice_index s.config.next l.worker) a.site (step_over (store_of S a.site.content.name) step)
part_here rules run S s l e a (tells_part x solved) m = (m.0, m.1, tells_here rules run S s a.site (here rules run S s l e a) l m.0 x m.2)
part_here rules run S s l e a (joins_part x solved goals) m = (m.0, m.1, joins_here rules run S s a.site (here rules run S s l e a) l m.0 x goals m.2)
part_here rules run S s l e a (without_part step) m = m
