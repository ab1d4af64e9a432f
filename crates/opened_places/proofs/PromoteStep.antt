-- Promote: the choice goes, and the goals of the body come.
use Rattle.std.proofs.Common.{◌≡◌, ◌+◌, List, [], Bool, Some, None, refl, sym, subst}
use Rattle.std.specs.Prelude.{slice_index}
use Rattle.akl_terms.specs.declared.name.Name.{Name}
use Rattle.akl_terms.specs.declared.name.Place.{Place}
use Rattle.akl_model.specs.declared.label.Rule.{Rule}
use Rattle.akl_model.specs.declared.label.Label.{Label}
use Rattle.akl_model.specs.Config.{Atom, Config, home_of}
use Rattle.akl_model.specs.Derivations.{Applies}
use Rattle.akl_model.proofs.NamesKept.{Stand}
use Rattle.local_store.specs.Stored.{Stored}
use Rattle.table_laws.specs.Rows.{BoxRow, GoalRow, Table}
use Rattle.table_laws.specs.Unfolds.{Unfolds}
use Rattle.table_laws.specs.Stamped.{Run, IsTableOf}
use Rattle.table_laws.specs.Steps.{joins, Makes}
use Rattle.table_laws.specs.Writes.{IsFresh, Leads, joined_row, after_join, solved_when}
use Rattle.table_laws.proofs.Fresh.{fresh_step}
use Rattle.opened_places.specs.declared.around.Around.{Around}
use Rattle.opened_places.proofs.ListedPlaces.{listed}
use Rattle.opened_places.specs.Exact.{IsAround, AreExactly}
use Rattle.opened_places.proofs.Members.{firsts}
use Rattle.opened_places.proofs.AtSite as site
use Rattle.opened_places.proofs.GoalGoes as goes
use Rattle.opened_places.proofs.GoalTurns.{Comes}
use Rattle.opened_places.proofs.JoinRows.{AreJoined}
use Rattle.opened_places.proofs.JoinRows as join
use Rattle.opened_places.proofs.RowSteps.{same_table, its_row, next_unfolds}

module _ (rules : List Rule) (r : Run) (T : Table) (l : Label) (d : Config) (t : IsTableOf rules r T) (a : Applies rules r.program t.config l d)
    (new : Stored) (solved : Bool) (goals : List (Name × Atom)) (makes : Makes r.program l (slice_index t.config.next l.worker) a.site (joins new solved goals)) where
  abbrev pub U : Table
  U = after_join makes.0 new (solved_when None solved) goals l.worker a.change.drawn T

  leads : Leads T l None a.change.drawn (joins new solved goals) U
  leads = subst (λ (p : Place). Leads T (record l { place = p }) None a.change.drawn (joins new solved goals) U) (sym makes.1) (same_table U)

  pub v : Unfolds U d
  v = next_unfolds rules r T l d t a (joins new solved goals) U makes leads

  fresh : IsFresh T (firsts goals)
  fresh = fresh_step rules r T l d t a (joins new solved goals) makes

  abbrev pub its_box : BoxRow → BoxRow
  its_box = joined_row makes.0 new (solved_when None solved) goals (T.steps + 1)

  pub joined : AreJoined T U makes.0 its_box goals (T.steps + 1)
  joined = record { boxes = λ m. refl; goals_are = λ m. refl; unused = fresh.no_goal }

  before : Stand t.config
  before = site.before rules r.program r.query r.journal t.config l d t.replays a

  later : Stand d
  later = site.afterwards rules r.program r.query r.journal t.config l d t.replays a

  coming : Comes t.config d [] (firsts goals)
  coming = join.coming T U makes.0 its_box goals (T.steps + 1) joined t.config d t.unfolds v before later

  gone : home_of makes.0 d.roots ≡ None
  gone =
      let row : (row : GoalRow) × (T.goal_of makes.0 ≡ Some row) = its_row rules r T U l d t a v makes.0 makes.1 in
      join.gone T U makes.0 its_box goals (T.steps + 1) joined t.config d t.unfolds v before later row.0 row.1

  pub promoted : (x : Around) (k : IsAround T l x) → AreExactly t.config d (listed l.place x (joins new solved goals))
  promoted x k = goes.exactly rules r T l d t a x k makes.0 makes.1 gone (firsts goals) (λ m f i j. coming.box_in m f i j) coming.goal_in coming.in_goal
