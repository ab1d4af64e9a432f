-- What is known of a call before it is found at once.
use Rattle.std.specs.Prelude.{◌≡◌, Bool, true, ℕ, ◌+◌, ◌<◌, ◌^◌, List, [], ◌++◌, length, Some, None, slice_get}
use Rattle.akl_terms.specs.declared.name.Name.{Name}
use Rattle.akl_terms.specs.declared.name.Place.{Place}
use Rattle.akl_terms.specs.declared.program.Definition.{Definition}
use Rattle.akl_model.specs.declared.label.Label.{Label}
use Rattle.akl_model.specs.Config.{Atom, an_atom, held_in}
use Rattle.akl_model.specs.Instances.{terms_from, drawn_by}
use Rattle.local_store.specs.Parts.{ToldStore}
use Rattle.local_store.specs.Chained.{around}
use Rattle.body_goals.specs.declared.body.Body.{Body}
use Rattle.body_goals.specs.Reduced.{IsReduced}
use Rattle.box_tree.specs.Views.{ViewValue, IsViewOf}
use Rattle.call_plan.specs.declared.heads.Arguments.{Arguments}
use Rattle.call_plan.specs.declared.sifting.Left.{Left}
use Rattle.call_plan.specs.Chosen.{IsChosen}
use Rattle.call_plan.specs.Owns.{is_plain, BindsFree, OwnKeepsBound}
use Rattle.call_plan.specs.Sifted.{store_of}
use Rattle.call_plan.specs.Ended.{cuts_others, end_labels}
use Rattle.call_plan.specs.Joins.{Joins}

-- at the place of a view, whose stores are known to be solved, a definition is called whose clauses' alternatives draw so many names
pub record IsCalled (v : ViewValue) (g : Name) (a : Arguments) (called : Definition) (drawn : ℕ) : Type 0 where
  pub seen : IsViewOf v
  pub is_place : v.place ≡ Place.Goal g
  pub definition : ℕ
  pub held : held_in g seen.site.goals ≡ Some (an_atom (Atom.call definition (terms_from v.table.program.templates.nodes a.frame a.first a.count) None))
  pub is_definition : slice_get v.table.program.definitions definition ≡ Some called
  pub drawn_is : drawn ≡ drawn_by called.clauses
  pub few_names : drawn < 2 ^ 32
  pub known : v.known ≡ length v.stores

-- the alternative of one of its clauses may be promoted, after these labels, by which goals of guards were evaluated in alternatives with plain bindings alone or not
pub record Remains (v : ViewValue) (g : Name) (called : Definition) (left : Left) (drawn : ℕ) (labels : List Label) (plainly : Bool) : Type 0 where
  pub arguments : Arguments
  pub is_called : IsCalled v g arguments called drawn
  pub chosen : IsChosen v.table.program.templates.symbols v.table.program.templates.nodes v.stores arguments v.worker v.next called.op called.clauses [] true labels plainly left

-- it joins the box of the call by all labels behind the fork up to its promotion, with few goals
pub record Ends (v : ViewValue) (g : Name) (called : Definition) (left : Left) (drawn : ℕ) (more : List Label) (told : ToldStore) : Type 0 where
  pub before : List Label
  pub plainly : Bool
  pub remains : Remains v g called left drawn before plainly
  pub labels : more ≡ before ++ end_labels g left.name (cuts_others called.op left.behind.now)
  pub joins : Joins v.table.program.templates.nodes v.stores called.op (store_of left) told
  pub free : BindsFree v.stores left.own told.bound
  pub kept : OwnKeepsBound v.stores left.own told.store
  pub few_goals : length left.clause.now.body < 2 ^ 32

-- then goals of its body are reduced, and these are left of it
pub record IsReducedCall (v : ViewValue) (g : Name) (called : Definition) (left : Left) (drawn : ℕ) (more : List Label) (told : ToldStore) (body : Body) : Type 0 where
  pub labels : List Label
  pub joined : ToldStore
  pub ends : Ends v g called left drawn labels joined
  pub reduced : IsReduced v.table.program.templates.symbols v.table.program.templates.nodes (around v.stores) left.frame (v.next + drawn) left.clause.now.body joined told labels more body

-- so it is of some alternative of a clause, with bindings that are plain or not, as those of alternatives in which goals of guards were evaluated; its labels draw so many names, and what is added to the store of the box has the frames of the alternative
pub record IsReducedClause (v : ViewValue) (g : Name) (plain plainly : Bool) (names : ℕ) (more : List Label) (frames : List Name) (told : ToldStore) (body : Body) : Type 0 where
  pub called : Definition
  pub left : Left
  pub drawn : ℕ
  pub call : IsReducedCall v g called left drawn more told body
  pub plain_is : plain ≡ is_plain left.own
  pub plainly_is : plainly ≡ call.ends.plainly
  pub names_are : names ≡ drawn + length left.clause.now.body
  pub named : frames ≡ (store_of left).frames
