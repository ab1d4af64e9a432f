-- A goal tells its box: what the step makes of a table is a table of the run that goes on.
use Rattle.std.proofs.Common.{◌≡◌, ℕ, ◌+◌, ◌≤◌, List, [], ◌∷◌, ◌++◌, length, Bool, true, false, Option, Some, None, refl, sym, ◌∙◌, ap, subst, inr, arith, append_assoc}
use Rattle.std.proofs.lemmas.List.{length-append}
use Rattle.std.specs.Prelude.{slice_index, option_map}
use Rattle.akl_terms.specs.declared.name.Name.{Name}
use Rattle.akl_terms.specs.declared.name.Place.{Place}
use Rattle.akl_terms.specs.declared.term.Node.{Node}
use Rattle.akl_terms.specs.Equal.{Equation, Equations, IsTold}
use Rattle.akl_terms.specs.Standing.{StandFor}
use Rattle.akl_model.specs.declared.label.Rule.{Rule}
use Rattle.akl_model.specs.declared.label.Label.{Label}
use Rattle.akl_model.specs.Config.{Atom, Content, no_boxes, box, Goals, Config, an_atom, held_in, without_goal, box_at, environment, whole}
use Rattle.akl_model.specs.Rules.{becomes}
use Rattle.akl_model.specs.Derivations.{Applies}
use Rattle.akl_model.specs.Changes.{goal_names, constraint_of, constraint_at, Constraint}
use Rattle.akl_model.specs.Wakes.{names_around, names_down_to}
use Rattle.akl_model.proofs.NamesKept.{Stand, replay-stands}
use Rattle.akl_model.proofs.Options.{some_value}
use Rattle.local_store.specs.Stored.{Stored}
use Rattle.local_store.specs.Chained.{IsSolvedChain}
use Rattle.rational_unify.specs.Solving.{bindings_in}
use Rattle.step_laws.proofs.Becomes.{Becomes}
use Rattle.step_laws.proofs.Steps.{site_now, found}
use Rattle.table_laws.specs.Rows.{BoxRow, Table, store_in, stores_along, ports_in}
use Rattle.table_laws.specs.Unfolds.{UnchangedSince, FailsBy, StaysSolved, IsBoxRow, spot_of}
use Rattle.table_laws.specs.Stamped.{Run, followed_by, IsTableOf}
use Rattle.table_laws.specs.Steps.{tells, TellsGoal, IsSolvedWhen, Makes}
use Rattle.table_laws.specs.Writes.{IsTable, less_name, told_row, after_tell, solved_when, Leads}
use Rattle.table_laws.proofs.Stores.{told_along, stores_join, same_stores, unchanged_before}
use Rattle.table_laws.proofs.Frame.{KeepsRows, around_stands, site_around}
use Rattle.table_laws.proofs.Onward.{GoalGoes, LeadsOn, site_row}
use Rattle.table_laws.proofs.Marked.{led}
use Rattle.table_laws.proofs.Reducing.{names_without, fails_without, content_now, goals_now, spot_gone, goals_differ, not_fail}
use Rattle.table_laws.proofs.Reduced.{by_change, ChangesRows}
use Rattle.table_laws.proofs.Reduced as rows
use Rattle.table_laws.proofs.Forked.{raised_same}

some_more : (E F more : Equations) (x : Equation) → E ≡ F → F ≡ E ++ x ∷ more → ⊥
some_more E F more x e q =
    let a : length E ≡ length F = ap length e in
    let b : length F ≡ length (E ++ x ∷ more) = ap length q in
    let c : length (E ++ x ∷ more) ≡ length E + length (x ∷ more) = length-append E (x ∷ more) in
    omega arith

module _ (rules : List Rule) (r : Run) (T U : Table) (l : Label) (d : Config) (t : IsTableOf rules r T) (applies : Applies rules r.program t.config l d) (at : Option ℕ) (new : Stored) (solved : Bool)
    (g : Name) (place : l.place ≡ Place.Goal g) (makes : TellsGoal r.program l (slice_index t.config.next l.worker) applies.site g new) (chain : IsSolvedWhen at T applies.site (tells new solved))
    (leads : IsTable U (after_tell g new (solved_when at solved) l.worker applies.change.drawn T)) where
  abbrev a : Applies rules r.program t.config l d
  a = by_change applies (becomes makes.content (without_goal g applies.site.goals) makes.drawn) makes.reduces.makes

  abbrev was : Atom
  was = makes.reduces.goal

  abbrev held : held_in g a.site.goals ≡ Some (an_atom was)
  held = makes.reduces.held

  is_change : a.change.boxes ≡ box makes.content (without_goal g a.site.goals) no_boxes
  is_change = refl

  abbrev s : Stand t.config
  s = replay-stands rules r.program r.query r.journal t.config t.replays

  abbrev its_box : BoxRow → BoxRow
  its_box v = told_row g new (solved_when at solved) (T.steps + 1) v

  changes : ChangesRows T U g its_box None
  changes = record { nodes = leads.nodes; boxes = leads.boxes; goals = leads.goals; roots = leads.roots; roots_changed = leads.roots_changed; steps = leads.steps }

  abbrev b : Becomes l.worker (slice_index t.config.next l.worker) a.site a.change
  b = rows.b rules r T U l d t a g place was held makes.content None is_change its_box None changes

  content : b.content ≡ makes.content
  content = content_now rules r.program t.config l d s a g place was held makes.content None is_change

  goals : b.goals ≡ without_goal g a.site.goals
  goals = goals_now rules r.program t.config l d s a g place was held makes.content None is_change

  there : box_at a.site.content.name d.roots ≡ Some (site_now b)
  there = rows.there rules r T U l d t a g place was held makes.content None is_change its_box None changes

  abbrev old : (v : BoxRow) × (T.box_of a.site.content.name ≡ Some v) × IsBoxRow T t.config.roots a.site v
  old = rows.old rules r T U l d t a g place was held makes.content None is_change its_box None changes

  row_here : U.box_of a.site.content.name ≡ Some (its_box old.0)
  row_here = rows.row_here rules r T U l d t a g place was held makes.content None is_change its_box None changes

  keeps : KeepsRows a T U
  keeps = rows.keeps rules r T U l d t a g place was held makes.content None is_change its_box None changes

  -- the new store

  all_told : whole a.site ++ makes.first ∷ makes.more ≡ whole (site_now b)
  all_told = append_assoc (environment a.site) a.site.content.equations (makes.first ∷ makes.more) ∙ ap (λ (E : Equations). environment a.site ++ E) (sym makes.equations)
      ∙ ap (λ (k : Content). environment a.site ++ k.equations) (sym content)

  stands : StandFor (IsTold (told_along T (names_around a.site) ++ bindings_in T.nodes new.bindings)) (IsTold (whole (site_now b)))
  stands = subst (λ (nodes : List Node). StandFor (IsTold (told_along T (names_around a.site) ++ bindings_in nodes new.bindings)) (IsTold (whole (site_now b)))) (sym t.nodes)
      (subst (λ (E : Equations). StandFor (IsTold (told_along T (names_around a.site) ++ bindings_in r.program.templates.nodes new.bindings)) (IsTold E)) all_told
      (makes.stands (told_along T (names_around a.site)) (around_stands T t.config s t.unfolds a.site.content.name a.site (found rules r.program t.config l d s a))))

  stores_here : stores_along U (names_down_to (site_now b)) ≡ stores_along T (names_around a.site) ++ new ∷ []
  stores_here = ap (λ (n : Name). stores_along U (names_around a.site ++ n ∷ [])) b.keeps.name ∙ stores_join U (names_around a.site) (a.site.content.name ∷ [])
      ∙ (λ i. same_stores T U (names_around a.site) (λ m x. (site_around rules r.program r.query r.journal t.config l d t.replays a T U t.unfolds keeps b m x).store) i ++ ap store_in row_here i ∷ [])

  is_solved : (o : Option ℕ) (yes : Bool) → IsSolvedWhen o T a.site (tells new yes) → (v : BoxRow) → v.solved_at ≡ solved_when o yes → StaysSolved U (site_now b) v
  is_solved o false x v e = record { within = λ k q. (let z : None ≡ Some k = sym e ∙ q in absurd cc); solved = λ k q y. (let z : None ≡ Some k = sym e ∙ q in absurd cc) }
  is_solved None true x v e = record { within = λ k q. (let z : None ≡ Some k = sym e ∙ q in absurd cc); solved = λ k q y. (let z : None ≡ Some k = sym e ∙ q in absurd cc) }
  is_solved (Some j) true x v e = record {
    within = λ k q. let z : j ≡ k = some_value (sym e ∙ q) in let y : j ≤ T.steps = x.0 in let h : U.steps ≡ T.steps + 1 = leads.steps in omega arith;
    solved = λ k q y.
        let before : UnchangedSince T j (names_around a.site) =
        unchanged_before T U j (names_around a.site) (site_around rules r.program r.query r.journal t.config l d t.replays a T U t.unfolds keeps b)
        (subst (λ (i : ℕ). UnchangedSince U i (names_around (site_now b))) (sym (some_value (sym e ∙ q))) y) in
        subst (λ (nodes : List Node). IsSolvedChain nodes (stores_along U (names_down_to (site_now b)))) (sym leads.nodes) (subst (IsSolvedChain T.nodes) (sym stores_here) (x.1 before));
  }

  site : IsBoxRow U d.roots (site_now b) (its_box old.0)
  site = site_row rules r.program r.query r.journal t.config l d t.replays a T U t.unfolds keeps b old.0 (its_box old.0) old.1 row_here refl
      (makes.frames ∙ ap (λ (k : Content). k.frames) (sym content))
      (ap (λ (nodes : List Node). ports_in nodes new.ports) t.nodes ∙ makes.ports ∙ ap (λ (k : Content). k.ports) (sym content))
      stands
      (is_solved at solved chain (its_box old.0) refl)
      (ap (less_name g) old.2.goals ∙ sym (names_without g a.site.goals) ∙ ap goal_names (sym goals))
      (subst (λ (gs : Goals). FailsBy gs old.0.failing) (sym goals)
      (fails_without g (an_atom was) a.site.goals old.0.failing held (not_fail rules r.program t.config l d s a g place was held makes.content None is_change) old.2.failing))
      refl refl refl

  store_changes : constraint_at a.site.content.name t.config.roots ≡ constraint_at a.site.content.name d.roots → ⊥
  store_changes e =
      let q : constraint_of a.site ≡ constraint_of (site_now b) = some_value (sym (ap (option_map constraint_of) (found rules r.program t.config l d s a)) ∙ e ∙ ap (option_map constraint_of) there) in
      some_more a.site.content.equations b.content.equations makes.more makes.first (ap (λ (k : Constraint). k.equations) q) (ap (λ (k : Content). k.equations) content ∙ makes.equations)

  goes : GoalGoes T U t.config d g
  goes =
      let z : U.goal_of g ≡ None = rows.goal_here rules r T U l d t a g place was held makes.content None is_change its_box None changes in
      inr (ap (option_map spot_of) z ∙ sym (spot_gone rules r.program t.config l d s a g place was held makes.content None is_change refl), λ v h. (let y : None ≡ Some v = sym z ∙ h in absurd cc))

  leads_on : LeadsOn a T U
  leads_on = rows.leads_on rules r T U l d t a g place was held makes.content None is_change its_box None changes site (inr refl)
      (inr (refl, store_changes), inr (refl, goals_differ rules r.program t.config l d s a g place was held makes.content None is_change refl)) goes
      (λ w. leads.next w ∙ raised_same l.worker applies.change.drawn w T.next t.config.next t.unfolds.next ∙ ap (λ (k : Config). slice_index k.next w) applies.result)

  pub told_led : (u : IsTableOf rules (followed_by r l) U) × (u.config ≡ d)
  told_led = led rules r T U l d t a leads_on

-- the law for this step
pub told_step : (rules : List Rule) (r : Run) (T U : Table) (l : Label) (d : Config) (t : IsTableOf rules r T) (a : Applies rules r.program t.config l d) (at : Option ℕ) (new : Stored) (solved : Bool)
    → Makes r.program l (slice_index t.config.next l.worker) a.site (tells new solved) → IsSolvedWhen at T a.site (tells new solved) → Leads T l at a.change.drawn (tells new solved) U
    → (u : IsTableOf rules (followed_by r l) U) × (u.config ≡ d)
told_step rules r T U l d t a at new solved makes chain leads =
    told_led rules r T U l d t a at new solved makes.0 makes.1 makes.2 chain (subst (λ (x : Place). Leads T (record l { place = x }) at a.change.drawn (tells new solved) U) makes.1 leads)
