-- An atom goes or becomes another one, and its row changes with that of its box: what the next table has.
use Rattle.std.proofs.Common.{◌≡◌, ℕ, ◌+◌, List, Bool, true, false, Option, Some, None, refl, sym, ◌∙◌, ap, subst, ◌⊎◌, inl, inr}
use Rattle.std.specs.Prelude.{slice_index, option_map}
use Rattle.akl_terms.specs.declared.name.Name.{Name}
use Rattle.akl_terms.specs.declared.name.Place.{Place}
use Rattle.akl_terms.specs.declared.program.Program.{Program}
use Rattle.akl_terms.specs.Names.{same_name}
use Rattle.akl_terms.proofs.SameNames.{same_name-refl, same_name-equal}
use Rattle.akl_model.specs.declared.item.Item.{Item}
use Rattle.akl_model.specs.declared.label.Rule.{Rule}
use Rattle.akl_model.specs.declared.label.Label.{Label}
use Rattle.akl_model.specs.Config.{Atom, Content, no_boxes, box, Config, an_atom, held_in, Found, box_at}
use Rattle.akl_model.specs.Rules.{Change}
use Rattle.akl_model.specs.Conditions.{Makes}
use Rattle.akl_model.specs.Stable.{Allows}
use Rattle.akl_model.specs.Derivations.{after, Applies}
use Rattle.akl_model.specs.Changes.{of_atom, box_names, by_store, Changes}
use Rattle.akl_model.proofs.NamesKept.{Stand, replay-stands}
use Rattle.akl_model.proofs.Options.{none_or, some_value}
use Rattle.akl_model.proofs.Results.{Applies-one}
use Rattle.step_laws.specs.ChangedItems.{IsReplaced}
use Rattle.step_laws.proofs.Becomes.{Becomes}
use Rattle.step_laws.proofs.Steps.{site_now, found}
use Rattle.table_laws.specs.Rows.{BoxRow, GoalRow, Table}
use Rattle.table_laws.specs.Unfolds.{FailsBy, IsBoxRow}
use Rattle.table_laws.specs.Stamped.{Run, IsTableOf}
use Rattle.table_laws.specs.Writes.{set, home_in, changed_box}
use Rattle.table_laws.proofs.Sets.{turned, set_here, set_other}
use Rattle.table_laws.proofs.Insides.{goal_row}
use Rattle.table_laws.proofs.Along.{same_roots}
use Rattle.table_laws.proofs.Stores.{IsAsTold}
use Rattle.table_laws.proofs.Frame.{neither, row_of, KeepsRows, KeepsBoxes}
use Rattle.table_laws.proofs.Onward.{IsMark, GoalGoes, LeadsOn, fails_as}
use Rattle.table_laws.proofs.Reducing.{reduced, held_atom, home_was, reduces_to, now_there, not_replaced, stays_there, was_there, shape_stays}

-- the label applies by a change that it makes of the box of its place
abbrev pub by_change : {rules : List Rule} {p : Program} {c : Config} {l : Label} {d : Config} (a : Applies rules p c l d) (change : Change) → Makes (Allows p) p (slice_index c.next l.worker) l a.site change → Applies rules p c l d
by_change {rules} {p} {c} {l} {d} a change makes =
    let b : Applies rules p c l (after c l a.site change) = record { in_force = a.in_force; site = a.site; is_site = a.is_site; change = change; makes = makes; result = refl } in
    record { in_force = a.in_force; site = a.site; is_site = a.is_site; change = change; makes = makes; result = Applies-one b a }

-- the next table has other rows of a goal and of its box alone
pub record ChangesRows (T U : Table) (g : Name) (its_box : BoxRow → BoxRow) (goal : Option GoalRow) : Type 0 where
  pub nodes : U.nodes ≡ T.nodes
  pub boxes : (n : Name) → U.box_of n ≡ changed_box (home_in (T.goal_of g)) its_box T.box_of n
  pub goals : (i : Name) → U.goal_of i ≡ set g goal T.goal_of i
  pub roots : U.roots ≡ T.roots
  pub roots_changed : U.roots_changed ≡ T.roots_changed
  pub steps : U.steps ≡ T.steps + 1

module _ (rules : List Rule) (r : Run) (T U : Table) (l : Label) (d : Config) (t : IsTableOf rules r T) (a : Applies rules r.program t.config l d) (g : Name) (place : l.place ≡ Place.Goal g) (was : Atom)
    (held : held_in g a.site.goals ≡ Some (an_atom was)) (now : Content) (o : Option Atom) (is_change : a.change.boxes ≡ box now (reduced (held_atom o) g a.site.goals) no_boxes)
    (its_box : BoxRow → BoxRow) (goal : Option GoalRow) (changes : ChangesRows T U g its_box goal) where
  abbrev s : Stand t.config
  s = replay-stands rules r.program r.query r.journal t.config t.replays

  abbrev pub b : Becomes l.worker (slice_index t.config.next l.worker) a.site a.change
  b = reduces_to rules r.program t.config l d s a g place was held now o is_change

  pub there : box_at a.site.content.name d.roots ≡ Some (site_now b)
  there = now_there rules r.program t.config l d s a g place was held now o is_change

  whole_box : IsReplaced a → ⊥
  whole_box = not_replaced rules r.program t.config l d s a g place was held now o is_change

  pub its_row : (row : GoalRow) × (T.goal_of g ≡ Some row) × (row.home ≡ a.site.content.name) × (row.shape ≡ of_atom was)
  its_row = goal_row T t.config t.unfolds s.once g a.site (an_atom was) (home_was rules r.program t.config l d s a g place was held now o is_change) held

  home : home_in (T.goal_of g) ≡ Some a.site.content.name
  home = ap home_in its_row.1 ∙ ap Some its_row.2

  box_here : U.box_of a.site.content.name ≡ option_map its_box (T.box_of a.site.content.name)
  box_here = changes.boxes a.site.content.name ∙ ap (λ (n : Option Name). changed_box n its_box T.box_of a.site.content.name) home
      ∙ set_here a.site.content.name a.site.content.name (option_map its_box (T.box_of a.site.content.name)) T.box_of (same_name-refl a.site.content.name)

  box_other : (n : Name) → same_name a.site.content.name n ≡ false → U.box_of n ≡ T.box_of n
  box_other n apart = changes.boxes n ∙ ap (λ (m : Option Name). changed_box m its_box T.box_of n) home
      ∙ set_other a.site.content.name n (option_map its_box (T.box_of a.site.content.name)) T.box_of (turned a.site.content.name n apart)

  pub old : (v : BoxRow) × (T.box_of a.site.content.name ≡ Some v) × IsBoxRow T t.config.roots a.site v
  old = row_of T t.config t.unfolds a.site.content.name a.site (found rules r.program t.config l d s a)

  pub row_here : U.box_of a.site.content.name ≡ Some (its_box old.0)
  row_here = box_here ∙ ap (option_map its_box) old.1

  pub goal_here : U.goal_of g ≡ goal
  goal_here = changes.goals g ∙ set_here g g goal T.goal_of (same_name-refl g)

  pub keeps : KeepsRows a T U
  keeps = record {
    nodes = changes.nodes;
    steps = changes.steps;
    rows = λ n e f v apart i j k. (
      v.failing,
      box_other n apart ∙ k,
      fails_as rules r.program r.query r.journal t.config l d t.replays a T U t.unfolds n e f v.failing apart i j (λ h m bs x y z. whole_box x) (old_fails n e v i k),
    );
  }
    where
      old_fails : (n : Name) (e : Found) (v : BoxRow) → box_at n t.config.roots ≡ Some e → T.box_of n ≡ Some v → FailsBy e.goals v.failing
      old_fails n e v i k =
          let w : (w : BoxRow) × (T.box_of n ≡ Some w) × IsBoxRow T t.config.roots e w = row_of T t.config t.unfolds n e i in
          subst (λ (z : BoxRow). FailsBy e.goals z.failing) (some_value (sym w.1 ∙ k)) w.2.failing

  -- where the rows of the box and of the goal are right
  module _ (site : IsBoxRow U d.roots (site_now b) (its_box old.0)) (store : IsAsTold T U a.site.content.name ⊎ ((its_box old.0).changed ≡ T.steps + 1))
      (marks : IsMark T.steps (Changes by_store t.config d (Item.Store a.site.content.name)) old.0.changed (its_box old.0).changed
      × IsMark T.steps (Changes by_store t.config d (Item.Goals a.site.content.name)) old.0.goals_changed (its_box old.0).goals_changed)
      (goes : GoalGoes T U t.config d g) (next : (w : ℕ) → slice_index U.next w ≡ slice_index d.next w) where
    boxes : KeepsBoxes a T U
    boxes = record {
      keeps = keeps;
      site = λ f j. (its_box old.0, row_here, subst (λ (k : Found). IsBoxRow U d.roots k (its_box old.0)) (some_value (sym there ∙ j)) site, store);
    }

    goal_goes : (i : Name) → GoalGoes T U t.config d i
    goal_goes i = on (same_name i g) refl
      where
        on : (v : Bool) → same_name i g ≡ v → GoalGoes T U t.config d i
        on true e = subst (GoalGoes T U t.config d) (sym (same_name-equal i g e)) goes
        on false e = inl (changes.goals i ∙ set_other g i goal T.goal_of e, shape_stays rules r.program t.config l d s a g place was held now o is_change i e)

    pub leads_on : LeadsOn a T U
    leads_on = record {
      boxes = boxes;
      site_marks = λ v k i j.
          subst (λ (x : BoxRow). IsMark T.steps (Changes by_store t.config d (Item.Store a.site.content.name)) x.changed k.changed × IsMark T.steps (Changes by_store t.config d (Item.Goals a.site.content.name)) x.goals_changed k.goals_changed)
          (some_value (sym old.1 ∙ i))
          (subst (λ (x : BoxRow). IsMark T.steps (Changes by_store t.config d (Item.Store a.site.content.name)) old.0.changed x.changed × IsMark T.steps (Changes by_store t.config d (Item.Goals a.site.content.name)) old.0.goals_changed x.goals_changed)
          (some_value (sym row_here ∙ j)) marks);
      new_boxes = λ n f i j.
          let w : (e : Found) × (box_at n t.config.roots ≡ Some e) = was_there rules r.program t.config l d s a g place was held now o is_change n f j in
          let z : box_at n t.config.roots ≡ Some w.0 = w.1 in
          absurd cc;
      gone_boxes = λ n j. none n j (none_or (box_at n t.config.roots));
      goals = goal_goes;
      roots = changes.roots ∙ t.unfolds.roots ∙ same;
      root_mark = inl (changes.roots_changed, λ h. h same);
      next = next;
    }
      where
        same : box_names t.config.roots ≡ box_names d.roots
        same = same_roots rules r.program t.config l d s a whole_box

        none : (n : Name) → box_at n d.roots ≡ None → (box_at n t.config.roots ≡ None) ⊎ ((e : Found) × (box_at n t.config.roots ≡ Some e)) → U.box_of n ≡ None
        none n j (inr (e, i)) =
            let w : (f : Found) × (box_at n d.roots ≡ Some f) = stays_there rules r.program t.config l d s a g place was held now o is_change n e i in
            let z : box_at n d.roots ≡ Some w.0 = w.1 in
            absurd cc
        none n j (inl i) = by (same_name a.site.content.name n) refl
          where
            by : (v : Bool) → same_name a.site.content.name n ≡ v → U.box_of n ≡ None
            by true e =
                let z : box_at n t.config.roots ≡ Some a.site = subst (λ (k : Name). box_at k t.config.roots ≡ Some a.site) (same_name-equal a.site.content.name n e) (found rules r.program t.config l d s a) in
                absurd cc
            by false e = box_other n e ∙ neither (IsBoxRow T t.config.roots) (box_at n t.config.roots) (T.box_of n) (t.unfolds.boxes n) i
