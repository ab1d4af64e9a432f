-- Whether a label binds a variable that is external to its box is seen by the store that its step gives the box.
use Rattle.std.proofs.Common.{◌≡◌, ℕ, List, Bool, Some, refl, sym, ◌∙◌, ap, subst, inl, inr}
use Rattle.std.specs.Prelude.{slice_index}
use Rattle.akl_terms.specs.declared.name.Name.{Name}
use Rattle.akl_terms.specs.declared.name.Var.{Var}
use Rattle.akl_model.specs.declared.label.Rule.{Rule}
use Rattle.akl_model.specs.declared.label.Label.{Label}
use Rattle.akl_model.specs.Config.{Atom, Content, Boxes, no_boxes, box, Goals, an_atom, with_content, without_goal, Config, Found, box_at}
use Rattle.akl_model.specs.Rules.{Change, becomes, joining}
use Rattle.akl_model.specs.Instances.{with_atoms}
use Rattle.akl_model.specs.Conditions as conditions
use Rattle.akl_model.specs.Stable.{Allows}
use Rattle.akl_model.specs.Derivations.{Applies}
use Rattle.akl_model.proofs.Options.{some_value}
use Rattle.akl_model.proofs.NamesKept.{Stand, replay-stands}
use Rattle.step_laws.proofs.Steps.{found, made, site_now, site_there}
use Rattle.local_store.specs.Stored.{Stored}
use Rattle.plan_laws.specs.BoundAgain.{AddsNone}
use Rattle.plan_laws.proofs.BoundAgain.{binds_none}
use Rattle.table_laws.specs.Rows.{Table}
use Rattle.table_laws.specs.Stamped.{Run, IsTableOf}
use Rattle.table_laws.specs.Steps.{Step, tells, forks, fails, cuts, joins, refutes, confirms, splits, TellsGoal, JoinsGoal, Makes}
use Rattle.table_laws.proofs.Reduced.{by_change}
use Rattle.table_laws.proofs.Promoting.{joined_change}
use Rattle.step_laws.specs.Bound.{AreBoundIn}
use Rattle.binding_laws.specs.Bindings.{BindsOutside, HasOuter, HasOuterIn}
use Rattle.binding_laws.proofs.ListedOutside.{listed_outside}

module _ (rules : List Rule) (r : Run) (T : Table) (l : Label) (d : Config) (t : IsTableOf rules r T) (a : Applies rules r.program t.config l d) where
  abbrev next : ℕ
  next = slice_index t.config.next l.worker

  abbrev n : Name
  n = a.site.content.name

  s : Stand t.config
  s = replay-stands rules r.program r.query r.journal t.config t.replays

  -- the box of the place afterwards, by what the label makes of it
  module _ (change : Change) (makes : conditions.Makes (Allows r.program) r.program (slice_index t.config.next l.worker) l a.site change) (b : Content) (gs : Goals) (rest : Boxes) (boxes : change.boxes ≡ box b gs rest) where
    abbrev x : Applies rules r.program t.config l d
    x = by_change a change makes

    there : (f : Found) × (box_at n d.roots ≡ Some f) × (f.content ≡ b)
    there = elim (made rules r.program t.config l d s x) [
      | inl z ↦ (let q : no_boxes ≡ box b gs rest = sym z.1 ∙ boxes in absurd cc)
      | inr w ↦ (let q : box b gs rest ≡ box w.0.content w.0.goals w.0.rest = sym boxes ∙ w.0.is_change in (site_now w.0, site_there rules r.program t.config l d s x w.0, cc))
    ]

    here : (f : Found) → box_at n d.roots ≡ Some f → f.content ≡ b
    here f e = ap (λ (g : Found). g.content) (some_value (sym e ∙ there.1)) ∙ there.2

    -- where the content is the same nothing is bound
    unbound : b ≡ a.site.content → BindsOutside t.config d n → ⊥
    unbound same y = y.binds.adds.more (ap (λ (k : Content). k.equations) (here y.binds.adds.afterwards y.binds.adds.is ∙ same)
        ∙ ap (λ (g : Found). g.content.equations) (some_value (sym (found rules r.program t.config l d s a) ∙ y.binds.adds.was)))

    -- and where its frames are these, it is seen by them
    module _ (list : List Var) (bound : AreBoundIn t.config d a.site list) (frames : List Name) (same : frames ≡ b.frames) where
      has_outer : BindsOutside t.config d n → HasOuter list frames
      has_outer y = subst (HasOuter list) (ap (λ (k : Content). k.frames) (here y.binds.adds.afterwards y.binds.adds.is) ∙ sym same)
          ((listed_outside rules r.program r.query r.journal t.config l d t.replays a list bound y.binds.adds.afterwards y.binds.adds.is).0 y)

      binds_outside : HasOuter list frames → BindsOutside t.config d n
      binds_outside y = (listed_outside rules r.program r.query r.journal t.config l d t.replays a list bound there.0 there.1).1 (subst (HasOuter list) (same ∙ sym (ap (λ (k : Content). k.frames) there.2)) y)

  none : AddsNone l.rule → BindsOutside t.config d n → ⊥
  none z y = binds_none rules r.program r.query r.journal t.config l d t.replays a z y.variable y.binds

  abbrev IsSeen : List Var → Step → Type 0
  IsSeen list step = (BindsOutside t.config d n → HasOuterIn list step) × (HasOuterIn list step → BindsOutside t.config d n)

  module _ (list : List Var) (bound : AreBoundIn t.config d a.site list) where
    tell_seen : (new : Stored) (solved : Bool) → Makes r.program l (slice_index t.config.next l.worker) a.site (tells new solved) → IsSeen list (tells new solved)
    tell_seen new solved makes =
        let m : TellsGoal r.program l next a.site makes.0 new = makes.2 in
        let change : Change = becomes m.content (without_goal makes.0 a.site.goals) m.drawn in (
          has_outer change m.reduces.makes m.content (without_goal makes.0 a.site.goals) no_boxes refl list bound new.frames m.frames,
          binds_outside change m.reduces.makes m.content (without_goal makes.0 a.site.goals) no_boxes refl list bound new.frames m.frames,
        )

    join_seen : (new : Stored) (solved : Bool) (goals : List (Name × Atom)) → Makes r.program l (slice_index t.config.next l.worker) a.site (joins new solved goals) → IsSeen list (joins new solved goals)
    join_seen new solved goals makes =
        let m : JoinsGoal r.program l next a.site makes.0 new goals = makes.2 in
        let made : Goals = with_atoms l.worker next m.joined.body (without_goal makes.0 a.site.goals) in
        let change : (drawn : ℕ) × (a.change ≡ becomes (joining m.joined a.site.content) made drawn) =
        joined_change r.program a.makes.reading next makes.0 l a.site a.change m.operator m.alternatives m.joined makes.1 m.held m.origin a.makes.change in (
          has_outer a.change a.makes (joining m.joined a.site.content) made no_boxes (ap (λ (k : Change). k.boxes) change.1) list bound new.frames m.frames,
          binds_outside a.change a.makes (joining m.joined a.site.content) made no_boxes (ap (λ (k : Change). k.boxes) change.1) list bound new.frames m.frames,
        )

    pub seen : (step : Step) → Makes r.program l (slice_index t.config.next l.worker) a.site step → IsSeen list step
    seen (tells new solved) makes = tell_seen new solved makes
    seen (joins new solved goals) makes = join_seen new solved goals makes
    seen (forks op news) makes = (none (subst AddsNone (sym makes.0) tt), λ z. absurd z)
    seen fails makes = (none (subst AddsNone (sym makes) tt), λ z. absurd z)
    seen cuts makes = (none (subst AddsNone (sym makes.0) tt), λ z. absurd z)
    seen (splits copy copies) makes = (none (subst AddsNone (sym makes.0) tt), λ z. absurd z)
    seen refutes makes = (unbound (becomes a.site.content (with_content makes.1.0 (an_atom Atom.fail) a.site.goals) 0) makes.1.2.makes a.site.content (with_content makes.1.0 (an_atom Atom.fail) a.site.goals) no_boxes refl refl, λ z. absurd z)
    seen confirms makes = (unbound (becomes a.site.content (without_goal makes.1.0 a.site.goals) 0) makes.1.2.makes a.site.content (without_goal makes.1.0 a.site.goals) no_boxes refl refl, λ z. absurd z)

pub step_outside : (rules : List Rule) (r : Run) (T : Table) (l : Label) (d : Config) (t : IsTableOf rules r T) (a : Applies rules r.program t.config l d) (step : Step)
    → Makes r.program l (slice_index t.config.next l.worker) a.site step → (list : List Var) → AreBoundIn t.config d a.site list
    → (BindsOutside t.config d a.site.content.name → HasOuterIn list step) × (HasOuterIn list step → BindsOutside t.config d a.site.content.name)
step_outside rules r T l d t a step makes list bound = seen rules r T l d t a list bound step makes
