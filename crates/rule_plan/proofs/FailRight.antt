-- A plan of Fail is right.
use Rattle.std.proofs.Common.{◌≡◌, List, [], ◌∷◌, Some, None, refl, sym, subst, ◌⊎◌, inl, inr, arith}
use Rattle.std.specs.Prelude.{IsSome, slice_index}
use Rattle.akl_terms.specs.declared.name.Name.{Name}
use Rattle.akl_terms.specs.declared.name.Place.{Place}
use Rattle.akl_terms.specs.declared.name.Var.{Var}
use Rattle.akl_terms.specs.declared.term.Term.{Term}
use Rattle.akl_terms.specs.Template.{tree}
use Rattle.akl_terms.specs.Decided.{DifferInHead}
use Rattle.akl_terms.specs.Equal.{EqualBy, IsConsistent, IsConsistentBy}
use Rattle.akl_model.specs.declared.item.Item.{Item}
use Rattle.akl_model.specs.declared.label.Rule.{Rule}
use Rattle.akl_model.specs.declared.label.Label.{Label}
use Rattle.akl_model.specs.Config.{no_boxes, whole, site_of, box_at}
use Rattle.akl_model.specs.Rules.{nothing, change_by}
use Rattle.akl_model.specs.Conditions.{HasFailed, Makes}
use Rattle.akl_model.specs.Stable.{Allows}
use Rattle.akl_model.specs.Derivations.{Applies, after}
use Rattle.step_laws.proofs.Failing.{failing_found}
use Rattle.local_store.specs.Chained.{ToldBy}
use Rattle.plan_laws.specs.Right.{Reads}
use Rattle.table_laws.specs.Inside.{itself}
use Rattle.table_laws.specs.Unfolds.{FailsBy}
use Rattle.table_laws.proofs.Insides.{directly}
use Rattle.table_laws.specs.Stamped.{stamp_in}
use Rattle.box_tree.specs.declared.step.Step.{Step}
use Rattle.box_tree.specs.declared.view.Sight.{Sight}
use Rattle.box_tree.specs.Tables.{all_rules, table_of}
use Rattle.box_tree.specs.Views.{ViewValue, IsViewOf}
use Rattle.box_tree.specs.Plans.{IsRead, IsRightLabel}
use Rattle.box_tree.proofs.BoundHere.{gone_bound}
use Rattle.rule_plan.specs.Failed.{FailsFor}
use Rattle.box_tree.specs.Insides.{IsItemInside}
use Rattle.guard_plan.specs.ReadAt.{MayRead, PlanMayRead}
use Rattle.guard_plan.specs.Planned.{HasNoRule}
use Rattle.rule_plan.proofs.InForce.{fail_in_force}
use Rattle.rule_plan.proofs.NoRule.{box_none}
use Rattle.guard_plan.proofs.Sites.{goal_there, box_there, stand, found, whole_stands, shows_at}
use Rattle.table_laws.proofs.StoreChains.{told_stands}

abbrev pub fail_label : ViewValue → Label
fail_label v = record { rule = Rule.Fail; place = v.place; alternative = None; worker = v.worker }

module _ (v : ViewValue) (item : Item) (f : FailsFor v item) where
  allowed : Reads (λ k. k ≡ item) Rule.Fail (Place.Box f.name) None f.seen.site → (IsConsistent (whole f.seen.site) → ⊥) ⊎ HasFailed f.seen.site.goals
  allowed (inl x) = inl x.0
  allowed (inr x) = inr (failing_found x.0 f.seen.site.goals x.1 x.2 x.3)

  makes : Makes (Allows v.table.program) v.table.program (slice_index f.seen.table.config.next v.worker) (fail_label v) f.seen.site (record { boxes = no_boxes; drawn = 0 })
  makes = record {
    reading = nothing;
    change = subst (λ (q : Place). change_by v.table.program nothing v.worker (slice_index f.seen.table.config.next v.worker) Rule.Fail q None f.seen.site ≡ Some (record { boxes = no_boxes; drawn = 0 })) (sym f.is_place) refl;
    allowed = subst (λ (q : Place). Allows v.table.program nothing Rule.Fail q None f.seen.site) (sym f.is_place) (allowed f.reads);
    few_names = omega arith;
  }

  read : Reads (λ k. k ≡ item) Rule.Fail (Place.Box f.name) None f.seen.site → Reads (IsRead (item ∷ [])) Rule.Fail (Place.Box f.name) None f.seen.site
  read (inl x) = inl (x.0, inl x.1)
  read (inr x) = inr (x.0, x.1, x.2, x.3, inl x.4)

  there : Reads (λ k. k ≡ item) Rule.Fail (Place.Box f.name) None f.seen.site → IsSome (stamp_in (table_of v.table) item)
  there (inl x) = subst (λ (k : Item). IsSome (stamp_in (table_of v.table) k)) x.1
      (box_there (table_of v.table) f.seen.table.config (stand v f.seen) f.seen.table.unfolds f.seen.site (found v f.seen) f.name f.seen.site
      (subst (λ (q : Place). site_of q f.seen.table.config.roots ≡ Some f.seen.site) f.is_place f.seen.is_site))
  there (inr x) = subst (λ (k : Item). IsSome (stamp_in (table_of v.table) k)) x.4
      (goal_there (table_of v.table) f.seen.table.config (stand v f.seen) f.seen.table.unfolds f.seen.site (found v f.seen) x.0 x.1 x.2)

  abbrev applies : Applies all_rules v.table.program f.seen.table.config (fail_label v) (after f.seen.table.config (fail_label v) f.seen.site (record { boxes = no_boxes; drawn = 0 }))
  applies = record { in_force = fail_in_force; site = f.seen.site; is_site = f.seen.is_site; change = record { boxes = no_boxes; drawn = 0 }; makes = makes; result = refl }

  pub fail_right : IsRightLabel (record { table = v.table; journal = v.journal; label = fail_label v; more = []; reads = item ∷ []; names = 0; step = Step.Fail; binds = [] })
  fail_right = record {
    table = f.seen.table;
    result = after f.seen.table.config (fail_label v) f.seen.site (record { boxes = no_boxes; drawn = 0 });
    applies = applies;
    makes = refl;
    solved = tt;
    names = refl;
    reads = subst (λ (q : Place). Reads (IsRead (item ∷ [])) Rule.Fail q None f.seen.site) (sym f.is_place) (read f.reads);
    binds = gone_bound all_rules v.table.program f.seen.table.config (fail_label v) (after f.seen.table.config (fail_label v) f.seen.site (record { boxes = no_boxes; drawn = 0 })) (stand v f.seen) applies refl;
    there = λ j h. elim h [ inl e ↦ subst (λ (k : Item). IsSome (stamp_in (table_of v.table) k)) (sym e) (there f.reads) | inr z ↦ absurd z ];
  }

  -- it stands in the box
  pub fail_reads : IsItemInside (table_of v.table) f.name item
  fail_reads = on f.reads
    where
      is_box : box_at f.name f.seen.table.config.roots ≡ Some f.seen.site
      is_box = subst (λ (q : Place). site_of q f.seen.table.config.roots ≡ Some f.seen.site) f.is_place f.seen.is_site

      on : Reads (λ k. k ≡ item) Rule.Fail (Place.Box f.name) None f.seen.site → IsItemInside (table_of v.table) f.name item
      on (inl x) = subst (IsItemInside (table_of v.table) f.name) x.1 itself
      on (inr x) = subst (IsItemInside (table_of v.table) f.name) x.4 (record {
        box = f.name;
        inside = itself;
        goal = directly (table_of v.table) f.seen.table.config f.seen.table.unfolds (stand v f.seen).once f.name x.0 f.seen.site x.1 is_box x.2;
      })

  pub fail_may : (binds : List Var) (reads : List Item) → reads ≡ item ∷ [] → (j : Item) → IsRead reads j → PlanMayRead v binds j
  fail_may binds reads is j r = subst (λ (q : Place). MayRead v q binds j) (sym f.is_place)
      (elim (subst (λ (l : List Item). IsRead l j) is r) [ inl e ↦ inl (subst (IsItemInside (table_of v.table) f.name) (sym e) fail_reads) | inr z ↦ absurd z ])

-- a box that fails by a goal
pub fails_by_goal : (v : ViewValue) (i : IsViewOf v) (n g : Name) → v.place ≡ Place.Box n → v.sight ≡ Sight.Box (Some g) → FailsFor v (Item.Goal g)
fails_by_goal v i n g p s = let w : FailsBy i.site.goals (Some g) = shows_at v i (Place.Box n) (Sight.Box (Some g)) p s in
    record { seen = i; name = n; is_place = p; reads = inr (g, w.0, w.1, w.2, refl) }

-- a box whose stores are inconsistent
pub fails_told : (v : ViewValue) (i : IsViewOf v) (n : Name) → v.place ≡ Place.Box n → (IsConsistentBy (ToldBy v.table.program.templates.nodes v.stores) → ⊥) → FailsFor v (Item.Store n)
fails_told v i n p bad = record { seen = i; name = n; is_place = p; reads = inl (λ c. bad ((told_stands v.table.program.templates.nodes v.stores).back ((whole_stands v i).back c)), refl) }

-- as two terms show
pub fails_by_clash : (v : ViewValue) (i : IsViewOf v) (n : Name) (left right : Term) → v.place ≡ Place.Box n
    → EqualBy (ToldBy v.table.program.templates.nodes v.stores) (tree v.table.program.templates.nodes left) (tree v.table.program.templates.nodes right)
    → DifferInHead (tree v.table.program.templates.nodes left) (tree v.table.program.templates.nodes right) → FailsFor v (Item.Store n)
fails_by_clash v i n left right p e d = fails_told v i n p (λ k. d.differ (k.heads e d.is_left d.is_right))

pub consistent_none : (v : ViewValue) (i : IsViewOf v) (n : Name) → v.place ≡ Place.Box n → v.sight ≡ Sight.Box None
    → IsConsistentBy (ToldBy v.table.program.templates.nodes v.stores) → HasNoRule v
consistent_none v i n p s c = box_none v i n p (shows_at v i (Place.Box n) (Sight.Box None) p s)
    ((whole_stands v i).to ((told_stands v.table.program.templates.nodes v.stores).to c))
