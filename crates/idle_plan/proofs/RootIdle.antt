-- A root box that isn't ready is idle by its set of goals alone.
use Rattle.std.proofs.Common.{◌≡◌, ◌+◌, false, [], ◌∷◌, length, Some, sym, ◌∙◌, ap, subst, inl, inr, arith}
use Rattle.std.specs.Prelude.{IsSome}
use Rattle.akl_terms.specs.declared.name.Var.{Var}
use Rattle.akl_terms.specs.declared.name.Place.{Place}
use Rattle.akl_model.specs.declared.item.Item.{Item}
use Rattle.akl_model.specs.Config.{box_at, site_of}
use Rattle.akl_model.specs.Wakes.{names_around}
use Rattle.akl_model.proofs.NamesKept.{box-itself}
use Rattle.akl_model.proofs.Scoped.{IsIn-right}
use Rattle.table_laws.specs.Stamped.{stamp_in}
use Rattle.plan_laws.specs.Sleeps.{Needs}
use Rattle.plan_laws.proofs.Roots.{root_unneeded}
use Rattle.box_tree.specs.Tables.{table_of}
use Rattle.box_tree.specs.Views.{ViewValue, IsViewOf}
use Rattle.box_tree.specs.Plans.{IsRead}
use Rattle.guard_plan.proofs.Sites.{store_there, stand, found}
use Rattle.idle_places.specs.Idling.{IsIdle}
use Rattle.idle_plan.specs.Idling.{IsAtRootBox, IsUnready}
use Rattle.idle_plan.specs.Read.{item_of}
use Rattle.idle_plan.proofs.Joined.{path_long}
use Rattle.idle_plan.proofs.MayRead.{root_may_read}
use Rattle.idle_plan.proofs.Outermost.{no_more}
use Rattle.idle_plan.proofs.Paths.{good}
use Rattle.guard_plan.proofs.ReadItems.{set_there}

module _ (v : ViewValue) (i : IsViewOf v) (r : IsAtRootBox v) where
  is_box : box_at r.name i.table.config.roots ≡ Some i.site
  is_box = subst (λ (q : Place). site_of q i.table.config.roots ≡ Some i.site) r.is_box i.is_site

  alone : i.site.around ≡ []
  alone = let e : length v.path ≡ length i.site.around + 1 = path_long v i in no_more i.site.around (omega (arith, e, r.alone))

  unneeded : (x : Var) → Needs v.table.program i.table.config v.place x → ⊥
  unneeded x k = root_unneeded i.table.config (good v i) v.table.program r.name i.site is_box alone x (subst (λ (q : Place). Needs v.table.program i.table.config q x) r.is_box k)

  there : (j : Item) → IsRead (item_of v.place ∷ []) j → IsSome (stamp_in (table_of v.table) j)
  there j (inl e) = subst (λ (k : Item). IsSome (stamp_in (table_of v.table) k)) (sym (e ∙ ap item_of r.is_box)) (set_there (table_of v.table) r.name
      (store_there (table_of v.table) i.table.config (stand v i) i.table.unfolds i.site (found v i) r.name
      (IsIn-right r.name (names_around i.site) (i.site.content.name ∷ []) (inl (box-itself r.name i.table.config.roots i.site is_box)))))
  there j (inr r) = absurd r

  pub root_idle : IsUnready v → IsIdle (record { table = v.table; journal = v.journal; place = v.place; reads = item_of v.place ∷ []; on = []; inside = false })
  root_idle unready = record {
    table = i.table;
    site = i.site;
    is_site = i.is_site;
    unready = unready i;
    enough = record { each = λ x k. absurd (unneeded x k) };
    concern = λ x m. absurd m;
    oldest = record { each = λ f h x w m o. absurd m };
    watches = record { name = r.name; is_box = r.is_box; is_root = alone; goals = inl (sym (ap item_of r.is_box)) };
    there = there;
    only = root_may_read v i r.name r.is_box [];
  }
