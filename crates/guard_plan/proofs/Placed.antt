-- The alternatives that a view shows are the boxes of the choice.
use Rattle.std.proofs.Common.{◌≡◌, List, [], ◌∷◌, ◌++◌, Some, refl, sym, ◌∙◌, ap, subst, inl, inr}
use Rattle.std.specs.List.{AllByRecursion}
use Rattle.akl_terms.specs.declared.name.Name.{Name}
use Rattle.akl_terms.specs.declared.name.Var.{Var}
use Rattle.akl_terms.specs.Equal.{Equations, IsTold, IsQuiet}
use Rattle.akl_terms.specs.Standing.{StandFor}
use Rattle.akl_terms.specs.Touching.{IsLocal, IsOutside}
use Rattle.constraint_laws.specs.Growth.{TellsOver}
use Rattle.akl_model.specs.Config.{Operator, Content, Boxes, no_boxes, box, Goals, a_choice, held_in, Found, environment, whole, box_at}
use Rattle.akl_model.specs.Conditions.{IsQuietBox, GuardHolds}
use Rattle.akl_model.specs.Stable.{only, frames_of, frames_inside}
use Rattle.akl_model.specs.Wakes.{names_around, names_down_to}
use Rattle.akl_model.proofs.QuietGrows.{IsLocal-left, equations-snoc}
use Rattle.akl_model.proofs.ScopesKept.{around_outside}
use Rattle.step_laws.specs.Whereabouts.{BoxIn, Stands}
use Rattle.step_laws.proofs.Whereabouts.{found_in}
use Rattle.step_laws.proofs.Deeper.{in_deeper, names_snoc, named_found}
use Rattle.step_laws.proofs.GoalEdits.{held_inside}
use Rattle.local_store.specs.Stored.{Stored}
use Rattle.table_laws.specs.Rows.{BoxRow, store_in, stores_along, told_in, ports_in}
use Rattle.table_laws.specs.Unfolds.{IsBoxRow}
use Rattle.table_laws.proofs.Stores.{stores_join}
use Rattle.table_laws.proofs.Frame.{row_of}
use Rattle.box_tree.specs.declared.entries.HeldOp.{HeldOp}
use Rattle.box_tree.specs.declared.view.Alternative.{Alternative}
use Rattle.box_tree.specs.Tables.{all_rules, op_held, table_of}
use Rattle.box_tree.specs.Views.{ViewValue, IsViewOf, IsSeen, AreSeen}
use Rattle.guard_plan.specs.Guards.{IsTestable, IsQuietInside, HoldsInside}
use Rattle.guard_plan.proofs.ChoiceNone.{inside_of}
use Rattle.guard_plan.proofs.QuietOver.{quiet_box, quiet_store, keeps_inside, consistent_box, consistent_store}
use Rattle.guard_plan.proofs.Sites.{stand, found, stores_path, whole_stands}

module _ (v : ViewValue) (i : IsViewOf v) where
  -- an alternative that is seen stands in the place's box
  pub record IsPlaced (b : Content) (gs : Goals) (a : Alternative) : Type 0 where
    pub there : box_at b.name i.table.config.roots ≡ Some (inside_of i.site b gs)
    pub seen : IsSeen (table_of v.table) v.stores b gs a

  abbrev pub ArePlaced : Boxes → List Alternative → Type 0
  ArePlaced no_boxes [] = Unit {0}
  ArePlaced (box b gs bs) (a ∷ rest) = IsPlaced b gs a × ArePlaced bs rest
  ArePlaced bs seen = ⊥

  stands_there : (g : Name) (o : Operator) (bs : Boxes) → held_in g i.site.goals ≡ Some (a_choice o bs) → (b : Content) (gs : Goals) → BoxIn [] b gs bs → Stands (inside_of i.site b gs) i.table.config.roots
  stands_there g o bs held b gs h = in_deeper i.site.around i.site.content i.site.goals [] b gs i.table.config.roots (found_in i.site.content.name i.table.config.roots i.site (found v i))
      (held_inside g o bs [] b gs i.site.goals held h)

  pub placed : (g : Name) (o : Operator) (bs : Boxes) → held_in g i.site.goals ≡ Some (a_choice o bs) → (b : Content) (gs : Goals) → BoxIn [] b gs bs → box_at b.name i.table.config.roots ≡ Some (inside_of i.site b gs)
  placed g o bs held b gs h = named_found i.table.config.roots (stand v i).once b.name (inside_of i.site b gs) (stands_there g o bs held b gs h) refl

  pub all_placed : (g : Name) (o : Operator) (bs : Boxes) → held_in g i.site.goals ≡ Some (a_choice o bs) → (cs : Boxes) → ((b : Content) (gs : Goals) → BoxIn [] b gs cs → BoxIn [] b gs bs) → (seen : List Alternative)
      → AreSeen (table_of v.table) v.stores cs seen → ArePlaced cs seen
  all_placed g o bs held no_boxes among [] h = tt
  all_placed g o bs held no_boxes among (a ∷ rest) h = h
  all_placed g o bs held (box b gs cs) among [] h = h
  all_placed g o bs held (box b gs cs) among (a ∷ rest) h = (
    record { there = placed g o bs held b gs (among b gs (inl (refl, refl, refl))); seen = h.0 },
    all_placed g o bs held cs (λ c hs k. among c hs (inr (inr k))) rest h.1,
  )

  -- one of them, by its row
  module _ (b : Content) (gs : Goals) (a : Alternative) (h : IsPlaced b gs a) where
    abbrev alt : Found
    alt = inside_of i.site b gs

    row : (r : BoxRow) × ((table_of v.table).box_of b.name ≡ Some r) × IsBoxRow (table_of v.table) i.table.config.roots (inside_of i.site b gs) r
    row = row_of (table_of v.table) i.table.config i.table.unfolds b.name (inside_of i.site b gs) h.there

    store_is : a.store ≡ row.0.store
    store_is = h.seen.store ∙ ap store_in row.1

    pub frames_are : a.store.frames ≡ b.frames
    frames_are = ap (λ (s : Stored). s.frames) store_is ∙ row.2.frames

    pub ports_are : ports_in v.table.program.templates.nodes a.store.ports ≡ b.ports
    ports_are = ap (λ (s : Stored). ports_in v.table.program.templates.nodes s.ports) store_is ∙ row.2.ports

    around_is : names_around (inside_of i.site b gs) ≡ names_down_to i.site
    around_is = names_snoc i.site.around i.site.content

    stores_are : stores_along (table_of v.table) (names_down_to (inside_of i.site b gs)) ≡ v.stores ++ a.store ∷ []
    stores_are = stores_join (table_of v.table) (names_around (inside_of i.site b gs)) (b.name ∷ [])
        ∙ ap (λ (ns : List Name). stores_along (table_of v.table) ns ++ store_in ((table_of v.table).box_of b.name) ∷ []) around_is
        ∙ ap (λ (ss : List Stored). ss ++ store_in ((table_of v.table).box_of b.name) ∷ []) (sym (stores_path v i))
        ∙ ap (λ (s : Stored). v.stores ++ s ∷ []) (sym h.seen.store)

    pub environment_is : environment (inside_of i.site b gs) ≡ whole i.site
    environment_is = equations-snoc i.site.around i.site.content

    environment_stands : StandFor (IsTold (told_in v.table.program.templates.nodes v.stores)) (IsTold (environment (inside_of i.site b gs)))
    environment_stands = subst (λ (E : Equations). StandFor (IsTold (told_in v.table.program.templates.nodes v.stores)) (IsTold E)) (sym environment_is) (whole_stands v i)

    pub all_stand : StandFor (IsTold (told_in v.table.program.templates.nodes (v.stores ++ a.store ∷ []))) (IsTold (environment (inside_of i.site b gs) ++ b.equations))
    all_stand = subst (λ (ss : List Stored). StandFor (IsTold (told_in v.table.program.templates.nodes ss)) (IsTold (environment (inside_of i.site b gs) ++ b.equations))) stores_are row.2.stands

    local : (y : Var) → IsLocal a.store.frames y → IsLocal (frames_of (only (inside_of i.site b gs))) y
    local y l = IsLocal-left b.frames (frames_inside gs ++ frames_of no_boxes) y (subst (λ (fs : List Name). IsLocal fs y) frames_are l)

    outside : TellsOver (IsOutside (frames_of (only (inside_of i.site b gs)))) (environment (inside_of i.site b gs))
    outside = around_outside all_rules v.table.program v.table.query v.journal i.table.config b.name (inside_of i.site b gs) i.table.replays h.there

    pub testable : IsTestable v.table.program.templates.nodes v.stores a
    testable = record {
      known = h.seen.known;
      apart = keeps_inside v.table.program.templates.nodes v.stores a.store (environment (inside_of i.site b gs)) b.equations environment_stands all_stand (frames_of (only (inside_of i.site b gs))) local outside;
    }

    pub is_quiet : IsQuietInside v.table.program.templates.nodes (v.stores ++ a.store ∷ []) → IsQuietBox (inside_of i.site b gs)
    is_quiet q = subst (λ (fs : List Name). IsQuiet (environment (inside_of i.site b gs)) (IsLocal fs) b.equations) frames_are
        (quiet_box v.table.program.templates.nodes v.stores a.store (environment (inside_of i.site b gs)) b.equations environment_stands all_stand q)

    pub was_quiet : IsQuietBox (inside_of i.site b gs) → IsQuietInside v.table.program.templates.nodes (v.stores ++ a.store ∷ [])
    was_quiet q = quiet_store v.table.program.templates.nodes v.stores a.store (environment (inside_of i.site b gs)) b.equations environment_stands all_stand
        (subst (λ (fs : List Name). IsQuiet (environment (inside_of i.site b gs)) (IsLocal fs) b.equations) (sym frames_are) q)

    pub guard_is : (o : HeldOp) → HoldsInside o v.table.program.templates.nodes (v.stores ++ a.store ∷ []) → GuardHolds (op_held v.table.program.templates.nodes o) (inside_of i.site b gs)
    guard_is HeldOp.Choice c = consistent_box v.table.program.templates.nodes v.stores a.store (environment (inside_of i.site b gs)) b.equations environment_stands all_stand c
    guard_is HeldOp.Condition q = is_quiet q
    guard_is HeldOp.Commit q = is_quiet q
    guard_is (HeldOp.Collect t) h = h

    pub guard_was : (o : HeldOp) → GuardHolds (op_held v.table.program.templates.nodes o) (inside_of i.site b gs) → HoldsInside o v.table.program.templates.nodes (v.stores ++ a.store ∷ [])
    guard_was HeldOp.Choice c = consistent_store v.table.program.templates.nodes v.stores a.store (environment (inside_of i.site b gs)) b.equations environment_stands all_stand c
    guard_was HeldOp.Condition q = was_quiet q
    guard_was HeldOp.Commit q = was_quiet q
    guard_was (HeldOp.Collect t) h = h

  pub all_testable : (cs : Boxes) (seen : List Alternative) → ArePlaced cs seen → AllByRecursion (IsTestable v.table.program.templates.nodes v.stores) seen
  all_testable no_boxes [] h = tt
  all_testable no_boxes (a ∷ rest) h = absurd h
  all_testable (box b gs cs) [] h = absurd h
  all_testable (box b gs cs) (a ∷ rest) h = (testable b gs a h.0, all_testable cs rest h.1)
