-- What is listed view by view is what a box touches, and the boxes inside it.
use Rattle.std.proofs.Common.{◌≡◌, ℕ, List, [], ◌∷◌, ◌++◌, Some, refl, sym, ◌∙◌, ap, subst, inl, inr, append_assoc, append-nil}
use Rattle.std.specs.List.{AllByRecursion}
use Rattle.akl_terms.specs.declared.name.Var.{Var}
use Rattle.akl_terms.specs.declared.name.Place.{Place}
use Rattle.akl_terms.specs.declared.program.Program.{Program}
use Rattle.akl_terms.specs.Tree.{variable}
use Rattle.akl_terms.specs.Equal.{Equal, IsConsistent}
use Rattle.akl_model.specs.Config.{an_atom, Found, environment, whole, site_of}
use Rattle.akl_model.specs.Stable.{only, frames_of, TouchesFrom, by_equations, by_waiting}
use Rattle.akl_model.proofs.NamesKept.{Stand, replay-stands}
use Rattle.step_laws.proofs.Deeper.{home_found}
use Rattle.constraint_laws.specs.Touched.{IsAmong}
use Rattle.local_store.specs.Stored.{Stored, nothing}
use Rattle.local_store.proofs.Among.{among-either, among-left, among-right}
use Rattle.box_tree.specs.declared.inside.Inside.{Inside}
use Rattle.box_tree.specs.Tables.{all_rules, table_of}
use Rattle.box_tree.specs.Views.{ViewValue}
use Rattle.box_tree.specs.Insides.{IsPlaceInside, IsViewInside, HasView}
use Rattle.guard_plan.proofs.Sites.{stand}
use Rattle.stable_test.specs.Frames.{with_all_frames}
use Rattle.stable_test.specs.Seen.{IsSeenInside}
use Rattle.stable_test.specs.Inner.{IsInnerView, TouchesAt, AreTouchedByPlace, ListsTouched, IsTouchedInside, AreTouchedInside, ListedBy}
use Rattle.stable_test.proofs.EachInside.{IsDown}
use Rattle.stable_test.proofs.SomeInside.{down_some, some_down}
use Rattle.stable_test.proofs.PathStores.{is_inside, goal_inside_down}
use Rattle.stable_test.proofs.StableViews.{there, down, same_site}

-- one view more
pub listed_push : (p : Program) (depth : ℕ) (frames : Stored) (vs : List ViewValue) (list : List Var) (v : ViewValue) (more : List Var) → ListedBy p depth frames vs list
    → ((s : IsInnerView p depth frames v) → ListsTouched p depth frames v s more) → ListedBy p depth frames (vs ++ v ∷ []) (list ++ more)
listed_push p depth frames [] list v more h f = (more, [], ap (λ (l : List Var). l ++ more) h ∙ sym (append-nil more), f, refl)
listed_push p depth frames (w ∷ vs) list v more h f = (h.0, h.1 ++ more, ap (λ (l : List Var). l ++ more) h.2 ∙ append_assoc h.0 h.1 more, h.3, listed_push p depth frames vs h.1 v more h.4 f)

module _ (p : Program) (depth : ℕ) (i : Inside) (s : IsSeenInside p depth i) where
  stands : Stand s.run.config
  stands = replay-stands all_rules s.table.program s.table.query s.journal s.run.config s.run.replays

  abbrev seen_here : (v : ViewValue) → IsViewInside s.table s.journal s.name s.worker v → IsInnerView p depth (with_all_frames nothing i.boxes.items) v
  seen_here v w = record { inside = i; seen = s; all_frames = refl; view = w }

  -- each listed variable is touched
  touched_each : (vs : List ViewValue) → AllByRecursion (IsViewInside s.table s.journal s.name s.worker) vs → (list : List Var) → ListedBy p depth (with_all_frames nothing i.boxes.items) vs list
      → (x : Var) → IsAmong x list → IsTouchedInside p s.site x
  touched_each [] a list h x m = absurd (subst (IsAmong x) h m)
  touched_each (v ∷ vs) a list h x m = elim (among-either h.0 h.1 x (subst (IsAmong x) h.2 m)) [
    | inl k ↦
        let t : AreTouchedByPlace p (frames_of (only s.site)) (environment s.site) a.0.seen.site v.place h.0 = h.3 (seen_here v a.0) in
        down_some a.0.seen.table.config (stand v a.0.seen) s.name s.site (there p depth i s v a.0) (λ (d : Found). IsConsistent (whole d) × TouchesFrom p (frames_of (only s.site)) (environment s.site) d x)
        a.0.seen.site (down p depth i s v a.0) (t.consistent x k, t.each x k)
    | inr k ↦ touched_each vs a.1 h.1 h.4 x k
  ]

  -- a view of a place, with what was listed there
  record HasListed (place : Place) (list : List Var) : Type 0 where
    view : ViewValue
    is_place : view.place ≡ place
    here : IsViewInside s.table s.journal s.name s.worker view
    part : List Var
    lists : AreTouchedByPlace p (frames_of (only s.site)) (environment s.site) here.seen.site view.place part
    within : (y : Var) → IsAmong y part → IsAmong y list

  look : (vs : List ViewValue) (place : Place) → HasView vs place → AllByRecursion (IsViewInside s.table s.journal s.name s.worker) vs → (list : List Var)
      → ListedBy p depth (with_all_frames nothing i.boxes.items) vs list → HasListed place list
  look [] place k a list h = absurd k
  look (v ∷ vs) place (inl e) a list h = record {
    view = v;
    is_place = e;
    here = a.0;
    part = h.0;
    lists = h.3 (seen_here v a.0);
    within = λ y m. subst (IsAmong y) (sym h.2) (among-left h.0 h.1 y m);
  }
  look (v ∷ vs) place (inr k) a list h =
      let w : HasListed place h.1 = look vs place k a.1 h.1 h.4 in
      record {
        view = w.view;
        is_place = w.is_place;
        here = w.here;
        part = w.part;
        lists = w.lists;
        within = λ y m. subst (IsAmong y) (sym h.2) (among-right h.0 h.1 y (w.within y m));
      }

  module _ (list : List Var) (h : ListedBy p depth (with_all_frames nothing i.boxes.items) i.views.items list) where
    -- what stands at a place of a box there touches is equal to a listed variable
    at_place : (d : Found) (place : Place) → IsPlaceInside (table_of s.table) s.name place → site_of place s.run.config.roots ≡ Some d → IsConsistent (whole d) → (x : Var)
        → TouchesAt p (frames_of (only s.site)) (environment s.site) d place x → (y : Var) × IsAmong y list × Equal (environment s.site) (variable x) (variable y)
    at_place d place k e c x t =
        let w : HasListed place list = look i.views.items place (s.inside.each place k) s.inside.views list h in
        let q : w.here.seen.site ≡ d = same_site p depth i s w.view w.here d place w.is_place e in
        let u : AreTouchedByPlace p (frames_of (only s.site)) (environment s.site) d place w.part =
        subst (λ (f : Found). AreTouchedByPlace p (frames_of (only s.site)) (environment s.site) f place w.part) q
        (subst (λ (o : Place). AreTouchedByPlace p (frames_of (only s.site)) (environment s.site) w.here.seen.site o w.part) w.is_place w.lists) in
        let r : (y : Var) × IsAmong y w.part × Equal (environment s.site) (variable x) (variable y) = u.every c x t in
        (r.0, w.within r.0 r.1, r.2)

    in_box : (d : Found) → IsDown s.run.config stands s.name s.site s.is_site d → IsConsistent (whole d) → (x : Var) → TouchesFrom p (frames_of (only s.site)) (environment s.site) d x
        → (y : Var) × IsAmong y list × Equal (environment s.site) (variable x) (variable y)
    in_box d k c x (by_equations t) = at_place d (Place.Box d.content.name) (is_inside (table_of s.table) s.run.config stands s.run.unfolds s.name s.site s.is_site d k) k.there c x t
    in_box d k c x (by_waiting u w) = at_place d (Place.Goal w.goal) (goal_inside_down (table_of s.table) s.run.config stands s.run.unfolds s.name s.site s.is_site d w.goal (an_atom w.atom) k w.is_goal)
        (home_found s.run.config.roots stands.once w.goal d.content.name d (an_atom w.atom) k.there w.is_goal) c x (u, (w, refl))

    pub inside_touched : AreTouchedInside p s.site list
    inside_touched = record {
      each = λ x m. touched_each i.views.items s.inside.views list h x m;
      every = λ x t.
          let w : _ = some_down s.run.config stands s.name s.site s.is_site (λ (d : Found). IsConsistent (whole d) × TouchesFrom p (frames_of (only s.site)) (environment s.site) d x) t in
          in_box w.0 w.1 w.2.0 x w.2.1;
    }
