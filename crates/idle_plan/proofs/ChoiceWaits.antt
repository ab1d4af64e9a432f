-- What the solved alternatives of a choice touch suffices for it.
use Rattle.std.proofs.Common.{◌≡◌, ◌-◌, List, [], ◌∷◌, ◌++◌, length, take, Bool, true, false, Option, Some, None, refl, sym, ◌∙◌, ap, subst, inl, inr, append-nil}
use Rattle.std.specs.Prelude.{if◌then◌else◌}
use Rattle.std.specs.List.{AllByRecursion}
use Rattle.akl_terms.specs.declared.name.Name.{Name}
use Rattle.akl_terms.specs.declared.name.Var.{Var}
use Rattle.akl_terms.specs.declared.name.Place.{Place}
use Rattle.akl_terms.specs.declared.term.Node.{Node}
use Rattle.akl_terms.specs.declared.term.Term.{Term}
use Rattle.akl_terms.specs.Names.{same_name}
use Rattle.akl_terms.specs.Tree.{variable}
use Rattle.akl_terms.specs.Equal.{Equations, IsTold, Equal, IsConsistent}
use Rattle.akl_terms.specs.Standing.{StandFor}
use Rattle.akl_terms.proofs.SameNames.{same_name-refl}
use Rattle.akl_terms.proofs.StandingLaws.{StandFor-on}
use Rattle.akl_model.specs.Config.{Operator, Content, Boxes, no_boxes, box, Goals, Held, an_atom, a_choice, held_in, Found, environment, whole, box_at, site_of, home_of}
use Rattle.akl_model.specs.Conditions.{IsSolved}
use Rattle.akl_model.specs.Rules.{alternative_of}
use Rattle.akl_model.specs.Stable.{by_equations}
use Rattle.akl_model.specs.Wakes.{TellsOutside, Concerns, by_alternative}
use Rattle.akl_model.proofs.Options.{some_value}
use Rattle.akl_model.proofs.ScopesKept.{around_outside}
use Rattle.constraint_laws.specs.Oldest.{IsOldest}
use Rattle.constraint_laws.specs.Touched.{IsAmong}
use Rattle.plan_laws.specs.Sleeps.{Matters, IsOutermostAt, IsAliasAt}
use Rattle.plan_laws.specs.Sleeps as sleeps
use Rattle.step_laws.specs.Whereabouts.{BoxIn}
use Rattle.step_laws.proofs.Stays.{alternative_in}
use Rattle.local_store.specs.Stored.{Stored}
use Rattle.entail_test.specs.Asked.{frames_from}
use Rattle.local_store.specs.Chained.{equations_of}
use Rattle.class_members.specs.Members.{outermost_of}
use Rattle.box_tree.specs.declared.entries.HeldOp.{HeldOp}
use Rattle.box_tree.specs.declared.view.Alternative.{Alternative}
use Rattle.box_tree.specs.declared.view.Sight.{Sight}
use Rattle.box_tree.specs.Tables.{all_rules, op_held, table_of}
use Rattle.box_tree.specs.Views.{ViewValue, IsViewOf, AreSeen, alternatives_held, alternatives_at}
use Rattle.table_laws.specs.Rows.{told_in}
use Rattle.guard_plan.specs.Guards.{IsTestable, AreAllSolved}
use Rattle.guard_plan.specs.Noisy.{IsOne}
use Rattle.table_laws.proofs.StoreChains.{told_stands}
use Rattle.guard_plan.proofs.Chains.{take_push, drop_push}
use Rattle.guard_plan.proofs.ChoiceNone.{inside_of}
use Rattle.guard_plan.proofs.CutRight.{empty_solved}
use Rattle.guard_plan.proofs.Placed.{IsPlaced, ArePlaced, placed, all_placed, frames_are, environment_is, all_stand, all_testable}
use Rattle.guard_plan.proofs.Sites.{shows_at, whole_stands}
use Rattle.idle_plan.specs.Told.{ListsTold}
use Rattle.idle_plan.specs.Waits.{AreToldBy}
use Rattle.idle_plan.proofs.Listed.{AreStoresOf, around_consistent, touched_unstructured, listed_touches, listed_unstructured, touched_listed}
use Rattle.idle_plan.proofs.Needed.{NeedsOwn, Suffices}
use Rattle.idle_plan.proofs.Outermost.{alias_by, oldest_by}
use Rattle.idle_plan.proofs.Outward.{outward}
use Rattle.idle_plan.proofs.Paths.{good}

-- an alternative of a name
named_some : (f : Found) (b : Content) (gs : Goals) (bs : Boxes) → BoxIn [] b gs bs → (a : Found) × (alternative_of f b.name bs ≡ Some a)
named_some f b gs no_boxes h = absurd h
named_some f b gs (box c hs bs) h = on (same_name b.name c.name) refl h (λ k. named_some f b gs bs k)
  where
    on : (t : Bool) → same_name b.name c.name ≡ t → BoxIn [] b gs (box c hs bs) → (BoxIn [] b gs bs → (a : Found) × (alternative_of f b.name bs ≡ Some a))
        → (a : Found) × ((if t then Some (inside_of f c hs) else alternative_of f b.name bs) ≡ Some a)
    on true s k deeper = (inside_of f c hs, refl)
    on false s (inl k) deeper = let z : true ≡ false = sym (same_name-refl b.name) ∙ ap (same_name b.name) (ap (λ (x : Content). x.name) k.1) ∙ s in cc
    on false s (inr (inl k)) deeper = let z : [] ≡ c ∷ k.0 = k.1 in cc
    on false s (inr (inr k)) deeper = deeper k

module _ (v : ViewValue) (i : IsViewOf v) where
  abbrev nodes : List Node
  nodes = v.table.program.templates.nodes

  -- all alternatives that are seen, at whatever place
  pub alternatives_testable : AllByRecursion (IsTestable v.table.program.templates.nodes v.stores) v.alternatives
  alternatives_testable = on v.place refl
    where
      none : (rest : List Alternative) → AreSeen (table_of v.table) v.stores no_boxes rest → AllByRecursion (IsTestable nodes v.stores) rest
      none [] s = tt
      none (a ∷ rest) s = absurd s

      by : (g : Name) (o : Option Held) → held_in g i.site.goals ≡ o → AreSeen (table_of v.table) v.stores (alternatives_held o) v.alternatives → AllByRecursion (IsTestable nodes v.stores) v.alternatives
      by g None e s = none v.alternatives s
      by g (Some (an_atom a)) e s = none v.alternatives s
      by g (Some (a_choice o bs)) e s = all_testable v i bs v.alternatives (all_placed v i g o bs e bs (λ b gs k. k) v.alternatives s)

      on : (place : Place) → v.place ≡ place → AllByRecursion (IsTestable nodes v.stores) v.alternatives
      on (Place.Goal g) e = by g (held_in g i.site.goals) refl (subst (λ (q : Place). AreSeen (table_of v.table) v.stores (alternatives_at q i.site) v.alternatives) e i.alternatives)
      on (Place.Box n) e = none v.alternatives (subst (λ (q : Place). AreSeen (table_of v.table) v.stores (alternatives_at q i.site) v.alternatives) e i.alternatives)

  -- the stores down to an alternative
  stores_placed : (b : Content) (gs : Goals) (a : Alternative) → IsPlaced v i b gs a → AreStoresOf nodes (v.stores ++ a.store ∷ []) (inside_of i.site b gs)
  stores_placed b gs a h = record {
    around = subst (λ (A : List Stored). StandFor (IsTold (equations_of nodes A)) (IsTold (environment (inside_of i.site b gs)))) (sym (take_push v.stores a.store))
        (StandFor-on (told_stands nodes v.stores) (subst (λ (E : Equations). StandFor (IsTold (told_in nodes v.stores)) (IsTold E)) (sym (environment_is v i b gs a h)) (whole_stands v i)));
    all = StandFor-on (told_stands nodes (v.stores ++ a.store ∷ [])) (all_stand v i b gs a h);
    frames = ap frames_from (drop_push v.stores a.store) ∙ append-nil a.store.frames ∙ frames_are v i b gs a h;
    over = around_outside all_rules v.table.program v.table.query v.journal i.table.config b.name (inside_of i.site b gs) i.table.replays h.there;
    outward = outward i.table.config (good v i) b.name (inside_of i.site b gs) h.there;
  }

  -- what is seen, and what stands there
  box_of : (cs : Boxes) (seen : List Alternative) → ArePlaced v i cs seen → (a : Alternative) → IsOne Alternative a seen → (b : Content) × (gs : Goals) × BoxIn [] b gs cs × IsPlaced v i b gs a
  box_of no_boxes [] h a o = absurd o
  box_of no_boxes (x ∷ rest) h a o = absurd h
  box_of (box b gs cs) [] h a o = absurd o
  box_of (box b gs cs) (x ∷ rest) h a (inl e) = (b, gs, inl (refl, refl, refl), subst (IsPlaced v i b gs) (sym e) h.0)
  box_of (box b gs cs) (x ∷ rest) h a (inr o) = let w : (c : Content) × (hs : Goals) × BoxIn [] c hs cs × IsPlaced v i c hs a = box_of cs rest h.1 a o in (w.0, w.1, inr (inr w.2), w.3)

  seen_of : (cs : Boxes) (seen : List Alternative) → ArePlaced v i cs seen → (b : Content) (gs : Goals) → BoxIn [] b gs cs → (a : Alternative) × IsOne Alternative a seen × IsPlaced v i b gs a
  seen_of no_boxes seen h b gs k = absurd k
  seen_of (box c hs cs) [] h b gs k = absurd h
  seen_of (box c hs cs) (x ∷ rest) h b gs (inl k) = (x, inl refl, subst (λ (d : Content). IsPlaced v i d gs x) (sym k.1) (subst (λ (d : Goals). IsPlaced v i c d x) (sym k.2) h.0))
  seen_of (box c hs cs) (x ∷ rest) h b gs (inr (inl k)) = let z : [] ≡ c ∷ k.0 = k.1 in cc
  seen_of (box c hs cs) (x ∷ rest) h b gs (inr (inr k)) = let w : (a : Alternative) × IsOne Alternative a rest × IsPlaced v i b gs a = seen_of cs rest h.1 b gs k in (w.0, inr w.1, w.2)

  module _ (g : Name) (o : HeldOp) (at : v.place ≡ Place.Goal g) (sees : v.sight ≡ Sight.Choice o) (list : List Var) (h : AreToldBy v.table.program.templates.nodes v.stores v.alternatives list) where
    home : home_of g i.table.config.roots ≡ Some i.site
    home = subst (λ (q : Place). site_of q i.table.config.roots ≡ Some i.site) at i.is_site

    abbrev operator : Operator
    operator = op_held v.table.program.templates.nodes o

    shown : (bs : Boxes) × (held_in g i.site.goals ≡ Some (a_choice (op_held v.table.program.templates.nodes o) bs))
    shown = shows_at v i (Place.Goal g) (Sight.Choice o) at sees

    are_placed : ArePlaced v i shown.0 v.alternatives
    are_placed = all_placed v i g operator shown.0 shown.1 shown.0 (λ b gs k. k) v.alternatives
        (subst (λ (bs : Boxes). AreSeen (table_of v.table) v.stores bs v.alternatives) (ap (λ (q : Place). alternatives_at q i.site) at ∙ ap alternatives_held shown.1) i.alternatives)

    named : (b : Content) (gs : Goals) → BoxIn [] b gs shown.0 → alternative_of i.site b.name shown.0 ≡ Some (inside_of i.site b gs)
    named b gs k =
        let w : (a : Found) × (alternative_of i.site b.name shown.0 ≡ Some a) = named_some i.site b gs shown.0 k in
        let u : BoxIn [] w.0.content w.0.goals shown.0 × (w.0.around ≡ i.site.around ++ i.site.content ∷ []) × (b.name ≡ w.0.content.name) = alternative_in i.site b.name shown.0 w.0 w.1 in
        let x : box_at b.name i.table.config.roots ≡ Some (inside_of i.site b gs) = placed v i g operator shown.0 shown.1 b gs k in
        let y : box_at w.0.content.name i.table.config.roots ≡ Some (inside_of i.site w.0.content w.0.goals) = placed v i g operator shown.0 shown.1 w.0.content w.0.goals u.0 in
        let z : inside_of i.site w.0.content w.0.goals ≡ inside_of i.site b gs = some_value (sym y ∙ sym (ap (λ (m : Name). box_at m i.table.config.roots) u.2) ∙ x) in
        let q : w.0 ≡ inside_of i.site w.0.content w.0.goals = λ j. record { around = u.1 j; content = w.0.content; goals = w.0.goals } in
        w.1 ∙ ap Some (q ∙ z)

    concern : (y : Var) → IsAmong y list → Concerns v.table.program i.table.config y (Place.Goal g)
    concern y m =
        let w : (a : Alternative) × (own : List Var) × (IsOne Alternative a v.alternatives × (a.solved ≡ true)) × ListsTold nodes (v.stores ++ a.store ∷ []) own × IsAmong y own × ((z : Var) → IsAmong z own → IsAmong z list) = h.each y m in
        let k : (b : Content) × (gs : Goals) × BoxIn [] b gs shown.0 × IsPlaced v i b gs w.0 = box_of shown.0 v.alternatives are_placed w.0 w.2.0 in
        let t : TellsOutside (inside_of i.site k.0 k.1) y = listed_touches nodes (v.stores ++ w.0.store ∷ []) (inside_of i.site k.0 k.1) (stores_placed k.0 k.1 w.0 k.3) w.1 w.3 y w.4 in
        by_alternative k.0.name home shown.1 (named k.0 k.1 k.2) (by_equations t)

    oldest : (f : Found) → IsOutermostAt i.table.config v.place f → (y z : Var) → IsAmong y list → IsOldest (whole f) y z → IsAmong z list
    oldest f outermost y z m o =
        let w : (a : Alternative) × (own : List Var) × (IsOne Alternative a v.alternatives × (a.solved ≡ true)) × ListsTold nodes (v.stores ++ a.store ∷ []) own × IsAmong y own × ((z : Var) → IsAmong z own → IsAmong z list) = h.each y m in
        let k : (b : Content) × (gs : Goals) × BoxIn [] b gs shown.0 × IsPlaced v i b gs w.0 = box_of shown.0 v.alternatives are_placed w.0 w.2.0 in
        let ss : List Stored = v.stores ++ w.0.store ∷ [] in
        w.5 z (oldest_by v i (take (length ss - 1) ss) (ap (take 1) (take_push v.stores w.0.store)) (w.3.members.consistent y w.4) w.1 w.3.members.oldest y
        (listed_unstructured nodes ss (inside_of i.site k.0 k.1) (stores_placed k.0 k.1 w.0 k.3) w.1 w.3 y w.4) w.4 f outermost z o)

    enough_placed : (x : Var) (b : Content) (gs : Goals) → BoxIn [] b gs shown.0 → IsSolved gs → IsConsistent (whole (inside_of i.site b gs)) → TellsOutside (inside_of i.site b gs) x
        → (y : Var) × IsAmong y list × IsAliasAt i.table.config v.place y x
    enough_placed x b gs k solved still t =
        let w : (a : Alternative) × IsOne Alternative a v.alternatives × IsPlaced v i b gs a = seen_of shown.0 v.alternatives are_placed b gs k in
        let r : AreStoresOf nodes (v.stores ++ w.0.store ∷ []) (inside_of i.site b gs) = stores_placed b gs w.0 w.2 in
        let c : IsConsistent (equations_of nodes (v.stores ++ w.0.store ∷ [])) = r.all.back still in
        let u : (own : List Var) × ListsTold nodes (v.stores ++ w.0.store ∷ []) own × ((y : Var) → IsAmong y own → IsAmong y list) = h.every w.0 (w.1, w.2.seen.solved ∙ empty_solved gs solved) c in
        let e : (y : Var) × IsAmong y u.0 × Equal (outermost_of nodes (take (length (v.stores ++ w.0.store ∷ []) - 1) (v.stores ++ w.0.store ∷ []))) (variable y) (variable x) =
        touched_listed nodes (v.stores ++ w.0.store ∷ []) (inside_of i.site b gs) r u.0 u.1 x t in (
          e.0,
          u.2 e.0 e.1,
          alias_by v i (take (length (v.stores ++ w.0.store ∷ []) - 1) (v.stores ++ w.0.store ∷ [])) (ap (take 1) (take_push v.stores w.0.store))
              (around_consistent nodes (v.stores ++ w.0.store ∷ []) (inside_of i.site b gs) r c) e.0 x (touched_unstructured nodes (v.stores ++ w.0.store ∷ []) (inside_of i.site b gs) r c x t) e.2,
        )

    enough : (x : Var) → NeedsOwn v.table.program i.table.config (Place.Goal g) x → (y : Var) × IsAmong y list × IsAliasAt i.table.config v.place y x
    enough x (inl n) = absurd (other (sym (subst (λ (f : Found). held_in g f.goals ≡ Some (an_atom n.atom)) (some_value (sym n.is_home ∙ home)) n.is_atom) ∙ shown.1))
      where
        other : Some (an_atom n.atom) ≡ Some (a_choice operator shown.0) → ⊥
        other e = cc
    enough x (inr n) = enough_placed x n.box.content n.box.goals (subst (BoxIn [] n.box.content n.box.goals) same_boxes u.0) n.solved
        (subst (λ (f : Found). IsConsistent (whole f)) is_inside n.consistent) (subst (λ (f : Found). TellsOutside f x) is_inside n.tells)
      where
        same : n.home ≡ i.site
        same = some_value (sym n.is_home ∙ home)

        held : Some (a_choice n.op n.boxes) ≡ Some (a_choice operator shown.0)
        held = sym (subst (λ (f : Found). held_in g f.goals ≡ Some (a_choice n.op n.boxes)) same n.is_choice) ∙ shown.1

        same_boxes : n.boxes ≡ shown.0
        same_boxes = let e : Some (a_choice n.op n.boxes) ≡ Some (a_choice operator shown.0) = held in cc

        u : BoxIn [] n.box.content n.box.goals n.boxes × (n.box.around ≡ n.home.around ++ n.home.content ∷ []) × (n.name ≡ n.box.content.name)
        u = alternative_in n.home n.name n.boxes n.box n.is_box

        is_inside : n.box ≡ inside_of i.site n.box.content n.box.goals
        is_inside = λ j. record { around = (u.1 ∙ ap (λ (f : Found). f.around ++ f.content ∷ []) same) j; content = n.box.content; goals = n.box.goals }

    pub choice_suffices : Suffices v.table.program i.table.config v.place (NeedsOwn v.table.program i.table.config v.place) list
    choice_suffices = record {
      concern = λ y m. subst (λ (q : Place). Concerns v.table.program i.table.config y q) (sym at) (concern y m);
      enough = λ x n. enough x (subst (λ (q : Place). NeedsOwn v.table.program i.table.config q x) at n);
      oldest = record { each = oldest };
    }

-- a choice of which it doesn't matter whether an alternative is quiet needs nothing by its alternatives
module _ (v : ViewValue) (i : IsViewOf v) (g : Name) (o : HeldOp) (at : v.place ≡ Place.Goal g) (sees : v.sight ≡ Sight.Choice o) where
  abbrev held_by : Operator
  held_by = op_held v.table.program.templates.nodes o

  own_home : home_of g i.table.config.roots ≡ Some i.site
  own_home = subst (λ (q : Place). site_of q i.table.config.roots ≡ Some i.site) at i.is_site

  own_choice : (bs : Boxes) × (held_in g i.site.goals ≡ Some (a_choice (op_held v.table.program.templates.nodes o) bs))
  own_choice = shows_at v i (Place.Goal g) (Sight.Choice o) at sees

  none_needed : (Matters held_by own_choice.0 → ⊥) → (x : Var) → NeedsOwn v.table.program i.table.config (Place.Goal g) x → ⊥
  none_needed not x (inl n) = other (sym (subst (λ (f : Found). held_in g f.goals ≡ Some (an_atom n.atom)) (some_value (sym n.is_home ∙ own_home)) n.is_atom) ∙ own_choice.1)
    where
      other : Some (an_atom n.atom) ≡ Some (a_choice held_by own_choice.0) → ⊥
      other e = cc
  none_needed not x (inr n) = not (matters (sym (subst (λ (f : Found). held_in g f.goals ≡ Some (a_choice n.op n.boxes)) (some_value (sym n.is_home ∙ own_home)) n.is_choice) ∙ own_choice.1))
    where
      matters : Some (a_choice n.op n.boxes) ≡ Some (a_choice held_by own_choice.0) → Matters held_by own_choice.0
      matters e = let q : n.op ≡ held_by = cc in let r : n.boxes ≡ own_choice.0 = cc in subst (Matters held_by) r (subst (λ (u : Operator). Matters u n.boxes) q n.matters)

  nothing_suffices : (Matters held_by own_choice.0 → ⊥) → Suffices v.table.program i.table.config v.place (NeedsOwn v.table.program i.table.config v.place) []
  nothing_suffices not = record {
    concern = λ y m. absurd m;
    enough = λ x n. absurd (none_needed not x (subst (λ (q : Place). NeedsOwn v.table.program i.table.config q x) at n));
    oldest = record { each = λ f h x w m k. absurd m };
  }

  -- alternatives that are solved are seen so
  all_seen : (bs : Boxes) (seen : List Alternative) → AreSeen (table_of v.table) v.stores bs seen → sleeps.AreSolved bs → AreAllSolved seen
  all_seen no_boxes [] s h = tt
  all_seen no_boxes (a ∷ rest) s h = absurd s
  all_seen (box b gs bs) [] s h = absurd s
  all_seen (box b gs bs) (a ∷ rest) s h = (s.0.solved ∙ empty_solved gs h.0, all_seen bs rest s.1 h.1)

  own_seen : AreSeen (table_of v.table) v.stores own_choice.0 v.alternatives
  own_seen = subst (λ (bs : Boxes). AreSeen (table_of v.table) v.stores bs v.alternatives) (ap (λ (q : Place). alternatives_at q i.site) at ∙ ap alternatives_held own_choice.1) i.alternatives

  pub undecided_suffices : o ≡ HeldOp.Choice → Suffices v.table.program i.table.config v.place (NeedsOwn v.table.program i.table.config v.place) []
  undecided_suffices e = nothing_suffices (λ m. subst (λ (u : HeldOp). Matters (op_held v.table.program.templates.nodes u) own_choice.0) e m)

  pub unsolved_suffices : (result : Term) → o ≡ HeldOp.Collect result → (AreAllSolved v.alternatives → ⊥) → Suffices v.table.program i.table.config v.place (NeedsOwn v.table.program i.table.config v.place) []
  unsolved_suffices result e u = nothing_suffices (λ m. u (all_seen own_choice.0 v.alternatives own_seen (subst (λ (h : HeldOp). Matters (op_held v.table.program.templates.nodes h) own_choice.0) e m)))
