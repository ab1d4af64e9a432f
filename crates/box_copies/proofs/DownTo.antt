-- The stores down to a copy are those down to its box, with names swapped.
use Rattle.std.proofs.Common.{◌≡◌, List, [], ◌∷◌, ◌++◌, length, map, Bool, true, false, Option, Some, None, refl, sym, ap, ◌∙◌, subst, ◌⊎◌, inl, inr, append_assoc, append-nil}
use Rattle.std.proofs.lemmas.List.{reverse-append}
use Rattle.std.specs.Prelude.{if◌then◌else◌, option_map}
use Rattle.std.specs.List.{AllByRecursion}
use Rattle.akl_terms.specs.declared.name.Name.{Name}
use Rattle.akl_terms.specs.declared.name.Place.{Place}
use Rattle.akl_terms.specs.declared.name.Var.{Var}
use Rattle.akl_terms.specs.declared.term.Node.{Node}
use Rattle.akl_terms.specs.declared.term.Term.{Term}
use Rattle.akl_terms.specs.Equal.{IsTold}
use Rattle.akl_terms.specs.Names.{same_name}
use Rattle.akl_terms.specs.Standing.{StandFor}
use Rattle.akl_terms.proofs.SameNames.{same_name-equal, same_name-refl}
use Rattle.akl_terms.proofs.StandingLaws.{StandFor-on}
use Rattle.akl_model.specs.Config.{IsIn, Boxes, Found, Held, held_in, environment, box_at, home_of}
use Rattle.akl_model.specs.Renaming.{renamed_equation}
use Rattle.akl_model.specs.Changes.{Shape, shape_of}
use Rattle.akl_model.specs.Wakes.{names_around, names_down_to, holder_in}
use Rattle.akl_model.proofs.Drawn.{both_true}
use Rattle.akl_model.proofs.NamesKept.{Stand, box-itself}
use Rattle.akl_model.proofs.Options.{some_value, map_some}
use Rattle.akl_model.proofs.Scoped.{IsIn-either}
use Rattle.rational_unify.specs.Older.{IsToOlder, EachOlder}
use Rattle.local_store.specs.Stored.{Stored, var_before, joined, joins}
use Rattle.local_store.specs.Chained.{ToldBy, IsSolvedChain}
use Rattle.step_laws.specs.Holders.{IsHeldBy}
use Rattle.step_laws.proofs.Deeper.{home_found}
use Rattle.step_laws.proofs.Holders.{held_or}
use Rattle.table_laws.specs.Rows.{GoalRow, Table, store_in, stores_along}
use Rattle.table_laws.specs.Inside.{IsDirectlyIn}
use Rattle.table_laws.specs.Unfolds.{IsBoxRow}
use Rattle.table_laws.specs.Writes.{home_in, holder_in_row}
use Rattle.table_laws.specs.Copying.{AreNamesCopied, swapping}
use Rattle.table_laws.specs.Steps.{AreAround, outermost, further}
use Rattle.table_laws.specs.Steps as laws
use Rattle.table_laws.proofs.Copies.{found_among}
use Rattle.table_laws.proofs.Frame.{around_stands}
use Rattle.table_laws.proofs.Insides.{IsUnder, under, goal_row, held_directly}
use Rattle.box_tree.specs.declared.inside.InnerGoal.{InnerGoal}
use Rattle.box_tree.specs.declared.inside.InnerBox.{InnerBox}
use Rattle.box_tree.specs.declared.step.BoxCopy.{BoxCopy}
use Rattle.box_tree.specs.Tables.{table_of, box_copy}
use Rattle.box_tree.specs.Paths.{home_at, outside_of, IsPath}
use Rattle.box_tree.specs.Views.{ViewValue, IsViewOf}
use Rattle.box_tree.specs.Insides.{IsInnerBox, AreBoxesInside}
use Rattle.box_tree.proofs.Looks.{stores_append}
use Rattle.box_tree.proofs.Seen.{PathOf, path_found}
use Rattle.table_laws.proofs.StoreChains.{told_stands}
use Rattle.box_copies.specs.declared.names.NewNames.{NewNames}
use Rattle.box_copies.specs.Renamer.{swapped_name, binding_by}
use Rattle.box_copies.specs.Made.{kept, holder_by, LeadsOlderBy, IsBoxBy, AreBoxesBy}
use Rattle.box_copies.specs.Copies.{AreSolvedOver}
use Rattle.box_copies.proofs.Lists.{Among, all_among, box_for, goal_named}
use Rattle.box_copies.proofs.Loops.{all_more}
use Rattle.box_copies.proofs.SolvedCopies.{AreStoresBy, copied_chain}
use Rattle.box_copies.proofs.Making.{is_inner, is_copied, its_box, twice, bindings}
use Rattle.box_copies.proofs.Around.{stand, there, equations_stay}

-- one more store

stores_more : (f : Name → Name) (ss ks : List Stored) (s k : Stored) → AreStoresBy f ss ks → k.bindings ≡ joins [] (map (binding_by f) s.bindings) → AreStoresBy f (ss ++ s ∷ []) (ks ++ k ∷ [])
stores_more f [] [] s k h e = (e, tt)
stores_more f [] (l ∷ ks) s k h e = absurd h
stores_more f (r ∷ ss) [] s k h e = absurd h
stores_more f (r ∷ ss) (l ∷ ks) s k h e = (h.0, stores_more f ss ks s k h.1 e)

-- what holds of all bindings holds of them in their places
module _ (P : Var × Term → Type 0) where
  all_joined : (bs : List (Var × Term)) (x : Var) (t : Term) → AllByRecursion P bs → P (x, t) → AllByRecursion P (joined bs x t)
  all_joined [] x t h p = (p, tt)
  all_joined (b ∷ bs) x t h p = on (var_before x b.0) (all_joined bs x t h.1 p)
    where
      on : (v : Bool) → AllByRecursion P (joined bs x t) → AllByRecursion P (if v then (x, t) ∷ b ∷ bs else b ∷ joined bs x t)
      on true r = (p, h)
      on false r = (h.0, r)

  all_joins : (bs cs : List (Var × Term)) → AllByRecursion P bs → AllByRecursion P cs → AllByRecursion P (joins bs cs)
  all_joins bs [] h g = h
  all_joins bs (c ∷ cs) h g = all_joins (joined bs c.0 c.1) cs (all_joined bs c.0 c.1 h g.0) g.1

module _ (v : ViewValue) (seen : IsViewOf v) (boxes : List InnerBox) (n a : Name) (inside : AreBoxesInside v.table n boxes) (place : v.place ≡ Place.Box n) (s : NewNames)
    (olds : AreNamesCopied (table_of v.table) n a s.old.items) (older : Bool) (ks : List BoxCopy) (are : AreBoxesBy s older n a (kept a boxes) ks)
    (lead : older ≡ true → AllByRecursion (LeadsOlderBy (swapped_name s) v.table.program.templates.nodes) (kept a boxes)) where
  abbrev T : Table
  T = table_of v.table

  abbrev nodes : List Node
  nodes = v.table.program.templates.nodes

  abbrev roots : Boxes
  roots = seen.table.config.roots

  abbrev some : List InnerBox
  some = kept a boxes

  abbrev swap : Name → Name
  swap = swapped_name s

  abbrev copies : List laws.BoxCopy
  copies = map (box_copy nodes) ks

  abbrev outer : List Stored
  outer = stores_along T (names_around seen.site)

  stands_once : Stand seen.table.config
  stands_once = stand v seen boxes n a inside place

  site_there : box_at n roots ≡ Some seen.site
  site_there = there v seen boxes n a inside place

  abbrev row_of : (b : InnerBox) → Among b some → IsInnerBox v.table b
  row_of b j = is_inner v seen boxes n a inside b j

  -- the way out from a box, with the stores of the copies down to its copy
  record LeadsTo (b : InnerBox) (stores : List Stored) : Type 0 where
    path : List Name
    is_path : IsPath T b.name (path ++ b.name ∷ [])
    below : List Stored
    parts : stores_along T path ≡ outer ++ below
    made : AreStoresBy swap below stores
    each : older ≡ true → AllByRecursion (λ (k : Stored). EachOlder nodes k.bindings) stores

  -- a box other than the first is held by a choice
  held_by : (b : InnerBox) → Among b some → same_name b.name n ≡ false → (g : Name) × (b.holder ≡ Some g)
  held_by b j q = on (held_or roots stands_once.once b.name e.0 e.1)
    where
      e : (e : Found) × (box_at b.name roots ≡ Some e) × IsBoxRow T roots e (row_of b j).row
      e = its_box v seen boxes n a inside b j

      its_name : b.name ≡ e.0.content.name
      its_name = box-itself b.name roots e.0 e.1

      u : IsUnder T seen.table.config seen.table.unfolds stands_once.once n b.name
      u = under T seen.table.config seen.table.unfolds stands_once.once n b.name seen.site site_there (is_copied v seen boxes n a inside b j).inside

      named : IsIn n (names_down_to e.0)
      named = subst (λ (f : Found). IsIn n (names_down_to f)) (some_value (sym u.is_found ∙ e.1)) u.named

      other : n ≡ e.0.content.name → ⊥
      other p = let z : same_name b.name n ≡ true = subst (λ (m : Name). same_name b.name m ≡ true) (its_name ∙ sym p) (same_name-refl b.name) in cc

      on : ((e.0.around ≡ []) × (holder_in b.name roots ≡ None)) ⊎ ((g : Name) × (holder_in b.name roots ≡ Some g) × IsHeldBy b.name g e.0 roots) → (g : Name) × (b.holder ≡ Some g)
      on (inl r) = elim (IsIn-either n (names_around e.0) (e.0.content.name ∷ []) named) [
        | inl k ↦ absurd (subst (λ (c : List _). IsIn n (map (λ (b : _). b.name) c)) r.0 k)
        | inr k ↦ elim k [ inl p ↦ absurd (other p) | inr z ↦ absurd z ]
      ]
      on (inr h) = (h.0, (row_of b j).holder ∙ e.2.holder ∙ ap (λ (m : Name). holder_in m roots) (sym its_name) ∙ h.1)

  -- the box itself
  at_top : (b : InnerBox) → Among b some → holder_by swap n b ≡ None → LeadsTo b []
  at_top b j e = on (same_name b.name n) refl e
    where
      p : PathOf T seen.table.config seen.table.unfolds stands_once.once n seen.site
      p = path_found T seen.table.config seen.table.unfolds stands_once.once (length seen.site.around) n seen.site refl site_there

      first : IsPath T n (names_around seen.site ++ n ∷ [])
      first = (p.0, p.1, ap (λ (m : Name). names_around seen.site ++ m ∷ []) (box-itself n roots seen.site site_there) ∙ p.2)

      on : (t : Bool) → same_name b.name n ≡ t → (if t then None else option_map swap b.holder) ≡ None → LeadsTo b []
      on true q r = record {
        path = names_around seen.site;
        is_path = subst (λ (m : Name). IsPath T m (names_around seen.site ++ m ∷ [])) (sym (same_name-equal b.name n q)) first;
        below = [];
        parts = sym (append-nil outer);
        made = tt;
        each = λ z. tt;
      }
      on false q r = let h : (g : Name) × (b.holder ≡ Some g) = held_by b j q in let z : None ≡ Some (swap h.0) = sym r ∙ ap (option_map swap) h.1 in absurd cc

  copy_bindings : (b : InnerBox) (j : Among b some) (k : BoxCopy) → IsBoxBy s older n a b k → k.store.bindings ≡ joins [] (map (binding_by swap) b.store.bindings)
  copy_bindings b j k is = bindings v seen boxes n a inside s olds older ks are b j k is

  copy_older : (b : InnerBox) → Among b some → (k : BoxCopy) → IsBoxBy s older n a b k → older ≡ true → EachOlder nodes k.store.bindings
  copy_older b j k is q = subst (EachOlder nodes) (sym (copy_bindings b j k is))
      (all_joins (IsToOlder nodes) [] (map (binding_by swap) b.store.bindings) tt (all_among (LeadsOlderBy swap nodes) some b (lead q) j))

  -- the home of a goal directly in a box
  home_is : (b : InnerBox) → Among b some → (g : Name) → IsIn g (map (λ (h : InnerGoal). h.name) b.goals.items) → home_in (T.goal_of g) ≡ Some b.name
  home_is b j g l =
      let e : (e : Found) × (box_at b.name roots ≡ Some e) × IsBoxRow T roots e (row_of b j).row = its_box v seen boxes n a inside b j in
      let d : IsDirectlyIn T b.name g = record { row = (row_of b j).row; there = (row_of b j).there; named = subst (IsIn g) (row_of b j).goals l } in
      let h : (h : Held) × (held_in g e.0.goals ≡ Some h) = held_directly T seen.table.config seen.table.unfolds stands_once.once b.name g e.0 e.1 d in
      let at : home_of g roots ≡ Some e.0 = home_found roots stands_once.once g b.name e.0 h.0 e.1 h.1 in
      let r : (r : GoalRow) × (T.goal_of g ≡ Some r) × (r.home ≡ e.0.content.name) × (r.shape ≡ shape_of h.0) = goal_row T seen.table.config seen.table.unfolds stands_once.once g e.0 h.0 at h.1 in
      ap home_in {y = Some r.0} r.1 ∙ ap (λ (m : Name). Some m) (r.2 ∙ sym (box-itself b.name roots e.0 e.1))

  -- a box that is held by a goal of another one
  beneath : (b : InnerBox) (j : Among b some) (c : InnerBox) (l : Among c some) (k : BoxCopy) → IsBoxBy s older n a c k → (g : Name) → IsIn g (map (λ (x : Name × Shape). x.0) (box_copy nodes k).goals) → holder_by swap n b ≡ Some g
      → (before : List Stored) → LeadsTo c before → LeadsTo b (before ++ k.store ∷ [])
  beneath b j c l k is g named e before w = on (same_name b.name n) e
    where
      goal : (m : Name) × IsIn m (map (λ (h : InnerGoal). h.name) c.goals.items) × (g ≡ swap m)
      goal = goal_named swap nodes a g c.goals.items k.goals.items is.goals named

      on : (t : Bool) → (if t then None else option_map swap b.holder) ≡ Some g → LeadsTo b (before ++ k.store ∷ [])
      on true q = cc
      on false q = record {
        path = w.path ++ c.name ∷ [];
        is_path = (c.name ∷ w.is_path.0, (outside, w.is_path.1), ap (λ (ns : List Name). ns ++ b.name ∷ []) w.is_path.2 ∙ sym (reverse-append (b.name ∷ []) (c.name ∷ w.is_path.0)));
        below = w.below ++ c.store ∷ [];
        parts = stores_append T w.path (c.name ∷ []) ∙ (λ z. w.parts z ++ (ap store_in (row_of c l).there ∙ sym (row_of c l).store) z ∷ []) ∙ append_assoc outer w.below (c.store ∷ []);
        made = stores_more swap w.below before c.store k.store w.made (copy_bindings c l k is);
        each = λ o. all_more (λ (x : Stored). EachOlder nodes x.bindings) before k.store (w.each o) (copy_older c l k is o);
      }
        where
          held : (h : Name) × (b.holder ≡ Some h) × (swap h ≡ g)
          held = map_some swap b.holder g q

          same : held.0 ≡ goal.0
          same = sym (twice v seen boxes n a inside s olds older ks are held.0) ∙ ap swap (held.2 ∙ goal.2) ∙ twice v seen boxes n a inside s olds older ks are goal.0

          outside : outside_of T b.name ≡ Some c.name
          outside = ap (λ (o : Option _). home_at T (holder_in_row o)) (row_of b j).there ∙ ap (home_at T) (sym (row_of b j).holder ∙ held.1 ∙ ap (λ (m : Name). Some m) same) ∙ home_is c l goal.0 goal.1

  down : (holder : Option Name) (stores : List Stored) → AreAround copies holder stores → (b : InnerBox) → Among b some → holder ≡ holder_by swap n b → LeadsTo b stores
  down holder stores outermost b j e = at_top b j (sym e)
  down holder stores (further {g = g} {stores = before} k is_k named rest) b j e =
      let w : (c : InnerBox) × (x : BoxCopy) × Among c some × IsBoxBy s older n a c x × (k ≡ box_copy nodes x) = box_for nodes s older n a k some ks are (found_among copies k.name k is_k).0 in
      subst (λ (y : laws.BoxCopy). LeadsTo b (before ++ y.store ∷ [])) (sym w.4)
      (beneath b j w.0 w.2 w.1 w.3 g (subst (λ (y : laws.BoxCopy). IsIn g (map (λ (x : Name × Shape). x.0) y.goals)) w.4 named) (sym e) before
      (down k.holder before rest w.0 w.2 (ap (λ (y : laws.BoxCopy). y.holder) w.4 ∙ w.3.holder)))

  -- where a copy counts as solved, it is
  pub solved_over : s.worker ≡ v.worker → s.next ≡ v.next → AreSolvedOver v.table.program.templates.nodes (stores_along (table_of v.table) (names_around seen.site)) (map (box_copy v.table.program.templates.nodes) ks)
  solved_over same_worker same_next k stores is_k around solved =
      let w : (c : InnerBox) × (x : BoxCopy) × Among c some × IsBoxBy s older n a c x × (k ≡ box_copy nodes x) = box_for nodes s older n a k some ks are (found_among copies k.name k is_k).0 in
      let to : LeadsTo w.0 stores = down k.holder stores around w.0 w.2 (ap (λ (y : laws.BoxCopy). y.holder) w.4 ∙ w.3.holder) in
      let both : (w.0.solved ≡ true) × (older ≡ true) = both_true w.0.solved older (sym w.3.solved ∙ sym (ap (λ (y : laws.BoxCopy). y.solved) w.4) ∙ solved) in
      let chain : IsSolvedChain nodes (outer ++ (to.below ++ w.0.store ∷ [])) =
      subst (IsSolvedChain nodes) (stores_append T to.path (w.0.name ∷ []) ∙ (λ z. to.parts z ++ (ap store_in (row_of w.0 w.2).there ∙ sym (row_of w.0 w.2).store) z ∷ []) ∙ append_assoc outer to.below (w.0.store ∷ []))
      ((row_of w.0 w.2).solved both.0 (to.path ++ w.0.name ∷ []) to.is_path) in
      subst (λ (y : laws.BoxCopy). IsSolvedChain nodes (outer ++ (stores ++ y.store ∷ []))) (sym w.4)
      (copied_chain swap (twice v seen boxes n a inside s olds older ks are) nodes (environment seen.site) stays outer (to.below ++ w.0.store ∷ []) (stores ++ w.1.store ∷ []) stands chain
      (stores_more swap to.below stores w.0.store w.1.store to.made (copy_bindings w.0 w.2 w.1 w.3))
      (all_more (λ (x : Stored). EachOlder nodes x.bindings) stores w.1.store (to.each both.1) (copy_older w.0 w.2 w.1 w.3 both.1)))
    where
      stays : map (renamed_equation swap) (environment seen.site) ≡ environment seen.site
      stays = subst (λ (f : Name → Name). map (renamed_equation f) (environment seen.site) ≡ environment seen.site) (λ z. swapping s.old.items (sym same_worker z) (sym same_next z)) (equations_stay v seen boxes n a inside place s.old.items olds)

      stands : StandFor (ToldBy nodes outer) (IsTold (environment seen.site))
      stands = StandFor-on (told_stands nodes outer) (around_stands T seen.table.config stands_once seen.table.unfolds n seen.site site_there)
