-- The copies that are made of what stands in a box are copies of the table's rows.
use Rattle.std.proofs.Common.{◌≡◌, ℕ, ◌≤◌, ◌<◌, List, [], ◌∷◌, ◌++◌, map, Bool, Option, Some, None, refl, sym, ap, ◌∙◌, subst, ◌⊎◌, inl, inr, arith}
use Rattle.std.specs.Prelude.{if◌then◌else◌, option_map, slice_index}
use Rattle.akl_terms.specs.Template.{tree}
use Rattle.akl_terms.specs.declared.name.Name.{Name}
use Rattle.akl_terms.specs.declared.name.Var.{Var}
use Rattle.akl_terms.specs.declared.name.Place.{Place}
use Rattle.akl_terms.specs.declared.term.Node.{Node}
use Rattle.akl_terms.specs.declared.term.Term.{Term}
use Rattle.akl_terms.specs.Names.{same_name}
use Rattle.akl_model.specs.Config.{IsIn, Found, box_at}
use Rattle.akl_model.specs.Names.{times_in}
use Rattle.akl_model.specs.Ordered.{IsIncreasing}
use Rattle.akl_model.specs.Renaming.{renamed_tree, port_names, renaming, renamed_atom, renamed_equation, renamed_port, renamed_shown}
use Rattle.akl_model.specs.Changes.{goal_names}
use Rattle.akl_model.proofs.Options.{some_value}
use Rattle.akl_model.proofs.Finds.{zero_or, times}
use Rattle.akl_model.proofs.NamesKept.{Stand, replay-stands, box-itself}
use Rattle.akl_model.proofs.OrdersKept.{replay_ordered}
use Rattle.akl_model.proofs.Scoped.{IsIn-left, IsIn-right, IsIn-either}
use Rattle.constraint_laws.specs.StandingGrows.{AreToldIn}
use Rattle.rational_unify.specs.Solving.{bindings_in}
use Rattle.local_store.specs.Stored.{Stored, nothing, joins}
use Rattle.step_laws.proofs.Whereabouts.{found_in}
use Rattle.table_laws.specs.Rows.{BoxRow, Table, ports_in}
use Rattle.table_laws.specs.Unfolds.{IsBoxRow}
use Rattle.table_laws.specs.Walks.{boxes_in_row, alternatives_among}
use Rattle.table_laws.specs.Copying.{IsCopied, IsNameCopied, AreNamesCopied, copied_goals, IsMadeOf, AreMade}
use Rattle.table_laws.specs.Steps as laws
use Rattle.table_laws.proofs.Frame.{found_of}
use Rattle.table_laws.proofs.Walks.{nested}
use Rattle.table_laws.proofs.Insides.{named_counted}
use Rattle.table_laws.proofs.Swapping.{swap_renames, swap_twice}
use Rattle.table_laws.proofs.Copies.{IsAmong, among_found, found_among}
use Rattle.box_tree.specs.declared.inside.InnerGoal.{InnerGoal}
use Rattle.box_tree.specs.declared.inside.InnerBox.{InnerBox}
use Rattle.box_tree.specs.declared.step.BoxCopy.{BoxCopy}
use Rattle.box_tree.specs.Tables.{all_rules, table_of, goal_atom, shown_tree, box_copy}
use Rattle.box_tree.specs.Views.{ViewValue, IsViewOf, run_of}
use Rattle.box_tree.specs.Insides.{IsInnerBox, AreBoxesInside}
use Rattle.box_copies.specs.declared.names.NewNames.{NewNames}
use Rattle.box_copies.specs.Copies.{AreBoxesOf}
use Rattle.box_copies.specs.Swaps.{AreBelow}
use Rattle.box_copies.specs.Renamer.{swapped_name, port_by, binding_by, with_frames, with_ports}
use Rattle.box_copies.specs.Made.{Adds, own_names, kept, kept_names, IsBoxBy, AreBoxesBy}
use Rattle.box_copies.proofs.Terms.{collected_by, body_by, shown_trees_by, ports_by, bindings_by}
use Rattle.box_copies.proofs.Orders.{increasing_once, increasing_renamed}
use Rattle.box_copies.proofs.Ordered.{found_ordered, own, owned_counted}
use Rattle.box_copies.proofs.Stored.{frames_are, frames_ports, frames_bindings, ports_are, ports_frames, ports_bindings, joins_told, told_joins}
use Rattle.box_copies.proofs.Lists.{Among, all_among, named_among, among_named, among_kept, kept_among, kept_fewer, kept_owner, kept_owned, once_mapped, goals_copied, copy_names, copy_for, box_for}

abbrev firsts : List (Name × Term) → List Name
firsts ps = map (λ (p : Name × Term). p.0) ps

firsts_are : (nodes : List Node) (ps : List (Name × Term)) → port_names (ports_in nodes ps) ≡ firsts ps
firsts_are nodes [] = refl
firsts_are nodes (p ∷ ps) = ap (λ (l : List Name). p.0 ∷ l) (firsts_are nodes ps)

firsts_by : (f : Name → Name) (ps : List (Name × Term)) → firsts (map (port_by f) ps) ≡ map f (firsts ps)
firsts_by f [] = refl
firsts_by f (p ∷ ps) = ap (λ (l : List Name). f p.0 ∷ l) (firsts_by f ps)

map_alike : (f h : Name → Name) (xs : List Name) → ((x : Name) → IsIn x xs → f x ≡ h x) → map f xs ≡ map h xs
map_alike f h [] e = refl
map_alike f h (x ∷ xs) e = λ i. e x (inl refl) i ∷ map_alike f h xs (λ y j. e y (inr j)) i

module _ (v : ViewValue) (seen : IsViewOf v) (boxes : List InnerBox) (n a : Name) (inside : AreBoxesInside v.table n boxes) where
  abbrev T : Table
  T = table_of v.table

  abbrev nodes : List Node
  nodes = v.table.program.templates.nodes

  abbrev some : List InnerBox
  some = kept a boxes

  stand : Stand seen.table.config
  stand = replay-stands all_rules v.table.program v.table.query v.journal seen.table.config seen.table.replays

  abbrev pub is_inner : (b : InnerBox) → Among b some → IsInnerBox v.table b
  is_inner b j = all_among (IsInnerBox v.table) boxes b inside.boxes (among_kept a b boxes j).0

  pub is_copied : (b : InnerBox) → Among b some → IsCopied T n a b.name
  is_copied b j = let w : Among b boxes × (b.name ≡ a → ⊥) = among_kept a b boxes j in record { inside = inside.listed.inside b.name (among_named b boxes w.0); other = w.1 }

  copied_is : (m : Name) → IsCopied T n a m → (b : InnerBox) × Among b some × (m ≡ b.name)
  copied_is m c =
      let w : (b : InnerBox) × Among b boxes × (m ≡ b.name) = named_among m boxes (inside.listed.each m c.inside) in
      (w.0, kept_among a w.0 boxes w.1 (λ e. c.other (w.2 ∙ e)), w.2)

  -- the names of a box and of what it has

  own_copied : (b : InnerBox) → Among b some → (m : Name) → IsIn m (own_names b) → IsNameCopied T n a m
  own_copied b j m k = record { box = b.name; copied = is_copied b j; row = x.row; there = x.there; named = on k }
    where
      x : IsInnerBox v.table b
      x = is_inner b j

      on : IsIn m (own_names b) → (m ≡ b.name) ⊎ (IsIn m x.row.store.frames ⊎ (IsIn m (firsts x.row.store.ports) ⊎ IsIn m x.row.goals))
      on (inl e) = inl e
      on (inr l) = elim (IsIn-either m b.store.frames (firsts b.store.ports ++ map (λ (g : InnerGoal). g.name) b.goals.items) l) [
        | inl p ↦ inr (inl (subst (λ (s : Stored). IsIn m s.frames) x.store p))
        | inr p ↦ elim (IsIn-either m (firsts b.store.ports) (map (λ (g : InnerGoal). g.name) b.goals.items) p) [
          | inl q ↦ inr (inr (inl (subst (λ (s : Stored). IsIn m (firsts s.ports)) x.store q)))
          | inr q ↦ inr (inr (inr (subst (IsIn m) x.goals q)))
        ]
      ]

  pub copied_own : (m : Name) → IsNameCopied T n a m → (b : InnerBox) × Among b some × IsIn m (own_names b)
  copied_own m c = (b, w.1, on c.named)
    where
      w : (b : InnerBox) × Among b some × (c.box ≡ b.name)
      w = copied_is c.box c.copied

      b : InnerBox
      b = w.0

      x : IsInnerBox v.table w.0
      x = is_inner w.0 w.1

      row : c.row ≡ x.row
      row = some_value (sym c.there ∙ ap T.box_of w.2 ∙ x.there)

      on : (m ≡ c.box) ⊎ (IsIn m c.row.store.frames ⊎ (IsIn m (firsts c.row.store.ports) ⊎ IsIn m c.row.goals)) → IsIn m (own_names w.0)
      on (inl e) = inl (e ∙ w.2)
      on (inr (inl p)) = inr (IsIn-left m w.0.store.frames (firsts w.0.store.ports ++ map (λ (g : InnerGoal). g.name) w.0.goals.items) (subst (λ (s : Stored). IsIn m s.frames) (ap (λ (r : BoxRow). r.store) row ∙ sym x.store) p))
      on (inr (inr (inl p))) = inr (IsIn-right m w.0.store.frames (firsts w.0.store.ports ++ map (λ (g : InnerGoal). g.name) w.0.goals.items)
          (IsIn-left m (firsts w.0.store.ports) (map (λ (g : InnerGoal). g.name) w.0.goals.items) (subst (λ (s : Stored). IsIn m (firsts s.ports)) (ap (λ (r : BoxRow). r.store) row ∙ sym x.store) p)))
      on (inr (inr (inr p))) = inr (IsIn-right m w.0.store.frames (firsts w.0.store.ports ++ map (λ (g : InnerGoal). g.name) w.0.goals.items)
          (IsIn-right m (firsts w.0.store.ports) (map (λ (g : InnerGoal). g.name) w.0.goals.items) (subst (IsIn m) (ap (λ (r : BoxRow). r.goals) row ∙ sym x.goals) p)))

  pub names_copied : (names : List Name) → IsIncreasing names → Adds [] (kept_names a boxes) names → AreNamesCopied T n a names
  names_copied names o x = record {
    increasing = o;
    each = λ m c. let w : (b : InnerBox) × Among b some × IsIn m (own_names b) = copied_own m c in x.comes m (kept_owned a m boxes w.0 w.1 w.2);
    only = λ m j. elim (x.only m j) [
      | inl k ↦ absurd k
      | inr k ↦ (let w : (b : InnerBox) × Among b some × IsIn m (own_names b) = kept_owner a m boxes k in own_copied w.0 w.1 m w.2)
    ];
  }

  -- they are below the worker's next number

  pub its_box : (b : InnerBox) (j : Among b some) → (e : Found) × (box_at b.name seen.table.config.roots ≡ Some e) × IsBoxRow T seen.table.config.roots e (is_inner b j).row
  its_box b j = found_of T seen.table.config seen.table.unfolds b.name (is_inner b j).row (is_inner b j).there

  pub its_own : (b : InnerBox) (j : Among b some) (m : Name) → IsIn m (own_names b) → IsIn m (own (its_box b j).0.content (its_box b j).0.goals)
  its_own b j m k =
      let y : IsInnerBox v.table b = is_inner b j in
      let e : (e : Found) × (box_at b.name seen.table.config.roots ≡ Some e) × IsBoxRow T seen.table.config.roots e y.row = its_box b j in
      let frames : b.store.frames ≡ e.0.content.frames = ap (λ (s : Stored). s.frames) y.store ∙ e.2.frames in
      let ports : firsts b.store.ports ≡ port_names e.0.content.ports = ap (λ (s : Stored). firsts s.ports) y.store ∙ sym (firsts_are nodes y.row.store.ports) ∙ ap port_names e.2.ports in
      let goals : map (λ (g : InnerGoal). g.name) b.goals.items ≡ goal_names e.0.goals = y.goals ∙ e.2.goals in
      let name : b.name ≡ e.0.content.name = box-itself b.name seen.table.config.roots e.0 e.1 in
      let names_are : own_names b ≡ own e.0.content e.0.goals = λ z. name z ∷ (frames z ++ (ports z ++ goals z)) in
      subst (IsIn m) names_are k

  pub names_below : (names : List Name) → Adds [] (kept_names a boxes) names → AreBelow names v.worker v.next
  names_below names x m j same = elim (x.only m j) [ inl k ↦ absurd k | inr k ↦ on (kept_owner a m boxes k) ]
    where
      on : (b : InnerBox) × Among b some × IsIn m (own_names b) → m.number < v.next
      on w =
          let e : (e : Found) × (box_at w.0.name seen.table.config.roots ≡ Some e) × IsBoxRow T seen.table.config.roots e (is_inner w.0 w.1).row = its_box w.0 w.1 in
          let count : 1 ≤ times m seen.table.config.roots =
          owned_counted m e.0.around e.0.content e.0.goals seen.table.config.roots (found_in w.0.name seen.table.config.roots e.0 e.1) (its_own w.0 w.1 m w.2) in
          let below : m.number < slice_index seen.table.config.next m.worker = stand.below m (omega arith) in
          subst (λ (k : ℕ). m.number < k) (ap (slice_index seen.table.config.next) same ∙ sym seen.next) below

  -- the copies

  module _ (s : NewNames) (olds : AreNamesCopied T n a s.old.items) (older : Bool) (ks : List BoxCopy) (are : AreBoxesBy s older n a (kept a boxes) ks) where
    abbrev swap : Name → Name
    swap = swapped_name s

    abbrev copies : List laws.BoxCopy
    copies = map (box_copy nodes) ks

    old_once : (m : Name) → times_in m s.old.items ≤ 1
    old_once m = elim (zero_or (times_in m s.old.items)) [ inl z ↦ omega arith | inr z ↦ (let e : times_in m s.old.items ≡ 1 = increasing_once s.old.items olds.increasing m (named_counted m s.old.items z) in omega arith) ]

    pub twice : (m : Name) → swap (swap m) ≡ m
    twice m = swap_twice s.old.items s.worker s.next (λ k h. s.below k (named_counted k s.old.items h)) old_once m

    one : (x y : Name) → swap x ≡ swap y → x ≡ y
    one x y e = sym (twice x) ∙ ap swap e ∙ twice y

    renames : (xs : List Name) → ((x : Name) → IsIn x xs → IsIn x s.old.items) → map swap xs ≡ map (renaming s.old.items s.worker s.next) xs
    renames xs among = map_alike swap (renaming s.old.items s.worker s.next) xs (λ x j. sym (swap_renames s.old.items s.worker s.next x (s.below x (among x j))))

    increases : (xs : List Name) → ((x : Name) → IsIn x xs → IsIn x s.old.items) → IsIncreasing xs → IsIncreasing (map swap xs)
    increases xs among o = subst IsIncreasing (sym (renames xs among)) (increasing_renamed s.old.items s.worker s.next olds.increasing xs among o)

    pub names_once : (m : Name) → times_in m (map (λ (k : laws.BoxCopy). k.name) copies) ≤ 1
    names_once m = subst (λ (l : List Name). times_in m l ≤ 1) (sym (copy_names nodes s older n a some ks are))
        (once_mapped swap one (map (λ (b : InnerBox). b.name) some) (λ k.
        let o : times_in k (map (λ (b : InnerBox). b.name) boxes) ≤ 1 = inside.listed.once k in
        let l : times_in k (map (λ (b : InnerBox). b.name) some) ≤ times_in k (map (λ (b : InnerBox). b.name) boxes) = kept_fewer a k boxes in
        omega arith) m)

    -- the copy of a box

    module _ (b : InnerBox) (j : Among b (kept a boxes)) (k : BoxCopy) (is : IsBoxBy s older n a b k) where
      abbrev x : IsInnerBox v.table b
      x = is_inner b j

      e : (e : Found) × (box_at b.name seen.table.config.roots ≡ Some e) × IsBoxRow T seen.table.config.roots e x.row
      e = its_box b j

      ordered : IsIncreasing e.0.content.frames × IsIncreasing (port_names e.0.content.ports)
      ordered = found_ordered e.0.around e.0.content e.0.goals seen.table.config.roots (found_in b.name seen.table.config.roots e.0 e.1)
          (replay_ordered all_rules v.table.program v.table.query v.journal seen.table.config seen.table.replays)

      frames_in_order : IsIncreasing b.store.frames
      frames_in_order = subst IsIncreasing (sym (ap (λ (t : Stored). t.frames) x.store ∙ e.2.frames)) ordered.0

      ports_in_order : IsIncreasing (firsts b.store.ports)
      ports_in_order = subst IsIncreasing (sym (ap (λ (t : Stored). firsts t.ports) x.store ∙ sym (firsts_are nodes x.row.store.ports) ∙ ap port_names e.2.ports)) ordered.1

      old_own : (m : Name) → IsIn m (own_names b) → IsIn m s.old.items
      old_own m l = olds.each m (own_copied b j m l)

      abbrev with_own_frames : Stored
      with_own_frames = with_frames nothing (map swap b.store.frames)

      abbrev with_own_ports : Stored
      with_own_ports = with_ports with_own_frames (map (port_by swap) b.store.ports)

      frames : k.store.frames ≡ map swap b.store.frames
      frames = ap (λ (t : Stored). t.frames) is.store ∙ ports_frames with_own_frames (map (port_by swap) b.store.ports)
          ∙ frames_are nothing (map swap b.store.frames) refl (increases b.store.frames (λ m l. old_own m (inr (IsIn-left m b.store.frames (firsts b.store.ports ++ map (λ (g : InnerGoal). g.name) b.goals.items) l))) frames_in_order)

      ports : k.store.ports ≡ map (port_by swap) b.store.ports
      ports = ap (λ (t : Stored). t.ports) is.store ∙ ports_are with_own_frames (map (port_by swap) b.store.ports) (frames_ports nothing (map swap b.store.frames))
          (subst IsIncreasing (sym (firsts_by swap b.store.ports)) (increases (firsts b.store.ports) (λ m l. old_own m (inr (IsIn-right m b.store.frames (firsts b.store.ports ++ map (λ (g : InnerGoal). g.name) b.goals.items)
          (IsIn-left m (firsts b.store.ports) (map (λ (g : InnerGoal). g.name) b.goals.items) l)))) ports_in_order))

      pub bindings : k.store.bindings ≡ joins [] (map (binding_by swap) b.store.bindings)
      bindings = ap (λ (t : Stored). t.bindings) is.store
          ∙ ap (λ (bs : List (Var × Term)). joins bs (map (binding_by swap) b.store.bindings)) (ports_bindings with_own_frames (map (port_by swap) b.store.ports) ∙ frames_bindings nothing (map swap b.store.frames))

      renamed : bindings_in nodes (map (binding_by swap) b.store.bindings) ≡ map (renamed_equation swap) (bindings_in nodes x.row.store.bindings)
      renamed = bindings_by swap nodes b.store.bindings ∙ ap (λ (t : Stored). map (renamed_equation swap) (bindings_in nodes t.bindings)) x.store

      alternatives_once : times_in a (alternatives_among T (map (λ (g : InnerGoal). g.name) b.goals.items)) ≤ 1
      alternatives_once = subst (λ (l : List Name). times_in a l ≤ 1) (ap (boxes_in_row T) x.there ∙ ap (alternatives_among T) (sym x.goals))
          ((nested all_rules (run_of v.table v.journal) T seen.table n).boxes_once b.name (is_copied b j).inside a)

      pub made_of : IsMadeOf T n a swap b.name x.row (box_copy nodes k)
      made_of = record {
        holder = is.holder ∙ ap (λ (o : Option Name). if same_name b.name n then None else option_map swap o) x.holder;
        frames = frames ∙ ap (λ (t : Stored). map swap t.frames) x.store;
        ports = ap (ports_in nodes) ports ∙ ports_by swap nodes b.store.ports ∙ ap (λ (t : Stored). map (renamed_port swap) (ports_in nodes t.ports)) x.store;
        told = subst (λ (bs : List (Var × Term)). AreToldIn (bindings_in nodes bs) (map (renamed_equation swap) (bindings_in nodes x.row.store.bindings))) (sym bindings)
            (subst (AreToldIn (bindings_in nodes (joins [] (map (binding_by swap) b.store.bindings)))) renamed (told_joins nodes (map (binding_by swap) b.store.bindings)));
        all_told = subst (λ (bs : List (Var × Term)). AreToldIn (map (renamed_equation swap) (bindings_in nodes x.row.store.bindings)) (bindings_in nodes bs)) (sym bindings)
            (subst (λ (es : _). AreToldIn es (bindings_in nodes (joins [] (map (binding_by swap) b.store.bindings)))) renamed (joins_told nodes (map (binding_by swap) b.store.bindings)));
        goals = goals_copied swap nodes a T b.goals.items k.goals.items x.held alternatives_once is.goals ∙ ap (copied_goals T a swap) x.goals;
        body = ap (map (goal_atom nodes)) is.body ∙ body_by swap nodes b.body.items ∙ ap (map (renamed_atom swap)) x.body;
        shown = ap (map (shown_tree nodes)) is.shown ∙ shown_trees_by swap nodes b.shown.items ∙ ap (map (renamed_shown swap)) x.shown;
        collected = ap (option_map (tree nodes)) is.collected ∙ collected_by swap nodes b.collected ∙ ap (option_map (renamed_tree swap)) x.collected;
      }

    abbrev HasCopy : Name → Type 0
    HasCopy m = (row : BoxRow) × (k : laws.BoxCopy) × (T.box_of m ≡ Some row) × (laws.copy_among copies (swap m) ≡ Some k) × IsMadeOf T n a swap m row k

    has_copy : (b : InnerBox) → Among b some → HasCopy b.name
    has_copy b j =
        let w : (k : BoxCopy) × IsBoxBy s older n a b k × IsAmong (box_copy nodes k) copies = copy_for nodes s older n a b some ks are j in (
          (is_inner b j).row,
          box_copy nodes w.0,
          (is_inner b j).there,
          ap (laws.copy_among copies) (sym w.1.name) ∙ among_found copies names_once (box_copy nodes w.0) w.2,
          made_of b j w.0 w.1,
        )

    pub all_made : AreMade T n a swap copies
    all_made = record {
      each = λ m c. let w : (b : InnerBox) × Among b some × (m ≡ b.name) = copied_is m c in subst HasCopy (sym w.2) (has_copy w.0 w.1);
      only = λ m k c.
          let w : IsAmong k copies × (m ≡ k.name) = found_among copies m k c in
          let u : (b : InnerBox) × (x : BoxCopy) × Among b some × IsBoxBy s older n a b x × (k ≡ box_copy nodes x) = box_for nodes s older n a k some ks are w.0 in
          (u.0.name, is_copied u.0 u.2, w.1 ∙ ap (λ (x : laws.BoxCopy). x.name) u.4 ∙ u.3.name);
      once = names_once;
    }

-- what is planned of the box that was looked at

box_is : (v : ViewValue) (n m : Name) → v.place ≡ Place.Box n → v.place ≡ Place.Box m → n ≡ m
box_is v n m e q = let r : Place.Box n ≡ Place.Box m = sym e ∙ q in cc

pub inside_of : (v : ViewValue) (bs : List InnerBox) (x : AreBoxesOf v bs) (n : Name) → v.place ≡ Place.Box n → AreBoxesInside v.table n bs
inside_of v bs x n e = subst (λ (m : Name). AreBoxesInside v.table m bs) (box_is v x.name n x.place e) x.boxes
