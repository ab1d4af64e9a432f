-- A view of a place, by what rows say.
use Rattle.std.proofs.Common.{◌≡◌, ℕ, ◌+◌, ◌<◌, ◌≤◌, true, List, [], ◌∷◌, ◌++◌, length, reverse, map, Option, Some, None, refl, sym, ap, subst, ◌∙◌, inl, inr, arith}
use Rattle.std.specs.Prelude.{option_map, option_and_then, IsSome, is_some, slice_index}
use Rattle.std.specs.Map.{lookup}
use Rattle.akl_terms.specs.Template.{tree}
use Rattle.akl_terms.specs.declared.name.Name.{Name}
use Rattle.akl_terms.specs.declared.name.Place.{Place}
use Rattle.akl_terms.specs.declared.term.Node.{Node}
use Rattle.akl_terms.specs.declared.program.Goal.{Goal}
use Rattle.akl_model.specs.Config.{Operator}
use Rattle.akl_terms.specs.Names.{same_name}
use Rattle.akl_model.specs.declared.label.Label.{Label}
use Rattle.akl_model.specs.Config.{Atom, Content, Boxes, no_boxes, box, Goals, Config, Held, an_atom, a_choice, held_in, Found, box_at, home_of, site_of}
use Rattle.akl_model.specs.Changes.{shape_of, box_names}
use Rattle.akl_model.specs.Wakes.{names_down_to}
use Rattle.akl_model.proofs.Options.{some_value}
use Rattle.akl_model.proofs.Finds.{times}
use Rattle.akl_model.proofs.NamesKept.{Stand, box-itself, home-box, replay-stands}
use Rattle.akl_model.proofs.ScopesKept.{around_outside}
use Rattle.local_store.specs.Stored.{Stored}
use Rattle.local_store.specs.Chained.{IsKnown}
use Rattle.table_laws.specs.Rows.{BoxRow, GoalRow, stores_along}
use Rattle.table_laws.specs.Unfolds.{IsBoxRow, Unfolds, Spot, spot_in, spot_of}
use Rattle.table_laws.specs.Stamped.{IsTableOf}
use Rattle.table_laws.specs.Walks.{alternatives_in, alternatives_of}
use Rattle.step_laws.specs.Whereabouts.{BoxIn}
use Rattle.step_laws.proofs.Whereabouts.{home_in}
use Rattle.step_laws.proofs.Deeper.{in_deeper, names_snoc, named_found}
use Rattle.step_laws.proofs.GoalEdits.{held_inside}
use Rattle.table_laws.proofs.Frame.{row_of, found_of}
use Rattle.table_laws.proofs.Insides.{goal_row}
use Rattle.box_tree.specs.declared.entries.Held.{Held as Stands}
use Rattle.box_tree.specs.declared.entries.BoxEntry.{BoxEntry}
use Rattle.box_tree.specs.declared.entries.GoalEntry.{GoalEntry}
use Rattle.box_tree.specs.declared.view.Alternative.{Alternative}
use Rattle.box_tree.specs.declared.view.Sight.{Sight}
use Rattle.box_tree.specs.Tables as tables
use Rattle.box_tree.specs.Tables.{op_held, all_rules, TableValue, table_of, goal_atom, shape_held, goals_in, is_empty}
use Rattle.box_tree.specs.Views.{run_of, Shows, alternatives_held, alternatives_at, IsSeen, AreSeen, only_body, IsViewOf, is_there}
use Rattle.box_tree.specs.Paths.{IsPath, HasPath, sight_held, sight_in, known_in, latest_in, names_at, seen_as, collected_in, body_in, body_of_only}
use Rattle.box_tree.proofs.Looks.{stores_append}
use Rattle.box_tree.proofs.Seen.{known_end, PathOf, path_found, known_is, path_few, deep_one}

-- what is there

no_entry : {A B : Type 0} (f : A → B) (o : Option A) (b : B) → option_map f o ≡ Some b → (a : A) × (o ≡ Some a) × (f a ≡ b)
no_entry f None b e = cc
no_entry f (Some a) b e = (a, refl, some_value e)

pub spot_found : (g : Name) (roots : Boxes) (s : Spot) → spot_in g roots ≡ Some s → (f : Found) × (h : Held) × (home_of g roots ≡ Some f) × (held_in g f.goals ≡ Some h) × (f.content.name ≡ s.home) × (shape_of h ≡ s.shape)
spot_found g roots s e = on (home_of g roots) refl e
  where
    held : (f : Found) (o : Option Held) → home_of g roots ≡ Some f → held_in g f.goals ≡ o → option_map (λ (h : Held). record { home = f.content.name; shape = shape_of h }) o ≡ Some s
        → (f : Found) × (h : Held) × (home_of g roots ≡ Some f) × (held_in g f.goals ≡ Some h) × (f.content.name ≡ s.home) × (shape_of h ≡ s.shape)
    held f None i j k = cc
    held f (Some h) i j k = (f, h, i, j, ap (λ (x : Spot). x.home) (some_value k), ap (λ (x : Spot). x.shape) (some_value k))

    on : (o : Option Found) → home_of g roots ≡ o → option_and_then (λ (f : Found). option_map (λ (h : Held). record { home = f.content.name; shape = shape_of h }) (held_in g f.goals)) o ≡ Some s
        → (f : Found) × (h : Held) × (home_of g roots ≡ Some f) × (held_in g f.goals ≡ Some h) × (f.content.name ≡ s.home) × (shape_of h ≡ s.shape)
    on None i k = cc
    on (Some f) i k = held f (held_in g f.goals) i refl k

-- what stands at a place
pub record StandsAt (t : TableValue) (c : Config) (place : Place) (home : Name) (sight : Sight) : Type 0 where
  pub found : Found
  pub is_site : site_of place c.roots ≡ Some found
  pub named : found.content.name ≡ home
  pub is_box : box_at home c.roots ≡ Some found
  pub shows : Shows t.program.templates.nodes place found sight
  pub there : is_there (table_of t) place ≡ true

collected_shown : (nodes : List Node) (o : Option BoxEntry) (r : BoxRow) → option_map (tables.box_row nodes) o ≡ Some r → option_map (tree nodes) (collected_in o) ≡ r.collected
collected_shown nodes None r e = cc
collected_shown nodes (Some x) r e = ap (λ (y : BoxRow). y.collected) (some_value e)

held_shows : (nodes : List Node) (g : Name) (f : Found) (h : Held) (e : Stands) → held_in g f.goals ≡ Some h → shape_of h ≡ shape_held nodes e → Shows nodes (Place.Goal g) f (sight_held e)
held_shows nodes g f (an_atom a) (Stands.Atom x) i j = let q : a ≡ goal_atom nodes x = cc in i ∙ ap (λ (y : Atom). Some (an_atom y)) q
held_shows nodes g f (an_atom a) (Stands.Choice op alternatives since) i j = cc
held_shows nodes g f (a_choice o bs) (Stands.Atom x) i j = cc
held_shows nodes g f (a_choice o bs) (Stands.Choice op alternatives since) i j = let q : o ≡ op_held nodes op = cc in (bs, i ∙ ap (λ (y : Operator). Some (a_choice y bs)) q)

module _ (t : TableValue) (c : Config) (u : Unfolds (table_of t) c) (once : (m : Name) → times m c.roots ≤ 1) where
  pub seen : (place : Place) (home : Name) (sight : Sight) → sight_in t place ≡ Some (home, sight) → StandsAt t c place home sight
  seen (Place.Goal g) home sight e =
      let w : (x : GoalEntry) × (lookup (same_name g) t.goals ≡ Some x) × ((x.home, sight_held x.held) ≡ (home, sight)) = no_entry (λ (x : GoalEntry). (x.home, sight_held x.held)) (lookup (same_name g) t.goals) (home, sight) e in
      let r : (table_of t).goal_of g ≡ Some (tables.goal_row t.program.templates.nodes w.0) = ap (option_map (tables.goal_row t.program.templates.nodes)) w.1 in
      let s : spot_in g c.roots ≡ Some (spot_of (tables.goal_row t.program.templates.nodes w.0)) = sym (u.goals g) ∙ ap (option_map spot_of) r in
      let x : (f : Found) × (h : Held) × (home_of g c.roots ≡ Some f) × (held_in g f.goals ≡ Some h) × (f.content.name ≡ w.0.home) × (shape_of h ≡ shape_held t.program.templates.nodes w.0.held) =
      spot_found g c.roots (spot_of (tables.goal_row t.program.templates.nodes w.0)) s in
      let q : x.0.content.name ≡ home = x.4 ∙ ap (λ (p : Name × Sight). p.0) w.2 in
      record {
        found = x.0;
        is_site = x.2;
        named = q;
        is_box = subst (λ (n : Name). box_at n c.roots ≡ Some x.0) q (home-box g c.roots x.0 once x.2);
        shows = subst (Shows t.program.templates.nodes (Place.Goal g) x.0) (ap (λ (p : Name × Sight). p.1) w.2) (held_shows t.program.templates.nodes g x.0 x.1 w.0.held x.3 x.5);
        there = ap is_some r;
      }
  seen (Place.Box n) home sight e =
      let w : (x : BoxEntry) × (lookup (same_name n) t.boxes ≡ Some x) × ((n, Sight.Box x.failing) ≡ (home, sight)) = no_entry (λ (x : BoxEntry). (n, Sight.Box x.failing)) (lookup (same_name n) t.boxes) (home, sight) e in
      let r : (table_of t).box_of n ≡ Some (tables.box_row t.program.templates.nodes w.0) = ap (option_map (tables.box_row t.program.templates.nodes)) w.1 in
      let x : (f : Found) × (box_at n c.roots ≡ Some f) × IsBoxRow (table_of t) c.roots f (tables.box_row t.program.templates.nodes w.0) = found_of (table_of t) c u n (tables.box_row t.program.templates.nodes w.0) r in
      let q : n ≡ home = ap (λ (p : Name × Sight). p.0) w.2 in
      record {
        found = x.0;
        is_site = x.1;
        named = sym (box-itself n c.roots x.0 x.1) ∙ q;
        is_box = subst (λ (m : Name). box_at m c.roots ≡ Some x.0) q x.1;
        shows = subst (Shows t.program.templates.nodes (Place.Box n) x.0) (ap (λ (p : Name × Sight). p.1) w.2) x.2.failing;
        there = ap is_some r;
      }

-- the alternatives of a choice are seen

module _ (t : TableValue) (c : Config) (u : Unfolds (table_of t) c) (once : (m : Name) → times m c.roots ≤ 1) where
  -- as many of the stores down to each box are solved as is known
  abbrev AreKnown : Type 0
  AreKnown = (n : Name) (f : Found) → box_at n c.roots ≡ Some f → IsKnown t.program.templates.nodes (stores_along (table_of t) (names_down_to f)) (known_in (table_of t) 0 (names_down_to f))

  -- their names
  named_at : (g : Name) (f : Found) (h : Held) → home_of g c.roots ≡ Some f → held_in g f.goals ≡ Some h → alternatives_of ((table_of t).goal_of g) ≡ box_names (alternatives_held (held_in g f.goals))
  named_at g f h e i =
      let r : (r : GoalRow) × ((table_of t).goal_of g ≡ Some r) × (r.home ≡ f.content.name) × (r.shape ≡ shape_of h) = goal_row (table_of t) c u once g f h e i in
      ap alternatives_of r.1 ∙ ap alternatives_in r.3 ∙ of_held h ∙ sym (ap (λ (o : Option Held). box_names (alternatives_held o)) i)
    where
      of_held : (h : Held) → alternatives_in (shape_of h) ≡ box_names (alternatives_held (Some h))
      of_held (an_atom a) = refl
      of_held (a_choice op bs) = refl

  names_there : (place : Place) (sight : Sight) (f : Found) → site_of place c.roots ≡ Some f → Shows t.program.templates.nodes place f sight → names_at (table_of t) place ≡ box_names (alternatives_at place f)
  names_there (Place.Goal g) (Sight.Atom a) f e h = named_at g f (an_atom (goal_atom t.program.templates.nodes a)) e h
  names_there (Place.Goal g) (Sight.Choice op) f e h = named_at g f (a_choice (op_held t.program.templates.nodes op) h.0) e h.1
  names_there (Place.Goal g) (Sight.Box o) f e h = absurd h
  names_there (Place.Box n) sight f e h = refl

  module _ (g : Name) (f : Found) (op : Operator) (bs : Boxes) (e : home_of g c.roots ≡ Some f) (h : held_in g f.goals ≡ Some (a_choice op bs)) where
    abbrev inner : Content → Goals → Found
    inner b gs = record { around = f.around ++ f.content ∷ []; content = b; goals = gs }

    found : (b : Content) (gs : Goals) → BoxIn [] b gs bs → box_at b.name c.roots ≡ Some (inner b gs)
    found b gs x = named_found c.roots once b.name (inner b gs) (in_deeper f.around f.content f.goals [] b gs c.roots (home_in g c.roots f e).0 (held_inside g op bs [] b gs f.goals h x)) refl

    pub row : (b : Content) (gs : Goals) → BoxIn [] b gs bs → (r : BoxRow) × ((table_of t).box_of b.name ≡ Some r) × IsBoxRow (table_of t) c.roots (inner b gs) r
    row b gs x = row_of (table_of t) c u b.name (inner b gs) (found b gs x)

    abbrev path : List Name
    path = names_down_to f

    seen_one : AreKnown → (b : Content) (gs : Goals) → BoxIn [] b gs bs
        → IsSeen (table_of t) (stores_along (table_of t) path) b gs (seen_as t (known_in (table_of t) 0 path) (latest_in (table_of t) 0 path) (length path + 1) b.name)
    seen_one k b gs x =
        let r : (r : BoxRow) × ((table_of t).box_of b.name ≡ Some r) × IsBoxRow (table_of t) c.roots (inner b gs) r = row b gs x in
        let down : names_down_to (inner b gs) ≡ path ++ b.name ∷ [] = ap (λ (ns : List Name). ns ++ b.name ∷ []) (names_snoc f.around f.content) in
        let known : IsKnown t.program.templates.nodes (stores_along (table_of t) (path ++ b.name ∷ [])) (known_in (table_of t) 0 (path ++ b.name ∷ [])) =
        subst (λ (ns : List Name). IsKnown t.program.templates.nodes (stores_along (table_of t) ns) (known_in (table_of t) 0 ns)) down (k b.name (inner b gs) (found b gs x)) in
        record {
          name = refl;
          solved = ap (λ (o : Option BoxRow). is_empty (goals_in o)) r.1 ∙ ap is_empty r.2.goals;
          store = refl;
          collected = collected_shown t.program.templates.nodes (lookup (same_name b.name) t.boxes) r.0 r.1 ∙ r.2.collected;
          known = subst (λ (z : List Stored × ℕ). IsKnown t.program.templates.nodes z.0 z.1) (λ j. ((stores_append (table_of t) path (b.name ∷ [])) j, (known_end (table_of t) path b.name 0) j)) known;
        }

    seen_all : AreKnown → (cs : Boxes) → ((b : Content) (gs : Goals) → BoxIn [] b gs cs → BoxIn [] b gs bs)
        → AreSeen (table_of t) (stores_along (table_of t) path) cs (map (seen_as t (known_in (table_of t) 0 path) (latest_in (table_of t) 0 path) (length path + 1)) (box_names cs))
    seen_all k no_boxes s = tt
    seen_all k (box b gs cs) s = (seen_one k b gs (s b gs (inl (refl, refl, refl))), seen_all k cs (λ d hs x. s d hs (inr (inr x))))

    only_seen : (cs : Boxes) → ((b : Content) (gs : Goals) → BoxIn [] b gs cs → BoxIn [] b gs bs) → body_of_only (table_of t) (box_names cs) ≡ only_body cs
    only_seen no_boxes s = refl
    only_seen (box b gs no_boxes) s = let r : (r : BoxRow) × ((table_of t).box_of b.name ≡ Some r) × IsBoxRow (table_of t) c.roots (inner b gs) r = row b gs (s b gs (inl (refl, refl, refl))) in ap body_in r.1 ∙ r.2.body
    only_seen (box b gs (box k hs cs)) s = refl

  -- what is seen from a path, and the body of the only one
  abbrev pub AreSeenFrom : List Name → Boxes → Type 0
  AreSeenFrom path bs = AreSeen (table_of t) (stores_along (table_of t) path) bs (map (seen_as t (known_in (table_of t) 0 path) (latest_in (table_of t) 0 path) (length path + 1)) (box_names bs))
      × (body_of_only (table_of t) (box_names bs) ≡ only_body bs)

  seen_at : AreKnown → (place : Place) (sight : Sight) (f : Found) → site_of place c.roots ≡ Some f → Shows t.program.templates.nodes place f sight → AreSeenFrom (names_down_to f) (alternatives_at place f)
  seen_at k (Place.Goal g) (Sight.Atom a) f e h = subst (AreSeenFrom (names_down_to f)) (sym (ap alternatives_held h)) (tt, refl)
  seen_at k (Place.Goal g) (Sight.Choice op) f e h = subst (AreSeenFrom (names_down_to f)) (sym (ap alternatives_held h.1)) (seen_all g f (op_held t.program.templates.nodes op) h.0 e h.1 k h.0 (λ b gs x. x), only_seen g f (op_held t.program.templates.nodes op) h.0 e h.1 h.0 (λ b gs x. x))
  seen_at k (Place.Goal g) (Sight.Box o) f e h = absurd h
  seen_at k (Place.Box n) sight f e h = (tt, refl)

module _ (t : TableValue) (journal : List Label) (i : IsTableOf all_rules (run_of t journal) (table_of t)) where
  stand : Stand i.config
  stand = replay-stands all_rules t.program t.query journal i.config i.replays

  stood : (m : Name) → times m i.config.roots ≤ 1
  stood = stand.once

  all_known : (n : Name) (f : Found) → box_at n i.config.roots ≡ Some f → IsKnown t.program.templates.nodes (stores_along (table_of t) (names_down_to f)) (known_in (table_of t) 0 (names_down_to f))
  all_known = known_is (table_of t) i.config i.unfolds stand (λ m f e. around_outside all_rules t.program t.query journal i.config m f i.replays e)

  pub key_there : (m : Name) (r : BoxRow) → (table_of t).box_of m ≡ Some r → IsSome (lookup (same_name m) t.boxes)
  key_there m r e = on (lookup (same_name m) t.boxes) e
    where
      on : (o : Option BoxEntry) → option_map (tables.box_row t.program.templates.nodes) o ≡ Some r → IsSome o
      on None e = cc
      on (Some x) e = refl

  pub has_path : (place : Place) (home : Name) (sight : Sight) → sight_in t place ≡ Some (home, sight) → HasPath t home
  has_path place home sight e =
      let s : StandsAt t i.config place home sight = seen t i.config i.unfolds stood place home sight e in
      let p : PathOf (table_of t) i.config i.unfolds stood home s.found = path_found (table_of t) i.config i.unfolds stood (length s.found.around) home s.found refl s.is_box in
      let few : length s.found.around < length t.boxes = path_few (table_of t) i.config i.unfolds stood t.boxes key_there home s.found s.is_box in
      let same : length p.0 ≡ length s.found.around = p.3 in
      (p.0, p.1, omega arith)

  pub view_of : (place : Place) (worker : ℕ) (home : Name) (sight : Sight) (path : List Name) (stores : List Stored) (known next : ℕ) (alternatives : List Alternative) (body : List Goal) → sight_in t place ≡ Some (home, sight)
      → IsPath (table_of t) home path → stores ≡ stores_along (table_of t) path → known ≡ known_in (table_of t) 0 path → next ≡ slice_index t.next worker
      → alternatives ≡ map (seen_as t (known_in (table_of t) 0 path) (latest_in (table_of t) 0 path) (length path + 1)) (names_at (table_of t) place)
      → map (goal_atom t.program.templates.nodes) body ≡ body_of_only (table_of t) (names_at (table_of t) place)
      → IsViewOf (record { table = t; journal = journal; place = place; worker = worker; next = next; path = path; stores = stores; known = known; sight = sight; alternatives = alternatives; body = body })
  view_of place worker home sight path stores known next alternatives body e p ss k n al bd =
      let s : StandsAt t i.config place home sight = seen t i.config i.unfolds stood place home sight e in
      let x : PathOf (table_of t) i.config i.unfolds stood home s.found = path_found (table_of t) i.config i.unfolds stood (length s.found.around) home s.found refl s.is_box in
      let same : path ≡ names_down_to s.found = p.2 ∙ ap (λ (ms : List Name). reverse (home ∷ ms)) (deep_one (table_of t) home p.0 x.0 p.1 x.1) ∙ sym x.2 in
      let known_here : IsKnown t.program.templates.nodes (stores_along (table_of t) (names_down_to s.found)) (known_in (table_of t) 0 (names_down_to s.found)) = all_known home s.found s.is_box in
      let names : names_at (table_of t) place ≡ box_names (alternatives_at place s.found) = names_there t i.config i.unfolds stood place sight s.found s.is_site s.shows in
      let all : AreSeenFrom t i.config i.unfolds stood path (alternatives_at place s.found) =
      subst (λ (ns : List Name). AreSeenFrom t i.config i.unfolds stood ns (alternatives_at place s.found)) (sym same) (seen_at t i.config i.unfolds stood all_known place sight s.found s.is_site s.shows) in
      record {
        table = i;
        site = s.found;
        is_site = s.is_site;
        next = n ∙ i.unfolds.next worker;
        path = same;
        stores = ss;
        known = subst (λ (z : List Stored × ℕ). IsKnown t.program.templates.nodes z.0 z.1)
            (λ j. ((sym (ss ∙ ap (stores_along (table_of t)) same)) j, (sym (k ∙ ap (known_in (table_of t) 0) same)) j)) known_here;
        shows = s.shows;
        alternatives = subst (λ (z : List Stored × List Alternative). AreSeen (table_of t) z.0 (alternatives_at place s.found) z.1)
            (λ j. ((sym ss) j, (sym (al ∙ ap (map (seen_as t (known_in (table_of t) 0 path) (latest_in (table_of t) 0 path) (length path + 1))) names)) j)) all.0;
        body = bd ∙ ap (body_of_only (table_of t)) names ∙ all.1;
      }
