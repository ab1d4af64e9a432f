-- An atom that waits on a variable isn't reduced: it stays while its box keeps the names of its goals, and the equations down to it are the same.
use Rattle.std.proofs.Common.{◌≡◌, ◌≤◌, ◌+◌, ℕ, arith, List, [], ◌∷◌, ◌++◌, map, Option, Some, None, refl, sym, ◌∙◌, ap, subst, inl, inr}
use Rattle.std.specs.Prelude.{option_map, slice_index}
use Rattle.akl_terms.specs.declared.name.Name.{Name}
use Rattle.akl_terms.specs.declared.name.Var.{Var}
use Rattle.akl_terms.specs.declared.name.Place.{Place}
use Rattle.akl_model.specs.Config.{Operator}
use Rattle.akl_terms.specs.declared.program.Program.{Program}
use Rattle.akl_terms.specs.declared.program.Query.{Query}
use Rattle.akl_terms.specs.declared.program.Test.{Test}
use Rattle.akl_terms.specs.Tree.{Tree, port, port_head}
use Rattle.akl_terms.specs.Equal.{Equations, same, turned, joined, IsConsistent}
use Rattle.akl_terms.specs.Arithmetic.{Answer, Evaluates, gives, compared, GoalWaitsOn, right_of_is, left_side, right_side}
use Rattle.constraint_laws.proofs.WaitsOne.{value_waits}
use Rattle.akl_model.specs.declared.item.Item.{Item}
use Rattle.akl_model.specs.declared.label.Rule.{Rule}
use Rattle.akl_model.specs.declared.label.Label.{Label}
use Rattle.akl_model.specs.Config.{IsIn, Atom, Content, Boxes, Config, Held, an_atom, a_choice, held_in, Found, whole, box_at, home_of, site_of}
use Rattle.akl_model.specs.Rules.{Reading, answer, receiver, Change, ChoiceIn, choice_with, tell, fork, open_new, cut, promote, collect, change_by}
use Rattle.akl_model.specs.Conditions.{ComesTo, GoesTo}
use Rattle.akl_model.specs.Stable.{Allows, AtomWaitsOn}
use Rattle.akl_model.specs.Derivations.{Applies, Replays}
use Rattle.akl_model.specs.Changes.{goal_names, Shape, shape_of, shape_at}
use Rattle.akl_model.specs.Wakes.{names_around, names_down_to}
use Rattle.akl_model.proofs.Options.{some_value, map_some}
use Rattle.akl_model.proofs.Drawn.{held-choice}
use Rattle.akl_model.proofs.Finds.{times_of, times_inside}
use Rattle.akl_model.proofs.NamesKept.{Stand, box-itself, site-box, replay-stands, derived-stands}
use Rattle.akl_model.proofs.Scoped.{IsIn-right}
use Rattle.akl_model.proofs.ScopesAlong.{only_once}
use Rattle.step_laws.specs.ChangedItems.{goal_of, MayChange, store, goals, goal, store_gone, goals_gone, goal_gone, store_new, goals_new, goal_new, holder, roots, binding}
use Rattle.step_laws.proofs.Decide.{option_or, shape_or}
use Rattle.step_laws.specs.Likeness.{IsLike}
use Rattle.step_laws.specs.Stays.{GoesOn, Leaves, IsSameBox}
use Rattle.step_laws.proofs.Whereabouts.{found_in, in_home}
use Rattle.step_laws.proofs.GoalEdits.{HasGoal, has_names}
use Rattle.step_laws.proofs.Steps.{later}
use Rattle.step_laws.proofs.Stays.{shape_home, same_box}
use Rattle.step_laws.proofs.StaysLaws.{goals_stay}
use Rattle.step_laws.proofs.ChangedItems.{items_law}
use Rattle.plan_laws.proofs.ByGoals.{by_goals_law}
use Rattle.plan_laws.proofs.Replayed.{replay_further}
use Rattle.plan_laws.proofs.SameSites.{whole_same}
use Rattle.plan_laws.proofs.Still.{atom_shape}

-- a goal that comes to an answer waits on nothing
evaluated_waits : {symbols : List (List ℕ)} {E : Equations} → IsConsistent E → {test : Test} {l r : Tree} {a : Answer} {x : Var} → Evaluates symbols E test l r a → GoalWaitsOn symbols E test l r x → ⊥
evaluated_waits {symbols} {E} c (gives h) (right_of_is w) = value_waits symbols E c h same w
evaluated_waits {symbols} {E} c (gives h) (left_side n w) = n refl
evaluated_waits {symbols} {E} c (gives h) (right_side n v w) = n refl
evaluated_waits {symbols} {E} c (compared h k e) (left_side n w) = value_waits symbols E c h same w
evaluated_waits {symbols} {E} c (compared h k e) (right_side n v w) = value_waits symbols E c k same w
evaluated_waits {symbols} {E} c (compared h k e) (right_of_is w) = cc

-- no rule may be used at an atom that waits
module _ (p : Program) (g : Name) (f : Found) (t : Atom) (x : Var) (k : AtomWaitsOn p (whole f) t x) where
  waits_as : (u : Atom) → an_atom u ≡ an_atom t → AtomWaitsOn p (whole f) u x
  waits_as u e = let q : t ≡ u = cc in subst (λ (y : Atom). AtomWaitsOn p (whole f) y x) q k

  no_answer : (v : Reading) (h : Option Held) → h ≡ Some (an_atom t) → ComesTo p v f h → ⊥
  no_answer (answer y) (Some (an_atom (Atom.arithmetic test l r))) e i = evaluated_waits i.0 i.1 (waits_as (Atom.arithmetic test l r) (some_value e))
  no_answer _ _ e i = absurd i

  no_port : (v : Reading) (h : Option Held) → h ≡ Some (an_atom t) → GoesTo v f h → ⊥
  no_port (receiver q) (Some (an_atom (Atom.send m r))) e i =
      let w : AtomWaitsOn p (whole f) (Atom.send m r) x = waits_as (Atom.send m r) (some_value e) in
      w.1 (port q, port_head q, joined (turned w.0) i.1, refl)
  no_port _ _ e i = absurd i

  no_tell : (ch : Change) (u : Atom) → tell g f (Some (an_atom u)) ≡ Some ch → AtomWaitsOn p (whole f) u x → ⊥
  no_tell ch (Atom.equation l r) z w = w
  no_tell ch (Atom.arithmetic test l r) z w = cc
  no_tell ch (Atom.open_port l r) z w = cc
  no_tell ch (Atom.send l r) z w = cc
  no_tell ch (Atom.call n ts r) z w = cc
  no_tell ch Atom.fail z w = cc

  no_fork : (w next : ℕ) (ch : Change) (u : Atom) → fork p w next g f (Some (an_atom u)) ≡ Some ch → AtomWaitsOn p (whole f) u x → ⊥
  no_fork w next ch (Atom.equation l r) z y = y
  no_fork w next ch (Atom.arithmetic test l r) z y = cc
  no_fork w next ch (Atom.open_port l r) z y = y
  no_fork w next ch (Atom.send l r) z y = cc
  no_fork w next ch (Atom.call n ts r) z y = y
  no_fork w next ch Atom.fail z y = y

  no_open : (w next : ℕ) (ch : Change) (u : Atom) → open_new w next g f (Some (an_atom u)) ≡ Some ch → AtomWaitsOn p (whole f) u x → ⊥
  no_open w next ch (Atom.equation l r) z y = y
  no_open w next ch (Atom.arithmetic test l r) z y = cc
  no_open w next ch (Atom.open_port l r) z y = y
  no_open w next ch (Atom.send l r) z y = cc
  no_open w next ch (Atom.call n ts r) z y = y
  no_open w next ch Atom.fail z y = y

  no_rule : (held : held_in g f.goals ≡ Some (an_atom t)) (v : Reading) (w next : ℕ) (r : Rule) (alternative : Option Name) (ch : Change) → change_by p v w next r (Place.Goal g) alternative f ≡ Some ch
      → Allows p v r (Place.Goal g) alternative f → ⊥
  no_rule held v w next Rule.Tell None ch e i = no_tell ch t (subst (λ (h : Option Held). tell g f h ≡ Some ch) held e) k
  no_rule held v w next Rule.Tell (Some n) ch e i = cc
  no_rule held v w next Rule.Fork None ch e i = no_fork w next ch t (subst (λ (h : Option Held). fork p w next g f h ≡ Some ch) held e) k
  no_rule held v w next Rule.Fork (Some n) ch e i = cc
  no_rule held v w next Rule.Eval None ch e i = no_answer v (held_in g f.goals) held i
  no_rule held v w next Rule.Eval (Some n) ch e i = cc
  no_rule held v w next Rule.Open None ch e i = no_open w next ch t (subst (λ (h : Option Held). open_new w next g f h ≡ Some ch) held e) k
  no_rule held v w next Rule.Open (Some n) ch e i = cc
  no_rule held v w next Rule.Send None ch e i = no_port v (held_in g f.goals) held i
  no_rule held v w next Rule.Send (Some n) ch e i = cc
  no_rule held v w next Rule.Fail alternative ch e i = cc
  no_rule held v w next Rule.Cut None ch e i = cc
  no_rule held v w next Rule.Cut (Some n) ch e i = let z : cut g n f (Some (an_atom t)) ≡ Some ch = subst (λ (h : Option Held). cut g n f h ≡ Some ch) held e in cc
  no_rule held v w next Rule.Collect None ch e i = let z : collect p w next g f (Some (an_atom t)) ≡ Some ch = subst (λ (h : Option Held). collect p w next g f h ≡ Some ch) held e in cc
  no_rule held v w next Rule.Collect (Some n) ch e i = cc
  no_rule held v w next Rule.Promote None ch e i = cc
  no_rule held v w next Rule.Promote (Some n) ch e i = let z : promote w next g n f (Some (an_atom t)) ≡ Some ch = subst (λ (h : Option Held). promote w next g n f h ≡ Some ch) held e in cc
  no_rule held v w next Rule.Split alternative ch e i = cc

-- so a label leaves it, while its goal is there
module _ (rules : List Rule) (p : Program) (q : Query) (journal : List Label) (c : Config) (l : Label) (d : Config) (r : Replays rules p q journal c) (a : Applies rules p c l d) (g : Name) (e f : Found)
    (i : home_of g c.roots ≡ Some e) (j : home_of g d.roots ≡ Some f) (t : Atom) (x : Var) (held : held_in g e.goals ≡ Some (an_atom t)) (k : AtomWaitsOn p (whole e) t x) where
  no_choice : (o : Operator) (bs : Boxes) → held_in g e.goals ≡ Some (a_choice o bs) → ⊥
  no_choice o bs h = let z : Some (an_atom t) ≡ Some (a_choice o bs) = sym held ∙ h in cc

  site : (place : Place) → l.place ≡ place → site_of place c.roots ≡ Some a.site
  site place z = subst (λ (y : Place). site_of y c.roots ≡ Some a.site) z a.is_site

  reduced : l.place ≡ Place.Goal g → ⊥
  reduced z =
      let s : a.site ≡ e = some_value (sym (site (Place.Goal g) z) ∙ i) in
      no_rule p g e t x k held a.makes.reading l.worker (slice_index c.next l.worker) l.rule l.alternative a.change
      (subst (λ (u : Found). change_by p a.makes.reading l.worker (slice_index c.next l.worker) l.rule (Place.Goal g) l.alternative u ≡ Some a.change) s
      (subst (λ (y : Place). change_by p a.makes.reading l.worker (slice_index c.next l.worker) l.rule y l.alternative a.site ≡ Some a.change) z a.makes.change))
      (subst (λ (u : Found). Allows p a.makes.reading l.rule (Place.Goal g) l.alternative u) s (subst (λ (y : Place). Allows p a.makes.reading l.rule y l.alternative a.site) z a.makes.allowed))

  split : (b : Name) (u : ChoiceIn) → choice_with b a.site.goals ≡ Some u → u.name ≡ g → ⊥
  split b u z n =
      let s : Stand c = replay-stands rules p q journal c r in
      let found : box_at a.site.content.name c.roots ≡ Some a.site = site-box l.place c.roots a.site s.once a.is_site in
      let once : times_of u.name a.site.content + (times_inside u.name a.site.goals + 0) ≤ 1 = only_once c.roots s.once a.site.content.name a.site found u.name in
      let h : held_in u.name a.site.goals ≡ Some (a_choice u.op u.alternatives) = held-choice b a.site.goals u (omega (arith, once)) z in
      let w : held_in g a.site.goals ≡ Some (a_choice u.op u.alternatives) = subst (λ (m : Name). held_in m a.site.goals ≡ Some (a_choice u.op u.alternatives)) n h in
      let same : a.site ≡ e = some_value (sym (in_home g (a_choice u.op u.alternatives) c.roots a.site s.once (found_in a.site.content.name c.roots a.site found) w) ∙ i) in
      no_choice u.op u.alternatives (subst (λ (m : Found). held_in g m.goals ≡ Some (a_choice u.op u.alternatives)) same w)

  not_its_goal : (place : Place) (alternative : Option Name) → l.place ≡ place → goal_of place alternative a.site ≡ Some g → ⊥
  not_its_goal (Place.Goal h) alternative z y = reduced (z ∙ ap Place.Goal (some_value y))
  not_its_goal (Place.Box n) None z y = cc
  not_its_goal (Place.Box n) (Some b) z y = let u : (u : ChoiceIn) × (choice_with b a.site.goals ≡ Some u) × (u.name ≡ g) = map_some (λ (k : ChoiceIn). k.name) (choice_with b a.site.goals) g y in split b u.0 u.1 u.2

  unchanged : (item : Item) → item ≡ Item.Goal g → MayChange a item → ⊥
  unchanged item z store = cc
  unchanged item z goals = cc
  unchanged item z (goal {g = h} y) = let n : h ≡ g = cc in not_its_goal l.place l.alternative refl (subst (λ (m : Name). goal_of l.place l.alternative a.site ≡ Some m) n y)
  unchanged item z (store_gone y u) = cc
  unchanged item z (goals_gone y u) = cc
  unchanged item z (goal_gone {g = h} y u) = let n : h ≡ g = cc in let o : None ≡ Some f = sym (subst (λ (m : Name). home_of m d.roots ≡ None) n u) ∙ j in cc
  unchanged item z (store_new y u) = cc
  unchanged item z (goals_new y u) = cc
  unchanged item z (goal_new {g = h} y u) = let n : h ≡ g = cc in let o : None ≡ Some e = sym (subst (λ (m : Name). home_of m c.roots ≡ None) n y) ∙ i in cc
  unchanged item z (holder {g = h} {e = b} {o = o} {bs = bs} y u w m) =
      let n : h ≡ g = cc in
      let s : b ≡ e = some_value (sym (subst (λ (k : Name). home_of k c.roots ≡ Some b) n u) ∙ i) in
      no_choice o bs (subst (λ (k : Found). held_in g k.goals ≡ Some (a_choice o bs)) s (subst (λ (k : Name). held_in k b.goals ≡ Some (a_choice o bs)) n w))
  unchanged item z (roots y u) = cc
  unchanged item z (binding y) = cc

  atom_step : held_in g f.goals ≡ Some (an_atom t)
  atom_step = elim (option_or Shape shape_or (shape_at g c.roots) (shape_at g d.roots)) [
    | inl z ↦ atom_shape t (held_in g f.goals) (sym (ap (option_map shape_of) held) ∙ sym (shape_home g c.roots e i) ∙ z ∙ shape_home g d.roots f j)
    | inr n ↦ absurd (unchanged (Item.Goal g) refl (items_law rules p q journal c l d r a (Item.Goal g) n))
  ]

-- a box that keeps its set of goals, as those around it do, has the same equations down to it
pub box_by_goals : (rules : List Rule) (p : Program) (c : Config) (ls : List Label) (d : Config) (w : GoesOn rules p c ls d) (n : Name) (e : Found) → box_at n c.roots ≡ Some e
    → ((m : Name) → IsIn m (names_down_to e) → Leaves w (Item.Goals m)) → (f : Found) × (box_at n d.roots ≡ Some f) × (goal_names e.goals ≡ goal_names f.goals) × IsSameBox e f
box_by_goals rules p c ls d w n e i u =
    let s : Stand c = replay-stands rules p w.query w.journal c w.replays in
    let own : IsIn n (names_down_to e) = IsIn-right n (names_around e) (e.content.name ∷ []) (inl (box-itself n c.roots e i)) in
    let f : (f : Found) × (box_at n d.roots ≡ Some f) × IsLike e f × (goal_names e.goals ≡ goal_names f.goals) = goals_stay rules p c ls d w n e i (u n own) in
    (f.0, f.1, f.3, same_box c d s (derived-stands rules p c d ls s w.derives) (later rules p c d ls s w.derives) e f.0 (found_in n c.roots e i) (found_in n d.roots f.0 f.1) f.2 (λ m h. by_goals_law rules p c ls d w m (u m h)))

-- and an atom of it that waits stays
pub waiting_stays : (rules : List Rule) (p : Program) (c : Config) (ls : List Label) (d : Config) (w : GoesOn rules p c ls d) (n : Name) (e f : Found) → box_at n c.roots ≡ Some e → box_at n d.roots ≡ Some f
    → ((m : Name) → IsIn m (names_down_to e) → Leaves w (Item.Goals m)) → (g : Name) (t : Atom) (x : Var) → held_in g e.goals ≡ Some (an_atom t) → AtomWaitsOn p (whole e) t x → held_in g f.goals ≡ Some (an_atom t)
waiting_stays rules p c [] d w n e f i j u g t x held k = subst (λ (m : Found). held_in g m.goals ≡ Some (an_atom t)) (some_value (sym i ∙ ap (λ (m : Config). box_at n m.roots) w.derives ∙ j)) held
waiting_stays rules p c (l ∷ ls) d w n e f i j u g t x held k =
    let m : Config = w.derives.0 in
    let a : Applies rules p c l m = w.derives.1 in
    let s : Stand c = replay-stands rules p w.query w.journal c w.replays in
    let y : Replays rules p w.query (w.journal ++ l ∷ []) m = replay_further rules p w.query w.journal c l m w.replays a in
    let t2 : Stand m = replay-stands rules p w.query (w.journal ++ l ∷ []) m y in
    let one : GoesOn rules p c (l ∷ []) m = record { query = w.query; journal = w.journal; replays = w.replays; derives = (m, a, refl) } in
    let rest : GoesOn rules p m ls d = record { query = w.query; journal = w.journal ++ l ∷ []; replays = y; derives = w.derives.2 } in
    let b : (b : Found) × (box_at n m.roots ≡ Some b) × (goal_names e.goals ≡ goal_names b.goals) × IsSameBox e b = box_by_goals rules p c (l ∷ []) m one n e i (λ o h. ((u o h).0, tt)) in
    let has : HasGoal g b.0.goals = has_names g e.goals b.0.goals b.2 (an_atom t, held) in
    let now : held_in g b.0.goals ≡ Some (an_atom t) = atom_step rules p w.query w.journal c l m w.replays a g e b.0 (in_home g (an_atom t) c.roots e s.once (found_in n c.roots e i) held)
    (in_home g has.0 m.roots b.0 t2.once (found_in n m.roots b.0 b.1) has.1) t x held k in
    let names : names_down_to b.0 ≡ names_down_to e = λ o. map (λ (z : Content). z.name) (sym b.3.around o) ++ (sym b.3.content o).name ∷ [] in
    waiting_stays rules p m ls d rest n b.0 f b.1 j (λ o h. (u o (subst (IsIn o) names h)).1) g t x now (subst (λ (E : Equations). AtomWaitsOn p E t x) (whole_same e b.0 b.3) k)
