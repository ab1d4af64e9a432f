-- What stands where a call has become a choice of new boxes.
use Rattle.std.proofs.Common.{◌≡◌, ℕ, ◌+◌, ◌≤◌, List, [], ◌∷◌, ◌++◌, Bool, true, false, Option, Some, None, refl, sym, ◌∙◌, ap, subst, ◌⊎◌, inl, inr, arith}
use Rattle.std.specs.Prelude.{if◌then◌else◌, slice_index, slice_get}
use Rattle.akl_terms.specs.declared.name.Name.{Name}
use Rattle.akl_terms.specs.declared.name.Place.{Place}
use Rattle.akl_model.specs.Config.{Operator}
use Rattle.akl_terms.specs.declared.program.Definition.{Definition}
use Rattle.akl_terms.specs.declared.program.Program.{Program}
use Rattle.akl_terms.specs.Names.{same_name}
use Rattle.akl_terms.specs.Tree.{Tree}
use Rattle.akl_terms.proofs.SameNames.{same_name-equal, same_name-refl}
use Rattle.akl_model.specs.declared.item.Item.{Item}
use Rattle.akl_model.specs.declared.label.Rule.{Rule}
use Rattle.akl_model.specs.declared.label.Label.{Label}
use Rattle.akl_model.specs.Config.{IsIn, Atom, Content, Boxes, no_boxes, box, Goals, no_goals, atom, choice, Config, Held, an_atom, a_choice, goal, held_in, with_content, Found, box_at, home_of, site_of}
use Rattle.akl_model.specs.Instances.{instances, drawn_by}
use Rattle.akl_model.specs.Rules.{Reading, Change, becomes, operator_of, fork_as, fork, fork_by, change_by}
use Rattle.akl_model.specs.Derivations.{Applies}
use Rattle.akl_model.specs.Changes.{Shape, shape_at, box_names, goal_names}
use Rattle.akl_model.proofs.Options.{some_value}
use Rattle.akl_model.proofs.Finds.{times, times_inside}
use Rattle.akl_model.proofs.NamesKept.{Stand, stands_after, box-itself}
use Rattle.step_laws.specs.Whereabouts.{BoxIn, InGoals, Stands}
use Rattle.step_laws.specs.ChangedItems.{goal_of, IsReplaced, MayChange, store, goals, store_gone, goals_gone, goal_gone, store_new, goals_new, goal_new, holder, roots, binding}
use Rattle.step_laws.specs.ChangedItems as may
use Rattle.step_laws.proofs.Whereabouts.{found_in, home_in, in_counted, held_counted, in_named}
use Rattle.step_laws.proofs.Deeper.{in_deeper, one_box, named_found, home_found}
use Rattle.step_laws.proofs.Decide.{option_or, shape_or, not_not}
use Rattle.step_laws.proofs.Edits.{AfterEdit, outside, replaced}
use Rattle.step_laws.proofs.GoalEdits.{HasGoal, has_names, InHeld, held_inside, with_content_in, with_content_here, with_content_other}
use Rattle.step_laws.proofs.Becomes.{Becomes, IsBox}
use Rattle.step_laws.proofs.Steps.{after_edit, made, site_now, site_stands, site_there}
use Rattle.step_laws.proofs.ChangedItems.{frame_names, items}
use Rattle.table_laws.proofs.Along.{all_stay}

-- the change of a fork
fork_change : (p : Program) (v : Reading) (w next : ℕ) (g : Name) (alternative : Option Name) (f : Found) (c : Change) → change_by p v w next Rule.Fork (Place.Goal g) alternative f ≡ Some c → fork p w next g f (held_in g f.goals) ≡ Some c
fork_change p v w next g None f c e = e
fork_change p v w next g (Some n) f c e = cc

pub forked_change : (p : Program) (v : Reading) (w next : ℕ) (g : Name) (alternative : Option Name) (f : Found) (c : Change) (number : ℕ) (arguments : List Tree) (result : Option Tree) (definition : Definition) (op : Operator)
    → change_by p v w next Rule.Fork (Place.Goal g) alternative f ≡ Some c → held_in g f.goals ≡ Some (an_atom (Atom.call number arguments result)) → slice_get p.definitions number ≡ Some definition → operator_of definition.op result ≡ Some op
    → c ≡ becomes f.content (with_content g (a_choice op (instances p.templates.nodes w next arguments definition.clauses)) f.goals) (drawn_by definition.clauses)
forked_change p v w next g alternative f c number arguments result definition op e h i j = some_value (sym (subst (λ (o : Option Operator). fork_as p w next g arguments definition.clauses f o ≡ Some c) j
    (subst (λ (o : Option Definition). fork_by p w next g arguments result f o ≡ Some c) i
    (subst (λ (o : Option Held). fork p w next g f o ≡ Some c) h (fork_change p v w next g alternative f c e)))))

-- an atom becomes a goal of another content

goal_around : (r : List Content) (k : Content) (hs : Goals) (g : Name) (h : Held) (gs : Goals) → InGoals r k hs gs → InGoals r k hs (goal g h gs)
goal_around r k hs g (an_atom a) gs x = x
goal_around r k hs g (a_choice o bs) gs x = inr x

pub stays_beside : (g : Name) (h : Held) (a : Atom) (r : List Content) (k : Content) (hs gs : Goals) → held_in g gs ≡ Some (an_atom a) → InGoals r k hs gs → InGoals r k hs (with_content g h gs)
stays_beside g h a r k hs no_goals e x = absurd x
stays_beside g h a r k hs (atom i b gs) e x = on (same_name g i) e (λ q. stays_beside g h a r k hs gs q x)
  where
    on : (t : Bool) → (if t then Some (an_atom b) else held_in g gs) ≡ Some (an_atom a) → (held_in g gs ≡ Some (an_atom a) → InGoals r k hs (with_content g h gs))
        → InGoals r k hs (if t then goal g h gs else atom i b (with_content g h gs))
    on true q f = goal_around r k hs g h gs x
    on false q f = f q
stays_beside g h a r k hs (choice i o bs gs) e x = on (same_name g i) e x (λ q y. stays_beside g h a r k hs gs q y)
  where
    on : (t : Bool) → (if t then Some (a_choice o bs) else held_in g gs) ≡ Some (an_atom a) → BoxIn r k hs bs ⊎ InGoals r k hs gs
        → (held_in g gs ≡ Some (an_atom a) → InGoals r k hs gs → InGoals r k hs (with_content g h gs))
        → InGoals r k hs (if t then goal g h gs else choice i o bs (with_content g h gs))
    on true q y f = cc
    on false q (inl y) f = inl y
    on false q (inr y) f = inr (f q y)

goal_first_name : (g : Name) (h : Held) (gs : Goals) → goal_names (goal g h gs) ≡ g ∷ goal_names gs
goal_first_name g (an_atom a) gs = refl
goal_first_name g (a_choice o bs) gs = refl

pub same_goal_names : (g : Name) (h : Held) (gs : Goals) → goal_names (with_content g h gs) ≡ goal_names gs
same_goal_names g h no_goals = refl
same_goal_names g h (atom i a gs) = on (same_name g i) refl (same_goal_names g h gs)
  where
    on : (t : Bool) → same_name g i ≡ t → goal_names (with_content g h gs) ≡ goal_names gs → goal_names (if t then goal g h gs else atom i a (with_content g h gs)) ≡ i ∷ goal_names gs
    on true e r = goal_first_name g h gs ∙ ap (λ (n : Name). n ∷ goal_names gs) (same_name-equal g i e)
    on false e r = ap (λ (ns : List Name). i ∷ ns) r
same_goal_names g h (choice i o bs gs) = on (same_name g i) refl (same_goal_names g h gs)
  where
    on : (t : Bool) → same_name g i ≡ t → goal_names (with_content g h gs) ≡ goal_names gs → goal_names (if t then goal g h gs else choice i o bs (with_content g h gs)) ≡ i ∷ goal_names gs
    on true e r = goal_first_name g h gs ∙ ap (λ (n : Name). n ∷ goal_names gs) (same_name-equal g i e)
    on false e r = ap (λ (ns : List Name). i ∷ ns) r

-- a box among alternatives is one of them
first_named : (k : Content) (hs : Goals) (bs : Boxes) → BoxIn [] k hs bs → IsIn k.name (box_names bs)
first_named k hs no_boxes x = absurd x
first_named k hs (box b gs bs) (inl e) = inl (ap (λ (c : Content). c.name) e.1)
first_named k hs (box b gs bs) (inr (inl w)) = let r : [] ≡ b ∷ w.0 = w.1 in cc
first_named k hs (box b gs bs) (inr (inr x)) = inr (first_named k hs bs x)

module _ (rules : List Rule) (p : Program) (c : Config) (l : Label) (d : Config) (s : Stand c) (m : Applies rules p c l d) (g : Name) (place : l.place ≡ Place.Goal g) (op : Operator) (bs : Boxes) (was : Atom)
    (held : held_in g m.site.goals ≡ Some (an_atom was)) (is_change : m.change.boxes ≡ box m.site.content (with_content g (a_choice op bs) m.site.goals) no_boxes)
    (drawn : (n : Name) → 1 ≤ times n bs → times n c.roots ≡ 0) (flat : (r : List Content) (k : Content) (hs : Goals) → BoxIn r k hs bs → r ≡ []) where
  t : Stand d
  t = stands_after rules p c l d s m

  pub home_was : home_of g c.roots ≡ Some m.site
  home_was = subst (λ (u : Place). site_of u c.roots ≡ Some m.site) place m.is_site

  -- what becomes of the box
  pub record IsForked (b : Becomes l.worker (slice_index c.next l.worker) m.site m.change) : Type 0 where
    pub content : b.content ≡ m.site.content
    pub goals : b.goals ≡ with_content g (a_choice op bs) m.site.goals
    pub choice_held : held_in g b.goals ≡ Some (a_choice op bs)
    pub others : (i : Name) → same_name i g ≡ false → held_in i b.goals ≡ held_in i m.site.goals
    pub names : goal_names b.goals ≡ goal_names m.site.goals

  pub forked : (b : Becomes l.worker (slice_index c.next l.worker) m.site m.change) → IsForked b
  forked b = record {
    content = content;
    goals = goals;
    choice_held = ap (held_in g) goals ∙ with_content_here g (a_choice op bs) (an_atom was) m.site.goals held;
    others = λ i e. ap (held_in i) goals ∙ with_content_other g i (a_choice op bs) m.site.goals e;
    names = ap goal_names goals ∙ same_goal_names g (a_choice op bs) m.site.goals;
  }
    where
      same : box b.content b.goals b.rest ≡ box m.site.content (with_content g (a_choice op bs) m.site.goals) no_boxes
      same = sym b.is_change ∙ is_change

      content : b.content ≡ m.site.content
      content = let e : box b.content b.goals b.rest ≡ box m.site.content (with_content g (a_choice op bs) m.site.goals) no_boxes = same in cc

      goals : b.goals ≡ with_content g (a_choice op bs) m.site.goals
      goals = let e : box b.content b.goals b.rest ≡ box m.site.content (with_content g (a_choice op bs) m.site.goals) no_boxes = same in cc

  pub forks_to : Becomes l.worker (slice_index c.next l.worker) m.site m.change
  forks_to = elim (made rules p c l d s m) [ inl z ↦ absurd (subst IsBox place z.0) | inr z ↦ z.0 ]

  pub now_there : box_at m.site.content.name d.roots ≡ Some (site_now forks_to)
  now_there = site_there rules p c l d s m forks_to

  pub home_now : home_of g d.roots ≡ Some (site_now forks_to)
  home_now = home_found d.roots t.once g m.site.content.name (site_now forks_to) (a_choice op bs) now_there (forked forks_to).choice_held

  -- the new boxes are there, and weren't before

  pub new_there : (n : Name) (k : Content) (hs : Goals) → n ≡ k.name → BoxIn [] k hs bs → box_at n d.roots ≡ Some (record { around = m.site.around ++ forks_to.content ∷ []; content = k; goals = hs })
  new_there n k hs q x = named_found d.roots t.once n (record { around = m.site.around ++ forks_to.content ∷ []; content = k; goals = hs })
      (in_deeper m.site.around forks_to.content forks_to.goals [] k hs d.roots (found_in m.site.content.name d.roots (site_now forks_to) now_there)
      (held_inside g op bs [] k hs forks_to.goals (forked forks_to).choice_held x)) q

  pub new_home : (i : Name) (k : Content) (hs : Goals) (h : Held) → BoxIn [] k hs bs → held_in i hs ≡ Some h → home_of i d.roots ≡ Some (record { around = m.site.around ++ forks_to.content ∷ []; content = k; goals = hs })
  new_home i k hs h x e = home_found d.roots t.once i k.name (record { around = m.site.around ++ forks_to.content ∷ []; content = k; goals = hs }) h (new_there k.name k hs refl x) e

  pub new_named : (k : Content) (hs : Goals) → BoxIn [] k hs bs → IsIn k.name (box_names bs)
  new_named k hs x = first_named k hs bs x

  pub new_nowhere : (n : Name) (k : Content) (hs : Goals) → n ≡ k.name → BoxIn [] k hs bs → times n c.roots ≡ 0
  new_nowhere n k hs q x = subst (λ (i : Name). times i c.roots ≡ 0) (sym q) (drawn k.name (in_named bs (record { around = []; content = k; goals = hs }) x))

  -- each box stays
  pub all_there : (n : Name) (e : Found) → box_at n c.roots ≡ Some e → (f : Found) × (box_at n d.roots ≡ Some f)
  all_there n e i = all_stay rules p c l d s m forks_to
      (λ r k hs x. subst (InGoals r k hs) (sym (forked forks_to).goals) (stays_beside g (a_choice op bs) was r k hs m.site.goals held x)) n e i

  -- a box that is there was there, or is new
  pub came : (f : Found) → Stands f d.roots → ((e : Found) × Stands e c.roots × (e.content.name ≡ f.content.name)) ⊎ BoxIn [] f.content f.goals bs
  came f x = on (after_edit rules p c l d s m f x)
    where
      Result : Type 0
      Result = ((e : Found) × Stands e c.roots × (e.content.name ≡ f.content.name)) ⊎ BoxIn [] f.content f.goals bs

      inner : (r : List Content) → InHeld r f.content f.goals (a_choice op bs) ⊎ InGoals r f.content f.goals m.site.goals → Result
      inner r (inl y) = inr (subst (λ (a : List Content). BoxIn a f.content f.goals bs) (flat r f.content f.goals y) y)
      inner r (inr y) = inl (
        record { around = m.site.around ++ m.site.content ∷ r; content = f.content; goals = f.goals },
        in_deeper m.site.around m.site.content m.site.goals r f.content f.goals c.roots (site_stands rules p c l d s m) y,
        refl,
      )

      new : (r : List Content) → BoxIn r f.content f.goals (box m.site.content (with_content g (a_choice op bs) m.site.goals) no_boxes) → Result
      new r (inl e) = inl (m.site, site_stands rules p c l d s m, ap (λ (k : Content). k.name) (sym e.1))
      new r (inr (inl w)) = inner w.0 (with_content_in g (a_choice op bs) w.0 f.content f.goals m.site.goals w.2)
      new r (inr (inr y)) = absurd y

      on : AfterEdit m.site.content.name m.change.boxes (λ a b gs. BoxIn a b gs c.roots) f.around f.content f.goals → Result
      on (outside gs y n e) = inl (record f { goals = gs }, y, refl)
      on (replaced a b gs rest y n e z) = new rest (subst (BoxIn rest f.content f.goals) is_change z)

  pub came_new : (n : Name) (f : Found) → box_at n c.roots ≡ None → box_at n d.roots ≡ Some f → BoxIn [] f.content f.goals bs
  came_new n f i j = elim (came f (found_in n d.roots f j)) [
    | inr x ↦ x
    | inl w ↦
        let e : box_at n c.roots ≡ Some w.0 = named_found c.roots s.once n w.0 w.1 (box-itself n d.roots f j ∙ sym w.2) in
        absurd cc
  ]

  -- the box of the place isn't replaced by none or by two

  pub not_replaced : IsReplaced m → ⊥
  not_replaced r = r.not_one (ap box_names is_change)

  -- each box has goals of the same names

  pub same_names : (n : Name) (e f : Found) → box_at n c.roots ≡ Some e → box_at n d.roots ≡ Some f → goal_names e.goals ≡ goal_names f.goals
  same_names n e f i j = on (same_name m.site.content.name e.content.name) refl
    where
      name : e.content.name ≡ f.content.name
      name = sym (box-itself n c.roots e i) ∙ box-itself n d.roots f j

      on : (v : Bool) → same_name m.site.content.name e.content.name ≡ v → goal_names e.goals ≡ goal_names f.goals
      on false q = frame_names rules p c l d s m e f (found_in n c.roots e i) (found_in n d.roots f j) name q
      on true q =
          let z : m.site.content.name ≡ e.content.name = same_name-equal m.site.content.name e.content.name q in
          let x : m.site ≡ e = one_box c.roots s.once m.site e (site_stands rules p c l d s m) (found_in n c.roots e i) z in
          let y : site_now forks_to ≡ f = one_box d.roots t.once (site_now forks_to) f (found_in m.site.content.name d.roots (site_now forks_to) now_there) (found_in n d.roots f j)
          (ap (λ (k : Content). k.name) (forked forks_to).content ∙ z ∙ name) in
          ap (λ (k : Found). goal_names k.goals) (sym x) ∙ sym (forked forks_to).names ∙ ap (λ (k : Found). goal_names k.goals) y

  -- another goal that isn't new isn't changed

  same_goal : (item : Item) (i : Name) → item ≡ Item.Goal i → same_name i g ≡ false → ((k : Content) (hs : Goals) → BoxIn [] k hs bs → HasGoal i hs → ⊥) → MayChange m item → ⊥
  same_goal item i e apart none (store) = cc
  same_goal item i e apart none (goals) = cc
  same_goal item i e apart none (may.goal {g = j} x) =
      let y : Some g ≡ Some j = subst (λ (u : Place). goal_of u l.alternative m.site ≡ Some j) place x in
      let z : same_name i g ≡ true = subst (λ (n : Name). same_name i n ≡ true) (let w : i ≡ g = cc in w) (same_name-refl i) in
      cc
  same_goal item i e apart none (store_gone x y) = cc
  same_goal item i e apart none (goals_gone x y) = cc
  same_goal item i e apart none (goal_gone {g = j} {e = k} x y) =
      let q : home_of i c.roots ≡ Some k = let w : j ≡ i = cc in subst (λ (n : Name). home_of n c.roots ≡ Some k) w x in
      let v : _ = home_in i c.roots k q in
      let b : box_at k.content.name c.roots ≡ Some k = named_found c.roots s.once k.content.name k v.0 refl in
      let f : (f : Found) × (box_at k.content.name d.roots ≡ Some f) = all_there k.content.name k b in
      let h : HasGoal i f.0.goals = has_names i k.goals f.0.goals (same_names k.content.name k f.0 b f.1) v.1 in
      let z : home_of i d.roots ≡ Some f.0 = home_found d.roots t.once i k.content.name f.0 h.0 f.1 h.1 in
      let u : home_of i d.roots ≡ None = let w : j ≡ i = cc in subst (λ (n : Name). home_of n d.roots ≡ None) w y in
      cc
  same_goal item i e apart none (store_new x y) = cc
  same_goal item i e apart none (goals_new x y) = cc
  same_goal item i e apart none (goal_new {g = j} {f = f} x y) = on (home_in i d.roots f at) (came f (home_in i d.roots f at).0)
    where
      named : j ≡ i
      named = cc

      at : home_of i d.roots ≡ Some f
      at = subst (λ (n : Name). home_of n d.roots ≡ Some f) named y

      on : Stands f d.roots × HasGoal i f.goals → ((k : Found) × Stands k c.roots × (k.content.name ≡ f.content.name)) ⊎ BoxIn [] f.content f.goals bs → ⊥
      on v (inr z) = none f.content f.goals z v.1
      on v (inl (k, z, q)) =
          let b : box_at f.content.name c.roots ≡ Some k = named_found c.roots s.once f.content.name k z (sym q) in
          let h : HasGoal i k.goals = has_names i f.goals k.goals (sym (same_names f.content.name k f b (named_found d.roots t.once f.content.name f v.0 refl))) v.1 in
          let w : home_of i c.roots ≡ Some k = home_found c.roots s.once i f.content.name k h.0 b h.1 in
          let u : home_of i c.roots ≡ None = subst (λ (n : Name). home_of n c.roots ≡ None) named x in
          cc
  same_goal item i e apart none (holder r x y z) = not_replaced r
  same_goal item i e apart none (roots r x) = not_replaced r
  same_goal item i e apart none (binding x) = cc

  pub same_shape : (i : Name) → same_name i g ≡ false → ((k : Content) (hs : Goals) → BoxIn [] k hs bs → HasGoal i hs → ⊥) → shape_at i c.roots ≡ shape_at i d.roots
  same_shape i apart none = not_not (option_or Shape shape_or (shape_at i c.roots) (shape_at i d.roots)) (λ h. same_goal (Item.Goal i) i refl apart none (items rules p c l d s m (Item.Goal i) h))

  -- a new goal is nowhere before
  pub new_goal_nowhere : (i : Name) (k : Content) (hs : Goals) (h : Held) → BoxIn [] k hs bs → held_in i hs ≡ Some h → times i c.roots ≡ 0
  new_goal_nowhere i k hs h x e = drawn i (
      let v : times i (box k hs no_boxes) + 0 ≤ times i bs = in_counted i [] k hs bs x in
      let w : 1 ≤ times_inside i hs = held_counted i h hs e in
      omega arith)
