-- What stands where the alternatives of a choice, which have no goals, have joined the box of the choice.
use Rattle.std.proofs.Common.{◌≡◌, ℕ, ◌+◌, ◌≤◌, ◌<◌, List, [], ◌∷◌, ◌++◌, length, Bool, true, false, Option, Some, None, refl, sym, ◌∙◌, ap, subst, ◌⊎◌, inl, inr, arith}
use Rattle.std.specs.Prelude.{if◌then◌else◌, slice_index, option_map}
use Rattle.akl_terms.specs.declared.name.Name.{Name}
use Rattle.akl_terms.specs.declared.name.Place.{Place}
use Rattle.akl_model.specs.Config.{Operator}
use Rattle.akl_terms.specs.declared.program.Program.{Program}
use Rattle.akl_terms.specs.declared.program.Query.{Query}
use Rattle.akl_terms.specs.Tree.{Tree}
use Rattle.akl_terms.specs.Equal.{Equation, Equations}
use Rattle.akl_terms.specs.Names.{same_name}
use Rattle.akl_terms.proofs.SameNames.{same_name-refl, same_name-equal}
use Rattle.akl_model.specs.declared.item.Item.{Item}
use Rattle.akl_model.specs.declared.label.Rule.{Rule}
use Rattle.akl_model.specs.declared.label.Label.{Label}
use Rattle.akl_model.specs.Config.{IsIn, Atom, Content, Boxes, no_boxes, box, Goals, no_goals, atom, choice, Config, an_atom, a_choice, held_in, without_goal, with_names, Found, box_at, home_of, site_of}
use Rattle.akl_model.specs.Instances.{with_atoms}
use Rattle.akl_model.specs.Rules.{Reading, Change, becomes, joining, promote, count_of, gathered, collect_as, collect, change_by}
use Rattle.akl_model.specs.Derivations.{Applies, Replays}
use Rattle.akl_model.specs.Changes.{Shape, shape_at, box_names, goal_names, goals_at, constraint_of, constraint_at, Constraint}
use Rattle.akl_model.specs.Wakes.{names_around}
use Rattle.akl_model.specs.Names.{one_if, times_in}
use Rattle.akl_model.proofs.Options.{none_where, some_value}
use Rattle.akl_model.proofs.Finds.{times, times_of, times_inside}
use Rattle.akl_model.proofs.Drawn.{drawn_times, times_held, times-without, in-with_name}
use Rattle.akl_model.proofs.NamesKept.{Stand, stands_after, box-itself}
use Rattle.akl_model.proofs.ScopesAlong.{times_path}
use Rattle.step_laws.specs.Whereabouts.{BoxIn, InGoals, Stands}
use Rattle.step_laws.specs.Likeness.{IsLike}
use Rattle.step_laws.specs.ChangedItems.{goal_of, IsReplaced, MayChange, store, goals, store_gone, goals_gone, goal_gone, store_new, goals_new, goal_new, holder, roots, binding}
use Rattle.step_laws.specs.ChangedItems as may
use Rattle.step_laws.proofs.Whereabouts.{found_in, home_in, in_counted, held_counted, held_none, in_named, among_named}
use Rattle.step_laws.proofs.Deeper.{in_deeper, in_path, one_box, named_found, home_found, Over, over}
use Rattle.step_laws.proofs.Decide.{option_or, shape_or, not_not}
use Rattle.step_laws.proofs.Edits.{AfterEdit, outside, replaced}
use Rattle.step_laws.proofs.GoalEdits.{HasGoal, has_names, held_inside, unsolved, without_in, without_gone, without_other, with_atoms_in, with_atoms_other}
use Rattle.step_laws.proofs.Holders.{choice_less}
use Rattle.step_laws.proofs.Becomes.{Becomes, IsBox}
use Rattle.step_laws.proofs.Steps.{moved, names_kept, after_edit, made, site_now, site_stands, site_there, found, later_step}
use Rattle.step_laws.proofs.ChangedItems.{frame_names, items}
use Rattle.step_laws.proofs.Stays.{like_home}
use Rattle.akl_model.proofs.Gathered.{gathers, AllSolved, gathered_solved}
use Rattle.table_laws.specs.Unfolds.{spot_in}
use Rattle.table_laws.specs.Steps.{IsPromoted, IsGathered}
use Rattle.table_laws.proofs.Sets.{other_by}
use Rattle.table_laws.proofs.Along.{stays_where}
use Rattle.table_laws.proofs.Insides.{spot_none}
use Rattle.table_laws.proofs.Gone.{goals_once}
use Rattle.table_laws.proofs.Fresh.{drawn_nowhere}
use Rattle.table_laws.proofs.NewGoals.{NotHeld, keeps_atoms}
use Rattle.table_laws.proofs.Framed.{framed}

-- the change of a promotion
pub promoted_change : (p : Program) (v : Reading) (w next : ℕ) (g n : Name) (rule : Rule) (place : Place) (alternative : Option Name) (f : Found) (c : Change) (op : Operator) (alt : Content) → rule ≡ Rule.Promote → place ≡ Place.Goal g
    → alternative ≡ Some n → n ≡ alt.name → held_in g f.goals ≡ Some (a_choice op (box alt no_goals no_boxes)) → change_by p v w next rule place alternative f ≡ Some c
    → c ≡ becomes (joining alt f.content) (with_atoms w next alt.body (without_goal g f.goals)) (length alt.body)
promoted_change p v w next g n rule place alternative f c op alt r q o named held e = on (same_name n alt.name) (subst (λ (x : Name). same_name n x ≡ true) named (same_name-refl n)) change
  where
    change : promote w next g n f (Some (a_choice op (box alt no_goals no_boxes))) ≡ Some c
    change = sym (ap (promote w next g n f) held) ∙ sym (λ i. change_by p v w next (r i) (q i) (o i) f) ∙ e

    on : (t : Bool) → t ≡ true → (if t then Some (becomes (joining alt f.content) (with_atoms w next alt.body (without_goal g f.goals)) (length alt.body)) else None) ≡ Some c
        → c ≡ becomes (joining alt f.content) (with_atoms w next alt.body (without_goal g f.goals)) (length alt.body)
    on true u i = sym (some_value i)
    on false u i = cc

-- what is gathered has no body, and tells something
gathered_body : (p : Program) (w next : ℕ) (n : Name) (r : Tree) (bs : Boxes) (k : Content) → gathered p w next n r bs ≡ Some k → k.body ≡ []
gathered_body p w next n r no_boxes k e = ap (λ (c : Content). c.body) (sym (some_value e))
gathered_body p w next n r (box b gs bs) k e =
    let g : _ = gathers p w next n r b gs bs k e in
    ap (λ (c : Content). c.body) (sym g.1.whole) ∙ gathered_body p w (next + 1) n _ bs g.1.rest g.1.is_rest

not_nothing : (xs : Equations) (x : Equation) (ys : Equations) → xs ++ x ∷ ys ≡ [] → ⊥
not_nothing [] x ys e = cc
not_nothing (z ∷ xs) x ys e = cc

gathered_tells : (p : Program) (w next : ℕ) (n : Name) (r : Tree) (bs : Boxes) (k : Content) → gathered p w next n r bs ≡ Some k → k.equations ≡ [] → ⊥
gathered_tells p w next n r no_boxes k e q = not_nothing [] _ [] (ap (λ (c : Content). c.equations) (some_value e) ∙ q)
gathered_tells p w next n r (box b gs bs) k e q =
    let g : _ = gathers p w next n r b gs bs k e in
    not_nothing b.equations _ _ (ap (λ (c : Content). c.equations) g.1.whole ∙ q)

more_told : (xs ys : Equations) → xs ≡ xs ++ ys → ys ≡ []
more_told [] ys e = sym e
more_told (x ∷ xs) ys e = let q : xs ≡ xs ++ ys = cc in more_told xs ys q

-- the change of what joins
pub joined_change : (p : Program) (v : Reading) (next : ℕ) (g : Name) (l : Label) (f : Found) (c : Change) (op : Operator) (bs : Boxes) (k : Content) → l.place ≡ Place.Goal g → held_in g f.goals ≡ Some (a_choice op bs)
    → IsPromoted l bs k ⊎ IsGathered p l next f.content.name op bs k → change_by p v l.worker next l.rule l.place l.alternative f ≡ Some c
    → (drawn : ℕ) × (c ≡ becomes (joining k f.content) (with_atoms l.worker next k.body (without_goal g f.goals)) drawn)
joined_change p v next g l f c op bs k place held (inl y) e = (
  length k.body,
  promoted_change p v l.worker next g k.name l.rule l.place l.alternative f c op k y.rule place y.alternative refl (held ∙ ap (λ (xs : Boxes). Some (a_choice op xs)) y.only) e,
)
joined_change p v next g l f c op bs k place held (inr y) e = (
  count_of bs,
  sym (some_value change) ∙ ap (λ (xs : List Atom). becomes (joining k f.content) (with_atoms l.worker next xs (without_goal g f.goals)) (count_of bs))
      (sym (gathered_body p l.worker next f.content.name y.result bs k y.is_content)),
)
  where
    there : held_in g f.goals ≡ Some (a_choice (Operator.collecting y.result) bs)
    there = held ∙ ap (λ (o : Operator). Some (a_choice o bs)) y.collects

    change : Some (becomes (joining k f.content) (without_goal g f.goals) (count_of bs)) ≡ Some c
    change = sym (ap (collect_as g bs f) y.is_content) ∙ sym (ap (collect p l.worker next g f) there) ∙ sym (λ i. change_by p v l.worker next (y.rule i) (place i) (y.alternative i) f) ∙ e

-- what stands in alternatives without goals is one of them
pub among_solved : (r : List Content) (k : Content) (hs : Goals) (bs : Boxes) → AllSolved bs → BoxIn r k hs bs → IsIn k.name (box_names bs)
among_solved r k hs no_boxes s x = absurd x
among_solved r k hs (box b gs bs) s (inl y) = inl (ap (λ (c : Content). c.name) y.1)
among_solved r k hs (box b gs bs) s (inr (inl y)) = absurd (subst (InGoals y.0 k hs) s.0 y.2)
among_solved r k hs (box b gs bs) s (inr (inr y)) = inr (among_solved r k hs bs s.1 y)

pub record Member (bs : Boxes) (n : Name) : Type 0 where
  pub content : Content
  pub named : content.name ≡ n
  pub stands : BoxIn [] content no_goals bs

pub member : (n : Name) (bs : Boxes) → AllSolved bs → IsIn n (box_names bs) → Member bs n
member n no_boxes s i = absurd i
member n (box b gs bs) s (inl e) = record { content = b; named = sym e; stands = inl (refl, refl, sym s.0) }
member n (box b gs bs) s (inr i) = let m : Member bs n = member n bs s.1 i in record { content = m.content; named = m.named; stands = inr (inr m.stands) }

-- what stands in goals is one of the choice's alternatives, or stands in the goals without the choice
beside_gone : (g : Name) (o : Operator) (cs : Boxes) → AllSolved cs → (r : List Content) (k : Content) (hs gs : Goals) → held_in g gs ≡ Some (a_choice o cs) → InGoals r k hs gs → IsIn k.name (box_names cs) ⊎ InGoals r k hs (without_goal g gs)
beside_gone g o cs s r k hs no_goals e x = absurd x
beside_gone g o cs s r k hs (atom i a gs) e x = on (same_name g i) e (λ q. beside_gone g o cs s r k hs gs q x)
  where
    on : (t : Bool) → (if t then Some (an_atom a) else held_in g gs) ≡ Some (a_choice o cs)
        → (held_in g gs ≡ Some (a_choice o cs) → IsIn k.name (box_names cs) ⊎ InGoals r k hs (without_goal g gs)) → IsIn k.name (box_names cs) ⊎ InGoals r k hs (if t then gs else atom i a (without_goal g gs))
    on true q f = cc
    on false q f = f q
beside_gone g o cs s r k hs (choice i u bs gs) e x = on (same_name g i) e x (λ q y. beside_gone g o cs s r k hs gs q y)
  where
    on : (t : Bool) → (if t then Some (a_choice u bs) else held_in g gs) ≡ Some (a_choice o cs) → BoxIn r k hs bs ⊎ InGoals r k hs gs
        → (held_in g gs ≡ Some (a_choice o cs) → InGoals r k hs gs → IsIn k.name (box_names cs) ⊎ InGoals r k hs (without_goal g gs))
        → IsIn k.name (box_names cs) ⊎ InGoals r k hs (if t then gs else choice i u bs (without_goal g gs))
    on true q (inl y) f = let z : bs ≡ cs = cc in inl (among_solved r k hs cs s (subst (BoxIn r k hs) z y))
    on true q (inr y) f = inr y
    on false q (inl y) f = inr (inl y)
    on false q (inr y) f = elim (f q y) [ inl z ↦ inl z | inr z ↦ inr (inr z) ]

module _ (rules : List Rule) (p : Program) (q : Query) (journal : List Label) (c : Config) (l : Label) (d : Config) (replays : Replays rules p q journal c) (s : Stand c) (m : Applies rules p c l d) (g : Name) (place : l.place ≡ Place.Goal g)
    (op : Operator) (bs : Boxes) (k : Content) (held : held_in g m.site.goals ≡ Some (a_choice op bs)) (origin : IsPromoted l bs k ⊎ IsGathered p l (slice_index c.next l.worker) m.site.content.name op bs k)
    (drawn : ℕ) (is_change : m.change ≡ becomes (joining k m.site.content) (with_atoms l.worker (slice_index c.next l.worker) k.body (without_goal g m.site.goals)) drawn) where
  pub solved : AllSolved bs
  solved = elim origin [
    | inl y ↦ subst AllSolved (sym y.only) (refl, tt)
    | inr y ↦ gathered_solved p l.worker (slice_index c.next l.worker) m.site.content.name y.result bs k y.is_content
  ]

  t : Stand d
  t = stands_after rules p c l d s m

  pub home_was : home_of g c.roots ≡ Some m.site
  home_was = subst (λ (u : Place). site_of u c.roots ≡ Some m.site) place m.is_site

  -- the box of the place

  pub joins_to : Becomes l.worker (slice_index c.next l.worker) m.site m.change
  joins_to = elim (made rules p c l d s m) [ inl z ↦ absurd (subst IsBox place z.0) | inr z ↦ z.0 ]

  same_box : box joins_to.content joins_to.goals joins_to.rest ≡ box (joining k m.site.content) (with_atoms l.worker (slice_index c.next l.worker) k.body (without_goal g m.site.goals)) no_boxes
  same_box = sym joins_to.is_change ∙ ap (λ (k : Change). k.boxes) is_change

  pub content_now : joins_to.content ≡ joining k m.site.content
  content_now = let e : box joins_to.content joins_to.goals joins_to.rest ≡ box (joining k m.site.content) (with_atoms l.worker (slice_index c.next l.worker) k.body (without_goal g m.site.goals)) no_boxes = same_box in cc

  pub goals_now : joins_to.goals ≡ with_atoms l.worker (slice_index c.next l.worker) k.body (without_goal g m.site.goals)
  goals_now = let e : box joins_to.content joins_to.goals joins_to.rest ≡ box (joining k m.site.content) (with_atoms l.worker (slice_index c.next l.worker) k.body (without_goal g m.site.goals)) no_boxes = same_box in cc

  pub now_there : box_at m.site.content.name d.roots ≡ Some (site_now joins_to)
  now_there = site_there rules p c l d s m joins_to

  now_stands : Stands (site_now joins_to) d.roots
  now_stands = found_in m.site.content.name d.roots (site_now joins_to) now_there

  pub not_replaced : IsReplaced m → ⊥
  not_replaced r = r.not_one (ap (λ (k : Change). box_names k.boxes) is_change)

  -- counts of names

  once : (i : Name) → times_inside i m.site.goals ≤ 1
  once = goals_once c.roots s.once m.site (site_stands rules p c l d s m)

  in_site : (i : Name) → times_of i m.site.content + (times_inside i m.site.goals + 0) + times_path i m.site.around ≤ times i c.roots
  in_site i = in_counted i m.site.around m.site.content m.site.goals c.roots (site_stands rules p c l d s m)

  nowhere : (i : Name) → 0 < drawn_times i l.worker (slice_index c.next l.worker) (length k.body) → times i c.roots ≡ 0
  nowhere i h = drawn_nowhere c l.worker (length k.body) i s h

  pub not_held : NotHeld l.worker (slice_index c.next l.worker) k.body (without_goal g m.site.goals)
  not_held i h =
      let z : times i c.roots ≡ 0 = nowhere i h in
      let a : times_of i m.site.content + (times_inside i m.site.goals + 0) + times_path i m.site.around ≤ times i c.roots = in_site i in
      let u : times_inside i (without_goal g m.site.goals) + (one_if (same_name i g) + times_held i (a_choice op bs)) ≡ times_inside i m.site.goals =
      times-without i g (a_choice op bs) m.site.goals held in
      held_none i (without_goal g m.site.goals) (omega arith)

  -- the alternatives

  module _ (n : Name) (goes : IsIn n (box_names bs)) where
    abbrev its : Member bs n
    its = member n bs solved goes

    abbrev pub alt_was : Found
    alt_was = record { around = m.site.around ++ m.site.content ∷ []; content = its.content; goals = no_goals }

    alt_stands : Stands alt_was c.roots
    alt_stands = in_deeper m.site.around m.site.content m.site.goals [] its.content no_goals c.roots (site_stands rules p c l d s m)
        (held_inside g op bs [] its.content no_goals m.site.goals held its.stands)

    pub alt_there : box_at n c.roots ≡ Some alt_was
    alt_there = named_found c.roots s.once n alt_was alt_stands (sym its.named)

    pub alt_apart : same_name m.site.content.name n ≡ false
    alt_apart = other_by m.site.content.name n (λ e. unsolved g (a_choice op bs) m.site.goals held
        (ap (λ (f : Found). f.goals) (one_box c.roots s.once m.site alt_was (site_stands rules p c l d s m) alt_stands (e ∙ sym its.named))))

    pub alt_gone : box_at n d.roots ≡ None
    alt_gone = none_where (box_at n d.roots) (λ f j.
        let y : Stands f d.roots = found_in n d.roots f j in
        let name : its.content.name ≡ f.content.name = its.named ∙ box-itself n d.roots f j in
        let around : names_around f ≡ names_around alt_was = names_kept l.worker (slice_index c.next l.worker) m.site m.change alt_was f (moved rules p c l d s m alt_was f alt_stands y name) in
        let o : Over m.site.content.name f d.roots = over m.site.content.name f d.roots y (subst (IsIn m.site.content.name) (sym around) (in_path m.site.around m.site.content [])) in
        let e : o.outer ≡ site_now joins_to = one_box d.roots t.once o.outer (site_now joins_to) o.stands now_stands (sym o.named ∙ sym joins_to.keeps.name) in
        let x : InGoals o.rest f.content f.goals (with_atoms l.worker (slice_index c.next l.worker) k.body (without_goal g m.site.goals)) =
        subst (InGoals o.rest f.content f.goals) (ap (λ (z : Found). z.goals) e ∙ goals_now) o.inside in
        inside f.content.name name (among_named (without_goal g m.site.goals) (record { around = o.rest; content = f.content; goals = f.goals })
        (with_atoms_in l.worker (slice_index c.next l.worker) k.body o.rest f.content f.goals (without_goal g m.site.goals) x)))
      where
        inside : (i : Name) → its.content.name ≡ i → 1 ≤ times_inside i (without_goal g m.site.goals) → ⊥
        inside i e h =
            let z : 1 ≤ times_inside its.content.name (without_goal g m.site.goals) = subst (λ (z : Name). 1 ≤ times_inside z (without_goal g m.site.goals)) (sym e) h in
            let u : times_inside its.content.name (without_goal g m.site.goals) + (one_if (same_name its.content.name g) + times_held its.content.name (a_choice op bs)) ≡ times_inside its.content.name m.site.goals =
            times-without its.content.name g (a_choice op bs) m.site.goals held in
            let v : 1 ≤ times its.content.name bs = in_named bs (record { around = []; content = its.content; goals = no_goals }) its.stands in
            let o : times_inside its.content.name m.site.goals ≤ 1 = once its.content.name in
            omega arith

  -- each other box stays, and none is new

  pub stays_there : (n : Name) (e : Found) → box_at n c.roots ≡ Some e → (IsIn n (box_names bs) → ⊥) → (f : Found) × (box_at n d.roots ≡ Some f)
  stays_there n e i apart = stays_where rules p c l d s m joins_to n e i (λ rest x. subst (InGoals rest e.content e.goals) (sym goals_now)
      (keeps_atoms l.worker (slice_index c.next l.worker) k.body rest e.content e.goals (without_goal g m.site.goals) (elim (beside_gone g op bs solved rest e.content e.goals m.site.goals held x) [
        | inl z ↦ absurd (apart (subst (λ (i : Name). IsIn i (box_names bs)) (sym (box-itself n c.roots e i)) z))
        | inr y ↦ y
      ])))

  came : (f : Found) → Stands f d.roots → (e : Found) × Stands e c.roots × (e.content.name ≡ f.content.name)
  came f x = on (after_edit rules p c l d s m f x)
    where
      Result : Type 0
      Result = (e : Found) × Stands e c.roots × (e.content.name ≡ f.content.name)

      new : (r : List Content) → BoxIn r f.content f.goals (box (joining k m.site.content) (with_atoms l.worker (slice_index c.next l.worker) k.body (without_goal g m.site.goals)) no_boxes) → Result
      new r (inl e) = (m.site, site_stands rules p c l d s m, ap (λ (k : Content). k.name) (sym e.1))
      new r (inr (inl w)) = (
        record { around = m.site.around ++ m.site.content ∷ w.0; content = f.content; goals = f.goals },
        in_deeper m.site.around m.site.content m.site.goals w.0 f.content f.goals c.roots (site_stands rules p c l d s m)
            (without_in g w.0 f.content f.goals m.site.goals (with_atoms_in l.worker (slice_index c.next l.worker) k.body w.0 f.content f.goals (without_goal g m.site.goals) w.2)),
        refl,
      )
      new r (inr (inr y)) = absurd y

      on : AfterEdit m.site.content.name m.change.boxes (λ a b gs. BoxIn a b gs c.roots) f.around f.content f.goals → Result
      on (outside gs y n e) = (record f { goals = gs }, y, refl)
      on (replaced a b gs rest y n e z) = new rest (subst (λ (k : Change). BoxIn rest f.content f.goals k.boxes) is_change z)

  pub was_there : (n : Name) (f : Found) → box_at n d.roots ≡ Some f → (e : Found) × (box_at n c.roots ≡ Some e)
  was_there n f j = let w : (e : Found) × Stands e c.roots × (e.content.name ≡ f.content.name) = came f (found_in n d.roots f j) in (w.0, named_found c.roots s.once n w.0 w.1 (box-itself n d.roots f j ∙ sym w.2))

  -- the choice goes

  held_gone : held_in g joins_to.goals ≡ None
  held_gone = ap (held_in g) goals_now ∙ elim (with_atoms_other l.worker (slice_index c.next l.worker) k.body g (without_goal g m.site.goals)) [
    | inl h ↦
        let z : times g c.roots ≡ 0 = nowhere g h in
        let a : times_of g m.site.content + (times_inside g m.site.goals + 0) + times_path g m.site.around ≤ times g c.roots = in_site g in
        let k : 1 ≤ times_inside g m.site.goals = held_counted g (a_choice op bs) m.site.goals held in
        absurd (omega arith)
    | inr e ↦ e ∙ without_gone g (a_choice op bs) m.site.goals (once g) held
  ]

  home_gone : home_of g d.roots ≡ None
  home_gone = none_where (home_of g d.roots) (λ f j.
      let like : IsLike m.site f = like_home c d s t (later_step rules p c l d s m) g m.site f home_was j in
      let y : Stands f d.roots × HasGoal g f.goals = home_in g d.roots f j in
      let e : f ≡ site_now joins_to = one_box d.roots t.once f (site_now joins_to) y.0 now_stands (sym like.name ∙ sym joins_to.keeps.name) in
      let n : held_in g joins_to.goals ≡ None = held_gone in
      let h : held_in g joins_to.goals ≡ Some y.1.0 = subst (λ (k : Found). held_in g k.goals ≡ Some y.1.0) e y.1.1 in
      absurd cc)

  pub spot_gone : spot_in g d.roots ≡ None
  spot_gone = spot_none g d.roots home_gone

  pub goals_differ : goals_at m.site.content.name c.roots ≡ goals_at m.site.content.name d.roots → ⊥
  goals_differ e =
      let r : goal_names m.site.goals ≡ goal_names joins_to.goals =
      some_value (sym (ap (option_map (λ (f : Found). goal_names f.goals)) (found rules p c l d s m)) ∙ e ∙ ap (option_map (λ (f : Found). goal_names f.goals)) now_there) in
      let h : HasGoal g joins_to.goals = has_names g m.site.goals joins_to.goals r (a_choice op bs, held) in
      let i : held_in g joins_to.goals ≡ Some h.0 = h.1 in
      let n : held_in g joins_to.goals ≡ None = held_gone in
      cc

  -- the box gets frames or equations

  more_frames : (ns : List Name) → (ns ≡ [] → ⊥) → ((i : Name) → times_in i ns + times_in i m.site.content.frames ≤ 1) → with_names ns m.site.content.frames ≡ m.site.content.frames → ⊥
  more_frames [] some few e = some refl
  more_frames (n ∷ ns) some few e =
      let o : one_if (same_name n n) ≡ 1 = ap one_if (same_name-refl n) in
      let h : 0 < times_in n (with_names (n ∷ ns) m.site.content.frames) = in-with_name n n (with_names ns m.site.content.frames) (omega arith) in
      let i : 0 < times_in n m.site.content.frames = subst (λ (xs : List Name). 0 < times_in n xs) e h in
      let f : times_in n (n ∷ ns) + times_in n m.site.content.frames ≤ 1 = few n in
      omega arith

  pub store_differs : constraint_at m.site.content.name c.roots ≡ constraint_at m.site.content.name d.roots → ⊥
  store_differs e = by origin
    where
      same : constraint_of m.site ≡ constraint_of (site_now joins_to)
      same = some_value (sym (ap (option_map constraint_of) (found rules p c l d s m)) ∙ e ∙ ap (option_map constraint_of) now_there)

      by : IsPromoted l bs k ⊎ IsGathered p l (slice_index c.next l.worker) m.site.content.name op bs k → ⊥
      by (inl y) = more_frames k.frames (framed rules p q journal c replays alt stands) few (ap (λ (z : Content). z.frames) (sym content_now) ∙ sym (ap (λ (z : Constraint). z.frames) same))
        where
          alt : Found
          alt = record { around = m.site.around ++ m.site.content ∷ []; content = k; goals = no_goals }

          stands : Stands alt c.roots
          stands = in_deeper m.site.around m.site.content m.site.goals [] k no_goals c.roots (site_stands rules p c l d s m)
              (held_inside g op bs [] k no_goals m.site.goals held (subst (BoxIn [] k no_goals) (sym y.only) (inl (refl, refl, refl))))

          few : (i : Name) → times_in i k.frames + times_in i m.site.content.frames ≤ 1
          few i =
              let a : times_of i m.site.content + (times_inside i m.site.goals + 0) + times_path i m.site.around ≤ times i c.roots = in_site i in
              let h : times i bs ≤ times_inside i m.site.goals = choice_less i g op bs m.site.goals held in
              let u : times i (box k no_goals no_boxes) ≡ times i bs = ap (times i) (sym y.only) in
              let o : times i c.roots ≤ 1 = s.once i in
              omega arith
      by (inr y) = gathered_tells p l.worker (slice_index c.next l.worker) m.site.content.name y.result bs k y.is_content
          (more_told m.site.content.equations k.equations (ap (λ (z : Constraint). z.equations) same ∙ ap (λ (z : Content). z.equations) content_now))

  -- each other goal that isn't new isn't changed

  same_names : (n : Name) (e f : Found) → box_at n c.roots ≡ Some e → box_at n d.roots ≡ Some f → (i : Name) → same_name i g ≡ false → (0 < drawn_times i l.worker (slice_index c.next l.worker) (length k.body) → ⊥)
      → (HasGoal i e.goals → HasGoal i f.goals) × (HasGoal i f.goals → HasGoal i e.goals)
  same_names n e f x y i other old = on (same_name m.site.content.name e.content.name) refl
    where
      name : e.content.name ≡ f.content.name
      name = sym (box-itself n c.roots e x) ∙ box-itself n d.roots f y

      kept : held_in i joins_to.goals ≡ held_in i m.site.goals
      kept = ap (held_in i) goals_now ∙ elim (with_atoms_other l.worker (slice_index c.next l.worker) k.body i (without_goal g m.site.goals)) [ inl h ↦ absurd (old h) | inr z ↦ z ∙ without_other g i m.site.goals other ]

      on : (v : Bool) → same_name m.site.content.name e.content.name ≡ v → (HasGoal i e.goals → HasGoal i f.goals) × (HasGoal i f.goals → HasGoal i e.goals)
      on false z =
          let names : goal_names e.goals ≡ goal_names f.goals = frame_names rules p c l d s m e f (found_in n c.roots e x) (found_in n d.roots f y) name z in
          (λ h. has_names i e.goals f.goals names h, λ h. has_names i f.goals e.goals (sym names) h)
      on true z =
          let k : m.site.content.name ≡ e.content.name = same_name-equal m.site.content.name e.content.name z in
          let a : m.site ≡ e = one_box c.roots s.once m.site e (site_stands rules p c l d s m) (found_in n c.roots e x) k in
          let b : site_now joins_to ≡ f = one_box d.roots t.once (site_now joins_to) f now_stands (found_in n d.roots f y) (joins_to.keeps.name ∙ k ∙ name) in
          let r : held_in i f.goals ≡ held_in i e.goals = ap (λ (j : Found). held_in i j.goals) (sym b) ∙ kept ∙ ap (λ (j : Found). held_in i j.goals) a in
          (λ h. (h.0, r ∙ h.1), λ h. (h.0, sym r ∙ h.1))

  same_goal : (item : Item) (i : Name) → item ≡ Item.Goal i → same_name i g ≡ false → (0 < drawn_times i l.worker (slice_index c.next l.worker) (length k.body) → ⊥) → MayChange m item → ⊥
  same_goal item i e apart old (store) = cc
  same_goal item i e apart old (goals) = cc
  same_goal item i e apart old (may.goal {g = j} x) =
      let y : Some g ≡ Some j = subst (λ (u : Place). goal_of u l.alternative m.site ≡ Some j) place x in
      let z : same_name i g ≡ true = subst (λ (n : Name). same_name i n ≡ true) (let w : i ≡ g = cc in w) (same_name-refl i) in
      cc
  same_goal item i e apart old (store_gone x y) = cc
  same_goal item i e apart old (goals_gone x y) = cc
  same_goal item i e apart old (goal_gone {g = j} {e = u} x y) = on (home_in i c.roots u at)
    where
      named : j ≡ i
      named = cc

      at : home_of i c.roots ≡ Some u
      at = subst (λ (n : Name). home_of n c.roots ≡ Some u) named x

      on : Stands u c.roots × HasGoal i u.goals → ⊥
      on v =
          let b : box_at u.content.name c.roots ≡ Some u = named_found c.roots s.once u.content.name u v.0 refl in
          let other : IsIn u.content.name (box_names bs) → ⊥ =
          (λ z. unsolved i v.1.0 u.goals v.1.1 (ap (λ (f : Found). f.goals) (some_value (sym b ∙ alt_there u.content.name z)))) in
          let f : (f : Found) × (box_at u.content.name d.roots ≡ Some f) = stays_there u.content.name u b other in
          let h : HasGoal i f.0.goals = (same_names u.content.name u f.0 b f.1 i apart old).0 v.1 in
          let z : home_of i d.roots ≡ Some f.0 = home_found d.roots t.once i u.content.name f.0 h.0 f.1 h.1 in
          let w : home_of i d.roots ≡ None = subst (λ (n : Name). home_of n d.roots ≡ None) named y in
          cc
  same_goal item i e apart old (store_new x y) = cc
  same_goal item i e apart old (goals_new x y) = cc
  same_goal item i e apart old (goal_new {g = j} {f = f} x y) = on (home_in i d.roots f at)
    where
      named : j ≡ i
      named = cc

      at : home_of i d.roots ≡ Some f
      at = subst (λ (n : Name). home_of n d.roots ≡ Some f) named y

      on : Stands f d.roots × HasGoal i f.goals → ⊥
      on v =
          let b : box_at f.content.name d.roots ≡ Some f = named_found d.roots t.once f.content.name f v.0 refl in
          let k : (k : Found) × (box_at f.content.name c.roots ≡ Some k) = was_there f.content.name f b in
          let h : HasGoal i k.0.goals = (same_names f.content.name k.0 f k.1 b i apart old).1 v.1 in
          let w : home_of i c.roots ≡ Some k.0 = home_found c.roots s.once i f.content.name k.0 h.0 k.1 h.1 in
          let u : home_of i c.roots ≡ None = subst (λ (n : Name). home_of n c.roots ≡ None) named x in
          cc
  same_goal item i e apart old (holder r x y z) = not_replaced r
  same_goal item i e apart old (roots r x) = not_replaced r
  same_goal item i e apart old (binding x) = cc

  pub same_shape : (i : Name) → same_name i g ≡ false → (0 < drawn_times i l.worker (slice_index c.next l.worker) (length k.body) → ⊥) → shape_at i c.roots ≡ shape_at i d.roots
  same_shape i apart old = not_not (option_or Shape shape_or (shape_at i c.roots) (shape_at i d.roots)) (λ h. same_goal (Item.Goal i) i refl apart old (items rules p c l d s m (Item.Goal i) h))

  -- a new goal is there, and was nowhere

  pub new_home : (i : Name) (a : Atom) → held_in i (with_atoms l.worker (slice_index c.next l.worker) k.body (without_goal g m.site.goals)) ≡ Some (an_atom a) → home_of i d.roots ≡ Some (site_now joins_to)
  new_home i a e = home_found d.roots t.once i m.site.content.name (site_now joins_to) (an_atom a) now_there (ap (held_in i) goals_now ∙ e)

  pub new_nowhere : (i : Name) → 0 < drawn_times i l.worker (slice_index c.next l.worker) (length k.body) → times i c.roots ≡ 0
  new_nowhere = nowhere
