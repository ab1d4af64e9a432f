-- A step that was made for a prefix of a run is right for the whole of it, where by its stamps what it reads is unchanged.
use Rattle.std.proofs.Common.{◌≡◌, ℕ, List, [], ◌∷◌, ◌++◌, length, Option, Some, None, refl, sym, ◌∙◌, ap, subst, ◌⊎◌, inl, inr}
use Rattle.std.specs.Prelude.{slice_index}
use Rattle.akl_terms.specs.declared.name.Name.{Name}
use Rattle.akl_terms.specs.declared.name.Place.{Place}
use Rattle.akl_terms.specs.declared.term.Node.{Node}
use Rattle.akl_model.specs.Config.{Operator}
use Rattle.akl_terms.specs.declared.program.Program.{Program}
use Rattle.akl_terms.specs.declared.program.Query.{Query}
use Rattle.akl_terms.specs.Equal.{Equations, IsTold}
use Rattle.akl_terms.specs.Standing.{StandFor}
use Rattle.akl_model.specs.declared.item.Item.{Item}
use Rattle.akl_model.specs.declared.label.Rule.{Rule}
use Rattle.akl_model.specs.declared.label.Label.{Label}
use Rattle.akl_model.specs.Changes.{box_names}
use Rattle.akl_model.specs.Rules.{gathered}
use Rattle.akl_model.specs.Config.{IsIn, Atom, Content, Boxes, no_boxes, box, with_names, with_ports, Config, Held, an_atom, a_choice, held_in, Found, whole, box_at, home_of, site_of}
use Rattle.akl_model.specs.Instances.{instances}
use Rattle.akl_model.specs.Derivations.{Applies, Derives, Replays}
use Rattle.akl_model.specs.Stable.{only}
use Rattle.akl_model.specs.Wakes.{names_around, names_down_to}
use Rattle.akl_model.proofs.Options.{some_value}
use Rattle.akl_model.proofs.NamesKept.{Stand, replay-stands, derived-stands, site-box}
use Rattle.constraint_laws.specs.StandingGrows.{AreToldIn}
use Rattle.constraint_laws.proofs.StandsGrow.{same_told_stands, stands_over, stands_within}
use Rattle.rational_unify.specs.Solving.{bindings_in}
use Rattle.local_store.specs.Stored.{Stored}
use Rattle.step_laws.specs.Stays.{GoesOn, Leaves, HaveShape, HaveSameEquations}
use Rattle.step_laws.specs.Likeness.{IsLike}
use Rattle.step_laws.specs.Inside.{EachItem}
use Rattle.step_laws.proofs.Whereabouts.{found_in}
use Rattle.step_laws.proofs.Inside.{each_map}
use Rattle.step_laws.proofs.Steps.{Later, later}
use Rattle.step_laws.proofs.StaysLaws.{goal_stays, goal_place, around_stays, inside_stays, equations_grow}
use Rattle.plan_laws.specs.Right.{Reads, NoneBy, IsRightOn}
use Rattle.plan_laws.specs.Stamps as stamps
use Rattle.akl_model.proofs.Gathered.{AllSolved, gathered_solved}
use Rattle.plan_laws.proofs.AllSolved.{each_stands, all_stay}
use Rattle.plan_laws.proofs.Right.{fresh}
use Rattle.plan_laws.proofs.StampLaws.{stamped, stamped_right}
use Rattle.step_laws.proofs.Whereabouts.{home_in}
use Rattle.table_laws.proofs.Insides.{choice_of}
use Rattle.table_laws.specs.Steps.{NewBox, Step, tells, forks, fails, cuts, joins, splits, CutsGoal, numbered, JoinsGoal, IsPromoted, IsGathered, SplitsBox, TellsGoal, AreNewBoxes, ForksGoal, Makes, ReadsFor, refutes, confirms, ReducesAtom}
use Rattle.table_laws.proofs.Gone.{goals_once}
use Rattle.table_laws.proofs.Reducing.{reduced}
use Rattle.table_laws.proofs.SameAtom.{same_atom}

-- an atom by its shape
atom_shape : (a : Atom) (h : Option Held) → HaveShape (Some (an_atom a)) h → h ≡ Some (an_atom a)
atom_shape a None e = cc
atom_shape a (Some (an_atom b)) e = let r : a ≡ b = cc in ap (λ (x : Atom). Some (an_atom x)) (sym r)
atom_shape a (Some (a_choice o bs)) e = cc

-- a choice by its shape
choice_shape : (o : Operator) (bs : Boxes) (h : Option Held) → HaveShape (Some (a_choice o bs)) h → (cs : Boxes) × (h ≡ Some (a_choice o cs)) × (box_names bs ≡ box_names cs)
choice_shape o bs None e = cc
choice_shape o bs (Some h) e =
    let w : (cs : Boxes) × (h ≡ a_choice o cs) × (box_names cs ≡ box_names bs) = choice_of h o (box_names bs) (sym (some_value e)) in
    (w.0, ap Some w.1, sym w.2)

-- new boxes under more equations around them
more_around : (nodes : List Node) (E G : Equations) (news : List NewBox) (bs : Boxes) → AreToldIn E G → AreNewBoxes nodes E news bs → AreNewBoxes nodes G news bs
more_around nodes E G [] no_boxes f a = tt
more_around nodes E G [] (box b gs bs) f a = absurd a
more_around nodes E G (n ∷ ns) no_boxes f a = absurd a
more_around nodes E G (n ∷ ns) (box b gs bs) f a = (
  record {
    name = a.0.name;
    frames = a.0.frames;
    ports = a.0.ports;
    stands = λ D d. stands_over D G (bindings_in nodes n.store.bindings) b.equations d (stands_within E (bindings_in nodes n.store.bindings) b.equations G f (a.0.stands E (same_told_stands E E (record { each = λ s t m. m }) (record { each = λ s t m. m }))));
    goals = a.0.goals;
    body = a.0.body;
    collected = a.0.collected;
  },
  more_around nodes E G ns bs f a.1,
)

-- what is read of a goal, by any rule
goal_read : (U : Item → Type 0) (r : Rule) (alternative : Option Name) (g : Name) (f : Found) → Reads U r (Place.Goal g) alternative f → U (Item.Goal g)
goal_read U Rule.Tell n g f x = x
goal_read U Rule.Fork n g f x = x
goal_read U Rule.Open n g f x = x
goal_read U Rule.Eval n g f x = x.0
goal_read U Rule.Send n g f x = x.0
goal_read U Rule.Cut n g f x = x.0
goal_read U Rule.Promote n g f x = x.0
goal_read U Rule.Collect n g f x = x.0
goal_read U Rule.Fail n g f x = absurd x
goal_read U Rule.Split n g f x = absurd x

module _ (rules : List Rule) (p : Program) (q : Query) (journal further : List Label) (c d : Config) (l : Label) (e : Config) (a : Applies rules p c l e) (replays : Replays rules p q journal c) (derives : Derives rules p c further d)
    (none : NoneBy l further) where
  abbrev Stamped : Item → Type 0
  Stamped i = stamps.IsStamped rules p q (journal ++ further) (length journal) i

  abbrev w : GoesOn rules p c further d
  w = record { query = q; journal = journal; replays = replays; derives = derives }

  leaves : (i : Item) → Stamped i → Leaves w i
  leaves i s = stamped rules p q journal further c d i replays derives s

  s : Stand c
  s = replay-stands rules p q journal c replays

  t : Stand d
  t = derived-stands rules p c d further s derives

  module _ (right : IsRightOn a d) where
    at_home : (g : Name) → l.place ≡ Place.Goal g → home_of g d.roots ≡ Some right.applies.site
    at_home g i = subst (λ (u : Place). site_of u d.roots ≡ Some right.applies.site) i right.applies.is_site

    was_home : (g : Name) → l.place ≡ Place.Goal g → home_of g c.roots ≡ Some a.site
    was_home g i = subst (λ (u : Place). site_of u c.roots ≡ Some a.site) i a.is_site

    still_held : (g : Name) (x : Atom) → l.place ≡ Place.Goal g → Stamped (Item.Goal g) → held_in g a.site.goals ≡ Some (an_atom x) → held_in g right.applies.site.goals ≡ Some (an_atom x)
    still_held g x i u h =
        let k : _ = goal_stays rules p c further d w g a.site (was_home g i) (leaves (Item.Goal g) u) in
        let f : k.0 ≡ right.applies.site = some_value (sym k.1 ∙ at_home g i) in
        atom_shape x (held_in g right.applies.site.goals) (subst (λ (v : Found). HaveShape (Some (an_atom x)) (held_in g v.goals)) f (subst (λ (o : Option Held). HaveShape o (held_in g k.0.goals)) h k.3))

    same_site : (g : Name) → l.place ≡ Place.Goal g → Stamped (Item.Goal g) → ((m : Name) → IsIn m (names_down_to a.site) → Stamped (Item.Store m)) → HaveSameEquations a.site right.applies.site
    same_site g i u v =
        let k : _ = goal_place rules p c further d w g a.site (was_home g i) (leaves (Item.Goal g) u) (λ n j. leaves (Item.Store n) (v n j)) in
        let f : k.0 ≡ right.applies.site = some_value (sym k.1 ∙ at_home g i) in
        subst (HaveSameEquations a.site) f k.3

    -- an atom whose box has the same constraints around it is reduced to the same
    still_reduces : (g : Name) (b : Content) (o : Option Held) (drawn : ℕ) → l.place ≡ Place.Goal g → Stamped (Item.Goal g) → ((m : Name) → IsIn m (names_down_to a.site) → Stamped (Item.Store m))
        → ReducesAtom p l (slice_index c.next l.worker) a.site g b (reduced o g a.site.goals) drawn → ReducesAtom p l (slice_index d.next l.worker) right.applies.site g b (reduced o g right.applies.site.goals) drawn
    still_reduces g b o drawn i u v m = subst (λ (n : ℕ). ReducesAtom p l n right.applies.site g b (reduced o g right.applies.site.goals) drawn) (sym (fresh rules p c further d w l none).0)
        (same_atom p l (slice_index c.next l.worker) a.site right.applies.site g b o drawn m (same_site g i u v).same (goals_once c.roots s.once a.site (home_in g c.roots a.site (was_home g i)).0) i (still_held g m.goal i u m.held))

    still_decides : (g : Name) (o : Option Held) → l.rule ≡ Rule.Eval → l.place ≡ Place.Goal g → Reads Stamped l.rule l.place l.alternative a.site
        → ReducesAtom p l (slice_index c.next l.worker) a.site g a.site.content (reduced o g a.site.goals) 0 → ReducesAtom p l (slice_index d.next l.worker) right.applies.site g right.applies.site.content (reduced o g right.applies.site.goals) 0
    still_decides g o e i u m = subst (λ (b : Content). ReducesAtom p l (slice_index d.next l.worker) right.applies.site g b (reduced o g right.applies.site.goals) 0) (same_site g i reads.0 reads.1).same.content
        (still_reduces g a.site.content o 0 i reads.0 reads.1 m)
      where
        reads : Reads Stamped Rule.Eval (Place.Goal g) l.alternative a.site
        reads = subst (λ (x : Rule). Reads Stamped x (Place.Goal g) l.alternative a.site) e (subst (λ (x : Place). Reads Stamped l.rule x l.alternative a.site) i u)

    still_tells : (g : Name) (new : Stored) → l.place ≡ Place.Goal g → Stamped (Item.Goal g) → ((m : Name) → IsIn m (names_down_to a.site) → Stamped (Item.Store m)) → TellsGoal p l (slice_index c.next l.worker) a.site g new
        → TellsGoal p l (slice_index d.next l.worker) right.applies.site g new
    still_tells g new i u v m = record {
      content = m.content;
      drawn = m.drawn;
      reduces = still_reduces g m.content None m.drawn i u v m.reduces;
      first = m.first;
      more = m.more;
      equations = m.equations ∙ ap (λ (b : Content). b.equations ++ m.first ∷ m.more) same.same.content;
      frames = m.frames;
      ports = m.ports;
      stands = λ D h. subst (λ (E : Equations). StandFor (IsTold (D ++ bindings_in p.templates.nodes new.bindings)) (IsTold (E ++ m.first ∷ m.more))) same.whole
          (m.stands D (subst (λ (E : Equations). StandFor (IsTold D) (IsTold E)) (sym same.environment) h));
    }
      where
        same : HaveSameEquations a.site right.applies.site
        same = same_site g i u v

    told_more : AreToldIn (whole a.site) (whole right.applies.site)
    told_more = record {
      each = equations_grow rules p c further d w a.site.content.name a.site right.applies.site (site-box l.place c.roots a.site s.once a.is_site)
          (subst (λ (n : Name). box_at n d.roots ≡ Some right.applies.site) (sym right.same_site) (site-box l.place d.roots right.applies.site t.once right.applies.is_site));
    }

    still_forks : (g : Name) (op : Operator) (news : List NewBox) → l.place ≡ Place.Goal g → Stamped (Item.Goal g) → ForksGoal p l.worker (slice_index c.next l.worker) a.site g op news
        → ForksGoal p l.worker (slice_index d.next l.worker) right.applies.site g op news
    still_forks g op news i u m = record {
      number = m.number;
      arguments = m.arguments;
      result = m.result;
      held = still_held g (Atom.call m.number m.arguments m.result) i u m.held;
      definition = m.definition;
      is_definition = m.is_definition;
      operator = m.operator;
      boxes = subst (λ (n : ℕ). AreNewBoxes p.templates.nodes (whole right.applies.site) news (instances p.templates.nodes l.worker n m.arguments m.definition.clauses)) (sym (fresh rules p c further d w l none).0)
          (more_around p.templates.nodes (whole a.site) (whole right.applies.site) news (instances p.templates.nodes l.worker (slice_index c.next l.worker) m.arguments m.definition.clauses) told_more m.boxes);
    }

    still_cuts : (g n : Name) → l.place ≡ Place.Goal g → Stamped (Item.Goal g) → CutsGoal a.site g n → CutsGoal right.applies.site g n
    still_cuts g n i u m =
        let k : _ = goal_stays rules p c further d w g a.site (was_home g i) (leaves (Item.Goal g) u) in
        let f : k.0 ≡ right.applies.site = some_value (sym k.1 ∙ at_home g i) in
        let v : (cs : Boxes) × (held_in g right.applies.site.goals ≡ Some (a_choice m.operator cs)) × (box_names m.alternatives ≡ box_names cs) =
        choice_shape m.operator m.alternatives (held_in g right.applies.site.goals)
        (subst (λ (v : Found). HaveShape (Some (a_choice m.operator m.alternatives)) (held_in g v.goals)) f (subst (λ (o : Option Held). HaveShape o (held_in g k.0.goals)) m.held k.3)) in
        record { operator = m.operator; alternatives = v.0; held = v.1; named = subst (IsIn n) v.2 m.named }

    still_joins : (g : Name) (new : Stored) (xs : List (Name × Atom)) → l.place ≡ Place.Goal g → Stamped (Item.Goal g) → ((m : Name) → IsIn m (names_down_to a.site) → Stamped (Item.Store m))
        → JoinsGoal p l (slice_index c.next l.worker) a.site g new xs → JoinsGoal p l (slice_index d.next l.worker) right.applies.site g new xs
    still_joins g new xs i u v m = record {
      operator = m.operator;
      alternatives = m.alternatives;
      held = there.1 ∙ ap (λ (cs : Boxes). Some (a_choice m.operator cs)) (sym stay);
      joined = m.joined;
      origin = elim m.origin [
        | inl y ↦ inl y
        | inr y ↦ inr (record {
          rule = y.rule;
          alternative = y.alternative;
          result = y.result;
          collects = y.collects;
          is_content = (λ j. gathered p l.worker (next_same j) (name_same j) y.result m.alternatives) ∙ y.is_content;
        })
      ];
      frames = m.frames ∙ ap (λ (b : Content). with_names m.joined.frames b.frames) same.same.content;
      ports = m.ports ∙ ap (λ (b : Content). with_ports m.joined.ports b.ports) same.same.content;
      stands = λ D h. subst (λ (E : Equations). StandFor (IsTold (D ++ bindings_in p.templates.nodes new.bindings)) (IsTold (E ++ m.joined.equations))) same.whole
          (m.stands D (subst (λ (E : Equations). StandFor (IsTold D) (IsTold E)) (sym same.environment) h));
      body = m.body ∙ ap (λ (k : ℕ). numbered l.worker k m.joined.body) (sym next_same);
    }
      where
        z : Later c d
        z = later rules p c d further s derives

        same : HaveSameEquations a.site right.applies.site
        same = same_site g i u v

        next_same : slice_index d.next l.worker ≡ slice_index c.next l.worker
        next_same = (fresh rules p c further d w l none).0

        name_same : right.applies.site.content.name ≡ a.site.content.name
        name_same = sym right.same_site

        there : (cs : Boxes) × (held_in g right.applies.site.goals ≡ Some (a_choice m.operator cs)) × (box_names m.alternatives ≡ box_names cs)
        there =
            let k : _ = goal_stays rules p c further d w g a.site (was_home g i) (leaves (Item.Goal g) u) in
            let f : k.0 ≡ right.applies.site = some_value (sym k.1 ∙ at_home g i) in
            choice_shape m.operator m.alternatives (held_in g right.applies.site.goals)
            (subst (λ (v : Found). HaveShape (Some (a_choice m.operator m.alternatives)) (held_in g v.goals)) f (subst (λ (o : Option Held). HaveShape o (held_in g k.0.goals)) m.held k.3))

        solved : AllSolved m.alternatives
        solved = elim m.origin [
          | inl y ↦ subst AllSolved (sym y.only) (refl, tt)
          | inr y ↦ gathered_solved p l.worker (slice_index c.next l.worker) a.site.content.name y.result m.alternatives m.joined y.is_content
        ]

        stay : m.alternatives ≡ there.0
        stay = all_stay c d s t z (a.site.around ++ a.site.content ∷ []) (right.applies.site.around ++ right.applies.site.content ∷ []) m.alternatives there.0 there.2 solved
            (each_stands g m.operator m.alternatives c.roots a.site (home_in g c.roots a.site (was_home g i)).0 m.held)
            (each_stands g m.operator there.0 d.roots right.applies.site (home_in g d.roots right.applies.site (at_home g i)).0 there.1)

    -- a box of which no item inside is changed, under unchanged constraints, is the same
    same_box : EachItem Stamped (only a.site) → ((m : Name) → IsIn m (names_around a.site) → Stamped (Item.Store m)) → a.site ≡ right.applies.site
    same_box u v = both (inside_stays rules p c further d w a.site.content.name a.site was (each_map Stamped (Leaves w) leaves (only a.site) u))
      where
        was : box_at a.site.content.name c.roots ≡ Some a.site
        was = site-box l.place c.roots a.site s.once a.is_site

        is : box_at a.site.content.name d.roots ≡ Some right.applies.site
        is = subst (λ (n : Name). box_at n d.roots ≡ Some right.applies.site) (sym right.same_site) (site-box l.place d.roots right.applies.site t.once right.applies.is_site)

        both : ((f : Found) × (box_at a.site.content.name d.roots ≡ Some f) × IsLike a.site f × (a.site.content ≡ f.content) × (a.site.goals ≡ f.goals)) → a.site ≡ right.applies.site
        both (f, there, like, content, goals) = (λ i. record { around = around i; content = content i; goals = goals i }) ∙ some_value (sym there ∙ is)
          where
            around : a.site.around ≡ f.around
            around = around_stays rules p c further d w a.site f (found_in a.site.content.name c.roots a.site was) (found_in a.site.content.name d.roots f there) like (λ m i. leaves (Item.Store m) (v m i))

    at_goal : (g : Name) → l.place ≡ Place.Goal g → Reads Stamped l.rule l.place l.alternative a.site → Stamped (Item.Goal g)
    at_goal g e u = goal_read Stamped l.rule l.alternative g a.site (subst (λ (x : Place). Reads Stamped l.rule x l.alternative a.site) e u)

    made_still : (step : Step) → ReadsFor Stamped l a.site step → Makes p l (slice_index c.next l.worker) a.site step → Makes p l (slice_index d.next l.worker) right.applies.site step
    made_still (tells new solved) u m = (m.0, m.1, still_tells m.0 new m.1 (at_goal m.0 m.1 u.0) u.1 m.2)
    made_still (forks op news) u m = (m.0, (m.1.0, m.1.1, still_forks m.1.0 op news m.1.1 (at_goal m.1.0 m.1.1 u) m.1.2))
    made_still fails u m = m
    made_still cuts u m =
        let r : Reads Stamped Rule.Cut (Place.Goal m.1.0) l.alternative a.site = subst (λ (x : Rule). Reads Stamped x (Place.Goal m.1.0) l.alternative a.site) m.0 (subst (λ (x : Place). Reads Stamped l.rule x l.alternative a.site) m.1.2 u) in
        (m.0, (m.1.0, m.1.1, m.1.2, m.1.3, still_cuts m.1.0 m.1.1 m.1.2 r.0 m.1.4))
    made_still (joins new solved goals) u m =
        let r : Stamped (Item.Goal m.0) × ((n : Name) → IsIn n (names_down_to a.site) → Stamped (Item.Store n)) = joined_reads m.2.origin (subst (λ (x : Place). Reads Stamped l.rule x l.alternative a.site) m.1 u) in
        (m.0, m.1, still_joins m.0 new goals m.1 r.0 r.1 m.2)
      where
        joined_reads : {g : Name} {op : Operator} {bs : Boxes} {k : Content} → IsPromoted l bs k ⊎ IsGathered p l (slice_index c.next l.worker) a.site.content.name op bs k → Reads Stamped l.rule (Place.Goal g) l.alternative a.site
            → Stamped (Item.Goal g) × ((n : Name) → IsIn n (names_down_to a.site) → Stamped (Item.Store n))
        joined_reads {g = g} (inl y) x = subst (λ (z : Rule). Reads Stamped z (Place.Goal g) l.alternative a.site) y.rule x
        joined_reads {g = g} (inr y) x = subst (λ (z : Rule). Reads Stamped z (Place.Goal g) l.alternative a.site) y.rule x
    made_still refutes u m = (m.0, (m.1.0, m.1.1, still_decides m.1.0 (Some (an_atom Atom.fail)) m.0 m.1.1 u m.1.2))
    made_still confirms u m = (m.0, (m.1.0, m.1.1, still_decides m.1.0 None m.0 m.1.1 u m.1.2))
    made_still (splits copy copies) u m =
        let r : Reads Stamped Rule.Split (Place.Box m.1.0) l.alternative a.site = subst (λ (x : Rule). Reads Stamped x (Place.Box m.1.0) l.alternative a.site) m.0 (subst (λ (x : Place). Reads Stamped l.rule x l.alternative a.site) m.1.2 u) in (
          m.0,
          (
            m.1.0,
            m.1.1,
            m.1.2,
            m.1.3,
            subst (λ (k : ℕ). SplitsBox p.templates.nodes l.worker k right.applies.site m.1.1 copy copies) (sym (fresh rules p c further d w l none).0)
                (subst (λ (f : Found). SplitsBox p.templates.nodes l.worker (slice_index c.next l.worker) f m.1.1 copy copies) (same_box r.0 r.1) m.1.4),
          ),
        )

  only_reads : (step : Step) → ReadsFor Stamped l a.site step → Reads Stamped l.rule l.place l.alternative a.site
  only_reads (tells new solved) u = u.0
  only_reads (forks op news) u = u
  only_reads fails u = u
  only_reads cuts u = u
  only_reads (joins new solved goals) u = u
  only_reads refutes u = u
  only_reads confirms u = u
  only_reads (splits copy copies) u = u

  still_right : (step : Step) → ReadsFor Stamped l a.site step → Makes p l (slice_index c.next l.worker) a.site step
      → (result : Config) × (now : Applies rules p d l result) × Makes p l (slice_index d.next l.worker) now.site step × (now.site.content.name ≡ a.site.content.name) × (now.change.drawn ≡ a.change.drawn)
  still_right step u m =
      let right : IsRightOn a d = stamped_right rules p q journal further c d l e a replays derives none (only_reads step u) in
      (right.result, right.applies, made_still right step u m, sym right.same_site, sym right.drawn)

pub later_law : (rules : List Rule) (p : Program) (q : Query) (journal further : List Label) (c d : Config) (l : Label) (e : Config) (a : Applies rules p c l e) (step : Step)
    → Replays rules p q journal c → Derives rules p c further d → NoneBy l further
    → ReadsFor (stamps.IsStamped rules p q (journal ++ further) (length journal)) l a.site step → Makes p l (slice_index c.next l.worker) a.site step
    → (result : Config) × (now : Applies rules p d l result) × Makes p l (slice_index d.next l.worker) now.site step × (now.site.content.name ≡ a.site.content.name) × (now.change.drawn ≡ a.change.drawn)
later_law rules p q journal further c d l e a step replays derives none u m = still_right rules p q journal further c d l e a replays derives none step u m
