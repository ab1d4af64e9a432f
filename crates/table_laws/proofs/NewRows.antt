-- The rows of new boxes and of their goals.
use Rattle.std.proofs.Common.{◌≡◌, ℕ, ◌+◌, ◌≤◌, List, [], ◌∷◌, ◌++◌, length, map, Bool, true, false, Option, Some, None, refl, sym, ◌∙◌, ap, subst, ◌⊎◌, inl, inr, arith}
use Rattle.std.specs.Prelude.{if◌then◌else◌, option_map, ⊤}
use Rattle.akl_terms.specs.declared.name.Name.{Name}
use Rattle.akl_terms.specs.declared.term.Node.{Node}
use Rattle.akl_model.specs.Config.{Operator}
use Rattle.akl_terms.specs.declared.program.Clause.{Clause}
use Rattle.akl_terms.specs.Equal.{Equations, IsTold}
use Rattle.akl_terms.specs.Standing.{StandFor}
use Rattle.akl_terms.specs.Names.{same_name}
use Rattle.akl_terms.specs.Tree.{Tree}
use Rattle.akl_terms.proofs.SameNames.{same_name-equal, same_name-refl}
use Rattle.akl_model.specs.Config.{IsIn, Content, Boxes, no_boxes, box, Goals, Held, a_choice, held_in, Found, whole, or_else, box_at, home_of}
use Rattle.akl_model.specs.Instances.{instances}
use Rattle.akl_model.specs.Changes.{shape_of, box_names}
use Rattle.akl_model.specs.Wakes.{names_around, names_down_to, holder_in}
use Rattle.akl_model.proofs.Options.{map_none, map_some, some_value}
use Rattle.akl_model.proofs.Finds.{times, times_inside}
use Rattle.akl_model.proofs.ScopesAlong.{times_path}
use Rattle.rational_unify.specs.Solving.{bindings_in}
use Rattle.local_store.specs.Chained.{IsSolvedChain}
use Rattle.step_laws.specs.Whereabouts.{BoxIn}
use Rattle.step_laws.specs.Holders.{IsHeldBy, IsAlternativeAt}
use Rattle.step_laws.proofs.Whereabouts.{found_in, in_counted}
use Rattle.step_laws.proofs.GoalEdits.{HasGoal}
use Rattle.step_laws.proofs.Holders.{alternative_at, held_around}
use Rattle.table_laws.specs.Rows.{GoalRow, Table, store_in, stores_along}
use Rattle.table_laws.specs.Unfolds.{UnchangedSince, IsBoxRow, Spot, spot_of}
use Rattle.table_laws.specs.Steps.{NewBox, IsNewBox, AreNewBoxes}
use Rattle.table_laws.specs.Writes.{solved_when, new_row, new_box_of, atom_among, new_goal_of}
use Rattle.table_laws.proofs.Atoms.{atom_names, nothing_among, atom_spots, atom_changed, atoms_failing}
use Rattle.table_laws.proofs.Stores.{told_along, told_last, stores_join}

-- new boxes and the boxes that they stand for

pub new_box_names : (nodes : List Node) (around : Equations) (news : List NewBox) (bs : Boxes) → AreNewBoxes nodes around news bs → map (λ (n : NewBox). n.name) news ≡ box_names bs
new_box_names nodes around [] no_boxes a = refl
new_box_names nodes around [] (box b gs bs) a = absurd a
new_box_names nodes around (n ∷ ns) no_boxes a = absurd a
new_box_names nodes around (n ∷ ns) (box b gs bs) a = let e : map (λ (n : NewBox). n.name) ns ≡ box_names bs = new_box_names nodes around ns bs a.1 in λ i. a.0.name i ∷ e i

-- nothing stands inside them
pub only_alternatives : (nodes : List Node) (around : Equations) (news : List NewBox) (bs : Boxes) (r : List Content) (k : Content) (hs : Goals) → AreNewBoxes nodes around news bs → BoxIn r k hs bs → r ≡ []
only_alternatives nodes around [] no_boxes r k hs a x = absurd x
only_alternatives nodes around [] (box b gs bs) r k hs a x = absurd a
only_alternatives nodes around (n ∷ ns) no_boxes r k hs a x = absurd x
only_alternatives nodes around (n ∷ ns) (box b gs bs) r k hs a (inl e) = e.0
only_alternatives nodes around (n ∷ ns) (box b gs bs) r k hs a (inr (inl w)) = absurd (nothing_among n.goals gs w.0 k hs a.0.goals w.2)
only_alternatives nodes around (n ∷ ns) (box b gs bs) r k hs a (inr (inr x)) = only_alternatives nodes around ns bs r k hs a.1 x

-- they show nothing
pub shows_none : (nodes : List Node) (w next : ℕ) (arguments : List Tree) (cs : List Clause) (r : List Content) (k : Content) (hs : Goals) → r ≡ [] → BoxIn r k hs (instances nodes w next arguments cs) → k.shown ≡ []
shows_none nodes w next arguments [] r k hs q x = absurd x
shows_none nodes w next arguments (c ∷ cs) r k hs q (inl e) = ap (λ (b : Content). b.shown) e.1
shows_none nodes w next arguments (c ∷ cs) r k hs q (inr (inl v)) = cc
shows_none nodes w next arguments (c ∷ cs) r k hs q (inr (inr x)) = shows_none nodes w (next + (2 + length c.guard)) arguments cs r k hs q x

abbrev pub EachNew : (NewBox → Type 0) → List NewBox → Type 0
EachNew Q [] = ⊤
EachNew Q (n ∷ ns) = Q n × EachNew Q ns

abbrev spot_at : Name → Held → Spot
spot_at home h = record { home = home; shape = shape_of h }

-- a box that stands for a new one
pub record IsOfNew (nodes : List Node) (around : Equations) (Q : NewBox → Type 0) (bs : Boxes) (m : Name) (new : NewBox) : Type 0 where
  pub content : Content
  pub goals : Goals
  pub is_new : IsNewBox nodes around new content goals
  pub more : Q new
  pub named : m ≡ content.name
  pub alternative : BoxIn [] content goals bs

module _ (nodes : List Node) (around : Equations) where
  -- a name has the row of a new box, and this stands there, or it has none, and is the name of none
  pub new_box_or : (Q : NewBox → Type 0) (g : Name) (at : Option ℕ) (number : ℕ) (news : List NewBox) (bs : Boxes) (m : Name) → AreNewBoxes nodes around news bs → EachNew Q news
      → ((new_box_of g at number news m ≡ None) × ((k : Content) (hs : Goals) → BoxIn [] k hs bs → m ≡ k.name → ⊥))
      ⊎ ((new : NewBox) × (new_box_of g at number news m ≡ Some (new_row g at number new)) × IsOfNew nodes around Q bs m new)
  new_box_or Q g at number [] no_boxes m a q = inl (refl, λ k hs x e. x)
  new_box_or Q g at number [] (box b gs bs) m a q = absurd a
  new_box_or Q g at number (n ∷ ns) no_boxes m a q = absurd a
  new_box_or Q g at number (n ∷ ns) (box b gs bs) m a q = on (same_name m n.name) refl (new_box_or Q g at number ns bs m a.1 q.1)
    where
      on : (t : Bool) → same_name m n.name ≡ t
          → ((new_box_of g at number ns m ≡ None) × ((k : Content) (hs : Goals) → BoxIn [] k hs bs → m ≡ k.name → ⊥))
          ⊎ ((new : NewBox) × (new_box_of g at number ns m ≡ Some (new_row g at number new)) × IsOfNew nodes around Q bs m new)
          → (((if t then Some (new_row g at number n) else new_box_of g at number ns m) ≡ None) × ((k : Content) (hs : Goals) → BoxIn [] k hs (box b gs bs) → m ≡ k.name → ⊥))
          ⊎ ((new : NewBox) × ((if t then Some (new_row g at number n) else new_box_of g at number ns m) ≡ Some (new_row g at number new)) × IsOfNew nodes around Q (box b gs bs) m new)
      on true e r = inr (n, refl, record { content = b; goals = gs; is_new = a.0; more = q.0; named = same_name-equal m n.name e ∙ a.0.name; alternative = inl (refl, refl, refl) })
      on false e (inr w) = inr (w.0, w.1, record { content = w.2.content; goals = w.2.goals; is_new = w.2.is_new; more = w.2.more; named = w.2.named; alternative = inr (inr w.2.alternative) })
      on false e (inl w) = inl (w.0, none)
        where
          none : (k : Content) (hs : Goals) → BoxIn [] k hs (box b gs bs) → m ≡ k.name → ⊥
          none k hs (inl x) i = let u : same_name m n.name ≡ true = subst (λ (v : Name). same_name m v ≡ true) (i ∙ ap (λ (v : Content). v.name) x.1 ∙ sym a.0.name) (same_name-refl m) in cc
          none k hs (inr (inl x)) i = let u : [] ≡ b ∷ x.0 = x.1 in cc
          none k hs (inr (inr x)) i = w.1 k hs x i

  -- and so of their goals
  pub new_goal_or : (number : ℕ) (news : List NewBox) (bs : Boxes) (m : Name) → AreNewBoxes nodes around news bs
      → ((new_goal_of number news m ≡ None) × ((k : Content) (hs : Goals) → BoxIn [] k hs bs → HasGoal m hs → ⊥))
      ⊎ ((row : GoalRow) × (k : Content) × (hs : Goals) × (h : Held) × (new_goal_of number news m ≡ Some row) × (row.changed ≡ number) × (spot_of row ≡ record { home = k.name; shape = shape_of h })
      × (held_in m hs ≡ Some h) × BoxIn [] k hs bs)
  new_goal_or number [] no_boxes m a = inl (refl, λ k hs x e. x)
  new_goal_or number [] (box b gs bs) m a = absurd a
  new_goal_or number (n ∷ ns) no_boxes m a = absurd a
  new_goal_or number (n ∷ ns) (box b gs bs) m a = on (atom_among n.name number n.goals m) refl (new_goal_or number ns bs m a.1)
    where
      spots : option_map spot_of (atom_among n.name number n.goals m) ≡ option_map (spot_at n.name) (held_in m gs)
      spots = atom_spots n.name number n.goals gs m a.0.goals

      on : (o : Option GoalRow) → atom_among n.name number n.goals m ≡ o
          → ((new_goal_of number ns m ≡ None) × ((k : Content) (hs : Goals) → BoxIn [] k hs bs → HasGoal m hs → ⊥))
          ⊎ ((row : GoalRow) × (k : Content) × (hs : Goals) × (h : Held) × (new_goal_of number ns m ≡ Some row) × (row.changed ≡ number) × (spot_of row ≡ record { home = k.name; shape = shape_of h })
          × (held_in m hs ≡ Some h) × BoxIn [] k hs bs)
          → ((or_else o (new_goal_of number ns m) ≡ None) × ((k : Content) (hs : Goals) → BoxIn [] k hs (box b gs bs) → HasGoal m hs → ⊥))
          ⊎ ((row : GoalRow) × (k : Content) × (hs : Goals) × (h : Held) × (or_else o (new_goal_of number ns m) ≡ Some row) × (row.changed ≡ number) × (spot_of row ≡ record { home = k.name; shape = shape_of h })
          × (held_in m hs ≡ Some h) × BoxIn [] k hs (box b gs bs))
      on (Some row) e r =
          let i : option_map (spot_at n.name) (held_in m gs) ≡ Some (spot_of row) = sym spots ∙ ap (option_map spot_of) e in
          let w : (h : Held) × (held_in m gs ≡ Some h) × (spot_at n.name h ≡ spot_of row) = map_some (spot_at n.name) (held_in m gs) (spot_of row) i in
          inr (row, b, gs, w.0, refl, atom_changed n.name number n.goals m row e, subst (λ (v : Name). spot_of row ≡ record { home = v; shape = shape_of w.0 }) a.0.name (sym w.2), w.1, inl (refl, refl, refl))
      on None e (inr w) = inr (w.0, w.1, w.2, w.3, w.4, w.5, w.6, w.7, inr (inr w.8))
      on None e (inl w) = inl (w.0, none)
        where
          none : (k : Content) (hs : Goals) → BoxIn [] k hs (box b gs bs) → HasGoal m hs → ⊥
          none k hs (inl x) h =
              let i : held_in m gs ≡ None = map_none (spot_at n.name) (held_in m gs) (sym spots ∙ ap (option_map spot_of) e) in
              let j : held_in m gs ≡ Some h.0 = subst (λ (js : Goals). held_in m js ≡ Some h.0) x.2 h.1 in
              cc
          none k hs (inr (inl x)) h = let u : [] ≡ b ∷ x.0 = x.1 in cc
          none k hs (inr (inr x)) h = w.1 k hs x h

-- the row of a new box among the alternatives of a choice
module _ (U : Table) (roots : Boxes) (once : (m : Name) → times m roots ≤ 1) (g : Name) (home : Found) (op : Operator) (alternatives : Boxes) (is_home : home_of g roots ≡ Some home)
    (held : held_in g home.goals ≡ Some (a_choice op alternatives)) (told : StandFor (IsTold (told_along U (names_down_to home))) (IsTold (whole home))) (at : Option ℕ) (number : ℕ) where
  -- the stores were solved when the step was made, where they say so
  pub record IsSolvedNew (new : NewBox) : Type 0 where
    pub each : (k : ℕ) → solved_when at new.solved ≡ Some k → (k ≤ U.steps) × (UnchangedSince U k (names_down_to home) → IsSolvedChain U.nodes (stores_along U (names_down_to home) ++ new.store ∷ []))

  pub new_is_row : (n : Name) (f : Found) (new : NewBox) → box_at n roots ≡ Some f → n ≡ f.content.name → IsIn n (box_names alternatives) → IsNewBox U.nodes (whole home) new f.content f.goals → IsSolvedNew new
      → f.content.shown ≡ [] → U.box_of n ≡ Some (new_row g at number new) → IsBoxRow U roots f (new_row g at number new)
  new_is_row n f new found named among is_new solved shown row = record {
    holder = sym (subst (λ (m : Name). holder_in m roots ≡ Some g) named place.holder);
    frames = is_new.frames;
    ports = is_new.ports;
    stands = subst (λ (E : Equations). StandFor (IsTold E) (IsTold (whole f))) (sym down)
        (subst (λ (E : Equations). StandFor (IsTold (told_along U (names_around f) ++ bindings_in U.nodes new.store.bindings)) (IsTold (E ++ f.content.equations))) (sym (by.equations ∙ ap whole same_home))
        (is_new.stands (told_along U (names_around f)) (subst (λ (ns : List Name). StandFor (IsTold (told_along U ns)) (IsTold (whole home))) (sym names) told)));
    stays_solved = record {
      within = λ k e. (solved.each k e).0;
      solved = λ k e u. subst (IsSolvedChain U.nodes) (sym stores) ((solved.each k e).1 (subst (UnchangedSince U k) names u));
    };
    goals = atom_names new.goals f.goals is_new.goals;
    failing = atoms_failing new.goals f.goals is_new.goals few;
    body = is_new.body;
    shown = sym shown;
    collected = is_new.collected;
  }
    where
      place : IsAlternativeAt n g home roots
      place = alternative_at roots once n g home op alternatives is_home held among

      by : IsHeldBy n g f roots
      by = held_around roots once n g f found place.holder

      same_home : by.home ≡ home
      same_home = some_value (sym by.is_home ∙ is_home)

      names : names_around f ≡ names_down_to home
      names = by.names ∙ ap names_down_to same_home

      its_store : store_in (U.box_of f.content.name) ≡ new.store
      its_store = ap (λ (m : Name). store_in (U.box_of m)) (sym named) ∙ ap store_in row

      down : told_along U (names_down_to f) ≡ told_along U (names_around f) ++ bindings_in U.nodes new.store.bindings
      down = told_last U (names_around f) f.content.name new.store its_store

      stores : stores_along U (names_down_to f) ≡ stores_along U (names_down_to home) ++ new.store ∷ []
      stores = stores_join U (names_around f) (f.content.name ∷ []) ∙ (λ i. stores_along U (names i) ++ its_store i ∷ [])

      few : (m : Name) → times_inside m f.goals ≤ 1
      few m =
          let a : times m (box f.content f.goals no_boxes) + times_path m f.around ≤ times m roots = in_counted m f.around f.content f.goals roots (found_in n roots f found) in
          let o : times m roots ≤ 1 = once m in
          omega arith
