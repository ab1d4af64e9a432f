-- What a plan makes of the box of its place: a step, right for the box that was found.
use Rattle.std.specs.Prelude.{◌≡◌, ℕ, ◌+◌, ◌≤◌, Bool, true, false, List, [], ◌∷◌, ◌++◌, map, Option, Some, None, if◌then◌else◌, ◌⊎◌, ⊤, slice_get}
use Rattle.akl_terms.specs.declared.name.Name.{Name}
use Rattle.akl_terms.specs.declared.name.Place.{Place}
use Rattle.akl_terms.specs.declared.term.Node.{Node}
use Rattle.akl_model.specs.Config.{Operator}
use Rattle.akl_terms.specs.declared.program.Definition.{Definition}
use Rattle.akl_terms.specs.declared.program.Program.{Program}
use Rattle.akl_terms.specs.Names.{same_name}
use Rattle.akl_terms.specs.Tree.{Tree}
use Rattle.akl_terms.specs.Equal.{Equation, Equations, IsTold}
use Rattle.akl_terms.specs.Standing.{StandFor}
use Rattle.akl_model.specs.declared.item.Item.{Item}
use Rattle.akl_model.specs.declared.label.Rule.{Rule}
use Rattle.akl_model.specs.declared.label.Label.{Label}
use Rattle.akl_model.specs.Config.{IsIn, Atom, ShownTree, Content, Boxes, no_boxes, box, Goals, no_goals, atom, choice, an_atom, a_choice, held_in, with_names, with_ports, Found, environment, whole, box_at, with_content, without_goal}
use Rattle.akl_model.specs.Instances.{instances}
use Rattle.akl_model.specs.Rules.{operator_of, gathered, ChoiceIn, choice_with, others, with_alternatives, second_copy, becomes}
use Rattle.akl_model.specs.Names.{times_in}
use Rattle.akl_model.specs.Changes.{Shape, of_atom, of_choice, box_names}
use Rattle.akl_model.specs.Wakes.{names_around, names_down_to, holder_in}
use Rattle.akl_model.specs.Conditions as conditions
use Rattle.akl_model.specs.Stable.{Allows}
use Rattle.rational_unify.specs.Solving.{bindings_in}
use Rattle.local_store.specs.Stored.{Stored}
use Rattle.local_store.specs.Chained.{IsSolvedChain}
use Rattle.plan_laws.specs.Right.{Reads}
use Rattle.table_laws.specs.Rows.{Table, stores_along, ports_in}
use Rattle.table_laws.specs.Unfolds.{UnchangedSince, AreBoth}

-- a new box: its store, and whether this was solved over the stores around it; its goals, which are atoms; and its body
pub record NewBox : Type 0 where
  pub name : Name
  pub store : Stored
  pub solved : Bool
  pub goals : List (Name × Atom)
  pub body : List Atom
  pub collected : Option Tree

-- a copy of a box, or of one inside it: the choice that holds it, none for the copy of the box itself; its store, and whether this was solved
-- over the stores around it; its goals, each an atom or a choice; its body, and the terms that it shows
pub record BoxCopy : Type 0 where
  pub name : Name
  pub holder : Option Name
  pub store : Stored
  pub solved : Bool
  pub goals : List (Name × Shape)
  pub body : List Atom
  pub shown : List ShownTree
  pub collected : Option Tree

-- a box gets a store, which may be solved over those around it, and the goal goes; the goal becomes a choice of new boxes; the box goes; a
-- choice loses the alternatives that a solved one leaves no room for; all its alternatives join the box, which gets a store and new goals;
-- the goal becomes `fail`; it goes, and the box keeps its store; or the box becomes two, the second of this name: the copies, in any order, of
-- the box and of all boxes inside it
pub data Step : Type 0 where
  tells : Stored → Bool → Step
  forks : Operator → List NewBox → Step
  fails : Step
  cuts : Step
  joins : Stored → Bool → List (Name × Atom) → Step
  refutes : Step
  confirms : Step
  splits : Name → List BoxCopy → Step

-- a goal is an atom, and the label makes of its box one of this content and with these goals, and draws so many names
pub record ReducesAtom (p : Program) (l : Label) (next : ℕ) (f : Found) (g : Name) (content : Content) (goals : Goals) (drawn : ℕ) : Type 0 where
  pub goal : Atom
  pub held : held_in g f.goals ≡ Some (an_atom goal)
  pub makes : conditions.Makes (Allows p) p next l f (becomes content goals drawn)

-- the goal goes, and its box has this content, in which something was told: under all that stands for the equations around the box, the
-- store stands for the box's equations and those that were told
pub record TellsGoal (p : Program) (l : Label) (next : ℕ) (f : Found) (g : Name) (new : Stored) : Type 0 where
  pub content : Content
  pub drawn : ℕ
  pub reduces : ReducesAtom p l next f g content (without_goal g f.goals) drawn
  pub first : Equation
  pub more : Equations
  pub equations : content.equations ≡ f.content.equations ++ first ∷ more
  pub frames : new.frames ≡ content.frames
  pub ports : ports_in p.templates.nodes new.ports ≡ content.ports
  pub stands : (D : Equations) → StandFor (IsTold D) (IsTold (environment f)) → StandFor (IsTold (D ++ bindings_in p.templates.nodes new.bindings)) (IsTold (whole f ++ first ∷ more))

abbrev pub AreAtoms : List (Name × Atom) → Goals → Type 0
AreAtoms [] no_goals = ⊤
AreAtoms (x ∷ xs) (atom g a gs) = (x.0 ≡ g) × (x.1 ≡ a) × AreAtoms xs gs
AreAtoms xs gs = ⊥

-- the new box is of this content and has these goals, where these equations are told around it
pub record IsNewBox (nodes : List Node) (around : Equations) (n : NewBox) (b : Content) (gs : Goals) : Type 0 where
  pub name : n.name ≡ b.name
  pub frames : n.store.frames ≡ b.frames
  pub ports : ports_in nodes n.store.ports ≡ b.ports
  pub stands : (D : Equations) → StandFor (IsTold D) (IsTold around) → StandFor (IsTold (D ++ bindings_in nodes n.store.bindings)) (IsTold (around ++ b.equations))
  pub goals : AreAtoms n.goals gs
  pub body : n.body ≡ b.body
  pub collected : n.collected ≡ b.collected

abbrev pub AreNewBoxes : List Node → Equations → List NewBox → Boxes → Type 0
AreNewBoxes nodes around [] no_boxes = ⊤
AreNewBoxes nodes around (n ∷ ns) (box b gs bs) = IsNewBox nodes around n b gs × AreNewBoxes nodes around ns bs
AreNewBoxes nodes around ns bs = ⊥

-- a call becomes the choice of its definition's clauses, with names of a worker from a number on
pub record ForksGoal (p : Program) (worker next : ℕ) (f : Found) (g : Name) (op : Operator) (news : List NewBox) : Type 0 where
  pub number : ℕ
  pub arguments : List Tree
  pub result : Option Tree
  pub held : held_in g f.goals ≡ Some (an_atom (Atom.call number arguments result))
  pub definition : Definition
  pub is_definition : slice_get p.definitions number ≡ Some definition
  pub operator : operator_of definition.op result ≡ Some op
  pub boxes : AreNewBoxes p.templates.nodes (whole f) news (instances p.templates.nodes worker next arguments definition.clauses)

-- a solved alternative of a choice cuts others
pub record CutsGoal (f : Found) (g n : Name) : Type 0 where
  pub operator : Operator
  pub alternatives : Boxes
  pub held : held_in g f.goals ≡ Some (a_choice operator alternatives)
  pub named : IsIn n (box_names alternatives)

-- atoms under a worker's names from a number on
abbrev pub numbered : ℕ → ℕ → List Atom → List (Name × Atom)
numbered worker n [] = []
numbered worker n (a ∷ rest) = (record { worker = worker; number = n }, a) ∷ numbered worker (n + 1) rest

-- the only alternative of a choice, which has no goals, is what joins the box
pub record IsPromoted (l : Label) (bs : Boxes) (k : Content) : Type 0 where
  pub rule : l.rule ≡ Rule.Promote
  pub alternative : l.alternative ≡ Some k.name
  pub only : bs ≡ box k no_goals no_boxes

-- what all alternatives of a choice that collects have together is what joins it
pub record IsGathered (p : Program) (l : Label) (next : ℕ) (n : Name) (op : Operator) (bs : Boxes) (k : Content) : Type 0 where
  pub rule : l.rule ≡ Rule.Collect
  pub alternative : l.alternative ≡ None
  pub result : Tree
  pub collects : op ≡ Operator.collecting result
  pub is_content : gathered p l.worker next n result bs ≡ Some k

-- all alternatives of a choice, which have no goals, join the box: under all that stands for the equations around it, the store stands for
-- the box's equations and those that come; the goals of what comes are new
pub record JoinsGoal (p : Program) (l : Label) (next : ℕ) (f : Found) (g : Name) (new : Stored) (goals : List (Name × Atom)) : Type 0 where
  pub operator : Operator
  pub alternatives : Boxes
  pub held : held_in g f.goals ≡ Some (a_choice operator alternatives)
  pub joined : Content
  pub origin : IsPromoted l alternatives joined ⊎ IsGathered p l next f.content.name operator alternatives joined
  pub frames : new.frames ≡ with_names joined.frames f.content.frames
  pub ports : ports_in p.templates.nodes new.ports ≡ with_ports joined.ports f.content.ports
  pub stands : (D : Equations) → StandFor (IsTold D) (IsTold (environment f)) → StandFor (IsTold (D ++ bindings_in p.templates.nodes new.bindings)) (IsTold (whole f ++ joined.equations))
  pub body : goals ≡ numbered l.worker next joined.body

-- the goals of a box, with their shapes
abbrev pub shapes_in : Goals → List (Name × Shape)
shapes_in no_goals = []
shapes_in (atom g a gs) = (g, of_atom a) ∷ shapes_in gs
shapes_in (choice g op bs gs) = (g, of_choice op (box_names bs)) ∷ shapes_in gs

-- the copy of a name
abbrev pub copy_among : List BoxCopy → Name → Option BoxCopy
copy_among [] m = None
copy_among (k ∷ ks) m = if same_name m k.name then Some k else copy_among ks m

-- the copy is the box found among these, where these equations are told around them: under all that stands for the equations around the box,
-- the store stands for the box's own with them
pub record IsCopy (nodes : List Node) (around : Equations) (bs : Boxes) (f : Found) (k : BoxCopy) : Type 0 where
  pub holder : k.holder ≡ holder_in f.content.name bs
  pub frames : k.store.frames ≡ f.content.frames
  pub ports : ports_in nodes k.store.ports ≡ f.content.ports
  pub stands : (D : Equations) → StandFor (IsTold D) (IsTold (around ++ environment f)) → StandFor (IsTold (D ++ bindings_in nodes k.store.bindings)) (IsTold (around ++ whole f))
  pub goals : k.goals ≡ shapes_in f.goals
  pub body : k.body ≡ f.content.body
  pub shown : k.shown ≡ f.content.shown
  pub collected : k.collected ≡ f.content.collected

-- each box that is found among these has one copy, and there are no other copies
pub record AreCopies (nodes : List Node) (around : Equations) (bs : Boxes) (copies : List BoxCopy) : Type 0 where
  pub each : (n : Name) → AreBoth (IsCopy nodes around bs) (box_at n bs) (copy_among copies n)
  pub once : (n : Name) → times_in n (map (λ (k : BoxCopy). k.name) copies) ≤ 1

-- the box without the alternative, and this under new names throughout
abbrev pub rest_of : Name → Found → ChoiceIn → Boxes
rest_of a f c = with_alternatives f c (others a c.alternatives)

abbrev pub second_of : ℕ → ℕ → Name → Found → ChoiceIn → Boxes
second_of worker next a f c = second_copy worker next (rest_of a f c)

-- a box is split at an alternative: the copies are of what its second copy has, of which this is the name
pub record SplitsBox (nodes : List Node) (worker next : ℕ) (f : Found) (a copy : Name) (copies : List BoxCopy) : Type 0 where
  pub choice : ChoiceIn
  pub is_choice : choice_with a f.goals ≡ Some choice
  pub named : box_names (second_of worker next a f choice) ≡ copy ∷ []
  pub copied : AreCopies nodes (environment f) (second_of worker next a f choice) copies

-- the step is what the label makes of the box of its place, where the names drawn go on from the next number
abbrev pub Makes : Program → Label → ℕ → Found → Step → Type 0
Makes p l next f (tells new solved) = (g : Name) × (l.place ≡ Place.Goal g) × TellsGoal p l next f g new
Makes p l next f (forks op news) = (l.rule ≡ Rule.Fork) × ((g : Name) × (l.place ≡ Place.Goal g) × ForksGoal p l.worker next f g op news)
Makes p l next f fails = l.rule ≡ Rule.Fail
Makes p l next f cuts = (l.rule ≡ Rule.Cut) × ((g : Name) × (n : Name) × (l.place ≡ Place.Goal g) × (l.alternative ≡ Some n) × CutsGoal f g n)
Makes p l next f (joins new solved goals) = (g : Name) × (l.place ≡ Place.Goal g) × JoinsGoal p l next f g new goals
Makes p l next f refutes = (l.rule ≡ Rule.Eval) × ((g : Name) × (l.place ≡ Place.Goal g) × ReducesAtom p l next f g f.content (with_content g (an_atom Atom.fail) f.goals) 0)
Makes p l next f confirms = (l.rule ≡ Rule.Eval) × ((g : Name) × (l.place ≡ Place.Goal g) × ReducesAtom p l next f g f.content (without_goal g f.goals) 0)
Makes p l next f (splits copy copies) = (l.rule ≡ Rule.Split)
    × ((n : Name) × (a : Name) × (l.place ≡ Place.Box n) × (l.alternative ≡ Some a) × SplitsBox p.templates.nodes l.worker next f a copy copies)

-- what has to be unchanged for a step to be right still: what its label reads, and for one that gives the box a store, the constraints
-- down to the box
abbrev pub ReadsFor : (Item → Type 0) → Label → Found → Step → Type 0
ReadsFor U l f (tells new solved) = Reads U l.rule l.place l.alternative f × ((m : Name) → IsIn m (names_down_to f) → U (Item.Store m))
ReadsFor U l f step = Reads U l.rule l.place l.alternative f

-- a store is solved with those around it, where it says so
abbrev pub IsSolvedIf : Bool → Table → List Name → Stored → Type 0
IsSolvedIf false T around new = ⊤
IsSolvedIf true T around new = IsSolvedChain T.nodes (stores_along T around ++ new ∷ [])

abbrev pub AreSolvedIf : Table → List Name → List NewBox → Type 0
AreSolvedIf T around [] = ⊤
AreSolvedIf T around (n ∷ ns) = IsSolvedIf n.solved T around n.store × AreSolvedIf T around ns

-- the stores of the copies around one, the outermost first, by the choice that holds it
pub data AreAround (copies : List BoxCopy) : Option Name → List Stored → Type 0 where
  outermost : AreAround copies None []
  further : {g : Name} {stores : List Stored} (k : BoxCopy) → copy_among copies k.name ≡ Some k → IsIn g (map (λ (x : Name × Shape). x.0) k.goals) → AreAround copies k.holder stores
      → AreAround copies (Some g) (stores ++ k.store ∷ [])

-- the new stores of a step are solved in a table, where they say so
abbrev pub IsSolvedIn : Table → Found → Step → Type 0
IsSolvedIn T f (tells new solved) = IsSolvedIf solved T (names_around f) new
IsSolvedIn T f (forks op news) = AreSolvedIf T (names_down_to f) news
IsSolvedIn T f fails = ⊤
IsSolvedIn T f cuts = ⊤
IsSolvedIn T f (joins new solved goals) = IsSolvedIf solved T (names_around f) new
IsSolvedIn T f refutes = ⊤
IsSolvedIn T f confirms = ⊤
IsSolvedIn T f (splits copy copies) = (k : BoxCopy) (stores : List Stored) → copy_among copies k.name ≡ Some k → AreAround copies k.holder stores
    → k.solved ≡ true → IsSolvedChain T.nodes (stores_along T (names_around f) ++ (stores ++ k.store ∷ []))

-- the boxes around the stores that a step makes
abbrev pub around_made : Found → Step → List Name
around_made f (forks op news) = names_down_to f
around_made f step = names_around f

-- so many labels were made when the step was planned, and its stores are solved where no store around them was changed since; copies of a split,
-- which stand in one another, are solved in the very table
abbrev pub IsSolvedSince : ℕ → Table → Found → Step → Type 0
IsSolvedSince k T f (splits copy copies) = (k ≡ T.steps) × IsSolvedIn T f (splits copy copies)
IsSolvedSince k T f step = (k ≤ T.steps) × (UnchangedSince T k (around_made f step) → IsSolvedIn T f step)

-- the same, or nothing is known of that
abbrev pub IsSolvedWhen : Option ℕ → Table → Found → Step → Type 0
IsSolvedWhen None T f step = ⊤
IsSolvedWhen (Some k) T f step = IsSolvedSince k T f step
