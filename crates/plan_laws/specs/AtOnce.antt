-- A call at once: its fork, the failure of alternatives that clash, the cut and the promotion of the one that is left, and what is told at once of its body, as one list of labels with one net change.
use Rattle.std.specs.Prelude.{◌≡◌, ℕ, ◌+◌, ◌<◌, ◌^◌, List, [], ◌∷◌, ◌++◌, length, Option, Some, None, slice_get, slice_index, ◌⊎◌, ⊤}
use Rattle.akl_terms.specs.declared.name.Name.{Name}
use Rattle.akl_terms.specs.declared.name.Place.{Place}
use Rattle.akl_terms.specs.declared.program.Definition.{Definition}
use Rattle.akl_terms.specs.declared.program.Program.{Program}
use Rattle.akl_terms.specs.Tree.{Tree}
use Rattle.akl_terms.specs.Equal.{IsConsistent}
use Rattle.akl_model.specs.declared.label.Rule.{Rule}
use Rattle.akl_model.specs.declared.label.Label.{Label}
use Rattle.akl_model.specs.declared.item.Item.{Item}
use Rattle.akl_model.specs.Config.{IsIn, Held, Atom, Operator, Content, Boxes, no_boxes, box, Goals, no_goals, atom, Config, an_atom, held_in, with_goal, without_goal, Found, equations_of, whole, home_of, edited}
use Rattle.akl_model.specs.Instances.{instances, drawn_by}
use Rattle.akl_model.specs.Rules.{becomes, telling, operator_of, count_of, kept_by, alternative_of, joining}
use Rattle.akl_model.specs.Conditions.{HasFailed, IsQuietBox, GuardHolds, Makes}
use Rattle.akl_model.specs.Stable.{Allows}
use Rattle.akl_model.specs.Derivations.{IsInForce, raised, Derives}
use Rattle.akl_model.specs.Names.{HasDistinctNames}
use Rattle.akl_model.specs.Wakes.{names_down_to}
use Rattle.step_laws.specs.Stays.{IsSameBox}
use Rattle.plan_laws.specs.Wherever.{Follows, IsAsIn}

-- an alternative of a choice that stands in a box
abbrev pub inner : Found → Content → Goals → Found
inner f a gs = record { around = f.around ++ f.content ∷ []; content = a; goals = gs }

-- its equations clash with those around it, or one of its goals has failed
abbrev pub Fails : Found → Type 0
Fails f = (IsConsistent (whole f) → ⊥) ⊎ HasFailed f.goals

abbrev pub by : ℕ → Rule → Place → Option Name → Label
by w r place alternative = record { rule = r; place = place; alternative = alternative; worker = w }

-- the rules by which goals of a guard, or of the body, may be reduced
abbrev pub IsOfGuard : Rule → Type 0
IsOfGuard Rule.Tell = ⊤
IsOfGuard Rule.Eval = ⊤
IsOfGuard r = ⊥

-- goals of an alternative's guard are told or evaluated, in order, by labels that make of its box another, and draw no names
pub data Works (p : Program) (w next : ℕ) (f : Found) : Content → Goals → List Label → Content → Goals → Type 0 where
  rests : (b : Content) (gs : Goals) → Works p w next f b gs [] b gs
  works : (r : Rule) (g : Name) (h : Held) (b : Content) (gs : Goals) (b1 : Content) (gs1 : Goals) (ls : List Label) (b2 : Content) (gs2 : Goals) → IsOfGuard r → held_in g gs ≡ Some h
      → Makes (Allows p) p next (by w r (Place.Goal g) None) (inner f b gs) (record { boxes = box b1 gs1 no_boxes; drawn = 0 }) → b1.name ≡ b.name
      → Works p w next f b1 gs1 ls b2 gs2 → Works p w next f b gs (by w r (Place.Goal g) None ∷ ls) b2 gs2

-- of some alternatives some fail, after goals of their guards were reduced, and these are left; which of the failing ones do is free
pub data Sifts (p : Program) (w next : ℕ) (f : Found) : Boxes → List Label → Boxes → Type 0 where
  ends : Sifts p w next f no_boxes [] no_boxes
  fails : (b : Content) (gs : Goals) (b2 : Content) (gs2 : Goals) (ks : List Label) (bs : Boxes) (ls : List Label) (cs : Boxes) → Works p w next f b gs ks b2 gs2 → Fails (inner f b2 gs2)
      → Sifts p w next f bs ls cs → Sifts p w next f (box b gs bs) (ks ++ by w Rule.Fail (Place.Box b2.name) None ∷ ls) cs
  stays : (b : Content) (gs : Goals) (b2 : Content) (gs2 : Goals) (ks : List Label) (bs : Boxes) (ls : List Label) (cs : Boxes) → Works p w next f b gs ks b2 gs2
      → Sifts p w next f bs ls cs → Sifts p w next f (box b gs bs) (ks ++ ls) (box b2 gs2 cs)

-- of those that are left one without goals is alone and may be promoted, or is quiet and leaves itself alone
pub data Ends (w : ℕ) (g : Name) (f : Found) (o : Operator) (a : Content) : Boxes → List Label → Type 0 where
  promotes : GuardHolds o (inner f a no_goals) → Ends w g f o a (box a no_goals no_boxes) (by w Rule.Promote (Place.Goal g) (Some a.name) ∷ [])
  cuts : (bs : Boxes) → alternative_of f a.name bs ≡ Some (inner f a no_goals) → kept_by o a.name bs ≡ box a no_goals no_boxes → count_of (kept_by o a.name bs) < count_of bs → IsQuietBox (inner f a no_goals)
      → Ends w g f o a bs (by w Rule.Cut (Place.Goal g) (Some a.name) ∷ by w Rule.Promote (Place.Goal g) (Some a.name) ∷ [])

-- the goals of a list stand among others
abbrev pub with_named : List (Name × Atom) → Goals → Goals
with_named [] gs = gs
with_named (x ∷ xs) gs = with_named xs (with_goal x.0 (an_atom x.1) gs)

-- of the goals of a body, which have a worker's names from a number on, some are reduced in order: each goes by a label that draws no names, which tells the box an equation, or nothing where a comparison holds.
-- The others are left. Each label is seen with its goal alone, as what stands besides makes no difference to it
pub data Tells (p : Program) (w next : ℕ) (around : List Content) : Content → ℕ → List Atom → List Label → Content → List (Name × Atom) → Type 0 where
  finishes : (b : Content) (n : ℕ) → Tells p w next around b n [] [] b []
  leaves : (b : Content) (n : ℕ) (a : Atom) (rest : List Atom) (ls : List Label) (b2 : Content) (left : List (Name × Atom)) → Tells p w next around b (n + 1) rest ls b2 left
      → Tells p w next around b n (a ∷ rest) ls b2 ((record { worker = w; number = n }, a) ∷ left)
  tells : (r : Rule) (b : Content) (n : ℕ) (a : Atom) (s t : Tree) (rest : List Atom) (ls : List Label) (b2 : Content) (left : List (Name × Atom)) → IsOfGuard r
      → Makes (Allows p) p next (by w r (Place.Goal (record { worker = w; number = n })) None) (record { around = around; content = b; goals = atom (record { worker = w; number = n }) a no_goals }) (becomes (telling s t b) no_goals 0)
      → Tells p w next around (telling s t b) (n + 1) rest ls b2 left → Tells p w next around b n (a ∷ rest) (by w r (Place.Goal (record { worker = w; number = n })) None ∷ ls) b2 left
  holds : (r : Rule) (b : Content) (n : ℕ) (a : Atom) (rest : List Atom) (ls : List Label) (b2 : Content) (left : List (Name × Atom)) → IsOfGuard r
      → Makes (Allows p) p next (by w r (Place.Goal (record { worker = w; number = n })) None) (record { around = around; content = b; goals = atom (record { worker = w; number = n }) a no_goals }) (becomes b no_goals 0)
      → Tells p w next around b (n + 1) rest ls b2 left → Tells p w next around b n (a ∷ rest) (by w r (Place.Goal (record { worker = w; number = n })) None ∷ ls) b2 left

-- what is known of the equations and of the counts of names, for the call g of the box f, of a definition that doesn't collect
pub record IsAtOnce (p : Program) (c : Config) (w : ℕ) (g : Name) (f : Found) : Type 0 where
  pub definition : ℕ
  pub arguments : List Tree
  pub held : held_in g f.goals ≡ Some (an_atom (Atom.call definition arguments None))
  pub called : Definition
  pub is_called : slice_get p.definitions definition ≡ Some called
  pub op : Operator
  pub is_operator : operator_of called.op None ≡ Some op
  pub few_names : drawn_by called.clauses < 2 ^ 32
  pub sift_labels : List Label
  pub left : Boxes
  pub sifts : Sifts p w (slice_index c.next w + drawn_by called.clauses) f (instances p.templates.nodes w (slice_index c.next w) arguments called.clauses) sift_labels left
  pub last : Content
  pub end_labels : List Label
  pub ends : Ends w g f op last left end_labels
  pub few_goals : length last.body < 2 ^ 32
  pub body_labels : List Label
  pub after : Content
  pub goals_left : List (Name × Atom)
  pub body : Tells p w (slice_index c.next w + drawn_by called.clauses + length last.body) f.around (joining last f.content) (slice_index c.next w + drawn_by called.clauses) last.body body_labels after goals_left
  pub consistent : IsConsistent (equations_of f.around ++ after.equations)

abbrev pub labels_at_once : {p : Program} {c : Config} {w : ℕ} {g : Name} {f : Found} → IsAtOnce p c w g f → List Label
labels_at_once {p} {c} {w} {g} {f} x = by w Rule.Fork (Place.Goal g) None ∷ ((x.sift_labels ++ x.end_labels) ++ x.body_labels)

-- the net change: the goal goes, and the frames and the equations of the one that was left, what is told of its body, and the other goals of the body join its box. All names count as drawn
abbrev pub at_once : {p : Program} {c : Config} {w : ℕ} {g : Name} {f : Found} → IsAtOnce p c w g f → Config
at_once {p} {c} {w} {g} {f} x = record {
  roots = edited f.content.name (box x.after (with_named x.goals_left (without_goal g f.goals)) no_boxes) c.roots;
  next = raised w (drawn_by x.called.clauses + length x.last.body) c.next;
}

pub record AreInForce (rules : List Rule) : Type 0 where
  pub fork : IsInForce rules Rule.Fork
  pub fail : IsInForce rules Rule.Fail
  pub cut : IsInForce rules Rule.Cut
  pub tell : IsInForce rules Rule.Tell
  pub eval : IsInForce rules Rule.Eval
  pub promote : IsInForce rules Rule.Promote

-- the labels lead, one after another, to the configuration with the net change
abbrev pub AtOnceLaw : Type 0
AtOnceLaw = (rules : List Rule) → AreInForce rules → (p : Program) (c : Config) → HasDistinctNames c → (w : ℕ) (g : Name) (f : Found) → home_of g c.roots ≡ Some f
    → (x : IsAtOnce p c w g f) → Derives rules p c (labels_at_once x) (at_once x)

-- the call at once in another configuration, with the same net change of the box of the goal
pub record IsAtOnceIn {p : Program} {c : Config} {w : ℕ} {g : Name} {f : Found} (rules : List Rule) (x : IsAtOnce p c w g f) (d : Config) : Type 0 where
  pub site : Found
  pub is_home : home_of g d.roots ≡ Some site
  pub same : IsSameBox f site
  pub again : IsAtOnce p d w g site
  pub same_labels : labels_at_once again ≡ labels_at_once x
  pub same_names : drawn_by again.called.clauses ≡ drawn_by x.called.clauses
  pub same_last : again.last ≡ x.last
  pub same_after : again.after ≡ x.after
  pub same_left : again.goals_left ≡ x.goals_left
  pub derives : Derives rules p d (labels_at_once x) (at_once again)

-- the list of labels is right by contents: it reads the goal, and the constraints down to the box in which this stands
pub record MeetsCall (c : Config) (w : ℕ) (g : Name) (f : Found) (d : Config) : Type 0 where
  pub follows : Follows c d
  pub next : slice_index d.next w ≡ slice_index c.next w
  pub goal : IsAsIn c d (Item.Goal g)
  pub stores : (m : Name) → IsIn m (names_down_to f) → IsAsIn c d (Item.Store m)

abbrev pub AtOnceWhereverLaw : Type 0
AtOnceWhereverLaw = (rules : List Rule) → AreInForce rules → (p : Program) (c : Config) → HasDistinctNames c → (w : ℕ) (g : Name) (f : Found) → home_of g c.roots ≡ Some f
    → (x : IsAtOnce p c w g f) → (d : Config) → MeetsCall c w g f d → IsAtOnceIn rules x d
