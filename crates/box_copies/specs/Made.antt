-- Which names get new ones, and what a copy is made of.
use Rattle.std.specs.Prelude.{◌≡◌, List, [], ◌∷◌, ◌++◌, map, Bool, ◌&&◌, true, Option, None, option_map, if◌then◌else◌, ◌⊎◌, ⊤}
use Rattle.std.specs.List.{AllByRecursion}
use Rattle.akl_terms.specs.declared.name.Name.{Name}
use Rattle.akl_terms.specs.declared.term.Node.{Node}
use Rattle.akl_terms.specs.declared.term.Term.{Term}
use Rattle.akl_terms.specs.Names.{same_name}
use Rattle.akl_model.specs.Config.{IsIn}
use Rattle.rational_unify.specs.Older.{EachOlder}
use Rattle.local_store.specs.Stored.{Stored}
use Rattle.box_tree.specs.declared.entries.Held.{Held}
use Rattle.box_tree.specs.declared.inside.InnerGoal.{InnerGoal}
use Rattle.box_tree.specs.declared.inside.InnerBox.{InnerBox}
use Rattle.box_tree.specs.declared.step.BoxCopy.{BoxCopy}
use Rattle.box_copies.specs.declared.names.NewNames.{NewNames}
use Rattle.box_copies.specs.Renamer.{term_by, op_by, swapped_name, goal_by, shown_by, binding_by, store_by}

-- names that come to others
pub record Adds (old more new : List Name) : Type 0 where
  pub stays : (m : Name) → IsIn m old → IsIn m new
  pub comes : (m : Name) → IsIn m more → IsIn m new
  pub only : (m : Name) → IsIn m new → IsIn m old ⊎ IsIn m more

-- a box with its frames, ports and goals
abbrev pub own_names : InnerBox → List Name
own_names b = b.name ∷ (b.store.frames ++ (map (λ (p : Name × Term). p.0) b.store.ports ++ map (λ (g : InnerGoal). g.name) b.goals.items))

-- boxes but the alternative, and their names
abbrev pub kept : Name → List InnerBox → List InnerBox
kept a [] = []
kept a (b ∷ bs) = if same_name b.name a then kept a bs else b ∷ kept a bs

abbrev pub kept_names : Name → List InnerBox → List Name
kept_names a [] = []
kept_names a (b ∷ bs) = if same_name b.name a then kept_names a bs else own_names b ++ kept_names a bs

-- names but one
abbrev pub without : Name → List Name → List Name
without a [] = []
without a (n ∷ ns) = if same_name n a then without a ns else n ∷ without a ns

-- what a goal holds under other names, without the alternative
abbrev pub IsHeldAs : (Name → Name) → Name → Held → Held → Type 0
IsHeldAs f a (Held.Atom g) (Held.Atom h) = h ≡ goal_by f g
IsHeldAs f a (Held.Choice op alternatives since) (Held.Choice new others kept) = (new ≡ op_by f op) × (others.items ≡ map f (without a alternatives.items)) × (kept ≡ since)
IsHeldAs f a held other = ⊥

abbrev pub AreGoalsAs : (Name → Name) → Name → List InnerGoal → List (Name × Held) → Type 0
AreGoalsAs f a [] [] = ⊤
AreGoalsAs f a (g ∷ gs) (x ∷ xs) = (x.0 ≡ f g.name) × IsHeldAs f a g.held x.1 × AreGoalsAs f a gs xs
AreGoalsAs f a gs xs = ⊥

-- the choice that holds the copy of a box, none for that of the outermost
abbrev pub holder_by : (Name → Name) → Name → InnerBox → Option Name
holder_by f top b = if same_name b.name top then None else option_map f b.holder

-- the bindings of a box lead to older variables under other names
abbrev pub LeadsOlderBy : (Name → Name) → List Node → InnerBox → Type 0
LeadsOlderBy f nodes b = EachOlder nodes (map (binding_by f) b.store.bindings)

-- those of a store do, where they are to
abbrev pub LeadsOlder : List Node → (Name → Name) → Bool → Stored → Type 0
LeadsOlder nodes f older s = older ≡ true → EachOlder nodes (map (binding_by f) s.bindings)

-- the copy of a box, which counts as solved where the box does, if all copies' bindings lead to older variables
pub record IsBoxBy (s : NewNames) (older : Bool) (top a : Name) (b : InnerBox) (k : BoxCopy) : Type 0 where
  pub name : k.name ≡ swapped_name s b.name
  pub holder : k.holder ≡ holder_by (swapped_name s) top b
  pub store : k.store ≡ store_by s b.store
  pub solved : k.solved ≡ (b.solved && older)
  pub goals : AreGoalsAs (swapped_name s) a b.goals.items k.goals.items
  pub body : k.body.items ≡ map (goal_by (swapped_name s)) b.body.items
  pub shown : k.shown.items ≡ map (shown_by (swapped_name s)) b.shown.items
  pub collected : k.collected ≡ option_map (term_by (swapped_name s)) b.collected

abbrev pub AreBoxesBy : NewNames → Bool → Name → Name → List InnerBox → List BoxCopy → Type 0
AreBoxesBy s older top a [] [] = ⊤
AreBoxesBy s older top a (b ∷ bs) (k ∷ ks) = IsBoxBy s older top a b k × AreBoxesBy s older top a bs ks
AreBoxesBy s older top a bs ks = ⊥

-- and all of them do, where they are to
abbrev pub AreCopiedBy : NewNames → List Node → Bool → Name → Name → List InnerBox → List BoxCopy → Type 0
AreCopiedBy s nodes older top a bs ks = AreBoxesBy s older top a bs ks × (older ≡ true → AllByRecursion (LeadsOlderBy (swapped_name s) nodes) bs)

-- they count as solved where the boxes do, or none does
pub record AreCopies (s : NewNames) (nodes : List Node) (top a : Name) (bs : List InnerBox) (ks : List BoxCopy) : Type 0 where
  pub older : Bool
  pub copied : AreCopiedBy s nodes older top a bs ks
