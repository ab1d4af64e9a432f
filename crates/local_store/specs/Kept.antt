-- How a store keeps this: what it has of each frame, in the order of their names, and beside it what was added last.
use Rattle.std.specs.Prelude.{◌≡◌, ℕ, ◌<◌, suc, nat_lt, ◌==◌, not, ◌||◌, Bool, false, List, [], ◌∷◌, ◌++◌, map, find, Option, None, Some, option_map, if◌then◌else◌}
use Rattle.std.specs.declared.sync.Arc.{Arc}
use Rattle.std.specs.Arc.{arc_value}
use Rattle.std.specs.Global.{Global}
use Rattle.std.specs.Map.{keys_of}
use Rattle.std.specs.List.{AllByRecursion}
use Rattle.std.specs.Ordering.{is_lt}
use Rattle.std.specs.List.Sorted.{IsStrictlySortedBy}
use Rattle.akl_terms.specs.declared.name.Name.{Name}
use Rattle.akl_terms.specs.declared.name.Var.{Var}
use Rattle.akl_terms.specs.declared.term.Term.{Term}
use Rattle.akl_terms.specs.Names.{same_name, name_cmp}
use Rattle.local_store.specs.declared.frame_bindings.FrameBindings.{FrameBindings}
use Rattle.local_store.specs.Stored.{Stored, var_before, all_named, joins}

-- bindings of one frame's variables, by their indices, with one more behind those of its index and of the indices before it
abbrev pub put_at : List (ℕ × Term) → ℕ → Term → List (ℕ × Term)
put_at [] i t = (i, t) ∷ []
put_at (b ∷ bs) i t = if nat_lt i b.0 then (i, t) ∷ b ∷ bs else b ∷ put_at bs i t

-- with others of the frame, one after another
abbrev pub put_all : List (ℕ × Term) → List (Var × Term) → List (ℕ × Term)
put_all bs [] = bs
put_all bs (c ∷ cs) = put_all (put_at bs c.0.index c.1) cs

-- their indices increase strictly
abbrev pub Increase : List (Var × Term) → Type 0
Increase [] = Unit {0}
Increase (b ∷ []) = Unit {0}
Increase (b ∷ c ∷ bs) = (b.0.index < c.0.index) × Increase (c ∷ bs)

-- what the first of an index binds it to
abbrev pub found_at : List (ℕ × Term) → ℕ → Option Term
found_at bs i = option_map (λ b. b.1) (find (λ b. b.0 == i) bs)

-- what is there of a frame, or nothing
abbrev pub bindings_at : Option FrameBindings → List (ℕ × Term)
bindings_at None = []
bindings_at (Some f) = f.bindings.items

abbrev pub owns : Option FrameBindings → Bool
owns None = false
owns (Some f) = f.own

-- with what there was of a frame, if anything, bindings of its variables were put in one after another; it is one of the store's own where it was or becomes one
pub record IsAdded (own : Bool) (added : List (Var × Term)) (old : Option FrameBindings) (new : FrameBindings) : Type 0 where
  pub own_is : new.own ≡ (own || owns old)
  pub bindings : new.bindings.items ≡ put_all (bindings_at old) added

-- the bindings of a frame's variables
abbrev pub of_frame : Name → List (ℕ × Term) → List (Var × Term)
of_frame n bs = map (λ b. (record { frame = n; index = b.0 }, b.1)) bs

-- the ports, where there is a map of them
abbrev pub ports_of : Option (Arc (List (Name × Term)) Global) → List (Name × Term)
ports_of None = []
ports_of (Some ports) = arc_value ports

-- they bind variables of this frame
abbrev pub AreOf : Name → List (Var × Term) → Type 0
AreOf n bs = AllByRecursion (λ b. b.0.frame ≡ n) bs

-- the first of them is one
abbrev pub StartOf : Name → List (Var × Term) → Type 0
StartOf n [] = ⊥
StartOf n (b ∷ bs) = b.0.frame ≡ n

-- the store's own frames, and all bindings
abbrev pub frames_of : List (Name × FrameBindings) → List Name
frames_of [] = []
frames_of (e ∷ es) = if e.1.own then e.0 ∷ frames_of es else frames_of es

abbrev pub bindings_of : List (Name × FrameBindings) → List (Var × Term)
bindings_of [] = []
bindings_of (e ∷ es) = of_frame e.0 e.1.bindings.items ++ bindings_of es

-- how many at the front of a list pass a test
abbrev pub front : {A : Type 0} → (A → Bool) → List A → ℕ
front test [] = 0
front test (x ∷ xs) = if test x then suc (front test xs) else 0

-- how many at the front bind variables of this frame
abbrev pub run_of : List (Var × Term) → Name → ℕ
run_of bs n = front (λ b. same_name b.0.frame n) bs

-- how many bindings stand before one of this index, or of this variable, that is put in, and how many frames before this one
abbrev pub place_at : List (ℕ × Term) → ℕ → ℕ
place_at bs i = front (λ b. not (nat_lt i b.0)) bs

abbrev pub binding_place : List (Var × Term) → Var → ℕ
binding_place bs x = front (λ b. not (var_before x b.0)) bs

abbrev pub frame_place : List Name → Name → ℕ
frame_place ns n = front (λ m. is_lt (name_cmp m n)) ns

-- what is settled, with the frames and bindings that were added last
abbrev pub value_of : List (Name × FrameBindings) → List Name → List (Var × Term) → List (Name × Term) → Stored
value_of settled frames bindings ports = record { frames = all_named (frames_of settled) frames; bindings = joins (bindings_of settled) bindings; ports = ports }

-- no binding stands behind one of a later variable
abbrev pub AreInOrder : List (Var × Term) → Type 0
AreInOrder [] = Unit {0}
AreInOrder (b ∷ bs) = AllByRecursion (λ c. var_before c.0 b.0 ≡ false) bs × AreInOrder bs

-- what is settled is in order
pub record IsKept (settled : List (Name × FrameBindings)) : Type 0 where
  pub ordered : IsStrictlySortedBy name_cmp (keys_of settled)
  pub bindings : AreInOrder (bindings_of settled)
