-- Which of a call's clauses is left, where the heads of those before it clash with what is told down to the box of the call, or comparisons of their guards fail.
use Rattle.std.specs.Prelude.{◌≡◌, ℕ, ◌+◌, Bool, List, [], ◌∷◌, ◌++◌, length, Option, Some, None, true, false, ◌⊎◌}
use Rattle.akl_terms.specs.declared.name.Name.{Name}
use Rattle.akl_terms.specs.declared.name.Place.{Place}
use Rattle.akl_terms.specs.declared.term.Node.{Node}
use Rattle.akl_terms.specs.declared.term.Equation as code
use Rattle.akl_terms.specs.declared.term.Term.TheVariants.{Mol}
use Rattle.akl_terms.specs.declared.program.Clause.{Clause}
use Rattle.akl_terms.specs.declared.program.Code.{Code}
use Rattle.akl_terms.specs.Arithmetic.{truth, Evaluates}
use Rattle.akl_terms.specs.Equal.{IsConsistentBy}
use Rattle.akl_terms.specs.Template.{tree}
use Rattle.akl_model.specs.declared.label.Rule.{Rule}
use Rattle.akl_model.specs.declared.label.Label.{Label}
use Rattle.rational_unify.specs.Solving.{bindings_in}
use Rattle.local_store.specs.Stored.{Stored}
use Rattle.local_store.specs.Chained.{bindings_from}
use Rattle.local_store.specs.Telling.{ToldAlso}
use Rattle.plan_laws.specs.AtOnce.{by}
use Rattle.rule_plan.specs.Made.{heads, store_with, IsNewStore}
use Rattle.call_plan.specs.declared.heads.Arguments.{Arguments}
use Rattle.call_plan.specs.declared.own.Own.{Own}
use Rattle.call_plan.specs.declared.sifting.Left.{Left}
use Rattle.call_plan.specs.Owns.{is_plain, stored, IsPlainOwn}

-- the equations between the arguments of a call and those of a clause's head under a frame
abbrev pub head_codes : Arguments → Name → Clause → List code.Equation
head_codes a frame c = heads a.frame a.first a.count frame c.first c.count

-- the alternative of a clause draws its own name, its frame and the names of its guard's goals from a number on
abbrev pub name_at : ℕ → ℕ → Name
name_at w n = record { worker = w; number = n }

abbrev pub frame_at : ℕ → ℕ → Name
frame_at w n = record { worker = w; number = n + 1 }

abbrev pub evaluation : ℕ → ℕ → Label
evaluation w n = by w Rule.Eval (Place.Goal (name_at w n)) None

-- the head of a clause clashes with what stores tell
abbrev pub Clashes : List Node → List Stored → Arguments → Name → Clause → Type 0
Clashes nodes path a frame c = IsConsistentBy (ToldAlso nodes (path ++ store_with frame ∷ []) (head_codes a frame c)) → ⊥

-- a goal is a comparison that comes to this, by what stores tell
abbrev pub Comes : List (List ℕ) → List Node → List Stored → Name → Bool → Code → Type 0
Comes symbols nodes ss frame b (Code.Arith test l r) = Evaluates symbols (bindings_in nodes (bindings_from ss)) test (tree nodes (Mol l frame)) (tree nodes (Mol r frame)) (truth b)
Comes symbols nodes ss frame b code = ⊥

-- goals of a guard, named from a number on, are evaluated by these labels: all of them hold, or all up to one that doesn't
pub data Evaluated (symbols : List (List ℕ)) (nodes : List Node) (ss : List Stored) (frame : Name) : ℕ → List Code → List Label → Bool → Type 0 where
  all_hold : (n : ℕ) → Evaluated symbols nodes ss frame n [] [] true
  one_fails : (n : ℕ) (c : Code) (cs : List Code) → Comes symbols nodes ss frame false c → Evaluated symbols nodes ss frame n (c ∷ cs) (evaluation frame.worker n ∷ []) false
  one_holds : (n : ℕ) (c : Code) (cs : List Code) (ls : List Label) (b : Bool) → Comes symbols nodes ss frame true c → Evaluated symbols nodes ss frame (n + 1) cs ls b
      → Evaluated symbols nodes ss frame n (c ∷ cs) (evaluation frame.worker n ∷ ls) b

-- the store of an alternative says what its head tells
abbrev pub IsHeadStore : List Node → List Stored → Arguments → ℕ → ℕ → Clause → Stored → Type 0
IsHeadStore nodes path a w n c store = IsNewStore nodes path (length path) (frame_at w n) (head_codes a (frame_at w n) c) store true

-- what an alternative tells is what its head tells
pub record IsOwn (nodes : List Node) (path : List Stored) (a : Arguments) (frame : Name) (c : Clause) (own : Own) : Type 0 where
  pub store : IsNewStore nodes path (length path) frame (head_codes a frame c) (stored frame own) true
  pub plain : IsPlainOwn nodes path frame own

-- the store of the alternative of a clause that is left
abbrev pub store_of : Left → Stored
store_of l = stored l.frame l.own

-- where goals of guards are evaluated in alternatives with plain bindings alone, a clause's guard has no goals, or what its alternative tells is plain
abbrev pub EvaluatesPlainly : Bool → Clause → Own → Type 0
EvaluatesPlainly plainly c own = plainly ≡ true → (c.guard ≡ []) ⊎ (is_plain own ≡ true)

-- an alternative fails, after these labels: its head clashes, or a comparison of its guard fails
pub data Goes (symbols : List (List ℕ)) (nodes : List Node) (path : List Stored) (a : Arguments) (w : ℕ) (n : ℕ) (c : Clause) (plainly : Bool) : List Label → Type 0 where
  clashes : Clashes nodes path a (frame_at w n) c → Goes symbols nodes path a w n c plainly []
  refuted : (own : Own) (ls : List Label) → IsOwn nodes path a (frame_at w n) c own → EvaluatesPlainly plainly c own → Evaluated symbols nodes (path ++ stored (frame_at w n) own ∷ []) (frame_at w n) (n + 2) c.guard ls false
      → Goes symbols nodes path a w n c plainly ls

-- a clause is left, with the store of its alternative and the clauses behind it; where its guard is said to hold, it does, by these labels
pub record IsLeft (symbols : List (List ℕ)) (nodes : List Node) (path : List Stored) (a : Arguments) (w : ℕ) (n : ℕ) (c : Clause) (others : List Clause) (plainly : Bool) (ls : List Label) (l : Left) : Type 0 where
  pub clause : l.clause.now ≡ c
  pub name : l.name ≡ name_at w n
  pub frame : l.frame ≡ frame_at w n
  pub store : IsHeadStore nodes path a w n c (store_of l)
  pub plain : IsPlainOwn nodes path l.frame l.own
  pub evaluates : EvaluatesPlainly plainly c l.own
  pub guard : l.holds ≡ true → Evaluated symbols nodes (path ++ store_of l ∷ []) (frame_at w n) (n + 2) c.guard ls true
  pub behind : l.behind.now ≡ others

-- these labels come to others; and if it is said of the new ones that goals are evaluated in alternatives with plain bindings alone, it was said of the old ones
pub record AddsGoing (symbols : List (List ℕ)) (nodes : List Node) (path : List Stored) (a : Arguments) (w : ℕ) (n : ℕ) (c : Clause) (old : List Label) (was : Bool) (new : List Label) (plainly : Bool) : Type 0 where
  pub evaluations : List Label
  pub labels : new ≡ old ++ (evaluations ++ by w Rule.Fail (Place.Box (name_at w n)) None ∷ [])
  pub goes : Goes symbols nodes path a w n c plainly evaluations
  pub before : plainly ≡ true → was ≡ true

pub record AddsLeft (symbols : List (List ℕ)) (nodes : List Node) (path : List Stored) (a : Arguments) (w : ℕ) (n : ℕ) (c : Clause) (others : List Clause) (old : List Label) (was : Bool) (new : List Label) (plainly : Bool) (l : Left) : Type 0 where
  pub evaluations : List Label
  pub labels : new ≡ old ++ evaluations
  pub left : IsLeft symbols nodes path a w n c others plainly evaluations l
  pub before : plainly ≡ true → was ≡ true

-- of clauses whose alternatives draw their names from a number on, the first that doesn't fail is left, if there is one; these are the labels up to there
pub data Leaves (symbols : List (List ℕ)) (nodes : List Node) (path : List Stored) (a : Arguments) (w : ℕ) (plainly : Bool) : ℕ → List Clause → List Label → Option Left → Type 0 where
  none_left : (n : ℕ) → Leaves symbols nodes path a w plainly n [] [] None
  goes : (n : ℕ) (c : Clause) (cs : List Clause) (ks ls : List Label) (l : Option Left) → Goes symbols nodes path a w n c plainly ks → Leaves symbols nodes path a w plainly (n + (2 + length c.guard)) cs ls l
      → Leaves symbols nodes path a w plainly n (c ∷ cs) (ks ++ by w Rule.Fail (Place.Box (name_at w n)) None ∷ ls) l
  is_left : (n : ℕ) (c : Clause) (cs : List Clause) (ls : List Label) (l : Left) → IsLeft symbols nodes path a w n c cs plainly ls l → Leaves symbols nodes path a w plainly n (c ∷ cs) ls (Some l)

-- they are put behind other labels
pub record IsSifted (symbols : List (List ℕ)) (nodes : List Node) (path : List Stored) (a : Arguments) (w : ℕ) (n : ℕ) (cs : List Clause) (old : List Label) (was : Bool) (new : List Label) (plainly : Bool) (l : Option Left) : Type 0 where
  pub sifting : List Label
  pub labels : new ≡ old ++ sifting
  pub leaves : Leaves symbols nodes path a w plainly n cs sifting l
  pub before : plainly ≡ true → was ≡ true
