-- What the parts of a new box are made of.
use Rattle.std.specs.Prelude.{◌≡◌, ℕ, suc, ◌+◌, List, [], ◌∷◌, ◌++◌, map, length, Bool, true, false, Option, Some, None, option_map, ⊤, ◌↔◌, IsTrue}
use Rattle.akl_terms.specs.declared.name.Name.{Name}
use Rattle.akl_terms.specs.declared.term.Node.{Node}
use Rattle.akl_terms.specs.declared.term.Term.{Term}
use Rattle.akl_terms.specs.declared.term.Term.TheVariants.{Mol}
use Rattle.akl_terms.specs.declared.term.Equation as code
use Rattle.akl_terms.specs.declared.program.Code.{Code}
use Rattle.akl_terms.specs.declared.program.Goal.{Goal}
use Rattle.akl_terms.specs.declared.program.Clause.{Clause}
use Rattle.akl_terms.specs.Equal.{IsConsistentBy}
use Rattle.rational_unify.specs.declared.solver.Solved.{Solved}
use Rattle.local_store.specs.Stored.{Stored, nothing, with_frame, with_bindings}
use Rattle.local_store.specs.Telling.{ToldAlso, Tells, clashed}
use Rattle.box_tree.specs.declared.step.NewBox.{NewBox}
use Rattle.rule_plan.specs.declared.heads.Call.{Call}

-- equations between so many neighbouring nodes under one frame and so many under another, as far as both go, the last first
abbrev pub heads : Name → ℕ → ℕ → Name → ℕ → ℕ → List code.Equation
heads f i (suc n) g j (suc m) = heads f (suc i) n g (suc j) m ++ record { left = Mol i f; right = Mol j g } ∷ []
heads f i n g j m = []

-- the equations between the arguments of a call and those of a clause's head under a frame
abbrev pub heads_of : Call → Name → Clause → List code.Equation
heads_of call frame c = heads call.frame call.first call.count frame c.first c.count

-- the code of a call, which may collect
abbrev pub called_as : ℕ → ℕ → ℕ → Option ℕ → Code
called_as d first count None = Code.Call d first count
called_as d first count (Some r) = Code.Collect d first count r

abbrev pub called : ℕ → Call → Code
called d call = called_as d call.first call.count call.collects

-- what is collected of a clause's box, under its frame
abbrev pub collected_by : Name → Clause → Option Term
collected_by frame c = option_map (λ n. Mol n frame) c.collected

-- atoms under a frame
abbrev pub goals_under : Name → List Code → List Goal
goals_under frame codes = map (λ c. record { code = c; frame = frame }) codes

-- these as goals, under names of the frame's worker from a number on
abbrev pub named_under : Name → ℕ → List Code → List (Name × Goal)
named_under frame n [] = []
named_under frame n (c ∷ cs) = (record { worker = frame.worker; number = n }, record { code = c; frame = frame }) ∷ named_under frame (n + 1) cs

-- a store that has a frame alone
abbrev pub store_with : Name → Stored
store_with frame = with_frame nothing frame

-- the frame's store over the stores of a path, of which so many of the outermost are known to be solved together, and to which equations are told;
-- and whether the chain is known to be solved with it: the whole path was, and with the equations it is consistent
pub record IsNewStore (nodes : List Node) (path : List Stored) (known : ℕ) (frame : Name) (es : List code.Equation) (store : Stored) (solved : Bool) : Type 0 where
  pub tells : Tells nodes (path ++ store_with frame ∷ []) (known + 1) es store
  pub is_solved : IsTrue solved ↔ ((known ≡ length path) × IsConsistentBy (ToldAlso nodes (path ++ store_with frame ∷ []) es))

-- a store also has what was found for equations
abbrev pub with_solved : Stored → Solved → Stored
with_solved s (Solved.Added bindings) = with_bindings s bindings
with_solved s (Solved.Clash left right) = clashed s left right

-- whether they are consistent
abbrev pub is_added : Solved → Bool
is_added (Solved.Added bindings) = true
is_added (Solved.Clash left right) = false

-- the box that a clause makes of a call, where a worker draws its names from a number on
pub record IsMade (nodes : List Node) (path : List Stored) (known : ℕ) (call : Call) (w n : ℕ) (c : Clause) (b : NewBox) : Type 0 where
  pub name : b.name ≡ record { worker = w; number = n }
  pub store : IsNewStore nodes path known (record { worker = w; number = n + 1 }) (heads_of call (record { worker = w; number = n + 1 }) c) b.store b.solved
  pub goals : b.goals.items ≡ named_under (record { worker = w; number = n + 1 }) (n + 2) c.guard
  pub body : b.body.items ≡ goals_under (record { worker = w; number = n + 1 }) c.body
  pub collected : b.collected ≡ collected_by (record { worker = w; number = n + 1 }) c

-- the boxes of these clauses, in their order
abbrev pub AreMade : List Node → List Stored → ℕ → Call → ℕ → ℕ → List Clause → List NewBox → Type 0
AreMade nodes path known call w n [] [] = ⊤
AreMade nodes path known call w n (c ∷ cs) (b ∷ bs) = IsMade nodes path known call w n c b × AreMade nodes path known call w (n + (2 + length c.guard)) cs bs
AreMade nodes path known call w n cs bs = ⊥
