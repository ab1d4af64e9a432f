-- Answers that are known.
use Rattle.std.specs.Prelude.{[], ◌∷◌, codes, if◌then◌else◌, true}
use Rattle.akl_terms.specs.declared.name.Var.{Var}
use Rattle.akl_terms.specs.Tree.{Tree, variable, symbol, none, more}
use Rattle.akl_terms.specs.Names.{same_var}
use Rattle.akl_terms.specs.Equal.{Equations}
use Rattle.answer_text.specs.AnswerLines.{AreAnswerLines}
use Rattle.answer_text.specs.Graph.{Graph}
use Rattle.answer_text.specs.BuiltGraph.{IsWorkedOut}

-- X = f(X), Y = f(f(Y)), where `f` is symbol 0
abbrev pub two_cycles : Var → Var → Equations
two_cycles x y = record { left = variable x; right = symbol 0 (more (variable x) none) } ∷ record { left = variable y; right = symbol 0 (more (symbol 0 (more (variable y) none)) none) } ∷ []

-- cycles of different lengths are one tree
abbrev pub TwoCyclesLaw : Type 0
TwoCyclesLaw = (x y : Var) → AreAnswerLines (codes "f" ∷ []) (two_cycles x y) ((codes "X", variable x) ∷ (codes "Y", variable y) ∷ []) (codes "X = R1\nY = R1\nR1 = f(R1)\n")

-- X = [X|X], where `.` is symbol 0
abbrev pub cyclic_list : Var → Equations
cyclic_list x = record { left = variable x; right = symbol 0 (more (variable x) (more (variable x) none)) } ∷ []

-- a list's tail that is cyclic does not go on
abbrev pub CyclicListLaw : Type 0
CyclicListLaw = (x : Var) → AreAnswerLines (codes "." ∷ []) (cyclic_list x) ((codes "X", variable x) ∷ []) (codes "X = R1\nR1 = [R1|R1]\n")

-- what stands for each term where X = f(X)
abbrev pub loop_end : Var → Tree → Tree
loop_end x (variable y) = if same_var y x then symbol 0 (more (variable x) none) else variable y
loop_end x t = t

-- one node, its own child
abbrev pub loop_graph : Var → Graph
loop_graph x = record { terms = symbol 0 (more (variable x) none) ∷ []; children = (0 ∷ []) ∷ [] }

-- the graph of X = f(X) is worked out: one block, and it comes back
abbrev pub LoopGraphLaw : Type 0
LoopGraphLaw = (x : Var) → IsWorkedOut (codes "f" ∷ []) (loop_end x) (loop_graph x) (0 ∷ []) (0 ∷ []) (λ b. 0) (λ b. true)
