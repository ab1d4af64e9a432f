-- The clauses of one definition that is made have one operator, and their number is the definition's.
use Rattle.std.proofs.Common.{◌≡◌, ℕ, zero, suc, ◌+◌, List, [], ◌∷◌, ◌++◌, length, Some, refl, sym, ap, subst, ◌∙◌, arith, length-append}
use Rattle.std.specs.Prelude.{slice_get}
use Rattle.std.specs.List.{All}
use Rattle.std.proofs.lemmas.List.Elements.{All-nil, All-cons, All-append}
use Rattle.akl_terms.specs.declared.program.Key.{Key}
use Rattle.akl_terms.specs.declared.program.Op.{Op}
use Rattle.akl_terms.specs.declared.program.Op.TheVariants as ops
use Rattle.akl_syntax.specs.declared.source.Head.TheVariants as heads
use Rattle.akl_syntax.specs.Goals.{Goal, Goals, Parts, call, choice, lifted, collect, lifted_collect, no_goals, more_goals, no_parts, more_parts, goals}
use Rattle.akl_syntax.specs.Clauses.{Clause}
use Rattle.term_syntax.specs.Tree.{Tree}
use Rattle.akl_syntax.specs.Variables.{parts_variables}
use Rattle.clause_keys.specs.declared.callee.Callee.{Callee}
use Rattle.clause_keys.specs.Conditions.{IsLiftable, a_goal, a_choice, a_collect, AreLiftable, more_liftable, HaveLiftable, no_part, a_part, IsClauseLiftable}
use Rattle.akl_lift.specs.Lifting.{Origin, choices_in, choices_in_all, choices_in_parts, part_clause, part_clauses, part_shares, collect_variables, collect_shares, collect_clause, made, made_all, made_inside, made_in_part, joined, clause_choices, choices_of, clause_shares, clause_origin, made_of, made_of_all}
use Rattle.akl_lift.proofs.Sized.{joined-append}

-- ---- the operator of each choice and each collecting goal, in the order of the opening brackets
abbrev first_op : Parts → Op
first_op no_parts = ops.Choice
first_op (more_parts gs op hs ps) = op

abbrev mutual
  pub operators : Goal → List Op
  operators (call s ts) = []
  operators (choice ps) = first_op ps ∷ operators_inside ps
  operators (lifted n ns) = []
  operators (collect t gs r) = ops.Collect ∷ operators_all gs
  operators (lifted_collect n ns r) = []

  pub operators_all : Goals → List Op
  operators_all no_goals = []
  operators_all (more_goals g gs) = operators g ++ operators_all gs

  pub operators_inside : Parts → List Op
  operators_inside no_parts = []
  operators_inside (more_parts gs op hs ps) = (operators_all gs ++ operators_all hs) ++ operators_inside ps

mutual
  pub length-operators : (g : Goal) → length (operators g) ≡ choices_in g
  length-operators (call s ts) = refl
  length-operators (choice ps) = omega (arith, length-operators_inside ps)
  length-operators (lifted n ns) = refl
  length-operators (collect t gs r) = omega (arith, length-operators_all gs)
  length-operators (lifted_collect n ns r) = refl

  pub length-operators_all : (gs : Goals) → length (operators_all gs) ≡ choices_in_all gs
  length-operators_all no_goals = refl
  length-operators_all (more_goals g gs) = omega (arith, length-append (operators g) (operators_all gs), length-operators g, length-operators_all gs)

  length-operators_inside : (ps : Parts) → length (operators_inside ps) ≡ choices_in_parts ps
  length-operators_inside no_parts = refl
  length-operators_inside (more_parts gs op hs ps) =
      omega (arith, length-append (operators_all gs ++ operators_all hs) (operators_inside ps), length-append (operators_all gs) (operators_all hs), length-operators_all gs, length-operators_all hs, length-operators_inside ps)

-- ---- the clause was made of the goal at some place among those with these operators, the first of which has this number
pub record IsMadeOf (os : List Op) (first : ℕ) (c : Clause) : Type 0 where
  pub at : ℕ
  pub inside : Key
  pub head_is : c.head ≡ heads.Lifted (first + at) inside
  pub op_is : slice_get os at ≡ Some c.part.op

get_front : (xs ys : List Op) (i : ℕ) (x : Op) → slice_get xs i ≡ Some x → slice_get (xs ++ ys) i ≡ Some x
get_front [] ys i x e = cc
get_front (z ∷ xs) ys zero x e = e
get_front (z ∷ xs) ys (suc i) x e = get_front xs ys i x e

get_back : (xs ys : List Op) (i : ℕ) (x : Op) → slice_get ys i ≡ Some x → slice_get (xs ++ ys) (length xs + i) ≡ Some x
get_back [] ys i x e = let h : 0 + i ≡ i = omega arith in ap (slice_get ys) h ∙ e
get_back (z ∷ xs) ys i x e = let h : suc (length xs) + i ≡ suc (length xs + i) = omega arith in ap (slice_get (z ∷ xs ++ ys)) h ∙ get_back xs ys i x e

made_front : (os more : List Op) (first : ℕ) (c : Clause) → IsMadeOf os first c → IsMadeOf (os ++ more) first c
made_front os more first c m = record { at = m.at; inside = m.inside; head_is = m.head_is; op_is = get_front os more m.at c.part.op m.op_is }

made_back : (os more : List Op) (first next : ℕ) (c : Clause) → next ≡ first + length os → IsMadeOf more next c → IsMadeOf (os ++ more) first c
made_back os more first next c e m = record {
  at = length os + m.at;
  inside = m.inside;
  head_is = m.head_is ∙ ap (λ k. heads.Lifted k m.inside) (omega (arith, e));
  op_is = get_back os more m.at c.part.op m.op_is;
}

all_front : (os more : List Op) (first : ℕ) (cs : List Clause) → All (IsMadeOf os first) cs → All (IsMadeOf (os ++ more) first) cs
all_front os more first cs a = λ k d h. made_front os more first _ (a k d h)

all_back : (os more : List Op) (first next : ℕ) (cs : List Clause) → next ≡ first + length os → All (IsMadeOf more next) cs → All (IsMadeOf (os ++ more) first) cs
all_back os more first next cs e a = λ k d h. made_back os more first next _ e (a k d h)

pub all_both : (os more : List Op) (first next : ℕ) (cs ds : List Clause) → next ≡ first + length os → All (IsMadeOf os first) cs → All (IsMadeOf more next) ds → All (IsMadeOf (os ++ more) first) (cs ++ ds)
all_both os more first next cs ds e a b = All-append (IsMadeOf (os ++ more) first) cs ds (all_front os more first cs a) (all_back os more first next ds e b)

-- all of these
pub all_joined : (os more : List Op) (first next : ℕ) (ds es : List (List Clause)) → next ≡ first + length os → All (IsMadeOf os first) (joined ds) → All (IsMadeOf more next) (joined es)
    → All (IsMadeOf (os ++ more) first) (joined (ds ++ es))
all_joined os more first next ds es e a b = subst (λ (cs : List Clause). All (IsMadeOf (os ++ more) first) cs) (sym (joined-append ds es)) (all_both os more first next (joined ds) (joined es) e a b)

-- the only clause of a definition that is made of a collecting goal
pub collecting_made : (w : Origin) (first : ℕ) (more : List Op) (args : List ℕ) (next : ℕ) (t : Tree) (gs : Goals) → IsMadeOf (ops.Collect ∷ more) first (collect_clause w first args next t gs)
collecting_made w first more args next t gs = record { at = 0; inside = w.inside; head_is = ap (λ k. heads.Lifted k w.inside) (omega arith); op_is = refl }

module _ (callees : List Callee) where
  -- the clauses of one definition
  pub own_made : (w : Origin) (first : ℕ) (more : List Op) (args : List ℕ) (next : ℕ) (op : Op) (ps : Parts) → HaveLiftable callees op ps → All (IsMadeOf (op ∷ more) first) (part_clauses w first args next ps)
  own_made w first more args next op no_parts no_part = All-nil (IsMadeOf (op ∷ more) first)
  own_made w first more args next op (more_parts gs o hs ps) (a_part a b c) =
      All-cons (IsMadeOf (op ∷ more) first) (part_clause w first args next gs op hs) (part_clauses w first args (next + (choices_in_all gs + choices_in_all hs)) ps)
      (record { at = 0; inside = w.inside; head_is = ap (λ k. heads.Lifted k w.inside) (omega arith); op_is = refl })
      (own_made w first more args (next + (choices_in_all gs + choices_in_all hs)) op ps c)

  op_is_first : (op : Op) (ps : Parts) (w : Origin) (first : ℕ) (more : List Op) (args : List ℕ) (next : ℕ) → HaveLiftable callees op ps
      → All (IsMadeOf (op ∷ more) first) (part_clauses w first args next ps) → All (IsMadeOf (first_op ps ∷ more) first) (part_clauses w first args next ps)
  op_is_first op no_parts w first more args next no_part a = All-nil (IsMadeOf (ops.Choice ∷ more) first)
  op_is_first op (more_parts gs o hs ps) w first more args next (a_part x y z) a = a

  mutual
    pub goal_made : (w : Origin) (shares : List ℕ → List ℕ) (next : ℕ) (g : Goal) → IsLiftable callees g → All (IsMadeOf (operators g) next) (joined (made w shares next g))
    goal_made w shares next (call s ts) l = All-nil (IsMadeOf [] next)
    goal_made w shares next (lifted n ns) l = All-nil (IsMadeOf [] next)
    goal_made w shares next (lifted_collect n ns r) l = All-nil (IsMadeOf [] next)
    goal_made w shares next (choice ps) (a_goal l) = elim l [ ]
    goal_made w shares next (collect t gs r) (a_goal l) = elim l [ ]
    goal_made w shares next (collect t gs r) (a_collect l) =
        let args : List ℕ = shares (collect_variables t gs) in
        All-cons (IsMadeOf (ops.Collect ∷ operators_all gs) next) (collect_clause w next args (next + 1) t gs) (joined (made_all w (collect_shares args t gs) (next + 1) gs)) (collecting_made w next (operators_all gs) args (next + 1) t gs)
        (all_back (ops.Collect ∷ []) (operators_all gs) next (next + 1) (joined (made_all w (collect_shares args t gs) (next + 1) gs)) (omega arith) (goals_made w (collect_shares args t gs) (next + 1) gs l))
    goal_made w shares next (choice ps) (a_choice {op = op} few l) =
        All-append (IsMadeOf (first_op ps ∷ operators_inside ps) next) (part_clauses w next (shares (parts_variables ps)) (next + 1) ps) (joined (made_inside w (shares (parts_variables ps)) (next + 1) ps))
        (op_is_first op ps w next (operators_inside ps) (shares (parts_variables ps)) (next + 1) l (own_made w next (operators_inside ps) (shares (parts_variables ps)) (next + 1) op ps l))
        (all_back (first_op ps ∷ []) (operators_inside ps) next (next + 1) (joined (made_inside w (shares (parts_variables ps)) (next + 1) ps)) (omega arith) (inside_made w (shares (parts_variables ps)) (next + 1) op ps l))

    pub goals_made : (w : Origin) (shares : List ℕ → List ℕ) (next : ℕ) (gs : Goals) → AreLiftable callees gs → All (IsMadeOf (operators_all gs) next) (joined (made_all w shares next gs))
    goals_made w shares next no_goals l = All-nil (IsMadeOf [] next)
    goals_made w shares next (more_goals g gs) (more_liftable a b) =
        all_joined (operators g) (operators_all gs) next (next + choices_in g) (made w shares next g) (made_all w shares (next + choices_in g) gs) (omega (arith, length-operators g))
        (goal_made w shares next g a) (goals_made w shares (next + choices_in g) gs b)

    pub inside_made : (w : Origin) (args : List ℕ) (next : ℕ) (op : Op) (ps : Parts) → HaveLiftable callees op ps → All (IsMadeOf (operators_inside ps) next) (joined (made_inside w args next ps))
    inside_made w args next op no_parts l = All-nil (IsMadeOf [] next)
    inside_made w args next op (more_parts gs o hs ps) (a_part a b c) =
        all_joined (operators_all gs ++ operators_all hs) (operators_inside ps) next (next + (choices_in_all gs + choices_in_all hs)) (made_in_part w args next gs hs) (made_inside w args (next + (choices_in_all gs + choices_in_all hs)) ps)
        (omega (arith, length-append (operators_all gs) (operators_all hs), length-operators_all gs, length-operators_all hs))
        (all_joined (operators_all gs) (operators_all hs) next (next + choices_in_all gs) (made_all w (part_shares args gs hs) next gs) (made_all w (part_shares args gs hs) (next + choices_in_all gs) hs) (omega (arith, length-operators_all gs))
        (goals_made w (part_shares args gs hs) next gs a) (goals_made w (part_shares args gs hs) (next + choices_in_all gs) hs b))
        (inside_made w args (next + (choices_in_all gs + choices_in_all hs)) op ps c)

-- ---- programs
abbrev pub clause_operators : Clause → List Op
clause_operators c = operators_all (goals c.part.guard) ++ operators_all (goals c.part.body)

abbrev pub program_operators : List Clause → List Op
program_operators [] = []
program_operators (c ∷ cs) = clause_operators c ++ program_operators cs

pub length-clause_operators : (c : Clause) → length (clause_operators c) ≡ clause_choices c
length-clause_operators c =
    omega (arith, length-append (operators_all (goals c.part.guard)) (operators_all (goals c.part.body)), length-operators_all (goals c.part.guard), length-operators_all (goals c.part.body))

pub length-program_operators : (cs : List Clause) → length (program_operators cs) ≡ choices_of cs
length-program_operators [] = refl
length-program_operators (c ∷ cs) = omega (arith, length-append (clause_operators c) (program_operators cs), length-clause_operators c, length-program_operators cs)

pub clause_made : (callees : List Callee) (next : ℕ) (c : Clause) → IsClauseLiftable callees c → All (IsMadeOf (clause_operators c) next) (joined (made_of next c))
clause_made callees next c l =
    all_joined (operators_all (goals c.part.guard)) (operators_all (goals c.part.body)) next (next + choices_in_all (goals c.part.guard)) (made_all (clause_origin c) (clause_shares c) next (goals c.part.guard))
    (made_all (clause_origin c) (clause_shares c) (next + choices_in_all (goals c.part.guard)) (goals c.part.body)) (omega (arith, length-operators_all (goals c.part.guard)))
    (goals_made callees (clause_origin c) (clause_shares c) next (goals c.part.guard) l.guard) (goals_made callees (clause_origin c) (clause_shares c) (next + choices_in_all (goals c.part.guard)) (goals c.part.body) l.body)

-- each clause of the definitions that are made has the operator and the number of a choice of the program
pub program_made : (callees : List Callee) (next : ℕ) (cs : List Clause) → All (IsClauseLiftable callees) cs → All (IsMadeOf (program_operators cs) next) (made_of_all next cs)
program_made callees next [] l = All-nil (IsMadeOf [] next)
program_made callees next (c ∷ cs) l =
    all_both (clause_operators c) (program_operators cs) next (next + clause_choices c) (joined (made_of next c)) (made_of_all (next + clause_choices c) cs) (omega (arith, length-clause_operators c))
    (clause_made callees next c (l 0 c (omega arith))) (program_made callees (next + clause_choices c) cs (λ k d h. l (suc k) d (omega (arith, h))))
