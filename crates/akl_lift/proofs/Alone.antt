-- A clause that collects is the only one of its definition, once clauses are lifted.
use Rattle.std.proofs.Common.{◌≡◌, ℕ, zero, suc, ◌+◌, ◌<◌, List, [], ◌∷◌, ◌++◌, length, Some, refl, sym, ap, subst, ◌∙◌, arith, length-append}
use Rattle.std.specs.Prelude.{slice_get}
use Rattle.std.specs.List.{All, Contains}
use Rattle.std.proofs.lemmas.List.Elements.{All-nil, All-cons, All-head, All-tail, All-append, All-contains_itself, All-weaker}
use Rattle.std.proofs.lemmas.Option.{slice_get_within}
use Rattle.akl_terms.specs.declared.program.Op.{Op}
use Rattle.akl_terms.specs.declared.program.Op.TheVariants as ops
use Rattle.akl_syntax.specs.Goals.{Goal, Goals, Parts, call, choice, lifted, collect, lifted_collect, no_goals, more_goals, no_parts, more_parts, goals}
use Rattle.akl_syntax.specs.Variables.{parts_variables}
use Rattle.akl_syntax.specs.Clauses.{Clause, Query}
use Rattle.clause_keys.specs.declared.callee.Callee.{Callee}
use Rattle.clause_keys.specs.Keys.{defined_by}
use Rattle.clause_keys.specs.Conditions.{IsGuard, IsLiftable, a_goal, a_choice, a_collect, AreLiftable, more_liftable, HaveLiftable, a_part, IsClauseLiftable, AreAlone}
use Rattle.clause_keys.proofs.Defined.{lifted_number}
use Rattle.akl_lift.specs.Lifting.{Origin, choices_in, choices_in_all, part_clause, part_clauses, part_shares, collect_variables, collect_shares, collect_clause, made, made_all, made_inside, made_in_part, joined, clause_choices, clause_shares, clause_origin, clauses_without, made_of, made_of_all, lifted_clauses, query_origin, query_shares, hidden_locals, made_of_query}
use Rattle.akl_lift.specs.Whole.{IsWhole, AreWhole, HaveGoals, AreRead}
use Rattle.akl_lift.proofs.Sized.{joined-append}
use Rattle.akl_lift.proofs.Operators.{IsMadeOf, operators, operators_all, operators_inside, all_joined, length-operators, length-operators_all, clause_operators, program_operators, length-clause_operators, collecting_made, own_made, goal_made, goals_made, inside_made, clause_made, program_made}
use Rattle.akl_lift.proofs.Unmixed.{made_number, apart, IsWithout, was_written}

-- both clauses have operators that are written, if they are of one definition
abbrev MayShare : Clause → Clause → Type 0
MayShare c d = defined_by c ≡ defined_by d → IsGuard c.part.op × IsGuard d.part.op

-- so any two of these
abbrev Shared : List Clause → Type 0
Shared [] = Unit {0}
Shared (c ∷ cs) = All (MayShare c) cs × Shared cs

guards_shared : (cs : List Clause) → All (λ c. IsGuard c.part.op) cs → Shared cs
guards_shared [] a = tt
guards_shared (c ∷ cs) a =
    let first : IsGuard c.part.op = All-head (λ c. IsGuard c.part.op) c cs a in
    let rest = All-tail (λ c. IsGuard c.part.op) c cs a in
    (All-weaker (λ d. IsGuard d.part.op) (MayShare c) (λ d g. λ e. (first, g)) cs rest, guards_shared cs rest)

both_shared : (cs ds : List Clause) → Shared cs → Shared ds → All (λ c. All (MayShare c) ds) cs → Shared (cs ++ ds)
both_shared [] ds s t a = t
both_shared (c ∷ cs) ds s t a = (All-append (MayShare c) cs ds s.0 (All-head (λ c. All (MayShare c) ds) c cs a), both_shared cs ds s.1 t (All-tail (λ c. All (MayShare c) ds) c cs a))

shares_at : (c : Clause) (cs : List Clause) (j : ℕ) (d : Clause) → All (MayShare c) cs → slice_get cs j ≡ Some d → MayShare c d
shares_at c [] j d a e = absurd cc
shares_at c (x ∷ cs) zero d a e = let same : x ≡ d = cc in subst (MayShare c) same (All-head (MayShare c) x cs a)
shares_at c (x ∷ cs) (suc j) d a e = shares_at c cs j d (All-tail (MayShare c) x cs a) e

no_guard : (op : Op) → IsGuard op → op ≡ ops.Collect → ⊥
no_guard op g e = subst IsGuard e g

alone_at : (cs : List Clause) → Shared cs → (i j : ℕ) (c d : Clause) → slice_get cs i ≡ Some c → slice_get cs j ≡ Some d → defined_by c ≡ defined_by d → c.part.op ≡ ops.Collect → i ≡ j
alone_at [] s i j c d e f h k = absurd cc
alone_at (x ∷ cs) s zero zero c d e f h k = refl
alone_at (x ∷ cs) s zero (suc j) c d e f h k = let same : x ≡ c = cc in absurd (no_guard c.part.op (shares_at c cs j d (subst (λ z. All (MayShare z) cs) same s.0) f h).0 k)
alone_at (x ∷ cs) s (suc i) zero c d e f h k = let same : x ≡ d = cc in absurd (no_guard c.part.op (shares_at d cs i c (subst (λ z. All (MayShare z) cs) same s.0) e (sym h)).1 k)
alone_at (x ∷ cs) s (suc i) (suc j) c d e f h k = ap suc (alone_at cs s.1 i j c d e f h k)

are_alone : (cs : List Clause) → Shared cs → AreAlone cs
are_alone cs s = record { alone = alone_at cs s }

-- ---- clauses of different numbers
numbers_apart : (os more : List Op) (first next : ℕ) (c d : Clause) → next ≡ first + length os → IsMadeOf os first c → IsMadeOf more next d → MayShare c d
numbers_apart os more first next c d n m k = λ e. (
    let within : m.at < length os = slice_get_within os m.at c.part.op m.op_is in
    let both : Some (first + m.at) ≡ Some (next + k.at) = sym (made_number os first c m) ∙ ap lifted_number e ∙ made_number more next d k in
    let numbers : first + m.at ≡ next + k.at = cc in
    absurd (omega (arith, within, numbers, n)))

all_apart : (os more : List Op) (first next : ℕ) (cs ds : List Clause) → next ≡ first + length os → All (IsMadeOf os first) cs → All (IsMadeOf more next) ds → All (λ c. All (MayShare c) ds) cs
all_apart os more first next cs ds n a b =
    All-weaker (IsMadeOf os first) (λ c. All (MayShare c) ds) (λ c m. All-weaker (IsMadeOf more next) (MayShare c) (λ d k. numbers_apart os more first next c d n m k) ds b) cs a

made_shared : (os more : List Op) (first next : ℕ) (cs ds : List Clause) → next ≡ first + length os → All (IsMadeOf os first) cs → All (IsMadeOf more next) ds → Shared cs → Shared ds → Shared (cs ++ ds)
made_shared os more first next cs ds n a b s t = both_shared cs ds s t (all_apart os more first next cs ds n a b)

joined_shared : (os more : List Op) (first next : ℕ) (ds es : List (List Clause)) → next ≡ first + length os → All (IsMadeOf os first) (joined ds) → All (IsMadeOf more next) (joined es) → Shared (joined ds) → Shared (joined es) → Shared (joined (ds ++ es))
joined_shared os more first next ds es n a b s t = subst Shared (sym (joined-append ds es)) (made_shared os more first next (joined ds) (joined es) n a b s t)

own_guards : (w : Origin) (number : ℕ) (args : List ℕ) (next : ℕ) (ps : Parts) → HaveGoals ps → All (λ c. IsGuard c.part.op) (part_clauses w number args next ps)
own_guards w number args next no_parts h = All-nil (λ c. IsGuard c.part.op)
own_guards w number args next (more_parts gs op hs ps) h =
    All-cons (λ c. IsGuard c.part.op) (part_clause w number args next gs op hs) (part_clauses w number args (next + (choices_in_all gs + choices_in_all hs)) ps) h.4 (own_guards w number args (next + (choices_in_all gs + choices_in_all hs)) ps h.3)

module _ (callees : List Callee) where
  mutual
    goal_shared : (w : Origin) (shares : List ℕ → List ℕ) (next : ℕ) (g : Goal) → IsLiftable callees g → IsWhole g → Shared (joined (made w shares next g))
    goal_shared w shares next (call s ts) l h = tt
    goal_shared w shares next (lifted n ns) l h = tt
    goal_shared w shares next (lifted_collect n ns r) l h = tt
    goal_shared w shares next (choice ps) (a_goal l) h = elim l [ ]
    goal_shared w shares next (choice ps) (a_choice {op = op} few l) h =
        let args : List ℕ = shares (parts_variables ps) in
        made_shared (op ∷ []) (operators_inside ps) next (next + 1) (part_clauses w next args (next + 1) ps) (joined (made_inside w args (next + 1) ps)) (omega arith)
        (own_made callees w next [] args (next + 1) op ps l) (inside_made callees w args (next + 1) op ps l) (guards_shared (part_clauses w next args (next + 1) ps) (own_guards w next args (next + 1) ps h.1)) (inside_shared w args (next + 1) op ps l h.1)
    goal_shared w shares next (collect t gs r) (a_goal l) h = elim l [ ]
    goal_shared w shares next (collect t gs r) (a_collect l) h =
        let args : List ℕ = shares (collect_variables t gs) in
        let own : Clause = collect_clause w next args (next + 1) t gs in
        let more : List Clause = joined (made_all w (collect_shares args t gs) (next + 1) gs) in (
          All-weaker (IsMadeOf (operators_all gs) (next + 1)) (MayShare own) (λ d k. numbers_apart (ops.Collect ∷ []) (operators_all gs) next (next + 1) own d (omega arith) (collecting_made w next [] args (next + 1) t gs) k) more
              (goals_made callees w (collect_shares args t gs) (next + 1) gs l),
          goals_shared w (collect_shares args t gs) (next + 1) gs l h,
        )

    goals_shared : (w : Origin) (shares : List ℕ → List ℕ) (next : ℕ) (gs : Goals) → AreLiftable callees gs → AreWhole gs → Shared (joined (made_all w shares next gs))
    goals_shared w shares next no_goals l h = tt
    goals_shared w shares next (more_goals g gs) (more_liftable a b) h =
        joined_shared (operators g) (operators_all gs) next (next + choices_in g) (made w shares next g) (made_all w shares (next + choices_in g) gs) (omega (arith, length-operators g)) (goal_made callees w shares next g a)
        (goals_made callees w shares (next + choices_in g) gs b) (goal_shared w shares next g a h.0) (goals_shared w shares (next + choices_in g) gs b h.1)

    inside_shared : (w : Origin) (args : List ℕ) (next : ℕ) (op : Op) (ps : Parts) → HaveLiftable callees op ps → HaveGoals ps → Shared (joined (made_inside w args next ps))
    inside_shared w args next op no_parts l h = tt
    inside_shared w args next op (more_parts gs o hs ps) (a_part a b c) h =
        let later = next + choices_in_all gs in
        let last = next + (choices_in_all gs + choices_in_all hs) in
        let guard = made_all w (part_shares args gs hs) next gs in
        let body = made_all w (part_shares args gs hs) later hs in
        let counted : last ≡ next + length (operators_all gs ++ operators_all hs) = omega (arith, length-append (operators_all gs) (operators_all hs), length-operators_all gs, length-operators_all hs) in
        let second : later ≡ next + length (operators_all gs) = omega (arith, length-operators_all gs) in
        let x = goals_made callees w (part_shares args gs hs) next gs a in
        let y = goals_made callees w (part_shares args gs hs) later hs b in
        joined_shared (operators_all gs ++ operators_all hs) (operators_inside ps) next last (made_in_part w args next gs hs) (made_inside w args last ps) counted
        (all_joined (operators_all gs) (operators_all hs) next later guard body second x y) (inside_made callees w args last op ps c)
        (joined_shared (operators_all gs) (operators_all hs) next later guard body second x y (goals_shared w (part_shares args gs hs) next gs a h.1) (goals_shared w (part_shares args gs hs) later hs b h.2))
        (inside_shared w args last op ps c h.3)

-- ---- programs and queries
clause_shared : (callees : List Callee) (next : ℕ) (c : Clause) → IsClauseLiftable callees c → AreWhole (goals c.part.guard) → AreWhole (goals c.part.body) → Shared (joined (made_of next c))
clause_shared callees next c l g b =
    let later = next + choices_in_all (goals c.part.guard) in
    joined_shared (operators_all (goals c.part.guard)) (operators_all (goals c.part.body)) next later (made_all (clause_origin c) (clause_shares c) next (goals c.part.guard)) (made_all (clause_origin c) (clause_shares c) later (goals c.part.body))
    (omega (arith, length-operators_all (goals c.part.guard))) (goals_made callees (clause_origin c) (clause_shares c) next (goals c.part.guard) l.guard) (goals_made callees (clause_origin c) (clause_shares c) later (goals c.part.body) l.body)
    (goals_shared callees (clause_origin c) (clause_shares c) next (goals c.part.guard) l.guard g) (goals_shared callees (clause_origin c) (clause_shares c) later (goals c.part.body) l.body b)

program_shared : (callees : List Callee) (next : ℕ) (cs : List Clause) → All (IsClauseLiftable callees) cs → AreRead cs → Shared (made_of_all next cs)
program_shared callees next [] l r = tt
program_shared callees next (c ∷ cs) l r =
    let first = All-head (IsClauseLiftable callees) c cs l in
    let rest = All-tail (IsClauseLiftable callees) c cs l in
    made_shared (clause_operators c) (program_operators cs) next (next + clause_choices c) (joined (made_of next c)) (made_of_all (next + clause_choices c) cs) (omega (arith, length-clause_operators c))
    (clause_made callees next c first) (program_made callees (next + clause_choices c) cs rest) (clause_shared callees next c first r.0.guard r.0.body) (program_shared callees (next + clause_choices c) cs rest r.1)

pub program_alone : (callees : List Callee) (cs : List Clause) → All (IsClauseLiftable callees) cs → AreRead cs → AreAlone (lifted_clauses cs)
program_alone callees cs l r =
    let ds : List Clause = clauses_without 0 cs in
    let written : All (IsWithout cs) ds = All-weaker (Contains ds) (IsWithout cs) (λ c x. was_written 0 cs c r x) ds (All-contains_itself ds) in
    are_alone (lifted_clauses cs) (both_shared ds (made_of_all 0 cs) (guards_shared ds (All-weaker (IsWithout cs) (λ c. IsGuard c.part.op) (λ c w. w.guard) ds written)) (program_shared callees 0 cs l r)
    (All-weaker (IsWithout cs) (λ c. All (MayShare c) (made_of_all 0 cs))
    (λ c w. All-weaker (IsMadeOf (program_operators cs) 0) (MayShare c) (λ d m. λ e. absurd (apart (program_operators cs) 0 c d w.head m e)) (made_of_all 0 cs) (program_made callees 0 cs l)) ds written))

pub query_alone : (callees : List Callee) (next : ℕ) (q : Query) → AreLiftable callees (goals q.goals) → AreWhole (goals q.goals) → AreAlone (made_of_query next q)
query_alone callees next q l h = are_alone (made_of_query next q) (goals_shared callees (query_origin q) (query_shares (hidden_locals q)) next (goals q.goals) l h)
