-- Clauses and queries as wholes, lifted.
use Rattle.std.proofs.Common.{◌≡◌, ℕ, List, [], ◌++◌, length, map, drop, refl, sym, ap, ◌∙◌, Vec, Global}
use Rattle.std.proofs.Common.{append_assoc}
use Rattle.std.specs.Prelude.{option_map}
use Rattle.std.proofs.lemmas.List.{append-nil}
use Rattle.akl_syntax.specs.Goals.{Goal, Part, goals}
use Rattle.akl_syntax.specs.Clauses.{Clause, Query}
use Rattle.akl_syntax.specs.Answers.{clause_view, clauses_view}
use Rattle.akl_syntax.specs.Variables.{goals_variables, collected_variables, clause_variables}
use Rattle.akl_syntax.specs.declared.source.SourceClause.{SourceClause}
use Rattle.term_syntax.specs.Tree.{trees}
use Rattle.term_syntax.specs.Variables.{trees_variables}
use Rattle.akl_lift.specs.Lifting.{without_all, joined, clause_order, clause_shares, query_order, query_shares, asked_variables, shown_from}
use Rattle.akl_lift.specs.Noting.{Noted, outer_all, inside_view, HasNoted}
use Rattle.akl_lift.specs.Scopes.{IsTally, chosen_of}
use Rattle.akl_lift.specs.declared.noting.Inside.{Inside}
use Rattle.akl_lift.specs.declared.scope.Scope.{Scope}
use Rattle.akl_lift.proofs.Shares.{Agree, agree_guard, agree_body, agree_goals, same_without_all}
use Rattle.akl_syntax.specs.GoalView.{goal}
use Rattle.term_syntax.specs.View.{tree}
use Rattle.akl_syntax.proofs.PartTurns.{part_is}
use Rattle.akl_lift.proofs.Parted.{IsScopeOf, clause_by, part_by}

-- what was added one behind the other
pub all_added : (a b c all t g : List ℕ) → a ≡ [] → b ≡ a ++ t → c ≡ b ++ g → all ≡ c → all ≡ t ++ g
all_added a b c all t g e f k m = m ∙ k ∙ ap (λ (xs : List ℕ). xs ++ g) (f ∙ ap (λ (xs : List ℕ). xs ++ t) e)

pub three_added : (a b c d all t u g : List ℕ) → a ≡ [] → b ≡ a ++ t → c ≡ b ++ u → d ≡ c ++ g → all ≡ d → all ≡ t ++ (u ++ g)
three_added a b c d all t u g e f h k m = all_added [] c d all (t ++ u) g refl (all_added a b c c t u e f h refl) k m ∙ append_assoc t u g

-- before the first definition
pub fresh_noted : (noted : List Inside) (ds : List (Vec SourceClause Global)) (es : List Noted) → ds ≡ [] → map inside_view noted ≡ es → HasNoted noted (length (map clauses_view ds)) es
fresh_noted noted ds es e f = record { rest = []; are = ap (λ (z : List (Vec SourceClause Global)). drop (length (map clauses_view z)) (map inside_view noted)) e ∙ f ∙ sym (append-nil es) }

pub clause_scoped : (s : Scope) (c : Clause) → s.order.items ≡ clause_order c → IsTally (trees_variables (trees c.arguments) ++ (collected_variables c.collected ++ (outer_all (goals c.part.guard) ++ outer_all (goals c.part.body)))) s.counts
    → IsScopeOf s (clause_order c) (clause_shares c) (goals c.part.guard) (goals c.part.body)
clause_scoped s c e t =
    let args = trees_variables (trees c.arguments) in
    let own = collected_variables c.collected in
    let gs = goals c.part.guard in
    let hs = goals c.part.body in
    let flat = args ++ (own ++ (outer_all gs ++ outer_all hs)) in
    let counted : flat ≡ (args ++ own) ++ (outer_all gs ++ outer_all hs) = sym (append_assoc args own (outer_all gs ++ outer_all hs)) in
    let whole : clause_variables c ≡ (args ++ own) ++ (goals_variables gs ++ goals_variables hs) = sym (append_assoc args own (goals_variables gs ++ goals_variables hs)) in
    record {
      order_is = e;
      guard = agree_guard s (clause_order c) flat (clause_variables c) e t (args ++ own) gs hs counted whole;
      body = agree_body s (clause_order c) flat (clause_variables c) e t (args ++ own) gs hs counted whole;
    }

pub query_agrees : (s : Scope) (q : Query) → s.order.items ≡ query_order q → IsTally (shown_from 0 q.names ++ outer_all (goals q.goals)) s.counts → Agree (chosen_of s) (query_shares q) (goals q.goals)
query_agrees s q e t = agree_goals s (query_order q) (shown_from 0 q.names ++ outer_all (goals q.goals)) (asked_variables q) e t (shown_from 0 q.names) (goals q.goals) refl refl

abbrev pub query_by : List Goal → List (List ℕ) → Query
query_by gs ws = record { goals = gs; names = ws }

pub query_same : (s : Scope) (q : Query) (next : ℕ) → s.order.items ≡ query_order q → Agree (chosen_of s) (query_shares q) (goals q.goals)
    → without_all s.order.items (chosen_of s) next (goals q.goals) ≡ without_all (query_order q) (query_shares q) next (goals q.goals)
query_same s q next e a = ap (λ (o : List ℕ). without_all o (chosen_of s) next (goals q.goals)) e ∙ same_without_all (query_order q) (chosen_of s) (query_shares q) next (goals q.goals) a

-- the clauses of definitions, behind none
pub definitions_added : (before after : List Clause) (ds made : List (List Clause)) → before ≡ [] → after ≡ before ++ joined ds → ds ≡ made → after ≡ joined made
definitions_added before after ds made e f g = f ∙ ap (λ (cs : List Clause). cs ++ joined ds) e ∙ ap joined g

pub definitions_behind : (before after : List Clause) (none ds made : List (List Clause)) → after ≡ before ++ joined ds → none ≡ [] → ds ≡ none ++ made → after ≡ before ++ joined made
definitions_behind before after none ds made f g h = f ∙ ap (λ (xs : List (List Clause)). before ++ joined xs) (h ∙ ap (λ (xs : List (List Clause)). xs ++ made) g)

-- ---- a written clause, with its part as what it stands for
abbrev pub seen_clause : SourceClause → Clause
seen_clause x = clause_by x.head (map tree x.arguments.items) (part_by (map goal x.part.guard.items) x.part.op (map goal x.part.body.items)) (option_map tree x.collected) x.names.items x.start

pub clause_seen : (x : SourceClause) → clause_view x ≡ seen_clause x
clause_seen x = ap (λ (p : Part). clause_by x.head (map tree x.arguments.items) p (option_map tree x.collected) x.names.items x.start) (part_is x.part)
