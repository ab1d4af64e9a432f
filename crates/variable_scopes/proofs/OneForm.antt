-- Terms, goals and clauses of one shape with the same variables are the same: nothing has two scoped forms.
use Rattle.std.proofs.Common.{◌≡◌, ℕ, Bool, List, [], ◌∷◌, ◌++◌, map, Option, Some, None, refl, sym, ap, ◌∙◌, append_assoc}
use Rattle.akl_terms.specs.declared.program.Op.{Op}
use Rattle.term_syntax.specs.Tree.{Tree, Trees, Tail, Steps, variable, integer, compound, list, chain, no_trees, more_trees, no_tail, tail, no_steps, more_steps, trees}
use Rattle.term_syntax.specs.Variables.{tree_variables, trees_variables, tail_variables, steps_variables}
use Rattle.akl_syntax.specs.declared.source.Head.{Head}
use Rattle.akl_syntax.specs.Clauses.{Clause, Query}
use Rattle.akl_syntax.specs.Goals.{Goal, Goals, Parts, call, choice, lifted, collect, lifted_collect, no_goals, more_goals, no_parts, more_parts, goals}
use Rattle.akl_syntax.specs.Variables.{goal_variables, goals_variables, parts_variables, collected_variables, query_variables}
use Rattle.variable_scopes.specs.Scoped.{IsScopedClause, AreScoped, IsScopedQuery}
use Rattle.variable_scopes.specs.Shapes.{numbers_shape, tree_shape, trees_shape, tail_shape, steps_shape, goal_shape, goals_shape, parts_shape, collected_shape}

-- two lists of variables, each with something behind it
split : (ks xs bs ys zs ws : List ℕ) → (ks ++ xs) ++ zs ≡ (bs ++ ys) ++ ws → ks ++ (xs ++ zs) ≡ bs ++ (ys ++ ws)
split ks xs bs ys zs ws e = sym (append_assoc ks xs zs) ∙ e ∙ append_assoc bs ys ws

mutual
  pub tree_one : (a b : Tree) (xs ys : List ℕ) → tree_shape a ≡ tree_shape b → tree_variables a ++ xs ≡ tree_variables b ++ ys → (a ≡ b) × (xs ≡ ys)
  tree_one (variable n) (variable m) xs ys p q = let g : n ≡ m = cc in let h : xs ≡ ys = cc in (ap variable g, h)
  tree_one (variable n) (integer y) xs ys p q = absurd cc
  tree_one (variable n) (compound w us) xs ys p q = absurd cc
  tree_one (variable n) (list us f) xs ys p q = absurd cc
  tree_one (variable n) (chain u rs) xs ys p q = absurd cc
  tree_one (integer z) (variable m) xs ys p q = absurd cc
  tree_one (integer z) (integer y) xs ys p q = let g : z ≡ y = cc in (ap integer g, q)
  tree_one (integer z) (compound w us) xs ys p q = absurd cc
  tree_one (integer z) (list us f) xs ys p q = absurd cc
  tree_one (integer z) (chain u rs) xs ys p q = absurd cc
  tree_one (compound s ts) (variable m) xs ys p q = absurd cc
  tree_one (compound s ts) (integer y) xs ys p q = absurd cc
  tree_one (compound s ts) (compound w us) xs ys p q = let g : s ≡ w = cc in let p1 : trees_shape ts ≡ trees_shape us = cc in let h = trees_one ts us xs ys p1 q in let k : ts ≡ us = h.0 in (cc, h.1)
  tree_one (compound s ts) (list us f) xs ys p q = absurd cc
  tree_one (compound s ts) (chain u rs) xs ys p q = absurd cc
  tree_one (list ts e) (variable m) xs ys p q = absurd cc
  tree_one (list ts e) (integer y) xs ys p q = absurd cc
  tree_one (list ts e) (compound w us) xs ys p q = absurd cc
  tree_one (list ts e) (list us f) xs ys p q = let p1 : trees_shape ts ≡ trees_shape us = cc in let p2 : tail_shape e ≡ tail_shape f = cc in let h = trees_one ts us (tail_variables e ++ xs) (tail_variables f ++ ys) p1 (split (trees_variables ts) (tail_variables e) (trees_variables us) (tail_variables f) xs ys q) in let k = tail_one e f xs ys p2 h.1 in let g : ts ≡ us = h.0 in let i : e ≡ f = k.0 in (cc, k.1)
  tree_one (list ts e) (chain u rs) xs ys p q = absurd cc
  tree_one (chain t ss) (variable m) xs ys p q = absurd cc
  tree_one (chain t ss) (integer y) xs ys p q = absurd cc
  tree_one (chain t ss) (compound w us) xs ys p q = absurd cc
  tree_one (chain t ss) (list us f) xs ys p q = absurd cc
  tree_one (chain t ss) (chain u rs) xs ys p q = let p1 : tree_shape t ≡ tree_shape u = cc in let p2 : steps_shape ss ≡ steps_shape rs = cc in let h = tree_one t u (steps_variables ss ++ xs) (steps_variables rs ++ ys) p1 (split (tree_variables t) (steps_variables ss) (tree_variables u) (steps_variables rs) xs ys q) in let k = steps_one ss rs xs ys p2 h.1 in let g : t ≡ u = h.0 in let i : ss ≡ rs = k.0 in (cc, k.1)

  pub trees_one : (a b : Trees) (xs ys : List ℕ) → trees_shape a ≡ trees_shape b → trees_variables a ++ xs ≡ trees_variables b ++ ys → (a ≡ b) × (xs ≡ ys)
  trees_one no_trees no_trees xs ys p q = (refl, q)
  trees_one no_trees (more_trees u us) xs ys p q = absurd cc
  trees_one (more_trees t ts) no_trees xs ys p q = absurd cc
  trees_one (more_trees t ts) (more_trees u us) xs ys p q = let p1 : tree_shape t ≡ tree_shape u = cc in let p2 : trees_shape ts ≡ trees_shape us = cc in let h = tree_one t u (trees_variables ts ++ xs) (trees_variables us ++ ys) p1 (split (tree_variables t) (trees_variables ts) (tree_variables u) (trees_variables us) xs ys q) in let k = trees_one ts us xs ys p2 h.1 in let g : t ≡ u = h.0 in let i : ts ≡ us = k.0 in (cc, k.1)

  pub tail_one : (a b : Tail) (xs ys : List ℕ) → tail_shape a ≡ tail_shape b → tail_variables a ++ xs ≡ tail_variables b ++ ys → (a ≡ b) × (xs ≡ ys)
  tail_one no_tail no_tail xs ys p q = (refl, q)
  tail_one no_tail (tail u) xs ys p q = absurd cc
  tail_one (tail t) no_tail xs ys p q = absurd cc
  tail_one (tail t) (tail u) xs ys p q = let p1 : tree_shape t ≡ tree_shape u = cc in let h = tree_one t u xs ys p1 q in (ap tail h.0, h.1)

  pub steps_one : (a b : Steps) (xs ys : List ℕ) → steps_shape a ≡ steps_shape b → steps_variables a ++ xs ≡ steps_variables b ++ ys → (a ≡ b) × (xs ≡ ys)
  steps_one no_steps no_steps xs ys p q = (refl, q)
  steps_one no_steps (more_steps w u rs) xs ys p q = absurd cc
  steps_one (more_steps v t ss) no_steps xs ys p q = absurd cc
  steps_one (more_steps v t ss) (more_steps w u rs) xs ys p q = let o : v ≡ w = cc in let p1 : tree_shape t ≡ tree_shape u = cc in let p2 : steps_shape ss ≡ steps_shape rs = cc in let h = tree_one t u (steps_variables ss ++ xs) (steps_variables rs ++ ys) p1 (split (tree_variables t) (steps_variables ss) (tree_variables u) (steps_variables rs) xs ys q) in let k = steps_one ss rs xs ys p2 h.1 in let g : t ≡ u = h.0 in let i : ss ≡ rs = k.0 in (cc, k.1)

numbers_one : (ns ms xs ys : List ℕ) → numbers_shape ns ≡ numbers_shape ms → ns ++ xs ≡ ms ++ ys → (ns ≡ ms) × (xs ≡ ys)
numbers_one [] [] xs ys p q = (refl, q)
numbers_one [] (m ∷ ms) xs ys p q = absurd cc
numbers_one (n ∷ ns) [] xs ys p q = absurd cc
numbers_one (n ∷ ns) (m ∷ ms) xs ys p q =
    let p1 : numbers_shape ns ≡ numbers_shape ms = cc in
    let q1 : ns ++ xs ≡ ms ++ ys = cc in
    let o : n ≡ m = cc in
    let h = numbers_one ns ms xs ys p1 q1 in
    let g : ns ≡ ms = h.0 in
    (cc, h.1)

mutual
  pub goal_one : (a b : Goal) (xs ys : List ℕ) → goal_shape a ≡ goal_shape b → goal_variables a ++ xs ≡ goal_variables b ++ ys → (a ≡ b) × (xs ≡ ys)
  goal_one (call s ts) (call w us) xs ys p q = let o : s ≡ w = cc in let p1 : trees_shape ts ≡ trees_shape us = cc in let a = trees_one ts us xs ys p1 q in let i : ts ≡ us = a.0 in (cc, a.1)
  goal_one (call s ts) (choice qs) xs ys p q = absurd cc
  goal_one (call s ts) (lifted m ms) xs ys p q = absurd cc
  goal_one (call s ts) (collect u hs v) xs ys p q = absurd cc
  goal_one (call s ts) (lifted_collect m ms v) xs ys p q = absurd cc
  goal_one (choice ps) (call w us) xs ys p q = absurd cc
  goal_one (choice ps) (choice qs) xs ys p q = let p1 : parts_shape ps ≡ parts_shape qs = cc in let a = parts_one ps qs xs ys p1 q in (ap choice a.0, a.1)
  goal_one (choice ps) (lifted m ms) xs ys p q = absurd cc
  goal_one (choice ps) (collect u hs v) xs ys p q = absurd cc
  goal_one (choice ps) (lifted_collect m ms v) xs ys p q = absurd cc
  goal_one (lifted n ns) (call w us) xs ys p q = absurd cc
  goal_one (lifted n ns) (choice qs) xs ys p q = absurd cc
  goal_one (lifted n ns) (lifted m ms) xs ys p q = let o : n ≡ m = cc in let p1 : numbers_shape ns ≡ numbers_shape ms = cc in let a = numbers_one ns ms xs ys p1 q in let i : ns ≡ ms = a.0 in (cc, a.1)
  goal_one (lifted n ns) (collect u hs v) xs ys p q = absurd cc
  goal_one (lifted n ns) (lifted_collect m ms v) xs ys p q = absurd cc
  goal_one (collect t gs r) (call w us) xs ys p q = absurd cc
  goal_one (collect t gs r) (choice qs) xs ys p q = absurd cc
  goal_one (collect t gs r) (lifted m ms) xs ys p q = absurd cc
  goal_one (collect t gs r) (collect u hs v) xs ys p q =
      let p1 : tree_shape t ≡ tree_shape u = cc in
      let p2 : goals_shape gs ≡ goals_shape hs = cc in
      let p3 : tree_shape r ≡ tree_shape v = cc in
      let a = tree_one t u ((goals_variables gs ++ tree_variables r) ++ xs) ((goals_variables hs ++ tree_variables v) ++ ys) p1 (split (tree_variables t) (goals_variables gs ++ tree_variables r) (tree_variables u) (goals_variables hs ++ tree_variables v) xs ys q) in
      let b = goals_one gs hs (tree_variables r ++ xs) (tree_variables v ++ ys) p2 (split (goals_variables gs) (tree_variables r) (goals_variables hs) (tree_variables v) xs ys a.1) in
      let c = tree_one r v xs ys p3 b.1 in
      let i : t ≡ u = a.0 in
      let j : gs ≡ hs = b.0 in
      let k : r ≡ v = c.0 in
      (cc, c.1)
  goal_one (collect t gs r) (lifted_collect m ms v) xs ys p q = absurd cc
  goal_one (lifted_collect n ns r) (call w us) xs ys p q = absurd cc
  goal_one (lifted_collect n ns r) (choice qs) xs ys p q = absurd cc
  goal_one (lifted_collect n ns r) (lifted m ms) xs ys p q = absurd cc
  goal_one (lifted_collect n ns r) (collect u hs v) xs ys p q = absurd cc
  goal_one (lifted_collect n ns r) (lifted_collect m ms v) xs ys p q =
      let o : n ≡ m = cc in
      let p1 : numbers_shape ns ≡ numbers_shape ms = cc in
      let p2 : tree_shape r ≡ tree_shape v = cc in
      let a = numbers_one ns ms (tree_variables r ++ xs) (tree_variables v ++ ys) p1 (split ns (tree_variables r) ms (tree_variables v) xs ys q) in
      let b = tree_one r v xs ys p2 a.1 in
      let i : ns ≡ ms = a.0 in
      let j : r ≡ v = b.0 in
      (cc, b.1)

  pub goals_one : (a b : Goals) (xs ys : List ℕ) → goals_shape a ≡ goals_shape b → goals_variables a ++ xs ≡ goals_variables b ++ ys → (a ≡ b) × (xs ≡ ys)
  goals_one no_goals no_goals xs ys p q = (refl, q)
  goals_one no_goals (more_goals h hs) xs ys p q = absurd cc
  goals_one (more_goals g gs) no_goals xs ys p q = absurd cc
  goals_one (more_goals g gs) (more_goals h hs) xs ys p q =
      let p1 : goal_shape g ≡ goal_shape h = cc in
      let p2 : goals_shape gs ≡ goals_shape hs = cc in
      let a = goal_one g h (goals_variables gs ++ xs) (goals_variables hs ++ ys) p1 (split (goal_variables g) (goals_variables gs) (goal_variables h) (goals_variables hs) xs ys q) in
      let b = goals_one gs hs xs ys p2 a.1 in
      let i : g ≡ h = a.0 in
      let j : gs ≡ hs = b.0 in
      (cc, b.1)

  pub parts_one : (a b : Parts) (xs ys : List ℕ) → parts_shape a ≡ parts_shape b → parts_variables a ++ xs ≡ parts_variables b ++ ys → (a ≡ b) × (xs ≡ ys)
  parts_one no_parts no_parts xs ys p q = (refl, q)
  parts_one no_parts (more_parts hs oq ls qs) xs ys p q = absurd cc
  parts_one (more_parts gs op ks ps) no_parts xs ys p q = absurd cc
  parts_one (more_parts gs op ks ps) (more_parts hs oq ls qs) xs ys p q =
      let p1 : goals_shape gs ≡ goals_shape hs = cc in
      let p2 : goals_shape ks ≡ goals_shape ls = cc in
      let p3 : parts_shape ps ≡ parts_shape qs = cc in
      let o : op ≡ oq = cc in
      let q1 = split (goals_variables gs ++ goals_variables ks) (parts_variables ps) (goals_variables hs ++ goals_variables ls) (parts_variables qs) xs ys q in
      let a = goals_one gs hs (goals_variables ks ++ (parts_variables ps ++ xs)) (goals_variables ls ++ (parts_variables qs ++ ys)) p1 (split (goals_variables gs) (goals_variables ks) (goals_variables hs) (goals_variables ls) (parts_variables ps ++ xs) (parts_variables qs ++ ys) q1) in
      let b = goals_one ks ls (parts_variables ps ++ xs) (parts_variables qs ++ ys) p2 a.1 in
      let c = parts_one ps qs xs ys p3 b.1 in
      let i : gs ≡ hs = a.0 in
      let j : ks ≡ ls = b.0 in
      let k : ps ≡ qs = c.0 in
      (cc, c.1)

trees_list : (ts us : List Tree) → trees ts ≡ trees us → ts ≡ us
trees_list [] [] e = refl
trees_list [] (u ∷ us) e = absurd cc
trees_list (t ∷ ts) [] e = absurd cc
trees_list (t ∷ ts) (u ∷ us) e = let f : t ≡ u = cc in let g : trees ts ≡ trees us = cc in let h : ts ≡ us = trees_list ts us g in cc

goals_list : (gs hs : List Goal) → goals gs ≡ goals hs → gs ≡ hs
goals_list [] [] e = refl
goals_list [] (h ∷ hs) e = absurd cc
goals_list (g ∷ gs) [] e = absurd cc
goals_list (g ∷ gs) (h ∷ hs) e = let f : g ≡ h = cc in let k : goals gs ≡ goals hs = cc in let l : gs ≡ hs = goals_list gs hs k in cc

shape_trees : (ts : List Tree) → trees_shape (trees ts) ≡ trees (map tree_shape ts)
shape_trees [] = refl
shape_trees (t ∷ ts) = ap (λ (z : Trees). more_trees (tree_shape t) z) (shape_trees ts)

shape_goals : (gs : List Goal) → goals_shape (goals gs) ≡ goals (map goal_shape gs)
shape_goals [] = refl
shape_goals (g ∷ gs) = ap (λ (z : Goals). more_goals (goal_shape g) z) (shape_goals gs)

collected_one : (o p : Option Tree) (xs ys : List ℕ) → collected_shape o ≡ collected_shape p → collected_variables o ++ xs ≡ collected_variables p ++ ys → (o ≡ p) × (xs ≡ ys)
collected_one None None xs ys p q = (refl, q)
collected_one None (Some u) xs ys p q = absurd cc
collected_one (Some t) None xs ys p q = absurd cc
collected_one (Some t) (Some u) xs ys p q =
    let p1 : tree_shape t ≡ tree_shape u = cc in
    let h = tree_one t u xs ys p1 q in
    (ap Some h.0, h.1)

same_trees_shape : (ts us : List Tree) → map tree_shape ts ≡ map tree_shape us → trees_shape (trees ts) ≡ trees_shape (trees us)
same_trees_shape ts us e = shape_trees ts ∙ ap trees e ∙ sym (shape_trees us)

pub same_goals_shape : (gs hs : List Goal) → map goal_shape gs ≡ map goal_shape hs → goals_shape (goals gs) ≡ goals_shape (goals hs)
same_goals_shape gs hs e = shape_goals gs ∙ ap goals e ∙ sym (shape_goals hs)

-- a query has one scoped form
pub one_scoped_query : {q r s : Query} → IsScopedQuery q r → IsScopedQuery q s → r ≡ s
one_scoped_query {q} {r} {s} a b =
    let shapes = same_goals_shape r.goals s.goals (ap (λ (z : Query). z.goals) (a.shape ∙ sym b.shape)) in
    let vars : query_variables r ++ [] ≡ query_variables s ++ [] = ap (λ (z : List ℕ). z ++ []) (a.variables ∙ sym b.variables) in
    let found : r.goals ≡ s.goals = goals_list r.goals s.goals (goals_one (goals r.goals) (goals s.goals) [] [] shapes vars).0 in
    ap (λ (z : List Goal). record { goals = z; names = r.names }) found ∙ ap (λ (z : List (List ℕ)). record { goals = s.goals; names = z }) (a.names ∙ sym b.names)

same_whole : {h h' : Head} {ts ts' : List Tree} {gs gs' hs hs' : List Goal} {op op' : Op} {w w' : Bool} {o o' : Option Tree} {ns ns' : List (List ℕ)} {k k' : ℕ} → h ≡ h' → ts ≡ ts' → gs ≡ gs' → op ≡ op' → hs ≡ hs' → w ≡ w' → o ≡ o' → ns ≡ ns' → k ≡ k'
    → ◌≡◌ {A = Clause} (record { head = h; arguments = ts; part = record { guard = gs; op = op; body = hs; is_written = w }; collected = o; names = ns; start = k })
    (record { head = h'; arguments = ts'; part = record { guard = gs'; op = op'; body = hs'; is_written = w' }; collected = o'; names = ns'; start = k' })
same_whole a b c d e f g i j = rw (a, b, c, d, e, f, g, i, j) refl

-- a clause has one scoped form
pub one_scoped_clause : {c d e : Clause} → IsScopedClause c d → IsScopedClause c e → d ≡ e
one_scoped_clause {c} {d} {e} a b =
    let shape = a.shape ∙ sym b.shape in
    let rest_d = goals_variables (goals d.part.guard) ++ goals_variables (goals d.part.body) in
    let rest_e = goals_variables (goals e.part.guard) ++ goals_variables (goals e.part.body) in
    let x = trees_one (trees d.arguments) (trees e.arguments) (collected_variables d.collected ++ rest_d) (collected_variables e.collected ++ rest_e) (same_trees_shape d.arguments e.arguments (ap (λ (z : Clause). z.arguments) shape)) (a.variables ∙ sym b.variables) in
    let y = collected_one d.collected e.collected rest_d rest_e (ap (λ (z : Clause). z.collected) shape) x.1 in
    let z = goals_one (goals d.part.guard) (goals e.part.guard) (goals_variables (goals d.part.body)) (goals_variables (goals e.part.body)) (same_goals_shape d.part.guard e.part.guard (ap (λ (z : Clause). z.part.guard) shape)) y.1 in
    let v = goals_one (goals d.part.body) (goals e.part.body) [] [] (same_goals_shape d.part.body e.part.body (ap (λ (z : Clause). z.part.body) shape)) (ap (λ (z : List ℕ). z ++ []) z.1) in
    same_whole (ap (λ (z : Clause). z.head) shape) (trees_list d.arguments e.arguments x.0) (goals_list d.part.guard e.part.guard z.0) (ap (λ (z : Clause). z.part.op) shape) (goals_list d.part.body e.part.body v.0) (ap (λ (z : Clause). z.part.is_written) shape)
    y.0 (a.names ∙ sym b.names) (ap (λ (z : Clause). z.start) shape)

pub one_scoped : (cs ds es : List Clause) → AreScoped cs ds → AreScoped cs es → ds ≡ es
one_scoped [] [] [] a b = refl
one_scoped [] [] (e ∷ es) a b = absurd b
one_scoped [] (d ∷ ds) es a b = absurd a
one_scoped (c ∷ cs) [] es a b = absurd a
one_scoped (c ∷ cs) (d ∷ ds) [] a b = absurd b
one_scoped (c ∷ cs) (d ∷ ds) (e ∷ es) a b = let f : d ≡ e = one_scoped_clause a.0 b.0 in let g : ds ≡ es = one_scoped cs ds es a.1 b.1 in cc
