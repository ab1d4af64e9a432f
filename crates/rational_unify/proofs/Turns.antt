-- One turn of the solver.
use Rattle.std.proofs.Common.{◌≡◌, ℕ, zero, suc, ◌+◌, ◌-◌, ◌*◌, ◌^◌, ◌<◌, ◌≤◌, [], ◌∷◌, List, ◌++◌, length, Some, None, refl, sym, ◌∙◌, ap, subst, arith, ◌⊎◌, inl, inr, append_assoc, append-nil, length-append}
use Rattle.akl_terms.specs.declared.name.Var.{Var}
use Rattle.akl_terms.specs.declared.term.Node.{Node}
use Rattle.akl_terms.specs.declared.term.Term.{Term}
use Rattle.akl_terms.specs.declared.term.Term.TheVariants.{Mol}
use Rattle.akl_terms.specs.declared.term.Equation as code
use Rattle.akl_terms.specs.Tree.{Tree, variable, integer, port, symbol, Head, symbol_head, head_of}
use Rattle.akl_terms.specs.Equal.{IsTold}
use Rattle.akl_terms.specs.Solved.{Bindings}
use Rattle.akl_terms.specs.declared.term.Seen.{Seen}
use Rattle.akl_terms.specs.declared.term.Seen.TheVariants.{Free}
use Rattle.akl_terms.specs.Template.{IsArranged, tree, seen_of}
use Rattle.rational_unify.specs.declared.meet.Meeting.TheVariants.{Bind, Agree}
use Rattle.rational_unify.specs.declared.meet.Pairs.{Pairs}
use Rattle.rational_unify.specs.declared.solver.Work.{Work}
use Rattle.rational_unify.specs.Known.{found_in, bound_in, next_in, next_seen, IsSolved, end_of}
use Rattle.rational_unify.specs.Shortened.{KeepsEnds}
use Rattle.rational_unify.specs.Solving.{equations_in, Tells, BindNew, IsSolution, IsClashOf}
use Rattle.rational_unify.specs.Indexes.{IsOf, IsLinked, here, on}
use Rattle.rational_unify.specs.Meeting.{Meets, argument_pair, argument_pairs, AgreeInHead, Clashes, Meet, same, bind, agree, Advances}
use Rattle.akl_terms.proofs.Arguments.{same_value}
use Rattle.rational_unify.proofs.Walks.{IsFree, walk-free, walk-again}
use Rattle.rational_unify.proofs.Chains.{free_found, found-none, one_more-adds, BindNew-push, BindNew-bound}
use Rattle.rational_unify.proofs.Heads.{head_of_seen, head_seen}
use Rattle.rational_unify.proofs.Ends.{free-tree, headed-tree}
use Rattle.std.specs.Prelude.{option_map}
use Rattle.akl_terms.proofs.Unfolding.{arguments-struct, few_arguments}
use Rattle.rational_unify.proofs.Work.{IsWork, IsDone, met, was, back, through, Arguments, work-start, work-shorter, work-same, work-bind, work-agree, pair-follows, work-consistent, work-hold, work-trees, work-stands}

pub length-push : {X : Type 0} (xs : List X) (x : X) → length (xs ++ x ∷ []) ≡ suc (length xs)
length-push [] x = refl
length-push (y ∷ xs) x = let h : length (xs ++ x ∷ []) ≡ suc (length xs) = length-push xs x in omega arith

-- the work over terms
abbrev pub IsWorkOn : List Node → List (Var × Term) → List code.Equation → List (Var × Term) → List code.Equation → List code.Equation → Type 0
IsWorkOn nodes known es added pending compared =
    IsWork (Tells nodes known es) (bound_in nodes (known ++ added)) (length (known ++ added)) (IsTold (equations_in nodes pending)) (IsTold (equations_in nodes compared))

-- what the solver's loop keeps
pub record GoesOn (nodes : List Node) (known : List (Var × Term)) (es : List code.Equation) (work : Work) : Type 0 where
  pub kept : IsWorkOn nodes known es work.added work.pending work.compared
  pub fresh : BindNew known work.added

-- the work goes on over bindings whose chains end where they did
pub turn-shorter : (nodes : List Node) (known : List (Var × Term)) (es : List code.Equation) (old new : List (Var × Term)) (pending compared : List code.Equation)
    → KeepsEnds nodes known old new → IsWorkOn nodes known es old pending compared → IsWorkOn nodes known es new pending compared
turn-shorter nodes known es old new pending compared k w =
    work-shorter (bound_in nodes (known ++ old)) (bound_in nodes (known ++ new)) (length (known ++ old)) (length (known ++ new)) w k.solved.ends k.ends

pub equations-either : (nodes : List Node) (ps qs : List code.Equation) (s t : Tree) → IsTold (equations_in nodes (ps ++ qs)) s t → IsTold (equations_in nodes ps) s t ⊎ IsTold (equations_in nodes qs) s t
equations-either nodes [] qs s t m = inr m
equations-either nodes (p ∷ ps) qs s t (inl e) = inl (inl e)
equations-either nodes (p ∷ ps) qs s t (inr m) = elim (equations-either nodes ps qs s t m) [ inl x ↦ inl (inr x) | inr y ↦ inr y ]

pub equations-left : (nodes : List Node) (ps qs : List code.Equation) (s t : Tree) → IsTold (equations_in nodes ps) s t → IsTold (equations_in nodes (ps ++ qs)) s t
equations-left nodes [] qs s t m = absurd m
equations-left nodes (p ∷ ps) qs s t (inl e) = inl e
equations-left nodes (p ∷ ps) qs s t (inr m) = inr (equations-left nodes ps qs s t m)

pub equations-right : (nodes : List Node) (ps qs : List code.Equation) (s t : Tree) → IsTold (equations_in nodes qs) s t → IsTold (equations_in nodes (ps ++ qs)) s t
equations-right nodes [] qs s t m = m
equations-right nodes (p ∷ ps) qs s t m = inr (equations-right nodes ps qs s t m)

-- one equation at the end of a list
equations-last : (nodes : List Node) (ps : List code.Equation) (p : code.Equation) → IsTold (equations_in nodes (ps ++ p ∷ [])) (tree nodes p.left) (tree nodes p.right)
equations-last nodes ps p = equations-right nodes ps (p ∷ []) (tree nodes p.left) (tree nodes p.right) (inl (refl, refl))

equations-but-last : (nodes : List Node) (ps : List code.Equation) (p : code.Equation) (s t : Tree) → IsTold (equations_in nodes (ps ++ p ∷ [])) s t
    → IsTold (equations_in nodes ps) s t ⊎ ((s ≡ tree nodes p.left) × (t ≡ tree nodes p.right))
equations-but-last nodes ps p s t m = elim (equations-either nodes ps (p ∷ []) s t m) [ inl o ↦ inl o | inr o ↦ one o ]
  where
    one : IsTold (equations_in nodes (p ∷ [])) s t → IsTold (equations_in nodes ps) s t ⊎ ((s ≡ tree nodes p.left) × (t ≡ tree nodes p.right))
    one (inl e) = inr e
    one (inr e) = absurd e

IsOf-told : (nodes : List Node) (ps : List code.Equation) (p : code.Equation) → IsOf p ps → IsTold (equations_in nodes ps) (tree nodes p.left) (tree nodes p.right)
IsOf-told nodes [] p m = absurd m
IsOf-told nodes (q ∷ ps) p (inl e) = inl (ap (λ (x : code.Equation). tree nodes x.left) e, ap (λ (x : code.Equation). tree nodes x.right) e)
IsOf-told nodes (q ∷ ps) p (inr m) = inr (IsOf-told nodes ps p m)

pub work-heads : (nodes : List Node) (known : List (Var × Term)) (es : List code.Equation) (added : List (Var × Term)) (pending compared : List code.Equation)
    → IsWorkOn nodes known es added pending compared → AgreeInHead nodes compared
work-heads nodes known es added pending compared w = record { each = λ p m. w.heads (tree nodes p.left) (tree nodes p.right) (IsOf-told nodes compared p m) }

pub work-solved : (nodes : List Node) (known : List (Var × Term)) (es : List code.Equation) (added : List (Var × Term)) (pending compared : List code.Equation)
    → IsWorkOn nodes known es added pending compared → IsSolved nodes (known ++ added)
work-solved nodes known es added pending compared w = record { ends = w.ends }

-- terms that are linked are done with
linked-done : (nodes : List Node) (go : Tree → Tree) (P : Tree → Tree → Type 0) (pairs : List code.Equation) (s t : Term) → IsLinked pairs s t
    → IsDone go P (IsTold (equations_in nodes pairs)) (tree nodes s) (tree nodes t)
linked-done nodes go P pairs s t here = met refl
linked-done nodes go P pairs s u (on {t = t} l (inl m)) = through (linked-done nodes go P pairs s t l) (was (IsOf-told nodes pairs (record { left = t; right = u }) m))
linked-done nodes go P pairs s u (on {t = t} l (inr m)) = through (linked-done nodes go P pairs s t l) (back (was (IsOf-told nodes pairs (record { left = u; right = t }) m)))

-- a term and what stands for the end of its chain are done with
end-done : (nodes : List Node) (bs : List (Var × Term)) (pairs : List code.Equation) (P : Tree → Tree → Type 0) (s last t : Term) → IsSolved nodes bs
    → tree nodes last ≡ end_of nodes bs (tree nodes s) → IsLinked pairs last t → IsDone (end_of nodes bs) P (IsTold (equations_in nodes pairs)) (tree nodes s) (tree nodes t)
end-done nodes bs pairs P s last t h e l =
    through (met (walk-again (bound_in nodes bs) (length bs) h.ends (tree nodes s) ∙ ap (end_of nodes bs) (sym e))) (linked-done nodes (end_of nodes bs) P pairs last t l)

headed-free : (look : Bindings) (t : Tree) (h : Head) → head_of t ≡ Some h → IsFree look t
headed-free look (variable x) h e = cc
headed-free look (integer z) h e = tt
headed-free look (port p) h e = tt
headed-free look (symbol f ts) h e = tt

-- a chain's end is bound to nothing
end-free : (nodes : List Node) (bs : List (Var × Term)) (s : Tree) (t : Term) → IsSolved nodes bs → tree nodes t ≡ end_of nodes bs s → IsFree (bound_in nodes bs) (tree nodes t)
end-free nodes bs s t h e = subst (IsFree (bound_in nodes bs)) (sym e) (walk-free (bound_in nodes bs) (length bs) s (h.ends s))

headed : (nodes : List Node) (bs : List (Var × Term)) (t : Term) (k : Seen) → seen_of nodes t ≡ k → ((x : Var) → k ≡ Free x → ⊥) → IsFree (bound_in nodes bs) (tree nodes t)
headed nodes bs t k e n = let w : (h : Head) × (head_of (tree nodes t) ≡ Some h) = headed-tree nodes t k (sym e) n in
    headed-free (bound_in nodes bs) (tree nodes t) w.0 w.1

-- a term that leads to no other is bound to nothing
pub next-free : (nodes : List Node) (bs : List (Var × Term)) (t : Term) → next_in nodes bs t ≡ None → IsFree (bound_in nodes bs) (tree nodes t)
next-free nodes bs t e = on (seen_of nodes t) refl
  where
    on : (k : Seen) → seen_of nodes t ≡ k → IsFree (bound_in nodes bs) (tree nodes t)
    on (Free x) p = subst (IsFree (bound_in nodes bs)) (sym (free-tree nodes t x (sym p))) (ap (option_map (tree nodes)) (ap (next_seen bs) (sym p) ∙ e))
    on (Seen.Int z) p = headed nodes bs t (Seen.Int z) p (λ x f. cc)
    on (Seen.Port z) p = headed nodes bs t (Seen.Port z) p (λ x f. cc)
    on (Seen.Struct a b c d) p = headed nodes bs t (Seen.Struct a b c d) p (λ x f. cc)

-- the end of a chain leads to no other term, by the added bindings either
pub end-unbound : (nodes : List Node) (known added : List (Var × Term)) (s : Tree) (t : Term) → IsSolved nodes (known ++ added) → tree nodes t ≡ end_of nodes (known ++ added) s → next_in nodes added t ≡ None
end-unbound nodes known added s t h e = on (seen_of nodes t) refl
  where
    on : (k : Seen) → seen_of nodes t ≡ k → next_in nodes added t ≡ None
    on (Free x) p = ap (next_seen added) p
        ∙ (found-none known added x (free_found nodes (known ++ added) x (subst (IsFree (bound_in nodes (known ++ added))) (free-tree nodes t x (sym p)) (end-free nodes (known ++ added) s t h e)))).1
    on (Seen.Int z) p = ap (next_seen added) p
    on (Seen.Port z) p = ap (next_seen added) p
    on (Seen.Struct a b c d) p = ap (next_seen added) p

-- what stands for a term that is bound to nothing is bound to nothing
linked-free : (nodes : List Node) (bs : List (Var × Term)) (pairs : List code.Equation) (u t : Term) → AgreeInHead nodes pairs → IsLinked pairs u t
    → IsFree (bound_in nodes bs) (tree nodes u) → IsFree (bound_in nodes bs) (tree nodes t)
linked-free nodes bs pairs u t a here f = f
linked-free nodes bs pairs u t a (on {t = k} i (inl m)) f = let g : (h : Head) × (head_of (tree nodes k) ≡ Some h) × (head_of (tree nodes t) ≡ Some h) = a.each (record { left = k; right = t }) m in
    headed-free (bound_in nodes bs) (tree nodes t) g.0 g.2
linked-free nodes bs pairs u t a (on {t = k} i (inr m)) f = let g : (h : Head) × (head_of (tree nodes t) ≡ Some h) × (head_of (tree nodes k) ≡ Some h) = a.each (record { left = t; right = k }) m in
    headed-free (bound_in nodes bs) (tree nodes t) g.0 g.1

-- the variable that is to be bound has no binding yet
pub bind-free : (nodes : List Node) (bs : List (Var × Term)) (pairs : List code.Equation) (s t u v : Term) (x : Var) (r : Term) → AgreeInHead nodes pairs
    → IsFree (bound_in nodes bs) (tree nodes s) → IsFree (bound_in nodes bs) (tree nodes t) → IsLinked pairs s u → IsLinked pairs t v → Meets nodes u v (Bind x r)
    → (found_in bs x ≡ None) × IsFree (bound_in nodes bs) (tree nodes r)
bind-free nodes bs pairs s t u v x r a f g su tv (inl m, d) = (
  free_found nodes bs x (subst (IsFree (bound_in nodes bs)) m.0 (linked-free nodes bs pairs s u a su f)),
  subst (λ (k : Term). IsFree (bound_in nodes bs) (tree nodes k)) (sym m.1) (linked-free nodes bs pairs t v a tv g),
)
bind-free nodes bs pairs s t u v x r a f g su tv (inr m, d) = (
  free_found nodes bs x (subst (IsFree (bound_in nodes bs)) m.0 (linked-free nodes bs pairs t v a tv g)),
  subst (λ (k : Term). IsFree (bound_in nodes bs) (tree nodes k)) (sym m.1) (linked-free nodes bs pairs s u a su f),
)

-- the pair at each place waits
argument-waits : (nodes : List Node) (p : Pairs) (n k : ℕ) → k < n
    → IsTold (equations_in nodes (argument_pairs p n)) (tree nodes (Mol (p.left + k) p.left_frame)) (tree nodes (Mol (p.right + k) p.right_frame))
argument-waits nodes p zero k h = absurd (omega arith)
argument-waits nodes p (suc n) k h = at_place (split k n h) (λ l. argument-waits nodes p n k l)
  where
    split : (k n : ℕ) → k < suc n → (k ≡ n) ⊎ (k < n)
    split k n h = grind arith

    at_place : ((k ≡ n) ⊎ (k < n)) → (k < n → IsTold (equations_in nodes (argument_pairs p n)) (tree nodes (Mol (p.left + k) p.left_frame)) (tree nodes (Mol (p.right + k) p.right_frame)))
        → IsTold (equations_in nodes (argument_pairs p n ++ argument_pair p n ∷ [])) (tree nodes (Mol (p.left + k) p.left_frame)) (tree nodes (Mol (p.right + k) p.right_frame))
    at_place (inl e) f = subst (λ (j : ℕ). IsTold (equations_in nodes (argument_pairs p n ++ argument_pair p n ∷ [])) (tree nodes (Mol (p.left + j) p.left_frame)) (tree nodes (Mol (p.right + j) p.right_frame))) (sym e)
        (equations-last nodes (argument_pairs p n) (argument_pair p n))
    at_place (inr l) f = equations-left nodes (argument_pairs p n) (argument_pair p n ∷ []) (tree nodes (Mol (p.left + k) p.left_frame)) (tree nodes (Mol (p.right + k) p.right_frame)) (f l)

-- two symbols with these pairs of arguments
module _ (nodes : List Node) (arranged : IsArranged nodes) (u v : Term) (p : Pairs) (m : Meets nodes u v (Agree p)) where
  left-head : head_of (tree nodes u) ≡ Some (symbol_head p.symbol p.count)
  left-head = head_of_seen nodes u ∙ ap head_seen m.0

  right-head : head_of (tree nodes v) ≡ Some (symbol_head p.symbol p.count)
  right-head = head_of_seen nodes v ∙ ap head_seen m.1

  arguments-wait : (a b : Tree) → Arguments (tree nodes u) (tree nodes v) a b → IsTold (equations_in nodes (argument_pairs p p.count)) a b
  arguments-wait a b (k, q, r) =
      let l : k < p.count = few_arguments nodes arranged u p.symbol p.left p.count p.left_frame m.0 k a q in
      let ea : tree nodes (Mol (p.left + k) p.left_frame) ≡ a = same_value (arguments-struct nodes arranged u p.symbol p.left p.count p.left_frame m.0 k l) q in
      let eb : tree nodes (Mol (p.right + k) p.right_frame) ≡ b = same_value (arguments-struct nodes arranged v p.symbol p.right p.count p.right_frame m.1 k l) r in
      subst (λ (x : Tree). IsTold (equations_in nodes (argument_pairs p p.count)) x b) ea
      (subst (λ (y : Tree). IsTold (equations_in nodes (argument_pairs p p.count)) (tree nodes (Mol (p.left + k) p.left_frame)) y) eb (argument-waits nodes p p.count k l))

  only-arguments : (n : ℕ) → n ≤ p.count → (a b : Tree) → IsTold (equations_in nodes (argument_pairs p n)) a b → Arguments (tree nodes u) (tree nodes v) a b
  only-arguments zero l a b o = absurd o
  only-arguments (suc n) l a b o = elim (equations-but-last nodes (argument_pairs p n) (argument_pair p n) a b o) [
    | inl i ↦ only-arguments n (omega arith) a b i
    | inr e ↦ (
      n,
      arguments-struct nodes arranged u p.symbol p.left p.count p.left_frame m.0 n (omega arith) ∙ ap Some (sym e.0),
      arguments-struct nodes arranged v p.symbol p.right p.count p.right_frame m.1 n (omega arith) ∙ ap Some (sym e.1),
    )
  ]

-- an equation whose terms' chains were followed to their ends is taken on
module _ (nodes : List Node) (known : List (Var × Term)) (es : List code.Equation) (old : Work) (pair : code.Equation)
    (w : IsWorkOn nodes known es old.added (old.pending ++ pair ∷ []) old.compared) (last : code.Equation)
    (at_left : tree nodes last.left ≡ end_of nodes (known ++ old.added) (tree nodes pair.left)) (at_right : tree nodes last.right ≡ end_of nodes (known ++ old.added) (tree nodes pair.right)) where
  solved : IsSolved nodes (known ++ old.added)
  solved = record { ends = w.ends }

  -- two terms of different heads that stand for the pair
  pub clash-follows : (clash : code.Equation) → Clashes nodes last old clash → IsClashOf nodes known es clash.left clash.right
  clash-follows clash c = record {
    equal = pair-follows (bound_in nodes (known ++ old.added)) (length (known ++ old.added))
        (tree nodes pair.left) (tree nodes pair.right) (tree nodes clash.left) (tree nodes clash.right) w
        (equations-last nodes old.pending pair) (equations-left nodes old.pending (pair ∷ [])) (equations-but-last nodes old.pending pair)
        (end-done nodes (known ++ old.added) old.compared (IsTold (equations_in nodes old.pending)) pair.left last.left clash.left solved at_left c.left)
        (end-done nodes (known ++ old.added) old.compared (IsTold (equations_in nodes old.pending)) pair.right last.right clash.right solved at_right c.right);
    differ = c.differ;
  }

  -- two terms stand for those of the pair
  module _ (u v : Term) (is_left : IsLinked old.compared last.left u) (is_right : IsLinked old.compared last.right v) where
    su : IsDone (end_of nodes (known ++ old.added)) (IsTold (equations_in nodes old.pending)) (IsTold (equations_in nodes old.compared)) (tree nodes pair.left) (tree nodes u)
    su = end-done nodes (known ++ old.added) old.compared (IsTold (equations_in nodes old.pending)) pair.left last.left u solved at_left is_left

    tv : IsDone (end_of nodes (known ++ old.added)) (IsTold (equations_in nodes old.pending)) (IsTold (equations_in nodes old.compared)) (tree nodes pair.right) (tree nodes v)
    tv = end-done nodes (known ++ old.added) old.compared (IsTold (equations_in nodes old.pending)) pair.right last.right v solved at_right is_right

    pub on_same : tree nodes u ≡ tree nodes v → IsWorkOn nodes known es old.added old.pending old.compared
    on_same e = work-same (bound_in nodes (known ++ old.added)) (length (known ++ old.added)) (tree nodes pair.left) (tree nodes pair.right) (tree nodes u) (tree nodes v) w
        (equations-last nodes old.pending pair) (equations-left nodes old.pending (pair ∷ [])) (equations-but-last nodes old.pending pair) su tv e

    pub bound-free : (x : Var) (r : Term) → Meets nodes u v (Bind x r) → (found_in (known ++ old.added) x ≡ None) × IsFree (bound_in nodes (known ++ old.added)) (tree nodes r)
    bound-free x r m = bind-free nodes (known ++ old.added) old.compared last.left last.right u v x r (work-heads nodes known es old.added (old.pending ++ pair ∷ []) old.compared w)
        (end-free nodes (known ++ old.added) (tree nodes pair.left) last.left solved at_left) (end-free nodes (known ++ old.added) (tree nodes pair.right) last.right solved at_right) is_left is_right m

    pub on_bind : (x : Var) (r : Term) → Meets nodes u v (Bind x r) → IsWorkOn nodes known es (old.added ++ (x, r) ∷ []) old.pending old.compared
    on_bind x r m =
        subst (λ (l : List (Var × Term)). IsWork (Tells nodes known es) (bound_in nodes l) (length l) (IsTold (equations_in nodes old.pending)) (IsTold (equations_in nodes old.compared)))
        (append_assoc known old.added ((x, r) ∷ []))
        (subst (λ (n : ℕ). IsWork (Tells nodes known es) (bound_in nodes ((known ++ old.added) ++ (x, r) ∷ [])) n (IsTold (equations_in nodes old.pending)) (IsTold (equations_in nodes old.compared)))
        (sym (length-push (known ++ old.added) (x, r)))
        (work-bind (bound_in nodes (known ++ old.added)) (length (known ++ old.added)) (tree nodes pair.left) (tree nodes pair.right) (tree nodes u) (tree nodes v) w
        (equations-last nodes old.pending pair) (equations-left nodes old.pending (pair ∷ [])) (equations-but-last nodes old.pending pair) su tv
        (bound_in nodes ((known ++ old.added) ++ (x, r) ∷ [])) x (tree nodes r)
        (one_more-adds nodes (known ++ old.added) x r (bound-free x r m).0 (bound-free x r m).1 m.1) (sides m.0)))
      where
        sides : ((tree nodes u ≡ variable x) × (r ≡ v)) ⊎ ((tree nodes v ≡ variable x) × (r ≡ u))
            → ((tree nodes u ≡ variable x) × (tree nodes v ≡ tree nodes r)) ⊎ ((tree nodes v ≡ variable x) × (tree nodes u ≡ tree nodes r))
        sides (inl e) = inl (e.0, ap (tree nodes) (sym e.1))
        sides (inr e) = inr (e.0, ap (tree nodes) (sym e.1))

    pub on_agree : IsArranged nodes → (p : Pairs) → Meets nodes u v (Agree p)
        → IsWorkOn nodes known es old.added (old.pending ++ argument_pairs p p.count) (old.compared ++ record { left = u; right = v } ∷ [])
    on_agree arranged p m = work-agree (bound_in nodes (known ++ old.added)) (length (known ++ old.added)) (tree nodes pair.left) (tree nodes pair.right) (tree nodes u) (tree nodes v) w
        (equations-last nodes old.pending pair) (equations-left nodes old.pending (pair ∷ [])) (equations-but-last nodes old.pending pair) su tv
        (symbol_head p.symbol p.count) (left-head nodes arranged u v p m) (right-head nodes arranged u v p m)
        (equations-left nodes old.pending (argument_pairs p p.count))
        (λ x y o. equations-right nodes old.pending (argument_pairs p p.count) x y (arguments-wait nodes arranged u v p m x y o))
        (λ x y o. elim (equations-either nodes old.pending (argument_pairs p p.count) x y o) [ inl i ↦ inl i | inr i ↦ inr (only-arguments nodes arranged u v p m p.count (omega arith) x y i) ])
        (equations-left nodes old.compared (record { left = u; right = v } ∷ []))
        (equations-last nodes old.compared (record { left = u; right = v }))
        (equations-but-last nodes old.compared (record { left = u; right = v }))

  module _ (arranged : IsArranged nodes) (new : Work) (fresh : BindNew known old.added) (a : Advances nodes last old new) where
    to : (A : List (Var × Term)) (P C : List code.Equation) → IsWorkOn nodes known es A P C → BindNew known A → new.added ≡ A → new.pending ≡ P → new.compared ≡ C → GoesOn nodes known es new
    to A P C k f p q r = record { kept = rw (p, q, r) k; fresh = rw p f }

    -- a turn without a clash
    pub turn-goes : GoesOn nodes known es new
    turn-goes = each a.meet
      where
        each : Meet nodes a.left a.right old new → GoesOn nodes known es new
        each (same e n) = to old.added old.pending old.compared (on_same a.left a.right a.is_left a.is_right e) fresh
            (ap (λ (k : Work). k.added) n) (ap (λ (k : Work). k.pending) n) (ap (λ (k : Work). k.compared) n)
        each (bind {x = x} {u = r} m p l q c) = to (old.added ++ (x, r) ∷ []) old.pending old.compared (on_bind a.left a.right a.is_left a.is_right x r m)
            (BindNew-push known old.added x r fresh (bound-free a.left a.right a.is_left a.is_right x r m).0) p q c
        each (agree {p = p} m few c l q e) = to old.added (old.pending ++ argument_pairs p p.count) (old.compared ++ record { left = a.left; right = a.right } ∷ []) (on_agree a.left a.right a.is_left a.is_right arranged p m) fresh e q c

-- nothing has been done yet
pub turn-starts : (nodes : List Node) (known : List (Var × Term)) (es : List code.Equation) → IsSolved nodes known → IsWorkOn nodes known es [] es []
turn-starts nodes known es h =
    subst (λ (l : List (Var × Term)). IsWork (Tells nodes known es) (bound_in nodes l) (length l) (IsTold (equations_in nodes es)) (IsTold (equations_in nodes []))) (sym (append-nil known))
    (work-start (bound_in nodes known) (length known) h.ends (λ s t m. inl m) (λ s t m. m) (λ s t m. inr m) (λ s t m. m))

-- nothing waits any more
pub turn-ends : (nodes : List Node) (known : List (Var × Term)) (es : List code.Equation) (added : List (Var × Term)) (compared : List code.Equation)
    → IsWorkOn nodes known es added [] compared → BindNew known added → IsSolution nodes known es added
turn-ends nodes known es added compared w f = record {
  consistent = work-consistent (bound_in nodes (known ++ added)) (length (known ++ added)) w (λ s t m. m);
  fresh = f;
  solved = record { ends = w.ends };
  follow = λ s t m. w.follow s t (BindNew-bound nodes known added s t f m);
  hold = work-hold (bound_in nodes (known ++ added)) (length (known ++ added)) w (λ s t m. m);
  same = work-trees (bound_in nodes (known ++ added)) (length (known ++ added)) w (λ s t m. m);
  stands = work-stands (bound_in nodes (known ++ added)) (length (known ++ added)) w (λ s t m. m);
}

-- no bindings solve no equations
pub none-solved : (nodes : List Node) (known : List (Var × Term)) → IsSolved nodes known → IsSolution nodes known [] []
none-solved nodes known h = turn-ends nodes known [] [] [] (turn-starts nodes known [] h) tt

pub length-arguments : (p : Pairs) (n : ℕ) → length (argument_pairs p n) ≡ n
length-arguments p zero = refl
length-arguments p (suc n) = length-push (argument_pairs p n) (argument_pair p n) ∙ ap suc (length-arguments p n)

-- how many turns there can be yet: each takes a pair away, or takes memory for a binding or a comparison
abbrev pub turns_left : ℕ → ℕ → ℕ → ℕ
turns_left added compared pending = ((2 ^ 64 - added) + (2 ^ 64 - compared)) * 2 ^ 64 + pending

pub turn-falls : (nodes : List Node) (pair : code.Equation) (old new : Work) → Advances nodes pair old new
    → turns_left (length new.added) (length new.compared) (length new.pending) < turns_left (length old.added) (length old.compared) (suc (length old.pending))
turn-falls nodes pair old new a = each a.meet
  where
    each : Meet nodes a.left a.right old new → turns_left (length new.added) (length new.compared) (length new.pending) < turns_left (length old.added) (length old.compared) (suc (length old.pending))
    each (same e n) =
        let p : length new.added ≡ length old.added = ap (λ (k : Work). length k.added) n in
        let q : length new.compared ≡ length old.compared = ap (λ (k : Work). length k.compared) n in
        let r : length new.pending ≡ length old.pending = ap (λ (k : Work). length k.pending) n in
        omega arith
    each (bind {x = x} {u = u} m p small q c) =
        let p' : length new.added ≡ suc (length old.added) = ap length p ∙ length-push old.added (x, u) in
        let q' : length new.compared ≡ length old.compared = ap length c in
        let r' : length new.pending ≡ length old.pending = ap length q in
        omega arith
    each (agree {p = p} m few c small q e) =
        let p' : length new.compared ≡ suc (length old.compared) = ap length c ∙ length-push old.compared (record { left = a.left; right = a.right }) in
        let q' : length new.added ≡ length old.added = ap length e in
        let r' : length new.pending ≡ length old.pending + p.count = ap length q ∙ length-append old.pending (argument_pairs p p.count) ∙ ap (λ n. length old.pending + n) (length-arguments p p.count) in
        omega arith
