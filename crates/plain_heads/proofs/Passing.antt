-- How a plain head is met, pair after pair.
use Rattle.std.proofs.Common.{◌≡◌, ℕ, List, [], ◌∷◌, ◌++◌, length, None, refl, sym, ap, subst, ◌∙◌, inl, inr, arith, append-nil}
use Rattle.akl_terms.specs.declared.name.Name.{Name}
use Rattle.akl_terms.specs.declared.name.Var.{Var}
use Rattle.akl_terms.specs.declared.term.Node.{Node}
use Rattle.akl_terms.specs.declared.term.Term.{Term}
use Rattle.akl_terms.specs.declared.term.Seen.{Seen}
use Rattle.akl_terms.specs.declared.term.Equation as code
use Rattle.akl_terms.specs.Equal.{IsTold}
use Rattle.akl_terms.specs.Tree.{Tree, variable, integer, port, symbol}
use Rattle.akl_terms.specs.Decided.{DifferInHead}
use Rattle.akl_terms.specs.Template.{IsArranged, tree, seen_of}
use Rattle.rational_unify.specs.Known.{found_in, bound_in, IsSolved, end_of}
use Rattle.rational_unify.specs.Older.{LeadOlder}
use Rattle.rational_unify.specs.Solving.{equations_in, IsSolution}
use Rattle.rational_unify.specs.Meeting.{argument_pairs}
use Rattle.rational_unify.specs.Passing.{as_same, by_binding, by_arguments}
use Rattle.rational_unify.proofs.Chains.{found-second}
use Rattle.rational_unify.proofs.Ends.{headed-tree}
use Rattle.rational_unify.proofs.OlderEnds.{one_more-older}
use Rattle.rational_unify.proofs.Passes.{PassGoes, pass-goes, pass-clashes}
use Rattle.rational_unify.proofs.Stands.{HasHead}
use Rattle.rational_unify.proofs.Turns.{IsWorkOn, turn-starts, turn-ends}
use Rattle.rational_unify.proofs.Walks.{walk-again}
use Rattle.rational_unify.proofs.Work.{waits, Done-stays}
use Rattle.local_store.specs.Stored.{Stored}
use Rattle.local_store.specs.Chained.{bindings_from, ToldBy, IsSolvedChain}
use Rattle.local_store.proofs.FormEnds.{end-free, end_unbound, no_head}
use Rattle.local_store.proofs.Layers.{end-extends}
use Rattle.plain_heads.specs.declared.meeting.Turn.{Turn}
use Rattle.plain_heads.specs.declared.row.Row.{Row}
use Rattle.plain_heads.specs.Plain.{pairs_of, IsFurther, ArePlain, Goes, HaveClash, Turns, MayBind, Compares, AreRowsOf}
use Rattle.plain_heads.proofs.Orders.{all_more, other_frame, of_new_more, all_below, behind_unbound, sorted_more, sorted_none}
use Rattle.plain_heads.proofs.Rows.{arguments_pairs, pairs_arguments}

-- a term that is no bound variable is its own end
pub stays : (nodes : List Node) (bs : List (Var × Term)) (t : Tree) → ((x : Var) → t ≡ variable x → found_in bs x ≡ None) → end_of nodes bs t ≡ t
stays nodes bs (variable x) h = end-free nodes bs x (h x refl)
stays nodes bs (integer z) h = refl
stays nodes bs (port p) h = refl
stays nodes bs (symbol f ts) h = refl

headed : (nodes : List Node) (bs : List (Var × Term)) (t : Tree) → HasHead t → end_of nodes bs t ≡ t
headed nodes bs t h = stays nodes bs t (λ x e. absurd (no_head t x e h))

-- the work goes on with the same equations in another order
reordered : (nodes : List Node) (known : List (Var × Term)) (es : List code.Equation) (added : List (Var × Term)) (ps qs compared : List code.Equation)
    → ((s t : Tree) → IsTold (equations_in nodes ps) s t → IsTold (equations_in nodes qs) s t) → ((s t : Tree) → IsTold (equations_in nodes qs) s t → IsTold (equations_in nodes ps) s t)
    → IsWorkOn nodes known es added ps compared → IsWorkOn nodes known es added qs compared
reordered nodes known es added ps qs compared to from w = record {
  ends = w.ends;
  follow = w.follow;
  waiting = λ s t m. w.waiting s t (from s t m);
  shown = w.shown;
  heads = w.heads;
  inner = λ s t m k a b p q. Done-stays (λ x. walk-again (bound_in nodes (known ++ added)) (length (known ++ added)) w.ends x) (λ x y n. waits (to x y n)) (λ x y n. n) a b (w.inner s t m k a b p q);
  covers = λ s t m. elim (w.covers s t m) [
    | inl x ↦ inl x
    | inr d ↦ inr (Done-stays (λ x. walk-again (bound_in nodes (known ++ added)) (length (known ++ added)) w.ends x) (λ x y n. waits (to x y n)) (λ x y n. n) s t d)
  ];
}

symbol_seen : (nodes : List Node) (t : Term) (s i n : ℕ) (f : Name) → seen_of nodes t ≡ Seen.Struct s i n f → HasHead (tree nodes t)
symbol_seen nodes t s i n f e = headed-tree nodes t (Seen.Struct s i n f) (sym e) (λ x q. cc)

module _ (nodes : List Node) (ss : List Stored) (f : IsSolvedChain nodes ss) (frame : Name) where
  abbrev known : List (Var × Term)
  known = bindings_from ss

  -- an end leads no further
  pub end_again : (t : Term) (s : Tree) → tree nodes t ≡ end_of nodes (bindings_from ss) s → tree nodes t ≡ end_of nodes (bindings_from ss) (tree nodes t)
  end_again t s e = e ∙ walk-again (bound_in nodes known) (length known) f.form.solved.ends s ∙ ap (end_of nodes known) (sym e)

  free_end : (t : Term) → tree nodes t ≡ end_of nodes known (tree nodes t) → (x : Var) → tree nodes t ≡ variable x → found_in known x ≡ None
  free_end t e x p = end_unbound nodes known (ToldBy nodes ss) f.form x x (ap (end_of nodes known) (sym p) ∙ sym e ∙ p)

  module _ (old : List (Var × Term)) (plain : ArePlain nodes (bindings_from ss) frame old) (end head : Term) where
    -- an end over what is known is one over the bindings too
    kept : (es rest : List code.Equation) (left : Term) (g : Goes nodes (bindings_from ss) es old (rest ++ record { left = left; right = head } ∷ [])) → tree nodes end ≡ end_of nodes (bindings_from ss) (tree nodes left)
        → ((x : Var) → tree nodes end ≡ variable x → found_in (bindings_from ss ++ old) x ≡ None) → tree nodes end ≡ end_of nodes (bindings_from ss ++ old) (tree nodes left)
    kept es rest left g e h =
        let solved : IsSolved nodes (known ++ old) = record { ends = g.work.kept.ends } in
        sym (end-extends nodes known old solved (tree nodes left) ∙ ap (end_of nodes (known ++ old)) (sym e) ∙ stays nodes (known ++ old) (tree nodes end) h)

    -- two terms that differ in head
    pub turn_clashes : (es rest : List code.Equation) (left : Term) → Goes nodes (bindings_from ss) es old (rest ++ record { left = left; right = head } ∷ []) → tree nodes end ≡ end_of nodes (bindings_from ss) (tree nodes left)
        → DifferInHead (tree nodes end) (tree nodes head) → HaveClash nodes (bindings_from ss) es
    turn_clashes es rest left g e d = record {
      left = end;
      right = head;
      clash = pass-clashes nodes known es (record { added = old; pending = rest; pairs_left = 0 }) (record { left = left; right = head }) g.work (record { left = end; right = head })
          (kept es rest left g e (λ x p. absurd (no_head (tree nodes end) x p (d.left, d.is_left)))) (sym (headed nodes (known ++ old) (tree nodes head) (d.right, d.is_right))) d;
    }

    -- one tree
    pub turn_same : IsArranged nodes → HasHead (tree nodes head) → (es rest : List code.Equation) (left : Term) → Goes nodes (bindings_from ss) es old (rest ++ record { left = left; right = head } ∷ [])
        → tree nodes end ≡ end_of nodes (bindings_from ss) (tree nodes left) → tree nodes end ≡ tree nodes head → Goes nodes (bindings_from ss) es old rest
    turn_same arranged h es rest left g e q = record {
      work = pass-goes nodes known es (record { added = old; pending = rest; pairs_left = 0 }) (record { left = left; right = head }) g.work (record { left = end; right = head })
          (kept es rest left g e (λ x p. absurd (no_head (tree nodes head) x (sym q ∙ p) h))) (sym (headed nodes (known ++ old) (tree nodes head) h)) arranged (record { added = old; pending = rest; pairs_left = 0 }) (as_same q refl);
      older = g.older;
    }

    pub turn_compared : IsArranged nodes → HasHead (tree nodes head) → (turn : Turn) → Compares nodes end head turn → (left : Term) → tree nodes end ≡ end_of nodes (bindings_from ss) (tree nodes left)
        → Turns nodes (bindings_from ss) frame (record { left = left; right = head } ∷ []) old old turn
    turn_compared arranged h Turn.Taken c left e = (plain, λ es rest g. turn_same arranged h es rest left g e c)
    turn_compared arranged h Turn.Clashes c left e = λ es rest g. turn_clashes es rest left g e c
    turn_compared arranged h Turn.Unsure c left e = tt

    -- arguments of one symbol
    pub turn_rows : IsArranged nodes → (a h : Row) → AreRowsOf nodes end head a h → HasHead (tree nodes end) → HasHead (tree nodes head) → (es rest : List code.Equation) (left : Term)
        → Goes nodes (bindings_from ss) es old (rest ++ record { left = left; right = head } ∷ []) → tree nodes end ≡ end_of nodes (bindings_from ss) (tree nodes left)
        → Goes nodes (bindings_from ss) es old (rest ++ pairs_of a.frame a.first h.count h.frame h.first h.count)
    turn_rows arranged a h r he hh es rest left g e = record {
      work = record {
        compared = goes.compared;
        kept = reordered nodes known es old (rest ++ argument_pairs (record { symbol = r.symbol; count = h.count; left = a.first; right = h.first; left_frame = a.frame; right_frame = h.frame }) h.count) (rest ++ pairs_of a.frame a.first h.count h.frame h.first h.count) goes.compared (arguments_pairs nodes a.frame h.frame rest r.symbol h.count a.first h.first)
            (pairs_arguments nodes a.frame h.frame rest r.symbol h.count a.first h.first) goes.kept;
        fresh = goes.fresh;
      };
      older = g.older;
    }
      where
        goes : PassGoes nodes known es old (rest ++ argument_pairs (record { symbol = r.symbol; count = h.count; left = a.first; right = h.first; left_frame = a.frame; right_frame = h.frame }) h.count)
        goes = pass-goes nodes known es (record { added = old; pending = rest; pairs_left = h.count }) (record { left = left; right = head }) g.work (record { left = end; right = head })
            (kept es rest left g e (λ x p. absurd (no_head (tree nodes end) x p he))) (sym (headed nodes (known ++ old) (tree nodes head) hh)) arranged (record { added = old; pending = rest ++ argument_pairs (record { symbol = r.symbol; count = h.count; left = a.first; right = h.first; left_frame = a.frame; right_frame = h.frame }) h.count; pairs_left = 0 })
            (by_arguments {p = record { symbol = r.symbol; count = h.count; left = a.first; right = h.first; left_frame = a.frame; right_frame = h.frame }} (r.left, r.right) (omega arith) refl refl)

    module _ (v : Var) (may : MayBind nodes (bindings_from ss) old v frame end) (is_head : tree nodes head ≡ variable v) (at_end : tree nodes end ≡ end_of nodes (bindings_from ss) (tree nodes end)) where
      further : IsFurther nodes known frame end
      further x p = (free_end end at_end x p, λ q. (may.beyond x p).0 (q ∙ sym may.own))

      bound_plain : ArePlain nodes (bindings_from ss) frame (old ++ (v, end) ∷ [])
      bound_plain = record {
        own = all_more (λ (b : Var × Term). b.0.frame ≡ frame) old (v, end) plain.own may.own;
        ordered = sorted_more old v end plain.ordered (all_below old v plain.ordered may.behind);
        new = of_new_more known old frame (v, end) may.new;
        further = all_more (λ (b : Var × Term). IsFurther nodes known frame b.1) old (v, end) plain.further further;
      }

      unbound : found_in (known ++ old) v ≡ None
      unbound = found-second known old v (may.new v may.own) ∙ behind_unbound old v (all_below old v plain.ordered may.behind)

      end_free : (x : Var) → tree nodes end ≡ variable x → found_in (known ++ old) x ≡ None
      end_free x p = found-second known old x (further x p).0 ∙ other_frame old frame x plain.own (further x p).1

      turn_binds : IsArranged nodes → (es rest : List code.Equation) (left : Term) → Goes nodes (bindings_from ss) es old (rest ++ record { left = left; right = head } ∷ [])
          → tree nodes end ≡ end_of nodes (bindings_from ss) (tree nodes left) → Goes nodes (bindings_from ss) es (old ++ (v, end) ∷ []) rest
      turn_binds arranged es rest left g e = record {
        work = pass-goes nodes known es (record { added = old; pending = rest; pairs_left = 0 }) (record { left = left; right = head }) g.work (record { left = end; right = head }) (kept es rest left g e end_free)
            (is_head ∙ sym (ap (end_of nodes (known ++ old)) is_head ∙ end-free nodes (known ++ old) v unbound)) arranged (record { added = old ++ (v, end) ∷ []; pending = rest; pairs_left = 0 })
            (by_binding (inr (is_head, refl), λ p. (may.beyond v p).0 refl) refl refl refl);
        older = λ o. one_more-older nodes known old (old ++ (v, end) ∷ []) v end refl (λ y p. (may.beyond y p).1) (g.older o);
      }

      pub turn_bound : IsArranged nodes → (left : Term) → tree nodes end ≡ end_of nodes (bindings_from ss) (tree nodes left)
          → Turns nodes (bindings_from ss) frame (record { left = left; right = head } ∷ []) old (old ++ (v, end) ∷ []) Turn.Taken
      turn_bound arranged left e = (bound_plain, λ es rest g. turn_binds arranged es rest left g e)

    -- two terms have one symbol, whose arguments are met
    pub rows_turn : IsArranged nodes → (a h : Row) → AreRowsOf nodes end head a h → (new : List (Var × Term)) (turn : Turn)
        → Turns nodes (bindings_from ss) frame (pairs_of a.frame a.first h.count h.frame h.first h.count) old new turn → (left : Term) → tree nodes end ≡ end_of nodes (bindings_from ss) (tree nodes left)
        → Turns nodes (bindings_from ss) frame (record { left = left; right = head } ∷ []) old new turn
    rows_turn arranged a h r new Turn.Taken t left e = (t.0, λ es rest g. t.1 es rest (rows es rest g))
      where
        rows : (es rest : List code.Equation) → Goes nodes known es old (rest ++ record { left = left; right = head } ∷ []) → Goes nodes known es old (rest ++ pairs_of a.frame a.first h.count h.frame h.first h.count)
        rows es rest g = turn_rows arranged a h r (symbol_seen nodes end r.symbol a.first h.count a.frame r.left) (symbol_seen nodes head r.symbol h.first h.count h.frame r.right) es rest left g e
    rows_turn arranged a h r new Turn.Clashes t left e = λ es rest g.
        t es rest (turn_rows arranged a h r (symbol_seen nodes end r.symbol a.first h.count a.frame r.left) (symbol_seen nodes head r.symbol h.first h.count h.frame r.right) es rest left g e)
    rows_turn arranged a h r new Turn.Unsure t left e = tt

  -- nothing is bound yet
  pub none_plain : ArePlain nodes (bindings_from ss) frame []
  none_plain = record { own = tt; ordered = sorted_none; new = tt; further = tt }

  pub goes_first : (es : List code.Equation) → Goes nodes (bindings_from ss) es [] es
  goes_first es = record {
    work = record { compared = []; kept = turn-starts nodes known es f.form.solved; fresh = tt };
    older = λ o. subst (LeadOlder nodes) (sym (append-nil known)) o;
  }

  pub goes_last : (es : List code.Equation) (bs : List (Var × Term)) → Goes nodes (bindings_from ss) es bs [] → IsSolution nodes (bindings_from ss) es bs
  goes_last es bs g = turn-ends nodes known es bs g.work.compared g.work.kept g.work.fresh
