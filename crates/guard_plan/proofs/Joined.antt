-- Whether a box is known to be solved that the only alternative of a choice joined, or all of them.
use Rattle.std.proofs.Common.{◌≡◌, ℕ, ◌+◌, ◌≤◌, List, [], ◌∷◌, ◌++◌, length, drop, Bool, sym, ap, subst, ◌∙◌, arith}
use Rattle.std.specs.Prelude.{IsTrue, ◌↔◌}
use Rattle.std.specs.List.{AllByRecursion}
use Rattle.akl_terms.specs.declared.name.Name.{Name}
use Rattle.akl_terms.specs.declared.name.Var.{Var}
use Rattle.akl_terms.specs.declared.term.Node.{Node}
use Rattle.akl_terms.specs.declared.term.Term.{Term}
use Rattle.akl_terms.specs.declared.term.Equation.{Equation}
use Rattle.akl_terms.specs.Equal.{IsTold, IsConsistentBy}
use Rattle.akl_terms.specs.Standing.{StandFor}
use Rattle.rational_unify.specs.Solving.{bindings_in}
use Rattle.rational_unify.specs.Older.{IsToOlder, EachOlder}
use Rattle.local_store.specs.declared.telling.ToldPart.{ToldPart}
use Rattle.local_store.specs.Parts.{ToldStore, told_over}
use Rattle.local_store.specs.Stored.{Stored, nothing, with_bindings}
use Rattle.local_store.specs.Chained.{bindings_from, ToldBy, innermost, around, replaced}
use Rattle.local_store.specs.Telling.{ToldAlso, AnswersTold}
use Rattle.local_store.specs.Promoting.{AnswersPromoted}
use Rattle.local_store.proofs.Layers.{from-last}
use Rattle.local_store.proofs.EachLeads.{all-both, all-front, all-back, joins-all, all-joins}
use Rattle.box_tree.specs.declared.view.Alternative.{Alternative}
use Rattle.table_laws.proofs.StoreChains.{around_push, innermost_push}
use Rattle.guard_plan.specs.Collecting.{bindings_of, IsToldInner, IsJoined}
use Rattle.guard_plan.proofs.Chains.{long_push, last_dropped}

-- what a part makes of the innermost store, or of the one around it

pub told_last : (nodes : List Node) (path : List Stored) (s : Stored) (known : ℕ) (es : List Equation) (t : ToldPart) → AnswersTold nodes (path ++ s ∷ []) known es (told_over (innermost (path ++ s ∷ [])) t)
    → AnswersTold nodes (path ++ s ∷ []) known es (told_over s t)
told_last nodes path s known es t a = subst (λ (k : Stored). AnswersTold nodes (path ++ s ∷ []) known es (told_over k t)) (innermost_push path s) a

pub promoted_over : (nodes : List Node) (path : List Stored) (s : Stored) (known : ℕ) (t : ToldPart) → AnswersPromoted nodes (path ++ s ∷ []) known (told_over (innermost (around (path ++ s ∷ []))) t)
    → AnswersPromoted nodes (path ++ s ∷ []) known (told_over (innermost path) t)
promoted_over nodes path s known t a = subst (λ (ss : List Stored). AnswersPromoted nodes (path ++ s ∷ []) known (told_over (innermost ss) t)) (around_push path s) a

pub joined_known : (nodes : List Node) (path : List Stored) (s : Stored) (known : ℕ) (t : ToldStore) → AnswersPromoted nodes (path ++ s ∷ []) known t
    → IsTrue t.solved ↔ ((length path ≤ known) × IsConsistentBy (ToldBy nodes (path ++ s ∷ [])) × EachOlder nodes s.bindings)
joined_known nodes path s known t a = (to, back)
  where
    long : length (path ++ s ∷ []) ≡ length path + 1
    long = long_push path s

    own : (innermost (path ++ s ∷ [])).bindings ≡ s.bindings
    own = ap (λ (k : Stored). k.bindings) (innermost_push path s)

    to : IsTrue t.solved → (length path ≤ known) × IsConsistentBy (ToldBy nodes (path ++ s ∷ [])) × EachOlder nodes s.bindings
    to h =
        let w : (length (path ++ s ∷ []) ≤ known + 1) × IsConsistentBy (ToldBy nodes (path ++ s ∷ [])) × EachOlder nodes (innermost (path ++ s ∷ [])).bindings = a.is_solved.0 h in
        let l : length (path ++ s ∷ []) ≤ known + 1 = w.0 in
        let e : length (path ++ s ∷ []) ≡ length path + 1 = long in (
          omega arith,
          w.1,
          subst (EachOlder nodes) own w.2,
        )

    back : (length path ≤ known) × IsConsistentBy (ToldBy nodes (path ++ s ∷ [])) × EachOlder nodes s.bindings → IsTrue t.solved
    back w =
        let l : length path ≤ known = w.0 in
        let e : length (path ++ s ∷ []) ≡ length path + 1 = long in
        a.is_solved.1 (omega arith, w.1, subst (EachOlder nodes) (sym own) w.2)

-- the bindings of alternatives lead to older variables where those of each do
older_of : (nodes : List Node) (seen : List Alternative) → AllByRecursion (λ a. EachOlder nodes a.store.bindings) seen → EachOlder nodes (bindings_of seen)
older_of nodes [] h = tt
older_of nodes (a ∷ rest) h = all-both (IsToOlder nodes) a.store.bindings (bindings_of rest) h.0 (older_of nodes rest h.1)

of_older : (nodes : List Node) (seen : List Alternative) → EachOlder nodes (bindings_of seen) → AllByRecursion (λ a. EachOlder nodes a.store.bindings) seen
of_older nodes [] h = tt
of_older nodes (a ∷ rest) h = (all-front (IsToOlder nodes) a.store.bindings (bindings_of rest) h, of_older nodes rest (all-back (IsToOlder nodes) a.store.bindings (bindings_of rest) h))

-- the bindings of all alternatives, to which equations are told
module _ (nodes : List Node) (path : List Stored) (known : ℕ) (seen : List Alternative) (es : List Equation) (inner : Stored) (t : IsToldInner nodes path known seen es inner) where
  abbrev own : Stored
  own = with_bindings nothing (bindings_of seen)

  pub inner_told : StandFor (ToldAlso nodes (path ++ own ∷ []) es) (ToldBy nodes (path ++ inner ∷ []))
  inner_told = subst (λ (s : Stored). StandFor (ToldAlso nodes (path ++ own ∷ []) es) (ToldBy nodes (path ++ s ∷ []))) (sym t.store)
      (subst (λ (ss : List Stored). StandFor (ToldAlso nodes (path ++ own ∷ []) es) (ToldBy nodes (ss ++ t.answer.store ∷ []))) (around_push path own) t.told.tells.stands)

  module _ (consistent : IsConsistentBy (ToldBy nodes (path ++ inner ∷ []))) where
    inner_kept : EachOlder nodes inner.bindings → EachOlder nodes (bindings_of seen)
    inner_kept h = (all-joins (IsToOlder nodes) [] (bindings_of seen) (subst (λ (s : Stored). EachOlder nodes s.bindings) (innermost_push path own)
        (t.told.kept (inner_told.back consistent) (subst (λ (s : Stored). EachOlder nodes s.bindings) t.store h)))).1

    inner_older : known ≡ length path → EachOlder nodes (bindings_of seen) → EachOlder nodes inner.bindings
    inner_older e h =
        let all : EachOlder nodes own.bindings = joins-all (IsToOlder nodes) [] (bindings_of seen) tt h in
        let last : drop known (path ++ own ∷ []) ≡ own ∷ [] = ap (λ (k : ℕ). drop k (path ++ own ∷ [])) e ∙ last_dropped path own in
        subst (λ (s : Stored). EachOlder nodes s.bindings) (sym t.store) (t.told.older (inner_told.back consistent) (subst (λ (ss : List Stored). EachOlder nodes (bindings_from ss)) (sym last) all)
        (subst (λ (s : Stored). EachOlder nodes s.bindings) (sym (innermost_push path own)) all))

-- the store of the box that they join
module _ (nodes : List Node) (path : List Stored) (known : ℕ) (seen : List Alternative) (frames : List Name) (es : List Equation) (t : ToldStore) (j : IsJoined nodes path known seen frames es t) where
  joined_told : StandFor (ToldBy nodes (path ++ j.inner ∷ [])) (ToldBy nodes (replaced path t.store))
  joined_told = subst (λ (l : List (Var × Term)). StandFor (ToldBy nodes (path ++ j.inner ∷ [])) (IsTold (bindings_in nodes l))) list j.promoted.promotes.stands
    where
      list : bindings_from (replaced (around (path ++ j.inner ∷ [])) j.joined.store) ≡ bindings_from (replaced path t.store)
      list = ap (λ (ss : List Stored). bindings_from (replaced ss j.joined.store)) (around_push path j.inner) ∙ from-last (around path) j.joined.store
          ∙ ap (λ (l : List (Var × Term)). l ++ bindings_from (around path)) (sym j.bindings) ∙ sym (from-last (around path) t.store)

  pub gathered_known : known ≤ length path → IsTrue t.solved ↔ ((known ≡ length path) × IsConsistentBy (ToldBy nodes (replaced path t.store)) × AllByRecursion (λ a. EachOlder nodes a.store.bindings) seen)
  gathered_known within = (to, back)
    where
      says : IsTrue j.joined.solved ↔ ((length path ≤ known) × IsConsistentBy (ToldBy nodes (path ++ j.inner ∷ [])) × EachOlder nodes j.inner.bindings)
      says = joined_known nodes path j.inner known j.joined j.promoted

      to : IsTrue t.solved → (known ≡ length path) × IsConsistentBy (ToldBy nodes (replaced path t.store)) × AllByRecursion (λ a. EachOlder nodes a.store.bindings) seen
      to h =
          let w : (length path ≤ known) × IsConsistentBy (ToldBy nodes (path ++ j.inner ∷ [])) × EachOlder nodes j.inner.bindings = says.0 (subst (λ (b : Bool). IsTrue b) j.solved h) in
          let l : length path ≤ known = w.0 in (
            omega arith,
            joined_told.to w.1,
            of_older nodes seen (inner_kept nodes path known seen es j.inner j.told w.1 w.2),
          )

      back : (known ≡ length path) × IsConsistentBy (ToldBy nodes (replaced path t.store)) × AllByRecursion (λ a. EachOlder nodes a.store.bindings) seen → IsTrue t.solved
      back w =
          let e : known ≡ length path = w.0 in
          let c : IsConsistentBy (ToldBy nodes (path ++ j.inner ∷ [])) = joined_told.back w.1 in
          subst (λ (b : Bool). IsTrue b) (sym j.solved) (says.1 (omega arith, c, inner_older nodes path known seen es j.inner j.told c e (older_of nodes seen w.2)))
