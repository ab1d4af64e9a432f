-- How a chain is solved from its root box inwards.
use Rattle.std.proofs.Common.{◌≡◌, ℕ, zero, suc, ◌+◌, ◌<◌, ◌≤◌, Option, Some, None, true, false, arith, List, [], ◌∷◌, ◌++◌, length, get_or, take, drop, refl, sym, ◌∙◌, ap, subst, append_assoc, append-nil}
use Rattle.std.specs.Prelude.{IsSome}
use Rattle.std.specs.Option.{option_to_list}
use Rattle.akl_terms.specs.declared.term.Node.{Node}
use Rattle.akl_terms.specs.Equal.{Equations, IsTold, told, Follows, IsConsistentBy}
use Rattle.akl_terms.proofs.EqualLaws.{IsConsistent-follows, IsTold-left}
use Rattle.akl_terms.specs.Standing.{StandFor}
use Rattle.akl_terms.proofs.StandingLaws.{StandFor-back, StandFor-on}
use Rattle.constraint_laws.proofs.StandsGrow.{stands_with_more}
use Rattle.local_store.specs.Stored.{Stored}
use Rattle.local_store.specs.Chained.{ToldBy, IsFormChain, innermost, around, replaced}
use Rattle.local_store.specs.Asking.{Resolves}
use Rattle.table_laws.specs.Rows.{told_in}
use Rattle.table_laws.proofs.Stores.{told_join}
use Rattle.rule_plan.specs.Solving.{ResolvesAll}
use Rattle.table_laws.proofs.StoreChains.{told_stands, around_push, innermost_push}

-- fewer stores are consistent where more are
fewer : (nodes : List Node) (ss rest : List Stored) → IsConsistentBy (ToldBy nodes (ss ++ rest)) → IsConsistentBy (ToldBy nodes ss)
fewer nodes ss rest c = (told_stands nodes ss).back (IsConsistent-follows follows ((told_stands nodes (ss ++ rest)).to c))
  where
    follows : Follows (told_in nodes ss) (told_in nodes (ss ++ rest))
    follows = record { each = λ {s = l} {t = r} m. told (subst (λ (E : Equations). IsTold E l r) (sym (told_join nodes ss rest)) (IsTold-left (told_in nodes ss) (told_in nodes rest) l r m)) }

-- what is found in these stores is a solved form, and with those that are left they stand for all
pub record IsSolving (nodes : List Node) (all done left : List Stored) : Type 0 where
  pub form : IsFormChain nodes done
  pub stands : StandFor (ToldBy nodes all) (ToldBy nodes (done ++ left))
  pub ports : (innermost (done ++ left)).ports ≡ (innermost all).ports

-- with further stores inside
more_stand : (nodes : List Node) (ss ts rest : List Stored) → StandFor (ToldBy nodes ss) (ToldBy nodes ts) → StandFor (ToldBy nodes (ss ++ rest)) (ToldBy nodes (ts ++ rest))
more_stand nodes ss ts rest h = StandFor-on (told_stands nodes (ss ++ rest))
    (StandFor-on (subst (λ (E : Equations). StandFor (IsTold E) (IsTold (told_in nodes (ts ++ rest)))) (sym (told_join nodes ss rest))
    (subst (λ (E : Equations). StandFor (IsTold (told_in nodes ss ++ told_in nodes rest)) (IsTold E)) (sym (told_join nodes ts rest))
    (stands_with_more (told_in nodes ss) (told_in nodes ts) (told_in nodes rest) (StandFor-on (StandFor-back (told_stands nodes ss)) (StandFor-on h (told_stands nodes ts))))))
    (StandFor-back (told_stands nodes (ts ++ rest))))

innermost_more : (xs : List Stored) (y : Stored) (ys : List Stored) → innermost (xs ++ y ∷ ys) ≡ innermost (y ∷ ys)
innermost_more [] y ys = refl
innermost_more (x ∷ []) y ys = refl
innermost_more (x ∷ z ∷ xs) y ys = innermost_more (z ∷ xs) y ys

module _ (nodes : List Node) (all done : List Stored) (s : Stored) (left : List Stored) (i : IsSolving nodes all done (s ∷ left)) where
  split : (k : Stored) → done ++ k ∷ left ≡ (done ++ k ∷ []) ++ left
  split k = sym (append_assoc done (k ∷ []) left)

  -- the next one may be solved
  pub next_consistent : IsConsistentBy (ToldBy nodes all) → IsConsistentBy (ToldBy nodes (done ++ s ∷ []))
  next_consistent c = fewer nodes (done ++ s ∷ []) left (subst (λ (ss : List Stored). IsConsistentBy (ToldBy nodes ss)) (split s) (i.stands.to c))

  pub next_around : IsFormChain nodes (around (done ++ s ∷ []))
  next_around = subst (IsFormChain nodes) (sym (around_push done s)) i.form

  pub next_solving : (new : Stored) → Resolves nodes (done ++ s ∷ []) new → IsSolving nodes all (done ++ new ∷ []) left
  next_solving new r = record {
    form = subst (IsFormChain nodes) same r.form;
    stands = StandFor-on (subst (λ (ss : List Stored). StandFor (ToldBy nodes all) (ToldBy nodes ss)) (split s) i.stands)
        (more_stand nodes (done ++ s ∷ []) (done ++ new ∷ []) left (subst (λ (ss : List Stored). StandFor (ToldBy nodes (done ++ s ∷ [])) (ToldBy nodes ss)) same r.stands));
    ports = on left ∙ ap (λ (ss : List Stored). (innermost ss).ports) (sym (split s)) ∙ i.ports;
  }
    where
      same : replaced (done ++ s ∷ []) new ≡ done ++ new ∷ []
      same = ap (λ (ss : List Stored). ss ++ new ∷ []) (around_push done s)

      on : (rest : List Stored) → (innermost ((done ++ new ∷ []) ++ rest)).ports ≡ (innermost ((done ++ s ∷ []) ++ rest)).ports
      on [] = ap (λ (ss : List Stored). (innermost ss).ports) (append-nil (done ++ new ∷ [])) ∙ ap (λ (k : Stored). k.ports) (innermost_push done new) ∙ r.ports
          ∙ ap (λ (ss : List Stored). (innermost ss).ports) (sym (append-nil (done ++ s ∷ [])))
      on (k ∷ ks) = ap (λ (x : Stored). x.ports) (innermost_more (done ++ new ∷ []) k ks ∙ sym (innermost_more (done ++ s ∷ []) k ks))

-- all are solved
pub all_solved : (nodes : List Node) (all done : List Stored) → IsSolving nodes all done [] → ResolvesAll nodes all done
all_solved nodes all done i = record {
  form = i.form;
  stands = subst (λ (ss : List Stored). StandFor (ToldBy nodes all) (ToldBy nodes ss)) (append-nil done) i.stands;
  ports = ap (λ (ss : List Stored). (innermost ss).ports) (sym (append-nil done)) ∙ i.ports;
}

-- the outermost are solved already

joined_again : (k : ℕ) (xs : List Stored) → take k xs ++ drop k xs ≡ xs
joined_again zero xs = refl
joined_again (suc k) [] = refl
joined_again (suc k) (x ∷ xs) = ap (λ (ys : List Stored). x ∷ ys) (joined_again k xs)

pub begins : (nodes : List Node) (all : List Stored) (k : ℕ) → IsFormChain nodes (take k all) → IsSolving nodes all (take k all) (drop k all)
begins nodes all k h = record {
  form = h;
  stands = subst (λ (ss : List Stored). StandFor (ToldBy nodes all) (ToldBy nodes ss)) (sym (joined_again k all)) (StandFor-on (told_stands nodes all) (StandFor-back (told_stands nodes all)));
  ports = ap (λ (ss : List Stored). (innermost ss).ports) (joined_again k all);
}

-- the next one of those that are left

drop_next : (k : ℕ) (rest : List Stored) (s : Stored) → k < length rest → s ≡ get_or rest k s → drop k rest ≡ s ∷ drop (k + 1) rest
drop_next k [] s l e = absurd (omega arith)
drop_next zero (x ∷ xs) s l e = ap (λ (y : Stored). y ∷ xs) (sym e)
drop_next (suc k) (x ∷ xs) s l e =
    let q : suc k + 1 ≡ suc (k + 1) = omega arith in
    drop_next k xs s (omega arith) e ∙ ap (λ (n : ℕ). s ∷ drop n (x ∷ xs)) (sym q)

pub next_of : (nodes : List Node) (all done rest : List Stored) (k : ℕ) (s : Stored) → k < length rest → s ≡ get_or rest k s → IsSolving nodes all done (drop k rest) → IsSolving nodes all done (s ∷ drop (k + 1) rest)
next_of nodes all done rest k s l e i = subst (IsSolving nodes all done) (drop_next k rest s l e) i

pub none_left : (nodes : List Node) (all done rest : List Stored) (k : ℕ) → length rest ≤ k → IsSolving nodes all done (drop k rest) → IsSolving nodes all done []
none_left nodes all done rest k l i = subst (IsSolving nodes all done) (gone k rest l) i
  where
    gone : (n : ℕ) (xs : List Stored) → length xs ≤ n → drop n xs ≡ []
    gone zero [] h = refl
    gone (suc n) [] h = refl
    gone zero (x ∷ xs) h = absurd (omega arith)
    gone (suc n) (x ∷ xs) h = gone n xs (omega arith)

-- the last one is taken off again

same_front : (xs ys : List Stored) (s t : Stored) → xs ++ s ∷ [] ≡ ys ++ t ∷ [] → xs ≡ ys
same_front [] [] s t e = refl
same_front [] (y ∷ []) s t e = cc
same_front [] (y ∷ z ∷ ys) s t e = cc
same_front (x ∷ []) [] s t e = cc
same_front (x ∷ z ∷ xs) [] s t e = cc
same_front (x ∷ xs) (y ∷ ys) s t e =
    let a : x ≡ y = cc in
    let b : xs ++ s ∷ [] ≡ ys ++ t ∷ [] = cc in
    λ i. a i ∷ same_front xs ys s t b i

pub popped : (xs ys : List Stored) (s : Stored) (o : Option Stored) → xs ++ s ∷ [] ≡ ys ++ option_to_list o → IsSome o → xs ≡ ys
popped xs ys s None e h = let z : false ≡ true = h in absurd cc
popped xs ys s (Some t) e h = same_front xs ys s t e
