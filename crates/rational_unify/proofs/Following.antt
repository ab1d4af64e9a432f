-- What was followed holds over other bindings that give the followed variables the same.
use Rattle.std.proofs.Common.{◌≡◌, [], ◌∷◌, List, ◌++◌, length, Option, Some, None, refl, sym, ◌∙◌, ap, subst, append_assoc}
use Rattle.akl_terms.specs.declared.name.Var.{Var}
use Rattle.akl_terms.specs.declared.term.Node.{Node}
use Rattle.akl_terms.specs.declared.term.Term.{Term}
use Rattle.akl_terms.specs.declared.term.Seen.{Seen}
use Rattle.akl_terms.specs.declared.term.Seen.TheVariants.{Free}
use Rattle.akl_terms.specs.declared.term.Equation as code
use Rattle.akl_terms.specs.Tree.{Tree, variable}
use Rattle.akl_terms.specs.Template.{tree, seen_of}
use Rattle.rational_unify.specs.Known.{found_in, bound_in, next_seen, IsSolved, end_of}
use Rattle.rational_unify.specs.Older.{KeepsOlder}
use Rattle.rational_unify.specs.Shortened.{Rebinds, KeepsEnds}
use Rattle.rational_unify.specs.Followed.{AgreeOn, LeadsAlong, start, on, IsPath, headed, free, ReboundAll, unchanged, rebound, Follows, Settles}
use Rattle.rational_unify.specs.Solving.{bindings_in, BindNew}
use Rattle.akl_terms.specs.Equal.{IsTold}
use Rattle.akl_terms.specs.Solved.{IsBound, bound}
use Rattle.rational_unify.proofs.Walks.{walk-bound}
use Rattle.rational_unify.proofs.Chains.{found-first, found-second, next_walks, no_next_stays, BindNew-bound}
use Rattle.rational_unify.proofs.Ends.{free-tree}
use Rattle.rational_unify.proofs.OlderEnds.{rebound-older}
use Rattle.rational_unify.proofs.Shortening.{rebound-keeps, KeepsEnds-refl, KeepsEnds-on, KeepsEnds-new}

pub AgreeOn-refl : (xs : List Var) (bs : List (Var × Term)) → AgreeOn xs bs bs
AgreeOn-refl [] bs = tt
AgreeOn-refl (x ∷ xs) bs = (refl, AgreeOn-refl xs bs)

pub AgreeOn-left : (xs ys : List Var) (bs cs : List (Var × Term)) → AgreeOn (xs ++ ys) bs cs → AgreeOn xs bs cs
AgreeOn-left [] ys bs cs a = tt
AgreeOn-left (x ∷ xs) ys bs cs a = (a.0, AgreeOn-left xs ys bs cs a.1)

pub AgreeOn-right : (xs ys : List Var) (bs cs : List (Var × Term)) → AgreeOn (xs ++ ys) bs cs → AgreeOn ys bs cs
AgreeOn-right [] ys bs cs a = a
AgreeOn-right (x ∷ xs) ys bs cs a = AgreeOn-right xs ys bs cs a.1

-- with the same bindings added
agree_both : (bs cs added : List (Var × Term)) (x : Var) → found_in bs x ≡ found_in cs x → found_in (bs ++ added) x ≡ found_in (cs ++ added) x
agree_both bs cs added x e = at (found_in bs x) refl
  where
    at : (o : Option Term) → found_in bs x ≡ o → found_in (bs ++ added) x ≡ found_in (cs ++ added) x
    at None p = found-second bs added x p ∙ sym (found-second cs added x (sym e ∙ p))
    at (Some t) p = found-first bs added x t p ∙ sym (found-first cs added x t (sym e ∙ p))

pub AgreeOn-both : (xs : List Var) (bs cs added : List (Var × Term)) → AgreeOn xs bs cs → AgreeOn xs (bs ++ added) (cs ++ added)
AgreeOn-both [] bs cs added a = tt
AgreeOn-both (x ∷ xs) bs cs added a = (agree_both bs cs added x a.0, AgreeOn-both xs bs cs added a.1)

LeadsAlong-agree : (nodes : List Node) (bs cs : List (Var × Term)) (t : Term) (xs : List Var) (s : Term) → AgreeOn xs bs cs → LeadsAlong nodes bs t xs s → LeadsAlong nodes cs t xs s
LeadsAlong-agree nodes bs cs t xs s a start = start
LeadsAlong-agree nodes bs cs t xs s a (on {xs = ys} {s = r} {x = x} l p q) =
    on (LeadsAlong-agree nodes bs cs t ys r (AgreeOn-left ys (x ∷ []) bs cs a) l) p (sym (AgreeOn-right ys (x ∷ []) bs cs a).0 ∙ q)

IsPath-agree : (nodes : List Node) (bs cs : List (Var × Term)) (t : Term) (xs : List Var) (s : Term) → AgreeOn xs bs cs → IsPath nodes bs t xs s → IsPath nodes cs t xs s
IsPath-agree nodes bs cs t xs s a (headed l n) = headed (LeadsAlong-agree nodes bs cs t xs s a l) n
IsPath-agree nodes bs cs t xs s a (free {xs = ys} {x = x} l p q) =
    free (LeadsAlong-agree nodes bs cs t ys s (AgreeOn-left ys (x ∷ []) bs cs a) l) p (sym (AgreeOn-right ys (x ∷ []) bs cs a).0 ∙ q)

-- the chains of these variables end where the tree's does
abbrev EndWith : List Node → List (Var × Term) → Tree → List Var → Type 0
EndWith nodes bs t [] = Unit {0}
EndWith nodes bs t (x ∷ xs) = (end_of nodes bs (variable x) ≡ end_of nodes bs t) × EndWith nodes bs t xs

EndWith-push : (nodes : List Node) (bs : List (Var × Term)) (t : Tree) (xs : List Var) (x : Var) → EndWith nodes bs t xs → end_of nodes bs (variable x) ≡ end_of nodes bs t → EndWith nodes bs t (xs ++ x ∷ [])
EndWith-push nodes bs t [] x h e = (e, tt)
EndWith-push nodes bs t (y ∷ xs) x h e = (h.0, EndWith-push nodes bs t xs x h.1 e)

EndWith-but_last : (nodes : List Node) (bs : List (Var × Term)) (t : Tree) (xs : List Var) (x : Var) → EndWith nodes bs t (xs ++ x ∷ []) → EndWith nodes bs t xs × (end_of nodes bs (variable x) ≡ end_of nodes bs t)
EndWith-but_last nodes bs t [] x h = (tt, h.0)
EndWith-but_last nodes bs t (y ∷ xs) x h = ((h.0, (EndWith-but_last nodes bs t xs x h.1).0), (EndWith-but_last nodes bs t xs x h.1).1)

LeadsAlong-ends : (nodes : List Node) (bs : List (Var × Term)) (t : Term) (xs : List Var) (s : Term) → IsSolved nodes bs → LeadsAlong nodes bs t xs s
    → (end_of nodes bs (tree nodes s) ≡ end_of nodes bs (tree nodes t)) × EndWith nodes bs (tree nodes t) xs
LeadsAlong-ends nodes bs t xs s h start = (refl, tt)
LeadsAlong-ends nodes bs t xs u h (on {xs = ys} {s = s} {x = x} l p q) =
    let low : (end_of nodes bs (tree nodes s) ≡ end_of nodes bs (tree nodes t)) × EndWith nodes bs (tree nodes t) ys = LeadsAlong-ends nodes bs t ys s h l in (
      sym (next_walks nodes bs s u h (ap (next_seen bs) (sym p) ∙ q)) ∙ low.0,
      EndWith-push nodes bs (tree nodes t) ys x low.1 (ap (end_of nodes bs) (sym (free-tree nodes s x p)) ∙ low.0),
    )

pub path-ends : (nodes : List Node) (bs : List (Var × Term)) (t : Term) (xs : List Var) (s : Term) → IsSolved nodes bs → IsPath nodes bs t xs s
    → (tree nodes s ≡ end_of nodes bs (tree nodes t)) × EndWith nodes bs (tree nodes t) xs
path-ends nodes bs t xs s h (headed l n) =
    let low : (end_of nodes bs (tree nodes s) ≡ end_of nodes bs (tree nodes t)) × EndWith nodes bs (tree nodes t) xs = LeadsAlong-ends nodes bs t xs s h l in
    (no_next_stays nodes bs s (nothing (seen_of nodes s) refl) ∙ low.0, low.1)
  where
    nothing : (k : Seen) → seen_of nodes s ≡ k → next_seen bs k ≡ None
    nothing (Free x) e = absurd (n x e)
    nothing (Seen.Int z) e = refl
    nothing (Seen.Port z) e = refl
    nothing (Seen.Struct a b c d) e = refl
path-ends nodes bs t xs s h (free {xs = ys} {x = x} l p q) =
    let low : (end_of nodes bs (tree nodes s) ≡ end_of nodes bs (tree nodes t)) × EndWith nodes bs (tree nodes t) ys = LeadsAlong-ends nodes bs t ys s h l in (
      no_next_stays nodes bs s (ap (next_seen bs) (sym p) ∙ q) ∙ low.0,
      EndWith-push nodes bs (tree nodes t) ys x low.1 (ap (end_of nodes bs) (sym (free-tree nodes s x p)) ∙ low.0),
    )

ReboundAll-keeps : (nodes : List Node) (known old : List (Var × Term)) (t : Tree) (u : Term) (xs : List Var) (new : List (Var × Term)) → IsSolved nodes (known ++ old)
    → tree nodes u ≡ end_of nodes (known ++ old) t → EndWith nodes (known ++ old) t xs → ReboundAll u old xs new → KeepsEnds nodes known old new
ReboundAll-keeps nodes known old t u xs new h e w unchanged = KeepsEnds-refl nodes known old h
ReboundAll-keeps nodes known old t u xs new h e w (rebound {xs = ys} {cur = cur} {x = x} all r) =
    let b : EndWith nodes (known ++ old) t ys × (end_of nodes (known ++ old) (variable x) ≡ end_of nodes (known ++ old) t) = EndWith-but_last nodes (known ++ old) t ys x w in
    let k : KeepsEnds nodes known old cur = ReboundAll-keeps nodes known old t u ys cur h e b.0 all in
    KeepsEnds-on nodes known old cur new k (rebound-keeps nodes known cur new x u k.solved r (e ∙ sym b.1 ∙ sym (k.ends (variable x))))

ReboundAll-older : (nodes : List Node) (known old : List (Var × Term)) (t : Tree) (u : Term) (xs : List Var) (new : List (Var × Term)) → IsSolved nodes (known ++ old)
    → tree nodes u ≡ end_of nodes (known ++ old) t → EndWith nodes (known ++ old) t xs → ReboundAll u old xs new → KeepsOlder nodes (known ++ old) (known ++ new)
ReboundAll-older nodes known old t u xs new h e w unchanged o = o
ReboundAll-older nodes known old t u xs new h e w (rebound {xs = ys} {cur = cur} {x = x} all r) o =
    let b : EndWith nodes (known ++ old) t ys × (end_of nodes (known ++ old) (variable x) ≡ end_of nodes (known ++ old) t) = EndWith-but_last nodes (known ++ old) t ys x w in
    let k : KeepsEnds nodes known old cur = ReboundAll-keeps nodes known old t u ys cur h e b.0 all in
    rebound-older nodes known cur new x u k.solved r (e ∙ sym b.1 ∙ sym (k.ends (variable x))) (ReboundAll-older nodes known old t u ys cur h e b.0 all o)

EndWith-left : (nodes : List Node) (bs : List (Var × Term)) (t : Tree) (xs ys : List Var) → EndWith nodes bs t (xs ++ ys) → EndWith nodes bs t xs
EndWith-left nodes bs t [] ys h = tt
EndWith-left nodes bs t (x ∷ xs) ys h = (h.0, EndWith-left nodes bs t xs ys h.1)

-- what was followed over known bindings holds over others that give the same on the path
module _ (nodes : List Node) (known other : List (Var × Term)) (t : Term) (old new : List (Var × Term)) (followed followed' : List Var) (end : Term)
    (f : Follows nodes known t old new followed followed' end) (h : IsSolved nodes (other ++ old)) (a : AgreeOn f.path known other) where
  ends_there : (tree nodes end ≡ end_of nodes (other ++ old) (tree nodes t)) × EndWith nodes (other ++ old) (tree nodes t) f.path
  ends_there = path-ends nodes (other ++ old) t f.path end h (IsPath-agree nodes (known ++ old) (other ++ old) t f.path end (AgreeOn-both f.path known other old a) f.leads)

  firsts_end : EndWith nodes (other ++ old) (tree nodes t) f.first
  firsts_end = EndWith-left nodes (other ++ old) (tree nodes t) f.first f.others (subst (EndWith nodes (other ++ old) (tree nodes t)) f.parts ends_there.1)

  pub follows-keeps : KeepsEnds nodes other old new
  follows-keeps = ReboundAll-keeps nodes other old (tree nodes t) end f.first new h ends_there.0 firsts_end f.rebound_by

  pub follows-end : tree nodes end ≡ end_of nodes (other ++ old) (tree nodes t)
  follows-end = ends_there.0

  pub follows-older : KeepsOlder nodes (other ++ old) (other ++ new)
  follows-older = ReboundAll-older nodes other old (tree nodes t) end f.first new h ends_there.0 firsts_end f.rebound_by

-- both terms of an equation were followed to their ends
pub record EndsOf (nodes : List Node) (known old new : List (Var × Term)) (pair : code.Equation) (left right : Term) : Type 0 where
  pub keeps : KeepsEnds nodes known old new
  pub at_left : tree nodes left ≡ end_of nodes (known ++ new) (tree nodes pair.left)
  pub at_right : tree nodes right ≡ end_of nodes (known ++ new) (tree nodes pair.right)

module _ (nodes : List Node) (known : List (Var × Term)) (pair : code.Equation) (old cur new : List (Var × Term)) (f f' f'' : List Var) (left right : Term)
    (l : Follows nodes known pair.left old cur f f' left) (r : Follows nodes known pair.right cur new f' f'' right) where
  pub sides-agree : (other : List (Var × Term)) → AgreeOn f'' known other → AgreeOn f known other × (AgreeOn l.path known other × AgreeOn r.path known other)
  sides-agree other a =
      let b : AgreeOn (f' ++ r.path) known other = subst (λ (xs : List Var). AgreeOn xs known other) r.followed_by a in
      let c : AgreeOn (f ++ l.path) known other = subst (λ (xs : List Var). AgreeOn xs known other) l.followed_by (AgreeOn-left f' r.path known other b) in
      (AgreeOn-left f l.path known other c, (AgreeOn-right f l.path known other c, AgreeOn-right f' r.path known other b))

  pub sides-end : (other : List (Var × Term)) → IsSolved nodes (other ++ old) → AgreeOn f'' known other → EndsOf nodes other old new pair left right
  sides-end other h a =
      let w : AgreeOn f known other × (AgreeOn l.path known other × AgreeOn r.path known other) = sides-agree other a in
      let k : KeepsEnds nodes other old cur = follows-keeps nodes known other pair.left old cur f f' left l h w.1.0 in
      let m : KeepsEnds nodes other cur new = follows-keeps nodes known other pair.right cur new f' f'' right r k.solved w.1.1 in
      record {
        keeps = KeepsEnds-on nodes other old cur new k m;
        at_left = follows-end nodes known other pair.left old cur f f' left l h w.1.0 ∙ sym (k.ends (tree nodes pair.left)) ∙ sym (m.ends (tree nodes pair.left));
        at_right = follows-end nodes known other pair.right cur new f' f'' right r k.solved w.1.1 ∙ sym (m.ends (tree nodes pair.right));
      }

  pub sides-older : (other : List (Var × Term)) → IsSolved nodes (other ++ old) → AgreeOn f'' known other → KeepsOlder nodes (other ++ old) (other ++ new)
  sides-older other h a o =
      let w : AgreeOn f known other × (AgreeOn l.path known other × AgreeOn r.path known other) = sides-agree other a in
      let k : KeepsEnds nodes other old cur = follows-keeps nodes known other pair.left old cur f f' left l h w.1.0 in
      follows-older nodes known other pair.right cur new f' f'' right r k.solved w.1.1 (follows-older nodes known other pair.left old cur f f' left l h w.1.0 o)

-- the chain of an added binding's variable ends where its term's does
pub added-end : (nodes : List Node) (known added : List (Var × Term)) (x : Var) (t : Term) → IsTold (bindings_in nodes added) (variable x) (tree nodes t) → IsSolved nodes (known ++ added)
    → BindNew known added → end_of nodes (known ++ added) (variable x) ≡ end_of nodes (known ++ added) (tree nodes t)
added-end nodes known added x t m h n = bound-end (BindNew-bound nodes known added (variable x) (tree nodes t) n m)
  where
    bound-end : {b c : Tree} → IsBound (bound_in nodes (known ++ added)) b c → end_of nodes (known ++ added) b ≡ end_of nodes (known ++ added) c
    bound-end (bound {x = y} {t = u} e) = walk-bound (bound_in nodes (known ++ added)) (length (known ++ added)) y u h.ends e

-- the chain of an added binding's term was followed
module _ (nodes : List Node) (known other cur mid new : List (Var × Term)) (f f' : List Var) (x : Var) (t end : Term) (l : Follows nodes known t cur mid f f' end) (r : Rebinds mid new x end)
    (m : IsTold (bindings_in nodes cur) (variable x) (tree nodes t)) (h : IsSolved nodes (other ++ cur)) (n : BindNew other cur) (a : AgreeOn l.path known other) where
  followed : KeepsEnds nodes other cur mid
  followed = follows-keeps nodes known other t cur mid f f' end l h a

  binding-end : tree nodes end ≡ end_of nodes (other ++ mid) (variable x)
  binding-end = follows-end nodes known other t cur mid f f' end l h a ∙ sym (added-end nodes other cur x t m h n) ∙ sym (followed.ends (variable x))

  settled-keeps : KeepsEnds nodes other cur new
  settled-keeps = KeepsEnds-on nodes other cur mid new followed (rebound-keeps nodes other mid new x end followed.solved r binding-end)

  pub settled-older : KeepsOlder nodes (other ++ cur) (other ++ new)
  settled-older o = rebound-older nodes other mid new x end followed.solved r binding-end (follows-older nodes known other t cur mid f f' end l h a o)

-- one more binding leads to the end of its chain
pub Settles-on : (nodes : List Node) (known old cur mid new : List (Var × Term)) (f f' f'' : List Var) (x : Var) (t end : Term) → Settles nodes known old cur f f'
    → IsTold (bindings_in nodes cur) (variable x) (tree nodes t) → Follows nodes known t cur mid f' f'' end → Rebinds mid new x end → Settles nodes known old new f f''
Settles-on nodes known old cur mid new f f' f'' x t end s m l r = record {
  path = s.path ++ l.path;
  followed_by = l.followed_by ∙ ap (λ (xs : List Var). xs ++ l.path) s.followed_by ∙ append_assoc f s.path l.path;
  keeps = keeps;
}
  where
    keeps : (other : List (Var × Term)) → IsSolved nodes (other ++ old) → BindNew other old → AgreeOn (s.path ++ l.path) known other → KeepsEnds nodes other old new
    keeps other h n a =
        let k : KeepsEnds nodes other old cur = s.keeps other h n (AgreeOn-left s.path l.path known other a) in
        KeepsEnds-on nodes other old cur new k
        (settled-keeps nodes known other cur mid new f' f'' x t end l r m k.solved (KeepsEnds-new nodes other old cur k n) (AgreeOn-right s.path l.path known other a))
