-- Terms that correspond, each under its own equations, print alike; so the text of a tree depends on its class alone.
use Rattle.std.proofs.Common.{◌≡◌, ℕ, suc, List, [], ◌∷◌, ◌++◌, length, Some, false, refl, sym, ◌∙◌, ap, subst, arith}
use Rattle.std.specs.Prelude.{slice_get}
use Rattle.akl_terms.specs.Tree.{Tree, Trees, variable, integer, port, symbol, none, more, list_of, Head, head_of, integer_head, port_head, symbol_head, arguments}
use Rattle.akl_terms.specs.Equal.{Equations, Equal, same, turned, joined, inside, IsConsistent}
use Rattle.akl_terms.specs.Template.{Template, tree}
use Rattle.akl_terms.proofs.Arguments.{same_value}
use Rattle.constraint_laws.proofs.ValuesGrow.{integer_of, port_of}
use Rattle.answer_text.specs.SymbolText.{symbol_text}
use Rattle.answer_text.specs.Printed.{IsFree, IsNumbered, first, here, later, is_cell, IsOtherTail, Prints, class, number, a_port, constant, compound, cell, PrintsAll, last, next, PrintsTail, ends, element, partial, PrintsLines, no_lines, line}
use Rattle.answer_text.specs.Pieces.{Rest, lines, byte, whole, tail}
use Rattle.answer_text.specs.declared.piece.Piece.{Piece}

-- two lists of trees that R relates one by one
abbrev pub Alike : (Tree → Tree → Type 0) → List Tree → List Tree → Type 0
Alike R [] [] = Unit {0}
Alike R [] (y ∷ ys) = ⊥
Alike R (x ∷ xs) [] = ⊥
Alike R (x ∷ xs) (y ∷ ys) = R x y × Alike R xs ys

pub Alike-refl : (E : Equations) (xs : List Tree) → Alike (Equal E) xs xs
Alike-refl E [] = tt
Alike-refl E (x ∷ xs) = (same, Alike-refl E xs)

-- the same of arguments
abbrev pub AlikeTrees : (Tree → Tree → Type 0) → Trees → Trees → Type 0
AlikeTrees R none none = Unit {0}
AlikeTrees R none (more t ts) = ⊥
AlikeTrees R (more t ts) none = ⊥
AlikeTrees R (more t ts) (more u us) = R t u × AlikeTrees R ts us

-- arguments that are related position by position
pub AlikeTrees-each : (R : Tree → Tree → Type 0) (ts us : Trees) → length (list_of ts) ≡ length (list_of us)
    → ((k : ℕ) (a b : Tree) → slice_get (list_of ts) k ≡ Some a → slice_get (list_of us) k ≡ Some b → R a b) → AlikeTrees R ts us
AlikeTrees-each R none none l f = tt
AlikeTrees-each R none (more u us) l f = absurd (omega (arith, l))
AlikeTrees-each R (more t ts) none l f = absurd (omega (arith, l))
AlikeTrees-each R (more t ts) (more u us) l f = (f 0 t u refl refl, AlikeTrees-each R ts us (omega (arith, l)) (λ k a b p q. f (suc k) a b p q))

-- two equal symbols are one symbol, with equal arguments
pub record IsOneSymbol (E : Equations) (f g : ℕ) (ts us : Trees) : Type 0 where
  pub symbols : f ≡ g
  pub arguments : AlikeTrees (Equal E) ts us

pub one_symbol : (E : Equations) → IsConsistent E → (f g : ℕ) (ts us : Trees) → Equal E (symbol f ts) (symbol g us) → IsOneSymbol E f g ts us
one_symbol E c f g ts us e =
    let heads : symbol_head f (length (list_of ts)) ≡ symbol_head g (length (list_of us)) = c.heads e refl refl in
    let lengths : length (list_of ts) ≡ length (list_of us) = cc in
    record {
      symbols = cc;
      arguments = AlikeTrees-each (Equal E) ts us lengths (λ k a b p q. inside {h = symbol_head g (length (list_of us))} k e (ap Some heads) refl p q);
    }

-- related trees have one number among those that are alike
pub numbered-one : (R : Tree → Tree → Type 0) → ((s t : Tree) → R s t → R t s) → ((s t u : Tree) → R s t → R t u → R s u) → {seen seen' new new' : List Tree} {s s' : Tree} {k k' : ℕ}
    → IsNumbered R seen s k new → IsNumbered R seen' s' k' new' → Alike R seen seen' → R s s' → (k ≡ k') × Alike R new new'
numbered-one R back on (first e) (first e') a q = (refl, (on _ _ _ (back _ _ e) (on _ _ _ q e'), tt))
numbered-one R back on (first e) (here e') a q = absurd a
numbered-one R back on (first e) (later n m) a q = absurd a
numbered-one R back on (here e) (first e') a q = absurd a
numbered-one R back on (here e) (here e') a q = (refl, a)
numbered-one R back on (here e) (later n m) a q = absurd (n (on _ _ _ (back _ _ q) (on _ _ _ e a.0)))
numbered-one R back on (later n m) (first e') a q = absurd a
numbered-one R back on (later n m) (here e') a q = absurd (n (on _ _ _ q (on _ _ _ e' (back _ _ a.0))))
numbered-one R back on (later n m) (later n' m') a q = let r : (_ ≡ _) × Alike R _ _ = numbered-one R back on m m' a.1 q in (ap suc r.0, (a.0, r.1))

pub is_cell-alike : (R : Tree → Tree → Type 0) (name : List ℕ) (ts us : Trees) → AlikeTrees R ts us → is_cell name ts ≡ is_cell name us
is_cell-alike R name none none a = refl
is_cell-alike R name none (more u us) a = absurd a
is_cell-alike R name (more t ts) none a = absurd a
is_cell-alike R name (more t none) (more u none) a = refl
is_cell-alike R name (more t none) (more u (more v vs)) a = absurd a.1
is_cell-alike R name (more t (more w ws)) (more u none) a = absurd a.1
is_cell-alike R name (more t (more w none)) (more u (more v none)) a = refl
is_cell-alike R name (more t (more w none)) (more u (more v (more y ys))) a = absurd a.1.1
is_cell-alike R name (more t (more w (more z zs))) (more u (more v none)) a = absurd a.1.1
is_cell-alike R name (more t (more w (more z zs))) (more u (more v (more y ys))) a = refl

pub free-alike : (E : Equations) (s s' : Tree) → Equal E s s' → IsFree E s → IsFree E s'
free-alike E s s' q f = record { free = λ t h e i. f.free t h (joined q e) i }

pub other-alike : (symbols : List (List ℕ)) (E : Equations) (s s' : Tree) → Equal E s s' → IsOtherTail symbols E s → IsOtherTail symbols E s'
other-alike symbols E s s' q o = record { other = λ f ts e g. o.other f ts (joined q e) g }

-- a term with a head that another is equal to, and how its arguments are related to those of a term
pub record Counterpart (F : Equations) (R : Tree → Tree → Type 0) (u t : Tree) (h : Head) : Type 0 where
  pub other : Tree
  pub equal : Equal F t other
  pub head : head_of other ≡ Some h
  pub each : (k : ℕ) (a b : Tree) → slice_get (arguments u) k ≡ Some a → slice_get (arguments other) k ≡ Some b → R a b

-- what a term is under the equations E, a term that R relates it to is under F
pub record Corresponds (symbols : List (List ℕ)) (E F : Equations) (R : Tree → Tree → Type 0) : Type 0 where
  pub itself : (t : Tree) → R t t
  pub headed : (s t u : Tree) (h : Head) → R s t → Equal E s u → head_of u ≡ Some h → Counterpart F R u t h
  pub free : (s t : Tree) → R s t → IsFree E s → IsFree F t
  pub other : (s t : Tree) → R s t → IsOtherTail symbols E s → IsOtherTail symbols F t
  -- the classes of variables
  pub from : (s t x : Tree) → R s t → Equal E s x → R x t
  pub to : (s t x y : Tree) → IsFree E s → R s t → R x y → Equal E s x → Equal F t y
  pub back : (s t x y : Tree) → IsFree E s → R s t → R x y → Equal F t y → Equal E s x

-- equal terms correspond
pub equals-correspond : (symbols : List (List ℕ)) (E : Equations) → Corresponds symbols E E (Equal E)
equals-correspond symbols E = record {
  itself = λ t. same;
  headed = λ s t u h q e i. record { other = u; equal = joined (turned q) e; head = i; each = λ k a b p r. subst (λ (z : Tree). Equal E a z) (same_value p r) same };
  free = free-alike E;
  other = other-alike symbols E;
  from = λ s t x q e. joined (turned e) q;
  to = λ s t x y f q r e. joined (turned q) (joined e r);
  back = λ s t x y f q r e. joined q (joined e (turned r));
}

-- a symbol that a term is equal to, with arguments that are related
pub record IsSymbol (F : Equations) (R : Tree → Tree → Type 0) (t : Tree) (f : ℕ) (ts : Trees) : Type 0 where
  pub arguments : Trees
  pub equal : Equal F t (symbol f arguments)
  pub alike : AlikeTrees R ts arguments

pub symbol_by : (F : Equations) (R : Tree → Tree → Type 0) (t : Tree) (f : ℕ) (ts : Trees) (v : Tree) → Equal F t v → head_of v ≡ Some (symbol_head f (length (list_of ts)))
    → ((k : ℕ) (a b : Tree) → slice_get (list_of ts) k ≡ Some a → slice_get (arguments v) k ≡ Some b → R a b) → IsSymbol F R t f ts
symbol_by F R t f ts (variable x) e i r = cc
symbol_by F R t f ts (integer z) e i r = cc
symbol_by F R t f ts (port p) e i r = cc
symbol_by F R t f ts (symbol g us) e i r =
    let heads : symbol_head g (length (list_of us)) ≡ symbol_head f (length (list_of ts)) = same_value refl i in
    let numbers : g ≡ f = cc in
    let lengths : length (list_of ts) ≡ length (list_of us) = cc in
    record { arguments = us; equal = subst (λ (k : ℕ). Equal F t (symbol k us)) numbers e; alike = AlikeTrees-each R ts us lengths r }

pub no_others : (R : Tree → Tree → Type 0) (us : Trees) → AlikeTrees R none us → us ≡ none
no_others R none a = refl
no_others R (more u us) a = absurd a

-- two arguments and those related to them
pub record IsPair (R : Tree → Tree → Type 0) (t u : Tree) (us : Trees) : Type 0 where
  pub one : Tree
  pub other : Tree
  pub are : us ≡ more one (more other none)
  pub first : R t one
  pub second : R u other

pub pair_by : (R : Tree → Tree → Type 0) (t u : Tree) (us : Trees) → AlikeTrees R (more t (more u none)) us → IsPair R t u us
pair_by R t u none a = absurd a
pair_by R t u (more v none) a = absurd a.1
pair_by R t u (more v (more w none)) a = record { one = v; other = w; are = refl; first = a.0; second = a.1.0 }
pair_by R t u (more v (more w (more x xs))) a = absurd a.1.1

-- what is printed of a term is printed of one that corresponds, behind alike classes
module _ (symbols : List (List ℕ)) (E F : Equations) (R : Tree → Tree → Type 0) (m : Corresponds symbols E F R) where
  pub symbol-there : (s t : Tree) (f : ℕ) (ts : Trees) → R s t → Equal E s (symbol f ts) → IsSymbol F R t f ts
  symbol-there s t f ts q e =
      let w : Counterpart F R (symbol f ts) t (symbol_head f (length (list_of ts))) = m.headed s t (symbol f ts) (symbol_head f (length (list_of ts))) q e refl in
      symbol_by F R t f ts w.other w.equal w.head w.each

  pub numbered-there : (seen new seen' : List Tree) (s t : Tree) (k : ℕ) → IsFree E s → IsNumbered (Equal E) seen s k new → Alike R seen seen' → R s t
      → (new' : List Tree) × IsNumbered (Equal F) seen' t k new' × Alike R new new'
  numbered-there [] new [] s t k f (first {x = x} e) a q = (t ∷ [], first same, (m.from s t x q e, tt))
  numbered-there [] new (y ∷ ys) s t k f (first e) a q = absurd a
  numbered-there (x ∷ xs) new [] s t k f (here e) a q = absurd a
  numbered-there (x ∷ xs) new (y ∷ ys) s t k f (here e) a q = (y ∷ ys, here (m.to s t x y f q a.0 e), a)
  numbered-there (x ∷ xs) new [] s t k f (later n d) a q = absurd a
  numbered-there (x ∷ xs) new (y ∷ ys) s t k f (later n d) a q =
      let r : (new' : List Tree) × IsNumbered (Equal F) ys t _ new' × Alike R _ new' = numbered-there xs _ ys s t _ f d a.1 q in
      (y ∷ r.0, later (λ e. n (m.back s t x y f q a.0 e)) r.1, (a.0, r.2))

  compound-there : (seen new : List Tree) (s u : Tree) (f : ℕ) (name text : List ℕ) (ts us : Trees) → AlikeTrees R (more u ts) us → Equal F s (symbol f us) → slice_get symbols f ≡ Some name
      → is_cell name (more u ts) ≡ false → PrintsAll symbols F seen us text new → Prints symbols F seen s (symbol_text name ++ 40 ∷ text ++ 41 ∷ []) new
  compound-there seen new s u f name text ts none a e n c p = absurd a
  compound-there seen new s u f name text ts (more v vs) a e n c p = compound e n (sym (is_cell-alike R name (more u ts) (more v vs) a) ∙ c) p

  mutual
    pub prints-there : (seen new seen' : List Tree) (s t : Tree) (text : List ℕ) → Prints symbols E seen s text new → Alike R seen seen' → R s t
        → (new' : List Tree) × Prints symbols F seen' t text new' × Alike R new new'
    prints-there seen new seen' s t text (class f d) a q =
        let r : (new' : List Tree) × IsNumbered (Equal F) seen' t _ new' × Alike R new new' = numbered-there seen new seen' s t _ f d a q in
        (r.0, class (m.free s t q f) r.1, r.2)
    prints-there seen new seen' s t text (number {z = z} e) a q =
        let w : Counterpart F R (integer z) t (integer_head z) = m.headed s t (integer z) (integer_head z) q e refl in
        (seen', number (subst (λ (v : Tree). Equal F t v) (integer_of w.other z w.head) w.equal), a)
    prints-there seen new seen' s t text (a_port {p = p} e) a q =
        let w : Counterpart F R (port p) t (port_head p) = m.headed s t (port p) (port_head p) q e refl in
        (seen', a_port (subst (λ (v : Tree). Equal F t v) (port_of w.other p w.head) w.equal), a)
    prints-there seen new seen' s t text (constant {f = f} e n) a q =
        let w : IsSymbol F R t f none = symbol-there s t f none q e in
        (seen', constant (subst (λ (us : Trees). Equal F t (symbol f us)) (no_others R w.arguments w.alike) w.equal) n, a)
    prints-there seen new seen' s t text (compound {t = u} {ts = ts} {f = f} {name = name} e n c p) a q =
        let w : IsSymbol F R t f (more u ts) = symbol-there s t f (more u ts) q e in
        let r : (new' : List Tree) × PrintsAll symbols F seen' w.arguments _ new' × Alike R new new' = all-there seen new seen' (more u ts) w.arguments _ p a w.alike in
        (r.0, compound-there seen' r.0 t u f name _ ts w.arguments w.alike w.equal n c r.1, r.2)
    prints-there seen new seen' s t text (cell {middle = middle} {t = u} {u = v} {f = f} e n p r) a q =
        let w : IsSymbol F R t f (more u (more v none)) = symbol-there s t f (more u (more v none)) q e in
        let d : IsPair R u v w.arguments = pair_by R u v w.arguments w.alike in
        let x : (new' : List Tree) × Prints symbols F seen' d.one _ new' × Alike R middle new' = prints-there seen middle seen' u d.one _ p a d.first in
        let y : (new' : List Tree) × PrintsTail symbols F x.0 d.other _ new' × Alike R new new' = tail-there middle new x.0 v d.other _ r x.2 d.second in
        (y.0, cell (subst (λ (us : Trees). Equal F t (symbol f us)) d.are w.equal) n x.1 y.1, y.2)

    pub all-there : (seen new seen' : List Tree) (ts us : Trees) (text : List ℕ) → PrintsAll symbols E seen ts text new → Alike R seen seen' → AlikeTrees R ts us
        → (new' : List Tree) × PrintsAll symbols F seen' us text new' × Alike R new new'
    all-there seen new seen' ts none text (last p) a q = absurd q
    all-there seen new seen' ts (more u none) text (last {t = t} p) a q =
        let r : (new' : List Tree) × Prints symbols F seen' u text new' × Alike R new new' = prints-there seen new seen' t u text p a q.0 in
        (r.0, last r.1, r.2)
    all-there seen new seen' ts (more u (more v vs)) text (last p) a q = absurd q.1
    all-there seen new seen' ts none text (next p ps) a q = absurd q
    all-there seen new seen' ts (more v none) text (next p ps) a q = absurd q.1
    all-there seen new seen' ts (more v (more w ws)) text (next {middle = middle} {t = t} {u = u} {ts = rest} p ps) a q =
        let r : (new' : List Tree) × Prints symbols F seen' v _ new' × Alike R middle new' = prints-there seen middle seen' t v _ p a q.0 in
        let z : (new' : List Tree) × PrintsAll symbols F r.0 (more w ws) _ new' × Alike R new new' = all-there middle new r.0 (more u rest) (more w ws) _ ps r.2 q.1 in
        (z.0, next r.1 z.1, z.2)

    pub tail-there : (seen new seen' : List Tree) (s t : Tree) (text : List ℕ) → PrintsTail symbols E seen s text new → Alike R seen seen' → R s t
        → (new' : List Tree) × PrintsTail symbols F seen' t text new' × Alike R new new'
    tail-there seen new seen' s t text (ends {f = f} e n) a q =
        let w : IsSymbol F R t f none = symbol-there s t f none q e in
        (seen', ends (subst (λ (us : Trees). Equal F t (symbol f us)) (no_others R w.arguments w.alike) w.equal) n, a)
    tail-there seen new seen' s t text (element {middle = middle} {t = u} {u = v} {f = f} e n p r) a q =
        let w : IsSymbol F R t f (more u (more v none)) = symbol-there s t f (more u (more v none)) q e in
        let d : IsPair R u v w.arguments = pair_by R u v w.arguments w.alike in
        let x : (new' : List Tree) × Prints symbols F seen' d.one _ new' × Alike R middle new' = prints-there seen middle seen' u d.one _ p a d.first in
        let y : (new' : List Tree) × PrintsTail symbols F x.0 d.other _ new' × Alike R new new' = tail-there middle new x.0 v d.other _ r x.2 d.second in
        (y.0, element (subst (λ (us : Trees). Equal F t (symbol f us)) d.are w.equal) n x.1 y.1, y.2)
    tail-there seen new seen' s t text (partial o p) a q =
        let r : (new' : List Tree) × Prints symbols F seen' t _ new' × Alike R new new' = prints-there seen new seen' s t _ p a q in
        (r.0, partial (m.other s t q o) r.1, r.2)

  pub lines-there : (seen seen' : List Tree) (rest : List (List ℕ × Tree)) (text : List ℕ) → PrintsLines symbols E seen rest text → Alike R seen seen' → PrintsLines symbols F seen' rest text
  lines-there seen seen' rest text no_lines a = no_lines
  lines-there seen seen' rest text (line {new = new} {t = t} p ps) a =
      let r : (new' : List Tree) × Prints symbols F seen' t _ new' × Alike R new new' = prints-there seen new seen' t t _ p a (m.itself t) in
      line r.1 (lines-there new r.0 _ _ ps r.2)

-- what is printed of an equal term, behind alike classes
module _ (symbols : List (List ℕ)) (E : Equations) where
  pub prints-alike : (seen new seen' : List Tree) (s s' : Tree) (text : List ℕ) → Prints symbols E seen s text new → Alike (Equal E) seen seen' → Equal E s s'
      → (new' : List Tree) × Prints symbols E seen' s' text new' × Alike (Equal E) new new'
  prints-alike = prints-there symbols E E (Equal E) (equals-correspond symbols E)

  pub all-alike : (seen new seen' : List Tree) (ts us : Trees) (text : List ℕ) → PrintsAll symbols E seen ts text new → Alike (Equal E) seen seen' → AlikeTrees (Equal E) ts us
      → (new' : List Tree) × PrintsAll symbols E seen' us text new' × Alike (Equal E) new new'
  all-alike = all-there symbols E E (Equal E) (equals-correspond symbols E)

  pub tail-alike : (seen new seen' : List Tree) (s s' : Tree) (text : List ℕ) → PrintsTail symbols E seen s text new → Alike (Equal E) seen seen' → Equal E s s'
      → (new' : List Tree) × PrintsTail symbols E seen' s' text new' × Alike (Equal E) new new'
  tail-alike = tail-there symbols E E (Equal E) (equals-correspond symbols E)

-- the same of pieces
pub rest-alike : (t : Template) (E : Equations) (seen seen' : List Tree) (ps : List Piece) (rest : List (List ℕ × Tree)) (text : List ℕ) → Rest t E seen ps rest text → Alike (Equal E) seen seen' → Rest t E seen' ps rest text
rest-alike t E seen seen' ps rest text (lines p) a = lines (lines-there t.symbols E E (Equal E) (equals-correspond t.symbols E) seen seen' rest text p a)
rest-alike t E seen seen' ps rest text (byte p) a = byte (rest-alike t E seen seen' _ rest _ p a)
rest-alike t E seen seen' ps rest text (whole {new = new} {s = s} p ps') a =
    let r : (new' : List Tree) × Prints t.symbols E seen' (tree t.nodes s) _ new' × Alike (Equal E) new new' = prints-alike t.symbols E seen new seen' (tree t.nodes s) (tree t.nodes s) _ p a same in
    whole r.1 (rest-alike t E new r.0 _ rest _ ps' r.2)
rest-alike t E seen seen' ps rest text (tail {new = new} {s = s} p ps') a =
    let r : (new' : List Tree) × PrintsTail t.symbols E seen' (tree t.nodes s) _ new' × Alike (Equal E) new new' = tail-alike t.symbols E seen new seen' (tree t.nodes s) (tree t.nodes s) _ p a same in
    tail r.1 (rest-alike t E new r.0 _ rest _ ps' r.2)
