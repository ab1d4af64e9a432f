-- One turn of the printer leads on: what is printed from the state behind it is what is printed from the state before it.
use Rattle.std.proofs.Common.{◌≡◌, ℕ, ℤ, suc, List, [], ◌∷◌, ◌++◌, Some, Bool, true, false, cond, refl, sym, ◌∙◌, ap, subst}
use Rattle.std.specs.Prelude.{slice_get, codes}
use Rattle.std.specs.Fmt.{signed_decimal}
use Rattle.akl_terms.specs.declared.name.Name.{Name}
use Rattle.akl_terms.specs.declared.name.Var.{Var}
use Rattle.akl_terms.specs.declared.term.Term.{Term}
use Rattle.akl_terms.specs.Tree.{Tree, variable, integer, port, symbol, none}
use Rattle.akl_terms.specs.Equal.{Equations, Equal, same, turned, joined, IsConsistent}
use Rattle.akl_terms.specs.Template.{Template, tree}
use Rattle.answer_text.specs.SymbolText.{constant_text}
use Rattle.answer_text.specs.Printed.{class_text, IsFree, IsNumbered, first, here, later, Prints, class, number, a_port, constant}
use Rattle.answer_text.specs.Classes.{Represents}
use Rattle.akl_terms.specs.Names.{same_var}
use Rattle.answer_text.specs.Pieces.{State, Rest, byte, whole, trees_of, Continues, AreEnds, class_number, with_class, with_bytes, class_printed}
use Rattle.answer_text.specs.declared.piece.Piece.TheVariants.{Byte, Whole}
use Rattle.akl_terms.proofs.SameNames.{same_var-equal, same_var-refl}
use Rattle.answer_text.proofs.Respects.{Alike, Alike-refl, numbered-one, rest-alike}
use Rattle.answer_text.proofs.Determined.{IsClassText, class-only, integer-only, port-only, constant-only}

-- the number of a class whose terms go to a variable
pub numbered-by : (E : Equations) (go : Tree → Tree) → Represents E go → (seen : List Var) (s : Tree) (x : Var) → AreEnds go seen → go s ≡ variable x
    → IsNumbered (Equal E) (trees_of seen) s (class_number seen x) (trees_of (with_class seen x))
numbered-by E go r [] s x a e = first (subst (λ (t : Tree). Equal E s t) e (r.equal s))
numbered-by E go r (y ∷ ys) s x a e = on (same_var y x) refl (numbered-by E go r ys s x a.1 e)
  where
    on : (b : Bool) → same_var y x ≡ b → IsNumbered (Equal E) (trees_of ys) s (class_number ys x) (trees_of (with_class ys x))
        → IsNumbered (Equal E) (variable y ∷ trees_of ys) s (cond b 0 (suc (class_number ys x))) (trees_of (cond b (y ∷ ys) (y ∷ with_class ys x)))
    on true q n = here (subst (λ (t : Tree). Equal E s t) (e ∙ ap (λ (z : Var). variable z) (sym (same_var-equal y x q))) (r.equal s))
    on false q n = later (λ p.
        let o : x ≡ y = r.one s (variable y) x y e a.0 p in
        let t : same_var y x ≡ true = subst (λ (z : Var). same_var z x ≡ true) o (same_var-refl x) in
        let f : true ≡ false = sym t ∙ q in absurd cc) n

pub AreEnds-with : (E : Equations) (go : Tree → Tree) → Represents E go → (seen : List Var) (s : Tree) (x : Var) → AreEnds go seen → go s ≡ variable x → AreEnds go (with_class seen x)
AreEnds-with E go r [] s x a e = (r.stays s x e, tt)
AreEnds-with E go r (y ∷ ys) s x a e = on (same_var y x) (AreEnds-with E go r ys s x a.1 e)
  where
    on : (b : Bool) → AreEnds go (with_class ys x) → AreEnds go (cond b (y ∷ ys) (y ∷ with_class ys x))
    on true h = a
    on false h = (a.0, h)

-- a class
pub class-goes : (t : Template) (E : Equations) (go : Tree → Tree) → Represents E go → (s : State) (term : Term) (x : Var) → AreEnds go s.seen → go (tree t.nodes term) ≡ variable x
    → Continues t E (record s { pieces = Whole term ∷ s.pieces }) (class_printed x s)
class-goes t E go r s term x a e = record { added = class_text (class_number s.seen x); out = refl; to = to; from = from }
  where
    n : IsNumbered (Equal E) (trees_of s.seen) (tree t.nodes term) (class_number s.seen x) (trees_of (with_class s.seen x))
    n = numbered-by E go r s.seen (tree t.nodes term) x a e

    f : IsFree E (tree t.nodes term)
    f = r.free (tree t.nodes term) x e

    to : (rest : List (List ℕ × Tree)) (text : List ℕ) → Rest t E (trees_of (with_class s.seen x)) s.pieces rest text → Rest t E (trees_of s.seen) (Whole term ∷ s.pieces) rest (class_text (class_number s.seen x) ++ text)
    to rest text p = whole (class f n) p

    from : (rest : List (List ℕ × Tree)) (text : List ℕ) → Rest t E (trees_of s.seen) (Whole term ∷ s.pieces) rest text
        → (o : List ℕ) × (text ≡ class_text (class_number s.seen x) ++ o) × Rest t E (trees_of (with_class s.seen x)) s.pieces rest o
    from rest text (whole {new = new} {text = front} {others = others} p ps) =
        let k : IsClassText E (trees_of s.seen) (tree t.nodes term) front new = class-only t.symbols E r.consistent (trees_of s.seen) new (tree t.nodes term) front f p in
        let w : (k.place ≡ class_number s.seen x) × Alike (Equal E) new (trees_of (with_class s.seen x)) = numbered-one (Equal E) (λ u v m. turned m) (λ u v o m l. joined m l) k.numbered n (Alike-refl E (trees_of s.seen)) same in
        (others, ap (λ (y : List ℕ). y ++ others) (k.is ∙ ap class_text w.0), rest-alike t E new (trees_of (with_class s.seen x)) s.pieces rest others ps w.1)

-- a byte
pub byte-goes : (t : Template) (E : Equations) (s : State) (b : ℕ) → Continues t E (record s { pieces = Byte b ∷ s.pieces }) (with_bytes (b ∷ []) s)
byte-goes t E s b = record { added = b ∷ []; out = refl; to = λ rest text p. byte p; from = from }
  where
    from : (rest : List (List ℕ × Tree)) (text : List ℕ) → Rest t E (trees_of s.seen) (Byte b ∷ s.pieces) rest text
        → (o : List ℕ) × (text ≡ b ∷ o) × Rest t E (trees_of s.seen) s.pieces rest o
    from rest text (byte {text = others} p) = (others, refl, p)

-- a term whose text is known: an integer, a port, a constant
known-goes : (t : Template) (E : Equations) (s : State) (term : Term) (bytes : List ℕ)
    → Prints t.symbols E (trees_of s.seen) (tree t.nodes term) bytes (trees_of s.seen)
    → ((new : List Tree) (text : List ℕ) → Prints t.symbols E (trees_of s.seen) (tree t.nodes term) text new → (text ≡ bytes) × (new ≡ trees_of s.seen))
    → Continues t E (record s { pieces = Whole term ∷ s.pieces }) (with_bytes bytes s)
known-goes t E s term bytes known one = record { added = bytes; out = refl; to = λ rest text p. whole known p; from = from }
  where
    from : (rest : List (List ℕ × Tree)) (text : List ℕ) → Rest t E (trees_of s.seen) (Whole term ∷ s.pieces) rest text
        → (o : List ℕ) × (text ≡ bytes ++ o) × Rest t E (trees_of s.seen) s.pieces rest o
    from rest text (whole {new = new} {text = front} {others = others} p ps) =
        let w : (front ≡ bytes) × (new ≡ trees_of s.seen) = one new front p in
        (others, ap (λ (x : List ℕ). x ++ others) w.0, subst (λ (x : List Tree). Rest t E x s.pieces rest others) w.1 ps)

pub integer-goes : (t : Template) (E : Equations) → IsConsistent E → (s : State) (term : Term) (z : ℤ) → Equal E (tree t.nodes term) (integer z)
    → Continues t E (record s { pieces = Whole term ∷ s.pieces }) (with_bytes (signed_decimal z) s)
integer-goes t E c s term z e = known-goes t E s term (signed_decimal z) (number e) (λ new text p. integer-only t.symbols E c (trees_of s.seen) new (tree t.nodes term) text z e p)

pub port-goes : (t : Template) (E : Equations) → IsConsistent E → (s : State) (term : Term) (z : Name) → Equal E (tree t.nodes term) (port z)
    → Continues t E (record s { pieces = Whole term ∷ s.pieces }) (with_bytes (codes "port") s)
port-goes t E c s term z e = known-goes t E s term (codes "port") (a_port e) (λ new text p. port-only t.symbols E c (trees_of s.seen) new (tree t.nodes term) text z e p)

pub constant-goes : (t : Template) (E : Equations) → IsConsistent E → (s : State) (term : Term) (n : ℕ) (name : List ℕ) → slice_get t.symbols n ≡ Some name
    → Equal E (tree t.nodes term) (symbol n none) → Continues t E (record s { pieces = Whole term ∷ s.pieces }) (with_bytes (constant_text name) s)
constant-goes t E c s term n name is e =
    known-goes t E s term (constant_text name) (constant e is) (λ new text p. constant-only t.symbols E c (trees_of s.seen) new (tree t.nodes term) text n name is e p)
