-- What a tree is equal to determines how it is printed.
use Rattle.std.proofs.Common.{◌≡◌, ℕ, ℤ, List, [], ◌∷◌, ◌++◌, length, Some, true, false, refl, sym, ◌∙◌, ap}
use Rattle.std.specs.Prelude.{slice_get, bytes_eq, codes}
use Rattle.std.specs.Fmt.{signed_decimal}
use Rattle.akl_terms.specs.declared.name.Name.{Name}
use Rattle.akl_terms.specs.Tree.{Tree, Trees, integer, port, symbol, none, more, list_of, Head, head_of, integer_head, port_head, symbol_head}
use Rattle.akl_terms.specs.Equal.{Equations, Equal, turned, joined, IsConsistent}
use Rattle.answer_text.specs.SymbolText.{symbol_text, constant_text}
use Rattle.answer_text.specs.Printed.{class_text, IsFree, IsNumbered, is_cell, IsOtherTail, Prints, class, number, a_port, constant, compound, cell, PrintsAll, PrintsTail, ends, element, partial}
use Rattle.answer_text.proofs.Respects.{Alike, Alike-refl, IsOneSymbol, one_symbol, all-alike, prints-alike, tail-alike, is_cell-alike}

-- two terms that a term is equal to agree in head
pub one_head : (E : Equations) → IsConsistent E → (s a b : Tree) (g h : Head) → Equal E s a → Equal E s b → head_of a ≡ Some g → head_of b ≡ Some h → g ≡ h
one_head E c s a b g h p q x y = c.heads (joined (turned p) q) x y

-- a symbol that a term is equal to is the one that it is known to be equal to
abbrev symbols_of : (E : Equations) → IsConsistent E → (s : Tree) (f g : ℕ) (ts us : Trees) → Equal E s (symbol f ts) → Equal E s (symbol g us) → IsOneSymbol E f g ts us
symbols_of E c s f g ts us p q = one_symbol E c f g ts us (joined (turned p) q)

-- two names of one symbol
pub one_name : (symbols : List (List ℕ)) (f g : ℕ) (a b : List ℕ) → f ≡ g → slice_get symbols f ≡ Some a → slice_get symbols g ≡ Some b → a ≡ b
one_name symbols f g a b e p q = let h : Some a ≡ Some b = sym p ∙ ap (slice_get symbols) e ∙ q in cc

-- the text of a class
pub record IsClassText (E : Equations) (seen : List Tree) (s : Tree) (text : List ℕ) (new : List Tree) : Type 0 where
  pub place : ℕ
  pub numbered : IsNumbered (Equal E) seen s place new
  pub is : text ≡ class_text place

-- the text of a symbol with these arguments
pub record IsCompoundText (symbols : List (List ℕ)) (E : Equations) (seen : List Tree) (name : List ℕ) (ts : Trees) (text : List ℕ) (new : List Tree) : Type 0 where
  pub arguments : List ℕ
  pub after : List Tree
  pub prints : PrintsAll symbols E seen ts arguments after
  pub alike : Alike (Equal E) new after
  pub is : text ≡ symbol_text name ++ 40 ∷ arguments ++ 41 ∷ []

-- the text of a list cell with this element and this rest, behind a byte
pub record IsCellText (symbols : List (List ℕ)) (E : Equations) (seen : List Tree) (begin : ℕ) (a b : Tree) (text : List ℕ) (new : List Tree) : Type 0 where
  pub first : List ℕ
  pub rest : List ℕ
  pub between : List Tree
  pub after : List Tree
  pub prints : Prints symbols E seen a first between
  pub goes_on : PrintsTail symbols E between b rest after
  pub alike : Alike (Equal E) new after
  pub is : text ≡ begin ∷ first ++ rest

-- the text of a tail that is no list
pub record IsPartialText (symbols : List (List ℕ)) (E : Equations) (seen : List Tree) (s : Tree) (text : List ℕ) (new : List Tree) : Type 0 where
  pub whole : List ℕ
  pub prints : Prints symbols E seen s whole new
  pub is : text ≡ 124 ∷ whole ++ 93 ∷ []

module _ (symbols : List (List ℕ)) (E : Equations) (c : IsConsistent E) where
  pub class-only : (seen new : List Tree) (s : Tree) (text : List ℕ) → IsFree E s → Prints symbols E seen s text new → IsClassText E seen s text new
  class-only seen new s text f (class {k = k} g m) = record { place = k; numbered = m; is = refl }
  class-only seen new s text f (number {z = z} q) = absurd (f.free (integer z) (integer_head z) q refl)
  class-only seen new s text f (a_port {p = p} q) = absurd (f.free (port p) (port_head p) q refl)
  class-only seen new s text f (constant {f = g} q m) = absurd (f.free (symbol g none) (symbol_head g 0) q refl)
  class-only seen new s text f (compound {t = u} {ts = ts} {f = g} q m k ps) = absurd (f.free (symbol g (more u ts)) (symbol_head g (length (list_of (more u ts)))) q refl)
  class-only seen new s text f (cell {t = u} {u = v} {f = g} q m ps z) = absurd (f.free (symbol g (more u (more v none))) (symbol_head g 2) q refl)

  pub integer-only : (seen new : List Tree) (s : Tree) (text : List ℕ) → (z : ℤ) → Equal E s (integer z) → Prints symbols E seen s text new → (text ≡ signed_decimal z) × (new ≡ seen)
  integer-only seen new s text z e (class g m) = absurd (g.free (integer z) (integer_head z) e refl)
  integer-only seen new s text z e (number {z = y} q) = let h : integer_head y ≡ integer_head z = one_head E c _ _ _ _ _ q e refl refl in (ap signed_decimal cc, refl)
  integer-only seen new s text z e (a_port {p = i} q) = let h : port_head i ≡ integer_head z = one_head E c _ _ _ _ _ q e refl refl in absurd cc
  integer-only seen new s text z e (constant {f = g} q m) = let h : symbol_head g 0 ≡ integer_head z = one_head E c _ _ _ _ _ q e refl refl in absurd cc
  integer-only seen new s text z e (compound {t = u} {ts = ts} {f = g} q m k ps) = let h : symbol_head g (length (list_of (more u ts))) ≡ integer_head z = one_head E c _ _ _ _ _ q e refl refl in absurd cc
  integer-only seen new s text z e (cell {t = u} {u = v} {f = g} q m ps y) = let h : symbol_head g 2 ≡ integer_head z = one_head E c _ _ _ _ _ q e refl refl in absurd cc

  pub port-only : (seen new : List Tree) (s : Tree) (text : List ℕ) → (p : Name) → Equal E s (port p) → Prints symbols E seen s text new → (text ≡ codes "port") × (new ≡ seen)
  port-only seen new s text p e (class g m) = absurd (g.free (port p) (port_head p) e refl)
  port-only seen new s text p e (number {z = y} q) = let h : integer_head y ≡ port_head p = one_head E c _ _ _ _ _ q e refl refl in absurd cc
  port-only seen new s text p e (a_port {p = i} q) = (refl, refl)
  port-only seen new s text p e (constant {f = g} q m) = let h : symbol_head g 0 ≡ port_head p = one_head E c _ _ _ _ _ q e refl refl in absurd cc
  port-only seen new s text p e (compound {t = u} {ts = ts} {f = g} q m k ps) = let h : symbol_head g (length (list_of (more u ts))) ≡ port_head p = one_head E c _ _ _ _ _ q e refl refl in absurd cc
  port-only seen new s text p e (cell {t = u} {u = v} {f = g} q m ps y) = let h : symbol_head g 2 ≡ port_head p = one_head E c _ _ _ _ _ q e refl refl in absurd cc

  pub constant-only : (seen new : List Tree) (s : Tree) (text : List ℕ) → (n : ℕ) (name : List ℕ) → slice_get symbols n ≡ Some name → Equal E s (symbol n none) → Prints symbols E seen s text new → (text ≡ constant_text name) × (new ≡ seen)
  constant-only seen new s text n name is e (class g m) = absurd (g.free (symbol n none) (symbol_head n 0) e refl)
  constant-only seen new s text n name is e (number {z = y} q) = let h : integer_head y ≡ symbol_head n 0 = one_head E c _ _ _ _ _ q e refl refl in absurd cc
  constant-only seen new s text n name is e (a_port {p = i} q) = let h : port_head i ≡ symbol_head n 0 = one_head E c _ _ _ _ _ q e refl refl in absurd cc
  constant-only seen new s text n name is e (constant {f = g} {name = other} q m) = (ap constant_text (one_name symbols g n other name (symbols_of E c s g n none none q e).symbols m is), refl)
  constant-only seen new s text n name is e (compound {t = u} {ts = ts} {f = g} q m k ps) = absurd (symbols_of E c s g n (more u ts) none q e).arguments
  constant-only seen new s text n name is e (cell {t = u} {u = v} {f = g} q m ps y) = absurd (symbols_of E c s g n (more u (more v none)) none q e).arguments

  pub compound-only : (seen new : List Tree) (s : Tree) (text : List ℕ) → (n : ℕ) (name : List ℕ) (w : Tree) (ws : Trees) → slice_get symbols n ≡ Some name → is_cell name (more w ws) ≡ false → Equal E s (symbol n (more w ws))
      → Prints symbols E seen s text new → IsCompoundText symbols E seen name (more w ws) text new
  compound-only seen new s text n name w ws is no_cell e (class g q) = absurd (g.free (symbol n (more w ws)) (symbol_head n (length (list_of (more w ws)))) e refl)
  compound-only seen new s text n name w ws is no_cell e (number {z = y} q) = let h : integer_head y ≡ symbol_head n (length (list_of (more w ws))) = one_head E c _ _ _ _ _ q e refl refl in absurd cc
  compound-only seen new s text n name w ws is no_cell e (a_port {p = y} q) = let h : port_head y ≡ symbol_head n (length (list_of (more w ws))) = one_head E c _ _ _ _ _ q e refl refl in absurd cc
  compound-only seen new s text n name w ws is no_cell e (constant {f = g} q m) = absurd (symbols_of E c s g n none (more w ws) q e).arguments
  compound-only seen new s text n name w ws is no_cell e (cell {t = u} {u = v} {f = g} q m ps z) =
      let o : IsOneSymbol E g n (more u (more v none)) (more w ws) = symbols_of E c s g n (more u (more v none)) (more w ws) q e in
      let d : codes "." ≡ name = one_name symbols g n (codes ".") name o.symbols m is in
      let x : is_cell name (more u (more v none)) ≡ is_cell name (more w ws) = is_cell-alike (Equal E) name (more u (more v none)) (more w ws) o.arguments in
      let y : true ≡ false = ap (λ (z : List ℕ). bytes_eq z (codes ".")) d ∙ x ∙ no_cell in absurd cc
  compound-only seen new s text n name w ws is no_cell e (compound {t = u} {ts = ts} {f = g} {name = other} {text = x} q m k ps) =
      let o : IsOneSymbol E g n (more u ts) (more w ws) = symbols_of E c s g n (more u ts) (more w ws) q e in
      let d : other ≡ name = one_name symbols g n other name o.symbols m is in
      let r : (new' : List Tree) × PrintsAll symbols E seen (more w ws) x new' × Alike (Equal E) new new' = all-alike symbols E seen new seen (more u ts) (more w ws) x ps (Alike-refl E seen) o.arguments in
      record { arguments = x; after = r.0; prints = r.1; alike = r.2; is = ap (λ (y : List ℕ). symbol_text y ++ 40 ∷ x ++ 41 ∷ []) d }

  pub cell-only : (seen new : List Tree) (s : Tree) (text : List ℕ) → (n : ℕ) (a b : Tree) → slice_get symbols n ≡ Some (codes ".") → Equal E s (symbol n (more a (more b none))) → Prints symbols E seen s text new → IsCellText symbols E seen 91 a b text new
  cell-only seen new s text n a b is e (class g m) = absurd (g.free (symbol n (more a (more b none))) (symbol_head n 2) e refl)
  cell-only seen new s text n a b is e (number {z = y} q) = let h : integer_head y ≡ symbol_head n 2 = one_head E c _ _ _ _ _ q e refl refl in absurd cc
  cell-only seen new s text n a b is e (a_port {p = y} q) = let h : port_head y ≡ symbol_head n 2 = one_head E c _ _ _ _ _ q e refl refl in absurd cc
  cell-only seen new s text n a b is e (constant {f = g} q m) = absurd (symbols_of E c s g n none (more a (more b none)) q e).arguments
  cell-only seen new s text n a b is e (compound {t = u} {ts = ts} {f = g} {name = name} q m k ps) =
      let o : IsOneSymbol E g n (more u ts) (more a (more b none)) = symbols_of E c s g n (more u ts) (more a (more b none)) q e in
      let w : name ≡ codes "." = one_name symbols g n name (codes ".") o.symbols m is in
      let x : is_cell name (more u ts) ≡ is_cell name (more a (more b none)) = is_cell-alike (Equal E) name (more u ts) (more a (more b none)) o.arguments in
      let y : true ≡ false = sym (x ∙ ap (λ (z : List ℕ). bytes_eq z (codes ".")) w) ∙ k in absurd cc
  cell-only seen new s text n a b is e (cell {middle = middle} {t = u} {u = v} {f = g} {first = x} {rest = y} q m ps z) =
      let o : IsOneSymbol E g n (more u (more v none)) (more a (more b none)) = symbols_of E c s g n (more u (more v none)) (more a (more b none)) q e in
      let l : (new' : List Tree) × Prints symbols E seen a x new' × Alike (Equal E) middle new' = prints-alike symbols E seen middle seen u a x ps (Alike-refl E seen) o.arguments.0 in
      let r : (new' : List Tree) × PrintsTail symbols E l.0 b y new' × Alike (Equal E) new new' = tail-alike symbols E middle new l.0 v b y z l.2 o.arguments.1.0 in
      record { first = x; rest = y; between = l.0; after = r.0; prints = l.1; goes_on = r.1; alike = r.2; is = refl }

  pub end-only : (seen new : List Tree) (s : Tree) (text : List ℕ) → (n : ℕ) → slice_get symbols n ≡ Some (codes "[]") → Equal E s (symbol n none) → PrintsTail symbols E seen s text new → (text ≡ 93 ∷ []) × (new ≡ seen)
  end-only seen new s text n is e (ends q m) = (refl, refl)
  end-only seen new s text n is e (element {t = u} {u = v} {f = g} q m ps z) = absurd (symbols_of E c s g n (more u (more v none)) none q e).arguments
  end-only seen new s text n is e (partial o ps) = absurd (o.other n none e is)

  pub element-only : (seen new : List Tree) (s : Tree) (text : List ℕ) → (n : ℕ) (a b : Tree) → slice_get symbols n ≡ Some (codes ".") → Equal E s (symbol n (more a (more b none))) → PrintsTail symbols E seen s text new → IsCellText symbols E seen 44 a b text new
  element-only seen new s text n a b is e (ends {f = g} q m) = absurd (symbols_of E c s g n none (more a (more b none)) q e).arguments
  element-only seen new s text n a b is e (partial o ps) = absurd (o.other n (more a (more b none)) e is)
  element-only seen new s text n a b is e (element {middle = middle} {t = u} {u = v} {f = g} {first = x} {rest = y} q m ps z) =
      let o : IsOneSymbol E g n (more u (more v none)) (more a (more b none)) = symbols_of E c s g n (more u (more v none)) (more a (more b none)) q e in
      let l : (new' : List Tree) × Prints symbols E seen a x new' × Alike (Equal E) middle new' = prints-alike symbols E seen middle seen u a x ps (Alike-refl E seen) o.arguments.0 in
      let r : (new' : List Tree) × PrintsTail symbols E l.0 b y new' × Alike (Equal E) new new' = tail-alike symbols E middle new l.0 v b y z l.2 o.arguments.1.0 in
      record { first = x; rest = y; between = l.0; after = r.0; prints = l.1; goes_on = r.1; alike = r.2; is = refl }

  pub partial-only : (seen new : List Tree) (s : Tree) (text : List ℕ) → IsOtherTail symbols E s → PrintsTail symbols E seen s text new → IsPartialText symbols E seen s text new
  partial-only seen new s text other (ends {f = g} q m) = absurd (other.other g none q m)
  partial-only seen new s text other (element {t = u} {u = v} {f = g} q m ps z) = absurd (other.other g (more u (more v none)) q m)
  partial-only seen new s text other (partial {text = x} o ps) = record { whole = x; prints = ps; is = refl }
