-- Heads that are met in one pass.
use Rattle.std.specs.Prelude.{◌≡◌, ◌≢◌, ◌-◌, ℕ, zero, suc, List, [], ◌∷◌, ◌++◌, length, slice_get, Some, None, ⊤}
use Rattle.std.specs.declared.cmp.Ordering.TheVariants.{Less}
use Rattle.std.specs.Map.{keys_of}
use Rattle.std.specs.List.{AllByRecursion}
use Rattle.std.specs.List.Sorted.{IsStrictlySortedBy}
use Rattle.akl_terms.specs.declared.name.Name.{Name}
use Rattle.akl_terms.specs.declared.name.Var.{Var}
use Rattle.akl_terms.specs.declared.term.Node.{Node}
use Rattle.akl_terms.specs.declared.term.Seen.{Seen}
use Rattle.akl_terms.specs.declared.term.Seen.TheVariants.{Free}
use Rattle.akl_terms.specs.declared.term.Term.{Term}
use Rattle.akl_terms.specs.declared.term.Term.TheVariants.{Mol}
use Rattle.akl_terms.specs.declared.term.Equation as code
use Rattle.akl_terms.specs.Names.{var_cmp}
use Rattle.akl_terms.specs.Tree.{variable, Head, integer_head, port_head, symbol_head}
use Rattle.akl_terms.specs.Decided.{DifferInHead}
use Rattle.akl_terms.specs.Template.{IsArranged, tree, seen_of}
use Rattle.rational_unify.specs.Known.{found_in, end_of}
use Rattle.rational_unify.specs.Older.{KeepsOlder}
use Rattle.rational_unify.specs.Solving.{IsSolution, IsClashOf}
use Rattle.rational_unify.proofs.Passes.{PassGoes}
use Rattle.local_store.specs.Chained.{BindNone}
use Rattle.plain_heads.specs.declared.meeting.Met.{Met}
use Rattle.plain_heads.specs.declared.meeting.Turn.{Turn}
use Rattle.plain_heads.specs.declared.row.Row.{Row}

-- terms in which the chains of neighbouring nodes under a frame end, from this node on
abbrev pub AreEnds : List Node → List (Var × Term) → Name → ℕ → List Term → Type 0
AreEnds nodes known f i [] = ⊤
AreEnds nodes known f i (t ∷ ts) = (tree nodes t ≡ end_of nodes known (tree nodes (Mol i f))) × AreEnds nodes known f (suc i) ts

-- the pairs of neighbouring nodes under two frames, the last first
abbrev pub pairs_of : Name → ℕ → ℕ → Name → ℕ → ℕ → List code.Equation
pairs_of f i zero g j m = []
pairs_of f i (suc n) g j zero = []
pairs_of f i (suc n) g j (suc m) = pairs_of f (suc i) n g (suc j) m ++ record { left = Mol i f; right = Mol j g } ∷ []

abbrev pub pairs_in : Row → Row → List code.Equation
pairs_in a h = pairs_of a.frame a.first a.count h.frame h.first h.count

-- where a term is a variable, it is known to be bound to nothing, and of another frame
abbrev pub IsFurther : List Node → List (Var × Term) → Name → Term → Type 0
IsFurther nodes known frame t = (x : Var) → tree nodes t ≡ variable x → (found_in known x ≡ None) × (x.frame ≡ frame → ⊥)

-- where there are bindings of a frame's variables, no other variable of it was bound
abbrev pub AreOfNew : List (Var × Term) → Name → List (Var × Term) → Type 0
AreOfNew known frame [] = ⊤
AreOfNew known frame (b ∷ bs) = BindNone known frame

-- bindings of a frame's variables, which were bound to nothing, in increasing order, to such terms
pub record ArePlain (nodes : List Node) (known : List (Var × Term)) (frame : Name) (bs : List (Var × Term)) : Type 0 where
  pub own : AllByRecursion (λ (b : Var × Term). b.0.frame ≡ frame) bs
  pub ordered : IsStrictlySortedBy var_cmp (keys_of bs)
  pub new : AreOfNew known frame bs
  pub further : AllByRecursion (λ (b : Var × Term). IsFurther nodes known frame b.1) bs

-- so far the bindings do the solver's work for equations, of which some wait
pub record Goes (nodes : List Node) (known : List (Var × Term)) (es : List code.Equation) (bs : List (Var × Term)) (pending : List code.Equation) : Type 0 where
  pub work : PassGoes nodes known es bs pending
  pub older : KeepsOlder nodes known (known ++ bs)

-- equations make two terms of different heads equal
pub record HaveClash (nodes : List Node) (known : List (Var × Term)) (es : List code.Equation) : Type 0 where
  pub left : Term
  pub right : Term
  pub clash : IsClashOf nodes known es left right

-- what becomes of equations that wait behind all others
abbrev pub Turns : List Node → List (Var × Term) → Name → List code.Equation → List (Var × Term) → List (Var × Term) → Turn → Type 0
Turns nodes known frame taken old new Turn.Taken = ArePlain nodes known frame new × ((es rest : List code.Equation) → Goes nodes known es old (rest ++ taken) → Goes nodes known es new rest)
Turns nodes known frame taken old new Turn.Clashes = (es rest : List code.Equation) → Goes nodes known es old (rest ++ taken) → HaveClash nodes known es
Turns nodes known frame taken old new Turn.Unsure = ⊤

-- of one of them, whose left side's chain ends in a term
abbrev pub IsTurn : List Node → List (Var × Term) → Name → Term → Term → List (Var × Term) → List (Var × Term) → Turn → Type 0
IsTurn nodes known frame end head old new turn = (left : Term) → tree nodes end ≡ end_of nodes known (tree nodes left) → Turns nodes known frame (record { left = left; right = head } ∷ []) old new turn

-- a variable comes behind the last one that is bound
abbrev pub IsBehind : List (Var × Term) → Var → Type 0
IsBehind bs v = (b : Var × Term) → slice_get bs (length bs - 1) ≡ Some b → var_cmp b.0 v ≡ Less

-- a term is no variable, or an older one of another frame
abbrev pub IsBeyond : List Node → Term → Var → Type 0
IsBeyond nodes t v = (x : Var) → tree nodes t ≡ variable x → (x.frame ≡ v.frame → ⊥) × (var_cmp x v ≡ Less)

-- a variable of a frame may be bound to a term behind other bindings
pub record MayBind (nodes : List Node) (known bs : List (Var × Term)) (v : Var) (frame : Name) (t : Term) : Type 0 where
  pub own : v.frame ≡ frame
  pub behind : IsBehind bs v
  pub beyond : IsBeyond nodes t v
  pub new : BindNone known frame

-- what is known of two terms
abbrev pub Compares : List Node → Term → Term → Turn → Type 0
Compares nodes s t Turn.Taken = tree nodes s ≡ tree nodes t
Compares nodes s t Turn.Clashes = DifferInHead (tree nodes s) (tree nodes t)
Compares nodes s t Turn.Unsure = ⊤

-- and of what a term begins with and a head: they are one constant, or differ
abbrev pub IsConstant : Seen → Head → Type 0
IsConstant (Seen.Int z) (integer_head y) = z ≡ y
IsConstant (Seen.Struct s i n f) (symbol_head r m) = (s ≡ r) × (n ≡ 0) × (m ≡ 0)
IsConstant a h = ⊥

abbrev pub HasOther : Seen → Head → Type 0
HasOther (Free x) h = ⊥
HasOther (Seen.Int z) h = integer_head z ≢ h
HasOther (Seen.Port p) h = port_head p ≢ h
HasOther (Seen.Struct s i n f) h = symbol_head s n ≢ h

abbrev pub ComparesHead : Seen → Head → Turn → Type 0
ComparesHead a h Turn.Taken = IsConstant a h
ComparesHead a h Turn.Clashes = HasOther a h
ComparesHead a h Turn.Unsure = ⊤

abbrev pub ComparesSeen : Seen → Seen → Turn → Type 0
ComparesSeen a (Seen.Int y) turn = ComparesHead a (integer_head y) turn
ComparesSeen a (Seen.Struct r j m g) turn = ComparesHead a (symbol_head r m) turn
ComparesSeen a b Turn.Unsure = ⊤
ComparesSeen a b turn = ⊥

-- two terms have one symbol, and these arguments
pub record AreRowsOf (nodes : List Node) (s t : Term) (a h : Row) : Type 0 where
  pub arranged : IsArranged nodes
  pub symbol : ℕ
  pub count : a.count ≡ h.count
  pub left : seen_of nodes s ≡ Seen.Struct symbol a.first h.count a.frame
  pub right : seen_of nodes t ≡ Seen.Struct symbol h.first h.count h.frame

-- what comes of arguments and a head over a solved form
abbrev pub Comes : List Node → List (Var × Term) → Row → Row → Met → Type 0
Comes nodes known a h Met.Clashes = HaveClash nodes known (pairs_in a h)
Comes nodes known a h (Met.Binds bs) = ArePlain nodes known h.frame bs.items × IsSolution nodes known (pairs_in a h) bs.items × KeepsOlder nodes known (known ++ bs.items)
Comes nodes known a h Met.Unsure = ⊤
