-- A walk gathers the boxes inside a box, each once: each gathered name adds the alternatives of the choices directly in it.
use Rattle.std.proofs.Common.{◌≡◌, ℕ, zero, suc, ◌+◌, ◌≤◌, ◌<◌, List, [], ◌∷◌, ◌++◌, length, get_or, Bool, true, false, Option, Some, None, refl, sym, ◌∙◌, ap, subst, ◌⊎◌, inl, inr, arith, append_assoc, append-nil}
use Rattle.std.specs.Prelude.{if◌then◌else◌, cond, IsSome}
use Rattle.std.specs.Map.{lookup}
use Rattle.std.proofs.lemmas.List.{length-append}
use Rattle.akl_terms.specs.declared.name.Name.{Name}
use Rattle.akl_model.specs.Config.{Operator}
use Rattle.akl_terms.specs.Names.{same_name}
use Rattle.akl_terms.proofs.SameNames.{same_name-equal, same_name-refl}
use Rattle.akl_model.specs.declared.label.Rule.{Rule}
use Rattle.akl_model.specs.Config.{IsIn, Content, Boxes, no_boxes, box, Goals, no_goals, atom, choice, Config, Held, an_atom, a_choice, held_in, Found, box_at, home_of}
use Rattle.akl_model.specs.Names.{one_if, times_in}
use Rattle.akl_model.specs.Changes.{Shape, of_atom, of_choice, shape_of, box_names, goal_names}
use Rattle.akl_model.specs.Wakes.{names_around, names_down_to}
use Rattle.akl_model.proofs.Options.{some_value}
use Rattle.akl_model.proofs.Finds.{times, times_inside, times_in-append}
use Rattle.akl_model.proofs.NamesKept.{replay-stands, box-itself}
use Rattle.akl_model.proofs.Scoped.{IsIn-left, IsIn-right, IsIn-either}
use Rattle.akl_model.proofs.ScopesAlong.{times_path, counted_in}
use Rattle.step_laws.specs.Holders.{IsAlternativeAt}
use Rattle.step_laws.proofs.Whereabouts.{found_in, in_counted, held_counted}
use Rattle.step_laws.proofs.Deeper.{home_found, names_snoc}
use Rattle.step_laws.proofs.Edits.{other, past}
use Rattle.step_laws.proofs.Holders.{names_less, alternative_at}
use Rattle.table_laws.specs.Rows.{BoxRow, GoalRow, Table}
use Rattle.table_laws.specs.Unfolds.{IsBoxRow, Unfolds}
use Rattle.table_laws.specs.Stamped.{Run, IsTableOf}
use Rattle.table_laws.specs.Inside.{IsDirectlyIn, IsAlternativeOf, IsInside, itself, further, IsGoalInside}
use Rattle.table_laws.specs.Walks.{alternatives_in, alternatives_of, alternatives_among, boxes_in_row, boxes_directly_in, ListsInside}
use Rattle.table_laws.proofs.Along.{named_path}
use Rattle.table_laws.proofs.Frame.{row_of, found_of}
use Rattle.table_laws.proofs.Gone.{goals_once}
use Rattle.table_laws.proofs.Insides.{named_counted, goal_row, held_directly, held_alternative, IsUnder, under}

-- distinct names that are all keys of entries are no more than the entries

abbrev removed : {X : Type 0} → Name → List (Name × X) → List (Name × X)
removed n [] = []
removed n (e ∷ es) = if same_name n e.0 then es else e ∷ removed n es

length_removed : {X : Type 0} (n : Name) (es : List (Name × X)) → IsSome (lookup (same_name n) es) → length es ≡ suc (length (removed n es))
length_removed n [] i = cc
length_removed n (e ∷ es) i = on (same_name n e.0) i (λ j. length_removed n es j)
  where
    on : (t : Bool) → IsSome (cond t (Some e.1) (lookup (same_name n) es)) → (IsSome (lookup (same_name n) es) → length es ≡ suc (length (removed n es)))
        → suc (length es) ≡ suc (length (if t then es else e ∷ removed n es))
    on true j f = refl
    on false j f = ap suc (f j)

lookup_removed : {X : Type 0} (n m : Name) (es : List (Name × X)) → same_name m n ≡ false → lookup (same_name m) (removed n es) ≡ lookup (same_name m) es
lookup_removed n m [] d = refl
lookup_removed n m (e ∷ es) d = on (same_name n e.0) refl (lookup_removed n m es d)
  where
    on : (t : Bool) → same_name n e.0 ≡ t → lookup (same_name m) (removed n es) ≡ lookup (same_name m) es
        → lookup (same_name m) (if t then es else e ∷ removed n es) ≡ cond (same_name m e.0) (Some e.1) (lookup (same_name m) es)
    on true p f =
        let q : same_name m e.0 ≡ false = subst (λ (k : Name). same_name m k ≡ false) (same_name-equal n e.0 p) d in
        sym (ap (λ (t : Bool). cond t (Some e.1) (lookup (same_name m) es)) q)
    on false p f = ap (cond (same_name m e.0) (Some e.1)) f

one_off : (t : Bool) → one_if t ≡ 0 → t ≡ false
one_off true i = absurd (omega arith)
one_off false i = refl

pub no_more : {X : Type 0} (ns : List Name) (es : List (Name × X)) → ((m : Name) → times_in m ns ≤ 1) → ((m : Name) → IsIn m ns → IsSome (lookup (same_name m) es)) → length ns ≤ length es
no_more [] es once there = omega arith
no_more {X} (n ∷ ns) es once there =
    let i : one_if (same_name n n) ≡ 1 = ap one_if (same_name-refl n) in
    let e : length es ≡ suc (length (removed n es)) = length_removed n es (there n (inl refl)) in
    let k : length ns ≤ length (removed n es) = no_more ns (removed n es) (λ m. let o : times_in m (n ∷ ns) ≤ 1 = once m in omega arith) (λ m l.
    let o : times_in m (n ∷ ns) ≤ 1 = once m in
    let c : 0 < times_in m ns = counted_in m ns l in
    let d : same_name m n ≡ false = one_off (same_name m n) (omega arith) in
    subst (λ (x : Option X). IsSome x) (sym (lookup_removed n m es d)) (there m (inr l))) in
    omega arith

-- the boxes directly in a box, by its goals and their alternatives

alternative_row : (T : Table) (g m : Name) (o : Option GoalRow) → T.goal_of g ≡ o → IsIn m (alternatives_of o) → IsAlternativeOf T g m
alternative_row T g m None e i = absurd i
alternative_row T g m (Some r) e i = on r.shape refl i
  where
    on : (s : Shape) → r.shape ≡ s → IsIn m (alternatives_in s) → IsAlternativeOf T g m
    on (of_atom a) q j = absurd j
    on (of_choice op alternatives) q j = record { row = r; there = e; op = op; alternatives = alternatives; choice = q; named = j }

row_alternative : (T : Table) (g m : Name) → IsAlternativeOf T g m → IsIn m (alternatives_of (T.goal_of g))
row_alternative T g m x = subst (IsIn m) (sym (ap alternatives_of x.there ∙ ap alternatives_in x.choice)) x.named

among_in : (T : Table) (m : Name) (gs : List Name) → IsIn m (alternatives_among T gs) → (g : Name) × IsIn g gs × IsAlternativeOf T g m
among_in T m [] i = absurd i
among_in T m (g ∷ gs) i = elim (IsIn-either m (alternatives_of (T.goal_of g)) (alternatives_among T gs) i) [
  | inl j ↦ (g, inl refl, alternative_row T g m (T.goal_of g) refl j)
  | inr j ↦ let w : (h : Name) × IsIn h gs × IsAlternativeOf T h m = among_in T m gs j in (w.0, inr w.1, w.2)
]

in_among : (T : Table) (g m : Name) (gs : List Name) → IsIn g gs → IsAlternativeOf T g m → IsIn m (alternatives_among T gs)
in_among T g m [] i x = absurd i
in_among T g m (h ∷ gs) (inl e) x = IsIn-left m (alternatives_of (T.goal_of h)) (alternatives_among T gs) (subst (λ (k : Name). IsIn m (alternatives_of (T.goal_of k))) e (row_alternative T g m x))
in_among T g m (h ∷ gs) (inr i) x = IsIn-right m (alternatives_of (T.goal_of h)) (alternatives_among T gs) (in_among T g m gs i x)

-- a box is directly in another by one of its goals
abbrev pub IsBoxIn : Table → Name → Name → Type 0
IsBoxIn T h m = (g : Name) × IsDirectlyIn T h g × IsAlternativeOf T g m

pub in_box : (T : Table) (h m : Name) → IsIn m (boxes_directly_in T h) → IsBoxIn T h m
in_box T h m i = on (T.box_of h) refl i
  where
    on : (o : Option BoxRow) → T.box_of h ≡ o → IsIn m (boxes_in_row T o) → IsBoxIn T h m
    on None e j = absurd j
    on (Some r) e j = let w : (g : Name) × IsIn g r.goals × IsAlternativeOf T g m = among_in T m r.goals j in (w.0, record { row = r; there = e; named = w.1 }, w.2)

pub box_in : (T : Table) (h m : Name) → IsBoxIn T h m → IsIn m (boxes_directly_in T h)
box_in T h m w = subst (IsIn m) (sym (ap (boxes_in_row T) w.1.there)) (in_among T w.0 m w.1.row.goals w.1.named w.2)

-- the alternatives among goals are counted in these
among_counted : (T : Table) (m : Name) (gs : Goals) → ((g : Name) → times_inside g gs ≤ 1) → ((g : Name) (h : Held) → held_in g gs ≡ Some h → alternatives_of (T.goal_of g) ≡ alternatives_in (shape_of h))
    → times_in m (alternatives_among T (goal_names gs)) ≤ times_inside m gs
among_counted T m no_goals once rows = omega arith
among_counted T m (atom g a gs) once rows =
    let first : alternatives_of (T.goal_of g) ≡ [] = rows g (an_atom a) (ap (λ (t : Bool). if t then Some (an_atom a) else held_in g gs) (same_name-refl g)) in
    let parts : times_in m (alternatives_of (T.goal_of g) ++ alternatives_among T (goal_names gs)) ≡ times_in m (alternatives_of (T.goal_of g)) + times_in m (alternatives_among T (goal_names gs)) =
    times_in-append m (alternatives_of (T.goal_of g)) (alternatives_among T (goal_names gs)) in
    let none : times_in m (alternatives_of (T.goal_of g)) ≡ 0 = ap (times_in m) first in
    let rest : times_in m (alternatives_among T (goal_names gs)) ≤ times_inside m gs = among_counted T m gs
    (λ i. let o : one_if (same_name i g) + times_inside i gs ≤ 1 = once i in omega arith)
    (λ i h e. rows i h (let c : 1 ≤ times_inside i gs = held_counted i h gs e in past (same_name i g) (an_atom a) (held_in i gs) h (other i g (times_inside i gs) c (once i)) e)) in
    omega arith
among_counted T m (choice g op bs gs) once rows =
    let first : alternatives_of (T.goal_of g) ≡ box_names bs = rows g (a_choice op bs) (ap (λ (t : Bool). if t then Some (a_choice op bs) else held_in g gs) (same_name-refl g)) in
    let parts : times_in m (alternatives_of (T.goal_of g) ++ alternatives_among T (goal_names gs)) ≡ times_in m (alternatives_of (T.goal_of g)) + times_in m (alternatives_among T (goal_names gs)) =
    times_in-append m (alternatives_of (T.goal_of g)) (alternatives_among T (goal_names gs)) in
    let own : times_in m (alternatives_of (T.goal_of g)) ≡ times_in m (box_names bs) = ap (times_in m) first in
    let less : times_in m (box_names bs) ≤ times m bs = names_less m bs in
    let rest : times_in m (alternatives_among T (goal_names gs)) ≤ times_inside m gs = among_counted T m gs
    (λ i. let o : one_if (same_name i g) + (times i bs + times_inside i gs) ≤ 1 = once i in omega arith)
    (λ i h e. rows i h (
    let c : 1 ≤ times_inside i gs = held_counted i h gs e in
    let o : one_if (same_name i g) + (times i bs + times_inside i gs) ≤ 1 = once i in
    past (same_name i g) (a_choice op bs) (held_in i gs) h (other i g (times_inside i gs) c (omega arith)) e)) in
    omega arith

-- how far a walk is: of the names gathered, so many are done, the boxes directly in which are gathered too
pub record Walk (T : Table) (n : Name) (names : List Name) (at : ℕ) : Type 0 where
  pub done : List Name
  pub rest : List Name
  pub parts : names ≡ done ++ rest
  pub place : length done ≡ at
  pub has : IsIn n names
  pub once : (m : Name) → times_in m names ≤ 1
  pub inside : (m : Name) → IsIn m names → IsInside T n m
  pub closed : (h m : Name) → IsIn h done → IsIn m (boxes_directly_in T h) → IsIn m names
  pub from : (m : Name) → IsIn m names → (m ≡ n) ⊎ ((h : Name) × IsIn h done × IsIn m (boxes_directly_in T h))

pub first_walk : (T : Table) (n : Name) → Walk T n (n ∷ []) 0
first_walk T n = record {
  done = [];
  rest = n ∷ [];
  parts = refl;
  place = refl;
  has = inl refl;
  once = λ m. at_most (same_name m n);
  inside = λ m i. elim i [ inl e ↦ subst (IsInside T n) (sym e) itself | inr z ↦ absurd z ];
  closed = λ h m i j. absurd i;
  from = λ m i. elim i [ inl e ↦ inl e | inr z ↦ absurd z ];
}
  where
    at_most : (t : Bool) → one_if t + 0 ≤ 1
    at_most true = omega arith
    at_most false = omega arith

-- once all are done, the walk is
pub last_walk : (T : Table) (n : Name) (names : List Name) (at : ℕ) → length names ≤ at → Walk T n names at → ListsInside T n names
last_walk T n names at l w = record { once = w.once; inside = w.inside; each = each }
  where
    all_done : (rest : List Name) → w.rest ≡ rest → names ≡ w.done
    all_done [] e = w.parts ∙ ap (λ (r : List Name). w.done ++ r) e ∙ append-nil w.done
    all_done (x ∷ rest) e =
        let i : length names ≡ length (w.done ++ x ∷ rest) = ap length (w.parts ∙ ap (λ (r : List Name). w.done ++ r) e) in
        let j : length (w.done ++ x ∷ rest) ≡ length w.done + length (x ∷ rest) = length-append w.done (x ∷ rest) in
        let k : length w.done ≡ at = w.place in
        absurd (omega arith)

    each : (m : Name) → IsInside T n m → IsIn m names
    each m itself = w.has
    each a (further {m = m} {g = g} x d y) = w.closed m a (subst (IsIn m) (all_done w.rest refl) (each m x)) (box_in T m a (g, d, y))

at_middle : (xs ys : List Name) (y z : Name) (at : ℕ) → length xs ≡ at → z ≡ get_or (xs ++ y ∷ ys) at z → y ≡ z
at_middle [] ys y z zero l e = sym e
at_middle [] ys y z (suc at) l e = absurd (omega arith)
at_middle (x ∷ xs) ys y z zero l e = absurd (omega arith)
at_middle (x ∷ xs) ys y z (suc at) l e = at_middle xs ys y z at (omega arith) e

-- no box stands twice inside a box, nor this inside itself; and each has its row, but for the box itself where that isn't there
pub record IsNested (T : Table) (n : Name) : Type 0 where
  pub boxes_once : (h : Name) → IsInside T n h → (m : Name) → times_in m (boxes_directly_in T h) ≤ 1
  pub one_outer : (h k m : Name) → IsInside T n h → IsInside T n k → IsIn m (boxes_directly_in T h) → IsIn m (boxes_directly_in T k) → h ≡ k
  pub not_first : (h : Name) → IsInside T n h → IsIn n (boxes_directly_in T h) → ⊥
  pub there : ((h : Name) → IsInside T n h → h ≡ n) ⊎ ((h : Name) → IsInside T n h → (r : BoxRow) × (T.box_of h ≡ Some r))

module _ (T : Table) (c : Config) (u : Unfolds T c) (once : (m : Name) → times m c.roots ≤ 1) (n : Name) (e : Found) (there : box_at n c.roots ≡ Some e) where
  -- a box directly in another is found in it, and held by the goal
  record Within (h m g : Name) : Type 0 where
    outer : Found
    is_outer : box_at h c.roots ≡ Some outer
    is_home : home_of g c.roots ≡ Some outer
    inner : IsAlternativeAt m g outer c.roots

  within : (h m : Name) → IsInside T n h → (w : IsBoxIn T h m) → Within h m w.0
  within h m i w =
      let v : IsUnder T c u once n h = under T c u once n h e there i in
      let k : (x : Held) × (held_in w.0 v.found.goals ≡ Some x) = held_directly T c u once h w.0 v.found v.is_found w.1 in
      let at : home_of w.0 c.roots ≡ Some v.found = home_found c.roots once w.0 h v.found k.0 v.is_found k.1 in
      let a : (op : Operator) × (bs : Boxes) × (held_in w.0 v.found.goals ≡ Some (a_choice op bs)) × IsIn m (box_names bs) = held_alternative T c u once w.0 m v.found k.0 at k.1 w.2 in
      record { outer = v.found; is_outer = v.is_found; is_home = at; inner = alternative_at c.roots once m w.0 v.found a.0 a.1 at a.2 a.3 }

  -- a box is directly in one other
  one_outer : (h k m : Name) → IsInside T n h → IsInside T n k → IsIn m (boxes_directly_in T h) → IsIn m (boxes_directly_in T k) → h ≡ k
  one_outer h k m i j x y =
      let v : IsBoxIn T h m = in_box T h m x in
      let w : IsBoxIn T k m = in_box T k m y in
      let p : Within h m v.0 = within h m i v in
      let q : Within k m w.0 = within k m j w in
      let goal : v.0 ≡ w.0 = some_value (sym p.inner.holder ∙ q.inner.holder) in
      let same : p.outer ≡ q.outer = some_value (sym p.is_home ∙ ap (λ (g : Name). home_of g c.roots) goal ∙ q.is_home) in
      box-itself h c.roots p.outer p.is_outer ∙ ap (λ (f : Found). f.content.name) same ∙ sym (box-itself k c.roots q.outer q.is_outer)

  -- the first box is directly in none that is inside it
  not_first : (h : Name) → IsInside T n h → IsIn n (boxes_directly_in T h) → ⊥
  not_first h i x = named_path n e.around none around
    where
      v : IsBoxIn T h n
      v = in_box T h n x

      p : Within h n v.0
      p = within h n i v

      w : IsUnder T c u once n h
      w = under T c u once n h e there i

      path : e.around ≡ p.outer.around ++ p.outer.content ∷ []
      path = ap (λ (f : Found). f.around) (some_value (sym there ∙ p.inner.is_found)) ∙ p.inner.around

      named : IsIn n (names_down_to p.outer)
      named = subst (λ (f : Found). IsIn n (names_down_to f)) (some_value (sym w.is_found ∙ p.is_outer)) w.named

      around : IsIn n (names_around e)
      around = subst (IsIn n) (sym (ap (λ (r : List Content). names_around (record e { around = r })) path ∙ names_snoc p.outer.around p.outer.content)) named

      none : times_path n e.around ≡ 0
      none =
          let a : times n (box e.content e.goals no_boxes) + times_path n e.around ≤ times n c.roots = in_counted n e.around e.content e.goals c.roots (found_in n c.roots e there) in
          let o : times n c.roots ≤ 1 = once n in
          let k : one_if (same_name n e.content.name) ≡ 1 = ap one_if (subst (λ (m : Name). same_name n m ≡ true) (box-itself n c.roots e there) (same_name-refl n)) in
          omega (arith, a, o, k)

  -- each box directly in a box is so by one goal
  boxes_once : (h : Name) → IsInside T n h → (m : Name) → times_in m (boxes_directly_in T h) ≤ 1
  boxes_once h i m =
      let v : IsUnder T c u once n h = under T c u once n h e there i in
      let r : (r : BoxRow) × (T.box_of h ≡ Some r) × IsBoxRow T c.roots v.found r = row_of T c u h v.found v.is_found in
      let few : (g : Name) → times_inside g v.found.goals ≤ 1 = goals_once c.roots once v.found (found_in h c.roots v.found v.is_found) in
      let all : times_in m (alternatives_among T (goal_names v.found.goals)) ≤ times_inside m v.found.goals = among_counted T m v.found.goals few (λ g k x.
      let w : (r : GoalRow) × (T.goal_of g ≡ Some r) × (r.home ≡ v.found.content.name) × (r.shape ≡ shape_of k) = goal_row T c u once g v.found k (home_found c.roots once g h v.found k v.is_found x) x in
      ap alternatives_of w.1 ∙ ap alternatives_in w.3) in
      let one : times_inside m v.found.goals ≤ 1 = few m in
      let same : times_in m (boxes_directly_in T h) ≡ times_in m (alternatives_among T (goal_names v.found.goals)) = ap (times_in m) (ap (boxes_in_row T) r.1 ∙ ap (alternatives_among T) r.2.goals) in
      omega (arith, all, one, same)

  there_inside : (h : Name) → IsInside T n h → (r : BoxRow) × (T.box_of h ≡ Some r)
  there_inside h i =
      let v : IsUnder T c u once n h = under T c u once n h e there i in
      let r : (r : BoxRow) × (T.box_of h ≡ Some r) × IsBoxRow T c.roots v.found r = row_of T c u h v.found v.is_found in
      (r.0, r.1)

  nested_there : IsNested T n
  nested_there = record { boxes_once = boxes_once; one_outer = one_outer; not_first = not_first; there = inr there_inside }

-- where the box isn't there, nothing is inside it
nested_none : (T : Table) (n : Name) → T.box_of n ≡ None → IsNested T n
nested_none T n z = record {
  boxes_once = λ h i m. subst (λ (ns : List Name). times_in m ns ≤ 1) (sym (none h i)) (omega arith);
  one_outer = λ h k m i j x y. absurd (subst (IsIn m) (none h i) x);
  not_first = λ h i x. subst (IsIn n) (none h i) x;
  there = inl alone;
}
  where
    alone : (h : Name) → IsInside T n h → h ≡ n
    alone h itself = refl
    alone a (further {m = m} {g = g} x d y) = let q : T.box_of m ≡ None = ap T.box_of (alone m x) ∙ z in let k : T.box_of m ≡ Some d.row = d.there in absurd cc

    none : (h : Name) → IsInside T n h → boxes_directly_in T h ≡ []
    none h i = ap (boxes_in_row T) (ap T.box_of (alone h i) ∙ z)

-- in a table of a run
pub nested : (rules : List Rule) (r : Run) (T : Table) → IsTableOf rules r T → (n : Name) → IsNested T n
nested rules r T t n = on (T.box_of n) refl
  where
    on : (o : Option BoxRow) → T.box_of n ≡ o → IsNested T n
    on None e = nested_none T n e
    on (Some row) e =
        let w : (f : Found) × (box_at n t.config.roots ≡ Some f) × IsBoxRow T t.config.roots f row = found_of T t.config t.unfolds n row e in
        nested_there T t.config t.unfolds (replay-stands rules r.program r.query r.journal t.config t.replays).once n w.0 w.1

all_one : (n : Name) (names : List Name) → ((m : Name) → times_in m names ≤ 1) → ((m : Name) → IsIn m names → m ≡ n) → length names ≤ 1
all_one n [] once h = omega arith
all_one n (m ∷ []) once h = omega arith
all_one n (m ∷ k ∷ names) once h =
    let a : one_if (same_name m m) ≡ 1 = ap one_if (same_name-refl m) in
    let e : m ≡ k = h m (inl refl) ∙ sym (h k (inr (inl refl))) in
    let b : one_if (same_name m k) ≡ 1 = ap one_if (subst (λ (x : Name). same_name m x ≡ true) e (same_name-refl m)) in
    let o : times_in m (m ∷ k ∷ names) ≤ 1 = once m in
    absurd (omega (arith, a, b, o))

-- no more names are gathered than the table has boxes, and one
pub few_gathered : {X : Type 0} (T : Table) (n : Name) (es : List (Name × X)) (names : List Name) (at : ℕ) → IsNested T n → ((m : Name) (r : BoxRow) → T.box_of m ≡ Some r → IsSome (lookup (same_name m) es))
    → Walk T n names at → length names ≤ length es + 1
few_gathered T n es names at k keys w = elim k.there [
  | inl h ↦ (let l : length names ≤ 1 = all_one n names w.once (λ m i. h m (w.inside m i)) in omega arith)
  | inr h ↦ (let l : length names ≤ length es = no_more names es w.once (λ m i. let r : (r : BoxRow) × (T.box_of m ≡ Some r) = h m (w.inside m i) in keys m r.0 r.1) in omega arith)
]

-- one step: the next name is done
pub next_walk : (T : Table) (n : Name) → IsNested T n → (names : List Name) (at : ℕ) (here : Name) → here ≡ get_or names at here → at < length names → Walk T n names at → Walk T n (names ++ boxes_directly_in T here) (at + 1)
next_walk T n nest names at here is_here l w = on w.rest refl
  where
    on : (rest : List Name) → w.rest ≡ rest → Walk T n (names ++ boxes_directly_in T here) (at + 1)
    on [] q =
        let i : length names ≡ length (w.done ++ []) = ap length (w.parts ∙ ap (λ (r : List Name). w.done ++ r) q) in
        let j : length (w.done ++ []) ≡ length w.done + 0 = length-append w.done [] in
        let k : length w.done ≡ at = w.place in
        absurd (omega arith)
    on (x ∷ rest) q = record {
      done = w.done ++ x ∷ [];
      rest = rest ++ boxes_directly_in T here;
      parts = ap (λ (ns : List Name). ns ++ boxes_directly_in T here) (parts ∙ sym (append_assoc w.done (x ∷ []) rest)) ∙ append_assoc (w.done ++ x ∷ []) rest (boxes_directly_in T here);
      place = let i : length (w.done ++ x ∷ []) ≡ length w.done + 1 = length-append w.done (x ∷ []) in let k : length w.done ≡ at = w.place in omega arith;
      has = IsIn-left n names (boxes_directly_in T here) w.has;
      once = each_once;
      inside = λ m i. elim (IsIn-either m names (boxes_directly_in T here) i) [
        | inl j ↦ w.inside m j
        | inr j ↦ (let v : IsBoxIn T here m = in_box T here m j in further inside_here v.1 v.2)
      ];
      closed = λ h m i j. elim (IsIn-either h w.done (x ∷ []) i) [
        | inl k ↦ IsIn-left m names (boxes_directly_in T here) (w.closed h m k j)
        | inr k ↦ elim k [
          | inl y ↦ IsIn-right m names (boxes_directly_in T here) (subst (λ (z : Name). IsIn m (boxes_directly_in T z)) (y ∙ is_x) j)
          | inr z ↦ absurd z
        ]
      ];
      from = λ m i. elim (IsIn-either m names (boxes_directly_in T here) i) [
        | inl j ↦ elim (w.from m j) [ inl y ↦ inl y | inr y ↦ inr (y.0, IsIn-left y.0 w.done (x ∷ []) y.1, y.2) ]
        | inr j ↦ inr (here, IsIn-right here w.done (x ∷ []) (inl (sym is_x)), j)
      ];
    }
      where
        parts : names ≡ w.done ++ x ∷ rest
        parts = w.parts ∙ ap (λ (r : List Name). w.done ++ r) q

        is_x : x ≡ here
        is_x = at_middle w.done rest x here at w.place (subst (λ (ns : List Name). here ≡ get_or ns at here) parts is_here)

        inside_here : IsInside T n here
        inside_here = w.inside here (subst (IsIn here) (sym parts) (IsIn-right here w.done (x ∷ rest) (inl (sym is_x))))

        -- it wasn't done before
        not_done : IsIn here w.done → ⊥
        not_done i =
            let a : 0 < times_in here w.done = counted_in here w.done i in
            let b : 0 < times_in here (x ∷ rest) = counted_in here (x ∷ rest) (inl (sym is_x)) in
            let d : times_in here names ≡ times_in here (w.done ++ x ∷ rest) = ap (times_in here) parts in
            let f : times_in here (w.done ++ x ∷ rest) ≡ times_in here w.done + times_in here (x ∷ rest) = times_in-append here w.done (x ∷ rest) in
            let o : times_in here names ≤ 1 = w.once here in
            omega (arith, a, b, d, f, o)

        -- so what is directly in it wasn't gathered
        apart : (m : Name) → IsIn m names → IsIn m (boxes_directly_in T here) → ⊥
        apart m i j = elim (w.from m i) [
          | inl y ↦ nest.not_first here inside_here (subst (λ (z : Name). IsIn z (boxes_directly_in T here)) y j)
          | inr y ↦
              let outer : IsInside T n y.0 = w.inside y.0 (subst (IsIn y.0) (sym w.parts) (IsIn-left y.0 w.done w.rest y.1)) in
              not_done (subst (λ (z : Name). IsIn z w.done) (nest.one_outer y.0 here m outer inside_here y.2 j) y.1)
        ]

        each_once : (m : Name) → times_in m (names ++ boxes_directly_in T here) ≤ 1
        each_once m =
            let parts : times_in m (names ++ boxes_directly_in T here) ≡ times_in m names + times_in m (boxes_directly_in T here) = times_in-append m names (boxes_directly_in T here) in
            by (times_in m names) (times_in m (boxes_directly_in T here)) refl refl (w.once m) (nest.boxes_once here inside_here m) parts
          where
            by : (a b : ℕ) → times_in m names ≡ a → times_in m (boxes_directly_in T here) ≡ b → times_in m names ≤ 1 → times_in m (boxes_directly_in T here) ≤ 1
                → times_in m (names ++ boxes_directly_in T here) ≡ times_in m names + times_in m (boxes_directly_in T here) → times_in m (names ++ boxes_directly_in T here) ≤ 1
            by zero b i j o k parts = omega arith
            by (suc a) zero i j o k parts = omega arith
            by (suc a) (suc b) i j o k parts = absurd (apart m (named_counted m names (omega arith)) (named_counted m (boxes_directly_in T here) (omega arith)))

-- a goal inside a box is directly in one that is listed
pub goal_listed : (T : Table) (n g : Name) (names : List Name) → ListsInside T n names → IsGoalInside T n g → (m : Name) × IsIn m names × IsDirectlyIn T m g
goal_listed T n g names w x = (x.box, w.each x.box x.inside, x.goal)

pub listed_goal : (T : Table) (n g m : Name) (names : List Name) → ListsInside T n names → IsIn m names → IsDirectlyIn T m g → IsGoalInside T n g
listed_goal T n g m names w i d = record { box = m; inside = w.inside m i; goal = d }
